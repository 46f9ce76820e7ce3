-- Where the bytes of a text stand.
use Rattle.std.specs.Prelude.{ℕ, ◌+◌, ◌==◌, List, [], ◌∷◌, if◌then◌else◌}
use Rattle.c_lexer.specs.declared.place.Place.{Place}

-- the place of a text's first byte: lines and columns count from 1
abbrev pub start : Place
start = record { at = 0; line = 1; column = 1 }

-- the place behind a byte: a line feed ends its line
abbrev pub behind_byte : ℕ → Place → Place
behind_byte b place =
    if b == 10 then record { at = place.at + 1; line = place.line + 1; column = 1 }
    else record { at = place.at + 1; line = place.line; column = place.column + 1 }

-- the place behind some bytes
abbrev pub behind : List ℕ → Place → Place
behind [] place = place
behind (b ∷ bs) place = behind bs (behind_byte b place)
