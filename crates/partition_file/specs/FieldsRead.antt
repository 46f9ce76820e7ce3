-- Reading a partition file field by field, from left to right: the edges, and the first field that breaks its rule.
use Rattle.std.specs.Prelude.{ℕ, zero, suc, ◌+◌, ◌-◌, ◌^◌, Bool, true, not, nat_lt, ◌==◌, ◌&&◌, ◌||◌, if◌then◌else◌}
use Rattle.std.specs.Prelude.{List, [], ◌∷◌, length, drop, Option, Some, None, codes}
use Rattle.byteorder.specs.Endian.{little_number}
use Rattle.group_number.specs.declared.reading.NumberRead.{NumberRead}
use Rattle.group_number.specs.declared.reading.NumberRead.TheVariants as numbers
use Rattle.group_number.specs.Groups.{group_at}
use Rattle.graph_words.specs.declared.types.Edge.{Edge}
use Rattle.graph_words.specs.declared.types.Born.{Born}
use Rattle.faults.specs.declared.form_kind.FormKind.{FormKind}
use Rattle.faults.specs.declared.form_kind.FormKind.TheVariants.{BadMagic, Short, Extra, BadNumber, BadLabel, BadBounds, BadOrder, BadVertex, BadBirth}
use Rattle.partition_file.specs.declared.types.Expect.{Expect}
use Rattle.partition_file.specs.declared.types.PartFault.{PartFault}
use Rattle.partition_file.specs.declared.types.Format.{Format}
use Rattle.partition_file.specs.declared.types.Format.TheVariants.{First, Second}

-- the edges that bytes give, and the fault that ends them where there is one
pub record Found : Type 0 where
  pub edges : List Born
  pub fault : Option PartFault

-- no field is left
abbrev pub complete : Found
complete = record { edges = []; fault = None }

-- no edge, and the fault
abbrev pub ends_with : PartFault → Found
ends_with f = record { edges = []; fault = Some f }

-- the field at the place breaks its rule
abbrev pub stop : ℕ → FormKind → Found
stop place kind = ends_with (record { place = place; kind = kind })

-- an edge in front of what else is found
abbrev pub then_found : Born → Found → Found
then_found b f = record { edges = b ∷ f.edges; fault = f.fault }

-- what stands behind a field: it begins at a place, and has these bytes
abbrev pub Behind : Type 0
Behind = ℕ → List ℕ → Found

-- the number of w bytes that begins these bytes, its low byte first
abbrev pub little_at : ℕ → List ℕ → NumberRead
little_at w bytes = if nat_lt (length bytes) w then numbers.Short else numbers.Number (little_number w bytes) w

-- the number that begins these bytes: of w bytes in format 1, in groups of 7 bits in format 2
abbrev pub number_in : Format → ℕ → List ℕ → NumberRead
number_in First w bytes = little_at w bytes
number_in Second w bytes = group_at bytes

-- what a number leads to, by what was read of it at the place
abbrev pub number_leads : NumberRead → ℕ → List ℕ → (ℕ → Behind) → Found
number_leads numbers.Short place bytes next = stop place Short
number_leads numbers.Bad place bytes next = stop place BadNumber
number_leads (numbers.Number n len) place bytes next = next n (place + len) (drop len bytes)

-- a field that is a number, and then what the number leads to
abbrev pub number : Format → ℕ → ℕ → List ℕ → (ℕ → Behind) → Found
number f w place bytes next = number_leads (number_in f w bytes) place bytes next

-- a rule of the field at the place
abbrev pub need : Bool → ℕ → FormKind → Found → Found
need ok place kind next = if ok then next else stop place kind

-- the edge from the vertex u with the label a to the vertex v
abbrev pub edge : ℕ → ℕ → ℕ → Edge
edge u a v = record { src = record { 0 = u }; label = record { 0 = a }; dst = record { 0 = v } }

-- the edge, born in this round
abbrev pub born : Edge → ℕ → Born
born e birth = record { edge = e; birth = birth }

-- a label with a name, or a fresh one. It has a number of 2 bytes.
abbrev pub is_known : Expect → ℕ → Bool
is_known e label =
    nat_lt label (2 ^ 16) && (nat_lt label e.named || (not (nat_lt label 1000) && nat_lt label (1000 + e.fresh)))

-- label and destination stand above those of the edge before
abbrev pub is_above : Option Edge → ℕ → ℕ → Bool
is_above None label dst = true
is_above (Some b) label dst = nat_lt b.label.0 label || (b.label.0 == label && nat_lt b.dst.0 dst)

-- the label of an edge: its number, in format 2 added to the label of the edge before it in the row
abbrev pub label_of : Format → Option Edge → ℕ → ℕ
label_of First before n = n
label_of Second None n = n
label_of Second (Some b) n = b.label.0 + n

-- the destination of an edge: its number, in format 2 counted from behind that of the edge before where the label is the same
abbrev pub destination_of : Format → Option Edge → ℕ → ℕ → ℕ
destination_of First before label n = n
destination_of Second None label n = n
destination_of Second (Some b) label n = if b.label.0 == label then b.dst.0 + 1 + n else n

-- ---- the rows, the last field first. Each field is read, then its rules are asked, then what stands behind it is read.

-- behind the birth, which is below the round
unfoldable pub birth_then : Expect → ℕ → (ℕ → Behind) → ℕ → Behind
birth_then e place next birth after rest = need (nat_lt birth e.round) place BadBirth (next birth after rest)

-- the birth, in format 1 in 8 bytes
unfoldable pub birth_at : Expect → Format → (ℕ → Behind) → Behind
birth_at e f next place bytes = number f 8 place bytes (birth_then e place next)

-- behind the number of a destination, which is a vertex and, with the label, stands above the edge before
unfoldable pub destination_then : Expect → Format → Option Edge → ℕ → ℕ → (ℕ → Behind) → ℕ → Behind
destination_then e f before label place next n after rest =
    need (nat_lt (destination_of f before label n) e.vertices) place BadVertex
    (need (is_above before label (destination_of f before label n)) place BadOrder (next (destination_of f before label n) after rest))

-- the destination, in format 1 in 4 bytes
unfoldable pub destination_at : Expect → Format → Option Edge → ℕ → (ℕ → Behind) → Behind
destination_at e f before label next place bytes = number f 4 place bytes (destination_then e f before label place next)

-- behind the number of a label, which has a name or is a fresh one
unfoldable pub label_then : Expect → Format → Option Edge → ℕ → (ℕ → Behind) → ℕ → Behind
label_then e f before place next n after rest =
    need (is_known e (label_of f before n)) place BadLabel (next (label_of f before n) after rest)

-- the label, in format 1 in 2 bytes
unfoldable pub label_at : Expect → Format → Option Edge → (ℕ → Behind) → Behind
label_at e f before next place bytes = number f 2 place bytes (label_then e f before place next)

-- an edge of the vertex v, behind the edge before it in the row: its label, its destination and its birth
abbrev pub edge_at : Expect → Format → ℕ → Option Edge → (Born → Behind) → Behind
edge_at e f v before next =
    label_at e f before (λ label. destination_at e f before label (λ dst. birth_at e f (λ birth. next (born (edge v label dst) birth))))

-- the edges of a row that are left, and then what stands behind the row
unfoldable pub row_at : Expect → Format → ℕ → ℕ → Option Edge → Behind → Behind
row_at e f v zero before next place bytes = next place bytes
row_at e f v (suc n) before next place bytes = edge_at e f v before
    (λ b after rest. then_found b (row_at e f v n (Some b.edge) next after rest)) place bytes

-- behind the number of edges of a row, which has no rule but that so many follow
unfoldable pub count_then : Expect → Format → ℕ → Behind → ℕ → Behind
count_then e f v next count after rest = row_at e f v count None next after rest

-- the row of the vertex v. The number of its edges comes first, in format 1 in 8 bytes.
unfoldable pub count_at : Expect → Format → ℕ → Behind → Behind
count_at e f v next place bytes = number f 8 place bytes (count_then e f v next)

-- behind the last field no byte comes
unfoldable pub end_at : Behind
end_at place [] = complete
end_at place (b ∷ bytes) = stop place Extra

-- the rows of n vertices, from v on
unfoldable pub rows_at : Expect → Format → ℕ → ℕ → Behind
rows_at e f zero v place bytes = end_at place bytes
rows_at e f (suc n) v place bytes = count_at e f v (rows_at e f n (v + 1)) place bytes

-- ---- the head, the same in each format

-- the magic of a format, as a number
abbrev pub magic_number : Format → ℕ
magic_number First = little_number 4 (codes "GSP1")
magic_number Second = little_number 4 (codes "GSP2")

-- the format that has the magic
abbrev pub format_of : ℕ → Option Format
format_of magic =
    if magic == magic_number First then Some First else
    if magic == magic_number Second then Some Second else None

-- behind the high bound, which is that of the interval
unfoldable pub high_then : Expect → Format → ℕ → ℕ → Behind
high_then e f place high after rest = need (high == e.hi) place BadBounds (rows_at e f (e.hi - e.lo) e.lo after rest)

-- the vertex behind the interval, in 4 bytes
unfoldable pub high_at : Expect → Format → Behind
high_at e f place bytes = number First 4 place bytes (high_then e f place)

-- behind the low bound, which is that of the interval
unfoldable pub low_then : Expect → Format → ℕ → ℕ → Behind
low_then e f place low after rest = need (low == e.lo) place BadBounds (high_at e f after rest)

-- the first vertex of the interval, in 4 bytes
unfoldable pub low_at : Expect → Format → Behind
low_at e f place bytes = number First 4 place bytes (low_then e f place)

-- a file begins with the magic of its format
abbrev pub in_format : Expect → ℕ → Option Format → Behind
in_format e place None after rest = stop place BadMagic
in_format e place (Some f) after rest = low_at e f after rest

-- behind the magic
unfoldable pub magic_then : Expect → ℕ → ℕ → Behind
magic_then e place magic after rest = in_format e place (format_of magic) after rest

-- the magic, in 4 bytes
unfoldable pub magic_at : Expect → Behind
magic_at e place bytes = number First 4 place bytes (magic_then e place)

-- what the bytes of a partition file give: its edges, and the first field that breaks its rule
abbrev pub reading : Expect → List ℕ → Found
reading e bytes = magic_at e 0 bytes
