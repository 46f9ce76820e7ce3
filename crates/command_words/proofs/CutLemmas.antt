-- Words that are cut one by one.
use Rattle.std.proofs.Common.{◌≡◌, Option, Some, None, refl}
use Rattle.command_words.specs.CutWords.{Cut, behind, nothing}

pub behind_nothing : (o : Option Cut) → behind nothing o ≡ o
behind_nothing None = refl
behind_nothing (Some c) = refl
