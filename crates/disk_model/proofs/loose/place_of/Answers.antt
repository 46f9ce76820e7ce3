use Rattle.std.proofs.Common.{◌≡◌, ◌≤◌, ℕ, Bool, true, false, cond, nat_lt, Some, None, List, length, refl, sym, arith}
use Rattle.std.specs.Option.{unwrap_or}
use Rattle.std.specs.List.{position, position_or_len}
use Rattle.std.proofs.lemmas.Bool.Decides.{nat_tests}
use Rattle.std.proofs.lemmas.List.Sums.{prefix_len-le-length}
use Rattle.disk_model.specs.Memory.{is_of}
use Rattle.disk_model.specs.declared.loose.Loose.{Loose}
use Rattle.disk_model.proofs.loose.place_of.Goals as goal

choice : (b : Bool) (a n : ℕ) → (b ≡ false → a ≡ n) → unwrap_or (cond b (Some a) None) n ≡ a
choice true a n h = refl
choice false a n h = sym (h refl)

not_less : (a n : ℕ) → a ≤ n → nat_lt a n ≡ false → a ≡ n
not_less a n le no_less = grind (arith, nat_tests)

found : (p : Loose → Bool) (xs : List Loose) → unwrap_or (position p xs) (length xs) ≡ position_or_len p xs
found p xs =
    choice (nat_lt (position_or_len p xs) (length xs)) (position_or_len p xs) (length xs)
    (not_less (position_or_len p xs) (length xs) (prefix_len-le-length _ xs))

pub returns : goal.returns
returns c = let e = found (is_of c.args.file) c.args.loose.now in cc (c.find_place.ensures, c.unwrap_or.ensures)
