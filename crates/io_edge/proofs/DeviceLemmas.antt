-- Calls of a sink or of inputs, one after another, joined to one.
use Rattle.std.proofs.Common.{◌+◌, ◌≤◌, ℕ, List, ◌++◌, length, take, Result, Ok, Err, Option, refl, sym, subst, ◌∙◌, arith, length-append}
use Rattle.std.specs.Io.KnownBytes.{Appends}
use Rattle.std.proofs.KnownBytes.{Appends-trans}
use Rattle.std.proofs.Math.Seq.{take-append-add}
use Rattle.std.proofs.lemmas.List.{take-append-le}
use Rattle.faults.specs.Counts.{HasCause, Rose}
use Rattle.io_edge.specs.Devices.{Takes, AppendsPrefix}
use Rattle.io_edge.specs.declared.devices.Inputs as inputs
use Rattle.io_edge.specs.View.{KeepsInputs}

-- a prefix of the first piece is one of both
pub AppendsPrefix-more : (a b : Option (List ℕ)) (first next : List ℕ) → AppendsPrefix a b first → AppendsPrefix a b (first ++ next)
AppendsPrefix-more a b first next p =
    let within = p.1 in
    (p.0, omega (arith, p.1, length-append first next), subst (λ (l : List ℕ). Appends a b l) (sym (take-append-le p.0 first next within)) p.2)

-- a piece more, after one that was taken
pub takes_more : {T E : Type 0} (a b c : Option (List ℕ)) (r : Result T E) (first next : List ℕ) → Appends a b first → Takes b c r next → Takes a c r (first ++ next)
takes_more a b c (Ok _) first next p q = Appends-trans a b c first next p q
takes_more a b c (Err _) first next p q =
    (length first + q.0, omega (arith, q.1, length-append first next), subst (λ (l : List ℕ). Appends a c l) (sym (take-append-add first next q.0)) (Appends-trans a b c first (take q.0 next) p q.2))

-- a call, after one that failed or didn't
pub HasCause-then : {T E U F : Type 0} (a b c : ℕ) (first : Result T E) (second : Result U F) → HasCause a b first → HasCause b c second → HasCause a c second
HasCause-then a b c first (Ok _) p q = record { later = omega (arith, p.later, q.later); failed = tt }
HasCause-then a b c first (Err _) p q = record { later = omega (arith, p.later, q.later); failed = omega (arith, p.later, q.failed) }

-- inputs that no call has read yet, and a call more
pub keeps_same : {I : Type 0} {i : inputs.Ghosts I} {old : I} → KeepsInputs i old old
keeps_same = record { kept = refl; others = λ other. omega arith }

pub keeps_then : {I : Type 0} {i : inputs.Ghosts I} {old mid new : I} → KeepsInputs i old mid → KeepsInputs i mid new → KeepsInputs i old new
keeps_then a b = record { kept = b.kept ∙ a.kept; others = λ other. omega (arith, a.others other, b.others other) }

-- a count that rose later rose since before
pub Rose-later : (a b c : ℕ) → a ≤ b → Rose b c → Rose a c
Rose-later a b c l r = omega arith

-- a count that rose, and fell no more
pub Rose-still : (a b c : ℕ) → Rose a b → b ≤ c → Rose a c
Rose-still a b c r l = omega arith
