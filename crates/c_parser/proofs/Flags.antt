-- Refusals of what is written in one of two ways, and what counts within a room.
use Rattle.std.proofs.Common.{◌≡◌, refl, sym, subst, ℕ, ◌≤◌, Bool}
use Rattle.std.specs.Prelude.{Result, Ok, Err, IsErrAnd}
use Rattle.c_tree.specs.declared.fault.Wrong.{Wrong}
use Rattle.c_tree.specs.declared.fault.Wrong.TheVariants.{Unexpected, TooDeep}
use Rattle.c_tree.specs.declared.fault.ReadFault.{ReadFault}
use Rattle.c_tree.specs.declared.fault.ReadFault.TheVariants as fault
use Rattle.c_tree.specs.Said.{Said}
use Rattle.c_tree.specs.Tokens.{Source}
use Rattle.c_tree.specs.Reading.{Counts, RefusesAt, Answers}
use Rattle.c_tree.proofs.Handed.{handed_on}
use Rattle.c_parser.specs.Flagged.{AnswersFlagged}

pub counts_within : (why : Wrong) (room levels : ℕ) → levels ≤ room → Counts why room levels
counts_within Unexpected room levels h = tt
counts_within TooDeep room levels h = h

-- a refusal doesn't ask which way it would have been
flagged_fault : {T : Type 0} (said : Bool × T → Said) (s : Source) (at room : ℕ) (e : ReadFault) → Answers said s at room (Err e) → AnswersFlagged said s at room (Err e)
flagged_fault said s at room (fault.At token why) a = a
flagged_fault said s at room fault.NoMemory a = tt

plain_fault : {T : Type 0} (said : Bool × T → Said) (s : Source) (at room : ℕ) (e : ReadFault) → AnswersFlagged said s at room (Err e) → Answers said s at room (Err e)
plain_fault said s at room (fault.At token why) a = a
plain_fault said s at room fault.NoMemory a = tt

-- what a part refuses, the whole refuses there
pub flagged_on : {A B : Type 0} (sa : A → Said) (sb : Bool × B → Said) (s : Source) (at room at' room' : ℕ) → ((token : ℕ) (why : Wrong) → RefusesAt sa s at room token why → RefusesAt sb s at' room' token why) → (e : ReadFault) → Answers sa s at room (Err e) → (r : Result (B × ℕ) ReadFault) → IsErrAnd r (λ x. x ≡ e) → AnswersFlagged sb s at' room' r
flagged_on sa sb s at room at' room' f e a (Ok x) is = absurd is
flagged_on sa sb s at room at' room' f e a (Err x) is = subst (λ x. AnswersFlagged sb s at' room' (Err x)) (sym is) (flagged_fault sb s at' room' e (handed_on sa sb s at room at' room' f e a (Err e) refl))

-- the same, of a part that is itself written in one of two ways
pub flagged_both : {A B : Type 0} (sa : Bool × A → Said) (sb : Bool × B → Said) (s : Source) (at room at' room' : ℕ) → ((token : ℕ) (why : Wrong) → RefusesAt sa s at room token why → RefusesAt sb s at' room' token why) → (e : ReadFault) → AnswersFlagged sa s at room (Err e) → (r : Result (B × ℕ) ReadFault) → IsErrAnd r (λ x. x ≡ e) → AnswersFlagged sb s at' room' r
flagged_both sa sb s at room at' room' f e a r is = flagged_on sa sb s at room at' room' f e (plain_fault sa s at room e a) r is

pub flagged_refused : {B : Type 0} (sb : Bool × B → Said) (s : Source) (at room token : ℕ) (why : Wrong) → RefusesAt sb s at room token why → (e : ReadFault) → e ≡ fault.At token why → AnswersFlagged sb s at room (Err e)
flagged_refused sb s at room token why r e is = subst (λ e. AnswersFlagged sb s at room (Err e)) (sym is) r
