-- A refusal that is handed on.
use Rattle.std.proofs.Common.{◌≡◌, sym, subst, ℕ}
use Rattle.std.specs.Prelude.{Result, Ok, Err, IsErrAnd}
use Rattle.c_tree.specs.Tokens.{Source}
use Rattle.c_tree.specs.declared.fault.Wrong.{Wrong}
use Rattle.c_tree.specs.declared.fault.ReadFault.{ReadFault}
use Rattle.c_tree.specs.declared.fault.ReadFault.TheVariants as fault
use Rattle.c_tree.specs.Said.{Said}
use Rattle.c_tree.specs.Reading.{RefusesAt, Answers}

handed_fault : {A B : Type 0} (sa : A → Said) (sb : B → Said) (s : Source) (at room at' room' : ℕ) → ((token : ℕ) (why : Wrong) → RefusesAt sa s at room token why → RefusesAt sb s at' room' token why) → (e : ReadFault) → Answers sa s at room (Err e) → Answers sb s at' room' (Err e)
handed_fault sa sb s at room at' room' f (fault.At token why) a = f token why a
handed_fault sa sb s at room at' room' f fault.NoMemory a = tt

-- what a part refuses, the whole refuses there
pub handed_on : {A B : Type 0} (sa : A → Said) (sb : B → Said) (s : Source) (at room at' room' : ℕ) → ((token : ℕ) (why : Wrong) → RefusesAt sa s at room token why → RefusesAt sb s at' room' token why) → (e : ReadFault) → Answers sa s at room (Err e) → (r : Result (B × ℕ) ReadFault) → IsErrAnd r (λ x. x ≡ e) → Answers sb s at' room' r
handed_on sa sb s at room at' room' f e a (Ok x) is = absurd is
handed_on sa sb s at room at' room' f e a (Err x) is = subst (λ x. Answers sb s at' room' (Err x)) (sym is) (handed_fault sa sb s at room at' room' f e a)

pub refused : {B : Type 0} (sb : B → Said) (s : Source) (at room token : ℕ) (why : Wrong) → RefusesAt sb s at room token why → (e : ReadFault) → e ≡ fault.At token why → Answers sb s at room (Err e)
refused sb s at room token why r e is = subst (λ e. Answers sb s at room (Err e)) (sym is) r
