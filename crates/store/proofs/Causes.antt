-- The causes of faults that a call hands on.
use Rattle.std.proofs.Common.{◌≡◌, ℕ, ◌≤◌, List, Some, arith}
use Rattle.std.specs.Prelude.{Option}
use Rattle.faults.specs.Counts.{Rose}
use Rattle.faults.specs.Reasons.{BlamesText, Implies, blames_none, disk_causes}
use Rattle.grammar_norm.specs.GrammarText.{grammar_names}
use Rattle.import_text.specs.Copy.{copy_causes}
use Rattle.store.specs.Import.{import_causes}

-- a copy that was not made
pub copy_implies : (grammar : List ℕ) (told : Option (List ℕ)) (tells reads : Type 0) (P : List (List ℕ) → Type 0) (calls mid calls' : ℕ) → calls ≤ mid → P (grammar_names grammar)
    → Implies (copy_causes reads (Rose mid calls') P told) (import_causes grammar told tells reads (Rose calls calls'))
copy_implies grammar told tells reads P calls mid calls' le behind =
    record {
      reads = λ h. h;
      disk = λ rose. omega (arith, le, rose);
      writes = λ h. h;
      text = λ file line kind h. (h.0, λ text t. h.1 text (grammar_names grammar) t behind);
      other = λ file place h. h;
      bad = λ file place kind h. absurd h;
      words = λ h. h;
      none = λ h. h;
      left = λ i j h. h;
      unknown = λ h. h;
    }

-- partitions that were not put
pub put_implies : (grammar : List ℕ) (told : Option (List ℕ)) (tells reads : Type 0) (calls mid calls' : ℕ) → calls ≤ mid
    → Implies (disk_causes (Rose mid calls') (BlamesText (tells → ⊥) 3)) (import_causes grammar told tells reads (Rose calls calls'))
put_implies grammar told tells reads calls mid calls' le =
    record {
      reads = λ h. absurd h;
      disk = λ rose. omega (arith, le, rose);
      writes = λ h. h;
      text = λ file line kind h. absurd h;
      other = λ file place h. h;
      bad = λ file place kind h. h;
      words = λ h. h;
      none = λ h. h;
      left = λ i j h. h;
      unknown = λ h. h;
    }

-- a switch that was not made
pub switch_implies : (grammar : List ℕ) (told : Option (List ℕ)) (tells reads : Type 0) (calls mid calls' : ℕ) → calls ≤ mid
    → Implies (disk_causes (Rose mid calls') blames_none) (import_causes grammar told tells reads (Rose calls calls'))
switch_implies grammar told tells reads calls mid calls' le =
    record {
      reads = λ h. absurd h;
      disk = λ rose. omega (arith, le, rose);
      writes = λ h. h;
      text = λ file line kind h. absurd h;
      other = λ file place h. h;
      bad = λ file place kind h. absurd h;
      words = λ h. h;
      none = λ h. h;
      left = λ i j h. h;
      unknown = λ h. h;
    }
