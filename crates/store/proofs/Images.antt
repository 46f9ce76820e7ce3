-- Steps that leave both slots as they were.
use Rattle.std.proofs.Common.{ℕ, ◌≤◌, ◌∙◌, refl, arith}
use Rattle.disk_model.specs.Disk.{Contents}
use Rattle.disk_model.specs.Crash.{From, LeavesOnly}
use Rattle.disk_model.specs.Run.{no_step, then_run}
use Rattle.disk_model.specs.OneFile.{OnlyFile}
use Rattle.store.specs.NewStore.{IsBeside}

pub beside_refl : (c : Contents) → IsBeside c c
beside_refl c = record { first = refl; second = refl }

pub beside_trans : (d m c : Contents) → IsBeside d m → IsBeside m c → IsBeside d c
beside_trans d m c a b = record { first = b.first ∙ a.first; second = b.second ∙ a.second }

pub beside_only : (file : ℕ) (d c : Contents) → 2 ≤ file → OnlyFile file d c → IsBeside d c
beside_only file d c high only = record { first = only.others 0 (omega (arith, high)); second = only.others 1 (omega (arith, high)) }

module _ {D : Type 0} (seen : D → Contents) (moment : D → ℕ) (left_since : D → ℕ → Contents → Type 0) (images : D → Contents → Type 0) (counts_now : (x : D) (t : ℕ) (c : Contents) → t ≤ moment x → images x c → left_since x t c)
    (only_now : (x : D) (c : Contents) → left_since x (moment x) c → images x c) where
  -- no call yet
  pub nothing : (old : D) → LeavesOnly moment left_since old old (From (images old) IsBeside)
  nothing old = no_step moment left_since images counts_now only_now old IsBeside beside_refl

  -- a run more
  pub further : (old mid new : D) → LeavesOnly moment left_since old mid (From (images old) IsBeside) → LeavesOnly moment left_since mid new (From (images mid) IsBeside) → LeavesOnly moment left_since old new (From (images old) IsBeside)
  further old mid new run more =
      then_run moment left_since images counts_now only_now old mid new IsBeside IsBeside IsBeside run more (λ d c step. step) (λ d m c image mid-image first next. beside_trans d m c first next)

  -- a file more that is written anew
  pub further_file : (old mid new : D) (file : ℕ) → 2 ≤ file → LeavesOnly moment left_since old mid (From (images old) IsBeside) → LeavesOnly moment left_since mid new (From (images mid) (OnlyFile file)) → LeavesOnly moment left_since old new (From (images old) IsBeside)
  further_file old mid new file high run more =
      then_run moment left_since images counts_now only_now old mid new IsBeside (OnlyFile file) IsBeside run more (λ d c step. step) (λ d m c image mid-image first next. beside_trans d m c first (beside_only file m c high next))
