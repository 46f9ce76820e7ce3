-- Runs in a row, by induction.
use Rattle.std.proofs.Common.{◌≡◌, ◌⊎◌, ℕ, List, Option, Some, inl, inr}
use Rattle.std.specs.Prelude.{IsTrue}
use Rattle.disk_model.specs.declared.disk.Disk as disk
use Rattle.disk_model.specs.Disk.{Contents}
use Rattle.store_law.specs.Texts.{Texts}
use Rattle.store_law.specs.Left.{IsLeft}
use Rattle.store_law.specs.Listed.{AreExact}
use Rattle.store.specs.Import.{texts_of}
use Rattle.graspan_top.specs.Runs.{IsInARow, IsRun, Ran}
use Rattle.graspan_top.specs.declared.status.Status.TheVariants.{Done}

module _ {D : Type 0} (d : disk.Ghosts D) (honest : (x : D) → IsTrue d.tells → d.may_leave x (d.seen x)) (told : List ℕ → Option (List ℕ)) (edges grammar g e : List ℕ) (tg : told grammar ≡ Some g) (te : told edges ≡ Some e) where
  abbrev pub t : Texts
  t = texts_of g e

  same : (c : Contents) → IsLeft t c ⊎ IsLeft t c → IsLeft t c
  same c (inl left) = left
  same c (inr left) = left

  since : (r : Ran D) → IsRun d told edges grammar r → ((c : Contents) → d.may_leave r.old c → IsLeft t c) → (c : Contents) → d.left_since r.new (d.moment r.old) c → IsLeft t c
  since r run here c left = same c ((run.stops.left t g e tg te here).0.each c left)

  pub row_left : (r : Ran D) → IsInARow d told edges grammar r → (c : Contents) → d.left_since r.new (d.moment r.old) c → IsLeft t c
  row_left r (IsInARow.first run blank) c left = since r run (λ x now. inl (blank x now)) c left
  row_left r (IsInARow.next before row run follows) c left = since r run (λ x now. row_left before row x (follows x now)) c left

  row_begins : (r : Ran D) → IsInARow d told edges grammar r → (c : Contents) → d.may_leave r.old c → IsLeft t c
  row_begins r (IsInARow.first run blank) c now = inl (blank c now)
  row_begins r (IsInARow.next before row run follows) c now = row_left before row c (follows c now)

  is_run : (r : Ran D) → IsInARow d told edges grammar r → IsRun d told edges grammar r
  is_run r (IsInARow.first run blank) = run
  is_run r (IsInARow.next before row run follows) = run

  pub row_exact : (r : Ran D) → IsInARow d told edges grammar r → r.status ≡ Done → IsTrue d.tells → AreExact t (d.seen r.new) × ((c : Contents) → d.may_leave r.new c → AreExact t c)
  row_exact r row done tells = (is_run r row).exact done tells g e tg te (row_begins r row (d.seen r.old) (honest r.old tells))
