-- What a stopped import leaves.
use Rattle.std.proofs.Common.{◌≡◌, ◌≤◌, ℕ, List, Option, Some, ◌∙◌, inl, inr, subst}
use Rattle.std.specs.Prelude.{IsTrue}
use Rattle.disk_model.specs.declared.disk.Disk as disk
use Rattle.disk_model.specs.Disk.{Contents}
use Rattle.disk_model.specs.View.{LeavesBy}
use Rattle.manifest_switch.specs.Slots.{IsBlank}
use Rattle.manifest_switch.proofs.LawLemmas.{blank_iff}
use Rattle.store_law.specs.Texts.{Texts}
use Rattle.store_law.specs.Left.{IsLeft, IsStoreOf}
use Rattle.store_law.specs.Kept.{Leads}
use Rattle.store_law.proofs.Keeping.{fresh_holds}
use Rattle.store_law.proofs.Moments.{leads_by}
use Rattle.store.specs.Import.{HasFreshStore, Imports, texts_of}

-- a fresh store of the files that are told
pub fresh_left : (text g e : List ℕ) (told : Option (List ℕ)) (limit : ℕ) (c : Contents) → text ≡ g → told ≡ Some e → HasFreshStore text told limit c → IsLeft (texts_of g e) c
fresh_left text g e told limit c same te h =
    inr (
      h.manifest,
      h.parts,
      record {
        slot = h.slot;
        current = h.current;
        rest = subst (λ (t : Texts). IsStoreOf t c h.manifest h.parts) (λ i. texts_of (same i) (h.is_file e te i)) (fresh_holds (texts_of text h.text) limit c h.manifest h.parts h.fresh);
      },
    )

-- what an import makes of a blank image
pub import_left : (text g e : List ℕ) (told : Option (List ℕ)) (limit : ℕ) (x c : Contents) → text ≡ g → told ≡ Some e → IsBlank x → Imports text told limit x c → IsLeft (texts_of g e) c
import_left text g e told limit x c same te blank (inl still) = inl ((blank_iff c).0 (still ∙ (blank_iff x).1 blank))
import_left text g e told limit x c same te blank (inr fresh) = fresh_left text g e told limit c same te fresh

module _ {D : Type 0} (d : disk.Ghosts D) (counts_now : (x : D) (t : ℕ) (c : Contents) → t ≤ d.moment x → d.may_leave x c → d.left_since x t c)
    (only_now : (x : D) (c : Contents) → d.left_since x (d.moment x) c → d.may_leave x c) (honest : (x : D) → IsTrue d.tells → d.may_leave x (d.seen x)) where
  pub import_stops : (text e : List ℕ) (told : Option (List ℕ)) (limit : ℕ) (old new : D) → told ≡ Some e → LeavesBy d old new (Imports text told limit) → Leads d old new IsBlank (IsLeft (texts_of text e))
  import_stops text e told limit old new te run =
      leads_by d counts_now only_now honest old new IsBlank (IsLeft (texts_of text e)) (Imports text told limit) run
      (λ here x c image by. import_left text text e told limit x c (λ i. text) te (here x image) by)
