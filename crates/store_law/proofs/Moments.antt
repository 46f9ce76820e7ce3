-- What calls keep of stores, at each moment of a crash.
use Rattle.std.proofs.Common.{◌≤◌, ℕ, List, inl, inr}
use Rattle.std.specs.Prelude.{IsTrue, Contains}
use Rattle.graph_words.specs.declared.types.Born.{Born}
use Rattle.closing_machine.specs.Parts.{all_edges}
use Rattle.disk_model.specs.declared.disk.Disk as disk
use Rattle.disk_model.specs.Disk.{Contents}
use Rattle.disk_model.specs.Crash.{From, LeavesOnly}
use Rattle.disk_model.specs.View.{LeavesBy, OnlyLooks}
use Rattle.disk_model.specs.Run.{and_then, at_end, started, then_no_more}
use Rattle.disk_model.proofs.Looks.{looks_same}
use Rattle.manifest_codec.specs.declared.types.Manifest.{Manifest}
use Rattle.manifest_switch.specs.Steps.{Stays, Switches}
use Rattle.store_law.specs.Texts.{Texts}
use Rattle.store_law.specs.Left.{HoldsStore, IsLeft, IsStoreOf, ListsBorn}
use Rattle.store_law.specs.Kept.{KeepsAmong, KeepsStores, Leads, Preserves}
use Rattle.store_law.proofs.Keeping.{made_store, stays_left, stays_store, switch_left}

pub stays_holds : (t : Texts) (d c : Contents) → Stays d c → HoldsStore t d → HoldsStore t c
stays_holds t d c stays h = (h.0, h.1, stays_store t d c h.0 h.1 stays h.2)

pub stays_lists : (t : Texts) (b : Born) (d c : Contents) → Stays d c → ListsBorn t b d → ListsBorn t b c
stays_lists t b d c stays h = (h.0, h.1, stays_store t d c h.0 h.1 stays h.2, h.3)

module _ {D : Type 0} (d : disk.Ghosts D) (counts_now : (x : D) (t : ℕ) (c : Contents) → t ≤ d.moment x → d.may_leave x c → d.left_since x t c)
    (only_now : (x : D) (c : Contents) → d.left_since x (d.moment x) c → d.may_leave x c) (honest : (x : D) → IsTrue d.tells → d.may_leave x (d.seen x)) where
  -- what each image since has is there at the end, too
  ending : (old new : D) (Q : Contents → Type 0) → LeavesOnly d.moment d.left_since old new Q → LeavesOnly d.moment d.left_since old new Q × (IsTrue d.tells → Q (d.seen new))
  ending old new Q run = (run, λ tell. at_end d.moment d.left_since d.may_leave counts_now only_now old new Q run (d.seen new) (honest new tell))

  -- each image since comes from one at the start, by a step
  pub leads_by : (old new : D) (P Q : Contents → Type 0) (step : Contents → Contents → Type 0) → LeavesBy d old new step
      → (((x : Contents) → d.may_leave old x → P x) → (x c : Contents) → d.may_leave old x → step x c → Q c) → Leads d old new P Q
  leads_by old new P Q step run turn here =
      ending old new Q
      (record {
        later = run.later;
        each = λ c left. to c (run.each c left);
        before = λ t c le left. elim (run.before t c le left) [ inl past ↦ inl past | inr now ↦ inr (to c now) ];
      })
    where
      to : (c : Contents) → From (d.may_leave old) step c → Q c
      to c from = turn here from.0 c from.1 from.2

  -- by a step that keeps P of each
  pub preserved : (old new : D) (P : Contents → Type 0) (step : Contents → Contents → Type 0) → LeavesBy d old new step → ((x c : Contents) → step x c → P x → P c) → Preserves d old new P
  preserved old new P step run keeps = leads_by old new P P step run (λ here x c image by. keeps x c by (here x image))

  pub leads_then : (old mid new : D) (P Q R : Contents → Type 0) → Leads d old mid P Q → Leads d mid new Q R → ((c : Contents) → Q c → R c) → Leads d old new P R
  leads_then old mid new P Q R first next weaker here =
      let run = (first here).0 in
      let more = (next (at_end d.moment d.left_since d.may_leave counts_now only_now old mid Q run)).0 in
      ending old new R
      (and_then d.moment d.left_since old mid new R R
      (record {
        later = run.later;
        each = λ c left. weaker c (run.each c left);
        before = λ t c le left. elim (run.before t c le left) [ inl past ↦ inl past | inr now ↦ inr (weaker c now) ];
      })
      more (λ c r. r))

  pub preserved_then : (old mid new : D) (P : Contents → Type 0) → Preserves d old mid P → Preserves d mid new P → Preserves d old new P
  preserved_then old mid new P first next = leads_then old mid new P P P first next (λ c p. p)

  pub preserved_looking : (old new : D) (P : Contents → Type 0) → OnlyLooks d old new → Preserves d old new P
  preserved_looking old new P looks here =
      ending old new P
      (then_no_more d.moment d.left_since d.may_leave counts_now only_now old old new P
      (started d.moment d.left_since old P (λ c now. here c (only_now old c now))) looks.time looks.no_more)

  -- ---- stores

  -- no call
  pub keeps_here : (x : D) (t : Texts) (among : Born → Type 0) → KeepsAmong d x x t among
  keeps_here x t among =
      record {
        left = preserved_looking x x (IsLeft t) looks_same;
        stores = preserved_looking x x (HoldsStore t) looks_same;
        births = λ b listed. preserved_looking x x (ListsBorn t b) looks_same;
      }

  pub keeps_looking : (old new : D) → OnlyLooks d old new → KeepsStores d old new
  keeps_looking old new looks t =
      record {
        left = preserved_looking old new (IsLeft t) looks;
        stores = preserved_looking old new (HoldsStore t) looks;
        births = λ b among. preserved_looking old new (ListsBorn t b) looks;
      }

  pub keeps_staying : (old new : D) → LeavesBy d old new Stays → KeepsStores d old new
  keeps_staying old new run t =
      record {
        left = preserved old new (IsLeft t) Stays run (stays_left t);
        stores = preserved old new (HoldsStore t) Stays run (stays_holds t);
        births = λ b among. preserved old new (ListsBorn t b) Stays run (stays_lists t b);
      }

  pub keeps_switching : (old new : D) (t : Texts) (m : Manifest) (parts : List (List Born)) → IsStoreOf t (d.seen old) m parts → LeavesBy d old new (Switches (d.seen old) m) → KeepsAmong d old new t (Contains (all_edges parts))
  keeps_switching old new t m parts s run =
      record {
        left = preserved old new (IsLeft t) (Switches (d.seen old) m) run (λ x c by left. switch_left t x (d.seen old) c m parts left s by);
        stores = preserved old new (HoldsStore t) (Switches (d.seen old) m) run holds;
        births = λ b among. preserved old new (ListsBorn t b) (Switches (d.seen old) m) run (lists b among);
      }
    where
      holds : (x c : Contents) → Switches (d.seen old) m x c → HoldsStore t x → HoldsStore t c
      holds x c (inl stays) h = stays_holds t x c stays h
      holds x c (inr made) h = (m, parts, made_store t (d.seen old) c m parts s made)

      lists : (b : Born) → Contains (all_edges parts) b → (x c : Contents) → Switches (d.seen old) m x c → ListsBorn t b x → ListsBorn t b c
      lists b among x c (inl stays) h = stays_lists t b x c stays h
      lists b among x c (inr made) h = (m, parts, made_store t (d.seen old) c m parts s made, among)

  pub keeps_then : (old mid new : D) → KeepsStores d old mid → KeepsStores d mid new → KeepsStores d old new
  keeps_then old mid new first next t =
      let a = first t in
      let b = next t in
      record {
        left = preserved_then old mid new (IsLeft t) a.left b.left;
        stores = preserved_then old mid new (HoldsStore t) a.stores b.stores;
        births = λ e among. preserved_then old mid new (ListsBorn t e) (a.births e among) (b.births e among);
      }
