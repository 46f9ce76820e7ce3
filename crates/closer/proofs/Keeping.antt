-- What steps of closing keep of stores, at each moment of a crash.
use Rattle.std.proofs.Common.{◌≡◌, ◌≤◌, ℕ, zero, suc, List, length, Ok, ap, sym, subst, arith, inl, inr}
use Rattle.std.specs.Prelude.{IsTrue, Contains, true}
use Rattle.graph_words.specs.declared.types.Born.{Born}
use Rattle.graph_words.specs.Reach.{Graph}
use Rattle.normal_law.specs.Closure.{Normal}
use Rattle.normal_law.specs.NormalForm.{normal_form}
use Rattle.closing_machine.specs.State.{State}
use Rattle.closing_machine.specs.Holds.{IsClosingState, IsTask}
use Rattle.closing_machine.specs.Parts.{all_edges}
use Rattle.closing_machine.proofs.Superstepping.{stays}
use Rattle.disk_model.specs.declared.disk.Disk as disk
use Rattle.disk_model.specs.Disk.{Contents}
use Rattle.disk_model.specs.View.{LeavesBy}
use Rattle.disk_model.specs.Run.{at_end}
use Rattle.manifest_codec.specs.declared.types.Manifest.{Manifest}
use Rattle.manifest_switch.specs.declared.slot.Found.TheVariants.{At}
use Rattle.manifest_switch.specs.Slots.{current_of}
use Rattle.manifest_switch.proofs.LawLemmas.{alone_law, blank_iff}
use Rattle.store_law.specs.Texts.{Texts, graph, normal}
use Rattle.store_law.specs.Listed.{AreExact, state_in}
use Rattle.store_law.specs.Left.{HasNoWork, HoldsStore, IsLeft, IsStore, IsStoreOf, ListsBorn}
use Rattle.store_law.specs.Kept.{EndsIn, KeepsStores, Preserves}
use Rattle.store_law.proofs.Exact.{exact_store}
use Rattle.store_law.proofs.Moments.{leads_by}
use Rattle.store_law.proofs.Named.{task_of_texts}
use Rattle.open_store.specs.Store.{IsHeldAlone, OpenStore}
use Rattle.closer.specs.Answers.{Moves}
use Rattle.closer.specs.Continuation.{AfterSteps, ImageGoesOn, IsWholePass, Retains}
use Rattle.closer.proofs.LawLemmas.{retains_store, rules_held, steps_hold, store_after}

-- ---- edges that are listed stay so

steps_born : (n : Normal) (g : Graph) (k : ℕ) (s after : State) → IsTask n g → IsClosingState n g s → AfterSteps n k s after → (b : Born) → Contains s.edges b → Contains after.edges b
steps_born n g zero s after task holds same b here = subst (λ (x : State). Contains x.edges b) (sym same) here
steps_born n g (suc k) s after task holds steps b here =
    let st : IsWholePass n steps.0 after = steps.2 in
    stays n g task st.i st.j st.rounds true steps.0 after (steps_hold n g k s steps.0 task holds steps.1) st.step b (steps_born n g k s steps.0 task holds steps.1 b here)

-- a store of the texts, of whose partitions this is so
abbrev HoldsWith : Texts → Contents → (List (List Born) → Type 0) → Type 0
HoldsWith t c P = (m : Manifest) × (parts : List (List Born)) × IsStore t c m parts × P parts

-- what is left and held is the store that is held
held_with : (t : Texts) (s : OpenStore) (c : Contents) (P : List (List Born) → Type 0) → IsHeldAlone s c → HoldsWith t c P → (parts : List (List Born)) × IsStore t c s.manifest parts × P parts
held_with t s c P held (m, parts, st, p) =
    let a : current_of c ≡ Ok (At st.slot m) = st.current in
    let b : current_of c ≡ Ok (At s.slot s.manifest) = alone_law s.slot s.manifest c held.only in
    let e : m ≡ s.manifest = cc in
    (parts, subst (λ (x : Manifest). IsStore t c x parts) e st, p)

pub held_left : (t : Texts) (s : OpenStore) (c : Contents) → IsHeldAlone s c → IsLeft t c → HoldsStore t c
held_left t s c held (inl blank) =
    let a = (blank_iff c).1 blank in
    let b = alone_law s.slot s.manifest c held.only in
    absurd (cc)
held_left t s c held (inr h) = h

module _ (t : Texts) (s : OpenStore) (P : List (List Born) → Type 0)
    (grows : (xs ys : List (List Born)) → ((b : Born) → Contains (all_edges xs) b → Contains (all_edges ys) b) → P xs → P ys) where
  -- what keeps an image that is held keeps the store that it is
  pub retained_with : (x c : Contents) → IsHeldAlone s x → HoldsWith t x P → Retains s.manifest x c → HoldsWith t c P
  retained_with x c held h kept =
      let st = held_with t s x P held h in
      (s.manifest, st.0, retains_store t x c s.manifest st.0 st.1 kept, st.2)

  -- what goes on from what a read gave is a store of the same texts, with all its edges
  pub further_with : (seen c : Contents) → IsHeldAlone s seen → HoldsWith t seen P → ImageGoesOn (normal_form s.rules) seen s.manifest c → HoldsWith t c P
  further_with seen c held h on =
      let st = held_with t s seen P held h in
      let here : IsStoreOf t seen s.manifest st.0 = st.1.rest in
      let goes : ImageGoesOn (normal t) seen s.manifest c = subst (λ r. ImageGoesOn (normal_form r) seen s.manifest c) (rules_held t s seen here.texts held.grammar) on in
      let e = store_after t seen c goes.steps s.manifest goes.next st.0 here goes.continues in
      let few : length s.manifest.labels ≤ 1000 = here.texts.fits.labels.short in
      let task = task_of_texts t (omega (arith, few, ap length here.texts.labels)) in (
        goes.next,
        e.0,
        record { slot = goes.slot; current = goes.current; rest = e.1 },
        grows st.0 e.0 (steps_born (normal t) (graph t) goes.steps (state_in s.manifest st.0) (state_in goes.next e.0) task here.holds e.2) st.2,
      )

  pub moved_with : (seen x c : Contents) → IsHeldAlone s seen → IsHeldAlone s x → HoldsWith t seen P → HoldsWith t x P → Moves s seen x c → HoldsWith t c P
  moved_with seen x c held_seen held_x h_seen h_x (inl kept) = retained_with x c held_x h_x kept
  moved_with seen x c held_seen held_x h_seen h_x (inr on) = further_with seen c held_seen h_seen on

-- ---- each kind of image

pub retained_left : (t : Texts) (s : OpenStore) (x c : Contents) → IsHeldAlone s x → Retains s.manifest x c → IsLeft t x → IsLeft t c
retained_left t s x c held kept left =
    let h = held_left t s x held left in
    let r = retained_with t s (λ parts. Unit {0}) (λ xs ys up p. p) x c held (h.0, h.1, h.2, tt) kept in
    inr (r.0, r.1, r.2)

pub further_left : (t : Texts) (s : OpenStore) (seen c : Contents) → IsHeldAlone s seen → ImageGoesOn (normal_form s.rules) seen s.manifest c → IsLeft t seen → IsLeft t c
further_left t s seen c held on left =
    let h = held_left t s seen held left in
    let r = further_with t s (λ parts. Unit {0}) (λ xs ys up p. p) seen c held (h.0, h.1, h.2, tt) on in
    inr (r.0, r.1, r.2)

module _ (t : Texts) (s : OpenStore) (seen x c : Contents) (held_seen : IsHeldAlone s seen) (held_x : IsHeldAlone s x) (by : Moves s seen x c) where
  pub moved_store : HoldsStore t seen → HoldsStore t x → HoldsStore t c
  moved_store h_seen h_x =
      let r = moved_with t s (λ parts. Unit {0}) (λ xs ys up p. p) seen x c held_seen held_x (h_seen.0, h_seen.1, h_seen.2, tt) (h_x.0, h_x.1, h_x.2, tt) by in
      (r.0, r.1, r.2)

  pub moved_left : IsLeft t seen → IsLeft t x → IsLeft t c
  moved_left l_seen l_x = inr (moved_store (held_left t s seen held_seen l_seen) (held_left t s x held_x l_x))

  pub moved_born : (b : Born) → ListsBorn t b seen → ListsBorn t b x → ListsBorn t b c
  moved_born b h_seen h_x = moved_with t s (λ parts. Contains (all_edges parts) b) (λ xs ys up p. up b p) seen x c held_seen held_x h_seen h_x by

-- a store that is held and has no work left is exact
pub held_exact : (t : Texts) (s : OpenStore) (c : Contents) → HasNoWork s.manifest → IsHeldAlone s c → IsLeft t c → AreExact t c
held_exact t s c done held left =
    let st = held_with t s c (λ parts. Unit {0}) held (let h = held_left t s c held left in (h.0, h.1, h.2, tt)) in
    exact_store t c s.manifest st.0 st.1 done

module _ {D : Type 0} (d : disk.Ghosts D) (counts_now : (x : D) (t : ℕ) (c : Contents) → t ≤ d.moment x → d.may_leave x c → d.left_since x t c)
    (only_now : (x : D) (c : Contents) → d.left_since x (d.moment x) c → d.may_leave x c) (honest : (x : D) → IsTrue d.tells → d.may_leave x (d.seen x))
    (told : (x : D) (c : Contents) → d.may_leave x c → IsTrue d.tells) where
  pub keeps_moving : (s : OpenStore) (old new : D) → ((c : Contents) → d.may_leave old c → IsHeldAlone s c) → LeavesBy d old new (Moves s (d.seen old)) → KeepsStores d old new
  keeps_moving s old new held run t =
      record {
        left = by (IsLeft t) (λ x c a b step. moved_left t s (d.seen old) x c a b step);
        stores = by (HoldsStore t) (λ x c a b step. moved_store t s (d.seen old) x c a b step);
        births = λ e among. by (ListsBorn t e) (λ x c a b step. moved_born t s (d.seen old) x c a b step e);
      }
    where
      by : (P : Contents → Type 0) → ((x c : Contents) → IsHeldAlone s (d.seen old) → IsHeldAlone s x → Moves s (d.seen old) x c → P (d.seen old) → P x → P c) → Preserves d old new P
      by P moved =
          leads_by d counts_now only_now honest old new P P (Moves s (d.seen old)) run
          (λ here x c image step. let seen = honest old (told old x image) in moved x c (held (d.seen old) seen) (held x image) step (here (d.seen old) seen) (here x image))

  -- where a store is held that has no work left, what stopped runs left is exact
  pub ends_exact : (s : OpenStore) (old new : D) (t : Texts) → KeepsStores d old new → HasNoWork s.manifest → ((c : Contents) → d.may_leave new c → IsHeldAlone s c) → EndsIn d old new (IsLeft t) (AreExact t)
  ends_exact s old new t keeps done held here =
      let run = ((keeps t).left here).0 in
      let each = λ (c : Contents) (now : d.may_leave new c). held_exact t s c done (held c now) (at_end d.moment d.left_since d.may_leave counts_now only_now old new (IsLeft t) run c now) in
      (each, λ tell. each (d.seen new) (honest new tell))
