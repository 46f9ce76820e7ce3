-- The store with which a run begins, and the one at its end.
use Rattle.std.proofs.Common.{◌≡◌, ◌≢◌, ◌⊎◌, inl, inr, ℕ, List, Option, Some, Ok, refl, sym, ap, subst, ◌∙◌, arith}
use Rattle.std.specs.Prelude.{IsTrue, Bool, Result, Err, IfOk}
use Rattle.graph_words.specs.declared.types.Born.{Born}
use Rattle.faults.specs.declared.kinds.InputFile.TheVariants.{Grammar, Edges}
use Rattle.normal_law.specs.Closure.{Normal}
use Rattle.normal_law.specs.NormalForm.{normal_form}
use Rattle.disk_model.specs.Disk.{Contents}
use Rattle.disk_model.specs.Crash.{LeavesJust}
use Rattle.manifest_codec.specs.declared.types.Manifest.{Manifest}
use Rattle.manifest_switch.specs.declared.slot.Found.{Found}
use Rattle.manifest_switch.specs.declared.slot.Found.TheVariants.{At, Blank}
use Rattle.manifest_switch.specs.Slots.{IsBlank, current_of}
use Rattle.manifest_switch.specs.Steps.{Stays}
use Rattle.manifest_switch.proofs.LawLemmas.{alone_law, blank_iff}
use Rattle.store_law.specs.Texts.{AreGood, Texts, normal, rules}
use Rattle.store_law.specs.Listed.{AreExact}
use Rattle.store_law.specs.Left.{HasNoWork, IsLeft, IsStore, IsStoreOf}
use Rattle.store_law.proofs.Exact.{exact_store}
use Rattle.store_law.proofs.Keeping.{beside_slots, imported_store, stays_left}
use Rattle.open_store.specs.Answers.{copy_of}
use Rattle.open_store.specs.Opened.{IsOpened, IsOpenedAlone}
use Rattle.store_fault.specs.declared.fault.StoreFault.{StoreFault}
use Rattle.open_store.specs.Store.{IsHeld, IsHeldAlone, OpenStore}
use Rattle.store.specs.Import.{IsImportOf, IsNewStore, texts_of}
use Rattle.closer.specs.Continuation.{Continues}
use Rattle.closer.specs.Answers.{IsClosedStore}
use Rattle.closer.proofs.LawLemmas.{rules_held, store_after}
use Rattle.graspan_top.specs.Given.{Given}
use Rattle.graspan_top.specs.Run.{IsOpenedAs}
use Rattle.graspan_top.specs.Stages.{IsCopied, IsGrammarFile, IsReady}
use Rattle.graspan_top.proofs.ExplainLemmas.{found_accepted, new_accepted}

held_of : (s : OpenStore) (c : Contents) → IsHeldAlone s c → IsHeld s c
held_of s c h = record { current = alone_law s.slot s.manifest c h.only; grammar = h.grammar }

module _ (x : Given) (edges grammar text : List ℕ) (file : IsGrammarFile (x.told grammar) text) (seen : Contents) (images : Contents → Type 0) (honest : IsTrue x.tells → images seen) where
  same_texts : (g e t : List ℕ) → x.told grammar ≡ Some g → t ≡ e → texts_of text t ≡ texts_of g e
  same_texts g e t told same = let f = file.is_file g told in rw (f, same) refl

  -- a new store was made
  pub import_ready : (limit : ℕ) (s : OpenStore) → (IsTrue x.tells → current_of x.before ≡ Ok Blank) → IsNewStore text (x.told edges) s → ((c : Contents) → images c → IsHeldAlone s c) → LeavesJust seen images → (IsTrue x.tells → IsImportOf text (x.told edges) limit seen s.manifest) → IsReady x edges grammar seen images s
  import_ready limit s blank new held synced imported =
      record {
        accepts = new_accepted x edges grammar text file blank (λ g tg e te. subst AreGood (same_texts g e new.text tg (new.is_file e te)) new.good);
        held = held;
        synced = synced;
        opened =
            λ tells.
            record {
              held = held_of s seen (held seen (honest tells));
              left =
                  λ g e tg te left.
                  let i = imported tells in
                  let st = imported_store (texts_of text i.text) limit seen s.manifest i.parts i.imported in (
                    i.parts,
                    subst (λ (t : Texts). IsStoreOf t seen s.manifest i.parts) (same_texts g e i.text tg (i.is_file e te)) st.rest,
                  );
            };
      }

  pub import_ready_ok : (limit : ℕ) (r : Result OpenStore StoreFault) → (IsTrue x.tells → current_of x.before ≡ Ok Blank) → IfOk r (IsNewStore text (x.told edges)) → IfOk r (λ s. (c : Contents) → images c → IsHeldAlone s c) → IfOk r (λ _. LeavesJust seen images) → (IsTrue x.tells → IfOk r (λ s. IsImportOf text (x.told edges) limit seen s.manifest)) → IfOk r (IsReady x edges grammar seen images)
  import_ready_ok limit (Ok s) blank new held synced imported = import_ready limit s blank new held synced imported
  import_ready_ok limit (Err e) blank new held synced imported = tt

  -- a store was found
  module _ (s : OpenStore) (mid : Contents) (stays : IsTrue x.tells → Stays x.before mid) (opened : IsTrue x.tells → IsHeld s mid) (same : IsTrue x.tells → seen ≡ mid) where
    held_now : IsTrue x.tells → IsHeld s seen
    held_now tells = rw (same tells) (opened tells)

    left_now : (t : Texts) → IsTrue x.tells → IsLeft t x.before → (parts : List (List Born)) × IsStoreOf t seen s.manifest parts
    left_now t tells left = go (stays_left t x.before mid (stays tells) left)
      where
        go : IsLeft t mid → (parts : List (List Born)) × IsStoreOf t seen s.manifest parts
        go (inl blank) = let a = (blank_iff mid).1 blank in let b = (opened tells).current in absurd (cc)
        go (inr (m, parts, st)) =
            let a : current_of mid ≡ Ok (At st.slot m) = st.current in
            let b : current_of mid ≡ Ok (At s.slot s.manifest) = (opened tells).current in
            let e : m ≡ s.manifest = cc in
            (parts, rw (same tells, ← e) st.rest)

    pub found_ready : ((c : Contents) → images c → IsHeldAlone s c) → LeavesJust seen images → IsCopied (x.told grammar) x.tells (copy_of s.manifest Grammar mid) → IsCopied (x.told edges) x.tells (copy_of s.manifest Edges mid) → IsReady x edges grammar seen images s
    found_ready held synced is_grammar is_edges =
        record {
          accepts = found_accepted x edges grammar text file mid s opened stays is_grammar is_edges;
          held = held;
          synced = synced;
          opened = λ tells. record { held = held_now tells; left = λ g e tg te left. left_now (texts_of g e) tells left };
        }

-- ---- the closing

module _ (x : Given) (edges grammar : List ℕ) (seen : Contents) (images : Contents → Type 0) (s : OpenStore) (ready : IsReady x edges grammar seen images s) where
  pub closed_ready : (now : Contents) (images' : Contents → Type 0) (last : OpenStore) → (IsTrue x.tells → images' now) → IsClosedStore x.tells seen images s now images' last → IsReady x edges grammar now images' last
  closed_ready now images' last honest closed =
      record {
        accepts = ready.accepts;
        held = closed.held;
        synced = closed.synced ready.synced;
        opened = λ tells. record { held = held_of last now (closed.held now (honest tells)); left = λ g e tg te left. further tells (texts_of g e) ((ready.opened tells).left g e tg te left) };
      }
    where
      further : IsTrue x.tells → (t : Texts) → (parts : List (List Born)) × IsStoreOf t seen s.manifest parts → (parts : List (List Born)) × IsStoreOf t now last.manifest parts
      further tells t (parts, st) =
          let on = closed.continues tells in
          let same : s.rules ≡ rules t = rules_held t s seen st.texts (ready.opened tells).held.grammar in
          let steps : Continues (normal t) on.0 seen s.manifest now last.manifest = rw (← same) on.1 in
          let after = store_after t seen now on.0 s.manifest last.manifest parts st steps in
          (after.0, after.1)

  -- a store of the files that has no work left lists exactly the closure, in each image
  pub exact_end : HasNoWork s.manifest → IsTrue x.tells → (g e : List ℕ) → x.told grammar ≡ Some g → x.told edges ≡ Some e → IsLeft (texts_of g e) x.before → AreExact (texts_of g e) seen × ((c : Contents) → images c → AreExact (texts_of g e) c)
  exact_end done tells g e tg te left = (exact_store t seen s.manifest parts here done, λ c image. exact_store t c s.manifest parts (there c image) done)
    where
      t : Texts
      t = texts_of g e

      found : (parts : List (List Born)) × IsStoreOf t seen s.manifest parts
      found = (ready.opened tells).left g e tg te left

      parts : List (List Born)
      parts = found.0

      here : IsStore t seen s.manifest parts
      here = record { slot = s.slot; current = (ready.opened tells).held.current; rest = found.1 }

      there : (c : Contents) → images c → IsStore t c s.manifest parts
      there c image =
          record {
            slot = s.slot;
            current = alone_law s.slot s.manifest c (ready.held c image).only;
            rest = beside_slots t seen c s.manifest parts (λ f first second. ready.synced c image f) found.1;
          }
