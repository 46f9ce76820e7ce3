-- The text of a run, piece by piece.
use Rattle.std.proofs.Common.{◌≡◌, inl, inr, ℕ, ◌+◌, ◌<◌, Bool, List, [], ◌++◌, length, Option, None, Some, Ok, Err, refl, sym, ◌∙◌, subst, arith}
use Rattle.std.specs.Prelude.{IsTrue, IsErrAnd, OnErr, Result, slice_index_or, Contains, IfSome}
use Rattle.faults.specs.Reasons.{Holds}
use Rattle.graph_words.specs.declared.types.Born.{Born}
use Rattle.graph_words.specs.declared.types.LabelId.{LabelId}
use Rattle.graph_words.specs.declared.types.Rule.{Rule}
use Rattle.std.proofs.lemmas.List.{take_all}
use Rattle.std.specs.Io.KnownBytes.{Appends}
use Rattle.io_edge.specs.Devices.{AppendsPrefix, Takes}
use Rattle.normal_law.specs.NormalForm.{normal_form}
use Rattle.closing_machine.specs.Parts.{all_edges}
use Rattle.disk_model.specs.Disk.{Contents}
use Rattle.manifest_codec.specs.declared.types.Manifest.{Manifest}
use Rattle.manifest_switch.specs.declared.slot.Found.TheVariants.{At}
use Rattle.manifest_switch.specs.Slots.{current_of}
use Rattle.store_law.specs.Left.{HasNoWork}
use Rattle.store_law.specs.Listed.{AreListed, part_file}
use Rattle.open_store.specs.Copy.{IsCopyRead}
use Rattle.open_store.specs.Store.{IsHeld, OpenStore}
use Rattle.open_store.specs.PartRead.{IsRead}
use Rattle.query_text.specs.declared.fault.AnswerFault.{AnswerFault}
use Rattle.query_text.specs.declared.fault.AnswerFault.TheVariants as answers
use Rattle.query_text.specs.Text.{head_text, tally_text}
use Rattle.query_text.specs.Answered.{AreListedIn, AreRead, IsBlamed, print_causes, why_not_printed}
use Rattle.graspan_top.specs.Faults.{of_answer}
use Rattle.graspan_top.specs.Given.{WhereCurrent}
use Rattle.graspan_top.specs.Printed.{IsNothingOr, PrintsFirst, TakesBegun, TakesPrefix}
use Rattle.graspan_top.specs.Refusals.{ArePassed, Explained}
use Rattle.graspan_top.specs.Run.{AreTold, IsFinishedStore, IsRunBegun, IsRunText, IsShownText, done_line}
use Rattle.graspan_top.specs.Stages.{IsShowBegun, show_stages, shown_text}
use Rattle.graspan_top.specs.declared.status.Status.{Status}
use Rattle.graspan_top.specs.declared.status.Status.TheVariants.{NotKnown}
use Rattle.graspan_top.proofs.LookLemmas.{has_label, where_current, with_current}
use Rattle.graspan_top.proofs.StageLemmas.{answer_refuses, refused_by}

-- what a call that failed has taken
pub takes_err : {U E : Type 0} (old new : Option (List ℕ)) (r : Result U E) (e : E) (text : List ℕ) → IsErrAnd r (λ x. x ≡ e) → AppendsPrefix old new text → Takes old new r text
takes_err old new (Ok y) e text is p = absurd is
takes_err old new (Err y) e text is p = p

-- what holds of a call that failed
pub err_of : {U E : Type 0} (r : Result U E) (e : E) (P : Type 0) → IsErrAnd r (λ x. x ≡ e) → P → OnErr r P
err_of (Ok y) e P is p = absurd is
err_of (Err y) e P is p = p

-- partitions that were all read are listed
pub listed_of_read : (s : OpenStore) (tells : Bool) (c : Contents) (read : List (List Born)) → IsTrue tells → AreRead s tells c 0 read → length read ≡ length s.manifest.parts → AreListedIn s c read
listed_of_read s tells c read t are all =
    record { size = all; spells = λ i lt. (each i (omega (arith, all, lt))).spells t; fits = λ i lt. (each i (omega (arith, all, lt))).fits }
  where
    each : (i : ℕ) → i < length read → IsRead s i tells (c (part_file s.manifest i)) (slice_index_or read i [])
    each i lt = subst (λ (k : ℕ). IsRead s k tells (c (part_file s.manifest k)) (slice_index_or read i [])) (let e : 0 + i ≡ i = omega arith in e) (are.each i lt)

-- and the manifest tells of them
pub told_of_read : (s : OpenStore) (tells : Bool) (c : Contents) (read : List (List Born)) → AreRead s tells c 0 read → length read ≡ length s.manifest.parts → AreTold s.manifest read
told_of_read s tells c read are all i lt =
    (subst (λ (k : ℕ). IsRead s k tells (c (part_file s.manifest k)) (slice_index_or read i [])) (let e : 0 + i ≡ i = omega arith in e) (are.each i (omega (arith, all, lt)))).told

-- a copy has one grammar
rules_once : (m : Manifest) (file : List ℕ) (xs ys : List Rule) → IsCopyRead m file xs → IsCopyRead m file ys → xs ≡ ys
rules_once m file xs ys a b = a.reads.rules_are [] ∙ sym (b.reads.rules_are [])

module _ (s : OpenStore) (c : Contents) (held : IsHeld s c) (show : Option (List ℕ)) (shown : Option LabelId) where
  abbrev text_of : List (List Born) → List ℕ
  text_of parts = head_text s.manifest ++ (tally_text s.manifest.labels (all_edges parts) ++ (shown_text shown (all_edges parts) ++ done_line))

  -- the text of a run is that of the store that is held
  pub the_text : ((edges : List Born) (text : List ℕ) → IsShownText s.manifest.labels edges show text → text ≡ shown_text shown edges) → (text : List ℕ) → IsRunText c show text → (parts : List (List Born)) × AreListedIn s c parts × (text ≡ text_of parts)
  the_text only text t =
      let a : current_of c ≡ Ok (At t.end.slot t.manifest) = t.end.current in
      let b : current_of c ≡ Ok (At s.slot s.manifest) = held.current in
      let m : t.manifest ≡ s.manifest = cc in
      go t.manifest m t.parts t.end t.shown t.shown_is t.printed
    where
      go : (m : Manifest) → m ≡ s.manifest → (parts : List (List Born)) → IsFinishedStore c m parts → (text' : List ℕ) → IsShownText m.labels (all_edges parts) show text' → text ≡ head_text m ++ (tally_text m.labels (all_edges parts) ++ (text' ++ done_line)) → (parts : List (List Born)) × AreListedIn s c parts × (text ≡ text_of parts)
      go m same parts end text' is printed =
          let rules = rules_once s.manifest (c 2) end.rules s.rules (subst (λ (k : Manifest). IsCopyRead k (c 2) end.rules) same end.grammar) held.grammar in
          let listed : AreListed c s.manifest (normal_form end.rules).fresh parts = subst (λ (k : Manifest). AreListed c k (normal_form end.rules).fresh parts) same end.listed in
          let shown_is = only (all_edges parts) text' (subst (λ (k : Manifest). IsShownText k.labels (all_edges parts) show text') same is) in
          (parts, subst (λ (r : List Rule). AreListed c s.manifest (normal_form r).fresh parts) rules listed, printed ∙ (rw (same, shown_is) refl))

  -- and the store that is held has such a text
  pub some_text : HasNoWork s.manifest → (parts : List (List Born)) → AreListedIn s c parts → AreTold s.manifest parts → IsShownText s.manifest.labels (all_edges parts) show (shown_text shown (all_edges parts)) → IsRunText c show (text_of parts)
  some_text done parts listed told is =
      record {
        manifest = s.manifest;
        parts = parts;
        end = record { slot = s.slot; current = held.current; rules = s.rules; grammar = held.grammar; listed = listed; told = told; done = done };
        shown = shown_text shown (all_edges parts);
        shown_is = is;
        printed = refl;
      }

-- a fault while the text is printed
pub fault_prints : (known : Bool) (IsText : List ℕ → Type 0) (old new : Option (List ℕ)) (f : AnswerFault) → TakesPrefix known IsText old new → PrintsFirst known IsText old new (of_answer f)
fault_prints known IsText old new answers.DiskFault p = p
fault_prints known IsText old new (answers.BadStore file place kind) p = p
fault_prints known IsText old new answers.WriteFault p = p
fault_prints known IsText old new answers.NoMemory p = p

-- what was begun
pub show_begun : (s : OpenStore) (tells : Bool) (c : Contents) (show : Option (List ℕ)) (shown : Option LabelId) (old new : Option (List ℕ)) → (IsTrue tells → IsHeld s c) → HasNoWork s.manifest → ((edges : List Born) → IsShownText s.manifest.labels edges show (shown_text shown edges)) → (IsTrue tells → (text : List ℕ) × IsShowBegun s c shown text × AppendsPrefix old new text) → TakesBegun tells (IsNothingOr (IsRunBegun c show)) old new
show_begun s tells c show shown old new held done is begun t = go (begun t)
  where
    kind : (text : List ℕ) → IsShowBegun s c shown text → IsRunBegun c show text
    kind text (inl front) = inl (record { store = s; held = held t; done = done; printed = front })
    kind text (inr whole) = inr (subst (IsRunText c show) (sym whole.3) (some_text s c (held t) show shown done whole.0 whole.1 whole.2 (is (all_edges whole.0))))

    go : (text : List ℕ) × IsShowBegun s c shown text × AppendsPrefix old new text → (text : List ℕ) × IsNothingOr (IsRunBegun c show) text × AppendsPrefix old new text
    go b = (b.0, inr (kind b.0 b.1), b.2)

-- a text that was taken whole
pub whole_taken : (old new : Option (List ℕ)) (text : List ℕ) → Appends old new text → AppendsPrefix old new text
whole_taken old new text a = (length text, omega arith, subst (λ (l : List ℕ). Appends old new l) (sym (take_all (length text) text (omega arith))) a)

-- ---- the label that is shown

shown_there : (names : List (List ℕ)) (show : Option (List ℕ)) (text : List ℕ) → IsShownText names [] show text → IfSome show (λ label. Contains names label)
shown_there names None text h = tt
shown_there names (Some label) text h = has_label names label h.0.0 h.1

module _ (s : OpenStore) (tells : Bool) (c : Contents) (held : IsTrue tells → IsHeld s c) (show : Option (List ℕ)) (rose out_rose : Type 0) where
  -- it isn't there
  pub label_refused : (m : Manifest) → m ≡ s.manifest → (e : Status) → (e ≡ NotKnown) × (label : List ℕ) × (show ≡ Some label) × (Contains m.labels label → ⊥) → Explained (show_stages s tells c show rose out_rose) e
  label_refused m same e (is, label, shown, lacks) =
      let here = subst (λ (k : Manifest). Contains k.labels label → ⊥) same lacks in
      subst (Explained (show_stages s tells c show rose out_rose)) (sym is) (inl (label, shown, with_current tells c s held (λ k. Contains k.labels label → ⊥) here))

  -- or it is
  module _ (shown : Option LabelId) (is : (edges : List Born) → IsShownText s.manifest.labels edges show (shown_text shown edges)) where
    label_passed : WhereCurrent tells c (λ m. IfSome show (λ label. Contains m.labels label))
    label_passed = where_current tells c s held (λ m. IfSome show (λ label. Contains m.labels label)) (shown_there s.manifest.labels show (shown_text shown []) (is []))

    pub show_refused : (f : AnswerFault) → Holds (print_causes out_rose rose (IsBlamed s tells c 0 (length s.manifest.parts))) (why_not_printed f) → Explained (show_stages s tells c show rose out_rose) (of_answer f)
    show_refused f h =
        let all = show_stages s tells c show rose out_rose in
        refused_by all all (λ why k. k) (of_answer f) (answer_refuses all f (inr (label_passed, inl h)))

    pub show_passed : ArePassed (show_stages s tells c show rose out_rose)
    show_passed = (label_passed, (tt, tt))
