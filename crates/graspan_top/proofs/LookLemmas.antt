-- Which stage of a command that only reads refuses.
use Rattle.std.proofs.Common.{◌≡◌, ◌⊎◌, inl, inr, ℕ, ◌<◌, Bool, List, [], ◌∷◌, ◌++◌, length, Option, None, Some, Ok, Err, sym, ap, subst, ◌∙◌}
use Rattle.std.specs.Prelude.{IsTrue, IfErr, IsErrAnd, Result, Contains, slice_get}
use Rattle.std.proofs.lemmas.Bool.{cases_order}
use Rattle.std.proofs.lemmas.Option.{get_or_from_slice_get, slice_get_within}
use Rattle.std.proofs.lemmas.List.Elements.{Contains-get_or}
use Rattle.faults.specs.Reasons.{Holds, Implies, blames_none, not_known, work_left, write_failed}
use Rattle.faults.specs.declared.form_kind.FormKind.{FormKind}
use Rattle.faults.proofs.Handed.{holds_more}
use Rattle.label_table.specs.Names.{IsTable}
use Rattle.graph_words.specs.declared.types.LabelId.{LabelId}
use Rattle.graph_words.specs.declared.types.Born.{Born}
use Rattle.query_text.specs.Text.{answers_text}
use Rattle.disk_model.specs.Disk.{Contents}
use Rattle.manifest_codec.specs.declared.types.Manifest.{Manifest}
use Rattle.store_law.specs.Left.{HasNoWork}
use Rattle.open_store.specs.Store.{IsHeld, OpenStore}
use Rattle.query_text.specs.declared.fault.AnswerFault.{AnswerFault}
use Rattle.query_text.specs.declared.fault.AnswerFault.TheVariants as answers
use Rattle.query_text.specs.Answered.{IsBlamed, first_asked, print_causes, why_not_printed}
use Rattle.graspan_top.specs.Faults.{of_answer}
use Rattle.graspan_top.specs.Given.{HasCurrentWith, WhereCurrent}
use Rattle.graspan_top.specs.Looks.{AreVerticesOf, BlamesLoading, IsUnfinished, Wants, done_stage, dump_stages, finished_stages, found_stages, known_stage, parts_stages, query_stages, some_store_stage, wants_all, wants_one}
use Rattle.graspan_top.specs.Printed.{status_of}
use Rattle.graspan_top.specs.Refusals.{ArePassed, Explained, Refuses, Stage}
use Rattle.graspan_top.specs.Run.{IsShownText, printing_stage, store_stage}
use Rattle.graspan_top.proofs.StageLemmas.{Follow, answer_refuses, behind, both_follow, both_passed, counts_more, in_front, refused_by, refuses_by}
use Rattle.graspan_top.specs.declared.status.Status.{Status}
use Rattle.graspan_top.specs.declared.status.Status.TheVariants.{NotKnown, Unfinished}

-- ---- labels

module _ (names : List (List ℕ)) (label : List ℕ) where
  there : (k l : ℕ) → IsTable names → k < l → slice_get names k ≡ Some label → slice_get names l ≡ Some label → ⊥
  there k l table before one other =
      table.once k l [] before (slice_get_within names l label other) (get_or_from_slice_get names k label [] one ∙ sym (get_or_from_slice_get names l label [] other))

  -- a label has one number
  pub one_number : (k l : ℕ) → IsTable names → slice_get names k ≡ Some label → slice_get names l ≡ Some label → k ≡ l
  one_number k l table one other =
      elim (cases_order k l) [
        | inl same ↦ same
        | inr differ ↦
            elim differ [
              | inl below ↦ absurd (there k l table below one other)
              | inr above ↦ absurd (there l k table above other one)
            ]
      ]

  -- a label that has a number is there
  pub has_label : (k : ℕ) → slice_get names k ≡ Some label → Contains names label
  has_label k is = subst (λ (x : List ℕ). Contains names x) (get_or_from_slice_get names k label [] is) (Contains-get_or names k [] (slice_get_within names k label is))

abbrev labelled : ℕ → LabelId
labelled k = record { 0 = k }

same_answers : (names : List (List ℕ)) (label : List ℕ) (l k : LabelId) (edges : List Born) (text : List ℕ) → IsTable names → slice_get names l.0 ≡ Some label → slice_get names k.0 ≡ Some label → text ≡ answers_text k None None edges → text ≡ answers_text l None None edges
same_answers names label l k edges text table one other is = is ∙ ap (λ (n : ℕ). answers_text (labelled n) None None edges) (one_number names label k.0 l.0 table other one)

-- the text of a label that is shown is that of its number
pub shown_only : (names : List (List ℕ)) → IsTable names → (show : Option (List ℕ)) (label : List ℕ) (l : LabelId) → show ≡ Some label → slice_get names l.0 ≡ Some label → (edges : List Born) (text : List ℕ) → IsShownText names edges show text → text ≡ answers_text l None None edges
shown_only names table show label l is number edges text shown =
    let here = subst (λ (s : Option (List ℕ)). IsShownText names edges s text) is shown in
    same_answers names label l here.0 edges text table number here.1 here.2

-- ---- stages

-- a status is that of its result
pub status_at : {T : Type 0} (P : Status → Type 0) (r : Result T Status) (s : Status) → IsErrAnd r (λ y. y ≡ s) → P s → P (status_of r)
status_at P (Ok x) s is h = absurd is
status_at P (Err y) s is h = subst P (sym is) h

-- the label that is shown isn't there
pub refused_label : {T : Type 0} (names : List (List ℕ)) (show : Option (List ℕ)) (label : List ℕ) (r : Result T Status) (e : Status) → IsErrAnd r (λ y. y ≡ e) → e ≡ NotKnown → show ≡ Some label → (Contains names label → ⊥) → IfErr r (λ s. (s ≡ NotKnown) × (label : List ℕ) × (show ≡ Some label) × (Contains names label → ⊥))
refused_label names show label (Ok x) e is none shown lacks = absurd is
refused_label names show label (Err y) e is none shown lacks = (is ∙ none, label, shown, lacks)

-- a store that is held
module _ (tells : Bool) (c : Contents) (s : OpenStore) (held : IsTrue tells → IsHeld s c) where
  -- what is so of its manifest is so of the one that is current
  pub with_current : (P : Manifest → Type 0) → P s.manifest → HasCurrentWith tells c P
  with_current P p t = (s.manifest, (s.slot, (held t).current), p)

  pub where_current : (P : Manifest → Type 0) → P s.manifest → WhereCurrent tells c P
  where_current P p t m has = let a = (held t).current in let b = has.1 in let same : s.manifest ≡ m = cc in subst P same p

  -- the stages up to it are passed
  pub found_passed : (rose : Type 0) → ArePassed (found_stages tells c rose)
  found_passed rose = (λ t. inr (s, held t), (λ t. (s, held t), tt))

  pub finished_passed : HasNoWork s.manifest → (rose : Type 0) → ArePassed (finished_stages tells c rose)
  finished_passed done rose = both_passed (found_stages tells c rose) (done_stage tells c ∷ []) (found_passed rose) (where_current HasNoWork done, tt)

  -- it has work left
  pub unfinished_found : (rose : Type 0) (m : Manifest) (e : Status) → m ≡ s.manifest → (i j : ℕ) × (e ≡ Unfinished i j) × IsUnfinished m i j → Refuses (finished_stages tells c rose) e
  unfinished_found rose m e same (i, j, is, undone) =
      let here = subst (λ (k : Manifest). IsUnfinished k i j) same undone in
      subst (Refuses (finished_stages tells c rose)) (sym is)
      (behind (found_stages tells c rose) (done_stage tells c ∷ []) (found_passed rose) (work_left i j) (inl (with_current (λ k. IsUnfinished k i j) here)))

  -- parts: a write fails, or none does
  pub parts_refused : (rose out_rose : Type 0) (f : AnswerFault) → (f ≡ answers.WriteFault) × out_rose → Explained (parts_stages tells c rose out_rose) (of_answer f)
  parts_refused rose out_rose f h =
      subst (λ (a : AnswerFault). Explained (parts_stages tells c rose out_rose) (of_answer a)) (sym h.0)
      (behind (found_stages tells c rose) (printing_stage ⊥ out_rose blames_none ∷ []) (found_passed rose) write_failed (inl h.1))

  pub parts_passed : (rose out_rose : Type 0) → ArePassed (parts_stages tells c rose out_rose)
  parts_passed rose out_rose = both_passed (found_stages tells c rose) (printing_stage ⊥ out_rose blames_none ∷ []) (found_passed rose) (tt, tt)

  module _ (done : HasNoWork s.manifest) (rose out_rose : Type 0) where
    -- partitions that are wanted are loaded for printing
    loading_more : (w : Wants) (part : Type 0) (seen : Contents) → (part → rose) → seen ≡ c → Implies (print_causes out_rose part (IsBlamed s tells seen (w.first s) (w.number s))) (print_causes out_rose rose (BlamesLoading tells c w))
    loading_more w part seen more same =
        record {
          reads = λ h. h;
          disk = more;
          writes = λ h. h;
          text = λ file line kind h. h;
          other = λ file place h. h;
          bad = λ f p k h t. (s, held t, subst (λ (b : Bool). IsBlamed s b c (w.first s) (w.number s) f p k) t (subst (λ (d : Contents). IsBlamed s tells d (w.first s) (w.number s) f p k) same h));
          words = λ h. h;
          none = λ h. h;
          left = λ i j h. h;
          unknown = λ h. h;
        }

    abbrev printing : Wants → List Stage
    printing w = printing_stage rose out_rose (BlamesLoading tells c w) ∷ []

    pub dump_refused : (part : Type 0) (seen : Contents) → (part → rose) → seen ≡ c → (f : AnswerFault) → Holds (print_causes out_rose part (IsBlamed s tells seen 0 (length s.manifest.parts))) (why_not_printed f) → Explained (dump_stages tells c rose out_rose) (of_answer f)
    dump_refused part seen more same f h =
        let all = dump_stages tells c rose out_rose in
        refused_by all all (λ why k. k) (of_answer f)
        (answer_refuses all f (behind (finished_stages tells c rose) (printing wants_all) (finished_passed done rose) (why_not_printed f) (inl (holds_more _ _ (loading_more wants_all part seen more same) (why_not_printed f) h))))

    pub dump_passed : ArePassed (dump_stages tells c rose out_rose)
    dump_passed = both_passed (finished_stages tells c rose) (printing wants_all) (finished_passed done rose) (tt, tt)

    module _ (label : List ℕ) (from : ℕ) (to : Option ℕ) where
      -- what is asked isn't there
      pub query_unknown : (e : Status) → e ≡ NotKnown → (Contains s.manifest.labels label → ⊥) ⊎ (AreVerticesOf s.manifest from to → ⊥) → Explained (query_stages tells c label from to rose out_rose) e
      query_unknown e is lacks =
          subst (Explained (query_stages tells c label from to rose out_rose)) (sym is)
          (behind (finished_stages tells c rose) (known_stage tells c label from to ∷ printing (wants_one from)) (finished_passed done rose) not_known
          (inl (with_current (λ m. (Contains m.labels label → ⊥) ⊎ (AreVerticesOf m from to → ⊥)) lacks)))

      -- or it is
      module _ (known : Contains s.manifest.labels label × AreVerticesOf s.manifest from to) where
        known_passed : WhereCurrent tells c (λ m. Contains m.labels label × AreVerticesOf m from to)
        known_passed = where_current (λ m. Contains m.labels label × AreVerticesOf m from to) known

        pub query_refused : (part : Type 0) (seen : Contents) → (part → rose) → seen ≡ c → (f : AnswerFault) → Holds (print_causes out_rose part (IsBlamed s tells seen (first_asked s (Some from)) 1)) (why_not_printed f) → Explained (query_stages tells c label from to rose out_rose) (of_answer f)
        query_refused part seen more same f h =
            let all = query_stages tells c label from to rose out_rose in
            refused_by all all (λ why k. k) (of_answer f)
            (answer_refuses all f (behind (finished_stages tells c rose) (known_stage tells c label from to ∷ printing (wants_one from)) (finished_passed done rose) (why_not_printed f) (inr (known_passed, inl (holds_more _ _ (loading_more (wants_one from) part seen more same) (why_not_printed f) h)))))

        pub query_passed : ArePassed (query_stages tells c label from to rose out_rose)
        query_passed = both_passed (finished_stages tells c rose) (known_stage tells c label from to ∷ printing (wants_one from)) (finished_passed done rose) (known_passed, (tt, tt))

-- no store was found, or none without work left
pub not_finished : (tells : Bool) (c : Contents) (rose : Type 0) (e : Status) → Refuses (found_stages tells c rose) e → Refuses (finished_stages tells c rose) e
not_finished tells c rose e h = refuses_by (found_stages tells c rose) (finished_stages tells c rose) (in_front (found_stages tells c rose) (done_stage tells c ∷ [])) e h

module _ (tells : Bool) (c : Contents) (rose out_rose : Type 0) where
  pub parts_not_found : (e : Status) → Refuses (found_stages tells c rose) e → Explained (parts_stages tells c rose out_rose) e
  parts_not_found e h = refused_by (found_stages tells c rose) (parts_stages tells c rose out_rose) (in_front (found_stages tells c rose) (printing_stage ⊥ out_rose blames_none ∷ [])) e h

  pub dump_not_found : (e : Status) → Refuses (finished_stages tells c rose) e → Explained (dump_stages tells c rose out_rose) e
  dump_not_found e h = refused_by (finished_stages tells c rose) (dump_stages tells c rose out_rose) (in_front (finished_stages tells c rose) (printing_stage rose out_rose (BlamesLoading tells c wants_all) ∷ [])) e h

  pub query_not_found : (label : List ℕ) (from : ℕ) (to : Option ℕ) (e : Status) → Refuses (finished_stages tells c rose) e → Explained (query_stages tells c label from to rose out_rose) e
  query_not_found label from to e h =
      refused_by (finished_stages tells c rose) (query_stages tells c label from to rose out_rose)
      (in_front (finished_stages tells c rose) (known_stage tells c label from to ∷ printing_stage rose out_rose (BlamesLoading tells c (wants_one from)) ∷ [])) e h

-- counts that rose in a part rose in the whole
module _ (tells : Bool) (c : Contents) (rose rose' out_rose out_rose' : Type 0) (more : rose → rose') (out_more : out_rose → out_rose') where
  pub printing_more : (bad : ℕ → ℕ → FormKind → Type 0) → Follow (printing_stage rose out_rose bad ∷ []) (printing_stage rose' out_rose' bad ∷ [])
  printing_more bad = (counts_more (printing_stage rose out_rose bad).refuses ⊥ rose' out_rose' (λ h. h) more out_more, λ p. p, tt)

  found_more : Follow (found_stages tells c rose) (found_stages tells c rose')
  found_more = (
    counts_more (store_stage tells c rose).refuses ⊥ rose' ⊥ (λ h. h) more (λ h. h),
    λ p. p,
    (counts_more (some_store_stage tells c).refuses ⊥ ⊥ ⊥ (λ h. h) (λ h. h) (λ h. h), λ p. p, tt),
  )

  finished_more : Follow (finished_stages tells c rose) (finished_stages tells c rose')
  finished_more =
      both_follow (found_stages tells c rose) (found_stages tells c rose') (done_stage tells c ∷ []) (done_stage tells c ∷ []) found_more
      (counts_more (done_stage tells c).refuses ⊥ ⊥ ⊥ (λ h. h) (λ h. h) (λ h. h), λ p. p, tt)

  pub parts_more : Follow (parts_stages tells c rose out_rose) (parts_stages tells c rose' out_rose')
  parts_more =
      both_follow (found_stages tells c rose) (found_stages tells c rose') (printing_stage ⊥ out_rose blames_none ∷ []) (printing_stage ⊥ out_rose' blames_none ∷ []) found_more
      (counts_more (printing_stage ⊥ out_rose blames_none).refuses ⊥ ⊥ out_rose' (λ h. h) (λ h. h) out_more, λ p. p, tt)

  pub dump_more : Follow (dump_stages tells c rose out_rose) (dump_stages tells c rose' out_rose')
  dump_more =
      both_follow (finished_stages tells c rose) (finished_stages tells c rose') (printing_stage rose out_rose (BlamesLoading tells c wants_all) ∷ []) (printing_stage rose' out_rose' (BlamesLoading tells c wants_all) ∷ []) finished_more (printing_more (BlamesLoading tells c wants_all))

  pub query_more : (label : List ℕ) (from : ℕ) (to : Option ℕ) → Follow (query_stages tells c label from to rose out_rose) (query_stages tells c label from to rose' out_rose')
  query_more label from to =
      both_follow (finished_stages tells c rose) (finished_stages tells c rose') (known_stage tells c label from to ∷ printing_stage rose out_rose (BlamesLoading tells c (wants_one from)) ∷ []) (known_stage tells c label from to ∷ printing_stage rose' out_rose' (BlamesLoading tells c (wants_one from)) ∷ []) finished_more
      (counts_more (known_stage tells c label from to).refuses ⊥ ⊥ ⊥ (λ h. h) (λ h. h) (λ h. h), λ p. p, printing_more (BlamesLoading tells c (wants_one from)))
