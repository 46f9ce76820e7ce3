-- Which stage of a run refuses, from what its steps say.
use Rattle.std.proofs.Common.{◌≡◌, inl, inr, ℕ, ◌≤◌, List, [], ◌∷◌, length, Option, Some, Ok, Err, refl, sym, ap, subst, ◌∙◌, arith}
use Rattle.std.specs.Prelude.{IsTrue, Bool, Result, IfErr, IsErrAnd}
use Rattle.faults.specs.Counts.{Rose}
use Rattle.faults.specs.Reasons.{Causes, HasReason, Holds, Implies, Why, disk_causes}
use Rattle.faults.proofs.Handed.{disk_more, holds_more}
use Rattle.faults.specs.declared.kinds.InputFile.{InputFile}
use Rattle.faults.specs.declared.kinds.InputFile.TheVariants.{Grammar, Edges}
use Rattle.faults.specs.declared.kinds.InputKind.{InputKind}
use Rattle.edge_text.specs.EdgesText.{edges_fault}
use Rattle.grammar_norm.specs.GrammarText.{grammar_names}
use Rattle.disk_model.specs.Disk.{Contents}
use Rattle.manifest_codec.specs.declared.types.Manifest.{Manifest}
use Rattle.manifest_switch.specs.declared.slot.Found.TheVariants.{Blank}
use Rattle.manifest_switch.specs.Slots.{current_of}
use Rattle.manifest_switch.specs.Steps.{Stays}
use Rattle.store_law.specs.Left.{HasNoWork}
use Rattle.store_law.specs.Texts.{AreGood}
use Rattle.open_store.specs.Answers.{DiffersFirst, compare_causes, copy_of}
use Rattle.open_store.specs.Copy.{IsCopyRead}
use Rattle.open_store.specs.Opened.{IsBadStore}
use Rattle.open_store.specs.Store.{IsHeld, OpenStore}
use Rattle.store.specs.Import.{import_causes, texts_of}
use Rattle.closer.specs.Answers.{BlamesOnTheWay}
use Rattle.query_text.specs.Answered.{IsBlamed}
use Rattle.graspan_top.specs.Given.{Given, HasCurrent, WhereTold}
use Rattle.graspan_top.specs.Refusals.{ArePassed, Explained, FirstRefusal, Refuses, Rises, Stage}
use Rattle.graspan_top.specs.Run.{Accepts, BeginsWith, BlamesPrinting, DiffersFromStored, IsGoodGrammar, IsOpenedAs, IsStored}
use Rattle.graspan_top.specs.Run.{closed_stages, closing_stage, edges_stage, grammar_stage, label_stage, printing_stage, ready_stages, run_stages, same_grammar_stage, store_stage}
use Rattle.graspan_top.specs.Stages.{DiffersFrom, IsCopied, IsGrammarFile, compare_stages, show_stages}
use Rattle.graspan_top.specs.declared.status.Status.{Status}
use Rattle.graspan_top.proofs.MadeLemmas.{made_not_blamed}
use Rattle.graspan_top.proofs.StageLemmas.{Follow, Grow, behind, both_follow, both_passed, counts_more, explained_by, first_more, in_front, passed_more, refused_by, refuses_by}

-- a count that rose in a part of a call rose in it
pub rose_later : (before mid now last : ℕ) → before ≤ mid → now ≤ last → Rose mid now → Rose before last
rose_later before mid now last le more rose = omega (arith, le, more, rose)

-- what `?` hands on
pub if_err : {U E : Type 0} (r : Result U E) (e : E) (P : E → Type 0) → IsErrAnd r (λ x. x ≡ e) → P e → IfErr r P
if_err (Ok y) e P is p = tt
if_err (Err y) e P is p = subst P (sym is) p

-- a call that fails for a reason that is there
pub by_reason : {U E : Type 0} (why : E → Why) (c : Causes) (r : Result U E) (P : E → Type 0) → ((e : E) → Holds c (why e) → P e) → HasReason why c r → IfErr r P
by_reason why c (Ok y) P more h = tt
by_reason why c (Err e) P more h = more e h

-- the second of two comparisons, where the grammar is the copy
pub compared_second : (grammar edges edges' : Option (List ℕ)) (tells : Bool) (seen seen' : Contents) (m : Manifest) (gr er er' dr dr' : Type 0) → IsCopied grammar tells (copy_of m Grammar seen) → edges' ≡ edges → seen' ≡ seen → (er' → er) → (dr' → dr) → (why : Why) → Holds (compare_causes er' dr' (λ blamed place. (blamed ≡ Edges) × DiffersFrom edges' tells (copy_of m Edges seen') place)) why → FirstRefusal (compare_stages grammar edges tells seen m gr er dr) why
compared_second grammar edges edges' tells seen seen' m gr er er' dr dr' first told same reads disk why h =
    inr (
      first,
      inl
          (holds_more _ (compare_causes er dr (λ blamed place. (blamed ≡ Edges) × DiffersFrom edges tells (copy_of m Edges seen) place))
          (record {
            reads = reads;
            disk = disk;
            writes = λ k. k;
            text = λ file line kind k. k;
            other = λ file place k. (k.0, subst (λ (o : Option (List ℕ)). DiffersFrom o tells (copy_of m Edges seen) place) told (subst (λ (c : Contents). DiffersFrom edges' tells (copy_of m Edges c) place) same k.1));
            bad = λ file place kind k. k;
            words = λ k. k;
            none = λ k. k;
            left = λ i j k. k;
            unknown = λ k. k;
          }) why h),
    )

module _ (x : Given) (edges grammar : List ℕ) where
  -- ---- counts that rose in a part rose in the whole

  pub ready_more : (part whole : Rises) → Grow part whole → Follow (ready_stages x edges grammar part) (ready_stages x edges grammar whole)
  ready_more part whole grow = (
    counts_more (grammar_stage (x.told grammar) (part.reads grammar)).refuses (whole.reads grammar) ⊥ ⊥ (grow.reads grammar) (λ h. h) (λ h. h),
    λ p. p,
    (
      counts_more (store_stage x.tells x.before part.disk).refuses ⊥ whole.disk ⊥ (λ h. h) grow.disk (λ h. h),
      λ p. p,
      (
        counts_more (same_grammar_stage x grammar (part.reads grammar) part.disk).refuses (whole.reads grammar) whole.disk ⊥ (grow.reads grammar) grow.disk (λ h. h),
        λ p. p,
        (
          counts_more (edges_stage x edges grammar (part.reads edges) part.disk).refuses (whole.reads edges) whole.disk ⊥ (grow.reads edges) grow.disk (λ h. h),
          λ p. p,
          tt,
        ),
      ),
    ),
  )

  pub closed_more : (after : Contents) (part whole : Rises) → Grow part whole → Follow (closed_stages x edges grammar after part) (closed_stages x edges grammar after whole)
  closed_more after part whole grow =
      both_follow (ready_stages x edges grammar part) (ready_stages x edges grammar whole) (closing_stage x edges grammar after part.disk ∷ []) (closing_stage x edges grammar after whole.disk ∷ []) (ready_more part whole grow)
      (counts_more (closing_stage x edges grammar after part.disk).refuses ⊥ whole.disk ⊥ (λ h. h) grow.disk (λ h. h), λ p. p, tt)

  abbrev last_stages : Option (List ℕ) → Contents → Rises → List Stage
  last_stages show after rose = label_stage x.tells after show ∷ printing_stage rose.disk rose.writes (BlamesPrinting x edges grammar after) ∷ []

  pub run_more : (show : Option (List ℕ)) (after : Contents) (part whole : Rises) → Grow part whole → Follow (run_stages x edges grammar show after part) (run_stages x edges grammar show after whole)
  run_more show after part whole grow =
      both_follow (closed_stages x edges grammar after part) (closed_stages x edges grammar after whole) (last_stages show after part) (last_stages show after whole) (closed_more after part whole grow) (
        counts_more (label_stage x.tells after show).refuses ⊥ ⊥ ⊥ (λ h. h) (λ h. h) (λ h. h),
        λ p. p,
        (
          counts_more (printing_stage part.disk part.writes (BlamesPrinting x edges grammar after)).refuses ⊥ whole.disk whole.writes (λ h. h) grow.disk grow.writes,
          λ p. p,
          tt,
        ),
      )

  -- ---- up to a store of the two files

  -- the grammar file is refused
  pub grammar_refused : (rose : Rises) (s : Status) → Refuses (grammar_stage (x.told grammar) (rose.reads grammar) ∷ []) s → Refuses (ready_stages x edges grammar rose) s
  grammar_refused rose s h =
      let a : List Stage = grammar_stage (x.told grammar) (rose.reads grammar) ∷ [] in
      let b : List Stage = store_stage x.tells x.before rose.disk ∷ same_grammar_stage x grammar (rose.reads grammar) rose.disk ∷ edges_stage x edges grammar (rose.reads edges) rose.disk ∷ [] in
      refuses_by a (ready_stages x edges grammar rose) (in_front a b) s h

  -- what a later part of a call explains, which was told the same
  pub told_later : (told' : List ℕ → Option (List ℕ)) (part whole : Rises) → told' ≡ x.told → Grow part whole → (why : Why) → FirstRefusal (ready_stages (record { told = told'; tells = x.tells; before = x.before }) edges grammar part) why → FirstRefusal (ready_stages x edges grammar whole) why
  told_later told' part whole same grow why h =
      first_more (ready_stages x edges grammar part) (ready_stages x edges grammar whole) (ready_more part whole grow) why
      (subst (λ (t : List ℕ → Option (List ℕ)). FirstRefusal (ready_stages (record { told = t; tells = x.tells; before = x.before }) edges grammar part) why) same h)

  -- a good grammar was read, which is the file
  module _ (text : List ℕ) (file : IsGrammarFile (x.told grammar) text) where
    pub good_file : WhereTold (x.told grammar) IsGoodGrammar
    good_file f told = subst IsGoodGrammar (file.is_file f told) file.good

    -- opening is refused
    pub open_refused : (rose : Rises) (why : Why) → Holds (disk_causes rose.disk (λ file place kind. IsTrue x.tells → IsBadStore x.before file place kind)) why → FirstRefusal (ready_stages x edges grammar rose) why
    open_refused rose why h = inr (good_file, inl h)

    -- the disk is blank
    module _ (blank : IsTrue x.tells → current_of x.before ≡ Ok Blank) where
      none_current : (P : Type 0) → IsTrue x.tells → (m : Manifest) → HasCurrent x.before m → P
      none_current P tells m has = let a = blank tells in let b = has.1 in absurd (cc)

      -- and the import is refused
      first_fault : (f : InputFile) (line : ℕ) (kind : InputKind) → ((e : List ℕ) → x.told edges ≡ Some e → edges_fault 0 (grammar_names text) e ≡ Some (record { line = line; kind = kind })) → WhereTold (x.told grammar) (λ g. WhereTold (x.told edges) (λ e. edges_fault 0 (grammar_names g) e ≡ Some (record { line = line; kind = kind })))
      first_fault f line kind h g tg e te =
          subst (λ (r : List ℕ). edges_fault 0 (grammar_names r) e ≡ Some (record { line = line; kind = kind })) (file.is_file g tg) (h e te)

      import_implies : (er dr dr' : Type 0) → (dr → dr') → Implies (import_causes text (x.told edges) (IsTrue x.tells) er dr) (edges_stage x edges grammar er dr').refuses
      import_implies er dr dr' more =
          record {
            reads = λ h. h;
            disk = more;
            writes = λ h. h;
            text = λ f line kind h. (h.0, blank, first_fault f line kind h.1);
            other = λ f place h. absurd h;
            bad = λ f place kind h. h.why;
            words = λ h. h;
            none = λ h. h;
            left = λ i j h. h;
            unknown = λ h. h;
          }

      pub import_refused : (rose : Rises) (dr : Type 0) → (dr → rose.disk) → (why : Why) → Holds (import_causes text (x.told edges) (IsTrue x.tells) (rose.reads edges) dr) why → FirstRefusal (ready_stages x edges grammar rose) why
      import_refused rose dr more why h =
          inr (good_file, inr (λ tells. inl (blank tells), inr (λ tells m has. none_current _ tells m has, inl (holds_more _ _ (import_implies (rose.reads edges) dr rose.disk more) why h))))

      -- or it is made
      pub new_accepted : WhereTold (x.told grammar) (λ g. WhereTold (x.told edges) (λ e. AreGood (texts_of g e))) → Accepts x edges grammar
      new_accepted good =
          (good_file, (λ tells. inl (blank tells), (λ tells m has. none_current _ tells m has, ((λ tells m has. none_current _ tells m has, λ tells is. good), tt))))

    -- a store was found
    module _ (seen : Contents) (s : OpenStore) (held : IsTrue x.tells → IsHeld s seen) (stays : IsTrue x.tells → Stays x.before seen) where
      held_before : IsTrue x.tells → IsHeld s x.before
      held_before tells =
          record {
            current = sym (stays tells).same ∙ (held tells).current;
            grammar = subst (λ (c : List ℕ). IsCopyRead s.manifest c s.rules) ((stays tells).others 2 (omega arith) (omega arith)) (held tells).grammar;
          }

      the_current : IsTrue x.tells → (m : Manifest) → HasCurrent x.before m → s.manifest ≡ m
      the_current tells m has = let a = (held_before tells).current in let b = has.1 in cc

      not_blank : (P : Type 0) → IsTrue x.tells → current_of x.before ≡ Ok Blank → P
      not_blank P tells blank = let a = (held_before tells).current in absurd (cc)

      same_2 : IsTrue x.tells → copy_of s.manifest Grammar seen ≡ copy_of s.manifest Grammar x.before
      same_2 tells = let e = (stays tells).others 2 (omega arith) (omega arith) in rw e refl

      same_3 : IsTrue x.tells → copy_of s.manifest Edges seen ≡ copy_of s.manifest Edges x.before
      same_3 tells = let e = (stays tells).others 3 (omega arith) (omega arith) in rw e refl

      -- a copy that was compared is that of the store before
      module _ (f : InputFile) (told : Option (List ℕ)) (same : IsTrue x.tells → copy_of s.manifest f seen ≡ copy_of s.manifest f x.before) where
        differs : (blamed : InputFile) (place : ℕ) → (blamed ≡ f) × DiffersFrom told x.tells (copy_of s.manifest f seen) place → DiffersFromStored x f told blamed place
        differs blamed place h =
            (h.0, λ tells. (s.manifest, (s.slot, (held_before tells).current), λ text is. subst (λ (c : List ℕ). DiffersFirst text c place) (same tells) (h.1 text is tells)))

        stored : IsCopied told x.tells (copy_of s.manifest f seen) → IsStored x f told
        stored h tells m has text is = h text is tells ∙ same tells ∙ ap (λ (k : Manifest). copy_of k f x.before) (the_current tells m has)

      compare_more : (gr er dr dr' : Type 0) → (dr → dr') → Follow (compare_stages (x.told grammar) (x.told edges) x.tells seen s.manifest gr er dr) (same_grammar_stage x grammar gr dr' ∷ edges_stage x edges grammar er dr' ∷ [])
      compare_more gr er dr dr' more = (
        differ_more gr dr dr' more (x.told grammar) Grammar same_2,
        stored Grammar (x.told grammar) same_2,
        (
          record {
            reads = λ h. h;
            disk = more;
            writes = λ h. h;
            text = λ f line kind h. absurd h;
            other = differs Edges (x.told edges) same_3;
            bad = λ f place kind h. absurd h;
            words = λ h. h;
            none = λ h. h;
            left = λ i j h. h;
            unknown = λ h. h;
          },
          λ p. (stored Edges (x.told edges) same_3 p, λ tells blank. not_blank _ tells blank),
          tt,
        ),
      )
        where
          differ_more : (rr d d' : Type 0) → (d → d') → (told : Option (List ℕ)) (f : InputFile) → (same : IsTrue x.tells → copy_of s.manifest f seen ≡ copy_of s.manifest f x.before) → Implies (compare_causes rr d (λ blamed place. (blamed ≡ f) × DiffersFrom told x.tells (copy_of s.manifest f seen) place)) (compare_causes rr d' (DiffersFromStored x f told))
          differ_more rr d d' later told f same =
              record {
                reads = λ h. h;
                disk = later;
                writes = λ h. h;
                text = λ file line kind h. h;
                other = differs f told same;
                bad = λ file place kind h. h;
                words = λ h. h;
                none = λ h. h;
                left = λ i j h. h;
                unknown = λ h. h;
              }

      -- and is not of the two files
      pub compare_refused : (rose : Rises) (dr : Type 0) → (dr → rose.disk) → (why : Why) → FirstRefusal (compare_stages (x.told grammar) (x.told edges) x.tells seen s.manifest (rose.reads grammar) (rose.reads edges) dr) why → FirstRefusal (ready_stages x edges grammar rose) why
      compare_refused rose dr more why h =
          inr (good_file, inr (λ tells. inr (s, held_before tells), first_more (compare_stages (x.told grammar) (x.told edges) x.tells seen s.manifest (rose.reads grammar) (rose.reads edges) dr) (same_grammar_stage x grammar (rose.reads grammar) rose.disk ∷ edges_stage x edges grammar (rose.reads edges) rose.disk ∷ []) (compare_more (rose.reads grammar) (rose.reads edges) dr rose.disk more) why h))

      -- or is
      pub found_accepted : IsCopied (x.told grammar) x.tells (copy_of s.manifest Grammar seen) → IsCopied (x.told edges) x.tells (copy_of s.manifest Edges seen) → Accepts x edges grammar
      found_accepted is_grammar is_edges =
          (good_file, (λ tells. inr (s, held_before tells), (stored Grammar (x.told grammar) same_2 is_grammar, ((stored Edges (x.told edges) same_3 is_edges, λ tells blank. not_blank _ tells blank), tt))))

  -- ---- the closing and the printing

  -- no store was ready
  pub ready_refused : (after : Contents) (rose : Rises) (s : Status) → Refuses (ready_stages x edges grammar rose) s → Refuses (closed_stages x edges grammar after rose) s
  ready_refused after rose s h =
      refuses_by (ready_stages x edges grammar rose) (closed_stages x edges grammar after rose) (in_front (ready_stages x edges grammar rose) (closing_stage x edges grammar after rose.disk ∷ [])) s h

  -- and so the run is refused
  pub closed_refused : (show : Option (List ℕ)) (after : Contents) (part whole : Rises) → Grow part whole → (s : Status) → Refuses (closed_stages x edges grammar after part) s → Explained (run_stages x edges grammar show after whole) s
  closed_refused show after part whole grow s h =
      refused_by (closed_stages x edges grammar after part) (run_stages x edges grammar show after whole)
      (λ why k. in_front (closed_stages x edges grammar after whole) (last_stages show after whole) why (first_more (closed_stages x edges grammar after part) (closed_stages x edges grammar after whole) (closed_more after part whole grow) why k)) s h

  module _ (accepts : Accepts x edges grammar) where
    -- the closing is refused
    pub close_refused : (after seen : Contents) (s : OpenStore) → (IsTrue x.tells → BeginsWith x seen s) → (IsTrue x.tells → IsOpenedAs x edges grammar seen s) → (rose : Rises) (dr : Type 0) → (dr → rose.disk) → (why : Why) → Holds (disk_causes dr (BlamesOnTheWay s x.tells seen)) why → FirstRefusal (closed_stages x edges grammar after rose) why
    close_refused after seen s from opened rose dr more why h =
        behind (ready_stages x edges grammar rose) (closing_stage x edges grammar after rose.disk ∷ []) accepts why
        (inl
        (holds_more _ _
        (disk_more dr rose.disk (BlamesOnTheWay s x.tells seen) _ more
        (λ f place kind b tells.
        let here = subst (λ (k : Bool). BlamesOnTheWay s k seen f place kind) tells b in
        elim (from tells) [
          | inl stays ↦ record { seen = seen; store = s; stays = stays; opened = opened tells; blames = here }
          | inr (t, parts, st) ↦ absurd (made_not_blamed t s seen parts st (opened tells).held f place kind here)
        ])) why h))

    -- the store is closed
    module _ (after : Contents) (s : OpenStore) (opened : IsTrue x.tells → IsOpenedAs x edges grammar after s) (done : HasNoWork s.manifest) (rose : Rises) where
      closed_passed : ArePassed (closed_stages x edges grammar after rose)
      closed_passed = both_passed (ready_stages x edges grammar rose) (closing_stage x edges grammar after rose.disk ∷ []) accepts (λ tells. (s, opened tells, done), tt)

      show_more : (show : Option (List ℕ)) (dr wr : Type 0) → (dr → rose.disk) → (wr → rose.writes) → Follow (show_stages s x.tells after show dr wr) (last_stages show after rose)
      show_more show dr wr d w = (
        counts_more (label_stage x.tells after show).refuses ⊥ ⊥ ⊥ (λ h. h) (λ h. h) (λ h. h),
        λ p. p,
        (
          record {
            reads = λ h. h;
            disk = d;
            writes = w;
            text = λ file line kind h. h;
            other = λ file place h. h;
            bad = λ f place kind b tells. (s, opened tells, subst (λ (k : Bool). IsBlamed s k after 0 (length s.manifest.parts) f place kind) tells b);
            words = λ h. h;
            none = λ h. h;
            left = λ i j h. h;
            unknown = λ h. h;
          },
          λ p. p,
          tt,
        ),
      )

      -- what its printing answers explains the run
      pub show_explained : (show : Option (List ℕ)) (dr wr : Type 0) → (dr → rose.disk) → (wr → rose.writes) → (status : Status) → Explained (show_stages s x.tells after show dr wr) status → Explained (run_stages x edges grammar show after rose) status
      show_explained show dr wr d w status h =
          explained_by (show_stages s x.tells after show dr wr) (run_stages x edges grammar show after rose)
          (λ why k. behind (closed_stages x edges grammar after rose) (last_stages show after rose) closed_passed why (first_more (show_stages s x.tells after show dr wr) (last_stages show after rose) (show_more show dr wr d w) why k))
          (λ p. both_passed (closed_stages x edges grammar after rose) (last_stages show after rose) closed_passed (passed_more (show_stages s x.tells after show dr wr) (last_stages show after rose) (show_more show dr wr d w) p)) status h
