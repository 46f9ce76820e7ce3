-- What the commands that only read a store print.
use Rattle.std.proofs.Common.{◌≡◌, ◌⊎◌, inl, inr, ℕ, ◌+◌, ◌<◌, Bool, List, [], ◌∷◌, ◌++◌, length, Option, Some, Ok, Err, refl, sym, ap, subst, ◌∙◌, append-nil, arith}
use Rattle.std.specs.Prelude.{IsTrue, IsErrAnd, Result, slice_get, slice_index_or}
use Rattle.std.specs.Io.KnownBytes.{Appends}
use Rattle.io_edge.specs.Devices.{AppendsPrefix}
use Rattle.io_edge.proofs.DeviceLemmas.{AppendsPrefix-more, takes_more}
use Rattle.graph_words.specs.declared.types.LabelId.{LabelId}
use Rattle.graph_words.specs.declared.types.Born.{Born}
use Rattle.graph_words.specs.declared.types.Rule.{Rule}
use Rattle.normal_law.specs.NormalForm.{normal_form}
use Rattle.closing_machine.specs.State.{place}
use Rattle.closing_machine.specs.Parts.{all_edges}
use Rattle.disk_model.specs.Disk.{Contents}
use Rattle.partition_file.specs.Spelling.{FitsPart, IsExpect, Part}
use Rattle.partition_file.proofs.FileLaws.{one_part}
use Rattle.dest_map.specs.Table.{Comes, counts_of}
use Rattle.pair_sched.specs.Marks.{joined_of, newest_of}
use Rattle.pair_sched.specs.Pick.{IsLeastDirty}
use Rattle.manifest_codec.specs.declared.types.Manifest.{Manifest}
use Rattle.manifest_switch.specs.declared.slot.Found.{Found}
use Rattle.manifest_switch.specs.declared.slot.Found.TheVariants.{At, Blank}
use Rattle.manifest_switch.specs.declared.slot.OpenFault.{OpenFault}
use Rattle.store_law.specs.Listed.{AreListed, ends_of, expect_of, part_file, part_of}
use Rattle.store_law.specs.Left.{HasNoWork}
use Rattle.store_law.proofs.Intervals.{cut_from_cover}
use Rattle.open_store.specs.Copy.{IsCopyRead}
use Rattle.open_store.specs.Store.{IsHeld, IsOpenStore, OpenStore, expect_in}
use Rattle.open_store.specs.PartRead.{IsRead}
use Rattle.query_text.specs.Answered.{AreListedIn, AreRead, ArePartsPrinted}
use Rattle.query_text.specs.Text.{IsStateLine, answers_in, answers_text, dump_text, head_text, unfinished_line}
use Rattle.query_text.specs.Text.IsStateLine.{finished, unfinished}
use Rattle.query_text.specs.declared.fault.AnswerFault.{AnswerFault}
use Rattle.query_text.specs.declared.fault.AnswerFault.TheVariants as answers
use Rattle.text_page.proofs.Gathering.{nothing_taken}
use Rattle.query_text.proofs.Reading.{ends_within}
use Rattle.query_text.proofs.Showing.{handed_on}
use Rattle.graspan_top.specs.Faults.{of_answer}
use Rattle.graspan_top.specs.Given.{HasCurrent}
use Rattle.graspan_top.specs.Looks.{IsDumpFront, IsDumpText, IsPartEnd, IsPartsText, IsQueryText, count_line}
use Rattle.graspan_top.specs.Printed.{Begins, IsNothingOr, PrintsFirst, TakesBegun, TakesPrefix, status_of}
use Rattle.graspan_top.specs.Run.{IsFinishedStore}
use Rattle.graspan_top.specs.declared.status.Status.{Status}
use Rattle.graspan_top.specs.declared.status.Status.TheVariants.{Done, Words, InputFault, OtherInput, ReadFault, DiskFault, WriteFault, NoMemory, BadStore, NoStore, Unfinished, NotKnown}
use Rattle.graspan_top.proofs.LookLemmas.{one_number, status_at}
use Rattle.graspan_top.proofs.ShowLemmas.{told_of_read}

-- ---- a prefix of the text

part_printed : (tells : Bool) (IsText : List ℕ → Type 0) (old new : Option (List ℕ)) (f : AnswerFault) → TakesPrefix tells IsText old new → PrintsFirst tells IsText old new (of_answer f)
part_printed tells IsText old new answers.DiskFault h = h
part_printed tells IsText old new (answers.BadStore file place kind) h = h
part_printed tells IsText old new answers.WriteFault h = h
part_printed tells IsText old new answers.NoMemory h = h

-- a call that printed failed
pub printed_short : {T : Type 0} (tells : Bool) (IsText : List ℕ → Type 0) (old new : Option (List ℕ)) (f : AnswerFault) (r : Result T Status) → IsErrAnd r (λ y. y ≡ of_answer f) → TakesPrefix tells IsText old new → PrintsFirst tells IsText old new (status_of r)
printed_short tells IsText old new f r is h = status_at (λ (y : Status). PrintsFirst tells IsText old new y) r (of_answer f) is (part_printed tells IsText old new f h)

begun_part : (tells : Bool) (IsBegun : List ℕ → Type 0) (old new : Option (List ℕ)) (f : AnswerFault) → TakesBegun tells IsBegun old new → Begins tells IsBegun old new (of_answer f)
begun_part tells IsBegun old new answers.DiskFault h = h
begun_part tells IsBegun old new (answers.BadStore file place kind) h = h
begun_part tells IsBegun old new answers.WriteFault h = h
begun_part tells IsBegun old new answers.NoMemory h = h

pub begun_short : {T : Type 0} (tells : Bool) (IsBegun : List ℕ → Type 0) (old new : Option (List ℕ)) (f : AnswerFault) (r : Result T Status) → IsErrAnd r (λ y. y ≡ of_answer f) → TakesBegun tells IsBegun old new → Begins tells IsBegun old new (status_of r)
begun_short tells IsBegun old new f r is h = status_at (λ (y : Status). Begins tells IsBegun old new y) r (of_answer f) is (begun_part tells IsBegun old new f h)

-- nothing was begun
module _ (tells : Bool) (IsText : List ℕ → Type 0) (old : Option (List ℕ)) where
  none_begun : TakesBegun tells (IsNothingOr IsText) old old
  none_begun t = ([], inl refl, nothing_taken old [])

  pub nothing_begun : (s : Status) → Begins tells (IsNothingOr IsText) old old s
  nothing_begun Done = tt
  nothing_begun Words = tt
  nothing_begun (InputFault file line kind) = tt
  nothing_begun (OtherInput file place) = tt
  nothing_begun ReadFault = tt
  nothing_begun DiskFault = none_begun
  nothing_begun WriteFault = none_begun
  nothing_begun NoMemory = none_begun
  nothing_begun (BadStore file place kind) = none_begun
  nothing_begun NoStore = tt
  nothing_begun (Unfinished i j) = tt
  nothing_begun NotKnown = tt

-- ---- what the contents hold is one store

abbrev manifest_at : Manifest → Result Found OpenFault → Manifest
manifest_at m (Ok (At slot found)) = found
manifest_at m (Ok Blank) = m
manifest_at m (Err f) = m

module _ (s : OpenStore) (c : Contents) (held : IsHeld s c) where
  pub one_manifest : (m : Manifest) → HasCurrent c m → m ≡ s.manifest
  one_manifest m current = ap (λ (x : Result Found OpenFault). manifest_at m x) (sym current.1 ∙ held.current)

  pub one_grammar : (rules : List Rule) → IsCopyRead s.manifest (c 2) rules → rules ≡ s.rules
  one_grammar rules copy = copy.reads.rules_are [] ∙ sym (held.grammar.reads.rules_are [])

-- ---- the state

same_pair : (i j a b : ℕ) → ((i ≡ a) × (j ≡ b)) ⊎ Comes i j a b → ((a ≡ i) × (b ≡ j)) ⊎ Comes a b i j → (i ≡ a) × (j ≡ b)
same_pair i j a b (inl same) y = same
same_pair i j a b (inr before) (inl same) = (sym same.0, sym same.1)
same_pair i j a b (inr (inl l)) (inr (inl m)) = absurd (omega (arith, l, m))
same_pair i j a b (inr (inl l)) (inr (inr m)) = absurd (omega (arith, l, m.0))
same_pair i j a b (inr (inr l)) (inr (inl m)) = absurd (omega (arith, l.0, m))
same_pair i j a b (inr (inr l)) (inr (inr m)) = absurd (omega (arith, l.1, m.1))

module _ (m : Manifest) where
  abbrev IsLeast : ℕ → ℕ → Type 0
  IsLeast i j = IsLeastDirty (counts_of m.map) (joined_of m.marks) (newest_of m.marks) (length m.parts) i j

  one_pair : (i j a b : ℕ) → IsLeast i j → IsLeast a b → (i ≡ a) × (j ≡ b)
  one_pair i j a b x y = same_pair i j a b (x.first a b y.first_below y.second_below y.dirty) (y.first i j x.first_below x.second_below x.dirty)

  -- a manifest has one state
  pub one_state : (x y : List ℕ) → IsStateLine m x → IsStateLine m y → x ≡ y
  one_state x y (finished clean) (finished other) = refl
  one_state x y (finished clean) (unfinished a b least) = absurd (clean a b least.first_below least.second_below least.dirty)
  one_state x y (unfinished i j least) (finished clean) = absurd (clean i j least.first_below least.second_below least.dirty)
  one_state x y (unfinished i j least) (unfinished a b other) =
      let same = one_pair i j a b least other in
      (λ k. unfinished_line (same.0 k) (same.1 k))

-- ---- parts

pub parts_short : (s : OpenStore) (c : Contents) (tells : Bool) (state : List ℕ) (old new : Option (List ℕ)) → (IsTrue tells → IsHeld s c) → IsStateLine s.manifest state → AppendsPrefix old new (head_text s.manifest ++ state) → TakesPrefix tells (IsPartsText c) old new
parts_short s c tells state old new held is_state h text t is =
    let same = one_manifest s c (held t) is.manifest is.current in
    let state_is = subst (λ (m : Manifest). IsStateLine m is.state) same is.state_is in
    let whole = is.printed ∙ ap (λ (m : Manifest). head_text m ++ is.state) same ∙ ap (λ (l : List ℕ). head_text s.manifest ++ l) (one_state s.manifest is.state state state_is is_state) in
    subst (λ (l : List ℕ). AppendsPrefix old new l) (sym whole) h

pub parts_begun : (s : OpenStore) (c : Contents) (tells : Bool) (state : List ℕ) (old new : Option (List ℕ)) → (IsTrue tells → IsHeld s c) → IsStateLine s.manifest state → AppendsPrefix old new (head_text s.manifest ++ state) → TakesBegun tells (IsNothingOr (IsPartsText c)) old new
parts_begun s c tells state old new held is_state h t =
    let text : IsPartsText c (head_text s.manifest ++ state) = record { manifest = s.manifest; current = (s.slot, (held t).current); state = state; state_is = is_state; printed = refl } in
    (head_text s.manifest ++ state, inr text, h)

-- ---- dump

module _ (s : OpenStore) (c now : Contents) (same : now ≡ c) (tells : Bool) (held : IsTrue tells → IsHeld s c) (old new : Option (List ℕ)) where
  pub dump_short : (IsTrue tells → (parts : List (List Born)) → AreListedIn s now parts → AppendsPrefix old new (dump_text s.manifest.labels (all_edges parts))) → TakesPrefix tells (IsDumpText c) old new
  dump_short listed text t is =
      let same_manifest = one_manifest s c (held t) is.manifest (is.end.slot, is.end.current) in
      let end = subst (λ (m : Manifest). IsFinishedStore c m is.parts) same_manifest is.end in
      let here = subst (λ (rules : List Rule). AreListed c s.manifest (normal_form rules).fresh is.parts) (one_grammar s c (held t) end.rules end.grammar) end.listed in
      let part = listed t is.parts (subst (λ (x : Contents). AreListedIn s x is.parts) (sym same) here) in
      subst (λ (l : List ℕ). AppendsPrefix old new l) (sym (is.printed ∙ ap (λ (m : Manifest). dump_text m.labels (all_edges is.parts)) same_manifest)) part

  pub dump_begun : (f : AnswerFault) (read : List (List Born)) → HasNoWork s.manifest → ArePartsPrinted {T = Unit {0}} s tells now 0 (length s.manifest.parts) (dump_text s.manifest.labels) old new (Err f) read → TakesBegun tells (IsNothingOr (IsDumpFront c)) old new
  dump_begun f read done p t =
      let are = subst (λ (b : Bool). AreRead s b c 0 read) t (subst (λ (x : Contents). AreRead s tells x 0 read) same p.are_read) in
      let front : IsDumpFront c (dump_text s.manifest.labels (all_edges read)) = record { store = s; held = held t; done = done; read = read; are_read = are; printed = refl } in
      (dump_text s.manifest.labels (all_edges read), inr front, p.taken)

  -- all partitions were read
  read_listed : (read : List (List Born)) → IsTrue tells → AreRead s tells c 0 read → length read ≡ length s.manifest.parts → AreListedIn s c read
  read_listed read t are all =
      let each = λ (i : ℕ) (below : i < length s.manifest.parts). let e : 0 + i ≡ i = omega arith in subst (λ (n : ℕ). IsRead s n tells (c (part_file s.manifest n)) (slice_index_or read i [])) e (are.each i (omega (arith, below, all))) in
      record { size = all; spells = λ i below. (each i below).spells t; fits = λ i below. (each i below).fits }

  pub dump_whole : (read : List (List Born)) → HasNoWork s.manifest → ArePartsPrinted {T = Unit {0}} s tells now 0 (length s.manifest.parts) (dump_text s.manifest.labels) old new (Ok tt) read → IsTrue tells → (text : List ℕ) × IsDumpText c text × Appends old new text
  dump_whole read done printed t =
      let p = subst (λ (x : Contents). ArePartsPrinted {T = Unit {0}} s tells x 0 (length s.manifest.parts) (dump_text s.manifest.labels) old new (Ok tt) read) same printed in
      let end : IsFinishedStore c s.manifest read = record { slot = s.slot; current = (held t).current; rules = s.rules; grammar = (held t).grammar; listed = read_listed read t p.are_read p.all; told = told_of_read s tells c read p.are_read p.all; done = done } in
      (dump_text s.manifest.labels (all_edges read), record { manifest = s.manifest; parts = read; end = end; printed = refl }, p.taken)

-- ---- query

abbrev labelled : ℕ → LabelId
labelled k = record { 0 = k }

expected : (s : OpenStore) → IsOpenStore s → (i : ℕ) → IsExpect (expect_in s i)
expected s o i =
    let within = ends_within 0 s.manifest.vertices (ends_of s.manifest) i (cut_from_cover s.manifest.vertices 0 s.manifest.parts o.fits.cover) in
    record {
      lo = omega (arith, within.1, o.fits.vertices);
      hi = omega (arith, within.2, o.fits.vertices);
      vertices = omega (arith, o.fits.vertices);
      round = o.fits.rounds;
    }

module _ (s : OpenStore) (tells : Bool) (label : LabelId) (from : ℕ) (to : Option ℕ) where
  abbrev asked : ℕ
  asked = place (ends_of s.manifest) from

  abbrev lines : List Born → List ℕ
  lines edges = answers_text label (Some from) to edges

  abbrev number : List Born → ℕ
  number edges = length (answers_in label (Some from) to edges)

  abbrev whole : List Born → List ℕ
  whole edges = lines edges ++ count_line (number edges)

  -- the partition was read and all of it printed, or a prefix where the call failed, and of nothing where it wasn't read
  abbrev IsTaken : {T : Type 0} → Contents → Option (List ℕ) → Option (List ℕ) → Result T AnswerFault → List (List Born) → Type 0
  IsTaken c old new r read = ArePartsPrinted s tells c asked 1 whole old new r read × (length read ≡ 0 → AppendsPrefix old new [])

  none_read : (read : List (List Born)) (old new : Option (List ℕ)) → AppendsPrefix old new (lines (all_edges read)) → length read ≡ 0 → AppendsPrefix old new []
  none_read [] old new h none = h
  none_read (p ∷ read) old new h none = absurd (omega (arith, none))

  -- the answers failed
  pub query_stopped : {T : Type 0} (c : Contents) (f : AnswerFault) (old new : Option (List ℕ)) (read : List (List Born)) (r : Result T AnswerFault) → IsErrAnd r (λ y. y ≡ f) → ArePartsPrinted {T = ℕ} s tells c asked 1 lines old new (Err f) read → IsTaken c old new r read
  query_stopped {T} c f old new read r is p =
      rw (handed_on T r f is) (
        record {
          are_read = p.are_read;
          few = p.few;
          all = tt;
          taken = AppendsPrefix-more old new (lines (all_edges read)) (count_line (number (all_edges read))) p.taken;
        },
        none_read read old new p.taken,
      )

  module _ (c : Contents) (n : ℕ) (old mid new : Option (List ℕ)) (line : List ℕ) (read : List (List Born)) (p : ArePartsPrinted {T = ℕ} s tells c asked 1 lines old mid (Ok n) read) (is_number : n ≡ number (all_edges read)) (is_line : line ≡ count_line n) where
    is_last : line ≡ count_line (number (all_edges read))
    is_last = is_line ∙ ap (λ (k : ℕ). count_line k) is_number

    -- their number failed
    pub query_unwritten : {T : Type 0} (r : Result T AnswerFault) → IsErrAnd r (λ y. y ≡ answers.WriteFault) → AppendsPrefix mid new line → IsTaken c old new r read
    query_unwritten {T} r is h =
        let last = subst (λ (l : List ℕ). AppendsPrefix mid new l) is_last h in
        rw (handed_on T r answers.WriteFault is) (
          record {
            are_read = p.are_read;
            few = p.few;
            all = tt;
            taken = takes_more {T = Unit {0}} {E = Unit {0}} old mid new (Err tt) (lines (all_edges read)) (count_line (number (all_edges read))) p.taken last;
          },
          λ none. absurd (omega (arith, none, p.all)),
        )

    pub query_written : Appends mid new line → IsTaken {T = Unit {0}} c old new (Ok tt) read
    query_written h =
        let last = subst (λ (l : List ℕ). Appends mid new l) is_last h in (
          record {
            are_read = p.are_read;
            few = p.few;
            all = p.all;
            taken = takes_more {T = Unit {0}} {E = Unit {0}} old mid new (Ok tt) (lines (all_edges read)) (count_line (number (all_edges read))) p.taken last;
          },
          λ none. absurd (omega (arith, none, p.all)),
        )

  -- what of the contents is read, where they are told
  module _ (o : IsOpenStore s) (c : Contents) (held : IsHeld s c) (t : IsTrue tells) where
    first_read : (q : List Born) (rest : List (List Born)) → AreRead s tells c asked (q ∷ rest) → IsRead s asked tells (c (part_file s.manifest asked)) q
    first_read q rest are = let e : asked + 0 ≡ asked = omega arith in subst (λ (n : ℕ). IsRead s n tells (c (part_file s.manifest n)) q) e (are.each 0 (omega arith))

    -- the partition that was read is the one that the contents hold
    one_end : (edges q : List Born) (rest : List (List Born)) → IsPartEnd c s.manifest from edges → AreRead s tells c asked (q ∷ rest) → q ≡ edges
    one_end edges q rest end are =
        let r = first_read q rest are in
        let same_rules = one_grammar s c held end.rules end.grammar in
        let fits = subst (λ (rules : List Rule). FitsPart (expect_of s.manifest (normal_form rules).fresh asked) (part_of s.manifest asked edges)) same_rules end.fits in
        ap (λ (p : Part). p.edges) (one_part (expect_in s asked) (c (part_file s.manifest asked)) (part_of s.manifest asked q) (part_of s.manifest asked edges) (expected s o asked) r.fits fits (r.spells t) end.spells)

    same_label : (l : LabelId) (name : List ℕ) → slice_get s.manifest.labels label.0 ≡ Some name → slice_get s.manifest.labels l.0 ≡ Some name → l ≡ label
    same_label l name is other = ap (λ (k : ℕ). labelled k) (one_number s.manifest.labels name l.0 label.0 o.fits.labels other is)

    short_read : (old new : Option (List ℕ)) (f : AnswerFault) (edges : List Born) (read : List (List Born)) → IsPartEnd c s.manifest from edges → IsTaken {T = Unit {0}} c old new (Err f) read → AppendsPrefix old new (whole edges)
    short_read old new f edges [] end p = AppendsPrefix-more old new [] (whole edges) (p.1 refl)
    short_read old new f edges (q ∷ []) end p = subst (λ (e : List Born). AppendsPrefix old new (whole e)) (append-nil q ∙ one_end edges q [] end p.0.are_read) p.0.taken
    short_read old new f edges (q ∷ r ∷ rest) end p = absurd (omega (arith, p.0.few))

    short_text : (name : List ℕ) (old new : Option (List ℕ)) (f : AnswerFault) (read : List (List Born)) → slice_get s.manifest.labels label.0 ≡ Some name → IsTaken {T = Unit {0}} c old new (Err f) read → (text : List ℕ) → IsQueryText c name from to text → AppendsPrefix old new text
    short_text name old new f read is p text q =
        let same = one_manifest s c held q.manifest q.end.current in
        let end = subst (λ (m : Manifest). IsPartEnd c m from q.edges) same q.end in
        let number_is = same_label q.number name is (subst (λ (m : Manifest). slice_get m.labels q.number.0 ≡ Some name) same q.is_number) in
        let printed = q.printed ∙ ap (λ (l : LabelId). answers_text l (Some from) to q.edges ++ count_line (length (answers_in l (Some from) to q.edges))) number_is in
        subst (λ (l : List ℕ). AppendsPrefix old new l) (sym printed) (short_read old new f q.edges read end p)

    text_of : (name : List ℕ) (q : List Born) → slice_get s.manifest.labels label.0 ≡ Some name → HasNoWork s.manifest → AreRead s tells c asked (q ∷ []) → IsQueryText c name from to (whole q)
    text_of name q is done are =
        let r = first_read q [] are in
        let end : IsPartEnd c s.manifest from q = record { current = (s.slot, held.current); rules = s.rules; grammar = held.grammar; done = done; spells = r.spells t; fits = r.fits; told = r.told } in
        record { manifest = s.manifest; edges = q; end = end; number = label; is_number = is; printed = refl }

    whole_read : (name : List ℕ) (old new : Option (List ℕ)) (read : List (List Born)) → slice_get s.manifest.labels label.0 ≡ Some name → HasNoWork s.manifest → IsTaken {T = Unit {0}} c old new (Ok tt) read → (text : List ℕ) × IsQueryText c name from to text × Appends old new text
    whole_read name old new [] is done p = absurd (omega (arith, p.0.all))
    whole_read name old new (q ∷ []) is done p = (whole q, text_of name q is done p.0.are_read, subst (λ (e : List Born). Appends old new (whole e)) (append-nil q) p.0.taken)
    whole_read name old new (q ∷ r ∷ rest) is done p = absurd (omega (arith, p.0.few))

    begun_read : (name : List ℕ) (old new : Option (List ℕ)) (f : AnswerFault) (read : List (List Born)) → slice_get s.manifest.labels label.0 ≡ Some name → HasNoWork s.manifest → IsTaken {T = Unit {0}} c old new (Err f) read → (text : List ℕ) × IsNothingOr (IsQueryText c name from to) text × AppendsPrefix old new text
    begun_read name old new f [] is done p = ([], inl refl, p.1 refl)
    begun_read name old new f (q ∷ []) is done p = (whole q, inr (text_of name q is done p.0.are_read), subst (λ (e : List Born). AppendsPrefix old new (whole e)) (append-nil q) p.0.taken)
    begun_read name old new f (q ∷ r ∷ rest) is done p = absurd (omega (arith, p.0.few))

  module _ (o : IsOpenStore s) (c now : Contents) (same : now ≡ c) (held : IsTrue tells → IsHeld s c) (name : List ℕ) (is : slice_get s.manifest.labels label.0 ≡ Some name) (old new : Option (List ℕ)) (read : List (List Born)) where
    pub query_short : (f : AnswerFault) → IsTaken {T = Unit {0}} now old new (Err f) read → TakesPrefix tells (IsQueryText c name from to) old new
    query_short f p text t q = short_text o c (held t) t name old new f read is (subst (λ (x : Contents). IsTaken {T = Unit {0}} x old new (Err f) read) same p) text q

    pub query_whole : HasNoWork s.manifest → IsTaken {T = Unit {0}} now old new (Ok tt) read → IsTrue tells → (text : List ℕ) × IsQueryText c name from to text × Appends old new text
    query_whole done p t = whole_read o c (held t) t name old new read is done (subst (λ (x : Contents). IsTaken {T = Unit {0}} x old new (Ok tt) read) same p)

    pub query_begun : (f : AnswerFault) → HasNoWork s.manifest → IsTaken {T = Unit {0}} now old new (Err f) read → TakesBegun tells (IsNothingOr (IsQueryText c name from to)) old new
    query_begun f done p t = begun_read o c (held t) t name old new f read is done (subst (λ (x : Contents). IsTaken {T = Unit {0}} x old new (Err f) read) same p)
