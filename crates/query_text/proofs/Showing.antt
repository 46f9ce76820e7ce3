-- The lines of edges, part by part.
use Rattle.std.proofs.Common.{◌≡◌, ℕ, ◌+◌, ◌-◌, ◌^◌, ◌≤◌, ◌<◌, List, [], ◌∷◌, ◌++◌, length, Result, Ok, Err, Option, refl, sym, subst, ap, ◌∙◌, append-nil, take, drop, get_or, take-append-drop, arith, length-append}
use Rattle.std.specs.Prelude.{Bool, IsTrue, IsErrAnd, IfErr, IfOk, OnOk}
use Rattle.std.specs.List.{flat_map}
use Rattle.std.proofs.lemmas.Grind.{flat_map-append}
use Rattle.std.proofs.lemmas.List.{length-take, take_more}
use Rattle.std.proofs.lemmas.List.Elements.{filter-append}
use Rattle.std.proofs.lemmas.List.Sums.{count_by-le-length, length-filter}
use Rattle.faults.specs.Counts.{Rose}
use Rattle.faults.specs.Reasons.{HasReason, Holds, Implies, blames_none, disk_causes}
use Rattle.faults.proofs.Handed.{holds_more}
use Rattle.io_edge.specs.Devices.{AppendsPrefix}
use Rattle.graph_words.specs.declared.types.Born.{Born}
use Rattle.closing_machine.specs.Parts.{all_edges}
use Rattle.disk_model.specs.Disk.{Contents}
use Rattle.faults.specs.declared.form_kind.FormKind.{FormKind}
use Rattle.manifest_codec.specs.declared.types.Manifest.{Manifest}
use Rattle.store_law.specs.Listed.{part_file}
use Rattle.open_store.specs.Store.{IsOpenStore, OpenStore}
use Rattle.open_store.specs.PartRead.{IsRead, IsRefused}
use Rattle.query_text.specs.Answered.{AreRead, IsBlamed, ArePartsPrinted, print_causes, why_not_printed}
use Rattle.text_page.specs.Gathered.{Gathers, HasGathered}
use Rattle.query_text.specs.Shown.{IsGathered, is_shown, line_of, shown_in, shown_text}
use Rattle.query_text.specs.declared.fault.AnswerFault.{AnswerFault}
use Rattle.query_text.specs.declared.show.Show.{Show}
use Rattle.text_page.proofs.Gathering.{flushed, gathers_longer, gathers_none, gathers_then, nothing_taken}
use Rattle.query_text.proofs.Reading.{all_edges-append, few, read_none, read_one, read_then}

module _ (show : Show) (names : List (List ℕ)) where
  pub shown_in-append : (xs ys : List Born) → shown_in show names (xs ++ ys) ≡ shown_in show names xs ++ shown_in show names ys
  shown_in-append xs ys = filter-append (is_shown show names) xs ys

  pub shown_text-append : (xs ys : List Born) → shown_text show names (xs ++ ys) ≡ shown_text show names xs ++ shown_text show names ys
  shown_text-append xs ys = ap (λ (l : List Born). flat_map (line_of show names) l) (shown_in-append xs ys) ∙ flat_map-append (line_of show names) (shown_in show names xs) (shown_in show names ys)

  pub shown_number : (xs ys : List Born) → length (shown_in show names (xs ++ ys)) ≡ length (shown_in show names xs) + length (shown_in show names ys)
  shown_number xs ys = ap (λ (l : List Born). length l) (shown_in-append xs ys) ∙ length-append (shown_in show names xs) (shown_in show names ys)

module _ (s : OpenStore) (tells : Bool) (c : Contents) (show : Show) where
  abbrev text : List (List Born) → List ℕ
  text read = shown_text show s.manifest.labels (all_edges read)

  abbrev number : List (List Born) → ℕ
  number read = length (shown_in show s.manifest.labels (all_edges read))

  text_then : (xs ys : List (List Born)) → text (xs ++ ys) ≡ text xs ++ text ys
  text_then xs ys = ap (λ (l : List Born). shown_text show s.manifest.labels l) (all_edges-append xs ys) ∙ shown_text-append show s.manifest.labels (all_edges xs) (all_edges ys)

  number_then : (xs ys : List (List Born)) → number (xs ++ ys) ≡ number xs + number ys
  number_then xs ys = ap (λ (l : List Born). length (shown_in show s.manifest.labels l)) (all_edges-append xs ys) ∙ shown_number show s.manifest.labels (all_edges xs) (all_edges ys)

  -- no partition was read yet
  pub gathered_none : (first : ℕ) (a : Option (List ℕ)) (held : List ℕ) → first ≤ length s.manifest.parts → IsGathered s tells c first 0 show a held a held (Ok 0) []
  gathered_none first a held within =
      record {
        are_read = read_none s tells c first within;
        few = omega arith;
        all = omega arith;
        gathered = gathers_none a held;
        number = omega arith;
      }

  -- the partition was not read
  pub gathered_stopped : (i wanted : ℕ) (f : AnswerFault) (a : Option (List ℕ)) (held : List ℕ) (r : Result ℕ AnswerFault) → r ≡ Err f → i ≤ length s.manifest.parts → IsGathered s tells c i wanted show a held a held r []
  gathered_stopped i wanted f a held r is within =
      rw is
      (record {
        are_read = read_none s tells c i within;
        few = omega arith;
        all = tt;
        gathered = nothing_taken a (held ++ []);
        number = tt;
      })

  -- the partition was read, and its edges shown
  pub gathered_one : (i : ℕ) (edges shown_edges : List Born) (m : Manifest) (a b : Option (List ℕ)) (p q : List ℕ) (n : ℕ) → i < length s.manifest.parts → IsRead s i tells (c (part_file s.manifest i)) edges → m ≡ s.manifest → shown_edges ≡ edges → HasGathered a p b q (shown_text show m.labels shown_edges) → n ≡ length (shown_in show m.labels shown_edges) → IsGathered s tells c i 1 show a p b q (Ok n) (edges ∷ [])
  gathered_one i edges shown_edges m a b p q n there is same_manifest same_edges g number =
      record {
        are_read = read_one s tells c i edges there is;
        few = omega arith;
        all = refl;
        gathered = subst (λ (l : List Born). HasGathered a p b q (shown_text show s.manifest.labels l)) (same_edges ∙ sym (append-nil edges)) (subst (λ (x : Manifest). HasGathered a p b q (shown_text show x.labels shown_edges)) same_manifest g);
        number = number ∙ ap (λ (x : Manifest). length (shown_in show x.labels shown_edges)) same_manifest ∙ ap (λ (l : List Born). length (shown_in show s.manifest.labels l)) (same_edges ∙ sym (append-nil edges));
      }

  -- or a write failed
  pub gathered_unwritten : (i : ℕ) (edges shown_edges : List Born) (m : Manifest) (f : AnswerFault) (a b : Option (List ℕ)) (p q : List ℕ) (r : Result ℕ AnswerFault) → i < length s.manifest.parts → IsRead s i tells (c (part_file s.manifest i)) edges → m ≡ s.manifest → shown_edges ≡ edges → r ≡ Err f → AppendsPrefix a b (p ++ shown_text show m.labels shown_edges) → IsGathered s tells c i 1 show a p b q r (edges ∷ [])
  gathered_unwritten i edges shown_edges m f a b p q r there is same_manifest same_edges failed g =
      rw failed
      (record {
        are_read = read_one s tells c i edges there is;
        few = omega arith;
        all = tt;
        gathered = subst (λ (l : List Born). AppendsPrefix a b (p ++ shown_text show s.manifest.labels l)) (same_edges ∙ sym (append-nil edges)) (subst (λ (x : Manifest). AppendsPrefix a b (p ++ shown_text show x.labels shown_edges)) same_manifest g);
        number = tt;
      })

  -- a partition more, all of which are read
  pub gathered_then : (first k i x y : ℕ) (a b d : Option (List ℕ)) (p q r : List ℕ) (xs ys : List (List Born)) → first + k ≡ i → IsGathered s tells c first k show a p b q (Ok x) xs → IsGathered s tells c i 1 show b q d r (Ok y) ys → IsGathered s tells c first (k + 1) show a p d r (Ok (x + y)) (xs ++ ys)
  gathered_then first k i x y a b d p q r xs ys at g h =
      let e : i ≡ first + length xs = omega (arith, at, g.all) in
      record {
        are_read = read_then s tells c first xs ys g.are_read (subst (λ (n : ℕ). AreRead s tells c n ys) e h.are_read);
        few = omega (arith, g.few, h.few, length-append xs ys);
        all = omega (arith, g.all, h.all, length-append xs ys);
        gathered = subst (λ (l : List ℕ). Gathers {E = AnswerFault} a p d r (Ok (x + y)) l) (sym (text_then xs ys)) (gathers_then {F = AnswerFault} a b d p q r (Ok (x + y)) (text xs) (text ys) g.gathered h.gathered);
        number = omega (arith, g.number, h.number, number_then xs ys);
      }

  -- or which fails
  pub gathered_failed : (first k i wanted x : ℕ) (f : AnswerFault) (a b d : Option (List ℕ)) (p q r : List ℕ) (xs ys : List (List Born)) → first + k ≡ i → k + 1 ≤ wanted → IsGathered s tells c first k show a p b q (Ok x) xs → IsGathered s tells c i 1 show b q d r (Err f) ys → IsGathered s tells c first wanted show a p d r (Err f) (xs ++ ys)
  gathered_failed first k i wanted x f a b d p q r xs ys at more g h =
      let e : i ≡ first + length xs = omega (arith, at, g.all) in
      record {
        are_read = read_then s tells c first xs ys g.are_read (subst (λ (n : ℕ). AreRead s tells c n ys) e h.are_read);
        few = omega (arith, more, g.few, h.few, length-append xs ys);
        all = tt;
        gathered = subst (λ (l : List ℕ). Gathers {T = ℕ} {E = AnswerFault} a p d r (Err f) l) (sym (text_then xs ys)) (gathers_then {U = ℕ} a b d p q r (Err f) (text xs) (text ys) g.gathered h.gathered);
        number = tt;
      }

  -- what is blamed behind partitions that were read is blamed among all
  pub blamed_later : (first k i wanted file place : ℕ) (kind : FormKind) (xs : List (List Born)) → first + k ≡ i → k + 1 ≤ wanted → length xs ≡ k → AreRead s tells c first xs → IsBlamed s tells c i 1 file place kind → IsBlamed s tells c first wanted file place kind
  blamed_later first k i wanted file place kind xs at more all read b =
      let e : i ≡ first + length xs = omega (arith, at, all) in
      let whole : i + length b.read ≡ first + length (xs ++ b.read) = omega (arith, at, all, length-append xs b.read) in
      record {
        read = xs ++ b.read;
        are_read = read_then s tells c first xs b.read read (subst (λ (n : ℕ). AreRead s tells c n b.read) e b.are_read);
        more = omega (arith, more, all, b.more, length-append xs b.read);
        file_is = subst (λ (n : ℕ). file ≡ part_file s.manifest n) whole b.file_is;
        refused = λ t. subst (λ (n : ℕ). IsRefused s n (c file) place kind) whole (b.refused t);
      }

  -- so many lines are a u64
  pub gathered_fits : IsOpenStore s → (first k x : ℕ) (a b : Option (List ℕ)) (p q : List ℕ) (xs : List (List Born)) → IsGathered s tells c first k show a p b q (Ok x) xs → x < 2 ^ 64
  gathered_fits o first k x a b p q xs g = omega (arith, g.number, length-filter (is_shown show s.manifest.labels) (all_edges xs), count_by-le-length (is_shown show s.manifest.labels) (all_edges xs), few s tells c o first xs g.are_read)

-- ---- the steps of a walk, the disk being looked at again
module _ (s : OpenStore) (tells : Bool) (show : Show) (seen : Contents) where
  pub walk_on : (now : Contents) (first i x y : ℕ) (a b d : Option (List ℕ)) (p q r : List ℕ) (xs ys : List (List Born)) → now ≡ seen → first ≤ i → IsGathered s tells seen first (i - first) show a p b q (Ok x) xs → IsGathered s tells now i 1 show b q d r (Ok y) ys → IsGathered s tells seen first (i + 1 - first) show a p d r (Ok (x + y)) (xs ++ ys)
  walk_on now first i x y a b d p q r xs ys same order g h =
      let at : first + (i - first) ≡ i = omega (arith, order) in
      let e : (i - first) + 1 ≡ i + 1 - first = omega (arith, order) in
      subst (λ (k : ℕ). IsGathered s tells seen first k show a p d r (Ok (x + y)) (xs ++ ys)) e (gathered_then s tells seen show first (i - first) i x y a b d p q r xs ys at g (subst (λ (l : Contents). IsGathered s tells l i 1 show b q d r (Ok y) ys) same h))

  pub walk_failed : (now : Contents) (first i end x : ℕ) (f : AnswerFault) (a b d : Option (List ℕ)) (p q r : List ℕ) (xs ys : List (List Born)) (result : Result ℕ AnswerFault) → now ≡ seen → first ≤ i → i < end → result ≡ Err f → IsGathered s tells seen first (i - first) show a p b q (Ok x) xs → IsGathered s tells now i 1 show b q d r (Err f) ys → IsGathered s tells seen first (end - first) show a p d r result (xs ++ ys)
  walk_failed now first i end x f a b d p q r xs ys result same order below is g h =
      let at : first + (i - first) ≡ i = omega (arith, order) in
      let more : (i - first) + 1 ≤ end - first = omega (arith, order, below) in
      rw is (gathered_failed s tells seen show first (i - first) i (end - first) x f a b d p q r xs ys at more g (subst (λ (l : Contents). IsGathered s tells l i 1 show b q d r (Err f) ys) same h))

  pub walk_blames : (now : Contents) (first i end file place : ℕ) (kind : FormKind) (xs : List (List Born)) → now ≡ seen → first ≤ i → i < end → AreRead s tells seen first xs → length xs ≡ i - first → IsBlamed s tells now i 1 file place kind → IsBlamed s tells seen first (end - first) file place kind
  walk_blames now first i end file place kind xs same order below read all b =
      let at : first + (i - first) ≡ i = omega (arith, order) in
      let more : (i - first) + 1 ≤ end - first = omega (arith, order, below) in
      blamed_later s tells seen show first (i - first) i (end - first) file place kind xs at more all read (subst (λ (l : Contents). IsBlamed s tells l i 1 file place kind) same b)

-- a cause of a part of a call is one of the whole
pub print_more : (write_rose risen disk_rose later : Type 0) (bad worse : ℕ → ℕ → FormKind → Type 0) → (write_rose → risen) → (disk_rose → later)
    → ((file place : ℕ) (kind : FormKind) → bad file place kind → worse file place kind)
    → Implies (print_causes write_rose disk_rose bad) (print_causes risen later worse)
print_more write_rose risen disk_rose later bad worse w d up =
    record {
      reads = λ h. h;
      disk = d;
      writes = w;
      text = λ file line kind h. h;
      other = λ file place h. h;
      bad = up;
      words = λ h. h;
      none = λ h. h;
      left = λ i j h. h;
      unknown = λ h. h;
    }

-- one behind others
pub cause_later : (w0 w1 w2 d0 d1 d2 : ℕ) (bad worse : ℕ → ℕ → FormKind → Type 0) (f : AnswerFault) → w0 ≤ w1 → d0 ≤ d1 → ((file place : ℕ) (kind : FormKind) → bad file place kind → worse file place kind) → Holds (print_causes (Rose w1 w2) (Rose d1 d2) bad) (why_not_printed f) → Holds (print_causes (Rose w0 w2) (Rose d0 d2) worse) (why_not_printed f)
cause_later w0 w1 w2 d0 d1 d2 bad worse f w d up =
    holds_more _ _ (print_more (Rose w1 w2) (Rose w0 w2) (Rose d1 d2) (Rose d0 d2) bad worse (λ h. omega (arith, w, h)) (λ h. omega (arith, d, h)) up) (why_not_printed f)

-- one of the disk alone
pub cause_of_disk : (w0 w1 d0 d1 d2 : ℕ) (bad worse : ℕ → ℕ → FormKind → Type 0) (f : AnswerFault) → d0 ≤ d1 → ((file place : ℕ) (kind : FormKind) → bad file place kind → worse file place kind) → Holds (disk_causes (Rose d1 d2) bad) (why_not_printed f) → Holds (print_causes (Rose w0 w1) (Rose d0 d2) worse) (why_not_printed f)
cause_of_disk w0 w1 d0 d1 d2 bad worse f d up =
    holds_more _ _ (print_more ⊥ (Rose w0 w1) (Rose d1 d2) (Rose d0 d2) bad worse (λ h. absurd h) (λ h. omega (arith, d, h)) up) (why_not_printed f)

-- and of the sink alone
pub cause_of_sink : (w0 w1 w2 d0 d1 : ℕ) (worse : ℕ → ℕ → FormKind → Type 0) (f : AnswerFault) → w0 ≤ w1 → Holds (print_causes (Rose w1 w2) ⊥ blames_none) (why_not_printed f) → Holds (print_causes (Rose w0 w2) (Rose d0 d1) worse) (why_not_printed f)
cause_of_sink w0 w1 w2 d0 d1 worse f w =
    holds_more _ _ (print_more (Rose w1 w2) (Rose w0 w2) ⊥ (Rose d0 d1) blames_none worse (λ h. omega (arith, w, h)) (λ h. absurd h) (λ file place kind h. absurd h)) (why_not_printed f)

-- the one partition that was to be read is blamed
pub blamed_one : (s : OpenStore) (tells : Bool) (c : Contents) (i file place : ℕ) (kind : FormKind) → i < length s.manifest.parts → file ≡ part_file s.manifest i → (IsTrue tells → IsRefused s i (c file) place kind) → IsBlamed s tells c i 1 file place kind
blamed_one s tells c i file place kind there is refused =
    let e : i ≡ i + 0 = omega arith in
    record {
      read = [];
      are_read = read_none s tells c i (omega (arith, there));
      more = omega arith;
      file_is = subst (λ (n : ℕ). file ≡ part_file s.manifest n) e is;
      refused = λ t. subst (λ (n : ℕ). IsRefused s n (c file) place kind) e (refused t);
    }

-- the edge that stands for none
abbrev pub no_born : Born
no_born = record { edge = record { src = record { 0 = 0 }; label = record { 0 = 0 }; dst = record { 0 = 0 } }; birth = 0 }

-- one edge more
module _ (show : Show) (names : List (List ℕ)) (edges : List Born) (i : ℕ) (d : Born) (there : i < length edges) where
  pub text_more : shown_text show names (take (i + 1) edges) ≡ shown_text show names (take i edges) ++ shown_text show names (get_or edges i d ∷ [])
  text_more = ap (λ (l : List Born). shown_text show names l) (take_more edges i d there) ∙ shown_text-append show names (take i edges) (get_or edges i d ∷ [])

  pub number_more : length (shown_in show names (take (i + 1) edges)) ≡ length (shown_in show names (take i edges)) + length (shown_in show names (get_or edges i d ∷ []))
  number_more = ap (λ (l : List Born). length (shown_in show names l)) (take_more edges i d there) ∙ shown_number show names (take i edges) (get_or edges i d ∷ [])

  pub number_few : length (shown_in show names (take (i + 1) edges)) ≤ length edges
  number_few = omega (arith, there, length-filter (is_shown show names) (take (i + 1) edges), count_by-le-length (is_shown show names) (take (i + 1) edges), length-take (i + 1) edges)

  pub edge_gathered : (a b c : Option (List ℕ)) (p q r : List ℕ) → HasGathered a p b q (shown_text show names (take i edges)) → HasGathered b q c r (shown_text show names (get_or edges i d ∷ [])) → HasGathered a p c r (shown_text show names (take (i + 1) edges))
  edge_gathered a b c p q r g h = subst (λ (l : List ℕ). HasGathered a p c r l) (sym text_more) (gathers_then {U = Unit {0}} {F = Unit {0}} a b c p q r (Ok tt) (shown_text show names (take i edges)) (shown_text show names (get_or edges i d ∷ [])) g h)

  -- it failed, so a prefix of the whole was taken
  pub edge_failed : (a b c : Option (List ℕ)) (p q : List ℕ) → HasGathered a p b q (shown_text show names (take i edges)) → AppendsPrefix b c (q ++ shown_text show names (get_or edges i d ∷ [])) → AppendsPrefix a c (p ++ shown_text show names edges)
  edge_failed a b c p q g h =
      let front = gathers_then {U = Unit {0}} {F = Unit {0}} a b c p q q (Err tt) (shown_text show names (take i edges)) (shown_text show names (get_or edges i d ∷ [])) g h in
      let more = gathers_longer a c p (shown_text show names (take (i + 1) edges)) (shown_text show names (drop (i + 1) edges)) (subst (λ (l : List ℕ). AppendsPrefix a c (p ++ l)) (sym text_more) front) in
      let whole : shown_text show names edges ≡ shown_text show names (take (i + 1) edges) ++ shown_text show names (drop (i + 1) edges) = ap (λ (l : List Born). shown_text show names l) (sym (take-append-drop (i + 1) edges)) ∙ shown_text-append show names (take (i + 1) edges) (drop (i + 1) edges) in
      subst (λ (l : List ℕ). AppendsPrefix a c (p ++ l)) (sym whole) more

-- a fault is handed on
pub handed_on : (T : Type 0) (r : Result T AnswerFault) (e : AnswerFault) → IsErrAnd r (λ x. x ≡ e) → r ≡ Err e
handed_on T (Ok x) e is = absurd is
handed_on T (Err x) e is = ap (λ (f : AnswerFault). Err f) is

-- the partition that was to be read is why
pub cause_of_load : (s : OpenStore) (tells : Bool) (c : Contents) (i w d0 d1 : ℕ) (U : Type 0) (f : AnswerFault) (r : Result U AnswerFault) → i < length s.manifest.parts → r ≡ Err f → Holds (disk_causes (Rose d0 d1) (λ file place kind. (file ≡ part_file s.manifest i) × (IsTrue tells → IsRefused s i (c file) place kind))) (why_not_printed f) → HasReason why_not_printed (print_causes (Rose w w) (Rose d0 d1) (IsBlamed s tells c i 1)) r
cause_of_load s tells c i w d0 d1 U f r there is h =
    rw is (cause_of_disk w w d0 d0 d1 (λ file place kind. (file ≡ part_file s.manifest i) × (IsTrue tells → IsRefused s i (c file) place kind)) (IsBlamed s tells c i 1) f (omega arith) (λ file place kind b. blamed_one s tells c i file place kind there b.0 b.1) h)

pub cause_handed_on : (w0 w1 w2 d0 d1 d2 : ℕ) (bad worse : ℕ → ℕ → FormKind → Type 0) (U : Type 0) (f : AnswerFault) (r : Result U AnswerFault) → r ≡ Err f → w0 ≤ w1 → d0 ≤ d1 → ((file place : ℕ) (kind : FormKind) → bad file place kind → worse file place kind) → Holds (print_causes (Rose w1 w2) (Rose d1 d2) bad) (why_not_printed f) → HasReason why_not_printed (print_causes (Rose w0 w2) (Rose d0 d2) worse) r
cause_handed_on w0 w1 w2 d0 d1 d2 bad worse U f r is w d up h = rw is (cause_later w0 w1 w2 d0 d1 d2 bad worse f w d up h)

module _ (s : OpenStore) (tells : Bool) (c : Contents) (T : Type 0) (text : List Born → List ℕ) where
  -- nothing was read or printed
  pub printed_none : (first wanted : ℕ) (f : AnswerFault) (a : Option (List ℕ)) (r : Result T AnswerFault) (P : T → Type 0) → r ≡ Err f → first ≤ length s.manifest.parts → ArePartsPrinted s tells c first wanted text a a r [] × IfOk r P
  printed_none first wanted f a r P is within =
      rw is (
        record {
          are_read = read_none s tells c first within;
          few = omega arith;
          all = tt;
          taken = nothing_taken a (text []);
        },
        tt,
      )

  -- the last page was not taken
  pub printed_short : (first wanted : ℕ) (f : AnswerFault) (a b d : Option (List ℕ)) (page held : List ℕ) (read : List (List Born)) (r : Result T AnswerFault) (P : T → Type 0) → r ≡ Err f → page ≡ [] → AreRead s tells c first read → length read ≤ wanted → HasGathered a page b held (text (all_edges read)) → AppendsPrefix b d held → ArePartsPrinted s tells c first wanted text a d r read × IfOk r P
  printed_short first wanted f a b d page held read r P is blank are few gathered short =
      rw is (
        record {
          are_read = are;
          few = few;
          all = tt;
          taken = flushed {U = Unit {0}} {F = Unit {0}} a b d page held (Err tt) (text (all_edges read)) blank gathered short;
        },
        tt,
      )

-- ---- faults of a write alone

pub if_err_is : {T E : Type 0} (r : Result T E) (P : E → Type 0) → IsErrAnd r P → IfErr r P
if_err_is (Ok x) P is = absurd is
if_err_is (Err e) P is = is

pub if_err_any : {T E : Type 0} (r : Result T E) (P : E → Type 0) → ((e : E) → P e) → IfErr r P
if_err_any (Ok x) P all = tt
if_err_any (Err e) P all = all e

pub if_err_more : {T E : Type 0} (r : Result T E) (P Q : E → Type 0) → ((e : E) → P e → Q e) → IfErr r P → IfErr r Q
if_err_more (Ok x) P Q more p = tt
if_err_more (Err e) P Q more p = more e p

pub on_ok_any : {T E : Type 0} {A : Type 0} (r : Result T E) → A → OnOk r A
on_ok_any (Ok x) a = a
on_ok_any (Err e) a = tt
