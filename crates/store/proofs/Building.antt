-- One partition more is made and put.
use Rattle.std.proofs.Common.{◌≡◌, ◌≢◌, ℕ, ◌+◌, ◌<◌, List, [], ◌∷◌, ◌++◌, length, get_or, inl, inr, refl, sym, ap, ◌∙◌, subst, arith, length-append}
use Rattle.std.specs.Prelude.{All, map}
use Rattle.std.proofs.Math.Seq.{get_or-append_seam}
use Rattle.std.proofs.lemmas.Bool.{cases_lt}
use Rattle.std.proofs.lemmas.List.{get_or_append_left, length-map, map-append}
use Rattle.graph_words.specs.declared.types.Born.{Born}
use Rattle.graph_words.specs.Reach.{Graph, graph_with}
use Rattle.edge_text.specs.EdgesText.{edges_of}
use Rattle.normal_law.specs.NormalForm.{normal_form}
use Rattle.closing_machine.specs.Machine.{high, low}
use Rattle.closing_machine.specs.Parts.{all_edges}
use Rattle.disk_model.specs.Disk.{Contents, Sets}
use Rattle.intervals.specs.Bounds.{IsCut, low_of, vertices_of}
use Rattle.partition_file.specs.Spelling.{newest_format, FitsPart, Part, spelling}
use Rattle.dest_map.specs.Counts.{IsCountsOf}
use Rattle.dest_map.specs.Table.{counts_of}
use Rattle.manifest_codec.specs.declared.types.PartEntry.{PartEntry}
use Rattle.import_text.specs.Given.{AreGiven}
use Rattle.import_text.specs.GivenPart.{expect_given}
use Rattle.store.specs.declared.source.Source.{Source}
use Rattle.store.specs.declared.tables.Tables.{Tables}
use Rattle.store.specs.NewStore.{IsBuilt, IsCounted, IsPut, SameTexts, expect_at, graph_in, part_at}
use Rattle.store.proofs.Covering.{same_low}
use Rattle.store.proofs.PartLemmas.{one_part_more}

-- what holds of each element and of one more
pushed : {A : Type 0} (P : ℕ → A → Type 0) (xs : List A) (y d : A) (i : ℕ) → length xs ≡ i → ((k : ℕ) → k < i → P k (get_or xs k d)) → P i y → (k : ℕ) → k < i + 1 → P k (get_or (xs ++ y ∷ []) k d)
pushed P xs y d i size each last k within = elim (cases_lt k i) [
  | inl low ↦ subst (P k) (sym (get_or_append_left xs (y ∷ []) d k (omega (arith, low, size)))) (each k low)
  | inr past ↦
      let here : length xs ≡ k = omega (arith, size, past, within) in
      let seam : get_or (xs ++ y ∷ []) k d ≡ y = ap (λ (n : ℕ). get_or (xs ++ y ∷ []) n d) (sym here) ∙ get_or-append_seam xs y [] d in
      rw seam (subst (λ (n : ℕ). P n y) (sym size ∙ here) last)
]

-- the partition is that of interval i
pub is_part_at : (s : Source) (ends : List ℕ) (i : ℕ) (p : Part) → FitsPart (expect_at s ends i) p → p ≡ part_at ends i p.edges
is_part_at s ends i p f = λ j. record { lo = f.lo j; hi = f.hi j; edges = p.edges }

-- its edges may be counted
pub counted_part : (s : Source) (ends : List ℕ) (i : ℕ) (p : Part) → IsCut ends → i < length ends → vertices_of ends ≡ s.copied.vertices → FitsPart (expect_at s ends i) p → All (IsCounted ends i) p.edges
counted_part s ends i p cut within whole f = λ k d inside.
    let from = f.part.within k d inside in
    let each = f.each k d inside in
    record {
      source = record { number = within; low = omega (arith, from.0, f.lo, same_low ends i); high = omega (arith, from.1, f.hi) };
      destination = omega (arith, each.vertex, whole);
    }

module _ (s : Source) (ends : List ℕ) (tells : Type 0) (c d : Contents) (i : ℕ) (t u : Tables) (p : Part) (b : IsBuilt s ends tells c i t) (fits : FitsPart (expect_at s ends i) p) (given : tells → AreGiven (normal_form s.normal) (graph_in s c) (low ends i) (high ends i) p.edges)
    (entries : u.parts ≡ t.parts ++ record { hi = high ends i; file = 4 + i } ∷ []) (counts : (before : List Born) → IsCountsOf ends before t.map → IsCountsOf ends (before ++ p.edges) u.map) (others : (x y : ℕ) → x ≢ i → counts_of u.map x y ≡ counts_of t.map x y)
    (sets : tells → Sets (4 + i) (spelling newest_format p) c d) where
  pub same_copies : tells → SameTexts c d
  same_copies tell = record { grammar = (sets tell).others 2 (omega arith); edges = (sets tell).others 3 (omega arith) }

  same_graph : tells → graph_in s d ≡ graph_in s c
  same_graph tell = ap (λ (l : List ℕ). graph_with s.copied.vertices (edges_of s.copied.labels l)) (same_copies tell).edges

  put_before : tells → (k : ℕ) → k < i → IsPut s ends d k (get_or b.parts k [])
  put_before tell k less =
      let was = b.put tell k less in
      record {
        spelled = (sets tell).others (4 + k) (omega (arith, less)) ∙ was.spelled;
        given = subst (λ (g : Graph). AreGiven (normal_form s.normal) g (low ends k) (high ends k) (get_or b.parts k [])) (sym (same_graph tell)) was.given;
      }

  put_here : tells → IsPut s ends d i p.edges
  put_here tell =
      record {
        spelled = (sets tell).here ∙ ap (spelling newest_format) (is_part_at s ends i p fits);
        given = subst (λ (g : Graph). AreGiven (normal_form s.normal) g (low ends i) (high ends i) p.edges) (sym (same_graph tell)) (given tell);
      }

  pub built_more : IsBuilt s ends tells d (i + 1) u
  built_more =
      record {
        parts = b.parts ++ p.edges ∷ [];
        made = length-append b.parts (p.edges ∷ []) ∙ ap (λ (n : ℕ). n + 1) b.made;
        size = ap (λ (l : List PartEntry). length l) entries ∙ length-append t.parts (record { hi = high ends i; file = 4 + i } ∷ []) ∙ ap (λ (n : ℕ). n + 1) b.size;
        his = λ k within. rw (entries, map-append (λ (e : PartEntry). e.hi) t.parts (record { hi = high ends i; file = 4 + i } ∷ [])) (pushed (λ n x. x ≡ high ends n) (map (λ e. e.hi) t.parts) (high ends i) 0 i (length-map t.parts (λ (e : PartEntry). e.hi) ∙ b.size) b.his refl k within);
        files = λ k within. rw (entries, map-append (λ (e : PartEntry). e.file) t.parts (record { hi = high ends i; file = 4 + i } ∷ [])) (pushed (λ n x. x ≡ 4 + n) (map (λ e. e.file) t.parts) (4 + i) 0 i (length-map t.parts (λ (e : PartEntry). e.file) ∙ b.size) b.files refl k within);
        fits = pushed (λ n x. FitsPart (expect_at s ends n) (part_at ends n x)) b.parts p.edges [] i b.made b.fits (subst (λ (q : Part). FitsPart (expect_at s ends i) q) (is_part_at s ends i p fits) fits);
        counts = subst (λ (es : List Born). IsCountsOf ends es u.map) (sym (one_part_more b.parts p.edges)) (counts (all_edges b.parts) b.counts);
        no_more = λ x y past. others x y (omega (arith, past)) ∙ b.no_more x y (omega (arith, past));
        put = λ tell. pushed (λ n x. IsPut s ends d n x) b.parts p.edges [] i b.made (put_before tell) (put_here tell);
      }

-- bounds, bytes and contents as a call tells them
pub fits_at : (s : Source) (ends : List ℕ) (i lo hi : ℕ) (p : Part) → lo ≡ low_of ends i → hi ≡ high ends i → FitsPart (expect_given lo hi s.copied.vertices (length s.copied.labels) (normal_form s.normal).fresh) p → FitsPart (expect_at s ends i) p
fits_at s ends i lo hi p a b f =
    subst (λ (x : ℕ). FitsPart (expect_given x (high ends i) s.copied.vertices (length s.copied.labels) (normal_form s.normal).fresh) p) (a ∙ sym (same_low ends i))
    (subst (λ (y : ℕ). FitsPart (expect_given lo y s.copied.vertices (length s.copied.labels) (normal_form s.normal).fresh) p) b f)

pub given_at : (s : Source) (ends : List ℕ) (c : Contents) (i lo hi : ℕ) (edges : List Born) → lo ≡ low_of ends i → hi ≡ high ends i → AreGiven (normal_form s.normal) (graph_in s c) lo hi edges → AreGiven (normal_form s.normal) (graph_in s c) (low ends i) (high ends i) edges
given_at s ends c i lo hi edges a b g =
    subst (λ (x : ℕ). AreGiven (normal_form s.normal) (graph_in s c) x (high ends i) edges) (a ∙ sym (same_low ends i)) (subst (λ (y : ℕ). AreGiven (normal_form s.normal) (graph_in s c) lo y edges) b g)

pub sets_at : (file : ℕ) (bytes wanted : List ℕ) (was c d : Contents) → was ≡ c → bytes ≡ wanted → Sets file bytes was d → Sets file wanted c d
sets_at file bytes wanted was c d same is sets = subst (λ (x : Contents). Sets file wanted x d) same (subst (λ (l : List ℕ). Sets file l was d) is sets)

-- no partition yet
pub built_none : (s : Source) (ends : List ℕ) (tells : Type 0) (c : Contents) (t : Tables) → t.parts ≡ [] → IsCountsOf ends [] t.map → ((a b : ℕ) → counts_of t.map a b ≡ 0) → IsBuilt s ends tells c 0 t
built_none s ends tells c t none counts zero =
    record {
      parts = [];
      made = refl;
      size = ap (λ (l : List PartEntry). length l) none;
      his = λ k within. absurd (omega (arith, within));
      files = λ k within. absurd (omega (arith, within));
      fits = λ k within. absurd (omega (arith, within));
      counts = counts;
      no_more = λ x y past. zero x y;
      put = λ tell k within. absurd (omega (arith, within));
    }
