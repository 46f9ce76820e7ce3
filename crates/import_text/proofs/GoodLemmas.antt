-- A file that was read is a good copy, or not.
use Rattle.std.proofs.Common.{◌≡◌, ◌≢◌, ◌↔◌, inl, inr, ℕ, ◌≤◌, List, [], ◌++◌, length, sym, ap, ◌∙◌, arith, subst}
use Rattle.std.specs.Prelude.{AllPairs, Contains}
use Rattle.std.specs.List.{flat_map}
use Rattle.graph_words.specs.declared.types.Edge.{Edge}
use Rattle.graph_words.specs.Text.{distinct, said, third}
use Rattle.normal_law.specs.Closure.{Normal}
use Rattle.io_edge.specs.Lines.{lines}
use Rattle.edge_text.specs.EdgesText.{ReadsEdges, edges_of, vertex_count_of}
use Rattle.edge_text.proofs.AgainLemmas.{table_stays}
use Rattle.import_text.specs.Given.{AddsJust, IsAboveIn}
use Rattle.import_text.specs.Gathered.{Gathered}
use Rattle.import_text.specs.GivenPart.{GathersFile, GathersCopy, IsGoodCopy}

-- a reader at its start
pub record IsStart (lo hi : ℕ) (g : Gathered) : Type 0 where
  pub lo_is : g.lo ≡ lo
  pub hi_is : g.hi ≡ hi
  pub given : g.given ≡ []
  pub vertices : g.vertices ≡ 0

module _ (n : Normal) (labels : List (List ℕ)) (len vertices lo hi : ℕ) (tells : Type 0) (file : List ℕ) (start after : Gathered) (place : ℕ) (s : IsStart lo hi start) (f : GathersFile n labels tells file place start after) where
  count_is : after.vertices ≡ vertex_count_of f.found
  count_is = omega (arith, f.gathers.vertices, s.vertices)

  -- a good copy has the right length
  pub good_place : tells → IsGoodCopy labels len vertices file → place ≡ len
  good_place h good = sym f.len_is ∙ ap length (f.is_file h) ∙ good.len_is

  good_table : tells → IsGoodCopy labels len vertices file → after.reader.table ≡ labels
  good_table h good = f.reads.table_is ∙ ap (λ (t : List ℕ). distinct (labels ++ flat_map third (said (lines t)))) (f.is_file h) ∙ sym good.reads.table_is

  -- no new names
  pub good_names : tells → IsGoodCopy labels len vertices file → length after.reader.table ≡ length labels
  good_names h good = ap length (good_table h good)

  -- and few vertices
  pub good_vertices : tells → IsGoodCopy labels len vertices file → after.vertices ≤ vertices
  good_vertices h good =
      let same : f.found ≡ edges_of labels file = f.reads.edges_are ∙ ap (λ (t : List (List ℕ)). edges_of t f.text) (good_table h good) ∙ ap (edges_of labels) (f.is_file h) in
      omega (arith, count_is, ap vertex_count_of same, good.few)

  -- what has all of these is one
  pub gathers_copy : AllPairs (λ x y. x ≢ y) labels → place ≡ len → length after.reader.table ≡ length labels → after.vertices ≤ vertices → GathersCopy n labels len vertices lo hi tells file after.given
  gathers_copy once here names few =
      let table = table_stays 0 labels f.text f.found after.reader.table once f.reads names in
      let found : f.found ≡ edges_of labels f.text = f.reads.edges_are ∙ ap (λ (t : List (List ℕ)). edges_of t f.text) table in
      record {
        text = f.text;
        good = record {
          reads = subst (λ (es : List Edge). ReadsEdges 0 labels f.text es labels) found (subst (λ (t : List (List ℕ)). ReadsEdges 0 labels f.text f.found t) table f.reads);
          len_is = f.len_is ∙ here;
          few = omega (arith, count_is, ap vertex_count_of found, few);
        };
        is_file = f.is_file;
        all = just found;
      }
    where
      just : f.found ≡ edges_of labels f.text → (e : Edge) → Contains after.given e ↔ IsAboveIn n lo hi (edges_of labels f.text) e
      just found e =
          let above : AddsJust (IsAboveIn n lo hi (edges_of labels f.text)) [] after.given =
          subst (λ (es : List Edge). AddsJust (IsAboveIn n lo hi es) [] after.given) found
          (subst (λ (l : ℕ). AddsJust (IsAboveIn n l hi f.found) [] after.given) s.lo_is
          (subst (λ (h : ℕ). AddsJust (IsAboveIn n start.lo h f.found) [] after.given) s.hi_is
          (subst (λ (es : List Edge). AddsJust (IsAboveIn n start.lo start.hi f.found) es after.given) s.given f.gathers.given))) in (
            λ m. elim ((above e).0 m) [ inl none ↦ absurd (omega (arith, none.1)) | inr a ↦ a ],
            λ a. (above e).1 (inr a),
          )
