-- Fresh stores of the same texts by the same limit.
use Rattle.std.proofs.Common.{◌≡◌, ℕ, ◌<◌, List, [], ◌==◌, length, sym, ◌∙◌, ap, subst, arith}
use Rattle.std.specs.Prelude.{Contains, filter, slice_index_or}
use Rattle.std.proofs.lemmas.List.{ext_get_or, length-map}
use Rattle.std.proofs.lemmas.List.Elements.{All-contains}
use Rattle.graph_words.specs.declared.types.Born.{Born}
use Rattle.graph_words.specs.Reach.{Graph}
use Rattle.normal_law.specs.Closure.{Normal}
use Rattle.closing_machine.specs.State.{State, part}
use Rattle.closing_machine.specs.Rounds.{born}
use Rattle.closing_machine.specs.Machine.{IsGiven, IsOpening}
use Rattle.closing_machine.specs.Parts.{all_edges}
use Rattle.closing_machine.proofs.Ordered.{same_ordered}
use Rattle.closing_machine.proofs.Partitions.{all_where_one, filter_partitions}
use Rattle.disk_model.specs.Disk.{Contents}
use Rattle.intervals.specs.DegreeCut.{IsCutByDegree}
use Rattle.intervals.proofs.DegreeLemmas.{one_cut}
use Rattle.manifest_codec.specs.declared.types.PartEntry.{PartEntry}
use Rattle.manifest_codec.specs.declared.types.Manifest.{Manifest}
use Rattle.store_law.specs.Texts.{Texts, graph, normal}
use Rattle.store_law.specs.Listed.{ends_of, state_in}
use Rattle.store_law.specs.Imported.{AreDegreesOf, IsFreshStore}
use Rattle.store_law.proofs.Intervals.{cut_from_cover, listed_partitions}

same_degrees : (g : Graph) (a b : List ℕ) → AreDegreesOf g a → AreDegreesOf g b → a ≡ b
same_degrees g a b x y = ext_get_or 0 a b (x.size ∙ sym y.size) (λ i lt. let below : i < g.vertices = omega (arith, lt, x.size) in x.each i below ∙ sym (y.each i below))

-- each edge of an opening state is a given one, and so one of any other
is_opened : (n : Normal) (g : Graph) (a b : State) → IsOpening n g a → IsOpening n g b → (z : Born) → Contains a.edges z → Contains b.edges z
is_opened n g a b x y z there =
    let is = All-contains (λ (w : Born). IsGiven n g w.edge × (w.birth ≡ 0)) a.edges z x.only there in
    let same : born z.edge 0 ≡ z = ap (λ (k : ℕ). born z.edge k) (sym is.1) in
    subst (λ (w : Born). Contains b.edges w) same (y.given z.edge is.0)

same_opening : (n : Normal) (g : Graph) (a b : State) → IsOpening n g a → IsOpening n g b → a.edges ≡ b.edges
same_opening n g a b x y = same_ordered a.edges b.edges x.ordered y.ordered (is_opened n g a b x y) (is_opened n g b a y x)

module _ (t : Texts) (limit : ℕ) (c d : Contents) (m n : Manifest) (xs ys : List (List Born)) (x : IsFreshStore t limit c m xs) (y : IsFreshStore t limit d n ys) where
  same_ends : ends_of m ≡ ends_of n
  same_ends =
      let counts = same_degrees (graph t) x.degrees y.degrees x.counted y.counted in
      one_cut y.degrees limit (ends_of m) (ends_of n) (subst (λ (l : List ℕ). IsCutByDegree l limit (ends_of m)) counts x.intervals) y.intervals

  same_edges : all_edges xs ≡ all_edges ys
  same_edges = same_opening (normal t) (graph t) (state_in m xs) (state_in n ys) x.opening y.opening

  entries : (k : Manifest) → length (ends_of k) ≡ length k.parts
  entries k = length-map k.parts (λ (p : PartEntry). p.hi)

  -- a partition has the edges that begin in its interval
  partition_is : (e : Contents) (k : Manifest) (zs : List (List Born)) → IsFreshStore t limit e k zs → (i : ℕ) → slice_index_or zs i [] ≡ filter (λ b. part (ends_of k) b == i) (all_edges zs)
  partition_is e k zs z i =
      sym (filter_partitions (λ p. p == i) 0 (ends_of k) k.vertices zs (cut_from_cover k.vertices 0 k.parts z.texts.fits.cover) (listed_partitions e k (normal t).fresh zs z.listed) ∙ all_where_one zs i)

  same_parts : xs ≡ ys
  same_parts =
      ext_get_or [] xs ys (omega (arith, x.listed.size, y.listed.size, entries m, entries n, ap length same_ends)) (λ i lt.
      partition_is c m xs x i ∙ ap (λ (ends : List ℕ). filter (λ b. part ends b == i) (all_edges xs)) same_ends
      ∙ ap (λ (edges : List Born). filter (λ b. part (ends_of n) b == i) edges) same_edges ∙ sym (partition_is d n ys y i))

  pub one_fresh : (ends_of m ≡ ends_of n) × (xs ≡ ys)
  one_fresh = (same_ends, same_parts)
