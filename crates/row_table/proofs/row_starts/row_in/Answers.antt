use Rattle.std.proofs.Common.{◌≡◌, ℕ, ◌+◌, ◌-◌, List, get_or, arith, subst, ◌∙◌}
use Rattle.graph_words.specs.declared.types.Born.{Born}
use Rattle.row_table.specs.declared.span.Span.{Span}
use Rattle.row_table.specs.Index.{PartsEdgesAt, AreStarts}
use Rattle.row_table.specs.Loaded.{LiesInSpan}
use Rattle.row_table.proofs.RowLemmas.{in_order, within, row_between}
use Rattle.row_table.proofs.row_starts.row_in.Goals as goal

module _ (edges : List Born) (s : Span) (starts : List ℕ) (v : ℕ) (are : AreStarts edges s starts) (lies : LiesInSpan s v) where
  first : PartsEdgesAt edges v (get_or starts (v - s.lo) 0)
  first =
      let h : PartsEdgesAt edges (s.lo + (v - s.lo)) (get_or starts (v - s.lo) 0) = are.each (v - s.lo) (let l = are.len in omega (arith, lies.0, lies.1)) in
      subst (λ (u : ℕ). PartsEdgesAt edges u (get_or starts (v - s.lo) 0)) (let e : s.lo + (v - s.lo) ≡ v = omega (arith, lies.0) in e) h

  second : PartsEdgesAt edges (v + 1) (get_or starts (v - s.lo + 1) 0)
  second =
      let h : PartsEdgesAt edges (s.lo + (v - s.lo + 1)) (get_or starts (v - s.lo + 1) 0) = are.each (v - s.lo + 1) (let l = are.len in omega (arith, lies.0, lies.1)) in
      subst (λ (u : ℕ). PartsEdgesAt edges u (get_or starts (v - s.lo + 1) 0)) (let e : s.lo + (v - s.lo + 1) ≡ v + 1 = omega (arith, lies.0) in e) h

pub part-requires-clause-order : goal.part-requires-clause-order
part-requires-clause-order c = in_order c.args.edges.now c.args.vertex _ _ (first c.args.edges.now c.args.span c.args.starts.now c.args.vertex c.requires.starts c.requires.vertex) (second c.args.edges.now c.args.span c.args.starts.now c.args.vertex c.requires.starts c.requires.vertex)

pub part-requires-clause-within : goal.part-requires-clause-within
part-requires-clause-within c = within c.args.edges.now c.args.vertex _ _ (first c.args.edges.now c.args.span c.args.starts.now c.args.vertex c.requires.starts c.requires.vertex) (second c.args.edges.now c.args.span c.args.starts.now c.args.vertex c.requires.starts c.requires.vertex)

pub returns : goal.returns
returns c = c.part.ensures ∙ row_between c.args.edges.now c.args.vertex _ _ (first c.args.edges.now c.args.span c.args.starts.now c.args.vertex c.requires.starts c.requires.vertex) (second c.args.edges.now c.args.span c.args.starts.now c.args.vertex c.requires.starts c.requires.vertex)
