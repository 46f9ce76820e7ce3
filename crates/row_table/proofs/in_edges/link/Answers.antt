use Rattle.std.proofs.Common.{◌≡◌, ◌+◌, ◌-◌, ◌<◌, ◌≤◌, ℕ, length, slice_index_or, slice_set, sym, subst, ◌∙◌, arith}
use Rattle.std.proofs.lemmas.List.{get_or_default}
use Rattle.row_table.specs.Chains.{AreChains}
use Rattle.row_table.proofs.RowLemmas.{some_born}
use Rattle.row_table.proofs.ChainLemmas.{chains_more}
use Rattle.row_table.proofs.in_edges.link.Goals as goal

pub loop-place-preserved : goal.loop-place-preserved
loop-place-preserved c =
    let again : c.loop-place.place - 1 + 1 ≡ c.loop-place.place = omega arith in
    let within : c.loop-place.place ≤ length c.args.edges.now = c.loop-place.invariant.0 in
    let there : c.loop-place.place - 1 < length c.args.edges.now = omega arith in
    let end = (slice_index_or c.args.edges.now (c.loop-place.place - 1) some_born).edge.dst.0 in
    let same = get_or_default c.loop-place.first.items end 0 c.index.result.now (c.loop-place.invariant.1.ends (c.loop-place.place - 1) some_born there) ∙ sym c.index.ensures in (
      omega arith,
      subst (λ (n : ℕ). AreChains c.args.edges.now (c.loop-place.place - 1) (slice_set c.loop-place.first.items end (c.loop-place.place - 1)) (slice_set c.loop-place.next.items (c.loop-place.place - 1) n)) same
          (chains_more c.args.edges.now (c.loop-place.place - 1) c.loop-place.first.items c.loop-place.next.items there (rw again c.loop-place.invariant.1)),
    )
