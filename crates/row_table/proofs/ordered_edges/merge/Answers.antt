use Rattle.std.proofs.Common.{rules, ◌≡◌, ◌+◌, ◌-◌, ◌≤◌, ℕ, length, subst, arith}
use Rattle.std.proofs.lemmas.List.{get_or_default}
use Rattle.row_table.proofs.OrderLemmas.{part_ordered}
use Rattle.row_table.proofs.MergeLemmas.{Filling, Filling-start, Filling-more, Filling-end, filling_room}
use Rattle.row_table.proofs.ordered_edges.merge.Goals as goal

pub loop-left-init : goal.loop-left-init
loop-left-init c =
    let end : length c.args.edges.now.items ≡ c.len-end.result = search rules in
    let total : c.in-Some.total ≡ length c.args.edges.now.items + length c.args.new.now = search rules in
    let long : length c.resize.new.self.items ≡ c.in-Some.total = search rules in
    subst (λ (n : ℕ). Filling c.args.edges.now.items c.args.new.now c.args.birth n (length c.args.new.now) c.resize.new.self.items) end (Filling-start c.args.edges.now.items c.args.new.now c.args.birth c.resize.new.self.items _ c.in-Some.total total c.in_ok-resize.ensures.items long)

pub put_edge-end-requires-clause-ordered : goal.put_edge-end-requires-clause-ordered
put_edge-end-requires-clause-ordered c = rw c.loop-left.invariant.front (part_ordered c.args.edges.now.items 0 c.loop-left.end c.requires.ordered)

pub put_edge-end-requires-clause-room : goal.put_edge-end-requires-clause-room
put_edge-end-requires-clause-room c =
    let again : c.loop-left.left - 1 + 1 ≡ c.loop-left.left = omega arith in
    filling_room c.args.edges.now.items c.args.new.now c.args.birth c.loop-left.end (c.loop-left.left - 1) c.loop-left.edges.items (rw again c.loop-left.invariant)

pub loop-left-preserved : goal.loop-left-preserved
loop-left-preserved c =
    let again : c.loop-left.left - 1 + 1 ≡ c.loop-left.left = omega arith in
    let there : c.loop-left.left ≤ length c.args.new.now = c.loop-left.invariant.merging.within_new in
    Filling-more c.args.edges.now.items c.args.new.now c.args.birth c.loop-left.end (c.loop-left.left - 1) _ c.loop-left.edges.items _ _ c.requires.ordered c.requires.ascending c.requires.absent (rw again c.loop-left.invariant) (get_or_default c.args.new.now (c.loop-left.left - 1) _ _ (omega arith)) c.put_edge-end.ensures

pub returns-clause-ok : goal.returns-clause-ok
returns-clause-ok c =
    let none : c.loop-left.left ≡ 0 = omega arith in
    Filling-end c.args.edges.now.items c.args.new.now c.args.birth c.loop-left.end c.loop-left.edges.items c.requires.ordered (rw none at c.loop-left.invariant)
