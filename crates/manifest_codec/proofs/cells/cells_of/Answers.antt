use Rattle.std.proofs.Common.{[]}
use Rattle.std.proofs.lemmas.Result.{err_from_is_err_and}
use Rattle.manifest_codec.specs.FieldsRead.{cells_at}
use Rattle.manifest_codec.proofs.Loops.{cells_go_on, cells_end, cells_break, cells_done}
use Rattle.manifest_codec.proofs.cells.cells_of.Goals as goal

pub loop-limit-preserved : goal.loop-limit-preserved
loop-limit-preserved c =
    rw c.in_ok-push.ensures.items (cells_go_on c.args.kind c.args.limits.now c.loop-limit.limit-index c.loop-limit.cells.items c.loop-limit.rest.now c.in_ok-n.n c.in_ok-n.behind.now (cells_at c.args.kind c.args.limits.now [] c.args.bytes.now) c.loop-limit-test.true c.if-n-limit.false c.in_ok-n.ensures c.loop-limit.invariant)

pub returns : goal.returns
returns c = cells_done c.args.kind c.args.limits.now c.loop-limit.limit-index c.loop-limit.cells.items c.loop-limit.rest.now (cells_at c.args.kind c.args.limits.now [] c.args.bytes.now) c.loop-limit-test.false c.loop-limit.invariant

pub returns-in_err-n : goal.returns-in_err-n
returns-in_err-n c =
    let p = err_from_is_err_and c.from_residual.result c.from_residual.ensures.1 in
    rw (p.1, p.2) (cells_end c.in_err-n.field-0.0 c.args.kind c.args.limits.now c.loop-limit.limit-index c.loop-limit.cells.items c.loop-limit.rest.now (cells_at c.args.kind c.args.limits.now [] c.args.bytes.now) c.loop-limit-test.true c.in_err-n.ensures c.loop-limit.invariant)

pub returns-then-n-limit : goal.returns-then-n-limit
returns-then-n-limit c =
    rw c.broken_at.ensures (cells_break c.args.kind c.args.limits.now c.loop-limit.limit-index c.loop-limit.cells.items c.loop-limit.rest.now c.in_ok-n.n c.in_ok-n.behind.now (cells_at c.args.kind c.args.limits.now [] c.args.bytes.now) c.loop-limit-test.true c.if-n-limit.true c.in_ok-n.ensures c.loop-limit.invariant)
