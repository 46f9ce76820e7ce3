use Rattle.std.proofs.Common.{[]}
use Rattle.std.proofs.lemmas.Result.{err_from_is_err_and}
use Rattle.manifest_codec.specs.FieldsRead.{parts_at}
use Rattle.manifest_codec.proofs.Loops.{parts_go_on, parts_end, parts_done}
use Rattle.manifest_codec.proofs.parts.parts_of.Goals as goal

pub loop-i-preserved : goal.loop-i-preserved
loop-i-preserved c =
    let here = rw c.as_slice.ensures at c.in_ok-part.ensures in
    rw (c.in_ok-push-2.ensures.items, c.in_ok-push.ensures.ok) (parts_go_on c.args.head.now c.args.count c.loop-i.i c.loop-i.low c.loop-i.parts c.loop-i.births.items c.loop-i.rest.now (c.in_ok-part.part, c.in_ok-part.newest) c.in_ok-part.behind.now (parts_at c.args.head.now c.args.count 0 [] [] c.args.bytes.now) c.loop-i-test.true here c.loop-i.invariant)

pub returns : goal.returns
returns c = parts_done c.args.head.now c.args.count c.loop-i.i c.loop-i.low c.loop-i.parts c.loop-i.births.items c.loop-i.rest.now (parts_at c.args.head.now c.args.count 0 [] [] c.args.bytes.now) c.loop-i-test.false c.loop-i.invariant

pub returns-in_err-part : goal.returns-in_err-part
returns-in_err-part c =
    let p = err_from_is_err_and c.from_residual.result c.from_residual.ensures.1 in
    let here = rw c.as_slice.ensures at c.in_err-part.ensures in
    rw (p.1, p.2) (parts_end c.in_err-part.field-0.0 c.args.head.now c.args.count c.loop-i.i c.loop-i.low c.loop-i.parts c.loop-i.births.items c.loop-i.rest.now (parts_at c.args.head.now c.args.count 0 [] [] c.args.bytes.now) c.loop-i-test.true here c.loop-i.invariant)
