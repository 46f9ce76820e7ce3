use Rattle.std.proofs.Common.{[], arith}
use Rattle.std.proofs.lemmas.Result.{err_from_is_err_and}
use Rattle.manifest_codec.specs.FieldsRead.{labels_at}
use Rattle.manifest_codec.proofs.Loops.{labels_go_on, labels_end, labels_done}
use Rattle.manifest_codec.proofs.ListLaws.{label_adds}
use Rattle.manifest_codec.proofs.labels.labels_of.Goals as goal

pub label_of-requires : goal.label_of-requires
label_of-requires c = omega (arith, c.loop.invariant.1, c.loop-test.true, c.requires)

pub loop-preserved : goal.loop-preserved
loop-preserved c = (
  labels_go_on c.args.count c.loop.counter c.loop.labels c.loop.rest.now c.label_of.new.labels c.in_ok-rest.rest.now (labels_at c.args.count [] c.args.bytes.now) c.loop-test.true c.in_ok-rest.ensures c.loop.invariant.0,
  omega (arith, label_adds c.loop.labels c.loop.rest.now (c.label_of.new.labels, c.in_ok-rest.rest.now) c.in_ok-rest.ensures, c.loop.invariant.1),
)

pub returns : goal.returns
returns c = labels_done c.args.count c.loop.counter c.loop.labels c.loop.rest.now (labels_at c.args.count [] c.args.bytes.now) c.loop-test.false c.loop.invariant.0

pub returns-in_err-rest : goal.returns-in_err-rest
returns-in_err-rest c =
    let p = err_from_is_err_and c.from_residual.result c.from_residual.ensures.1 in
    rw (p.1, p.2) (labels_end c.in_err-rest.field-0.0 c.args.count c.loop.counter c.loop.labels c.loop.rest.now (labels_at c.args.count [] c.args.bytes.now) c.loop-test.true c.in_err-rest.ensures c.loop.invariant.0)
