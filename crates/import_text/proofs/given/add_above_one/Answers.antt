use Rattle.std.proofs.Common.{arith}
use Rattle.std.proofs.lemmas.Result.{on_ok_weaker}
use Rattle.normal_law.specs.NormalForm.{normal_form}
use Rattle.import_text.proofs.GivenLemmas.{above_one, above_elsewhere}
use Rattle.import_text.proofs.given.add_above_one.Goals as goal

pub returns-then-edge-lo : goal.returns-then-edge-lo
returns-then-edge-lo c = above_elsewhere (normal_form c.args.normal.now) c.args.lo c.args.hi c.args.edge c.args.given.now.items (λ from. omega (arith, from.0, c.if-edge-lo.true))

pub returns-then-hi-edge : goal.returns-then-hi-edge
returns-then-hi-edge c = above_elsewhere (normal_form c.args.normal.now) c.args.lo c.args.hi c.args.edge c.args.given.now.items (λ from. omega (arith, from.1, c.if-hi-edge.true))

pub returns : goal.returns
returns c =
    on_ok_weaker c.push_each.result
    (λ pushed. above_one (normal_form c.args.normal.now) c.args.lo c.args.hi c.args.edge c.up.result.now _ _ (omega (arith, c.if-edge-lo.false), omega (arith, c.if-hi-edge.false)) c.up.ensures.each pushed)
    c.push_each.ensures
