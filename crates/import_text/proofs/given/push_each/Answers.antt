use Rattle.std.proofs.Common.{arith}
use Rattle.import_text.proofs.GivenLemmas.{between_none, between_more, between_all}
use Rattle.import_text.proofs.given.push_each.Goals as goal

pub loop-label-init : goal.loop-label-init
loop-label-init c = between_none c.args.src c.args.dst c.args.edges.now.items

pub loop-label-preserved : goal.loop-label-preserved
loop-label-preserved c = between_more c.args.src c.args.dst c.args.labels.now c.loop-label.label-index _ _ _ _ c.loop-label-test.true c.loop-label.invariant c.in_ok-push.ensures.items

pub returns : goal.returns
returns c = between_all c.args.src c.args.dst c.args.labels.now c.loop-label.label-index _ _ (omega (arith, c.loop-label-test.false)) c.loop-label.invariant
