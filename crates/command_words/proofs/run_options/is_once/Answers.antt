use Rattle.std.proofs.Common.{◌≢◌}
use Rattle.command_words.proofs.GivenLemmas.{pairs-behind, pairs-more}
use Rattle.command_words.proofs.run_options.is_once.Goals as goal

pub returns-then-not-is_new : goal.returns-then-not-is_new
returns-then-not-is_new c = (
  λ yes. cc,
  λ once.
      let fresh = c.is_new.ensures.1 (pairs-behind (λ o p. o.name.now ≢ p.name.now) c.args.options.now c.loop-i.i _ c.loop-i-test.true once) in
      let stale = c.if-not-is_new.true in
      cc,
)

pub loop-i-preserved : goal.loop-i-preserved
loop-i-preserved c = pairs-more (λ o p. o.name.now ≢ p.name.now) c.args.options.now c.loop-i.i _ c.loop-i.invariant (c.is_new.ensures.0 c.if-not-is_new.false)
