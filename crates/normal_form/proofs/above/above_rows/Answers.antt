use Rattle.std.proofs.Common.{refl}
use Rattle.normal_form.proofs.NormalLemmas.{IsStacking-step}
use Rattle.normal_form.proofs.above.above_rows.Goals as goal

pub loop-number-preserved : goal.loop-number-preserved
loop-number-preserved c = IsStacking-step c.args.rules.now c.loop-number.number c.loop-number.rows.items c.push.new.self.items _ _ c.loop-number.invariant refl c.in_ok-row_of.ensures c.in_ok-push.ensures.items
