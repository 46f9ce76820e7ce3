use Rattle.std.proofs.Common.{take}
use Rattle.std.specs.Prelude.{Contains}
use Rattle.normal_form.specs.declared.joins.Join.{Join}
use Rattle.normal_form.proofs.joins.JoinRow.seconds.Given as goal

abbrev pub invariant-loop-join : goal.invariant-loop-join
invariant-loop-join l = (j : Join) → Contains (take l.join-index l.join-items) j → Contains l.out.items j.second
