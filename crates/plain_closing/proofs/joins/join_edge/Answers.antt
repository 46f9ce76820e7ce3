use Rattle.std.proofs.Common.{arith}
use Rattle.std.proofs.lemmas.Result.{on_ok_weaker}
use Rattle.plain_closing.proofs.Adding.{on_ok_both, AddsMade-then, AddsMade-length, Contains-from_at, IsJoiningWith-has, IsJoiningWith-step, IsJoiningWith-end}
use Rattle.plain_closing.proofs.joins.join_edge.Goals as goal

pub at-other-requires : goal.at-other-requires
at-other-requires c = omega (arith, AddsMade-length _ _ _ c.loop-j.invariant.made)

pub add_joins_both-requires-clause-first : goal.add_joins_both-requires-clause-first
add_joins_both-requires-clause-first c = IsJoiningWith-has _ _ _ _ _ _ c.loop-j.invariant

pub add_joins_both-requires-clause-second : goal.add_joins_both-requires-clause-second
add_joins_both-requires-clause-second c = Contains-from_at _ _ _ c.at-other.ensures

pub loop-j-preserved : goal.loop-j-preserved
loop-j-preserved c =
    IsJoiningWith-step _ _ _ _ _ _ _ _ (omega arith) c.loop-j.invariant c.at-other.ensures c.in_ok-add_joins_both.ensures.made c.in_ok-add_joins_both.ensures.joined c.in_ok-add_joins_both.ensures.turned

pub add_joins-requires-clause-first : goal.add_joins-requires-clause-first
add_joins-requires-clause-first c = IsJoiningWith-has _ _ _ _ _ _ c.loop-j.invariant

pub add_joins-requires-clause-second : goal.add_joins-requires-clause-second
add_joins-requires-clause-second c = IsJoiningWith-has _ _ _ _ _ _ c.loop-j.invariant

pub returns-clause-made : goal.returns-clause-made
returns-clause-made c = on_ok_weaker c.add_joins.result (λ m. AddsMade-then _ _ _ _ c.loop-j.invariant.made m) c.add_joins.ensures.made

pub returns-clause-joined : goal.returns-clause-joined
returns-clause-joined c =
    on_ok_both c.add_joins.result (λ m p. IsJoiningWith-end _ _ _ _ _ _ _ (omega arith) (omega arith) c.loop-j.invariant m p) c.add_joins.ensures.made c.add_joins.ensures.joined
