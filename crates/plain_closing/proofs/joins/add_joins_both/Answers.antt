use Rattle.std.proofs.lemmas.Result.{on_ok_weaker}
use Rattle.plain_closing.proofs.Adding.{AddsMade-keeps, AddsMade-then, HasJoins-more}
use Rattle.plain_closing.proofs.joins.add_joins_both.Goals as goal

pub add_joins-requires-2-clause-first : goal.add_joins-requires-2-clause-first
add_joins-requires-2-clause-first c = AddsMade-keeps _ _ _ c.in_ok-add_joins.ensures.made _ c.requires.second

pub add_joins-requires-2-clause-second : goal.add_joins-requires-2-clause-second
add_joins-requires-2-clause-second c = AddsMade-keeps _ _ _ c.in_ok-add_joins.ensures.made _ c.requires.first

pub returns-clause-made : goal.returns-clause-made
returns-clause-made c = on_ok_weaker c.add_joins-2.result (λ m. AddsMade-then _ _ _ _ c.in_ok-add_joins.ensures.made m) c.add_joins-2.ensures.made

pub returns-clause-joined : goal.returns-clause-joined
returns-clause-joined c = on_ok_weaker c.add_joins-2.result (λ m. HasJoins-more _ _ _ m _ _ c.in_ok-add_joins.ensures.joined) c.add_joins-2.ensures.made
