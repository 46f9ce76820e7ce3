use Rattle.normal_form.proofs.JoinLemmas.{second_there}
use Rattle.normal_form.proofs.joins.is_second_at.Goals as goal

pub returns-then-place-joins : goal.returns-then-place-joins
returns-then-place-joins c = second_there c.args.joins.now c.args.second c.requires.ascending c.args.place c.requires.place c.index-joins-place.result c.eq.result c.if-place-joins.true c.eq.ensures
