use Rattle.normal_form.specs.Empty.{DerivesEmpty}
use Rattle.normal_form.proofs.EmptyLemmas.{new_derives, all_found}
use Rattle.normal_form.proofs.RowLemmas.{All-added}
use Rattle.normal_form.proofs.empties.named_empties.Goals as goal

pub loop-label-preserved : goal.loop-label-preserved
loop-label-preserved c =
    All-added (DerivesEmpty c.args.rules.now) c.loop-label.found c.add.new.self c.in-Some.label c.loop-label.invariant
    (new_derives c.args.rules.now c.loop-label.found c.in-Some.label c.loop-label.invariant c.in-Some.ensures.some) c.in_ok-add.ensures.ok

pub returns-clause-all : goal.returns-clause-all
returns-clause-all c = all_found c.args.rules.now c.loop-label.found c.in_default.ensures.none
