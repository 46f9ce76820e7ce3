use Rattle.std.proofs.Common.{List, [], get_or, ◌∙◌, subst, arith}
use Rattle.std.proofs.lemmas.List.{get_or_default}
use Rattle.graph_words.specs.declared.types.LabelId.{LabelId}
use Rattle.graph_words.specs.declared.types.PairRule.{PairRule}
use Rattle.normal_form.specs.Joins.{AddsAt}
use Rattle.normal_form.proofs.TableLemmas.{IsFilling-step, IsFilling-end}
use Rattle.normal_form.proofs.joins.table_of.Goals as goal

pub loop-pair-preserved : goal.loop-pair-preserved
loop-pair-preserved c =
    let pairs = c.args.pairs.now in
    let i = c.loop-pair.pair-index in
    let d : PairRule = record { left = record { 0 = 0 }; first = record { 0 = 0 }; second = record { 0 = 0 } } in
    let there = c.requires.left i d c.loop-pair-test.true in
    let labels = c.as_slice.ensures.value ∙ c.index-above-pair.is ∙ get_or_default c.args.above.now (get_or pairs i d).left.0 _ [] there in
    IsFilling-step pairs c.args.above.now c.args.rows i c.loop-pair.table c.add.new.self d c.loop-pair-test.true c.loop-pair.invariant
    (subst (λ (l : List LabelId). AddsAt c.loop-pair.table c.add.new.self (get_or pairs i d).first (get_or pairs i d).second l) labels c.in_ok-add.ensures)

pub returns : goal.returns
returns c = IsFilling-end c.args.pairs.now c.args.above.now c.args.rows c.loop-pair.pair-index c.loop-pair.table (omega arith) c.loop-pair.invariant
