use Rattle.std.proofs.Common.{◌≡◌, ◌+◌, ◌<◌, ℕ, List, length, sym, ◌∙◌, ap, subst, arith}
use Rattle.std.specs.Prelude.{All}
use Rattle.graph_words.specs.declared.types.LabelId.{LabelId}
use Rattle.graph_words.specs.declared.types.PairRule.{PairRule}
use Rattle.graph_words.specs.declared.types.Rule.{Rule}
use Rattle.normal_form.specs.Empty.{HasFresh}
use Rattle.normal_form.specs.Joins.{IsJoinTable}
use Rattle.normal_form.specs.Parts.{AreParts}
use Rattle.normal_law.specs.NormalForm.{fresh_words}
use Rattle.normal_law.proofs.PairLemmas.{pairs_first, pairs_left}
use Rattle.normal_form.proofs.NormalLemmas.{fresh_few, IsEmpty-found}
use Rattle.normal_form.proofs.normal.normalise.Goals as goal

pub above_rows-requires-clause-few : goal.above_rows-requires-clause-few
above_rows-requires-clause-few c = omega (arith, ap length c.in_ok-lists.ensures.fresh, fresh_few c.rules-rules.result.now c.rules-rules.ensures.limits)

pub table_of-requires-clause-first : goal.table_of-requires-clause-first
table_of-requires-clause-first c =
    subst (All (λ (p : PairRule). p.first.0 < 1000)) (sym (c.deref.ensures.value ∙ c.in_ok-lists.ensures.pairs)) (pairs_first c.rules-rules.result.now 0 c.rules-rules.ensures.limits.named)

pub table_of-requires-clause-left : goal.table_of-requires-clause-left
table_of-requires-clause-left c =
    let many : 1000 + length (fresh_words c.rules-rules.result.now) ≡ length c.deref-2.result.now = omega (arith, ap length c.in_ok-lists.ensures.fresh, ap length c.deref-2.ensures.value, c.in_ok-above.ensures.count) in
    subst (λ (n : ℕ). All (λ (p : PairRule). p.left.0 < n) c.deref.result.now) many
    (subst (All (λ (p : PairRule). p.left.0 < 1000 + length (fresh_words c.rules-rules.result.now))) (sym (c.deref.ensures.value ∙ c.in_ok-lists.ensures.pairs)) (pairs_left c.rules-rules.result.now c.rules-rules.ensures.limits.named))

pub with_fresh-requires : goal.with_fresh-requires
with_fresh-requires c = omega (arith, ap length (c.deref-3.ensures.value ∙ c.in_ok-lists.ensures.fresh), fresh_few c.rules-rules.result.now c.rules-rules.ensures.limits)

pub invariant_of-result : goal.invariant_of-result
invariant_of-result c =
    let rules = c.rules-rules.result.now in
    let rows = c.in_ok-above.above.items in
    let joins = c.in_ok-joins.joins in
    let fresh = c.in_ok-lists.lists.fresh.items in
    let empties = c.in_ok-empties.empties in
    let found = c.in_ok-found.found in
    let copied = c.rules-rules.ensures.value ∙ sym c.in_ok-copy.ensures in
    let labels : 1000 + c.len.result ≡ 1000 + length c.in_ok-lists.lists.fresh.items = omega arith in
    let table =
    subst (λ (p : List PairRule). IsJoinTable p rows joins) (c.deref.ensures.value ∙ c.in_ok-lists.ensures.pairs)
    (subst (λ (r : List (List LabelId)). IsJoinTable c.deref.result.now r joins) c.deref-2.ensures.value c.in_ok-joins.ensures) in
    let words = subst (λ (w : List (List LabelId)). HasFresh found w (length w) empties) (c.deref-3.ensures.value ∙ c.in_ok-lists.ensures.fresh) c.in_ok-empties.ensures in
    subst (λ (r : List Rule). AreParts r c.in_ok-named_labels.field-0.items fresh rows joins empties) copied
    (record {
      grammar_is = c.rules-rules.ensures.limits;
      named_are = c.in_ok-named_labels.ensures;
      fresh_are = c.in_ok-lists.ensures.fresh;
      above_all = c.in_ok-above.ensures.count ∙ labels;
      above_are = c.in_ok-above.ensures.above;
      joins_are = table;
      empties_are = IsEmpty-found rules found empties c.rules-rules.ensures.limits.named c.in_ok-found.ensures.derive c.in_ok-found.ensures.all words;
    })
