use Rattle.std.proofs.Common.{◌<◌, ◌∙◌, length, sym, ap, arith}
use Rattle.graph_words.specs.declared.types.LabelId.{LabelId}
use Rattle.query_text.proofs.Counts.{tallied_at}
use Rattle.query_text.proofs.label_counts.count_label.Goals as goal

pub returns-then-l-len-clause-tallied : goal.returns-then-l-len-clause-tallied
returns-then-l-len-clause-tallied c = λ named edges b is t.
    let there : c.from-l.result < length c.args.counts.now.items = omega (arith, c.if-l-len.true, c.len.ensures) in
    tallied_at named edges c.args.counts.now.items b c.from-l.result c.index_mut.result.now (c.from-l.ensures ∙ sym (ap (λ (l : LabelId). l.0) is)) there c.index_mut.ensures.value t
