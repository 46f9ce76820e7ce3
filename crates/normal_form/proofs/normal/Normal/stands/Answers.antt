use Rattle.std.proofs.Common.{◌-◌, ◌+◌, List, take, drop, ◌∙◌, ap}
use Rattle.graph_words.specs.declared.types.LabelId.{LabelId}
use Rattle.normal_form.proofs.NormalLemmas.{stands-named}
use Rattle.normal_form.proofs.normal.Normal.stands.Goals as goal

pub returns-then-l-lt-FIRST_FRESH : goal.returns-then-l-lt-FIRST_FRESH
returns-then-l-lt-FIRST_FRESH c =
    ap (λ (n : List LabelId). take (c.args.l.0 + 1 - c.args.l.0) (drop c.args.l.0 n)) c.deref.ensures.value
    ∙ stands-named c.args.self.now c.self.inside.named.items c.args.l c.self.invariant.named_are c.if-l-lt-FIRST_FRESH.true
