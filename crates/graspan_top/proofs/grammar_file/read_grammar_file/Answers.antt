use Rattle.std.proofs.Common.{Err, ap, inl, sym, ◌∙◌}
use Rattle.grammar_norm.specs.GrammarText.{grammar_fault}
use Rattle.graspan_top.proofs.GrammarLemmas.{whole_file, file_fault}
use Rattle.graspan_top.proofs.grammar_file.read_grammar_file.Goals as goal

pub returns-in-Ok-read_grammar-clause-read : goal.returns-in-Ok-read_grammar-clause-read
returns-in-Ok-read_grammar-clause-read g c =
    let good = ap grammar_fault (sym c.deref.ensures.value) ∙ c.in-Ok-read_grammar.ensures.grammar.whole in
    record { good = good; is_file = λ file t. whole_file file c.in-Ok.bytes.items (c.in-Ok.ensures.bytes file t) good }

pub returns-in-Err-Text-clause-refused : goal.returns-in-Err-Text-clause-refused
returns-in-Err-Text-clause-refused g c =
    inl
    (λ file t.
    let first = c.read_grammar.ensures.fault _ _ (c.in-Err-Text.is ∙ ap Err c.in-Err-Text.field-0-is) in
    file_fault file c.in-Ok.bytes.items _ (c.in-Ok.ensures.bytes file t) (ap grammar_fault (sym c.deref.ensures.value) ∙ first))
