use Rattle.std.proofs.Common.{List, subst, arith}
use Rattle.c_lexer.specs.declared.token.Token.{Token}
use Rattle.c_tree.specs.Tokens.{source}
use Rattle.c_parser.specs.Program.{IsFaultOf, IsOnlyProgram}
use Rattle.source_graph.specs.Sources.{HasTokens, too_long}
use Rattle.source_graph.proofs.GraphLemmas.{emit_refused, lex_refused, parse_refused}
use Rattle.source_graph.proofs.graph.source_graph.Goals as goal

pub returns-then-text-gt-LONGEST_SOURCE-clause-fault : goal.returns-then-text-gt-LONGEST_SOURCE-clause-fault
returns-then-text-gt-LONGEST_SOURCE-clause-fault c = rw c.line_at.ensures (too_long (omega (arith, c.if-text-gt-LONGEST_SOURCE.true)))

pub returns-in-Err-clause-fault : goal.returns-in-Err-clause-fault
returns-in-Err-clause-fault c =
    rw c.of_lex.ensures (lex_refused c.args.kind c.args.text.now c.in-Err.fault (omega (arith, c.if-text-gt-LONGEST_SOURCE.false)) c.in-Err.ensures)

pub returns-in-Err-parse-clause-fault : goal.returns-in-Err-parse-clause-fault
returns-in-Err-parse-clause-fault c =
    let text = c.args.text.now in
    let tokens = c.in-Ok.tokens.items in
    let has : HasTokens text tokens = record { short = omega (arith, c.if-text-gt-LONGEST_SOURCE.false); tokens_are = c.in-Ok.ensures } in
    let wrong = subst (λ (t : List Token). IsFaultOf t c.in-Err-parse.fault) c.deref.ensures.value c.in-Err-parse.ensures.fault in
    rw (c.of_parse.ensures, c.deref-in-Err-parse.ensures.value) (parse_refused c.args.kind text tokens c.in-Err-parse.fault has wrong)

pub returns-clause-fault : goal.returns-clause-fault
returns-clause-fault c =
    let text = c.args.text.now in
    let tokens = c.in-Ok.tokens.items in
    let has : HasTokens text tokens = record { short = omega (arith, c.if-text-gt-LONGEST_SOURCE.false); tokens_are = c.in-Ok.ensures } in
    let only = subst (λ (t : List Token). IsOnlyProgram (source text t) c.in-Ok-parse.program) c.deref.ensures.value c.in-Ok-parse.ensures.program in
    rw c.of_emit.ensures (emit_refused c.args.kind text tokens c.in-Ok-parse.program c.in-Err-emit.fault has only c.in-Err-emit.ensures.graph)
