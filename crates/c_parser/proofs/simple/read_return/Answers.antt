use Rattle.std.proofs.Common.{sym, subst, ◌+◌}
use Rattle.c_lexer.specs.declared.token.TokenKind.TheVariants as k
use Rattle.c_tree.specs.declared.tree.Stmt.TheVariants as stmt
use Rattle.c_tree.specs.Tokens.{source}
use Rattle.c_tree.specs.Grammar.{returned_said, stmt_said}
use Rattle.c_tree.specs.Reading.{ReadsAt}
use Rattle.c_tree.proofs.Places.{from_more}
use Rattle.c_tree.proofs.Handed.{handed_on}
use Rattle.c_parser.proofs.SimpleForms.{return_at, return_refused_at}
use Rattle.c_parser.proofs.simple.read_return.Goals as goal

pub read_returned-requires : goal.read_returned-requires
read_returned-requires c = (from_more (source c.args.bytes.now c.args.tokens.now) c.args.at k.Return c.requires.here).1

pub returns-in_err-value : goal.returns-in_err-value
returns-in_err-value c =
    let s = source c.args.bytes.now c.args.tokens.now in
    handed_on returned_said stmt_said s (c.args.at + 1) c.args.room c.args.at c.args.room
    (λ token why r. return_refused_at s c.args.at c.args.room token why c.requires.here r)
    c.in_err-value.field-0.0 c.in_err-value.ensures c.from_residual.result c.from_residual.ensures.1

pub returns : goal.returns
returns c =
    let s = source c.args.bytes.now c.args.tokens.now in
    subst (λ t. ReadsAt stmt_said s c.args.at c.args.room (stmt.Return t c.in_ok-value.value) c.in_ok-value.next) (sym c.tok_at-tok.ensures)
    (return_at s c.args.at c.args.room c.in_ok-value.next c.in_ok-value.value c.requires.here c.in_ok-value.ensures)
