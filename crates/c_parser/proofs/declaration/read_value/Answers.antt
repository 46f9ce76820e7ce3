use Rattle.std.proofs.Common.{◌≡◌, ◌+◌, Some}
use Rattle.c_lexer.specs.declared.token.TokenKind.TheVariants as k
use Rattle.c_tree.specs.Tokens.{source, kind_at}
use Rattle.c_tree.specs.Grammar.{value_said, expr_said}
use Rattle.c_tree.proofs.Places.{from_more}
use Rattle.c_tree.proofs.Choices.{not_from_false}
use Rattle.c_tree.proofs.Handed.{handed_on}
use Rattle.c_parser.proofs.Vars.{no_value_at, not_assign, value_at, value_refused_at}
use Rattle.c_parser.proofs.declaration.read_value.Goals as goal

pub returns-then-not-is_at : goal.returns-then-not-is_at
returns-then-not-is_at c =
    let kind = kind_at c.args.tokens.now c.args.at in
    no_value_at (source c.args.bytes.now c.args.tokens.now) c.args.at c.args.room c.requires (not_assign kind (λ h. not_from_false (kind ≡ Some k.Assign) c.is_at.result c.is_at.ensures c.if-not-is_at.true h))

pub read_expr-requires : goal.read_expr-requires
read_expr-requires c = (from_more (source c.args.bytes.now c.args.tokens.now) c.args.at k.Assign (c.is_at.ensures.0 c.if-not-is_at.false)).1

pub returns-in_err-value : goal.returns-in_err-value
returns-in_err-value c =
    let s = source c.args.bytes.now c.args.tokens.now in
    handed_on expr_said value_said s (c.args.at + 1) c.args.room c.args.at c.args.room
    (λ token why r. value_refused_at s c.args.at c.args.room token why (c.is_at.ensures.0 c.if-not-is_at.false) r)
    c.in_err-value.field-0.0 c.in_err-value.ensures c.from_residual.result c.from_residual.ensures.1

pub returns : goal.returns
returns c =
    let s = source c.args.bytes.now c.args.tokens.now in
    value_at s c.args.at c.args.room c.in_ok-value.next c.in_ok-value.value (c.is_at.ensures.0 c.if-not-is_at.false) c.in_ok-value.ensures
