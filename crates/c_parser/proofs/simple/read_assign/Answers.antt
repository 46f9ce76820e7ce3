use Rattle.std.proofs.Common.{◌≡◌, ◌+◌, Some}
use Rattle.c_lexer.specs.declared.token.TokenKind.TheVariants as k
use Rattle.c_tree.specs.declared.fault.Wrong.TheVariants.{Unexpected}
use Rattle.c_tree.specs.Tokens.{source, kind_at}
use Rattle.c_tree.specs.Grammar.{place_said, expr_said, stmt_said}
use Rattle.c_tree.proofs.Places.{from_more}
use Rattle.c_tree.proofs.Choices.{not_from_false}
use Rattle.c_tree.proofs.Handed.{handed_on, refused}
use Rattle.c_parser.proofs.Assigned.{assign_at, assign_missing, assign_value_refused, assign_unended, assign_place_refused}
use Rattle.c_parser.proofs.simple.read_assign.Goals as goal

pub returns-in_err-place : goal.returns-in_err-place
returns-in_err-place c =
    let s = source c.args.bytes.now c.args.tokens.now in
    handed_on place_said stmt_said s c.args.at c.args.room c.args.at c.args.room
    (λ token why r. assign_place_refused s c.args.at c.args.room token why c.requires.here r)
    c.in_err-place.field-0.0 c.in_err-place.ensures c.from_residual.result c.from_residual.ensures.1

pub returns-then-not-is_at : goal.returns-then-not-is_at
returns-then-not-is_at c =
    let s = source c.args.bytes.now c.args.tokens.now in
    let next = c.in_ok-place.next in
    refused stmt_said s c.args.at c.args.room next Unexpected
    (assign_missing s c.args.at c.args.room next c.in_ok-place.place c.in_ok-place.ensures (λ h. not_from_false (kind_at c.args.tokens.now next ≡ Some k.Assign) c.is_at.result c.is_at.ensures c.if-not-is_at.true h))
    c.unexpected.result c.unexpected.ensures

pub read_expr-requires : goal.read_expr-requires
read_expr-requires c = (from_more (source c.args.bytes.now c.args.tokens.now) c.in_ok-place.next k.Assign (c.is_at.ensures.0 c.if-not-is_at.false)).1

pub returns-in_err-value : goal.returns-in_err-value
returns-in_err-value c =
    let s = source c.args.bytes.now c.args.tokens.now in
    let next = c.in_ok-place.next in
    handed_on expr_said stmt_said s (next + 1) c.args.room c.args.at c.args.room
    (λ token why r. assign_value_refused s c.args.at c.args.room next token why c.in_ok-place.place c.in_ok-place.ensures (c.is_at.ensures.0 c.if-not-is_at.false) r)
    c.in_err-value.field-0.0 c.in_err-value.ensures c.from_residual-in_err-value.result c.from_residual-in_err-value.ensures.1

pub returns-then-not-is_at-2 : goal.returns-then-not-is_at-2
returns-then-not-is_at-2 c =
    let s = source c.args.bytes.now c.args.tokens.now in
    let next = c.in_ok-place.next in
    let after = c.in_ok-value.after in
    refused stmt_said s c.args.at c.args.room after Unexpected
    (assign_unended s c.args.at c.args.room next after c.in_ok-place.place c.in_ok-value.value c.in_ok-place.ensures (c.is_at.ensures.0 c.if-not-is_at.false) c.in_ok-value.ensures (λ h. not_from_false (kind_at c.args.tokens.now after ≡ Some k.Semicolon) c.is_at-2.result c.is_at-2.ensures c.if-not-is_at-2.true h))
    c.unexpected-then-not-is_at-2.result c.unexpected-then-not-is_at-2.ensures

pub returns : goal.returns
returns c =
    let s = source c.args.bytes.now c.args.tokens.now in
    assign_at s c.args.at c.args.room c.in_ok-place.next c.in_ok-value.after c.in_ok-place.place c.in_ok-value.value c.in_ok-place.ensures (c.is_at.ensures.0 c.if-not-is_at.false) c.in_ok-value.ensures (c.is_at-2.ensures.0 c.if-not-is_at-2.false)
