use Rattle.std.proofs.Common.{◌≡◌, Some}
use Rattle.c_lexer.specs.declared.token.TokenKind.TheVariants as k
use Rattle.c_tree.specs.declared.fault.Wrong.TheVariants.{Unexpected}
use Rattle.c_tree.specs.Tokens.{source, kind_at}
use Rattle.c_tree.specs.Grammar.{expr_said, returned_said}
use Rattle.c_tree.proofs.Choices.{not_from_false}
use Rattle.c_tree.proofs.Handed.{handed_on, refused}
use Rattle.c_parser.proofs.SimpleForms.{nothing_returned_at, returned_at, returned_refused_at, returned_unended_at}
use Rattle.c_parser.proofs.simple.read_returned.Goals as goal

pub returns-then-is_at : goal.returns-then-is_at
returns-then-is_at c = nothing_returned_at (source c.args.bytes.now c.args.tokens.now) c.args.at c.args.room (c.is_at.ensures.0 c.if-is_at.true)

pub returns-in_err-value : goal.returns-in_err-value
returns-in_err-value c =
    let s = source c.args.bytes.now c.args.tokens.now in
    let kind = kind_at c.args.tokens.now c.args.at in
    handed_on expr_said returned_said s c.args.at c.args.room c.args.at c.args.room
    (λ token why r. returned_refused_at s c.args.at c.args.room token why (λ h. not_from_false (kind ≡ Some k.Semicolon) c.is_at.result c.is_at.ensures c.if-is_at.false h) r)
    c.in_err-value.field-0.0 c.in_err-value.ensures c.from_residual.result c.from_residual.ensures.1

pub returns-then-not-is_at : goal.returns-then-not-is_at
returns-then-not-is_at c =
    let s = source c.args.bytes.now c.args.tokens.now in
    let kind = kind_at c.args.tokens.now c.args.at in
    let next = c.in_ok-value.next in
    refused returned_said s c.args.at c.args.room next Unexpected
    (returned_unended_at s c.args.at c.args.room next c.in_ok-value.value (λ h. not_from_false (kind ≡ Some k.Semicolon) c.is_at.result c.is_at.ensures c.if-is_at.false h) c.in_ok-value.ensures (λ h. not_from_false (kind_at c.args.tokens.now next ≡ Some k.Semicolon) c.is_at-2.result c.is_at-2.ensures c.if-not-is_at.true h))
    c.unexpected.result c.unexpected.ensures

pub returns : goal.returns
returns c =
    let s = source c.args.bytes.now c.args.tokens.now in
    returned_at s c.args.at c.args.room c.in_ok-value.next c.in_ok-value.value c.in_ok-value.ensures (c.is_at-2.ensures.0 c.if-not-is_at.false)
