use Rattle.std.proofs.Common.{◌≡◌, sym, subst, ◌+◌, Some}
use Rattle.c_lexer.specs.declared.token.TokenKind.TheVariants as k
use Rattle.c_tree.specs.declared.fault.Wrong.TheVariants.{Unexpected}
use Rattle.c_tree.specs.Tokens.{source, kind_at}
use Rattle.c_tree.specs.Grammar.{value_said, var_said}
use Rattle.c_tree.specs.Reading.{ReadsAt}
use Rattle.c_tree.proofs.Places.{from_more}
use Rattle.c_tree.proofs.Choices.{not_from_false}
use Rattle.c_tree.proofs.Handed.{handed_on, refused}
use Rattle.c_parser.proofs.Vars.{var_at, var_unnamed_at, var_refused_at}
use Rattle.c_parser.proofs.declaration.read_var.Goals as goal

pub returns-then-not-is_at : goal.returns-then-not-is_at
returns-then-not-is_at c =
    let s = source c.args.bytes.now c.args.tokens.now in
    let next = c.read_stars-stars.result.1 in
    let kind = kind_at c.args.tokens.now next in
    refused var_said s c.args.at c.args.room next Unexpected
    (var_unnamed_at s c.args.at next c.args.room c.read_stars-stars.result.0 (c.read_stars-stars.ensures c.args.bytes.now c.args.room) (λ h. not_from_false (kind ≡ Some k.Name) c.is_at.result c.is_at.ensures c.if-not-is_at.true h))
    c.unexpected.result c.unexpected.ensures

pub read_value-requires : goal.read_value-requires
read_value-requires c = (from_more (source c.args.bytes.now c.args.tokens.now) c.read_stars-stars.result.1 k.Name (c.is_at.ensures.0 c.if-not-is_at.false)).1

pub returns-in_err-value : goal.returns-in_err-value
returns-in_err-value c =
    let s = source c.args.bytes.now c.args.tokens.now in
    let next = c.read_stars-stars.result.1 in
    handed_on value_said var_said s (next + 1) c.args.room c.args.at c.args.room
    (λ token why r. var_refused_at s c.args.at next c.args.room c.read_stars-stars.result.0 token why (c.read_stars-stars.ensures c.args.bytes.now c.args.room) (c.is_at.ensures.0 c.if-not-is_at.false) r)
    c.in_err-value.field-0.0 c.in_err-value.ensures c.from_residual-in_err-value.result c.from_residual-in_err-value.ensures.1

pub returns : goal.returns
returns c =
    let s = source c.args.bytes.now c.args.tokens.now in
    let next = c.read_stars-stars.result.1 in
    subst (λ n. ReadsAt var_said s c.args.at c.args.room (record { stars = c.read_stars-stars.result.0; name = n; value = c.in_ok-value.value }) c.in_ok-value.after) (sym c.in_ok-name.ensures)
    (var_at s c.args.at next c.in_ok-value.after c.args.room c.read_stars-stars.result.0 c.in_ok-value.value (c.read_stars-stars.ensures c.args.bytes.now c.args.room) (c.is_at.ensures.0 c.if-not-is_at.false) c.in_ok-value.ensures)
