use Rattle.std.proofs.Common.{◌≡◌, sym, ◌∙◌, ap, subst, false, [], ◌∷◌, ◌++◌, Some}
use Rattle.c_lexer.specs.declared.token.TokenKind.TheVariants as k
use Rattle.c_tree.specs.declared.tree.Var.{Var}
use Rattle.c_tree.specs.declared.tree.Item.TheVariants as item
use Rattle.c_tree.specs.Tokens.{source, kind_at}
use Rattle.c_tree.specs.Grammar.{param_said, value_said, more_vars}
use Rattle.c_tree.specs.Reading.{ReadsAt}
use Rattle.c_tree.proofs.Choices.{not_from_false}
use Rattle.c_parser.specs.Behind.{function_behind}
use Rattle.c_parser.specs.Program.{written_said}
use Rattle.c_parser.proofs.Flags.{flagged_on, flagged_both}
use Rattle.c_parser.proofs.Items.{head_refused, function_item_at, function_item_refused, declared_item_at, item_value_refused, item_vars_refused}
use Rattle.c_parser.proofs.item.read_item.Goals as goal

pub returns-in_err-head : goal.returns-in_err-head
returns-in_err-head c =
    let s = source c.args.bytes.now c.args.tokens.now in
    flagged_on param_said written_said s c.args.at c.args.room c.args.at c.args.room
    (λ token why r. head_refused s c.args.at c.args.room token why r)
    c.in_err-head.field-0.0 (c.in_err-head.ensures c.args.room) c.from_residual.result c.from_residual.ensures.1

pub returns-in_err-rest : goal.returns-in_err-rest
returns-in_err-rest c =
    let s = source c.args.bytes.now c.args.tokens.now in
    let next = c.in_ok-head.next in
    flagged_both function_behind written_said s next c.args.room c.args.at c.args.room
    (λ token why r. function_item_refused s c.args.at next c.args.room token why c.in_ok-head.head (c.is_at.ensures.0 c.if-is_at.true) (c.in_ok-head.ensures c.args.room) r)
    c.in_err-rest.field-0.0 c.in_err-rest.ensures c.from_residual-in_err-rest.result c.from_residual-in_err-rest.ensures.1

pub returns-then-is_at : goal.returns-then-is_at
returns-then-is_at c =
    let s = source c.args.bytes.now c.args.tokens.now in
    let next = c.in_ok-head.next in
    let rest = c.in_ok-rest.ensures in
    (rest.0, function_item_at s c.args.at next c.in_ok-rest.after c.args.room c.in_ok-head.head (rest.0, c.in_ok-rest.rest) (c.in_ok-head.ensures c.args.room) rest.1)

pub returns-in_err-value : goal.returns-in_err-value
returns-in_err-value c =
    let s = source c.args.bytes.now c.args.tokens.now in
    let next = c.in_ok-head.next in
    flagged_on value_said written_said s next c.args.room c.args.at c.args.room
    (λ token why r. item_value_refused s c.args.at next c.args.room token why c.in_ok-head.head (λ h. not_from_false (kind_at c.args.tokens.now next ≡ Some k.OpenParen) c.is_at.result c.is_at.ensures c.if-is_at.false h) (c.in_ok-head.ensures c.args.room) r)
    c.in_err-value.field-0.0 c.in_err-value.ensures c.from_residual-in_err-value.result c.from_residual-in_err-value.ensures.1

pub returns-in_err-more : goal.returns-in_err-more
returns-in_err-more c =
    let s = source c.args.bytes.now c.args.tokens.now in
    let next = c.in_ok-head.next in
    flagged_on more_vars written_said s c.in_ok-value.middle c.args.room c.args.at c.args.room
    (λ token why r. item_vars_refused s c.args.at next c.in_ok-value.middle c.args.room token why c.in_ok-head.head c.in_ok-value.value (λ h. not_from_false (kind_at c.args.tokens.now next ≡ Some k.OpenParen) c.is_at.result c.is_at.ensures c.if-is_at.false h) (c.in_ok-head.ensures c.args.room) c.in_ok-value.ensures r)
    c.in_err-more.field-0.0 c.in_err-more.ensures c.from_residual-in_err-more.result c.from_residual-in_err-more.ensures.1

pub read_value-requires : goal.read_value-requires
read_value-requires c = let r = c.in_ok-head.ensures 0 in r.inside

pub returns : goal.returns
returns c =
    let s = source c.args.bytes.now c.args.tokens.now in
    let head = c.in_ok-head.head in
    let value = c.in_ok-value.value in
    let more = c.in_ok-more.more in
    let first : Var = record { stars = head.stars; name = head.name; value = value } in
    let vars = c.in_ok-append.ensures ∙ ap (λ w. w ++ more) (c.in_ok-push.ensures.ok ∙ ap (λ w. w ++ first ∷ []) c.new-vars.ensures) in (
      false,
      subst (λ w. ReadsAt written_said s c.args.at c.args.room (false, item.Declared (record { base = head.base; vars = w })) c.in_ok-more.after) (sym vars)
          (declared_item_at s c.args.at c.in_ok-head.next c.in_ok-value.middle c.in_ok-more.after c.args.room head value more (c.in_ok-head.ensures c.args.room) c.in_ok-value.ensures c.in_ok-more.ensures),
    )
