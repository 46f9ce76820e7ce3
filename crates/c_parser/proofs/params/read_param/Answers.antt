use Rattle.std.proofs.Common.{◌≡◌, sym, ◌∙◌, ap, subst, ◌+◌, arith, Some}
use Rattle.c_lexer.specs.declared.token.TokenKind.TheVariants as k
use Rattle.c_tree.specs.declared.fault.Wrong.TheVariants.{Unexpected}
use Rattle.c_tree.specs.Tokens.{source, kind_at}
use Rattle.c_tree.specs.Grammar.{param_said}
use Rattle.c_tree.specs.Reading.{ReadsAt}
use Rattle.c_tree.proofs.Places.{from_more}
use Rattle.c_tree.proofs.Choices.{not_from_false}
use Rattle.c_tree.proofs.Handed.{refused}
use Rattle.c_parser.specs.Bases.{base_of}
use Rattle.c_parser.proofs.Vars.{base_kind, base_kind_is}
use Rattle.c_parser.proofs.ParamForms.{param_at, param_unnamed_at, no_param_at, no_base}
use Rattle.c_parser.proofs.params.read_param.Goals as goal

pub read_stars-stars-requires : goal.read_stars-stars-requires
read_stars-stars-requires c =
    let here = base_kind_is (kind_at c.args.tokens.now c.args.at) c.in-Some.base (ap base_of (sym c.look.ensures) ∙ sym c.base_of.ensures ∙ c.in-Some.is) in
    (from_more (source c.args.bytes.now c.args.tokens.now) c.args.at (base_kind c.in-Some.base) here).1

pub returns-then-not-is_at : goal.returns-then-not-is_at
returns-then-not-is_at c room =
    let s = source c.args.bytes.now c.args.tokens.now in
    let next = c.read_stars-stars.result.1 in
    let kind = kind_at c.args.tokens.now next in
    let here = base_kind_is (kind_at c.args.tokens.now c.args.at) c.in-Some.base (ap base_of (sym c.look.ensures) ∙ sym c.base_of.ensures ∙ c.in-Some.is) in
    refused param_said s c.args.at room next Unexpected
    (param_unnamed_at s c.args.at next room c.read_stars-stars.result.0 c.in-Some.base here (c.read_stars-stars.ensures c.args.bytes.now room) (λ h. not_from_false (kind ≡ Some k.Name) c.is_at.result c.is_at.ensures c.if-not-is_at.true h))
    c.unexpected.result c.unexpected.ensures

pub returns-in_ok-name-in-Some : goal.returns-in_ok-name-in-Some
returns-in_ok-name-in-Some c room =
    let s = source c.args.bytes.now c.args.tokens.now in
    let next = c.read_stars-stars.result.1 in
    let here = base_kind_is (kind_at c.args.tokens.now c.args.at) c.in-Some.base (ap base_of (sym c.look.ensures) ∙ sym c.base_of.ensures ∙ c.in-Some.is) in
    subst (λ n. ReadsAt param_said s c.args.at room (record { base = c.in-Some.base; stars = c.read_stars-stars.result.0; name = n }) (next + 1)) (sym c.in_ok-name-in-Some.ensures)
    (param_at s c.args.at next room c.read_stars-stars.result.0 c.in-Some.base here (c.read_stars-stars.ensures c.args.bytes.now room) (c.is_at.ensures.0 c.if-not-is_at.false))

pub returns-in-None : goal.returns-in-None
returns-in-None c room =
    let s = source c.args.bytes.now c.args.tokens.now in
    refused param_said s c.args.at room c.args.at Unexpected
    (no_param_at s c.args.at room (no_base (kind_at c.args.tokens.now c.args.at) (ap base_of (sym c.look.ensures) ∙ sym c.base_of.ensures ∙ c.in-None.is)))
    c.unexpected-in-None.result c.unexpected-in-None.ensures

pub overflow_add-result : goal.overflow_add-result
overflow_add-result c =
    let inside = (from_more (source c.args.bytes.now c.args.tokens.now) c.read_stars-stars.result.1 k.Name (c.is_at.ensures.0 c.if-not-is_at.false)).1 in
    omega (arith, inside)
