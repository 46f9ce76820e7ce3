use Rattle.std.proofs.Common.{◌≡◌, ap, sym, ◌∙◌, ◌+◌, true, Some}
use Rattle.c_lexer.specs.declared.token.TokenKind.TheVariants as k
use Rattle.c_tree.specs.Tokens.{source, kind_at}
use Rattle.c_tree.specs.Grammar.{declaration_said, stmt_said}
use Rattle.c_tree.proofs.Choices.{not_from_false}
use Rattle.c_tree.proofs.Handed.{handed_on}
use Rattle.c_expressions.proofs.OperatorTests.{no_some}
use Rattle.c_parser.specs.Bases.{base_of}
use Rattle.c_parser.proofs.Vars.{is_base, base_kind_is, base_is}
use Rattle.c_parser.proofs.SimpleForms.{declared_stmt_at, declared_stmt_refused_at}
use Rattle.c_parser.proofs.Assigned.{assigned_here}
use Rattle.c_parser.proofs.simple.read_flat.Goals as goal

pub read_declaration-requires : goal.read_declaration-requires
read_declaration-requires c = record { within = c.requires.within; here = ap base_of (sym c.look.ensures) ∙ sym c.base_of.ensures ∙ c.in-Some.is }

pub returns-in_err-declaration : goal.returns-in_err-declaration
returns-in_err-declaration c =
    let s = source c.args.bytes.now c.args.tokens.now in
    let kind = kind_at c.args.tokens.now c.args.at in
    let here : base_of kind ≡ Some c.in-Some.base = ap base_of (sym c.look.ensures) ∙ sym c.base_of.ensures ∙ c.in-Some.is in
    let passes : is_base kind ≡ true = ap is_base (base_kind_is kind c.in-Some.base here) ∙ base_is c.in-Some.base in
    handed_on declaration_said stmt_said s c.args.at c.args.room c.args.at c.args.room
    (λ token why r. declared_stmt_refused_at s c.args.at c.args.room token why passes r)
    c.in_err-declaration.field-0.0 c.in_err-declaration.ensures c.from_residual.result c.from_residual.ensures.1

pub returns-in-Some : goal.returns-in-Some
returns-in-Some c =
    let s = source c.args.bytes.now c.args.tokens.now in
    declared_stmt_at s c.args.at c.args.room c.in_ok-declaration.next c.in_ok-declaration.declaration c.in_ok-declaration.ensures

pub read_assign-requires : goal.read_assign-requires
read_assign-requires c =
    let a = kind_at c.args.tokens.now c.args.at in
    let b = kind_at c.args.tokens.now (c.args.at + 1) in
    record {
      within = c.requires.within;
      here =
          assigned_here a b c.requires.here
          (ap base_of (sym c.look.ensures) ∙ sym c.base_of.ensures ∙ no_some c.base_of.result c.in_default.not-Some)
          (λ h. not_from_false (a ≡ Some k.Return) c.is_at.result c.is_at.ensures c.if-is_at.false h)
          (λ h. not_from_false (a ≡ Some k.Malloc) c.is_at-2.result c.is_at-2.ensures c.if-is_at-2.false h)
          (λ h. not_from_false (a ≡ Some k.Name) c.is_at-3.result c.is_at-3.ensures c.if-is_at-3.false h);
    }
