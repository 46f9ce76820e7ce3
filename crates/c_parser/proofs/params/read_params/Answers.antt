use Rattle.std.proofs.Common.{◌≡◌, sym, ◌∙◌, ap, subst, ◌+◌, false, true, [], ◌∷◌, ◌++◌, Some}
use Rattle.c_lexer.specs.declared.token.TokenKind.TheVariants as k
use Rattle.c_tree.specs.Tokens.{source, kind_at}
use Rattle.c_tree.specs.Grammar.{param_said, more_params}
use Rattle.c_tree.specs.Reading.{ReadsAt}
use Rattle.c_tree.proofs.Choices.{not_from_false}
use Rattle.c_parser.specs.Flagged.{SaysVoid, params_of}
use Rattle.c_parser.proofs.Flags.{flagged_on}
use Rattle.c_parser.proofs.Parameters.{no_params_at, void_params_at, params_at, param_refused, later_refused, IsListed}
use Rattle.c_parser.proofs.params.read_params.Goals as goal

pub returns-then-is_at : goal.returns-then-is_at
returns-then-is_at c room =
    let s = source c.args.bytes.now c.args.tokens.now in
    (false, subst (λ xs. ReadsAt params_of s c.args.at room (false, xs) (c.args.at + 1)) (sym c.new.ensures) (no_params_at s c.args.at room (c.is_at.ensures.0 c.if-is_at.true)))

pub returns-then-says_void : goal.returns-then-says_void
returns-then-says_void c room =
    let s = source c.args.bytes.now c.args.tokens.now in
    let void = c.says_void.ensures.0 c.if-says_void.true in
    (true, subst (λ xs. ReadsAt params_of s c.args.at room (true, xs) (c.args.at + 2)) (sym c.new-then-says_void.ensures) (void_params_at s c.args.at room void.0 void.1))

pub returns-in_err-first : goal.returns-in_err-first
returns-in_err-first c room =
    let s = source c.args.bytes.now c.args.tokens.now in
    let tokens = c.args.tokens.now in
    let listed : IsListed s c.args.at = record {
      unclosed = λ h. not_from_false (kind_at tokens c.args.at ≡ Some k.CloseParen) c.is_at.result c.is_at.ensures c.if-is_at.false h;
      unvoided = λ h. not_from_false (SaysVoid tokens c.args.at) c.says_void.result c.says_void.ensures c.if-says_void.false h;
    } in
    flagged_on param_said params_of s c.args.at room c.args.at room
    (λ token why r. param_refused s c.args.at room token why listed r)
    c.in_err-first.field-0.0 (c.in_err-first.ensures room) c.from_residual.result c.from_residual.ensures.1

pub read_more_params-requires : goal.read_more_params-requires
read_more_params-requires c = let r = c.in_ok-first.ensures 0 in r.inside

pub returns-in_err-more : goal.returns-in_err-more
returns-in_err-more c room =
    let s = source c.args.bytes.now c.args.tokens.now in
    let tokens = c.args.tokens.now in
    let next = c.in_ok-first.next in
    let listed : IsListed s c.args.at = record {
      unclosed = λ h. not_from_false (kind_at tokens c.args.at ≡ Some k.CloseParen) c.is_at.result c.is_at.ensures c.if-is_at.false h;
      unvoided = λ h. not_from_false (SaysVoid tokens c.args.at) c.says_void.result c.says_void.ensures c.if-says_void.false h;
    } in
    flagged_on more_params params_of s next room c.args.at room
    (λ token why r. later_refused s c.args.at next room c.in_ok-first.first token why listed (c.in_ok-first.ensures room) r)
    c.in_err-more.field-0.0 (c.in_err-more.ensures room) c.from_residual-in_err-more.result c.from_residual-in_err-more.ensures.1

pub returns : goal.returns
returns c room =
    let s = source c.args.bytes.now c.args.tokens.now in
    let first = c.in_ok-first.first in
    let more = c.in_ok-more.more in
    let params = c.in_ok-append.ensures ∙ ap (λ w. w ++ more) (c.in_ok-push.ensures.ok ∙ ap (λ w. w ++ first ∷ []) c.new-params.ensures) in (
      false,
      subst (λ w. ReadsAt params_of s c.args.at room (false, w) c.in_ok-more.after) (sym params)
          (params_at s c.args.at c.in_ok-first.next c.in_ok-more.after room first more (c.in_ok-first.ensures room) (c.in_ok-more.ensures room)),
    )
