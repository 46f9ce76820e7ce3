use Rattle.std.proofs.Common.{◌≡◌, sym, ◌∙◌, ap, subst, ◌+◌, [], ◌∷◌, ◌++◌, append_assoc, append-nil, arith, Some}
use Rattle.c_lexer.specs.declared.token.TokenKind.TheVariants as k
use Rattle.c_tree.specs.declared.fault.Wrong.TheVariants.{Unexpected}
use Rattle.c_tree.specs.Tokens.{source, kind_at}
use Rattle.c_tree.specs.Grammar.{param_said, more_params}
use Rattle.c_tree.specs.Reading.{ReadsAt}
use Rattle.c_tree.proofs.Places.{from_more}
use Rattle.c_tree.proofs.Choices.{not_from_false}
use Rattle.c_tree.proofs.Handed.{handed_on, refused}
use Rattle.c_parser.proofs.ParamForms.{no_more_at, more_at, more_first_refused, more_rest_refused, more_missing_at}
use Rattle.c_parser.proofs.params.read_more_params.Goals as goal

pub loop-alloc-init : goal.loop-alloc-init
loop-alloc-init c =
    let s = source c.args.bytes.now c.args.tokens.now in
    record {
      inside = c.requires;
      reads = λ room xs n r. subst (λ ys. ReadsAt more_params s c.args.at room (ys ++ xs) n) (sym c.new-params.ensures) r;
      refuses = λ room token why r. r;
    }

pub returns-then-is_at : goal.returns-then-is_at
returns-then-is_at c room =
    let s = source c.args.bytes.now c.args.tokens.now in
    let next = c.loop-alloc.next in
    let all = c.loop-alloc.invariant.reads room [] (next + 1) (no_more_at s next room (c.is_at.ensures.0 c.if-is_at.true)) in
    subst (λ xs. ReadsAt more_params s c.args.at room xs (next + 1)) (append-nil c.loop-alloc.params) all

pub returns-then-not-is_at : goal.returns-then-not-is_at
returns-then-not-is_at c room =
    let s = source c.args.bytes.now c.args.tokens.now in
    let next = c.loop-alloc.next in
    let kind = kind_at c.args.tokens.now next in
    refused more_params s c.args.at room next Unexpected
    (c.loop-alloc.invariant.refuses room next Unexpected (more_missing_at s next room
    (λ h. not_from_false (kind ≡ Some k.CloseParen) c.is_at.result c.is_at.ensures c.if-is_at.false h)
    (λ h. not_from_false (kind ≡ Some k.Comma) c.is_at-in-loop-alloc.result c.is_at-in-loop-alloc.ensures c.if-not-is_at.true h)))
    c.unexpected.result c.unexpected.ensures

pub read_param-requires : goal.read_param-requires
read_param-requires c = (from_more (source c.args.bytes.now c.args.tokens.now) c.loop-alloc.next k.Comma (c.is_at-in-loop-alloc.ensures.0 c.if-not-is_at.false)).1

pub returns-in_err-param : goal.returns-in_err-param
returns-in_err-param c room =
    let s = source c.args.bytes.now c.args.tokens.now in
    let next = c.loop-alloc.next in
    handed_on param_said more_params s (next + 1) room c.args.at room
    (λ token why r. c.loop-alloc.invariant.refuses room token why (more_first_refused s next room token why (c.is_at-in-loop-alloc.ensures.0 c.if-not-is_at.false) r))
    c.in_err-param.field-0.0 (c.in_err-param.ensures room) c.from_residual.result c.from_residual.ensures.1

pub loop-alloc-preserved : goal.loop-alloc-preserved
loop-alloc-preserved c =
    let s = source c.args.bytes.now c.args.tokens.now in
    let next = c.loop-alloc.next in
    let comma : kind_at c.args.tokens.now next ≡ Some k.Comma = c.is_at-in-loop-alloc.ensures.0 c.if-not-is_at.false in
    let r = c.in_ok-param.ensures in
    let inside = r 0 in
    record {
      inside = inside.inside;
      reads = λ room xs n t.
          let all = c.loop-alloc.invariant.reads room (c.in_ok-param.param ∷ xs) n (more_at s next c.in_ok-param.after room c.in_ok-param.param comma (r room) xs n t) in
          subst (λ ys. ReadsAt more_params s c.args.at room ys n) (sym (append_assoc c.loop-alloc.params (c.in_ok-param.param ∷ []) xs) ∙ ap (λ ys. ys ++ xs) (sym c.in_ok-push.ensures.ok)) all;
      refuses = λ room token why t. c.loop-alloc.invariant.refuses room token why (more_rest_refused s next c.in_ok-param.after room c.in_ok-param.param comma (r room) token why t);
    }

pub loop-alloc-smaller : goal.loop-alloc-smaller
loop-alloc-smaller c =
    let r = c.in_ok-param.ensures 0 in
    let place = r.place in
    let inside = r.inside in
    let more = (from_more (source c.args.bytes.now c.args.tokens.now) c.loop-alloc.next k.Comma (c.is_at-in-loop-alloc.ensures.0 c.if-not-is_at.false)).1 in
    omega arith
