use Rattle.std.proofs.Common.{◌≡◌, sym, ◌∙◌, ap, subst, ◌+◌, [], ◌∷◌, ◌++◌, append_assoc, append-nil, arith, Some}
use Rattle.c_lexer.specs.declared.token.TokenKind.TheVariants as k
use Rattle.c_tree.specs.declared.fault.Wrong.TheVariants.{Unexpected}
use Rattle.c_tree.specs.Tokens.{source, kind_at}
use Rattle.c_tree.specs.Grammar.{var_said, more_vars}
use Rattle.c_tree.specs.Reading.{ReadsAt}
use Rattle.c_tree.proofs.Places.{from_more}
use Rattle.c_tree.proofs.Choices.{not_from_false}
use Rattle.c_tree.proofs.Handed.{handed_on, refused}
use Rattle.c_parser.proofs.Vars.{no_more_at, more_at, more_first_refused, more_rest_refused, more_missing_at}
use Rattle.c_parser.proofs.declaration.read_more_vars.Goals as goal

pub loop-alloc-init : goal.loop-alloc-init
loop-alloc-init c =
    let s = source c.args.bytes.now c.args.tokens.now in
    record {
      inside = c.requires;
      reads = λ xs n r. subst (λ ys. ReadsAt more_vars s c.args.at c.args.room (ys ++ xs) n) (sym c.new-vars.ensures) r;
      refuses = λ token why r. r;
    }

pub returns-then-is_at : goal.returns-then-is_at
returns-then-is_at c =
    let s = source c.args.bytes.now c.args.tokens.now in
    let next = c.loop-alloc.next in
    let all = c.loop-alloc.invariant.reads [] (next + 1) (no_more_at s next c.args.room (c.is_at.ensures.0 c.if-is_at.true)) in
    subst (λ xs. ReadsAt more_vars s c.args.at c.args.room xs (next + 1)) (append-nil c.loop-alloc.vars) all

pub returns-then-not-is_at : goal.returns-then-not-is_at
returns-then-not-is_at c =
    let s = source c.args.bytes.now c.args.tokens.now in
    let next = c.loop-alloc.next in
    let kind = kind_at c.args.tokens.now next in
    refused more_vars s c.args.at c.args.room next Unexpected
    (c.loop-alloc.invariant.refuses next Unexpected (more_missing_at s next c.args.room
    (λ h. not_from_false (kind ≡ Some k.Semicolon) c.is_at.result c.is_at.ensures c.if-is_at.false h)
    (λ h. not_from_false (kind ≡ Some k.Comma) c.is_at-in-loop-alloc.result c.is_at-in-loop-alloc.ensures c.if-not-is_at.true h)))
    c.unexpected.result c.unexpected.ensures

pub read_var-requires : goal.read_var-requires
read_var-requires c = (from_more (source c.args.bytes.now c.args.tokens.now) c.loop-alloc.next k.Comma (c.is_at-in-loop-alloc.ensures.0 c.if-not-is_at.false)).1

pub returns-in_err-var : goal.returns-in_err-var
returns-in_err-var c =
    let s = source c.args.bytes.now c.args.tokens.now in
    let next = c.loop-alloc.next in
    handed_on var_said more_vars s (next + 1) c.args.room c.args.at c.args.room
    (λ token why r. c.loop-alloc.invariant.refuses token why (more_first_refused s next c.args.room token why (c.is_at-in-loop-alloc.ensures.0 c.if-not-is_at.false) r))
    c.in_err-var.field-0.0 c.in_err-var.ensures c.from_residual.result c.from_residual.ensures.1

pub loop-alloc-preserved : goal.loop-alloc-preserved
loop-alloc-preserved c =
    let s = source c.args.bytes.now c.args.tokens.now in
    let next = c.loop-alloc.next in
    let comma : kind_at c.args.tokens.now next ≡ Some k.Comma = c.is_at-in-loop-alloc.ensures.0 c.if-not-is_at.false in
    let r = c.in_ok-var.ensures in
    record {
      inside = r.inside;
      reads = λ xs n t.
          let all = c.loop-alloc.invariant.reads (c.in_ok-var.var ∷ xs) n (more_at s next c.in_ok-var.after c.args.room c.in_ok-var.var comma r xs n t) in
          subst (λ ys. ReadsAt more_vars s c.args.at c.args.room ys n) (sym (append_assoc c.loop-alloc.vars (c.in_ok-var.var ∷ []) xs) ∙ ap (λ ys. ys ++ xs) (sym c.in_ok-push.ensures.ok)) all;
      refuses = λ token why t. c.loop-alloc.invariant.refuses token why (more_rest_refused s next c.in_ok-var.after c.args.room c.in_ok-var.var comma r token why t);
    }

pub loop-alloc-smaller : goal.loop-alloc-smaller
loop-alloc-smaller c =
    let r = c.in_ok-var.ensures in
    let place = r.place in
    let inside = r.inside in
    let more = (from_more (source c.args.bytes.now c.args.tokens.now) c.loop-alloc.next k.Comma (c.is_at-in-loop-alloc.ensures.0 c.if-not-is_at.false)).1 in
    omega arith
