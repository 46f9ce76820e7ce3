use Rattle.std.proofs.Common.{◌≡◌, sym, ◌∙◌, ap, subst, ◌+◌, ◌-◌, [], ◌∷◌, ◌++◌, append_assoc, arith, rules, Some}
use Rattle.c_lexer.specs.declared.token.TokenKind.TheVariants as k
use Rattle.c_tree.specs.declared.tree.Call.TheVariants as call
use Rattle.c_tree.specs.declared.tree.Place.TheVariants as place
use Rattle.c_tree.specs.declared.tree.Pointer.TheVariants as pointer
use Rattle.c_tree.specs.declared.tree.Unary.TheVariants as unary
use Rattle.c_tree.specs.declared.fault.Wrong.TheVariants.{Unexpected, TooDeep}
use Rattle.c_tree.specs.Tokens.{source, kind_at, tok_of}
use Rattle.c_tree.specs.Grammar.{is_add, is_compare, add_kind, compare_kind, args_of, condition_said, place_said, pointer_said, unary_said, added_said, compared_of, expr_said, sum_of}
use Rattle.c_tree.specs.Reading.{ReadsAt}
use Rattle.c_tree.proofs.Places.{from_more}
use Rattle.c_tree.proofs.Choices.{not_from_false}
use Rattle.c_tree.proofs.Handed.{handed_on, refused}
use Rattle.c_expressions.specs.Operators.{add_of, compare_of}
use Rattle.c_expressions.proofs.OperatorTests.{no_some, add_kind_is, is_add_kind, no_add, compare_kind_is, is_compare_kind, no_compare}
use Rattle.c_expressions.proofs.Sums.{sum_run, sum_start, sum_start_refused, tail_at, tail_first_refused, tail_rest_refused, first_operand_refused, sum_refused, sum_grown, sum_ended, end_at, added_at, added_refused_at, compared_made, compared_at, compared_refused_at, expr_alone_at, expr_pair_at, left_refused_at, right_refused_at}
use Rattle.c_expressions.proofs.Arguments.{last_listed, next_listed, next_refused, unlisted, listed_refused, no_args_at, some_args_at, some_args_refused_at, bracketed_at, bracketed_refused_at, unclosed_at, unopened_at, not_open}
use Rattle.c_expressions.proofs.Forms.{pointer_name_at, place_name_at, place_no_call_at, pointer_function_at, pointer_function_refused_at, pointer_function_deep_at, pointer_malloc_at, pointer_malloc_refused_at, pointer_malloc_deep_at, pointer_star_at, pointer_star_refused_at, pointer_star_deep_at, place_star_at, place_star_refused_at, place_star_deep_at, pointer_paren_at, pointer_paren_refused_at, pointer_paren_deep_at, no_pointer_at, no_place_at, not_pointer, not_place}
use Rattle.c_expressions.proofs.Operands.{number_at, null_at, address_at, address_refused_at, other_at, other_refused_at, other_true}
use Rattle.c_expressions.proofs.+expr.Goals as goal

-- ---- arguments
pub args::read_args-returns-then-is_at : goal.args::read_args-returns-then-is_at
args::read_args-returns-then-is_at g c =
    let s = source c.args.bytes.now c.args.tokens.now in
    subst (λ xs. ReadsAt args_of s c.args.at c.args.room xs (c.args.at + 1)) (sym c.new-args.ensures) (no_args_at s c.args.at c.args.room (c.is_at.ensures.0 c.if-is_at.true))

pub args::read_args-loop-args-init : goal.args::read_args-loop-args-init
args::read_args-loop-args-init g c =
    let s = source c.args.bytes.now c.args.tokens.now in
    record {
      inside = c.requires;
      reads = λ x xs n r. subst (λ ys. ReadsAt args_of s c.args.at c.args.room (ys ++ x ∷ xs) n) (sym c.new-args.ensures) (some_args_at s c.args.at c.args.room n x xs r);
      refuses = λ token why r. some_args_refused_at s c.args.at c.args.room token why (λ h. not_from_false (kind_at c.args.tokens.now c.args.at ≡ Some k.CloseParen) c.is_at.result c.is_at.ensures c.if-is_at.false h) r;
    }

pub args::read_args-returns-in_err-arg : goal.args::read_args-returns-in_err-arg
args::read_args-returns-in_err-arg g c =
    let s = source c.args.bytes.now c.args.tokens.now in
    handed_on expr_said args_of s c.loop-args.next c.args.room c.args.at c.args.room
    (λ token why r. c.loop-args.invariant.refuses token why (listed_refused s c.loop-args.next c.args.room token why r))
    c.in_err-arg.field-0.0 c.in_err-arg.ensures c.from_residual.result c.from_residual.ensures.1

pub args::read_args-loop-args-smaller : goal.args::read_args-loop-args-smaller
args::read_args-loop-args-smaller g c =
    let s = source c.args.bytes.now c.args.tokens.now in
    let r = c.in_ok-arg.ensures in
    let place = r.place in
    let more = (from_more s c.in_ok-arg.after k.Comma (c.is_at-in-loop-args-2.ensures.0 c.if-not-is_at.false)).1 in
    omega arith

pub args::read_args-loop-args-preserved : goal.args::read_args-loop-args-preserved
args::read_args-loop-args-preserved g c =
    let s = source c.args.bytes.now c.args.tokens.now in
    let comma : kind_at c.args.tokens.now c.in_ok-arg.after ≡ Some k.Comma = c.is_at-in-loop-args-2.ensures.0 c.if-not-is_at.false in
    let pushed = c.in_ok-push.ensures.ok in
    record {
      inside = (from_more s c.in_ok-arg.after k.Comma comma).1;
      reads = λ x xs n r.
          let all = c.loop-args.invariant.reads c.in_ok-arg.arg (x ∷ xs) n (next_listed s c.loop-args.next c.in_ok-arg.after c.args.room c.in_ok-arg.arg c.in_ok-arg.ensures comma x xs n r) in
          subst (λ ys. ReadsAt args_of s c.args.at c.args.room ys n) (sym (append_assoc c.loop-args.args (c.in_ok-arg.arg ∷ []) (x ∷ xs)) ∙ ap (λ ys. ys ++ x ∷ xs) (sym pushed)) all;
      refuses = λ token why r. c.loop-args.invariant.refuses token why (next_refused s c.loop-args.next c.in_ok-arg.after c.args.room c.in_ok-arg.arg c.in_ok-arg.ensures comma token why r);
    }

pub args::read_args-returns-then-is_at-2 : goal.args::read_args-returns-then-is_at-2
args::read_args-returns-then-is_at-2 g c =
    let s = source c.args.bytes.now c.args.tokens.now in
    let all = c.loop-args.invariant.reads c.in_ok-arg.arg [] (c.in_ok-arg.after + 1) (last_listed s c.loop-args.next c.in_ok-arg.after c.args.room c.in_ok-arg.arg c.in_ok-arg.ensures (c.is_at-in-loop-args.ensures.0 c.if-is_at-2.true)) in
    subst (λ ys. ReadsAt args_of s c.args.at c.args.room ys (c.in_ok-arg.after + 1)) (sym c.in_ok-push.ensures.ok) all

pub args::read_args-returns-then-not-is_at : goal.args::read_args-returns-then-not-is_at
args::read_args-returns-then-not-is_at g c =
    let s = source c.args.bytes.now c.args.tokens.now in
    refused args_of s c.args.at c.args.room c.in_ok-arg.after Unexpected
    (c.loop-args.invariant.refuses c.in_ok-arg.after Unexpected (unlisted s c.loop-args.next c.in_ok-arg.after c.args.room c.in_ok-arg.arg c.in_ok-arg.ensures
    (λ h. not_from_false (kind_at c.args.tokens.now c.in_ok-arg.after ≡ Some k.CloseParen) c.is_at-in-loop-args.result c.is_at-in-loop-args.ensures c.if-is_at-2.false h)
    (λ h. not_from_false (kind_at c.args.tokens.now c.in_ok-arg.after ≡ Some k.Comma) c.is_at-in-loop-args-2.result c.is_at-in-loop-args-2.ensures c.if-not-is_at.true h)))
    c.unexpected.result c.unexpected.ensures

-- ---- brackets
pub args::read_bracketed-returns-then-not-is_at : goal.args::read_bracketed-returns-then-not-is_at
args::read_bracketed-returns-then-not-is_at g c =
    let s = source c.args.bytes.now c.args.tokens.now in
    refused condition_said s c.args.at c.args.room c.args.at Unexpected
    (unopened_at s c.args.at c.args.room (λ h. not_from_false (kind_at c.args.tokens.now c.args.at ≡ Some k.OpenParen) c.is_at.result c.is_at.ensures c.if-not-is_at.true h))
    c.unexpected.result c.unexpected.ensures

pub args::read_bracketed-read_expr-requires : goal.args::read_bracketed-read_expr-requires
args::read_bracketed-read_expr-requires g c =
    (search rules, (from_more (source c.args.bytes.now c.args.tokens.now) c.args.at k.OpenParen (c.is_at.ensures.0 c.if-not-is_at.false)).1)

pub args::read_bracketed-returns-in_err-inner : goal.args::read_bracketed-returns-in_err-inner
args::read_bracketed-returns-in_err-inner g c =
    let s = source c.args.bytes.now c.args.tokens.now in
    handed_on expr_said condition_said s (c.args.at + 1) c.args.room c.args.at c.args.room
    (λ token why r. bracketed_refused_at s c.args.at c.args.room token why (c.is_at.ensures.0 c.if-not-is_at.false) r)
    c.in_err-inner.field-0.0 c.in_err-inner.ensures c.from_residual.result c.from_residual.ensures.1

pub args::read_bracketed-returns-then-not-is_at-2 : goal.args::read_bracketed-returns-then-not-is_at-2
args::read_bracketed-returns-then-not-is_at-2 g c =
    let s = source c.args.bytes.now c.args.tokens.now in
    refused condition_said s c.args.at c.args.room c.in_ok-inner.next Unexpected
    (unclosed_at s c.args.at c.args.room c.in_ok-inner.next c.in_ok-inner.inner (c.is_at.ensures.0 c.if-not-is_at.false) c.in_ok-inner.ensures
    (λ h. not_from_false (kind_at c.args.tokens.now c.in_ok-inner.next ≡ Some k.CloseParen) c.is_at-2.result c.is_at-2.ensures c.if-not-is_at-2.true h))
    c.unexpected-then-not-is_at-2.result c.unexpected-then-not-is_at-2.ensures

pub args::read_bracketed-returns : goal.args::read_bracketed-returns
args::read_bracketed-returns g c =
    let s = source c.args.bytes.now c.args.tokens.now in
    bracketed_at s c.args.at c.args.room c.in_ok-inner.next c.in_ok-inner.inner (c.is_at.ensures.0 c.if-not-is_at.false) c.in_ok-inner.ensures (c.is_at-2.ensures.0 c.if-not-is_at-2.false)

-- ---- operators and their operands
pub expr::read_added-returns-in_err-unary : goal.expr::read_added-returns-in_err-unary
expr::read_added-returns-in_err-unary g c =
    let s = source c.args.bytes.now c.args.tokens.now in
    let here = add_kind_is (kind_at c.args.tokens.now c.args.at) c.args.op c.requires.here in
    handed_on unary_said added_said s (c.args.at + 1) c.args.room c.args.at c.args.room
    (λ token why r. added_refused_at s c.args.at c.args.room token why c.args.op here r)
    c.in_err-unary.field-0.0 c.in_err-unary.ensures c.from_residual.result c.from_residual.ensures.1

pub expr::read_added-read_unary-requires : goal.expr::read_added-read_unary-requires
expr::read_added-read_unary-requires g c =
    let here = add_kind_is (kind_at c.args.tokens.now c.args.at) c.args.op c.requires.here in
    (search rules, (from_more (source c.args.bytes.now c.args.tokens.now) c.args.at (add_kind c.args.op) here).1)

pub expr::read_added-returns : goal.expr::read_added-returns
expr::read_added-returns g c =
    let s = source c.args.bytes.now c.args.tokens.now in
    let here = add_kind_is (kind_at c.args.tokens.now c.args.at) c.args.op c.requires.here in
    subst (λ t. ReadsAt added_said s c.args.at c.args.room (record { op = c.args.op; tok = t; unary = c.in_ok-unary.unary }) c.in_ok-unary.next) (sym c.tok_at-tok.ensures)
    (added_at s c.args.at c.in_ok-unary.next c.args.room c.args.op c.in_ok-unary.unary here c.in_ok-unary.ensures)

pub expr::read_compared-read_sum-requires : goal.expr::read_compared-read_sum-requires
expr::read_compared-read_sum-requires g c =
    let here = compare_kind_is (kind_at c.args.tokens.now c.args.at) c.args.op c.requires.here in
    (search rules, (from_more (source c.args.bytes.now c.args.tokens.now) c.args.at (compare_kind c.args.op) here).1)

pub expr::read_compared-returns-in_err-sum : goal.expr::read_compared-returns-in_err-sum
expr::read_compared-returns-in_err-sum g c =
    let s = source c.args.bytes.now c.args.tokens.now in
    let here = compare_kind_is (kind_at c.args.tokens.now c.args.at) c.args.op c.requires.here in
    handed_on sum_of compared_of s (c.args.at + 1) c.args.room c.args.at c.args.room
    (λ token why r. compared_refused_at s c.args.at c.args.room token why c.args.op here r)
    c.in_err-sum.field-0.0 c.in_err-sum.ensures c.from_residual.result c.from_residual.ensures.1

pub expr::read_compared-returns : goal.expr::read_compared-returns
expr::read_compared-returns g c =
    let s = source c.args.bytes.now c.args.tokens.now in
    let here = compare_kind_is (kind_at c.args.tokens.now c.args.at) c.args.op c.requires.here in
    subst (λ t. ReadsAt compared_of s c.args.at c.args.room (compared_made ((c.args.op, t), c.in_ok-sum.sum)) c.in_ok-sum.next) (sym c.tok_at-tok.ensures)
    (compared_at s c.args.at c.in_ok-sum.next c.args.room c.args.op c.in_ok-sum.sum here c.in_ok-sum.ensures)

-- ---- comparisons
pub expr::read_expr-returns-in_err-left : goal.expr::read_expr-returns-in_err-left
expr::read_expr-returns-in_err-left g c =
    let s = source c.args.bytes.now c.args.tokens.now in
    handed_on sum_of expr_said s c.args.at c.args.room c.args.at c.args.room
    (λ token why r. left_refused_at s c.args.at c.args.room token why r)
    c.in_err-left.field-0.0 c.in_err-left.ensures c.from_residual.result c.from_residual.ensures.1

pub expr::read_expr-returns-in_err-right-in-Some : goal.expr::read_expr-returns-in_err-right-in-Some
expr::read_expr-returns-in_err-right-in-Some g c =
    let s = source c.args.bytes.now c.args.tokens.now in
    let next = c.in_ok-left.next in
    let here = compare_kind_is (kind_at c.args.tokens.now next) c.in-Some.op (ap compare_of (sym c.look.ensures) ∙ sym c.compare_op.ensures ∙ c.in-Some.is) in
    handed_on compared_of expr_said s next c.args.room c.args.at c.args.room
    (λ token why r. right_refused_at s c.args.at next c.args.room token why c.in_ok-left.left c.in_ok-left.ensures (ap is_compare here ∙ is_compare_kind c.in-Some.op) r)
    c.in_err-right-in-Some.field-0.0 c.in_err-right-in-Some.ensures c.from_residual-in_err-right-in-Some.result c.from_residual-in_err-right-in-Some.ensures.1

pub expr::read_expr-returns-in_ok-right-in-Some : goal.expr::read_expr-returns-in_ok-right-in-Some
expr::read_expr-returns-in_ok-right-in-Some g c =
    let s = source c.args.bytes.now c.args.tokens.now in
    expr_pair_at s c.args.at c.in_ok-left.next c.in_ok-right-in-Some.after c.args.room c.in_ok-left.left c.in_ok-right-in-Some.right c.in_ok-left.ensures c.in_ok-right-in-Some.ensures

pub expr::read_expr-returns-in-None : goal.expr::read_expr-returns-in-None
expr::read_expr-returns-in-None g c =
    let s = source c.args.bytes.now c.args.tokens.now in
    expr_alone_at s c.args.at c.in_ok-left.next c.args.room c.in_ok-left.left c.in_ok-left.ensures (no_compare (kind_at c.args.tokens.now c.in_ok-left.next) (ap compare_of (sym c.look.ensures) ∙ sym c.compare_op.ensures ∙ c.in-None.is))

-- ---- sums
pub expr::read_sum-returns-in_err-first : goal.expr::read_sum-returns-in_err-first
expr::read_sum-returns-in_err-first g c =
    let s = source c.args.bytes.now c.args.tokens.now in
    handed_on unary_said sum_of s c.args.at c.args.room c.args.at c.args.room
    (λ token why r. first_operand_refused s c.args.at c.args.room token why r)
    c.in_err-first.field-0.0 c.in_err-first.ensures c.from_residual.result c.from_residual.ensures.1

pub expr::read_sum-loop-op-init : goal.expr::read_sum-loop-op-init
expr::read_sum-loop-op-init g c =
    let s = source c.args.bytes.now c.args.tokens.now in
    let r = c.in_ok-first.ensures in
    record {
      inside = r.inside;
      reads = λ zs n t. subst (λ ys. ReadsAt sum_run s c.args.at c.args.room (c.in_ok-first.first, ys ++ zs) n) (sym c.new-rest.ensures) (sum_start s c.args.at c.in_ok-first.next c.args.room c.in_ok-first.first r zs n t);
      refuses = λ token why t. sum_start_refused s c.args.at c.in_ok-first.next c.args.room c.in_ok-first.first r token why t;
    }

pub expr::read_sum-returns-in_err-added : goal.expr::read_sum-returns-in_err-added
expr::read_sum-returns-in_err-added g c =
    let s = source c.args.bytes.now c.args.tokens.now in
    let next = c.loop-op.next in
    let here = add_kind_is (kind_at c.args.tokens.now next) c.in-Some.op (ap add_of (sym c.look.ensures) ∙ sym c.add_op.ensures ∙ c.in-Some.is) in
    handed_on added_said sum_of s next c.args.room c.args.at c.args.room
    (λ token why r. sum_refused s c.args.at c.args.room token why (c.loop-op.invariant.refuses token why (tail_first_refused s next c.args.room token why (ap is_add here ∙ is_add_kind c.in-Some.op) r)))
    c.in_err-added.field-0.0 c.in_err-added.ensures c.from_residual-in_err-added.result c.from_residual-in_err-added.ensures.1

pub expr::read_sum-loop-op-preserved : goal.expr::read_sum-loop-op-preserved
expr::read_sum-loop-op-preserved g c =
    let s = source c.args.bytes.now c.args.tokens.now in
    let next = c.loop-op.next in
    let here = add_kind_is (kind_at c.args.tokens.now next) c.in-Some.op (ap add_of (sym c.look.ensures) ∙ sym c.add_op.ensures ∙ c.in-Some.is) in
    let passes = ap is_add here ∙ is_add_kind c.in-Some.op in
    let r = c.in_ok-added.ensures in
    record {
      inside = r.inside;
      reads = λ zs n t.
          let all = c.loop-op.invariant.reads (c.in_ok-added.added ∷ zs) n (tail_at s next c.in_ok-added.after c.args.room c.in_ok-added.added r zs n t) in
          sum_grown s c.args.at c.args.room _ c.loop-op.rest c.push.new.self c.in_ok-added.added c.in_ok-push.ensures.ok zs n all;
      refuses = λ token why t. c.loop-op.invariant.refuses token why (tail_rest_refused s next c.in_ok-added.after c.args.room c.in_ok-added.added passes r token why t);
    }

pub expr::read_sum-returns : goal.expr::read_sum-returns
expr::read_sum-returns g c =
    let s = source c.args.bytes.now c.args.tokens.now in
    let none = no_add (kind_at c.args.tokens.now c.loop-op.next) (ap add_of (sym c.look.ensures) ∙ sym c.add_op.ensures ∙ no_some c.add_op.result c.in_default.not-Some) in
    let all = c.loop-op.invariant.reads [] c.loop-op.next (end_at s c.loop-op.next c.args.room c.loop-op.invariant.inside none) in
    sum_ended s c.args.at c.args.room _ c.loop-op.rest c.loop-op.next all

-- ---- `malloc`
pub pointer::read_malloc-returns-then-room-eq0 : goal.pointer::read_malloc-returns-then-room-eq0
pointer::read_malloc-returns-then-room-eq0 g c =
    let s = source c.args.bytes.now c.args.tokens.now in
    refused pointer_said s c.args.at c.args.room c.args.at TooDeep (pointer_malloc_deep_at s c.args.at c.args.room c.requires.here c.if-room-eq0.true) c.too_deep.result c.too_deep.ensures

pub pointer::read_malloc-read_bracketed-requires : goal.pointer::read_malloc-read_bracketed-requires
pointer::read_malloc-read_bracketed-requires g c =
    (search rules, (from_more (source c.args.bytes.now c.args.tokens.now) c.args.at k.Malloc c.requires.here).1)

pub pointer::read_malloc-returns-in_err-size : goal.pointer::read_malloc-returns-in_err-size
pointer::read_malloc-returns-in_err-size g c =
    let s = source c.args.bytes.now c.args.tokens.now in
    handed_on condition_said pointer_said s (c.args.at + 1) (c.args.room - 1) c.args.at c.args.room
    (λ token why r. pointer_malloc_refused_at s c.args.at c.args.room token why c.requires.here c.if-room-eq0.false r)
    c.in_err-size.field-0.0 c.in_err-size.ensures c.from_residual.result c.from_residual.ensures.1

pub pointer::read_malloc-returns : goal.pointer::read_malloc-returns
pointer::read_malloc-returns g c =
    let s = source c.args.bytes.now c.args.tokens.now in
    let next = c.in_ok-size.next in
    subst (λ t. ReadsAt pointer_said s c.args.at c.args.room (pointer.Call (call.Malloc t c.in_ok-size-2.size)) next) (sym c.tok_at-tok.ensures)
    (subst (λ e. ReadsAt pointer_said s c.args.at c.args.room (pointer.Call (call.Malloc (tok_of c.args.tokens.now c.args.at) e)) next) (sym c.in_ok-size-2.ensures)
    (pointer_malloc_at s c.args.at c.args.room next c.in_ok-size.size c.requires.here c.if-room-eq0.false c.in_ok-size.ensures))

-- ---- names and calls
pub pointer::read_named-returns-then-not-is_at : goal.pointer::read_named-returns-then-not-is_at
pointer::read_named-returns-then-not-is_at g c =
    let s = source c.args.bytes.now c.args.tokens.now in
    subst (λ n. ReadsAt pointer_said s c.args.at c.args.room (pointer.Name n) (c.args.at + 1)) (sym c.in_ok-name.ensures)
    (pointer_name_at s c.args.at c.args.room c.requires.here (not_open (kind_at c.args.tokens.now (c.args.at + 1)) (λ h. not_from_false (kind_at c.args.tokens.now (c.args.at + 1) ≡ Some k.OpenParen) c.is_at.result c.is_at.ensures c.if-not-is_at.true h)))

pub pointer::read_named-returns-then-room-eq0 : goal.pointer::read_named-returns-then-room-eq0
pointer::read_named-returns-then-room-eq0 g c =
    let s = source c.args.bytes.now c.args.tokens.now in
    refused pointer_said s c.args.at c.args.room (c.args.at + 1) TooDeep (pointer_function_deep_at s c.args.at c.args.room c.requires.here (c.is_at.ensures.0 c.if-not-is_at.false) c.if-room-eq0.true) c.too_deep.result c.too_deep.ensures

pub pointer::read_named-read_args-requires : goal.pointer::read_named-read_args-requires
pointer::read_named-read_args-requires g c =
    let more = (from_more (source c.args.bytes.now c.args.tokens.now) (c.args.at + 1) k.OpenParen (c.is_at.ensures.0 c.if-not-is_at.false)).1 in
    (search rules, omega arith)

pub pointer::read_named-returns-in_err-args : goal.pointer::read_named-returns-in_err-args
pointer::read_named-returns-in_err-args g c =
    let s = source c.args.bytes.now c.args.tokens.now in
    handed_on args_of pointer_said s (c.args.at + 2) (c.args.room - 1) c.args.at c.args.room
    (λ token why r. pointer_function_refused_at s c.args.at c.args.room token why c.requires.here (c.is_at.ensures.0 c.if-not-is_at.false) c.if-room-eq0.false r)
    c.in_err-args.field-0.0 c.in_err-args.ensures c.from_residual-in_err-args.result c.from_residual-in_err-args.ensures.1

pub pointer::read_named-returns : goal.pointer::read_named-returns
pointer::read_named-returns g c =
    let s = source c.args.bytes.now c.args.tokens.now in
    let next = c.in_ok-args.next in
    subst (λ n. ReadsAt pointer_said s c.args.at c.args.room (pointer.Call (call.Function n c.in_ok-args.args)) next) (sym c.in_ok-name.ensures)
    (pointer_function_at s c.args.at c.args.room next c.in_ok-args.args c.requires.here (c.is_at.ensures.0 c.if-not-is_at.false) c.if-room-eq0.false c.in_ok-args.ensures)

-- ---- brackets behind a star
pub pointer::read_paren-returns-then-room-eq0 : goal.pointer::read_paren-returns-then-room-eq0
pointer::read_paren-returns-then-room-eq0 g c =
    let s = source c.args.bytes.now c.args.tokens.now in
    refused pointer_said s c.args.at c.args.room c.args.at TooDeep (pointer_paren_deep_at s c.args.at c.args.room c.requires.here c.if-room-eq0.true) c.too_deep.result c.too_deep.ensures

pub pointer::read_paren-returns-in_err-inner : goal.pointer::read_paren-returns-in_err-inner
pointer::read_paren-returns-in_err-inner g c =
    let s = source c.args.bytes.now c.args.tokens.now in
    handed_on condition_said pointer_said s c.args.at (c.args.room - 1) c.args.at c.args.room
    (λ token why r. pointer_paren_refused_at s c.args.at c.args.room token why c.requires.here c.if-room-eq0.false r)
    c.in_err-inner.field-0.0 c.in_err-inner.ensures c.from_residual.result c.from_residual.ensures.1

pub pointer::read_paren-returns : goal.pointer::read_paren-returns
pointer::read_paren-returns g c =
    let s = source c.args.bytes.now c.args.tokens.now in
    let next = c.in_ok-inner.next in
    subst (λ e. ReadsAt pointer_said s c.args.at c.args.room (pointer.Paren e) next) (sym c.in_ok-inner-2.ensures)
    (pointer_paren_at s c.args.at c.args.room next c.in_ok-inner.inner c.if-room-eq0.false c.in_ok-inner.ensures)

-- ---- which of them it is
pub pointer::read_pointer-returns : goal.pointer::read_pointer-returns
pointer::read_pointer-returns g c =
    let s = source c.args.bytes.now c.args.tokens.now in
    let kind = kind_at c.args.tokens.now c.args.at in
    refused pointer_said s c.args.at c.args.room c.args.at Unexpected
    (no_pointer_at s c.args.at c.args.room (not_pointer kind
    (λ h. not_from_false (kind ≡ Some k.Name) c.is_at.result c.is_at.ensures c.if-is_at.false h)
    (λ h. not_from_false (kind ≡ Some k.Star) c.is_at-2.result c.is_at-2.ensures c.if-is_at-2.false h)
    (λ h. not_from_false (kind ≡ Some k.OpenParen) c.is_at-3.result c.is_at-3.ensures c.if-is_at-3.false h)
    (λ h. not_from_false (kind ≡ Some k.Malloc) c.is_at-4.result c.is_at-4.ensures c.if-is_at-4.false h)))
    c.unexpected.result c.unexpected.ensures

-- ---- stars
pub pointer::read_star-returns-then-room-eq0 : goal.pointer::read_star-returns-then-room-eq0
pointer::read_star-returns-then-room-eq0 g c =
    let s = source c.args.bytes.now c.args.tokens.now in
    refused pointer_said s c.args.at c.args.room c.args.at TooDeep (pointer_star_deep_at s c.args.at c.args.room c.requires.here c.if-room-eq0.true) c.too_deep.result c.too_deep.ensures

pub pointer::read_star-read_pointer-requires : goal.pointer::read_star-read_pointer-requires
pointer::read_star-read_pointer-requires g c =
    (search rules, (from_more (source c.args.bytes.now c.args.tokens.now) c.args.at k.Star c.requires.here).1)

pub pointer::read_star-returns-in_err-pointer : goal.pointer::read_star-returns-in_err-pointer
pointer::read_star-returns-in_err-pointer g c =
    let s = source c.args.bytes.now c.args.tokens.now in
    handed_on pointer_said pointer_said s (c.args.at + 1) (c.args.room - 1) c.args.at c.args.room
    (λ token why r. pointer_star_refused_at s c.args.at c.args.room token why c.requires.here c.if-room-eq0.false r)
    c.in_err-pointer.field-0.0 c.in_err-pointer.ensures c.from_residual.result c.from_residual.ensures.1

pub pointer::read_star-returns : goal.pointer::read_star-returns
pointer::read_star-returns g c =
    let s = source c.args.bytes.now c.args.tokens.now in
    let next = c.in_ok-pointer.next in
    subst (λ t. ReadsAt pointer_said s c.args.at c.args.room (pointer.Star t c.in_ok-pointer-2.pointer) next) (sym c.tok_at-tok.ensures)
    (subst (λ p. ReadsAt pointer_said s c.args.at c.args.room (pointer.Star (tok_of c.args.tokens.now c.args.at) p) next) (sym c.in_ok-pointer-2.ensures)
    (pointer_star_at s c.args.at c.args.room next c.in_ok-pointer.pointer c.requires.here c.if-room-eq0.false c.in_ok-pointer.ensures))

pub unary::read_star-returns-then-room-eq0 : goal.unary::read_star-returns-then-room-eq0
unary::read_star-returns-then-room-eq0 g c =
    let s = source c.args.bytes.now c.args.tokens.now in
    refused place_said s c.args.at c.args.room c.args.at TooDeep (place_star_deep_at s c.args.at c.args.room c.requires.here c.if-room-eq0.true) c.too_deep.result c.too_deep.ensures

pub unary::read_star-read_pointer-requires : goal.unary::read_star-read_pointer-requires
unary::read_star-read_pointer-requires g c =
    (search rules, (from_more (source c.args.bytes.now c.args.tokens.now) c.args.at k.Star c.requires.here).1)

pub unary::read_star-returns-in_err-pointer : goal.unary::read_star-returns-in_err-pointer
unary::read_star-returns-in_err-pointer g c =
    let s = source c.args.bytes.now c.args.tokens.now in
    handed_on pointer_said place_said s (c.args.at + 1) (c.args.room - 1) c.args.at c.args.room
    (λ token why r. place_star_refused_at s c.args.at c.args.room token why c.requires.here c.if-room-eq0.false r)
    c.in_err-pointer.field-0.0 c.in_err-pointer.ensures c.from_residual.result c.from_residual.ensures.1

pub unary::read_star-returns : goal.unary::read_star-returns
unary::read_star-returns g c =
    let s = source c.args.bytes.now c.args.tokens.now in
    let next = c.in_ok-pointer.next in
    subst (λ t. ReadsAt place_said s c.args.at c.args.room (place.Star t c.in_ok-pointer-2.pointer) next) (sym c.tok_at-tok.ensures)
    (subst (λ p. ReadsAt place_said s c.args.at c.args.room (place.Star (tok_of c.args.tokens.now c.args.at) p) next) (sym c.in_ok-pointer-2.ensures)
    (place_star_at s c.args.at c.args.room next c.in_ok-pointer.pointer c.requires.here c.if-room-eq0.false c.in_ok-pointer.ensures))

-- ---- places
pub unary::read_place-returns-then-not-is_at : goal.unary::read_place-returns-then-not-is_at
unary::read_place-returns-then-not-is_at g c =
    let s = source c.args.bytes.now c.args.tokens.now in
    let kind = kind_at c.args.tokens.now c.args.at in
    refused place_said s c.args.at c.args.room c.args.at Unexpected
    (no_place_at s c.args.at c.args.room (not_place kind
    (λ h. not_from_false (kind ≡ Some k.Name) c.is_at-2.result c.is_at-2.ensures c.if-not-is_at.true h)
    (λ h. not_from_false (kind ≡ Some k.Star) c.is_at.result c.is_at.ensures c.if-is_at.false h)))
    c.unexpected.result c.unexpected.ensures

pub unary::read_place-returns-then-is_at-2 : goal.unary::read_place-returns-then-is_at-2
unary::read_place-returns-then-is_at-2 g c =
    let s = source c.args.bytes.now c.args.tokens.now in
    refused place_said s c.args.at c.args.room (c.args.at + 1) Unexpected
    (place_no_call_at s c.args.at c.args.room (c.is_at-2.ensures.0 c.if-not-is_at.false) (c.is_at-3.ensures.0 c.if-is_at-2.true))
    c.unexpected-then-is_at-2.result c.unexpected-then-is_at-2.ensures

pub unary::read_place-returns : goal.unary::read_place-returns
unary::read_place-returns g c =
    let s = source c.args.bytes.now c.args.tokens.now in
    subst (λ n. ReadsAt place_said s c.args.at c.args.room (place.Name n) (c.args.at + 1)) (sym c.in_ok-name.ensures)
    (place_name_at s c.args.at c.args.room (c.is_at-2.ensures.0 c.if-not-is_at.false) (not_open (kind_at c.args.tokens.now (c.args.at + 1)) (λ h. not_from_false (kind_at c.args.tokens.now (c.args.at + 1) ≡ Some k.OpenParen) c.is_at-3.result c.is_at-3.ensures c.if-is_at-2.false h)))

-- ---- operands
pub unary::read_address-read_place-requires : goal.unary::read_address-read_place-requires
unary::read_address-read_place-requires g c =
    (search rules, (from_more (source c.args.bytes.now c.args.tokens.now) c.args.at k.And c.requires.here).1)

pub unary::read_address-returns-in_err-place : goal.unary::read_address-returns-in_err-place
unary::read_address-returns-in_err-place g c =
    let s = source c.args.bytes.now c.args.tokens.now in
    handed_on place_said unary_said s (c.args.at + 1) c.args.room c.args.at c.args.room
    (λ token why r. address_refused_at s c.args.at c.args.room token why c.requires.here r)
    c.in_err-place.field-0.0 c.in_err-place.ensures c.from_residual.result c.from_residual.ensures.1

pub unary::read_address-returns : goal.unary::read_address-returns
unary::read_address-returns g c =
    let s = source c.args.bytes.now c.args.tokens.now in
    let next = c.in_ok-place.next in
    subst (λ t. ReadsAt unary_said s c.args.at c.args.room (unary.Address t c.in_ok-place.place) next) (sym c.tok_at-tok.ensures)
    (address_at s c.args.at c.args.room next c.in_ok-place.place c.requires.here c.in_ok-place.ensures)

pub unary::read_unary-returns-then-is_at : goal.unary::read_unary-returns-then-is_at
unary::read_unary-returns-then-is_at g c =
    let s = source c.args.bytes.now c.args.tokens.now in
    subst (λ t. ReadsAt unary_said s c.args.at c.args.room (unary.Number t) (c.args.at + 1)) (sym c.tok_at.ensures) (number_at s c.args.at c.args.room (c.is_at.ensures.0 c.if-is_at.true))

pub unary::read_unary-returns-then-is_at-2 : goal.unary::read_unary-returns-then-is_at-2
unary::read_unary-returns-then-is_at-2 g c =
    let s = source c.args.bytes.now c.args.tokens.now in
    subst (λ t. ReadsAt unary_said s c.args.at c.args.room (unary.Null t) (c.args.at + 1)) (sym c.tok_at-then-is_at-2.ensures) (null_at s c.args.at c.args.room (c.is_at-2.ensures.0 c.if-is_at-2.true))

pub unary::read_unary-returns-in_err-pointer : goal.unary::read_unary-returns-in_err-pointer
unary::read_unary-returns-in_err-pointer g c =
    let s = source c.args.bytes.now c.args.tokens.now in
    let kind = kind_at c.args.tokens.now c.args.at in
    handed_on pointer_said unary_said s c.args.at c.args.room c.args.at c.args.room
    (λ token why r. other_refused_at s c.args.at c.args.room token why (other_true kind
    (λ h. not_from_false (kind ≡ Some k.Number) c.is_at.result c.is_at.ensures c.if-is_at.false h)
    (λ h. not_from_false (kind ≡ Some k.Null) c.is_at-2.result c.is_at-2.ensures c.if-is_at-2.false h)
    (λ h. not_from_false (kind ≡ Some k.And) c.is_at-3.result c.is_at-3.ensures c.if-is_at-3.false h)) r)
    c.in_err-pointer.field-0.0 c.in_err-pointer.ensures c.from_residual.result c.from_residual.ensures.1

pub unary::read_unary-returns : goal.unary::read_unary-returns
unary::read_unary-returns g c =
    let s = source c.args.bytes.now c.args.tokens.now in
    subst (λ t. ReadsAt unary_said s c.args.at c.args.room t c.in_ok-pointer.next) (sym c.unary_of.ensures)
    (other_at s c.args.at c.args.room c.in_ok-pointer.next c.in_ok-pointer.pointer c.in_ok-pointer.ensures)
