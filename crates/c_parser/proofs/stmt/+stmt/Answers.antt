use Rattle.std.proofs.Common.{◌≡◌, sym, ◌∙◌, ap, subst, ◌+◌, ◌-◌, [], ◌∷◌, ◌++◌, append_assoc, append-nil, arith, rules, Some, None}
use Rattle.c_lexer.specs.declared.token.TokenKind.TheVariants as k
use Rattle.c_tree.specs.declared.tree.Stmt.TheVariants as stmt
use Rattle.c_tree.specs.declared.fault.Wrong.TheVariants.{TooDeep}
use Rattle.c_tree.specs.Tokens.{source, kind_at}
use Rattle.c_tree.specs.Grammar.{condition_said, stmt_said}
use Rattle.c_tree.specs.Reading.{ReadsAt}
use Rattle.c_tree.proofs.Places.{from_more}
use Rattle.c_tree.proofs.Choices.{not_from_false}
use Rattle.c_tree.proofs.Handed.{handed_on, refused}
use Rattle.c_parser.specs.Branches.{branches_read, block_of}
use Rattle.c_parser.proofs.Blocks.{not_else, brace_at, item_at, item_refused, later_refused, stmt_advances, empty_at, block_at, block_refused, block_deep, branches_at, branches_else_at, body_refused, other_refused, if_at, if_condition_refused, if_branches_refused, if_deep, while_at, while_condition_refused, while_body_refused, while_deep}
use Rattle.c_parser.proofs.Stmts.{flat_here}
use Rattle.c_parser.proofs.stmt.+stmt.Goals as goal

pub read_stmt-returns-then-is_at : goal.read_stmt-returns-then-is_at
read_stmt-returns-then-is_at g c = empty_at (source c.args.bytes.now c.args.tokens.now) c.args.at c.args.room (c.is_at.ensures.0 c.if-is_at.true)

pub read_stmt-read_flat-requires : goal.read_stmt-read_flat-requires
read_stmt-read_flat-requires g c =
    let a = kind_at c.args.tokens.now c.args.at in
    record {
      within = c.requires;
      here =
          flat_here a
          (λ h. not_from_false (a ≡ Some k.Semicolon) c.is_at.result c.is_at.ensures c.if-is_at.false h)
          (λ h. not_from_false (a ≡ Some k.OpenBrace) c.is_at-2.result c.is_at-2.ensures c.if-is_at-2.false h)
          (λ h. not_from_false (a ≡ Some k.If) c.is_at-3.result c.is_at-3.ensures c.if-is_at-3.false h)
          (λ h. not_from_false (a ≡ Some k.While) c.is_at-4.result c.is_at-4.ensures c.if-is_at-4.false h);
    }

-- ---- blocks
pub read_block-returns-then-room-eq0 : goal.read_block-returns-then-room-eq0
read_block-returns-then-room-eq0 g c =
    let s = source c.args.bytes.now c.args.tokens.now in
    refused stmt_said s c.args.at c.args.room c.args.at TooDeep (block_deep s c.args.at c.args.room c.requires.here c.if-room-eq0.true) c.too_deep.result c.too_deep.ensures

pub read_block-read_stmts-requires : goal.read_block-read_stmts-requires
read_block-read_stmts-requires g c = (search rules, (from_more (source c.args.bytes.now c.args.tokens.now) c.args.at k.OpenBrace c.requires.here).1)

pub read_block-returns-in_err-stmts : goal.read_block-returns-in_err-stmts
read_block-returns-in_err-stmts g c =
    let s = source c.args.bytes.now c.args.tokens.now in
    handed_on block_of stmt_said s (c.args.at + 1) (c.args.room - 1) c.args.at c.args.room
    (λ token why r. block_refused s c.args.at c.args.room token why c.requires.here c.if-room-eq0.false r)
    c.in_err-stmts.field-0.0 c.in_err-stmts.ensures c.from_residual.result c.from_residual.ensures.1

pub read_block-returns : goal.read_block-returns
read_block-returns g c =
    block_at (source c.args.bytes.now c.args.tokens.now) c.args.at c.args.room c.in_ok-stmts.next c.in_ok-stmts.stmts c.requires.here c.if-room-eq0.false c.in_ok-stmts.ensures

-- ---- statements up to the brace
pub read_stmts-loop-alloc-init : goal.read_stmts-loop-alloc-init
read_stmts-loop-alloc-init g c =
    let s = source c.args.bytes.now c.args.tokens.now in
    record {
      inside = c.requires;
      reads = λ xs n r. subst (λ ys. ReadsAt block_of s c.args.at c.args.room (ys ++ xs) n) (sym c.new-stmts.ensures) r;
      refuses = λ token why r. r;
    }

pub read_stmts-returns-then-is_at : goal.read_stmts-returns-then-is_at
read_stmts-returns-then-is_at g c =
    let s = source c.args.bytes.now c.args.tokens.now in
    let next = c.loop-alloc.next in
    let all = c.loop-alloc.invariant.reads [] (next + 1) (brace_at s next c.args.room (c.is_at.ensures.0 c.if-is_at.true)) in
    subst (λ xs. ReadsAt block_of s c.args.at c.args.room xs (next + 1)) (append-nil c.loop-alloc.stmts) all

pub read_stmts-returns-in_err-stmt : goal.read_stmts-returns-in_err-stmt
read_stmts-returns-in_err-stmt g c =
    let s = source c.args.bytes.now c.args.tokens.now in
    let next = c.loop-alloc.next in
    handed_on stmt_said block_of s next c.args.room c.args.at c.args.room
    (λ token why r. c.loop-alloc.invariant.refuses token why (item_refused s next c.args.room token why (λ h. not_from_false (kind_at c.args.tokens.now next ≡ Some k.CloseBrace) c.is_at.result c.is_at.ensures c.if-is_at.false h) r))
    c.in_err-stmt.field-0.0 c.in_err-stmt.ensures c.from_residual.result c.from_residual.ensures.1

pub read_stmts-loop-alloc-preserved : goal.read_stmts-loop-alloc-preserved
read_stmts-loop-alloc-preserved g c =
    let s = source c.args.bytes.now c.args.tokens.now in
    let next = c.loop-alloc.next in
    let r = c.in_ok-stmt.ensures in
    record {
      inside = r.inside;
      reads = λ xs n t.
          let all = c.loop-alloc.invariant.reads (c.in_ok-stmt.stmt ∷ xs) n (item_at s next c.in_ok-stmt.after c.args.room c.in_ok-stmt.stmt r xs n t) in
          subst (λ ys. ReadsAt block_of s c.args.at c.args.room ys n) (sym (append_assoc c.loop-alloc.stmts (c.in_ok-stmt.stmt ∷ []) xs) ∙ ap (λ ys. ys ++ xs) (sym c.in_ok-push.ensures.ok)) all;
      refuses = λ token why t. c.loop-alloc.invariant.refuses token why (later_refused s next c.in_ok-stmt.after c.args.room c.in_ok-stmt.stmt (λ h. not_from_false (kind_at c.args.tokens.now next ≡ Some k.CloseBrace) c.is_at.result c.is_at.ensures c.if-is_at.false h) r token why t);
    }

pub read_stmts-loop-alloc-smaller : goal.read_stmts-loop-alloc-smaller
read_stmts-loop-alloc-smaller g c =
    let r = c.in_ok-stmt.ensures in
    let inside = r.inside in
    let more = stmt_advances (source c.args.bytes.now c.args.tokens.now) c.loop-alloc.next c.in_ok-stmt.after c.args.room c.in_ok-stmt.stmt r in
    omega arith

-- ---- `if`
pub read_if-returns-then-room-eq0 : goal.read_if-returns-then-room-eq0
read_if-returns-then-room-eq0 g c =
    let s = source c.args.bytes.now c.args.tokens.now in
    refused stmt_said s c.args.at c.args.room c.args.at TooDeep (if_deep s c.args.at c.args.room c.requires.here c.if-room-eq0.true) c.too_deep.result c.too_deep.ensures

pub read_if-read_bracketed-requires : goal.read_if-read_bracketed-requires
read_if-read_bracketed-requires g c = (from_more (source c.args.bytes.now c.args.tokens.now) c.args.at k.If c.requires.here).1

pub read_if-returns-in_err-condition : goal.read_if-returns-in_err-condition
read_if-returns-in_err-condition g c =
    let s = source c.args.bytes.now c.args.tokens.now in
    handed_on condition_said stmt_said s (c.args.at + 1) (c.args.room - 1) c.args.at c.args.room
    (λ token why r. if_condition_refused s c.args.at c.args.room token why c.requires.here c.if-room-eq0.false r)
    c.in_err-condition.field-0.0 c.in_err-condition.ensures c.from_residual.result c.from_residual.ensures.1

pub read_if-returns-in_err-branches : goal.read_if-returns-in_err-branches
read_if-returns-in_err-branches g c =
    let s = source c.args.bytes.now c.args.tokens.now in
    handed_on branches_read stmt_said s c.in_ok-condition.next (c.args.room - 1) c.args.at c.args.room
    (λ token why r. if_branches_refused s c.args.at c.args.room c.in_ok-condition.next c.in_ok-condition.condition token why c.requires.here c.if-room-eq0.false c.in_ok-condition.ensures r)
    c.in_err-branches.field-0.0 c.in_err-branches.ensures c.from_residual-in_err-branches.result c.from_residual-in_err-branches.ensures.1

pub read_if-returns : goal.read_if-returns
read_if-returns g c =
    let s = source c.args.bytes.now c.args.tokens.now in
    if_at s c.args.at c.args.room c.in_ok-condition.next c.in_ok-branches.after c.in_ok-condition.condition c.in_ok-branches.branches c.requires.here c.if-room-eq0.false c.in_ok-condition.ensures c.in_ok-branches.ensures

-- ---- branches
pub read_branches-returns-in_err-body : goal.read_branches-returns-in_err-body
read_branches-returns-in_err-body g c =
    let s = source c.args.bytes.now c.args.tokens.now in
    handed_on stmt_said branches_read s c.args.at c.args.room c.args.at c.args.room
    (λ token why r. body_refused s c.args.at c.args.room token why r)
    c.in_err-body.field-0.0 c.in_err-body.ensures c.from_residual.result c.from_residual.ensures.1

pub read_branches-returns-then-not-is_at : goal.read_branches-returns-then-not-is_at
read_branches-returns-then-not-is_at g c =
    let s = source c.args.bytes.now c.args.tokens.now in
    let next = c.in_ok-body.next in
    subst (λ b. ReadsAt branches_read s c.args.at c.args.room (record { body = b; other = None }) next) (sym c.in_ok-body-2.ensures)
    (branches_at s c.args.at next c.args.room c.in_ok-body.body c.in_ok-body.ensures (not_else (kind_at c.args.tokens.now next) (λ h. not_from_false (kind_at c.args.tokens.now next ≡ Some k.Else) c.is_at.result c.is_at.ensures c.if-not-is_at.true h)))

pub read_branches-read_stmt-requires-2 : goal.read_branches-read_stmt-requires-2
read_branches-read_stmt-requires-2 g c = (search rules, (from_more (source c.args.bytes.now c.args.tokens.now) c.in_ok-body.next k.Else (c.is_at.ensures.0 c.if-not-is_at.false)).1)

pub read_branches-returns-in_err-other : goal.read_branches-returns-in_err-other
read_branches-returns-in_err-other g c =
    let s = source c.args.bytes.now c.args.tokens.now in
    let next = c.in_ok-body.next in
    handed_on stmt_said branches_read s (next + 1) c.args.room c.args.at c.args.room
    (λ token why r. other_refused s c.args.at next c.args.room c.in_ok-body.body token why c.in_ok-body.ensures (c.is_at.ensures.0 c.if-not-is_at.false) r)
    c.in_err-other.field-0.0 c.in_err-other.ensures c.from_residual-in_err-other.result c.from_residual-in_err-other.ensures.1

pub read_branches-returns : goal.read_branches-returns
read_branches-returns g c =
    let s = source c.args.bytes.now c.args.tokens.now in
    let next = c.in_ok-body.next in
    subst (λ b. ReadsAt branches_read s c.args.at c.args.room (record { body = b; other = Some c.in_ok-new.field-0 }) c.in_ok-other.after) (sym c.in_ok-body-2.ensures)
    (subst (λ o. ReadsAt branches_read s c.args.at c.args.room (record { body = c.in_ok-body.body; other = Some o }) c.in_ok-other.after) (sym c.in_ok-new.ensures)
    (branches_else_at s c.args.at next c.in_ok-other.after c.args.room c.in_ok-body.body c.in_ok-other.other c.in_ok-body.ensures (c.is_at.ensures.0 c.if-not-is_at.false) c.in_ok-other.ensures))

-- ---- `while`
pub read_while-returns-then-room-eq0 : goal.read_while-returns-then-room-eq0
read_while-returns-then-room-eq0 g c =
    let s = source c.args.bytes.now c.args.tokens.now in
    refused stmt_said s c.args.at c.args.room c.args.at TooDeep (while_deep s c.args.at c.args.room c.requires.here c.if-room-eq0.true) c.too_deep.result c.too_deep.ensures

pub read_while-read_bracketed-requires : goal.read_while-read_bracketed-requires
read_while-read_bracketed-requires g c = (from_more (source c.args.bytes.now c.args.tokens.now) c.args.at k.While c.requires.here).1

pub read_while-returns-in_err-condition : goal.read_while-returns-in_err-condition
read_while-returns-in_err-condition g c =
    let s = source c.args.bytes.now c.args.tokens.now in
    handed_on condition_said stmt_said s (c.args.at + 1) (c.args.room - 1) c.args.at c.args.room
    (λ token why r. while_condition_refused s c.args.at c.args.room token why c.requires.here c.if-room-eq0.false r)
    c.in_err-condition.field-0.0 c.in_err-condition.ensures c.from_residual.result c.from_residual.ensures.1

pub read_while-returns-in_err-body : goal.read_while-returns-in_err-body
read_while-returns-in_err-body g c =
    let s = source c.args.bytes.now c.args.tokens.now in
    handed_on stmt_said stmt_said s c.in_ok-condition.next (c.args.room - 1) c.args.at c.args.room
    (λ token why r. while_body_refused s c.args.at c.args.room c.in_ok-condition.next c.in_ok-condition.condition token why c.requires.here c.if-room-eq0.false c.in_ok-condition.ensures r)
    c.in_err-body.field-0.0 c.in_err-body.ensures c.from_residual-in_err-body.result c.from_residual-in_err-body.ensures.1

pub read_while-returns : goal.read_while-returns
read_while-returns g c =
    let s = source c.args.bytes.now c.args.tokens.now in
    subst (λ b. ReadsAt stmt_said s c.args.at c.args.room (stmt.While c.in_ok-condition.condition b) c.in_ok-body.after) (sym c.in_ok-body-2.ensures)
    (while_at s c.args.at c.args.room c.in_ok-condition.next c.in_ok-body.after c.in_ok-condition.condition c.in_ok-body.body c.requires.here c.if-room-eq0.false c.in_ok-condition.ensures c.in_ok-body.ensures)
