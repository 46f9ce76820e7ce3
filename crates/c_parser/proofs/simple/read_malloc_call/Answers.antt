use Rattle.std.proofs.Common.{◌≡◌, sym, subst, ◌+◌, ◌-◌, Some}
use Rattle.c_lexer.specs.declared.token.TokenKind.TheVariants as k
use Rattle.c_tree.specs.declared.tree.Call.TheVariants as call
use Rattle.c_tree.specs.declared.tree.Stmt.TheVariants as stmt
use Rattle.c_tree.specs.declared.fault.Wrong.TheVariants.{Unexpected, TooDeep}
use Rattle.c_tree.specs.Tokens.{source, kind_at, tok_of}
use Rattle.c_tree.specs.Grammar.{condition_said, stmt_said}
use Rattle.c_tree.specs.Reading.{ReadsAt}
use Rattle.c_tree.proofs.Places.{from_more}
use Rattle.c_tree.proofs.Choices.{not_from_false}
use Rattle.c_tree.proofs.Handed.{handed_on, refused}
use Rattle.c_parser.proofs.SimpleForms.{malloc_stmt_at, malloc_stmt_refused_at, malloc_stmt_unended_at, malloc_stmt_deep_at}
use Rattle.c_parser.proofs.simple.read_malloc_call.Goals as goal

pub returns-then-room-eq0 : goal.returns-then-room-eq0
returns-then-room-eq0 c =
    let s = source c.args.bytes.now c.args.tokens.now in
    refused stmt_said s c.args.at c.args.room c.args.at TooDeep (malloc_stmt_deep_at s c.args.at c.args.room c.requires.here c.if-room-eq0.true) c.too_deep.result c.too_deep.ensures

pub read_bracketed-requires : goal.read_bracketed-requires
read_bracketed-requires c = (from_more (source c.args.bytes.now c.args.tokens.now) c.args.at k.Malloc c.requires.here).1

pub returns-in_err-size : goal.returns-in_err-size
returns-in_err-size c =
    let s = source c.args.bytes.now c.args.tokens.now in
    handed_on condition_said stmt_said s (c.args.at + 1) (c.args.room - 1) c.args.at c.args.room
    (λ token why r. malloc_stmt_refused_at s c.args.at c.args.room token why c.requires.here c.if-room-eq0.false r)
    c.in_err-size.field-0.0 c.in_err-size.ensures c.from_residual.result c.from_residual.ensures.1

pub returns-then-not-is_at : goal.returns-then-not-is_at
returns-then-not-is_at c =
    let s = source c.args.bytes.now c.args.tokens.now in
    let next = c.in_ok-size.next in
    refused stmt_said s c.args.at c.args.room next Unexpected
    (malloc_stmt_unended_at s c.args.at c.args.room next c.in_ok-size.size c.requires.here c.if-room-eq0.false c.in_ok-size.ensures (λ h. not_from_false (kind_at c.args.tokens.now next ≡ Some k.Semicolon) c.is_at.result c.is_at.ensures c.if-not-is_at.true h))
    c.unexpected.result c.unexpected.ensures

pub returns : goal.returns
returns c =
    let s = source c.args.bytes.now c.args.tokens.now in
    let next = c.in_ok-size.next in
    subst (λ t. ReadsAt stmt_said s c.args.at c.args.room (stmt.Call (call.Malloc t c.in_ok-size-2.size)) (next + 1)) (sym c.tok_at-tok.ensures)
    (subst (λ e. ReadsAt stmt_said s c.args.at c.args.room (stmt.Call (call.Malloc (tok_of c.args.tokens.now c.args.at) e)) (next + 1)) (sym c.in_ok-size-2.ensures)
    (malloc_stmt_at s c.args.at c.args.room next c.in_ok-size.size c.requires.here c.if-room-eq0.false c.in_ok-size.ensures (c.is_at.ensures.0 c.if-not-is_at.false)))
