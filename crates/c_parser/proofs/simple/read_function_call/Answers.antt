use Rattle.std.proofs.Common.{◌≡◌, sym, subst, ◌+◌, ◌-◌, arith, Some}
use Rattle.c_lexer.specs.declared.token.TokenKind.TheVariants as k
use Rattle.c_tree.specs.declared.tree.Call.TheVariants as call
use Rattle.c_tree.specs.declared.tree.Stmt.TheVariants as stmt
use Rattle.c_tree.specs.declared.fault.Wrong.TheVariants.{Unexpected, TooDeep}
use Rattle.c_tree.specs.Tokens.{source, kind_at}
use Rattle.c_tree.specs.Grammar.{args_of, stmt_said}
use Rattle.c_tree.specs.Reading.{ReadsAt}
use Rattle.c_tree.proofs.Places.{from_more}
use Rattle.c_tree.proofs.Choices.{not_from_false}
use Rattle.c_tree.proofs.Handed.{handed_on, refused}
use Rattle.c_parser.proofs.Assigned.{function_stmt_at, function_stmt_refused_at, function_stmt_unended_at, function_stmt_deep_at}
use Rattle.c_parser.proofs.simple.read_function_call.Goals as goal

pub returns-then-room-eq0 : goal.returns-then-room-eq0
returns-then-room-eq0 c =
    let s = source c.args.bytes.now c.args.tokens.now in
    refused stmt_said s c.args.at c.args.room (c.args.at + 1) TooDeep (function_stmt_deep_at s c.args.at c.args.room c.requires.here c.requires.bracket c.if-room-eq0.true) c.too_deep.result c.too_deep.ensures

pub read_args-requires : goal.read_args-requires
read_args-requires c =
    let more = (from_more (source c.args.bytes.now c.args.tokens.now) (c.args.at + 1) k.OpenParen c.requires.bracket).1 in
    omega arith

pub returns-in_err-args : goal.returns-in_err-args
returns-in_err-args c =
    let s = source c.args.bytes.now c.args.tokens.now in
    handed_on args_of stmt_said s (c.args.at + 2) (c.args.room - 1) c.args.at c.args.room
    (λ token why r. function_stmt_refused_at s c.args.at c.args.room token why c.requires.here c.requires.bracket c.if-room-eq0.false r)
    c.in_err-args.field-0.0 c.in_err-args.ensures c.from_residual-in_err-args.result c.from_residual-in_err-args.ensures.1

pub returns-then-not-is_at : goal.returns-then-not-is_at
returns-then-not-is_at c =
    let s = source c.args.bytes.now c.args.tokens.now in
    let next = c.in_ok-args.next in
    refused stmt_said s c.args.at c.args.room next Unexpected
    (function_stmt_unended_at s c.args.at c.args.room next c.in_ok-args.args c.requires.here c.requires.bracket c.if-room-eq0.false c.in_ok-args.ensures (λ h. not_from_false (kind_at c.args.tokens.now next ≡ Some k.Semicolon) c.is_at.result c.is_at.ensures c.if-not-is_at.true h))
    c.unexpected.result c.unexpected.ensures

pub returns : goal.returns
returns c =
    let s = source c.args.bytes.now c.args.tokens.now in
    let next = c.in_ok-args.next in
    subst (λ n. ReadsAt stmt_said s c.args.at c.args.room (stmt.Call (call.Function n c.in_ok-args.args)) (next + 1)) (sym c.in_ok-name.ensures)
    (function_stmt_at s c.args.at c.args.room next c.in_ok-args.args c.requires.here c.requires.bracket c.if-room-eq0.false c.in_ok-args.ensures (c.is_at.ensures.0 c.if-not-is_at.false))
