use Rattle.std.proofs.Common.{◌≡◌, ◌+◌, ◌-◌, Some}
use Rattle.c_lexer.specs.declared.token.TokenKind.TheVariants as k
use Rattle.c_tree.specs.declared.fault.Wrong.TheVariants.{Unexpected}
use Rattle.c_tree.specs.Tokens.{source, kind_at}
use Rattle.c_tree.proofs.Places.{from_more}
use Rattle.c_tree.proofs.Choices.{not_from_false}
use Rattle.c_parser.specs.Branches.{block_of}
use Rattle.c_parser.specs.Flagged.{params_of}
use Rattle.c_parser.specs.Behind.{function_behind}
use Rattle.c_parser.proofs.Flags.{flagged_on, flagged_both, flagged_refused}
use Rattle.c_parser.proofs.Functions.{function_at, params_refused, unbraced_at, block_refused, some_room}
use Rattle.c_parser.proofs.item.read_function.Goals as goal

pub read_params-requires : goal.read_params-requires
read_params-requires c = (from_more (source c.args.bytes.now c.args.tokens.now) c.args.at k.OpenParen c.requires.here).1

pub returns-in_err-params : goal.returns-in_err-params
returns-in_err-params c =
    let s = source c.args.bytes.now c.args.tokens.now in
    flagged_both params_of function_behind s (c.args.at + 1) (c.args.room - 1) c.args.at c.args.room
    (λ token why r. params_refused s c.args.at c.args.room token why c.requires.here (some_room c.args.room c.requires.block) r)
    c.in_err-params.field-0.0 (c.in_err-params.ensures (c.args.room - 1)) c.from_residual.result c.from_residual.ensures.1

pub returns-then-not-is_at : goal.returns-then-not-is_at
returns-then-not-is_at c =
    let s = source c.args.bytes.now c.args.tokens.now in
    let next = c.in_ok-params.next in
    let kind = kind_at c.args.tokens.now next in
    let read = c.in_ok-params.ensures (c.args.room - 1) in
    flagged_refused function_behind s c.args.at c.args.room next Unexpected
    (unbraced_at s c.args.at next c.args.room (read.0, c.in_ok-params.params) c.requires.here (some_room c.args.room c.requires.block) read.1
    (λ h. not_from_false (kind ≡ Some k.OpenBrace) c.is_at.result c.is_at.ensures c.if-not-is_at.true h))
    c.unexpected.result c.unexpected.ensures

pub read_stmts-requires : goal.read_stmts-requires
read_stmts-requires c = (from_more (source c.args.bytes.now c.args.tokens.now) c.in_ok-params.next k.OpenBrace (c.is_at.ensures.0 c.if-not-is_at.false)).1

pub returns-in_err-block : goal.returns-in_err-block
returns-in_err-block c =
    let s = source c.args.bytes.now c.args.tokens.now in
    let next = c.in_ok-params.next in
    let read = c.in_ok-params.ensures (c.args.room - 1) in
    flagged_on block_of function_behind s (next + 1) (c.args.room - 1) c.args.at c.args.room
    (λ token why r. block_refused s c.args.at next c.args.room token why (read.0, c.in_ok-params.params) c.requires.here (some_room c.args.room c.requires.block) read.1 (c.is_at.ensures.0 c.if-not-is_at.false) r)
    c.in_err-block.field-0.0 c.in_err-block.ensures c.from_residual-in_err-block.result c.from_residual-in_err-block.ensures.1

pub returns : goal.returns
returns c =
    let s = source c.args.bytes.now c.args.tokens.now in
    let next = c.in_ok-params.next in
    let read = c.in_ok-params.ensures (c.args.room - 1) in
    (read.0, function_at s c.args.at next c.in_ok-block.after c.args.room read.0 c.in_ok-params.params c.in_ok-block.block c.requires.here (some_room c.args.room c.requires.block) read.1 (c.is_at.ensures.0 c.if-not-is_at.false) c.in_ok-block.ensures)
