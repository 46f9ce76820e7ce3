use Rattle.std.proofs.Common.{◌<◌, length, sym, ◌∙◌, arith}
use Rattle.std.proofs.lemmas.Bool.{eqb-true, eqb-false}
use Rattle.group_number.proofs.Behind.{none_is_short, one_is_all, first_behind}
use Rattle.group_number.proofs.reading.read_group.Goals as goal

pub returns-then-is_empty : goal.returns-then-is_empty
returns-then-is_empty c = none_is_short c.args.bytes.now (eqb-true (length c.args.bytes.now) 0 (sym c.if-is_empty.ensures))

pub returns-then-first-lt128 : goal.returns-then-first-lt128
returns-then-first-lt128 c =
    let some : 0 < length c.args.bytes.now = omega (arith, eqb-false (length c.args.bytes.now) 0 (sym c.if-is_empty.ensures)) in
    one_is_all c.args.bytes.now some c.if-first-lt128.true

pub returns-else-first-lt128 : goal.returns-else-first-lt128
returns-else-first-lt128 c =
    let some : 0 < length c.args.bytes.now = omega (arith, eqb-false (length c.args.bytes.now) 0 (sym c.if-is_empty.ensures)) in
    c.read_more.ensures ∙ first_behind c.args.bytes.now some c.if-first-lt128.false
