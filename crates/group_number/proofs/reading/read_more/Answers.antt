use Rattle.std.proofs.Common.{arith}
use Rattle.group_number.proofs.Behind.{two_are_all, three_are_all}
use Rattle.group_number.proofs.reading.read_more.Goals as goal

pub returns-then-bytes-lt128 : goal.returns-then-bytes-lt128
returns-then-bytes-lt128 c =
    two_are_all c.args.first c.args.bytes.now (omega (arith, c.if-bytes-lt2.false)) (omega (arith, c.if-bytes-eq0.false)) c.if-bytes-lt128.true

pub returns : goal.returns
returns c =
    three_are_all c.args.first c.args.bytes.now (omega (arith, c.if-bytes-lt2.false)) (omega (arith, c.if-bytes-lt128.false))
    (omega (arith, c.if-bytes-eq0-2.false)) (omega (arith, c.if-bytes-ge128.false))
