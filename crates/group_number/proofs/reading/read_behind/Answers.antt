use Rattle.std.proofs.Common.{◌≡◌, ◌≤◌, slice_index_or, arith}
use Rattle.group_number.proofs.Behind.{behind_end, behind_spare, behind_large, behind_last, behind_more, last_sum, more_sum, more_fits}
use Rattle.group_number.proofs.reading.read_behind.Goals.{then-byte-eq0-via-then-byte-eq0, then-byte-eq0-via-else-byte-eq0+then-byte-gt1}
use Rattle.group_number.proofs.reading.read_behind.Goals as goal

pub returns-then-byte-eq0 : goal.returns-then-byte-eq0
returns-then-byte-eq0 c =
    elim c.then-byte-eq0.branch [
      | then-byte-eq0-via-then-byte-eq0 w ↦
          behind_spare c.args.first c.args.bytes.now c.loop-i.number c.loop-i.shift c.loop-i.i
          c.loop-i.invariant c.loop-i-test.true w.if-byte-eq0.true
      | then-byte-eq0-via-else-byte-eq0+then-byte-gt1 w ↦
          behind_large c.args.first c.args.bytes.now c.loop-i.number c.loop-i.shift c.loop-i.i
          c.loop-i.invariant c.loop-i-test.true w.if-byte-gt1.true.0 w.if-byte-gt1.true.1
    ]

pub overflow_add-result : goal.overflow_add-result
overflow_add-result c =
    let small : c.loop-i.shift ≡ 63 → slice_index_or c.args.bytes.now c.loop-i.i 0 ≤ 1 = λ full. omega (arith, full, c.if-byte-gt1.either) in
    let s = last_sum c.loop-i.shift c.loop-i.i c.loop-i.number (slice_index_or c.args.bytes.now c.loop-i.i 0)
    c.loop-i.invariant.steps c.loop-i.invariant.room c.loop-i.invariant.below c.if-byte-lt128.true small in
    omega (arith, s.0, s.1)

pub returns-then-byte-lt128 : goal.returns-then-byte-lt128
returns-then-byte-lt128 c =
    behind_last c.args.first c.args.bytes.now c.loop-i.number c.loop-i.shift c.loop-i.i
    c.loop-i.invariant c.loop-i-test.true (omega arith) c.if-byte-lt128.true
    (λ full. omega (arith, full, c.if-byte-gt1.either))

pub overflow_add-number : goal.overflow_add-number
overflow_add-number c =
    let b = slice_index_or c.args.bytes.now c.loop-i.i 0 in
    let s = more_sum c.loop-i.shift c.loop-i.i c.loop-i.number b c.loop-i.invariant.steps c.loop-i.invariant.room
    (λ full. omega (arith, full, c.if-byte-gt1.either)) c.loop-i.invariant.below (omega (arith, c.type_inv.bytes c.loop-i.i)) in
    let fits = more_fits c.loop-i.shift c.loop-i.number b s.1 s.2 in
    omega (arith, s.0, fits)

pub loop-i-preserved : goal.loop-i-preserved
loop-i-preserved c =
    behind_more c.args.first c.args.bytes.now c.loop-i.number c.loop-i.shift c.loop-i.i
    c.loop-i.invariant c.loop-i-test.true c.if-byte-lt128.false (omega (arith, c.type_inv.bytes c.loop-i.i))
    (λ full. omega (arith, full, c.if-byte-gt1.either))

pub returns : goal.returns
returns c = behind_end c.args.first c.args.bytes.now c.loop-i.number c.loop-i.shift c.loop-i.i c.loop-i.invariant c.loop-i-test.false
