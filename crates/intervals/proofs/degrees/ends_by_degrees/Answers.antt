use Rattle.std.proofs.Common.{◌≡◌, length, arith}
use Rattle.intervals.specs.DegreeCut.{IsLongest}
use Rattle.intervals.proofs.DegreeLemmas.{cuts_more}
use Rattle.intervals.proofs.degrees.ends_by_degrees.Goals.{then-len-lt-MOST_INTERVALS, else-len-lt-MOST_INTERVALS}
use Rattle.intervals.proofs.degrees.ends_by_degrees.Goals as goal

pub loop-low-preserved : goal.loop-low-preserved
loop-low-preserved c =
    let counts = c.args.counts.now in
    let low = c.loop-low.low in
    let high = c.if-len-lt-MOST_INTERVALS.high in
    let ends = c.loop-low.ends.items in
    let len : c.len.result ≡ length ends = omega (arith, c.len.ensures, c.loop-low.ends.ok.0) in
    rw c.in_ok-push.ensures.items (elim c.if-len-lt-MOST_INTERVALS.branch [
      | then-len-lt-MOST_INTERVALS w ↦
          let longest : IsLongest counts c.args.limit low high = rw w.high-is w.end_from-high.ensures in
          cuts_more counts c.args.limit low high ends c.loop-low.invariant longest.first longest.within (λ few. longest) (λ many. absurd (omega (arith, len, w.if-len-lt-MOST_INTERVALS.true)))
      | else-len-lt-MOST_INTERVALS w ↦
          cuts_more counts c.args.limit low high ends c.loop-low.invariant (omega (arith, w.high-is, c.loop-low-test.true)) (omega (arith, w.high-is)) (λ few. absurd (omega (arith, len, w.if-len-lt-MOST_INTERVALS.false))) (λ many. w.high-is)
    ])
