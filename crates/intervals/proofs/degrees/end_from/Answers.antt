use Rattle.std.proofs.Common.{◌+◌, ◌<◌, slice_index_or, arith, inl, inr, rules}
use Rattle.intervals.proofs.DegreeLemmas.{degree_more, degree_at_most}
use Rattle.intervals.proofs.degrees.end_from.Goals as goal

pub overflow_add-total : goal.overflow_add-total
overflow_add-total c =
    let counts = c.args.counts.now in
    let more = degree_more counts c.args.low c.loop-end.end (omega (arith, c.loop-end.invariant.first)) c.loop-end-test.true in
    let sum : c.loop-end.total + slice_index_or counts c.loop-end.end 0 < 18446744073709551616 = omega (arith, more, degree_at_most counts c.args.low (c.loop-end.end + 1), c.loop-end.invariant.total, c.requires.sum) in
    search rules

pub loop-end-preserved : goal.loop-end-preserved
loop-end-preserved c =
    let more = degree_more c.args.counts.now c.args.low c.loop-end.end (omega (arith, c.loop-end.invariant.first)) c.loop-end-test.true in
    record {
      first = omega (arith, c.loop-end.invariant.first);
      within = omega arith;
      total = omega (arith, more, c.loop-end.invariant.total);
      fits = inr c.if-total-counts.true;
    }

pub returns-else-total-counts : goal.returns-else-total-counts
returns-else-total-counts c =
    let more = degree_more c.args.counts.now c.args.low c.loop-end.end (omega (arith, c.loop-end.invariant.first)) c.loop-end-test.true in
    record {
      first = c.loop-end.invariant.first;
      within = c.loop-end.invariant.within;
      fits = elim c.loop-end.invariant.fits [ inl one ↦ inl one | inr fits ↦ inr (omega (arith, fits, c.loop-end.invariant.total)) ];
      full = λ lt. omega (arith, more, c.loop-end.invariant.total, c.if-total-counts.false);
    }
