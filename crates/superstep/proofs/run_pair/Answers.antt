use Rattle.std.proofs.Common.{◌+◌, ◌^◌, ◌<◌, arith}
use Rattle.normal_law.specs.NormalForm.{normal_form}
use Rattle.superstep.proofs.RoomLemmas.{joins_known}
use Rattle.superstep.proofs.LoopLemmas.{Going-start, Going-next, ends, ends_joined, in_format, new_sources, next_fits, is_nil, not_nil}
use Rattle.superstep.proofs.run_pair.Goals as goal

pub loop-new-init : goal.loop-new-init
loop-new-init c = Going-start (normal_form c.args.normal.now) c.args.rows.now c.args.since c.args.birth c.limits-2.ensures

pub returns-in_err-new-clause-format : goal.returns-in_err-new-clause-format
returns-in_err-new-clause-format c = in_format _ _ _ _ _ _ _ c.loop-new.invariant (joins_known _ c.limits.ensures) c.requires.format

pub returns-then-is_empty-clause-run : goal.returns-then-is_empty-clause-run
returns-then-is_empty-clause-run c =
    let nil = is_nil _ _ _ c.is_empty.ensures c.as_slice.ensures c.if-is_empty.true in
    ends _ _ _ _ _ _ _ c.loop-new.invariant (rw nil at c.in_ok-new.ensures)

pub returns-then-is_empty-clause-closed : goal.returns-then-is_empty-clause-closed
returns-then-is_empty-clause-closed c =
    let nil = is_nil _ _ _ c.is_empty.ensures c.as_slice.ensures c.if-is_empty.true in
    ends_joined _ _ _ _ _ _ _ c.loop-new.invariant (rw nil at c.in_ok-new.ensures)

pub returns-then-is_empty-clause-format : goal.returns-then-is_empty-clause-format
returns-then-is_empty-clause-format c = in_format _ _ _ _ _ _ _ c.loop-new.invariant (joins_known _ c.limits.ensures) c.requires.format

pub absorb-requires-clause-sources : goal.absorb-requires-clause-sources
absorb-requires-clause-sources c = new_sources _ _ _ _ c.loop-new.invariant.loaded c.in_ok-new.ensures

pub returns-in_err-absorb-clause-format : goal.returns-in_err-absorb-clause-format
returns-in_err-absorb-clause-format c = rw c.in_err-absorb.ensures.err (in_format _ _ _ _ _ _ _ c.loop-new.invariant (joins_known _ c.limits.ensures) c.requires.format)

pub overflow_add-next : goal.overflow_add-next
overflow_add-next c =
    let some = not_nil _ _ _ c.is_empty.ensures c.as_slice.ensures c.if-is_empty.false in
    let fits : c.loop-new.next + 1 < 2 ^ 64 = next_fits _ _ _ _ _ _ _ c.loop-new.invariant _ _ c.in_ok-new.ensures some c.in_ok-absorb.ensures.ok c.limits-in-loop-new.ensures (joins_known _ c.limits.ensures) c.requires.format c.requires.room in
    omega arith

pub loop-new-preserved : goal.loop-new-preserved
loop-new-preserved c =
    let some = not_nil _ _ _ c.is_empty.ensures c.as_slice.ensures c.if-is_empty.false in
    Going-next _ _ _ _ _ _ _ c.loop-new.invariant _ _ c.in_ok-new.ensures some c.in_ok-absorb.ensures.ok c.limits-in-loop-new.ensures
