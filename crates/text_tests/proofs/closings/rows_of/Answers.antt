use Rattle.text_tests.proofs.closings.rows_of.Goals as goal

pub add-requires : goal.add-requires
add-requires g c = λ v lt. rw (c.loop-edge.invariant.low, c.loop-edge.invariant.high) (c.in_ok-rows.ensures.covers v lt)
