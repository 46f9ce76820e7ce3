use Rattle.row_table.proofs.SieveLemmas.{sift_said}
use Rattle.row_table.proofs.sieve.sift_end.Goals as goal

pub returns : goal.returns
returns c = sift_said c.args.ends.now _ c.args.found.now.items _ c.args.end.0 c.in_ok-new.new c.in_ok-new.ensures.added c.in_ok-new.ensures.new c.if-not-new.false c.in_ok-push.ensures.items
