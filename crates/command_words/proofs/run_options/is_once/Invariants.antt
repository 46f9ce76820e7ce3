use Rattle.std.proofs.Common.{◌≢◌, ◌<◌, ℕ, length, slice_index_or}
use Rattle.command_words.specs.declared.cut_words.Given.{Given}
use Rattle.command_words.proofs.run_options.is_once.Given as goal

abbrev pub invariant-loop-i : goal.invariant-loop-i
invariant-loop-i l = (k j : ℕ) (d : Given) → k < l.i → k < j → j < length l.options → (slice_index_or l.options k d).name.now ≢ (slice_index_or l.options j d).name.now
