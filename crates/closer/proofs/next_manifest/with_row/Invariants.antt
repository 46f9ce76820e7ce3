use Rattle.std.proofs.Common.{◌≡◌, ◌≢◌, ◌<◌, ◌*◌, ℕ, length, slice_index_or}
use Rattle.dest_map.specs.Table.{counts_of, entry}
use Rattle.closer.proofs.next_manifest.with_row.Given as goal

abbrev pub invariant-loop-j : goal.invariant-loop-j
invariant-loop-j l =
    record {
      size : l.size ≡ l.fn.map.0;
      long : length l.counts.items ≡ l.fn.map.0 * l.fn.map.0;
      here : (b : ℕ) → b < l.j → entry l.fn.map.0 l.counts.items l.i b ≡ slice_index_or l.row b 0;
      others : (x b : ℕ) → x ≢ l.i → entry l.fn.map.0 l.counts.items x b ≡ counts_of l.fn.map x b;
    }
