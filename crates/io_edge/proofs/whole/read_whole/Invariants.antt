use Rattle.std.proofs.Common.{◌≡◌, ◌+◌, ◌≤◌, ◌-◌, ℕ, List, Some, length, take, vec_len}
use Rattle.io_edge.proofs.whole.read_whole.Given as goal

abbrev pub invariant-loop-at : goal.invariant-loop-at
invariant-loop-at g l =
    record {
      buf : vec_len l.buf ≡ 65536;
      small : l.at ≤ l.limit + 65536;
      len : vec_len l.whole ≡ l.at;
      kept : g.I.Inputs.told l.inputs ≡ g.I.Inputs.told l.initial.inputs;
      count : (k : List ℕ) → g.I.Inputs.faults l.initial.inputs k ≤ g.I.Inputs.faults l.inputs k;
      so_far : (file : List ℕ) → g.I.Inputs.told l.initial.inputs l.name ≡ Some file → (l.whole.items ≡ take l.at file) × (l.at ≤ length file);
    }

abbrev pub decreases-loop-at : goal.decreases-loop-at
decreases-loop-at g l = l.limit + 1 - l.at
