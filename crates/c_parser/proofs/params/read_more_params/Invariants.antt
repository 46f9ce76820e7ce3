use Rattle.std.proofs.Common.{◌≤◌, ℕ, ◌-◌, length, List, ◌++◌}
use Rattle.c_tree.specs.declared.tree.Param.{Param}
use Rattle.c_tree.specs.declared.fault.Wrong.{Wrong}
use Rattle.c_tree.specs.Tokens.{source}
use Rattle.c_tree.specs.Grammar.{more_params}
use Rattle.c_tree.specs.Reading.{ReadsAt, RefusesAt}
use Rattle.c_parser.proofs.params.read_more_params.Given as goal

-- whatever stands from `next` on completes the parameters
abbrev pub invariant-loop-alloc : goal.invariant-loop-alloc
invariant-loop-alloc l = record {
  inside : l.next ≤ length l.tokens;
  reads : (room : ℕ) (xs : List Param) (n : ℕ) → ReadsAt more_params (source l.bytes l.tokens) l.next room xs n → ReadsAt more_params (source l.bytes l.tokens) l.fn.at room (l.params ++ xs) n;
  refuses : (room token : ℕ) (why : Wrong) → RefusesAt more_params (source l.bytes l.tokens) l.next room token why → RefusesAt more_params (source l.bytes l.tokens) l.fn.at room token why;
}

abbrev pub decreases-loop-alloc : goal.decreases-loop-alloc
decreases-loop-alloc l = length l.tokens - l.next
