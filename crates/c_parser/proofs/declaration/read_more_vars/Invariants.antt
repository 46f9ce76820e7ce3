use Rattle.std.proofs.Common.{◌≤◌, ℕ, ◌-◌, length, List, ◌++◌}
use Rattle.c_tree.specs.declared.tree.Var.{Var}
use Rattle.c_tree.specs.declared.fault.Wrong.{Wrong}
use Rattle.c_tree.specs.Tokens.{source}
use Rattle.c_tree.specs.Grammar.{more_vars}
use Rattle.c_tree.specs.Reading.{ReadsAt, RefusesAt}
use Rattle.c_parser.proofs.declaration.read_more_vars.Given as goal

-- whatever stands from `next` on completes the variables
abbrev pub invariant-loop-alloc : goal.invariant-loop-alloc
invariant-loop-alloc l = record {
  inside : l.next ≤ length l.tokens;
  reads : (xs : List Var) (n : ℕ) → ReadsAt more_vars (source l.bytes l.tokens) l.next l.room xs n → ReadsAt more_vars (source l.bytes l.tokens) l.fn.at l.room (l.vars ++ xs) n;
  refuses : (token : ℕ) (why : Wrong) → RefusesAt more_vars (source l.bytes l.tokens) l.next l.room token why → RefusesAt more_vars (source l.bytes l.tokens) l.fn.at l.room token why;
}

abbrev pub decreases-loop-alloc : goal.decreases-loop-alloc
decreases-loop-alloc l = length l.tokens - l.next
