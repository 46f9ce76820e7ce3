use Rattle.std.proofs.Common.{◌≤◌, ◌+◌, ◌-◌, ℕ, List, length}
use Rattle.c_tree.specs.Said.{stars}
use Rattle.c_tree.specs.Tokens.{source}
use Rattle.c_tree.specs.Reading.{ReadsAt}
use Rattle.c_parser.proofs.declaration.read_stars.Given as goal

-- whatever stars stand behind those that were counted stand there together with them
abbrev pub invariant-loop-count : goal.invariant-loop-count
invariant-loop-count l = record {
  inside : l.at + l.count ≤ length l.tokens;
  reads : (bytes : List ℕ) (room m n : ℕ) → ReadsAt stars (source bytes l.tokens) (l.at + l.count) room m n → ReadsAt stars (source bytes l.tokens) l.at room (l.count + m) n;
}

abbrev pub decreases-loop-count : goal.decreases-loop-count
decreases-loop-count l = length l.tokens - (l.at + l.count)
