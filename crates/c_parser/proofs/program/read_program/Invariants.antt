use Rattle.std.proofs.Common.{◌≤◌, ◌-◌, length}
use Rattle.c_tree.specs.Tokens.{source}
use Rattle.c_parser.proofs.Programs.{ReadSoFar}
use Rattle.c_parser.proofs.program.read_program.Given as goal

abbrev pub invariant-loop-next : goal.invariant-loop-next
invariant-loop-next l = record {
  inside : l.next ≤ length l.tokens;
  so_far : ReadSoFar (source l.bytes l.tokens) l.room l.next l.items;
}

abbrev pub decreases-loop-next : goal.decreases-loop-next
decreases-loop-next l = length l.tokens - l.next
