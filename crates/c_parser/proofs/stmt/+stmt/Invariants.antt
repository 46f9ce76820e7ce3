use Rattle.std.proofs.Common.{◌≤◌, ◌+◌, length, ℕ, ◌-◌, ◌*◌, List, ◌++◌}
use Rattle.c_tree.specs.declared.tree.Stmt.{Stmt}
use Rattle.c_tree.specs.declared.fault.Wrong.{Wrong}
use Rattle.c_tree.specs.Tokens.{source}
use Rattle.c_tree.specs.Reading.{ReadsAt, RefusesAt}
use Rattle.c_parser.specs.Branches.{block_of}
use Rattle.c_parser.proofs.stmt.+stmt.Given as goal

-- The room falls. At the same room lists and branches come before statements, and those before blocks, `if` and `while`.
abbrev pub decreases-read_stmts : goal.decreases-read_stmts
decreases-read_stmts l = 3 * l.room + 2

abbrev pub decreases-read_branches : goal.decreases-read_branches
decreases-read_branches l = 3 * l.room + 2

abbrev pub decreases-read_stmt : goal.decreases-read_stmt
decreases-read_stmt l = 3 * l.room + 1

abbrev pub decreases-read_block : goal.decreases-read_block
decreases-read_block l = 3 * l.room

abbrev pub decreases-read_if : goal.decreases-read_if
decreases-read_if l = 3 * l.room

abbrev pub decreases-read_while : goal.decreases-read_while
decreases-read_while l = 3 * l.room

-- whatever stands from `next` on completes the statements
abbrev pub invariant-read_stmts-loop-alloc : goal.invariant-read_stmts-loop-alloc
invariant-read_stmts-loop-alloc l = record {
  inside : l.next ≤ length l.tokens;
  reads : (xs : List Stmt) (n : ℕ) → ReadsAt block_of (source l.bytes l.tokens) l.next l.room xs n → ReadsAt block_of (source l.bytes l.tokens) l.fn.at l.room (l.stmts ++ xs) n;
  refuses : (token : ℕ) (why : Wrong) → RefusesAt block_of (source l.bytes l.tokens) l.next l.room token why → RefusesAt block_of (source l.bytes l.tokens) l.fn.at l.room token why;
}

abbrev pub decreases-read_stmts-loop-alloc : goal.decreases-read_stmts-loop-alloc
decreases-read_stmts-loop-alloc l = length l.tokens - l.next
