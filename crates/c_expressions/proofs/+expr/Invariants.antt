use Rattle.std.proofs.Common.{◌≤◌, ◌+◌, length, ℕ, ◌-◌, ◌*◌, List, ◌∷◌, ◌++◌}
use Rattle.c_tree.specs.declared.tree.Expr.{Expr}
use Rattle.c_tree.specs.declared.tree.Added.{Added}
use Rattle.c_tree.specs.declared.fault.Wrong.{Wrong}
use Rattle.c_tree.specs.Tokens.{source}
use Rattle.c_tree.specs.Grammar.{args_of}
use Rattle.c_tree.specs.Reading.{ReadsAt, RefusesAt}
use Rattle.c_expressions.proofs.Sums.{tail_said, sum_run}
use Rattle.c_expressions.proofs.Arguments.{listed}
use Rattle.c_expressions.proofs.+expr.Given as goal

-- The room falls. At the same room brackets and arguments come before expressions, those before sums, and so on down to calls.
abbrev pub decreases-args::read_args : goal.decreases-args::read_args
decreases-args::read_args l = 9 * l.room + 8

abbrev pub decreases-args::read_bracketed : goal.decreases-args::read_bracketed
decreases-args::read_bracketed l = 9 * l.room + 8

abbrev pub decreases-pointer::read_malloc : goal.decreases-pointer::read_malloc
decreases-pointer::read_malloc l = 9 * l.room

abbrev pub decreases-expr::read_added : goal.decreases-expr::read_added
decreases-expr::read_added l = 9 * l.room + 4

abbrev pub decreases-expr::read_compared : goal.decreases-expr::read_compared
decreases-expr::read_compared l = 9 * l.room + 6

abbrev pub decreases-expr::read_expr : goal.decreases-expr::read_expr
decreases-expr::read_expr l = 9 * l.room + 7

abbrev pub decreases-expr::read_sum : goal.decreases-expr::read_sum
decreases-expr::read_sum l = 9 * l.room + 5

abbrev pub decreases-pointer::read_named : goal.decreases-pointer::read_named
decreases-pointer::read_named l = 9 * l.room

abbrev pub decreases-pointer::read_paren : goal.decreases-pointer::read_paren
decreases-pointer::read_paren l = 9 * l.room

abbrev pub decreases-pointer::read_pointer : goal.decreases-pointer::read_pointer
decreases-pointer::read_pointer l = 9 * l.room + 1

abbrev pub decreases-pointer::read_star : goal.decreases-pointer::read_star
decreases-pointer::read_star l = 9 * l.room

abbrev pub decreases-unary::read_address : goal.decreases-unary::read_address
decreases-unary::read_address l = 9 * l.room + 2

abbrev pub decreases-unary::read_place : goal.decreases-unary::read_place
decreases-unary::read_place l = 9 * l.room + 1

abbrev pub decreases-unary::read_star : goal.decreases-unary::read_star
decreases-unary::read_star l = 9 * l.room

abbrev pub decreases-unary::read_unary : goal.decreases-unary::read_unary
decreases-unary::read_unary l = 9 * l.room + 3

-- whatever stands from `next` on completes the arguments
abbrev pub invariant-args::read_args-loop-args : goal.invariant-args::read_args-loop-args
invariant-args::read_args-loop-args l = record {
  inside : l.next ≤ length l.tokens;
  reads : (x : Expr) (xs : List Expr) (n : ℕ) → ReadsAt listed (source l.bytes l.tokens) l.next l.room (x, xs) n → ReadsAt args_of (source l.bytes l.tokens) l.fn.at l.room (l.args ++ x ∷ xs) n;
  refuses : (token : ℕ) (why : Wrong) → RefusesAt listed (source l.bytes l.tokens) l.next l.room token why → RefusesAt args_of (source l.bytes l.tokens) l.fn.at l.room token why;
}

abbrev pub decreases-args::read_args-loop-args : goal.decreases-args::read_args-loop-args
decreases-args::read_args-loop-args l = length l.tokens - l.next

-- whatever stands from `next` on completes the sum
abbrev pub invariant-expr::read_sum-loop-op : goal.invariant-expr::read_sum-loop-op
invariant-expr::read_sum-loop-op l = record {
  inside : l.next ≤ length l.tokens;
  reads : (zs : List Added) (n : ℕ) → ReadsAt tail_said (source l.bytes l.tokens) l.next l.room zs n → ReadsAt sum_run (source l.bytes l.tokens) l.fn.at l.room (l.first, l.rest ++ zs) n;
  refuses : (token : ℕ) (why : Wrong) → RefusesAt tail_said (source l.bytes l.tokens) l.next l.room token why → RefusesAt sum_run (source l.bytes l.tokens) l.fn.at l.room token why;
}

abbrev pub decreases-expr::read_sum-loop-op : goal.decreases-expr::read_sum-loop-op
decreases-expr::read_sum-loop-op l = length l.tokens - l.next
