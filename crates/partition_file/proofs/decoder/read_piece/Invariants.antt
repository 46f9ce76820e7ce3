use Rattle.std.proofs.Common.{◌≡◌, ◌+◌, ◌≤◌, ◌++◌, ℕ, List, length}
use Rattle.partition_file.specs.Reader.{rest_of, taken, prepend}
use Rattle.partition_file.proofs.decoder.read_piece.Given as goal

abbrev pub invariant-edges : goal.invariant-edges
invariant-edges l = record {
  gives : (more : List ℕ) → prepend l.fn.edges.items (rest_of l.fn.reader (l.piece ++ more)) ≡ prepend l.edges.items (rest_of l.reader (l.rest ++ more));
  taken : taken l.reader + length l.rest ≤ taken l.fn.reader + length l.piece;
  few : length l.edges.items + length l.rest ≤ length l.fn.edges.items + length l.piece;
}

abbrev pub decreases-edges : goal.decreases-edges
decreases-edges l = length l.rest
