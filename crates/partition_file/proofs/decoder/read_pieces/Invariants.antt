use Rattle.std.proofs.Common.{◌≡◌, ◌≤◌, length, take, drop}
use Rattle.std.specs.Prelude.{sum_by}
use Rattle.std.specs.List.{flat_map}
use Rattle.partition_file.specs.FieldsRead.{reading}
use Rattle.partition_file.specs.Reader.{rest_of, taken, prepend}
use Rattle.partition_file.proofs.decoder.read_pieces.Given as goal

abbrev pub invariant-loop-piece : goal.invariant-loop-piece
invariant-loop-piece l = record {
  gives : reading l.fn.expect (flat_map (λ p. p.now) l.pieces) ≡ prepend l.edges.items (rest_of l.reader (flat_map (λ p. p.now) (drop l.piece-index l.pieces)));
  taken : taken l.reader ≤ sum_by (λ p. length p.now) (take l.piece-index l.pieces);
}
