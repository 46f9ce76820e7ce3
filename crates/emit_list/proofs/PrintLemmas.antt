-- Lines of vertices and edges: the first, and the others.
use Rattle.std.proofs.Common.{◌≡◌, ℕ, suc, ◌+◌, ◌-◌, ◌<◌, List, ◌++◌, length, drop, get_or, add-one, drop-cons, arith}
use Rattle.std.specs.List.{flat_map, range_with_len}
use Rattle.emit_list.specs.declared.edge.EmitEdge.{EmitEdge}
use Rattle.emit_list.specs.Printed.{edge_line_of}

-- numbers from k up to n
pub range_first : (f : ℕ → List ℕ) (k n : ℕ) → k < n → flat_map f (range_with_len k (n - k)) ≡ f k ++ flat_map f (range_with_len (k + 1) (n - (k + 1)))
range_first f k n h = let e : n - k ≡ suc (n - (k + 1)) = omega arith in rw e

-- the edges from one on
pub edge_first : (es : List EmitEdge) (i : ℕ) (d : EmitEdge) → i < length es → flat_map edge_line_of (drop i es) ≡ edge_line_of (get_or es i d) ++ flat_map edge_line_of (drop (i + 1) es)
edge_first es i d h = rw (add-one, drop-cons es i d)
