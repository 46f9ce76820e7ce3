use Rattle.std.proofs.Common.{◌≡◌, ◌++◌, ◌+◌, ◌-◌, ◌<◌, ◌≤◌, suc, refl, arith}
use Rattle.std.proofs.lemmas.List.Elements.{recursion_from_All}
use Rattle.partition_file.specs.Spelling.{rows_bytes}
use Rattle.partition_file.proofs.Splits.{Ascends-from_pairs, above_from_within, front_cut, row_written}
use Rattle.partition_file.proofs.encoder.put_rows.Goals as goal

pub loop-vertex-init : goal.loop-vertex-init
loop-vertex-init c = record {
  text = refl;
  low = above_from_within c.args.lo c.args.hi c.args.edges.now (recursion_from_All (λ b. (c.args.lo ≤ b.edge.src.0) × (b.edge.src.0 < c.args.hi)) c.args.edges.now c.requires.within);
  sorted = Ascends-from_pairs c.args.edges.now c.requires.ascending;
}

pub loop-vertex-preserved : goal.loop-vertex-preserved
loop-vertex-preserved c =
    let v = c.loop-vertex.vertex in
    let rest = c.loop-vertex.rest.now in
    let m = c.row_len-count.result in
    let inv = c.loop-vertex.invariant in
    let parts = front_cut v rest m inv.sorted inv.low c.row_len-count.ensures in
    let more : c.args.hi - v ≡ suc (c.args.hi - (v + 1)) = omega arith in
    record {
      text = rw (c.in_ok-put_edges.ensures, c.in_ok-put_count.ensures, c.split_at.ensures.front, c.split_at.ensures.back)
          (row_written c.args.format c.loop-vertex.out.items (c.args.out.now.items ++ rows_bytes c.args.format (c.args.hi - c.args.lo) c.args.lo c.args.edges.now) (c.args.hi - v) (c.args.hi - (v + 1)) v rest m more c.row_len-count.ensures.within parts.0 parts.1 inv.text);
      low = rw c.split_at.ensures.back parts.1;
      sorted = rw c.split_at.ensures.back parts.2;
    }
