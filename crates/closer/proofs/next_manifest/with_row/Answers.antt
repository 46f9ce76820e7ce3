use Rattle.std.proofs.Common.{◌∙◌, ◌<◌, refl, arith}
use Rattle.std.proofs.lemmas.List.{length-set}
use Rattle.dest_map.specs.Table.{counts_of}
use Rattle.closer.proofs.PutLemmas.{row_more, row_others}
use Rattle.closer.proofs.next_manifest.with_row.Goals as goal

pub loop-j-preserved : goal.loop-j-preserved
loop-j-preserved c =
    let inv = c.loop-j.invariant in
    let lj : c.loop-j.j < c.args.map.0 = omega (arith, c.loop-j-test.true, c.requires.row) in
    record {
      size = c.len-size.ensures.len;
      long = length-set c.loop-j.counts.items _ _ ∙ inv.long;
      here = λ b lt. rw c.len-size.ensures.len (row_more c.args.map.0 c.args.i c.loop-j.j _ c.loop-j.counts.items c.args.row.now (counts_of c.args.map) inv.long c.requires.i lj refl inv.here b lt);
      others = λ x b ne. rw c.len-size.ensures.len (row_others c.args.map.0 c.args.i c.loop-j.j _ c.loop-j.counts.items (counts_of c.args.map) inv.long c.requires.i lj inv.others x b ne);
    }
