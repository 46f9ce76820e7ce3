use Rattle.std.proofs.Common.{◌++◌, arith}
use Rattle.manifest_codec.specs.Spelling.{parts_bytes}
use Rattle.manifest_codec.proofs.Loops.{parts_bytes_step}
use Rattle.manifest_codec.proofs.encoder.put_parts.Goals as goal

pub loop-i-preserved : goal.loop-i-preserved
loop-i-preserved c =
    parts_bytes_step c.loop-i.out.items c.put_part.new.out.items (c.args.out.now.items ++ parts_bytes c.args.parts.now c.args.newest.now) c.args.parts.now c.args.newest.now c.loop-i.i (record { hi = 0; file = 0 })
    c.loop-i-test.true (omega (arith, c.loop-i-test.true, c.requires)) c.in_ok-put_part.ensures c.loop-i.invariant
