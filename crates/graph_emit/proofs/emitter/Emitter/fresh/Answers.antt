use Rattle.std.proofs.Common.{◌<◌, length, arith}
use Rattle.emit_list.specs.declared.vertex.TheConstants.{MOST_VERTICES}
use Rattle.graph_emit.specs.declared.emitter.Spot.{Spot}
use Rattle.graph_emit.proofs.Emitting.{spots_plain}
use Rattle.graph_emit.proofs.emitter.Emitter.fresh.Goals as goal

pub invariant_of-self-2 : goal.invariant_of-self-2
invariant_of-self-2 c =
    let ss = c.self.inside.spots.items in
    let x : Spot = record { form = c.args.form; name = c.args.name; token = c.args.tok.number } in
    let room : length ss < MOST_VERTICES = omega arith in
    spots_plain ss c.push_spot.new.spots.items x c.self.inside.derefs c.self.inside.addresses c.in_ok-push_spot.ensures.ok c.self.invariant room c.requires
