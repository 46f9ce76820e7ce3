use Rattle.std.proofs.Common.{ap, refl, length, arith}
use Rattle.std.specs.Option.{option_map}
use Rattle.std.proofs.lemmas.Option.{slice_get_read}
use Rattle.emit_list.specs.declared.vertex.Vertex.{Vertex}
use Rattle.emit_list.specs.Vertices.{Listed}
use Rattle.emit_list.proofs.list.EmitList.vertex.Goals as goal

pub returns-clause-below : goal.returns-clause-below
returns-clause-below c =
    let long = ap (λ (l : Listed). length l.vertices) c.self.view_is in
    c.self.invariant.earlier c.args.k _ (ap (option_map (λ (v : Vertex). v.form)) (slice_get_read c.self.inside.vertices.items _ c.args.k c.index.result.now refl (omega (arith, long, c.requires)) c.index.ensures))
