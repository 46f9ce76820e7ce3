use Rattle.std.proofs.Common.{refl}
use Rattle.std.specs.Prelude.{true}
use Rattle.query_text.proofs.Listed.{each_listed}
use Rattle.query_text.proofs.laws.edges_are_those_listed.Goals as goal

pub returns : goal.returns
returns c = λ s d first read parts o are listed i below. each_listed s o true d first read parts refl are listed i below
