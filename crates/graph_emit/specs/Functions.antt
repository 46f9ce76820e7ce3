-- What the code keeps of functions.
use Rattle.std.specs.Prelude.{List, [], ◌∷◌, length, map, reverse}
use Rattle.visible_names.specs.Names.{Bound}
use Rattle.graph_emit.specs.declared.functions.Param.{Param as MadeParam}
use Rattle.graph_emit.specs.declared.functions.Target.{Target as MadeTarget}
use Rattle.graph_emit.specs.State.{Target}
use Rattle.graph_emit.specs.Program.{Known}

abbrev pub bound : MadeParam → Bound
bound p = record { name = p.name.now; vertex = p.vertex }

abbrev pub target : MadeTarget → Target
target t = record { params = map bound t.params.items; gives = t.gives }

abbrev pub known : MadeTarget → Known
known t = record { name = t.name.now; target = target t }

-- the functions of a list, the last one first
abbrev pub known_of : List MadeTarget → List Known
known_of targets = map known (reverse targets)

-- each name with its number, the last one first
abbrev pub numbered : List Known → List Bound
numbered [] = []
numbered (f ∷ fs) = record { name = f.name; vertex = length fs } ∷ numbered fs
