-- What the code makes a walk with.
use Rattle.graph_emit.specs.declared.expr.Setting.{Setting as MadeSetting}
use Rattle.graph_emit.specs.State.{Setting}
use Rattle.graph_emit.specs.Program.{setting}

-- the setting of a walk
abbrev pub seen : MadeSetting → Setting
seen s = setting s.kind s.functions.now
