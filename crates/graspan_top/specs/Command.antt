-- What each command answers and prints.
use Rattle.std.specs.Prelude.{ℕ, Bool, is_some, List, Option}
use Rattle.disk_model.specs.Disk.{Contents}
use Rattle.command_words.specs.Command.{Said, run, query, emit, dump, parts}
use Rattle.graspan_top.specs.Emission.{IsEmitText, emit_stages}
use Rattle.graspan_top.specs.Given.{Given}
use Rattle.graspan_top.specs.Printed.{IsNothingOr}
use Rattle.graspan_top.specs.Refusals.{Rises, Stage}
use Rattle.graspan_top.specs.Run.{IsRunBegun, IsRunText, run_stages}
use Rattle.graspan_top.specs.Looks.{IsDumpFront, IsDumpText, IsPartsText, IsQueryText}
use Rattle.graspan_top.specs.Looks.{dump_stages, parts_stages, query_stages}

-- the stages of a command, in the order in which they refuse. They speak of what is given, and a run's of what a read
-- gives after it too.
abbrev pub stages_of : Given → Contents → Rises → Said → List Stage
stages_of x after rose (run edges grammar options show) = run_stages x edges grammar show after rose
stages_of x after rose (query label from to) = query_stages x.tells x.before label from to rose.disk rose.writes
stages_of x after rose (emit kind source) = emit_stages (x.told source) kind (rose.reads source) rose.writes
stages_of x after rose dump = dump_stages x.tells x.before rose.disk rose.writes
stages_of x after rose parts = parts_stages x.tells x.before rose.disk rose.writes

-- whether its text is known: that of a C file where this is told, and else where the disk tells what it holds
abbrev pub knows : Bool → (List ℕ → Option (List ℕ)) → Said → Bool
knows tells told (emit kind source) = is_some (told source)
knows tells told _ = tells

-- what it prints of what the disk holds then, or of a C file
abbrev pub IsTextOf : (List ℕ → Option (List ℕ)) → Contents → Said → List ℕ → Type 0
IsTextOf told c (run edges grammar options show) text = IsRunText c show text
IsTextOf told c (query label from to) text = IsQueryText c label from to text
IsTextOf told c (emit kind source) text = IsEmitText (told source) kind text
IsTextOf told c dump text = IsDumpText c text
IsTextOf told c parts text = IsPartsText c text

-- a command that changes nothing
abbrev pub IsLook : Said → Type 0
IsLook (run edges grammar options show) = ⊥
IsLook (query label from to) = Unit {0}
IsLook (emit kind source) = Unit {0}
IsLook dump = Unit {0}
IsLook parts = Unit {0}

-- what it may have begun to print, also of a store that has no whole text
abbrev pub IsBegunOf : (List ℕ → Option (List ℕ)) → Contents → Said → List ℕ → Type 0
IsBegunOf told c (run edges grammar options show) text = IsNothingOr (IsRunBegun c show) text
IsBegunOf told c (query label from to) text = IsNothingOr (IsQueryText c label from to) text
IsBegunOf told c (emit kind source) text = IsNothingOr (IsEmitText (told source) kind) text
IsBegunOf told c dump text = IsNothingOr (IsDumpFront c) text
IsBegunOf told c parts text = IsNothingOr (IsPartsText c) text
