-- The names of files and kinds in a printed fault.
use Rattle.std.specs.Prelude.{ℕ, List, codes}
use Rattle.faults.specs.declared.kinds.InputFile.{InputFile}
use Rattle.faults.specs.declared.kinds.InputFile.TheVariants.{Grammar, Edges, Source, Proof, Questions}
use Rattle.faults.specs.declared.kinds.InputKind.{InputKind}
use Rattle.faults.specs.declared.kinds.InputKind.TheVariants.{LineTooLong, TooLong, WrongCount, BadSource}
use Rattle.faults.specs.declared.kinds.InputKind.TheVariants.{BadDestination, BadLabel, RightTooLong, TooManyRules}
use Rattle.faults.specs.declared.kinds.InputKind.TheVariants.{TooManyLabels, BadByte, OpenComment, NameTooLong}
use Rattle.faults.specs.declared.kinds.InputKind.TheVariants.{Unexpected, TooDeep, Undeclared, Repeated}
use Rattle.faults.specs.declared.kinds.InputKind.TheVariants.{WrongArguments, NoValue, TooManyVertices, BadNode}
use Rattle.faults.specs.declared.kinds.InputKind.TheVariants.{BadStep, NoNode, TooManyQuestions}
use Rattle.faults.specs.declared.form_kind.FormKind.{FormKind}
use Rattle.faults.specs.declared.form_kind.FormKind.TheVariants.{BadMagic, Short, Extra, BadNumber}
use Rattle.faults.specs.declared.form_kind.FormKind.TheVariants.{RepeatedLabel, BadParts, BadFile, BadCount}
use Rattle.faults.specs.declared.form_kind.FormKind.TheVariants.{BadMark, BadBounds, BadOrder, BadVertex}
use Rattle.faults.specs.declared.form_kind.FormKind.TheVariants.{BadBirth, BadText, Counts, Generations}
use Rattle.faults.specs.declared.form_kind.FormKind.TheVariants.{NoCause}
use Rattle.faults.specs.declared.form_kind.FormKind.TheVariants as forms

abbrev pub file_name : InputFile → List ℕ
file_name Grammar = codes "grammar"
file_name Edges = codes "edges"
file_name Source = codes "source"
file_name Proof = codes "proof"
file_name Questions = codes "questions"

abbrev pub kind_name : InputKind → List ℕ
kind_name LineTooLong = codes "LineTooLong"
kind_name TooLong = codes "TooLong"
kind_name WrongCount = codes "WrongCount"
kind_name BadSource = codes "BadSource"
kind_name BadDestination = codes "BadDestination"
kind_name BadLabel = codes "BadLabel"
kind_name RightTooLong = codes "RightTooLong"
kind_name TooManyRules = codes "TooManyRules"
kind_name TooManyLabels = codes "TooManyLabels"
kind_name BadByte = codes "BadByte"
kind_name OpenComment = codes "OpenComment"
kind_name NameTooLong = codes "NameTooLong"
kind_name Unexpected = codes "Unexpected"
kind_name TooDeep = codes "TooDeep"
kind_name Undeclared = codes "Undeclared"
kind_name Repeated = codes "Repeated"
kind_name WrongArguments = codes "WrongArguments"
kind_name NoValue = codes "NoValue"
kind_name TooManyVertices = codes "TooManyVertices"
kind_name BadNode = codes "BadNode"
kind_name BadStep = codes "BadStep"
kind_name NoNode = codes "NoNode"
kind_name TooManyQuestions = codes "TooManyQuestions"

-- what breaks in a store
abbrev pub form_name : FormKind → List ℕ
form_name BadMagic = codes "BadMagic"
form_name Short = codes "Short"
form_name Extra = codes "Extra"
form_name BadNumber = codes "BadNumber"
form_name forms.BadLabel = codes "BadLabel"
form_name RepeatedLabel = codes "RepeatedLabel"
form_name BadParts = codes "BadParts"
form_name BadFile = codes "BadFile"
form_name BadCount = codes "BadCount"
form_name BadMark = codes "BadMark"
form_name BadBounds = codes "BadBounds"
form_name BadOrder = codes "BadOrder"
form_name BadVertex = codes "BadVertex"
form_name BadBirth = codes "BadBirth"
form_name BadText = codes "BadText"
form_name Counts = codes "Counts"
form_name Generations = codes "Generations"
form_name NoCause = codes "NoCause"
