-- What the command `emit` answers and prints.
use Rattle.std.specs.Prelude.{◌≡◌, ℕ, List, [], ◌∷◌, Option, Some}
use Rattle.faults.specs.Reasons.{blames_none, no_cause}
use Rattle.faults.specs.declared.kinds.InputFile.{InputFile}
use Rattle.faults.specs.declared.kinds.InputFile.TheVariants.{Source}
use Rattle.faults.specs.declared.kinds.InputKind.{InputKind}
use Rattle.command_words.specs.declared.command.GraphKind.{GraphKind}
use Rattle.command_words.specs.declared.command.GraphKind.TheVariants as kinds
use Rattle.emit_list.specs.Vertices.{Listed}
use Rattle.emit_list.specs.Printed.{list_bytes}
use Rattle.graph_emit.specs.declared.fault.EmitKind.{EmitKind}
use Rattle.graph_emit.specs.declared.fault.EmitKind.TheVariants.{Alias, Null}
use Rattle.source_graph.specs.Sources.{HasSourceFault, IsSourceGraph}
use Rattle.graspan_top.specs.Given.{WhereTold}
use Rattle.graspan_top.specs.Refusals.{Stage}
use Rattle.graspan_top.specs.Run.{printing_stage}

-- what the graph is made for
abbrev pub graph_kind : GraphKind → EmitKind
graph_kind kinds.Alias = Alias
graph_kind kinds.Null = Null

-- the text of the graph of the C file
pub record IsEmitText (told : Option (List ℕ)) (kind : GraphKind) (text : List ℕ) : Type 0 where
  pub file : List ℕ
  pub file_is : told ≡ Some file
  pub list : Listed
  pub graph : IsSourceGraph (graph_kind kind) file list
  pub printed : text ≡ list_bytes list

-- the file has a graph, where it is told
abbrev pub HasGraph : Option (List ℕ) → GraphKind → Type 0
HasGraph told kind = WhereTold told (λ s. (list : Listed) × IsSourceGraph (graph_kind kind) s list)

-- the file's first refusal
abbrev pub HasRefusal : Option (List ℕ) → GraphKind → InputFile → ℕ → InputKind → Type 0
HasRefusal told kind Source line k = WhereTold told (λ s. HasSourceFault (graph_kind kind) s line k)
HasRefusal told kind _ line k = ⊥

-- The file is read, and has a graph.
abbrev pub source_stage : Option (List ℕ) → GraphKind → Type 0 → Stage
source_stage told kind read_rose =
    record {
      refuses = record no_cause { reads = read_rose; text = HasRefusal told kind };
      passed = HasGraph told kind;
    }

-- the stages of the command. None calls the disk.
abbrev pub emit_stages : Option (List ℕ) → GraphKind → Type 0 → Type 0 → List Stage
emit_stages told kind read_rose out_rose = source_stage told kind read_rose ∷ printing_stage ⊥ out_rose blames_none ∷ []
