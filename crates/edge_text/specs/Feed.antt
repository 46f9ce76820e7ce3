use Rattle.std.specs.Prelude.{◌≡◌, ℕ, ◌+◌, ◌<◌, ◌≤◌, Bool, List, [], ◌++◌, length, All}
use Rattle.graph_words.specs.declared.types.Edge.{Edge}
use Rattle.graph_words.specs.Text.{said}
use Rattle.io_edge.specs.Lines.{segments, lines}
use Rattle.io_edge.specs.FirstFault.{first_fault}
use Rattle.io_edge.specs.declared.step.Phase.{Phase}
use Rattle.io_edge.specs.declared.step.Phase.TheVariants.{Open}
use Rattle.edge_text.specs.declared.edges.EdgesFault.{EdgesFault}
use Rattle.edge_text.specs.declared.edges.EdgesFault.TheVariants as faults
use Rattle.faults.specs.declared.line_fault.LineFault.{LineFault}
use Rattle.faults.specs.declared.line_fault.LineFault.TheVariants.{Kind, NoMemory}
use Rattle.edge_text.specs.EdgesText.{edge_fault, edges_fault, SaysEdges}
use Rattle.graph_words.specs.declared.limits.TheConstants.{LONGEST_EDGES}

-- Of a text that goes on behind start bytes, number lines are read, and place bytes in all, with those before it.
-- Those of a line that has begun are held, and rest is not read yet.
pub record IsFeeding (start : ℕ) (names : List (List ℕ)) (text held rest : List ℕ) (number place : ℕ)
    (edges : List Edge) (table : List (List ℕ)) : Type 0 where
  pub before : List (List (List ℕ))
  pub at : ℕ
  pub says : SaysEdges names before edges table
  pub place_is : at + length held ≡ place
  pub lines_are : (later : List ℕ) → said (lines (text ++ later)) ≡ before ++ said (lines (held ++ (rest ++ later)))
  pub fault_is : (later : List ℕ) → edges_fault start names (text ++ later)
      ≡ first_fault LONGEST_EDGES (edge_fault names) (number + 1) at before (segments (held ++ (rest ++ later)))

-- An edge reader: the bytes of the line that has begun, how many lines are read, how many bytes with those before
-- the text, the names by their numbers, and whether more may come.
pub record EdgeFeed : Type 0 where
  pub held : List ℕ
  pub number : ℕ
  pub place : ℕ
  pub table : List (List ℕ)
  pub is_open : Bool

-- the reader has read the text so far, behind so many bytes and these names, and its lines that have ended say these edges
abbrev pub IsFed : ℕ → List (List ℕ) → List ℕ → EdgeFeed → List Edge → Type 0
IsFed start names text r edges = IsFeeding start names text r.held [] r.number r.place edges r.table

-- lines still come, none too long yet, and the lines that have ended end in the bytes that a file may have, or none
-- has ended and the text begins one byte behind them
pub record HasRoom (phase : Phase) (held : List ℕ) (number place : ℕ) : Type 0 where
  pub is_open : phase ≡ Open
  pub fewer : number ≤ place
  pub short : length held ≤ 4096
  pub room : place ≤ LONGEST_EDGES + 1 + length held

-- a vertex has a number below 16,777,216, and the label one in a table with so many names
pub record IsNumbered (names : ℕ) (e : Edge) : Type 0 where
  pub source : e.src.0 < 16777216
  pub destination : e.dst.0 < 16777216
  pub label : e.label.0 < names

-- a few edges are added at the end, numbered by the table that has got its new names at the end
pub record AddsEdges (most : ℕ) (edges : List Edge) (table : List (List ℕ)) (edges' : List Edge) (table' : List (List ℕ)) : Type 0 where
  pub added : List Edge
  pub new_names : List (List ℕ)
  pub edges_are : edges' ≡ edges ++ added
  pub few : length added ≤ most
  pub numbered : All (IsNumbered (length table')) added
  pub table_is : table' ≡ table ++ new_names
  pub short : length table ≤ 1000 → length table' ≤ 1000

-- the fault of a line
abbrev pub fault_at : ℕ → LineFault → EdgesFault
fault_at line (Kind kind) = faults.Text line kind
fault_at line NoMemory = faults.NoMemory
