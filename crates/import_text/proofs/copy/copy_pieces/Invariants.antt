use Rattle.std.proofs.Common.{◌≡◌, ℕ, ◌+◌, ◌-◌, ◌^◌, ◌≤◌, List, Some, true}
use Rattle.std.specs.Prelude.{IsTrue}
use Rattle.graph_words.specs.declared.types.Edge.{Edge}
use Rattle.disk_model.specs.Crash.{LeavesOnly, From}
use Rattle.disk_model.specs.OneFile.{OnlyFile}
use Rattle.import_text.proofs.CopyLemmas.{IsCopying}
use Rattle.graph_words.specs.declared.limits.TheConstants.{LONGEST_EDGES}
use Rattle.import_text.proofs.copy.copy_pieces.Given as goal

abbrev pub invariant-loop-n : goal.invariant-loop-n
invariant-loop-n g l =
    record {
      is_open : l.tally.reader.is_open ≡ true;
      place : l.tally.reader.place ≡ l.place;
      short : l.place ≤ LONGEST_EDGES + 4097;
      kept : g.I.Inputs.told l.inputs ≡ g.I.Inputs.told l.initial.inputs;
      count : (k : List ℕ) → g.I.Inputs.faults l.initial.inputs k ≤ g.I.Inputs.faults l.inputs k;
      later : g.D.Disk.faults l.initial.disk ≤ g.D.Disk.faults l.disk;
      run : LeavesOnly g.D.Disk.moment g.D.Disk.left_since l.initial.disk l.disk (From (g.D.Disk.may_leave l.initial.disk) (OnlyFile l.file));
      copying : (text : List ℕ) × (front : List Edge) × IsCopying (λ f. g.I.Inputs.told l.initial.inputs l.name ≡ Some f) (IsTrue g.D.Disk.tells) l.file l.fn.tally l.tally (g.D.Disk.seen l.initial.disk) (g.D.Disk.seen l.disk) text front;
    }

abbrev pub decreases-loop-n : goal.decreases-loop-n
decreases-loop-n g l = 2 ^ 41 - l.place
