use Rattle.std.proofs.Common.{◌≡◌, ℕ, ◌+◌, ◌-◌, ◌^◌, ◌≤◌, List, true, length}
use Rattle.std.specs.Prelude.{IsTrue}
use Rattle.graph_words.specs.declared.types.Edge.{Edge}
use Rattle.normal_law.specs.NormalForm.{normal_form}
use Rattle.disk_model.specs.View.{OnlyLooks}
use Rattle.import_text.proofs.ReadLemmas.{IsGathering}
use Rattle.graph_words.specs.declared.limits.TheConstants.{LONGEST_EDGES}
use Rattle.import_text.proofs.given_part.gather_pieces.Given as goal

abbrev pub invariant-loop-n : goal.invariant-loop-n
invariant-loop-n g l =
    record {
      is_open : l.gathering.reader.is_open ≡ true;
      place : l.gathering.reader.place ≡ l.place;
      short : l.place ≤ LONGEST_EDGES + 4097;
      names : length l.gathering.reader.table ≤ 1000;
      looks : OnlyLooks g.D.Disk l.initial.disk l.disk;
      gathering : (text : List ℕ) × (found : List Edge) × IsGathering (normal_form l.normal) (λ f. IsTrue g.D.Disk.tells × (f ≡ g.D.Disk.seen l.initial.disk l.file)) l.fn.gathering l.gathering text found;
    }

abbrev pub decreases-loop-n : goal.decreases-loop-n
decreases-loop-n g l = 2 ^ 41 - l.place
