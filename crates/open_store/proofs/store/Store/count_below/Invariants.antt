use Rattle.std.proofs.Common.{◌≡◌, ◌-◌, ℕ, List, []}
use Rattle.std.specs.Prelude.{◌++◌}
use Rattle.graph_words.specs.declared.types.Born.{Born}
use Rattle.store_law.specs.Listed.{part_file}
use Rattle.disk_model.specs.View.{OnlyLooks}
use Rattle.open_store.specs.PartRead.{count_below_of}
use Rattle.open_store.specs.Store.{expect_in}
use Rattle.open_store.specs.Stream.{IsAt, IsStream, IsTally}
use Rattle.open_store.proofs.store.Store.count_below.Given as goal

abbrev pub invariant-loop-tally : goal.invariant-loop-tally
invariant-loop-tally g l =
    let D = g.D.Disk in
    let file = D.seen l.fn.disk (part_file l.self.manifest l.j) in
    record {
      stream : IsStream l.stream;
      number : l.stream.file ≡ part_file l.self.manifest l.j;
      none : l.edges.items ≡ [];
      at : (bytes : List ℕ) × (given : List Born) × IsAt (expect_in l.self l.j) D.tells file bytes given l.stream × IsTally l.self.ends given l.tally.row.items l.tally.newest × (l.below ≡ count_below_of l.self.ends l.i l.at given);
      looks : OnlyLooks D l.fn.disk l.disk;
    }

abbrev pub decreases-loop-tally : goal.decreases-loop-tally
decreases-loop-tally g l = l.stream.len - l.stream.place
