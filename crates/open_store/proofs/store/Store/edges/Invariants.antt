use Rattle.std.proofs.Common.{◌≡◌, ◌-◌, ℕ, List, []}
use Rattle.std.specs.Prelude.{◌++◌}
use Rattle.store_law.specs.Listed.{part_file}
use Rattle.disk_model.specs.View.{OnlyLooks}
use Rattle.open_store.specs.Store.{expect_in}
use Rattle.open_store.specs.Stream.{IsAt, IsStream}
use Rattle.open_store.proofs.store.Store.edges.Given as goal

abbrev pub invariant-loop-edges : goal.invariant-loop-edges
invariant-loop-edges g l =
    let D = g.D.Disk in
    let file = D.seen l.fn.disk (part_file l.self.manifest l.i) in
    record {
      stream : IsStream l.stream;
      number : l.stream.file ≡ part_file l.self.manifest l.i;
      at : (bytes : List ℕ) × IsAt (expect_in l.self l.i) D.tells file bytes l.edges.items l.stream;
      looks : OnlyLooks D l.fn.disk l.disk;
    }

abbrev pub decreases-loop-edges : goal.decreases-loop-edges
decreases-loop-edges g l = l.stream.len - l.stream.place
