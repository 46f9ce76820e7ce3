use Rattle.std.proofs.Common.{◌-◌, ◌≤◌, List}
use Rattle.std.specs.Prelude.{Ok}
use Rattle.graph_words.specs.declared.types.Born.{Born}
use Rattle.disk_model.specs.View.{OnlyLooks}
use Rattle.query_text.specs.Shown.{IsGathered}
use Rattle.query_text.proofs.walk.Walk.show_each.Given as goal

abbrev pub invariant-loop-i : goal.invariant-loop-i
invariant-loop-i g l =
    let D = g.D.Disk in
    let O = g.O.Sink in
    record {
      gathered : (read : List (List Born)) × IsGathered l.self.store.now D.tells (D.seen l.initial.disk) l.self.first (l.i - l.self.first) l.self.show (O.told l.initial.sink) l.initial.page (O.told l.sink) l.page (Ok l.shown) read;
      from : l.self.first ≤ l.i;
      within : l.i ≤ l.self.end;
      looks : OnlyLooks D l.initial.disk l.disk;
      writes : O.faults l.initial.sink ≤ O.faults l.sink;
    }
