use Rattle.std.proofs.Common.{◌≡◌, ◌≤◌, length, take}
use Rattle.text_page.specs.Gathered.{HasGathered}
use Rattle.query_text.specs.Shown.{shown_in, shown_text}
use Rattle.query_text.proofs.show.Show.put_edges.Given as goal

abbrev pub invariant-loop-born : goal.invariant-loop-born
invariant-loop-born g l =
    record {
      gathered : HasGathered (g.O.Sink.told l.initial.sink) l.initial.page (g.O.Sink.told l.sink) l.page (shown_text l.self l.table (take l.born-index l.edges));
      number : l.shown ≡ length (shown_in l.self l.table (take l.born-index l.edges));
      count : g.O.Sink.faults l.initial.sink ≤ g.O.Sink.faults l.sink;
    }
