use Rattle.std.proofs.Common.{◌≤◌, List, length, take}
use Rattle.graph_words.specs.declared.types.Born.{Born}
use Rattle.query_text.specs.Text.{tally_text}
use Rattle.text_page.specs.Gathered.{HasGathered}
use Rattle.query_text.specs.Shown.{AreTallied}
use Rattle.query_text.proofs.label_counts.put_lines.Given as goal

abbrev pub invariant-loop-l : goal.invariant-loop-l
invariant-loop-l g l =
    record {
      gathered : (edges : List Born) → AreTallied (length l.names) edges l.counts → HasGathered (g.O.Sink.told l.initial.sink) l.initial.page (g.O.Sink.told l.sink) l.page (tally_text (take l.l l.names) edges);
      count : g.O.Sink.faults l.initial.sink ≤ g.O.Sink.faults l.sink;
    }
