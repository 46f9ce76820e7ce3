use Rattle.std.proofs.Common.{◌≡◌, ◌≤◌, take}
use Rattle.text_page.specs.Gathered.{HasGathered}
use Rattle.query_text.specs.Text.{part_lines}
use Rattle.query_text.proofs.Summing.{end_of}
use Rattle.query_text.proofs.head_lines.put_parts.Given as goal

abbrev pub invariant-loop-i : goal.invariant-loop-i
invariant-loop-i g l =
    record {
      gathered : HasGathered (g.O.Sink.told l.initial.sink) l.initial.page (g.O.Sink.told l.sink) l.page (part_lines l.m 0 0 (take l.i l.m.parts));
      lo : l.lo ≡ end_of l.m.parts l.i;
      count : g.O.Sink.faults l.initial.sink ≤ g.O.Sink.faults l.sink;
    }
