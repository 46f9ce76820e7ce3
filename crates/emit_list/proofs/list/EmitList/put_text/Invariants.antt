use Rattle.std.proofs.Common.{◌≡◌, ◌+◌, ◌<◌, ◌≤◌, length, ℕ, Some}
use Rattle.std.specs.Option.{option_map_or}
use Rattle.text_page.proofs.Gathering.{GathersOn}
use Rattle.emit_list.specs.Printed.{text_of}
use Rattle.emit_list.proofs.TextLemmas.{text_from}
use Rattle.emit_list.proofs.list.EmitList.put_text.Given as goal

abbrev pub invariant-loop-next : goal.invariant-loop-next
invariant-loop-next g l = record {
  inside : (k : ℕ) → l.next ≡ Some k → k < length l.self.vertices;
  on : GathersOn (g.O.Sink.told l.initial.sink) l.initial.page (g.O.Sink.told l.sink) l.page (text_of l.self.vertices l.k) (text_from l.self.vertices l.next);
  count : g.O.Sink.faults l.initial.sink ≤ g.O.Sink.faults l.sink;
}

abbrev pub decreases-loop-next : goal.decreases-loop-next
decreases-loop-next g l = option_map_or (λ k. k + 1) l.next 0
