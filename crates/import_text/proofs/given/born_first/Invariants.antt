use Rattle.std.proofs.Common.{◌≡◌, take}
use Rattle.closing_machine.specs.Rounds.{all_born}
use Rattle.import_text.proofs.given.born_first.Given as goal

abbrev pub invariant-loop-edge : goal.invariant-loop-edge
invariant-loop-edge l = l.born.items ≡ all_born (take l.edge-index l.edges) 0
