use Rattle.manifest_switch.specs.Slots.{with_closed_gate}
use Rattle.manifest_switch.proofs.SlotLemmas.{current-here, closed-shut, closed_gate}
use Rattle.manifest_switch.proofs.law.current_is_held.Goals as goal

pub returns-clause-here : goal.returns-clause-here
returns-clause-here c = λ s m d. current-here s d m

pub returns-clause-shut : goal.returns-clause-shut
returns-clause-shut c = λ file. closed-shut (with_closed_gate file) (closed_gate file)
