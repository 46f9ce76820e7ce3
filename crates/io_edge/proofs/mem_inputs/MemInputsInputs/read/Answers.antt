use Rattle.io_edge.proofs.mem_inputs.MemInputsInputs.read.Goals as goal

pub returns-then-is_err-clause-failed : goal.returns-then-is_err-clause-failed
returns-then-is_err-clause-failed c = rw (← c.self.view_is, ← c.deref.ensures.value, ← c.deref-2.ensures.value) c.read_call-outcome.ensures.failed
