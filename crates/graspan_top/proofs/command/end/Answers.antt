use Rattle.std.proofs.Common.{refl}
use Rattle.faults.specs.Counts.{Rose}
use Rattle.graspan_top.proofs.PrintLemmas.{loud_ends}
use Rattle.graspan_top.proofs.command.end.Goals as goal

pub returns-clause-ends : goal.returns-clause-ends
returns-clause-ends g c =
    let O = g.O.Sink in
    let told = c.if-is_silent.ensures.told refl in
    loud_ends (O.told c.args.out.now) (O.told c.print_fault.new.out) (Rose (O.faults c.args.out.now) (O.faults c.print_fault.new.out)) c.status_of-status.result told.0 told.1 c.print_fault.ensures.line
