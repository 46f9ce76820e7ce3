use Rattle.std.proofs.Common.{[], ◌∷◌}
use Rattle.io_edge.proofs.DeviceLemmas.{takes_more, HasCause-then}
use Rattle.io_edge.proofs.print.write_line.Goals as goal

pub returns-clause-taken : goal.returns-clause-taken
returns-clause-taken g c =
    let told = g.S.Sink.told in
    takes_more (told c.args.sink.now) (told c.write.new.self) (told c.write-2.new.self) c.write-2.result c.args.line.now (10 ∷ []) c.in_ok-write.ensures.taken c.write-2.ensures.taken

pub returns-clause-cause : goal.returns-clause-cause
returns-clause-cause g c =
    let faults = g.S.Sink.faults in
    HasCause-then (faults c.args.sink.now) (faults c.write.new.self) (faults c.write-2.new.self) c.write.result c.write-2.result c.write.ensures.cause c.write-2.ensures.cause
