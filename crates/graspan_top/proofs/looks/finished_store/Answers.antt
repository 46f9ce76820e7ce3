use Rattle.faults.specs.Counts.{Rose}
use Rattle.graspan_top.proofs.ExplainLemmas.{if_err}
use Rattle.graspan_top.proofs.LookLemmas.{not_finished, unfinished_found}
use Rattle.graspan_top.proofs.looks.finished_store.Goals as goal

pub returns-in_err-store-clause-refused : goal.returns-in_err-store-clause-refused
returns-in_err-store-clause-refused g c =
    let D = g.D.Disk in
    if_err c.from_residual.result c.in_err-store.field-0.0 _ c.from_residual.ensures.1
    (not_finished D.tells (D.seen c.args.disk.now) (Rose (D.faults c.args.disk.now) (D.faults c.found.new.disk)) c.in_err-store.field-0.0 c.in_err-store.ensures.refused)

pub returns-in_err-finished-clause-refused : goal.returns-in_err-finished-clause-refused
returns-in_err-finished-clause-refused g c =
    let D = g.D.Disk in
    if_err c.from_residual-in_err-finished.result c.in_err-finished.field-0.0 _ c.from_residual-in_err-finished.ensures.1
    (unfinished_found D.tells (D.seen c.args.disk.now) c.in_ok-store.store c.in_ok-store.ensures.held (Rose (D.faults c.args.disk.now) (D.faults c.found.new.disk)) c.manifest.result.now c.in_err-finished.field-0.0 c.manifest.ensures.manifest c.in_err-finished.ensures.undone)
