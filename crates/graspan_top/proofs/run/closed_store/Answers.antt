use Rattle.std.proofs.Common.{ℕ, List, arith}
use Rattle.faults.specs.Counts.{Rose}
use Rattle.store_fault.specs.Faults.{why_of}
use Rattle.graspan_top.specs.Faults.{of_store}
use Rattle.graspan_top.specs.Given.{Given}
use Rattle.graspan_top.specs.Refusals.{rises_in}
use Rattle.graspan_top.specs.Run.{closed_stages}
use Rattle.graspan_top.proofs.StageLemmas.{store_refuses}
use Rattle.graspan_top.proofs.ExplainLemmas.{close_refused, if_err, ready_refused, rose_later}
use Rattle.graspan_top.proofs.ReadyLemmas.{closed_ready}
use Rattle.graspan_top.proofs.StopLemmas.{disk_refuses_none, spares_accepted, work_closing}
use Rattle.graspan_top.proofs.LookLemmas.{status_at}
use Rattle.graspan_top.specs.Stops.{Spares}
use Rattle.graspan_top.specs.declared.status.Status.TheVariants.{Done}
use Rattle.graspan_top.proofs.run.closed_store.Goals as goal

pub returns-in_err-store-clause-refused : goal.returns-in_err-store-clause-refused
returns-in_err-store-clause-refused g c =
    let D = g.D.Disk in
    let x : Given = record { told = g.I.Inputs.told c.args.inputs.now; tells = D.tells; before = D.seen c.args.disk.now } in
    let rose = rises_in g.I.Inputs D c.args.inputs.now c.ready_store.new.inputs c.args.disk.now c.ready_store.new.disk in
    if_err c.from_residual.result c.in_err-store.field-0.0 _ c.from_residual.ensures.1
    (ready_refused x c.args.files.now.edges.now c.args.files.now.grammar.now (D.seen c.ready_store.new.disk) rose c.in_err-store.field-0.0 c.in_err-store.ensures.refused)

pub returns-in_err-run_to_end-clause-refused : goal.returns-in_err-run_to_end-clause-refused
returns-in_err-run_to_end-clause-refused g c =
    let D = g.D.Disk in
    let x : Given = record { told = g.I.Inputs.told c.args.inputs.now; tells = D.tells; before = D.seen c.args.disk.now } in
    let edges : List ℕ = c.args.files.now.edges.now in
    let grammar : List ℕ = c.args.files.now.grammar.now in
    let mid = c.ready_store.new.disk in
    let last = c.run_to_end.new.disk in
    let rose = rises_in g.I.Inputs D c.args.inputs.now c.ready_store.new.inputs c.args.disk.now last in
    let ready = c.in_ok-store.ensures.ready in
    let f = c.in_err-run_to_end.field-0.0 in
    if_err c.from_residual-in_err-run_to_end.result (of_store f) _ c.from_residual-in_err-run_to_end.ensures.1
    (store_refuses (closed_stages x edges grammar (D.seen last) rose) f
    (close_refused x edges grammar ready.accepts (D.seen last) (D.seen mid) c.in_ok-store.store c.in_ok-store.ensures.begins ready.opened rose (Rose (D.faults mid) (D.faults last))
    (rose_later (D.faults c.args.disk.now) (D.faults mid) (D.faults last) (D.faults last) c.ready_store.ensures.later (omega arith))
    (why_of f) c.in_err-run_to_end.ensures.cause))

pub returns-clause-ready : goal.returns-clause-ready
returns-clause-ready g c =
    let D = g.D.Disk in
    let x : Given = record { told = g.I.Inputs.told c.args.inputs.now; tells = D.tells; before = D.seen c.args.disk.now } in
    closed_ready x c.args.files.now.edges.now c.args.files.now.grammar.now (D.seen c.ready_store.new.disk) (D.may_leave c.ready_store.new.disk) c.in_ok-store.store c.in_ok-store.ensures.ready
    (D.seen c.run_to_end.new.disk) (D.may_leave c.run_to_end.new.disk) c.in_ok-run_to_end.field-0 (g.met.D.Disk.honest c.run_to_end.new.disk) c.in_ok-run_to_end.ensures.closed

pub returns-in_err-run_to_end-clause-stops : goal.returns-in_err-run_to_end-clause-stops
returns-in_err-run_to_end-clause-stops g c =
    let D = g.D.Disk in
    let L = g.met.D.Disk in
    work_closing D L.counts_now L.only_now L.honest L.told (g.I.Inputs.told c.args.inputs.now) c.args.files.now.edges.now c.args.files.now.grammar.now c.args.disk.now c.ready_store.new.disk c.run_to_end.new.disk c.in_ok-store.store c.ready_store.ensures.stops c.in_ok-store.ensures.ready.held
    c.run_to_end.ensures.any_moment c.run_to_end.ensures.stores

pub returns-clause-stops : goal.returns-clause-stops
returns-clause-stops g c =
    let D = g.D.Disk in
    let L = g.met.D.Disk in
    work_closing D L.counts_now L.only_now L.honest L.told (g.I.Inputs.told c.args.inputs.now) c.args.files.now.edges.now c.args.files.now.grammar.now c.args.disk.now c.ready_store.new.disk c.run_to_end.new.disk c.in_ok-store.store c.ready_store.ensures.stops c.in_ok-store.ensures.ready.held
    c.run_to_end.ensures.any_moment c.run_to_end.ensures.stores

pub returns-in_err-store-clause-spares : goal.returns-in_err-store-clause-spares
returns-in_err-store-clause-spares g c = record { refused = λ some why. c.ready_store.ensures.spares some; faulty = c.ready_store.ensures.faulty }

pub returns-in_err-run_to_end-clause-spares : goal.returns-in_err-run_to_end-clause-spares
returns-in_err-run_to_end-clause-spares g c =
    let D = g.D.Disk in
    let x : Given = record { told = g.I.Inputs.told c.args.inputs.now; tells = D.tells; before = D.seen c.args.disk.now } in
    let edges : List ℕ = c.args.files.now.edges.now in
    let grammar : List ℕ = c.args.files.now.grammar.now in
    let f = c.in_err-run_to_end.field-0.0 in
    status_at (λ s. Spares D x edges grammar s c.args.disk.now c.run_to_end.new.disk) c.from_residual-in_err-run_to_end.result (of_store f) c.from_residual-in_err-run_to_end.ensures.1
    (spares_accepted D x edges grammar (of_store f) c.args.disk.now c.run_to_end.new.disk c.in_ok-store.ensures.ready.accepts (disk_refuses_none _ _ f c.in_err-run_to_end.ensures.cause))

pub returns-clause-spares : goal.returns-clause-spares
returns-clause-spares g c =
    let D = g.D.Disk in
    let x : Given = record { told = g.I.Inputs.told c.args.inputs.now; tells = D.tells; before = D.seen c.args.disk.now } in
    spares_accepted D x c.args.files.now.edges.now c.args.files.now.grammar.now Done c.args.disk.now c.run_to_end.new.disk c.in_ok-store.ensures.ready.accepts (λ refuses. refuses)
