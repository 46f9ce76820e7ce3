use Rattle.std.proofs.Common.{◌≡◌, ℕ, List, Option, sym, subst, arith}
use Rattle.std.specs.Prelude.{Result, option_map}
use Rattle.faults.specs.Counts.{Rose}
use Rattle.disk_model.specs.Disk.{Contents}
use Rattle.store_law.specs.Listed.{AreExact}
use Rattle.store.specs.Import.{texts_of}
use Rattle.graspan_top.specs.declared.status.Status.TheVariants.{Done}
use Rattle.graspan_top.specs.Given.{Given}
use Rattle.graspan_top.specs.Printed.{Begins, IsNothingOr, PrintsFirst, status_of}
use Rattle.graspan_top.specs.Refusals.{Explained, rises_in, rises_of}
use Rattle.graspan_top.specs.Run.{IsRunBegun, IsRunText, closed_stages, run_stages}
use Rattle.graspan_top.proofs.LookLemmas.{status_at}
use Rattle.graspan_top.proofs.ExplainLemmas.{closed_refused, rose_later, show_explained}
use Rattle.graspan_top.proofs.StageLemmas.{Grow, refused_not_done}
use Rattle.graspan_top.proofs.PrintLemmas.{nothing_first}
use Rattle.graspan_top.proofs.ReadyLemmas.{exact_end}
use Rattle.graspan_top.proofs.TextLemmas.{nothing_begun}
use Rattle.graspan_top.proofs.StopLemmas.{show_refuses_none, spares_accepted, work_looking}
use Rattle.graspan_top.specs.Stops.{Spares}
use Rattle.graspan_top.specs.declared.status.Status.{Status}
use Rattle.open_store.specs.Store.{OpenStore}
use Rattle.graspan_top.proofs.run.run.Goals as goal

pub returns-in_err-store-clause-explained : goal.returns-in_err-store-clause-explained
returns-in_err-store-clause-explained g c =
    let D = g.D.Disk in
    let I = g.I.Inputs in
    let x : Given = record { told = I.told c.args.inputs.now; tells = D.tells; before = D.seen c.args.disk.now } in
    let edges : List ℕ = c.args.files.now.edges.now in
    let grammar : List ℕ = c.args.files.now.grammar.now in
    let show : Option (List ℕ) = option_map (λ l. l.now) c.args.show in
    let now = c.closed_store.new in
    let part = rises_in I D c.args.inputs.now now.inputs c.args.disk.now now.disk in
    let whole = rises_of I D g.O.Sink c.args.inputs.now now.inputs c.args.disk.now now.disk c.args.out.now c.args.out.now in
    let grow : Grow part whole = record { reads = λ name h. h; disk = λ h. h; writes = λ h. absurd h } in
    status_at (λ s. Explained (run_stages x edges grammar show (D.seen now.disk) whole) s) c.from_residual.result c.in_err-store.field-0.0 c.from_residual.ensures.1
    (closed_refused x edges grammar show (D.seen now.disk) part whole grow c.in_err-store.field-0.0 c.in_err-store.ensures.refused)

pub returns-in_err-store-clause-printed : goal.returns-in_err-store-clause-printed
returns-in_err-store-clause-printed g c =
    let D = g.D.Disk in
    let show : Option (List ℕ) = option_map (λ l. l.now) c.args.show in
    let x : Given = record { told = g.I.Inputs.told c.args.inputs.now; tells = D.tells; before = D.seen c.args.disk.now } in
    let now = c.closed_store.new in
    let stages = closed_stages x c.args.files.now.edges.now c.args.files.now.grammar.now (D.seen now.disk) (rises_in g.I.Inputs D c.args.inputs.now now.inputs c.args.disk.now now.disk) in
    status_at (λ s. PrintsFirst D.tells (IsRunText (D.seen c.closed_store.new.disk) show) (g.O.Sink.told c.args.out.now) (g.O.Sink.told c.args.out.now) s) c.from_residual.result c.in_err-store.field-0.0 c.from_residual.ensures.1
    (nothing_first D.tells (IsRunText (D.seen c.closed_store.new.disk) show) (g.O.Sink.told c.args.out.now) c.in_err-store.field-0.0 (refused_not_done stages c.in_err-store.field-0.0 c.in_err-store.ensures.refused))

pub returns-clause-explained : goal.returns-clause-explained
returns-clause-explained g c =
    let D = g.D.Disk in
    let I = g.I.Inputs in
    let O = g.O.Sink in
    let x : Given = record { told = I.told c.args.inputs.now; tells = D.tells; before = D.seen c.args.disk.now } in
    let edges : List ℕ = c.args.files.now.edges.now in
    let grammar : List ℕ = c.args.files.now.grammar.now in
    let show : Option (List ℕ) = option_map (λ l. l.now) c.args.show in
    let mid = c.closed_store.new.disk in
    let last = c.show_run.new.disk in
    let rose = rises_of I D O c.args.inputs.now c.closed_store.new.inputs c.args.disk.now last c.args.out.now c.show_run.new.out in
    let ready = c.in_ok-store.ensures.ready in
    subst (λ (k : Contents). Explained (run_stages x edges grammar show k rose) (status_of c.show_run.result)) (sym c.show_run.ensures.looks.same_seen)
    (show_explained x edges grammar ready.accepts (D.seen mid) c.in_ok-store.store ready.opened c.in_ok-store.ensures.done rose show
    (Rose (D.faults mid) (D.faults last)) (Rose (O.faults c.args.out.now) (O.faults c.show_run.new.out))
    (rose_later (D.faults c.args.disk.now) (D.faults mid) (D.faults last) (D.faults last) c.closed_store.ensures.later (omega arith)) (λ h. h)
    (status_of c.show_run.result) c.show_run.ensures.explained)

pub returns-clause-exact : goal.returns-clause-exact
returns-clause-exact g c =
    let D = g.D.Disk in
    let x : Given = record { told = g.I.Inputs.told c.args.inputs.now; tells = D.tells; before = D.seen c.args.disk.now } in
    let edges : List ℕ = c.args.files.now.edges.now in
    let grammar : List ℕ = c.args.files.now.grammar.now in
    let mid = c.closed_store.new.disk in
    let looks = c.show_run.ensures.looks in
    λ tells gt et tg te left done.
    let both = exact_end x edges grammar (D.seen mid) (D.may_leave mid) c.in_ok-store.store c.in_ok-store.ensures.ready c.in_ok-store.ensures.done tells gt et tg te left in (
      subst (λ (k : Contents). AreExact (texts_of gt et) k) (sym looks.same_seen) both.0,
      λ image now. both.1 image (looks.no_more image now),
    )

pub returns-in_err-store-clause-exact : goal.returns-in_err-store-clause-exact
returns-in_err-store-clause-exact g c =
    let D = g.D.Disk in
    let x : Given = record { told = g.I.Inputs.told c.args.inputs.now; tells = D.tells; before = D.seen c.args.disk.now } in
    let now = c.closed_store.new in
    let stages = closed_stages x c.args.files.now.edges.now c.args.files.now.grammar.now (D.seen now.disk) (rises_in g.I.Inputs D c.args.inputs.now now.inputs c.args.disk.now now.disk) in
    λ tells gt et tg te left done.
    absurd (status_at (λ s. s ≡ Done → ⊥) c.from_residual.result c.in_err-store.field-0.0 c.from_residual.ensures.1 (refused_not_done stages c.in_err-store.field-0.0 c.in_err-store.ensures.refused) done)

pub returns-in_err-store-clause-begun : goal.returns-in_err-store-clause-begun
returns-in_err-store-clause-begun g c =
    let D = g.D.Disk in
    nothing_begun D.tells (IsRunBegun (D.seen c.closed_store.new.disk) (option_map (λ l. l.now) c.args.show)) (g.O.Sink.told c.args.out.now) (status_of c.from_residual.result)

pub returns-clause-begun : goal.returns-clause-begun
returns-clause-begun g c =
    let D = g.D.Disk in
    let O = g.O.Sink in
    let show : Option (List ℕ) = option_map (λ l. l.now) c.args.show in
    subst (λ (k : Contents). Begins D.tells (IsNothingOr (IsRunBegun k show)) (O.told c.args.out.now) (O.told c.show_run.new.out) (status_of c.show_run.result)) (sym c.show_run.ensures.looks.same_seen) c.show_run.ensures.begun

pub returns-clause-stops : goal.returns-clause-stops
returns-clause-stops g c =
    let L = g.met.D.Disk in
    work_looking g.D.Disk L.counts_now L.only_now L.honest L.told (g.I.Inputs.told c.args.inputs.now) c.args.files.now.edges.now c.args.files.now.grammar.now c.args.disk.now c.closed_store.new.disk c.show_run.new.disk c.closed_store.ensures.stops c.show_run.ensures.looks

pub returns-in_err-store-clause-spares : goal.returns-in_err-store-clause-spares
returns-in_err-store-clause-spares g c =
    let D = g.D.Disk in
    let x : Given = record { told = g.I.Inputs.told c.args.inputs.now; tells = D.tells; before = D.seen c.args.disk.now } in
    let now = c.closed_store.new.disk in
    status_at (λ s. Spares D x c.args.files.now.edges.now c.args.files.now.grammar.now s c.args.disk.now now) c.from_residual.result c.in_err-store.field-0.0 c.from_residual.ensures.1
    (subst (λ (r : Result OpenStore Status). Spares D x c.args.files.now.edges.now c.args.files.now.grammar.now (status_of r) c.args.disk.now now) c.in_err-store.was c.closed_store.ensures.spares)

pub returns-clause-spares : goal.returns-clause-spares
returns-clause-spares g c =
    let D = g.D.Disk in
    let x : Given = record { told = g.I.Inputs.told c.args.inputs.now; tells = D.tells; before = D.seen c.args.disk.now } in
    let show : Option (List ℕ) = option_map (λ l. l.now) c.args.show in
    let mid = c.closed_store.new.disk in
    spares_accepted D x c.args.files.now.edges.now c.args.files.now.grammar.now (status_of c.show_run.result) c.args.disk.now c.show_run.new.disk c.in_ok-store.ensures.ready.accepts
    (show_refuses_none c.in_ok-store.store D.tells (D.seen mid) show (Rose (D.faults mid) (D.faults c.show_run.new.disk)) (Rose (g.O.Sink.faults c.args.out.now) (g.O.Sink.faults c.show_run.new.out)) (status_of c.show_run.result) c.show_run.ensures.explained)
