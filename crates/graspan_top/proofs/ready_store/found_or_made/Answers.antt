use Rattle.std.proofs.Common.{refl, sym, ap, subst, ◌∙◌, arith, inl}
use Rattle.std.specs.Prelude.{IsTrue}
use Rattle.faults.specs.Counts.{Rose}
use Rattle.disk_model.specs.Disk.{Contents}
use Rattle.store_fault.specs.Faults.{why_of}
use Rattle.store.specs.Import.{import_causes}
use Rattle.open_store.specs.Opened.{IsOpened, IsOpenedAlone}
use Rattle.graspan_top.specs.Given.{Given}
use Rattle.graspan_top.specs.Refusals.{rises_in}
use Rattle.graspan_top.proofs.ExplainLemmas.{by_reason, compare_refused, if_err, import_refused, open_refused, rose_later}
use Rattle.manifest_switch.specs.Steps.{Stays}
use Rattle.graspan_top.proofs.MadeLemmas.{begun_new}
use Rattle.graspan_top.proofs.ReadyLemmas.{found_ready, import_ready_ok}
use Rattle.graspan_top.proofs.StopLemmas.{spared_importing, spared_looking, work_importing, work_looking, work_with}
use Rattle.graspan_top.proofs.ready_store.found_or_made.Goals as goal

pub returns-in_err-open-clause-refused : goal.returns-in_err-open-clause-refused
returns-in_err-open-clause-refused g c =
    let D = g.D.Disk in
    let x : Given = record { told = g.I.Inputs.told c.args.inputs.now; tells = D.tells; before = D.seen c.args.disk.now } in
    if_err c.from_residual.result c.in_err-open.field-0.0 _ c.from_residual.ensures.1
    (open_refused x c.args.files.now.edges.now c.args.files.now.grammar.now c.args.grammar.now c.requires (rises_in g.I.Inputs D c.args.inputs.now c.args.inputs.now c.args.disk.now c.open.new.disk) (why_of c.in_err-open.field-0.0) c.in_err-open.ensures.cause)

pub returns-in_err-compare-in-Found-clause-refused : goal.returns-in_err-compare-in-Found-clause-refused
returns-in_err-compare-in-Found-clause-refused g c =
    let D = g.D.Disk in
    let x : Given = record { told = g.I.Inputs.told c.args.inputs.now; tells = D.tells; before = D.seen c.args.disk.now } in
    if_err c.from_residual-in_err-compare-in-Found.result c.in_err-compare-in-Found.field-0.0 _ c.from_residual-in_err-compare-in-Found.ensures.1
    (compare_refused x c.args.files.now.edges.now c.args.files.now.grammar.now c.args.grammar.now c.requires (D.seen c.open.new.disk) c.in-Found.store
    (λ tells. subst (IsOpened (D.seen c.open.new.disk)) c.in-Found.is (c.in_ok-open.ensures.opened tells)) c.in_ok-open.ensures.stays
    (rises_in g.I.Inputs D c.args.inputs.now c.compare.new.inputs c.args.disk.now c.compare.new.disk) (Rose (D.faults c.open.new.disk) (D.faults c.compare.new.disk))
    (rose_later (D.faults c.args.disk.now) (D.faults c.open.new.disk) (D.faults c.compare.new.disk) (D.faults c.compare.new.disk) c.open.ensures.later (omega arith))
    (why_of c.in_err-compare-in-Found.field-0.0) c.in_err-compare-in-Found.ensures.refused)

pub returns-in-Blank-clause-refused : goal.returns-in-Blank-clause-refused
returns-in-Blank-clause-refused g c =
    let D = g.D.Disk in
    let I = g.I.Inputs in
    let x : Given = record { told = I.told c.args.inputs.now; tells = D.tells; before = D.seen c.args.disk.now } in
    let blank = λ (tells : IsTrue D.tells). sym (c.in_ok-open.ensures.stays tells).same ∙ subst (IsOpened (D.seen c.open.new.disk)) c.in-Blank.is (c.in_ok-open.ensures.opened tells) in
    let rose = rises_in I D c.args.inputs.now c.import.new.inputs c.args.disk.now c.import.new.disk in
    let dr : Type 0 = Rose (D.faults c.open.new.disk) (D.faults c.import.new.disk) in
    by_reason why_of (import_causes c.args.grammar.now (x.told c.args.files.now.edges.now) (IsTrue D.tells) (rose.reads c.args.files.now.edges.now) dr) c.import.result _
    (λ e h.
    import_refused x c.args.files.now.edges.now c.args.files.now.grammar.now c.args.grammar.now c.requires blank rose dr
    (rose_later (D.faults c.args.disk.now) (D.faults c.open.new.disk) (D.faults c.import.new.disk) (D.faults c.import.new.disk) c.open.ensures.later (omega arith)) (why_of e) h)
    c.import.ensures.cause

pub returns-in-Blank-clause-ready : goal.returns-in-Blank-clause-ready
returns-in-Blank-clause-ready g c =
    let D = g.D.Disk in
    let x : Given = record { told = g.I.Inputs.told c.args.inputs.now; tells = D.tells; before = D.seen c.args.disk.now } in
    import_ready_ok x c.args.files.now.edges.now c.args.files.now.grammar.now c.args.grammar.now c.requires (D.seen c.import.new.disk) (D.may_leave c.import.new.disk) (g.met.D.Disk.honest c.import.new.disk) c.args.limit c.import.result
    (λ tells. sym (c.in_ok-open.ensures.stays tells).same ∙ subst (IsOpened (D.seen c.open.new.disk)) c.in-Blank.is (c.in_ok-open.ensures.opened tells))
    c.import.ensures.store c.import.ensures.held c.import.ensures.synced c.import.ensures.imported

pub returns-in_ok-compare-in-Found-clause-ready : goal.returns-in_ok-compare-in-Found-clause-ready
returns-in_ok-compare-in-Found-clause-ready g c =
    let D = g.D.Disk in
    let looks = c.compare.ensures.looks in
    let x : Given = record { told = g.I.Inputs.told c.args.inputs.now; tells = D.tells; before = D.seen c.args.disk.now } in
    found_ready x c.args.files.now.edges.now c.args.files.now.grammar.now c.args.grammar.now c.requires (D.seen c.compare.new.disk) (D.may_leave c.compare.new.disk) (g.met.D.Disk.honest c.compare.new.disk) c.in-Found.store (D.seen c.open.new.disk) c.in_ok-open.ensures.stays
    (λ tells. subst (IsOpened (D.seen c.open.new.disk)) c.in-Found.is (c.in_ok-open.ensures.opened tells))
    (λ tells. looks.same_seen)
    (λ image now. subst (IsOpenedAlone image) c.in-Found.is (c.in_ok-open.ensures.alone refl image (looks.no_more image now)))
    (λ image now f. c.in_ok-open.ensures.synced refl image (looks.no_more image now) f ∙ sym (ap (λ (k : Contents). k f) looks.same_seen))
    c.in_ok-compare-in-Found.ensures.same_grammar c.in_ok-compare-in-Found.ensures.same_edges

pub returns-in_err-open-clause-stops : goal.returns-in_err-open-clause-stops
returns-in_err-open-clause-stops g c =
    let D = g.D.Disk in
    let L = g.met.D.Disk in
    work_with D L.counts_now L.only_now L.honest L.told (g.I.Inputs.told c.args.inputs.now) c.args.files.now.edges.now c.args.files.now.grammar.now c.args.disk.now c.open.new.disk c.open.ensures.stores

pub returns-in_err-compare-in-Found-clause-stops : goal.returns-in_err-compare-in-Found-clause-stops
returns-in_err-compare-in-Found-clause-stops g c =
    let D = g.D.Disk in
    let L = g.met.D.Disk in
    let told = g.I.Inputs.told c.args.inputs.now in
    let edges = c.args.files.now.edges.now in
    let grammar = c.args.files.now.grammar.now in
    work_looking D L.counts_now L.only_now L.honest L.told told edges grammar c.args.disk.now c.open.new.disk c.compare.new.disk
    (work_with D L.counts_now L.only_now L.honest L.told told edges grammar c.args.disk.now c.open.new.disk c.open.ensures.stores)
    c.compare.ensures.looks

pub returns-in_ok-compare-in-Found-clause-stops : goal.returns-in_ok-compare-in-Found-clause-stops
returns-in_ok-compare-in-Found-clause-stops g c =
    let D = g.D.Disk in
    let L = g.met.D.Disk in
    let told = g.I.Inputs.told c.args.inputs.now in
    let edges = c.args.files.now.edges.now in
    let grammar = c.args.files.now.grammar.now in
    work_looking D L.counts_now L.only_now L.honest L.told told edges grammar c.args.disk.now c.open.new.disk c.compare.new.disk
    (work_with D L.counts_now L.only_now L.honest L.told told edges grammar c.args.disk.now c.open.new.disk c.open.ensures.stores)
    c.compare.ensures.looks

pub returns-in-Blank-clause-stops : goal.returns-in-Blank-clause-stops
returns-in-Blank-clause-stops g c =
    let D = g.D.Disk in
    let L = g.met.D.Disk in
    work_importing D L.counts_now L.only_now L.honest L.told (g.I.Inputs.told c.args.inputs.now) c.args.files.now.edges.now c.args.files.now.grammar.now c.args.disk.now c.open.new.disk c.import.new.disk c.args.grammar.now c.args.limit c.requires
    c.open.ensures.stores c.in_ok-open.ensures.stays
    (λ tells. subst (IsOpened (D.seen c.open.new.disk)) c.in-Blank.is (c.in_ok-open.ensures.opened tells))
    (λ image now. subst (IsOpenedAlone image) c.in-Blank.is (c.in_ok-open.ensures.alone refl image now))
    c.import.ensures.any_moment

pub returns-in_err-open-clause-spares : goal.returns-in_err-open-clause-spares
returns-in_err-open-clause-spares g c = λ some. c.open.ensures.any_moment

pub returns-in_err-compare-in-Found-clause-spares : goal.returns-in_err-compare-in-Found-clause-spares
returns-in_err-compare-in-Found-clause-spares g c = λ some.
    let D = g.D.Disk in
    let L = g.met.D.Disk in
    spared_looking D L.counts_now L.only_now L.honest L.told (g.I.Inputs.told c.args.inputs.now) c.args.files.now.edges.now c.args.files.now.grammar.now c.args.disk.now c.open.new.disk c.compare.new.disk c.open.ensures.any_moment c.compare.ensures.looks

pub returns-in_ok-compare-in-Found-clause-spares : goal.returns-in_ok-compare-in-Found-clause-spares
returns-in_ok-compare-in-Found-clause-spares g c = λ some.
    let D = g.D.Disk in
    let L = g.met.D.Disk in
    spared_looking D L.counts_now L.only_now L.honest L.told (g.I.Inputs.told c.args.inputs.now) c.args.files.now.edges.now c.args.files.now.grammar.now c.args.disk.now c.open.new.disk c.compare.new.disk c.open.ensures.any_moment c.compare.ensures.looks

pub returns-in-Blank-clause-spares : goal.returns-in-Blank-clause-spares
returns-in-Blank-clause-spares g c = λ some.
    let D = g.D.Disk in
    let L = g.met.D.Disk in
    spared_importing D L.counts_now L.only_now L.honest L.told (g.I.Inputs.told c.args.inputs.now) c.args.files.now.edges.now c.args.files.now.grammar.now c.args.disk.now c.open.new.disk c.import.new.disk c.args.grammar.now c.args.limit
    c.open.ensures.any_moment c.in_ok-open.ensures.stays
    (λ tells. subst (IsOpened (D.seen c.open.new.disk)) c.in-Blank.is (c.in_ok-open.ensures.opened tells))
    c.import.ensures.any_moment some

pub returns-in_ok-compare-in-Found-clause-begins : goal.returns-in_ok-compare-in-Found-clause-begins
returns-in_ok-compare-in-Found-clause-begins g c = λ tells.
    let D = g.D.Disk in
    inl (subst (λ (k : Contents). Stays (D.seen c.args.disk.now) k) (sym c.compare.ensures.looks.same_seen) (c.in_ok-open.ensures.stays tells))

pub returns-in-Blank-clause-begins : goal.returns-in-Blank-clause-begins
returns-in-Blank-clause-begins g c =
    let D = g.D.Disk in
    let x : Given = record { told = g.I.Inputs.told c.args.inputs.now; tells = D.tells; before = D.seen c.args.disk.now } in
    begun_new x c.args.grammar.now (g.I.Inputs.told c.args.inputs.now c.args.files.now.edges.now) c.args.limit (D.seen c.import.new.disk) c.import.result c.import.ensures.imported
