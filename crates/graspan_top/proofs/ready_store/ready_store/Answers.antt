use Rattle.std.proofs.Common.{ℕ, List, Option, subst, arith}
use Rattle.io_edge.proofs.DeviceLemmas.{keeps_then}
use Rattle.store_fault.specs.Faults.{why_of}
use Rattle.graspan_top.specs.Faults.{of_store}
use Rattle.graspan_top.specs.Given.{Given}
use Rattle.graspan_top.specs.Refusals.{rises_in}
use Rattle.graspan_top.specs.Run.{ready_stages}
use Rattle.graspan_top.specs.Stops.{KeepsWork}
use Rattle.graspan_top.proofs.ExplainLemmas.{grammar_refused, if_err, rose_later, told_later}
use Rattle.graspan_top.proofs.StageLemmas.{Grow, store_refuses}
use Rattle.graspan_top.proofs.StopLemmas.{good_told, spared_nowhere, work_nowhere}
use Rattle.graspan_top.proofs.ready_store.ready_store.Goals as goal

pub returns-in_err-grammar-clause-refused : goal.returns-in_err-grammar-clause-refused
returns-in_err-grammar-clause-refused g c =
    let D = g.D.Disk in
    let I = g.I.Inputs in
    let x : Given = record { told = I.told c.args.inputs.now; tells = D.tells; before = D.seen c.args.disk.now } in
    let edges : List ℕ = c.args.files.now.edges.now in
    let grammar : List ℕ = c.args.files.now.grammar.now in
    let rose = rises_in I D c.args.inputs.now c.read_grammar_file.new.inputs c.args.disk.now c.args.disk.now in
    if_err c.from_residual.result c.in_err-grammar.field-0.0 _ c.from_residual.ensures.1
    (grammar_refused x edges grammar rose c.in_err-grammar.field-0.0 c.in_err-grammar.ensures.refused)

pub returns-in_err-found_or_made-clause-refused : goal.returns-in_err-found_or_made-clause-refused
returns-in_err-found_or_made-clause-refused g c =
    let D = g.D.Disk in
    let I = g.I.Inputs in
    let x : Given = record { told = I.told c.args.inputs.now; tells = D.tells; before = D.seen c.args.disk.now } in
    let edges : List ℕ = c.args.files.now.edges.now in
    let grammar : List ℕ = c.args.files.now.grammar.now in
    let was = c.read_grammar_file.new.inputs in
    let now = c.found_or_made.new.inputs in
    let part = rises_in I D was now c.args.disk.now c.found_or_made.new.disk in
    let whole = rises_in I D c.args.inputs.now now c.args.disk.now c.found_or_made.new.disk in
    let grow : Grow part whole =
    record {
      reads = λ name. rose_later (I.faults c.args.inputs.now name) (I.faults was name) (I.faults now name) (I.faults now name) (c.read_grammar_file.ensures.keeps.others name) (omega arith);
      disk = λ h. h;
      writes = λ h. h;
    } in
    let f = c.in_err-found_or_made.field-0.0 in
    if_err c.from_residual-in_err-found_or_made.result (of_store f) _ c.from_residual-in_err-found_or_made.ensures.1
    (store_refuses (ready_stages x edges grammar whole) f (told_later x edges grammar (I.told was) part whole c.read_grammar_file.ensures.keeps.kept grow (why_of f) c.in_err-found_or_made.ensures.refused))

pub returns-clause-stops : goal.returns-clause-stops
returns-clause-stops g c =
    let D = g.D.Disk in
    subst (λ (told : List ℕ → Option (List ℕ)). KeepsWork D told c.args.files.now.edges.now c.args.files.now.grammar.now c.args.disk.now c.found_or_made.new.disk) c.read_grammar_file.ensures.keeps.kept c.found_or_made.ensures.stops

pub returns-in_err-found_or_made-clause-keeps : goal.returns-in_err-found_or_made-clause-keeps
returns-in_err-found_or_made-clause-keeps g c = keeps_then c.read_grammar_file.ensures.keeps c.found_or_made.ensures.keeps

pub returns-clause-keeps : goal.returns-clause-keeps
returns-clause-keeps g c = keeps_then c.read_grammar_file.ensures.keeps c.found_or_made.ensures.keeps

pub returns-in_err-found_or_made-clause-stops : goal.returns-in_err-found_or_made-clause-stops
returns-in_err-found_or_made-clause-stops g c =
    let D = g.D.Disk in
    subst (λ (told : List ℕ → Option (List ℕ)). KeepsWork D told c.args.files.now.edges.now c.args.files.now.grammar.now c.args.disk.now c.found_or_made.new.disk) c.read_grammar_file.ensures.keeps.kept c.found_or_made.ensures.stops

pub returns-in_err-grammar-clause-stops : goal.returns-in_err-grammar-clause-stops
returns-in_err-grammar-clause-stops g c =
    let L = g.met.D.Disk in
    work_nowhere g.D.Disk L.counts_now L.only_now L.honest L.told (g.I.Inputs.told c.args.inputs.now) c.args.files.now.edges.now c.args.files.now.grammar.now c.args.disk.now

pub returns-in_err-grammar-clause-spares : goal.returns-in_err-grammar-clause-spares
returns-in_err-grammar-clause-spares g c = λ some.
    let L = g.met.D.Disk in
    spared_nowhere g.D.Disk L.counts_now L.only_now L.honest L.told (g.I.Inputs.told c.args.inputs.now) c.args.files.now.edges.now c.args.files.now.grammar.now c.args.disk.now

pub returns-clause-faulty : goal.returns-clause-faulty
returns-clause-faulty g c = λ text told bad. absurd (good_told (g.I.Inputs.told c.args.inputs.now c.args.files.now.grammar.now) c.in_ok-grammar.grammar.items text c.in_ok-grammar.ensures.read told bad)

pub returns-in_err-found_or_made-clause-faulty : goal.returns-in_err-found_or_made-clause-faulty
returns-in_err-found_or_made-clause-faulty g c = λ text told bad. absurd (good_told (g.I.Inputs.told c.args.inputs.now c.args.files.now.grammar.now) c.in_ok-grammar.grammar.items text c.in_ok-grammar.ensures.read told bad)
