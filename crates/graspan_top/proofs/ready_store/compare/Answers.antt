use Rattle.std.proofs.Common.{◌≡◌, ◌≤◌, ℕ, List, Option, ap, inl, arith}
use Rattle.faults.specs.Counts.{Rose}
use Rattle.faults.specs.declared.kinds.InputFile.TheVariants.{Edges}
use Rattle.io_edge.proofs.DeviceLemmas.{keeps_then}
use Rattle.store_fault.specs.Faults.{why_of}
use Rattle.open_store.specs.Answers.{compare_causes, copy_of}
use Rattle.graspan_top.specs.Stages.{DiffersFrom}
use Rattle.graspan_top.proofs.ExplainLemmas.{by_reason, compared_second, if_err, rose_later}
use Rattle.graspan_top.proofs.ready_store.compare.Goals as goal

pub returns-in_err-same_input-clause-refused : goal.returns-in_err-same_input-clause-refused
returns-in_err-same_input-clause-refused g c =
    if_err c.from_residual.result c.in_err-same_input.field-0.0 _ c.from_residual.ensures.1 (inl c.in_err-same_input.ensures.cause)

pub returns-clause-refused : goal.returns-clause-refused
returns-clause-refused g c =
    let I = g.I.Inputs in
    let D = g.D.Disk in
    let grammar : List ℕ = c.args.files.now.grammar.now in
    let edges : List ℕ = c.args.files.now.edges.now in
    let old = c.args.inputs.now in
    let was = c.same_input.new.inputs in
    let now = c.same_input-2.new.inputs in
    let before = c.args.disk.now in
    let mid = c.same_input.new.disk in
    let last = c.same_input-2.new.disk in
    let er : Type 0 = Rose (I.faults was edges) (I.faults now edges) in
    let dr : Type 0 = Rose (D.faults mid) (D.faults last) in
    by_reason why_of (compare_causes er dr (λ blamed place. (blamed ≡ Edges) × DiffersFrom (I.told was edges) D.tells (copy_of c.args.store.now.manifest Edges (D.seen mid)) place)) c.same_input-2.result _
    (λ e h.
    compared_second (I.told old grammar) (I.told old edges) (I.told was edges) D.tells (D.seen before) (D.seen mid) c.args.store.now.manifest
    (Rose (I.faults old grammar) (I.faults now grammar)) (Rose (I.faults old edges) (I.faults now edges)) er (Rose (D.faults before) (D.faults last)) dr
    c.in_ok-same_input.ensures.same (ap (λ (t : List ℕ → Option (List ℕ)). t edges) c.same_input.ensures.keeps.kept) c.same_input.ensures.looks.same_seen
    (rose_later (I.faults old edges) (I.faults was edges) (I.faults now edges) (I.faults now edges) (c.same_input.ensures.keeps.others edges) (omega arith))
    (rose_later (D.faults before) (D.faults mid) (D.faults last) (D.faults last) c.same_input.ensures.looks.later (omega arith))
    (why_of e) h)
    c.same_input-2.ensures.cause

pub returns-clause-keeps : goal.returns-clause-keeps
returns-clause-keeps g c = keeps_then c.same_input.ensures.keeps c.same_input-2.ensures.keeps
