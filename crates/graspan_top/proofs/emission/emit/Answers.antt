use Rattle.std.proofs.Common.{ℕ, List, [], ◌∷◌, Option}
use Rattle.std.specs.Prelude.{is_some}
use Rattle.faults.specs.Counts.{Rose}
use Rattle.graspan_top.specs.Emission.{IsEmitText, emit_stages, source_stage}
use Rattle.graspan_top.specs.Printed.{PrintsFirst}
use Rattle.graspan_top.specs.Refusals.{Explained}
use Rattle.graspan_top.proofs.EmitLemmas.{emit_prefix, source_refused}
use Rattle.graspan_top.proofs.LookLemmas.{status_at}
use Rattle.graspan_top.proofs.PrintLemmas.{nothing_first}
use Rattle.graspan_top.proofs.StageLemmas.{refused_not_done}
use Rattle.graspan_top.proofs.emission.emit.Goals as goal

pub returns-in_err-list-clause-explained : goal.returns-in_err-list-clause-explained
returns-in_err-list-clause-explained g c =
    let I = g.I.Inputs in
    let O = g.O.Sink in
    let told = I.told c.args.inputs.now c.args.source.now in
    let rr : Type 0 = Rose (I.faults c.args.inputs.now c.args.source.now) (I.faults c.graph_of_file.new.inputs c.args.source.now) in
    let wr : Type 0 = Rose (O.faults c.args.out.now) (O.faults c.args.out.now) in
    status_at (Explained (emit_stages told c.args.kind rr wr)) c.from_residual.result c.in_err-list.field-0.0 c.from_residual.ensures.1
    (source_refused told c.args.kind rr wr c.in_err-list.field-0.0 c.in_err-list.ensures.refused)

pub returns-in_err-list-clause-printed : goal.returns-in_err-list-clause-printed
returns-in_err-list-clause-printed g c =
    let told = g.I.Inputs.told c.args.inputs.now c.args.source.now in
    let old = g.O.Sink.told c.args.out.now in
    let e = c.in_err-list.field-0.0 in
    let rr : Type 0 = Rose (g.I.Inputs.faults c.args.inputs.now c.args.source.now) (g.I.Inputs.faults c.graph_of_file.new.inputs c.args.source.now) in
    status_at (λ s. PrintsFirst (is_some told) (IsEmitText told c.args.kind) old old s) c.from_residual.result e c.from_residual.ensures.1
    (nothing_first (is_some told) (IsEmitText told c.args.kind) old e (refused_not_done (source_stage told c.args.kind rr ∷ []) e c.in_err-list.ensures.refused))

pub returns-clause-printed : goal.returns-clause-printed
returns-clause-printed g c =
    emit_prefix c.texts_have_one_graph.ensures (g.I.Inputs.told c.args.inputs.now c.args.source.now) c.args.kind c.in_ok-list.list c.in_ok-list.ensures.graph (g.O.Sink.told c.args.out.now) (g.O.Sink.told c.print_edges.new.sink) c.in-Err.ensures.taken
