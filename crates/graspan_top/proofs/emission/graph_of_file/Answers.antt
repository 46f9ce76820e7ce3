use Rattle.std.proofs.Common.{ℕ, List, inl, subst}
use Rattle.graph_emit.specs.declared.fault.EmitKind.{EmitKind}
use Rattle.source_graph.specs.declared.graph.SourceFault.{SourceFault}
use Rattle.source_graph.specs.Sources.{HasSourceFault, IsRefusal, IsSourceGraph}
use Rattle.graspan_top.specs.Emission.{graph_kind}
use Rattle.graspan_top.proofs.EmitLemmas.{source_fault, whole_source}
use Rattle.graspan_top.proofs.emission.graph_of_file.Goals as goal

pub returns-in-Ok-source_graph-clause-graph : goal.returns-in-Ok-source_graph-clause-graph
returns-in-Ok-source_graph-clause-graph g c = λ file told.
    let kind = graph_kind c.args.kind in
    let list = c.in-Ok-source_graph.list in
    let here = subst (λ (k : EmitKind). IsSourceGraph k c.deref.result.now list) c.graph_kind.ensures c.in-Ok-source_graph.ensures.graph in
    whole_source kind file c.in-Ok.text.items list (c.in-Ok.ensures.bytes file told) (subst (λ (t : List ℕ). IsSourceGraph kind t list) c.deref.ensures.value here)

pub returns-in-Err-At-clause-refused : goal.returns-in-Err-At-clause-refused
returns-in-Err-At-clause-refused g c =
    inl
    (λ file told.
    let kind = graph_kind c.args.kind in
    let line = c.in-Err-At.line in
    let k = c.in-Err-At.kind in
    let here = subst (λ (f : SourceFault). IsRefusal c.graph_kind.result c.deref.result.now f) c.in-Err-At.field-0-is c.in-Err-At.ensures.fault in
    let there = subst (λ (x : EmitKind). HasSourceFault x c.deref.result.now line k) c.graph_kind.ensures here in
    source_fault kind file c.in-Ok.text.items line k (c.in-Ok.ensures.bytes file told) (subst (λ (t : List ℕ). HasSourceFault kind t line k) c.deref.ensures.value there))
