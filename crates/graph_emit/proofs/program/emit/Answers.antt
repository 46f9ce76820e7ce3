use Rattle.std.proofs.Common.{◌≡◌, ◌∙◌, ◌++◌, [], sym, ap, subst}
use Rattle.std.specs.Prelude.{map}
use Rattle.emit_list.specs.Vertices.{Listed, IsListed}
use Rattle.graph_emit.specs.declared.emitter.Spot.{Spot}
use Rattle.graph_emit.specs.Answers.{made}
use Rattle.graph_emit.specs.Program.{shown, listed}
use Rattle.graph_emit.proofs.Steps.{refused, goes_by, stops, refuses_on}
use Rattle.graph_emit.proofs.Programs.{graph_kept}
use Rattle.graph_emit.proofs.Whole.{walks, walked, graph_refused, shown_all, no_edges, is_graph, is_kept, list_is}
use Rattle.graph_emit.proofs.program.emit.Goals as goal

pub returns-in_err-functions-clause-graph : goal.returns-in_err-functions-clause-graph
returns-in_err-functions-clause-graph c =
    let p = c.args.program.now in
    let items = c.as_slice-items.result.now in
    let g = walks c.args.kind p c.new-emitter.result items c.new-emitter.ensures c.as_slice-items.ensures in
    graph_refused c.args.kind p c.in_err-functions.field-0.0 c.from_residual.result (stops _ _ c.in_err-functions.field-0.0 g (refused c.in_err-functions.ensures)) c.from_residual.ensures.1

pub returns-in_err-walk_items-clause-graph : goal.returns-in_err-walk_items-clause-graph
returns-in_err-walk_items-clause-graph c =
    let p = c.args.program.now in
    let items = c.as_slice-items.result.now in
    let g = goes_by _ (walks c.args.kind p c.new-emitter.result items c.new-emitter.ensures c.as_slice-items.ensures) c.in_ok-functions.ensures in
    graph_refused c.args.kind p c.in_err-walk_items.field-0.0 c.from_residual-in_err-walk_items.result (refuses_on g (refused c.in_err-walk_items.ensures)) c.from_residual-in_err-walk_items.ensures.1

pub add_vertices-requires : goal.add_vertices-requires
add_vertices-requires c =
    let p = c.args.program.now in
    let items = c.as_slice-items.result.now in
    let t = c.walk_items.new.emitter in
    let e = walked c.args.kind p c.new-emitter.result c.functions_made.new.emitter t items c.in_ok-functions.functions _ c.new-emitter.ensures c.as_slice-items.ensures c.in_ok-functions.ensures c.in_ok-walk_items.ensures in
    let f = λ (s : Spot). shown (made s) in
    let none : c.new-list.result.vertices ≡ [] = ap (λ (l : Listed). l.vertices) c.new-list.ensures in
    let all : c.new-list.result.vertices ++ map f c.spots.result.now ≡ map shown t.vertices = ap (λ l. l ++ map f c.spots.result.now) none ∙ shown_all c.spots.result.now t.vertices c.spots.ensures in
    subst (λ l. IsListed l []) (sym all) (no_edges (map shown t.vertices) t.edges (graph_kept c.args.kind p t e).listed)

pub add_edges-requires : goal.add_edges-requires
add_edges-requires c =
    let p = c.args.program.now in
    let items = c.as_slice-items.result.now in
    let t = c.walk_items.new.emitter in
    let e = walked c.args.kind p c.new-emitter.result c.functions_made.new.emitter t items c.in_ok-functions.functions _ c.new-emitter.ensures c.as_slice-items.ensures c.in_ok-functions.ensures c.in_ok-walk_items.ensures in
    let f = λ (s : Spot). shown (made s) in
    let none : c.new-list.result.vertices ≡ [] = ap (λ (l : Listed). l.vertices) c.new-list.ensures in
    let all : c.new-list.result.vertices ++ map f c.spots.result.now ≡ map shown t.vertices = ap (λ l. l ++ map f c.spots.result.now) none ∙ shown_all c.spots.result.now t.vertices c.spots.ensures in
    let vertices : c.add_vertices.new.list.vertices ≡ map shown t.vertices = ap (λ (l : Listed). l.vertices) c.in_ok-add_vertices.ensures ∙ all in
    subst (λ l. IsListed l c.edges.result.now) (sym vertices) (subst (λ l. IsListed (map shown t.vertices) l) (sym c.edges.ensures) (graph_kept c.args.kind p t e).listed)

pub returns-clause-graph : goal.returns-clause-graph
returns-clause-graph c =
    let p = c.args.program.now in
    let items = c.as_slice-items.result.now in
    let t = c.walk_items.new.emitter in
    let e = walked c.args.kind p c.new-emitter.result c.functions_made.new.emitter t items c.in_ok-functions.functions _ c.new-emitter.ensures c.as_slice-items.ensures c.in_ok-functions.ensures c.in_ok-walk_items.ensures in
    let f = λ (s : Spot). shown (made s) in
    let none : c.new-list.result.vertices ≡ [] = ap (λ (l : Listed). l.vertices) c.new-list.ensures in
    let all : c.new-list.result.vertices ++ map f c.spots.result.now ≡ map shown t.vertices = ap (λ l. l ++ map f c.spots.result.now) none ∙ shown_all c.spots.result.now t.vertices c.spots.ensures in
    let vertices : c.add_edges.new.list.vertices ≡ map shown t.vertices = ap (λ (l : Listed). l.vertices) c.in_ok-add_edges.ensures ∙ ap (λ (l : Listed). l.vertices) c.in_ok-add_vertices.ensures ∙ all in
    let empty : c.add_vertices.new.list.edges ≡ [] = ap (λ (l : Listed). l.edges) c.in_ok-add_vertices.ensures ∙ ap (λ (l : Listed). l.edges) c.new-list.ensures in
    let edges : c.add_edges.new.list.edges ≡ t.edges = ap (λ (l : Listed). l.edges) c.in_ok-add_edges.ensures ∙ ap (λ l. l ++ c.edges.result.now) empty ∙ c.edges.ensures in
    let same = list_is c.add_edges.new.list (listed t) vertices edges in
    is_graph c.args.kind p t c.add_edges.new.list e same

pub returns-clause-kept : goal.returns-clause-kept
returns-clause-kept c =
    let p = c.args.program.now in
    let items = c.as_slice-items.result.now in
    let t = c.walk_items.new.emitter in
    let e = walked c.args.kind p c.new-emitter.result c.functions_made.new.emitter t items c.in_ok-functions.functions _ c.new-emitter.ensures c.as_slice-items.ensures c.in_ok-functions.ensures c.in_ok-walk_items.ensures in
    let f = λ (s : Spot). shown (made s) in
    let none : c.new-list.result.vertices ≡ [] = ap (λ (l : Listed). l.vertices) c.new-list.ensures in
    let all : c.new-list.result.vertices ++ map f c.spots.result.now ≡ map shown t.vertices = ap (λ l. l ++ map f c.spots.result.now) none ∙ shown_all c.spots.result.now t.vertices c.spots.ensures in
    let vertices : c.add_edges.new.list.vertices ≡ map shown t.vertices = ap (λ (l : Listed). l.vertices) c.in_ok-add_edges.ensures ∙ ap (λ (l : Listed). l.vertices) c.in_ok-add_vertices.ensures ∙ all in
    let empty : c.add_vertices.new.list.edges ≡ [] = ap (λ (l : Listed). l.edges) c.in_ok-add_vertices.ensures ∙ ap (λ (l : Listed). l.edges) c.new-list.ensures in
    let edges : c.add_edges.new.list.edges ≡ t.edges = ap (λ (l : Listed). l.edges) c.in_ok-add_edges.ensures ∙ ap (λ l. l ++ c.edges.result.now) empty ∙ c.edges.ensures in
    let same = list_is c.add_edges.new.list (listed t) vertices edges in
    is_kept c.args.kind p t c.add_edges.new.list e same
