-- The graph of a whole program, and its list.
use Rattle.std.proofs.Common.{◌≡◌, ◌⊎◌, ◌∙◌, refl, sym, ap, subst, ℕ, ◌+◌, ◌<◌, List, [], ◌∷◌, ◌++◌, length, drop, get_or, Result, Ok, Err}
use Rattle.std.specs.Prelude.{map, IsErrAnd, MatchResult}
use Rattle.std.proofs.lemmas.List.{drop_more}
use Rattle.std.proofs.lemmas.List.Elements.{All-nil}
use Rattle.c_tree.specs.declared.tree.Item.{Item}
use Rattle.c_tree.specs.declared.tree.Program.{Program}
use Rattle.emit_list.specs.declared.vertex.Vertex.{Vertex}
use Rattle.emit_list.specs.declared.edge.EmitEdge.{EmitEdge}
use Rattle.emit_list.specs.Vertices.{Listed, HasForm, IsBelow, IsEdgeBelow, IsListed, IsGraphOfProgram}
use Rattle.graph_emit.specs.declared.emitter.Spot.{Spot}
use Rattle.graph_emit.specs.declared.fault.EmitKind.{EmitKind}
use Rattle.graph_emit.specs.declared.fault.EmitFault.{EmitFault}
use Rattle.graph_emit.specs.declared.fault.EmitFault.TheVariants as fault
use Rattle.graph_emit.specs.State.{Made, State, Walk, ◌⟫◌}
use Rattle.graph_emit.specs.Answers.{StepRefuses, Answers, made}
use Rattle.graph_emit.specs.Program.{Known, functions_made, items_walk, setting, program_walk, blank, graph_of, shown, listed, IsProgramGraph}
use Rattle.graph_emit.proofs.Steps.{given, GoesOn, goes_by}
use Rattle.graph_emit.proofs.Programs.{graph_kept}

-- the items with a setting for their functions
abbrev pub then_items : EmitKind → List Item → List Known → Walk (Unit {0})
then_items k items known = items_walk (setting k known) items

pub walks : (k : EmitKind) (p : Program) (start : State) (items : List Item) → start ≡ blank → items ≡ p.items → GoesOn (program_walk k p.items) blank (functions_made [] items ⟫ then_items k items) start
walks k p start items is same = record {
  same = ap (λ l. program_walk k l blank) (sym same) ∙ ap (program_walk k items) (sym is);
  around = ap (λ (s : State). s.outer) is;
}

pub walked : (k : EmitKind) (p : Program) (start s t : State) (items : List Item) (known : List Known) (u : Unit {0}) → start ≡ blank → items ≡ p.items → Answers (functions_made [] items) start (Ok known) s → Answers (then_items k items known) s (Ok u) t → graph_of k p ≡ Ok (t, tt)
walked k p start s t items known u is same f i =
    let g = goes_by _ (walks k p start items is same) f in
    g.same ∙ (given i).walked

-- a refusal of the walk is one of the graph
pub graph_refused : (k : EmitKind) (p : Program) (e : EmitFault) (r : Result Listed EmitFault) → StepRefuses (program_walk k p.items) blank e → IsErrAnd r (λ x. x ≡ e)
    → MatchResult r (λ list. IsProgramGraph k p list) (λ f. (f ≡ fault.NoMemory) ⊎ (graph_of k p ≡ Err f))
graph_refused k p e (Ok list) h is = absurd is
graph_refused k p e (Err f) h is = subst (λ f. (f ≡ fault.NoMemory) ⊎ (graph_of k p ≡ Err f)) (sym is) h

-- ---- the list
shown_made : (spots : List Spot) → map (λ (s : Spot). shown (made s)) spots ≡ map shown (map made spots)
shown_made [] = refl
shown_made (s ∷ ss) = ap (λ l. shown (made s) ∷ l) (shown_made ss)

pub shown_all : (spots : List Spot) (ms : List Made) → map made spots ≡ ms → map (λ (s : Spot). shown (made s)) spots ≡ map shown ms
shown_all spots ms e = shown_made spots ∙ ap (map shown) e

pub no_edges : (vs : List Vertex) (es : List EmitEdge) → IsListed vs es → IsListed vs []
no_edges vs es l = record { few = l.few; earlier = l.earlier; inside = All-nil (IsEdgeBelow (length vs)) }

pub is_graph : (k : EmitKind) (p : Program) (t : State) (list : Listed) → graph_of k p ≡ Ok (t, tt) → list ≡ listed t → IsProgramGraph k p list
is_graph k p t list e same = record { state = t; walked = e; same = same }

pub is_kept : (k : EmitKind) (p : Program) (t : State) (list : Listed) → graph_of k p ≡ Ok (t, tt) → list ≡ listed t → IsGraphOfProgram list
is_kept k p t list e same = subst IsGraphOfProgram (sym same) (graph_kept k p t e)

pub list_is : (a b : Listed) → a.vertices ≡ b.vertices → a.edges ≡ b.edges → a ≡ b
list_is a b v e =
    ap (λ x. let l : Listed = record { vertices = x; edges = a.edges } in l) v
    ∙ ap (λ x. let l : Listed = record { vertices = b.vertices; edges = x } in l) e

has_middle : (vs : List Vertex) (v : Vertex) (rest : List Vertex) → HasForm (vs ++ v ∷ rest) (length vs) v.form
has_middle [] v rest = refl
has_middle (x ∷ vs) v rest = has_middle vs v rest

-- the next vertex names an earlier one
pub next_below : (vs all : List Vertex) (ss : List Spot) (i : ℕ) (d : Spot) → i < length ss → vs ++ map (λ (s : Spot). shown (made s)) (drop i ss) ≡ all → IsListed all [] → IsBelow (length vs) (get_or ss i d).form
next_below vs all ss i d h e l =
    let x : Spot = get_or ss i d in
    let rest = map (λ (s : Spot). shown (made s)) (drop (i + 1) ss) in
    let split : vs ++ shown (made x) ∷ rest ≡ all = ap (λ l. vs ++ map (λ (s : Spot). shown (made s)) l) (sym (drop_more ss i d h)) ∙ e in
    l.earlier (length vs) x.form (subst (λ l. HasForm l (length vs) x.form) split (has_middle vs (shown (made x)) rest))
