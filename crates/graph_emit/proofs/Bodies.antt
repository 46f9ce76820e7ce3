-- The scope of a body, with the names of its parameters.
use Rattle.std.proofs.Common.{◌≡◌, ◌∙◌, sym, ap, List, [], ◌∷◌, ◌++◌, append-nil, append_assoc, ℕ, ◌+◌, ◌<◌, length, drop, get_or, Ok}
use Rattle.std.specs.Prelude.{map, reverse}
use Rattle.std.proofs.lemmas.Grind.{reverse_onto}
use Rattle.std.proofs.lemmas.List.{drop_more}
use Rattle.visible_names.specs.Names.{Bound}
use Rattle.graph_emit.specs.declared.functions.Param.{Param as MadeParam}
use Rattle.graph_emit.specs.State.{State, opened, bind}
use Rattle.graph_emit.specs.Functions.{bound}
use Rattle.graph_emit.proofs.Steps.{pair_of}

abbrev pub named_by : List MadeParam → State → State
named_by ps s = record { vertices = s.vertices; edges = s.edges; inner = reverse (map bound ps) ++ s.inner; outer = s.outer }

pub body_opened : (s o t : State) (ps qs : List MadeParam) → o ≡ opened [] s → qs ≡ ps → t ≡ named_by qs o → t ≡ opened (reverse (map bound ps)) s
body_opened s o t ps qs is same named =
    named ∙ ap (named_by qs) is ∙ ap (λ l. named_by l (opened [] s)) same ∙ ap (λ l. opened l s) (append-nil (reverse (map bound ps)))

-- the next name comes before those that are bound
pub bind_next : (p : Bound) (rest inner : List Bound) → reverse (p ∷ rest) ++ inner ≡ reverse rest ++ (p ∷ inner)
bind_next p rest inner = ap (λ l. l ++ inner) (reverse_onto rest p []) ∙ append_assoc (reverse rest) (p ∷ []) inner

abbrev with_name : List ℕ → ℕ → State → State
with_name n v s = record { vertices = s.vertices; edges = s.edges; inner = (let b : Bound = record { name = n; vertex = v } in b) ∷ s.inner; outer = s.outer }

-- a parameter was bound
pub record Binds (ps : List MadeParam) (i : ℕ) (s t : State) : Type 0 where
  pub vertices : t.vertices ≡ s.vertices
  pub edges : t.edges ≡ s.edges
  pub inner : reverse (map bound (drop (i + 1) ps)) ++ t.inner ≡ reverse (map bound (drop i ps)) ++ s.inner
  pub outer : t.outer ≡ s.outer

pub binds : (ps : List MadeParam) (i : ℕ) (d : MadeParam) (s t : State) → i < length ps → bind (get_or ps i d).name.now (get_or ps i d).vertex s ≡ Ok (t, (get_or ps i d).vertex) → Binds ps i s t
binds ps i d s t h e =
    let x : MadeParam = get_or ps i d in
    let named : t ≡ with_name x.name.now x.vertex s = sym (ap (λ p. p.0) (pair_of (with_name x.name.now x.vertex s, x.vertex) (t, x.vertex) e)) in
    let rest = map bound (drop (i + 1) ps) in
    record {
      vertices = ap (λ (s : State). s.vertices) named;
      edges = ap (λ (s : State). s.edges) named;
      inner = ap (λ (s : State). reverse rest ++ s.inner) named ∙ sym (bind_next (bound x) rest s.inner) ∙ ap (λ l. reverse (map bound l) ++ s.inner) (sym (drop_more ps i d h));
      outer = ap (λ (s : State). s.outer) named;
    }
