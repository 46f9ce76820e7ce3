-- What the vertices and edges of a graph keep, and that each way to add to them keeps it.
use Rattle.std.proofs.Common.{◌≡◌, ◌⊎◌, inl, inr, refl, sym, ap, ◌∙◌, subst, ℕ, zero, suc, ◌+◌, ◌<◌, ◌≤◌, ◌==◌, false, List, [], ◌∷◌, ◌++◌, length, length-append, append-nil, Some, None, arith}
use Rattle.std.specs.Prelude.{Contains, All}
use Rattle.std.proofs.lemmas.List.Elements.{All-nil, All-cons, All-append, All-weaker, Contains-append_left, Contains-append_right, Contains-append_cases}
use Rattle.emit_list.specs.declared.vertex.VertexForm.{VertexForm}
use Rattle.emit_list.specs.declared.vertex.VertexForm.TheVariants as form
use Rattle.emit_list.specs.declared.vertex.TheConstants.{MOST_VERTICES}
use Rattle.emit_list.specs.declared.edge.EmitEdge.{EmitEdge}
use Rattle.emit_list.specs.declared.edge.EmitLabel.{EmitLabel}
use Rattle.emit_list.specs.declared.edge.EmitLabel.TheVariants as label
use Rattle.emit_list.specs.Vertices.{made_for, IsBelow, IsEdgeBelow, inverse, edge}
use Rattle.graph_emit.specs.State.{Made, is_deref_of, is_address_of, place_of}
use Rattle.graph_emit.proofs.Forms.{Has, has_within, has_front, has_cases, missed_has}

pub record Kept (ms : List Made) (es : List EmitEdge) : Type 0 where
  pub few : length ms ≤ MOST_VERTICES
  pub earlier : (k : ℕ) (f : VertexForm) → Has ms k f → IsBelow k f
  pub inside : All (IsEdgeBelow (length ms)) es
  pub one_deref : (k l base : ℕ) → Has ms k (form.Deref base) → Has ms l (form.Deref base) → k ≡ l
  pub one_address : (k l base : ℕ) → Has ms k (form.Address base) → Has ms l (form.Address base) → k ≡ l
  pub deref_edge : (k base : ℕ) → Has ms k (form.Deref base) → Contains es (edge base label.D k)
  pub address_edge : (k base : ℕ) → Has ms k (form.Address base) → Contains es (edge k label.D base)
  pub of_variables : (k base : ℕ) → Has ms k (form.Address base) → Has ms base form.Variable
  pub inverses : (src dst : ℕ) (l : EmitLabel) → Contains es (edge src l dst) → Contains es (edge dst (inverse l) src)

pub kept_none : Kept [] []
kept_none = record {
  few = omega arith;
  earlier = λ k f h. absurd (let far = has_within [] k f h in omega arith);
  inside = All-nil (IsEdgeBelow 0);
  one_deref = λ k l base h g. absurd (let far = has_within [] k (form.Deref base) h in omega arith);
  one_address = λ k l base h g. absurd (let far = has_within [] k (form.Address base) h in omega arith);
  deref_edge = λ k base h. absurd (let far = has_within [] k (form.Deref base) h in omega arith);
  address_edge = λ k base h. absurd (let far = has_within [] k (form.Address base) h in omega arith);
  of_variables = λ k base h. absurd (let far = has_within [] k (form.Address base) h in omega arith);
  inverses = λ src dst l h. absurd (let far = h.1 in omega arith);
}

-- ---- an edge with its inverse
abbrev pub both : ℕ → EmitLabel → ℕ → List EmitEdge
both src l dst = edge src l dst ∷ edge dst (inverse l) src ∷ []

back : (l : EmitLabel) → inverse (inverse l) ≡ l
back label.A = refl
back label.MinusA = refl
back label.D = refl
back label.MinusD = refl
back label.N = refl
back label.MinusN = refl

first_in : (x y : EmitEdge) → Contains (x ∷ y ∷ []) x
first_in x y = (0, omega arith, refl)

second_in : (x y : EmitEdge) → Contains (x ∷ y ∷ []) y
second_in x y = (1, omega arith, refl)

of_pair : (x y z : EmitEdge) → Contains (x ∷ y ∷ []) z → (x ≡ z) ⊎ (y ≡ z)
of_pair x y z (zero, far, is) = inl is
of_pair x y z (suc zero, far, is) = inr is
of_pair x y z (suc (suc k), far, is) = absurd (omega arith)

-- an edge the other way round
abbrev turned : EmitEdge → EmitEdge
turned e = edge e.dst (inverse e.label) e.src

both_inverses : (src dst : ℕ) (l : EmitLabel) (s d : ℕ) (m : EmitLabel) → Contains (both src l dst) (edge s m d) → Contains (both src l dst) (edge d (inverse m) s)
both_inverses src dst l s d m h = elim (of_pair (edge src l dst) (edge dst (inverse l) src) (edge s m d) h) [
  | inl e ↦
      let same : edge dst (inverse l) src ≡ edge d (inverse m) s = ap turned e in
      subst (λ x. Contains (both src l dst) x) same (second_in (edge src l dst) (edge dst (inverse l) src))
  | inr e ↦
      let same : edge src l dst ≡ edge d (inverse m) s = ap (λ l. edge src l dst) (sym (back l)) ∙ ap turned e in
      subst (λ x. Contains (both src l dst) x) same (first_in (edge src l dst) (edge dst (inverse l) src))
]

both_inside : (n src dst : ℕ) (l : EmitLabel) → src < n → dst < n → All (IsEdgeBelow n) (both src l dst)
both_inside n src dst l s d =
    All-cons (IsEdgeBelow n) (edge src l dst) (edge dst (inverse l) src ∷ []) (record { source = s; destination = d })
    (All-cons (IsEdgeBelow n) (edge dst (inverse l) src) [] (record { source = d; destination = s }) (All-nil (IsEdgeBelow n)))

-- edges that have their inverses, with more of them
inverses_both : (es fs : List EmitEdge) → ((s d : ℕ) (m : EmitLabel) → Contains es (edge s m d) → Contains es (edge d (inverse m) s)) → ((s d : ℕ) (m : EmitLabel) → Contains fs (edge s m d) → Contains fs (edge d (inverse m) s))
    → (s d : ℕ) (m : EmitLabel) → Contains (es ++ fs) (edge s m d) → Contains (es ++ fs) (edge d (inverse m) s)
inverses_both es fs a b s d m h = elim (Contains-append_cases es fs (edge s m d) h) [
  | inl x ↦ Contains-append_left es fs (edge d (inverse m) s) (a s d m x)
  | inr x ↦ Contains-append_right es fs (edge d (inverse m) s) (b s d m x)
]

pub kept_joined : (ms : List Made) (es : List EmitEdge) (src dst : ℕ) (l : EmitLabel) → Kept ms es → src < length ms → dst < length ms → Kept ms (es ++ both src l dst)
kept_joined ms es src dst l k s d = record {
  few = k.few;
  earlier = k.earlier;
  inside = All-append (IsEdgeBelow (length ms)) es (both src l dst) k.inside (both_inside (length ms) src dst l s d);
  one_deref = k.one_deref;
  one_address = k.one_address;
  deref_edge = λ v base h. Contains-append_left es (both src l dst) (edge base label.D v) (k.deref_edge v base h);
  address_edge = λ v base h. Contains-append_left es (both src l dst) (edge v label.D base) (k.address_edge v base h);
  of_variables = k.of_variables;
  inverses = inverses_both es (both src l dst) k.inverses (both_inverses src dst l);
}

-- ---- a vertex, with its edges
-- what a new vertex and its edges need
pub record Fits (ms : List Made) (x : Made) (fs : List EmitEdge) : Type 0 where
  pub below : IsBelow (length ms) x.form
  pub deref : (base : ℕ) → x.form ≡ form.Deref base → (place_of (is_deref_of base) ms ≡ None) × Contains fs (edge base label.D (length ms))
  pub address : (base : ℕ) → x.form ≡ form.Address base → (place_of (is_address_of base) ms ≡ None) × (Contains fs (edge (length ms) label.D base) × Has ms base form.Variable)
  pub inside : All (IsEdgeBelow (length (ms ++ x ∷ []))) fs
  pub inverses : (s d : ℕ) (m : EmitLabel) → Contains fs (edge s m d) → Contains fs (edge d (inverse m) s)

more_below : (n m : ℕ) → n ≤ m → (e : EmitEdge) → IsEdgeBelow n e → IsEdgeBelow m e
more_below n m le e b = record { source = omega (arith, b.source); destination = omega (arith, b.destination) }

-- no vertex of the list is a dereference of this one
no_deref : (ms : List Made) (k base : ℕ) → place_of (is_deref_of base) ms ≡ None → Has ms k (form.Deref base) → ⊥
no_deref ms k base none h =
    let missed : (base == base) ≡ false = missed_has (is_deref_of base) ms k (form.Deref base) none h in
    grind arith

no_address : (ms : List Made) (k base : ℕ) → place_of (is_address_of base) ms ≡ None → Has ms k (form.Address base) → ⊥
no_address ms k base none h =
    let missed : (base == base) ≡ false = missed_has (is_address_of base) ms k (form.Address base) none h in
    grind arith

module _ (ms : List Made) (es fs : List EmitEdge) (x : Made) (kept : Kept ms es) (room : length ms < MOST_VERTICES) (fits : Fits ms x fs) where
  grown_earlier : (k : ℕ) (f : VertexForm) → Has (ms ++ x ∷ []) k f → IsBelow k f
  grown_earlier k f h base e = elim (has_cases ms x k f h) [
    | inl a ↦ kept.earlier k f a base e
    | inr (at, g) ↦ subst (λ n. base < n) (sym at) (fits.below base (ap made_for g ∙ e))
  ]

  grown_one_deref : (k l base : ℕ) → Has (ms ++ x ∷ []) k (form.Deref base) → Has (ms ++ x ∷ []) l (form.Deref base) → k ≡ l
  grown_one_deref k l base h g = elim (has_cases ms x k (form.Deref base) h) [
    | inl a ↦ elim (has_cases ms x l (form.Deref base) g) [
      | inl b ↦ kept.one_deref k l base a b
      | inr (at, is) ↦ absurd (no_deref ms k base (fits.deref base is).0 a)
    ]
    | inr (here, was) ↦ elim (has_cases ms x l (form.Deref base) g) [
      | inl b ↦ absurd (no_deref ms l base (fits.deref base was).0 b)
      | inr (at, is) ↦ here ∙ sym at
    ]
  ]

  grown_one_address : (k l base : ℕ) → Has (ms ++ x ∷ []) k (form.Address base) → Has (ms ++ x ∷ []) l (form.Address base) → k ≡ l
  grown_one_address k l base h g = elim (has_cases ms x k (form.Address base) h) [
    | inl a ↦ elim (has_cases ms x l (form.Address base) g) [
      | inl b ↦ kept.one_address k l base a b
      | inr (at, is) ↦ absurd (no_address ms k base (fits.address base is).0 a)
    ]
    | inr (here, was) ↦ elim (has_cases ms x l (form.Address base) g) [
      | inl b ↦ absurd (no_address ms l base (fits.address base was).0 b)
      | inr (at, is) ↦ here ∙ sym at
    ]
  ]

  grown_deref_edge : (k base : ℕ) → Has (ms ++ x ∷ []) k (form.Deref base) → Contains (es ++ fs) (edge base label.D k)
  grown_deref_edge k base h = elim (has_cases ms x k (form.Deref base) h) [
    | inl a ↦ Contains-append_left es fs (edge base label.D k) (kept.deref_edge k base a)
    | inr (at, is) ↦ Contains-append_right es fs (edge base label.D k) (subst (λ n. Contains fs (edge base label.D n)) (sym at) (fits.deref base is).1)
  ]

  grown_address_edge : (k base : ℕ) → Has (ms ++ x ∷ []) k (form.Address base) → Contains (es ++ fs) (edge k label.D base)
  grown_address_edge k base h = elim (has_cases ms x k (form.Address base) h) [
    | inl a ↦ Contains-append_left es fs (edge k label.D base) (kept.address_edge k base a)
    | inr (at, is) ↦ Contains-append_right es fs (edge k label.D base) (subst (λ n. Contains fs (edge n label.D base)) (sym at) (fits.address base is).1.0)
  ]

  grown_of_variables : (k base : ℕ) → Has (ms ++ x ∷ []) k (form.Address base) → Has (ms ++ x ∷ []) base form.Variable
  grown_of_variables k base h = elim (has_cases ms x k (form.Address base) h) [
    | inl a ↦ has_front ms (x ∷ []) base form.Variable (kept.of_variables k base a)
    | inr (at, is) ↦ has_front ms (x ∷ []) base form.Variable (fits.address base is).1.1
  ]

  pub kept_grown : Kept (ms ++ x ∷ []) (es ++ fs)
  kept_grown =
      let long : length (ms ++ x ∷ []) ≡ length ms + 1 = length-append ms (x ∷ []) in
      let n = length (ms ++ x ∷ []) in
      record {
        few = omega arith;
        earlier = grown_earlier;
        inside = All-append (IsEdgeBelow n) es fs (All-weaker (IsEdgeBelow (length ms)) (IsEdgeBelow n) (more_below (length ms) n (omega arith)) es kept.inside) fits.inside;
        one_deref = grown_one_deref;
        one_address = grown_one_address;
        deref_edge = grown_deref_edge;
        address_edge = grown_address_edge;
        of_variables = grown_of_variables;
        inverses = inverses_both es fs kept.inverses fits.inverses;
      }

-- a vertex that was made for no other
pub kept_plain : (ms : List Made) (es : List EmitEdge) (x : Made) → Kept ms es → length ms < MOST_VERTICES → made_for x.form ≡ None → Kept (ms ++ x ∷ []) es
kept_plain ms es x k room plain =
    let fits : Fits ms x [] = record {
      below = λ base e. absurd (let f : None ≡ Some base = sym plain ∙ e in cc);
      deref = λ base e. absurd (let f : None ≡ Some base = sym plain ∙ ap made_for e in cc);
      address = λ base e. absurd (let f : None ≡ Some base = sym plain ∙ ap made_for e in cc);
      inside = All-nil (IsEdgeBelow (length (ms ++ x ∷ [])));
      inverses = λ s d m h. absurd (let far = h.1 in omega arith);
    } in
    subst (λ fs. Kept (ms ++ x ∷ []) fs) (append-nil es) (kept_grown ms es [] x k room fits)

abbrev pub deref : ℕ → ℕ → Made
deref v token = record { form = form.Deref v; name = []; token = token }

abbrev pub address : ℕ → ℕ → Made
address v token = record { form = form.Address v; name = []; token = token }

pub kept_deref : (ms : List Made) (es : List EmitEdge) (v token : ℕ) → Kept ms es → length ms < MOST_VERTICES → v < length ms → place_of (is_deref_of v) ms ≡ None → Kept (ms ++ deref v token ∷ []) (es ++ both v label.D (length ms))
kept_deref ms es v token k room at none =
    let x : Made = deref v token in
    let fs : List EmitEdge = both v label.D (length ms) in
    let long : length (ms ++ x ∷ []) ≡ length ms + 1 = length-append ms (x ∷ []) in
    let fits : Fits ms x fs = record {
      below = λ base e. let same : v ≡ base = cc in omega arith;
      deref = λ base e.
          let same : v ≡ base = cc in (
            subst (λ w. place_of (is_deref_of w) ms ≡ None) same none,
            subst (λ w. Contains fs (edge w label.D (length ms))) same (first_in (edge v label.D (length ms)) (edge (length ms) label.MinusD v)),
          );
      address = λ base e. absurd (cc);
      inside = both_inside (length (ms ++ x ∷ [])) v (length ms) label.D (omega arith) (omega arith);
      inverses = both_inverses v (length ms) label.D;
    } in
    kept_grown ms es fs x k room fits

pub kept_address : (ms : List Made) (es : List EmitEdge) (v token : ℕ) → Kept ms es → length ms < MOST_VERTICES → Has ms v form.Variable → place_of (is_address_of v) ms ≡ None → Kept (ms ++ address v token ∷ []) (es ++ both (length ms) label.D v)
kept_address ms es v token k room variable none =
    let x : Made = address v token in
    let fs : List EmitEdge = both (length ms) label.D v in
    let long : length (ms ++ x ∷ []) ≡ length ms + 1 = length-append ms (x ∷ []) in
    let at : v < length ms = has_within ms v form.Variable variable in
    let fits : Fits ms x fs = record {
      below = λ base e. let same : v ≡ base = cc in omega arith;
      deref = λ base e. absurd (cc);
      address = λ base e.
          let same : v ≡ base = cc in (
            subst (λ w. place_of (is_address_of w) ms ≡ None) same none,
            (
              subst (λ w. Contains fs (edge (length ms) label.D w)) same (first_in (edge (length ms) label.D v) (edge v label.MinusD (length ms))),
              subst (λ w. Has ms w form.Variable) same variable,
            ),
          );
      inside = both_inside (length (ms ++ x ∷ [])) (length ms) v label.D (omega arith) (omega arith);
      inverses = both_inverses (length ms) v label.D;
    } in
    kept_grown ms es fs x k room fits
