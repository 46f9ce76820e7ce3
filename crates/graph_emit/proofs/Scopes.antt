-- Steps in a scope of their own.
use Rattle.std.proofs.Common.{◌≡◌, inl, inr, sym, ap, subst, ◌∙◌, ℕ, List, ◌≤◌, ◌++◌, take, drop, length, length-append, arith, Result, Ok, Err}
use Rattle.std.specs.Prelude.{IsErrAnd}
use Rattle.std.proofs.Math.Seq.{take-append_seam, drop-append_seam}
use Rattle.visible_names.specs.Names.{Bound}
use Rattle.graph_emit.specs.declared.fault.EmitFault.{EmitFault}
use Rattle.graph_emit.specs.State.{State, Walk, closed, opened, scoped}
use Rattle.graph_emit.specs.Answers.{StepRefuses, Answers}
use Rattle.graph_emit.proofs.Steps.{given, refused, answer_ok, answer_err, state_is}

first_part : (a b c d : List Bound) → a ++ b ≡ c ++ d → length b ≡ length d → a ≡ c
first_part a b c d e n =
    let long : length a ≡ length c = omega (arith, ap length e, length-append a b, length-append c d) in
    sym (take-append_seam a b) ∙ ap (take (length a)) e ∙ ap (λ n. take n (c ++ d)) long ∙ take-append_seam c d

second_part : (a b c d : List Bound) → a ++ b ≡ c ++ d → length b ≡ length d → b ≡ d
second_part a b c d e n =
    let long : length a ≡ length c = omega (arith, ap length e, length-append a b, length-append c d) in
    sym (drop-append_seam a b) ∙ ap (drop (length a)) e ∙ ap (λ n. drop n (c ++ d)) long ∙ drop-append_seam c d

-- what a closed scope leaves
pub record Closes (before : State) (inside after : State) : Type 0 where
  pub vertices : after.vertices ≡ inside.vertices
  pub edges : after.edges ≡ inside.edges
  pub names : after.inner ++ after.outer ≡ inside.outer
  pub around : length after.outer ≡ length before.outer

left_as : (before inside after : State) → Closes before inside after → inside.outer ≡ before.inner ++ before.outer → record { vertices = inside.vertices; edges = inside.edges; inner = before.inner; outer = before.outer } ≡ after
left_as before inside after c o =
    let inner = first_part after.inner after.outer before.inner before.outer (c.names ∙ o) c.around in
    let outer = second_part after.inner after.outer before.inner before.outer (c.names ∙ o) c.around in
    state_is (record { vertices = inside.vertices; edges = inside.edges; inner = before.inner; outer = before.outer }) after (sym c.vertices) (sym c.edges) (sym inner) (sym outer)

pub scope_ends : {A : Type 0} {w : Walk A} (names : List Bound) (before start inside after : State) (a : A) → start ≡ opened names before → Answers w start (Ok a) inside → Closes before inside after → Answers (scoped names w) before (Ok a) after
scope_ends {w = w} names before start inside after a is h c =
    let g = given h in
    let o : inside.outer ≡ before.inner ++ before.outer = g.around ∙ ap (λ (s : State). s.outer) is in
    let left = left_as before inside after c o in
    answer_ok (record {
      walked = ap (λ s. closed before (w s)) (sym is) ∙ ap (closed before) g.walked ∙ ap (λ s. Ok (s, a)) left;
      around = second_part after.inner after.outer before.inner before.outer (c.names ∙ o) c.around;
    })

closed_refuses : {A : Type 0} (w : Walk A) (names : List Bound) (before : State) (e : EmitFault) → StepRefuses w (opened names before) e → StepRefuses (scoped names w) before e
closed_refuses w names before e (inl q) = inl q
closed_refuses w names before e (inr q) = inr (ap (closed before) q)

pub scope_stops : {A : Type 0} {w : Walk A} (names : List Bound) (before start inside after : State) (e : EmitFault) (r : Result A EmitFault) → start ≡ opened names before → Answers w start (Err e) inside → IsErrAnd r (λ x. x ≡ e) → Answers (scoped names w) before r after
scope_stops names before start inside after e (Ok a) begins h is = absurd is
scope_stops {w = w} names before start inside after e (Err f) begins h is =
    let P : EmitFault → Type 0 = λ f. StepRefuses (scoped names w) before f in
    let Q : State → Type 0 = λ s. StepRefuses w s e in
    answer_err (subst P (sym is) (closed_refuses w names before e (subst Q begins (refused h))))

-- inside a scope there are the names around it
pub scope_room : {A : Type 0} {w : Walk A} (names : List Bound) (before start inside : State) (a : A) (n : ℕ) → start ≡ opened names before → Answers w start (Ok a) inside → n ≡ length before.outer → n ≤ length inside.outer
scope_room names before start inside a n is h e =
    let o : inside.outer ≡ before.inner ++ before.outer = (given h).around ∙ ap (λ (s : State). s.outer) is in
    omega (arith, ap length o, length-append before.inner before.outer)
