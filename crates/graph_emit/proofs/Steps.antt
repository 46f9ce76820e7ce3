-- Steps one after the other, and what the code answers of them.
use Rattle.std.proofs.Common.{◌≡◌, inl, inr, refl, sym, ap, ◌∙◌, subst, Result, Ok, Err}
use Rattle.std.specs.Prelude.{IsErrAnd}
use Rattle.faults.specs.declared.kinds.InputKind.{InputKind}
use Rattle.c_tree.specs.declared.tree.Tok.{Tok}
use Rattle.graph_emit.specs.declared.fault.EmitFault.{EmitFault}
use Rattle.graph_emit.specs.declared.fault.EmitFault.TheVariants as fault
use Rattle.graph_emit.specs.State.{State, Walk, done, refuse, and_then, ◌⟫◌}
use Rattle.graph_emit.specs.Answers.{WalkGives, StepRefuses, AnswersAs, Answers}

-- ---- answers
-- what a call gave whose answer is at hand
pub given : {R A : Type 0} {seen : R → A} {w : Walk A} {before after : State} {a : R} → AnswersAs seen w before (Ok a) after → WalkGives w before (seen a) after
given {a = a} h = h.gives a refl

pub refused : {R A : Type 0} {seen : R → A} {w : Walk A} {before after : State} {e : EmitFault} → AnswersAs seen w before (Err e) after → StepRefuses w before e
refused {e = e} h = h.refuses e refl

pub answer_ok : {R A : Type 0} {seen : R → A} {w : Walk A} {before after : State} {a : R} → WalkGives w before (seen a) after → AnswersAs seen w before (Ok a) after
answer_ok {seen = seen} {w = w} {before = before} {after = after} {a = a} g = record {
  gives = λ b e. subst (λ b. WalkGives w before (seen b) after) (let f : a ≡ b = cc in f) g;
  refuses = λ e h. absurd (cc);
}

pub answer_err : {R A : Type 0} {seen : R → A} {w : Walk A} {before after : State} {e : EmitFault} → StepRefuses w before e → AnswersAs seen w before (Err e) after
answer_err {w = w} {before = before} {e = e} g = record {
  gives = λ b h. absurd (cc);
  refuses = λ f h. subst (λ f. StepRefuses w before f) (let same : e ≡ f = cc in same) g;
}

pub no_memory : {R A : Type 0} {seen : R → A} {w : Walk A} {before after : State} (r : Result R EmitFault) → IsErrAnd r (λ e. e ≡ fault.NoMemory) → AnswersAs seen w before r after
no_memory (Ok a) h = absurd h
no_memory (Err e) h = answer_err (inl h)

-- ---- on the way
-- what is left from here on answers what the whole does
pub record GoesOn {A : Type 0} (whole : Walk A) (before : State) (rest : Walk A) (now : State) : Type 0 where
  pub same : whole before ≡ rest now
  pub around : now.outer ≡ before.outer

pub starts : {A : Type 0} (w : Walk A) (s : State) → GoesOn w s w s
starts w s = record { same = refl; around = refl }

-- the whole by the layer of its tree
pub starts_by : {A : Type 0} {whole rest : Walk A} (s : State) → whole ≡ rest → GoesOn whole s rest s
starts_by s e = record { same = ap (λ w. w s) e; around = refl }

-- the rest, said otherwise
pub goes_as : {A : Type 0} {whole rest more : Walk A} {before now : State} → GoesOn whole before rest now → rest ≡ more → GoesOn whole before more now
goes_as {now = now} g e = record { same = g.same ∙ ap (λ w. w now) e; around = g.around }

-- one step on
pub goes : {A B : Type 0} {whole : Walk B} {before now after : State} {w : Walk A} {a : A} (next : A → Walk B) → GoesOn whole before (w ⟫ next) now → WalkGives w now a after → GoesOn whole before (next a) after
unfolding ◌⟫◌
goes next g h = record { same = g.same ∙ ap (λ x. and_then x next) h.walked; around = h.around ∙ g.around }

pub goes_by : {R A B : Type 0} {seen : R → A} {whole : Walk B} {before now after : State} {w : Walk A} {a : R} (next : A → Walk B) → GoesOn whole before (w ⟫ next) now → AnswersAs seen w now (Ok a) after → GoesOn whole before (next (seen a)) after
goes_by next g h = goes next g (given h)

-- ---- and at the end
pub stops : {A B : Type 0} {whole : Walk B} {before now : State} (w : Walk A) (next : A → Walk B) (e : EmitFault) → GoesOn whole before (w ⟫ next) now → StepRefuses w now e → StepRefuses whole before e
unfolding ◌⟫◌
stops w next e g (inl q) = inl q
stops w next e g (inr q) = inr (g.same ∙ ap (λ x. and_then x next) q)

-- a step that is refused refuses the whole
pub stops_on : {S A B : Type 0} {see : S → B} {whole : Walk B} {before now left : State} (w : Walk A) (next : A → Walk B) (e : EmitFault) (r : Result S EmitFault) → GoesOn whole before (w ⟫ next) now → StepRefuses w now e → IsErrAnd r (λ x. x ≡ e) → AnswersAs see whole before r left
stops_on w next e (Ok a) g h is = absurd is
stops_on {whole = whole} {before = before} w next e (Err f) g h is = answer_err (subst (λ f. StepRefuses whole before f) (sym is) (stops w next e g h))

pub stops_by : {R S A B : Type 0} {see : S → B} {seen : R → A} {whole : Walk B} {before now after left : State} {w : Walk A} {e : EmitFault} (next : A → Walk B) (r : Result S EmitFault) → GoesOn whole before (w ⟫ next) now → AnswersAs seen w now (Err e) after → IsErrAnd r (λ x. x ≡ e) → AnswersAs see whole before r left
stops_by {w = w} {e = e} next r g h is = stops_on w next e r g (refused h) is

-- the last step
pub refuses_on : {A : Type 0} {whole rest : Walk A} {before now : State} {e : EmitFault} → GoesOn whole before rest now → StepRefuses rest now e → StepRefuses whole before e
refuses_on g (inl q) = inl q
refuses_on g (inr q) = inr (g.same ∙ q)

pub ends : {R A : Type 0} {seen : R → A} {whole rest : Walk A} {before now after : State} {r : Result R EmitFault} → GoesOn whole before rest now → AnswersAs seen rest now r after → AnswersAs seen whole before r after
ends g h = record {
  gives = λ a e. record { walked = g.same ∙ (h.gives a e).walked; around = (h.gives a e).around ∙ g.around };
  refuses = λ e is. refuses_on g (h.refuses e is);
}

pub ends_done : {A : Type 0} {whole : Walk A} {before now : State} {a : A} → GoesOn whole before (done a) now → Answers whole before (Ok a) now
ends_done g = answer_ok (record { walked = g.same; around = g.around })

-- the last step gives what the code answers
pub ends_as : {R A : Type 0} {seen : R → A} {whole : Walk A} {before now : State} {a : A} (r : R) → GoesOn whole before (done a) now → seen r ≡ a → AnswersAs seen whole before (Ok r) now
ends_as {now = now} r g is = answer_ok (record { walked = g.same ∙ ap (λ a. Ok (now, a)) (sym is); around = g.around })

pub ends_refused : {R A : Type 0} {seen : R → A} {whole : Walk A} {before now after : State} {why : InputKind} {e : EmitFault} (tok : Tok) → GoesOn whole before (refuse tok why) now → e ≡ fault.At tok.line why → AnswersAs seen whole before (Err e) after
ends_refused tok g is = answer_err (inr (g.same ∙ ap Err (sym is)))

-- ---- states
pub state_is : (a b : State) → a.vertices ≡ b.vertices → a.edges ≡ b.edges → a.inner ≡ b.inner → a.outer ≡ b.outer → a ≡ b
state_is a b v e i o =
    ap (λ x. let s : State = record { vertices = x; edges = a.edges; inner = a.inner; outer = a.outer } in s) v
    ∙ ap (λ x. let s : State = record { vertices = b.vertices; edges = x; inner = a.inner; outer = a.outer } in s) e
    ∙ ap (λ x. let s : State = record { vertices = b.vertices; edges = b.edges; inner = x; outer = a.outer } in s) i
    ∙ ap (λ x. let s : State = record { vertices = b.vertices; edges = b.edges; inner = b.inner; outer = x } in s) o

pub pair_of : {A : Type 0} (x y : State × A) → (let r : Result (State × A) EmitFault = Ok x in r) ≡ Ok y → x ≡ y
pair_of x y e = cc
