use Rattle.std.proofs.Common.{◌≡◌, ℕ, ◌+◌, ◌<◌, ◌⊎◌, List, [], ◌∷◌, ◌++◌, get_or, take, length, arith, subst, sym, ap, inl, inr, ◌≤◌, ◌∙◌}
use Rattle.std.specs.Prelude.{Contains}
use Rattle.std.proofs.lemmas.List.{take_more, take_all}
use Rattle.std.proofs.lemmas.List.Elements.{Contains-append_left, Contains-push, Contains-push_cases}
use Rattle.graph_words.specs.declared.types.LabelId.{LabelId}
use Rattle.normal_form.specs.declared.joins.Join.{Join}
use Rattle.normal_form.specs.Joins.{HasJoin}
use Rattle.normal_form.proofs.joins.JoinRow.seconds.Goals as goal

either : {A B C : Type 0} → (A → C) → (B → C) → A ⊎ B → C
either f h (inl a) = f a
either f h (inr b) = h b

more : (joins : List Join) (i : ℕ) (d : Join) (out : List LabelId) → i < length joins → ((j : Join) → Contains (take i joins) j → Contains out j.second) → (j : Join) → Contains (take (i + 1) joins) j → Contains (out ++ (get_or joins i d).second ∷ []) j.second
more joins i d out lt h j m =
    either
    (λ (p : Contains (take i joins) j). Contains-append_left out ((get_or joins i d).second ∷ []) j.second (h j p))
    (λ (e : get_or joins i d ≡ j). subst (λ (l : LabelId). Contains (out ++ (get_or joins i d).second ∷ []) l) (ap (λ (k : Join). k.second) e) (Contains-push out (get_or joins i d).second))
    (Contains-push_cases (take i joins) (get_or joins i d) j (rw (take_more joins i d lt) at m))

same : (joins : List Join) (i : ℕ) (d : Join) (out : List LabelId) → i < length joins → d ≡ get_or joins i d → ((j : Join) → Contains (take i joins) j → Contains out j.second) → (j : Join) → Contains (take (i + 1) joins) j → Contains (out ++ d.second ∷ []) j.second
same joins i d out lt is h j m = subst (λ (k : Join). Contains (out ++ k.second ∷ []) j.second) (sym is) (more joins i d out lt h j m)

all : (row joins : List Join) (i : ℕ) (out : List LabelId) → joins ≡ row → length joins ≤ i → ((j : Join) → Contains (take i joins) j → Contains out j.second) → (c a : LabelId) → HasJoin row c a → Contains out c
all row joins i out e le h c a j = subst (λ (l : LabelId). Contains out l) j.2 (h j.0 (rw (take_all i joins le, e) j.1))

none : (out : List LabelId) (j : Join) → Contains [] j → Contains out j.second
none out j m = absurd (let l : m.0 < 0 = m.1 in omega arith)

pub loop-join-init : goal.loop-join-init
loop-join-init c = none c.args.out.now.items

pub loop-join-preserved : goal.loop-join-preserved
loop-join-preserved c =
    rw c.in_ok-push.ensures.items (same _ c.loop-join.join-index c.join-item.result c.loop-join.out.items c.loop-join-test.true c.join-item.is c.loop-join.invariant)

pub returns : goal.returns
returns c =
    all c.args.self.now _ c.loop-join.join-index c.loop-join.out.items (c.deref-join-items.ensures.value ∙ c.self.view_is) c.loop-join-test.false c.loop-join.invariant
