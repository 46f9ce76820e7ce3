-- Where dereferences and addresses are found, with a vertex more.
use Rattle.std.proofs.Common.{◌≡◌, ◌∙◌, sym, ap, refl, subst, ℕ, suc, ◌+◌, ◌<◌, ◌==◌, Bool, true, false, cond, List, [], ◌∷◌, ◌++◌, length, Option, Some, None, arith, add-one, length-append}
use Rattle.std.specs.Prelude.{nat_eq}
use Rattle.std.specs.Option.{option_map}
use Rattle.std.specs.Map.{update}
use Rattle.std.specs.BTreeMap.{BTreeMap}
use Rattle.std.proofs.lemmas.Bool.{eqb-true}
use Rattle.emit_list.specs.declared.vertex.VertexForm.{VertexForm}
use Rattle.emit_list.specs.declared.vertex.VertexForm.TheVariants as form
use Rattle.emit_list.specs.declared.vertex.TheConstants.{MOST_VERTICES}
use Rattle.emit_list.specs.Vertices.{made_for}
use Rattle.graph_emit.specs.State.{Made, is_deref_of, is_address_of, place_of}
use Rattle.graph_emit.specs.Answers.{IsIndexed, at_number}

place_other : (p : VertexForm → Bool) (ms : List Made) (x : Made) → p x.form ≡ false → place_of p (ms ++ x ∷ []) ≡ place_of p ms
place_other p [] x h = ap (λ t. cond t (Some 0) None) h
place_other p (m ∷ ms) x h = ap (λ o. cond (p m.form) (Some 0) (option_map (λ n. n + 1) o)) (place_other p ms x h)

first_step : (t : Bool) (o more : Option ℕ) (n : ℕ) → cond t (Some 0) (option_map (λ k. k + 1) o) ≡ None → (o ≡ None → more ≡ Some n) → cond t (Some 0) (option_map (λ k. k + 1) more) ≡ Some (suc n)
first_step true o more n h f = absurd (cc)
first_step false None more n h f = ap (option_map (λ k. k + 1)) (f refl) ∙ ap Some (add-one n)
first_step false (Some k) more n h f = absurd (cc)

place_first : (p : VertexForm → Bool) (ms : List Made) (x : Made) → place_of p ms ≡ None → p x.form ≡ true → place_of p (ms ++ x ∷ []) ≡ Some (length ms)
place_first p [] x n h = ap (λ t. cond t (Some 0) None) h
place_first p (m ∷ ms) x n h = first_step (p m.form) (place_of p ms) (place_of p (ms ++ x ∷ [])) (length ms) n (λ e. place_first p ms x e h)

no_deref : (v : ℕ) (f : VertexForm) → made_for f ≡ None → is_deref_of v f ≡ false
no_deref v form.Variable h = refl
no_deref v form.Return h = refl
no_deref v (form.Deref base) h = absurd (cc)
no_deref v (form.Address base) h = refl
no_deref v form.Number h = refl
no_deref v form.Null h = refl
no_deref v form.Op h = refl
no_deref v form.Call h = refl
no_deref v form.Malloc h = refl

no_address : (v : ℕ) (f : VertexForm) → made_for f ≡ None → is_address_of v f ≡ false
no_address v form.Variable h = refl
no_address v form.Return h = refl
no_address v (form.Deref base) h = refl
no_address v (form.Address base) h = absurd (cc)
no_address v form.Number h = refl
no_address v form.Null h = refl
no_address v form.Op h = refl
no_address v form.Call h = refl
no_address v form.Malloc h = refl

pub indexed_plain : (ms : List Made) (x : Made) (d a : BTreeMap ℕ ℕ) → IsIndexed ms d a → length ms < MOST_VERTICES → made_for x.form ≡ None → IsIndexed (ms ++ x ∷ []) d a
indexed_plain ms x d a i room h = record {
  few = omega (arith, length-append ms (x ∷ []));
  deref = λ v. i.deref v ∙ sym (place_other (is_deref_of v) ms x (no_deref v x.form h));
  address = λ v. i.address v ∙ sym (place_other (is_address_of v) ms x (no_address v x.form h));
}

-- a form that is found at v, which was not found before
found_at : (is : ℕ → VertexForm → Bool) (ms : List Made) (x : Made) (v q : ℕ) (t : Bool) (before : Option ℕ) → (v == q) ≡ t → ((k : ℕ) → is k x.form ≡ (v == k)) → place_of (is v) ms ≡ None → before ≡ place_of (is q) ms
    → cond t (Some (length ms)) before ≡ place_of (is q) (ms ++ x ∷ [])
found_at is ms x v q true before e f none b =
    let same : v ≡ q = eqb-true v q e in
    sym (place_first (is q) ms x (subst (λ k. place_of (is k) ms ≡ None) same none) (f q ∙ e))
found_at is ms x v q false before e f none b = b ∙ sym (place_other (is q) ms x (f q ∙ e))

pub indexed_deref : (ms : List Made) (name : List ℕ) (token v : ℕ) (d e a : BTreeMap ℕ ℕ) → IsIndexed ms d a → length ms < MOST_VERTICES → at_number d v ≡ None
    → ((q : ℕ) → at_number e q ≡ update nat_eq (at_number d) v (Some (length ms)) q) → IsIndexed (ms ++ record { form = form.Deref v; name = name; token = token } ∷ []) e a
indexed_deref ms name token v d e a i room none u =
    let x : Made = record { form = form.Deref v; name = name; token = token } in
    record {
      few = omega (arith, length-append ms (x ∷ []));
      deref = λ q. u q ∙ found_at is_deref_of ms x v q (v == q) (at_number d q) refl (λ k. refl) (sym (i.deref v) ∙ none) (i.deref q);
      address = λ q. i.address q ∙ sym (place_other (is_address_of q) ms x refl);
    }

pub indexed_address : (ms : List Made) (name : List ℕ) (token v : ℕ) (d a b : BTreeMap ℕ ℕ) → IsIndexed ms d a → length ms < MOST_VERTICES → at_number a v ≡ None
    → ((q : ℕ) → at_number b q ≡ update nat_eq (at_number a) v (Some (length ms)) q) → IsIndexed (ms ++ record { form = form.Address v; name = name; token = token } ∷ []) d b
indexed_address ms name token v d a b i room none u =
    let x : Made = record { form = form.Address v; name = name; token = token } in
    record {
      few = omega (arith, length-append ms (x ∷ []));
      deref = λ q. i.deref q ∙ sym (place_other (is_deref_of q) ms x refl);
      address = λ q. u q ∙ found_at is_address_of ms x v q (v == q) (at_number a q) refl (λ k. refl) (sym (i.address v) ∙ none) (i.address q);
    }
