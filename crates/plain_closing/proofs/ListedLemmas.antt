-- An edge more, in the list and in the set.
use Rattle.std.proofs.Common.{◌≡◌, ◌⊎◌, List, [], ◌∷◌, ◌++◌, Bool, true, false, cond, not, sym, ◌∙◌, ap, subst, inl, inr, refl}
use Rattle.std.specs.Prelude.{Contains, IsTrue}
use Rattle.std.specs.Ordering.{is_eq}
use Rattle.std.specs.BTreeSet.{BTreeSet, contains, Updates}
use Rattle.std.proofs.lemmas.Bool.{false≢true}
use Rattle.std.proofs.lemmas.List.Elements.{Contains-append_left, Contains-push, Contains-push_cases}
use Rattle.graph_words.specs.declared.types.Edge.{Edge}
use Rattle.plain_closing.specs.Listed.{edge_cmp, IsListed}
use Rattle.plain_closing.specs.Joins.{AddsNew}
use Rattle.plain_closing.proofs.Once.{IsOnce-push}
use Rattle.plain_closing.proofs.Order.{edges_are_same, edge_is_itself}

-- an edge that the set lacks is added to both
module _ (known new : BTreeSet Edge) (edges : List Edge) (e : Edge) (is : IsListed edges known) (up : Updates edge_cmp known new e true) (absent : contains edge_cmp known e ≡ false) where
  there : (q : Edge) (t : Bool) → is_eq (edge_cmp e q) ≡ t → IsTrue (contains edge_cmp new q) → Contains (edges ++ e ∷ []) q
  there q true h has = subst (λ (x : Edge). Contains (edges ++ e ∷ []) x) (edges_are_same e q h) (Contains-push edges e)
  there q false h has = Contains-append_left edges (e ∷ []) q ((is.same q).0 (sym (up.0 q ∙ ap (λ t. cond t true (contains edge_cmp known q)) h) ∙ has))

  back : (q : Edge) (t : Bool) → is_eq (edge_cmp e q) ≡ t → Contains edges q ⊎ (e ≡ q) → IsTrue (contains edge_cmp new q)
  back q true h has = up.0 q ∙ ap (λ t. cond t true (contains edge_cmp known q)) h
  back q false h (inl m) = up.0 q ∙ ap (λ t. cond t true (contains edge_cmp known q)) h ∙ (is.same q).1 m
  back q false h (inr same) = absurd (false≢true (sym h ∙ ap (λ x. is_eq (edge_cmp e x)) (sym same) ∙ edge_is_itself e))

  pub IsListed-push : IsListed (edges ++ e ∷ []) new
  IsListed-push =
      record {
        once = IsOnce-push edges e is.once (λ m. false≢true (sym absent ∙ (is.same e).1 m));
        same = λ q. (there q (is_eq (edge_cmp e q)) refl, λ m. back q (is_eq (edge_cmp e q)) refl (Contains-push_cases edges e q m));
      }

-- a test that is negated
pub negated : (b : Bool) → not b ≡ true → b ≡ false
negated false h = refl
negated true h = absurd (false≢true h)

pub negated_not : (b : Bool) → not b ≡ false → b ≡ true
negated_not true h = refl
negated_not false h = absurd (false≢true (sym h))

-- the set says of the list which edges are there
pub AddsNew-absent : (known : BTreeSet Edge) (before edges after : List Edge) (e : Edge) → before ≡ edges → IsListed edges known → contains edge_cmp known e ≡ false → after ≡ edges ++ e ∷ [] → AddsNew before after e
AddsNew-absent known before edges after e same is absent pushed =
    inr ((λ m. false≢true (sym absent ∙ (is.same e).1 (subst (λ (l : List Edge). Contains l e) same m))), pushed ∙ ap (λ l. l ++ e ∷ []) (sym same))

pub AddsNew-present : (known : BTreeSet Edge) (before edges after : List Edge) (e : Edge) → before ≡ edges → IsListed edges known → contains edge_cmp known e ≡ true → after ≡ edges → AddsNew before after e
AddsNew-present known before edges after e same is present kept =
    inl (subst (λ (l : List Edge). Contains l e) (sym same) ((is.same e).0 present), kept ∙ sym same)
