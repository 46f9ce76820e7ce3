-- A list in which no edge stands twice, one edge longer.
use Rattle.std.proofs.Common.{◌≢◌, List, [], ◌∷◌, ◌++◌, subst}
use Rattle.std.specs.Prelude.{Contains}
use Rattle.std.proofs.lemmas.List.Elements.{Contains-get_or}
use Rattle.std.proofs.lemmas.List.Quantifiers.{all_pairs_push}
use Rattle.graph_words.specs.declared.types.Edge.{Edge}
use Rattle.plain_closing.specs.Joins.{IsOnce}

pub IsOnce-push : (xs : List Edge) (e : Edge) → IsOnce xs → (Contains xs e → ⊥) → IsOnce (xs ++ e ∷ [])
IsOnce-push xs e once new = all_pairs_push (λ x y. x ≢ y) xs e once (λ k d h same. new (subst (λ (x : Edge). Contains xs x) same (Contains-get_or xs k d h)))
