-- The edges of partitions, all together.
use Rattle.std.proofs.Common.{◌≡◌, ℕ, zero, suc, ◌<◌, List, [], ◌∷◌, ◌++◌, length, get_or, sym, ap, ◌∙◌, append_assoc, append-nil, arith}
use Rattle.std.specs.Prelude.{All, Contains}
use Rattle.std.proofs.lemmas.List.Elements.{All-nil, All-append, Contains-append_left, Contains-append_right}
use Rattle.graph_words.specs.declared.types.Born.{Born}
use Rattle.closing_machine.specs.Parts.{all_edges}

-- what holds of the edges of each holds of all
pub all_of : (P : Born → Type 0) (parts : List (List Born)) → ((k : ℕ) → k < length parts → All P (get_or parts k [])) → All P (all_edges parts)
all_of P [] each = All-nil P
all_of P (p ∷ ps) each = All-append P p (all_edges ps) (each zero (omega arith)) (all_of P ps (λ k low. each (suc k) (omega (arith, low))))

pub stands : (parts : List (List Born)) (k : ℕ) (b : Born) → k < length parts → Contains (get_or parts k []) b → Contains (all_edges parts) b
stands [] k b low there = absurd (omega (arith, low))
stands (p ∷ ps) zero b low there = Contains-append_left p (all_edges ps) b there
stands (p ∷ ps) (suc k) b low there = Contains-append_right p (all_edges ps) b (stands ps k b (omega (arith, low)) there)

pub one_part_more : (parts : List (List Born)) (p : List Born) → all_edges (parts ++ p ∷ []) ≡ all_edges parts ++ p
one_part_more [] p = append-nil p
one_part_more (q ∷ qs) p = ap (λ (t : List Born). q ++ t) (one_part_more qs p) ∙ sym (append_assoc q (all_edges qs) p)
