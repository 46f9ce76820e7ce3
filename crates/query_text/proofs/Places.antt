-- The answers from a vertex stand in the partition that holds it.
use Rattle.std.proofs.Common.{◌≡◌, ℕ, ◌==◌, ◌&&◌, Bool, true, false, List, [], ◌∷◌, refl, sym, ap, ◌∙◌, arith}
use Rattle.std.specs.Prelude.{filter, slice_index_or, Option, Some}
use Rattle.std.proofs.lemmas.Bool.Decides.{nat_tests}
use Rattle.graph_words.specs.declared.types.Born.{Born}
use Rattle.graph_words.specs.declared.types.LabelId.{LabelId}
use Rattle.closing_machine.specs.State.{EndsCut, part, place}
use Rattle.closing_machine.specs.Parts.{ArePartitions, all_edges}
use Rattle.closing_machine.proofs.Partitions.{all_where_one, filter_partitions}
use Rattle.query_text.specs.Text.{answers_in, is_answer, is_asked}

both : (p q : Bool) → (p && q) ≡ true → (p ≡ true) × (q ≡ true)
both true q e = (refl, e)
both false q e = absurd (cc)

same_number : (a b : ℕ) → (a == b) ≡ true → a ≡ b
same_number a b e = grind (arith, nat_tests)

is_same : (a b : ℕ) → a ≡ b → (a == b) ≡ true
is_same a b e = grind (arith, nat_tests)

-- what passes one test passes the other too
filter_one : (p q : Born → Bool) (x : Born) (xs : List Born) (t u : Bool) → p x ≡ t → q x ≡ u → (p x ≡ true → q x ≡ true) → filter p (filter q xs) ≡ filter p xs → filter p (filter q (x ∷ xs)) ≡ filter p (x ∷ xs)
filter_one p q x xs true true e f up later = rw (f, e, later) refl
filter_one p q x xs true false e f up later = absurd (let g = up e in cc)
filter_one p q x xs false true e f up later = rw (f, e, later) refl
filter_one p q x xs false false e f up later = rw (f, e, later) refl

filter_within : (p q : Born → Bool) (xs : List Born) → ((b : Born) → p b ≡ true → q b ≡ true) → filter p (filter q xs) ≡ filter p xs
filter_within p q [] up = refl
filter_within p q (x ∷ xs) up = filter_one p q x xs (p x) (q x) refl refl (up x) (filter_within p q xs up)

pub answers_from : (ends : List ℕ) (parts : List (List Born)) (top : ℕ) (label : LabelId) (u : ℕ) (to : Option ℕ) → EndsCut 0 ends top → ArePartitions 0 ends parts → answers_in label (Some u) to (all_edges parts) ≡ answers_in label (Some u) to (slice_index_or parts (place ends u) [])
answers_from ends parts top label u to cut are =
    let test = λ (k : ℕ). k == place ends u in
    let here = λ (b : Born) (e : is_answer label (Some u) to b ≡ true). let two = both (b.edge.label.0 == label.0) ((b.edge.src.0 == u) && is_asked to b.edge.dst.0) e in let from = both (b.edge.src.0 == u) (is_asked to b.edge.dst.0) two.1 in is_same (part ends b) (place ends u) (ap (place ends) (same_number b.edge.src.0 u from.0)) in
    sym (filter_within (is_answer label (Some u) to) (λ b. test (part ends b)) (all_edges parts) here)
    ∙ ap (λ (l : List Born). answers_in label (Some u) to l) (filter_partitions test 0 ends top parts cut are ∙ all_where_one parts (place ends u))
