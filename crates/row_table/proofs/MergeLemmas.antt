-- New edges go among others in order, one after the other, the last one first.
use Rattle.std.proofs.Common.{◌≡◌, ℕ, ◌+◌, ◌-◌, ◌<◌, ◌≤◌, ◌⊎◌, List, [], ◌∷◌, ◌++◌, length, get_or, take, drop, refl, sym, ap, subst, ◌∙◌, append_assoc, arith}
use Rattle.std.specs.Prelude.{All, Contains}
use Rattle.std.specs.List.Sorted.{IsPermutation}
use Rattle.std.proofs.Math.ListN.{set}
use Rattle.std.proofs.Math.Seq.{paste}
use Rattle.std.proofs.lemmas.List.{drop_at, drop_all, drop-set, length-drop, length-set, length-take, length-take-le, map-append, take-append-drop, take-append-le, take-set-le, take-take, take_all, take_more, drop-take, append-nil, get_or-take, get_or_default}
use Rattle.std.proofs.lemmas.List.Edits.{length-paste}
use Rattle.std.proofs.lemmas.List.Elements.{Contains-append_cases, Contains-push_cases}
use Rattle.std.proofs.lemmas.List.Sorted.{IsPermutation-refl, IsPermutation-trans, IsPermutation-append_comm, IsPermutation-append_left, IsPermutation-append_right}
use Rattle.graph_words.specs.declared.types.Edge.{Edge}
use Rattle.graph_words.specs.declared.types.Born.{Born}
use Rattle.graph_words.specs.Reach.{IsBefore, IsAscending}
use Rattle.closing_machine.specs.Rounds.{IsOrdered, IsInOrder, HasEdge, all_born, born}
use Rattle.closing_machine.proofs.Members.{either}
use Rattle.closing_machine.proofs.Ordered.{ordered_append}
use Rattle.row_table.specs.Index.{NoneBefore, PartsBefore, PutsEdge, StandBefore}
use Rattle.row_table.proofs.OrderLemmas.{before_trans, front_grows, one_first, place_in_part, part_ordered}

pub stand_none : (edges : List Born) (e : Edge) → StandBefore edges e 0
stand_none edges e = record { within = omega arith; before = λ k d lt. absurd (omega arith) }

pub none_behind : (edges : List Born) (e : Edge) → NoneBefore edges e (length edges)
none_behind edges e k d le lt = absurd (omega arith)

-- ---- the list while it is filled

module _ (before : List Born) (end left place : ℕ) (b : Born) (on : place ≤ end) (room : end + left < length before) where
  abbrev mid : List Born
  mid = take (end - place) (drop place before)

  abbrev head : List Born
  head = take (place + left + 1) before

  -- with the edges behind the new one moved up
  abbrev moved : List Born
  moved = paste before (place + left + 1) (drop place before) (end - place)

  head_long : length head ≡ place + left + 1
  head_long = length-take-le (place + left + 1) before (omega arith)

  moved_long : length moved ≡ length before
  moved_long = length-paste before (place + left + 1) (drop place before) (end - place) (omega arith) (let e = length-drop place before in omega arith)

  moved_is : moved ≡ head ++ (mid ++ drop (place + left + 1 + (end - place)) before)
  moved_is = append_assoc head mid (drop (place + left + 1 + (end - place)) before)

  moved_front : take place moved ≡ take place before
  moved_front =
      ap (λ (l : List Born). take place l) moved_is
      ∙ take-append-le place head (mid ++ drop (place + left + 1 + (end - place)) before) (let e : length head ≡ place + left + 1 = head_long in omega arith)
      ∙ take-take place (place + left + 1) before (omega arith)

  moved_behind : drop (place + left + 1) moved ≡ mid ++ drop (end + left + 1) before
  moved_behind =
      ap (λ (l : List Born). drop (place + left + 1) l) moved_is
      ∙ drop_at head (mid ++ drop (place + left + 1 + (end - place)) before) (place + left + 1) head_long
      ∙ ap (λ (n : ℕ). mid ++ drop n before) (let e : place + left + 1 + (end - place) ≡ end + left + 1 = omega arith in e)

  pub puts_edge : PartsBefore (take end before) b.edge place → PutsEdge before end left b place (set moved (place + left) b)
  puts_edge parts =
      let l : length moved ≡ length before = moved_long in
      record {
        parts = parts;
        front = take-set-le place moved (place + left) b (omega arith) ∙ moved_front;
        behind = drop-set moved (place + left) b (omega arith) ∙ ap (λ (r : List Born). b ∷ r) moved_behind;
        len = length-set moved (place + left) b ∙ moved_long;
      }

-- ---- what is put together

module _ (edges : List Born) (new : List Edge) (birth : ℕ) where
  -- the first `end` edges and the first `left` new ones are still to come, and the tail has the others
  pub record Merging (end left : ℕ) (tail : List Born) : Type 0 where
    pub within : end ≤ length edges
    pub within_new : left ≤ length new
    pub same : IsPermutation (edges ++ all_born new birth) ((take end edges ++ all_born (take left new) birth) ++ tail)
    pub ordered : IsOrdered tail
    pub old : (x : Born) → Contains tail x → (k : ℕ) (d : Born) → k < end → IsBefore (get_or edges k d).edge x.edge
    pub earlier : (x : Born) → Contains tail x → (k : ℕ) (d : Edge) → k < left → IsBefore (get_or new k d) x.edge

  pub Merging-start : Merging (length edges) (length new) []
  Merging-start =
      let all : edges ++ all_born new birth ≡ (take (length edges) edges ++ all_born (take (length new) new) birth) ++ [] =
      rw (take_all (length edges) edges (omega arith), take_all (length new) new (omega arith), append-nil (edges ++ all_born new birth)) refl in
      record {
        within = omega arith;
        within_new = omega arith;
        same = subst (λ (l : List Born). IsPermutation (edges ++ all_born new birth) l) all (IsPermutation-refl (edges ++ all_born new birth));
        ordered = λ i j d lt end. absurd (omega arith);
        old = λ x m. absurd (let lt : m.0 < 0 = m.1 in omega arith);
        earlier = λ x m. absurd (let lt : m.0 < 0 = m.1 in omega arith);
      }

  pub Merging-end : (end : ℕ) (tail : List Born) → IsOrdered edges → Merging end 0 tail → IsInOrder (edges ++ all_born new birth) (take end edges ++ tail)
  Merging-end end tail sorted h =
      record {
        same = rw (append-nil (take end edges)) at h.same;
        ordered = ordered_append (take end edges) tail (part_ordered edges 0 end sorted) h.ordered (λ x y mx my. before_tail x y my (place_in_part edges 0 end x mx));
      }
    where
      before_tail : (x y : Born) → Contains tail y → (k : ℕ) × (0 ≤ k) × (k < 0 + end) × (k < length edges) × (get_or edges k x ≡ x) → IsBefore x.edge y.edge
      before_tail x y my w = subst (λ (b : Born). IsBefore b.edge y.edge) w.4 (h.old y my w.0 x (let l : w.0 < 0 + end = w.2 in omega arith))

  module _ (end left place : ℕ) (tail : List Born) (e : Edge) (sorted : IsOrdered edges) (up : IsAscending new) (absent : All (λ x. HasEdge edges x → ⊥) new) (h : Merging end (left + 1) tail) (is : e ≡ get_or new left e) (parts : PartsBefore (take end edges) e place) where
    abbrev b : Born
    b = born e birth

    abbrev middle : List Born
    middle = take (end - place) (drop place edges)

    lt : left < length new
    lt = let l : left + 1 ≤ length new = h.within_new in omega arith

    on : place ≤ end
    on = let l : place ≤ length (take end edges) = parts.front.within in let e = length-take end edges in omega arith

    -- an old edge before the place stands before e, and one behind it and before the end stands behind e
    old_before : (k : ℕ) (d : Born) → k < place → IsBefore (get_or edges k d).edge e
    old_before k d l = subst (λ (x : Born). IsBefore x.edge e) (get_or-take end edges k d (let o = on in omega arith)) (parts.front.before k d l)

    not_there : (k : ℕ) (d : Born) → k < length edges → e ≡ (get_or edges k d).edge → ⊥
    not_there k d l s =
        let none : HasEdge edges e → ⊥ = subst (λ (y : Edge). HasEdge edges y → ⊥) (sym is) (absent left e lt) in
        none ((get_or edges k d).birth, (k, l, get_or_default edges k (born e (get_or edges k d).birth) d l ∙ ap (λ (y : Edge). born y (get_or edges k d).birth) (sym s)))

    old_behind : (k : ℕ) (d : Born) → place ≤ k → k < end → IsBefore e (get_or edges k d).edge
    old_behind k d le l =
        let here : k < length edges = (let w : end ≤ length edges = h.within in omega arith) in
        let inside : k < length (take end edges) = (let n = length-take end edges in omega arith) in
        let not_before : IsBefore (get_or edges k d).edge e → ⊥ = subst (λ (x : Born). IsBefore x.edge e → ⊥) (get_or-take end edges k d l) (parts.behind k d le inside) in
        either
        (λ (f : IsBefore e (get_or edges k d).edge). f)
        (λ (f : (e ≡ (get_or edges k d).edge) ⊎ IsBefore (get_or edges k d).edge e). either (λ (s : e ≡ (get_or edges k d).edge). absurd (not_there k d here s)) (λ (s : IsBefore (get_or edges k d).edge e). absurd (not_before s)) f)
        (one_first e (get_or edges k d).edge)

    middle_place : (x : Born) → Contains middle x → (k : ℕ) × (place ≤ k) × (k < end) × (k < length edges) × (get_or edges k x ≡ x)
    middle_place x m = let w = place_in_part edges place (end - place) x m in (w.0, w.1, (let l : w.0 < place + (end - place) = w.2 in let o = on in omega arith), w.3, w.4)

    middle_behind : (x : Born) → Contains middle x → IsBefore e x.edge
    middle_behind x m = let w = middle_place x m in subst (λ (y : Born). IsBefore e y.edge) w.4 (old_behind w.0 x w.1 w.2)

    tail_behind : (x : Born) → Contains tail x → IsBefore e x.edge
    tail_behind x m = subst (λ (y : Edge). IsBefore y x.edge) (sym is) (h.earlier x m left e (omega arith))

    rest_behind : (x : Born) → Contains (middle ++ tail) x → IsBefore e x.edge
    rest_behind x m = either (middle_behind x) (tail_behind x) (Contains-append_cases middle tail x m)

    rest_ordered : IsOrdered (middle ++ tail)
    rest_ordered = ordered_append middle tail (part_ordered edges place (end - place) sorted) h.ordered (λ x y mx my. let w = middle_place x mx in subst (λ (z : Born). IsBefore z.edge y.edge) w.4 (h.old y my w.0 x w.2))

    single_ordered : IsOrdered (b ∷ [])
    single_ordered j k d l lt2 = absurd (omega arith)

    is_single : (x : Born) → Contains (b ∷ []) x → b ≡ x
    is_single x m = either (λ (n : Contains [] x). absurd (let l : n.0 < 0 = n.1 in omega arith)) (λ (s : b ≡ x). s) (Contains-push_cases [] b x m)

    all_ordered : IsOrdered ((b ∷ []) ++ (middle ++ tail))
    all_ordered = ordered_append (b ∷ []) (middle ++ tail) single_ordered rest_ordered (λ x y mx my. subst (λ (z : Born). IsBefore z.edge y.edge) (is_single x mx) (rest_behind y my))

    -- what stands before e stands before all from it on
    from_e : (y : Edge) → IsBefore y e → (x : Born) → Contains ((b ∷ []) ++ (middle ++ tail)) x → IsBefore y x.edge
    from_e y f x m =
        either
        (λ (s : Contains (b ∷ []) x). subst (λ (z : Born). IsBefore y z.edge) (is_single x s) f)
        (λ (s : Contains (middle ++ tail) x). before_trans y e x.edge f (rest_behind x s))
        (Contains-append_cases (b ∷ []) (middle ++ tail) x m)

    new_before : (k : ℕ) (d : Edge) → k < left → IsBefore (get_or new k d) e
    new_before k d l = subst (λ (y : Edge). IsBefore (get_or new k d) y) (get_or_default new left d e lt ∙ sym is) (up k left d l lt)

    module _ (front fresh : List Born) where
      -- the middle and the new edge change places
      moved_over : IsPermutation (((front ++ middle) ++ (fresh ++ b ∷ [])) ++ tail) ((front ++ fresh) ++ (b ∷ (middle ++ tail)))
      moved_over =
          let a : (front ++ middle) ++ (fresh ++ b ∷ []) ≡ front ++ (middle ++ (fresh ++ b ∷ [])) = append_assoc front middle (fresh ++ b ∷ []) in
          let p : IsPermutation (front ++ (middle ++ (fresh ++ b ∷ []))) (front ++ ((fresh ++ b ∷ []) ++ middle)) = IsPermutation-append_right front (middle ++ (fresh ++ b ∷ [])) ((fresh ++ b ∷ []) ++ middle) (IsPermutation-append_comm middle (fresh ++ b ∷ [])) in
          let q : IsPermutation ((front ++ (middle ++ (fresh ++ b ∷ []))) ++ tail) ((front ++ ((fresh ++ b ∷ []) ++ middle)) ++ tail) = IsPermutation-append_left tail (front ++ (middle ++ (fresh ++ b ∷ []))) (front ++ ((fresh ++ b ∷ []) ++ middle)) p in
          let c : (front ++ ((fresh ++ b ∷ []) ++ middle)) ++ tail ≡ (front ++ fresh) ++ (b ∷ (middle ++ tail)) =
          append_assoc front ((fresh ++ b ∷ []) ++ middle) tail ∙ ap (λ (l : List Born). front ++ l) (append_assoc (fresh ++ b ∷ []) middle tail ∙ append_assoc fresh (b ∷ []) (middle ++ tail)) ∙ sym (append_assoc front fresh (b ∷ (middle ++ tail))) in
          subst (λ (l : List Born). IsPermutation (l ++ tail) ((front ++ fresh) ++ (b ∷ (middle ++ tail)))) (sym a) (subst (λ (l : List Born). IsPermutation ((front ++ (middle ++ (fresh ++ b ∷ []))) ++ tail) l) c q)

    parts_of_edges : take end edges ≡ take place edges ++ middle
    parts_of_edges = sym (front_grows edges place end on)

    parts_of_new : all_born (take (left + 1) new) birth ≡ all_born (take left new) birth ++ b ∷ []
    parts_of_new =
        ap (λ (l : List Edge). all_born l birth) (take_more new left e lt)
        ∙ map-append (λ (y : Edge). born y birth) (take left new) (get_or new left e ∷ [])
        ∙ ap (λ (y : Edge). all_born (take left new) birth ++ born y birth ∷ []) (sym is)

    same_more : IsPermutation (edges ++ all_born new birth) ((take place edges ++ all_born (take left new) birth) ++ (b ∷ (middle ++ tail)))
    same_more =
        let was : (take end edges ++ all_born (take (left + 1) new) birth) ++ tail ≡ ((take place edges ++ middle) ++ (all_born (take left new) birth ++ b ∷ [])) ++ tail =
        ap (λ (l : List Born). (l ++ all_born (take (left + 1) new) birth) ++ tail) parts_of_edges ∙ ap (λ (l : List Born). ((take place edges ++ middle) ++ l) ++ tail) parts_of_new in
        IsPermutation-trans (edges ++ all_born new birth) (((take place edges ++ middle) ++ (all_born (take left new) birth ++ b ∷ [])) ++ tail) ((take place edges ++ all_born (take left new) birth) ++ (b ∷ (middle ++ tail)))
        (subst (λ (l : List Born). IsPermutation (edges ++ all_born new birth) l) was h.same)
        (moved_over (take place edges) (all_born (take left new) birth))

    pub Merging-more : Merging place left (b ∷ (middle ++ tail))
    Merging-more =
        record {
          within = (let o = on in let w : end ≤ length edges = h.within in omega arith);
          within_new = (let l = lt in omega arith);
          same = same_more;
          ordered = all_ordered;
          old = λ x m k d l. from_e (get_or edges k d).edge (old_before k d l) x m;
          earlier = λ x m k d l. from_e (get_or new k d) (new_before k d l) x m;
        }

  -- the list has what is still to come at its start, and the tail at its end
  pub record Filling (end left : ℕ) (all : List Born) : Type 0 where
    pub len : length all ≡ length edges + length new
    pub front : take end all ≡ take end edges
    pub merging : Merging end left (drop (end + left) all)

  pub Filling-start : (all room : List Born) (total : ℕ) → total ≡ length edges + length new → all ≡ take total edges ++ room → length all ≡ total → Filling (length edges) (length new) all
  Filling-start all room total e is len =
      let whole : take total edges ≡ edges = take_all total edges (omega arith) in
      let begins : all ≡ edges ++ room = is ∙ ap (λ (l : List Born). l ++ room) whole in
      record {
        len = len ∙ e;
        front = ap (λ (l : List Born). take (length edges) l) begins ∙ take-append-le (length edges) edges room (omega arith);
        merging = rw (drop_all (length edges + length new) all (omega arith)) Merging-start;
      }

  pub Filling-more : (end left place : ℕ) (all after : List Born) (e : Edge) → IsOrdered edges → IsAscending new → All (λ x. HasEdge edges x → ⊥) new → Filling end (left + 1) all → e ≡ get_or new left e → PutsEdge all end left (born e birth) place after → Filling place left after
  Filling-more end left place all after e sorted up absent h is put =
      let parts : PartsBefore (take end edges) e place = subst (λ (l : List Born). PartsBefore l e place) h.front put.parts in
      let less : place ≤ end = on end left place (drop (end + (left + 1)) all) e sorted up absent h.merging is parts in
      let same_middle : take (end - place) (drop place all) ≡ take (end - place) (drop place edges) = middle_of place end all edges less h.front in
      let tail : drop (place + left) after ≡ born e birth ∷ (take (end - place) (drop place edges) ++ drop (end + (left + 1)) all) =
      put.behind ∙ ap (λ (l : List Born). born e birth ∷ (l ++ drop (end + left + 1) all)) same_middle ∙ ap (λ (n : ℕ). born e birth ∷ (take (end - place) (drop place edges) ++ drop n all)) (let a : end + left + 1 ≡ end + (left + 1) = omega arith in a) in
      record {
        len = put.len ∙ h.len;
        front = put.front ∙ sym (take-take place end all less) ∙ ap (λ (l : List Born). take place l) h.front ∙ take-take place end edges less;
        merging = subst (λ (l : List Born). Merging place left l) (sym tail) (Merging-more end left place (drop (end + (left + 1)) all) e sorted up absent h.merging is parts);
      }
    where
      middle_of : (place end : ℕ) (xs ys : List Born) → place ≤ end → take end xs ≡ take end ys → take (end - place) (drop place xs) ≡ take (end - place) (drop place ys)
      middle_of place end xs ys le e =
          let n : place + (end - place) ≡ end = omega arith in
          sym (drop-take place (end - place) xs) ∙ ap (λ (l : List Born). drop place l) (ap (λ (k : ℕ). take k xs) n ∙ e ∙ ap (λ (k : ℕ). take k ys) (sym n)) ∙ drop-take place (end - place) ys

  pub Filling-end : (end : ℕ) (all : List Born) → IsOrdered edges → Filling end 0 all → IsInOrder (edges ++ all_born new birth) all
  Filling-end end all sorted h =
      let whole : take end edges ++ drop (end + 0) all ≡ all = ap (λ (l : List Born). l ++ drop (end + 0) all) (sym h.front) ∙ ap (λ (n : ℕ). take end all ++ drop n all) (let a : end + 0 ≡ end = omega arith in a) ∙ take-append-drop end all in
      subst (λ (l : List Born). IsInOrder (edges ++ all_born new birth) l) whole (Merging-end end (drop (end + 0) all) sorted h.merging)

-- how far the places reach
pub filling_room : (edges : List Born) (new : List Edge) (birth end left : ℕ) (all : List Born) → Filling edges new birth end (left + 1) all → end + left < length all
filling_room edges new birth end left all h = let a : length all ≡ length edges + length new = h.len in let b : end ≤ length edges = h.merging.within in let c : left + 1 ≤ length new = h.merging.within_new in omega arith
