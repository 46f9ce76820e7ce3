-- Edges with one end are chained, from the last one on.
use Rattle.std.proofs.Common.{◌≡◌, ◌≢◌, ℕ, ◌+◌, ◌<◌, ◌≤◌, List, length, get_or, replicate, sym, ap, subst, ◌∙◌, arith, inl, inr}
use Rattle.std.specs.Prelude.{All}
use Rattle.std.proofs.lemmas.Bool.{cases_lt, cases_eq}
use Rattle.std.proofs.lemmas.List.{length-set, length-replicate, get_or-set_same, get_or-set_other, get_or-replicate, get_or_default}
use Rattle.std.proofs.Math.ListN.{set}
use Rattle.graph_words.specs.declared.types.Born.{Born}
use Rattle.row_table.specs.Chains.{AreChains, IsNextOfRow}
use Rattle.row_table.proofs.RowLemmas.{some_born}

-- no edge from the end on
pub next_none : (edges : List Born) (v : ℕ) → IsNextOfRow edges v (length edges) (length edges)
next_none edges v = record { on = omega arith; within = omega arith; between = λ j d le lt. absurd (omega arith); here = λ d lt. absurd (omega arith) }

-- no edge at all ends at a vertex that no end reaches
pub next_beyond : (edges : List Born) (v bound : ℕ) → All (λ b. b.edge.dst.0 < bound) edges → bound ≤ v → IsNextOfRow edges v 0 (length edges)
next_beyond edges v bound all le =
    record {
      on = omega arith;
      within = omega arith;
      between = λ j d a lt e. (let l : (get_or edges j d).edge.dst.0 < bound = all j d lt in omega arith);
      here = λ d lt. absurd (omega arith);
    }

pub chains_start : (edges : List Born) (bound : ℕ) → All (λ b. b.edge.dst.0 < bound) edges → AreChains edges (length edges) (replicate bound (length edges)) (replicate (length edges) (length edges))
chains_start edges bound all =
    record {
      ends = subst (λ (n : ℕ). All (λ b. b.edge.dst.0 < n) edges) (sym (length-replicate bound (length edges))) all;
      firsts = λ v lt. subst (λ (k : ℕ). IsNextOfRow edges v (length edges) k) (sym (get_or-replicate bound v (length edges) 0 (let e : length (replicate bound (length edges)) ≡ bound = length-replicate bound (length edges) in omega arith))) (next_none edges v);
      links = record { len = length-replicate (length edges) (length edges); each = λ j d le lt. absurd (omega arith) };
    }

module _ (edges : List Born) (place : ℕ) (first next : List ℕ) (there : place < length edges) (h : AreChains edges (place + 1) first next) where
  abbrev v : ℕ
  v = (get_or edges place some_born).edge.dst.0

  in_first : v < length first
  in_first = h.ends place some_born there

  v_is : (d : Born) → (get_or edges place d).edge.dst.0 ≡ v
  v_is d = ap (λ (b : Born). b.edge.dst.0) (get_or_default edges place d some_born there)

  next_here : IsNextOfRow edges v place place
  next_here = record { on = omega arith; within = omega arith; between = λ j d le lt. absurd (omega arith); here = λ d lt. v_is d }

  next_back : (w n : ℕ) → w ≢ v → IsNextOfRow edges w (place + 1) n → IsNextOfRow edges w place n
  next_back w n ne x =
      record {
        on = omega (arith, x.on);
        within = x.within;
        between = λ j d le lt. elim (cases_lt place j) [
          | inl l ↦ x.between j d (omega arith) lt
          | inr g ↦ λ e. ne (sym e ∙ ap (λ (k : ℕ). (get_or edges k d).edge.dst.0) (let s : j ≡ place = omega arith in s) ∙ v_is d)
        ];
        here = x.here;
      }

  pub chains_more : AreChains edges place (set first v place) (set next place (get_or first v 0))
  chains_more =
      record {
        ends = subst (λ (n : ℕ). All (λ b. b.edge.dst.0 < n) edges) (sym (length-set first v place)) h.ends;
        firsts = firsts;
        links = record { len = length-set next place (get_or first v 0) ∙ h.links.len; each = each };
      }
    where
      firsts : (w : ℕ) → w < length (set first v place) → IsNextOfRow edges w place (get_or (set first v place) w 0)
      firsts w lt =
          let l : w < length first = (let e : length (set first v place) ≡ length first = length-set first v place in omega arith) in
          elim (cases_eq w v) [
            | inl e ↦ subst (λ (u : ℕ). IsNextOfRow edges u place (get_or (set first v place) u 0)) (sym e) (subst (λ (k : ℕ). IsNextOfRow edges v place k) (sym (get_or-set_same first v place 0 in_first)) next_here)
            | inr ne ↦ subst (λ (k : ℕ). IsNextOfRow edges w place k) (sym (get_or-set_other first v w place 0 ne)) (next_back w (get_or first w 0) ne (h.firsts w l))
          ]

      each : (j : ℕ) (d : Born) → place ≤ j → j < length edges → IsNextOfRow edges (get_or edges j d).edge.dst.0 (j + 1) (get_or (set next place (get_or first v 0)) j 0)
      each j d le lt =
          let inside : place < length next = (let e : length next ≡ length edges = h.links.len in omega arith) in
          elim (cases_lt place j) [
            | inl l ↦ subst (λ (k : ℕ). IsNextOfRow edges (get_or edges j d).edge.dst.0 (j + 1) k) (sym (get_or-set_other next place j (get_or first v 0) 0 (λ e. omega arith))) (h.links.each j d (omega arith) lt)
            | inr g ↦ (
                let s : place ≡ j = omega arith in
                subst (λ (k : ℕ). IsNextOfRow edges (get_or edges k d).edge.dst.0 (k + 1) (get_or (set next place (get_or first v 0)) k 0)) s
                (subst (λ (w : ℕ). IsNextOfRow edges w (place + 1) (get_or (set next place (get_or first v 0)) place 0)) (sym (v_is d))
                (subst (λ (k : ℕ). IsNextOfRow edges v (place + 1) k) (sym (get_or-set_same next place (get_or first v 0) 0 inside)) (h.firsts v in_first))))
          ]
