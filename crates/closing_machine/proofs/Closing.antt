-- A state that holds and has no work left lists exactly what reaches.
use Rattle.std.proofs.Common.{◌≡◌, ℕ, ◌<◌, ◌≤◌, ◌↔◌, true, false, List, [], ◌∷◌, length, refl, arith, subst, inl, inr}
use Rattle.std.specs.Prelude.{Contains, filter, nat_lt, ◌==◌}
use Rattle.std.proofs.lemmas.Bool.{cases_lt}
use Rattle.std.proofs.lemmas.Bool.Decides.{nat_tests}
use Rattle.std.proofs.lemmas.List.Elements.{All-contains}
use Rattle.std.proofs.lemmas.List.Recursion.{max_bounds}
use Rattle.graph_words.specs.declared.types.Vertex.{Vertex}
use Rattle.graph_words.specs.declared.types.LabelId.{LabelId}
use Rattle.graph_words.specs.declared.types.Born.{Born}
use Rattle.graph_words.specs.Reach.{Graph, edge, Reach}
use Rattle.graph_words.proofs.ReachLaws.{Reach-start}
use Rattle.normal_law.specs.Closure.{Normal, IsLabelOf, Closure, given, loop as at_each, joined}
use Rattle.normal_law.proofs.Complete.{Closure-from_reach}
use Rattle.closing_machine.specs.State.{State, EndsCut, place, part, count, newest, greatest_birth, IsFinished}
use Rattle.closing_machine.specs.Rounds.{born, HasEdge}
use Rattle.closing_machine.specs.Machine.{input, loop}
use Rattle.closing_machine.specs.Holds.{IsTask, IsClosingState, mark}
use Rattle.closing_machine.proofs.Members.{either, Contains-filter}
use Rattle.closing_machine.proofs.Reached.{Reaches}
use Rattle.closing_machine.proofs.Superstepping.{count_from_join, same_number}

pub greatest_birth_bounds : (bs : List Born) (b : Born) → Contains bs b → b.birth ≤ greatest_birth bs
greatest_birth_bounds bs b m =
    subst (λ (x : Born). x.birth ≤ greatest_birth bs) m.2 (max_bounds greatest_birth (λ (x : Born). x.birth) refl (λ x xs. refl) bs m.0 b m.1)

pub newest_bounds : (s : State) (b : Born) → Contains s.edges b → b.birth ≤ newest s (part s.ends b)
newest_bounds s b m =
    greatest_birth_bounds (filter (λ (x : Born). part s.ends x == part s.ends b) s.edges) b
    (Contains-filter (λ (x : Born). part s.ends x == part s.ends b) s.edges b m (same_number (part s.ends b)))

-- a vertex below the last end lies in an interval
pub place_below : (ends : List ℕ) (from to v : ℕ) → EndsCut from ends to → from ≤ v → v < to → place ends v < length ends
place_below [] from to v is le lt = absurd (let e : from ≡ to = is in omega arith)
place_below (e ∷ es) from to v is le lt = either (λ h. rw (test v e h) (omega arith)) (λ h. rw (fails v e h) (let r = place_below es e to v is.1 h lt in omega arith)) (cases_lt v e)
  where
    test : (v e : ℕ) → v < e → nat_lt v e ≡ true
    test v e h = grind (arith, nat_tests)

    fails : (v e : ℕ) → e ≤ v → nat_lt v e ≡ false
    fails v e h = grind (arith, nat_tests)

module _ (n : Normal) (g : Graph) (s : State) (task : IsTask n g) (h : IsClosingState n g s) (finished : IsFinished s) where
  reaches : (b : Born) → Contains s.edges b → Reaches n g b.edge
  reaches b m = All-contains (λ (b : Born). Reaches n g b.edge) s.edges b h.reached m

  -- two edges that follow one another are below the mark of their partitions
  below_mark : (x y : Born) → Contains s.edges x → Contains s.edges y → x.edge.dst ≡ y.edge.src → (newest s (part s.ends x) < mark s x y) × (newest s (part s.ends y) < mark s x y)
  below_mark x y mx my e =
      let i = part s.ends x in
      let j = part s.ends y in
      let first_in : i < length s.ends = place_below s.ends 0 g.vertices x.edge.src.0 h.cut (omega arith) (Reach-start g n.rules x.edge.src x.edge.dst (n.stands x.edge.label) task.graph (reaches x mx)) in
      let second_in : j < length s.ends = place_below s.ends 0 g.vertices y.edge.src.0 h.cut (omega arith) (Reach-start g n.rules y.edge.src y.edge.dst (n.stands y.edge.label) task.graph (reaches y my)) in
      let clean = finished i j first_in second_in in
      let some : 0 < count s i j = count_from_join n s x y mx e in
      (either (λ lt. lt) (λ ge. absurd (clean (some, inl ge))) (cases_lt (newest s i) (mark s x y)), either (λ lt. lt) (λ ge. absurd (clean (some, inr ge))) (cases_lt (newest s j) (mark s x y)))

  pub all_listed : {u v : Vertex} {l : LabelId} → Closure n g u l v → HasEdge s.edges (edge u l v)
  all_listed {u = u} {v = v} {l = l} (given b m up) = h.given (edge u l v) (input b m up)
  all_listed {u = u} {l = l} (at_each lt e) = h.given (edge u l u) (loop lt e)
  all_listed {u = u} {v = w} {l = l} (joined p v m c d up) =
      let a = all_listed c in
      let b = all_listed d in
      let x = born (edge u p.first v) a.0 in
      let y = born (edge v p.second w) b.0 in
      let below = below_mark x y a.1 b.1 refl in
      let x_old : a.0 ≤ newest s (part s.ends x) = newest_bounds s x a.1 in
      let y_old : b.0 ≤ newest s (part s.ends y) = newest_bounds s y b.1 in
      let x_lt : newest s (part s.ends x) < mark s x y = below.0 in
      let y_lt : newest s (part s.ends y) < mark s x y = below.1 in
      h.joined x y (edge u l w) a.1 b.1 (omega arith) (omega arith) (record { follows = refl; source = refl; destination = refl; label = (p, m, refl, refl, up) })

  pub exact : (u v : Vertex) (l : LabelId) → HasEdge s.edges (edge u l v) ↔ (IsLabelOf n l × Reach g n.rules u (n.stands l) v)
  exact u v l =
      (λ x. (All-contains (λ (b : Born). IsLabelOf n b.edge.label) s.edges (born (edge u l v) x.0) h.known x.1, reaches (born (edge u l v) x.0) x.1), λ r. all_listed (Closure-from_reach n g task.normal task.named u v l task.graph r.0 r.1))
