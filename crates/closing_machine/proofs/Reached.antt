-- A join of edges that reach by what their labels stand for reaches too, and so does each given edge.
use Rattle.std.proofs.Common.{◌≡◌, ◌⊎◌, [], ◌∷◌, ◌++◌, sym, subst, inl, inr}
use Rattle.std.specs.Prelude.{Contains}
use Rattle.std.proofs.lemmas.List.Elements.{All-contains}
use Rattle.graph_words.specs.declared.types.LabelId.{LabelId}
use Rattle.graph_words.specs.declared.types.Vertex.{Vertex}
use Rattle.graph_words.specs.declared.types.Edge.{Edge}
use Rattle.graph_words.specs.Reach.{Graph, edge, rule, Reach}
use Rattle.graph_words.proofs.ReachLaws.{Reach-append}
use Rattle.graph_words.specs.declared.types.PairRule.{PairRule}
use Rattle.normal_law.specs.Closure.{Normal, IsNamed, IsFreshLabel, IsLabelOf, IsUp, itself, above, HasNamedLabels, IsNormalForm, Closure, given, loop as at_each}
use Rattle.normal_law.proofs.Sound.{left_is_named, pair_reached, up_reached, Closure-reached}
use Rattle.closing_machine.specs.Rounds.{IsJoin}
use Rattle.closing_machine.specs.Machine.{IsGiven, input, loop}
use Rattle.closing_machine.specs.Holds.{IsTask}

abbrev pub Reaches : Normal → Graph → Edge → Type 0
Reaches n g e = Reach g n.rules e.src (n.stands e.label) e.dst

pub join_reached : (n : Normal) (g : Graph) (x y e : Edge) → IsTask n g → Reaches n g x → Reaches n g y → IsJoin n x y e → Reaches n g e
join_reached n g x y e task hx hy j =
    let made = j.label in
    let second = subst (λ (v : Vertex). Reach g n.rules v (n.stands y.label) y.dst) (sym j.follows) hy in
    let both = Reach-append g n.rules x.src x.dst y.dst (n.stands x.label) (n.stands y.label) hx second in
    let named = subst (λ (b : LabelId). Reach g n.rules x.src (n.stands b ++ n.stands y.label) y.dst) (sym made.2) both in
    let paired = subst (λ (c : LabelId). Reach g n.rules x.src (n.stands made.0.first ++ n.stands c) y.dst) (sym made.3) named in
    let up = up_reached n g task.normal task.named made.4 x.src y.dst (pair_reached n g task.normal task.named made.0 x.src y.dst made.1 paired) in
    let from = subst (λ (u : Vertex). Reach g n.rules u (n.stands e.label) y.dst) (sym j.source) up in
    subst (λ (w : Vertex). Reach g n.rules e.src (n.stands e.label) w) (sym j.destination) from

pub given_closure : (n : Normal) (g : Graph) {e : Edge} → IsGiven n g e → Closure n g e.src e.label e.dst
given_closure n g (input b m up) = given b m up
given_closure n g (loop h e) = at_each h e

pub given_reached : (n : Normal) (g : Graph) (e : Edge) → IsTask n g → IsGiven n g e → Reaches n g e
given_reached n g e task i = Closure-reached n g task.normal task.named (given_closure n g i) task.graph task.labels

up_known : (n : Normal) {b a : LabelId} → HasNamedLabels n.rules → IsUp n.rules b a → IsLabelOf n b → IsLabelOf n a
up_known n named itself known = known
up_known n named (above {a = a} c up m) known = inl (left_is_named n.rules a (c ∷ []) named m)

pair_known : (n : Normal) (p : PairRule) → IsNormalForm n → Contains n.pairs p → IsLabelOf n p.left
pair_known n p normal m = go (normal.only p m)
  where
    go : ((IsNamed p.left × Contains n.rules (rule p.left (n.stands p.first ++ n.stands p.second))) ⊎ (IsFreshLabel n p.left × (n.stands p.left ≡ n.stands p.first ++ n.stands p.second))) → IsLabelOf n p.left
    go (inl h) = inl h.0
    go (inr h) = inr h.0

pub join_known : (n : Normal) (g : Graph) (x y e : Edge) → IsTask n g → IsJoin n x y e → IsLabelOf n e.label
join_known n g x y e task j =
    up_known n task.named j.label.4 (pair_known n j.label.0 task.normal j.label.1)

pub given_known : (n : Normal) (g : Graph) {e : Edge} → IsTask n g → IsGiven n g e → IsLabelOf n e.label
given_known n g task (input {u = u} {v = v} b m up) = up_known n task.named up (inl (All-contains (λ (e : Edge). IsNamed e.label) g.edges (edge u b v) task.labels m))
given_known n g task (loop h e) = e.0
