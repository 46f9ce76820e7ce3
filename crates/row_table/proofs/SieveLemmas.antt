-- Ends that are marked and sifted, one after the other.
use Rattle.std.proofs.Common.{◌≡◌, ◌≢◌, ◌↔◌, ℕ, suc, ◌+◌, ◌<◌, ◌⊎◌, Bool, true, false, eqb, MatchBool, List, [], ◌∷◌, ◌++◌, length, get_or, take, refl, sym, ap, subst, ◌∙◌, arith, inl, inr}
use Rattle.std.specs.Prelude.{All, Contains}
use Rattle.std.specs.List.{list_any}
use Rattle.std.proofs.lemmas.Bool.{cases_eq, false≢true}
use Rattle.std.proofs.lemmas.Bool.Decides.{nat_tests}
use Rattle.std.proofs.lemmas.List.{take_more}
use Rattle.std.proofs.lemmas.List.Elements.{All-weaker, All-push, Contains-append_left, Contains-push, Contains-push_cases}
use Rattle.std.proofs.lemmas.Map.Keys.{IsDistinct-push}
use Rattle.std.proofs.lemmas.Cmp.{nat_eq_equiv}
use Rattle.graph_words.specs.declared.types.Vertex.{Vertex}
use Rattle.graph_words.specs.declared.types.LabelId.{LabelId}
use Rattle.graph_words.specs.declared.types.Born.{Born}
use Rattle.closing_machine.proofs.Members.{either}
use Rattle.row_table.specs.declared.blocks.Block.{Block}
use Rattle.row_table.specs.Sieve.{HasNumber, AddsNumber}
use Rattle.row_table.specs.Joined.{BlockGives, EndsHere, GivesEnd, BlocksHave, HasEnd, MarksEnds, Sifts, vertex}
use Rattle.row_table.proofs.BlockLemmas.{EndsAt, gives_push_to, gives_push_back}

-- ---- marks

pub marks_none : (given : ℕ → Type 0) (s : List Bool) → ((w : ℕ) → given w → ⊥) → MarksEnds given s s
marks_none given s none = record { keeps = λ w h. h; has = λ w g. absurd (none w g); only = λ w h. inl h }

pub marks_one : (before after : List Bool) (v : ℕ) → AddsNumber before after v → MarksEnds (λ w. w ≡ v) before after
marks_one before after v a = record { keeps = a.keeps; has = λ w e. subst (HasNumber after) (sym e) a.has; only = a.only }

module _ (f g h : ℕ → Type 0) (to : (w : ℕ) → h w → f w ⊎ g w) (back : (w : ℕ) → f w ⊎ g w → h w) where
  pub marks_both : (before now after : List Bool) → MarksEnds f before now → MarksEnds g now after → MarksEnds h before after
  marks_both before now after p q =
      record {
        keeps = λ w m. q.keeps w (p.keeps w m);
        has = λ w m. either (λ (x : f w). q.keeps w (p.has w x)) (λ (x : g w). q.has w x) (to w m);
        only = λ w m. either (λ (x : HasNumber now w). either (λ (y : HasNumber before w). inl y) (λ (y : f w). inr (back w (inl y))) (p.only w x)) (λ (x : g w). inr (back w (inr x))) (q.only w m);
      }

  pub sifts_both : (before now after : List Bool) (start mid end : List ℕ) → Sifts f before now start mid → Sifts g now after mid end → Sifts h before after start end
  sifts_both before now after start mid end p q =
      record {
        marks = marks_both before now after p.marks q.marks;
        keeps = λ w m. q.keeps w (p.keeps w m);
        has = λ w m. either (λ (x : f w). either (λ (y : HasNumber before w). inl y) (λ (y : Contains mid w). inr (q.keeps w y)) (p.has w x)) (λ (x : g w). either (λ (y : HasNumber now w). later w y) (λ (y : Contains end w). inr y) (q.has w x)) (to w m);
        only = λ w m. either
            (λ (x : Contains mid w). either (λ (y : Contains start w). inl y) (λ (y : (HasNumber before w → ⊥) × f w). inr (y.0, back w (inl y.1))) (p.only w x))
            (λ (x : (HasNumber now w → ⊥) × g w). inr (λ m. x.0 (p.marks.keeps w m), back w (inr x.1)))
            (q.only w m);
        once = λ a d. (let r = p.once a d in q.once r.0 r.1);
      }
    where
      later : (w : ℕ) → HasNumber now w → HasNumber before w ⊎ Contains end w
      later w y = either (λ (z : HasNumber before w). inl z) (λ (z : f w). either (λ (u : HasNumber before w). inl u) (λ (u : Contains mid w). inr (q.keeps w u)) (p.has w z)) (p.marks.only w y)

module _ (f h : ℕ → Type 0) (to : (w : ℕ) → h w → f w) (back : (w : ℕ) → f w → h w) where
  pub marks_same : (before after : List Bool) → MarksEnds f before after → MarksEnds h before after
  marks_same before after p = record { keeps = p.keeps; has = λ w m. p.has w (to w m); only = λ w m. either (λ (x : HasNumber before w). inl x) (λ (x : f w). inr (back w x)) (p.only w m) }

  pub sifts_same : (before after : List Bool) (start end : List ℕ) → Sifts f before after start end → Sifts h before after start end
  sifts_same before after start end p =
      record {
        marks = marks_same before after p.marks;
        keeps = p.keeps;
        has = λ w m. p.has w (to w m);
        only = λ w m. either (λ (x : Contains start w). inl x) (λ (x : (HasNumber before w → ⊥) × f w). inr (x.0, back w x.1)) (p.only w m);
        once = p.once;
      }

pub sifts_none : (given : ℕ → Type 0) (s : List Bool) (found : List ℕ) → ((w : ℕ) → given w → ⊥) → Sifts given s s found found
sifts_none given s found none = record { marks = marks_none given s none; keeps = λ w m. m; has = λ w g. absurd (none w g); only = λ w m. inl m; once = λ a d. (a, d) }

-- ---- one end

module _ (before after : List Bool) (found : List ℕ) (v : ℕ) (a : AddsNumber before after v) where
  pub sift_known : HasNumber before v → Sifts (λ w. w ≡ v) before after found found
  sift_known there =
      record {
        marks = marks_one before after v a;
        keeps = λ w m. m;
        has = λ w e. inl (subst (HasNumber before) (sym e) there);
        only = λ w m. inl m;
        once = λ all d. (All-weaker (HasNumber before) (HasNumber after) a.keeps found all, d);
      }

  new_differs : (xs : List ℕ) → All (HasNumber before) xs → (HasNumber before v → ⊥) → list_any (eqb v) xs ≡ false
  new_differs [] all new = refl
  new_differs (x ∷ xs) all new =
      rw (apart x (all 0 x (omega arith)), new_differs xs (λ k d lt. all (suc k) d (omega arith)) new) refl
    where
      apart : (x : ℕ) → HasNumber before x → eqb v x ≡ false
      apart x h = elim (cases_eq v x) [ inl e ↦ absurd (new (subst (HasNumber before) (sym e) h)) | inr ne ↦ grind (arith, nat_tests, ne) ]

  pub sift_new : (HasNumber before v → ⊥) → Sifts (λ w. w ≡ v) before after found (found ++ v ∷ [])
  sift_new new =
      record {
        marks = marks_one before after v a;
        keeps = λ w m. Contains-append_left found (v ∷ []) w m;
        has = λ w e. inr (subst (λ (x : ℕ). Contains (found ++ v ∷ []) x) (sym e) (Contains-push found v));
        only = λ w m. either (λ (x : Contains found w). inl x) (λ (e : v ≡ w). inr (subst (λ (x : ℕ). HasNumber before x → ⊥) e new, sym e)) (Contains-push_cases found v w m);
        once = λ all d. (All-push (HasNumber after) found v (All-weaker (HasNumber before) (HasNumber after) a.keeps found all) a.has, IsDistinct-push nat_eq_equiv found v d (new_differs found all new));
      }

-- what the test for a new end says
pub sift_said : (before after : List Bool) (found pushed : List ℕ) (v : ℕ) (b : Bool) → AddsNumber before after v → MatchBool b (HasNumber before v → ⊥) (HasNumber before v) → b ≡ true → pushed ≡ found ++ v ∷ [] → Sifts (λ w. w ≡ v) before after found pushed
sift_said before after found pushed v true a m e is = subst (λ (l : List ℕ). Sifts (λ w. w ≡ v) before after found l) (sym is) (sift_new before after found v a m)
sift_said before after found pushed v false a m e is = absurd (false≢true e)

pub sift_said_no : (before after : List Bool) (found : List ℕ) (v : ℕ) (b : Bool) → AddsNumber before after v → MatchBool b (HasNumber before v → ⊥) (HasNumber before v) → b ≡ false → Sifts (λ w. w ≡ v) before after found found
sift_said_no before after found v false a m e = sift_known before after found v a m
sift_said_no before after found v true a m e = absurd (false≢true (sym e))

-- ---- one more edge of a run, and one more block

module _ (run : List Born) (i : ℕ) (d : Born) (lt : i < length run) where
  pub ends_to : (w : ℕ) → EndsHere (take (i + 1) run) w → EndsHere (take i run) w ⊎ (w ≡ (get_or run i d).edge.dst.0)
  ends_to w h =
      either
      (λ (m : Contains (take i run) h.0). inl (h.0, m, h.2))
      (λ (e : get_or run i d ≡ h.0). inr (sym h.2 ∙ ap (λ (b : Born). b.edge.dst.0) (sym e)))
      (Contains-push_cases (take i run) (get_or run i d) h.0 (rw (take_more run i d lt) at h.1))

  pub ends_back : (w : ℕ) → EndsHere (take i run) w ⊎ (w ≡ (get_or run i d).edge.dst.0) → EndsHere (take (i + 1) run) w
  ends_back w o =
      rw (take_more run i d lt) (
      either
      (λ (h : EndsHere (take i run) w). (h.0, Contains-append_left (take i run) (get_or run i d ∷ []) h.0 h.1, h.2))
      (λ (e : w ≡ (get_or run i d).edge.dst.0). (get_or run i d, Contains-push (take i run) (get_or run i d), sym e))
      o)

  pub mark_more : (before now after : List Bool) → MarksEnds (EndsHere (take i run)) before now → AddsNumber now after (get_or run i d).edge.dst.0 → MarksEnds (EndsHere (take (i + 1) run)) before after
  mark_more before now after p a = marks_both (EndsHere (take i run)) (λ w. w ≡ (get_or run i d).edge.dst.0) (EndsHere (take (i + 1) run)) ends_to ends_back before now after p (marks_one now after (get_or run i d).edge.dst.0 a)

  pub sift_more : (before now after : List Bool) (start mid end : List ℕ) → Sifts (EndsHere (take i run)) before now start mid → Sifts (λ w. w ≡ (get_or run i d).edge.dst.0) now after mid end → Sifts (EndsHere (take (i + 1) run)) before after start end
  sift_more before now after start mid end p q = sifts_both (EndsHere (take i run)) (λ w. w ≡ (get_or run i d).edge.dst.0) (EndsHere (take (i + 1) run)) ends_to ends_back before now after start mid end p q

vertex_of_number : (v : Vertex) (w : ℕ) → v.0 ≡ w → v ≡ vertex w
vertex_of_number v w e = let f : ℕ → Vertex = λ i. record { 0 = i } in ap f e

module _ (blocks : List Block) (a : LabelId) (i : ℕ) (d : Block) (lt : i < length blocks) where
  pub blocks_to : (w : ℕ) → GivesEnd (take (i + 1) blocks) a w → GivesEnd (take i blocks) a w ⊎ BlockGives (get_or blocks i d) a w
  blocks_to w h =
      either
      (λ (g : BlocksHave (take i blocks) a (vertex w)). inl g)
      (λ (p : ((get_or blocks i d).label ≡ a) × EndsAt (get_or blocks i d).seconds.now (vertex w)). inr (p.0, (p.1.0, p.1.1, ap (λ (v : Vertex). v.0) p.1.2)))
      (gives_push_to (take i blocks) (get_or blocks i d) a (vertex w) (rw (take_more blocks i d lt) at h))

  pub blocks_back : (w : ℕ) → GivesEnd (take i blocks) a w ⊎ BlockGives (get_or blocks i d) a w → GivesEnd (take (i + 1) blocks) a w
  blocks_back w o =
      rw (take_more blocks i d lt) (
      gives_push_back (take i blocks) (get_or blocks i d) a (vertex w) (
      either
      (λ (g : GivesEnd (take i blocks) a w). inl g)
      (λ (p : BlockGives (get_or blocks i d) a w). inr (p.0, (p.1.0, p.1.1, vertex_of_number p.1.0.edge.dst w p.1.2)))
      o))

  pub blocks_more : (before now after : List Bool) (start mid end : List ℕ) → Sifts (GivesEnd (take i blocks) a) before now start mid → Sifts (BlockGives (get_or blocks i d) a) now after mid end → Sifts (GivesEnd (take (i + 1) blocks) a) before after start end
  blocks_more before now after start mid end p q = sifts_both (GivesEnd (take i blocks) a) (BlockGives (get_or blocks i d) a) (GivesEnd (take (i + 1) blocks) a) blocks_to blocks_back before now after start mid end p q

-- ---- the run of a label

pub run_marks : (row run : List Born) (label : LabelId) (before after : List Bool) → ((b : Born) → Contains run b ↔ (Contains row b × (b.edge.label ≡ label))) → MarksEnds (EndsHere run) before after → MarksEnds (HasEnd row label) before after
run_marks row run label before after are p =
    marks_same (EndsHere run) (HasEnd row label) (λ w h. (h.0, (are h.0).1 (h.1, h.2), h.3)) (λ w h. let r = (are h.0).0 h.1 in (h.0, r.0, r.1, h.2)) before after p

-- ---- a block of another label, and one of this label

pub block_is_it : (k : Block) (label : LabelId) (before after : List Bool) (start end : List ℕ) → k.label.0 ≡ label.0 → Sifts (EndsHere k.seconds.now) before after start end → Sifts (BlockGives k label) before after start end
block_is_it k label before after start end e p =
    sifts_same (EndsHere k.seconds.now) (BlockGives k label) (λ w h. h.1) (λ w h. (same k.label label e, h)) before after start end p
  where
    same : (x y : LabelId) → x.0 ≡ y.0 → x ≡ y
    same x y e = let f : ℕ → LabelId = λ i. record { 0 = i } in ap f e

pub block_is_not : (k : Block) (label : LabelId) (s : List Bool) (found : List ℕ) → k.label.0 ≢ label.0 → Sifts (BlockGives k label) s s found found
block_is_not k label s found ne = sifts_none (BlockGives k label) s found (λ w h. ne (ap (λ (l : LabelId). l.0) h.0))
