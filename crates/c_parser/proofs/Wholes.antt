-- A tree that is its parts, where no part is one that the grammar forbids.
use Rattle.std.proofs.Common.{◌≡◌, ◌∙◌, sym, ap, subst, ℕ, ◌+◌, ◌≤◌, List, [], ◌∷◌, ◌++◌, length}
use Rattle.c_tree.specs.declared.fault.Wrong.{Wrong}
use Rattle.c_tree.specs.declared.fault.Wrong.TheVariants.{Unexpected, TooDeep}
use Rattle.c_tree.specs.Said.{Kind, Said}
use Rattle.c_tree.specs.Tokens.{Source, name_of}
use Rattle.c_tree.specs.Reading.{Placed, Stops, Only, Begins, Counts, GoesOn, ReadsAt, RefusesAt, from}
use Rattle.c_tree.proofs.Parts.{turned_same}

pub record Whole {X T : Type 0} (sx : X → Said) (st : T → Said) (C : X → T) : Type 0 where
  pub same : (x : X) → st (C x) ≡ sx x
  pub turn : (t : T) → (st t).strays ≡ 0 → (x : X) × (t ≡ C x)

module _ {X T : Type 0} (sx : X → Said) (st : T → Said) (C : X → T) (whole : Whole sx st C) where
  whole_only : (x : X) → Only sx x → Only st (C x)
  whole_only x only u r r' e h h' n =
      let e1 : (sx x).kinds ++ r ≡ (st u).kinds ++ r' = subst (λ w. w.kinds ++ r ≡ (st u).kinds ++ r') (whole.same x) e in
      let t = whole.turn u n in
      let is : st u ≡ sx t.0 = ap st t.1 ∙ whole.same t.0 in
      let e2 : (sx x).kinds ++ r ≡ (sx t.0).kinds ++ r' = subst (λ w. (sx x).kinds ++ r ≡ w.kinds ++ r') is e1 in
      let o = only t.0 r r' e2 (subst (λ w. Stops w r) (whole.same x) h) (subst (λ w. Stops w r') is h') (subst (λ w. w.strays ≡ 0) is n) in
      (o.0, turned_same sx st C whole.same x u t.0 t.1 o.1)

  pub whole_at : (s : Source) (at next room : ℕ) (x : X) → ReadsAt sx s at room x next → ReadsAt st s at room (C x) next
  whole_at s at next room x r =
      let back = sym (whole.same x) in
      record {
        reads = record {
          spelled = subst (λ w. from s.tokens at ≡ w.kinds ++ from s.tokens next) back r.reads.spelled;
          within = subst (λ w. w.levels ≤ room) back r.reads.within;
          nearest = subst (λ w. w.strays ≡ 0) back r.reads.nearest;
          stops = subst (λ w. Stops w (from s.tokens next)) back r.reads.stops;
          only = whole_only x r.reads.only;
        };
        inside = r.inside;
        place = r.place ∙ ap (λ w. at + length w.kinds) back;
        placed = subst (λ w. Placed (name_of s) at w.kept) back r.placed;
      }

  whole_begins : (room : ℕ) (front : List Kind) → Begins sx room front → Begins st room front
  whole_begins room front b =
      let back = sym (whole.same b.tree) in
      record {
        tree = C b.tree;
        more = b.more;
        spelled = subst (λ w. w.kinds ≡ front ++ b.more) back b.spelled;
        within = subst (λ w. w.levels ≤ room) back b.within;
        nearest = subst (λ w. w.strays ≡ 0) back b.nearest;
      }

  whole_goes_on : (why : Wrong) (front : List Kind) → GoesOn why sx front → GoesOn why st front
  whole_goes_on Unexpected front g = tt
  whole_goes_on TooDeep front g = (g.0, whole_begins g.0 front g.1)

  pub whole_refused : (s : Source) (at room token : ℕ) (why : Wrong) → RefusesAt sx s at room token why → RefusesAt st s at room token why
  whole_refused s at room token why r =
      let q = r.refuses in
      record {
        front = r.front;
        bad = r.bad;
        refuses = record {
          rest = q.rest;
          stands = q.stands;
          some = whole_begins room r.front q.some;
          none = λ t rest more e h n c.
              let y = whole.turn t n in
              let is : st t ≡ sx y.0 = ap st y.1 ∙ whole.same y.0 in
              q.none y.0 rest more (subst (λ w. w.kinds ++ rest ≡ r.front ++ r.bad ∷ more) is e) (subst (λ w. Stops w rest) is h) (subst (λ w. w.strays ≡ 0) is n) (subst (λ w. Counts why room w.levels) is c);
          deep = whole_goes_on why (r.front ++ r.bad ∷ []) q.deep;
        };
        place = r.place;
      }
