-- A choice by a test of all tokens that are left, of which more than the first may count.
use Rattle.std.proofs.Common.{◌≡◌, ◌∙◌, sym, ap, subst, ℕ, ◌+◌, ◌≤◌, Bool, true, List, [], ◌∷◌, ◌++◌, length}
use Rattle.c_tree.specs.declared.fault.Wrong.{Wrong}
use Rattle.c_tree.specs.declared.fault.Wrong.TheVariants.{Unexpected, TooDeep}
use Rattle.c_tree.specs.Said.{Kind, Said}
use Rattle.c_tree.specs.Tokens.{Source, name_of}
use Rattle.c_tree.specs.Reading.{Placed, Stops, Only, Begins, Counts, GoesOn, Refuses, ReadsAt, RefusesAt, from}
use Rattle.c_tree.proofs.Parts.{turned_same}

pub record Ahead {X T : Type 0} (sx : X → Said) (st : T → Said) (C : X → T) (q : List Kind → Bool) : Type 0 where
  pub same : (x : X) → st (C x) ≡ sx x
  pub turn : (t : T) (r : List Kind) → q ((st t).kinds ++ r) ≡ true → (st t).strays ≡ 0 → (x : X) × (t ≡ C x)
  pub begins : (x : X) (r : List Kind) → Stops (sx x) r → q ((sx x).kinds ++ r) ≡ true

module _ {X T : Type 0} (sx : X → Said) (st : T → Said) (C : X → T) (q : List Kind → Bool) (ahead : Ahead sx st C q) where
  ahead_only : (x : X) → Only sx x → Only st (C x)
  ahead_only x only u r r' e h h' n =
      let stops = subst (λ w. Stops w r) (ahead.same x) h in
      let e1 : (sx x).kinds ++ r ≡ (st u).kinds ++ r' = subst (λ w. w.kinds ++ r ≡ (st u).kinds ++ r') (ahead.same x) e in
      let t = ahead.turn u r' (ap q (sym e1) ∙ ahead.begins x r stops) n in
      let is : st u ≡ sx t.0 = ap st t.1 ∙ ahead.same t.0 in
      let e2 : (sx x).kinds ++ r ≡ (sx t.0).kinds ++ r' = subst (λ w. (sx x).kinds ++ r ≡ w.kinds ++ r') is e1 in
      let o = only t.0 r r' e2 stops (subst (λ w. Stops w r') is h') (subst (λ w. w.strays ≡ 0) is n) in
      (o.0, turned_same sx st C ahead.same x u t.0 t.1 o.1)

  pub ahead_at : (s : Source) (at next room : ℕ) (x : X) → ReadsAt sx s at room x next → ReadsAt st s at room (C x) next
  ahead_at s at next room x r =
      let back = sym (ahead.same x) in
      record {
        reads = record {
          spelled = subst (λ w. from s.tokens at ≡ w.kinds ++ from s.tokens next) back r.reads.spelled;
          within = subst (λ w. w.levels ≤ room) back r.reads.within;
          nearest = subst (λ w. w.strays ≡ 0) back r.reads.nearest;
          stops = subst (λ w. Stops w (from s.tokens next)) back r.reads.stops;
          only = ahead_only x r.reads.only;
        };
        inside = r.inside;
        place = r.place ∙ ap (λ w. at + length w.kinds) back;
        placed = subst (λ w. Placed (name_of s) at w.kept) back r.placed;
      }

  ahead_begins : (room : ℕ) (front : List Kind) → Begins sx room front → Begins st room front
  ahead_begins room front b =
      let back = sym (ahead.same b.tree) in
      record {
        tree = C b.tree;
        more = b.more;
        spelled = subst (λ w. w.kinds ≡ front ++ b.more) back b.spelled;
        within = subst (λ w. w.levels ≤ room) back b.within;
        nearest = subst (λ w. w.strays ≡ 0) back b.nearest;
      }

  ahead_goes_on : (why : Wrong) (front : List Kind) → GoesOn why sx front → GoesOn why st front
  ahead_goes_on Unexpected front g = tt
  ahead_goes_on TooDeep front g = (g.0, ahead_begins g.0 front g.1)

  -- where the test passes whatever stands behind the refused token
  pub ahead_refuses : (s : Source) (at room token : ℕ) (why : Wrong) (front : List Kind) (bad : Kind) → Refuses sx (from s.tokens at) room front bad why → token ≡ at + length front → ((more : List Kind) → q (front ++ bad ∷ more) ≡ true) → RefusesAt st s at room token why
  ahead_refuses s at room token why front bad r place decided = record {
    front = front;
    bad = bad;
    refuses = record {
      rest = r.rest;
      stands = r.stands;
      some = ahead_begins room front r.some;
      none = λ t rest more e h n c.
          let y = ahead.turn t rest (ap q e ∙ decided more) n in
          let is : st t ≡ sx y.0 = ap st y.1 ∙ ahead.same y.0 in
          r.none y.0 rest more (subst (λ w. w.kinds ++ rest ≡ front ++ bad ∷ more) is e) (subst (λ w. Stops w rest) is h) (subst (λ w. w.strays ≡ 0) is n) (subst (λ w. Counts why room w.levels) is c);
      deep = ahead_goes_on why (front ++ bad ∷ []) r.deep;
    };
    place = place;
  }

  -- the same of a refusal that is at hand
  pub ahead_refused : (s : Source) (at room token : ℕ) (why : Wrong) (r : RefusesAt sx s at room token why) → ((more : List Kind) → q (r.front ++ r.bad ∷ more) ≡ true) → RefusesAt st s at room token why
  ahead_refused s at room token why r decided = ahead_refuses s at room token why r.front r.bad r.refuses r.place decided

-- what is read is not refused
pub not_both : {T : Type 0} (said : T → Said) (s : Source) (at room next token : ℕ) (why : Wrong) (t : T) → ReadsAt said s at room t next → RefusesAt said s at room token why → ⊥
not_both said s at room next token why t r z =
    z.refuses.none t (from s.tokens next) z.refuses.rest (sym r.reads.spelled ∙ z.refuses.stands) r.reads.stops r.reads.nearest (counts why room (said t).levels r.reads.within)
  where
    counts : (why : Wrong) (room n : ℕ) → n ≤ room → Counts why room n
    counts Unexpected room n h = tt
    counts TooDeep room n h = h
