-- A name alone, where one before a bracket is that of a function.
use Rattle.std.proofs.Common.{◌≡◌, ◌∙◌, refl, sym, ap, subst, ℕ, ◌+◌, ◌≤◌, false, List, [], ◌∷◌, ◌++◌, length, Some, arith}
use Rattle.c_lexer.specs.declared.token.TokenKind.TheVariants as k
use Rattle.c_tree.specs.declared.tree.Name.{Name}
use Rattle.c_tree.specs.Said.{Kind, Said, named, nothing}
use Rattle.c_tree.specs.Tokens.{Source, kind_at, name_of}
use Rattle.c_tree.specs.Grammar.{is_open, bare}
use Rattle.c_tree.specs.Reading.{Placed, Stops, Only, Begins, ReadsAt, from}
use Rattle.c_tree.proofs.Parts.{named_single, turned_same}
use Rattle.c_tree.proofs.Places.{from_some, named_at, some_name}
use Rattle.c_tree.proofs.Choices.{or_false, or_first}

abbrev pub bare_said : Name → Said
bare_said n = bare (named n)

-- whatever begins with a name that no bracket follows is that name
pub record Bare {T : Type 0} (st : T → Said) (C : Name → T) : Type 0 where
  pub same : (n : Name) → st (C n) ≡ bare_said n
  pub turn : (t : T) (r r' : List Kind) → (st t).kinds ++ r' ≡ Some k.Name ∷ r → Stops (nothing is_open) r → (n : Name) × (t ≡ C n)

bare_stops : (n : Name) (r : List Kind) → Stops (bare_said n) r → Stops (nothing is_open) r
bare_stops n [] h = h
bare_stops n (k ∷ r) h = or_first (is_open k) false h

name_kinds : (r r' : List Kind) → Some k.Name ∷ r ≡ Some k.Name ∷ r' → r ≡ r'
name_kinds r r' e = cc

module _ {T : Type 0} (st : T → Said) (C : Name → T) (bare : Bare st C) where
  bare_only : (n : Name) → Only st (C n)
  bare_only n u r r' e h h' z =
      let e1 : Some k.Name ∷ r ≡ (st u).kinds ++ r' = sym (ap (λ w. w.kinds ++ r) (bare.same n)) ∙ e in
      let stops = bare_stops n r (subst (λ w. Stops w r) (bare.same n) h) in
      let t = bare.turn u r r' (sym e1) stops in
      let e2 : (st u).kinds ++ r' ≡ Some k.Name ∷ r' = ap (λ t. (st t).kinds ++ r') t.1 ∙ ap (λ w. w.kinds ++ r') (bare.same t.0) in
      (name_kinds r r' (e1 ∙ e2), turned_same bare_said st C bare.same n u t.0 t.1 (λ stood at p p'. named_single.same n t.0 refl stood at p p'))

  pub bare_at : (s : Source) (at room : ℕ) → kind_at s.tokens at ≡ Some k.Name → is_open (kind_at s.tokens (at + 1)) ≡ false → ReadsAt st s at room (C (name_of s at)) (at + 1)
  bare_at s at room e no_open =
      let r = named_at s at room e in
      let back = sym (bare.same (name_of s at)) in
      let n = from_some s (at + 1) in
      record {
        reads = record {
          spelled = r.reads.spelled ∙ ap (λ w. w.kinds ++ from s.tokens (at + 1)) back;
          within = subst (λ w. w.levels ≤ room) back (omega arith);
          nearest = ap (λ w. w.strays) (bare.same (name_of s at));
          stops = subst (λ w. Stops w (from s.tokens (at + 1))) back (subst (Stops (bare_said (name_of s at))) (sym n.1) (or_false (is_open (kind_at s.tokens (at + 1))) no_open));
          only = bare_only (name_of s at);
        };
        inside = r.inside;
        place = ap (λ w. at + length w.kinds) back;
        placed = subst (λ w. Placed (name_of s) at w.kept) back r.placed;
      }

  -- some tree begins with a name
  pub bare_begins : (room : ℕ) → Begins st room (Some k.Name ∷ [])
  bare_begins room =
      let is = bare.same some_name in
      record { tree = C some_name; more = []; spelled = ap (λ w. w.kinds) is; within = subst (λ w. w.levels ≤ room) (sym is) (omega arith); nearest = ap (λ w. w.strays) is }
