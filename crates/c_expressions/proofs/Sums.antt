-- Sums, operand by operand, and comparisons.
use Rattle.std.proofs.Common.{◌≡◌, ◌∙◌, refl, sym, ap, subst, ℕ, ◌+◌, ◌≤◌, max, true, false, List, [], ◌∷◌, ◌++◌, length, append_assoc, append-nil, Some, None, arith}
use Rattle.std.specs.Prelude.{map, Option}
use Rattle.c_tree.specs.declared.tree.Tok.{Tok}
use Rattle.c_tree.specs.declared.tree.AddOp.{AddOp}
use Rattle.c_tree.specs.declared.tree.CompareOp.{CompareOp}
use Rattle.c_tree.specs.declared.tree.Unary.{Unary}
use Rattle.c_tree.specs.declared.tree.Added.{Added}
use Rattle.c_tree.specs.declared.tree.Compared.{Compared, out-Compared, roll-Compared, roll-out-Compared}
use Rattle.c_tree.specs.declared.tree.Expr.{Expr, out-Expr, roll-Expr, roll-out-Expr}
use Rattle.c_tree.specs.declared.tree.Sum.{Sum, out-Sum, roll-Sum, roll-out-Sum}
use Rattle.c_tree.specs.declared.fault.Wrong.{Wrong}
use Rattle.c_tree.specs.Said.{Kind, Said, nothing, moved}
use Rattle.c_tree.specs.Tokens.{Source, kind_at, tok_of}
use Rattle.c_tree.specs.Grammar.{is_add, is_compare, add_kind, compare_kind, sum_said, unary_said, added_said, compared_of, expr_said, sum_of}
use Rattle.c_tree.specs.Reading.{Stops, Only, ReadsAt, RefusesAt}
use Rattle.c_tree.proofs.Layers.{added_is, compared_is, sum_is, expr_is, expr_parts}
use Rattle.c_tree.proofs.Parts.{seq, Turn, TurnIf, Joined, operator, operator_single}
use Rattle.c_tree.proofs.Places.{from_some, operator_at, joined_at, first_refused_at, second_refused_at, turn_at, turn_if_at, turn_if_refused_at}
use Rattle.c_tree.proofs.Choices.{or_first, or_second, or_both, whole_refused_at, behind_single_at, behind_single_refused_at}
use Rattle.c_expressions.proofs.Heads.{unary_goes, added_goes, sum_goes, unary_least, sum_least}
use Rattle.c_expressions.proofs.OperatorTests.{add_tells, is_add_kind, add_no_open, compare_tells, is_compare_kind, compare_no_open, compare_no_add}

-- ---- what stands behind an operand: nothing, or an operator, an operand and so on
abbrev pub tail_said : List Added → Said
tail_said [] = nothing is_add
tail_said (y ∷ ys) = sum_said (added_said y) (map added_said ys)

abbrev pub run_of : {A : Type 0} → (A → Said) → A × List Added → Said
run_of sa x = sum_said (sa x.0) (map added_said x.1)

-- a part that goes on with no operator
abbrev Ends : {A : Type 0} → (A → Said) → Type 0
Ends {A} sa = (a : A) (op : AddOp) → (sa a).goes_on (Some (add_kind op)) ≡ false

tail_head : (y : Added) (ys : List Added) → (tail : List Kind) × ((tail_said (y ∷ ys)).kinds ≡ Some (add_kind y.op) ∷ tail)
tail_head y [] = ((unary_said y.unary).kinds, ap (λ s. s.kinds) (added_is y))
tail_head y (z ∷ zs) = ((unary_said y.unary).kinds ++ (tail_said (z ∷ zs)).kinds, ap (λ s. s.kinds ++ (tail_said (z ∷ zs)).kinds) (added_is y))

module _ {A : Type 0} (sa : A → Said) (ends : Ends sa) where
  run_kinds : (x : A) (ys : List Added) → (run_of sa (x, ys)).kinds ≡ (sa x).kinds ++ (tail_said ys).kinds
  run_kinds x [] = sym (append-nil (sa x).kinds)
  run_kinds x (y ∷ ys) = refl

  run_kept : (x : A) (ys : List Added) → (run_of sa (x, ys)).kept ≡ (sa x).kept ++ moved (length (sa x).kinds) (tail_said ys).kept
  run_kept x [] = sym (append-nil (sa x).kept)
  run_kept x (y ∷ ys) = refl

  run_levels : (x : A) (ys : List Added) → (run_of sa (x, ys)).levels ≡ max (sa x).levels (tail_said ys).levels
  run_levels x [] = omega arith
  run_levels x (y ∷ ys) = refl

  run_strays : (x : A) (ys : List Added) → (run_of sa (x, ys)).strays ≡ (sa x).strays + (tail_said ys).strays
  run_strays x [] = omega arith
  run_strays x (y ∷ ys) = refl

  run_apart : (x : A) (ys : List Added) (r : List Kind) → Stops (run_of sa (x, ys)) r → Stops (sa x) ((tail_said ys).kinds ++ r) × Stops (tail_said ys) r
  run_apart x [] [] h = absurd h
  run_apart x [] (k ∷ r) h = (or_second (is_add k) ((sa x).goes_on k) h, or_first (is_add k) ((sa x).goes_on k) h)
  run_apart x (y ∷ ys) r h =
      let t = tail_head y ys in
      (subst (λ w. Stops (sa x) (w ++ r)) (sym t.1) (ends x y.op), h)

  run_meets : (x : A) (ys : List Added) (r : List Kind) → Stops (sa x) ((tail_said ys).kinds ++ r) → Stops (tail_said ys) r → Stops (run_of sa (x, ys)) r
  run_meets x [] [] h i = absurd i
  run_meets x [] (k ∷ r) h i = or_both (is_add k) ((sa x).goes_on k) i h
  run_meets x (y ∷ ys) r h i = i

  pub run_joined : Joined sa tail_said (run_of sa)
  run_joined = record {
    kinds_is = run_kinds;
    kept_is = run_kept;
    levels_is = run_levels;
    strays_of = λ a b n. let e = run_strays a b in (omega arith, omega arith);
    apart = λ a b r h n. run_apart a b r h;
    meets = run_meets;
    fits = λ a b r na nb h. let e = run_strays a b in omega arith;
    least = record { tree = []; flat = refl; nearest = refl };
    least_fits = λ a na. let e = run_strays a [] in omega arith;
  }

unary_ends : Ends unary_said
unary_ends x op = unary_goes x (Some (add_kind op)) (add_no_open op)

added_ends : Ends added_said
added_ends x op = added_goes x (Some (add_kind op)) (add_no_open op)

-- ---- an operator and its right operand
abbrev added_parts : (AddOp × Tok) × Unary → Said
added_parts = seq (operator add_kind) unary_said

abbrev added_of : (AddOp × Tok) × Unary → Added
added_of x = record { op = x.0.0; tok = x.0.1; unary = x.1 }

added_turn : Turn added_parts added_said added_of []
added_turn = record {
  same = λ x. added_is (added_of x);
  turn = λ t r more e h. (((t.op, t.tok), t.unary), refl);
  begins = λ x. ((added_parts x).kinds, refl);
}

pub added_at : (s : Source) (at next room : ℕ) (op : AddOp) (y : Unary) → kind_at s.tokens at ≡ Some (add_kind op) → ReadsAt unary_said s (at + 1) room y next → ReadsAt added_said s at room (record { op = op; tok = tok_of s.tokens at; unary = y }) next
added_at s at next room op y e r =
    turn_at added_parts added_said added_of [] added_turn s at next room ((op, tok_of s.tokens at), y)
    (behind_single_at (operator add_kind) (λ x. add_kind x.0) (operator_single add_kind add_tells) unary_said unary_least s at next room (op, tok_of s.tokens at) y (operator_at add_kind add_tells s at room op e) r)

pub added_refused_at : (s : Source) (at room token : ℕ) (why : Wrong) (op : AddOp) → kind_at s.tokens at ≡ Some (add_kind op) → RefusesAt unary_said s (at + 1) room token why → RefusesAt added_said s at room token why
added_refused_at s at room token why op e r =
    whole_refused_at added_parts added_said added_of added_turn s at room token why
    (behind_single_refused_at (operator add_kind) (λ x. add_kind x.0) (operator_single add_kind add_tells) unary_said unary_least s at room token why (op, tok_of s.tokens at) (operator_at add_kind add_tells s at room op e) r)

-- ---- the tail
abbrev cons_of : Added × List Added → List Added
cons_of x = x.0 ∷ x.1

no_tail : (k : Kind) (r more : List Kind) → r ≡ k ∷ more → is_add k ≡ true → Stops (nothing is_add) r → ⊥
no_tail k [] more e passes h = h
no_tail k (x ∷ r) more e passes h = let is : x ≡ k = cc in let fails : is_add k ≡ false = subst (λ k. is_add k ≡ false) is h in cc

tail_turned : (t : List Added) (r : List Kind) (k : Kind) (more : List Kind) → (tail_said t).kinds ++ r ≡ k ∷ more → is_add k ≡ true → Stops (tail_said t) r → (x : Added × List Added) × (t ≡ cons_of x)
tail_turned [] r k more e passes h = absurd (no_tail k r more e passes h)
tail_turned (y ∷ ys) r k more e passes h = ((y, ys), refl)

tail_turn : TurnIf (run_of added_said) tail_said cons_of is_add
tail_turn = record {
  same = λ x. refl;
  turn = tail_turned;
  begins = λ x. let h = tail_head x.0 x.1 in (Some (add_kind x.0.op), (h.0, h.1, is_add_kind x.0.op));
}

end_only : Only tail_said []
end_only [] r r' e h h' n = (e, λ stood at p p'. refl)
end_only (y ∷ ys) r r' e h h' n =
    let t = tail_head y ys in
    absurd (no_tail (Some (add_kind y.op)) r (t.0 ++ r') (e ∙ ap (λ w. w ++ r') t.1) (is_add_kind y.op) h)

-- no operator: nothing more stands there
pub end_at : (s : Source) (at room : ℕ) → at ≤ length s.tokens → is_add (kind_at s.tokens at) ≡ false → ReadsAt tail_said s at room [] at
end_at s at room inside no_add =
    let n = from_some s at in
    record {
      reads = record { spelled = refl; within = omega arith; nearest = refl; stops = subst (Stops (nothing is_add)) (sym n.1) no_add; only = end_only };
      inside = inside;
      place = omega arith;
      placed = tt;
    }

-- one more operand
pub tail_at : (s : Source) (at middle room : ℕ) (y : Added) → ReadsAt added_said s at room y middle → (zs : List Added) (n : ℕ) → ReadsAt tail_said s middle room zs n → ReadsAt tail_said s at room (y ∷ zs) n
tail_at s at middle room y r zs n t =
    turn_if_at (run_of added_said) tail_said cons_of is_add tail_turn s at n room (y, zs)
    (joined_at added_said tail_said (run_of added_said) (run_joined added_said added_ends) s at middle n room y zs r t)

pub tail_first_refused : (s : Source) (at room token : ℕ) (why : Wrong) → is_add (kind_at s.tokens at) ≡ true → RefusesAt added_said s at room token why → RefusesAt tail_said s at room token why
tail_first_refused s at room token why passes r =
    turn_if_refused_at (run_of added_said) tail_said cons_of is_add tail_turn s at room token why passes
    (first_refused_at added_said tail_said (run_of added_said) (run_joined added_said added_ends) s at room token why r)

pub tail_rest_refused : (s : Source) (at middle room : ℕ) (y : Added) → is_add (kind_at s.tokens at) ≡ true → ReadsAt added_said s at room y middle → (token : ℕ) (why : Wrong) → RefusesAt tail_said s middle room token why → RefusesAt tail_said s at room token why
tail_rest_refused s at middle room y passes r token why t =
    turn_if_refused_at (run_of added_said) tail_said cons_of is_add tail_turn s at room token why passes
    (second_refused_at added_said tail_said (run_of added_said) (run_joined added_said added_ends) s at middle room y token why r t)

-- ---- a sum
abbrev pub sum_run : Unary × List Added → Said
sum_run = run_of unary_said

abbrev pub sum_made : Unary × List Added → Sum
sum_made x = roll-Sum (record { first = x.0; rest = x.1 })

sum_turn : Turn sum_run sum_of sum_made []
sum_turn = record {
  same = λ x. sum_is (record { first = x.0; rest = x.1 });
  turn = λ t r more e h. (((out-Sum t).first, (out-Sum t).rest), sym (roll-out-Sum t));
  begins = λ x. ((sum_run x).kinds, refl);
}

pub sum_start : (s : Source) (at middle room : ℕ) (x : Unary) → ReadsAt unary_said s at room x middle → (zs : List Added) (n : ℕ) → ReadsAt tail_said s middle room zs n → ReadsAt sum_run s at room (x, zs) n
sum_start s at middle room x r zs n t = joined_at unary_said tail_said sum_run (run_joined unary_said unary_ends) s at middle n room x zs r t

pub sum_start_refused : (s : Source) (at middle room : ℕ) (x : Unary) → ReadsAt unary_said s at room x middle → (token : ℕ) (why : Wrong) → RefusesAt tail_said s middle room token why → RefusesAt sum_run s at room token why
sum_start_refused s at middle room x r token why t = second_refused_at unary_said tail_said sum_run (run_joined unary_said unary_ends) s at middle room x token why r t

pub sum_refused : (s : Source) (at room token : ℕ) (why : Wrong) → RefusesAt sum_run s at room token why → RefusesAt sum_of s at room token why
sum_refused s at room token why r = whole_refused_at sum_run sum_of sum_made sum_turn s at room token why r

pub first_operand_refused : (s : Source) (at room token : ℕ) (why : Wrong) → RefusesAt unary_said s at room token why → RefusesAt sum_of s at room token why
first_operand_refused s at room token why r = sum_refused s at room token why (first_refused_at unary_said tail_said sum_run (run_joined unary_said unary_ends) s at room token why r)

pub sum_grown : (s : Source) (at room : ℕ) (x : Unary) (rest new : List Added) (y : Added) → new ≡ rest ++ y ∷ [] → (zs : List Added) (n : ℕ) → ReadsAt sum_run s at room (x, rest ++ y ∷ zs) n → ReadsAt sum_run s at room (x, new ++ zs) n
sum_grown s at room x rest new y is zs n r = subst (λ ys. ReadsAt sum_run s at room (x, ys) n) (sym (append_assoc rest (y ∷ []) zs) ∙ ap (λ ys. ys ++ zs) (sym is)) r

pub sum_ended : (s : Source) (at room : ℕ) (x : Unary) (rest : List Added) (n : ℕ) → ReadsAt sum_run s at room (x, rest ++ []) n → ReadsAt sum_of s at room (sum_made (x, rest)) n
sum_ended s at room x rest n r = turn_at sum_run sum_of sum_made [] sum_turn s at n room (x, rest) (subst (λ ys. ReadsAt sum_run s at room (x, ys) n) (append-nil rest) r)

-- ---- the right half of a comparison
abbrev compared_parts : (CompareOp × Tok) × Sum → Said
compared_parts = seq (operator compare_kind) sum_of

abbrev pub compared_made : (CompareOp × Tok) × Sum → Compared
compared_made x = roll-Compared (record { op = x.0.0; tok = x.0.1; sum = x.1 })

compared_turn : Turn compared_parts compared_of compared_made []
compared_turn = record {
  same = λ x. compared_is (record { op = x.0.0; tok = x.0.1; sum = x.1 });
  turn = λ t r more e h. ((((out-Compared t).op, (out-Compared t).tok), (out-Compared t).sum), sym (roll-out-Compared t));
  begins = λ x. ((compared_parts x).kinds, refl);
}

pub compared_at : (s : Source) (at next room : ℕ) (op : CompareOp) (y : Sum) → kind_at s.tokens at ≡ Some (compare_kind op) → ReadsAt sum_of s (at + 1) room y next → ReadsAt compared_of s at room (compared_made ((op, tok_of s.tokens at), y)) next
compared_at s at next room op y e r =
    turn_at compared_parts compared_of compared_made [] compared_turn s at next room ((op, tok_of s.tokens at), y)
    (behind_single_at (operator compare_kind) (λ x. compare_kind x.0) (operator_single compare_kind compare_tells) sum_of sum_least s at next room (op, tok_of s.tokens at) y (operator_at compare_kind compare_tells s at room op e) r)

pub compared_refused_at : (s : Source) (at room token : ℕ) (why : Wrong) (op : CompareOp) → kind_at s.tokens at ≡ Some (compare_kind op) → RefusesAt sum_of s (at + 1) room token why → RefusesAt compared_of s at room token why
compared_refused_at s at room token why op e r =
    whole_refused_at compared_parts compared_of compared_made compared_turn s at room token why
    (behind_single_refused_at (operator compare_kind) (λ x. compare_kind x.0) (operator_single compare_kind compare_tells) sum_of sum_least s at room token why (op, tok_of s.tokens at) (operator_at compare_kind compare_tells s at room op e) r)

-- ---- a comparison, or a sum alone
abbrev pub right_said : Option Compared → Said
right_said None = nothing is_compare
right_said (Some right) = compared_of right

abbrev halves : Sum × Option Compared → Said
halves x = expr_parts x.0 x.1

compared_head : (c : Compared) → (op : CompareOp) × ((tail : List Kind) × ((compared_of c).kinds ≡ Some (compare_kind op) ∷ tail))
compared_head c =
    let o = out-Compared c in
    (o.op, ((sum_of o.sum).kinds, ap (λ c. (compared_of c).kinds) (sym (roll-out-Compared c)) ∙ ap (λ s. s.kinds) (compared_is o)))

halves_kinds : (x : Sum) (y : Option Compared) → (halves (x, y)).kinds ≡ (sum_of x).kinds ++ (right_said y).kinds
halves_kinds x None = sym (append-nil (sum_of x).kinds)
halves_kinds x (Some y) = refl

halves_kept : (x : Sum) (y : Option Compared) → (halves (x, y)).kept ≡ (sum_of x).kept ++ moved (length (sum_of x).kinds) (right_said y).kept
halves_kept x None = sym (append-nil (sum_of x).kept)
halves_kept x (Some y) = refl

halves_levels : (x : Sum) (y : Option Compared) → (halves (x, y)).levels ≡ max (sum_of x).levels (right_said y).levels
halves_levels x None = omega arith
halves_levels x (Some y) = refl

halves_strays : (x : Sum) (y : Option Compared) → (halves (x, y)).strays ≡ (sum_of x).strays + (right_said y).strays
halves_strays x None = omega arith
halves_strays x (Some y) = refl

halves_apart : (x : Sum) (y : Option Compared) (r : List Kind) → Stops (halves (x, y)) r → Stops (sum_of x) ((right_said y).kinds ++ r) × Stops (right_said y) r
halves_apart x None [] h = absurd h
halves_apart x None (k ∷ r) h = (or_second (is_compare k) ((sum_of x).goes_on k) h, or_first (is_compare k) ((sum_of x).goes_on k) h)
halves_apart x (Some y) r h =
    let t = compared_head y in
    (subst (λ w. Stops (sum_of x) (w ++ r)) (sym t.1.1) (sum_goes x (Some (compare_kind t.0)) (compare_no_open t.0) (compare_no_add (Some (compare_kind t.0)) (is_compare_kind t.0))), h)

halves_meets : (x : Sum) (y : Option Compared) (r : List Kind) → Stops (sum_of x) ((right_said y).kinds ++ r) → Stops (right_said y) r → Stops (halves (x, y)) r
halves_meets x None [] h i = absurd i
halves_meets x None (k ∷ r) h i = or_both (is_compare k) ((sum_of x).goes_on k) i h
halves_meets x (Some y) r h i = i

halves_joined : Joined sum_of right_said halves
halves_joined = record {
  kinds_is = halves_kinds;
  kept_is = halves_kept;
  levels_is = halves_levels;
  strays_of = λ a b n. let e = halves_strays a b in (omega arith, omega arith);
  apart = λ a b r h n. halves_apart a b r h;
  meets = halves_meets;
  fits = λ a b r na nb h. let e = halves_strays a b in omega arith;
  least = record { tree = None; flat = refl; nearest = refl };
  least_fits = λ a na. let e = halves_strays a None in omega arith;
}

abbrev pub expr_made : Sum × Option Compared → Expr
expr_made x = roll-Expr (record { left = x.0; right = x.1 })

expr_turn : Turn halves expr_said expr_made []
expr_turn = record {
  same = λ x. expr_is (record { left = x.0; right = x.1 });
  turn = λ t r more e h. (((out-Expr t).left, (out-Expr t).right), sym (roll-out-Expr t));
  begins = λ x. ((halves x).kinds, refl);
}

no_right : (k : Kind) (r more : List Kind) → r ≡ k ∷ more → is_compare k ≡ true → Stops (nothing is_compare) r → ⊥
no_right k [] more e passes h = h
no_right k (x ∷ r) more e passes h = let is : x ≡ k = cc in let fails : is_compare k ≡ false = subst (λ k. is_compare k ≡ false) is h in cc

none_only : Only right_said None
none_only None r r' e h h' n = (e, λ stood at p p'. refl)
none_only (Some c) r r' e h h' n =
    let t = compared_head c in
    absurd (no_right (Some (compare_kind t.0)) r (t.1.0 ++ r') (e ∙ ap (λ w. w ++ r') t.1.1) (is_compare_kind t.0) h)

none_at : (s : Source) (at room : ℕ) → at ≤ length s.tokens → is_compare (kind_at s.tokens at) ≡ false → ReadsAt right_said s at room None at
none_at s at room inside no_compare =
    let n = from_some s at in
    record {
      reads = record { spelled = refl; within = omega arith; nearest = refl; stops = subst (Stops (nothing is_compare)) (sym n.1) no_compare; only = none_only };
      inside = inside;
      place = omega arith;
      placed = tt;
    }

right_turned : (t : Option Compared) (r : List Kind) (k : Kind) (more : List Kind) → (right_said t).kinds ++ r ≡ k ∷ more → is_compare k ≡ true → Stops (right_said t) r → (x : Compared) × (t ≡ Some x)
right_turned None r k more e passes h = absurd (no_right k r more e passes h)
right_turned (Some c) r k more e passes h = (c, refl)

abbrev some_of : Compared → Option Compared
some_of c = Some c

right_turn : TurnIf compared_of right_said some_of is_compare
right_turn = record {
  same = λ x. refl;
  turn = right_turned;
  begins = λ x. let h = compared_head x in (Some (compare_kind h.0), (h.1.0, h.1.1, is_compare_kind h.0));
}

-- a sum alone
pub expr_alone_at : (s : Source) (at next room : ℕ) (x : Sum) → ReadsAt sum_of s at room x next → is_compare (kind_at s.tokens next) ≡ false → ReadsAt expr_said s at room (expr_made (x, None)) next
expr_alone_at s at next room x r no_compare =
    turn_at halves expr_said expr_made [] expr_turn s at next room (x, None)
    (joined_at sum_of right_said halves halves_joined s at next next room x None r (none_at s next room r.inside no_compare))

pub expr_pair_at : (s : Source) (at next after room : ℕ) (x : Sum) (y : Compared) → ReadsAt sum_of s at room x next → ReadsAt compared_of s next room y after → ReadsAt expr_said s at room (expr_made (x, Some y)) after
expr_pair_at s at next after room x y r t =
    turn_at halves expr_said expr_made [] expr_turn s at after room (x, Some y)
    (joined_at sum_of right_said halves halves_joined s at next after room x (Some y) r (turn_if_at compared_of right_said some_of is_compare right_turn s next after room y t))

pub left_refused_at : (s : Source) (at room token : ℕ) (why : Wrong) → RefusesAt sum_of s at room token why → RefusesAt expr_said s at room token why
left_refused_at s at room token why r = whole_refused_at halves expr_said expr_made expr_turn s at room token why (first_refused_at sum_of right_said halves halves_joined s at room token why r)

pub right_refused_at : (s : Source) (at next room token : ℕ) (why : Wrong) (x : Sum) → ReadsAt sum_of s at room x next → is_compare (kind_at s.tokens next) ≡ true → RefusesAt compared_of s next room token why → RefusesAt expr_said s at room token why
right_refused_at s at next room token why x r passes t =
    whole_refused_at halves expr_said expr_made expr_turn s at room token why
    (second_refused_at sum_of right_said halves halves_joined s at next room x token why r
    (turn_if_refused_at compared_of right_said some_of is_compare right_turn s next room token why passes t))
