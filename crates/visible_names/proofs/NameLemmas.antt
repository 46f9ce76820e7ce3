-- What is kept of names finds them.
use Rattle.std.proofs.Common.{◌≡◌, ℕ, suc, ◌-◌, ◌<◌, ◌≤◌, Bool, true, false, cond, List, [], ◌∷◌, ◌++◌, length, take, drop, get_or, Option, Some, None, arith, refl, sym, ap, ◌∙◌, subst, Bor, length-append, length-drop, length-take-le}
use Rattle.std.specs.Prelude.{reverse, is_some, nat_le, find}
use Rattle.std.specs.Option.{option_map}
use Rattle.std.specs.Map.{update}
use Rattle.std.specs.Str.{bytes_eq}
use Rattle.std.specs.Cmp.Lexicographic.{slice_cmp}
use Rattle.std.specs.Ordering.{nat_cmp}
use Rattle.std.specs.BTreeMap.{BTreeMap, get_by}
use Rattle.std.proofs.Math.ListN.{get_or-append}
use Rattle.std.proofs.Math.Seq.{get_or-append_seam}
use Rattle.std.proofs.lemmas.Bool.Decides.{nat_tests}
use Rattle.std.proofs.lemmas.Grind.{reverse_onto}
use Rattle.std.proofs.lemmas.List.{reverse-append, length-reverse, take-append-drop, map-append, length-map, take_all, drop_all, nil_from_length}
use Rattle.std.proofs.lemmas.Slice.Eq.{bytes_eq-Decides}
use Rattle.visible_names.specs.declared.names.Entry.{Entry}
use Rattle.visible_names.specs.Names.{Bound, Names, bound_to}
use Rattle.visible_names.specs.Kept.{bound, bounds, latest, IsLatest, KeepsBefore}

-- ---- where a name stands
first_found : (t : Bool) (b : Bound) (rest : Option Bound) → option_map (λ (x : Bound). x.vertex) (cond t (Some b) rest) ≡ cond t (Some b.vertex) (option_map (λ (x : Bound). x.vertex) rest)
first_found true b rest = refl
first_found false b rest = refl

bound_cons : (name : List ℕ) (e : Entry) (es : List Entry) → bound_to name (bounds (e ∷ es)) ≡ cond (bytes_eq e.name.now name) (Some e.vertex) (bound_to name (bounds es))
bound_cons name e es = first_found (bytes_eq e.name.now name) (bound e) (find (λ (b : Bound). bytes_eq b.name name) (bounds es))

pub record Finds (name : List ℕ) (es : List Entry) (at : ℕ) (d : Entry) : Type 0 where
  pub inside : at < length es
  pub is_bound : bound_to name (bounds es) ≡ Some (get_or (reverse es) at d).vertex

some_is : (a b : ℕ) → Some a ≡ Some b → a ≡ b
some_is a b e = cc

last_one : (e : Entry) (es : List Entry) (d : Entry) → get_or (reverse (e ∷ es)) (length es) d ≡ e
last_one e es d =
    ap (λ l. get_or l (length es) d) (reverse_onto es e [])
    ∙ ap (λ n. get_or (reverse es ++ e ∷ []) n d) (sym (length-reverse es))
    ∙ get_or-append_seam (reverse es) e [] d

earlier_one : (e : Entry) (es : List Entry) (d : Entry) (at : ℕ) → at < length es → get_or (reverse (e ∷ es)) at d ≡ get_or (reverse es) at d
earlier_one e es d at h = ap (λ l. get_or l at d) (reverse_onto es e []) ∙ get_or-append (reverse es) (e ∷ []) d at (omega (arith, length-reverse es))

found_here : (name : List ℕ) (e : Entry) (es : List Entry) (at : ℕ) (d : Entry) (t : Bool) → bound_to name (bounds (e ∷ es)) ≡ cond t (Some e.vertex) (bound_to name (bounds es))
    → ((at : ℕ) → latest name es ≡ Some at → Finds name es at d) → cond t (Some (length es)) (latest name es) ≡ Some at → Finds name (e ∷ es) at d
found_here name e es at d true b later h =
    let n : length es ≡ at = some_is (length es) at h in
    record { inside = omega arith; is_bound = b ∙ ap (λ (x : Entry). Some x.vertex) (sym (last_one e es d)) ∙ ap (λ k. Some (get_or (reverse (e ∷ es)) k d).vertex) n }
found_here name e es at d false b later h =
    let f = later at h in
    record { inside = omega (arith, f.inside); is_bound = b ∙ f.is_bound ∙ ap (λ (x : Entry). Some x.vertex) (sym (earlier_one e es d at f.inside)) }

pub latest_some : (name : List ℕ) (es : List Entry) (at : ℕ) (d : Entry) → latest name es ≡ Some at → Finds name es at d
latest_some name [] at d h = absurd (cc)
latest_some name (e ∷ es) at d h = found_here name e es at d (bytes_eq e.name.now name) (bound_cons name e es) (λ k q. latest_some name es k d q) h

none_here : (name : List ℕ) (e : Entry) (es : List Entry) (t : Bool) → bound_to name (bounds (e ∷ es)) ≡ cond t (Some e.vertex) (bound_to name (bounds es))
    → (latest name es ≡ None → bound_to name (bounds es) ≡ None) → cond t (Some (length es)) (latest name es) ≡ None → bound_to name (bounds (e ∷ es)) ≡ None
none_here name e es true b later h = absurd (cc)
none_here name e es false b later h = b ∙ later h

pub latest_none : (name : List ℕ) (es : List Entry) → latest name es ≡ None → bound_to name (bounds es) ≡ None
latest_none name [] h = refl
latest_none name (e ∷ es) h = none_here name e es (bytes_eq e.name.now name) (bound_cons name e es) (latest_none name es) h

inside_here : (n at : ℕ) (t : Bool) (l : Option ℕ) → ((k : ℕ) → l ≡ Some k → k < n) → cond t (Some n) l ≡ Some at → at < suc n
inside_here n at true l h e = let q : n ≡ at = some_is n at e in omega arith
inside_here n at false l h e = let q : at < n = h at e in omega arith

pub inside : (name : List ℕ) (es : List Entry) (at : ℕ) → latest name es ≡ Some at → at < length es
inside name [] at h = absurd (cc)
inside name (e ∷ es) at h = inside_here (length es) at (bytes_eq e.name.now name) (latest name es) (inside name es) h

-- ---- whether it stands in the innermost scope
abbrev pub from_on : ℕ → Option ℕ → Bool
from_on n None = false
from_on n (Some at) = nat_le n at

below_is : (n : ℕ) (o : Option ℕ) → ((at : ℕ) → o ≡ Some at → at < n) → false ≡ from_on n o
below_is n None h = refl
below_is n (Some at) h = let l : at < n = h at refl in grind (arith, nat_tests)

inner_here : (n m : ℕ) (v : ℕ) (t : Bool) (b : Option ℕ) (l : Option ℕ) → n ≤ m → is_some b ≡ from_on n l → is_some (cond t (Some v) b) ≡ from_on n (cond t (Some m) l)
inner_here n m v true b l h e = grind (arith, nat_tests)
inner_here n m v false b l h e = e

pub inner_is : (name : List ℕ) (I O : List Entry) → is_some (bound_to name (bounds I)) ≡ from_on (length O) (latest name (I ++ O))
inner_is name [] O = below_is (length O) (latest name O) (inside name O)
inner_is name (e ∷ I) O =
    ap is_some (bound_cons name e I)
    ∙ inner_here (length O) (length (I ++ O)) e.vertex (bytes_eq e.name.now name) (bound_to name (bounds I)) (latest name (I ++ O)) (omega (arith, length-append I O)) (inner_is name I O)

-- ---- a name more
pub pushed : (E : List Entry) (x : Entry) → reverse (E ++ x ∷ []) ≡ x ∷ reverse E
pushed E x = reverse-append E (x ∷ [])

-- the value at a name
abbrev pub at_name : BTreeMap (Bor (List ℕ)) ℕ → List ℕ → Option ℕ
at_name m name = get_by (λ (k : Bor (List ℕ)). slice_cmp nat_cmp name k.now) m

pub latest_push : (m n : BTreeMap (Bor (List ℕ)) ℕ) (E : List Entry) (x : Entry) → IsLatest m (reverse E) → ((q : List ℕ) → at_name n q ≡ update bytes_eq (at_name m) x.name.now (Some (length E)) q) → IsLatest n (reverse (E ++ x ∷ []))
latest_push m n E x l u name =
    u name
    ∙ ap (λ o. cond (bytes_eq x.name.now name) (Some (length E)) o) (l name)
    ∙ ap (λ k. cond (bytes_eq x.name.now name) (Some k) (latest name (reverse E))) (sym (length-reverse E))
    ∙ ap (latest name) (sym (pushed E x))

first_is : (x y : Entry) (xs ys : List Entry) → x ∷ xs ≡ y ∷ ys → x ≡ y
first_is x y xs ys e = cc

rest_is : (x y : Entry) (xs ys : List Entry) → x ∷ xs ≡ y ∷ ys → xs ≡ ys
rest_is x y xs ys e = cc

before_first : (x : Entry) (R : List Entry) → KeepsBefore R → x.before ≡ latest x.name.now R → KeepsBefore (x ∷ R)
before_first x R k b [] e es q =
    subst (λ (y : Entry). y.before ≡ latest y.name.now es) (first_is x e R es q) (b ∙ ap (latest x.name.now) (rest_is x e R es q))
before_first x R k b (f ∷ front) e es q = k front e es (rest_is x f R (front ++ e ∷ es) q)

pub before_push : (E : List Entry) (x : Entry) → KeepsBefore (reverse E) → x.before ≡ latest x.name.now (reverse E) → KeepsBefore (reverse (E ++ x ∷ []))
before_push E x k b = subst KeepsBefore (sym (pushed E x)) (before_first x (reverse E) k b)

-- ---- a name less
pub before_pop : (x : Entry) (R : List Entry) → KeepsBefore (x ∷ R) → KeepsBefore R
before_pop x R k front e es q = k (x ∷ front) e es (ap (λ l. x ∷ l) q)

same : (a b : List ℕ) → bytes_eq a b ≡ true → a ≡ b
same a b e = (bytes_eq-Decides a b).0 e

pop_here : (x : Entry) (R : List Entry) (name : List ℕ) (t : Bool) (now : Option ℕ) → (bytes_eq x.name.now name ≡ t) → x.before ≡ latest x.name.now R → now ≡ cond t (Some (length R)) (latest name R) → cond t x.before now ≡ latest name R
pop_here x R name true now e b l = b ∙ ap (λ k. latest k R) (same x.name.now name e)
pop_here x R name false now e b l = l

pub latest_pop : (m n : BTreeMap (Bor (List ℕ)) ℕ) (x : Entry) (R : List Entry) → IsLatest m (x ∷ R) → KeepsBefore (x ∷ R) → ((q : List ℕ) → at_name n q ≡ update bytes_eq (at_name m) x.name.now x.before q) → IsLatest n R
latest_pop m n x R l k u name = u name ∙ pop_here x R name (bytes_eq x.name.now name) (at_name m name) refl (k [] x R refl) (l name)

-- ---- scopes
pub split : (E : List Entry) (s : ℕ) → reverse (drop s E) ++ reverse (take s E) ≡ reverse E
split E s = sym (reverse-append (take s E) (drop s E)) ∙ ap reverse (take-append-drop s E)

pub split_bounds : (E : List Entry) (s : ℕ) → bounds (reverse (drop s E)) ++ bounds (reverse (take s E)) ≡ bounds (reverse E)
split_bounds E s = sym (map-append bound (reverse (drop s E)) (reverse (take s E))) ∙ ap bounds (split E s)

-- of the entries that are kept, those from the start on are of the innermost scope
module _ (E : List Entry) (s : ℕ) (view : Names) (is_view : (let v : Names = record { inner = bounds (reverse (drop s E)); outer = bounds (reverse (take s E)) } in v) ≡ view) where
  pub whole : view.inner ++ view.outer ≡ bounds (reverse E)
  whole = sym (ap (λ (v : Names). v.inner ++ v.outer) is_view) ∙ split_bounds E s

  pub inner_length : length view.inner ≡ length E - s
  inner_length = sym (ap (λ (v : Names). length v.inner) is_view) ∙ simp (length-map, length-reverse, length-drop)

  pub outer_length : s ≤ length E → length view.outer ≡ s
  outer_length h = sym (ap (λ (v : Names). length v.outer) is_view) ∙ simp (length-map, length-reverse) (length-take-le s E h)

  pub inner_test : (name : List ℕ) → s ≤ length E → is_some (bound_to name view.inner) ≡ from_on s (latest name (reverse E))
  inner_test name h =
      sym (ap (λ (v : Names). is_some (bound_to name v.inner)) is_view)
      ∙ inner_is name (reverse (drop s E)) (reverse (take s E))
      ∙ ap (λ n. from_on n (latest name (reverse (drop s E) ++ reverse (take s E)))) (length-reverse (take s E) ∙ length-take-le s E h)
      ∙ ap (λ l. from_on s (latest name l)) (split E s)

-- an innermost scope without names, and one that ended
pub opened : (E : List Entry) (n : ℕ) → n ≡ length E → (let v : Names = record { inner = bounds (reverse (drop n E)); outer = bounds (reverse (take n E)) } in v) ≡ record { inner = []; outer = bounds (reverse E) }
opened E n e = rw e (simp (take_all (length E) E (omega arith), drop_all (length E) E (omega arith)))

-- the last name of a scope goes
pub last_here : (x : Entry) (R : List Entry) → latest x.name.now (x ∷ R) ≡ Some (length R)
last_here x R = ap (λ t. cond t (Some (length R)) (latest x.name.now R)) ((bytes_eq-Decides x.name.now x.name.now).1 refl)

pub no_inner : (view : Names) → length view.inner ≡ 0 → view.inner ++ view.outer ≡ view.outer
no_inner view e = ap (λ (l : List Bound). l ++ view.outer) (nil_from_length view.inner e)
