-- Functions by the numbers of their names.
use Rattle.std.proofs.Common.{◌≡◌, ◌∙◌, refl, sym, ap, ℕ, ◌+◌, ◌<◌, Bool, true, false, cond, List, [], ◌∷◌, ◌++◌, length, get_or, Option, Some, None, arith}
use Rattle.std.specs.Prelude.{map, reverse, find, is_some}
use Rattle.std.specs.Option.{option_map}
use Rattle.std.specs.Str.{bytes_eq}
use Rattle.std.proofs.lemmas.List.{length-map, length-reverse, get_or_append_left}
use Rattle.std.proofs.lemmas.Grind.{reverse_onto}
use Rattle.std.proofs.Math.Seq.{get_or-append_seam}
use Rattle.visible_names.specs.Names.{Bound, bound_to}
use Rattle.graph_emit.specs.declared.functions.Target.{Target as MadeTarget}
use Rattle.graph_emit.specs.State.{Target}
use Rattle.graph_emit.specs.Program.{Known, known_as}
use Rattle.graph_emit.specs.Functions.{target, known, numbered}

abbrev same_name : List ℕ → Bound → Bool
same_name name b = bytes_eq b.name name

abbrev same_known : List ℕ → Known → Bool
same_known name f = bytes_eq f.name name

-- the number of a name, and the function with that number
pub record FoundAt (name : List ℕ) (rs : List MadeTarget) (at : ℕ) (d : MadeTarget) : Type 0 where
  pub inside : at < length rs
  pub is : known_as name (map known rs) ≡ Some (target (get_or (reverse rs) at d))

found_first : (name : List ℕ) (r : MadeTarget) (rs : List MadeTarget) (at : ℕ) (d : MadeTarget) (t : Bool) → bytes_eq r.name.now name ≡ t
    → option_map (λ (b : Bound). b.vertex) (cond t (Some (let b : Bound = record { name = r.name.now; vertex = length (map known rs) } in b)) (find (same_name name) (numbered (map known rs)))) ≡ Some at
    → (bound_to name (numbered (map known rs)) ≡ Some at → FoundAt name rs at d) → FoundAt name (r ∷ rs) at d
found_first name r rs at d true is h more =
    let last : length (map known rs) ≡ at = cc in
    let n : at ≡ length (reverse rs) = omega (arith, last, length-map rs known, length-reverse rs) in
    let here : get_or (reverse (r ∷ rs)) at d ≡ r = ap (λ l. get_or l at d) (reverse_onto rs r []) ∙ ap (λ n. get_or (reverse rs ++ r ∷ []) n d) n ∙ get_or-append_seam (reverse rs) r [] d in
    record {
      inside = omega (arith, n, length-reverse rs);
      is = ap (λ t. option_map (λ (f : Known). f.target) (cond t (Some (known r)) (find (same_known name) (map known rs)))) is ∙ ap (λ t. Some (target t)) (sym here);
    }
found_first name r rs at d false is h more =
    let f = more h in
    let inside : at < length rs = f.inside in
    let within : at < length (reverse rs) = omega (arith, length-reverse rs) in
    let same : get_or (reverse (r ∷ rs)) at d ≡ get_or (reverse rs) at d = ap (λ l. get_or l at d) (reverse_onto rs r []) ∙ get_or_append_left (reverse rs) (r ∷ []) d at within in
    record {
      inside = omega arith;
      is = ap (λ t. option_map (λ (f : Known). f.target) (cond t (Some (known r)) (find (same_known name) (map known rs)))) is ∙ f.is ∙ ap (λ t. Some (target t)) (sym same);
    }

pub numbered_some : (name : List ℕ) (rs : List MadeTarget) (at : ℕ) (d : MadeTarget) → bound_to name (numbered (map known rs)) ≡ Some at → FoundAt name rs at d
numbered_some name [] at d h = absurd (cc)
numbered_some name (r ∷ rs) at d h = found_first name r rs at d (bytes_eq r.name.now name) refl h (λ h. numbered_some name rs at d h)

-- a name has a number where there is a function of it
same_first : (t : Bool) (b : Bound) (f : Known) (o : Option Bound) (p : Option Known) → is_some (option_map (λ (b : Bound). b.vertex) o) ≡ is_some (option_map (λ (f : Known). f.target) p)
    → is_some (option_map (λ (b : Bound). b.vertex) (cond t (Some b) o)) ≡ is_some (option_map (λ (f : Known). f.target) (cond t (Some f) p))
same_first true b f o p h = refl
same_first false b f o p h = h

pub numbered_has : (name : List ℕ) (fs : List Known) → is_some (bound_to name (numbered fs)) ≡ is_some (known_as name fs)
numbered_has name [] = refl
numbered_has name (f ∷ fs) = same_first (bytes_eq f.name name) (record { name = f.name; vertex = length fs }) f (find (same_name name) (numbered fs)) (find (same_known name) fs) (numbered_has name fs)

missing_is : (o : Option Target) → is_some o ≡ false → o ≡ None
missing_is None h = refl
missing_is (Some t) h = absurd (cc)

pub numbered_none : (name : List ℕ) (fs : List Known) → bound_to name (numbered fs) ≡ None → known_as name fs ≡ None
numbered_none name fs h = missing_is (known_as name fs) (sym (numbered_has name fs) ∙ ap is_some h)

inside_first : (rs : List MadeTarget) (b : Bound) (o : Option Bound) (at : ℕ) (t : Bool) → b.vertex ≡ length (map known rs) → option_map (λ (b : Bound). b.vertex) (cond t (Some b) o) ≡ Some at → (option_map (λ (b : Bound). b.vertex) o ≡ Some at → at < length rs) → at < length rs + 1
inside_first rs b o at true last h more = let same : b.vertex ≡ at = cc in omega (arith, last, length-map rs known)
inside_first rs b o at false last h more = let inside : at < length rs = more h in omega arith

pub numbered_inside : (name : List ℕ) (rs : List MadeTarget) (at : ℕ) → bound_to name (numbered (map known rs)) ≡ Some at → at < length rs
numbered_inside name [] at h = absurd (cc)
numbered_inside name (r ∷ rs) at h =
    let b : Bound = record { name = r.name.now; vertex = length (map known rs) } in
    let inside : at < length rs + 1 = inside_first rs b (find (same_name name) (numbered (map known rs))) at (bytes_eq r.name.now name) refl h (λ h. numbered_inside name rs at h) in
    omega arith
