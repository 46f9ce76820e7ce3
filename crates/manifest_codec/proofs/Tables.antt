-- Tables that are kept row after row: how long they are, and what stands in row i and column j.
use Rattle.std.proofs.Common.{◌≡◌, ℕ, zero, suc, ◌+◌, ◌*◌, ◌/◌, ◌%◌, ◌<◌, ◌≤◌, List, [], ◌∷◌, length, take, map, get_or, refl, sym, ap, subst, ◌∙◌, arith}
use Rattle.std.specs.List.{flat_map, AllByRecursion}
use Rattle.std.proofs.Math.Nat.{mul-le-mul_right, suc-mul, div-lt_iff_lt-mul, mod-lt}
use Rattle.std.proofs.lemmas.Nat.{div-add-mod'}
use Rattle.std.proofs.lemmas.Bool.{lt-ltb}
use Rattle.std.proofs.lemmas.List.{length-append, length-map, length-take-le, get_or-map}
use Rattle.std.proofs.lemmas.List.Concat.{flat_map-cons, get_or-flat_map}
use Rattle.dest_map.specs.Table.{entry}
use Rattle.manifest_codec.specs.declared.types.PartEntry.{PartEntry}
use Rattle.manifest_codec.specs.Rules.{widths, count_limits}

pub length-widths : (low : ℕ) (parts : List PartEntry) → length (widths low parts) ≡ length parts
length-widths low [] = refl
length-widths low (p ∷ parts) = ap suc (length-widths p.hi parts)

length-rows : (row : ℕ → List ℕ) (k : ℕ) (ws : List ℕ) → ((a : ℕ) → length (row a) ≡ k) → length (flat_map row ws) ≡ length ws * k
length-rows row k [] each = omega arith
length-rows row k (w ∷ ws) each = ap length (flat_map-cons row w ws) ∙ length-append (row w) (flat_map row ws) ∙ omega (arith, each w, length-rows row k ws each, suc-mul (length ws) k)

pub length-limits : (parts : List PartEntry) → length (count_limits (widths 0 parts)) ≡ length parts * length parts
length-limits parts =
    let ws = widths 0 parts in
    let same : length ws ≡ length parts = length-widths 0 parts in
    length-rows (λ a. map (λ b. a * b * 63000) ws) (length ws) ws (λ a. length-map ws (λ b. a * b * 63000)) ∙ rw same refl

-- the limit in row i and column j
pub limit_at : (ws : List ℕ) (i j : ℕ) → i < length ws → j < length ws → get_or (count_limits ws) (i * length ws + j) 0 ≡ get_or ws i 0 * get_or ws j 0 * 63000
limit_at ws i j li lj =
    let row : ℕ → List ℕ = λ a. map (λ b. a * b * 63000) ws in
    let wide : (a : ℕ) → length (row a) ≡ length ws = λ a. length-map ws (λ b. a * b * 63000) in
    let front : length (flat_map row (take i ws)) ≡ i * length ws = length-rows row (length ws) (take i ws) wide ∙ ap (λ (n : ℕ). n * length ws) (length-take-le i ws (omega (arith, li))) in
    ap (λ (n : ℕ). get_or (flat_map row ws) (n + j) 0) (sym front) ∙ get_or-flat_map row ws i j 0 0 li (omega (arith, wide (get_or ws i 0), lj)) ∙ get_or-map (λ b. get_or ws i 0 * b * 63000) ws j 0 0 lj

-- an entry of a square table
pub entry_at : (k size : ℕ) (xs : List ℕ) (i j : ℕ) → size ≡ k → j < k → entry size xs i j ≡ get_or xs (i * k + j) 0
entry_at k size xs i j same lt = ap (λ (s : ℕ). entry s xs i j) same ∙ rw (lt-ltb j k lt) refl

-- a place of a square table lies in it
pub place_within : (k i j : ℕ) → i < k → j < k → i * k + j < k * k
place_within k i j li lj = let le : suc i * k ≤ k * k = mul-le-mul_right k (omega (arith, li)) in omega (arith, le, suc-mul i k, lj)

-- what holds in each row and column holds at each place
pub by_rows : (P : ℕ → Type 0) (k : ℕ) → ((i j : ℕ) → i < k → j < k → P (i * k + j)) → (n : ℕ) → n < k * k → P n
by_rows P zero each n lt = absurd (omega (arith, lt))
by_rows P (suc k) each n lt =
    let some : 0 < suc k = omega arith in
    subst P (div-add-mod' n (suc k)) (each (n / suc k) (n % suc k) ((div-lt_iff_lt-mul some).1 lt) (mod-lt n some))

pub all_from_places : (P : ℕ → Type 0) (xs : List ℕ) → ((n : ℕ) → n < length xs → P (get_or xs n 0)) → AllByRecursion P xs
all_from_places P [] each = tt
all_from_places P (x ∷ xs) each = (each 0 (omega arith), all_from_places P xs (λ n lt. each (suc n) (omega (arith, lt))))

pub places_from_all : (P : ℕ → Type 0) (xs : List ℕ) → AllByRecursion P xs → (n : ℕ) → n < length xs → P (get_or xs n 0)
places_from_all P [] all n lt = absurd (omega (arith, lt))
places_from_all P (x ∷ xs) all zero lt = all.0
places_from_all P (x ∷ xs) all (suc n) lt = places_from_all P xs all.1 n (omega (arith, lt))
