-- The interval that has a vertex, counted in two ways.
use Rattle.std.proofs.Common.{◌≡◌, ℕ, zero, suc, ◌+◌, ◌<◌, ◌≤◌, List, [], ◌∷◌, length, get_or, refl, ap, ◌∙◌, arith}
use Rattle.std.proofs.lemmas.Bool.Decides.{nat_tests}
use Rattle.std.specs.Prelude.{Bool, true, false, nat_lt, map}
use Rattle.closing_machine.specs.State.{place}
use Rattle.intervals.specs.Bounds.{IsCut, LiesIn, low_of, high_of, vertices_of}
use Rattle.intervals.proofs.BoundsLemmas.{ends_rise}
use Rattle.manifest_codec.specs.declared.types.PartEntry.{PartEntry}
use Rattle.manifest_codec.specs.Spelling.{Cover}

before : (e v : ℕ) → v < e → nat_lt v e ≡ true
before e v low = grind (arith, nat_tests)

not_before : (e v : ℕ) → e ≤ v → nat_lt v e ≡ false
not_before e v low = grind (arith, nat_tests)

-- the ends before i are at v or below, and that of i is above
pub place_at : (ends : List ℕ) (i v : ℕ) → i ≤ length ends → ((k : ℕ) → k < i → get_or ends k 0 ≤ v) → (i < length ends → v < get_or ends i 0) → place ends v ≡ i
place_at [] i v within below above = omega (arith, within)
place_at (e ∷ es) zero v within below above = rw (before e v (above (omega arith))) refl
place_at (e ∷ es) (suc i) v within below above =
    rw (not_before e v (below zero (omega arith))) (ap suc (place_at es i v (omega (arith, within)) (λ k low. below (suc k) (omega (arith, low))) (λ low. above (omega (arith, low)))))

low_at_most : (ends : List ℕ) (i v k : ℕ) → IsCut ends → i ≤ length ends → low_of ends i ≤ v → k < i → get_or ends k 0 ≤ v
low_at_most ends zero v k cut within low lt = absurd (omega (arith, lt))
low_at_most ends (suc i) v k cut within low lt = omega (arith, low, ends_rise ends cut k i (omega (arith, lt)) (omega (arith, within)))

pub place_of_lies : (ends : List ℕ) (i v : ℕ) → IsCut ends → LiesIn ends i v → place ends v ≡ i
place_of_lies ends i v cut lies = place_at ends i v (omega (arith, lies.number)) (λ k low. low_at_most ends i v k cut (omega (arith, lies.number)) lies.low low) (λ low. lies.high)

-- no interval has a vertex behind them all
pub place_behind : (ends : List ℕ) (v : ℕ) → IsCut ends → vertices_of ends ≤ v → place ends v ≡ length ends
place_behind ends v cut le = place_at ends (length ends) v (omega arith) (λ k low. low_at_most ends (length ends) v k cut (omega arith) le low) (λ low. absurd (omega (arith, low)))

-- partitions that cover the vertices give intervals
abbrev low_from : ℕ → List ℕ → ℕ → ℕ
low_from from ends zero = from
low_from from ends (suc i) = get_or ends i 0

covered_from : (top from : ℕ) (parts : List PartEntry) → Cover top from parts → (i : ℕ) → i < length (map (λ p. p.hi) parts) → low_from from (map (λ p. p.hi) parts) i < get_or (map (λ p. p.hi) parts) i 0
covered_from top from [] cover i low = absurd (omega (arith, low))
covered_from top from (p ∷ ps) cover zero low = cover.0
covered_from top from (p ∷ ps) cover (suc zero) low = covered_from top p.hi ps cover.1 zero (omega (arith, low))
covered_from top from (p ∷ ps) cover (suc (suc i)) low = covered_from top p.hi ps cover.1 (suc i) (omega (arith, low))

cut_is : (ends : List ℕ) → ((i : ℕ) → i < length ends → low_from 0 ends i < get_or ends i 0) → IsCut ends
cut_is ends each zero low = each zero low
cut_is ends each (suc i) low = each (suc i) low

pub cut_of_cover : (top : ℕ) (parts : List PartEntry) → Cover top 0 parts → IsCut (map (λ p. p.hi) parts)
cut_of_cover top parts cover = cut_is (map (λ p. p.hi) parts) (covered_from top 0 parts cover)
