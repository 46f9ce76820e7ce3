-- One byte of a group number is read, by cases.
use Rattle.std.proofs.Common.{◌≡◌, ℕ, zero, suc, ◌+◌, ◌-◌, ◌*◌, ◌^◌, ◌<◌, ◌≤◌, List, [], ◌∷◌, refl, ap, ◌∙◌, arith, inl, inr}
use Rattle.std.proofs.lemmas.Bool.{cases_lt, lt-ltb, le-ltb, le-leb, lt-leb}
use Rattle.std.proofs.lemmas.Nat.{pow-add}
use Rattle.std.proofs.Math.Pow.{pow_mono}
use Rattle.group_number.specs.declared.reading.NumberRead.{NumberRead}
use Rattle.group_number.specs.declared.reading.NumberRead.TheVariants.{Short, Bad, Number}
use Rattle.group_number.specs.Groups.{behind_group, groups_in, is_decided}

-- seven bits are a factor of 128
pub pow_seven : (bits : ℕ) → 7 < bits → 2 ^ bits ≡ 128 * 2 ^ (bits - 7)
pow_seven bits long =
    let parts : bits ≡ 7 + (bits - 7) = omega arith in
    ap (λ (x : ℕ). 2 ^ x) parts ∙ pow-add 2 7 (bits - 7)

pub pow_few : (bits : ℕ) → bits ≤ 7 → 2 ^ bits ≤ 128
pow_few bits few = pow_mono {i = bits} {j = 7} few

pub at_end : (bits : ℕ) → groups_in bits [] ≡ Short
unfolding groups_in
at_end bits = refl

pub at_last : (bits b : ℕ) (bytes : List ℕ) → b < 128 → b < 2 ^ bits → groups_in bits (b ∷ bytes) ≡ Number b 1
unfolding groups_in
at_last bits b bytes low fits = rw (lt-ltb b 128 low, lt-ltb b (2 ^ bits) fits) refl

pub at_large : (bits b : ℕ) (bytes : List ℕ) → b < 128 → 2 ^ bits ≤ b → groups_in bits (b ∷ bytes) ≡ Bad
unfolding groups_in
at_large bits b bytes low large = rw (lt-ltb b 128 low, le-ltb b (2 ^ bits) large) refl

pub at_many : (bits b : ℕ) (bytes : List ℕ) → 128 ≤ b → bits ≤ 7 → groups_in bits (b ∷ bytes) ≡ Bad
unfolding groups_in
at_many bits b bytes high few = rw (le-ltb b 128 high, le-leb bits 7 few) refl

pub at_more : (bits b : ℕ) (bytes : List ℕ) → 128 ≤ b → 7 < bits
    → groups_in bits (b ∷ bytes) ≡ behind_group (b - 128) (groups_in (bits - 7) bytes)
unfolding groups_in
at_more bits b bytes high long = rw (le-ltb b 128 high, lt-leb bits 7 long) refl

-- a byte is the last, ends the reading, or has others behind it
pub data Step (bits b : ℕ) : Type 0 where
  last : b < 128 → b < 2 ^ bits → Step bits b
  ends : ((bytes : List ℕ) → groups_in bits (b ∷ bytes) ≡ Bad) → Step bits b
  more : 128 ≤ b → 7 < bits → Step bits b

pub step : (bits b : ℕ) → Step bits b
step bits b =
    elim (cases_lt b 128) [
      | inl low ↦ elim (cases_lt b (2 ^ bits)) [
        | inl fits ↦ last low fits
        | inr large ↦ ends (λ bytes. at_large bits b bytes low large)
      ]
      | inr high ↦ elim (cases_lt 7 bits) [
        | inl long ↦ more high long
        | inr few ↦ ends (λ bytes. at_many bits b bytes high few)
      ]
    ]

-- what stands behind a low group where a number is read
pub record Parts (low : ℕ) (behind : NumberRead) (n len : ℕ) : Type 0 where
  pub high : ℕ
  pub rest : ℕ
  pub read : behind ≡ Number high rest
  pub some : 0 < high
  pub number : n ≡ low + 128 * high
  pub length : len ≡ suc rest

pub parts : (low : ℕ) (behind : NumberRead) (n len : ℕ) → behind_group low behind ≡ Number n len → Parts low behind n len
parts low Short n len e = absurd cc
parts low Bad n len e = absurd cc
parts low (Number zero rest) n len e = absurd cc
parts low (Number (suc m) rest) n len e =
    let number : n ≡ low + 128 * suc m = cc in
    let length : len ≡ suc rest = cc in
    record { high = suc m; rest = rest; read = refl; some = omega arith; number = number; length = length }

pub behind_some : (low high rest : ℕ) → 0 < high → behind_group low (Number high rest) ≡ Number (low + 128 * high) (suc rest)
behind_some low zero rest some = absurd (omega arith)
behind_some low (suc m) rest some = refl

-- a group in front decides nothing
pub decided_behind : (low : ℕ) (behind : NumberRead) → is_decided (behind_group low behind) ≡ is_decided behind
decided_behind low Short = refl
decided_behind low Bad = refl
decided_behind low (Number zero rest) = refl
decided_behind low (Number (suc m) rest) = refl
