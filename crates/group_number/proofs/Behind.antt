-- Groups in front of what is read behind them, and one more of these.
use Rattle.std.proofs.Common.{◌≡◌, ℕ, zero, suc, ◌+◌, ◌-◌, ◌*◌, ◌%◌, ◌^◌, ◌<◌, ◌≤◌, List, [], ◌∷◌, length, take, drop}
use Rattle.std.proofs.Common.{get_or, refl, sym, ap, ◌∙◌, subst, arith, inl, inr}
use Rattle.std.proofs.lemmas.Bool.{cases_lt}
use Rattle.std.proofs.lemmas.List.{drop_all, take_all}
use Rattle.std.proofs.lemmas.Nat.{pow-add, pow_pos, row_fits, shl_whole}
use Rattle.std.proofs.Math.Nat.{mul_comm, mul_assoc}
use Rattle.std.proofs.Math.Pow.{pow_mono}
use Rattle.std.proofs.Math.Seq.{drop-cons}
use Rattle.group_number.specs.declared.reading.NumberRead.{NumberRead}
use Rattle.group_number.specs.declared.reading.NumberRead.TheVariants.{Short, Bad, Number}
use Rattle.group_number.specs.Groups.{behind_group, groups_in, group_at}
use Rattle.group_number.proofs.Steps.{at_end, at_last, at_large, at_many, at_more, behind_some}

-- ---- the first byte

pub none_is_short : (bytes : List ℕ) → length bytes ≡ 0 → Short ≡ group_at bytes
none_is_short [] e = sym (at_end 64)
none_is_short (b ∷ bytes) e = absurd (omega arith)

pub one_is_all : (bytes : List ℕ) → 0 < length bytes → get_or bytes 0 0 < 128 → Number (get_or bytes 0 0) 1 ≡ group_at bytes
one_is_all [] some low = absurd (omega arith)
one_is_all (b ∷ bytes) some low = sym (at_last 64 b bytes low (omega arith))

pub first_behind : (bytes : List ℕ) → 0 < length bytes → 128 ≤ get_or bytes 0 0
    → behind_group (get_or bytes 0 0 - 128) (groups_in 57 (take (length bytes - 1) (drop 1 bytes))) ≡ group_at bytes
first_behind [] some high = absurd (omega arith)
first_behind (b ∷ bytes) some high =
    ap (λ (x : List ℕ). behind_group (b - 128) (groups_in 57 x)) (take_all (length (b ∷ bytes) - 1) bytes (omega arith))
    ∙ sym (at_more 64 b bytes high (omega arith))

-- two bytes, and three
pub two_are_all : (first : ℕ) (bytes : List ℕ) → 0 < length bytes → 0 < get_or bytes 0 0 → get_or bytes 0 0 < 128
    → Number ((first - 128) + get_or bytes 0 0 * 128) 2 ≡ behind_group (first - 128) (groups_in 57 bytes)
two_are_all first [] long some low = absurd (omega arith)
two_are_all first (b ∷ bytes) long some low =
    let sum : (first - 128) + b * 128 ≡ (first - 128) + 128 * b = omega arith in
    ap (λ (n : ℕ). Number n 2) sum ∙ sym (ap (behind_group (first - 128)) (at_last 57 b bytes low (omega arith)) ∙ behind_some (first - 128) b 1 some)

pub three_are_all : (first : ℕ) (bytes : List ℕ) → 2 ≤ length bytes → 128 ≤ get_or bytes 0 0 → 0 < get_or bytes 1 0 → get_or bytes 1 0 < 128
    → Number ((first - 128) + ((get_or bytes 0 0 - 128) + get_or bytes 1 0 * 128) * 128) 3 ≡ behind_group (first - 128) (groups_in 57 bytes)
three_are_all first [] long high some low = absurd (omega arith)
three_are_all first (b ∷ []) long high some low = absurd (omega arith)
three_are_all first (b ∷ d ∷ bytes) long high some low =
    let sum : (first - 128) + ((b - 128) + d * 128) * 128 ≡ (first - 128) + 128 * ((b - 128) + 128 * d) = omega arith in
    let behind : groups_in 57 (b ∷ d ∷ bytes) ≡ Number ((b - 128) + 128 * d) 2 =
    at_more 57 b (d ∷ bytes) high (omega arith) ∙ ap (behind_group (b - 128)) (at_last 50 d bytes low (omega arith)) ∙ behind_some (b - 128) d 1 some in
    ap (λ (n : ℕ). Number n 3) sum ∙ sym (ap (behind_group (first - 128)) behind ∙ behind_some (first - 128) ((b - 128) + 128 * d) 2 (omega (arith, some)))

-- ---- the bytes behind it

-- groups in front of what is read behind them: their number, how many bits they have, and how many they are
abbrev pub behind_groups : ℕ → ℕ → ℕ → NumberRead → NumberRead
behind_groups low bits count Short = Short
behind_groups low bits count Bad = Bad
behind_groups low bits count (Number zero len) = Bad
behind_groups low bits count (Number (suc n) len) = Number (low + 2 ^ bits * suc n) (count + len)

groups_some : (low bits count high len : ℕ) → 0 < high
    → behind_groups low bits count (Number high len) ≡ Number (low + 2 ^ bits * high) (count + len)
groups_some low bits count zero len some = absurd (omega arith)
groups_some low bits count (suc n) len some = refl

pub behind_first : (low : ℕ) (behind : NumberRead) → behind_groups low 7 1 behind ≡ behind_group low behind
behind_first low Short = refl
behind_first low Bad = refl
behind_first low (Number zero len) = refl
behind_first low (Number (suc n) len) = let bytes : 1 + len ≡ suc len = omega arith in ap (λ (k : ℕ). Number (low + 128 * suc n) k) bytes

-- numbers of a group more
regroup : (low bits group high : ℕ) → low + 2 ^ bits * (group + 128 * high) ≡ (low + group * 2 ^ bits) + 2 ^ (bits + 7) * high
regroup low bits group high =
    let power : 2 ^ (bits + 7) ≡ 2 ^ bits * 128 = pow-add 2 bits 7 in
    rw power (grind (arith, mul_comm, mul_assoc))

-- a group more stands in front
pub behind_next : (low bits count group : ℕ) (behind : NumberRead)
    → behind_groups low bits count (behind_group group behind) ≡ behind_groups (low + group * 2 ^ bits) (bits + 7) (count + 1) behind
behind_next low bits count group Short = refl
behind_next low bits count group Bad = refl
behind_next low bits count group (Number zero len) = refl
behind_next low bits count group (Number (suc n) len) =
    let bytes : count + suc len ≡ (count + 1) + len = omega arith in
    groups_some low bits count (group + 128 * suc n) (suc len) (omega arith)
    ∙ ap (λ (k : ℕ). Number (low + 2 ^ bits * (group + 128 * suc n)) k) bytes
    ∙ ap (λ (k : ℕ). Number k ((count + 1) + len)) (regroup low bits group (suc n))

-- a group above the others fits
pub group_fits : (low bits group width : ℕ) → low < 2 ^ bits → group < 2 ^ width → low + group * 2 ^ bits < 2 ^ (width + bits)
group_fits low bits group width below fits =
    let row : group * 2 ^ bits + 2 ^ bits ≤ 2 ^ width * 2 ^ bits = row_fits group (2 ^ bits) (2 ^ width) (2 ^ bits) fits (omega arith) in
    let power : 2 ^ (width + bits) ≡ 2 ^ width * 2 ^ bits = pow-add 2 width bits in
    omega arith

-- what is known before a byte behind the first is read
pub record IsBehind (first : ℕ) (bytes : List ℕ) (number shift i : ℕ) : Type 0 where
  pub steps : shift ≡ 7 * (i + 1)
  pub room : shift ≤ 63
  pub below : number < 2 ^ shift
  pub left : behind_groups number shift (i + 1) (groups_in (64 - shift) (drop i bytes)) ≡ behind_group (first - 128) (groups_in 57 bytes)

pub behind_init : (first : ℕ) (bytes : List ℕ) → first < 256 → IsBehind first bytes (first - 128) 7 0
behind_init first bytes byte = record {
  steps = refl;
  room = omega arith;
  below = omega arith;
  left = behind_first (first - 128) (groups_in 57 bytes);
}

-- the byte at the place, and those behind it
at_place : (first : ℕ) (bytes : List ℕ) (number shift i : ℕ) → IsBehind first bytes number shift i → i < length bytes
    → behind_groups number shift (i + 1) (groups_in (64 - shift) (get_or bytes i 0 ∷ drop (suc i) bytes))
    ≡ behind_group (first - 128) (groups_in 57 bytes)
at_place first bytes number shift i h lt =
    ap (λ (x : List ℕ). behind_groups number shift (i + 1) (groups_in (64 - shift) x)) (sym (drop-cons bytes i 0 lt)) ∙ h.left

-- the bytes end
pub behind_end : (first : ℕ) (bytes : List ℕ) (number shift i : ℕ) → IsBehind first bytes number shift i
    → length bytes ≤ i → Short ≡ behind_group (first - 128) (groups_in 57 bytes)
behind_end first bytes number shift i h all =
    ap (behind_groups number shift (i + 1)) (sym (ap (groups_in (64 - shift)) (drop_all i bytes all) ∙ at_end (64 - shift))) ∙ h.left

-- a last group of 0 is spare
pub behind_spare : (first : ℕ) (bytes : List ℕ) (number shift i : ℕ) → IsBehind first bytes number shift i
    → i < length bytes → get_or bytes i 0 ≡ 0 → Bad ≡ behind_group (first - 128) (groups_in 57 bytes)
behind_spare first bytes number shift i h lt spare =
    let b = get_or bytes i 0 in
    let some : b < 2 ^ (64 - shift) = subst (λ (k : ℕ). k < 2 ^ (64 - shift)) (sym spare) (pow_pos (64 - shift)) in
    let read = at_last (64 - shift) b (drop (suc i) bytes) (omega arith) some in
    ap (behind_groups number shift (i + 1)) (sym (read ∙ ap (λ (k : ℕ). Number k 1) spare)) ∙ at_place first bytes number shift i h lt

-- a tenth byte above 1 is too large
pub behind_large : (first : ℕ) (bytes : List ℕ) (number shift i : ℕ) → IsBehind first bytes number shift i
    → i < length bytes → shift ≡ 63 → 1 < get_or bytes i 0 → Bad ≡ behind_group (first - 128) (groups_in 57 bytes)
behind_large first bytes number shift i h lt full large =
    let b = get_or bytes i 0 in
    let bits : 64 - shift ≡ 1 = omega arith in
    let bad : groups_in 1 (b ∷ drop (suc i) bytes) ≡ Bad = elim (cases_lt b 128) [
      | inl low ↦ at_large 1 b (drop (suc i) bytes) low (omega arith)
      | inr high ↦ at_many 1 b (drop (suc i) bytes) high (omega arith)
    ] in
    ap (behind_groups number shift (i + 1)) (sym (ap (λ (k : ℕ). groups_in k (b ∷ drop (suc i) bytes)) bits ∙ bad))
    ∙ at_place first bytes number shift i h lt

-- below the tenth byte there is room for a group of seven bits
last_fits : (shift i b : ℕ) → shift ≡ 7 * (i + 1) → shift ≤ 63 → b < 128 → (shift ≡ 63 → b ≤ 1) → b < 2 ^ (64 - shift)
last_fits shift i b steps room low small =
    elim (cases_lt shift 63) [
      | inl less ↦ let wide : 2 ^ 7 ≤ 2 ^ (64 - shift) = pow_mono {i = 7} {j = 64 - shift} (omega arith) in omega arith
      | inr full ↦ let bits : 64 - shift ≡ 1 = omega arith in rw bits (omega arith)
    ]

-- the sum of the last group and those before it
pub last_sum : (shift i number b : ℕ) → shift ≡ 7 * (i + 1) → shift ≤ 63 → number < 2 ^ shift → b < 128 → (shift ≡ 63
    → b ≤ 1) → ((b * 2 ^ shift) % 2 ^ 64 ≡ b * 2 ^ shift) × (number + b * 2 ^ shift < 2 ^ 64)
last_sum shift i number b steps room below low small =
    let fits = last_fits shift i b steps room low small in
    let width : (64 - shift) + shift ≡ 64 = omega arith in
    let sum = group_fits number shift b (64 - shift) below fits in
    (shl_whole b (64 - shift) shift 64 fits (omega arith), subst (λ (k : ℕ). number + b * 2 ^ shift < 2 ^ k) width sum)

-- the last group
pub behind_last : (first : ℕ) (bytes : List ℕ) (number shift i : ℕ) → IsBehind first bytes number shift i
    → i < length bytes → 0 < get_or bytes i 0 → get_or bytes i 0 < 128 → (shift ≡ 63 → get_or bytes i 0 ≤ 1)
    → Number (number + (get_or bytes i 0 * 2 ^ shift) % 2 ^ 64) (i + 2) ≡ behind_group (first - 128) (groups_in 57 bytes)
behind_last first bytes number shift i h lt some low small =
    let b = get_or bytes i 0 in
    let s = last_sum shift i number b h.steps h.room h.below low small in
    let bytes_read : i + 2 ≡ (i + 1) + 1 = omega arith in
    ap (λ (k : ℕ). Number (number + k) (i + 2)) (s.0 ∙ mul_comm b (2 ^ shift))
    ∙ ap (λ (k : ℕ). Number (number + 2 ^ shift * b) k) bytes_read
    ∙ sym (groups_some number shift (i + 1) b 1 some)
    ∙ ap (behind_groups number shift (i + 1)) (sym (at_last (64 - shift) b (drop (suc i) bytes) low (last_fits shift i b h.steps h.room low small)))
    ∙ at_place first bytes number shift i h lt

-- the sum of a group that others stand behind and those before it
pub more_sum : (shift i number b : ℕ) → shift ≡ 7 * (i + 1) → shift ≤ 63 → (shift ≡ 63 → ⊥) → number < 2 ^ shift → b < 256
    → (((b - 128) * 2 ^ shift) % 2 ^ 64 ≡ (b - 128) * 2 ^ shift) × (number + (b - 128) * 2 ^ shift < 2 ^ (shift + 7)) × (shift + 7 ≤ 63)
more_sum shift i number b steps room less below byte =
    let fits : b - 128 < 2 ^ 7 = omega arith in
    let next : shift + 7 ≤ 63 = omega arith in
    let width : 7 + shift ≡ shift + 7 = omega arith in
    let sum = group_fits number shift (b - 128) 7 below fits in
    let below_next = subst (λ (k : ℕ). number + (b - 128) * 2 ^ shift < 2 ^ k) width sum in
    (shl_whole (b - 128) 7 shift 64 fits (omega arith), below_next, next)

pub more_fits : (shift number b : ℕ) → number + (b - 128) * 2 ^ shift < 2 ^ (shift + 7) → shift + 7 ≤ 63
    → number + (b - 128) * 2 ^ shift < 2 ^ 64
more_fits shift number b below room = omega (arith, pow_mono {i = shift + 7} {j = 64} (omega arith))

-- a group that others stand behind
pub behind_more : (first : ℕ) (bytes : List ℕ) (number shift i : ℕ) → IsBehind first bytes number shift i
    → i < length bytes → 128 ≤ get_or bytes i 0 → get_or bytes i 0 < 256 → (shift ≡ 63 → ⊥)
    → IsBehind first bytes (number + ((get_or bytes i 0 - 128) * 2 ^ shift) % 2 ^ 64) (shift + 7) (i + 1)
behind_more first bytes number shift i h lt high byte less =
    let b = get_or bytes i 0 in
    let s = more_sum shift i number b h.steps h.room less h.below byte in
    let bits : 64 - shift - 7 ≡ 64 - (shift + 7) = omega arith in
    let place : suc i ≡ i + 1 = omega arith in
    let next = behind_groups (number + (b - 128) * 2 ^ shift) (shift + 7) (i + 1 + 1) in
    let left = sym (behind_next number shift (i + 1) (b - 128) (groups_in (64 - shift - 7) (drop (suc i) bytes)))
    ∙ ap (behind_groups number shift (i + 1)) (sym (at_more (64 - shift) b (drop (suc i) bytes) high (omega arith)))
    ∙ at_place first bytes number shift i h lt in
    subst (λ (k : ℕ). IsBehind first bytes (number + k) (shift + 7) (i + 1)) (sym s.0) (record {
      steps = omega (arith, h.steps);
      room = s.2;
      below = s.1;
      left = ap (λ (k : ℕ). next (groups_in k (drop (i + 1) bytes))) (sym bits)
          ∙ ap (λ (k : ℕ). next (groups_in (64 - shift - 7) (drop k bytes))) (sym place)
          ∙ left;
    })
