-- Group numbers: a whole number below 2^64 in groups of 7 bits, the least significant group first. Each byte but the
-- last has 128 above its group. The last group isn't 0 unless it is the only one, so each number has one spelling.
use Rattle.std.specs.Prelude.{◌≡◌, ℕ, zero, suc, ◌+◌, ◌-◌, ◌*◌, ◌/◌, ◌%◌, ◌^◌, ◌<◌, ◌≤◌, nat_lt, nat_le, if◌then◌else◌}
use Rattle.std.specs.Prelude.{Bool, true, false, List, [], ◌∷◌, slice_index_or}
use Rattle.group_number.specs.declared.reading.NumberRead.{NumberRead}
use Rattle.group_number.specs.declared.reading.NumberRead.TheVariants.{Short, Bad, Number}

-- numbers below 256
abbrev pub IsBytes : List ℕ → Type 0
IsBytes bytes = (i : ℕ) → slice_index_or bytes i 0 < 256

-- These bytes spell the number. A byte below 128 is the last, and stands for itself. One from 128 on has the low
-- seven bits, and the bytes behind it spell the rest, which isn't 0.
abbrev pub IsGroupNumber : List ℕ → ℕ → Type 0
IsGroupNumber [] n = ⊥
IsGroupNumber (b ∷ []) n = (b < 128) × (n ≡ b)
IsGroupNumber (b ∷ c ∷ bytes) n =
    (128 ≤ b) × (b < 256) × (high : ℕ) × (0 < high) × (n + 128 ≡ b + 128 * high) × IsGroupNumber (c ∷ bytes) high

-- a low group in front of what is read behind it. A last group of 0 is spare there.
abbrev pub behind_group : ℕ → NumberRead → NumberRead
behind_group low Short = Short
behind_group low Bad = Bad
behind_group low (Number zero len) = Bad
behind_group low (Number (suc n) len) = Number (low + 128 * suc n) (suc len)

-- the number of at most so many bits that begins these bytes
unfoldable pub groups_in : ℕ → List ℕ → NumberRead
groups_in bits [] = Short
groups_in bits (b ∷ bytes) =
    if nat_lt b 128 then (if nat_lt b (2 ^ bits) then Number b 1 else Bad)
    else (if nat_le bits 7 then Bad else behind_group (b - 128) (groups_in (bits - 7) bytes))

-- the group number that begins these bytes
abbrev pub group_at : List ℕ → NumberRead
group_at bytes = groups_in 64 bytes

-- whether bytes behind these change nothing of what is read
abbrev pub is_decided : NumberRead → Bool
is_decided Short = false
is_decided Bad = true
is_decided (Number n len) = true

-- the bytes hold a whole group number, or begin none
abbrev pub is_whole_group : List ℕ → Bool
is_whole_group held = is_decided (group_at held)

-- the bytes of a number, of at most so many groups behind the first
unfoldable pub groups_of : ℕ → ℕ → List ℕ
groups_of zero n = n ∷ []
groups_of (suc k) n = if nat_lt n 128 then n ∷ [] else (128 + n % 128) ∷ groups_of k (n / 128)

-- the bytes of a number below 2^64
abbrev pub group_bytes : ℕ → List ℕ
group_bytes n = groups_of 9 n
