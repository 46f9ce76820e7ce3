-- What is read is a spelling, a spelling is read again, and bytes behind a number change nothing.
use Rattle.std.proofs.Common.{◌≡◌, ℕ, zero, suc, ◌+◌, ◌-◌, ◌*◌, ◌/◌, ◌%◌, ◌^◌, ◌<◌, ◌≤◌, true, false, List, [], ◌∷◌}
use Rattle.std.proofs.Common.{◌++◌, length, take, drop, refl, sym, ap, ◌∙◌, subst, arith, inl, inr}
use Rattle.std.proofs.lemmas.Bool.{cases_lt, lt-ltb, le-ltb}
use Rattle.std.proofs.lemmas.List.{take-append-drop, take-take}
use Rattle.std.proofs.Math.Nat.{pow-suc}
use Rattle.group_number.specs.declared.reading.NumberRead.TheVariants.{Bad, Number}
use Rattle.group_number.specs.Groups.{IsBytes, IsGroupNumber, behind_group, groups_in, group_at, is_decided}
use Rattle.group_number.specs.Groups.{is_whole_group, groups_of, group_bytes}
use Rattle.group_number.proofs.Steps.{pow_seven, pow_few, at_end, at_last, at_more, Step, step, parts, behind_some, decided_behind}

-- ---- bytes behind

-- what is decided stays so
stays : (bits : ℕ) (bytes more : List ℕ) → is_decided (groups_in bits bytes) ≡ true → groups_in bits (bytes ++ more) ≡ groups_in bits bytes
stays bits [] more e = let short = at_end bits in absurd (let open_end : false ≡ true = ap is_decided (sym short) ∙ e in cc)
stays bits (b ∷ bytes) more e =
    elim (step bits b) as (λ _. groups_in bits (b ∷ (bytes ++ more)) ≡ groups_in bits (b ∷ bytes)) [
      | Step.last low fits ↦ at_last bits b (bytes ++ more) low fits ∙ sym (at_last bits b bytes low fits)
      | Step.ends bad ↦ bad (bytes ++ more) ∙ sym (bad bytes)
      | Step.more high long ↦
          let behind = at_more bits b bytes high long in
          let same = stays (bits - 7) bytes more (sym (decided_behind (b - 128) (groups_in (bits - 7) bytes)) ∙ ap is_decided (sym behind) ∙ e) in
          at_more bits b (bytes ++ more) high long ∙ ap (behind_group (b - 128)) same ∙ sym behind
    ]

pub whole_stays : (bytes more : List ℕ) → is_whole_group bytes ≡ true → group_at (bytes ++ more) ≡ group_at bytes
whole_stays bytes more whole = stays 64 bytes more whole

pub number_stays : (bytes more : List ℕ) (n len : ℕ) → group_at bytes ≡ Number n len → group_at (bytes ++ more) ≡ Number n len
number_stays bytes more n len e = whole_stays bytes more (ap is_decided e) ∙ e

pub bad_stays : (bytes more : List ℕ) → group_at bytes ≡ Bad → group_at (bytes ++ more) ≡ Bad
bad_stays bytes more e = whole_stays bytes more (ap is_decided e) ∙ e

-- ---- bounds

-- the bytes of a number are among those that are read, and are enough
pub record Front (bits : ℕ) (bytes : List ℕ) (n len : ℕ) : Type 0 where
  pub some : 0 < len
  pub few : 7 * len < bits + 7
  pub within : len ≤ length bytes
  pub alone : groups_in bits (take len bytes) ≡ Number n len

front_last : (bits b : ℕ) (bytes : List ℕ) (n len : ℕ) → 0 < bits → b < 128 → b < 2 ^ bits
    → groups_in bits (b ∷ bytes) ≡ Number n len → Front bits (b ∷ bytes) n len
front_last bits b bytes n len room low fits e =
    let read = at_last bits b bytes low fits in
    let one : 1 ≡ len = cc in
    let number : b ≡ n = cc in
    subst (λ (k : ℕ). Front bits (b ∷ bytes) n k) one (record {
      some = omega arith;
      few = omega arith;
      within = omega arith;
      alone = at_last bits b (take 0 bytes) low fits ∙ ap (λ (k : ℕ). Number k 1) number;
    })

front_more : (bits b : ℕ) (bytes : List ℕ) (n len : ℕ) → 128 ≤ b → 7 < bits → groups_in bits (b ∷ bytes) ≡ Number n len
    → ((m rest : ℕ) → groups_in (bits - 7) bytes ≡ Number m rest → Front (bits - 7) bytes m rest) → Front bits (b ∷ bytes) n len
front_more bits b bytes n len high long e behind =
    let p = parts (b - 128) (groups_in (bits - 7) bytes) n len (sym (at_more bits b bytes high long) ∙ e) in
    let f = behind p.high p.rest p.read in
    subst (λ (k : ℕ). Front bits (b ∷ bytes) n k) (sym p.length) (record {
      some = omega arith;
      few = omega (arith, f.few);
      within = omega (arith, f.within);
      alone = at_more bits b (take p.rest bytes) high long ∙ ap (behind_group (b - 128)) f.alone ∙ behind_some (b - 128) p.high p.rest p.some
          ∙ ap (λ (k : ℕ). Number k (suc p.rest)) (sym p.number);
    })

pub front : (bits : ℕ) (bytes : List ℕ) (n len : ℕ) → 0 < bits → groups_in bits bytes ≡ Number n len → Front bits bytes n len
front bits [] n len room e = let short = at_end bits in absurd cc
front bits (b ∷ bytes) n len room e =
    elim (step bits b) as (λ _. Front bits (b ∷ bytes) n len) [
      | Step.last low fits ↦ front_last bits b bytes n len room low fits e
      | Step.ends bad ↦ let broken = bad bytes in absurd cc
      | Step.more high long ↦ front_more bits b bytes n len high long e (λ m rest. front (bits - 7) bytes m rest (omega arith))
    ]

short_few : (bits : ℕ) (bytes : List ℕ) → 0 < bits → is_decided (groups_in bits bytes) ≡ false → 7 * length bytes < bits
short_few bits [] room e = omega arith
short_few bits (b ∷ bytes) room e =
    elim (step bits b) as (λ _. 7 * length (b ∷ bytes) < bits) [
      | Step.last low fits ↦ let decided = ap is_decided (at_last bits b bytes low fits) in absurd cc
      | Step.ends bad ↦ let decided = ap is_decided (bad bytes) in absurd cc
      | Step.more high long ↦
          let same = sym (decided_behind (b - 128) (groups_in (bits - 7) bytes)) ∙ ap is_decided (sym (at_more bits b bytes high long)) in
          let behind = short_few (bits - 7) bytes (omega arith) (same ∙ e) in
          omega (arith, behind)
    ]

-- a number takes 1 to 10 of the bytes
pub number_bounds : (bytes : List ℕ) (n len : ℕ) → group_at bytes ≡ Number n len → (0 < len) × (len ≤ 10) × (len ≤ length bytes)
number_bounds bytes n len e =
    let f = front 64 bytes n len (omega arith) e in
    (f.some, omega (arith, f.few), f.within)

-- ten bytes are never too few
pub short_below_ten : (bytes : List ℕ) → is_whole_group bytes ≡ false → length bytes < 10
short_below_ten bytes e = omega (arith, short_few 64 bytes (omega arith) e)

pub nothing_is_short : is_whole_group [] ≡ false
nothing_is_short = ap is_decided (at_end 64)

-- a number that is whole with its last byte alone takes all the bytes
pub least : (bytes : List ℕ) → is_whole_group bytes ≡ true → is_whole_group (take (length bytes - 1) bytes) ≡ false
    → (n len : ℕ) → group_at bytes ≡ Number n len → len ≡ length bytes
least bytes whole before n len e =
    let f = front 64 bytes n len (omega arith) e in
    elim (cases_lt len (length bytes)) [
      | inr all ↦ omega (arith, f.within)
      | inl fewer ↦
          let most = take (length bytes - 1) bytes in
          let parts : take len bytes ++ drop len most ≡ most =
          ap (λ (x : List ℕ). x ++ drop len most) (sym (take-take len (length bytes - 1) bytes (omega arith))) ∙ take-append-drop len most in
          let same = stays 64 (take len bytes) (drop len most) (ap is_decided f.alone) in
          let decided : is_whole_group most ≡ true = ap (λ (x : List ℕ). is_whole_group x) (sym parts) ∙ ap is_decided (same ∙ f.alone) in
          absurd cc
    ]

-- ---- spellings

-- a low group in front of the spelling of what stands behind it
spelled_behind : (b : ℕ) (tail : List ℕ) (n high : ℕ) → 128 ≤ b → b < 256 → 0 < high → n + 128 ≡ b + 128 * high
    → IsGroupNumber tail high → IsGroupNumber (b ∷ tail) n
spelled_behind b [] n high more byte some sum spelled = absurd spelled
spelled_behind b (c ∷ tail) n high more byte some sum spelled = (more, byte, high, some, sum, spelled)

groups_of_low : (k n : ℕ) → n < 128 → groups_of k n ≡ n ∷ []
unfolding groups_of
groups_of_low zero n low = refl
groups_of_low (suc k) n low = rw (lt-ltb n 128 low) refl

groups_of_high : (k n : ℕ) → 128 ≤ n → groups_of (suc k) n ≡ (128 + n % 128) ∷ groups_of k (n / 128)
unfolding groups_of
groups_of_high k n high = rw (le-ltb n 128 high) refl

-- the rest of a number has a group less
rest_below : (k n : ℕ) → n < 128 ^ suc (suc k) → n / 128 < 128 ^ suc k
rest_below k n lt = omega (arith, pow-suc 128 (suc k))

spells_low : (k n : ℕ) → n < 128 → IsGroupNumber (groups_of k n) n
spells_low k n low = subst (λ (x : List ℕ). IsGroupNumber x n) (sym (groups_of_low k n low)) (low, refl)

pub spells : (k n : ℕ) → n < 128 ^ suc k → IsGroupNumber (groups_of k n) n
spells zero n lt = spells_low zero n (omega arith)
spells (suc k) n lt =
    elim (cases_lt n 128) [
      | inl low ↦ spells_low (suc k) n low
      | inr high ↦ subst (λ (x : List ℕ). IsGroupNumber x n) (sym (groups_of_high k n high))
          (spelled_behind (128 + n % 128) (groups_of k (n / 128)) n (n / 128)
          (omega arith) (omega arith) (omega arith) (omega arith) (spells k (n / 128) (rest_below k n lt)))
    ]

-- a number has one spelling
pub only : (k : ℕ) (a : List ℕ) (n : ℕ) → IsGroupNumber a n → n < 128 ^ suc k → a ≡ groups_of k n
only k [] n h lt = absurd h
only k (b ∷ []) n h lt = ap (λ (x : ℕ). x ∷ []) (sym h.1) ∙ sym (groups_of_low k n (omega arith))
only zero (b ∷ c ∷ bytes) n h lt = absurd (omega arith)
only (suc k) (b ∷ c ∷ bytes) n h lt =
    let first : b ≡ 128 + n % 128 = omega arith in
    let high : h.2 ≡ n / 128 = omega arith in
    let behind : c ∷ bytes ≡ groups_of k h.2 = only k (c ∷ bytes) h.2 h.5 (subst (λ (x : ℕ). x < 128 ^ suc k) (sym high) (rest_below k n lt)) in
    let written = groups_of_high k n (omega arith) in
    cc

pub group_bytes_spell : (n : ℕ) → n < 2 ^ 64 → IsGroupNumber (group_bytes n) n
group_bytes_spell n lt = spells 9 n (omega arith)

-- the bytes behind the first group are those of the rest
pub group_bytes_step : (n : ℕ) → n < 2 ^ 64 → 128 ≤ n → group_bytes n ≡ (128 + n % 128) ∷ group_bytes (n / 128)
group_bytes_step n lt high =
    let spelled = spells 8 (n / 128) (omega arith) in
    let same : groups_of 8 (n / 128) ≡ group_bytes (n / 128) = only 9 (groups_of 8 (n / 128)) (n / 128) spelled (omega arith) in
    groups_of_high 8 n high ∙ ap (λ (x : List ℕ). (128 + n % 128) ∷ x) same

pub group_bytes_low : (n : ℕ) → n < 128 → group_bytes n ≡ n ∷ []
group_bytes_low n low = groups_of_low 9 n low

groups_of_none : (n : ℕ) → groups_of zero n ≡ n ∷ []
unfolding groups_of
groups_of_none n = refl

length_groups : (k n : ℕ) → (0 < length (groups_of k n)) × (length (groups_of k n) ≤ suc k)
length_groups zero n = let len = ap length (groups_of_none n) in (omega arith, omega arith)
length_groups (suc k) n =
    elim (cases_lt n 128) [
      | inl low ↦ let len = ap length (groups_of_low (suc k) n low) in (omega arith, omega arith)
      | inr high ↦
          let len = ap length (groups_of_high k n high) in
          let behind = length_groups k (n / 128) in
          (omega arith, omega arith)
    ]

pub group_bytes_two : (n : ℕ) → 128 ≤ n → n < 16384 → group_bytes n ≡ (128 + n % 128) ∷ (n / 128) ∷ []
group_bytes_two n many few =
    group_bytes_step n (omega (arith, few)) many ∙ ap (λ (x : List ℕ). (128 + n % 128) ∷ x) (group_bytes_low (n / 128) (omega (arith, few)))

pub group_bytes_three : (n : ℕ) → 16384 ≤ n → n < 2097152 → group_bytes n ≡ (128 + n % 128) ∷ (128 + (n / 128) % 128) ∷ (n / 128 / 128) ∷ []
group_bytes_three n many few =
    group_bytes_step n (omega (arith, few)) (omega (arith, many)) ∙ ap (λ (x : List ℕ). (128 + n % 128) ∷ x) (group_bytes_two (n / 128) (omega (arith, many)) (omega (arith, few)))

-- a number has 1 to 10 bytes
pub length_bounds : (n : ℕ) → (0 < length (group_bytes n)) × (length (group_bytes n) ≤ 10)
length_bounds n = length_groups 9 n

-- ---- reading and writing

-- a spelling is read, whatever follows it
pub spelling_again : (bits : ℕ) (a rest : List ℕ) (n : ℕ) → IsGroupNumber a n → n < 2 ^ bits
    → groups_in bits (a ++ rest) ≡ Number n (length a)
spelling_again bits [] rest n h lt = absurd h
spelling_again bits (b ∷ []) rest n h lt = at_last bits b rest h.0 (omega arith) ∙ ap (λ (x : ℕ). Number x 1) (sym h.1)
spelling_again bits (b ∷ c ∷ bytes) rest n h lt =
    elim (cases_lt 7 bits) [
      | inr few ↦ absurd (omega (arith, pow_few bits few))
      | inl long ↦
          let number : b - 128 + 128 * h.2 ≡ n = omega arith in
          at_more bits b ((c ∷ bytes) ++ rest) h.0 long
          ∙ ap (behind_group (b - 128)) (spelling_again (bits - 7) (c ∷ bytes) rest h.2 h.5 (omega (arith, pow_seven bits long)))
          ∙ behind_some (b - 128) h.2 (length (c ∷ bytes)) h.3
          ∙ ap (λ (x : ℕ). Number x (suc (length (c ∷ bytes)))) number
    ]

pub again : (n : ℕ) (rest : List ℕ) → n < 2 ^ 64 → group_at (group_bytes n ++ rest) ≡ Number n (length (group_bytes n))
again n rest lt = spelling_again 64 (group_bytes n) rest n (group_bytes_spell n lt) lt

-- what is read is spelled so
pub record Spelled (bits : ℕ) (bytes : List ℕ) (n len : ℕ) : Type 0 where
  pub below : n < 2 ^ bits
  pub spelled : IsGroupNumber (take len bytes) n

spelled_last : (bits b : ℕ) (bytes : List ℕ) (n len : ℕ) → b < 128 → b < 2 ^ bits
    → groups_in bits (b ∷ bytes) ≡ Number n len → Spelled bits (b ∷ bytes) n len
spelled_last bits b bytes n len low fits e =
    let read = at_last bits b bytes low fits in
    let one : 1 ≡ len = cc in
    let number : n ≡ b = cc in
    subst (λ (k : ℕ). Spelled bits (b ∷ bytes) n k) one (record { below = omega arith; spelled = (low, number) })

spelled_more : (bits b : ℕ) (bytes : List ℕ) (n len : ℕ) → b < 256 → 128 ≤ b → 7 < bits → groups_in bits (b ∷ bytes) ≡ Number n len
    → ((m rest : ℕ) → groups_in (bits - 7) bytes ≡ Number m rest → Spelled (bits - 7) bytes m rest) → Spelled bits (b ∷ bytes) n len
spelled_more bits b bytes n len byte high long e behind =
    let p = parts (b - 128) (groups_in (bits - 7) bytes) n len (sym (at_more bits b bytes high long) ∙ e) in
    let s = behind p.high p.rest p.read in
    subst (λ (k : ℕ). Spelled bits (b ∷ bytes) n k) (sym p.length) (record {
      below = omega (arith, s.below, p.number, pow_seven bits long);
      spelled = spelled_behind b (take p.rest bytes) n p.high high byte p.some (omega (arith, p.number)) s.spelled;
    })

spelled : (bits : ℕ) (bytes : List ℕ) (n len : ℕ) → IsBytes bytes → groups_in bits bytes ≡ Number n len → Spelled bits bytes n len
spelled bits [] n len fits e = let short = at_end bits in absurd cc
spelled bits (b ∷ bytes) n len fits e =
    elim (step bits b) as (λ _. Spelled bits (b ∷ bytes) n len) [
      | Step.last low small ↦ spelled_last bits b bytes n len low small e
      | Step.ends bad ↦ let broken = bad bytes in absurd cc
      | Step.more high long ↦ spelled_more bits b bytes n len (fits 0) high long e (λ m rest. spelled (bits - 7) bytes m rest (λ i. fits (suc i)))
    ]

pub read_spells : (bytes : List ℕ) (n len : ℕ) → IsBytes bytes → group_at bytes ≡ Number n len → IsGroupNumber (take len bytes) n
read_spells bytes n len fits e = (spelled 64 bytes n len fits e).spelled

-- the bytes of the number that is read are its own
pub takes : (bytes : List ℕ) (n len : ℕ) → IsBytes bytes → group_at bytes ≡ Number n len
    → (len ≤ length bytes) × (take len bytes ≡ group_bytes n) × (n < 2 ^ 64)
takes bytes n len fits e =
    let s = spelled 64 bytes n len fits e in
    ((front 64 bytes n len (omega arith) e).within, only 9 (take len bytes) n s.spelled (omega (arith, s.below)), s.below)

-- no spelling begins another
pub one : (a b x y : List ℕ) (m n : ℕ) → IsGroupNumber a m → IsGroupNumber b n → a ++ x ≡ b ++ y → (a ≡ b) × (m ≡ n)
one [] b x y m n p q e = absurd p
one (c ∷ a) [] x y m n p q e = absurd q
one (c ∷ []) (d ∷ []) x y m n p q e = let heads : c ≡ d = cc in (ap (λ (k : ℕ). k ∷ []) heads, p.1 ∙ heads ∙ sym q.1)
one (c ∷ []) (d ∷ d' ∷ b) x y m n p q e = let heads : c ≡ d = cc in absurd (omega arith)
one (c ∷ c' ∷ a) (d ∷ []) x y m n p q e = let heads : c ≡ d = cc in absurd (omega arith)
one (c ∷ c' ∷ a) (d ∷ d' ∷ b) x y m n p q e =
    let heads : c ≡ d = cc in
    let tails : (c' ∷ a) ++ x ≡ (d' ∷ b) ++ y = cc in
    let behind = one (c' ∷ a) (d' ∷ b) x y p.2 q.2 p.5 q.5 tails in
    let same : c' ∷ a ≡ d' ∷ b = behind.0 in
    (cc, omega (arith, behind.1))
