-- A number that is read is the number that was written, and what was written is read again, whatever bytes follow.
use Rattle.std.proofs.Common.{◌≡◌, ℕ, ◌+◌, ◌-◌, ◌^◌, ◌<◌, ◌≤◌, Bool, true, false, List, [], ◌++◌, length, take, drop, refl, sym, ap, subst, ◌∙◌, append_assoc, arith, inl, inr, length-append}
use Rattle.std.proofs.lemmas.Bool.{cases_lt, lt-ltb, le-ltb}
use Rattle.std.proofs.lemmas.List.{take-append-drop, length-take, get_or-drop, get_or-take, get_or_past, drop_at, drop_all, drop-append-le}
use Rattle.std.proofs.lemmas.Nat.{le_bytes_2, le_bytes_4, le_bytes_8}
use Rattle.byteorder.specs.Endian.{little_number, little_bytes}
use Rattle.byteorder.specs.Numbers.{little_from-append, little_number-reads_back, length-bytes_low_first}
use Rattle.group_number.specs.declared.reading.NumberRead.{NumberRead}
use Rattle.group_number.specs.declared.reading.NumberRead.TheVariants as numbers
use Rattle.group_number.specs.Groups.{group_at, is_decided}
use Rattle.group_number.proofs.GroupLaws as groups
use Rattle.faults.specs.declared.form_kind.FormKind.{FormKind}
use Rattle.faults.specs.declared.form_kind.FormKind.TheVariants.{Short, BadNumber}
use Rattle.graph_words.specs.declared.types.Born.{Born}
use Rattle.partition_file.specs.declared.types.Format.{Format}
use Rattle.partition_file.specs.declared.types.Format.TheVariants.{First, Second}
use Rattle.partition_file.specs.FieldsRead.{Found, Behind, little_at, number_in, number_leads, number, need, stop}
use Rattle.partition_file.specs.Spelling.{IsBytes, found, number_bytes}

IsBytes-drop : (n : ℕ) (bytes : List ℕ) → IsBytes bytes → IsBytes (drop n bytes)
IsBytes-drop n bytes h i = rw get_or-drop (h (n + i))

IsBytes-take : (n : ℕ) (bytes : List ℕ) → IsBytes bytes → IsBytes (take n bytes)
IsBytes-take n bytes h i =
    elim (cases_lt i n) [
      | inl lt ↦ rw (get_or-take n bytes i 0 lt) (h i)
      | inr le ↦ rw (get_or_past (take n bytes) i 0 (omega (arith, length-take n bytes))) (omega arith)
    ]

-- ---- a number of w bytes

-- numbers of w bytes
pub record IsWide (w : ℕ) : Type 0 where
  pub some : 0 < w
  pub most : w ≤ 8
  pub back : (bytes : List ℕ) → length bytes ≡ w → IsBytes bytes → little_bytes w (little_number w bytes) ≡ bytes

pub wide2 : IsWide 2
wide2 = record { some = omega arith; most = omega arith; back = λ bytes len fits. le_bytes_2 bytes (little_number 2 bytes) len fits (omega arith) }

pub wide4 : IsWide 4
wide4 = record { some = omega arith; most = omega arith; back = λ bytes len fits. le_bytes_4 bytes (little_number 4 bytes) len fits (omega arith) }

pub wide8 : IsWide 8
wide8 = record { some = omega arith; most = omega arith; back = λ bytes len fits. le_bytes_8 bytes (little_number 8 bytes) len fits (omega arith) }

pub little_long : (w : ℕ) (bytes : List ℕ) → w ≤ length bytes → little_at w bytes ≡ numbers.Number (little_number w bytes) w
little_long w bytes le = rw (le-ltb (length bytes) w le) refl

pub little_short : (w : ℕ) (bytes : List ℕ) → length bytes < w → little_at w bytes ≡ numbers.Short
little_short w bytes lt = rw (lt-ltb (length bytes) w lt) refl

-- what was read, where it is a number
abbrev pub IsLittle : ℕ → List ℕ → NumberRead → Type 0
IsLittle w bytes numbers.Short = length bytes < w
IsLittle w bytes numbers.Bad = ⊥
IsLittle w bytes (numbers.Number n len) = (w ≤ length bytes) × (n ≡ little_number w bytes) × (len ≡ w)

pub little_is : (w : ℕ) (bytes : List ℕ) → IsLittle w bytes (little_at w bytes)
little_is w bytes =
    elim (cases_lt (length bytes) w) [
      | inl lt ↦ rw (little_short w bytes lt) lt
      | inr le ↦ rw (little_long w bytes le) (le, refl, refl)
    ]

-- ---- a number in either format, and bytes behind it

decided : (r : NumberRead) → is_decided r ≡ false → r ≡ numbers.Short
decided numbers.Short e = refl
decided numbers.Bad e = absurd cc
decided (numbers.Number n len) e = absurd cc

pub nothing_read : (f : Format) (w : ℕ) → 0 < w → number_in f w [] ≡ numbers.Short
nothing_read First w some = little_short w [] some
nothing_read Second w some = decided (group_at []) groups.nothing_is_short

pub number_on : (f : Format) (w : ℕ) (bytes rest : List ℕ) (n len : ℕ) → number_in f w bytes ≡ numbers.Number n len → number_in f w (bytes ++ rest) ≡ numbers.Number n len
number_on First w bytes rest n len e =
    let is = subst (IsLittle w bytes) e (little_is w bytes) in
    little_long w (bytes ++ rest) (omega (arith, is.0, length-append bytes rest))
    ∙ ap (λ (x : ℕ). numbers.Number x w) (little_from-append w bytes rest is.0 ∙ sym is.1) ∙ ap (numbers.Number n) (sym is.2)
number_on Second w bytes rest n len e = groups.number_stays bytes rest n len e

pub bad_on : (f : Format) (w : ℕ) (bytes rest : List ℕ) → number_in f w bytes ≡ numbers.Bad → number_in f w (bytes ++ rest) ≡ numbers.Bad
bad_on First w bytes rest e = absurd (subst (IsLittle w bytes) e (little_is w bytes))
bad_on Second w bytes rest e = groups.bad_stays bytes rest e

-- a number stands in its bytes alone
number_alone : (f : Format) (w : ℕ) (bytes : List ℕ) (n len : ℕ) → number_in f w bytes ≡ numbers.Number n len → number_in f w (take len bytes) ≡ numbers.Number n len
number_alone First w bytes n len e =
    let is = subst (IsLittle w bytes) e (little_is w bytes) in
    let front : List ℕ = take w bytes in
    let size : length front ≡ w = omega (arith, length-take w bytes, is.0) in
    let same : little_number w front ≡ little_number w bytes = sym (ap (little_number w) (sym (take-append-drop w bytes)) ∙ little_from-append w front (drop w bytes) (omega arith)) in
    ap (λ (k : ℕ). little_at w (take k bytes)) is.2 ∙ little_long w front (omega arith)
    ∙ ap (λ (x : ℕ). numbers.Number x w) (same ∙ sym is.1) ∙ ap (numbers.Number n) (sym is.2)
number_alone Second w bytes n len e = (groups.front 64 bytes n len (omega arith) e).alone

-- how many bytes a number has
pub number_len : (f : Format) (w : ℕ) (bytes : List ℕ) (n len : ℕ) → 0 < w → number_in f w bytes ≡ numbers.Number n len → (0 < len) × (len ≤ length bytes)
number_len First w bytes n len some e = let is = subst (IsLittle w bytes) e (little_is w bytes) in (omega (arith, is.2), omega (arith, is.0, is.2))
number_len Second w bytes n len some e = let b = groups.number_bounds bytes n len e in (b.0, b.2)

-- a number that is whole with its last byte alone has all bytes
pub number_all : (f : Format) (w : ℕ) (bytes : List ℕ) (n len : ℕ) → number_in f w bytes ≡ numbers.Number n len → number_in f w (take (length bytes - 1) bytes) ≡ numbers.Short → len ≡ length bytes
number_all First w bytes n len e before =
    let is = subst (IsLittle w bytes) e (little_is w bytes) in
    let fewer = subst (IsLittle w (take (length bytes - 1) bytes)) before (little_is w (take (length bytes - 1) bytes)) in
    omega (arith, is.0, is.2, fewer, length-take (length bytes - 1) bytes)
number_all Second w bytes n len e before = groups.least bytes (ap is_decided e) (ap is_decided before) n len e

-- too few bytes are fewer than ten
pub short_below : (f : Format) (w : ℕ) (bytes : List ℕ) → w ≤ 8 → number_in f w bytes ≡ numbers.Short → length bytes < 10
short_below First w bytes most e = let is = subst (IsLittle w bytes) e (little_is w bytes) in omega (arith, is)
short_below Second w bytes most e = groups.short_below_ten bytes (ap is_decided e)

-- ---- what a number leads to

pub leads_short : (f : Format) (w place : ℕ) (bytes : List ℕ) (next : ℕ → Behind) → number_in f w bytes ≡ numbers.Short → number f w place bytes next ≡ stop place Short
leads_short f w place bytes next e = ap (λ (r : NumberRead). number_leads r place bytes next) e

pub leads_bad : (f : Format) (w place : ℕ) (bytes rest : List ℕ) (next : ℕ → Behind) → number_in f w bytes ≡ numbers.Bad → number f w place (bytes ++ rest) next ≡ stop place BadNumber
leads_bad f w place bytes rest next e = ap (λ (r : NumberRead). number_leads r place (bytes ++ rest) next) (bad_on f w bytes rest e)

pub leads_on : (f : Format) (w place : ℕ) (bytes rest : List ℕ) (next : ℕ → Behind) (n len : ℕ) → 0 < w → number_in f w bytes ≡ numbers.Number n len
    → number f w place (bytes ++ rest) next ≡ next n (place + len) (drop len bytes ++ rest)
leads_on f w place bytes rest next n len some e =
    let within = (number_len f w bytes n len some e).1 in
    ap (λ (r : NumberRead). number_leads r place (bytes ++ rest) next) (number_on f w bytes rest n len e)
    ∙ ap (next n (place + len)) (drop-append-le len bytes rest within)

-- the same over the bytes of the number alone
pub leads_here : (f : Format) (w place : ℕ) (bytes rest : List ℕ) (next : ℕ → Behind) (n len : ℕ) → 0 < w → number_in f w bytes ≡ numbers.Number n len
    → number f w place (take len bytes ++ rest) next ≡ next n (place + len) rest
leads_here f w place bytes rest next n len some e =
    let within = (number_len f w bytes n len some e).1 in
    leads_on f w place (take len bytes) rest next n len some (number_alone f w bytes n len e)
    ∙ ap (λ (x : List ℕ). next n (place + len) (x ++ rest)) (drop_all len (take len bytes) (omega (arith, length-take len bytes)))

-- ---- what was read is what is spelled

-- what was taken from the front, and what stands behind it
pub record Takes (bytes text rest : List ℕ) : Type 0 where
  pub parts : bytes ≡ text ++ rest
  pub rest_fits : IsBytes rest

pub Takes-then : (a x b y c : List ℕ) → Takes a x b → Takes b y c → Takes a (x ++ y) c
Takes-then a x b y c p q = record { parts = p.parts ∙ ap (λ (t : List ℕ). x ++ t) q.parts ∙ sym (append_assoc x y c); rest_fits = q.rest_fits }

-- a number was read, and what it leads to has these edges
pub record ReadsNumber (f : Format) (w : ℕ) (bytes : List ℕ) (next : ℕ → Behind) (es : List Born) : Type 0 where
  pub n : ℕ
  pub after : ℕ
  pub rest : List ℕ
  pub takes : Takes bytes (number_bytes f w n) rest
  pub leads : next n after rest ≡ found es

pub need_takes : (ok : Bool) (place : ℕ) (kind : FormKind) (next : Found) (es : List Born) → need ok place kind next ≡ found es → (ok ≡ true) × (next ≡ found es)
need_takes true place kind next es e = (refl, e)
need_takes false place kind next es e = let h = ap (λ (x : Found). x.fault) e in absurd cc

-- which number was read
leads_takes : (r : NumberRead) (place : ℕ) (bytes : List ℕ) (next : ℕ → Behind) (es : List Born) → number_leads r place bytes next ≡ found es
    → (n : ℕ) × (len : ℕ) × (r ≡ numbers.Number n len) × (next n (place + len) (drop len bytes) ≡ found es)
leads_takes numbers.Short place bytes next es e = let h = ap (λ (x : Found). x.fault) e in absurd cc
leads_takes numbers.Bad place bytes next es e = let h = ap (λ (x : Found). x.fault) e in absurd cc
leads_takes (numbers.Number n len) place bytes next es e = (n, len, refl, e)

-- and its bytes stand in front
number_parts : (f : Format) (w : ℕ) → IsWide w → (bytes : List ℕ) (n len : ℕ) → IsBytes bytes → number_in f w bytes ≡ numbers.Number n len → bytes ≡ number_bytes f w n ++ drop len bytes
number_parts First w wide bytes n len fits e =
    let is = subst (IsLittle w bytes) e (little_is w bytes) in
    let front : List ℕ = take w bytes in
    let size : length front ≡ w = omega (arith, length-take w bytes, is.0) in
    let same : little_number w bytes ≡ little_number w front = ap (little_number w) (sym (take-append-drop w bytes)) ∙ little_from-append w front (drop w bytes) (omega arith) in
    let text : little_bytes w n ≡ front = ap (little_bytes w) (is.1 ∙ same) ∙ wide.back front size (IsBytes-take w bytes fits) in
    sym (take-append-drop w bytes) ∙ ap (λ (t : List ℕ). t ++ drop w bytes) (sym text) ∙ ap (λ (k : ℕ). little_bytes w n ++ drop k bytes) (sym is.2)
number_parts Second w wide bytes n len fits e =
    let text = (groups.takes bytes n len fits e).1 in
    sym (take-append-drop len bytes) ∙ ap (λ (t : List ℕ). t ++ drop len bytes) text

pub number_takes : (f : Format) (w : ℕ) → IsWide w → (place : ℕ) (bytes : List ℕ) (next : ℕ → Behind) (es : List Born) → IsBytes bytes → number f w place bytes next ≡ found es → ReadsNumber f w bytes next es
number_takes f w wide place bytes next es fits e =
    let t = leads_takes (number_in f w bytes) place bytes next es e in
    record {
      n = t.0;
      after = place + t.1;
      rest = drop t.1 bytes;
      takes = record { parts = number_parts f w wide bytes t.0 t.1 fits t.2; rest_fits = IsBytes-drop t.1 bytes fits };
      leads = t.3;
    }

-- a number that the format can tell
abbrev pub FitsNumber : Format → ℕ → ℕ → Type 0
FitsNumber First w n = n < 256 ^ w
FitsNumber Second w n = n < 2 ^ 64

spelled_again : (f : Format) (w n : ℕ) (rest : List ℕ) → FitsNumber f w n → number_in f w (number_bytes f w n ++ rest) ≡ numbers.Number n (length (number_bytes f w n))
spelled_again First w n rest lt =
    let size = length-bytes_low_first 0 w n in
    little_long w (little_bytes w n ++ rest) (omega (arith, length-append (little_bytes w n) rest, size))
    ∙ ap (λ (x : ℕ). numbers.Number x w) (little_number-reads_back w n rest lt)
    ∙ ap (numbers.Number n) (sym size)
spelled_again Second w n rest lt = groups.again n rest lt

pub number_again : (f : Format) (w place n : ℕ) (rest : List ℕ) (next : ℕ → Behind) → FitsNumber f w n → number f w place (number_bytes f w n ++ rest) next ≡ next n (place + length (number_bytes f w n)) rest
number_again f w place n rest next lt =
    ap (λ (r : NumberRead). number_leads r place (number_bytes f w n ++ rest) next) (spelled_again f w n rest lt)
    ∙ ap (next n (place + length (number_bytes f w n))) (drop_at (number_bytes f w n) rest (length (number_bytes f w n)) refl)
