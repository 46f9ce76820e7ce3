-- An edge in front of bytes, field by field.
use Rattle.std.proofs.Common.{◌≡◌, ℕ, ◌+◌, ◌-◌, ◌<◌, List, ◌++◌, length, take, drop, Option, Some, None, Result, Ok, Err, sym, ap, ◌∙◌, append_assoc, arith, length-drop}
use Rattle.std.specs.Prelude.{IsErrAnd}
use Rattle.std.proofs.lemmas.List.{take-append-drop, take_all, drop-drop}
use Rattle.std.proofs.Math.Seq.{take-add}
use Rattle.group_number.specs.declared.reading.NumberRead.TheVariants as numbers
use Rattle.partition_file.specs.declared.types.Format.{Format}
use Rattle.partition_file.specs.declared.types.PartFault.{PartFault}
use Rattle.graph_words.specs.declared.types.Edge.{Edge}
use Rattle.graph_words.specs.declared.types.Born.{Born}
use Rattle.partition_file.specs.declared.types.Expect.{Expect}
use Rattle.partition_file.specs.FieldsRead.{Behind, number, number_in, ends_with, edge, born, edge_at, label_at, destination_at, birth_at, count_at, count_then, row_at}
use Rattle.partition_file.specs.Reader.{Gives, IsFront}
use Rattle.partition_file.proofs.NumberLaws.{number_len, leads_bad, leads_on, leads_here}

cut_at : (n : ℕ) (bytes rest : List ℕ) → bytes ++ rest ≡ take n bytes ++ (drop n bytes ++ rest)
cut_at n bytes rest = ap (λ (x : List ℕ). x ++ rest) (sym (take-append-drop n bytes)) ∙ append_assoc (take n bytes) (drop n bytes) rest

-- a fault that a `?` hands on
pub passed : {X : Type 0} (read : (X → Behind) → Behind) (place : ℕ) (bytes : List ℕ) (r : Result (Option (X × ℕ)) PartFault) (f : PartFault) → IsErrAnd r (λ x. x ≡ f)
    → ((next : X → Behind) (rest : List ℕ) → read next place (bytes ++ rest) ≡ ends_with f) → Gives read place bytes r
passed read place bytes (Ok x) f is fails = absurd is
passed read place bytes (Err x) f is fails = λ next rest. fails next rest ∙ ap ends_with (sym is)

-- a number that can't go on
pub number_breaks : (f : Format) (w place : ℕ) (bytes rest : List ℕ) (next : ℕ → Behind) (fault : PartFault) → IsFront (number_in f w bytes) place (Err fault) → number f w place (bytes ++ rest) next ≡ ends_with fault
number_breaks f w place bytes rest next fault is = leads_bad f w place bytes rest next is.0 ∙ ap ends_with (sym is.1)

-- a number whose rule is broken
pub rule_breaks : (f : Format) (w place : ℕ) (bytes rest : List ℕ) (next : ℕ → Behind) (n len : ℕ) (fault : PartFault) → 0 < w → number_in f w bytes ≡ numbers.Number n len
    → ((after : ℕ) (behind : List ℕ) → next n after behind ≡ ends_with fault) → number f w place (bytes ++ rest) next ≡ ends_with fault
rule_breaks f w place bytes rest next n len fault some is breaks = leads_on f w place bytes rest next n len some is ∙ breaks (place + len) (drop len bytes ++ rest)

-- a number whose rule is kept
pub rule_gives : {X : Type 0} (read : (X → Behind) → Behind) (f : Format) (w place : ℕ) (bytes : List ℕ) (then : (X → Behind) → ℕ → Behind) (n len : ℕ) (x : X) → 0 < w → number_in f w bytes ≡ numbers.Number n len
    → ((next : X → Behind) (all : List ℕ) → read next place all ≡ number f w place all (then next))
    → ((next : X → Behind) (after : ℕ) (behind : List ℕ) → then next n after behind ≡ next x after behind) → Gives read place bytes (Ok (Some (x, len)))
rule_gives read f w place bytes then n len x some is reads kept =
    let size = number_len f w bytes n len some is in
    (size.0, size.1, λ next rest. reads next (take len bytes ++ rest) ∙ leads_here f w place bytes rest (then next) n len some is ∙ kept next (place + len) rest)

-- the number of edges of a row
pub count_gives : (e : Expect) (f : Format) (v : ℕ) (next : Behind) (place : ℕ) (bytes more : List ℕ) (n len : ℕ) → number_in f 8 bytes ≡ numbers.Number n len
    → count_at e f v next place (take len bytes ++ more) ≡ row_at e f v n None next (place + len) more
unfolding count_at count_then
count_gives e f v next place bytes more n len is = leads_here f 8 place bytes more (count_then e f v next) n len (omega arith) is

-- ---- an edge of three fields

-- the bytes of the first two fields, and of the third
take_three : (a b c : ℕ) (bytes more : List ℕ) → take (a + b + c) bytes ++ more ≡ take a bytes ++ (take b (drop a bytes) ++ (take c (drop b (drop a bytes)) ++ more))
take_three a b c bytes more =
    ap (λ (x : List ℕ). x ++ more) (take-add (a + b) c bytes)
    ∙ ap (λ (x : List ℕ). (x ++ take c (drop (a + b) bytes)) ++ more) (take-add a b bytes)
    ∙ ap (λ (x : List ℕ). ((take a bytes ++ take b (drop a bytes)) ++ take c x) ++ more) (sym (drop-drop b a bytes))
    ∙ simp append_assoc

pub edge_gives : (e : Expect) (f : Format) (v : ℕ) (before : Option Edge) (place : ℕ) (bytes : List ℕ) (label first dst second birth third : ℕ)
    → Gives (label_at e f before) place bytes (Ok (Some (label, first)))
    → Gives (destination_at e f before label) (place + first) (drop first bytes) (Ok (Some (dst, second)))
    → Gives (birth_at e f) (place + first + second) (drop second (drop first bytes)) (Ok (Some (birth, third)))
    → Gives (edge_at e f v before) place bytes (Ok (Some (born (edge v label dst) birth, first + second + third)))
edge_gives e f v before place bytes label first dst second birth third l d t =
    let sum : place + first + second + third ≡ place + (first + second + third) = omega arith in (
      omega (arith, l.0),
      omega (arith, l.1, d.1, t.1, length-drop first bytes, length-drop second (drop first bytes)),
      λ next rest.
          let behind_dst : ℕ → ℕ → Behind = λ label dst. birth_at e f (λ birth. next (born (edge v label dst) birth)) in
          let rest3 : List ℕ = take third (drop second (drop first bytes)) ++ rest in
          let rest2 : List ℕ = take second (drop first bytes) ++ rest3 in
          ap (edge_at e f v before next place) (take_three first second third bytes rest)
          ∙ l.2 (λ label. destination_at e f before label (behind_dst label)) rest2
          ∙ d.2 (behind_dst label) rest3
          ∙ t.2 (λ birth. next (born (edge v label dst) birth)) rest
          ∙ ap (λ (at : ℕ). next (born (edge v label dst) birth) at rest) sum,
    )

-- a fault of the second field, and of the third
pub second_breaks : (e : Expect) (f : Format) (before : Option Edge) (place : ℕ) (bytes : List ℕ) (label first : ℕ) (fault : PartFault)
    → Gives (label_at e f before) place bytes (Ok (Some (label, first)))
    → Gives (destination_at e f before label) (place + first) (drop first bytes) (Err fault)
    → (v : ℕ) (next : Born → Behind) (rest : List ℕ) → edge_at e f v before next place (bytes ++ rest) ≡ ends_with fault
second_breaks e f before place bytes label first fault l d v next rest =
    let behind_dst : ℕ → ℕ → Behind = λ label dst. birth_at e f (λ birth. next (born (edge v label dst) birth)) in
    ap (edge_at e f v before next place) (cut_at first bytes rest)
    ∙ l.2 (λ label. destination_at e f before label (behind_dst label)) (drop first bytes ++ rest)
    ∙ d (behind_dst label) rest

pub third_breaks : (e : Expect) (f : Format) (before : Option Edge) (place : ℕ) (bytes : List ℕ) (label first dst second : ℕ) (fault : PartFault)
    → Gives (label_at e f before) place bytes (Ok (Some (label, first)))
    → Gives (destination_at e f before label) (place + first) (drop first bytes) (Ok (Some (dst, second)))
    → Gives (birth_at e f) (place + first + second) (drop second (drop first bytes)) (Err fault)
    → (v : ℕ) (next : Born → Behind) (rest : List ℕ) → edge_at e f v before next place (bytes ++ rest) ≡ ends_with fault
third_breaks e f before place bytes label first dst second fault l d t v next rest =
    let behind_dst : ℕ → ℕ → Behind = λ label dst. birth_at e f (λ birth. next (born (edge v label dst) birth)) in
    let behind : List ℕ = drop first bytes in
    ap (edge_at e f v before next place) (cut_at first bytes rest)
    ∙ l.2 (λ label. destination_at e f before label (behind_dst label)) (behind ++ rest)
    ∙ ap (destination_at e f before label (behind_dst label) (place + first)) (cut_at second behind rest)
    ∙ d.2 (behind_dst label) (drop second behind ++ rest)
    ∙ t (λ birth. next (born (edge v label dst) birth)) rest

-- a slice from n on, to the end
pub tail_whole : (n : ℕ) (bytes : List ℕ) → take (length bytes - n) (drop n bytes) ≡ drop n bytes
tail_whole n bytes = take_all (length bytes - n) (drop n bytes) (omega (arith, length-drop n bytes))
