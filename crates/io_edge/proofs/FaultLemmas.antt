-- The fault of a segment, test by test, and the first fault of a text that is longer than its limit.
use Rattle.std.proofs.Common.{◌≡◌, ◌⊎◌, inl, inr, ℕ, ◌+◌, ◌<◌, ◌≤◌, suc, zero, true, false, Bool, cond, List, [], ◌∷◌, ◌++◌, length, refl, ap, sym, ◌∙◌, arith, Some, None, append_assoc, append-nil, length-append, subst}
use Rattle.std.specs.Prelude.{All, nat_lt, Option}
use Rattle.std.proofs.lemmas.Bool.Decides.{nat_tests}
use Rattle.std.proofs.lemmas.List.Elements.{All-nil, All-cons}
use Rattle.graph_words.specs.Text.{words, is_skipped}
use Rattle.faults.specs.declared.kinds.InputKind.{InputKind}
use Rattle.faults.specs.declared.kinds.InputKind.TheVariants.{LineTooLong, TooLong}
use Rattle.io_edge.specs.Lines.{is_line_feed, segments, line, without_end}
use Rattle.io_edge.specs.FirstFault.{Fault, fault_or, line_fault, with_line, first_fault, HasFaultAnyway}
use Rattle.io_edge.proofs.SegmentLemmas.{HasNoFeed, segments_at, segments_long}

-- a segment that is short and ends within the limit has the fault of its words
pub words_fault : (limit : ℕ) (kind : List (List (List ℕ)) → List (List ℕ) → Option InputKind) (before : List (List (List ℕ))) (end : ℕ) (s : List ℕ) → length (without_end 10 s) ≤ 4096 → end ≤ limit → line_fault limit kind before end s ≡ cond (is_skipped (words (line s))) None (kind before (words (line s)))
words_fault limit kind before end s short within =
    let a : nat_lt 4096 (length (without_end 10 s)) ≡ false = grind (arith, nat_tests) in
    let b : nat_lt limit end ≡ false = grind (arith, nat_tests) in
    ap (λ t. cond t (Some LineTooLong) (cond (nat_lt limit end) (Some TooLong) (cond (is_skipped (words (line s))) None (kind before (words (line s)))))) a
    ∙ ap (λ t. cond t (Some TooLong) (cond (is_skipped (words (line s))) None (kind before (words (line s))))) b

-- a segment of a short line that ends past the limit
pub far_fault : (limit : ℕ) (kind : List (List (List ℕ)) → List (List ℕ) → Option InputKind) (before : List (List (List ℕ))) (end : ℕ) (s : List ℕ) → length (without_end 10 s) ≤ 4096 → limit < end → line_fault limit kind before end s ≡ Some TooLong
far_fault limit kind before end s short past =
    let a : nat_lt 4096 (length (without_end 10 s)) ≡ false = grind (arith, nat_tests) in
    let b : nat_lt limit end ≡ true = grind (arith, nat_tests) in
    ap (λ t. cond t (Some LineTooLong) (cond (nat_lt limit end) (Some TooLong) (cond (is_skipped (words (line s))) None (kind before (words (line s)))))) a
    ∙ ap (λ t. cond t (Some TooLong) (cond (is_skipped (words (line s))) None (kind before (words (line s))))) b

-- a segment of a line that is too long, wherever it ends
pub long_fault : (limit : ℕ) (kind : List (List (List ℕ)) → List (List ℕ) → Option InputKind) (before : List (List (List ℕ))) (end : ℕ) (s : List ℕ) → 4096 < length (without_end 10 s) → line_fault limit kind before end s ≡ Some LineTooLong
long_fault limit kind before end s long =
    let a : nat_lt 4096 (length (without_end 10 s)) ≡ true = grind (arith, nat_tests) in
    ap (λ t. cond t (Some LineTooLong) (cond (nat_lt limit end) (Some TooLong) (cond (is_skipped (words (line s))) None (kind before (words (line s)))))) a

-- a segment without a fault ends within the limit
within_limit : (limit : ℕ) (kind : List (List (List ℕ)) → List (List ℕ) → Option InputKind) (before : List (List (List ℕ))) (end : ℕ) (s : List ℕ) → line_fault limit kind before end s ≡ None → end ≤ limit
within_limit limit kind before end s none = go (nat_lt 4096 (length (without_end 10 s))) (nat_lt limit end) refl refl
  where
    go : (a b : Bool) → nat_lt 4096 (length (without_end 10 s)) ≡ a → nat_lt limit end ≡ b → end ≤ limit
    go a false p q = grind (arith, nat_tests)
    go true true p q = let h = sym (ap (λ t. cond t (Some LineTooLong) (cond (nat_lt limit end) (Some TooLong) (cond (is_skipped (words (line s))) None (kind before (words (line s)))))) p) ∙ none in absurd (cc)
    go false true p q =
        let h =
        sym
        (ap (λ t. cond t (Some LineTooLong) (cond (nat_lt limit end) (Some TooLong) (cond (is_skipped (words (line s))) None (kind before (words (line s)))))) p
        ∙ ap (λ t. cond t (Some TooLong) (cond (is_skipped (words (line s))) None (kind before (words (line s))))) q)
        ∙ none in
        absurd (cc)

-- a first line with its line feed, and the rest
record Begins (text : List ℕ) : Type 0 where
  front : List ℕ
  feed : ℕ
  rest : List ℕ
  none : HasNoFeed front
  is_feed : is_line_feed feed ≡ true
  is : text ≡ front ++ feed ∷ rest

-- a text has no line feed, or begins with a line that has one
begins : (text : List ℕ) → HasNoFeed text ⊎ Begins text
begins [] = inl (All-nil (λ b. is_line_feed b ≡ false))
begins (b ∷ bs) = go (is_line_feed b) refl (begins bs)
  where
    go : (t : Bool) → is_line_feed b ≡ t → HasNoFeed bs ⊎ Begins bs → HasNoFeed (b ∷ bs) ⊎ Begins (b ∷ bs)
    go true e later = inr (record { front = []; feed = b; rest = bs; none = All-nil (λ b. is_line_feed b ≡ false); is_feed = e; is = refl })
    go false e (inl none) = inl (All-cons (λ b. is_line_feed b ≡ false) b bs e none)
    go false e (inr g) = inr (record { front = b ∷ g.front; feed = g.feed; rest = g.rest; none = All-cons (λ b. is_line_feed b ≡ false) b g.front e g.none; is_feed = g.is_feed; is = ap (λ l. b ∷ l) g.is })

module _ (limit : ℕ) (kind : List (List (List ℕ)) → List (List ℕ) → Option InputKind) (later : List ℕ) where
  -- the first line is too long, here and in the longer text
  too_long_first : (n at : ℕ) (before : List (List (List ℕ))) (text more : List ℕ) → HasNoFeed text → 4096 < length text → first_fault limit kind n at before (segments (text ++ more)) ≡ Some (record { line = n; kind = LineTooLong })
  too_long_first n at before text more none long =
      let l = segments_long text more (omega arith) none in
      let many = l.long in
      ap (first_fault limit kind n at before) l.is
      ∙ ap (λ k. fault_or n k (first_fault limit kind (n + 1) (at + length l.segment) (with_line before l.segment) l.rest)) (long_fault limit kind before (at + length l.segment) l.segment (omega arith))

  -- a line with its line feed, and then the rest
  step : (n at : ℕ) (before : List (List (List ℕ))) (front : List ℕ) (y : ℕ) (rest : List ℕ) → HasNoFeed front → is_line_feed y ≡ true → (k : Option InputKind) → line_fault limit kind before (at + length (front ++ y ∷ [])) (front ++ y ∷ []) ≡ k
      → (k ≡ None → HasFaultAnyway limit kind (n + 1) (at + length (front ++ y ∷ [])) (with_line before (front ++ y ∷ [])) rest later) → HasFaultAnyway limit kind n at before (front ++ y ∷ rest) later
  step n at before front y rest none feed (Some k) e next =
      record {
        fault = record { line = n; kind = k };
        here = ap (first_fault limit kind n at before) (segments_at front y rest none feed) ∙ ap (λ f. fault_or n f (first_fault limit kind (n + 1) (at + length (front ++ y ∷ [])) (with_line before (front ++ y ∷ [])) (segments rest))) e;
        there =
            ap (λ t. first_fault limit kind n at before (segments t)) (append_assoc front (y ∷ rest) later)
            ∙ ap (first_fault limit kind n at before) (segments_at front y (rest ++ later) none feed)
            ∙ ap (λ f. fault_or n f (first_fault limit kind (n + 1) (at + length (front ++ y ∷ [])) (with_line before (front ++ y ∷ [])) (segments (rest ++ later)))) e;
      }
  step n at before front y rest none feed None e next =
      let r = next refl in
      record {
        fault = r.fault;
        here = ap (first_fault limit kind n at before) (segments_at front y rest none feed) ∙ ap (λ f. fault_or n f (first_fault limit kind (n + 1) (at + length (front ++ y ∷ [])) (with_line before (front ++ y ∷ [])) (segments rest))) e ∙ r.here;
        there =
            ap (λ t. first_fault limit kind n at before (segments t)) (append_assoc front (y ∷ rest) later)
            ∙ ap (first_fault limit kind n at before) (segments_at front y (rest ++ later) none feed)
            ∙ ap (λ f. fault_or n f (first_fault limit kind (n + 1) (at + length (front ++ y ∷ [])) (with_line before (front ++ y ∷ [])) (segments (rest ++ later)))) e
            ∙ r.there;
      }

  anyway : (fuel n at : ℕ) (before : List (List (List ℕ))) (text : List ℕ) → HasNoFeed text ⊎ Begins text → length text ≤ fuel → at ≤ limit → limit + 4097 ≤ at + length text → HasFaultAnyway limit kind n at before text later
  anyway fuel n at before text (inl none) few within long =
      record {
        fault = record { line = n; kind = LineTooLong };
        here = ap (λ t. first_fault limit kind n at before (segments t)) (sym (append-nil text)) ∙ too_long_first n at before text [] none (omega arith);
        there = too_long_first n at before text later none (omega arith);
      }
  anyway zero n at before text (inr g) few within long = absurd (omega (arith, ap length g.is, length-append g.front (g.feed ∷ g.rest)))
  anyway (suc fuel) n at before text (inr g) few within long =
      let all = ap length g.is in
      let whole = length-append g.front (g.feed ∷ g.rest) in
      let part = length-append g.front (g.feed ∷ []) in
      let s = g.front ++ g.feed ∷ [] in
      subst (λ (t : List ℕ). HasFaultAnyway limit kind n at before t later) (sym g.is)
      (step n at before g.front g.feed g.rest g.none g.is_feed (line_fault limit kind before (at + length s) s) refl
      (λ e. anyway fuel (n + 1) (at + length s) (with_line before s) g.rest (begins g.rest) (omega arith) (within_limit limit kind before (at + length s) s e) (omega arith)))

-- a text with more bytes than the limit and a line has a first fault, which longer texts have too
pub long_text_has_fault : (limit : ℕ) (kind : List (List (List ℕ)) → List (List ℕ) → Option InputKind) (text later : List ℕ) → limit + 4097 ≤ length text → HasFaultAnyway limit kind 1 0 [] text later
long_text_has_fault limit kind text later long = anyway limit kind later (length text) 1 0 [] text (begins text) (omega arith) (omega arith) (omega arith)

-- where a text has no first fault, no segment has a fault behind the lines before it
pub record IsFaultless (limit : ℕ) (kind : List (List (List ℕ)) → List (List ℕ) → Option InputKind) (s : List ℕ) : Type 0 where
  pub before : List (List (List ℕ))
  pub end : ℕ
  pub none : line_fault limit kind before end s ≡ None

first_none : (n : ℕ) (a : Option InputKind) (b : Option Fault) → fault_or n a b ≡ None → (a ≡ None) × (b ≡ None)
first_none n (Some k) b e = absurd (cc)
first_none n None b e = (refl, e)

pub each_is_faultless : (limit : ℕ) (kind : List (List (List ℕ)) → List (List ℕ) → Option InputKind) (n at : ℕ) (before : List (List (List ℕ))) (parts : List (List ℕ)) → first_fault limit kind n at before parts ≡ None → All (IsFaultless limit kind) parts
each_is_faultless limit kind n at before [] e = All-nil (IsFaultless limit kind)
each_is_faultless limit kind n at before (s ∷ parts) e =
    let both = first_none n (line_fault limit kind before (at + length s) s) (first_fault limit kind (n + 1) (at + length s) (with_line before s) parts) e in
    All-cons (IsFaultless limit kind) s parts (record { before = before; end = at + length s; none = both.0 }) (each_is_faultless limit kind (n + 1) (at + length s) (with_line before s) parts both.1)

-- a segment without a fault says nothing, or its words have none
pub faultless_words : (limit : ℕ) (kind : List (List (List ℕ)) → List (List ℕ) → Option InputKind) (s : List ℕ) → (f : IsFaultless limit kind s) → (is_skipped (words (line s)) ≡ true) ⊎ ((is_skipped (words (line s)) ≡ false) × (kind f.before (words (line s)) ≡ None))
faultless_words limit kind s f = go (nat_lt 4096 (length (without_end 10 s))) (nat_lt limit f.end) (is_skipped (words (line s))) refl refl refl
  where
    go : (a b c : Bool) → nat_lt 4096 (length (without_end 10 s)) ≡ a → nat_lt limit f.end ≡ b → is_skipped (words (line s)) ≡ c → (is_skipped (words (line s)) ≡ true) ⊎ ((is_skipped (words (line s)) ≡ false) × (kind f.before (words (line s)) ≡ None))
    go a b true p q r = inl r
    go true b false p q r = let h = sym (ap (λ t. cond t (Some LineTooLong) (cond (nat_lt limit f.end) (Some TooLong) (cond (is_skipped (words (line s))) None (kind f.before (words (line s)))))) p) ∙ f.none in absurd (cc)
    go false true false p q r =
        let h =
        sym
        (ap (λ t. cond t (Some LineTooLong) (cond (nat_lt limit f.end) (Some TooLong) (cond (is_skipped (words (line s))) None (kind f.before (words (line s)))))) p
        ∙ ap (λ t. cond t (Some TooLong) (cond (is_skipped (words (line s))) None (kind f.before (words (line s))))) q)
        ∙ f.none in
        absurd (cc)
    go false false false p q r =
        inr (
          r,
          sym
              (ap (λ t. cond t (Some LineTooLong) (cond (nat_lt limit f.end) (Some TooLong) (cond (is_skipped (words (line s))) None (kind f.before (words (line s)))))) p
              ∙ ap (λ t. cond t (Some TooLong) (cond (is_skipped (words (line s))) None (kind f.before (words (line s))))) q
              ∙ ap (λ t. cond t None (kind f.before (words (line s)))) r)
              ∙ f.none,
        )
