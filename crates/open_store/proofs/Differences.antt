-- Two texts that are compared piece by piece.
use Rattle.std.proofs.Common.{◌≡◌, ◌≢◌, ℕ, ◌+◌, ◌-◌, ◌<◌, ◌≤◌, List, ◌++◌, length, get_or, take, drop, refl, sym, ap, ◌∙◌, arith, inl, inr, length-take, take-take}
use Rattle.std.specs.Prelude.{Option, Some, None, slice_get}
use Rattle.std.proofs.Math.Seq.{take-add}
use Rattle.std.proofs.lemmas.Bool.{cases_lt}
use Rattle.std.proofs.lemmas.List.{get_or-drop, get_or-take, take_all}
use Rattle.std.proofs.lemmas.Option.{slice_get-get_or, slice_get_past, unwrap_or-slice_get}
use Rattle.std.specs.Option.{unwrap_or}
use Rattle.io_edge.specs.Devices.{GivesBytes}
use Rattle.open_store.specs.Answers.{DiffersFirst}

-- the bytes in front that are the same grow by those of a piece
pub same_further : (text file : List ℕ) (place len n same : ℕ) (piece : List ℕ) → take place text ≡ take place (take len file) → place + same ≤ len → same ≤ n → take n piece ≡ take n (drop place text) → take same (take n piece) ≡ take same (drop place file) → take (place + same) text ≡ take (place + same) (take len file)
same_further text file place len n same piece before within fits piece-is same-is =
    take-add place same text
    ∙ (λ i. before i ++ (sym (take-take same n (drop place text) fits) ∙ ap (take same) (sym piece-is) ∙ same-is) i)
    ∙ ap (λ (l : List ℕ). l ++ take same (drop place file)) (take-take place len file (omega (arith, within)))
    ∙ sym (take-add place same file) ∙ sym (take-take (place + same) len file within)

-- elements that differ
unlike : (xs ys : List ℕ) (i : ℕ) → get_or xs i 0 ≢ get_or ys i 0 → slice_get xs i ≢ slice_get ys i
unlike xs ys i not same = not (sym (unwrap_or-slice_get xs i 0) ∙ ap (λ (o : Option ℕ). unwrap_or o 0) same ∙ unwrap_or-slice_get ys i 0)

pub differs_at : (text file : List ℕ) (place len n same : ℕ) (piece : List ℕ) → take (place + same) text ≡ take (place + same) (take len file) → place + same < len → same < n → take n piece ≡ take n (drop place text) → get_or (take n piece) same 0 ≢ get_or (drop place file) same 0 → DiffersFirst text (take len file) (place + same)
differs_at text file place len n same piece front within low piece-is not =
    record {
      same = front;
      differ = unlike text (take len file) (place + same) (λ is.
          not (ap (λ (l : List ℕ). get_or l same 0) piece-is ∙ get_or-take n (drop place text) same 0 low ∙ get_or-drop place text same 0 ∙ is ∙ get_or-take len file (place + same) 0 within ∙ sym (get_or-drop place file same 0)));
    }

-- the text ends here
pub text_ended : (text : List ℕ) (place : ℕ) (buf : List ℕ) (n : ℕ) → 0 < length buf → n ≡ 0 → GivesBytes text place buf n → length text ≤ place
text_ended text place buf n some none gives = elim (cases_lt place (length text)) [ inl low ↦ absurd (omega (arith, gives.some some low, none)) | inr past ↦ past ]

-- a text and a copy that end together and have the same bytes are the same
pub same_whole : (text file : List ℕ) (place len : ℕ) → take place text ≡ take place (take len file) → length text ≤ place → place ≡ len → text ≡ take len file
same_whole text file place len front past all = sym (take_all place text past) ∙ front ∙ take-take place len file (omega (arith, all)) ∙ ap (λ (k : ℕ). take k file) all

-- one of them ends first
pub text_is_shorter : (text file : List ℕ) (place len : ℕ) → take place text ≡ take place (take len file) → length text ≤ place → place < len → len ≤ length file → DiffersFirst text (take len file) place
text_is_shorter text file place len front past low long =
    record {
      same = front;
      differ = λ is.
          let here = slice_get-get_or (take len file) place 0 (omega (arith, low, long, length-take len file)) in
          absurd (some_none (get_or (take len file) place 0) (sym (slice_get_past text place past) ∙ is ∙ here));
    }
  where
    some_none : (x : ℕ) → None ≡ Some x → ⊥
    some_none x is = absurd (cc is)

pub copy_is_shorter : (text file : List ℕ) (place len : ℕ) → take place text ≡ take place (take len file) → place < length text → place ≡ len → DiffersFirst text (take len file) place
copy_is_shorter text file place len front low all =
    record {
      same = front;
      differ = λ is.
          let here = slice_get-get_or text place 0 low in
          absurd (some_none (get_or text place 0) (sym (slice_get_past (take len file) place (omega (arith, all, length-take len file))) ∙ sym is ∙ here));
    }
  where
    some_none : (x : ℕ) → None ≡ Some x → ⊥
    some_none x is = absurd (cc is)
