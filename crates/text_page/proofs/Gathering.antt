-- Pieces of a text that are gathered, one after the other.
use Rattle.std.proofs.Common.{◌≡◌, ℕ, List, [], ◌++◌, Result, Ok, Err, Option, refl, sym, subst, ap, ◌∙◌, append_assoc, append-nil, arith}
use Rattle.std.specs.Io.KnownBytes.{Appends}
use Rattle.std.proofs.KnownBytes.{Appends-nil, Appends-trans}
use Rattle.io_edge.specs.Devices.{AppendsPrefix, Takes}
use Rattle.io_edge.proofs.DeviceLemmas.{AppendsPrefix-more, takes_more}
use Rattle.text_page.specs.Gathered.{Gathers, HasGathered}

-- nothing was taken yet
pub nothing_taken : (a : Option (List ℕ)) (text : List ℕ) → AppendsPrefix a a text
nothing_taken a text = (0, omega arith, Appends-nil a)

pub gathers_none : (a : Option (List ℕ)) (held : List ℕ) → HasGathered a held a held []
gathers_none a held = ([], Appends-nil a, sym (append-nil held))

-- a page holds a piece more
pub gathers_piece : (a : Option (List ℕ)) (held holds piece : List ℕ) → holds ≡ held ++ piece → HasGathered a held a holds piece
gathers_piece a held holds piece is = ([], Appends-nil a, is)

-- what was held was taken, and then the page holds a piece
pub gathers_fresh : (a b : Option (List ℕ)) (held holds piece : List ℕ) → Appends a b held → holds ≡ piece → HasGathered a held b holds piece
gathers_fresh a b held holds piece taken is = (held, taken, ap (λ (l : List ℕ). held ++ l) is)

-- or the piece was taken too, or a prefix of it
pub gathers_past : {T E : Type 0} (a b c : Option (List ℕ)) (held holds piece : List ℕ) (result : Result T E) → Appends a b held → holds ≡ [] → Takes b c result piece → Gathers a held c holds result piece
gathers_past a b c held holds piece (Ok x) taken blank g = (held ++ piece, Appends-trans a b c held piece taken g, ap (λ (l : List ℕ). (held ++ piece) ++ l) blank ∙ append-nil (held ++ piece))
gathers_past {T} {E} a b c held holds piece (Err e) taken blank g = takes_more {T = T} {E = E} a b c (Err e) held piece taken g

joined : (out q p t1 t2 : List ℕ) → out ++ q ≡ p ++ t1 → out ++ (q ++ t2) ≡ p ++ (t1 ++ t2)
joined out q p t1 t2 is = sym (append_assoc out q t2) ∙ ap (λ (l : List ℕ). l ++ t2) is ∙ append_assoc p t1 t2

-- a text more, after one that was gathered
pub gathers_then : {U F : Type 0} (a b c : Option (List ℕ)) (p q r : List ℕ) (second : Result U F) (t1 t2 : List ℕ) → HasGathered a p b q t1 → Gathers b q c r second t2 → Gathers a p c r second (t1 ++ t2)
gathers_then a b c p q r (Ok y) t1 t2 g h =
    (g.0 ++ h.0, Appends-trans a b c g.0 h.0 g.1 h.1, append_assoc g.0 h.0 r ∙ ap (λ (l : List ℕ). g.0 ++ l) h.2 ∙ joined g.0 q p t1 t2 g.2)
gathers_then a b c p q r (Err e) t1 t2 g h =
    subst (λ (l : List ℕ). AppendsPrefix a c l) (joined g.0 q p t1 t2 g.2) (takes_more {T = Unit {0}} {E = Unit {0}} a b c (Err tt) g.0 (q ++ t2) g.1 h)

-- where it failed, a longer text has the same prefix
pub gathers_longer : (a b : Option (List ℕ)) (p t1 t2 : List ℕ) → AppendsPrefix a b (p ++ t1) → AppendsPrefix a b (p ++ (t1 ++ t2))
gathers_longer a b p t1 t2 g = subst (λ (l : List ℕ). AppendsPrefix a b l) (append_assoc p t1 t2) (AppendsPrefix-more a b (p ++ t1) t2 g)

-- ---- from an empty page on: what it holds at the end goes to the sink
pub flushed : {U F : Type 0} (a b c : Option (List ℕ)) (p q : List ℕ) (result : Result U F) (text : List ℕ) → p ≡ [] → HasGathered a p b q text → Takes b c result q → Takes a c result text
flushed a b c p q result text blank g h =
    subst (λ (l : List ℕ). Takes a c result l) (g.2 ∙ ap (λ (l : List ℕ). l ++ text) blank) (takes_more a b c result g.0 q g.1 h)

-- or it failed before
pub stopped : (a b : Option (List ℕ)) (p text : List ℕ) → p ≡ [] → AppendsPrefix a b (p ++ text) → AppendsPrefix a b text
stopped a b p text blank g = subst (λ (l : List ℕ). AppendsPrefix a b (l ++ text)) blank g

-- ---- of a text the front is gathered, and the rest is left
pub record GathersOn (start : Option (List ℕ)) (held : List ℕ) (now : Option (List ℕ)) (holds whole rest : List ℕ) : Type 0 where
  pub front : List ℕ
  pub gathered : HasGathered start held now holds front
  pub same : whole ≡ front ++ rest

pub goes_on : (a : Option (List ℕ)) (p whole : List ℕ) → GathersOn a p a p whole whole
goes_on a p whole = record { front = []; gathered = gathers_none a p; same = refl }

module _ (a : Option (List ℕ)) (p : List ℕ) (b : Option (List ℕ)) (q : List ℕ) (c : Option (List ℕ)) (r whole piece rest : List ℕ) (on : GathersOn a p b q whole (piece ++ rest)) where
  -- a piece more
  pub goes_further : HasGathered b q c r piece → GathersOn a p c r whole rest
  goes_further h =
      record {
        front = on.front ++ piece;
        gathered = gathers_then {U = Unit {0}} {F = Unit {0}} a b c p q r (Ok tt) on.front piece on.gathered h;
        same = on.same ∙ sym (append_assoc on.front piece rest);
      }

  -- which fails
  pub goes_wrong : AppendsPrefix b c (q ++ piece) → AppendsPrefix a c (p ++ whole)
  goes_wrong h =
      let all = gathers_longer a c p (on.front ++ piece) rest (gathers_then {U = Unit {0}} {F = Unit {0}} a b c p q r (Err tt) on.front piece on.gathered h) in
      subst (λ (l : List ℕ). AppendsPrefix a c (p ++ l)) (append_assoc on.front piece rest ∙ sym on.same) all

-- the last piece
pub goes_to_end : {T E : Type 0} (a : Option (List ℕ)) (p : List ℕ) (b : Option (List ℕ)) (q : List ℕ) (c : Option (List ℕ)) (r whole piece : List ℕ) (result : Result T E) → GathersOn a p b q whole piece → Gathers b q c r result piece → Gathers a p c r result whole
goes_to_end {T} {E} a p b q c r whole piece result on h = subst (λ (l : List ℕ). Gathers {T = T} {E = E} a p c r result l) (sym on.same) (gathers_then a b c p q r result on.front piece on.gathered h)

-- nothing is left
pub is_gathered : (a : Option (List ℕ)) (p : List ℕ) (b : Option (List ℕ)) (q whole : List ℕ) → GathersOn a p b q whole [] → HasGathered a p b q whole
is_gathered a p b q whole on = subst (λ (l : List ℕ). HasGathered a p b q l) (sym (on.same ∙ append-nil on.front)) on.gathered
