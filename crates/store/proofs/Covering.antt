-- Entries whose ends are those of intervals cover the vertices.
use Rattle.std.proofs.Common.{◌≡◌, ℕ, zero, suc, ◌-◌, ◌<◌, List, [], ◌∷◌, length, get_or, refl, ap, ◌∙◌, arith}
use Rattle.std.specs.Prelude.{map}
use Rattle.std.proofs.lemmas.List.{ext_get_or, length-map}
use Rattle.closing_machine.specs.Machine.{high, low}
use Rattle.intervals.specs.Bounds.{IsCut, low_of, vertices_of}
use Rattle.manifest_codec.specs.declared.types.PartEntry.{PartEntry}
use Rattle.manifest_codec.specs.Rules.{widths}
use Rattle.manifest_codec.specs.Spelling.{Cover}

pub same_low : (ends : List ℕ) (k : ℕ) → low ends k ≡ low_of ends k
same_low ends zero = refl
same_low ends (suc k) = refl

abbrev his : List PartEntry → List ℕ
his parts = map (λ p. p.hi) parts

covers : (top from : ℕ) (parts : List PartEntry) → ((k : ℕ) → k < length parts → get_or (from ∷ his parts) k 0 < get_or (his parts) k 0) → get_or (from ∷ his parts) (length parts) 0 ≡ top → Cover top from parts
covers top from [] each last = last
covers top from (p ∷ ps) each last = (each zero (omega arith), covers top p.hi ps (λ k within. each (suc k) (omega (arith, within))) last)

widths_from : (from : ℕ) (parts : List PartEntry) (k : ℕ) → k < length parts → get_or (widths from parts) k 0 ≡ get_or (his parts) k 0 - get_or (from ∷ his parts) k 0
widths_from from [] k within = absurd (omega (arith, within))
widths_from from (p ∷ ps) zero within = refl
widths_from from (p ∷ ps) (suc k) within = widths_from p.hi ps k (omega (arith, within))

module _ (ends : List ℕ) (parts : List PartEntry) (size : length parts ≡ length ends) (each : (k : ℕ) → k < length parts → get_or (his parts) k 0 ≡ high ends k) where
  pub ends_are : his parts ≡ ends
  ends_are = ext_get_or 0 (his parts) ends (length-map parts (λ (p : PartEntry). p.hi) ∙ size) (λ k within. each k (omega (arith, within, length-map parts (λ (p : PartEntry). p.hi))))

  pub cover_is : IsCut ends → (top : ℕ) → vertices_of ends ≡ top → Cover top 0 parts
  cover_is cut top whole =
      covers top 0 parts
      (λ k within. rw ends_are (let c = cut k (omega (arith, within, size)) in omega (arith, c, same_low ends k)))
      (ap (λ (l : List ℕ). get_or (0 ∷ l) (length parts) 0) ends_are ∙ ap (λ (n : ℕ). low ends n) size ∙ same_low ends (length ends) ∙ whole)

  pub width_is : (k : ℕ) → k < length parts → get_or (widths 0 parts) k 0 ≡ high ends k - low ends k
  width_is k within = widths_from 0 parts k within ∙ ap (λ (l : List ℕ). get_or l k 0 - get_or (0 ∷ l) k 0) ends_are
