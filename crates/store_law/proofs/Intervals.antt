-- The partitions that a manifest names are partitions of its intervals.
use Rattle.std.proofs.Common.{◌≡◌, ℕ, zero, suc, ◌<◌, List, [], ◌∷◌, length, sym, ◌∙◌, arith}
use Rattle.std.specs.Prelude.{map, slice_index_or}
use Rattle.std.proofs.lemmas.List.{length-map}
use Rattle.graph_words.specs.declared.types.Born.{Born}
use Rattle.closing_machine.specs.State.{EndsCut}
use Rattle.closing_machine.specs.Parts.{ArePartitions, IsPartition}
use Rattle.disk_model.specs.Disk.{Contents}
use Rattle.manifest_codec.specs.declared.types.PartEntry.{PartEntry}
use Rattle.manifest_codec.specs.declared.types.Manifest.{Manifest}
use Rattle.manifest_codec.specs.Spelling.{Cover}
use Rattle.store_law.specs.Listed.{AreListed, ends_of}

pub cut_from_cover : (top from : ℕ) (parts : List PartEntry) → Cover top from parts → EndsCut from (map (λ p. p.hi) parts) top
cut_from_cover top from [] h = h
cut_from_cover top from (p ∷ parts) h = (h.0, cut_from_cover top p.hi parts h.1)

-- partitions one by one
pub are_partitions : (from : ℕ) (ends : List ℕ) (parts : List (List Born)) → length parts ≡ length ends → ((i : ℕ) → i < length ends → IsPartition (slice_index_or (from ∷ ends) i 0) (slice_index_or ends i 0) (slice_index_or parts i [])) → ArePartitions from ends parts
are_partitions from [] [] size each = tt
are_partitions from [] (p ∷ ps) size each = absurd (omega arith)
are_partitions from (e ∷ es) [] size each = absurd (omega arith)
are_partitions from (e ∷ es) (p ∷ ps) size each = (each zero (omega arith), are_partitions e es ps (omega arith) (λ i l. each (suc i) (omega arith)))

pub listed_partitions : (c : Contents) (m : Manifest) (fresh : ℕ) (parts : List (List Born)) → AreListed c m fresh parts → ArePartitions 0 (ends_of m) parts
listed_partitions c m fresh parts l =
    let count : length (ends_of m) ≡ length m.parts = length-map m.parts (λ (p : PartEntry). p.hi) in
    are_partitions 0 (ends_of m) parts (l.size ∙ sym count)
    (λ i lt. let f = l.fits i (omega arith) in record { ordered = f.part.ascending; sources = f.part.within })
