-- Which file is blamed on the way.
use Rattle.std.proofs.Common.{◌≡◌, ℕ, ◌<◌, Bool, true, List, length, None, sym, ap, subst, arith, inl, inr}
use Rattle.std.specs.Prelude.{IsTrue}
use Rattle.std.proofs.lemmas.Bool.Decides.{nat_tests}
use Rattle.graph_words.specs.declared.types.Born.{Born}
use Rattle.normal_law.specs.NormalForm.{normal_form}
use Rattle.closing_machine.specs.Machine.{is_among}
use Rattle.disk_model.specs.Disk.{Contents}
use Rattle.faults.specs.declared.form_kind.FormKind.{FormKind}
use Rattle.partition_file.specs.Spelling.{Part, first_break, found}
use Rattle.partition_file.specs.FieldsRead.{Found, reading}
use Rattle.partition_file.proofs.FileLaws.{file_again, one_part}
use Rattle.manifest_codec.specs.Spelling.{FitsManifest}
use Rattle.store_law.specs.Listed.{part_file, part_of}
use Rattle.open_store.specs.PartRead.{IsRefused, IsTold}
use Rattle.open_store.specs.Store.{OpenStore, expect_in}
use Rattle.open_store.proofs.Tallies.{ends_count}
use Rattle.closer.specs.Answers.{BlamesOnTheWay, BlamesPicked}
use Rattle.closer.specs.Continuation.{CanBeRead, Continues, IsUntouched}
use Rattle.closer.proofs.Listing.{expected}

-- what can be read isn't refused
read_not_refused : (s : OpenStore) (c : Contents) (a place : ℕ) (kind : FormKind) → FitsManifest s.manifest → CanBeRead (normal_form s.rules) s.manifest c a → IsRefused s a (c (part_file s.manifest a)) place kind → ⊥
read_not_refused s c a place kind fits r (inl broken) =
    let again : reading (expect_in s a) (c (part_file s.manifest a)) ≡ found r.edges = file_again (expect_in s a) (c (part_file s.manifest a)) (part_of s.manifest a r.edges) (expected s.manifest (normal_form s.rules).fresh a fits) r.fits r.spells in
    let none : first_break (expect_in s a) (c (part_file s.manifest a)) ≡ None = ap (λ (f : Found). f.fault) again in
    absurd (cc)
read_not_refused s c a place kind fits r (inr (edges, part, spells, untold, at, is)) =
    let same = one_part (expect_in s a) (c (part_file s.manifest a)) (part_of s.manifest a r.edges) (part_of s.manifest a edges) (expected s.manifest (normal_form s.rules).fresh a fits) r.fits part r.spells spells in
    untold (subst (λ (l : List Born). IsTold s.manifest a l) (ap (λ (p : Part). p.edges) same) r.told)

pub one_of : (i j a n : ℕ) → is_among i j a ≡ true → i < n → j < n → a < n
one_of i j a n among li lj = grind (arith, nat_tests, among, li, lj)

-- what a step blames is as the store from before has it
pub on_the_way : (before t : OpenStore) (tells : Bool) (c d : Contents) (file place : ℕ) (kind : FormKind) → t.rules ≡ before.rules → (IsTrue tells → (k : ℕ) × Continues (normal_form before.rules) k c before.manifest d t.manifest) → BlamesPicked t tells d file place kind → BlamesOnTheWay before tells c file place kind
on_the_way before t tells c d file place kind same on b =
    record { store = t; seen = d; rules_are = same; reached = on; blames = b; untouched = λ tell. still tell (on tell) }
  where
    still : IsTrue tells → (k : ℕ) × Continues (normal_form before.rules) k c before.manifest d t.manifest → IsUntouched before.manifest c t.manifest d b.partition
    still tell (k, x) =
        let there : b.partition < length t.manifest.parts = one_of b.i b.j b.partition (length t.manifest.parts) b.among b.pick.first_below b.pick.second_below in
        let was : b.partition < length before.manifest.parts = omega (arith, there, ends_count before.manifest, ends_count t.manifest, ap (λ (l : List ℕ). length l) x.ends) in
        elim (x.parts b.partition was) [
          | inl u ↦ u
          | inr r ↦
              absurd
              (read_not_refused t d b.partition place kind x.fits (subst (λ rules. CanBeRead (normal_form rules) t.manifest d b.partition) (sym same) r)
              (subst (λ (f : ℕ). IsRefused t b.partition (d f) place kind) b.file_is (b.refused tell)))
        ]
