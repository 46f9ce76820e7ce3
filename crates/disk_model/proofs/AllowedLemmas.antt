-- The images by the definition are just those that the clauses of the calls allow.
use Rattle.std.proofs.Common.{◌≡◌, ◌≢◌, inl, inr, ℕ, ◌<◌, Bool, true, false, if◌then◌else◌, ◌==◌, List, [], ◌∷◌, length, take, slice_index, refl, sym, ◌∙◌, ap, subst, arith, length-take}
use Rattle.std.proofs.lemmas.Bool.{cases_lt}
use Rattle.disk_model.specs.Disk.{Contents, written, Torn, Shortened}
use Rattle.disk_model.specs.Calls.{Call, write, cut, sync, FileState, States, synced, synced_all, after_write, after_cut, at_file, after, replay, IsFileImage, IsImage, contents}
use Rattle.disk_model.specs.Allowed.{seen_after, allowed_after, allowed, SameImages}
use Rattle.disk_model.specs.Sound.{IsSoundFile, AllSound, sound_after, sound_synced_all, length-written, written-lengths, touched-push, at_file-each, at_file-seen, synced_image}
use Rattle.disk_model.proofs.Follows.{write_follows, cut_follows, sync_leaves_just, sync_no_more}

-- a torn write of an image is an image after the write
torn_image : (at : ℕ) (bytes : List ℕ) (made : Bool) (s : FileState) → IsSoundFile s → (d c : List ℕ) → IsFileImage s d → Torn at (length bytes) d c → IsFileImage (after_write at bytes made s) c
torn_image at bytes made s sound d c image torn =
    let lens = written-lengths s.seen at bytes in
    record {
      no_shorter = omega (arith, image.no_shorter, torn.no_shorter);
      no_longer = elim (cases_lt 0 (length bytes)) [
        | inl some ↦ omega (arith, image.no_longer, torn.no_longer, length-written s.seen at bytes some)
        | inr none ↦ omega (arith, image.no_longer, ap (λ (l : List ℕ). length l) (torn.empty (omega (arith, none))))
      ];
      kept = λ i low free_at.
          let free = touched-push s.ranges at (length bytes) i free_at in
          let long : i < length d = omega (arith, image.no_shorter, low) in
          let same : slice_index c i ≡ slice_index d i = elim free.1 [ inl before ↦ torn.below i long before | inr behind ↦ torn.above i long behind ] in
          same ∙ image.kept i (omega (arith, low)) free.0;
    }

-- a cut of an image that stopped anywhere is an image after the cut
shortened_image : (len : ℕ) (made : Bool) (s : FileState) → IsSoundFile s → (d c : List ℕ) → IsFileImage s d → Shortened len d c → IsFileImage (after_cut len made s) c
shortened_image len made s sound d c image short =
    record {
      no_shorter = omega (arith, image.no_shorter, short.no_shorter, sound.keep_seen, length-take len s.seen);
      no_longer = omega (arith, image.no_longer, short.no_longer);
      kept = λ i low free_at.
          let below : i < len = omega (arith, low, length-take len s.seen) in
          let long : i < length c = omega (arith, low, below, image.no_shorter, short.no_shorter, length-take len s.seen) in
          short.below i long below ∙ image.kept i (omega (arith, low)) free_at;
    }

-- in a disk
file_changed : (s : States) (file : ℕ) (x : FileState) (d c : Contents) → IsImage s d → IsFileImage x (c file) → ((g : ℕ) → g ≢ file → c g ≡ d g) → IsImage (at_file file x s) c
file_changed s file x d c image here others =
    at_file-each (λ g t. IsFileImage t (c g)) file x s here (λ g apart. subst (λ (l : List ℕ). IsFileImage (s g) l) (sym (others g apart)) (image g))

-- what a call leaves possible of the images is an image after it
allowed_is_image : (e : Call) (s : States) → AllSound s → (c : Contents) → allowed_after e (contents s) (IsImage s) c → IsImage (after e s) c
unfolding after allowed_after
allowed_is_image (write file at bytes made) s sound c (d, image, torn) =
    file_changed s file (after_write at bytes made (s file)) d c image (torn_image at bytes made (s file) (sound file) (d file) (c file) (image file) torn.here) torn.others
allowed_is_image (cut file len made) s sound c (d, image, short) =
    file_changed s file (after_cut len made (s file)) d c image (shortened_image len made (s file) (sound file) (d file) (c file) (image file) short.here) short.others
allowed_is_image (sync true) s sound c (image, same) = λ f.
    subst (λ (l : List ℕ). IsFileImage (synced (s f).seen) l) (sym (same f)) (record { no_shorter = omega arith; no_longer = omega arith; kept = λ i low free_at. refl })
allowed_is_image (sync false) s sound c image = image

-- and each image after a call is one that it leaves possible
image_is_allowed : (e : Call) (s : States) → AllSound s → (c : Contents) → IsImage (after e s) c → allowed_after e (contents s) (IsImage s) c
unfolding allowed_after
image_is_allowed (write file at bytes made) s sound c image = write_follows file at bytes made s sound c image
image_is_allowed (cut file len made) s sound c image = cut_follows file len made s sound c image
image_is_allowed (sync true) s sound c image = (sync_no_more true s sound c image, sync_leaves_just s c image)
image_is_allowed (sync false) s sound c image = sync_no_more false s sound c image

-- what a call leaves possible, of fewer contents and the same reads
more_allowed : (e : Call) (seen same : Contents) (images more : Contents → Type 0) → ((f : ℕ) → seen f ≡ same f) → ((c : Contents) → images c → more c) → (c : Contents) → allowed_after e seen images c → allowed_after e same more c
unfolding allowed_after
more_allowed (write file at bytes made) seen same images more reads weaker c (d, image, torn) = (d, weaker d image, torn)
more_allowed (cut file len made) seen same images more reads weaker c (d, image, short) = (d, weaker d image, short)
more_allowed (sync true) seen same images more reads weaker c (image, just) = (weaker c image, λ f. just f ∙ reads f)
more_allowed (sync false) seen same images more reads weaker c image = weaker c image

-- what a read gives of the file where one was changed
chosen : (f file : ℕ) (x : FileState) (s : States) (new old : List ℕ) → x.seen ≡ new → (s f).seen ≡ old → (if f == file then new else old) ≡ (at_file file x s f).seen
chosen f file x s new old is was = cases (f == file)
  where
    cases : (b : Bool) → (if b then new else old) ≡ (if b then x else s f).seen
    cases true = sym is
    cases false = sym was

-- what a read gives after a call, by the states and by what it gave before
reads_after : (e : Call) (s : States) (seen : Contents) → ((f : ℕ) → seen f ≡ (s f).seen) → (f : ℕ) → seen_after e seen f ≡ (after e s f).seen
unfolding seen_after after
reads_after (write file at bytes true) s seen reads f =
    chosen f file (after_write at bytes true (s file)) s (written (seen file) at bytes) (seen f) (ap (λ (l : List ℕ). written l at bytes) (sym (reads file))) (sym (reads f))
reads_after (write file at bytes false) s seen reads f = reads f ∙ sym (at_file-seen f file (after_write at bytes false (s file)) s refl)
reads_after (cut file len true) s seen reads f =
    chosen f file (after_cut len true (s file)) s (take len (seen file)) (seen f) (ap (λ (l : List ℕ). take len l) (sym (reads file))) (sym (reads f))
reads_after (cut file len false) s seen reads f = reads f ∙ sym (at_file-seen f file (after_cut len false (s file)) s refl)
reads_after (sync true) s seen reads f = reads f
reads_after (sync false) s seen reads f = reads f

allowed_images : (calls : List Call) (s : States) (seen : Contents) (images : Contents → Type 0) → AllSound s → ((f : ℕ) → seen f ≡ (s f).seen) → ((c : Contents) → images c → IsImage s c) → ((c : Contents) → IsImage s c → images c)
    → (c : Contents) → (allowed seen images calls c → IsImage (replay s calls) c) × (IsImage (replay s calls) c → allowed seen images calls c)
unfolding allowed replay
allowed_images [] s seen images sound reads within reached c = (within c, reached c)
allowed_images (e ∷ calls) s seen images sound reads within reached c =
    allowed_images calls (after e s) (seen_after e seen) (allowed_after e seen images) (sound_after e s sound) (reads_after e s seen reads)
    (λ d may. allowed_is_image e s sound d (more_allowed e seen (contents s) images (IsImage s) reads within d may))
    (λ d image. more_allowed e (contents s) seen (IsImage s) images (λ f. sym (reads f)) reached d (image_is_allowed e s sound d image))
    c

start_image : (base c : Contents) → ((f : ℕ) → c f ≡ base f) → IsImage (synced_all base) c
start_image base c same f =
    subst (λ (l : List ℕ). IsFileImage (synced (base f)) l) (sym (same f)) (record { no_shorter = omega arith; no_longer = omega arith; kept = λ i low free_at. refl })

pub images_agree : (base : Contents) (calls : List Call) (c : Contents) → SameImages base calls c
images_agree base calls c =
    let both = allowed_images calls (synced_all base) base (λ d. (f : ℕ) → d f ≡ base f) (sound_synced_all base) (λ f. refl) (start_image base) (λ d image f. synced_image (base f) (d f) (image f)) c in
    record { within = both.0; reached = both.1 }
