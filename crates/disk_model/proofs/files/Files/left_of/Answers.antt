use Rattle.std.proofs.Common.{◌≡◌, ◌<◌, ◌≤◌, ℕ, List, Vec, Some, Option, IfOk, length, get_or, sym, ◌∙◌, ap, subst, arith}
use Rattle.std.specs.declared.alloc.Global.{Global}
use Rattle.std.specs.List.{position_or_len}
use Rattle.disk_model.specs.Calls.{FileState, synced}
use Rattle.disk_model.specs.Memory.{bytes_at, file_state, is_of}
use Rattle.disk_model.specs.MemDisk.{start_in, record_in, states_in}
use Rattle.disk_model.specs.Sound.{IsSoundFile, sound_started}
use Rattle.disk_model.specs.Left.{CrashLeaves}
use Rattle.disk_model.specs.Run.{if_ok}
use Rattle.disk_model.specs.declared.files.Files.{Files}
use Rattle.disk_model.specs.declared.loose.Loose.{Loose}
use Rattle.disk_model.proofs.States.{bytes_at-get, entry_found, entry_none, left_synced}
use Rattle.disk_model.proofs.files.Files.left_of.Goals as goal

-- the bytes that a read gives
seen_is : (me : Files) (file : ℕ) (v : Vec ℕ Global) (now : List ℕ) → file < 1024 → v ≡ get_or me.seen.items file v → now ≡ v.items → now ≡ bytes_at me.seen.items file
seen_is me file v now low is same = same ∙ ap (λ (w : Vec ℕ Global). w.items) is ∙ sym (bytes_at-get me.seen.items file v (omega (arith, low, me.size)))

-- a file that was changed
changed : (me : Files) (file i : ℕ) (x : Loose) (now : List ℕ) → now ≡ bytes_at me.seen.items file → i ≡ position_or_len (is_of file) me.loose.items → i < length me.loose.items → x ≡ get_or me.loose.items i x
    → file_state now (Some x) ≡ states_in me file
changed me file i x now seen place low is =
    ap (λ (l : List ℕ). file_state l (Some x)) seen ∙ ap (λ (o : Option Loose). file_state (bytes_at me.seen.items file) o) (ap Some is ∙ sym (entry_found me.loose.items file i place low x)) ∙ me.replayed file

-- a file that was not
unchanged : (me : Files) (file : ℕ) (now : List ℕ) → now ≡ bytes_at me.seen.items file → length me.loose.items ≤ position_or_len (is_of file) me.loose.items → synced now ≡ states_in me file
unchanged me file now seen past =
    ap synced seen ∙ ap (λ (o : Option Loose). file_state (bytes_at me.seen.items file) o) (sym (entry_none me.loose.items file past)) ∙ me.replayed file

pub left-requires : goal.left-requires
left-requires c =
    let me = c.args.self.now in
    let file = c.args.file in
    let place : c.place_of-place.result ≡ position_or_len (is_of file) me.loose.items = c.place_of-place.ensures ∙ ap (λ (l : List Loose). position_or_len (is_of file) l) c.deref.ensures.value in
    let low : c.place_of-place.result < length me.loose.items = omega (arith, c.if-place-len.true, c.len.ensures) in
    let seen = seen_is me file c.index-seen.result.now c.deref-then-place-len.result.now c.requires c.index-seen.ensures c.deref-then-place-len.ensures.value in
    subst (λ (t : FileState). IsSoundFile t) (sym (changed me file c.place_of-place.result c.index.result.now c.deref-then-place-len.result.now seen place low c.index.ensures)) (sound_started (start_in me) (record_in me) file)

pub returns-then-place-len : goal.returns-then-place-len
returns-then-place-len c =
    let me = c.args.self.now in
    let file = c.args.file in
    let place : c.place_of-place.result ≡ position_or_len (is_of file) me.loose.items = c.place_of-place.ensures ∙ ap (λ (l : List Loose). position_or_len (is_of file) l) c.deref.ensures.value in
    let low : c.place_of-place.result < length me.loose.items = omega (arith, c.if-place-len.true, c.len.ensures) in
    let seen = seen_is me file c.index-seen.result.now c.deref-then-place-len.result.now c.requires c.index-seen.ensures c.deref-then-place-len.ensures.value in
    subst (λ (t : FileState). IfOk c.left.result (λ (v : Vec ℕ Global). CrashLeaves c.args.choice t v.items)) (changed me file c.place_of-place.result c.index.result.now c.deref-then-place-len.result.now seen place low c.index.ensures) c.left.ensures

pub returns : goal.returns
returns c =
    let me = c.args.self.now in
    let file = c.args.file in
    let now = c.deref-2.result.now in
    let place : c.place_of-place.result ≡ position_or_len (is_of file) me.loose.items = c.place_of-place.ensures ∙ ap (λ (l : List Loose). position_or_len (is_of file) l) c.deref.ensures.value in
    let past : length me.loose.items ≤ position_or_len (is_of file) me.loose.items = omega (arith, place, c.if-place-len.false, c.len.ensures) in
    let seen = seen_is me file c.index-seen.result.now now c.requires c.index-seen.ensures c.deref-2.ensures.value in
    let here : CrashLeaves c.args.choice (states_in me file) now = subst (λ (t : FileState). CrashLeaves c.args.choice t now) (unchanged me file now seen past) (left_synced c.args.choice now) in
    if_ok (λ (v : Vec ℕ Global). v.items ≡ now) _ c.copy.result (λ v is. subst (λ (l : List ℕ). CrashLeaves c.args.choice (states_in me file) l) (sym is) here) c.copy.ensures
