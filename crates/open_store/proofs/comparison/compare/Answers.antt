use Rattle.std.proofs.Common.{◌≡◌, ◌≢◌, ◌<◌, ◌≤◌, ◌+◌, ◌-◌, ℕ, List, [], ◌++◌, length, get_or, take, drop, refl, sym, ap, subst, ◌∙◌, arith, inl, inr, length-take}
use Rattle.std.specs.Prelude.{Bool, true, false, Ok, Err, IsTrue, Result, Option, Some, None}
use Rattle.io_edge.specs.Devices.{GivesBytes}
use Rattle.disk_model.specs.Disk.{Contents}
use Rattle.open_store.specs.Answers.{DiffersFirst}
use Rattle.io_edge.proofs.DeviceLemmas.{keeps_same, keeps_then}
use Rattle.disk_model.proofs.Looks.{looks_same, looks_then}
use Rattle.open_store.proofs.Differences.{copy_is_shorter, differs_at, same_further, same_whole, text_ended, text_is_shorter}
use Rattle.open_store.proofs.comparison.compare.Goals as goal

ok_is : {T E : Type 0} (x y : T) → ◌≡◌ {A = Result T E} (Ok x) (Ok y) → x ≡ y
ok_is x y is = cc is

some_is : (x y : ℕ) → Some x ≡ Some y → x ≡ y
some_is x y is = cc is

pub loop-copy-init : goal.loop-copy-init
loop-copy-init g c =
    let D = g.D.Disk in
    record {
      place = omega arith;
      text_room = omega (arith, c.in_ok-text.ensures.len, c.in_ok-text.text.ok);
      copy_room = omega (arith, c.in_ok-copy.ensures.len, c.in_ok-copy.copy.ok);
      same = λ text told tells. refl;
      looks = looks_same;
      keeps = keeps_same;
    }

pub returns-in_err-n-clause-keeps : goal.returns-in_err-n-clause-keeps
returns-in_err-n-clause-keeps g c = keeps_then c.loop-copy.invariant.keeps c.next_piece.ensures.keeps

pub returns-then-place-len-clause-same : goal.returns-then-place-len-clause-same
returns-then-place-len-clause-same g c = λ is text told tells.
    let D = g.D.Disk in
    let I = g.I.Inputs in
    let inv = c.loop-copy.invariant in
    let place = c.loop-copy.place in
    let len = c.args.len in
    let file = D.seen c.args.disk.now c.args.file in
    let name = c.args.name.now in
    let gives : (text : List ℕ) → I.told c.args.inputs.now name ≡ Some text → GivesBytes text place c.next_piece.new.piece.items c.in_ok-n.n = λ text told. c.in_ok-n.ensures.bytes text ((λ k. inv.keeps.kept k name) ∙ told) in
    let none = c.behind.ensures.none (ok_is _ _ is) in
    same_whole text file place len (inv.same text told tells) (text_ended text place c.next_piece.new.piece.items c.in_ok-n.n (omega (arith, c.next_piece.ensures.piece)) none (gives text told)) c.if-place-len.true

pub returns-then-place-len-clause-differ : goal.returns-then-place-len-clause-differ
returns-then-place-len-clause-differ g c = λ p is text told tells.
    let D = g.D.Disk in
    let I = g.I.Inputs in
    let inv = c.loop-copy.invariant in
    let place = c.loop-copy.place in
    let len = c.args.len in
    let file = D.seen c.args.disk.now c.args.file in
    let name = c.args.name.now in
    let gives : (text : List ℕ) → I.told c.args.inputs.now name ≡ Some text → GivesBytes text place c.next_piece.new.piece.items c.in_ok-n.n = λ text told. c.in_ok-n.ensures.bytes text ((λ k. inv.keeps.kept k name) ∙ told) in
    let some = c.behind.ensures.some p (ok_is _ _ is) in
    subst (DiffersFirst text (take len file)) (sym some.0) (copy_is_shorter text file place len (inv.same text told tells) (omega (arith, (gives text told).within, some.1)) c.if-place-len.true)

pub returns-then-place-len-clause-keeps : goal.returns-then-place-len-clause-keeps
returns-then-place-len-clause-keeps g c = keeps_then c.loop-copy.invariant.keeps c.next_piece.ensures.keeps

pub returns-then-n-eq0-clause-differ : goal.returns-then-n-eq0-clause-differ
returns-then-n-eq0-clause-differ g c = λ p is text told tells.
    let D = g.D.Disk in
    let I = g.I.Inputs in
    let inv = c.loop-copy.invariant in
    let place = c.loop-copy.place in
    let len = c.args.len in
    let file = D.seen c.args.disk.now c.args.file in
    let name = c.args.name.now in
    let gives : (text : List ℕ) → I.told c.args.inputs.now name ≡ Some text → GivesBytes text place c.next_piece.new.piece.items c.in_ok-n.n = λ text told. c.in_ok-n.ensures.bytes text ((λ k. inv.keeps.kept k name) ∙ told) in
    let at : place ≡ p = some_is place p (ok_is _ _ is) in
    subst (DiffersFirst text (take len file)) at
    (text_is_shorter text file place len (inv.same text told tells) (text_ended text place c.next_piece.new.piece.items c.in_ok-n.n (omega (arith, c.next_piece.ensures.piece)) c.if-n-eq0.true (gives text told)) (omega (arith, inv.place, c.if-place-len.false)) (c.requires.long tells))

pub returns-then-n-eq0-clause-keeps : goal.returns-then-n-eq0-clause-keeps
returns-then-n-eq0-clause-keeps g c = keeps_then c.loop-copy.invariant.keeps c.next_piece.ensures.keeps

pub returns-in_err-same-clause-looks : goal.returns-in_err-same-clause-looks
returns-in_err-same-clause-looks g c = looks_then c.loop-copy.invariant.looks c.same_piece.ensures.looks

pub returns-in_err-same-clause-keeps : goal.returns-in_err-same-clause-keeps
returns-in_err-same-clause-keeps g c = keeps_then c.loop-copy.invariant.keeps c.next_piece.ensures.keeps

pub returns-then-differ-clause-differ : goal.returns-then-differ-clause-differ
returns-then-differ-clause-differ g c = λ p is text told tells.
    let D = g.D.Disk in
    let I = g.I.Inputs in
    let inv = c.loop-copy.invariant in
    let place = c.loop-copy.place in
    let len = c.args.len in
    let file = D.seen c.args.disk.now c.args.file in
    let name = c.args.name.now in
    let gives : (text : List ℕ) → I.told c.args.inputs.now name ≡ Some text → GivesBytes text place c.next_piece.new.piece.items c.in_ok-n.n = λ text told. c.in_ok-n.ensures.bytes text ((λ k. inv.keeps.kept k name) ∙ told) in
    let n = c.in_ok-n.n in
    let same = c.in_ok-same.same in
    let piece = c.next_piece.new.piece.items in
    let given : c.deref.result.now ≡ piece = c.deref.ensures.value in
    let long : IsTrue D.tells → place + (len - place) ≤ length (D.seen c.loop-copy.disk c.args.file) = λ tells. omega (arith, c.requires.long tells, inv.place, ap (λ (x : Contents). length (x c.args.file)) inv.looks.same_seen) in
    let front : (text : List ℕ) → I.told c.args.inputs.now name ≡ Some text → IsTrue D.tells → take (place + same) text ≡ take (place + same) (take len file) = λ text told tells.
    same_further text file place len n same piece (inv.same text told tells) (omega (arith, inv.place, c.in_ok-same.ensures.within.0)) (omega (arith, c.in_ok-same.ensures.within.1, ap length given, length-take n c.deref.result.now)) (gives text told).bytes
    (ap (λ (l : List ℕ). take same (take n l)) (sym given) ∙ c.in_ok-same.ensures.same tells (long tells) ∙ ap (λ (x : Contents). take same (drop place (x c.args.file))) inv.looks.same_seen) in
    let at : place + same ≡ p = some_is (place + same) p (ok_is _ _ is) in
    let unlike = c.in_ok-same.ensures.differ tells (long tells) c.if-differ.true in
    subst (DiffersFirst text (take len file)) at
    (differs_at text file place len n same piece (front text told tells) (omega (arith, inv.place, unlike.0)) (omega (arith, unlike.1, length-take n c.deref.result.now)) (gives text told).bytes
    (λ like. unlike.2 (ap (λ (l : List ℕ). get_or (take n l) same 0) given ∙ like ∙ ap (λ (x : Contents). get_or (drop place (x c.args.file)) same 0) (sym inv.looks.same_seen))))

pub returns-then-differ-clause-looks : goal.returns-then-differ-clause-looks
returns-then-differ-clause-looks g c = looks_then c.loop-copy.invariant.looks c.same_piece.ensures.looks

pub returns-then-differ-clause-keeps : goal.returns-then-differ-clause-keeps
returns-then-differ-clause-keeps g c = keeps_then c.loop-copy.invariant.keeps c.next_piece.ensures.keeps

pub loop-copy-preserved : goal.loop-copy-preserved
loop-copy-preserved g c =
    let D = g.D.Disk in
    let I = g.I.Inputs in
    let inv = c.loop-copy.invariant in
    let place = c.loop-copy.place in
    let len = c.args.len in
    let file = D.seen c.args.disk.now c.args.file in
    let name = c.args.name.now in
    let gives : (text : List ℕ) → I.told c.args.inputs.now name ≡ Some text → GivesBytes text place c.next_piece.new.piece.items c.in_ok-n.n = λ text told. c.in_ok-n.ensures.bytes text ((λ k. inv.keeps.kept k name) ∙ told) in
    let n = c.in_ok-n.n in
    let same = c.in_ok-same.same in
    let piece = c.next_piece.new.piece.items in
    let given : c.deref.result.now ≡ piece = c.deref.ensures.value in
    let long : IsTrue D.tells → place + (len - place) ≤ length (D.seen c.loop-copy.disk c.args.file) = λ tells. omega (arith, c.requires.long tells, inv.place, ap (λ (x : Contents). length (x c.args.file)) inv.looks.same_seen) in
    let front : (text : List ℕ) → I.told c.args.inputs.now name ≡ Some text → IsTrue D.tells → take (place + same) text ≡ take (place + same) (take len file) = λ text told tells.
    same_further text file place len n same piece (inv.same text told tells) (omega (arith, inv.place, c.in_ok-same.ensures.within.0)) (omega (arith, c.in_ok-same.ensures.within.1, ap length given, length-take n c.deref.result.now)) (gives text told).bytes
    (ap (λ (l : List ℕ). take same (take n l)) (sym given) ∙ c.in_ok-same.ensures.same tells (long tells) ∙ ap (λ (x : Contents). take same (drop place (x c.args.file))) inv.looks.same_seen) in
    record {
      place = omega (arith, inv.place, c.in_ok-same.ensures.within.0);
      text_room = c.next_piece.ensures.piece;
      copy_room = c.same_piece.ensures.copy;
      same = front;
      looks = looks_then inv.looks c.same_piece.ensures.looks;
      keeps = keeps_then inv.keeps c.next_piece.ensures.keeps;
    }
