use Rattle.std.proofs.Common.{◌≡◌, ◌≤◌, ◌+◌, ◌^◌, ℕ, List, ◌++◌, length, take, drop, sym, ap, subst, refl, ◌∙◌, arith, length-append, length-take, length-drop, get_or}
use Rattle.std.specs.Prelude.{None, Some}
use Rattle.std.proofs.lemmas.List.{length-take-le}
use Rattle.partition_file.specs.Spelling.{IsBytes, first_break}
use Rattle.partition_file.specs.FieldsRead.{Found, reading}
use Rattle.partition_file.specs.Reader.{ReadsPiece}
use Rattle.graph_words.specs.declared.types.Born.{Born}
use Rattle.open_store.specs.Stream.{HasRead, IsAt}
use Rattle.open_store.proofs.Streams.{all_bytes, faulted, fed, next_bytes}
use Rattle.open_store.proofs.stream.PartStream.next.Goals as goal

pub returns-in-Some-clause-cause : goal.returns-in-Some-clause-cause
returns-in-Some-clause-cause g c =
    let n = c.in_ok-n.n in
    let place = c.args.self.now.place in
    let given : c.deref.result.now ≡ c.read_front.new.piece.items = c.deref.ensures.value in
    let reads : ReadsPiece c.args.self.now.reader c.read_piece.new.reader c.args.edges.now.items c.read_piece.new.edges.items (take n c.deref.result.now) (Some c.in-Some.fault) = rw c.in-Some.is at c.in_ok-fault.ensures.reads in
    rw c.blamed.ensures (
      refl,
      λ tells e file bytes front is at.
          let same : take n c.deref.result.now ≡ take n (drop place file) = ap (take n) given ∙ c.in_ok-n.ensures.bytes tells ∙ ap (λ (l : List ℕ). take n (drop place l)) is in
          let all : bytes ++ (take n c.deref.result.now ++ drop n (drop place file)) ≡ file = (λ i. at.front tells i ++ (same i ++ drop n (drop place file))) ∙ all_bytes file place n in
          ap (first_break e) (sym all)
          ∙ faulted e bytes (take n c.deref.result.now) front c.args.edges.now.items c.read_piece.new.edges.items c.args.self.now.reader c.read_piece.new.reader c.in-Some.fault at.read reads (drop n (drop place file)),
    )

pub returns-in-None-clause-more : goal.returns-in-None-clause-more
returns-in-None-clause-more g c = λ more e file bytes front is at.
    let n = c.in_ok-n.n in
    let place = c.args.self.now.place in
    let piece = take n c.read_front.new.piece.items in
    let given : take n c.deref.result.now ≡ piece = ap (take n) c.deref.ensures.value in
    let reads : ReadsPiece c.args.self.now.reader c.read_piece.new.reader c.args.edges.now.items c.read_piece.new.edges.items (take n c.deref.result.now) None = rw c.in-None.is at c.in_ok-fault.ensures.reads in
    let size : length piece ≡ n = length-take-le n c.read_front.new.piece.items (c.in_ok-n.ensures.within.1) in (
      bytes ++ piece,
      record {
        read = fed e bytes piece front c.args.edges.now.items c.read_piece.new.edges.items c.args.self.now.reader c.read_piece.new.reader at.read
            (subst (λ (l : List ℕ). ReadsPiece c.args.self.now.reader c.read_piece.new.reader c.args.edges.now.items c.read_piece.new.edges.items l None) given reads) c.in_ok-n.ensures.are_bytes
            (omega (arith, c.in_ok-fault.ensures.taken, ap length given))
            (omega (arith, c.in_ok-fault.ensures.few, ap length given));
        place_is = omega (arith, at.place_is, length-append bytes piece, size);
        front = λ tells. (λ i. at.front tells i ++ (c.in_ok-n.ensures.bytes tells ∙ ap (λ (l : List ℕ). take n (drop place l)) (is tells)) i) ∙ next_bytes file place n;
        whole = at.whole;
      },
    )
