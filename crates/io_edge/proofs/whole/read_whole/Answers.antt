use Rattle.std.proofs.Common.{◌≡◌, ◌+◌, ◌≤◌, ℕ, List, Some, ◌++◌, length, length-take, take, ◌∙◌, ap, sym, subst, arith, rules}
use Rattle.std.proofs.Math.Seq.{take-add, take-append_seam}
use Rattle.io_edge.specs.Devices.{GivesBytes}
use Rattle.io_edge.proofs.whole.read_whole.Goals as goal

-- bytes more, behind those with which a file begins
one_piece_more : (file whole buf : List ℕ) (at n : ℕ) → whole ≡ take at file → at ≤ length file → GivesBytes file at buf n → (whole ++ take n buf ≡ take (at + n) file) × (at + n ≤ length file)
one_piece_more file whole buf at n front within gives =
    (ap (λ (l : List ℕ). l ++ take n buf) front ∙ ap (λ (l : List ℕ). take at file ++ l) gives.bytes ∙ sym (take-add at n file), omega (arith, gives.within))

-- what was written to the whole of a buffer is the buffer
written : (len : ℕ) (piece rest : List ℕ) → length piece ≡ len → take len (piece ++ rest) ≡ piece
written len piece rest e = subst (λ k. take k (piece ++ rest) ≡ piece) e (take-append_seam piece rest)

pub loop-at-preserved : goal.loop-at-preserved
loop-at-preserved g c =
    let before = c.loop-at.invariant in
    let buf : List ℕ = c.read.new.buf in
    let whole : List ℕ = c.loop-at.whole.items in
    let n : ℕ = c.in_ok-n.n in
    let full : length buf ≡ c.loop-at.buf.len = omega (arith, c.deref_mut.ensures.len) in
    record {
      buf = search rules;
      small = omega (arith, c.in_ok-n.ensures.count);
      len = simp length-take at c.in_ok-extend_from_slice.ensures.len ∙ omega (arith, c.in_ok-n.ensures.count, c.deref.ensures.len);
      kept = c.in_ok-n.ensures.kept ∙ before.kept;
      count = λ k. omega (arith, before.count k, c.in_ok-n.ensures.others k);
      so_far = λ file told.
          let same : g.I.Inputs.told c.loop-at.inputs c.args.name.now ≡ Some file = ap (λ f. f c.args.name.now) before.kept ∙ told in
          let more = one_piece_more file whole buf c.loop-at.at n (before.so_far file told).0 (before.so_far file told).1 (c.in_ok-n.ensures.bytes file same) in
          let grown : c.extend_from_slice.new.self.items ≡ whole ++ take n c.deref.result.now = c.in_ok-extend_from_slice.ensures.items in
          let is_buf : c.deref.result.now ≡ buf = c.deref.ensures.value ∙ written c.loop-at.buf.len buf _ full in
          let appended : whole ++ take n c.deref.result.now ≡ whole ++ take n buf = ap (λ (l : List ℕ). whole ++ take n l) is_buf in
          (grown ∙ (appended ∙ more.0), more.1);
    }
