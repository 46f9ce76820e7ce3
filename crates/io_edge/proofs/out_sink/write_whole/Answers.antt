use Rattle.std.proofs.Common.{◌≡◌, ◌+◌, ◌-◌, ℕ, List, ◌++◌, Option, length, take, drop, sym, ◌∙◌, ap, subst, arith, length-drop}
use Rattle.std.specs.Io.KnownBytes.{Appends}
use Rattle.std.proofs.KnownBytes.{Appends-trans}
use Rattle.std.proofs.Math.Seq.{take-add}
use Rattle.std.proofs.lemmas.List.{take_all}
use Rattle.io_edge.proofs.out_sink.write_whole.Goals as goal

one_more : (a b c : Option (List ℕ)) (bytes : List ℕ) (done n : ℕ) → Appends a b (take done bytes) → Appends b c (take n (take (length bytes - done) (drop done bytes))) → Appends a c (take (done + n) bytes)
one_more a b c bytes done n p q =
    let whole : take (length bytes - done) (drop done bytes) ≡ drop done bytes = take_all (length bytes - done) (drop done bytes) (omega (arith, length-drop done bytes)) in
    let all : take done bytes ++ take n (take (length bytes - done) (drop done bytes)) ≡ take (done + n) bytes = ap (λ (l : List ℕ). take done bytes ++ take n l) whole ∙ sym (take-add done n bytes) in
    subst (λ (l : List ℕ). Appends a c l) all (Appends-trans a b c (take done bytes) (take n (take (length bytes - done) (drop done bytes))) p q)

pub loop-done-preserved : goal.loop-done-preserved
loop-done-preserved g c =
    let told = g.W.Write.contents in
    let bytes = c.args.bytes.now in
    record {
      short = omega (arith, c.in-Ok.ensures.bound, length-drop c.loop-done.done bytes);
      taken = one_more (told c.args.to.now) _ (told c.write.new.self) bytes c.loop-done.done c.in-Ok.n c.loop-done.invariant.taken c.in-Ok.ensures.bytes;
    }
