use Rattle.std.proofs.Common.{◌≡◌, ◌<◌, ◌≤◌, ◌+◌, ℕ, Bool, true, false, if◌then◌else◌, List, [], ◌∷◌, ◌++◌, Vec, length, sym, ◌∙◌, ap, arith, length-append}
use Rattle.std.specs.declared.alloc.Global.{Global}
use Rattle.std.specs.List.{position_or_len}
use Rattle.std.proofs.lemmas.List.Sums.{prefix_len-le-length}
use Rattle.disk_model.specs.Memory.{bytes_at, is_of, state_at}
use Rattle.disk_model.specs.declared.loose.Loose.{Loose}
use Rattle.disk_model.proofs.States.{bytes_at-get, state_at-touch}
use Rattle.disk_model.proofs.files.Files.touch.Goals as goal

-- a push, whether it found memory or not
pushed : (seen : List (Vec ℕ Global)) (more loose : List Loose) (y : Loose) (b : Bool) (f : ℕ) → more ≡ (if b then loose ++ y ∷ [] else loose) → state_at seen (loose ++ y ∷ []) f ≡ state_at seen loose f → state_at seen more f ≡ state_at seen loose f
pushed seen more loose y true f is same = ap (λ (l : List Loose). state_at seen l f) is ∙ same
pushed seen more loose y false f is same = ap (λ (l : List Loose). state_at seen l f) is

pub invariant_of-self : goal.invariant_of-self
invariant_of-self c =
    let me = c.args.self.now in
    let file = c.args.file in
    let y = c.new.result in
    let place : c.place_of-place.result ≡ position_or_len (is_of file) me.loose.items = c.place_of-place.ensures ∙ ap (λ (l : List Loose). position_or_len (is_of file) l) c.deref.ensures.value in
    let past : length me.loose.items ≤ position_or_len (is_of file) me.loose.items = omega (arith, place, c.if-place-len.false, c.len.ensures) in
    let low : file < length me.seen.items = omega (arith, me.size) in
    let base_is : y.base.items ≡ c.in_ok-base.base.items = ap (λ (v : Vec ℕ Global). v.items) c.new.ensures.base in
    let bytes : c.in_ok-base.base.items ≡ bytes_at me.seen.items file =
    c.in_ok-base.ensures ∙ c.deref-2.ensures.value ∙ ap (λ (v : Vec ℕ Global). v.items) c.index.ensures ∙ sym (bytes_at-get me.seen.items file c.index.result.now low) in
    let len : length y.base.items ≡ length c.in_ok-base.base.items = ap (λ (l : List ℕ). length l) base_is in
    record {
      size = me.size;
      replayed = λ f.
          pushed me.seen.items c.push.new.self.items me.loose.items y _ f c.push.ensures.items
          (state_at-touch me.seen.items me.loose.items file y past c.new.ensures.file (base_is ∙ bytes) (c.new.ensures.keep ∙ sym len) (c.new.ensures.longest ∙ sym len) c.new.ensures.ranges f)
          ∙ me.replayed f;
    }

pub returns-clause-within : goal.returns-clause-within
returns-clause-within c =
    let xs = c.args.self.now.loose.items in
    let place : c.place_of-place.result ≡ position_or_len (is_of c.args.file) xs = c.place_of-place.ensures ∙ ap (λ (l : List Loose). position_or_len (is_of c.args.file) l) c.deref.ensures.value in
    let small : position_or_len (is_of c.args.file) xs ≤ length xs = prefix_len-le-length _ xs in
    let len : length c.push.new.self.items ≡ length xs + 1 = ap (λ (l : List Loose). length l) c.in_ok-push.ensures.items ∙ length-append xs (c.new.result ∷ []) in
    omega (arith, place, small, len)
