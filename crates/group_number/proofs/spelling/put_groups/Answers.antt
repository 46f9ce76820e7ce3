use Rattle.std.proofs.Common.{◌+◌, ◌%◌, ◌/◌, ℕ, List, [], ◌∷◌, ◌++◌, ap, sym, ◌∙◌, append_assoc, arith}
use Rattle.group_number.specs.Groups.{group_bytes}
use Rattle.group_number.proofs.GroupLaws.{group_bytes_step, group_bytes_low}
use Rattle.group_number.proofs.spelling.put_groups.Goals as goal

pub loop-rest-preserved : goal.loop-rest-preserved
loop-rest-preserved c =
    let n = c.loop-rest.rest in
    let before = c.loop-rest.out.items in
    let group : List ℕ = (128 + n % 128) ∷ [] in
    ap (λ (x : List ℕ). x ++ group_bytes (n / 128)) c.in_ok-push.ensures.items
    ∙ append_assoc before group (group_bytes (n / 128))
    ∙ ap (λ (x : List ℕ). before ++ x) (sym (group_bytes_step n (omega arith) c.loop-rest-test.true))
    ∙ c.loop-rest.invariant

pub returns : goal.returns
returns c = c.in_ok-push-2.ensures.items
    ∙ ap (λ (x : List ℕ). c.loop-rest.out.items ++ x) (sym (group_bytes_low c.loop-rest.rest c.loop-rest-test.false))
    ∙ c.loop-rest.invariant
