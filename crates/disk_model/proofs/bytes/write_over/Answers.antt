use Rattle.std.proofs.Common.{◌≡◌, ◌<◌, ℕ, List, Vec, IfOk, length, sym, subst, arith}
use Rattle.std.specs.declared.alloc.Global.{Global}
use Rattle.std.proofs.lemmas.Bool.Decides.{nat_tests}
use Rattle.disk_model.specs.Sound.{written-empty, written-some}
use Rattle.disk_model.proofs.bytes.write_over.Goals as goal

pub returns-then-is_empty : goal.returns-then-is_empty
returns-then-is_empty c =
    let none : length c.args.bytes.now ≡ 0 = grind (arith, nat_tests) in
    subst (λ (l : List ℕ). IfOk c.copy.result (λ (v : Vec ℕ Global). v.items ≡ l)) (sym (written-empty c.args.file.now c.args.at c.args.bytes.now none)) c.copy.ensures

pub returns : goal.returns
returns c =
    let some : 0 < length c.args.bytes.now = grind (arith, nat_tests) in
    subst (λ (l : List ℕ). IfOk c.overwrite.result (λ (v : Vec ℕ Global). v.items ≡ l)) (sym (written-some c.args.file.now c.args.at c.args.bytes.now some)) c.overwrite.ensures
