use Rattle.std.proofs.Common.{◌≡◌, ℕ, arith, subst}
use Rattle.normal_law.specs.NormalForm.{normal_form}
use Rattle.import_text.specs.Given.{AddsJust, IsLoopIn}
use Rattle.import_text.proofs.GivenLemmas.{loops_none, loops_more}
use Rattle.import_text.proofs.given.add_loops.Goals as goal

pub loop-v-init : goal.loop-v-init
loop-v-init c = record { from = omega arith; to = c.requires; loops = loops_none (normal_form c.args.normal.now) c.args.lo c.args.given.now.items }

pub loop-v-preserved : goal.loop-v-preserved
loop-v-preserved c =
    record {
      from = omega (arith, c.loop-v.invariant.from);
      to = omega (arith, c.loop-v-test.true);
      loops = loops_more (normal_form c.args.normal.now) c.args.lo c.loop-v.v c.empties.result.now _ _ _ c.loop-v.invariant.from c.empties.ensures.each c.loop-v.invariant.loops c.in_ok-push_each.ensures;
    }

pub returns : goal.returns
returns c =
    let all : c.loop-v.v ≡ c.args.hi = omega (arith, c.loop-v-test.false, c.loop-v.invariant.to) in
    subst (λ (v : ℕ). AddsJust (IsLoopIn (normal_form c.args.normal.now) c.args.lo v) c.args.given.now.items c.loop-v.given.items) all c.loop-v.invariant.loops
