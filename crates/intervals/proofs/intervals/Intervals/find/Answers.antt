use Rattle.std.proofs.Common.{◌≡◌, leb, sym, subst, ◌∙◌, rules, of_calls}
use Rattle.std.proofs.lemmas.Fn.{always_returns_same}
use Rattle.intervals.specs.Bounds.{IsCut}
use Rattle.intervals.proofs.BoundsLemmas.{rises_to, point_of, lies_in_its_interval}
use Rattle.intervals.proofs.intervals.Intervals.find.Goals as goal

pub returns-clause-lies : goal.returns-clause-lies
returns-clause-lies c =
    let ends = c.as_slice.result.now in
    let same : ends ≡ c.args.self.now = c.as_slice.ensures.value ∙ c.self.view_is in
    let cut : IsCut ends = subst IsCut (sym c.as_slice.ensures.value) c.self.invariant in
    let point = c.partition_point.ensures.partitioned (λ end. leb end c.args.v) (always_returns_same _ _ _ (λ a r f k. search (rules, of_calls))) (rises_to ends c.args.v cut) in
    point_of ends c.args.self.now c.partition_point.result c.args.v same c.partition_point.ensures.bound point.0 point.1 c.requires

pub returns-clause-number : goal.returns-clause-number
returns-clause-number c = sym (lies_in_its_interval c.args.self.now c.partition_point.result c.args.v (rw c.self.view_is at c.self.invariant) (returns-clause-lies c))
