use Rattle.std.proofs.Common.{◌<◌, ℕ, subst, arith}
use Rattle.std.specs.Prelude.{Option, IfSome}
use Rattle.query_text.proofs.Listed.{asked_below, asked_place}
use Rattle.query_text.proofs.edge_lines.partitions_of.Goals as goal

pub find-i-requires : goal.find-i-requires
find-i-requires c =
    let s = c.args.store.now in
    let here = subst (λ (f : Option ℕ). IfSome f (λ u. u < s.manifest.vertices)) c.in-Some.is c.requires in
    asked_below s c.intervals-in-Some.ensures.store c.intervals-in-Some.result.now c.intervals-in-Some.ensures.intervals c.in-Some.u here

pub returns-in-Some-clause-first : goal.returns-in-Some-clause-first
returns-in-Some-clause-first c =
    let s = c.args.store.now in
    rw c.in-Some.is (asked_place s c.intervals-in-Some.ensures.store c.intervals-in-Some.result.now c.intervals-in-Some.ensures.intervals c.find-i.result c.in-Some.u c.find-i.ensures.lies)

pub returns-in-Some-clause-end : goal.returns-in-Some-clause-end
returns-in-Some-clause-end c =
    let s = c.args.store.now in
    let is = asked_place s c.intervals-in-Some.ensures.store c.intervals-in-Some.result.now c.intervals-in-Some.ensures.intervals c.find-i.result c.in-Some.u c.find-i.ensures.lies in
    rw c.in-Some.is (omega (arith, is))
