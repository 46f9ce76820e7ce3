use Rattle.std.proofs.Common.{sym, subst}
use Rattle.std.proofs.lemmas.Result.{err_from_is_err_and}
use Rattle.edge_text.specs.Feed.{IsFed}
use Rattle.import_text.specs.Tally.{Tallied, TakesEnd}
use Rattle.import_text.proofs.TallyLemmas.{fed_on, takes_end}
use Rattle.import_text.proofs.tally.Tally.finish.Goals as goal

pub returns-in_err-finish-clause-fault : goal.returns-in_err-finish-clause-fault
returns-in_err-finish-clause-fault c =
    let p = err_from_is_err_and c.from_residual.result c.from_residual.ensures.1 in
    rw (p.1, p.2)
    (λ line kind told names text front f.
    let here = subst (λ (t : Tallied). IsFed 0 names text t.reader front) (sym c.self.view_is) f in
    c.in_err-finish.ensures.fault line kind told 0 names text front (fed_on names text c.self.inside.reader front _ c.clear.ensures.items here))

pub returns-clause-taken : goal.returns-clause-taken
returns-clause-taken c =
    let counted = rw c.deref.ensures.value at c.in_ok-count_all.ensures in
    let e = c.in_ok-finish.ensures in
    subst (λ (t : Tallied). TakesEnd t (record { reader = c.finish.new.self; degrees = c.count_all.new.self })) c.self.view_is
    (takes_end (record { reader = c.self.inside.reader; degrees = c.self.inside.degrees }) (record { reader = c.finish.new.self; degrees = c.count_all.new.self }) _ c.finish.new.edges.items c.clear.ensures.items e.adds counted (e.ok 0))
