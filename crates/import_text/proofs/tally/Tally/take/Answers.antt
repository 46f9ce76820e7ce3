use Rattle.std.proofs.Common.{sym, subst}
use Rattle.std.proofs.lemmas.Result.{err_from_is_err_and}
use Rattle.edge_text.specs.Feed.{IsFed}
use Rattle.import_text.specs.Tally.{Tallied, TakesPiece}
use Rattle.import_text.proofs.TallyLemmas.{fed_on, takes_piece}
use Rattle.import_text.proofs.tally.Tally.take.Goals as goal

pub returns-in_err-feed-clause-fault : goal.returns-in_err-feed-clause-fault
returns-in_err-feed-clause-fault c =
    let p = err_from_is_err_and c.from_residual.result c.from_residual.ensures.1 in
    rw (p.1, p.2)
    (λ line kind told names text front f.
    let here = subst (λ (t : Tallied). IsFed 0 names text t.reader front) (sym c.self.view_is) f in
    c.in_err-feed.ensures.fault line kind told 0 names text front (fed_on names text c.self.inside.reader front _ c.clear.ensures.items here))

pub returns-clause-taken : goal.returns-clause-taken
returns-clause-taken c =
    let counted = rw c.deref.ensures.value at c.in_ok-count_all.ensures in
    let e = c.in_ok-feed.ensures in
    subst (λ (t : Tallied). TakesPiece c.args.piece.now t (record { reader = c.feed.new.self; degrees = c.count_all.new.self })) c.self.view_is
    (takes_piece c.args.piece.now (record { reader = c.self.inside.reader; degrees = c.self.inside.degrees }) (record { reader = c.feed.new.self; degrees = c.count_all.new.self }) _ c.feed.new.edges.items c.clear.ensures.items e.adds counted e.open e.place e.short (e.ok 0))
