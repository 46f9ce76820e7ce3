use Rattle.std.proofs.Common.{◌+◌, ◌-◌, ◌++◌, ap, ◌∙◌, length, take, drop, arith, refl, length-take, length-drop}
use Rattle.std.proofs.lemmas.Result.{err_from_is_err_and}
use Rattle.edge_text.proofs.EdgeLemmas.{AddsEdges-none, AddsEdges-then, AddsEdges-weaker}
use Rattle.edge_text.proofs.FeedLemmas.{feeds_piece, behind}
use Rattle.edge_text.proofs.feed.EdgeReader.feed.Goals as goal

pub loop-rest-init : goal.loop-rest-init
loop-rest-init c =
    record {
      is_open = c.requires.open;
      shorter = omega arith;
      sum = refl;
      short = λ l. l;
      adds = AddsEdges-none c.args.edges.now.items c.args.self.now.table (length c.args.piece.now - length c.args.piece.now);
      feeds = λ start names text front f. f;
    }

pub loop-rest-preserved : goal.loop-rest-preserved
loop-rest-preserved c =
    let used = c.in_ok-used.ensures.used in
    let cut = length-drop c.in_ok-used.used c.loop-rest.rest.now in
    let left = length-take (length c.loop-rest.rest.now - c.in_ok-used.used) (drop c.in_ok-used.used c.loop-rest.rest.now) in
    record {
      is_open = c.in_ok-used.ensures.open;
      shorter = omega (arith, cut, left, used.0, used.1, c.loop-rest.invariant.shorter);
      sum =
          ap (λ p. p + length (take (length c.loop-rest.rest.now - c.in_ok-used.used) (drop c.in_ok-used.used c.loop-rest.rest.now))) used.2
          ∙ behind c.loop-rest.rest.now c.in_ok-used.used _ _ _ used.1 c.loop-rest.invariant.sum;
      short = λ l. c.in_ok-used.ensures.short;
      adds =
          AddsEdges-weaker (length c.args.piece.now - length c.loop-rest.rest.now + 1) _ _ _ _ _ (omega (arith, cut, left, used.0, used.1, c.loop-rest.invariant.shorter))
          (AddsEdges-then (length c.args.piece.now - length c.loop-rest.rest.now) 1 _ _ _ _ _ _ c.loop-rest.invariant.adds c.in_ok-used.ensures.adds);
      feeds = λ start names text front f. c.in_ok-used.ensures.ok start names text front (c.loop-rest.invariant.feeds start names text front f);
    }

pub returns-in_err-used-clause-fault : goal.returns-in_err-used-clause-fault
returns-in_err-used-clause-fault c =
    let p = err_from_is_err_and c.from_residual.result c.from_residual.ensures.1 in
    rw (p.1, p.2)
    (λ line kind told start names text front f.
    c.in_err-used.ensures.fault line kind told start names (text ++ c.args.piece.now) front (c.loop-rest.invariant.feeds start names (text ++ c.args.piece.now) front (feeds_piece start names text c.args.self.now.held c.args.piece.now c.args.self.now.number c.args.self.now.place _ c.args.self.now.table f)))
