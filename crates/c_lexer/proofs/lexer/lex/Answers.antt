use Rattle.std.proofs.Common.{arith, inr}
use Rattle.c_lexer.proofs.TokenLemmas.{stands_at, moves_on, same_skipped, same_token, same_refused}
use Rattle.c_lexer.proofs.lexer.lex.Goals as goal
use Rattle.c_lexer.proofs.lexer.lex.Goals.{in-Skipped, in-Token+in_ok-push-in-Token}

pub overflow_add-end : goal.overflow_add-end
overflow_add-end c =
    let inside = c.loop-place-test.true in
    let s = stands_at c.args.bytes.now c.loop-place.place.at c.first_piece-piece.result inside c.first_piece-piece.ensures in
    omega (arith, s.within)

pub slice_bounds-behind-end : goal.slice_bounds-behind-end
slice_bounds-behind-end c =
    let inside = c.loop-place-test.true in
    let s = stands_at c.args.bytes.now c.loop-place.place.at c.first_piece-piece.result inside c.first_piece-piece.ensures in
    omega (arith, s.within)

pub returns-in-Refused : goal.returns-in-Refused
returns-in-Refused c =
    let inside = c.loop-place-test.true in
    let s = stands_at c.args.bytes.now c.loop-place.place.at c.first_piece-piece.result inside c.first_piece-piece.ensures in
    inr (same_refused _ c.loop-place.place _ _ c.in-Refused.kind inside s c.loop-place.invariant.same c.in-Refused.is)

pub loop-place-smaller : goal.loop-place-smaller
loop-place-smaller c =
    let inside = c.loop-place-test.true in
    let s = stands_at c.args.bytes.now c.loop-place.place.at c.first_piece-piece.result inside c.first_piece-piece.ensures in
    let e = c.behind-place.ensures in
    let m = moves_on c.args.bytes.now c.loop-place.place c.first_piece-piece.result c.behind-place.result s e.place e.at e.line e.column in
    omega (arith, s.some, s.within, m.at)

pub loop-place-preserved : goal.loop-place-preserved
loop-place-preserved c =
    let inside = c.loop-place-test.true in
    let s = stands_at c.args.bytes.now c.loop-place.place.at c.first_piece-piece.result inside c.first_piece-piece.ensures in
    let e = c.behind-place.ensures in
    let m = moves_on c.args.bytes.now c.loop-place.place c.first_piece-piece.result c.behind-place.result s e.place e.at e.line e.column in
    record {
      within = omega (arith, s.within, m.at);
      line = omega (arith, m.at, m.line, c.loop-place.invariant.line);
      column = omega (arith, m.at, m.column, c.loop-place.invariant.column);
      same = elim c.match-piece.branch [
        | in-Skipped w ↦ rw w.tokens-is (same_skipped _ c.loop-place.place _ _ _ inside s m c.loop-place.invariant.same w.in-Skipped.is)
        | in-Token+in_ok-push-in-Token w ↦ rw (w.tokens-is, w.in_ok-push-in-Token.ensures) (same_token _ c.loop-place.place _ _ _ w.in-Token.kind inside s m c.loop-place.invariant.same w.in-Token.is)
      ];
    }
