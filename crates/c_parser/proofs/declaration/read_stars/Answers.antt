use Rattle.std.proofs.Common.{◌≡◌, ◌+◌, [], arith, Some}
use Rattle.c_lexer.specs.declared.token.TokenKind.TheVariants as k
use Rattle.c_tree.specs.Tokens.{source, kind_at}
use Rattle.c_tree.proofs.Places.{from_more}
use Rattle.c_tree.proofs.Choices.{not_from_false}
use Rattle.c_parser.proofs.Vars.{stars_started, stars_counted, stars_ended}
use Rattle.c_parser.proofs.declaration.read_stars.Goals as goal

pub loop-count-init : goal.loop-count-init
loop-count-init c = record { inside = omega arith; reads = λ bytes room m n r. stars_started (source bytes c.args.tokens.now) c.args.at room m n r }

pub loop-count-preserved : goal.loop-count-preserved
loop-count-preserved c =
    let star : kind_at c.args.tokens.now (c.args.at + c.loop-count.count) ≡ Some k.Star = c.is_at.ensures.0 c.loop-count-test.true in
    let more = (from_more (source [] c.args.tokens.now) (c.args.at + c.loop-count.count) k.Star star).1 in
    record {
      inside = omega arith;
      reads = λ bytes room m n r. stars_counted (source bytes c.args.tokens.now) c.args.at room c.loop-count.count m n star (λ m n t. c.loop-count.invariant.reads bytes room m n t) r;
    }

pub returns : goal.returns
returns c =
    λ bytes room. stars_ended (source bytes c.args.tokens.now) c.args.at room c.loop-count.count c.loop-count.invariant.inside
    (λ h. not_from_false (kind_at c.args.tokens.now (c.args.at + c.loop-count.count) ≡ Some k.Star) c.is_at.result c.is_at.ensures c.loop-count-test.false h)
    (λ m n t. c.loop-count.invariant.reads bytes room m n t)
