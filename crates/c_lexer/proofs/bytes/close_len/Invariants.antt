use Rattle.std.proofs.Common.{◌≡◌, ◌+◌, length}
use Rattle.std.specs.Option.{option_map}
use Rattle.c_lexer.specs.Pieces.{past_close}
use Rattle.c_lexer.proofs.bytes.close_len.Given as goal

abbrev pub invariant-loop-rest : goal.invariant-loop-rest
invariant-loop-rest l = record { place : l.seen + length l.rest ≡ length l.text; close : past_close l.text ≡ option_map (λ n. n + l.seen) (past_close l.rest) }

abbrev pub decreases-loop-rest : goal.decreases-loop-rest
decreases-loop-rest l = length l.rest
