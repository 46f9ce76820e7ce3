use Rattle.std.proofs.Common.{◌≡◌, ◌+◌, ◌-◌, ◌≤◌, length, drop}
use Rattle.c_lexer.specs.Tokens.{tokens_of, tokens_behind}
use Rattle.c_lexer.proofs.TokenLemmas.{before}
use Rattle.c_lexer.proofs.lexer.lex.Given as goal

abbrev pub invariant-loop-place : goal.invariant-loop-place
invariant-loop-place l = record {
  within : l.place.at ≤ length l.bytes;
  line : l.place.line ≤ l.place.at + 1;
  column : l.place.column ≤ l.place.at + 1;
  same : tokens_of l.bytes ≡ before l.tokens.items (tokens_behind 0 l.place (drop l.place.at l.bytes));
}

abbrev pub decreases-loop-place : goal.decreases-loop-place
decreases-loop-place l = length l.bytes - l.place.at
