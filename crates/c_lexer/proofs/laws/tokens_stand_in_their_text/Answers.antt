use Rattle.c_lexer.proofs.TokenLemmas.{tokens_stand_in}
use Rattle.c_lexer.proofs.laws.tokens_stand_in_their_text.Goals as goal

pub returns : goal.returns
returns c = tokens_stand_in
