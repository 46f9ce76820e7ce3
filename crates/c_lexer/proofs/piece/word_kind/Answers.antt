use Rattle.std.proofs.Common.{rules, ◌≡◌, arith, codes}
use Rattle.std.proofs.lemmas.Slice.Eq.{text_from_reads}
use Rattle.c_lexer.proofs.piece.word_kind.Goals as goal

pub returns-in-return : goal.returns-in-return
returns-in-return c =
    let e : c.args.word.now ≡ codes "return" = text_from_reads _ _ (omega arith) (search rules) in
    rw e

pub returns-in-malloc : goal.returns-in-malloc
returns-in-malloc c =
    let e : c.args.word.now ≡ codes "malloc" = text_from_reads _ _ (omega arith) (search rules) in
    rw e
