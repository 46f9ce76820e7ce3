use Rattle.c_tree.specs.Tokens.{source}
use Rattle.c_parser.proofs.Programs.{whole_program, whole_handed}
use Rattle.c_parser.proofs.program.parse.Goals as goal

pub returns-clause-program : goal.returns-clause-program
returns-clause-program c = whole_program (source c.args.bytes.now c.args.tokens.now) c.in_ok-items.items c.in_ok-items.ensures

pub returns-in_err-items-clause-fault : goal.returns-in_err-items-clause-fault
returns-in_err-items-clause-fault c = whole_handed (source c.args.bytes.now c.args.tokens.now) c.in_err-items.field-0.0 c.in_err-items.ensures c.from_residual.result c.from_residual.ensures.1
