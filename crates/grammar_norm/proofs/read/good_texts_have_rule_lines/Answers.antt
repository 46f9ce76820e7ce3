use Rattle.grammar_norm.proofs.LineLaws.{lines_say_rules}
use Rattle.grammar_norm.proofs.read.good_texts_have_rule_lines.Goals as goal

pub returns : goal.returns
returns c = lines_say_rules
