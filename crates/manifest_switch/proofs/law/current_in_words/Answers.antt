use Rattle.manifest_switch.proofs.LawLemmas.{blank_iff, alone_law, later_law, equal_law, first_law, second_law}
use Rattle.manifest_switch.proofs.law.current_in_words.Goals as goal

pub returns-clause-blank : goal.returns-clause-blank
returns-clause-blank c = blank_iff

pub returns-clause-alone : goal.returns-clause-alone
returns-clause-alone c = alone_law

pub returns-clause-later : goal.returns-clause-later
returns-clause-later c = later_law

pub returns-clause-equal : goal.returns-clause-equal
returns-clause-equal c = equal_law

pub returns-clause-first_bad : goal.returns-clause-first_bad
returns-clause-first_bad c = first_law

pub returns-clause-second_bad : goal.returns-clause-second_bad
returns-clause-second_bad c = second_law
