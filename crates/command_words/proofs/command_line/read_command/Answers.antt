use Rattle.std.proofs.Common.{rules, ◌≡◌, ◌<◌, length}
use Rattle.command_words.specs.declared.fault.WordsFault.TheVariants.{Words}
use Rattle.command_words.specs.Command.{Said, Reading}
use Rattle.std.proofs.lemmas.Result.{IfErr-weaker, IfOk-weaker}
use Rattle.clap.proofs.TakesLemmas.{passed_up}
use Rattle.command_words.proofs.ReadingLemmas.{reads, runs_within, says_of, uncut}
use Rattle.command_words.proofs.command_line.read_command.Goals as goal

pub returns-in_err-cut-clause-words : goal.returns-in_err-cut-clause-words
returns-in_err-cut-clause-words c =
    let refused : c.in_err-cut.field-0.0 ≡ Words → (command : Said) → Reading c.args.words.now command → ⊥ = λ e command r. uncut c.args.words.now command (c.in_err-cut.ensures.words e) r in
    passed_up c.from_residual.result c.in_err-cut.field-0.0 _ c.from_residual.ensures.1 refused

pub returns-clause-reading : goal.returns-clause-reading
returns-clause-reading c =
    let some : 0 < length c.args.words.now = search rules in
    IfOk-weaker c.read_named.result _ _ (λ command says. reads c.args.words.now _ c.in_ok-cut.cut _ some c.get.ensures (c.are_full.ensures.0 c.if-not-are_full.false) c.in_ok-cut.ensures.cut says) c.read_named.ensures.says

pub returns-clause-within : goal.returns-clause-within
returns-clause-within c = IfOk-weaker c.read_named.result _ _ (λ command says. runs_within _ c.in_ok-cut.cut.options c.in_ok-cut.cut.plain _ says) c.read_named.ensures.says

pub returns-clause-words : goal.returns-clause-words
returns-clause-words c =
    IfErr-weaker c.read_named.result _ _ (λ e no words command r. no words command (says_of c.args.words.now _ c.in_ok-cut.cut command c.get.ensures c.in_ok-cut.ensures.cut r)) c.read_named.ensures.words
