use Rattle.std.proofs.Common.{Contains, arith}
use Rattle.std.proofs.lemmas.List.{get_or_default}
use Rattle.std.proofs.lemmas.List.Elements.{AllWithin-more, All-get_or, at_read}
use Rattle.command_words.specs.Command.{run_options}
use Rattle.command_words.specs.declared.cut_words.Given.{Given}
use Rattle.command_words.proofs.run_options.are_known.Goals as goal

abbrev Known : Given → Type 0
Known o = Contains run_options o.name.now

pub returns-then-not-is_run_option : goal.returns-then-not-is_run_option
returns-then-not-is_run_option c = (
  λ yes. cc,
  λ all.
      let known = c.is_run_option.ensures.1 (All-get_or Known c.args.options.now c.loop-option.option-index _ c.loop-option-test.true all) in
      let unknown = c.if-not-is_run_option.true in
      cc,
)

pub loop-option-preserved : goal.loop-option-preserved
loop-option-preserved c =
    AllWithin-more Known c.args.options.now 0 c.loop-option.option-index c.loop-option.invariant
    (λ d. at_read c.args.options.now Known c.loop-option.option-index _ c.loop-option-test.true (get_or_default c.args.options.now c.loop-option.option-index _ _ c.loop-option-test.true) (c.is_run_option.ensures.0 c.if-not-is_run_option.false) d)

pub returns : goal.returns
returns c = (
  λ yes k d within. let past = c.loop-option-test.false in c.loop-option.invariant k d (omega arith) (omega arith),
  λ all. cc,
)
