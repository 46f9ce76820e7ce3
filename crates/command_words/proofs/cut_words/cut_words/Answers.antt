use Rattle.std.proofs.Common.{◌∙◌, drop, arith, ap}
use Rattle.command_words.specs.CutWords.{any, cut_from, whole}
use Rattle.command_words.proofs.CutLemmas.{behind_nothing}
use Rattle.command_words.proofs.cut_words.cut_words.Goals as goal

pub loop-i-init : goal.loop-i-init
loop-i-init c = record {
  all = ap (λ k. whole k (drop 1 c.args.words.now)) c.new-cutter.ensures ∙ behind_nothing (cut_from (drop 1 c.args.words.now) any);
  within = omega arith;
}
