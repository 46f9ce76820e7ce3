use Rattle.std.proofs.Common.{◌≡◌, ◌≤◌, length, drop}
use Rattle.command_words.specs.CutWords.{any, cut_from, whole}
use Rattle.command_words.proofs.cut_words.cut_words.Given as goal

abbrev pub invariant-loop-i : goal.invariant-loop-i
invariant-loop-i l = record { all : whole l.cutter (drop l.i l.words) ≡ cut_from (drop 1 l.words) any; within : l.i ≤ length l.words }
