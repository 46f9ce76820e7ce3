use Rattle.store_law.proofs.Joined.{joined_from_turns, turns_from_joined}
use Rattle.store_law.proofs.joined_texts_are_good_in_turn.Goals as goal

pub returns : goal.returns
returns c = λ names files. (joined_from_turns names files, turns_from_joined names files)
