use Rattle.std.proofs.Common.{◌+◌, ◌∙◌}
use Rattle.normal_law.specs.NormalForm.{fresh_words}
use Rattle.normal_law.specs.Fresh.{fresh_before}
use Rattle.normal_law.proofs.Chains.{stands_for-fresh}
use Rattle.normal_law.proofs.FreshLemmas.{IsFreshOf-some, IsFreshOf-one, length-fresh_words, fresh_word_at, pairs_by_rule, own_fresh}
use Rattle.normal_law.proofs.fresh_labels_are_not_shared.Goals as goal

pub returns : goal.returns
returns c =
    record {
      some = IsFreshOf-some;
      one = IsFreshOf-one;
      count = length-fresh_words;
      stands = λ rules i k r e l. stands_for-fresh (fresh_words rules) (fresh_before rules i + k) ∙ fresh_word_at rules i k r e l;
      pairs = pairs_by_rule;
      own = own_fresh;
    }
