use Rattle.std.proofs.Common.{rules}
use Rattle.std.proofs.lemmas.Fn.{filter_same}
use Rattle.row_table.proofs.BlockLemmas.{kept_known, same_truth}
use Rattle.row_table.proofs.blocks.keep_known.Goals as goal

pub returns : goal.returns
returns c = kept_known c.args.labels.now.items _ c.args.known.now (filter_same _ _ _ (λ x b f' k. search (same_truth, rules)) _ _ c.retain.ensures.filtered)
