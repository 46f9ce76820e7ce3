use Rattle.std.proofs.Common.{◌≡◌, ap}
use Rattle.std.proofs.lemmas.List.Elements.{All-weaker}
use Rattle.graph_words.specs.declared.types.Vertex.{Vertex}
use Rattle.graph_words.specs.declared.types.Born.{Born}
use Rattle.row_table.proofs.BlockLemmas.{row_labels}
use Rattle.row_table.proofs.JoinLemmas.{label_joins}
use Rattle.row_table.proofs.SieveLemmas.{run_marks}
use Rattle.row_table.proofs.sieve.Sieve.join_label.Goals as goal

pub run_of-run-requires : goal.run_of-run-requires
run_of-run-requires c = row_labels c.args.vertex.0 c.args.row.now c.requires.order (All-weaker (λ (b : Born). b.edge.src ≡ c.args.vertex) (λ (b : Born). b.edge.src.0 ≡ c.args.vertex.0) (λ b e. ap (λ (v : Vertex). v.0) e) c.args.row.now c.requires.source)

pub returns : goal.returns
returns c =
    record {
      new = _;
      behind = rw c.deref.ensures.value at c.in_ok-push_edges.ensures;
      are = label_joins c.args.row.now c.args.vertex c.args.blocks.now c.args.label c.requires.source _ _ _ _ _ c.clear.ensures (run_marks c.args.row.now c.run_of-run.result.now c.args.label _ _ c.run_of-run.ensures c.in_ok-mark_run.ensures) (rw c.clear-2.ensures.items at c.in_ok-sift_blocks.ensures) c.sort_unstable.ensures.permutation c.sort_unstable.ensures.sorted;
    }
