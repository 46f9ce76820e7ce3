use Rattle.std.proofs.Common.{List, ◌++◌, take, get_or, arith, refl, subst}
use Rattle.graph_words.specs.declared.types.Born.{Born}
use Rattle.query_text.specs.Shown.{AreTallied}
use Rattle.query_text.proofs.Counts.{edges_all, edges_more}
use Rattle.query_text.proofs.Showing.{no_born}
use Rattle.query_text.proofs.label_counts.count_edges.Goals as goal

pub loop-born-preserved : goal.loop-born-preserved
loop-born-preserved c =
    let edges = c.args.edges.now in
    let i = c.loop-born.born-index in
    record {
      room = λ k. omega (arith, c.loop-born.invariant.room k, c.count_label.ensures.little k);
      tallied = λ named before t. subst (λ (l : List Born). AreTallied named l c.count_label.new.counts.items) (edges_more before edges i no_born c.loop-born-test.true) (c.count_label.ensures.tallied named (before ++ take i edges) (get_or edges i no_born) refl (c.loop-born.invariant.tallied named before t));
    }

pub returns : goal.returns
returns c = λ named before t.
    subst (λ (l : List Born). AreTallied named l c.loop-born.counts.items) (edges_all before c.args.edges.now c.loop-born.born-index c.loop-born-test.false) (c.loop-born.invariant.tallied named before t)
