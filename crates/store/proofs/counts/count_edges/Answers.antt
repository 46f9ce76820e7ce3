use Rattle.std.proofs.Common.{◌++◌, ◌∙◌, List, subst, arith}
use Rattle.std.proofs.lemmas.List.{take_all}
use Rattle.graph_words.specs.declared.types.Born.{Born as ABorn}
use Rattle.dest_map.specs.Counts.{IsCountsOf}
use Rattle.dest_map.specs.Table.{counts_of}
use Rattle.store.proofs.CountLemmas.{counted_more, raised_few, raised_other}
use Rattle.store.proofs.counts.count_edges.Goals as goal

pub loop-born-preserved : goal.loop-born-preserved
loop-born-preserved c =
    let inv = c.loop-born.invariant in
    let i = c.args.i in
    let k = c.loop-born.born-index in
    record {
      size = c.add.ensures.size ∙ inv.size;
      few = λ j. raised_few _ (counts_of c.loop-born.map i j) (counts_of c.add.new.self i j) k (c.add.ensures.entries i j) (inv.few j);
      others = λ a b apart. raised_other a i _ (counts_of c.loop-born.map a b) (counts_of c.add.new.self a b) apart (c.add.ensures.entries a b) ∙ inv.others a b apart;
      counts = λ before is. counted_more c.args.intervals.now before c.args.edges.now c.args.i c.find.result c.loop-born.born-index _ c.loop-born.map c.add.new.self c.requires.cut c.requires.each c.loop-born-test.true c.find.ensures.lies c.add.ensures.counts (inv.counts before is);
    }

pub returns-clause-counts : goal.returns-clause-counts
returns-clause-counts c = λ before is.
    subst (λ (l : List ABorn). IsCountsOf c.args.intervals.now (before ++ l) c.loop-born.map) (take_all c.loop-born.born-index c.args.edges.now (omega (arith, c.loop-born-test.false))) (c.loop-born.invariant.counts before is)
