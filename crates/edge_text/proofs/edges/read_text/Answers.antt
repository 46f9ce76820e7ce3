use Rattle.std.proofs.Common.{◌≡◌, Some, [], ◌++◌, take, sym, ap, ◌∙◌, refl, arith, length-take-le}
use Rattle.std.proofs.lemmas.Result.{err_from_is_err_and}
use Rattle.io_edge.proofs.DeviceLemmas.{Rose-later}
use Rattle.edge_text.proofs.FeedLemmas.{reads_start, reads_on, reads_fault, reads_all}
use Rattle.edge_text.specs.EdgesText.{edges_fault}
use Rattle.edge_text.proofs.edges.read_text.Goals as goal

pub loop-edges-init : goal.loop-edges-init
loop-edges-init g c =
    record {
      is_open = c.requires.new.1;
      place = c.requires.new.0;
      short = omega arith;
      kept = refl;
      count = λ k. omega arith;
      reads = ([], reads_start _ c.args.reader.now c.new-edges.result.items c.requires.new.0 c.new-edges.ensures.items);
    }

pub returns-in_err-n-clause-failed : goal.returns-in_err-n-clause-failed
returns-in_err-n-clause-failed g c =
    let p = err_from_is_err_and c.from_residual.result c.from_residual.ensures.1 in
    rw (p.1, p.2) (λ e. Rose-later _ _ _ (c.loop-edges.invariant.count c.args.name.now) c.in_err-n.ensures.cause.failed)

pub loop-edges-preserved : goal.loop-edges-preserved
loop-edges-preserved g c =
    let there = c.in_ok-feed.ensures.place in
    let read = length-take-le c.in_ok-n.n c.read.new.buf c.in_ok-n.ensures.count in
    record {
      is_open = c.in_ok-feed.ensures.open;
      place = omega (arith, there, read, c.loop-edges.invariant.place);
      short = omega (arith, there, read, c.loop-edges.invariant.place, c.in_ok-feed.ensures.short (omega (arith, c.loop-edges.invariant.place, c.loop-edges.invariant.short)));
      kept = c.in_ok-n.ensures.kept ∙ c.loop-edges.invariant.kept;
      count = λ k. let one = c.loop-edges.invariant.count k in let two = c.in_ok-n.ensures.others k in omega arith;
      reads = (
        c.loop-edges.invariant.reads.0 ++ take c.in_ok-n.n c.read.new.buf,
        reads_on (λ file. g.I.Inputs.told c.args.inputs.now c.args.name.now ≡ Some file) c.args.reader.now c.loop-edges.reader c.loop-edges.invariant.reads.0 c.loop-edges.place c.loop-edges.invariant.place c.read.new.buf c.in_ok-n.n c.loop-edges.edges.items
            (λ file t. c.in_ok-n.ensures.bytes file (ap (λ f. f c.args.name.now) c.loop-edges.invariant.kept ∙ t))
            c.loop-edges.invariant.reads.1 c.feed.new.self c.feed.new.edges.items c.in_ok-n.ensures.count there (λ names. c.in_ok-feed.ensures.ok 0 names c.loop-edges.invariant.reads.0 []),
      );
    }

pub returns-in_err-feed-clause-fault : goal.returns-in_err-feed-clause-fault
returns-in_err-feed-clause-fault g c =
    let p = err_from_is_err_and c.from_residual-in_err-feed.result c.from_residual-in_err-feed.ensures.1 in
    rw (p.1, p.2)
    (λ line kind file names e t s.
    reads_fault (λ file. g.I.Inputs.told c.args.inputs.now c.args.name.now ≡ Some file) c.args.reader.now c.loop-edges.reader c.loop-edges.invariant.reads.0 c.loop-edges.place c.loop-edges.invariant.place c.read.new.buf c.in_ok-n.n c.loop-edges.edges.items
    (λ file t. c.in_ok-n.ensures.bytes file (ap (λ f. f c.args.name.now) c.loop-edges.invariant.kept ∙ t))
    c.loop-edges.invariant.reads.1 names _ (c.in_err-feed.ensures.fault line kind e 0 names c.loop-edges.invariant.reads.0 [] (c.loop-edges.invariant.reads.1.feeds names s)) file t)

pub returns-in_err-feed-clause-failed : goal.returns-in_err-feed-clause-failed
returns-in_err-feed-clause-failed g c =
    let p = err_from_is_err_and c.from_residual-in_err-feed.result c.from_residual-in_err-feed.ensures.1 in
    rw (p.1, p.2) (λ e. absurd (c.in_err-feed.ensures.text e))

pub returns-in_err-finish-clause-fault : goal.returns-in_err-finish-clause-fault
returns-in_err-finish-clause-fault g c =
    let p = err_from_is_err_and c.from_residual-in_err-finish.result c.from_residual-in_err-finish.ensures.1 in
    rw (p.1, p.2)
    (λ line kind file names e t s.
    let r = c.loop-edges.invariant.reads.1 in
    let all =
    reads_all (λ file. g.I.Inputs.told c.args.inputs.now c.args.name.now ≡ Some file) c.args.reader.now c.loop-edges.reader c.loop-edges.invariant.reads.0 c.loop-edges.place c.loop-edges.invariant.place c.read.new.buf c.in_ok-n.n c.loop-edges.edges.items
    (λ file t. c.in_ok-n.ensures.bytes file (ap (λ f. f c.args.name.now) c.loop-edges.invariant.kept ∙ t))
    r
    (omega (arith, c.read.auto.buf, c.loop-edges.auto.piece, c.requires.some)) c.if-n-eq0.true file t in
    sym (ap (edges_fault 0 names) all) ∙ c.in_err-finish.ensures.fault line kind e 0 names c.loop-edges.invariant.reads.0 [] (r.feeds names s))

pub returns-in_err-finish-clause-failed : goal.returns-in_err-finish-clause-failed
returns-in_err-finish-clause-failed g c =
    let p = err_from_is_err_and c.from_residual-in_err-finish.result c.from_residual-in_err-finish.ensures.1 in
    rw (p.1, p.2) (λ e. absurd (c.in_err-finish.ensures.text e))

pub returns-clause-edges : goal.returns-clause-edges
returns-clause-edges g c =
    λ names s.
    let r = c.loop-edges.invariant.reads.1 in
    rw c.from_vec.ensures
    (record {
      text = c.loop-edges.invariant.reads.0;
      reads = c.in_ok-finish.ensures.ok 0 names c.loop-edges.invariant.reads.0 [] (r.feeds names s);
      is_file =
          reads_all (λ file. g.I.Inputs.told c.args.inputs.now c.args.name.now ≡ Some file) c.args.reader.now c.loop-edges.reader c.loop-edges.invariant.reads.0 c.loop-edges.place c.loop-edges.invariant.place c.read.new.buf c.in_ok-n.n c.loop-edges.edges.items
          (λ file t. c.in_ok-n.ensures.bytes file (ap (λ f. f c.args.name.now) c.loop-edges.invariant.kept ∙ t))
          r
          (omega (arith, c.read.auto.buf, c.loop-edges.auto.piece, c.requires.some)) c.if-n-eq0.true;
    })
