use Rattle.std.proofs.Common.{◌≡◌, [], ◌++◌, take, sym, ap, ◌∙◌, refl, arith, length, length-take-le, Some}
use Rattle.std.proofs.lemmas.Result.{err_from_is_err_and}
use Rattle.edge_text.specs.EdgesText.{edges_fault}
use Rattle.edge_text.proofs.FeedLemmas.{reads_fault, reads_all}
use Rattle.disk_model.specs.Disk.{TornIn}
use Rattle.disk_model.specs.Run.{no_step, then_call}
use Rattle.disk_model.specs.OneFile.{OnlyFile, only_refl, only_torn, only_trans}
use Rattle.import_text.proofs.CopyLemmas.{copying_start, copying_on, copying_ends, reader_cause}
use Rattle.import_text.proofs.copy.copy_pieces.Goals as goal

pub loop-n-init : goal.loop-n-init
loop-n-init g c =
    record {
      is_open = c.requires.new.1;
      place = c.requires.new.0;
      short = omega arith;
      kept = refl;
      count = λ k. omega arith;
      later = omega arith;
      run = no_step g.D.Disk.moment g.D.Disk.left_since g.D.Disk.may_leave g.met.D.Disk.counts_now g.met.D.Disk.only_now c.args.disk.now (OnlyFile c.args.file) (only_refl c.args.file);
      copying = ([], [], copying_start _ _ c.args.file c.args.tally.now _ c.requires.new.0 c.requires.new.2 c.requires.empty);
    }

pub returns-in_err-write_at-clause-any_moment : goal.returns-in_err-write_at-clause-any_moment
returns-in_err-write_at-clause-any_moment g c =
    let D = g.D.Disk in
    let L = g.met.D.Disk in
    then_call D.moment D.left_since D.may_leave L.counts_now L.only_now c.args.disk.now c.loop-n.disk c.write_at.new.self (OnlyFile c.args.file) (TornIn c.args.file c.loop-n.place (length (take c.in_ok-n.n c.read.new.buf))) c.loop-n.invariant.run c.write_at.ensures.time c.write_at.ensures.crash
    (λ d m x only torn. only_trans c.args.file d m x only (only_torn c.args.file c.loop-n.place (length (take c.in_ok-n.n c.read.new.buf)) m x torn))

pub returns-in_err-take-clause-any_moment : goal.returns-in_err-take-clause-any_moment
returns-in_err-take-clause-any_moment g c =
    let D = g.D.Disk in
    let L = g.met.D.Disk in
    then_call D.moment D.left_since D.may_leave L.counts_now L.only_now c.args.disk.now c.loop-n.disk c.write_at.new.self (OnlyFile c.args.file) (TornIn c.args.file c.loop-n.place (length (take c.in_ok-n.n c.read.new.buf))) c.loop-n.invariant.run c.write_at.ensures.time c.write_at.ensures.crash
    (λ d m x only torn. only_trans c.args.file d m x only (only_torn c.args.file c.loop-n.place (length (take c.in_ok-n.n c.read.new.buf)) m x torn))

pub returns-in_err-take-clause-cause : goal.returns-in_err-take-clause-cause
returns-in_err-take-clause-cause g c =
    let p = err_from_is_err_and c.from_residual-in_err-take.result c.from_residual-in_err-take.ensures.1 in
    rw (p.1, p.2)
    (reader_cause _ _ _ _ _ c.in_err-take.ensures.text
    (λ line kind e file names t s.
    let copying = c.loop-n.invariant.copying in
    reads_fault (λ f. g.I.Inputs.told c.args.inputs.now c.args.name.now ≡ Some f) c.args.tally.now.reader c.loop-n.tally.reader copying.0 c.loop-n.place c.loop-n.invariant.place c.read.new.buf c.in_ok-n.n copying.1
    (λ f t. c.in_ok-n.ensures.bytes f (ap (λ h. h c.args.name.now) c.loop-n.invariant.kept ∙ t))
    copying.2.read names _ (c.in_err-take.ensures.fault line kind e names copying.0 copying.1 (copying.2.read.feeds names s)) file t))

pub loop-n-preserved : goal.loop-n-preserved
loop-n-preserved g c =
    let t = c.in_ok-take.ensures.taken in
    let read = length-take-le c.in_ok-n.n c.read.new.buf c.in_ok-n.ensures.count in
    let copying = c.loop-n.invariant.copying in
    record {
      is_open = t.is_open;
      place = omega (arith, t.place, read, c.loop-n.invariant.place);
      short = omega (arith, t.place, read, c.loop-n.invariant.place, t.short (omega (arith, c.loop-n.invariant.place, c.loop-n.invariant.short)));
      kept = c.in_ok-n.ensures.kept ∙ c.loop-n.invariant.kept;
      count = λ k. let one = c.loop-n.invariant.count k in let two = c.in_ok-n.ensures.others k in omega arith;
      later = omega (arith, c.loop-n.invariant.later, c.in_ok-write_at.ensures.cause.later);
      run =
          let D = g.D.Disk in
          let L = g.met.D.Disk in
          then_call D.moment D.left_since D.may_leave L.counts_now L.only_now c.args.disk.now c.loop-n.disk c.write_at.new.self (OnlyFile c.args.file) (TornIn c.args.file c.loop-n.place (length (take c.in_ok-n.n c.read.new.buf))) c.loop-n.invariant.run c.write_at.ensures.time c.write_at.ensures.crash
          (λ d m x only torn. only_trans c.args.file d m x only (only_torn c.args.file c.loop-n.place (length (take c.in_ok-n.n c.read.new.buf)) m x torn));
      copying = (
        copying.0 ++ take c.in_ok-n.n c.read.new.buf,
        copying.1 ++ t.added,
        copying_on (λ f. g.I.Inputs.told c.args.inputs.now c.args.name.now ≡ Some f) _ c.args.file c.args.tally.now c.loop-n.tally c.take.new.self _ _ _ copying.0 copying.1 c.loop-n.place c.in_ok-n.n c.read.new.buf c.loop-n.invariant.place
            (λ f t. c.in_ok-n.ensures.bytes f (ap (λ h. h c.args.name.now) c.loop-n.invariant.kept ∙ t))
            c.in_ok-n.ensures.count copying.2 c.in_ok-write_at.ensures.written t,
      );
    }

pub returns-in_err-finish-clause-cause : goal.returns-in_err-finish-clause-cause
returns-in_err-finish-clause-cause g c =
    let p = err_from_is_err_and c.from_residual-in_err-finish.result c.from_residual-in_err-finish.ensures.1 in
    rw (p.1, p.2)
    (reader_cause _ _ _ _ _ c.in_err-finish.ensures.text
    (λ line kind e file names t s.
    let copying = c.loop-n.invariant.copying in
    let all =
    reads_all (λ f. g.I.Inputs.told c.args.inputs.now c.args.name.now ≡ Some f) c.args.tally.now.reader c.loop-n.tally.reader copying.0 c.loop-n.place c.loop-n.invariant.place c.read.new.buf c.in_ok-n.n copying.1
    (λ f t. c.in_ok-n.ensures.bytes f (ap (λ h. h c.args.name.now) c.loop-n.invariant.kept ∙ t))
    copying.2.read
    (omega (arith, c.read.auto.buf, c.loop-n.auto.piece, c.requires.some)) c.if-n-eq0.true file t in
    sym (ap (edges_fault 0 names) all) ∙ c.in_err-finish.ensures.fault line kind e names copying.0 copying.1 (copying.2.read.feeds names s)))

pub returns-clause-copied : goal.returns-clause-copied
returns-clause-copied g c =
    λ names s.
    let copying = c.loop-n.invariant.copying in
    copying_ends names _ _ c.args.file c.args.tally.now c.loop-n.tally c.finish.new.self _ _ copying.0 copying.1 c.loop-n.place c.loop-n.invariant.place copying.2
    (reads_all (λ f. g.I.Inputs.told c.args.inputs.now c.args.name.now ≡ Some f) c.args.tally.now.reader c.loop-n.tally.reader copying.0 c.loop-n.place c.loop-n.invariant.place c.read.new.buf c.in_ok-n.n copying.1
    (λ f t. c.in_ok-n.ensures.bytes f (ap (λ h. h c.args.name.now) c.loop-n.invariant.kept ∙ t))
    copying.2.read
    (omega (arith, c.read.auto.buf, c.loop-n.auto.piece, c.requires.some)) c.if-n-eq0.true)
    c.in_ok-finish.ensures.taken s
