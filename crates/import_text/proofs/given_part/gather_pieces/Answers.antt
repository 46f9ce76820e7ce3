use Rattle.std.proofs.Common.{◌≡◌, List, ℕ, [], ◌++◌, take, sym, ap, ◌∙◌, refl, arith, length-take-le, subst, Some, None}
use Rattle.std.specs.Prelude.{IsTrue}
use Rattle.edge_text.specs.EdgesText.{edges_fault}
use Rattle.edge_text.proofs.FeedLemmas.{reads_fault, reads_all}
use Rattle.disk_model.specs.Disk.{Contents, ReadsBytes}
use Rattle.normal_law.specs.NormalForm.{normal_form}
use Rattle.disk_model.proofs.Looks.{looks_same, looks_then}
use Rattle.import_text.proofs.ReadLemmas.{copy_cause, gives_from_reads, gathering_start, gathering_on, gathering_ends}
use Rattle.import_text.proofs.given_part.gather_pieces.Goals as goal

pub loop-n-init : goal.loop-n-init
loop-n-init g c =
    record {
      is_open = c.requires.new.1;
      place = c.requires.new.0;
      short = omega arith;
      names = c.requires.names;
      looks = looks_same;
      gathering = ([], [], gathering_start (normal_form c.args.normal.now) _ c.args.gathering.now c.requires.new.0);
    }

pub returns-in-Err-clause-cause : goal.returns-in-Err-clause-cause
returns-in-Err-clause-cause g c =
    rw c.copy_fault.ensures
    (copy_cause _ _ c.args.file c.in-Err.fault c.in-Err.ensures.text (λ line kind is tells names fed whole.
    let gathering = c.loop-n.invariant.gathering in
    let found =
    reads_fault (λ f. IsTrue g.D.Disk.tells × (f ≡ g.D.Disk.seen c.args.disk.now c.args.file)) c.args.gathering.now.reader c.loop-n.gathering.reader gathering.0 c.loop-n.place c.loop-n.invariant.place c.read.new.buf c.in_ok-n.n gathering.1
    (λ f t. gives_from_reads f c.loop-n.place c.read.new.buf c.in_ok-n.n (subst (λ (b : List ℕ). ReadsBytes b c.loop-n.place c.read.new.buf c.in_ok-n.n) (ap (λ (s : Contents). s c.args.file) c.loop-n.invariant.looks.same_seen ∙ sym t.1) (c.in_ok-n.ensures.bytes t.0)))
    gathering.2.read names (Some (record { line = line; kind = kind })) (c.in-Err.ensures.fault line kind is names gathering.0 gathering.1 (gathering.2.read.feeds names fed)) (g.D.Disk.seen c.args.disk.now c.args.file) (tells, refl) in
    let apart : None ≡ Some (record { line = line; kind = kind }) = sym whole ∙ found in
    absurd (cc)))

pub loop-n-preserved : goal.loop-n-preserved
loop-n-preserved g c =
    let t = c.in_default.ensures.taken in
    let read = length-take-le c.in_ok-n.n c.read.new.buf c.in_ok-n.ensures.count in
    let gathering = c.loop-n.invariant.gathering in
    record {
      is_open = t.is_open;
      place = omega (arith, t.place, read, c.loop-n.invariant.place);
      short = omega (arith, t.place, read, c.loop-n.invariant.place, t.short (omega (arith, c.loop-n.invariant.place, c.loop-n.invariant.short)));
      names = t.names;
      looks = looks_then c.loop-n.invariant.looks (record { same_seen = c.read.ensures.seen; no_more = c.read.ensures.crash; no_less = c.read.ensures.same; past = c.read.ensures.past; time = c.read.ensures.time; later = c.read.ensures.cause.later });
      gathering = (
        gathering.0 ++ take c.in_ok-n.n c.read.new.buf,
        gathering.1 ++ t.found,
        gathering_on (normal_form c.args.normal.now) (λ f. IsTrue g.D.Disk.tells × (f ≡ g.D.Disk.seen c.args.disk.now c.args.file)) c.args.gathering.now c.loop-n.gathering c.take.new.self gathering.0 gathering.1 c.loop-n.place c.in_ok-n.n c.read.new.buf c.loop-n.invariant.place
            (λ f t. gives_from_reads f c.loop-n.place c.read.new.buf c.in_ok-n.n (subst (λ (b : List ℕ). ReadsBytes b c.loop-n.place c.read.new.buf c.in_ok-n.n) (ap (λ (s : Contents). s c.args.file) c.loop-n.invariant.looks.same_seen ∙ sym t.1) (c.in_ok-n.ensures.bytes t.0)))
            c.in_ok-n.ensures.count gathering.2 t,
      );
    }

pub returns-in-Err-finish-clause-cause : goal.returns-in-Err-finish-clause-cause
returns-in-Err-finish-clause-cause g c =
    rw c.copy_fault-in-Err-finish.ensures
    (copy_cause _ _ c.args.file c.in-Err-finish.fault c.in-Err-finish.ensures.text (λ line kind is tells names fed whole.
    let gathering = c.loop-n.invariant.gathering in
    let all =
    reads_all (λ f. IsTrue g.D.Disk.tells × (f ≡ g.D.Disk.seen c.args.disk.now c.args.file)) c.args.gathering.now.reader c.loop-n.gathering.reader gathering.0 c.loop-n.place c.loop-n.invariant.place c.read.new.buf c.in_ok-n.n gathering.1
    (λ f t. gives_from_reads f c.loop-n.place c.read.new.buf c.in_ok-n.n (subst (λ (b : List ℕ). ReadsBytes b c.loop-n.place c.read.new.buf c.in_ok-n.n) (ap (λ (s : Contents). s c.args.file) c.loop-n.invariant.looks.same_seen ∙ sym t.1) (c.in_ok-n.ensures.bytes t.0)))
    gathering.2.read
    (omega (arith, c.read.auto.buf, c.loop-n.auto.piece, c.requires.some)) c.if-n-eq0.true (g.D.Disk.seen c.args.disk.now c.args.file) (tells, refl) in
    let found = c.in-Err-finish.ensures.fault line kind is names gathering.0 gathering.1 (gathering.2.read.feeds names fed) in
    let apart : None ≡ Some (record { line = line; kind = kind }) = sym whole ∙ sym (ap (edges_fault 0 names) all) ∙ found in
    absurd (cc)))

pub returns-clause-gathered : goal.returns-clause-gathered
returns-clause-gathered g c =
    λ names fed.
    let gathering = c.loop-n.invariant.gathering in
    gathering_ends (normal_form c.args.normal.now) names _ _ c.args.gathering.now c.loop-n.gathering c.finish.new.self gathering.0 gathering.1 c.loop-n.place c.loop-n.invariant.place gathering.2
    (reads_all (λ f. IsTrue g.D.Disk.tells × (f ≡ g.D.Disk.seen c.args.disk.now c.args.file)) c.args.gathering.now.reader c.loop-n.gathering.reader gathering.0 c.loop-n.place c.loop-n.invariant.place c.read.new.buf c.in_ok-n.n gathering.1
    (λ f t. gives_from_reads f c.loop-n.place c.read.new.buf c.in_ok-n.n (subst (λ (b : List ℕ). ReadsBytes b c.loop-n.place c.read.new.buf c.in_ok-n.n) (ap (λ (s : Contents). s c.args.file) c.loop-n.invariant.looks.same_seen ∙ sym t.1) (c.in_ok-n.ensures.bytes t.0)))
    gathering.2.read
    (omega (arith, c.read.auto.buf, c.loop-n.auto.piece, c.requires.some)) c.if-n-eq0.true)
    c.in_default-finish.ensures.taken fed
