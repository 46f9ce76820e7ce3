use Rattle.std.proofs.Common.{◌≡◌, ◌<◌, ◌≤◌, ℕ, List, [], ◌++◌, length, refl, sym, ap, subst, ◌∙◌, arith, inl, inr}
use Rattle.std.specs.Global.{Vec}
use Rattle.std.specs.Prelude.{Bool, Ok, Err, IsTrue, Result}
use Rattle.store_law.specs.Listed.{part_file}
use Rattle.partition_file.specs.declared.types.Expect.{Expect}
use Rattle.partition_file.specs.Spelling.{first_break}
use Rattle.open_store.specs.Store.{OpenStore, expect_in}
use Rattle.open_store.specs.Stream.{IsAt}
use Rattle.graph_words.specs.declared.types.Born.{Born}
use Rattle.faults.specs.declared.form_kind.FormKind.{FormKind}
use Rattle.open_store.specs.Stream.{StreamEnds, IsTally}
use Rattle.open_store.specs.PartRead.{IsRefused, IsTold}
use Rattle.open_store.proofs.Causes.{handed, handed_other}
use Rattle.disk_model.proofs.Looks.{looks_then}
use Rattle.open_store.proofs.Parts.{ended_is_read, ended_is_refused}
use Rattle.open_store.proofs.Tallies.{ends_count}
use Rattle.open_store.proofs.store.Store.edges.Goals as goal

pub loop-edges-init : goal.loop-edges-init
loop-edges-init g c =
    let begun = c.in_ok-stream.ensures.begun in
    record {
      stream = begun.1;
      number = begun.0;
      at = ([], rw c.in_ok-edges.ensures.items begun.2);
      looks = c.in_ok-stream.ensures.looks;
    }

pub loop-edges-preserved : goal.loop-edges-preserved
loop-edges-preserved g c =
    let D = g.D.Disk in
    let inv = c.loop-edges.invariant in
    let more = c.in_ok-next.was ∙ ap (λ (b : Bool). Ok b) c.if-branch.true in
    let file = D.seen c.args.disk.now (part_file c.args.self.now.manifest c.args.i) in
    record {
      stream = c.next.ensures.stream more;
      number = c.next.ensures.file ∙ inv.number;
      at = c.next.ensures.more more (expect_in c.args.self.now c.args.i) file inv.at.0 [] (λ tells. (λ k. inv.looks.same_seen k (inv.number k))) inv.at.1;
      looks = looks_then inv.looks c.next.ensures.looks;
    }

pub returns-in_err-next-clause-cause : goal.returns-in_err-next-clause-cause
returns-in_err-next-clause-cause g c =
    let D = g.D.Disk in
    let inv = c.loop-edges.invariant in
    let s = c.args.self.now in
    let i = c.args.i in
    let file = D.seen c.args.disk.now (part_file s.manifest i) in
    handed (D.faults c.args.disk.now) (D.faults c.loop-edges.disk) (D.faults c.next.new.disk) _ _ c.next.result c.from_residual-in_err-next.result c.in_err-next.field-0.0 c.in_err-next.was c.from_residual-in_err-next.ensures.1 inv.looks.later
    (λ f p k blamed. (
      blamed.0 ∙ inv.number,
      λ tells. inl (ap (λ (x : ℕ). first_break (expect_in s i) (D.seen c.args.disk.now x)) (blamed.0 ∙ inv.number) ∙ blamed.1 tells (expect_in s i) file inv.at.0 [] (λ k. inv.looks.same_seen k (inv.number k)) inv.at.1),
    ))
    c.next.ensures.cause

pub check-requires-clause-row : goal.check-requires-clause-row
check-requires-clause-row g c =
    let t = c.add_all.ensures.tally [] c.in_ok-tally.ensures in
    let size = ends_count c.self.inside.manifest in
    let inside = c.self.invariant.ends_are in
    omega (arith, t.size, ap length inside, size, ap (λ (x : OpenStore). length x.manifest.parts) c.self.view_is)

pub returns-in_err-check-clause-cause : goal.returns-in_err-check-clause-cause
returns-in_err-check-clause-cause g c =
    let D = g.D.Disk in
    let inv = c.loop-edges.invariant in
    let s = c.args.self.now in
    let i = c.args.i in
    let file = D.seen c.args.disk.now (part_file s.manifest i) in
    let no = c.in_ok-next.was ∙ ap (λ (b : Bool). Ok b) c.if-branch.false in
    let end = c.next.ensures.end no (expect_in s i) file inv.at.0 [] (λ tells k. inv.looks.same_seen k (inv.number k)) inv.at.1 in
    let edges = c.loop-edges.edges.items in
    let bounds : (expect_in s i).lo < (expect_in s i).hi = subst (λ (e : Expect). e.lo < e.hi) c.expect.ensures.expect c.expect.ensures.bounds in
    let tally : IsTally s.ends edges c.add_all.new.self.row.items c.add_all.new.self.newest =
    subst (λ (l : List ℕ). IsTally l edges c.add_all.new.self.row.items c.add_all.new.self.newest) (ap (λ (x : OpenStore). x.ends) c.self.view_is)
    (subst (λ (l : List Born). IsTally c.self.inside.intervals l c.add_all.new.self.row.items c.add_all.new.self.newest) (c.deref.ensures.value ∙ ap (λ (v : Vec Born). v.items) end.1) (c.add_all.ensures.tally [] c.in_ok-tally.ensures)) in
    handed_other (D.faults c.args.disk.now) (D.faults c.next.new.disk) _ _ c.check.result c.from_residual-in_err-check.result c.in_err-check.field-0.0 c.in_err-check.was c.from_residual-in_err-check.ensures.1
    (λ f p k blamed. (
      blamed.0,
      λ tells. subst (λ (x : ℕ). IsRefused s i (D.seen c.args.disk.now x) p k) (sym blamed.0)
          (ended_is_refused s i D.tells file inv.at.0 edges p k bounds end.0 (blamed.3 edges tally) blamed.1 blamed.2 tells),
    ))
    c.check.ensures.cause

pub returns-clause-read : goal.returns-clause-read
returns-clause-read g c =
    let D = g.D.Disk in
    let inv = c.loop-edges.invariant in
    let s = c.args.self.now in
    let i = c.args.i in
    let file = D.seen c.args.disk.now (part_file s.manifest i) in
    let no = c.in_ok-next.was ∙ ap (λ (b : Bool). Ok b) c.if-branch.false in
    let end = c.next.ensures.end no (expect_in s i) file inv.at.0 [] (λ tells k. inv.looks.same_seen k (inv.number k)) inv.at.1 in
    let edges = c.loop-edges.edges.items in
    let bounds : (expect_in s i).lo < (expect_in s i).hi = subst (λ (e : Expect). e.lo < e.hi) c.expect.ensures.expect c.expect.ensures.bounds in
    let tally : IsTally s.ends edges c.add_all.new.self.row.items c.add_all.new.self.newest =
    subst (λ (l : List ℕ). IsTally l edges c.add_all.new.self.row.items c.add_all.new.self.newest) (ap (λ (x : OpenStore). x.ends) c.self.view_is)
    (subst (λ (l : List Born). IsTally c.self.inside.intervals l c.add_all.new.self.row.items c.add_all.new.self.newest) (c.deref.ensures.value ∙ ap (λ (v : Vec Born). v.items) end.1) (c.add_all.ensures.tally [] c.in_ok-tally.ensures)) in
    rw end.1 (ended_is_read s i D.tells file inv.at.0 edges bounds end.0 (c.in_ok-check.ensures.told edges tally))
