use Rattle.std.proofs.Common.{List, ℕ, subst}
use Rattle.std.specs.Prelude.{IsTrue}
use Rattle.intervals.specs.DegreeCut.{IsCutByDegree}
use Rattle.store.proofs.Images.{further}
use Rattle.store.proofs.Readying.{is_prepared, may_put, source_later}
use Rattle.store.proofs.prepared.prepare.Goals as goal

pub put_parts-requires : goal.put_parts-requires
put_parts-requires g c =
    let D = g.D.Disk in
    let I = g.I.Inputs in
    record {
      may = may_put c.args.grammar.now (I.told c.args.inputs.now c.args.edges.now) (IsTrue D.tells) (D.seen c.copy_texts.new.disk) c.in_ok-source.source c.in_ok-source.ensures.source c.copies_are_good.ensures c.args.limit c.in_ok-intervals.intervals
          (subst (λ (l : List ℕ). IsCutByDegree l c.args.limit c.in_ok-intervals.intervals) c.deref.ensures.value c.in_ok-intervals.ensures);
    }

pub returns-in_err-tables-clause-any_moment : goal.returns-in_err-tables-clause-any_moment
returns-in_err-tables-clause-any_moment g c =
    let D = g.D.Disk in
    let L = g.met.D.Disk in
    further D.seen D.moment D.left_since D.may_leave L.counts_now L.only_now c.args.disk.now c.copy_texts.new.disk c.put_parts.new.disk c.copy_texts.ensures.any_moment c.put_parts.ensures.any_moment

pub returns-in_err-manifest-clause-any_moment : goal.returns-in_err-manifest-clause-any_moment
returns-in_err-manifest-clause-any_moment g c =
    let D = g.D.Disk in
    let L = g.met.D.Disk in
    further D.seen D.moment D.left_since D.may_leave L.counts_now L.only_now c.args.disk.now c.copy_texts.new.disk c.put_parts.new.disk c.copy_texts.ensures.any_moment c.put_parts.ensures.any_moment

pub returns-clause-prepared : goal.returns-clause-prepared
returns-clause-prepared g c =
    let D = g.D.Disk in
    let I = g.I.Inputs in
    let grammar = c.args.grammar.now in
    let told = I.told c.args.inputs.now c.args.edges.now in
    let s = c.in_ok-source.source in
    let before = D.seen c.copy_texts.new.disk in
    let after = D.seen c.put_parts.new.disk in
    let src = source_later grammar told (IsTrue D.tells) before after s c.in_ok-source.ensures.source c.in_ok-tables.ensures.texts in
    is_prepared grammar told (IsTrue D.tells) after s src c.args.limit c.in_ok-intervals.intervals c.in_ok-tables.tables c.in_ok-manifest.manifest
    (subst (λ (l : List ℕ). IsCutByDegree l c.args.limit c.in_ok-intervals.intervals) c.deref.ensures.value c.in_ok-intervals.ensures) c.in_ok-tables.ensures.built c.in_ok-manifest.ensures

pub returns-clause-any_moment : goal.returns-clause-any_moment
returns-clause-any_moment g c =
    let D = g.D.Disk in
    let L = g.met.D.Disk in
    further D.seen D.moment D.left_since D.may_leave L.counts_now L.only_now c.args.disk.now c.copy_texts.new.disk c.put_parts.new.disk c.copy_texts.ensures.any_moment c.put_parts.ensures.any_moment
