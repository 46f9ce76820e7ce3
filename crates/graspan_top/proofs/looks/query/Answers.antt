use Rattle.std.proofs.Common.{◌≡◌, ◌≤◌, Some, inl, inr, subst, arith}
use Rattle.std.specs.Prelude.{Contains, slice_get}
use Rattle.faults.specs.Counts.{Rose}
use Rattle.manifest_codec.specs.declared.types.Manifest.{Manifest}
use Rattle.disk_model.proofs.Looks.{looks_then}
use Rattle.graspan_top.specs.Faults.{of_answer}
use Rattle.graspan_top.specs.Looks.{AreVerticesOf, IsQueryText, query_stages, finished_stages}
use Rattle.graspan_top.specs.Printed.{IsNothingOr, PrintsFirst, status_of}
use Rattle.graspan_top.specs.Refusals.{Explained}
use Rattle.graspan_top.proofs.ExplainLemmas.{rose_later}
use Rattle.graspan_top.proofs.LookLemmas.{has_label, query_not_found, query_passed, query_refused, query_unknown, status_at}
use Rattle.graspan_top.proofs.PrintLemmas.{nothing_first}
use Rattle.graspan_top.proofs.StageLemmas.{refused_not_done}
use Rattle.graspan_top.proofs.TextLemmas.{begun_short, nothing_begun, printed_short, query_begun, query_short, query_whole}
use Rattle.graspan_top.proofs.looks.query.Goals as goal

pub returns-in_err-store-clause-explained : goal.returns-in_err-store-clause-explained
returns-in_err-store-clause-explained g c =
    let D = g.D.Disk in
    let O = g.O.Sink in
    let a = c.args in
    let seen = D.seen a.disk.now in
    let dr : Type 0 = Rose (D.faults a.disk.now) (D.faults c.finished_store.new.disk) in
    let wr : Type 0 = Rose (O.faults a.out.now) (O.faults a.out.now) in
    status_at (Explained (query_stages D.tells seen a.label.now a.ends.from a.ends.to dr wr)) c.from_residual.result c.in_err-store.field-0.0 c.from_residual.ensures.1
    (query_not_found D.tells seen dr wr a.label.now a.ends.from a.ends.to c.in_err-store.field-0.0 c.in_err-store.ensures.refused)

pub returns-in_err-number-clause-explained : goal.returns-in_err-number-clause-explained
returns-in_err-number-clause-explained g c =
    let D = g.D.Disk in
    let O = g.O.Sink in
    let a = c.args in
    let seen = D.seen a.disk.now in
    let found = c.in_ok-store.ensures in
    let dr : Type 0 = Rose (D.faults a.disk.now) (D.faults c.finished_store.new.disk) in
    let wr : Type 0 = Rose (O.faults a.out.now) (O.faults a.out.now) in
    let none = subst (λ (m : Manifest). Contains m.labels a.label.now → ⊥) c.manifest.ensures.manifest c.in_err-number.ensures.none.1 in
    status_at (Explained (query_stages D.tells seen a.label.now a.ends.from a.ends.to dr wr)) c.from_residual-in_err-number.result c.in_err-number.field-0.0 c.from_residual-in_err-number.ensures.1
    (query_unknown D.tells seen c.in_ok-store.store found.held found.done dr wr a.label.now a.ends.from a.ends.to c.in_err-number.field-0.0 c.in_err-number.ensures.none.0 (inl none))

pub returns-in_err-known-clause-explained : goal.returns-in_err-known-clause-explained
returns-in_err-known-clause-explained g c =
    let D = g.D.Disk in
    let O = g.O.Sink in
    let a = c.args in
    let seen = D.seen a.disk.now in
    let found = c.in_ok-store.ensures in
    let dr : Type 0 = Rose (D.faults a.disk.now) (D.faults c.finished_store.new.disk) in
    let wr : Type 0 = Rose (O.faults a.out.now) (O.faults a.out.now) in
    let none = subst (λ (m : Manifest). AreVerticesOf m a.ends.from a.ends.to → ⊥) c.manifest-2.ensures.manifest c.in_err-known.ensures.unknown.1 in
    status_at (Explained (query_stages D.tells seen a.label.now a.ends.from a.ends.to dr wr)) c.from_residual-in_err-known.result c.in_err-known.field-0.0 c.from_residual-in_err-known.ensures.1
    (query_unknown D.tells seen c.in_ok-store.store found.held found.done dr wr a.label.now a.ends.from a.ends.to c.in_err-known.field-0.0 c.in_err-known.ensures.unknown.0 (inr none))

pub returns-in_err-print_query-clause-explained : goal.returns-in_err-print_query-clause-explained
returns-in_err-print_query-clause-explained g c =
    let D = g.D.Disk in
    let O = g.O.Sink in
    let a = c.args in
    let seen = D.seen a.disk.now in
    let found = c.in_ok-store.ensures in
    let s = c.in_ok-store.store in
    let mid = c.finished_store.new.disk in
    let last = c.print_query.new.disk in
    let dr : Type 0 = Rose (D.faults a.disk.now) (D.faults last) in
    let wr : Type 0 = Rose (O.faults a.out.now) (O.faults c.print_query.new.out) in
    let number_is = subst (λ (m : Manifest). slice_get m.labels c.in_ok-number.number.0 ≡ Some a.label.now) c.manifest.ensures.manifest c.in_ok-number.ensures.number in
    let vertices = subst (λ (m : Manifest). AreVerticesOf m a.ends.from a.ends.to) c.manifest-2.ensures.manifest c.in_ok-known.ensures.known in
    let f = c.in_err-print_query.field-0.0 in
    status_at (Explained (query_stages D.tells seen a.label.now a.ends.from a.ends.to dr wr)) c.from_residual-in_err-print_query.result (of_answer f) c.from_residual-in_err-print_query.ensures.1
    (query_refused D.tells seen s found.held found.done dr wr a.label.now a.ends.from a.ends.to (has_label s.manifest.labels a.label.now c.in_ok-number.number.0 number_is, vertices)
    (Rose (D.faults mid) (D.faults last)) (D.seen mid) (rose_later (D.faults a.disk.now) (D.faults mid) (D.faults last) (D.faults last) found.looks.later (omega arith)) found.looks.same_seen f c.in_err-print_query.ensures.cause)

pub returns-clause-explained : goal.returns-clause-explained
returns-clause-explained g c =
    let D = g.D.Disk in
    let O = g.O.Sink in
    let a = c.args in
    let s = c.in_ok-store.store in
    let found = c.in_ok-store.ensures in
    let number_is = subst (λ (m : Manifest). slice_get m.labels c.in_ok-number.number.0 ≡ Some a.label.now) c.manifest.ensures.manifest c.in_ok-number.ensures.number in
    let vertices = subst (λ (m : Manifest). AreVerticesOf m a.ends.from a.ends.to) c.manifest-2.ensures.manifest c.in_ok-known.ensures.known in
    query_passed D.tells (D.seen a.disk.now) s found.held found.done (Rose (D.faults a.disk.now) (D.faults c.print_query.new.disk)) (Rose (O.faults a.out.now) (O.faults c.print_query.new.out)) a.label.now a.ends.from a.ends.to
    (has_label s.manifest.labels a.label.now c.in_ok-number.number.0 number_is, vertices)

pub returns-in_err-print_query-clause-printed : goal.returns-in_err-print_query-clause-printed
returns-in_err-print_query-clause-printed g c =
    let D = g.D.Disk in
    let told = g.O.Sink.told in
    let a = c.args in
    let found = c.in_ok-store.ensures in
    let seen = D.seen a.disk.now in
    let taken = c.in_err-print_query.ensures.printed in
    let number_is = subst (λ (m : Manifest). slice_get m.labels c.in_ok-number.number.0 ≡ Some a.label.now) c.manifest.ensures.manifest c.in_ok-number.ensures.number in
    printed_short D.tells (IsQueryText seen a.label.now a.ends.from a.ends.to) (told a.out.now) (told c.print_query.new.out) c.in_err-print_query.field-0.0 c.from_residual-in_err-print_query.result c.from_residual-in_err-print_query.ensures.1
    (query_short c.in_ok-store.store D.tells c.in_ok-number.number a.ends.from a.ends.to c.manifest.ensures.store seen (D.seen c.finished_store.new.disk) found.looks.same_seen found.held a.label.now number_is (told a.out.now) (told c.print_query.new.out) taken.0 c.in_err-print_query.field-0.0 (taken.1, taken.2))

pub returns-in_err-print_query-clause-looks : goal.returns-in_err-print_query-clause-looks
returns-in_err-print_query-clause-looks g c = looks_then c.in_ok-store.ensures.looks c.in_err-print_query.ensures.looks

pub returns-clause-printed : goal.returns-clause-printed
returns-clause-printed g c =
    let D = g.D.Disk in
    let told = g.O.Sink.told in
    let a = c.args in
    let found = c.in_ok-store.ensures in
    let taken = c.in_ok-print_query.ensures.printed in
    let number_is = subst (λ (m : Manifest). slice_get m.labels c.in_ok-number.number.0 ≡ Some a.label.now) c.manifest.ensures.manifest c.in_ok-number.ensures.number in
    query_whole c.in_ok-store.store D.tells c.in_ok-number.number a.ends.from a.ends.to c.manifest.ensures.store (D.seen a.disk.now) (D.seen c.finished_store.new.disk) found.looks.same_seen found.held a.label.now number_is (told a.out.now) (told c.print_query.new.out) taken.0 found.done (taken.1, taken.2)

pub returns-clause-looks : goal.returns-clause-looks
returns-clause-looks g c = looks_then c.in_ok-store.ensures.looks c.in_ok-print_query.ensures.looks

pub returns-in_err-store-clause-printed : goal.returns-in_err-store-clause-printed
returns-in_err-store-clause-printed g c =
    let D = g.D.Disk in
    let old = g.O.Sink.told c.args.out.now in
    let seen = D.seen c.args.disk.now in
    let dr : Type 0 = Rose (D.faults c.args.disk.now) (D.faults c.finished_store.new.disk) in
    let e = c.in_err-store.field-0.0 in
    status_at (PrintsFirst D.tells (IsQueryText seen c.args.label.now c.args.ends.from c.args.ends.to) old old) c.from_residual.result e c.from_residual.ensures.1
    (nothing_first D.tells (IsQueryText seen c.args.label.now c.args.ends.from c.args.ends.to) old e (refused_not_done (finished_stages D.tells seen dr) e c.in_err-store.ensures.refused))

pub returns-in_err-store-clause-begun : goal.returns-in_err-store-clause-begun
returns-in_err-store-clause-begun g c =
    let D = g.D.Disk in
    nothing_begun D.tells (IsQueryText (D.seen c.args.disk.now) c.args.label.now c.args.ends.from c.args.ends.to) (g.O.Sink.told c.args.out.now) (status_of c.from_residual.result)

pub returns-in_err-number-clause-begun : goal.returns-in_err-number-clause-begun
returns-in_err-number-clause-begun g c =
    let D = g.D.Disk in
    nothing_begun D.tells (IsQueryText (D.seen c.args.disk.now) c.args.label.now c.args.ends.from c.args.ends.to) (g.O.Sink.told c.args.out.now) (status_of c.from_residual-in_err-number.result)

pub returns-in_err-known-clause-begun : goal.returns-in_err-known-clause-begun
returns-in_err-known-clause-begun g c =
    let D = g.D.Disk in
    nothing_begun D.tells (IsQueryText (D.seen c.args.disk.now) c.args.label.now c.args.ends.from c.args.ends.to) (g.O.Sink.told c.args.out.now) (status_of c.from_residual-in_err-known.result)

pub returns-in_err-print_query-clause-begun : goal.returns-in_err-print_query-clause-begun
returns-in_err-print_query-clause-begun g c =
    let D = g.D.Disk in
    let told = g.O.Sink.told in
    let a = c.args in
    let found = c.in_ok-store.ensures in
    let seen = D.seen a.disk.now in
    let f = c.in_err-print_query.field-0.0 in
    let taken = c.in_err-print_query.ensures.printed in
    let number_is = subst (λ (m : Manifest). slice_get m.labels c.in_ok-number.number.0 ≡ Some a.label.now) c.manifest.ensures.manifest c.in_ok-number.ensures.number in
    begun_short D.tells (IsNothingOr (IsQueryText seen a.label.now a.ends.from a.ends.to)) (told a.out.now) (told c.print_query.new.out) f c.from_residual-in_err-print_query.result c.from_residual-in_err-print_query.ensures.1
    (query_begun c.in_ok-store.store D.tells c.in_ok-number.number a.ends.from a.ends.to c.manifest.ensures.store seen (D.seen c.finished_store.new.disk) found.looks.same_seen found.held a.label.now number_is (told a.out.now) (told c.print_query.new.out) taken.0 f found.done (taken.1, taken.2))
