use Rattle.std.proofs.Common.{◌≤◌, arith}
use Rattle.faults.specs.Counts.{Rose}
use Rattle.graspan_top.specs.Faults.{of_answer}
use Rattle.graspan_top.specs.Looks.{IsDumpFront, IsDumpText, dump_stages, finished_stages}
use Rattle.graspan_top.specs.Printed.{IsNothingOr, PrintsFirst, status_of}
use Rattle.graspan_top.specs.Refusals.{Explained}
use Rattle.graspan_top.proofs.ExplainLemmas.{rose_later}
use Rattle.graspan_top.proofs.LookLemmas.{dump_not_found, dump_passed, dump_refused, status_at}
use Rattle.graspan_top.proofs.PrintLemmas.{nothing_first}
use Rattle.graspan_top.proofs.StageLemmas.{refused_not_done}
use Rattle.graspan_top.proofs.TextLemmas.{begun_short, dump_begun, dump_short, dump_whole, nothing_begun, printed_short}
use Rattle.graspan_top.proofs.looks.dump.Goals as goal

pub returns-in_err-store-clause-explained : goal.returns-in_err-store-clause-explained
returns-in_err-store-clause-explained g c =
    let D = g.D.Disk in
    let O = g.O.Sink in
    let seen = D.seen c.args.disk.now in
    let dr : Type 0 = Rose (D.faults c.args.disk.now) (D.faults c.finished_store.new.disk) in
    let wr : Type 0 = Rose (O.faults c.args.out.now) (O.faults c.args.out.now) in
    status_at (Explained (dump_stages D.tells seen dr wr)) c.from_residual.result c.in_err-store.field-0.0 c.from_residual.ensures.1
    (dump_not_found D.tells seen dr wr c.in_err-store.field-0.0 c.in_err-store.ensures.refused)

pub returns-in_err-dump-clause-explained : goal.returns-in_err-dump-clause-explained
returns-in_err-dump-clause-explained g c =
    let D = g.D.Disk in
    let O = g.O.Sink in
    let seen = D.seen c.args.disk.now in
    let mid = c.finished_store.new.disk in
    let last = c.dump.new.disk in
    let dr : Type 0 = Rose (D.faults c.args.disk.now) (D.faults last) in
    let wr : Type 0 = Rose (O.faults c.args.out.now) (O.faults c.dump.new.sink) in
    let found = c.in_ok-store.ensures in
    let f = c.in_err-dump.field-0.0 in
    status_at (Explained (dump_stages D.tells seen dr wr)) c.from_residual-in_err-dump.result (of_answer f) c.from_residual-in_err-dump.ensures.1
    (dump_refused D.tells seen c.in_ok-store.store found.held found.done dr wr (Rose (D.faults mid) (D.faults last)) (D.seen mid)
    (rose_later (D.faults c.args.disk.now) (D.faults mid) (D.faults last) (D.faults last) found.looks.later (omega arith)) found.looks.same_seen f c.in_err-dump.ensures.cause)

pub returns-clause-explained : goal.returns-clause-explained
returns-clause-explained g c =
    let D = g.D.Disk in
    let O = g.O.Sink in
    dump_passed D.tells (D.seen c.args.disk.now) c.in_ok-store.store c.in_ok-store.ensures.held c.in_ok-store.ensures.done (Rose (D.faults c.args.disk.now) (D.faults c.dump.new.disk)) (Rose (O.faults c.args.out.now) (O.faults c.dump.new.sink))

pub returns-in_err-dump-clause-printed : goal.returns-in_err-dump-clause-printed
returns-in_err-dump-clause-printed g c =
    let D = g.D.Disk in
    let told = g.O.Sink.told in
    let seen = D.seen c.args.disk.now in
    let found = c.in_ok-store.ensures in
    printed_short D.tells (IsDumpText seen) (told c.args.out.now) (told c.dump.new.sink) c.in_err-dump.field-0.0 c.from_residual-in_err-dump.result c.from_residual-in_err-dump.ensures.1
    (dump_short c.in_ok-store.store seen (D.seen c.finished_store.new.disk) found.looks.same_seen D.tells found.held (told c.args.out.now) (told c.dump.new.sink) c.in_err-dump.ensures.listed)

pub returns-clause-printed : goal.returns-clause-printed
returns-clause-printed g c =
    let D = g.D.Disk in
    let told = g.O.Sink.told in
    let found = c.in_ok-store.ensures in
    let taken = c.in_ok-dump.ensures.printed in
    dump_whole c.in_ok-store.store (D.seen c.args.disk.now) (D.seen c.finished_store.new.disk) found.looks.same_seen D.tells found.held (told c.args.out.now) (told c.dump.new.sink) taken.0 found.done taken.1

pub returns-in_err-store-clause-printed : goal.returns-in_err-store-clause-printed
returns-in_err-store-clause-printed g c =
    let D = g.D.Disk in
    let old = g.O.Sink.told c.args.out.now in
    let seen = D.seen c.args.disk.now in
    let dr : Type 0 = Rose (D.faults c.args.disk.now) (D.faults c.finished_store.new.disk) in
    let e = c.in_err-store.field-0.0 in
    status_at (PrintsFirst D.tells (IsDumpText seen) old old) c.from_residual.result e c.from_residual.ensures.1
    (nothing_first D.tells (IsDumpText seen) old e (refused_not_done (finished_stages D.tells seen dr) e c.in_err-store.ensures.refused))

pub returns-in_err-store-clause-begun : goal.returns-in_err-store-clause-begun
returns-in_err-store-clause-begun g c =
    let D = g.D.Disk in
    nothing_begun D.tells (IsDumpFront (D.seen c.args.disk.now)) (g.O.Sink.told c.args.out.now) (status_of c.from_residual.result)

pub returns-in_err-dump-clause-begun : goal.returns-in_err-dump-clause-begun
returns-in_err-dump-clause-begun g c =
    let D = g.D.Disk in
    let told = g.O.Sink.told in
    let seen = D.seen c.args.disk.now in
    let found = c.in_ok-store.ensures in
    let f = c.in_err-dump.field-0.0 in
    let taken = c.in_err-dump.ensures.printed in
    begun_short D.tells (IsNothingOr (IsDumpFront seen)) (told c.args.out.now) (told c.dump.new.sink) f c.from_residual-in_err-dump.result c.from_residual-in_err-dump.ensures.1
    (dump_begun c.in_ok-store.store seen (D.seen c.finished_store.new.disk) found.looks.same_seen D.tells found.held (told c.args.out.now) (told c.dump.new.sink) f taken.0 found.done taken.1)
