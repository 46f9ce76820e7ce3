use Rattle.faults.specs.Counts.{Rose}
use Rattle.graspan_top.specs.Faults.{of_answer}
use Rattle.graspan_top.specs.Looks.{IsPartsText, parts_stages, found_stages}
use Rattle.graspan_top.specs.Printed.{IsNothingOr, PrintsFirst, status_of}
use Rattle.graspan_top.specs.Refusals.{Explained}
use Rattle.graspan_top.proofs.LookLemmas.{parts_not_found, parts_passed, parts_refused, status_at}
use Rattle.graspan_top.proofs.PrintLemmas.{nothing_first}
use Rattle.graspan_top.proofs.StageLemmas.{refused_not_done}
use Rattle.graspan_top.proofs.TextLemmas.{begun_short, nothing_begun, parts_begun, parts_short, printed_short}
use Rattle.graspan_top.proofs.looks.parts.Goals as goal

pub returns-in_err-store-clause-explained : goal.returns-in_err-store-clause-explained
returns-in_err-store-clause-explained g c =
    let D = g.D.Disk in
    let O = g.O.Sink in
    let seen = D.seen c.args.disk.now in
    let dr : Type 0 = Rose (D.faults c.args.disk.now) (D.faults c.found.new.disk) in
    let wr : Type 0 = Rose (O.faults c.args.out.now) (O.faults c.args.out.now) in
    status_at (Explained (parts_stages D.tells seen dr wr)) c.from_residual.result c.in_err-store.field-0.0 c.from_residual.ensures.1
    (parts_not_found D.tells seen dr wr c.in_err-store.field-0.0 c.in_err-store.ensures.refused)

pub returns-in_err-parts-clause-explained : goal.returns-in_err-parts-clause-explained
returns-in_err-parts-clause-explained g c =
    let D = g.D.Disk in
    let O = g.O.Sink in
    let seen = D.seen c.args.disk.now in
    let dr : Type 0 = Rose (D.faults c.args.disk.now) (D.faults c.found.new.disk) in
    let wr : Type 0 = Rose (O.faults c.args.out.now) (O.faults c.parts.new.sink) in
    let f = c.in_err-parts.field-0.0 in
    status_at (Explained (parts_stages D.tells seen dr wr)) c.from_residual-in_err-parts.result (of_answer f) c.from_residual-in_err-parts.ensures.1
    (parts_refused D.tells seen c.in_ok-store.store c.in_ok-store.ensures.held dr wr f c.in_err-parts.ensures.cause)

pub returns-clause-explained : goal.returns-clause-explained
returns-clause-explained g c =
    let D = g.D.Disk in
    let O = g.O.Sink in
    parts_passed D.tells (D.seen c.args.disk.now) c.in_ok-store.store c.in_ok-store.ensures.held (Rose (D.faults c.args.disk.now) (D.faults c.found.new.disk)) (Rose (O.faults c.args.out.now) (O.faults c.parts.new.sink))

pub returns-in_err-parts-clause-printed : goal.returns-in_err-parts-clause-printed
returns-in_err-parts-clause-printed g c =
    let D = g.D.Disk in
    let told = g.O.Sink.told in
    let s = c.in_ok-store.store in
    let seen = D.seen c.args.disk.now in
    let taken = c.in_err-parts.ensures.taken in
    printed_short D.tells (IsPartsText seen) (told c.args.out.now) (told c.parts.new.sink) c.in_err-parts.field-0.0 c.from_residual-in_err-parts.result c.from_residual-in_err-parts.ensures.1
    (parts_short s seen D.tells taken.0 (told c.args.out.now) (told c.parts.new.sink) c.in_ok-store.ensures.held taken.1 taken.2)

pub returns-in_err-store-clause-printed : goal.returns-in_err-store-clause-printed
returns-in_err-store-clause-printed g c =
    let D = g.D.Disk in
    let old = g.O.Sink.told c.args.out.now in
    let seen = D.seen c.args.disk.now in
    let dr : Type 0 = Rose (D.faults c.args.disk.now) (D.faults c.found.new.disk) in
    let e = c.in_err-store.field-0.0 in
    status_at (PrintsFirst D.tells (IsPartsText seen) old old) c.from_residual.result e c.from_residual.ensures.1
    (nothing_first D.tells (IsPartsText seen) old e (refused_not_done (found_stages D.tells seen dr) e c.in_err-store.ensures.refused))

pub returns-in_err-store-clause-begun : goal.returns-in_err-store-clause-begun
returns-in_err-store-clause-begun g c =
    let D = g.D.Disk in
    nothing_begun D.tells (IsPartsText (D.seen c.args.disk.now)) (g.O.Sink.told c.args.out.now) (status_of c.from_residual.result)

pub returns-in_err-parts-clause-begun : goal.returns-in_err-parts-clause-begun
returns-in_err-parts-clause-begun g c =
    let D = g.D.Disk in
    let told = g.O.Sink.told in
    let s = c.in_ok-store.store in
    let seen = D.seen c.args.disk.now in
    let taken = c.in_err-parts.ensures.taken in
    begun_short D.tells (IsNothingOr (IsPartsText seen)) (told c.args.out.now) (told c.parts.new.sink) c.in_err-parts.field-0.0 c.from_residual-in_err-parts.result c.from_residual-in_err-parts.ensures.1
    (parts_begun s seen D.tells taken.0 (told c.args.out.now) (told c.parts.new.sink) c.in_ok-store.ensures.held taken.1 taken.2)
