use Rattle.std.proofs.Common.{◌∙◌}
use Rattle.graspan_top.proofs.TextLemmas.{query_stopped, query_unwritten, query_written}
use Rattle.graspan_top.proofs.looks.print_query.Goals as goal

pub returns-in_err-count-clause-printed : goal.returns-in_err-count-clause-printed
returns-in_err-count-clause-printed g c =
    let D = g.D.Disk in
    let told = g.O.Sink.told in
    let a = c.args in
    let taken = c.in_err-count.ensures.printed in
    let all = query_stopped a.store.now D.tells a.label a.ends.from a.ends.to (D.seen a.disk.now) c.in_err-count.field-0.0 (told a.out.now) (told c.answers.new.sink) taken.0 c.from_residual.result c.from_residual.ensures.1 taken.1 in
    (taken.0, all.0, all.1)

pub returns-in_err-write-clause-printed : goal.returns-in_err-write-clause-printed
returns-in_err-write-clause-printed g c =
    let D = g.D.Disk in
    let told = g.O.Sink.told in
    let a = c.args in
    let taken = c.in_ok-count.ensures.printed in
    let all = query_unwritten a.store.now D.tells a.label a.ends.from a.ends.to (D.seen a.disk.now) c.in_ok-count.count (told a.out.now) (told c.answers.new.sink) (told c.write.new.self) c.as_slice.result.now taken.0 taken.1 taken.2 (c.as_slice.ensures.value ∙ c.count_line.ensures) c.from_residual-in_err-write.result c.from_residual-in_err-write.ensures.1 c.in_err-write.ensures.taken in
    (taken.0, all.0, all.1)

pub returns-clause-printed : goal.returns-clause-printed
returns-clause-printed g c =
    let D = g.D.Disk in
    let told = g.O.Sink.told in
    let a = c.args in
    let taken = c.in_ok-count.ensures.printed in
    let all = query_written a.store.now D.tells a.label a.ends.from a.ends.to (D.seen a.disk.now) c.in_ok-count.count (told a.out.now) (told c.answers.new.sink) (told c.write.new.self) c.as_slice.result.now taken.0 taken.1 taken.2 (c.as_slice.ensures.value ∙ c.count_line.ensures) c.in_ok-write.ensures.taken in
    (taken.0, all.0, all.1)
