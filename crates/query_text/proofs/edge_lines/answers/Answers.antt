use Rattle.faults.specs.Counts.{Rose}
use Rattle.faults.specs.Reasons.{HasReason}
use Rattle.query_text.specs.Answered.{IsBlamed, ArePartsPrinted, first_asked, print_causes, wanted, why_not_printed}
use Rattle.query_text.specs.Text.{answers_text}
use Rattle.query_text.proofs.Listed.{answers_counted, answers_listed, at_asked}
use Rattle.query_text.proofs.edge_lines.answers.Goals as goal

pub returns-clause-listed : goal.returns-clause-listed
returns-clause-listed g c = λ t parts listed.
    let D = g.D.Disk in
    let told = g.O.Sink.told in
    let s = c.args.store.now in
    let from = c.args.from in
    let seen = D.seen c.args.disk.now in
    let at = c.partitions_of-first in
    let read = c.show_parts.ensures.printed.0 in
    let printed = at_asked (λ f w. ArePartsPrinted s D.tells seen f w (answers_text c.args.label from c.args.to) (told c.args.sink.now) (told c.show_parts.new.sink) c.show_parts.result read) at.result.0 at.result.1 (first_asked s from) (wanted s from) at.ensures.first at.ensures.end c.show_parts.ensures.printed.1 in
    answers_listed s at.ensures.open D.tells t seen parts listed c.args.label c.args.to from (told c.args.sink.now) (told c.show_parts.new.sink) c.show_parts.result read printed

pub returns-clause-number : goal.returns-clause-number
returns-clause-number g c = λ t parts listed.
    let D = g.D.Disk in
    let told = g.O.Sink.told in
    let s = c.args.store.now in
    let from = c.args.from in
    let seen = D.seen c.args.disk.now in
    let at = c.partitions_of-first in
    let read = c.show_parts.ensures.printed.0 in
    let printed = at_asked (λ f w. ArePartsPrinted s D.tells seen f w (answers_text c.args.label from c.args.to) (told c.args.sink.now) (told c.show_parts.new.sink) c.show_parts.result read) at.result.0 at.result.1 (first_asked s from) (wanted s from) at.ensures.first at.ensures.end c.show_parts.ensures.printed.1 in
    answers_counted s at.ensures.open D.tells t seen parts listed c.args.label c.args.to from (told c.args.sink.now) (told c.show_parts.new.sink) c.show_parts.result read printed c.show_parts.ensures.printed.2

pub returns-clause-cause : goal.returns-clause-cause
returns-clause-cause g c =
    let D = g.D.Disk in
    let faults = g.O.Sink.faults in
    let s = c.args.store.now in
    let from = c.args.from in
    let at = c.partitions_of-first in
    at_asked (λ f w. HasReason why_not_printed (print_causes (Rose (faults c.args.sink.now) (faults c.show_parts.new.sink)) (Rose (D.faults c.args.disk.now) (D.faults c.show_parts.new.disk)) (IsBlamed s D.tells (D.seen c.args.disk.now) f w)) c.show_parts.result) at.result.0 at.result.1 (first_asked s from) (wanted s from) at.ensures.first at.ensures.end c.show_parts.ensures.cause
