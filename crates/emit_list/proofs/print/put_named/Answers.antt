use Rattle.std.proofs.lemmas.Result.{err_from_is_err_and}
use Rattle.text_page.proofs.Gathering.{gathers_longer, gathers_then}
use Rattle.emit_list.proofs.print.put_named.Goals as goal

pub returns-in_err-put-clause-gathered : goal.returns-in_err-put-clause-gathered
returns-in_err-put-clause-gathered g c =
    let told = g.O.Sink.told in
    let p = err_from_is_err_and c.from_residual.result c.from_residual.ensures.1 in
    rw p.1 (gathers_longer (told c.args.sink.now) (told c.put.new.sink) c.args.page.now c.args.before.now c.args.name.now c.in_err-put.ensures.gathered)

pub returns-clause-gathered : goal.returns-clause-gathered
returns-clause-gathered g c =
    let told = g.O.Sink.told in
    gathers_then (told c.args.sink.now) (told c.put.new.sink) (told c.put-2.new.sink) c.args.page.now c.put.new.self c.put-2.new.self c.put-2.result c.args.before.now c.args.name.now c.in_ok-put.ensures.gathered c.put-2.ensures.gathered
