use Rattle.std.proofs.lemmas.Result.{err_from_is_err_and}
use Rattle.text_page.proofs.Gathering.{flushed, stopped}
use Rattle.query_text.specs.Text.{head_text}
use Rattle.query_text.proofs.head_lines.print_head.Goals as goal

pub returns-in_err-put_head-clause-taken : goal.returns-in_err-put_head-clause-taken
returns-in_err-put_head-clause-taken g c =
    let told = g.O.Sink.told in
    let p = err_from_is_err_and c.from_residual.result c.from_residual.ensures.1 in
    rw p.1 (stopped (told c.args.sink.now) (told c.put_head.new.sink) c.new-page.result (head_text c.args.m.now) c.new-page.ensures c.in_err-put_head.ensures.gathered)

pub returns-clause-taken : goal.returns-clause-taken
returns-clause-taken g c =
    let told = g.O.Sink.told in
    flushed (told c.args.sink.now) (told c.put_head.new.sink) (told c.flush.new.sink) c.new-page.result c.put_head.new.page c.flush.result (head_text c.args.m.now) c.new-page.ensures c.in_ok-put_head.ensures.gathered c.flush.ensures.taken
