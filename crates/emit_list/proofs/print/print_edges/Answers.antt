use Rattle.text_page.proofs.Gathering.{flushed}
use Rattle.emit_list.specs.Printed.{list_bytes}
use Rattle.emit_list.proofs.print.print_edges.Goals as goal

pub returns-clause-taken : goal.returns-clause-taken
returns-clause-taken g c =
    let told = g.O.Sink.told in
    flushed (told c.args.sink.now) (told c.put_list.new.sink) (told c.flush.new.sink) c.new-page.result c.put_list.new.page c.flush.result (list_bytes c.args.list.now) c.new-page.ensures c.in_ok-put_list.ensures.gathered c.flush.ensures.taken
