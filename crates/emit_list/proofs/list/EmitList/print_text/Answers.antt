use Rattle.text_page.proofs.Gathering.{flushed}
use Rattle.emit_list.specs.Printed.{text_of}
use Rattle.emit_list.proofs.list.EmitList.print_text.Goals as goal

pub returns-clause-taken : goal.returns-clause-taken
returns-clause-taken g c =
    let told = g.O.Sink.told in
    flushed (told c.args.sink.now) (told c.put_text.new.sink) (told c.flush.new.sink) c.new-page.result c.put_text.new.page c.flush.result (text_of c.args.self.now.vertices c.args.k) c.new-page.ensures c.in_ok-put_text.ensures.gathered c.flush.ensures.taken
