use Rattle.std.proofs.Common.{◌∙◌, List, ℕ, subst}
use Rattle.std.specs.Io.KnownBytes.{Appends}
use Rattle.text_page.proofs.Gathering.{gathers_past}
use Rattle.text_page.proofs.page.Page.put.Goals as goal

pub returns-clause-gathered : goal.returns-clause-gathered
returns-clause-gathered g c =
    let told = g.O.Sink.told in
    gathers_past (told c.args.sink.now) (told c.flush.new.sink) (told c.write.new.self) c.args.self.now c.hold-2.new.self c.args.piece.now c.write.result
    (subst (λ (l : List ℕ). Appends (told c.args.sink.now) (told c.flush.new.sink) l) c.if-hold.ensures.0 c.in_ok-flush.ensures.taken)
    (c.if-hold-2.ensures.0 ∙ c.in_ok-flush.ensures.empty) c.write.ensures.taken
