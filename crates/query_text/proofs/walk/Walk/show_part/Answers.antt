use Rattle.std.proofs.Common.{ℕ, ◌∷◌, [], arith}
use Rattle.query_text.specs.declared.fault.AnswerFault.TheVariants.{WriteFault}
use Rattle.query_text.proofs.Showing.{cause_of_load, gathered_one, gathered_stopped, gathered_unwritten, handed_on}
use Rattle.query_text.proofs.walk.Walk.show_part.Goals as goal

pub returns-in_err-part-clause-gathered : goal.returns-in_err-part-clause-gathered
returns-in_err-part-clause-gathered g c =
    let D = g.D.Disk in
    let told = g.O.Sink.told in
    let f = c.in_err-part.field-0.0 in
    ([], gathered_stopped c.args.self.now.store.now D.tells (D.seen c.args.disk.now) c.args.self.now.show c.args.i 1 f (told c.args.sink.now) c.args.page.now c.from_residual.result (handed_on ℕ c.from_residual.result f c.from_residual.ensures.1) (omega (arith, c.requires)))

pub returns-in_err-part-clause-cause : goal.returns-in_err-part-clause-cause
returns-in_err-part-clause-cause g c =
    let D = g.D.Disk in
    let f = c.in_err-part.field-0.0 in
    cause_of_load c.args.self.now.store.now D.tells (D.seen c.args.disk.now) c.args.i (g.O.Sink.faults c.args.sink.now) (D.faults c.args.disk.now) (D.faults c.load.new.disk) ℕ f c.from_residual.result c.requires (handed_on ℕ c.from_residual.result f c.from_residual.ensures.1) c.in_err-part.ensures.cause

pub returns-in_err-shown-clause-gathered : goal.returns-in_err-shown-clause-gathered
returns-in_err-shown-clause-gathered g c =
    let D = g.D.Disk in
    let told = g.O.Sink.told in
    let r = c.from_residual-in_err-shown.result in (
      c.in_ok-part.part.edges ∷ [],
      gathered_unwritten c.args.self.now.store.now D.tells (D.seen c.args.disk.now) c.args.self.now.show c.args.i c.in_ok-part.part.edges c.edges.result.now c.manifest.result.now WriteFault (told c.args.sink.now) (told c.put_edges.new.sink) c.args.page.now c.put_edges.new.page r c.requires c.in_ok-part.ensures.read c.manifest.ensures.manifest c.edges.ensures.edges (handed_on ℕ r WriteFault c.from_residual-in_err-shown.ensures.1) c.in_err-shown.ensures.gathered,
    )

pub returns-clause-gathered : goal.returns-clause-gathered
returns-clause-gathered g c =
    let D = g.D.Disk in
    let told = g.O.Sink.told in (
      c.in_ok-part.part.edges ∷ [],
      gathered_one c.args.self.now.store.now D.tells (D.seen c.args.disk.now) c.args.self.now.show c.args.i c.in_ok-part.part.edges c.edges.result.now c.manifest.result.now (told c.args.sink.now) (told c.put_edges.new.sink) c.args.page.now c.put_edges.new.page c.in_ok-shown.shown c.requires c.in_ok-part.ensures.read c.manifest.ensures.manifest c.edges.ensures.edges c.in_ok-shown.ensures.gathered c.in_ok-shown.ensures.number,
    )
