use Rattle.std.proofs.Common.{◌≡◌, ℕ, List, sym, ap, subst, ◌∙◌}
use Rattle.std.specs.Prelude.{option_map}
use Rattle.disk_model.specs.Disk.{Contents}
use Rattle.command_words.specs.declared.command.Command.{Command}
use Rattle.command_words.specs.Command.{run, said}
use Rattle.graspan_top.specs.Call.{IsExplained, the_call}
use Rattle.graspan_top.specs.Command.{IsBegunOf, knows}
use Rattle.graspan_top.specs.Given.{Given}
use Rattle.graspan_top.specs.Printed.{Begins, status_of}
use Rattle.graspan_top.specs.Stops.{KeepsWork, Spares}
use Rattle.graspan_top.proofs.command.carry_out.Goals as goal

pub returns-in-Run-clause-exact : goal.returns-in-Run-clause-exact
returns-in-Run-clause-exact g c =
    λ edges grammar options show same tells gt et tg te left done.
    let is : said c.args.command ≡ run c.in-Run.edges.now c.in-Run.grammar.now c.in-Run.options (option_map (λ s. s.now) c.in-Run.show) = ap said c.in-Run.is in
    let both : run c.in-Run.edges.now c.in-Run.grammar.now c.in-Run.options (option_map (λ s. s.now) c.in-Run.show) ≡ run edges grammar options show = sym is ∙ same in
    let ee : c.in-Run.edges.now ≡ edges = cc in
    let ge : c.in-Run.grammar.now ≡ grammar = cc in
    c.run.ensures.exact tells gt et (ap (g.I.Inputs.told c.args.inputs.now) ge ∙ tg) (ap (g.I.Inputs.told c.args.inputs.now) ee ∙ te) left done

pub returns-in-Query-clause-explained : goal.returns-in-Query-clause-explained
returns-in-Query-clause-explained g c =
    let D = g.D.Disk in
    let I = g.I.Inputs in
    let O = g.O.Sink in
    let a = c.args in
    let now = c.query.new in
    let k = the_call I D O a.inputs.now a.inputs.now a.disk.now now.disk a.out.now now.out in
    subst (λ (m : Command). IsExplained k (said m) (status_of c.query.result)) (sym c.in-Query.is) c.query.ensures.explained

pub returns-in-Dump-clause-explained : goal.returns-in-Dump-clause-explained
returns-in-Dump-clause-explained g c =
    let D = g.D.Disk in
    let I = g.I.Inputs in
    let O = g.O.Sink in
    let a = c.args in
    let now = c.dump.new in
    let k = the_call I D O a.inputs.now a.inputs.now a.disk.now now.disk a.out.now now.out in
    subst (λ (m : Command). IsExplained k (said m) (status_of c.dump.result)) (sym c.in-Dump.is) c.dump.ensures.explained

pub returns-in-Parts-clause-explained : goal.returns-in-Parts-clause-explained
returns-in-Parts-clause-explained g c =
    let D = g.D.Disk in
    let I = g.I.Inputs in
    let O = g.O.Sink in
    let a = c.args in
    let now = c.parts.new in
    let k = the_call I D O a.inputs.now a.inputs.now a.disk.now now.disk a.out.now now.out in
    subst (λ (m : Command). IsExplained k (said m) (status_of c.parts.result)) (sym c.in-Parts.is) c.parts.ensures.explained

pub returns-in-Run-clause-begun : goal.returns-in-Run-clause-begun
returns-in-Run-clause-begun g c =
    let D = g.D.Disk in
    let O = g.O.Sink in
    let inputs = g.I.Inputs.told c.args.inputs.now in
    subst (λ (k : Command). Begins (knows D.tells inputs (said k)) (IsBegunOf inputs (D.seen c.run.new.disk) (said k)) (O.told c.args.out.now) (O.told c.run.new.out) (status_of c.run.result)) (sym c.in-Run.is) c.run.ensures.begun

pub returns-in-Run-clause-explained : goal.returns-in-Run-clause-explained
returns-in-Run-clause-explained g c =
    let D = g.D.Disk in
    let I = g.I.Inputs in
    let O = g.O.Sink in
    let a = c.args in
    let now = c.run.new in
    let k = the_call I D O a.inputs.now now.inputs a.disk.now now.disk a.out.now now.out in
    subst (λ (m : Command). IsExplained k (said m) (status_of c.run.result)) (sym c.in-Run.is) c.run.ensures.explained

pub returns-in-Query-clause-begun : goal.returns-in-Query-clause-begun
returns-in-Query-clause-begun g c =
    let D = g.D.Disk in
    let O = g.O.Sink in
    let inputs = g.I.Inputs.told c.args.inputs.now in
    let before = subst (λ (k : Command). Begins (knows D.tells inputs (said k)) (IsBegunOf inputs (D.seen c.args.disk.now) (said k)) (O.told c.args.out.now) (O.told c.query.new.out) (status_of c.query.result)) (sym c.in-Query.is) c.query.ensures.begun in
    subst (λ (s : Contents). Begins (knows D.tells inputs (said c.args.command)) (IsBegunOf inputs s (said c.args.command)) (O.told c.args.out.now) (O.told c.query.new.out) (status_of c.query.result)) (sym c.query.ensures.looks.same_seen) before

pub returns-in-Run-clause-stops : goal.returns-in-Run-clause-stops
returns-in-Run-clause-stops g c =
    λ edges grammar options show same.
    let is : said c.args.command ≡ run c.in-Run.edges.now c.in-Run.grammar.now c.in-Run.options (option_map (λ s. s.now) c.in-Run.show) = ap said c.in-Run.is in
    let both : run c.in-Run.edges.now c.in-Run.grammar.now c.in-Run.options (option_map (λ s. s.now) c.in-Run.show) ≡ run edges grammar options show = sym is ∙ same in
    let ee : c.in-Run.edges.now ≡ edges = cc in
    let ge : c.in-Run.grammar.now ≡ grammar = cc in
    subst (λ (e : List ℕ). KeepsWork g.D.Disk (g.I.Inputs.told c.args.inputs.now) e grammar c.args.disk.now c.run.new.disk) ee
    (subst (λ (t : List ℕ). KeepsWork g.D.Disk (g.I.Inputs.told c.args.inputs.now) c.in-Run.edges.now t c.args.disk.now c.run.new.disk) ge c.run.ensures.stops)

pub returns-in-Run-clause-spares : goal.returns-in-Run-clause-spares
returns-in-Run-clause-spares g c =
    λ edges grammar options show same.
    let D = g.D.Disk in
    let x : Given = record { told = g.I.Inputs.told c.args.inputs.now; tells = D.tells; before = D.seen c.args.disk.now } in
    let is : said c.args.command ≡ run c.in-Run.edges.now c.in-Run.grammar.now c.in-Run.options (option_map (λ s. s.now) c.in-Run.show) = ap said c.in-Run.is in
    let both : run c.in-Run.edges.now c.in-Run.grammar.now c.in-Run.options (option_map (λ s. s.now) c.in-Run.show) ≡ run edges grammar options show = sym is ∙ same in
    let ee : c.in-Run.edges.now ≡ edges = cc in
    let ge : c.in-Run.grammar.now ≡ grammar = cc in
    subst (λ (e : List ℕ). Spares D x e grammar (status_of c.run.result) c.args.disk.now c.run.new.disk) ee
    (subst (λ (t : List ℕ). Spares D x c.in-Run.edges.now t (status_of c.run.result) c.args.disk.now c.run.new.disk) ge c.run.ensures.spares)
