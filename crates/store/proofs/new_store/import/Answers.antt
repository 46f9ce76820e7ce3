use Rattle.std.specs.Prelude.{IsTrue}
use Rattle.store.proofs.Stopping.{import_stops}
use Rattle.store.proofs.Switching.{blank_then, held_alone, import_of, imports_before, imports_then, new_store}
use Rattle.store.proofs.new_store.import.Goals as goal

pub switch-requires-clause-blank : goal.switch-requires-clause-blank
switch-requires-clause-blank g c = λ none image.
    let D = g.D.Disk in
    let L = g.met.D.Disk in
    blank_then D.seen D.moment D.left_since D.may_leave L.counts_now L.only_now c.args.disk.now c.prepare.new.disk c.prepare.ensures.any_moment c.requires.blank image

pub returns-in_err-slot-clause-any_moment : goal.returns-in_err-slot-clause-any_moment
returns-in_err-slot-clause-any_moment g c =
    let D = g.D.Disk in
    let I = g.I.Inputs in
    let L = g.met.D.Disk in
    imports_then D.seen D.moment D.left_since D.may_leave L.counts_now L.only_now c.args.disk.now c.prepare.new.disk c.switch.new.disk c.args.grammar.now (I.told c.args.inputs.now c.args.edges.now) c.args.limit (IsTrue D.tells) c.in_ok-prepared.prepared L.told c.in_ok-prepared.ensures.prepared c.prepare.ensures.any_moment
    c.switch.ensures.any_moment

pub returns-clause-store : goal.returns-clause-store
returns-clause-store g c =
    let D = g.D.Disk in
    let I = g.I.Inputs in
    new_store c.args.grammar.now (I.told c.args.inputs.now c.args.edges.now) c.args.limit (IsTrue D.tells) (D.seen c.prepare.new.disk) c.in_ok-prepared.prepared c.in_ok-prepared.ensures.prepared c.new.result c.in_ok-slot.slot c.new.ensures c.in_ok-slot.ensures.slot

pub returns-clause-held : goal.returns-clause-held
returns-clause-held g c = λ image there.
    let D = g.D.Disk in
    let I = g.I.Inputs in
    let tell = g.met.D.Disk.told c.switch.new.disk image there in
    let e = c.in_ok-slot.ensures in
    held_alone c.args.grammar.now (I.told c.args.inputs.now c.args.edges.now) c.args.limit (IsTrue D.tells) (D.seen c.prepare.new.disk) c.in_ok-prepared.prepared c.in_ok-prepared.ensures.prepared c.new.result c.in_ok-slot.slot (D.seen c.switch.new.disk) image c.new.ensures tell (e.done image there)
    (e.synced image there 2) (e.reads tell)

pub returns-clause-imported : goal.returns-clause-imported
returns-clause-imported g c = λ tell.
    let D = g.D.Disk in
    let I = g.I.Inputs in
    let e = c.in_ok-slot.ensures in
    import_of c.args.grammar.now (I.told c.args.inputs.now c.args.edges.now) c.args.limit (IsTrue D.tells) (D.seen c.prepare.new.disk) c.in_ok-prepared.prepared c.in_ok-prepared.ensures.prepared c.new.result c.in_ok-slot.slot (D.seen c.switch.new.disk) c.new.ensures e.slot tell (e.reads tell)

pub returns-clause-any_moment : goal.returns-clause-any_moment
returns-clause-any_moment g c =
    let D = g.D.Disk in
    let I = g.I.Inputs in
    let L = g.met.D.Disk in
    imports_then D.seen D.moment D.left_since D.may_leave L.counts_now L.only_now c.args.disk.now c.prepare.new.disk c.switch.new.disk c.args.grammar.now (I.told c.args.inputs.now c.args.edges.now) c.args.limit (IsTrue D.tells) c.in_ok-prepared.prepared L.told c.in_ok-prepared.ensures.prepared c.prepare.ensures.any_moment
    c.switch.ensures.any_moment

pub returns-in_err-slot-clause-stops : goal.returns-in_err-slot-clause-stops
returns-in_err-slot-clause-stops g c = λ file told.
    let L = g.met.D.Disk in
    import_stops g.D.Disk L.counts_now L.only_now L.honest c.args.grammar.now file (g.I.Inputs.told c.args.inputs.now c.args.edges.now) c.args.limit c.args.disk.now c.switch.new.disk told (returns-in_err-slot-clause-any_moment g c)

pub returns-clause-stops : goal.returns-clause-stops
returns-clause-stops g c = λ file told.
    let L = g.met.D.Disk in
    import_stops g.D.Disk L.counts_now L.only_now L.honest c.args.grammar.now file (g.I.Inputs.told c.args.inputs.now c.args.edges.now) c.args.limit c.args.disk.now c.switch.new.disk told (returns-clause-any_moment g c)

pub returns-in_err-prepared-clause-stops : goal.returns-in_err-prepared-clause-stops
returns-in_err-prepared-clause-stops g c = λ file told.
    let L = g.met.D.Disk in
    import_stops g.D.Disk L.counts_now L.only_now L.honest c.args.grammar.now file (g.I.Inputs.told c.args.inputs.now c.args.edges.now) c.args.limit c.args.disk.now c.prepare.new.disk told
    (imports_before g.D.Disk.seen g.D.Disk.moment g.D.Disk.left_since g.D.Disk.may_leave L.counts_now L.only_now c.args.disk.now c.prepare.new.disk c.args.grammar.now (g.I.Inputs.told c.args.inputs.now c.args.edges.now) c.args.limit c.prepare.ensures.any_moment)
