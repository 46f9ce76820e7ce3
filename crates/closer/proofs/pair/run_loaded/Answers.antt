use Rattle.std.proofs.Common.{◌∙◌, ◌-◌, List, ap, sym, subst, length, arith}
use Rattle.std.specs.Prelude.{All}
use Rattle.graph_words.specs.declared.types.Rule.{Rule}
use Rattle.normal_law.specs.NormalForm.{normal_form}
use Rattle.manifest_codec.specs.declared.types.Manifest.{Manifest}
use Rattle.row_table.specs.Loaded.{Loaded}
use Rattle.superstep.specs.Room.{IsInFormat, capacity_of}
use Rattle.closer.proofs.Rooming.{are_run, format, room, run_moved, stands}
use Rattle.closer.proofs.pair.run_loaded.Goals as goal

pub of_two-requires : goal.of_two-requires
of_two-requires c = stands c.args.store.now c.manifest.ensures.store c.requires.0 c.requires.1 c.args.low c.args.high c.requires.2

pub run_pair-requires-clause-format : goal.run_pair-requires-clause-format
run_pair-requires-clause-format c =
    subst (λ (l : Loaded). All IsInFormat l.edges) (sym c.in_ok-rows.ensures) (format c.args.store.now c.manifest.ensures.store c.requires.0 c.requires.1 c.args.low c.args.high c.requires.2)

pub run_pair-requires-clause-room : goal.run_pair-requires-clause-room
run_pair-requires-clause-room c =
    let h = room c.args.store.now c.manifest.ensures.store c.requires.0 c.requires.1 c.args.low c.args.high c.requires.2 in
    let e = ap (λ (l : Loaded). capacity_of l - length l.edges) c.in_ok-rows.ensures in
    let f = ap (λ (m : Manifest). m.round) c.manifest.ensures.manifest in
    omega (arith, h, e, f)

pub returns : goal.returns
returns c =
    are_run c.args.store.now c.manifest.ensures.store c.args.since c.requires.0 c.requires.1 c.added-rounds.result c.args.low c.args.high c.in_ok-low.low c.in_ok-low.high c.run_pair.new.rows c.requires.2 c.in_ok-low.ensures (c.run_pair.ensures.low ∙ ap (λ (l : Loaded). l.low) c.in_ok-rows.ensures) (c.run_pair.ensures.high ∙ ap (λ (l : Loaded). l.high) c.in_ok-rows.ensures) c.limits.ensures
    c.lo-lo.ensures.part c.keeps_rules.ensures c.run_pair.ensures.format
    (λ budget le.
    run_moved _ (normal_form c.args.store.now.rules) _ _ c.args.since _ c.args.store.now.manifest.round budget _ _ c.added-rounds.result c.run_pair.new.rows.edges (ap (λ (r : List Rule). normal_form r) c.normal.ensures.normal) (ap (λ (l : Loaded). l.edges) c.in_ok-rows.ensures) (ap (λ (m : Manifest). m.round) c.manifest.ensures.manifest) c.added-rounds.ensures.closed (sym c.added-rounds.ensures.rounds)
    (c.in_ok-end.ensures.run budget le))
