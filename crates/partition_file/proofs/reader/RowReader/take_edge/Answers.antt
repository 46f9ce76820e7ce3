use Rattle.std.proofs.Common.{◌≡◌, ◌+◌, ◌∙◌, [], take, refl, sym, ap, length, Ok, Some, arith}
use Rattle.std.proofs.lemmas.List.{take_all}
use Rattle.partition_file.specs.declared.types.Stage.TheVariants as stages
use Rattle.partition_file.specs.FieldsRead.{edge_at, then_found}
use Rattle.partition_file.specs.Stages.{behind_edge}
use Rattle.partition_file.proofs.Feeding.{nothing_in, stage_from_next}
use Rattle.partition_file.specs.Reader.{Gives}
use Rattle.partition_file.proofs.reader.RowReader.take_edge.Goals as goal

pub invariant_of-self : goal.invariant_of-self
invariant_of-self c =
    let i = c.self.inside in
    let none : take i.count i.held ≡ [] = rw (← c.self.view_is) at c.requires.start in
    rw none (
      c.self.invariant.0,
      record {
        bounds = c.self.invariant.1.bounds;
        stage = stage_from_next i.expect c.row_from-self-inside.result c.row_from-self-inside.ensures.stage;
        partial = nothing_in c.row_from-self-inside.result;
      },
    )

pub returns-in-Ok-Some-clause-feeds : goal.returns-in-Ok-Some-clause-feeds
returns-in-Ok-Some-clause-feeds c =
    let i = c.self.inside in
    let r = c.args.row in
    let none : take i.count i.held ≡ [] = rw (← c.self.view_is) at c.requires.start in
    let stage : i.stage ≡ stages.Label r = rw (← c.self.view_is) at c.requires.stage in
    let gives : Gives (edge_at i.expect r.format r.vertex r.before) i.place c.args.bytes.now (Ok (Some (c.in-Ok-Some.born, c.in-Ok-Some.len))) = rw c.in-Ok-Some.field-0-is at c.in-Ok-Some.ensures in
    rw (← c.self.view_is, none, stage) (λ more.
    gives.2 (behind_edge i.expect r.format r.vertex r.left) more
    ∙ ap (then_found c.in-Ok-Some.born) (sym (c.row_from-self-inside.ensures.next (i.place + c.in-Ok-Some.len) more)))

pub returns-in-Err-clause-feeds : goal.returns-in-Err-clause-feeds
returns-in-Err-clause-feeds c =
    let i = c.self.inside in
    let r = c.args.row in
    let none : take i.count i.held ≡ [] = rw (← c.self.view_is) at c.requires.start in
    let stage : i.stage ≡ stages.Label r = rw (← c.self.view_is) at c.requires.stage in
    (rw (← c.self.view_is, none, stage, take_all (length c.args.bytes.now) c.args.bytes.now (omega arith)) (λ more. c.in-Err.ensures (behind_edge i.expect r.format r.vertex r.left) more), refl)
