use Rattle.std.proofs.Common.{◌≡◌, ◌+◌, ◌∙◌, [], take, sym, arith}
use Rattle.partition_file.specs.declared.types.Stage.TheVariants as stages
use Rattle.partition_file.specs.Stages.{behind_row}
use Rattle.partition_file.proofs.Feeding.{nothing_in, stage_from_next}
use Rattle.partition_file.proofs.NumberLaws.{number_len}
use Rattle.partition_file.proofs.EdgeReading.{count_gives}
use Rattle.partition_file.proofs.reader.RowReader.take_count.Goals as goal

pub overflow_add-self : goal.overflow_add-self
overflow_add-self c =
    let size = number_len c.args.format 8 c.args.bytes.now c.in-Ok-Some.count c.in-Ok-Some.len (omega arith) (rw c.in-Ok-Some.field-0-is at c.in-Ok-Some.ensures) in
    let small = rw (← c.self.view_is) at c.requires.small in
    omega (arith, size.1, small)

pub invariant_of-self : goal.invariant_of-self
invariant_of-self c =
    let i = c.self.inside in
    let none : take i.count i.held ≡ [] = rw (← c.self.view_is) at c.requires.start in
    rw none (
      c.self.invariant.0,
      record {
        bounds = c.self.invariant.1.bounds;
        stage = stage_from_next i.expect c.row_from-self-inside.result c.row_from-self-inside.ensures.stage;
        partial = nothing_in c.row_from-self-inside.result;
      },
    )

pub returns-clause-feeds : goal.returns-clause-feeds
returns-clause-feeds c =
    let i = c.self.inside in
    let none : take i.count i.held ≡ [] = rw (← c.self.view_is) at c.requires.start in
    let stage : i.stage ≡ stages.Count c.args.format c.args.vertex = rw (← c.self.view_is) at c.requires.stage in
    rw (← c.self.view_is, none, stage) (λ more.
    count_gives i.expect c.args.format c.args.vertex (behind_row i.expect c.args.format c.args.vertex) i.place c.args.bytes.now more c.in-Ok-Some.count c.in-Ok-Some.len (rw c.in-Ok-Some.field-0-is at c.in-Ok-Some.ensures)
    ∙ sym (c.row_from-self-inside.ensures.next (i.place + c.in-Ok-Some.len) more))

pub returns-clause-within : goal.returns-clause-within
returns-clause-within c = (number_len c.args.format 8 c.args.bytes.now c.in-Ok-Some.count c.in-Ok-Some.len (omega arith) (rw c.in-Ok-Some.field-0-is at c.in-Ok-Some.ensures)).1
