use Rattle.std.proofs.Common.{◌≡◌, refl, arith}
use Rattle.group_number.specs.declared.reading.NumberRead.TheVariants as numbers
use Rattle.partition_file.specs.FieldsRead.{number_in, destination_at, destination_then}
use Rattle.partition_file.proofs.EdgeReading.{passed, number_breaks, rule_breaks, rule_gives}
use Rattle.partition_file.proofs.fields.read_destination.Goals as goal

pub returns-in_err-number : goal.returns-in_err-number
unfolding destination_at
returns-in_err-number c =
    let fault = c.in_err-number.field-0.0 in
    passed (destination_at c.args.expect.now c.args.format c.args.before c.args.label) c.args.place c.args.bytes.now c.from_residual.result fault c.from_residual.ensures.1
    (λ next rest. number_breaks c.args.format 4 c.args.place c.args.bytes.now rest (destination_then c.args.expect.now c.args.format c.args.before c.args.label c.args.place next) fault c.in_err-number.ensures)

pub returns-in_err-dst : goal.returns-in_err-dst
unfolding destination_at
returns-in_err-dst c =
    let fault = c.in_err-dst.field-0.0 in
    let read : number_in c.args.format 4 c.args.bytes.now ≡ numbers.Number c.in-Some.number c.in-Some.len = rw c.in-Some.is at c.in_ok-number.ensures in
    passed (destination_at c.args.expect.now c.args.format c.args.before c.args.label) c.args.place c.args.bytes.now c.from_residual-in_err-dst.result fault c.from_residual-in_err-dst.ensures.1
    (λ next rest. rule_breaks c.args.format 4 c.args.place c.args.bytes.now rest (destination_then c.args.expect.now c.args.format c.args.before c.args.label c.args.place next) c.in-Some.number c.in-Some.len fault (omega arith) read (c.in_err-dst.ensures next))

pub returns : goal.returns
unfolding destination_at
returns c =
    let read : number_in c.args.format 4 c.args.bytes.now ≡ numbers.Number c.in-Some.number c.in-Some.len = rw c.in-Some.is at c.in_ok-number.ensures in
    rule_gives (destination_at c.args.expect.now c.args.format c.args.before c.args.label) c.args.format 4 c.args.place c.args.bytes.now (destination_then c.args.expect.now c.args.format c.args.before c.args.label c.args.place) c.in-Some.number c.in-Some.len c.in_ok-dst.dst (omega arith) read (λ next all. refl) c.in_ok-dst.ensures
