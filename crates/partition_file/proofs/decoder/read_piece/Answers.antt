use Rattle.std.proofs.Common.{◌<◌, length, take, ◌∙◌, arith}
use Rattle.partition_file.specs.declared.types.RowStep.TheVariants as steps
use Rattle.partition_file.specs.Reader.{GivesStep, Uses}
use Rattle.partition_file.proofs.PieceLemmas.{step_all, step_edge, step_open, step_fault, taken_rest}
use Rattle.partition_file.proofs.decoder.read_piece.Goals as goal

pub edges-preserved : goal.edges-preserved
edges-preserved c =
    let old = c.take_rows.new.self in
    let new = c.next-used.new.self in
    let used = c.next-used.result.0 in
    let left = c.split_at.result.1.now in
    let gives : GivesStep old new (take used left) (steps.Edge c.in-Edge.born) = rw c.in-Edge.is at c.next-used.ensures.step in
    let uses : Uses (length left) used (steps.Edge c.in-Edge.born) = rw c.in-Edge.is at c.next-used.ensures.used in
    let some : 0 < used = uses.0 in
    let takes = c.in_ok-whole.ensures.takes in
    record {
      gives = λ more. rw (c.in_ok-push-in-Edge.ensures.items, c.split_at-in-edges.ensures.back) (taken_rest c.args.reader.now c.edges.reader c.take_rows.new.self c.args.edges.now.items c.edges.edges.items c.take_rows.new.edges.items c.args.piece.now c.edges.rest.now c.split_at.result.1.now c.in_ok-whole.whole c.edges.invariant.gives c.in_ok-whole.ensures.takes c.split_at.ensures.back more ∙ step_edge old new c.take_rows.new.edges.items c.in-Edge.born left used more gives);
      taken = omega (arith, c.split_at-in-edges.ensures.back_len, c.split_at.ensures.back_len, c.next-used.ensures.taken, takes.taken, takes.within, c.edges.invariant.taken, uses.1);
      few = omega (arith, c.edges.invariant.few, c.split_at-in-edges.ensures.back_len, c.split_at.ensures.back_len, c.in_ok-push-in-Edge.ensures.len, takes.few, takes.within, some, uses.1);
    }

pub returns-in-Fault-clause-reads : goal.returns-in-Fault-clause-reads
returns-in-Fault-clause-reads c =
    let old = c.take_rows.new.self in
    let new = c.next-used.new.self in
    let used = c.next-used.result.0 in
    let left = c.split_at.result.1.now in
    let gives : GivesStep old new (take used left) (steps.Fault c.in-Fault.fault) = rw c.in-Fault.is at c.next-used.ensures.step in
    λ more. taken_rest c.args.reader.now c.edges.reader c.take_rows.new.self c.args.edges.now.items c.edges.edges.items c.take_rows.new.edges.items c.args.piece.now c.edges.rest.now c.split_at.result.1.now c.in_ok-whole.whole c.edges.invariant.gives c.in_ok-whole.ensures.takes c.split_at.ensures.back more ∙ step_fault old new c.take_rows.new.edges.items c.in-Fault.fault left used more gives

pub returns-in-More-clause-reads : goal.returns-in-More-clause-reads
returns-in-More-clause-reads c = (
  λ more. taken_rest c.args.reader.now c.edges.reader c.take_rows.new.self c.args.edges.now.items c.edges.edges.items c.take_rows.new.edges.items c.args.piece.now c.edges.rest.now c.split_at.result.1.now c.in_ok-whole.whole c.edges.invariant.gives c.in_ok-whole.ensures.takes c.split_at.ensures.back more
      ∙ step_all c.take_rows.new.self c.next-used.new.self c.take_rows.new.edges.items c.split_at.result.1.now c.next-used.result.0 c.next-used.result.1 c.in-More.is c.next-used.ensures.step c.next-used.ensures.used more,
  step_open c.take_rows.new.self c.next-used.new.self c.split_at.result.1.now c.next-used.result.0 c.next-used.result.1 c.in-More.is c.next-used.ensures.step,
)
