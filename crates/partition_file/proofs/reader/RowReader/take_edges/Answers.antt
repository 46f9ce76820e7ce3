use Rattle.std.proofs.Common.{◌≡◌, ℕ, List, [], length, take, ap, arith}
use Rattle.partition_file.specs.declared.types.Stage.TheVariants as stages
use Rattle.partition_file.proofs.Feeding.{nothing_in}
use Rattle.partition_file.proofs.reader.RowReader.take_edges.Goals as goal

pub invariant_of-self : goal.invariant_of-self
invariant_of-self c =
    let i = c.self.inside in
    let none : take i.count i.held ≡ [] = rw (← c.self.view_is) at c.requires.start in
    rw none (
      c.self.invariant.0,
      record {
        bounds = c.self.invariant.1.bounds;
        stage = c.in_ok-used.ensures.stage;
        partial = nothing_in c.in_ok-used.stage;
      },
    )

pub returns-clause-takes : goal.returns-clause-takes
returns-clause-takes c =
    let i = c.self.inside in
    let none : take i.count i.held ≡ [] = rw (← c.self.view_is) at c.requires.start in
    let stage : i.stage ≡ stages.Label c.args.row = rw (← c.self.view_is) at c.requires.stage in
    let held : length (take i.count i.held) ≡ 0 = ap (λ (x : List ℕ). length x) none in
    let given = c.in_ok-used.ensures in
    record {
      reads = rw (← c.self.view_is, none, stage) given.reads;
      within = given.within;
      taken = rw (← c.self.view_is) (omega (arith, held));
      few = given.few;
    }
