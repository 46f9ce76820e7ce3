use Rattle.std.proofs.Common.{◌≡◌, ◌∙◌, ◌+◌, ◌++◌, ◌∷◌, [], ap, sym, subst, inl, inr, ℕ, List, length, arith}
use Rattle.std.specs.Prelude.{max, slice_index_or, slice_set}
use Rattle.std.proofs.lemmas.Bool.{cases_lt}
use Rattle.closing_machine.specs.State.{target}
use Rattle.open_store.specs.Stream.{IsTally}
use Rattle.open_store.proofs.TallySteps.{counted_row, tally_in, tally_out}
use Rattle.open_store.proofs.tally.Tally.add.Goals as goal

pub returns-clause-tally : goal.returns-clause-tally
returns-clause-tally c = λ before t.
    let ends = c.args.intervals.now in
    let b = c.args.born.now in
    let row = c.args.self.now.row.items in
    let at : c.interval_of-j.result ≡ target ends b = c.interval_of-j.ensures in
    elim (cases_lt (target ends b) (length row)) [
      | inl low ↦
          let is : c.count_at.new.row.items ≡ counted_row ends row b =
          c.count_at.ensures.within (omega (arith, at, low)) ∙ ap (λ (j : ℕ). slice_set row j (slice_index_or row j 0 + 1)) at in
          rw (is, c.max-self.ensures) (tally_in ends before row c.args.self.now.newest b t)
      | inr past ↦
          rw (c.count_at.ensures.behind (omega (arith, at, past)), c.max-self.ensures) (tally_out ends before row c.args.self.now.newest b (omega (arith, past, t.size)) t)
    ]
