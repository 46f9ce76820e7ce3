use Rattle.row_table.proofs.LoadedLemmas.{absorbed, high_starts_none, high_starts_some}
use Rattle.row_table.proofs.rows.Rows.absorb.Goals as goal

pub merge-requires-clause-absent : goal.merge-requires-clause-absent
merge-requires-clause-absent c = rw c.as_slice.ensures (rw (← c.self.view_is) at c.requires.absent)

pub invariant_of-self-in-Some : goal.invariant_of-self-in-Some
invariant_of-self-in-Some c =
    record {
      loaded = absorbed _ c.args.new.now c.args.birth c.merge.new.edges.items c.self.invariant.loaded (rw c.as_slice.ensures at c.in_ok-merge.ensures.ok) (rw (← c.self.view_is) at c.requires.sources);
      low = rw c.deref.ensures.value at c.set_starts.ensures;
      high = high_starts_some c.merge.new.edges.items c.self.inside.high c.in-Some.high _ c.in-Some.is (rw c.deref-in-Some.ensures.value at c.set_starts-in-Some.ensures);
    }

pub invariant_of-self-in_default : goal.invariant_of-self-in_default
invariant_of-self-in_default c =
    record {
      loaded = absorbed _ c.args.new.now c.args.birth c.merge.new.edges.items c.self.invariant.loaded (rw c.as_slice.ensures at c.in_ok-merge.ensures.ok) (rw (← c.self.view_is) at c.requires.sources);
      low = rw c.deref.ensures.value at c.set_starts.ensures;
      high = high_starts_none c.merge.new.edges.items c.self.inside.high _ c.in_default.is;
    }
