use Rattle.std.proofs.Common.{refl, ap, ◌∙◌}
use Rattle.partition_file.specs.Spelling.{Part}
use Rattle.row_table.specs.Loaded.{Loaded}
use Rattle.bench.proofs.Ascending.{absorbed_fit}
use Rattle.bench.proofs.rows.load.Goals as goal

pub returns-clause-format : goal.returns-clause-format
returns-clause-format c =
    absorbed_fit c.in_ok-rows.rows _ _ c.args.vertices 0
    (ap (λ (l : Loaded). l.edges) c.in_ok-rows.ensures ∙ ap (λ (p : Part). p.edges) c.new-empty.ensures ∙ c.new.ensures.items)
    c.in_ok-absorb.ensures.ok
    (rw c.from_vec-first.ensures (rw c.deref-else-not-ascend.ensures.value at (c.if-not-fit.ensures refl)))
