use Rattle.std.proofs.Common.{ℕ, List, sym, subst}
use Rattle.dest_map.specs.Table.{counts_of}
use Rattle.pair_sched.specs.Marks.{joined_of, newest_of}
use Rattle.pair_sched.specs.Pick.{IsClean, IsLeastDirty}
use Rattle.query_text.specs.Text.{IsStateLine}
use Rattle.query_text.specs.Text.IsStateLine.{finished, unfinished}
use Rattle.query_text.proofs.head_lines.state_line.Goals as goal

pub returns-in-None : goal.returns-in-None
returns-in-None c =
    let m = c.args.m.now in
    subst (λ (l : List ℕ). IsStateLine m l) (sym c.finished_line.ensures) (finished (subst (λ (n : ℕ). IsClean (counts_of m.map) (joined_of m.marks) (newest_of m.marks) n) c.requires.map.size c.in-None.ensures.none))

pub returns-in-Some : goal.returns-in-Some
returns-in-Some c =
    let m = c.args.m.now in
    subst (λ (l : List ℕ). IsStateLine m l) (sym c.unfinished_line.ensures) (unfinished c.in-Some.i c.in-Some.j (subst (λ (n : ℕ). IsLeastDirty (counts_of m.map) (joined_of m.marks) (newest_of m.marks) n c.in-Some.i c.in-Some.j) c.requires.map.size c.in-Some.ensures.some))
