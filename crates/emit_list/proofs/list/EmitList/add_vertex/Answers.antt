use Rattle.std.proofs.Common.{ℕ, ap, sym, length, subst, arith}
use Rattle.emit_list.specs.Vertices.{Listed, IsBelow}
use Rattle.emit_list.proofs.ListLemmas.{listed_vertex}
use Rattle.emit_list.proofs.list.EmitList.add_vertex.Goals as goal

pub invariant_of-self-2 : goal.invariant_of-self-2
invariant_of-self-2 c =
    let long = ap (λ (l : Listed). length l.vertices) (sym c.self.view_is) in
    let there = subst (λ (n : ℕ). IsBelow n c.args.form) long c.requires.there in
    rw c.in_ok-push.ensures.items (listed_vertex _ _ _ c.self.invariant (omega (arith, long, c.requires.room)) there)
