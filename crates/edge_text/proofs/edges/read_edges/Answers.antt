use Rattle.std.proofs.Common.{List, ℕ, sym, ◌∙◌, subst}
use Rattle.std.proofs.lemmas.Result.{err_from_is_err_and}
use Rattle.edge_text.specs.EdgesText.{ReadsFile}
use Rattle.edge_text.proofs.edges.read_edges.Goals as goal

pub returns-in_err-edges-clause-fault : goal.returns-in_err-edges-clause-fault
returns-in_err-edges-clause-fault g c =
    let p = err_from_is_err_and c.from_residual-in_err-edges.result c.from_residual-in_err-edges.ensures.1 in
    rw (p.1, p.2) (λ line kind file names e t s. c.in_err-edges.ensures.fault line kind file names e t (c.in_ok-reader.ensures.start names (c.in_ok-copy.ensures ∙ s)))

pub returns-clause-edges : goal.returns-clause-edges
returns-clause-edges g c =
    λ names s.
    subst (λ (t : List (List ℕ)). ReadsFile names (g.I.Inputs.told c.args.inputs.now c.args.name.now) c.in_ok-edges.edges t) (sym c.into_table.ensures) (c.in_ok-edges.ensures.edges names (c.in_ok-reader.ensures.start names (c.in_ok-copy.ensures ∙ s)))
