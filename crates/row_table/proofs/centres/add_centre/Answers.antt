use Rattle.std.proofs.Common.{refl, sym, ap, ◌∙◌}
use Rattle.std.proofs.lemmas.Bool.{false≢true}
use Rattle.graph_words.specs.declared.types.Vertex.{Vertex}
use Rattle.row_table.proofs.CentreLemmas.{centres_none, centres_one}
use Rattle.row_table.proofs.centres.add_centre.Goals as goal

pub returns-then-not-is_centre : goal.returns-then-not-is_centre
returns-then-not-is_centre c =
    centres_none c.args.rows.now.edges _ c.args.centres.now.items (λ x y mx my e p. false≢true (c.if-not-is_centre.ensures.all x y mx my p (ap (λ (v : Vertex). v.0) (sym e) ∙ p)))

pub returns : goal.returns
returns c = rw c.in_ok-push.ensures.items (centres_one c.args.rows.now.edges c.args.vertex c.args.centres.now.items (c.if-not-is_centre.ensures.yes refl))
