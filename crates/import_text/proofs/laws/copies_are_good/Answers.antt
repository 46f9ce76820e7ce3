use Rattle.std.proofs.Common.{List, ap, subst, refl, arith}
use Rattle.graph_words.specs.declared.types.Edge.{Edge}
use Rattle.edge_text.specs.EdgesText.{ReadsEdges, vertex_count_of}
use Rattle.edge_text.proofs.AgainLemmas.{reads_again}
use Rattle.import_text.proofs.laws.copies_are_good.Goals as goal

pub returns : goal.returns
returns c =
    λ names text edges labels r.
    record {
      reads = subst (λ (es : List Edge). ReadsEdges 0 labels text es labels) r.edges_are (reads_again 0 names text edges labels r);
      len_is = refl;
      few = omega (arith, ap vertex_count_of r.edges_are);
    }
