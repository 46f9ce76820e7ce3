use Rattle.std.proofs.Common.{◌≡◌, ℕ, ◌+◌, ◌-◌, ◌^◌, ◌≤◌, List, true, Some}
use Rattle.edge_text.proofs.FeedLemmas.{IsReadTo}
use Rattle.graph_words.specs.declared.limits.TheConstants.{LONGEST_EDGES}
use Rattle.edge_text.proofs.edges.read_text.Given as goal

abbrev pub invariant-loop-edges : goal.invariant-loop-edges
invariant-loop-edges g l =
    record {
      is_open : l.reader.is_open ≡ true;
      place : l.reader.place ≡ l.place;
      short : l.place ≤ LONGEST_EDGES + 4097;
      kept : g.I.Inputs.told l.inputs ≡ g.I.Inputs.told l.initial.inputs;
      count : (k : List ℕ) → g.I.Inputs.faults l.initial.inputs k ≤ g.I.Inputs.faults l.inputs k;
      reads : (text : List ℕ) × IsReadTo (λ file. g.I.Inputs.told l.initial.inputs l.name ≡ Some file) l.fn.reader l.reader text l.edges.items;
    }

abbrev pub decreases-loop-edges : goal.decreases-loop-edges
decreases-loop-edges g l = 2 ^ 41 - l.place
