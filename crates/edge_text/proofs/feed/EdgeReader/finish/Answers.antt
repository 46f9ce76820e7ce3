use Rattle.std.proofs.Common.{◌+◌, ◌++◌, ap, sym, ◌∙◌, subst, Some, []}
use Rattle.io_edge.specs.Cuts.{Cutting, FinishesCutting, EndsText}
use Rattle.io_edge.specs.declared.step.CutStep.{CutStep}
use Rattle.io_edge.proofs.PieceLemmas.{ended_from}
use Rattle.edge_text.specs.Feed.{EdgeFeed, AddsEdges}
use Rattle.edge_text.proofs.EdgeLemmas.{AddsEdges-none}
use Rattle.edge_text.proofs.FeedLemmas.{fed_as, feeds_end, feeds_last, feeds_last_fault, line_fault_is}
use Rattle.edge_text.proofs.GraphLemmas.{ReadsEdges-from_says}
use Rattle.edge_text.proofs.feed.EdgeReader.finish.Goals as goal

pub returns-in_default : goal.returns-in_default
returns-in_default c =
    record {
      adds = subst (λ (r : EdgeFeed). AddsEdges 1 c.args.edges.now.items r.table c.args.edges.now.items c.self.inside.table) c.self.view_is (AddsEdges-none c.args.edges.now.items c.self.inside.table 1);
      text = tt;
      ok = λ start names text front f.
          let room = c.self.invariant (ap (λ (r : EdgeFeed). r.is_open) c.self.view_is ∙ c.requires.open) in
          let e = ended_from _ _ _ room.is_open c.in_default.not-Line c.finish.ensures in
          ReadsEdges-from_says start names text (front ++ c.args.edges.now.items) c.self.inside.table
          (feeds_end start names text c.self.inside.cutter.held c.self.inside.number c.self.inside.place (front ++ c.args.edges.now.items) c.self.inside.table (fed_as start names text [] (front ++ c.args.edges.now.items) _ _ (sym c.self.view_is) f) e.none);
      fault = tt;
    }

pub returns-clause-ok : goal.returns-clause-ok
returns-clause-ok c =
    λ start names text front f.
    let e : EndsText c.self.inside.cutter c.finish.new.self = subst (λ (s : CutStep). FinishesCutting s c.self.inside.cutter c.finish.new.self) c.in-Line.is c.finish.ensures in
    let is = sym (ap (λ (s : Cutting). s.last) e.state) ∙ sym c.line.ensures in
    ReadsEdges-from_says start names text (front ++ c.add_ended.new.edges.items) c.add_ended.new.table
    (feeds_last start names text c.self.inside.number c.self.inside.place (front ++ c.args.edges.now.items) _ c.self.inside.table _ c.self.inside.cutter c.finish.new.self (fed_as start names text [] (front ++ c.args.edges.now.items) _ _ (sym c.self.view_is) f) e
    (λ before n. c.in_default-add_ended.ensures.ok names before front c.self.inside.cutter.held is e.short n))

pub returns-in-Err-clause-fault : goal.returns-in-Err-clause-fault
returns-in-Err-clause-fault c =
    λ line kind told start names text front f.
    let what = line_fault_is (c.self.inside.number + 1) c.in-Err.fault line kind (sym c.fault_at.ensures ∙ told) in
    let e : EndsText c.self.inside.cutter c.finish.new.self = subst (λ (s : CutStep). FinishesCutting s c.self.inside.cutter c.finish.new.self) c.in-Line.is c.finish.ensures in
    let is = sym (ap (λ (s : Cutting). s.last) e.state) ∙ sym c.line.ensures in
    feeds_last_fault start names text c.self.inside.number c.self.inside.place (front ++ c.args.edges.now.items) c.self.inside.table c.self.inside.cutter c.finish.new.self kind (fed_as start names text [] (front ++ c.args.edges.now.items) _ _ (sym c.self.view_is) f) e
    (λ before n. c.in-Err.ensures.fault kind what.1 names before front c.self.inside.cutter.held is e.short n)
    ∙ ap (λ n. Some (record { line = n; kind = kind })) what.0
