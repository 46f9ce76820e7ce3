use Rattle.std.proofs.Common.{◌≡◌, ◌+◌, ◌++◌, ap, sym, ◌∙◌, take, subst, Some}
use Rattle.io_edge.specs.Cuts.{Cutting, FeedsCutting, CuttingGoesOn, EndsLine}
use Rattle.io_edge.specs.declared.step.CutStep.{CutStep}
use Rattle.faults.specs.declared.kinds.InputKind.TheVariants.{LineTooLong}
use Rattle.io_edge.proofs.PieceLemmas.{refused_from}
use Rattle.edge_text.specs.Feed.{EdgeFeed, AddsEdges}
use Rattle.edge_text.proofs.EdgeLemmas.{AddsEdges-none}
use Rattle.edge_text.proofs.FeedLemmas.{fed_as, feeds_whole, feeds_line, feeds_fault, feeds_too_long, line_fault_is}
use Rattle.edge_text.proofs.feed.EdgeReader.take_line.Goals as goal

pub returns-in-More-clause-adds : goal.returns-in-More-clause-adds
returns-in-More-clause-adds c = subst (λ (r : EdgeFeed). AddsEdges 1 c.args.edges.now.items r.table c.args.edges.now.items c.self.inside.table) c.self.view_is (AddsEdges-none c.args.edges.now.items c.self.inside.table 1)

pub returns-in-More-clause-ok : goal.returns-in-More-clause-ok
returns-in-More-clause-ok c =
    λ start names text front f.
    let g : CuttingGoesOn c.self.inside.cutter c.args.rest.now c.feed-fed.result.used c.feed-fed.new.self = subst (λ (s : CutStep). FeedsCutting s c.self.inside.cutter c.args.rest.now c.feed-fed.result.used c.feed-fed.new.self) c.in-More.is c.feed-fed.ensures in
    feeds_whole start names text c.args.rest.now c.self.inside.number c.self.inside.place c.feed-fed.result.used (front ++ c.args.edges.now.items) c.self.inside.table c.self.inside.cutter c.feed-fed.new.self (fed_as start names text c.args.rest.now (front ++ c.args.edges.now.items) _ _ (sym c.self.view_is) f) g

pub returns-in-LineTooLong-clause-fault : goal.returns-in-LineTooLong-clause-fault
returns-in-LineTooLong-clause-fault c =
    λ line kind told start names text front f later.
    let number : c.self.inside.number + 1 ≡ line = cc in
    let same : LineTooLong ≡ kind = cc in
    let room = c.self.invariant (ap (λ (r : EdgeFeed). r.is_open) c.self.view_is ∙ c.requires.open) in
    feeds_too_long start names text c.args.rest.now c.self.inside.number c.self.inside.place c.feed-fed.result.used (front ++ c.args.edges.now.items) c.self.inside.table c.self.inside.cutter c.feed-fed.new.self room.is_open
    (fed_as start names text c.args.rest.now (front ++ c.args.edges.now.items) _ _ (sym c.self.view_is) f)
    (refused_from _ _ _ _ _ c.in-LineTooLong.is c.feed-fed.ensures) later
    ∙ ap (λ n. Some (record { line = n; kind = LineTooLong })) number
    ∙ ap (λ k. Some (record { line = line; kind = k })) same

pub returns-in-Ok-clause-ok : goal.returns-in-Ok-clause-ok
returns-in-Ok-clause-ok c =
    λ start names text front f.
    let e : EndsLine c.self.inside.cutter c.args.rest.now c.feed-fed.result.used c.feed-fed.new.self = subst (λ (s : CutStep). FeedsCutting s c.self.inside.cutter c.args.rest.now c.feed-fed.result.used c.feed-fed.new.self) c.in-Line.is c.feed-fed.ensures in
    let is = sym (ap (λ (s : Cutting). s.last) e.state) ∙ sym c.line.ensures in
    feeds_line start names text c.args.rest.now c.self.inside.number c.self.inside.place c.feed-fed.result.used (front ++ c.args.edges.now.items) _ c.self.inside.table _ c.self.inside.cutter c.feed-fed.new.self
    (fed_as start names text c.args.rest.now (front ++ c.args.edges.now.items) _ _ (sym c.self.view_is) f) e
    (λ before n. c.in-Ok.ensures.ok names before front (c.self.inside.cutter.held ++ take c.feed-fed.result.used c.args.rest.now) is e.short n)

pub returns-in-Err-clause-fault : goal.returns-in-Err-clause-fault
returns-in-Err-clause-fault c =
    λ line kind told start names text front f later.
    let what = line_fault_is (c.self.inside.number + 1) c.in-Err.fault line kind (sym c.fault_at.ensures ∙ told) in
    let e : EndsLine c.self.inside.cutter c.args.rest.now c.feed-fed.result.used c.feed-fed.new.self = subst (λ (s : CutStep). FeedsCutting s c.self.inside.cutter c.args.rest.now c.feed-fed.result.used c.feed-fed.new.self) c.in-Line.is c.feed-fed.ensures in
    let is = sym (ap (λ (s : Cutting). s.last) e.state) ∙ sym c.line.ensures in
    feeds_fault start names text c.args.rest.now c.self.inside.number c.self.inside.place c.feed-fed.result.used (front ++ c.args.edges.now.items) c.self.inside.table c.self.inside.cutter c.feed-fed.new.self kind
    (fed_as start names text c.args.rest.now (front ++ c.args.edges.now.items) _ _ (sym c.self.view_is) f) e
    (λ before n. c.in-Err.ensures.fault kind what.1 names before front (c.self.inside.cutter.held ++ take c.feed-fed.result.used c.args.rest.now) is e.short n) later
    ∙ ap (λ n. Some (record { line = n; kind = kind })) what.0
