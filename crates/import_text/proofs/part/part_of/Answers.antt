use Rattle.std.proofs.Common.{◌≡◌, List, sym, ap, subst, ◌∙◌, ◌↔◌, ◌⊎◌}
use Rattle.std.specs.Prelude.{Contains}
use Rattle.graph_words.specs.declared.types.Born.{Born}
use Rattle.graph_words.specs.declared.types.Edge.{Edge}
use Rattle.normal_law.specs.NormalForm.{normal_form}
use Rattle.closing_machine.specs.Rounds.{all_born}
use Rattle.partition_file.specs.Spelling.{Part, IsPart}
use Rattle.import_text.specs.Given.{IsLoopIn}
use Rattle.import_text.proofs.PartLemmas.{part_edges, is_part}
use Rattle.import_text.proofs.part.part_of.Goals as goal

pub new-requires : goal.new-requires
new-requires c =
    let is = c.in_ok-born.ensures ∙ ap (λ (es : List Edge). all_born es 0) c.deref.ensures.value in
    subst (λ (es : List Born). IsPart (record { lo = c.args.lo; hi = c.args.hi; edges = es })) (sym is)
    (is_part (normal_form c.args.normal.now) c.args.lo c.args.hi c.args.given.items _ c.make_once.new.edges.items c.in_ok-add_loops.ensures c.make_once.ensures.same c.requires.bounds c.requires.from c.make_once.ensures.ascending)

pub returns-clause-edges : goal.returns-clause-edges
returns-clause-edges c =
    λ b.
    let is = ap (λ (p : Part). p.edges) c.new.ensures ∙ c.in_ok-born.ensures ∙ ap (λ (es : List Edge). all_born es 0) c.deref.ensures.value in
    subst (λ (es : List Born). Contains es b ↔ ((Contains c.args.given.items b.edge ⊎ IsLoopIn (normal_form c.args.normal.now) c.args.lo c.args.hi b.edge) × (b.birth ≡ 0))) (sym is)
    (part_edges (normal_form c.args.normal.now) c.args.lo c.args.hi c.args.given.items _ c.make_once.new.edges.items c.in_ok-add_loops.ensures c.make_once.ensures.same b)
