use Rattle.std.proofs.Common.{◌≤◌, max, length, sym, ap, ◌∙◌, refl, arith, subst}
use Rattle.std.proofs.lemmas.Result.{err_from_is_err_and}
use Rattle.normal_law.specs.NormalForm.{normal_form}
use Rattle.edge_text.specs.EdgesText.{vertex_count_of}
use Rattle.edge_text.specs.Feed.{IsFed}
use Rattle.import_text.specs.Gathered.{Gathered, GathersPiece}
use Rattle.import_text.proofs.DegreeLemmas.{few_numbered}
use Rattle.import_text.proofs.TallyLemmas.{fed_on, numbered_added, named_added}
use Rattle.import_text.proofs.GivenLemmas.{AddsJust-same}
use Rattle.import_text.proofs.gathered.Gathering.take.Goals as goal

pub returns-in_err-feed-clause-fault : goal.returns-in_err-feed-clause-fault
returns-in_err-feed-clause-fault c =
    let p = err_from_is_err_and c.from_residual.result c.from_residual.ensures.1 in
    rw (p.1, p.2)
    (λ line kind told names text front f.
    let here = subst (λ (t : Gathered). IsFed 0 names text t.reader front) (sym c.self.view_is) f in
    c.in_err-feed.ensures.fault line kind told 0 names text front (fed_on names text c.self.inside.reader front _ c.clear.ensures.items here))

pub vertex_count-requires : goal.vertex_count-requires
vertex_count-requires c =
    let few = few_numbered _ c.feed.new.edges.items (numbered_added _ _ _ _ _ c.clear.ensures.items c.in_ok-feed.ensures.adds) in
    omega (arith, ap vertex_count_of c.deref.ensures.value, few)

pub add_above-requires : goal.add_above-requires
add_above-requires c =
    let names : length c.self.inside.reader.table ≤ 1000 = subst (λ (t : Gathered). length t.reader.table ≤ 1000) (sym c.self.view_is) c.requires.names in
    rw c.deref-2.ensures.value (named_added _ _ _ _ _ c.clear.ensures.items names c.in_ok-feed.ensures.adds)

pub returns-then-len-max-clause-taken : goal.returns-then-len-max-clause-taken
returns-then-len-max-clause-taken c =
    let e = c.in_ok-feed.ensures in
    let names : length c.self.inside.reader.table ≤ 1000 = subst (λ (t : Gathered). length t.reader.table ≤ 1000) (sym c.self.view_is) c.requires.names in
    let counted = rw c.deref.ensures.value at c.vertex_count.ensures.count in
    let found = rw c.deref-2.ensures.value at c.in_ok-add_above.ensures in
    subst (λ (t : Gathered). GathersPiece (normal_form c.args.normal.now) c.args.piece.now t (record { reader = c.feed.new.self; lo = c.self.inside.lo; hi = c.self.inside.hi; given = c.make_once.new.edges.items; vertices = c.max-self-inside.result })) c.self.view_is
    (record {
      found = c.feed.new.edges.items;
      gathers = record {
        lo = refl;
        hi = refl;
        given = AddsJust-same _ _ _ _ found c.make_once.ensures.same;
        vertices = c.max-self-inside.ensures ∙ ap (max c.self.inside.vertices) counted;
      };
      is_open = e.open;
      place = e.place;
      short = e.short;
      names = e.adds.short names;
      fed = λ names text front f. e.ok 0 names text front (fed_on names text c.self.inside.reader front _ c.clear.ensures.items f);
    })

pub returns-else-len-max-clause-taken : goal.returns-else-len-max-clause-taken
returns-else-len-max-clause-taken c =
    let e = c.in_ok-feed.ensures in
    let names : length c.self.inside.reader.table ≤ 1000 = subst (λ (t : Gathered). length t.reader.table ≤ 1000) (sym c.self.view_is) c.requires.names in
    let counted = rw c.deref.ensures.value at c.vertex_count.ensures.count in
    let found = rw c.deref-2.ensures.value at c.in_ok-add_above.ensures in
    subst (λ (t : Gathered). GathersPiece (normal_form c.args.normal.now) c.args.piece.now t (record { reader = c.feed.new.self; lo = c.self.inside.lo; hi = c.self.inside.hi; given = c.add_above.new.given.items; vertices = c.max-self-inside.result })) c.self.view_is
    (record {
      found = c.feed.new.edges.items;
      gathers = record {
        lo = refl;
        hi = refl;
        given = found;
        vertices = c.max-self-inside.ensures ∙ ap (max c.self.inside.vertices) counted;
      };
      is_open = e.open;
      place = e.place;
      short = e.short;
      names = e.adds.short names;
      fed = λ names text front f. e.ok 0 names text front (fed_on names text c.self.inside.reader front _ c.clear.ensures.items f);
    })
