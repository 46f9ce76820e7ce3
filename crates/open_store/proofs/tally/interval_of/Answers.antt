use Rattle.std.proofs.Common.{◌≤◌, ◌∙◌, sym, arith}
use Rattle.intervals.specs.Bounds.{vertices_of}
use Rattle.open_store.proofs.Places.{place_behind, place_of_lies}
use Rattle.open_store.proofs.tally.interval_of.Goals as goal

pub returns-then-v-vertices : goal.returns-then-v-vertices
returns-then-v-vertices c = sym (place_of_lies c.args.intervals.now c.find.result c.args.v c.len-count.ensures.cut c.find.ensures.lies)

pub returns-else-v-vertices : goal.returns-else-v-vertices
returns-else-v-vertices c =
    let behind : vertices_of c.args.intervals.now ≤ c.args.v = omega (arith, c.if-v-vertices.false, c.requires) in
    c.len-count.ensures.len ∙ sym (place_behind c.args.intervals.now c.args.v c.len-count.ensures.cut behind)
