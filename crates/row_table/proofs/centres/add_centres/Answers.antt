use Rattle.std.proofs.Common.{◌≡◌, ℕ, ◌≤◌, ◌<◌, arith, subst}
use Rattle.row_table.specs.Joined.{AppendsCentres}
use Rattle.row_table.proofs.CentreLemmas.{span_none, span_more}
use Rattle.row_table.proofs.centres.add_centres.Goals as goal

pub loop-vertex-init : goal.loop-vertex-init
loop-vertex-init c = span_none c.args.rows.now.edges c.args.span.lo c.args.centres.now.items

pub loop-vertex-preserved : goal.loop-vertex-preserved
loop-vertex-preserved c = span_more c.args.rows.now.edges c.args.span.lo c.loop-vertex.vertex c.args.centres.now.items c.loop-vertex.centres.items _ (omega arith) c.loop-vertex.invariant c.in_ok-add_centre.ensures

pub returns : goal.returns
returns c =
    let end : c.loop-vertex.vertex ≡ c.args.span.hi = (let le : c.loop-vertex.vertex ≤ c.args.span.hi = c.loop-vertex.auto.vertex-end c.requires.bounds in omega arith) in
    let P : ℕ → Type 0 = λ w. AppendsCentres c.args.rows.now.edges (λ v. (c.args.span.lo ≤ v) × (v < w)) c.args.centres.now.items c.loop-vertex.centres.items in
    subst P end c.loop-vertex.invariant
