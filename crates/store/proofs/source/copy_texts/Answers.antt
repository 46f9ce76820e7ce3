use Rattle.std.proofs.Common.{◌≡◌, ℕ, List, arith}
use Rattle.std.specs.Prelude.{IsTrue}
use Rattle.faults.specs.Counts.{Rose}
use Rattle.graph_words.specs.Text.{distinct}
use Rattle.std.proofs.lemmas.Result.{err_from_is_err_and}
use Rattle.faults.proofs.Handed.{holds_more}
use Rattle.store.proofs.Causes.{copy_implies}
use Rattle.store.proofs.Images.{further_file, nothing}
use Rattle.store.proofs.source.copy_texts.Goals as goal

pub returns-in_err-copied-clause-any_moment : goal.returns-in_err-copied-clause-any_moment
returns-in_err-copied-clause-any_moment g c =
    let D = g.D.Disk in
    let L = g.met.D.Disk in
    further_file D.seen D.moment D.left_since D.may_leave L.counts_now L.only_now c.args.disk.now c.rewrite.new.disk c.copy_edges.new.disk 3 (omega arith)
    (further_file D.seen D.moment D.left_since D.may_leave L.counts_now L.only_now c.args.disk.now c.args.disk.now c.rewrite.new.disk 2 (omega arith) (nothing D.seen D.moment D.left_since D.may_leave L.counts_now L.only_now c.args.disk.now) c.rewrite.ensures.any_moment)
    c.copy_edges.ensures.any_moment

pub returns-clause-any_moment : goal.returns-clause-any_moment
returns-clause-any_moment g c =
    let D = g.D.Disk in
    let L = g.met.D.Disk in
    further_file D.seen D.moment D.left_since D.may_leave L.counts_now L.only_now c.args.disk.now c.rewrite.new.disk c.copy_edges.new.disk 3 (omega arith)
    (further_file D.seen D.moment D.left_since D.may_leave L.counts_now L.only_now c.args.disk.now c.args.disk.now c.rewrite.new.disk 2 (omega arith) (nothing D.seen D.moment D.left_since D.may_leave L.counts_now L.only_now c.args.disk.now) c.rewrite.ensures.any_moment)
    c.copy_edges.ensures.any_moment

pub returns-in_err-copied-clause-cause : goal.returns-in_err-copied-clause-cause
returns-in_err-copied-clause-cause g c =
    let D = g.D.Disk in
    let I = g.I.Inputs in
    let edges : List ℕ = c.args.edges.now in
    let reads : Type 0 = Rose (I.faults c.args.inputs.now edges) (I.faults c.copy_edges.new.inputs edges) in
    let P = λ (names : List (List ℕ)). c.in_ok-rules.names ≡ distinct names in
    let p = err_from_is_err_and c.from_residual-in_err-copied.result c.from_residual-in_err-copied.ensures.1 in
    rw (p.1, p.2)
    (holds_more _ _
    (copy_implies c.args.grammar.now (I.told c.args.inputs.now edges) (IsTrue D.tells) reads P (D.faults c.args.disk.now) (D.faults c.rewrite.new.disk) (D.faults c.copy_edges.new.disk) c.rewrite.ensures.cause.later c.in_ok-rules.ensures.read.names_are)
    _ c.in_err-copied.ensures.cause)
