use Rattle.std.proofs.Common.{◌∙◌, ℕ, List, arith, subst}
use Rattle.std.specs.Prelude.{slice_index_or}
use Rattle.std.proofs.lemmas.Result.{err_from_is_err_and}
use Rattle.text_page.specs.Gathered.{HasGathered}
use Rattle.query_text.proofs.Counts.{line_failed, line_gathered, lines_all}
use Rattle.query_text.proofs.label_counts.put_lines.Goals as goal

pub returns-in_err-put-clause-gathered : goal.returns-in_err-put-clause-gathered
returns-in_err-put-clause-gathered g c = λ edges t.
    let told = g.O.Sink.told in
    let l = c.loop-l.l in
    let p = err_from_is_err_and c.from_residual.result c.from_residual.ensures.1 in
    rw p.1
    (line_failed c.args.names.now edges l c.index-names-l.result c.as_slice.result.now (slice_index_or c.args.counts.now l 0) c.as_slice-in-loop-l.result.now c.loop-l-test.true (c.as_slice.ensures ∙ c.index-names-l.is) (t.each l c.loop-l-test.true) (c.as_slice-in-loop-l.ensures.value ∙ c.label_line.ensures) (told c.args.sink.now) (told c.loop-l.sink) (told c.put.new.sink) c.args.page.now c.loop-l.page (c.loop-l.invariant.gathered edges t) c.in_err-put.ensures.gathered)

pub loop-l-preserved : goal.loop-l-preserved
loop-l-preserved g c =
    let told = g.O.Sink.told in
    let l = c.loop-l.l in
    record {
      gathered = λ edges t. line_gathered c.args.names.now edges l c.index-names-l.result c.as_slice.result.now (slice_index_or c.args.counts.now l 0) c.as_slice-in-loop-l.result.now c.loop-l-test.true (c.as_slice.ensures ∙ c.index-names-l.is) (t.each l c.loop-l-test.true) (c.as_slice-in-loop-l.ensures.value ∙ c.label_line.ensures) (told c.args.sink.now) (told c.loop-l.sink) (told c.put.new.sink) c.args.page.now c.loop-l.page c.put.new.self (c.loop-l.invariant.gathered edges t) c.in_ok-put.ensures.gathered;
      count = omega (arith, c.loop-l.invariant.count, c.in_ok-put.ensures.cause.later);
    }

pub returns-clause-gathered : goal.returns-clause-gathered
returns-clause-gathered g c = λ edges t.
    let told = g.O.Sink.told in
    subst (λ (x : List ℕ). HasGathered (told c.args.sink.now) c.args.page.now (told c.loop-l.sink) c.loop-l.page x) (lines_all c.args.names.now edges c.loop-l.l c.loop-l-test.false) (c.loop-l.invariant.gathered edges t)
