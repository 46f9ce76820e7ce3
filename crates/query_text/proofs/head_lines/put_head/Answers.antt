use Rattle.std.proofs.Common.{◌++◌, ◌∙◌, ℕ, List, subst}
use Rattle.std.proofs.lemmas.Result.{err_from_is_err_and}
use Rattle.io_edge.specs.Devices.{AppendsPrefix}
use Rattle.text_page.specs.Gathered.{HasGathered}
use Rattle.text_page.proofs.Gathering.{gathers_longer, gathers_then}
use Rattle.query_text.specs.Text.{part_lines, vertices_line}
use Rattle.query_text.proofs.head_lines.put_head.Goals as goal

pub returns-in_err-put-clause-gathered : goal.returns-in_err-put-clause-gathered
returns-in_err-put-clause-gathered g c =
    let told = g.O.Sink.told in
    let m = c.args.m.now in
    let p = err_from_is_err_and c.from_residual.result c.from_residual.ensures.1 in
    rw p.1 (gathers_longer (told c.args.sink.now) (told c.put.new.sink) c.args.page.now (vertices_line m.vertices) (part_lines m 0 0 m.parts) (subst (λ (l : List ℕ). AppendsPrefix (told c.args.sink.now) (told c.put.new.sink) (c.args.page.now ++ l)) (c.as_slice.ensures.value ∙ c.vertices_line.ensures) c.in_err-put.ensures.gathered))

pub returns-clause-gathered : goal.returns-clause-gathered
returns-clause-gathered g c =
    let told = g.O.Sink.told in
    let m = c.args.m.now in
    gathers_then (told c.args.sink.now) (told c.put.new.sink) (told c.put_parts.new.sink) c.args.page.now c.put.new.self c.put_parts.new.page c.put_parts.result (vertices_line m.vertices) (part_lines m 0 0 m.parts) (subst (λ (l : List ℕ). HasGathered (told c.args.sink.now) c.args.page.now (told c.put.new.sink) c.put.new.self l) (c.as_slice.ensures.value ∙ c.vertices_line.ensures) c.in_ok-put.ensures.gathered) c.put_parts.ensures.gathered
