use Rattle.std.proofs.Common.{◌<◌, length, ap, sym, subst, arith, ◌∙◌, List, ℕ, Option}
use Rattle.std.proofs.lemmas.Result.{err_from_is_err_and}
use Rattle.std.proofs.lemmas.Option.{slice_get_within}
use Rattle.text_page.proofs.Gathering.{GathersOn, goes_further, goes_wrong}
use Rattle.emit_list.specs.Vertices.{made_for}
use Rattle.emit_list.specs.Printed.{text_of, base_text}
use Rattle.emit_list.proofs.TextLemmas.{text_from, text_is}
use Rattle.emit_list.proofs.list.EmitList.put_text.Goals as goal

pub returns-in_err-put_base-clause-gathered : goal.returns-in_err-put_base-clause-gathered
returns-in_err-put_base-clause-gathered g c =
    let told = g.O.Sink.told in
    let vs = c.args.self.now.vertices in
    let text = ap (text_from vs) c.in-Some.is ∙ text_is vs c.in-Some.at c.vertex-vertex.result.now c.vertex-vertex.ensures.vertex c.vertex-vertex.ensures.below in
    let on = subst (λ (l : List ℕ). GathersOn (told c.args.sink.now) c.args.page.now (told c.loop-next.sink) c.loop-next.page (text_of vs c.args.k) l) text c.loop-next.invariant.on in
    let p = err_from_is_err_and c.from_residual.result c.from_residual.ensures.1 in
    rw p.1
    (goes_wrong (told c.args.sink.now) c.args.page.now (told c.loop-next.sink) c.loop-next.page (told c.put_base.new.sink) c.put_base.new.page (text_of vs c.args.k) (base_text c.vertex-vertex.result.now) (text_from vs (made_for c.vertex-vertex.result.now.form)) on c.in_err-put_base.ensures.gathered)

pub loop-next-preserved : goal.loop-next-preserved
loop-next-preserved g c =
    let told = g.O.Sink.told in
    let vs = c.args.self.now.vertices in
    let text = ap (text_from vs) c.in-Some.is ∙ text_is vs c.in-Some.at c.vertex-vertex.result.now c.vertex-vertex.ensures.vertex c.vertex-vertex.ensures.below in
    let on = subst (λ (l : List ℕ). GathersOn (told c.args.sink.now) c.args.page.now (told c.loop-next.sink) c.loop-next.page (text_of vs c.args.k) l) text c.loop-next.invariant.on in
    let at : c.in-Some.at < length vs = slice_get_within vs c.in-Some.at c.vertex-vertex.result.now c.vertex-vertex.ensures.vertex in
    record {
      inside = λ k e. let h : k < c.in-Some.at = c.vertex-vertex.ensures.below k (sym c.made_for-next.ensures ∙ e) in omega arith;
      on = subst (λ (o : Option ℕ). GathersOn (told c.args.sink.now) c.args.page.now (told c.put_base.new.sink) c.put_base.new.page (text_of vs c.args.k) (text_from vs o)) (sym c.made_for-next.ensures)
          (goes_further (told c.args.sink.now) c.args.page.now (told c.loop-next.sink) c.loop-next.page (told c.put_base.new.sink) c.put_base.new.page (text_of vs c.args.k) (base_text c.vertex-vertex.result.now) (text_from vs (made_for c.vertex-vertex.result.now.form)) on c.in_ok-put_base.ensures.gathered);
      count = omega (arith, c.loop-next.invariant.count, c.put_base.ensures.cause.later);
    }
