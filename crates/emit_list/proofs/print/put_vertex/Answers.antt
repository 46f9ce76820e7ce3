use Rattle.std.proofs.Common.{◌++◌, ◌∷◌, [], subst, ◌∙◌, List, ℕ, codes}
use Rattle.std.specs.Prelude.{decimal}
use Rattle.std.proofs.lemmas.Result.{err_from_is_err_and}
use Rattle.io_edge.specs.Devices.{AppendsPrefix}
use Rattle.text_page.specs.Gathered.{HasGathered}
use Rattle.text_page.proofs.Gathering.{goes_further, goes_on, goes_to_end, goes_wrong}
use Rattle.emit_list.specs.Printed.{text_of, vertex_line}
use Rattle.emit_list.proofs.print.put_vertex.Goals as goal

pub returns-in_err-put_named-clause-gathered : goal.returns-in_err-put_named-clause-gathered
returns-in_err-put_named-clause-gathered g c =
    let told = g.O.Sink.told in
    let line = vertex_line c.args.list.now.vertices c.args.k in
    let digits = decimal c.args.k in
    let at0 = goes_on (told c.args.sink.now) c.args.page.now line in
    let named = subst (λ (l : List ℕ). AppendsPrefix (told c.args.sink.now) (told c.put_named.new.sink) (c.args.page.now ++ (codes "# " ++ l))) (c.as_bytes.ensures.value ∙ c.format.ensures.text) c.in_err-put_named.ensures.gathered in
    let p = err_from_is_err_and c.from_residual.result c.from_residual.ensures.1 in
    rw p.1 (goes_wrong _ _ _ _ _ c.put_named.new.page line (codes "# " ++ digits) _ at0 named)

pub returns-in_err-put-clause-gathered : goal.returns-in_err-put-clause-gathered
returns-in_err-put-clause-gathered g c =
    let told = g.O.Sink.told in
    let line = vertex_line c.args.list.now.vertices c.args.k in
    let text = text_of c.args.list.now.vertices c.args.k in
    let digits = decimal c.args.k in
    let at0 = goes_on (told c.args.sink.now) c.args.page.now line in
    let named = subst (λ (l : List ℕ). HasGathered (told c.args.sink.now) c.args.page.now (told c.put_named.new.sink) c.put_named.new.page (codes "# " ++ l)) (c.as_bytes.ensures.value ∙ c.format.ensures.text) c.in_ok-put_named.ensures.gathered in
    let at1 = goes_further _ _ _ _ _ _ line (codes "# " ++ digits) (32 ∷ (text ++ 10 ∷ [])) at0 named in
    let p = err_from_is_err_and c.from_residual-in_err-put.result c.from_residual-in_err-put.ensures.1 in
    rw p.1 (goes_wrong _ _ _ _ _ c.put.new.self line (32 ∷ []) (text ++ 10 ∷ []) at1 c.in_err-put.ensures.gathered)

pub returns-in_err-put_text-clause-gathered : goal.returns-in_err-put_text-clause-gathered
returns-in_err-put_text-clause-gathered g c =
    let told = g.O.Sink.told in
    let line = vertex_line c.args.list.now.vertices c.args.k in
    let text = text_of c.args.list.now.vertices c.args.k in
    let digits = decimal c.args.k in
    let at0 = goes_on (told c.args.sink.now) c.args.page.now line in
    let named = subst (λ (l : List ℕ). HasGathered (told c.args.sink.now) c.args.page.now (told c.put_named.new.sink) c.put_named.new.page (codes "# " ++ l)) (c.as_bytes.ensures.value ∙ c.format.ensures.text) c.in_ok-put_named.ensures.gathered in
    let at1 = goes_further _ _ _ _ _ _ line (codes "# " ++ digits) (32 ∷ (text ++ 10 ∷ [])) at0 named in
    let at2 = goes_further _ _ _ _ _ _ line (32 ∷ []) (text ++ 10 ∷ []) at1 c.in_ok-put.ensures.gathered in
    let p = err_from_is_err_and c.from_residual-in_err-put_text.result c.from_residual-in_err-put_text.ensures.1 in
    rw p.1 (goes_wrong _ _ _ _ _ c.put_text.new.page line text (10 ∷ []) at2 c.in_err-put_text.ensures.gathered)

pub returns-clause-gathered : goal.returns-clause-gathered
returns-clause-gathered g c =
    let told = g.O.Sink.told in
    let line = vertex_line c.args.list.now.vertices c.args.k in
    let text = text_of c.args.list.now.vertices c.args.k in
    let digits = decimal c.args.k in
    let at0 = goes_on (told c.args.sink.now) c.args.page.now line in
    let named = subst (λ (l : List ℕ). HasGathered (told c.args.sink.now) c.args.page.now (told c.put_named.new.sink) c.put_named.new.page (codes "# " ++ l)) (c.as_bytes.ensures.value ∙ c.format.ensures.text) c.in_ok-put_named.ensures.gathered in
    let at1 = goes_further _ _ _ _ _ _ line (codes "# " ++ digits) (32 ∷ (text ++ 10 ∷ [])) at0 named in
    let at2 = goes_further _ _ _ _ _ _ line (32 ∷ []) (text ++ 10 ∷ []) at1 c.in_ok-put.ensures.gathered in
    let at3 = goes_further _ _ _ _ _ _ line text (10 ∷ []) at2 c.in_ok-put_text.ensures.gathered in
    goes_to_end _ _ _ _ _ c.put-2.new.self line (10 ∷ []) c.put-2.result at3 c.put-2.ensures.gathered
