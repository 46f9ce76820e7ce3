use Rattle.std.proofs.Common.{◌++◌, ℕ, List, subst}
use Rattle.std.specs.Prelude.{Err, Ok}
use Rattle.std.proofs.lemmas.Result.{err_from_is_err_and}
use Rattle.io_edge.specs.Devices.{AppendsPrefix}
use Rattle.io_edge.proofs.DeviceLemmas.{AppendsPrefix-more}
use Rattle.text_page.specs.Gathered.{HasGathered}
use Rattle.text_page.proofs.Gathering.{flushed, gathers_then, stopped}
use Rattle.query_text.specs.Text.{head_text}
use Rattle.query_text.proofs.head_lines.print_all.Goals as goal

pub returns-in_err-put_head-clause-taken : goal.returns-in_err-put_head-clause-taken
returns-in_err-put_head-clause-taken g c =
    let told = g.O.Sink.told in
    let m = c.args.m.now in
    let state = c.state_line-state.result.items in
    let p = err_from_is_err_and c.from_residual.result c.from_residual.ensures.1 in
    (state, c.state_line-state.ensures, rw p.1 (AppendsPrefix-more (told c.args.sink.now) (told c.put_head.new.sink) (head_text m) state (stopped (told c.args.sink.now) (told c.put_head.new.sink) c.new-page.result (head_text m) c.new-page.ensures c.in_err-put_head.ensures.gathered)))

pub returns-in_err-put-clause-taken : goal.returns-in_err-put-clause-taken
returns-in_err-put-clause-taken g c =
    let told = g.O.Sink.told in
    let m = c.args.m.now in
    let state = c.state_line-state.result.items in
    let p = err_from_is_err_and c.from_residual-in_err-put.result c.from_residual-in_err-put.ensures.1 in
    let put = subst (λ (l : List ℕ). AppendsPrefix (told c.put_head.new.sink) (told c.put.new.sink) (c.put_head.new.page ++ l)) c.as_slice.ensures.value c.in_err-put.ensures.gathered in
    let all = gathers_then {U = Unit {0}} {F = Unit {0}} (told c.args.sink.now) (told c.put_head.new.sink) (told c.put.new.sink) c.new-page.result c.put_head.new.page c.put.new.self (Err tt) (head_text m) state c.in_ok-put_head.ensures.gathered put in
    (state, c.state_line-state.ensures, rw p.1 (stopped (told c.args.sink.now) (told c.put.new.sink) c.new-page.result (head_text m ++ state) c.new-page.ensures all))

pub returns-clause-taken : goal.returns-clause-taken
returns-clause-taken g c =
    let told = g.O.Sink.told in
    let m = c.args.m.now in
    let state = c.state_line-state.result.items in
    let put = subst (λ (l : List ℕ). HasGathered (told c.put_head.new.sink) c.put_head.new.page (told c.put.new.sink) c.put.new.self l) c.as_slice.ensures.value c.in_ok-put.ensures.gathered in
    let all = gathers_then {U = Unit {0}} {F = Unit {0}} (told c.args.sink.now) (told c.put_head.new.sink) (told c.put.new.sink) c.new-page.result c.put_head.new.page c.put.new.self (Ok tt) (head_text m) state c.in_ok-put_head.ensures.gathered put in
    (state, c.state_line-state.ensures, flushed (told c.args.sink.now) (told c.put.new.sink) (told c.flush.new.sink) c.new-page.result c.put.new.self c.flush.result (head_text m ++ state) c.new-page.ensures all c.flush.ensures.taken)
