use Rattle.std.proofs.Common.{ℕ, List, length, sym, subst}
use Rattle.std.specs.Prelude.{Err, Ok}
use Rattle.std.proofs.lemmas.Result.{err_from_is_err_and}
use Rattle.query_text.specs.Text.{tally_text}
use Rattle.text_page.specs.Gathered.{HasGathered}
use Rattle.query_text.specs.Shown.{AreTallied}
use Rattle.text_page.proofs.Gathering.{flushed}
use Rattle.query_text.proofs.Showing.{if_err_is}
use Rattle.query_text.proofs.label_counts.print_lines.Goals as goal

pub returns-in_err-flush-clause-taken : goal.returns-in_err-flush-clause-taken
returns-in_err-flush-clause-taken g c = λ edges t.
    let told = g.O.Sink.told in
    let p = err_from_is_err_and c.from_residual-in_err-flush.result c.from_residual-in_err-flush.ensures.1 in
    let same = c.names.ensures.names in
    let here = subst (λ (l : List (List ℕ)). AreTallied (length l) edges c.args.counts.now) (sym same) t in
    let put = c.in_ok-put_lines.ensures.gathered edges here in
    let whole = subst (λ (l : List (List ℕ)). HasGathered (told c.args.sink.now) c.new-page.result (told c.put_lines.new.sink) c.put_lines.new.page (tally_text l edges)) same put in
    rw p.1 (flushed {U = Unit {0}} {F = Unit {0}} (told c.args.sink.now) (told c.put_lines.new.sink) (told c.flush.new.sink) c.new-page.result c.put_lines.new.page (Err tt) (tally_text c.args.table.now edges) c.new-page.ensures whole c.in_err-flush.ensures.taken)

pub returns-clause-taken : goal.returns-clause-taken
returns-clause-taken g c = λ edges t.
    let told = g.O.Sink.told in
    let same = c.names.ensures.names in
    let here = subst (λ (l : List (List ℕ)). AreTallied (length l) edges c.args.counts.now) (sym same) t in
    let put = c.in_ok-put_lines.ensures.gathered edges here in
    let whole = subst (λ (l : List (List ℕ)). HasGathered (told c.args.sink.now) c.new-page.result (told c.put_lines.new.sink) c.put_lines.new.page (tally_text l edges)) same put in
    flushed {U = Unit {0}} {F = Unit {0}} (told c.args.sink.now) (told c.put_lines.new.sink) (told c.flush.new.sink) c.new-page.result c.put_lines.new.page (Ok tt) (tally_text c.args.table.now edges) c.new-page.ensures whole c.in_ok-flush.ensures.taken

pub returns-in_err-put_lines-clause-alone : goal.returns-in_err-put_lines-clause-alone
returns-in_err-put_lines-clause-alone g c = if_err_is c.from_residual.result _ c.from_residual.ensures.1

pub returns-in_err-flush-clause-alone : goal.returns-in_err-flush-clause-alone
returns-in_err-flush-clause-alone g c = if_err_is c.from_residual-in_err-flush.result _ c.from_residual-in_err-flush.ensures.1
