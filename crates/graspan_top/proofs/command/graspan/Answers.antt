use Rattle.std.proofs.Common.{◌≡◌, refl, sym, subst, ◌∙◌, arith}
use Rattle.faults.specs.Counts.{Rose}
use Rattle.command_words.specs.Command.{Said, run, said}
use Rattle.command_words.proofs.ReadingLemmas.{one_reading}
use Rattle.graspan_top.specs.Command.{IsBegunOf, IsTextOf, knows, stages_of}
use Rattle.graspan_top.specs.Faults.{of_words}
use Rattle.graspan_top.specs.Given.{Given}
use Rattle.graspan_top.specs.Printed.{Begins, BeginsWhole, Prints, PrintsFirst, status_of}
use Rattle.graspan_top.specs.declared.status.Status.{Status}
use Rattle.graspan_top.specs.declared.status.Status.TheVariants.{Done}
use Rattle.graspan_top.specs.Refusals.{Explained, rises_of}
use Rattle.graspan_top.proofs.StageLemmas.{Grow, explained_more}
use Rattle.graspan_top.proofs.CommandLemmas.{nothing_begun_of, said_more, words_back, words_explain, words_not_done, words_or_memory, explains_no_words}
use Rattle.graspan_top.proofs.ExplainLemmas.{rose_later}
use Rattle.graspan_top.proofs.StopLemmas.{spared_nowhere, work_nowhere}
use Rattle.graspan_top.specs.Stops.{Spares}
use Rattle.graspan_top.proofs.PrintLemmas.{begins, ends_later, nothing_first, prints}
use Rattle.graspan_top.proofs.command.graspan.Goals as goal

pub returns-in-Ok-clause-explained : goal.returns-in-Ok-clause-explained
returns-in-Ok-clause-explained g c = λ d reading.
    let D = g.D.Disk in
    let I = g.I.Inputs in
    let O = g.O.Sink in
    let x : Given = record { told = I.told c.args.inputs.now; tells = D.tells; before = D.seen c.args.disk.now } in
    let now = c.carry_out-ended.new in
    let after = D.seen now.disk in
    let part = rises_of I D O c.args.inputs.now now.inputs c.args.disk.now now.disk c.args.out.now now.out in
    let whole = rises_of I D O c.args.inputs.now now.inputs c.args.disk.now now.disk c.args.out.now c.end.new.out in
    let grow : Grow part whole =
    record {
      reads = λ name h. h;
      disk = λ h. h;
      writes = rose_later (O.faults c.args.out.now) (O.faults c.args.out.now) (O.faults now.out) (O.faults c.end.new.out) (omega arith) c.end.ensures.writes;
    } in
    let k = said c.in-Ok.command in
    let same : k ≡ d = one_reading c.args.words.now k d c.in-Ok.ensures.reading reading in
    subst (λ (k : Said). Explained (stages_of x after whole k) c.end.result) same
    (subst (Explained (stages_of x after whole k)) (sym c.end.ensures.status)
    (explained_more (stages_of x after part k) (stages_of x after whole k) (said_more x after part whole grow k) (status_of c.carry_out-ended.result) c.carry_out-ended.ensures.explained))

pub returns-in-Ok-clause-printed : goal.returns-in-Ok-clause-printed
returns-in-Ok-clause-printed g c = λ d reading.
    let D = g.D.Disk in
    let O = g.O.Sink in
    let tells = D.tells in
    let inputs = g.I.Inputs.told c.args.inputs.now in
    let after = D.seen c.carry_out-ended.new.disk in
    let k = said c.in-Ok.command in
    let same : k ≡ d = one_reading c.args.words.now k d c.in-Ok.ensures.reading reading in
    let old = O.told c.args.out.now in
    let mid = O.told c.carry_out-ended.new.out in
    let new = O.told c.end.new.out in
    let late : Type 0 = Rose (O.faults c.carry_out-ended.new.out) (O.faults c.end.new.out) in
    let rose : Type 0 = Rose (O.faults c.args.out.now) (O.faults c.end.new.out) in
    let more = rose_later (O.faults c.args.out.now) (O.faults c.carry_out-ended.new.out) (O.faults c.end.new.out) (O.faults c.end.new.out) c.carry_out-ended.ensures.writes (omega arith) in
    let ends = ends_later mid new late rose more c.end.result c.end.ensures.ends in
    let first : PrintsFirst (knows tells inputs k) (IsTextOf inputs after k) old mid c.end.result = subst (λ (s : Status). PrintsFirst (knows tells inputs k) (IsTextOf inputs after k) old mid s) (sym c.end.ensures.status) c.carry_out-ended.ensures.printed in
    let begun : Begins (knows tells inputs k) (IsBegunOf inputs after k) old mid c.end.result = subst (λ (s : Status). Begins (knows tells inputs k) (IsBegunOf inputs after k) old mid s) (sym c.end.ensures.status) c.carry_out-ended.ensures.begun in (
      subst (λ (k : Said). Prints (knows tells inputs k) (IsTextOf inputs after k) old new rose c.end.result) same (prints (knows tells inputs k) (IsTextOf inputs after k) old mid new rose c.end.result first ends),
      subst (λ (k : Said). BeginsWhole (knows tells inputs k) (IsBegunOf inputs after k) old new rose c.end.result) same (begins (knows tells inputs k) (IsBegunOf inputs after k) old mid new rose c.end.result begun ends),
    )

pub returns-in-Err-clause-printed : goal.returns-in-Err-clause-printed
returns-in-Err-clause-printed g c = λ d reading.
    let D = g.D.Disk in
    let O = g.O.Sink in
    let inputs = g.I.Inputs.told c.args.inputs.now in
    let known = knows D.tells inputs d in
    let seen = D.seen c.args.disk.now in
    let old = O.told c.args.out.now in
    let new = O.told c.end-in-Err.new.out in
    let rose : Type 0 = Rose (O.faults c.args.out.now) (O.faults c.end-in-Err.new.out) in
    let s = c.end-in-Err.result in
    let not : s ≡ Done → ⊥ = λ done. words_not_done c.in-Err.fault (sym c.from.ensures ∙ sym c.end-in-Err.ensures.status ∙ done) in (
      prints known (IsTextOf inputs seen d) old old new rose s (nothing_first known (IsTextOf inputs seen d) old s not) c.end-in-Err.ensures.ends,
      begins known (IsBegunOf inputs seen d) old old new rose s (nothing_begun_of known inputs seen d old s) c.end-in-Err.ensures.ends,
    )

pub returns-in-Ok-clause-exact : goal.returns-in-Ok-clause-exact
returns-in-Ok-clause-exact g c = λ edges grammar options show reading done tells gt et tg te left.
    let same : said c.in-Ok.command ≡ run edges grammar options show = one_reading c.args.words.now (said c.in-Ok.command) (run edges grammar options show) c.in-Ok.ensures.reading reading in
    c.carry_out-ended.ensures.exact edges grammar options show same tells gt et tg te left (sym c.end.ensures.status ∙ done)

pub returns-in-Ok-clause-words : goal.returns-in-Ok-clause-words
returns-in-Ok-clause-words g c =
    let D = g.D.Disk in
    let I = g.I.Inputs in
    let O = g.O.Sink in
    let x : Given = record { told = I.told c.args.inputs.now; tells = D.tells; before = D.seen c.args.disk.now } in
    let now = c.carry_out-ended.new in
    let after = D.seen now.disk in
    let rose = rises_of I D O c.args.inputs.now now.inputs c.args.disk.now now.disk c.args.out.now now.out in
    let k = said c.in-Ok.command in (
      (λ is d reading. explains_no_words x after rose k (subst (Explained (stages_of x after rose k)) (sym c.end.ensures.status ∙ is) c.carry_out-ended.ensures.explained)),
      (λ none. absurd (none k c.in-Ok.ensures.reading)),
    )

pub returns-in-Err-clause-words : goal.returns-in-Err-clause-words
returns-in-Err-clause-words g c =
    let is_of : c.end-in-Err.result ≡ of_words c.in-Err.fault = c.end-in-Err.ensures.status ∙ c.from.ensures in (
      (λ is d reading. c.in-Err.ensures.words (words_back c.in-Err.fault (sym is_of ∙ is)) d reading),
      (λ none. (refl, refl, (words_or_memory c.end-in-Err.result c.in-Err.fault is_of, c.end-in-Err.ensures.ends))),
    )

pub returns-in-Err-clause-explained : goal.returns-in-Err-clause-explained
returns-in-Err-clause-explained g c = λ d reading.
    let D = g.D.Disk in
    let I = g.I.Inputs in
    let O = g.O.Sink in
    let a = c.args in
    let x : Given = record { told = I.told a.inputs.now; tells = D.tells; before = D.seen a.disk.now } in
    let rose = rises_of I D O a.inputs.now a.inputs.now a.disk.now a.disk.now a.out.now c.end-in-Err.new.out in
    subst (Explained (stages_of x (D.seen a.disk.now) rose d)) (sym (c.end-in-Err.ensures.status ∙ c.from.ensures))
    (words_explain x (D.seen a.disk.now) rose c.in-Err.fault (λ e. c.in-Err.ensures.words e d reading) d)

pub returns-in-Ok-clause-stops : goal.returns-in-Ok-clause-stops
returns-in-Ok-clause-stops g c = λ edges grammar options show reading.
    let same : said c.in-Ok.command ≡ run edges grammar options show = one_reading c.args.words.now (said c.in-Ok.command) (run edges grammar options show) c.in-Ok.ensures.reading reading in
    c.carry_out-ended.ensures.stops edges grammar options show same

pub returns-in-Ok-clause-spares : goal.returns-in-Ok-clause-spares
returns-in-Ok-clause-spares g c = λ edges grammar options show reading.
    let D = g.D.Disk in
    let x : Given = record { told = g.I.Inputs.told c.args.inputs.now; tells = D.tells; before = D.seen c.args.disk.now } in
    let same : said c.in-Ok.command ≡ run edges grammar options show = one_reading c.args.words.now (said c.in-Ok.command) (run edges grammar options show) c.in-Ok.ensures.reading reading in
    subst (λ (s : Status). Spares D x edges grammar s c.args.disk.now c.carry_out-ended.new.disk) (sym c.end.ensures.status)
    (c.carry_out-ended.ensures.spares edges grammar options show same)

pub returns-in-Err-clause-stops : goal.returns-in-Err-clause-stops
returns-in-Err-clause-stops g c = λ edges grammar options show reading.
    let L = g.met.D.Disk in
    work_nowhere g.D.Disk L.counts_now L.only_now L.honest L.told (g.I.Inputs.told c.args.inputs.now) edges grammar c.args.disk.now

pub returns-in-Err-clause-spares : goal.returns-in-Err-clause-spares
returns-in-Err-clause-spares g c = λ edges grammar options show reading.
    let L = g.met.D.Disk in
    record {
      refused = λ some why. spared_nowhere g.D.Disk L.counts_now L.only_now L.honest L.told (g.I.Inputs.told c.args.inputs.now) edges grammar c.args.disk.now;
      faulty = λ text told bad. refl;
    }
