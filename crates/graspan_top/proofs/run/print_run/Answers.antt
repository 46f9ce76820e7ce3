use Rattle.std.proofs.Common.{inl, inr, ℕ, ◌++◌, List, Err, refl, sym, subst}
use Rattle.graph_words.specs.declared.types.Born.{Born}
use Rattle.io_edge.specs.Devices.{AppendsPrefix}
use Rattle.io_edge.proofs.DeviceLemmas.{AppendsPrefix-more, takes_more}
use Rattle.closing_machine.specs.Parts.{all_edges}
use Rattle.disk_model.specs.Disk.{Contents}
use Rattle.query_text.specs.Text.{head_text, tally_text}
use Rattle.query_text.specs.Answered.{AreListedIn}
use Rattle.query_text.specs.declared.fault.AnswerFault.TheVariants as AnswerFault
use Rattle.graspan_top.specs.Run.{done_line}
use Rattle.graspan_top.specs.Stages.{shown_text}
use Rattle.graspan_top.proofs.ShowLemmas.{err_of, listed_of_read, takes_err, told_of_read, whole_taken}
use Rattle.graspan_top.proofs.run.print_run.Goals as goal

pub returns-in_err-head-clause-printed : goal.returns-in_err-head-clause-printed
returns-in_err-head-clause-printed g c = λ tells parts listed.
    let O = g.O.Sink in
    let m = c.args.store.now.manifest in
    let edges : List Born = all_edges parts in
    let rest : List ℕ = tally_text m.labels edges ++ (shown_text c.args.shown edges ++ done_line) in
    takes_err (O.told c.args.out.now) (O.told c.head.new.sink) c.from_residual.result c.in_err-head.field-0.0 (head_text m ++ rest) c.from_residual.ensures.1
    (AppendsPrefix-more (O.told c.args.out.now) (O.told c.head.new.sink) (head_text m) rest c.in_err-head.ensures.taken)

pub returns-in_err-tally-clause-printed : goal.returns-in_err-tally-clause-printed
returns-in_err-tally-clause-printed g c = λ tells parts listed.
    let O = g.O.Sink in
    let m = c.args.store.now.manifest in
    let edges : List Born = all_edges parts in
    let rest : List ℕ = shown_text c.args.shown edges ++ done_line in
    takes_more (O.told c.args.out.now) (O.told c.head.new.sink) (O.told c.tally.new.sink) c.from_residual-in_err-tally.result (head_text m) (tally_text m.labels edges ++ rest) c.in_ok-head.ensures.taken
    (takes_err (O.told c.head.new.sink) (O.told c.tally.new.sink) c.from_residual-in_err-tally.result c.in_err-tally.field-0.0 (tally_text m.labels edges ++ rest) c.from_residual-in_err-tally.ensures.1
    (AppendsPrefix-more (O.told c.head.new.sink) (O.told c.tally.new.sink) (tally_text m.labels edges) rest (c.in_err-tally.ensures.listed tells parts listed)))

pub returns-in_err-print_shown-clause-printed : goal.returns-in_err-print_shown-clause-printed
returns-in_err-print_shown-clause-printed g c = λ tells parts listed.
    let O = g.O.Sink in
    let m = c.args.store.now.manifest in
    let edges : List Born = all_edges parts in
    let rest : List ℕ = shown_text c.args.shown edges ++ done_line in
    let r = c.from_residual-in_err-print_shown.result in
    let later = subst (λ (k : Contents). AreListedIn c.args.store.now k parts) (sym c.in_ok-tally.ensures.looks.same_seen) listed in
    takes_more (O.told c.args.out.now) (O.told c.head.new.sink) (O.told c.print_shown.new.out) r (head_text m) (tally_text m.labels edges ++ rest) c.in_ok-head.ensures.taken
    (takes_more (O.told c.head.new.sink) (O.told c.tally.new.sink) (O.told c.print_shown.new.out) r (tally_text m.labels edges) rest (c.in_ok-tally.ensures.listed tells parts listed)
    (takes_err (O.told c.tally.new.sink) (O.told c.print_shown.new.out) r c.in_err-print_shown.field-0.0 rest c.from_residual-in_err-print_shown.ensures.1
    (AppendsPrefix-more (O.told c.tally.new.sink) (O.told c.print_shown.new.out) (shown_text c.args.shown edges) done_line (c.in_err-print_shown.ensures.printed tells parts later))))

pub returns-in_err-write-clause-printed : goal.returns-in_err-write-clause-printed
returns-in_err-write-clause-printed g c = λ tells parts listed.
    let O = g.O.Sink in
    let m = c.args.store.now.manifest in
    let edges : List Born = all_edges parts in
    let rest : List ℕ = shown_text c.args.shown edges ++ done_line in
    let r = c.from_residual-in_err-write.result in
    let later = subst (λ (k : Contents). AreListedIn c.args.store.now k parts) (sym c.in_ok-tally.ensures.looks.same_seen) listed in
    takes_more (O.told c.args.out.now) (O.told c.head.new.sink) (O.told c.write.new.self) r (head_text m) (tally_text m.labels edges ++ rest) c.in_ok-head.ensures.taken
    (takes_more (O.told c.head.new.sink) (O.told c.tally.new.sink) (O.told c.write.new.self) r (tally_text m.labels edges) rest (c.in_ok-tally.ensures.listed tells parts listed)
    (takes_more (O.told c.tally.new.sink) (O.told c.print_shown.new.out) (O.told c.write.new.self) r (shown_text c.args.shown edges) done_line (c.in_ok-print_shown.ensures.printed tells parts later)
    (takes_err (O.told c.print_shown.new.out) (O.told c.write.new.self) r _ done_line c.from_residual-in_err-write.ensures.1 c.in_err-write.ensures.taken)))

pub returns-clause-listed : goal.returns-clause-listed
returns-clause-listed g c = λ tells.
    let printed = c.in_ok-tally.ensures.printed in
    (printed.0, listed_of_read c.args.store.now g.D.Disk.tells (g.D.Disk.seen c.args.disk.now) printed.0 tells printed.1.are_read printed.1.all, told_of_read c.args.store.now g.D.Disk.tells (g.D.Disk.seen c.args.disk.now) printed.0 printed.1.are_read printed.1.all)

pub returns-in_err-head-clause-begun : goal.returns-in_err-head-clause-begun
returns-in_err-head-clause-begun g c = λ tells.
    err_of c.from_residual.result c.in_err-head.field-0.0 _ c.from_residual.ensures.1
    (head_text c.args.store.now.manifest, inl refl, c.in_err-head.ensures.taken)

pub returns-in_err-tally-clause-begun : goal.returns-in_err-tally-clause-begun
returns-in_err-tally-clause-begun g c = λ tells.
    let D = g.D.Disk in
    let O = g.O.Sink in
    let store = c.args.store.now in
    let m = store.manifest in
    let printed = c.in_err-tally.ensures.printed in
    let parts : List (List Born) = printed.0 in
    let rest : List ℕ = shown_text c.args.shown (all_edges parts) ++ done_line in
    err_of c.from_residual-in_err-tally.result c.in_err-tally.field-0.0 _ c.from_residual-in_err-tally.ensures.1
    (elim printed.2 [
      | inl all ↦ (
        head_text m ++ (tally_text m.labels (all_edges parts) ++ rest),
        inr (parts, listed_of_read store D.tells (D.seen c.args.disk.now) parts tells printed.1.are_read all, told_of_read store D.tells (D.seen c.args.disk.now) parts printed.1.are_read all, refl),
        takes_more {T = Unit {0}} {E = Unit {0}} (O.told c.args.out.now) (O.told c.head.new.sink) (O.told c.tally.new.sink) (Err tt) (head_text m) (tally_text m.labels (all_edges parts) ++ rest) c.in_ok-head.ensures.taken
            (AppendsPrefix-more (O.told c.head.new.sink) (O.told c.tally.new.sink) (tally_text m.labels (all_edges parts)) rest printed.1.taken),
      )
      | inr same ↦ (
        head_text m,
        inl refl,
        subst (λ o. AppendsPrefix (O.told c.args.out.now) (O.told o) (head_text m)) (sym same) (whole_taken (O.told c.args.out.now) (O.told c.head.new.sink) (head_text m) c.in_ok-head.ensures.taken),
      )
    ])

pub returns-in_err-print_shown-clause-begun : goal.returns-in_err-print_shown-clause-begun
returns-in_err-print_shown-clause-begun g c = λ tells.
    let O = g.O.Sink in
    let store = c.args.store.now in
    let m = store.manifest in
    let printed = c.in_ok-tally.ensures.printed in
    let parts : List (List Born) = printed.0 in
    let listed = listed_of_read store g.D.Disk.tells (g.D.Disk.seen c.args.disk.now) parts tells printed.1.are_read printed.1.all in
    let edges : List Born = all_edges parts in
    let rest : List ℕ = shown_text c.args.shown edges ++ done_line in
    let later = subst (λ (k : Contents). AreListedIn store k parts) (sym c.in_ok-tally.ensures.looks.same_seen) listed in
    err_of c.from_residual-in_err-print_shown.result c.in_err-print_shown.field-0.0 _ c.from_residual-in_err-print_shown.ensures.1 (
      head_text m ++ (tally_text m.labels edges ++ rest),
      inr (parts, listed, told_of_read store g.D.Disk.tells (g.D.Disk.seen c.args.disk.now) parts printed.1.are_read printed.1.all, refl),
      takes_more {T = Unit {0}} {E = Unit {0}} (O.told c.args.out.now) (O.told c.head.new.sink) (O.told c.print_shown.new.out) (Err tt) (head_text m) (tally_text m.labels edges ++ rest) c.in_ok-head.ensures.taken
          (takes_more {T = Unit {0}} {E = Unit {0}} (O.told c.head.new.sink) (O.told c.tally.new.sink) (O.told c.print_shown.new.out) (Err tt) (tally_text m.labels edges) rest printed.1.taken
          (AppendsPrefix-more (O.told c.tally.new.sink) (O.told c.print_shown.new.out) (shown_text c.args.shown edges) done_line (c.in_err-print_shown.ensures.printed tells parts later))),
    )

pub returns-in_err-write-clause-begun : goal.returns-in_err-write-clause-begun
returns-in_err-write-clause-begun g c = λ tells.
    let O = g.O.Sink in
    let store = c.args.store.now in
    let m = store.manifest in
    let printed = c.in_ok-tally.ensures.printed in
    let parts : List (List Born) = printed.0 in
    let listed = listed_of_read store g.D.Disk.tells (g.D.Disk.seen c.args.disk.now) parts tells printed.1.are_read printed.1.all in
    let edges : List Born = all_edges parts in
    let rest : List ℕ = shown_text c.args.shown edges ++ done_line in
    let later = subst (λ (k : Contents). AreListedIn store k parts) (sym c.in_ok-tally.ensures.looks.same_seen) listed in
    err_of c.from_residual-in_err-write.result AnswerFault.WriteFault _ c.from_residual-in_err-write.ensures.1 (
      head_text m ++ (tally_text m.labels edges ++ rest),
      inr (parts, listed, told_of_read store g.D.Disk.tells (g.D.Disk.seen c.args.disk.now) parts printed.1.are_read printed.1.all, refl),
      takes_more {T = Unit {0}} {E = Unit {0}} (O.told c.args.out.now) (O.told c.head.new.sink) (O.told c.write.new.self) (Err tt) (head_text m) (tally_text m.labels edges ++ rest) c.in_ok-head.ensures.taken
          (takes_more {T = Unit {0}} {E = Unit {0}} (O.told c.head.new.sink) (O.told c.tally.new.sink) (O.told c.write.new.self) (Err tt) (tally_text m.labels edges) rest printed.1.taken
          (takes_more {T = Unit {0}} {E = Unit {0}} (O.told c.tally.new.sink) (O.told c.print_shown.new.out) (O.told c.write.new.self) (Err tt) (shown_text c.args.shown edges) done_line (c.in_ok-print_shown.ensures.printed tells parts later) c.in_err-write.ensures.taken)),
    )
