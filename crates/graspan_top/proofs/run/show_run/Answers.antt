use Rattle.std.proofs.Common.{◌≡◌, ℕ, List, Option, sym, subst}
use Rattle.std.specs.Prelude.{IsTrue, option_map}
use Rattle.faults.specs.Counts.{Rose}
use Rattle.io_edge.specs.Devices.{AppendsPrefix}
use Rattle.graspan_top.specs.Faults.{of_answer}
use Rattle.graspan_top.specs.Printed.{IsNothingOr, PrintsFirst}
use Rattle.graph_words.specs.declared.types.Born.{Born}
use Rattle.manifest_codec.specs.declared.types.Manifest.{Manifest}
use Rattle.graspan_top.specs.Refusals.{Explained}
use Rattle.graspan_top.specs.Stages.{show_stages, shown_text}
use Rattle.graspan_top.specs.Run.{IsRunBegun, IsRunText, IsShownText}
use Rattle.graspan_top.proofs.LookLemmas.{status_at}
use Rattle.graspan_top.proofs.ShowLemmas.{fault_prints, label_refused, show_begun, show_passed, show_refused, the_text}
use Rattle.graspan_top.proofs.TextLemmas.{begun_short}
use Rattle.graspan_top.proofs.run.show_run.Goals as goal

pub returns-in_err-shown-clause-explained : goal.returns-in_err-shown-clause-explained
returns-in_err-shown-clause-explained g c =
    let D = g.D.Disk in
    let O = g.O.Sink in
    let show : Option (List ℕ) = option_map (λ l. l.now) c.args.show in
    let seen = D.seen c.args.disk.now in
    let store = c.args.store.now in
    let dr : Type 0 = Rose (D.faults c.args.disk.now) (D.faults c.args.disk.now) in
    let wr : Type 0 = Rose (O.faults c.args.out.now) (O.faults c.args.out.now) in
    status_at (λ s. Explained (show_stages store D.tells seen show dr wr) s) c.from_residual.result c.in_err-shown.field-0.0 c.from_residual.ensures.1
    (label_refused store D.tells seen c.requires.held show dr wr c.manifest.result.now c.manifest.ensures.manifest c.in_err-shown.field-0.0 c.in_err-shown.ensures.none)

pub returns-in_err-print_run-clause-explained : goal.returns-in_err-print_run-clause-explained
returns-in_err-print_run-clause-explained g c =
    let D = g.D.Disk in
    let O = g.O.Sink in
    let show : Option (List ℕ) = option_map (λ l. l.now) c.args.show in
    let seen = D.seen c.args.disk.now in
    let store = c.args.store.now in
    let dr : Type 0 = Rose (D.faults c.args.disk.now) (D.faults c.print_run.new.disk) in
    let wr : Type 0 = Rose (O.faults c.args.out.now) (O.faults c.print_run.new.out) in
    let shown = subst (λ (m : Manifest). (edges : List Born) → IsShownText m.labels edges show (shown_text c.in_ok-shown.shown edges)) c.manifest.ensures.manifest c.in_ok-shown.ensures.shown in
    status_at (λ s. Explained (show_stages store D.tells seen show dr wr) s) c.from_residual-in_err-print_run.result (of_answer c.in_err-print_run.field-0.0) c.from_residual-in_err-print_run.ensures.1
    (show_refused store D.tells seen c.requires.held show dr wr c.in_ok-shown.shown shown c.in_err-print_run.field-0.0 c.in_err-print_run.ensures.cause)

pub returns-clause-explained : goal.returns-clause-explained
returns-clause-explained g c =
    let D = g.D.Disk in
    let O = g.O.Sink in
    let show : Option (List ℕ) = option_map (λ l. l.now) c.args.show in
    let shown = subst (λ (m : Manifest). (edges : List Born) → IsShownText m.labels edges show (shown_text c.in_ok-shown.shown edges)) c.manifest.ensures.manifest c.in_ok-shown.ensures.shown in
    show_passed c.args.store.now D.tells (D.seen c.args.disk.now) c.requires.held show (Rose (D.faults c.args.disk.now) (D.faults c.print_run.new.disk)) (Rose (O.faults c.args.out.now) (O.faults c.print_run.new.out)) c.in_ok-shown.shown shown

pub returns-in_err-print_run-clause-printed : goal.returns-in_err-print_run-clause-printed
returns-in_err-print_run-clause-printed g c =
    let D = g.D.Disk in
    let O = g.O.Sink in
    let show : Option (List ℕ) = option_map (λ l. l.now) c.args.show in
    let seen = D.seen c.args.disk.now in
    let store = c.args.store.now in
    let only = subst (λ (m : Manifest). (edges : List Born) (text : List ℕ) → IsShownText m.labels edges show text → text ≡ shown_text c.in_ok-shown.shown edges) c.manifest.ensures.manifest c.in_ok-shown.ensures.only in
    status_at (λ s. PrintsFirst D.tells (IsRunText seen show) (O.told c.args.out.now) (O.told c.print_run.new.out) s) c.from_residual-in_err-print_run.result (of_answer c.in_err-print_run.field-0.0) c.from_residual-in_err-print_run.ensures.1
    (fault_prints D.tells (IsRunText seen show) (O.told c.args.out.now) (O.told c.print_run.new.out) c.in_err-print_run.field-0.0
    (λ text tells is.
    let t = the_text store seen (c.requires.held tells) show c.in_ok-shown.shown only text is in
    subst (λ (k : List ℕ). AppendsPrefix (O.told c.args.out.now) (O.told c.print_run.new.out) k) (sym t.2) (c.in_err-print_run.ensures.printed tells t.0 t.1)))

pub returns-in_err-print_run-clause-begun : goal.returns-in_err-print_run-clause-begun
returns-in_err-print_run-clause-begun g c =
    let D = g.D.Disk in
    let O = g.O.Sink in
    let show : Option (List ℕ) = option_map (λ l. l.now) c.args.show in
    let seen = D.seen c.args.disk.now in
    let store = c.args.store.now in
    let shown = subst (λ (m : Manifest). (edges : List Born) → IsShownText m.labels edges show (shown_text c.in_ok-shown.shown edges)) c.manifest.ensures.manifest c.in_ok-shown.ensures.shown in
    begun_short D.tells (IsNothingOr (IsRunBegun seen show)) (O.told c.args.out.now) (O.told c.print_run.new.out) c.in_err-print_run.field-0.0 c.from_residual-in_err-print_run.result c.from_residual-in_err-print_run.ensures.1
    (show_begun store D.tells seen show c.in_ok-shown.shown (O.told c.args.out.now) (O.told c.print_run.new.out) c.requires.held c.requires.done shown c.in_err-print_run.ensures.begun)
