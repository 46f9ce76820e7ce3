use Rattle.std.proofs.Common.{◌≡◌, ℕ, ◌-◌, length}
use Rattle.std.specs.Prelude.{Ok}
use Rattle.closing_machine.specs.Parts.{all_edges}
use Rattle.text_page.proofs.Gathering.{flushed}
use Rattle.query_text.specs.declared.fault.AnswerFault.TheVariants.{WriteFault}
use Rattle.query_text.specs.Shown.{shown_in, shown_text}
use Rattle.query_text.proofs.Showing.{handed_on, printed_short}
use Rattle.query_text.proofs.walk.Walk.show_parts.Goals as goal

pub returns-in_err-flush-clause-printed : goal.returns-in_err-flush-clause-printed
returns-in_err-flush-clause-printed g c =
    let D = g.D.Disk in
    let told = g.O.Sink.told in
    let r = c.from_residual-in_err-flush.result in
    let s = c.args.self.now.store.now in
    let show = c.args.self.now.show in
    let read = c.in_ok-shown.ensures.gathered.0 in
    let g = c.in_ok-shown.ensures.gathered.1 in
    let both = printed_short s D.tells (D.seen c.args.disk.now) ℕ (shown_text show s.manifest.labels) c.args.self.now.first (c.args.self.now.end - c.args.self.now.first) WriteFault (told c.args.sink.now) (told c.show_each.new.sink) (told c.flush.new.sink) c.new-page.result c.show_each.new.page read r (λ n. n ≡ length (shown_in show s.manifest.labels (all_edges read))) (handed_on ℕ r WriteFault c.from_residual-in_err-flush.ensures.1) c.new-page.ensures g.are_read g.few g.gathered c.in_err-flush.ensures.taken in
    (read, both.0, both.1)

pub returns-clause-printed : goal.returns-clause-printed
returns-clause-printed g c =
    let told = g.O.Sink.told in
    let s = c.args.self.now.store.now in
    let show = c.args.self.now.show in
    let read = c.in_ok-shown.ensures.gathered.0 in
    let e = c.in_ok-shown.ensures.gathered.1 in (
      read,
      record {
        are_read = e.are_read;
        few = e.few;
        all = e.all;
        taken = flushed {U = Unit {0}} {F = Unit {0}} (told c.args.sink.now) (told c.show_each.new.sink) (told c.flush.new.sink) c.new-page.result c.show_each.new.page (Ok tt) (shown_text show s.manifest.labels (all_edges read)) c.new-page.ensures e.gathered c.in_ok-flush.ensures.taken;
      },
      e.number,
    )
