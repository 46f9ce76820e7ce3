use Rattle.std.proofs.Common.{◌≡◌, ◌+◌, ℕ, length, refl, arith}
use Rattle.std.specs.Prelude.{Err, Ok}
use Rattle.faults.specs.Counts.{Rose}
use Rattle.faults.specs.Reasons.{HasReason}
use Rattle.query_text.specs.Answered.{IsBlamed, ArePartsPrinted, print_causes, why_not_printed}
use Rattle.query_text.specs.Text.{dump_text}
use Rattle.query_text.specs.declared.show.Show.TheVariants.{Named}
use Rattle.query_text.proofs.Listed.{at_asked, ends_many, listed_all}
use Rattle.query_text.proofs.Showing.{cause_handed_on, handed_on, shown_text-append}
use Rattle.query_text.proofs.edge_lines.dump.Goals as goal

pub returns-in_err-show_parts-clause-listed : goal.returns-in_err-show_parts-clause-listed
returns-in_err-show_parts-clause-listed g c = λ t parts listed.
    let D = g.D.Disk in
    let told = g.O.Sink.told in
    let s = c.args.store.now in
    let o = c.intervals.ensures.store in
    let seen = D.seen c.args.disk.now in
    let f = c.in_err-show_parts.field-0.0 in
    let all : c.len-end.result ≡ 0 + length s.manifest.parts = omega (arith, c.len-end.ensures.len, ends_many s o c.intervals.result.now c.intervals.ensures.intervals) in
    let e = c.in_err-show_parts.ensures.printed in
    let printed = at_asked (λ a w. ArePartsPrinted {T = ℕ} s D.tells seen a w (dump_text s.manifest.labels) (told c.args.sink.now) (told c.show_parts.new.sink) (Err f) e.0) 0 c.len-end.result 0 (length s.manifest.parts) refl all e.1 in
    rw (handed_on (Unit {0}) c.from_residual.result f c.from_residual.ensures.1)
    (listed_all s o D.tells t seen parts listed {T = ℕ} (dump_text s.manifest.labels) (told c.args.sink.now) (told c.show_parts.new.sink) (Err f) e.0 (shown_text-append Named s.manifest.labels) printed)

pub returns-in_err-show_parts-clause-cause : goal.returns-in_err-show_parts-clause-cause
returns-in_err-show_parts-clause-cause g c =
    let D = g.D.Disk in
    let faults = g.O.Sink.faults in
    let s = c.args.store.now in
    let o = c.intervals.ensures.store in
    let f = c.in_err-show_parts.field-0.0 in
    let all : c.len-end.result ≡ 0 + length s.manifest.parts = omega (arith, c.len-end.ensures.len, ends_many s o c.intervals.result.now c.intervals.ensures.intervals) in
    let blames = λ (a w : ℕ). IsBlamed s D.tells (D.seen c.args.disk.now) a w in
    let w0 = faults c.args.sink.now in
    let w1 = faults c.show_parts.new.sink in
    let d0 = D.faults c.args.disk.now in
    let d1 = D.faults c.show_parts.new.disk in
    cause_handed_on w0 w0 w1 d0 d0 d1 (blames 0 (length s.manifest.parts)) (blames 0 (length s.manifest.parts)) (Unit {0}) f c.from_residual.result (handed_on (Unit {0}) c.from_residual.result f c.from_residual.ensures.1) (omega arith) (omega arith) (λ file place kind b. b)
    (at_asked (λ a w. HasReason {T = ℕ} why_not_printed (print_causes (Rose w0 w1) (Rose d0 d1) (blames a w)) (Err f)) 0 c.len-end.result 0 (length s.manifest.parts) refl all c.in_err-show_parts.ensures.cause)

pub returns-clause-listed : goal.returns-clause-listed
returns-clause-listed g c = λ t parts listed.
    let D = g.D.Disk in
    let told = g.O.Sink.told in
    let s = c.args.store.now in
    let o = c.intervals.ensures.store in
    let seen = D.seen c.args.disk.now in
    let n = c.in_ok-show_parts.field-0 in
    let all : c.len-end.result ≡ 0 + length s.manifest.parts = omega (arith, c.len-end.ensures.len, ends_many s o c.intervals.result.now c.intervals.ensures.intervals) in
    let e = c.in_ok-show_parts.ensures.printed in
    let printed = at_asked (λ a w. ArePartsPrinted {T = ℕ} s D.tells seen a w (dump_text s.manifest.labels) (told c.args.sink.now) (told c.show_parts.new.sink) (Ok n) e.0) 0 c.len-end.result 0 (length s.manifest.parts) refl all e.1 in
    listed_all s o D.tells t seen parts listed {T = ℕ} (dump_text s.manifest.labels) (told c.args.sink.now) (told c.show_parts.new.sink) (Ok n) e.0 (shown_text-append Named s.manifest.labels) printed
