use Rattle.std.proofs.Common.{ℕ, List, [], length, refl, sym, subst, arith, inl, inr}
use Rattle.graph_words.specs.declared.types.Born.{Born}
use Rattle.io_edge.specs.Devices.{Takes}
use Rattle.closing_machine.specs.Parts.{all_edges}
use Rattle.manifest_codec.specs.declared.types.Manifest.{Manifest}
use Rattle.query_text.specs.Text.{tally_text}
use Rattle.query_text.specs.Shown.{AreTallied}
use Rattle.query_text.proofs.Listed.{read_all}
use Rattle.query_text.proofs.Showing.{handed_on, if_err_any, if_err_more, on_ok_any, printed_none}
use Rattle.query_text.proofs.label_counts.tally.Goals as goal

pub returns-in_err-counts-clause-printed : goal.returns-in_err-counts-clause-printed
returns-in_err-counts-clause-printed g c =
    let D = g.D.Disk in
    let s = c.args.store.now in
    let f = c.in_err-counts.field-0.0 in
    let r = c.from_residual.result in
    ([], (printed_none s D.tells (D.seen c.args.disk.now) (Unit {0}) (tally_text s.manifest.labels) 0 (length s.manifest.parts) f (g.O.Sink.told c.args.sink.now) r (λ x. Unit {0}) (handed_on (Unit {0}) r f c.from_residual.ensures.1) (omega arith)).0, inr refl)

pub returns-clause-listed : goal.returns-clause-listed
returns-clause-listed g c = λ told parts listed.
    let D = g.D.Disk in
    let sink = g.O.Sink.told in
    let s = c.args.store.now in
    let t = c.in_ok-counts.ensures.tallied in
    let o = c.manifest.ensures.store in
    let same = c.manifest.ensures.manifest in
    let is = read_all s o D.tells told (D.seen c.args.disk.now) parts listed t.0 t.1 t.2 in
    let counted = subst (λ (m : Manifest). AreTallied (length m.labels) (all_edges t.0) c.deref.result.now) (sym same) (subst (λ (l : List ℕ). AreTallied (length s.manifest.labels) (all_edges t.0) l) (sym c.deref.ensures.value) t.3) in
    let takes = c.print_lines.ensures.taken (all_edges t.0) counted in
    let named = subst (λ (m : Manifest). Takes (sink c.args.sink.now) (sink c.print_lines.new.sink) c.print_lines.result (tally_text m.labels (all_edges t.0))) same takes in
    subst (λ (l : List (List Born)). Takes (sink c.args.sink.now) (sink c.print_lines.new.sink) c.print_lines.result (tally_text s.manifest.labels (all_edges l))) is named

pub returns-clause-printed : goal.returns-clause-printed
returns-clause-printed g c =
    let sink = g.O.Sink.told in
    let s = c.args.store.now in
    let t = c.in_ok-counts.ensures.tallied in
    let same = c.manifest.ensures.manifest in
    let counted = subst (λ (m : Manifest). AreTallied (length m.labels) (all_edges t.0) c.deref.result.now) (sym same) (subst (λ (l : List ℕ). AreTallied (length s.manifest.labels) (all_edges t.0) l) (sym c.deref.ensures.value) t.3) in
    let takes = c.print_lines.ensures.taken (all_edges t.0) counted in
    let named = subst (λ (m : Manifest). Takes (sink c.args.sink.now) (sink c.print_lines.new.sink) c.print_lines.result (tally_text m.labels (all_edges t.0))) same takes in
    (t.0, record { are_read = t.1; few = omega (arith, t.2); all = on_ok_any c.print_lines.result t.2; taken = named }, inl t.2)

pub returns-in_err-counts-clause-nothing : goal.returns-in_err-counts-clause-nothing
returns-in_err-counts-clause-nothing g c = if_err_any c.from_residual.result _ (λ e other. refl)

pub returns-clause-nothing : goal.returns-clause-nothing
returns-clause-nothing g c = if_err_more c.print_lines.result _ _ (λ e is other. absurd (other is)) c.print_lines.ensures.alone
