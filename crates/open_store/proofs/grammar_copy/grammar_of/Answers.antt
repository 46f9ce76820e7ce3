use Rattle.std.proofs.Common.{◌≡◌, ℕ, ◌≤◌, List, length, take, refl, sym, ap, subst, ◌∙◌, arith}
use Rattle.faults.specs.declared.form_kind.FormKind.TheVariants.{BadLabel, BadText}
use Rattle.std.specs.Prelude.{Err}
use Rattle.grammar_norm.specs.declared.grammar.GrammarFault.{GrammarFault}
use Rattle.grammar_norm.specs.GrammarText.{ReadsGrammar, grammar_fault}
use Rattle.manifest_codec.specs.Rules.{labels_place, newest_version}
use Rattle.manifest_switch.specs.Slots.{file_of}
use Rattle.open_store.specs.Copy.{IsBadCopy}
use Rattle.open_store.proofs.Causes.{handed}
use Rattle.open_store.proofs.Copies.{short_copy}
use Rattle.open_store.proofs.grammar_copy.grammar_of.Goals as goal

pub returns-in_err-bytes-clause-cause : goal.returns-in_err-bytes-clause-cause
returns-in_err-bytes-clause-cause g c =
    let D = g.D.Disk in
    let file = D.seen c.args.disk.now 2 in
    handed (D.faults c.args.disk.now) (D.faults c.args.disk.now) (D.faults c.copy_bytes.new.disk) _ _ c.copy_bytes.result c.from_residual.result c.in_err-bytes.field-0.0 c.in_err-bytes.was c.from_residual.ensures.1 (omega arith)
    (λ f p k bad tells. short_copy c.args.slot c.args.manifest.now file f p k bad.0 bad.1 (bad.2 tells).0 (bad.2 tells).1)
    c.copy_bytes.ensures.cause

pub returns-in-Ok-clause-cause : goal.returns-in-Ok-clause-cause
returns-in-Ok-clause-cause g c = λ tells.
    let file = g.D.Disk.seen c.args.disk.now 2 in
    let m = c.args.manifest.now in
    let bytes = c.in_ok-bytes.ensures.bytes tells in
    let text : c.deref.result.now ≡ take m.grammar_len file = c.deref.ensures.value ∙ bytes.0 in
    subst (λ (p : ℕ). IsBadCopy c.args.slot m file c.file.result p BadLabel) (sym c.labels_place.ensures)
    (subst (λ (f : ℕ). IsBadCopy c.args.slot m file f (labels_place newest_version) BadLabel) (sym c.file.ensures.number)
    (IsBadCopy.differ _ _ bytes.1 (subst (λ (t : List ℕ). ReadsGrammar t c.in-Ok.grammar c.in-Ok.table) text c.in-Ok.ensures.grammar) (c.begins_with.ensures.differs c.if-begins_with.false)))

pub returns-in-Err-Text-clause-cause : goal.returns-in-Err-Text-clause-cause
returns-in-Err-Text-clause-cause g c = λ tells.
    let file = g.D.Disk.seen c.args.disk.now 2 in
    let m = c.args.manifest.now in
    let bytes = c.in_ok-bytes.ensures.bytes tells in
    let text : c.deref.result.now ≡ take m.grammar_len file = c.deref.ensures.value ∙ bytes.0 in
    IsBadCopy.bad _ bytes.1 (ap grammar_fault (sym text) ∙ c.in-Err-Text.ensures.fault c.in-Err-Text.field-0-0 c.in-Err-Text.field-0-1 (ap (λ (e : GrammarFault). Err e) c.in-Err-Text.field-0-is))
