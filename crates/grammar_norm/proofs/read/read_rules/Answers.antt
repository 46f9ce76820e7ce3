use Rattle.std.proofs.Common.{◌≡◌, ◌+◌, ap, ◌∙◌, Some}
use Rattle.faults.specs.declared.line_fault.LineFault.TheVariants.{Kind}
use Rattle.grammar_norm.proofs.ReadingLemmas.{IsReading-line, IsReading-fault}
use Rattle.grammar_norm.proofs.read.read_rules.Goals as goal

pub loop-segment-preserved : goal.loop-segment-preserved
loop-segment-preserved c =
    IsReading-line c.args.bytes.now c.loop-segment.rest.now c.in-Some.segment.now c.in-Some.behind.now _ _ _ _ _ c.loop-segment.invariant c.in-Some.ensures.joined c.in-Some.ensures.shorter c.in-Some.ensures.cut c.in-Ok.ensures.ok

pub returns-in-Err-Kind-clause-fault : goal.returns-in-Err-Kind-clause-fault
returns-in-Err-Kind-clause-fault c =
    λ line kind e.
    let told = c.in-Err-Kind.kind-is in
    let number : c.loop-segment.line + 1 ≡ line = cc in
    let same : c.in-Err-Kind.kind ≡ kind = cc in
    IsReading-fault c.args.bytes.now c.loop-segment.rest.now c.in-Some.segment.now c.in-Some.behind.now c.loop-segment.line c.loop-segment.rules.items c.loop-segment.table kind c.loop-segment.invariant c.in-Some.ensures.joined c.in-Some.ensures.cut
    (c.in-Err-Kind.ensures.fault kind (c.in-Err-Kind.field-0-is ∙ ap Kind same))
    ∙ ap (λ n. Some (record { line = n; kind = kind })) number
