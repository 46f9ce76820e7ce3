use Rattle.std.proofs.Common.{arith}
use Rattle.manifest_codec.proofs.BodyLaws.{rest_is_left}
use Rattle.manifest_codec.proofs.Facts.{found, found_only, broken_only}
use Rattle.manifest_codec.proofs.decoder.decode.Goals as goal

pub overflow_sub-result : goal.overflow_sub-result
overflow_sub-result c = rest_is_left c.args.bytes.now (c.in-Ok.manifest, c.in-Ok.rest.now) (λ i. omega (arith, c.type_inv.bytes i)) c.in-Ok.ensures

pub returns-in-Ok-clause-found : goal.returns-in-Ok-clause-found
returns-in-Ok-clause-found c = found c.args.bytes.now (c.in-Ok.manifest, c.in-Ok.rest.now) (λ i. omega (arith, c.type_inv.bytes i)) c.in-Ok.ensures

pub returns-in-Ok-clause-only : goal.returns-in-Ok-clause-only
returns-in-Ok-clause-only c = λ m n fits spells. found_only c.args.bytes.now (c.in-Ok.manifest, c.in-Ok.rest.now) m n c.in-Ok.ensures fits spells

pub returns-in-Err-Broken-clause-only : goal.returns-in-Err-Broken-clause-only
returns-in-Err-Broken-clause-only c = λ m n fits spells.
    let given = rw c.in-Err-Broken.field-0-is at c.in-Err-Broken.ensures in
    broken_only c.args.bytes.now c.in-Err-Broken.broken m n given fits spells
