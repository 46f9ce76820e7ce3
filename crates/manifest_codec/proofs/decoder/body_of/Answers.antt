use Rattle.std.proofs.Common.{◌*◌, length, arith}
use Rattle.manifest_codec.proofs.BodyLaws.{table_known, counts_length, joined_length}
use Rattle.manifest_codec.proofs.decoder.body_of.Goals as goal

pub limits_of-requires : goal.limits_of-requires
limits_of-requires c =
    let known = table_known c.args.bytes.now ((c.in_ok-head.head, c.in_ok-head.labels), c.in_ok-head.rest.now) ((c.in_ok-parts.parts, c.in_ok-parts.newest.items), c.in_ok-parts.rest.now) (λ i. omega (arith, c.type_inv.bytes i)) c.in_ok-head.ensures c.in_ok-parts.ensures in
    rw (c.deref.ensures.value, c.in_ok-widths.ensures, c.as_slice.ensures) known.small

pub overflow_mul-size : goal.overflow_mul-size
overflow_mul-size c =
    let known = table_known c.args.bytes.now ((c.in_ok-head.head, c.in_ok-head.labels), c.in_ok-head.rest.now) ((c.in_ok-parts.parts, c.in_ok-parts.newest.items), c.in_ok-parts.rest.now) (λ i. omega (arith, c.type_inv.bytes i)) c.in_ok-head.ensures c.in_ok-parts.ensures in
    rw c.as_slice-size.ensures (omega (arith, known.square))

pub of_counts-requires : goal.of_counts-requires
of_counts-requires c =
    let read = rw (c.deref-2.ensures.value, c.in_ok-limits.ensures, c.deref.ensures.value, c.in_ok-widths.ensures, c.as_slice.ensures) at c.in_ok-counts.ensures in
    rw c.as_slice-size.ensures (counts_length c.in_ok-parts.parts c.in_ok-parts.rest.now (c.in_ok-counts.counts.items, c.in_ok-counts.rest.now) read)

pub of_rows-requires-clause-joined : goal.of_rows-requires-clause-joined
of_rows-requires-clause-joined c =
    let read = rw (c.deref-3.ensures.value, c.in_ok-rounds.ensures) at c.in_ok-joined.ensures in
    joined_length (length c.as_slice-size.result.now * length c.as_slice-size.result.now) c.in_ok-head.head.round c.in_ok-counts.rest.now (c.in_ok-joined.joined.items, c.in_ok-joined.rest.now) read

pub of_rows-requires-clause-newest : goal.of_rows-requires-clause-newest
of_rows-requires-clause-newest c =
    let known = table_known c.args.bytes.now ((c.in_ok-head.head, c.in_ok-head.labels), c.in_ok-head.rest.now) ((c.in_ok-parts.parts, c.in_ok-parts.newest.items), c.in_ok-parts.rest.now) (λ i. omega (arith, c.type_inv.bytes i)) c.in_ok-head.ensures c.in_ok-parts.ensures in
    rw c.as_slice-size.ensures known.paired
