use Rattle.std.proofs.Common.{sym}
use Rattle.manifest_codec.proofs.Words.{labels_short}
use Rattle.manifest_codec.proofs.encoder.encode.Goals as goal

pub put_parts-requires : goal.put_parts-requires
put_parts-requires c = rw (c.as_slice-parts.ensures, c.newest_rows.ensures) (sym c.requires.marks.births)

pub put_labels-requires : goal.put_labels-requires
put_labels-requires c = rw c.names-labels.ensures.names (labels_short c.args.m.now c.requires)
