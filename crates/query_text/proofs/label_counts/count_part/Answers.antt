use Rattle.std.proofs.Common.{◌≡◌, ◌++◌, ◌∷◌, [], length}
use Rattle.std.specs.Prelude.{IsTrue}
use Rattle.closing_machine.specs.Parts.{all_edges}
use Rattle.store_law.specs.Listed.{part_file}
use Rattle.open_store.specs.PartRead.{IsRefused}
use Rattle.query_text.specs.Answered.{IsBlamed}
use Rattle.query_text.proofs.Counts.{next_blamed, next_many, next_read, next_tallied, room_for}
use Rattle.faults.proofs.Handed.{disk_more, holds_more}
use Rattle.query_text.specs.Answered.{why_not_printed}
use Rattle.query_text.proofs.Showing.{handed_on}
use Rattle.query_text.proofs.label_counts.count_part.Goals as goal

pub returns-in_err-part-clause-cause : goal.returns-in_err-part-clause-cause
returns-in_err-part-clause-cause g c =
    let D = g.D.Disk in
    let s = c.args.store.now in
    let seen = D.seen c.args.disk.now in
    let i = c.args.i in
    let f = c.in_err-part.field-0.0 in
    let t = c.requires.tallied in
    rw (handed_on (Unit {0}) c.from_residual.result f c.from_residual.ensures.1)
    (holds_more _ _ (disk_more _ _ (λ file place kind. (file ≡ part_file s.manifest i) × (IsTrue D.tells → IsRefused s i (seen file) place kind)) (IsBlamed s D.tells seen 0 (length s.manifest.parts)) (λ h. h)
    (λ file place kind b. next_blamed s D.tells seen i t.0 t.1 t.2 c.requires.i file place kind b.0 b.1)) (why_not_printed f)
    c.in_err-part.ensures.cause)

pub count_edges-requires : goal.count_edges-requires
count_edges-requires g c =
    let D = g.D.Disk in
    let s = c.args.store.now in
    let t = c.requires.tallied in
    room_for s D.tells (D.seen c.args.disk.now) c.args.i t.0 t.1 t.2 c.requires.i c.requires.open c.in_ok-part.part.edges c.edges.result.now c.args.counts.now.items c.in_ok-part.ensures.read c.edges.ensures.edges t.3

pub returns-clause-tallied : goal.returns-clause-tallied
returns-clause-tallied g c =
    let D = g.D.Disk in
    let s = c.args.store.now in
    let seen = D.seen c.args.disk.now in
    let t = c.requires.tallied in
    let edges = c.in_ok-part.part.edges in (
      t.0 ++ edges ∷ [],
      next_read s D.tells seen c.args.i t.0 t.1 t.2 c.requires.i edges c.in_ok-part.ensures.read,
      next_many s D.tells seen c.args.i t.0 t.1 t.2 c.requires.i edges,
      next_tallied s D.tells seen c.args.i t.0 t.1 t.2 c.requires.i edges c.edges.result.now c.count_edges.new.counts.items c.edges.ensures.edges (c.count_edges.ensures (length s.manifest.labels) (all_edges t.0) t.3),
    )
