use Rattle.std.proofs.Common.{arith}
use Rattle.std.specs.Prelude.{IsTrue}
use Rattle.std.proofs.lemmas.Result.{err_from_is_err_and}
use Rattle.closing_machine.proofs.Members.{All-from_members}
use Rattle.import_text.specs.Given.{IsFrom}
use Rattle.import_text.proofs.FitLemmas.{gives_part, fits_part}
use Rattle.import_text.proofs.given_part.given_edges.Goals as goal

pub part_of-requires-clause-from : goal.part_of-requires-clause-from
part_of-requires-clause-from g c = All-from_members (IsFrom c.args.span.0 c.args.span.1) c.in_ok-given.given.items (λ e m. ((c.in_ok-given.ensures.gathered.all e).0 m).0)

pub returns-clause-given : goal.returns-clause-given
returns-clause-given g c =
    let e = c.in_ok-part.ensures in
    gives_part c.args.normal.now c.args.copied.now.labels c.args.copied.now.len c.args.copied.now.vertices c.args.span.0 c.args.span.1 (IsTrue g.D.Disk.tells) (g.D.Disk.seen c.args.disk.now c.args.copied.now.file) c.in_ok-given.given.items c.in_ok-part.part c.in_ok-given.ensures.gathered e.bounds e.part e.edges e.few c.requires.below c.requires.rules (omega (arith, c.fresh-fresh.ensures.fresh, c.fresh-fresh.ensures.few))

pub returns-clause-fits : goal.returns-clause-fits
returns-clause-fits g c =
    let e = c.in_ok-part.ensures in
    fits_part c.args.normal.now c.args.copied.now.labels c.args.copied.now.len c.args.copied.now.vertices c.args.span.0 c.args.span.1 (IsTrue g.D.Disk.tells) (g.D.Disk.seen c.args.disk.now c.args.copied.now.file) c.in_ok-given.given.items c.in_ok-part.part c.in_ok-given.ensures.gathered e.bounds e.part e.edges e.few c.requires.below c.requires.rules (omega (arith, c.fresh-fresh.ensures.fresh, c.fresh-fresh.ensures.few))
