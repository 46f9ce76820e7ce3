use Rattle.closer.proofs.Least.{least_of_four}
use Rattle.closer.proofs.pair.least_mark.Goals as goal

pub returns : goal.returns
returns c =
    let one = c.lower-least.ensures in
    let two = c.lower-least-2.ensures in
    let three = c.lower.ensures in
    least_of_four c.args.manifest.now c.args.i c.args.j c.joined-least.result c.lower-least.result c.lower-least-2.result c.lower.result c.requires.some c.joined-least.ensures
    (record { least = one.least; mark = one.mark; one = one.one })
    (record { least = two.least; mark = two.mark; one = two.one })
    (record { least = three.least; mark = three.mark; one = three.one })
