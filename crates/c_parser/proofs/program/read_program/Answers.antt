use Rattle.std.proofs.Common.{arith}
use Rattle.c_tree.specs.Tokens.{source}
use Rattle.c_parser.proofs.Programs.{none_so_far, one_further, all_read, handed_up, item_advances}
use Rattle.c_parser.proofs.program.read_program.Goals as goal

pub loop-next-init : goal.loop-next-init
loop-next-init c = record {
  inside = omega arith;
  so_far = none_so_far (source c.args.bytes.now c.args.tokens.now) c.args.room c.new-items.result c.new-items.ensures;
}

pub returns-in_err-item : goal.returns-in_err-item
returns-in_err-item c =
    let s = source c.args.bytes.now c.args.tokens.now in
    handed_up s c.args.room c.loop-next.next c.loop-next.items c.loop-next.invariant.so_far c.loop-next-test.true
    c.in_err-item.field-0.0 c.in_err-item.ensures c.from_residual.result c.from_residual.ensures.1

pub loop-next-preserved : goal.loop-next-preserved
loop-next-preserved c =
    let s = source c.args.bytes.now c.args.tokens.now in
    let item = c.in_ok-item.ensures in
    let read = item.1 in
    record {
      inside = read.inside;
      so_far = one_further s c.args.room c.loop-next.next c.in_ok-item.after c.loop-next.items c.push.new.self item.0 c.in_ok-item.item c.loop-next.invariant.so_far c.loop-next-test.true read c.in_ok-push.ensures.ok;
    }

pub loop-next-smaller : goal.loop-next-smaller
loop-next-smaller c =
    let item = c.in_ok-item.ensures in
    let read = item.1 in
    let inside = read.inside in
    let more = item_advances (source c.args.bytes.now c.args.tokens.now) c.loop-next.next c.in_ok-item.after c.args.room (item.0, c.in_ok-item.item) read in
    omega arith

pub returns : goal.returns
returns c = all_read (source c.args.bytes.now c.args.tokens.now) c.args.room c.loop-next.next c.loop-next.items c.loop-next.invariant.so_far c.loop-next.invariant.inside (omega (arith, c.loop-next-test.false))
