use Rattle.std.proofs.Common.{◌<◌, ◌^◌, ◌∙◌, length, arith}
use Rattle.std.specs.Global.{Vec}
use Rattle.graph_words.specs.declared.types.Born.{Born}
use Rattle.partition_file.specs.Spelling.{IsExpect}
use Rattle.partition_file.proofs.FileLaws.{file_takes, only_at_ok, only_at_err}
use Rattle.partition_file.proofs.decoder.decode.Goals as goal

pub new-requires : goal.new-requires
new-requires c =
    let small : length c.in-Ok.edges.items < 2 ^ 64 = omega (arith, c.in-Ok.edges.small, c.in-Ok.edges.ok.0, c.in-Ok.edges.ok.1) in
    (file_takes c.args.expect.now c.args.bytes.now c.in-Ok.edges.items c.requires (λ i. omega (arith, c.type_inv.bytes i)) small c.in-Ok.ensures).1.part

pub returns-in-Ok-clause-found : goal.returns-in-Ok-clause-found
returns-in-Ok-clause-found c =
    let small : length c.in-Ok.edges.items < 2 ^ 64 = omega (arith, c.in-Ok.edges.small, c.in-Ok.edges.ok.0, c.in-Ok.edges.ok.1) in
    rw c.new.ensures (file_takes c.args.expect.now c.args.bytes.now c.in-Ok.edges.items c.requires (λ i. omega (arith, c.type_inv.bytes i)) small c.in-Ok.ensures)

pub returns-in-Ok-clause-only : goal.returns-in-Ok-clause-only
returns-in-Ok-clause-only c = λ p fits spells.
    let ex : IsExpect c.args.expect.now = record { lo = omega arith; hi = omega arith; vertices = omega arith; round = omega arith } in
    c.new.ensures ∙ only_at_ok c.args.expect.now c.args.bytes.now c.in-Ok.edges.items p ex c.in-Ok.ensures fits spells

pub returns-in-Err-clause-only : goal.returns-in-Err-clause-only
returns-in-Err-clause-only c = λ p fits spells.
    let ex : IsExpect c.args.expect.now = record { lo = omega arith; hi = omega arith; vertices = omega arith; round = omega arith } in
    only_at_err (λ (v : Vec Born). v.items) c.args.expect.now c.args.bytes.now c.in-Err.fault p ex c.in-Err.ensures fits spells
