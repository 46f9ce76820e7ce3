use Rattle.std.proofs.Common.{◌≡◌, ◌<◌, ◌^◌, refl, ℕ, List, [], length, ap, ◌∙◌, arith}
use Rattle.partition_file.specs.Reader.{Reader, rest_of, prepend, taken}
use Rattle.partition_file.specs.FieldsRead.{Found, reading}
use Rattle.open_store.proofs.Parts.{no_bytes}
use Rattle.open_store.proofs.stream.PartStream.begin.Goals as goal

pub returns-clause-begun : goal.returns-clause-begun
returns-clause-begun g c =
    let e = c.args.expect in
    let none : taken c.new.result ≡ 0 = ap taken c.new.ensures in (
      refl,
      record { file = c.requires.file; within = omega arith; small = omega arith; taken_within = omega (arith, none); room = omega (arith, c.in_ok-piece.ensures.len, c.in_ok-piece.piece.ok) },
      record {
        read = record {
          are_bytes = no_bytes;
          taken_within = omega (arith, none);
          few = omega arith;
          gives = λ more. ap (λ (r : Reader). rest_of r more) c.new.ensures;
        };
        place_is = refl;
        front = λ tells. refl;
        whole = λ tells. c.in_ok-len.ensures.len tells;
      },
    )
