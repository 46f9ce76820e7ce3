use Rattle.std.proofs.Common.{◌≡◌, ◌++◌, ℕ, List, append_assoc}
use Rattle.byteorder.specs.Endian.{little_bytes}
use Rattle.manifest_codec.specs.Rules.{magic_of}
use Rattle.manifest_codec.specs.declared.types.Version.TheVariants.{First}
use Rattle.manifest_codec.proofs.encoder.put_head.Goals as goal

six : (o a b c d e f : List ℕ) → o ++ a ++ b ++ c ++ d ++ e ++ f ≡ o ++ (a ++ b ++ c ++ d ++ e ++ f)
six o a b c d e f = simp append_assoc

pub returns : goal.returns
returns c =
    let m = c.args.m.now in
    rw (c.in_ok-put_u64-3.ensures, c.in_ok-put_u64-2.ensures, c.in_ok-put_u32.ensures, c.in_ok-put_u64.ensures, c.in_ok-put_u8.ensures, c.in_ok-extend_from_slice.ensures.items)
    (six c.args.out.now.items (little_bytes 4 (magic_of First)) (little_bytes 1 m.generation) (little_bytes 8 m.round) (little_bytes 4 m.vertices) (little_bytes 8 m.grammar_len) (little_bytes 8 m.edges_len))
