use Rattle.std.proofs.Common.{◌++◌, ℕ, List, [], Some, ◌∙◌, sym, ap}
use Rattle.std.proofs.lemmas.List.{append-nil}
use Rattle.partition_file.specs.FieldsRead.{Found, reading}
use Rattle.partition_file.specs.Reader.{Reader, rest_of, ReadsPiece}
use Rattle.partition_file.proofs.decoder.edges_of.Goals as goal

pub returns-in-Some : goal.returns-in-Some
returns-in-Some c =
    let bytes = c.args.bytes.now in
    let reads : ReadsPiece c.new-reader.result c.read_piece.new.reader c.in_ok-edges.edges.items c.read_piece.new.edges.items bytes (Some c.in-Some.fault) = rw c.in-Some.is at c.in_ok-fault.ensures.reads in
    ap (λ (x : List ℕ). (reading c.args.expect.now x).fault) (sym (append-nil bytes))
    ∙ ap (λ (r : Reader). (rest_of r (bytes ++ [])).fault) (sym c.new-reader.ensures)
    ∙ ap (λ (x : Found). x.fault) (reads [])
