-- How long a spelling is.
use Rattle.std.proofs.Common.{◌≡◌, ℕ, zero, suc, ◌+◌, ◌-◌, ◌*◌, ◌<◌, ◌≤◌, List, [], ◌∷◌, ◌++◌, length, Option, Some, None, refl, ap, subst, ◌∙◌, arith, length-append}
use Rattle.std.specs.Prelude.{codes}
use Rattle.std.specs.List.{AllByRecursion}
use Rattle.std.proofs.lemmas.List.Elements.{recursion_from_All}
use Rattle.byteorder.specs.Endian.{little_bytes}
use Rattle.byteorder.specs.Numbers.{length-bytes_low_first}
use Rattle.graph_words.specs.declared.types.Edge.{Edge}
use Rattle.graph_words.specs.declared.types.Born.{Born}
use Rattle.partition_file.specs.declared.types.Format.TheVariants.{First}
use Rattle.partition_file.specs.Spelling.{Part, IsPart, edge_bytes, edges_bytes, row_bytes, rows_bytes, spelling}
use Rattle.partition_file.proofs.Splits.{Above, Ascends, Ascends-from_pairs, rows_cut, cut, ascends_others}
use Rattle.partition_file.proofs.RowLaws.{none_left, higher, split_all}
use Rattle.partition_file.proofs.FileLaws.{low_rows}

length-edge_bytes : (before : Option Edge) (b : Born) → length (edge_bytes First before b) ≡ 14
length-edge_bytes before b =
    let l = little_bytes 2 b.edge.label.0 in
    let d = little_bytes 4 b.edge.dst.0 in
    let t = little_bytes 8 b.birth in
    omega (arith, length-append (l ++ d) t, length-append l d, length-bytes_low_first 0 2 b.edge.label.0, length-bytes_low_first 0 4 b.edge.dst.0, length-bytes_low_first 0 8 b.birth)

length-edges : (before : Option Edge) (row : List Born) → length (edges_bytes First before row) ≡ 14 * length row
length-edges before [] = omega arith
length-edges before (b ∷ row) =
    omega (arith, length-append (edge_bytes First before b) (edges_bytes First (Some b.edge) row), length-edge_bytes before b, length-edges (Some b.edge) row)

length-row_bytes : (row : List Born) → length (row_bytes First row) ≡ 8 + 14 * length row
length-row_bytes row = omega (arith, length-append (little_bytes 8 (length row)) (edges_bytes First None row), length-bytes_low_first 0 8 (length row), length-edges None row)

length-rows_bytes : (n v : ℕ) (es : List Born) → Above v es → AllByRecursion (λ b. b.edge.src.0 < v + n) es → Ascends es → length (rows_bytes First n v es) ≡ 8 * n + 14 * length es
length-rows_bytes zero v es low high sorted = let none : es ≡ [] = none_left v es low high in omega (arith, ap length none)
length-rows_bytes (suc n) v es low high sorted =
    let c = cut v es sorted low in
    let both = split_all (λ b. b.edge.src.0 < v + suc n) c.row c.others (subst (AllByRecursion (λ b. b.edge.src.0 < v + suc n)) c.parts high) in
    let in-order : Ascends (c.row ++ c.others) = subst Ascends c.parts sorted in
    let text : rows_bytes First (suc n) v es ≡ row_bytes First c.row ++ rows_bytes First n (v + 1) c.others = ap (rows_bytes First (suc n) v) c.parts ∙ rows_cut First n v c.row c.others c.here c.above in
    ap length text
    ∙ omega (
      arith,
      length-append (row_bytes First c.row) (rows_bytes First n (v + 1) c.others),
      length-row_bytes c.row,
      length-rows_bytes n (v + 1) c.others c.above (higher v n c.others both.1) (ascends_others c.row c.others in-order),
      ap length c.parts,
      length-append c.row c.others,
    )

pub length-spelling : (p : Part) → IsPart p → length (spelling First p) ≡ 12 + 8 * (p.hi - p.lo) + 14 * length p.edges
length-spelling p is =
    let w = low_rows p p.edges (recursion_from_All (λ b. (p.lo ≤ b.edge.src.0) × (b.edge.src.0 < p.hi)) p.edges is.within) is.bounds in
    let magic : List ℕ = codes "GSP1" in
    let lo : List ℕ = little_bytes 4 p.lo in
    let hi : List ℕ = little_bytes 4 p.hi in
    let rows : List ℕ = rows_bytes First (p.hi - p.lo) p.lo p.edges in
    let four : length magic ≡ 4 = refl in
    omega (
      arith,
      length-append ((magic ++ lo) ++ hi) rows,
      length-append (magic ++ lo) hi,
      length-append magic lo,
      four,
      length-bytes_low_first 0 4 p.lo,
      length-bytes_low_first 0 4 p.hi,
      length-rows_bytes (p.hi - p.lo) p.lo p.edges w.0 w.1 (Ascends-from_pairs p.edges is.ascending),
    )
