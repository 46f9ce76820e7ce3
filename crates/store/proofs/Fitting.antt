-- The first manifest keeps the rules of its format.
use Rattle.std.proofs.Common.{◌≡◌, ℕ, ◌+◌, ◌-◌, ◌*◌, ◌<◌, ◌≤◌, ◌==◌, ◌&&◌, Bool, true, false, List, [], length, get_or, inl, inr, refl, sym, ap, ◌∙◌, subst, arith}
use Rattle.std.specs.Prelude.{All, map}
use Rattle.std.proofs.lemmas.Bool.Decides.{nat_tests}
use Rattle.std.proofs.lemmas.List.{get_or-map}
use Rattle.graph_words.specs.declared.types.Born.{Born}
use Rattle.closing_machine.specs.State.{EndsCut, part, place, target}
use Rattle.closing_machine.specs.Machine.{high, low}
use Rattle.closing_machine.specs.Parts.{ArePartitions, all_edges}
use Rattle.closing_machine.specs.Rounds.{IsOrdered}
use Rattle.closing_machine.proofs.Partitions.{partitions_ordered}
use Rattle.intervals.specs.Bounds.{IsCut, LiesIn, interval_of, vertices_of}
use Rattle.intervals.proofs.BoundsLemmas.{each_vertex_lies, lies_below}
use Rattle.dest_map.specs.Table.{counts_of}
use Rattle.partition_file.specs.Spelling.{FitsEdge}
use Rattle.manifest_codec.specs.declared.types.PartEntry.{PartEntry}
use Rattle.manifest_codec.specs.declared.types.Manifest.{Manifest}
use Rattle.manifest_codec.specs.Spelling.{FitsManifest, width}
use Rattle.disk_model.specs.Disk.{Contents}
use Rattle.store_law.proofs.Intervals.{are_partitions, cut_from_cover}
use Rattle.open_store.proofs.Places.{place_of_lies}
use Rattle.store.specs.declared.source.Source.{Source}
use Rattle.store.specs.declared.tables.Tables.{Tables}
use Rattle.store.specs.NewStore.{IsBuilt, IsFirst, expect_at}
use Rattle.closing_machine.specs.Capacity.{IsBetween}
use Rattle.closing_machine.proofs.Boxes.{passing_fit}
use Rattle.store.proofs.Covering.{cover_is, ends_are, same_low, width_is}
use Rattle.store.proofs.PartLemmas.{all_of}

pub lies_at : (ends : List ℕ) (v : ℕ) → IsCut ends → v < vertices_of ends → LiesIn ends (place ends v) v
lies_at ends v cut below =
    let lies = each_vertex_lies ends v cut below in
    subst (λ (i : ℕ). LiesIn ends i v) (sym (place_of_lies ends (interval_of ends v) v cut lies)) lies

both : (p q : Bool) → (p && q) ≡ true → (p ≡ true) × (q ≡ true)
both true q e = (refl, e)
both false q e = absurd (cc)

same_number : (a b : ℕ) → (a == b) ≡ true → a ≡ b
same_number a b e = grind (arith, nat_tests)

-- an edge that begins and ends at a vertex, with a label of the format
record IsInFormat (ends : List ℕ) (b : Born) : Type 0 where
  source : b.edge.src.0 < vertices_of ends
  label : b.edge.label.0 < 63000
  destination : b.edge.dst.0 < vertices_of ends

inside : (ends : List ℕ) (i j : ℕ) (b : Born) → IsCut ends → IsInFormat ends b → (part ends b == i && target ends b == j) ≡ true → IsBetween (low ends i) (high ends i) (low ends j) (high ends j) b
inside ends i j b cut f test =
    let two = both (part ends b == i) (target ends b == j) test in
    let from = subst (λ (k : ℕ). LiesIn ends k b.edge.src.0) (same_number (part ends b) i two.0) (lies_at ends b.edge.src.0 cut f.source) in
    let into = subst (λ (k : ℕ). LiesIn ends k b.edge.dst.0) (same_number (target ends b) j two.1) (lies_at ends b.edge.dst.0 cut f.destination) in
    record {
      above = omega (arith, from.low, same_low ends i);
      below = from.high;
      label = f.label;
      from = omega (arith, into.low, same_low ends j);
      to = into.high;
    }

module _ (s : Source) (ends : List ℕ) (tells : Type 0) (c : Contents) (t : Tables) (cut : IsCut ends) (whole : vertices_of ends ≡ s.copied.vertices) (b : IsBuilt s ends tells c (length ends) t) where
  his_are : (k : ℕ) → k < length t.parts → get_or (map (λ p. p.hi) t.parts) k 0 ≡ high ends k
  his_are k low = b.his k (omega (arith, low, b.size))

  pub ends_of_parts : map (λ p. p.hi) t.parts ≡ ends
  ends_of_parts = ends_are ends t.parts b.size his_are

  pub partitions : ArePartitions 0 ends b.parts
  partitions = are_partitions 0 ends b.parts b.made (λ i low. let f = b.fits i low in record { ordered = f.part.ascending; sources = f.part.within })

  pub cut_all : EndsCut 0 ends s.copied.vertices
  cut_all = subst (λ (l : List ℕ). EndsCut 0 l s.copied.vertices) ends_of_parts (cut_from_cover s.copied.vertices 0 t.parts (cover_is ends t.parts b.size his_are cut s.copied.vertices whole))

  pub ordered : IsOrdered (all_edges b.parts)
  ordered = partitions_ordered 0 ends s.copied.vertices b.parts cut_all partitions

  module _ (named : length s.copied.labels ≤ 1000) (fresh : (expect_at s ends 0).fresh ≤ 62000) where
    label_fits : (k : ℕ) (x : Born) → FitsEdge (expect_at s ends k) x → x.edge.label.0 < 63000
    label_fits k x f = elim f.known [ inl low ↦ omega (arith, low, named) | inr high ↦ omega (arith, high.1, fresh) ]

    in_format : All (IsInFormat ends) (all_edges b.parts)
    in_format =
        all_of (IsInFormat ends) b.parts (λ k low.
        let here : k < length ends = omega (arith, low, b.made) in
        let f = b.fits k here in
        λ i d within.
        let from = f.part.within i d within in
        let each = f.each i d within in
        record {
          source = lies_below ends k (get_or (get_or b.parts k []) i d).edge.src.0 cut (record { number = here; low = omega (arith, from.0, same_low ends k); high = from.1 });
          label = label_fits k (get_or (get_or b.parts k []) i d) each;
          destination = omega (arith, each.vertex, whole);
        })

    counts_fit : (i j : ℕ) → i < length ends → j < length ends → counts_of t.map i j ≤ (high ends i - low ends i) * (high ends j - low ends j) * 63000
    counts_fit i j one two =
        subst (λ (n : ℕ). n ≤ (high ends i - low ends i) * (high ends j - low ends j) * 63000) (sym (b.counts.counts i j one two))
        (passing_fit (low ends i) (high ends i) (low ends j) (high ends j) (λ x. part ends x == i && target ends x == j) (all_edges b.parts) ordered (λ k d within test. inside ends i j (get_or (all_edges b.parts) k d) cut (in_format k d within) test))

    module _ (m : Manifest) (first : IsFirst s t m) (small : s.copied.vertices ≤ 16777216) (few : length ends ≤ 256) (short : s.grammar_len ≤ 16777216) (long : s.copied.len ≤ 1099511627776) where
      sizes : length m.parts ≡ length ends
      sizes = ap (λ (l : List PartEntry). length l) first.parts ∙ b.size

      file_is : (i : ℕ) (d : PartEntry) → i < length m.parts → (get_or m.parts i d).file ≡ 4 + i
      file_is i d low =
          let within : i < length ends = omega (arith, low, sizes) in
          ap (λ (l : List PartEntry). (get_or l i d).file) first.parts ∙ sym (get_or-map (λ (p : PartEntry). p.file) t.parts i d 0 (omega (arith, within, b.size))) ∙ b.files i within

      width_in : (i : ℕ) → i < length ends → width m i ≡ high ends i - low ends i
      width_in i within = rw first.parts (width_is ends t.parts b.size his_are i (omega (arith, within, b.size)))

      pub first_fits : FitsManifest m
      first_fits =
          record {
            generation = omega (arith, first.generation);
            round = omega (arith, first.round);
            rounds = omega (arith, first.round);
            vertices = omega (arith, first.vertices, small);
            grammar_len = omega (arith, first.grammar_len, short);
            edges_len = omega (arith, first.edges_len, long);
            first_len = first.first_len ∙ sym first.edges_len;
            labels = first.table;
            few = omega (arith, sizes, few);
            cover = rw (first.parts, first.vertices) (cover_is ends t.parts b.size his_are cut s.copied.vertices whole);
            files = λ i d low. let is = file_is i d low in (omega (arith, is), omega (arith, is, low, sizes, few));
            files_once = λ i j d before low same. let one = file_is i d (omega (arith, before, low)) in let two = file_is j d low in omega (arith, one, two, same, before);
            map = record { size = ap (λ (p : ℕ × List ℕ). p.0) first.map_is ∙ b.counts.size ∙ sym sizes; rows = rw (first.map_is, sizes) (first.rows ∙ ap (λ (n : ℕ). n * n) b.counts.size) };
            counts = λ i j one two.
                let a : i < length ends = omega (arith, one, sizes) in
                let z : j < length ends = omega (arith, two, sizes) in
                rw (first.map_is, width_in i a, width_in j z) (counts_fit i j a z);
            reached = omega (arith, first.round);
            marks = record { size = first.marks.size ∙ b.counts.size ∙ sym sizes; rows = first.marks.rows ∙ ap (λ (n : ℕ). n * n) (b.counts.size ∙ sym sizes); births = first.marks.births ∙ b.counts.size ∙ sym sizes };
            newest = λ i low. omega (arith, first.newest i, first.round);
            joined = λ i j one two. omega (arith, first.joined i j);
          }
