-- What the partitions list is what a closing begins with, and the contents are a fresh store.
use Rattle.std.proofs.Common.{◌≡◌, ℕ, ◌+◌, ◌<◌, ◌==◌, List, [], ◌∷◌, length, get_or, take, refl, sym, ap, ◌∙◌, subst, arith}
use Rattle.std.specs.Prelude.{All, Contains, Option, count_by, filter, map}
use Rattle.std.specs.List.{flat_map}
use Rattle.std.proofs.lemmas.List.{take_all}
use Rattle.std.proofs.lemmas.List.Elements.{All-contains, All-filter, All-head, All-tail}
use Rattle.graph_words.specs.declared.types.Born.{Born}
use Rattle.graph_words.specs.declared.types.Edge.{Edge}
use Rattle.graph_words.specs.Reach.{Graph, edge, graph_with}
use Rattle.graph_words.specs.Text.{said, third}
use Rattle.io_edge.specs.Lines.{lines}
use Rattle.edge_text.specs.EdgesText.{edges_of, vertex_count_of}
use Rattle.edge_text.proofs.GraphLemmas.{IsGraph-with_count}
use Rattle.normal_law.specs.Closure.{Normal}
use Rattle.normal_law.specs.NormalForm.{normal_form}
use Rattle.closing_machine.specs.State.{greatest_birth, part, place}
use Rattle.closing_machine.specs.Machine.{IsGiven, IsOpening, high, input, loop, low}
use Rattle.closing_machine.specs.Parts.{all_edges}
use Rattle.closing_machine.specs.Rounds.{born}
use Rattle.closing_machine.specs.Tells.{Tells}
use Rattle.disk_model.specs.Disk.{Contents}
use Rattle.intervals.specs.Bounds.{IsCut, vertices_of}
use Rattle.intervals.specs.DegreeCut.{IsCutByDegree}
use Rattle.partition_file.specs.Spelling.{FitsPart, newest_format}
use Rattle.dest_map.specs.Table.{counts_of}
use Rattle.pair_sched.specs.Marks.{joined_of, newest_of}
use Rattle.manifest_codec.specs.declared.types.PartEntry.{PartEntry}
use Rattle.manifest_codec.specs.declared.types.Manifest.{Manifest}
use Rattle.manifest_codec.specs.Spelling.{FitsManifest}
use Rattle.import_text.specs.Given.{AreGiven}
use Rattle.store_law.specs.Texts.{AreGood, Texts, graph, names_of, normal, rules}
use Rattle.store_law.specs.Listed.{AreListed, ends_of, expect_of, part_file, part_of, state_in}
use Rattle.store_law.specs.Left.{IsOfTexts}
use Rattle.store_law.specs.Imported.{AreDegreesOf, IsFreshStore}
use Rattle.store.specs.declared.source.Source.{Source}
use Rattle.store.specs.declared.tables.Tables.{Tables}
use Rattle.store.specs.Import.{texts_of}
use Rattle.store.specs.NewStore.{IsBuilt, IsFirst, IsSource, graph_in}
use Rattle.store.proofs.Covering.{same_low}
use Rattle.store.proofs.Fitting.{cut_all, ends_of_parts, lies_at, ordered}
use Rattle.store.proofs.PartLemmas.{all_of, stands}

-- a given edge begins at a vertex
given_source : (n : Normal) (edges : List Edge) (e : Edge) → IsGiven n (graph_with (vertex_count_of edges) edges) e → e.src.0 < vertex_count_of edges
given_source n edges e (input {u} {v} {a} b there up) = (All-contains (λ (x : Edge). (x.src.0 < vertex_count_of edges) × (x.dst.0 < vertex_count_of edges)) edges (edge u b v) (IsGraph-with_count edges) there).0
given_source n edges e (loop low empty) = low

-- edges with birth 0 have no later one
no_births : (edges : List Born) → All (λ b. b.birth ≡ 0) edges → greatest_birth edges ≡ 0
no_births [] all = refl
no_births (b ∷ bs) all =
    let here : b.birth ≡ 0 = All-head (λ (x : Born). x.birth ≡ 0) b bs all in
    rw (here, no_births bs (All-tail (λ (x : Born). x.birth ≡ 0) b bs all)) refl

module _ (grammar : List ℕ) (told : Option (List ℕ)) (tells : Type 0) (c : Contents) (s : Source) (src : IsSource grammar told tells c s) where
  abbrev texts : Texts
  texts = texts_of grammar src.text

  pub labels_are : s.copied.labels ≡ names_of texts
  labels_are = src.reads.table_is

  rules_are : s.normal ≡ rules texts
  rules_are = src.grammar_reads.rules_are (flat_map third (said (lines src.text)))

  pub normal_is : normal_form s.normal ≡ normal texts
  normal_is = ap normal_form rules_are

  edges_are : src.edges ≡ edges_of (names_of texts) src.text
  edges_are = src.reads.edges_are ∙ ap (λ (l : List (List ℕ)). edges_of l src.text) labels_are

  pub vertices_are : s.copied.vertices ≡ (graph texts).vertices
  vertices_are = sym src.few.each ∙ src.degrees_are.count ∙ ap vertex_count_of edges_are

  pub degrees_of : AreDegreesOf (graph texts) s.copied.degrees.items
  degrees_of =
      record {
        size = src.few.each ∙ vertices_are;
        each = λ v low. src.degrees_are.each v ∙ ap (λ (es : List Edge). count_by (λ e. e.src.0 == v) es) edges_are;
      }

  pub good_texts : AreGood texts
  good_texts = record { grammar = src.grammar_reads.whole; edges = src.reads.whole }

  pub graph_is : tells → graph_in s c ≡ graph texts
  graph_is tell = ap (λ (t : List ℕ). graph_with s.copied.vertices (edges_of s.copied.labels t)) (src.edges_copy tell) ∙ ap (λ (l : List (List ℕ)). graph_with s.copied.vertices (edges_of l src.text)) labels_are ∙ ap (λ (n : ℕ). graph_with n (edges_of (names_of texts) src.text)) vertices_are

  module _ (tell : tells) (ends : List ℕ) (t : Tables) (cut : IsCut ends) (whole : vertices_of ends ≡ s.copied.vertices) (b : IsBuilt s ends tells c (length ends) t) where
    given_at : (k : ℕ) → k < length ends → AreGiven (normal texts) (graph texts) (low ends k) (high ends k) (get_or b.parts k [])
    given_at k within =
        subst (λ (n : Normal). AreGiven n (graph texts) (low ends k) (high ends k) (get_or b.parts k [])) normal_is
        (subst (λ (g : Graph). AreGiven (normal_form s.normal) g (low ends k) (high ends k) (get_or b.parts k [])) (graph_is tell) (b.put tell k within).given)

    all_given : (e : Edge) → IsGiven (normal texts) (graph texts) e → Contains (all_edges b.parts) (born e 0)
    all_given e given =
        let below : e.src.0 < vertices_of ends = omega (arith, given_source (normal texts) (graph texts).edges e given, vertices_are, whole) in
        let lies = lies_at ends e.src.0 cut below in
        let k = place ends e.src.0 in
        stands b.parts k (born e 0) (omega (arith, lies.number, b.made)) ((given_at k lies.number).given e given (omega (arith, lies.low, same_low ends k), lies.high))

    only_given : All (λ x. IsGiven (normal texts) (graph texts) x.edge × (x.birth ≡ 0)) (all_edges b.parts)
    only_given =
        all_of (λ x. IsGiven (normal texts) (graph texts) x.edge × (x.birth ≡ 0)) b.parts (λ k within i d inside.
        let o = (given_at k (omega (arith, within, b.made))).only i d inside in
        (o.0, o.2))

    module _ (m : Manifest) (first : IsFirst s t m) (fits : FitsManifest m) where
      pub ends_in : ends_of m ≡ ends
      ends_in = ap (λ (l : List PartEntry). map (λ p. p.hi) l) first.parts ∙ ends_of_parts s ends tells c t cut whole b

      sizes : length m.parts ≡ length ends
      sizes = ap (λ (l : List PartEntry). length l) first.parts ∙ b.size

      file_at : (i : ℕ) → i < length ends → part_file m i ≡ 4 + i
      file_at i within = ap (λ (l : List PartEntry). get_or (map (λ p. p.file) l) i 0) first.parts ∙ b.files i within

      listed : AreListed c m (normal texts).fresh b.parts
      listed =
          record {
            size = b.made ∙ sym sizes;
            spells = λ i low.
                let within : i < length ends = omega (arith, low, sizes) in
                rw (ends_in, file_at i within) (newest_format, (b.put tell i within).spelled);
            fits = λ i low.
                let within : i < length ends = omega (arith, low, sizes) in
                subst (λ (n : Normal). FitsPart (expect_of m n.fresh i) (part_of m i (get_or b.parts i []))) normal_is (rw (ends_in, first.vertices, first.round, first.labels) (b.fits i within));
          }

      opening : IsOpening (normal texts) (graph texts) (state_in m b.parts)
      opening =
          record {
            cut = rw (ends_in, ← vertices_are) (cut_all s ends tells c t cut whole b);
            given = all_given;
            only = only_given;
            ordered = ordered s ends tells c t cut whole b;
            round = first.round;
            marks = first.joined;
          }

      tables : Tells (counts_of m.map) (joined_of m.marks) (newest_of m.marks) (state_in m b.parts)
      tables =
          record {
            count_is = λ i j one two. rw (first.map_is, ends_in) (b.counts.counts i j (omega (arith, one, ap (λ (l : List ℕ). length l) ends_in)) (omega (arith, two, ap (λ (l : List ℕ). length l) ends_in)));
            mark_is = λ i j one two. refl;
            newest_is = λ i low.
                first.newest i
                ∙ sym (no_births (filter (λ x. part (ends_of m) x == i) (all_edges b.parts))
                (All-filter (λ x. part (ends_of m) x == i) (λ x. x.birth ≡ 0) (all_edges b.parts) (λ k d inside. (only_given k d inside).1)));
          }

      pub of_texts : IsOfTexts texts c m
      of_texts =
          record {
            good = good_texts;
            fits = fits;
            grammar_copy = record {
              bytes = ap (λ (l : List ℕ). take m.grammar_len l) (src.grammar_copy tell) ∙ take_all m.grammar_len grammar (omega (arith, first.grammar_len, src.grammar_len));
              all = sym (first.grammar_len ∙ src.grammar_len);
            };
            edges_copy = record {
              bytes = ap (λ (l : List ℕ). take m.edges_len l) (src.edges_copy tell) ∙ take_all m.edges_len src.text (omega (arith, first.edges_len, src.len_is));
              all = sym (first.edges_len ∙ src.len_is);
            };
            labels = first.labels ∙ labels_are;
            vertices = first.vertices ∙ vertices_are;
          }

      pub first_fresh : (limit : ℕ) → IsCutByDegree s.copied.degrees.items limit ends → IsFreshStore texts limit c m b.parts
      first_fresh limit by_degree =
          record {
            first = first.generation;
            texts = of_texts;
            degrees = s.copied.degrees.items;
            counted = degrees_of;
            intervals = subst (λ (l : List ℕ). IsCutByDegree s.copied.degrees.items limit l) (sym ends_in) by_degree;
            listed = listed;
            opening = opening;
            tells = tables;
          }
