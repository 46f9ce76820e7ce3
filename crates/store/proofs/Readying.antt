-- What was copied may be put, and what was put is prepared.
use Rattle.std.proofs.Common.{◌≡◌, ℕ, ◌<◌, List, length, take, Option, sym, ap, ◌∙◌, subst, arith}
use Rattle.std.specs.Prelude.{map}
use Rattle.std.specs.List.{flat_map}
use Rattle.std.proofs.Math.Seq.{take-append_seam}
use Rattle.std.proofs.lemmas.List.Elements.{All-weaker}
use Rattle.graph_words.specs.declared.types.Edge.{Edge}
use Rattle.graph_words.specs.declared.types.Rule.{Rule}
use Rattle.graph_words.specs.Text.{said, third, with_names}
use Rattle.graph_words.proofs.NameLemmas.{Grown, distinct-append, length-grown, with_names-grown}
use Rattle.io_edge.specs.Lines.{lines}
use Rattle.edge_text.specs.EdgesText.{ReadsEdges, edge_fault, vertex_count_of}
use Rattle.grammar_norm.specs.GrammarText.{grammar_names, rule_fault}
use Rattle.normal_form.proofs.NormalLemmas.{fresh_few}
use Rattle.disk_model.specs.Disk.{Contents}
use Rattle.intervals.specs.DegreeCut.{IsCutByDegree}
use Rattle.manifest_codec.specs.declared.types.PartEntry.{PartEntry}
use Rattle.manifest_codec.specs.declared.types.Manifest.{Manifest}
use Rattle.import_text.specs.GivenPart.{IsGoodCopy}
use Rattle.store.specs.declared.source.Source.{Source}
use Rattle.store.specs.declared.tables.Tables.{Tables}
use Rattle.store.specs.NewStore.{IsBuilt, IsFirst, IsPrepared, IsSource, MayPutFirst, SameTexts}
use Rattle.store.proofs.Fitting.{ends_of_parts, first_fits}
use Rattle.store.proofs.Lengths.{within_limit}
use Rattle.store.proofs.Opening.{first_fresh, good_texts, labels_are, vertices_are as text_vertices}

-- the copies are still those of the texts
pub source_later : (grammar : List ℕ) (told : Option (List ℕ)) (tells : Type 0) (c d : Contents) (s : Source) → IsSource grammar told tells c s → (tells → SameTexts c d) → IsSource grammar told tells d s
source_later grammar told tells c d s src same =
    record {
      names = src.names;
      grammar_reads = src.grammar_reads;
      grammar_len = src.grammar_len;
      text = src.text;
      edges = src.edges;
      reads = src.reads;
      is_file = src.is_file;
      len_is = src.len_is;
      copy_file = src.copy_file;
      degrees_are = src.degrees_are;
      few = src.few;
      grammar_copy = λ tell. (same tell).grammar ∙ src.grammar_copy tell;
      edges_copy = λ tell. (same tell).edges ∙ src.edges_copy tell;
    }

module _ (grammar : List ℕ) (told : Option (List ℕ)) (tells : Type 0) (c : Contents) (s : Source) (src : IsSource grammar told tells c s) where
  -- the labels are the grammar's names and those that came later
  grown : Grown src.names s.copied.labels
  grown =
      let later = flat_map third (said (lines src.text)) in
      let whole : s.copied.labels ≡ with_names src.names later =
      src.reads.table_is ∙ distinct-append (grammar_names grammar) later ∙ ap (λ (t : List (List ℕ)). with_names t later) (sym src.grammar_reads.names_are) in
      subst (λ (t : List (List ℕ)). Grown src.names t) (sym whole) (with_names-grown src.names later)

  begins : take (length src.names) s.copied.labels ≡ src.names
  begins = ap (λ (t : List (List ℕ)). take (length src.names) t) grown.is ∙ take-append_seam src.names grown.more

  vertices_are : s.copied.vertices ≡ vertex_count_of src.edges
  vertices_are = sym src.few.each ∙ src.degrees_are.count

  good_copy : ((names : List (List ℕ)) (text : List ℕ) (edges : List Edge) (labels : List (List ℕ)) → ReadsEdges 0 names text edges labels → IsGoodCopy labels (length text) (vertex_count_of edges) text) → tells → IsGoodCopy s.copied.labels s.copied.len s.copied.vertices (c 3)
  good_copy law tell = rw (src.len_is, vertices_are, src.edges_copy tell) (law (grammar_names grammar) src.text src.edges s.copied.labels src.reads)

  pub may_put : ((names : List (List ℕ)) (text : List ℕ) (edges : List Edge) (labels : List (List ℕ)) → ReadsEdges 0 names text edges labels → IsGoodCopy labels (length text) (vertex_count_of edges) text) → (limit : ℕ) (ends : List ℕ) → IsCutByDegree s.copied.degrees.items limit ends → MayPutFirst s ends tells c
  may_put law limit ends by_degree =
      let longer = length-grown src.names s.copied.labels grown in
      record {
        copy_file = src.copy_file;
        vertices = src.few.vertices;
        rules = All-weaker (λ (r : Rule). r.left.0 < length src.names) (λ (r : Rule). r.left.0 < length s.copied.labels) (λ r low. omega (arith, low, longer)) s.normal src.grammar_reads.numbered;
        good = good_copy law;
        cut = by_degree.cut;
        whole = by_degree.whole ∙ src.few.each;
        few = by_degree.few;
      }

  pub is_prepared : (limit : ℕ) (ends : List ℕ) (t : Tables) (m : Manifest) → IsCutByDegree s.copied.degrees.items limit ends → IsBuilt s ends tells c (length ends) t → IsFirst s t m → IsPrepared grammar told limit tells c (record { manifest = m; normal = s.normal; intervals = ends })
  is_prepared limit ends t m by_degree b first =
      let whole = by_degree.whole ∙ src.few.each in
      let short = within_limit 16777216 rule_fault grammar src.grammar_reads.whole in
      let long = within_limit 1099511627776 (edge_fault (grammar_names grammar)) src.text src.reads.whole in
      let fits = first_fits s ends tells c t by_degree.cut whole b src.reads.short (fresh_few s.normal src.grammar_reads.limits) m first src.few.vertices by_degree.few (omega (arith, short, src.grammar_len)) (omega (arith, long, src.len_is)) in
      record {
        fits = fits;
        first = first.generation;
        names = src.names;
        reads = src.grammar_reads;
        begins = ap (λ (l : List (List ℕ)). take (length src.names) l) first.labels ∙ begins;
        grammar_len = first.grammar_len ∙ src.grammar_len;
        grammar_copy = src.grammar_copy;
        ends = sym (ap (λ (l : List PartEntry). map (λ p. p.hi) l) first.parts ∙ ends_of_parts s ends tells c t by_degree.cut whole b);
        text = src.text;
        is_file = src.is_file;
        good = good_texts grammar told tells c s src;
        labels = first.labels ∙ labels_are grammar told tells c s src;
        vertices = first.vertices ∙ text_vertices grammar told tells c s src;
        edges_len = first.edges_len ∙ src.len_is;
        parts = b.parts;
        fresh = λ tell. first_fresh grammar told tells c s src tell ends t by_degree.cut whole b m first fits limit by_degree;
      }
