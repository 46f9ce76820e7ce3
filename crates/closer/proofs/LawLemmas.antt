-- Stores of two texts after steps, and after stops.
use Rattle.std.proofs.Common.{◌≡◌, ◌⊎◌, ℕ, zero, suc, ◌+◌, ◌≤◌, List, true, length, refl, sym, ap, ◌∙◌, subst, arith, inl, inr}
use Rattle.std.proofs.lemmas.List.Elements.{All-contains}
use Rattle.graph_words.specs.declared.types.Born.{Born}
use Rattle.graph_words.specs.Text.{said, third}
use Rattle.graph_words.specs.Reach.{Graph}
use Rattle.std.specs.List.{flat_map}
use Rattle.io_edge.specs.Lines.{lines}
use Rattle.grammar_norm.specs.GrammarText.{ReadsGrammar}
use Rattle.normal_law.specs.Closure.{Normal}
use Rattle.closing_machine.specs.State.{State}
use Rattle.closing_machine.specs.Machine.{high, low}
use Rattle.closing_machine.proofs.Members.{All-from_members}
use Rattle.closing_machine.specs.Holds.{IsClosingState, IsTask}
use Rattle.closing_machine.proofs.Superstepping.{superstep_keeps}
use Rattle.disk_model.specs.Disk.{Contents}
use Rattle.partition_file.specs.Spelling.{FitsEdge, IsPart, Part, SpellsPart}
use Rattle.manifest_codec.specs.Same.{AreOfSameTexts}
use Rattle.manifest_codec.specs.declared.types.Manifest.{Manifest}
use Rattle.manifest_codec.specs.Spelling.{FitsManifest}
use Rattle.store_law.specs.Texts.{Texts, graph, normal, rules, edges_text}
use Rattle.store_law.specs.Listed.{ends_of, expect_of, part_file, part_of, state_in}
use Rattle.store_law.specs.Left.{IsCopy, IsLeft, IsOfTexts, IsStore, IsStoreOf}
use Rattle.store_law.specs.Steps.{KeepsFiles}
use Rattle.store_law.proofs.Keeping.{listed_kept, store_kept}
use Rattle.store_law.proofs.Named.{task_of_texts}
use Rattle.open_store.specs.Copy.{IsCopyRead}
use Rattle.open_store.specs.Store.{OpenStore}
use Rattle.open_store.specs.PartRead.{count_into}
use Rattle.open_store.proofs.Tallies.{ends_count}
use Rattle.closer.specs.Continuation.{AfterSteps, CanBeRead, Continues, ImageGoesOn, IsUntouched, IsWholePass, Retains}
use Rattle.closer.proofs.SameTexts.{copies_further, same_further, same_here}

pub retains_store : (t : Texts) (d c : Contents) (m : Manifest) (parts : List (List Born)) → IsStore t d m parts → Retains m d c → IsStore t c m parts
retains_store t d c m parts s r = store_kept t d c m parts r.same r.files s

-- ---- steps

pub steps_hold : (n : Normal) (g : Graph) (k : ℕ) (s after : State) → IsTask n g → IsClosingState n g s → AfterSteps n k s after → IsClosingState n g after
steps_hold n g zero s after task holds same = subst (IsClosingState n g) (sym same) holds
steps_hold n g (suc k) s after task holds steps =
    let st : IsWholePass n steps.0 after = steps.2 in
    superstep_keeps n g task st.i st.j st.rounds true steps.0 after (steps_hold n g k s steps.0 task holds steps.1) st.step

texts_after : (t : Texts) (c d : Contents) (k : ℕ) (m next : Manifest) → IsOfTexts t c m → Continues (normal t) k c m d next → IsOfTexts t d next
texts_after t c d k m next s on =
    record {
      good = s.good;
      fits = on.fits;
      grammar_copy = subst (λ (x : ℕ). IsCopy t.grammar (d 2) x) (sym on.same.grammar_len) (record { bytes = on.copies.grammar ∙ s.grammar_copy.bytes; all = s.grammar_copy.all });
      edges_copy = subst (λ (x : ℕ). IsCopy (edges_text t) (d 3) x) (sym on.same.edges_len) (record { bytes = on.copies.edges ∙ s.edges_copy.bytes; all = s.edges_copy.all });
      labels = on.same.labels ∙ s.labels;
      vertices = on.same.vertices ∙ s.vertices;
    }

abbrev IsAfter : Texts → ℕ → Contents → State → Manifest → Type 0
IsAfter t k d s next = (after : List (List Born)) × IsStoreOf t d next after × AfterSteps (normal t) k s (state_in next after)

pub store_after : (t : Texts) (c d : Contents) (k : ℕ) (m next : Manifest) (parts : List (List Born)) → IsStoreOf t c m parts → Continues (normal t) k c m d next → IsAfter t k d (state_in m parts) next
store_after t c d k m next parts s on =
    let e = on.steps parts s.listed s.tells in
    let few : length m.labels ≤ 1000 = s.texts.fits.labels.short in (
      e.0,
      record {
        texts = texts_after t c d k m next s.texts on;
        listed = e.1;
        holds = steps_hold (normal t) (graph t) k (state_in m parts) (state_in next e.0) (task_of_texts t (omega (arith, few, ap length s.texts.labels))) s.holds e.3;
        tells = e.2;
      },
      e.3,
    )

pub left_further : (t : Texts) (seen c : Contents) (m : Manifest) (parts : List (List Born)) → IsStoreOf t seen m parts → ImageGoesOn (normal t) seen m c → IsLeft t c
left_further t seen c m parts s on =
    let e = store_after t seen c on.steps m on.next parts s on.continues in
    inr (on.next, e.0, record { slot = on.slot; current = on.current; rest = e.1 })

-- ---- the rules of the copy

pub rules_held : (t : Texts) (s : OpenStore) (c : Contents) → IsOfTexts t c s.manifest → IsCopyRead s.manifest (c 2) s.rules → s.rules ≡ rules t
rules_held t s c texts copy =
    let r : ReadsGrammar t.grammar s.rules copy.names = subst (λ (l : List ℕ). ReadsGrammar l s.rules copy.names) texts.grammar_copy.bytes copy.reads in
    r.rules_are (flat_map third (said (lines (edges_text t))))

-- ---- how steps follow steps

steps_add : (n : Normal) (k l : ℕ) (a b c : State) → AfterSteps n k a b → AfterSteps n l b c → AfterSteps n (k + l) a c
steps_add n k zero a b c first last =
    let e : k ≡ k + 0 = omega arith in
    subst (λ (x : ℕ). AfterSteps n x a c) e (subst (λ (s : State). AfterSteps n k a s) (sym last) first)
steps_add n k (suc l) a b c first last =
    let e : suc (k + l) ≡ k + suc l = omega arith in
    subst (λ (x : ℕ). AfterSteps n x a c) e (last.0, steps_add n k l a b last.0 first last.1, last.2)

-- ---- each partition by itself

-- what can be read can be read by a later manifest that tells the same of it
read_later : (n : Normal) (m next : Manifest) (c d : Contents) (a : ℕ) → AreOfSameTexts m next → ends_of next ≡ ends_of m → m.round ≤ next.round → IsUntouched m c next d a → CanBeRead n m c a → CanBeRead n next d a
read_later n m next c d a same ends later still r =
    record {
      edges = r.edges;
      fits = record {
        lo = refl;
        hi = refl;
        part = subst IsPart part r.fits.part;
        each = All-from_members (FitsEdge (expect_of next n.fresh a)) r.edges (λ b has. later_edge b (All-contains (FitsEdge (expect_of m n.fresh a)) r.edges b r.fits.each has));
        few = r.fits.few;
      };
      spells = subst (λ (x : Part). SpellsPart (d (part_file next a)) x) part (subst (λ (l : List ℕ). SpellsPart l (part_of m a r.edges)) (sym still.bytes) r.spells);
      told = record {
        counts = λ b lb. still.counts b ∙ r.told.counts b (omega (arith, lb, size)) ∙ ap (λ (l : List ℕ). count_into l r.edges b) (sym ends);
        newest = still.newest ∙ r.told.newest;
      };
    }
  where
    part : part_of m a r.edges ≡ part_of next a r.edges
    part = ap (λ (l : List ℕ). record { lo = low l a; hi = high l a; edges = r.edges }) (sym ends)

    size : length next.parts ≡ length m.parts
    size = sym (ends_count next) ∙ ap (λ (l : List ℕ). length l) ends ∙ ends_count m

    later_edge : (b : Born) → FitsEdge (expect_of m n.fresh a) b → FitsEdge (expect_of next n.fresh a) b
    later_edge b f =
        record {
          known = elim f.known [ inl lt ↦ inl (omega (arith, lt, ap (λ (l : List (List ℕ)). length l) same.labels)) | inr fresh ↦ inr fresh ];
          number = f.number;
          vertex = omega (arith, f.vertex, same.vertices);
          earlier = omega (arith, f.earlier, later);
        }

-- no step
pub continues_here : (n : Normal) (c : Contents) (m : Manifest) → FitsManifest m → Continues n 0 c m c m
continues_here n c m fits =
    record {
      fits = fits;
      same = same_here m;
      ends = refl;
      later = omega arith;
      copies = record { grammar = refl; edges = refl };
      parts = λ a la. inl (record { file = refl; bytes = refl; counts = λ b. refl; newest = refl });
      steps = λ parts listed tells. (parts, listed, tells, refl);
    }

-- steps behind others
pub continues_further : (n : Normal) (k l : ℕ) (c d e : Contents) (m mid next : Manifest) → Continues n k c m d mid → Continues n l d mid e next → Continues n (k + l) c m e next
continues_further n k l c d e m mid next a b =
    record {
      fits = b.fits;
      same = same_further m mid next a.same b.same;
      ends = b.ends ∙ a.ends;
      later = omega (arith, a.later, b.later);
      copies = copies_further m mid c d e a.same a.copies b.copies;
      parts = λ x lx. then_part x (a.parts x lx) (b.parts x (omega (arith, lx, ends_count m, ends_count mid, ap (λ (l : List ℕ). length l) a.ends)));
      steps = λ parts listed tells.
          let f = a.steps parts listed tells in
          let g = b.steps f.0 f.1 f.2 in
          (g.0, g.1, g.2, steps_add n k l (state_in m parts) (state_in mid f.0) (state_in next g.0) f.3 g.3);
    }
  where
    then_part : (x : ℕ) → IsUntouched m c mid d x ⊎ CanBeRead n mid d x → IsUntouched mid d next e x ⊎ CanBeRead n next e x → IsUntouched m c next e x ⊎ CanBeRead n next e x
    then_part x first (inr r) = inr r
    then_part x (inl u) (inl v) = inl (record { file = v.file ∙ u.file; bytes = v.bytes ∙ u.bytes; counts = λ y. v.counts y ∙ u.counts y; newest = v.newest ∙ u.newest })
    then_part x (inr r) (inl v) = inr (read_later n mid next d e x b.same b.ends b.later v r)

-- where the files that the last manifest needs are as before
pub continues_elsewhere : (n : Normal) (k : ℕ) (c d e : Contents) (m next : Manifest) → Continues n k c m d next → KeepsFiles next d e → Continues n k c m e next
continues_elsewhere n k c d e m next a keeps =
    record {
      fits = a.fits;
      same = a.same;
      ends = a.ends;
      later = a.later;
      copies = copies_further m next c d e a.same a.copies keeps.copies;
      parts = λ x lx. elsewhere x (keeps.parts x (omega (arith, lx, ends_count m, ends_count next, ap (λ (l : List ℕ). length l) a.ends))) (a.parts x lx);
      steps = λ parts listed tells.
          let f = a.steps parts listed tells in
          (f.0, listed_kept d e next n.fresh f.0 keeps f.1, f.2, f.3);
    }
  where
    elsewhere : (x : ℕ) → e (part_file next x) ≡ d (part_file next x) → IsUntouched m c next d x ⊎ CanBeRead n next d x → IsUntouched m c next e x ⊎ CanBeRead n next e x
    elsewhere x same (inl u) = inl (record { file = u.file; bytes = same ∙ u.bytes; counts = u.counts; newest = u.newest })
    elsewhere x same (inr r) = inr (record { edges = r.edges; fits = r.fits; spells = subst (λ (l : List ℕ). SpellsPart l (part_of next x r.edges)) (sym same) r.spells; told = r.told })
