-- Manifests of the same texts.
use Rattle.std.proofs.Common.{◌≡◌, ◌∙◌, ap, refl, sym, subst, take, ℕ, List}
use Rattle.disk_model.specs.Disk.{Contents}
use Rattle.manifest_codec.specs.declared.types.Manifest.{Manifest}
use Rattle.manifest_codec.specs.Same.{AreOfSameTexts}
use Rattle.store_law.specs.Steps.{KeepsCopies}

pub same_here : (m : Manifest) → AreOfSameTexts m m
same_here m = record { vertices = refl; grammar_len = refl; edges_len = refl; first_len = refl; labels = refl }

pub same_further : (m mid next : Manifest) → AreOfSameTexts m mid → AreOfSameTexts mid next → AreOfSameTexts m next
same_further m mid next a b =
    record {
      vertices = b.vertices ∙ a.vertices;
      grammar_len = b.grammar_len ∙ a.grammar_len;
      edges_len = b.edges_len ∙ a.edges_len;
      first_len = b.first_len ∙ a.first_len;
      labels = b.labels ∙ a.labels;
    }

-- the copies stay over several steps, as far as each manifest says
pub copies_further : (m mid : Manifest) (c d e : Contents) → AreOfSameTexts m mid → KeepsCopies m c d → KeepsCopies mid d e → KeepsCopies m c e
copies_further m mid c d e same a b =
    record {
      grammar = subst (λ (n : ℕ). take n (e 2) ≡ take n (d 2)) same.grammar_len b.grammar ∙ a.grammar;
      edges = subst (λ (n : ℕ). take n (e 3) ≡ take n (d 3)) same.edges_len b.edges ∙ a.edges;
    }
