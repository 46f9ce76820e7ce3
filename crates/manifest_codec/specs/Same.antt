-- What stays of a manifest while its store is closed.
use Rattle.std.specs.Prelude.{◌≡◌}
use Rattle.manifest_codec.specs.declared.types.Manifest.{Manifest}

-- both are of the same texts, and so of the same labels and vertices
pub record AreOfSameTexts (before after : Manifest) : Type 0 where
  pub vertices : after.vertices ≡ before.vertices
  pub grammar_len : after.grammar_len ≡ before.grammar_len
  pub edges_len : after.edges_len ≡ before.edges_len
  pub first_len : after.first_len ≡ before.first_len
  pub labels : after.labels ≡ before.labels
