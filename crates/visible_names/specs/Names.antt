-- Names in scopes.
use Rattle.std.specs.Prelude.{ℕ, List, find, Option}
use Rattle.std.specs.Option.{option_map}
use Rattle.std.specs.Str.{bytes_eq}

-- a name, and the vertex of its variable
pub record Bound : Type 0 where
  pub name : List ℕ
  pub vertex : ℕ

-- the names of the innermost scope and those of the scopes around it, the last one first
pub record Names : Type 0 where
  pub inner : List Bound
  pub outer : List Bound

-- the vertex of a name
abbrev pub bound_to : List ℕ → List Bound → Option ℕ
bound_to name bounds = option_map (λ (b : Bound). b.vertex) (find (λ (b : Bound). bytes_eq b.name name) bounds)
