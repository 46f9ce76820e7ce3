-- What is kept of names, so that they are found at once.
use Rattle.std.specs.Borrow.{Bor}
use Rattle.std.specs.Prelude.{◌≡◌, ℕ, List, [], ◌∷◌, ◌++◌, length, map, Option, Some, None, if◌then◌else◌}
use Rattle.std.specs.Str.{bytes_eq}
use Rattle.std.specs.Cmp.Lexicographic.{slice_cmp}
use Rattle.std.specs.Ordering.{nat_cmp}
use Rattle.std.specs.BTreeMap.{BTreeMap, get_by}
use Rattle.visible_names.specs.declared.names.Entry.{Entry}
use Rattle.visible_names.specs.Names.{Bound}

abbrev pub bound : Entry → Bound
bound e = record { name = e.name.now; vertex = e.vertex }

abbrev pub bounds : List Entry → List Bound
bounds entries = map bound entries

-- where a name was bound last, of entries the last one first
abbrev pub latest : List ℕ → List Entry → Option ℕ
latest name [] = None
latest name (e ∷ es) = if bytes_eq e.name.now name then Some (length es) else latest name es

-- the map finds where each name was bound last
abbrev pub IsLatest : BTreeMap (Bor (List ℕ)) ℕ → List Entry → Type 0
IsLatest map entries = (name : List ℕ) → get_by (λ (k : Bor (List ℕ)). slice_cmp nat_cmp name k.now) map ≡ latest name entries

-- each entry keeps where its name was bound before
abbrev pub KeepsBefore : List Entry → Type 0
KeepsBefore entries = (front : List Entry) (e : Entry) (es : List Entry) → entries ≡ front ++ e ∷ es → e.before ≡ latest e.name.now es
