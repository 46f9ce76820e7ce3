-- A partition of given edges and loops.
use Rattle.std.proofs.Common.{◌≡◌, ◌⊎◌, ◌↔◌, inl, inr, ℕ, ◌<◌, List, length, get_or, sym, ap, arith, subst}
use Rattle.std.specs.Prelude.{All, AllPairs, Contains}
use Rattle.std.proofs.lemmas.List.{get_or-map, length-map}
use Rattle.std.proofs.lemmas.List.Elements.{All-contains}
use Rattle.graph_words.specs.declared.types.Edge.{Edge}
use Rattle.graph_words.specs.declared.types.Born.{Born}
use Rattle.graph_words.specs.Reach.{IsAscending}
use Rattle.normal_law.specs.Closure.{Normal}
use Rattle.closing_machine.specs.Rounds.{born, all_born}
use Rattle.closing_machine.proofs.Members.{Contains-all_born, from_all_born, All-from_members}
use Rattle.partition_file.specs.Spelling.{IsPart, IsBornBefore}
use Rattle.import_text.specs.Given.{AddsJust, IsFrom, IsLoopIn}

born_is : (b : Born) → b.birth ≡ 0 → born b.edge 0 ≡ b
born_is b h = ap (λ n. born b.edge n) (sym h)

module _ (n : Normal) (lo hi : ℕ) (given all once : List Edge) (loops : AddsJust (IsLoopIn n lo hi) given all) (same : (e : Edge) → Contains once e ↔ Contains all e) where
  -- its edges are just the given ones and the loops
  pub part_edges : (b : Born) → Contains (all_born once 0) b ↔ ((Contains given b.edge ⊎ IsLoopIn n lo hi b.edge) × (b.birth ≡ 0))
  part_edges b = (
    λ m. let from = from_all_born once 0 b m in ((loops b.edge).0 ((same b.edge).0 from.0), from.1),
    λ h. subst (λ (x : Born). Contains (all_born once 0) x) (born_is b h.1) (Contains-all_born once 0 b.edge ((same b.edge).1 ((loops b.edge).1 h.0))),
  )

  starts : All (IsFrom lo hi) given → (b : Born) → Contains (all_born once 0) b → IsFrom lo hi b.edge
  starts from b m = elim ((part_edges b).0 m).0 [ inl h ↦ All-contains (IsFrom lo hi) given b.edge from h | inr l ↦ l.0 ]

  ascends : IsAscending once → AllPairs IsBornBefore (all_born once 0)
  ascends up i j d l h =
      let f : Edge → Born = λ e. born e 0 in
      let size : length (all_born once 0) ≡ length once = length-map once f in
      let second : j < length once = omega (arith, h, size) in
      let first : i < length once = omega (arith, l, second) in
      subst (λ (x : Born). IsBornBefore x (get_or (all_born once 0) j d)) (sym (get_or-map f once i d.edge d first))
      (subst (λ (y : Born). IsBornBefore (f (get_or once i d.edge)) y) (sym (get_or-map f once j d.edge d second)) (up i j d.edge l second))

  pub is_part : lo < hi → All (IsFrom lo hi) given → IsAscending once → IsPart (record { lo = lo; hi = hi; edges = all_born once 0 })
  is_part bounds from up = record { bounds = bounds; ascending = ascends up; within = All-from_members (λ b. IsFrom lo hi b.edge) (all_born once 0) (starts from) }
