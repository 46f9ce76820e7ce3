-- Names of parts of a program.
use Rattle.std.proofs.Common.{◌≡◌, subst, ℕ, List, [], ◌∷◌, ◌++◌}
use Rattle.std.specs.Prelude.{All}
use Rattle.std.proofs.lemmas.List.Elements.{All-nil, All-cons, All-head, All-tail}
use Rattle.c_tree.specs.declared.tree.Stmt.{Stmt, Stmt-F, roll-Stmt, map-Stmt, fold-roll-Stmt}
use Rattle.graph_emit.specs.Names.{stmt_names_step, stmt_names}

-- the names of a statement by its layer
pub stmt_names_layer : (x : Stmt-F Stmt) → stmt_names (roll-Stmt x) ≡ stmt_names_step (map-Stmt Stmt (List (List ℕ)) stmt_names x)
unfolding stmt_names
stmt_names_layer x = fold-roll-Stmt (List (List ℕ)) stmt_names_step x

module _ (P : List ℕ → Type 0) where
  pub all_left : (xs ys : List (List ℕ)) → All P (xs ++ ys) → All P xs
  all_left [] ys all = All-nil P
  all_left (x ∷ xs) ys all = All-cons P x xs (All-head P x (xs ++ ys) all) (all_left xs ys (All-tail P x (xs ++ ys) all))

  pub all_right : (xs ys : List (List ℕ)) → All P (xs ++ ys) → All P ys
  all_right [] ys all = all
  all_right (x ∷ xs) ys all = all_right xs ys (All-tail P x (xs ++ ys) all)

  -- what is so of all names of a statement is so of those of its layer
  pub all_layer : (x : Stmt-F Stmt) → All P (stmt_names (roll-Stmt x)) → All P (stmt_names_step (map-Stmt Stmt (List (List ℕ)) stmt_names x))
  all_layer x all = subst (All P) (stmt_names_layer x) all
