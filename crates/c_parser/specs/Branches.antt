-- What the branches of an `if`, and a list of statements, spell.
use Rattle.std.specs.Prelude.{List, map, Option, Some, None}
use Rattle.c_tree.specs.declared.tree.Stmt.{Stmt}
use Rattle.c_tree.specs.Said.{Said}
use Rattle.c_tree.specs.Grammar.{block_said, branches_said, stmt_said}
use Rattle.c_parser.specs.declared.branches.Branches.{Branches}

abbrev pub branches_of : Stmt → Option Stmt → Said
branches_of body None = branches_said (stmt_said body) None
branches_of body (Some other) = branches_said (stmt_said body) (Some (stmt_said other))

abbrev pub branches_read : Branches → Said
branches_read b = branches_of b.body b.other

-- statements, up to the brace
abbrev pub block_of : List Stmt → Said
block_of xs = block_said (map stmt_said xs)
