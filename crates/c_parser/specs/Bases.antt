-- The base types by their tokens.
use Rattle.std.specs.Prelude.{Option, Some, None}
use Rattle.c_lexer.specs.declared.token.TokenKind.TheVariants as k
use Rattle.c_tree.specs.declared.tree.Base.{Base}
use Rattle.c_tree.specs.declared.tree.Base.TheVariants as base
use Rattle.c_tree.specs.Said.{Kind}

abbrev pub base_of : Kind → Option Base
base_of (Some k.Int) = Some base.Int
base_of (Some k.Char) = Some base.Char
base_of (Some k.Void) = Some base.Void
base_of _ = None
