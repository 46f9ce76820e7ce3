-- The operators by their tokens.
use Rattle.std.specs.Prelude.{Option, Some, None}
use Rattle.c_lexer.specs.declared.token.TokenKind.TheVariants as k
use Rattle.c_tree.specs.declared.tree.AddOp.{AddOp}
use Rattle.c_tree.specs.declared.tree.AddOp.TheVariants as add
use Rattle.c_tree.specs.declared.tree.CompareOp.{CompareOp}
use Rattle.c_tree.specs.declared.tree.CompareOp.TheVariants as compare
use Rattle.c_tree.specs.Said.{Kind}

abbrev pub add_of : Kind → Option AddOp
add_of (Some k.Plus) = Some add.Plus
add_of (Some k.Minus) = Some add.Minus
add_of _ = None

abbrev pub compare_of : Kind → Option CompareOp
compare_of (Some k.Equal) = Some compare.Equal
compare_of (Some k.NotEqual) = Some compare.NotEqual
compare_of (Some k.Less) = Some compare.Less
compare_of (Some k.Greater) = Some compare.Greater
compare_of (Some k.AtMost) = Some compare.AtMost
compare_of (Some k.AtLeast) = Some compare.AtLeast
compare_of _ = None
