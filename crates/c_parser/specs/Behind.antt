-- What stands behind the name of an item.
use Rattle.std.specs.Prelude.{Bool, map}
use Rattle.c_lexer.specs.declared.token.TokenKind.TheVariants as k
use Rattle.c_tree.specs.Said.{Said, word, ◌⨾◌, deeper}
use Rattle.c_tree.specs.Grammar.{params_said, block_said, stmt_said}
use Rattle.c_parser.specs.declared.item.FunctionRest.{FunctionRest}

-- parameters in their brackets, and a block
abbrev pub function_behind : Bool × FunctionRest → Said
function_behind x =
    word k.OpenParen ⨾ params_said x.0 x.1.params ⨾ deeper (word k.OpenBrace ⨾ block_said (map stmt_said x.1.block))
