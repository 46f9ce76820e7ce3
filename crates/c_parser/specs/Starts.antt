-- Which statement begins with a token.
use Rattle.std.specs.Prelude.{Bool, true, false, Some}
use Rattle.c_lexer.specs.declared.token.TokenKind.TheVariants as k
use Rattle.c_tree.specs.Said.{Kind}

-- the tokens that begin no statement but one without statements in it
abbrev pub is_flat : Kind → Bool
is_flat (Some k.Semicolon) = false
is_flat (Some k.OpenBrace) = false
is_flat (Some k.If) = false
is_flat (Some k.While) = false
is_flat _ = true

-- the two next tokens begin no statement but an assignment
abbrev pub is_assigned : Kind → Kind → Bool
is_assigned (Some k.Name) (Some k.OpenParen) = false
is_assigned (Some k.Semicolon) _ = false
is_assigned (Some k.OpenBrace) _ = false
is_assigned (Some k.If) _ = false
is_assigned (Some k.While) _ = false
is_assigned (Some k.Return) _ = false
is_assigned (Some k.Malloc) _ = false
is_assigned (Some k.Int) _ = false
is_assigned (Some k.Char) _ = false
is_assigned (Some k.Void) _ = false
is_assigned _ _ = true
