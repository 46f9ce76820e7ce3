use Rattle.std.proofs.Common.{◌≡◌, ap, ◌∙◌, ◌+◌, Some}
use Rattle.c_lexer.specs.declared.token.TokenKind.TheVariants as k
use Rattle.c_tree.specs.Tokens.{kind_at}
use Rattle.c_tree.proofs.Choices.{not_from_false}
use Rattle.c_parser.specs.Starts.{is_assigned}
use Rattle.c_parser.proofs.Assigned.{name_assigned}
use Rattle.c_parser.proofs.simple.read_named.Goals as goal

pub read_assign-requires : goal.read_assign-requires
read_assign-requires c =
    let b = kind_at c.args.tokens.now (c.args.at + 1) in
    record {
      within = c.requires.within;
      here = ap (λ a. is_assigned a b) c.requires.here ∙ name_assigned b (λ h. not_from_false (b ≡ Some k.OpenParen) c.is_at.result c.is_at.ensures c.if-is_at.false h);
    }
