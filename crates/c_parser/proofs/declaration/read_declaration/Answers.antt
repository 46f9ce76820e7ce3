use Rattle.std.proofs.Common.{sym, ◌∙◌, ap, subst, ◌+◌, [], ◌∷◌, ◌++◌}
use Rattle.c_tree.specs.Tokens.{source, kind_at}
use Rattle.c_tree.specs.Grammar.{var_said, more_vars, declaration_said}
use Rattle.c_tree.specs.Reading.{ReadsAt}
use Rattle.c_tree.proofs.Places.{from_more}
use Rattle.c_tree.proofs.Handed.{handed_on}
use Rattle.c_parser.proofs.Vars.{base_kind, base_kind_is, declared_at, declared_first_refused, declared_rest_refused}
use Rattle.c_parser.proofs.declaration.read_declaration.Goals as goal

pub read_var-requires : goal.read_var-requires
read_var-requires c = (from_more (source c.args.bytes.now c.args.tokens.now) c.args.at (base_kind c.args.base) (base_kind_is (kind_at c.args.tokens.now c.args.at) c.args.base c.requires.here)).1

pub returns-in_err-first : goal.returns-in_err-first
returns-in_err-first c =
    let s = source c.args.bytes.now c.args.tokens.now in
    handed_on var_said declaration_said s (c.args.at + 1) c.args.room c.args.at c.args.room
    (λ token why r. declared_first_refused s c.args.at c.args.room token why c.args.base (base_kind_is (kind_at c.args.tokens.now c.args.at) c.args.base c.requires.here) r)
    c.in_err-first.field-0.0 c.in_err-first.ensures c.from_residual.result c.from_residual.ensures.1

pub returns-in_err-more : goal.returns-in_err-more
returns-in_err-more c =
    let s = source c.args.bytes.now c.args.tokens.now in
    handed_on more_vars declaration_said s c.in_ok-first.next c.args.room c.args.at c.args.room
    (λ token why r. declared_rest_refused s c.args.at c.in_ok-first.next c.args.room token why c.args.base c.in_ok-first.first (base_kind_is (kind_at c.args.tokens.now c.args.at) c.args.base c.requires.here) c.in_ok-first.ensures r)
    c.in_err-more.field-0.0 c.in_err-more.ensures c.from_residual-in_err-more.result c.from_residual-in_err-more.ensures.1

pub returns : goal.returns
returns c =
    let s = source c.args.bytes.now c.args.tokens.now in
    let first = c.in_ok-first.first in
    let more = c.in_ok-more.more in
    let vars = c.in_ok-append.ensures ∙ ap (λ w. w ++ more) (c.in_ok-push.ensures.ok ∙ ap (λ w. w ++ first ∷ []) c.new-vars.ensures) in
    subst (λ w. ReadsAt declaration_said s c.args.at c.args.room (record { base = c.args.base; vars = w }) c.in_ok-more.after) (sym vars)
    (declared_at s c.args.at c.in_ok-first.next c.in_ok-more.after c.args.room c.args.base first more (base_kind_is (kind_at c.args.tokens.now c.args.at) c.args.base c.requires.here) c.in_ok-first.ensures c.in_ok-more.ensures)
