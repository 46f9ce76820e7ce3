-- What stands behind the name of a function, at a place of the tokens.
use Rattle.std.proofs.Common.{◌≡◌, ◌≢◌, refl, ℕ, ◌+◌, ◌-◌, ◌≤◌, Bool, false, List, [], Some, arith}
use Rattle.c_lexer.specs.declared.token.TokenKind.TheVariants as k
use Rattle.c_tree.specs.declared.tree.Param.{Param}
use Rattle.c_tree.specs.declared.tree.Stmt.{Stmt}
use Rattle.c_tree.specs.declared.fault.Wrong.{Wrong}
use Rattle.c_tree.specs.declared.fault.Wrong.TheVariants.{Unexpected}
use Rattle.c_tree.specs.Said.{Said}
use Rattle.c_tree.specs.Tokens.{Source, kind_at}
use Rattle.c_tree.specs.Reading.{ReadsAt, RefusesAt}
use Rattle.c_tree.proofs.Parts.{tok, seq, seq_joined, below, Least, Joined}
use Rattle.c_tree.proofs.Places.{tok_refused_at, joined_at, first_refused_at, second_refused_at, word_joined}
use Rattle.c_tree.proofs.Choices.{quiet_parted, in_level_at, in_level_refused_at, behind_tok_at, behind_tok_refused_at}
use Rattle.c_parser.specs.declared.item.FunctionRest.{FunctionRest}
use Rattle.c_parser.specs.Branches.{block_of}
use Rattle.c_parser.specs.Flagged.{params_of}
use Rattle.c_parser.specs.Behind.{function_behind}
use Rattle.c_parser.proofs.Wholes.{Whole, whole_at, whole_refused}
use Rattle.c_parser.proofs.Blocks.{block_least}
use Rattle.c_parser.proofs.Sequences.{levels_same}
use Rattle.c_parser.proofs.Parameters.{params_quiet, params_flat}

pub some_room : (room : ℕ) → 1 ≤ room → room ≢ 0
some_room room some none = omega arith

-- a brace and the statements behind it
abbrev pub body_parts : Unit {0} × List Stmt → Said
body_parts = seq (tok k.OpenBrace) block_of

abbrev pub behind_parts : (Bool × List Param) × (Unit {0} × List Stmt) → Said
behind_parts = seq params_of body_parts

abbrev pub function_parts : Unit {0} × ((Bool × List Param) × (Unit {0} × List Stmt)) → Said
function_parts = seq (tok k.OpenParen) behind_parts

body_least : Least body_parts
body_least = record { tree = (tt, []); flat = refl; nearest = refl }

behind_joined : Joined params_of body_parts behind_parts
behind_joined = seq_joined params_of body_parts (quiet_parted params_of body_parts params_quiet) body_least

behind_least : Least behind_parts
behind_least = record { tree = ((false, []), (tt, [])); flat = refl; nearest = refl }

abbrev pub function_made : Unit {0} × ((Bool × List Param) × (Unit {0} × List Stmt)) → Bool × FunctionRest
function_made x = (x.1.0.0, record { params = x.1.0.1; block = x.1.1.1 })

-- parameters open no level, so the block's is that of all
function_same : (x : Unit {0} × ((Bool × List Param) × (Unit {0} × List Stmt))) → function_behind (function_made x) ≡ below function_parts x
function_same x =
    let flat = params_flat x.1.0 in
    levels_same (function_behind (function_made x)) (below function_parts x).levels (omega arith)

function_whole : Whole (below function_parts) function_behind function_made
function_whole = record { same = function_same; turn = λ t e. ((tt, ((t.0, t.1.params), (tt, t.1.block))), refl) }

pub function_at : (s : Source) (at middle next room : ℕ) (flag : Bool) (ps : List Param) (xs : List Stmt) → kind_at s.tokens at ≡ Some k.OpenParen → room ≢ 0 → ReadsAt params_of s (at + 1) (room - 1) (flag, ps) middle → kind_at s.tokens middle ≡ Some k.OpenBrace → ReadsAt block_of s (middle + 1) (room - 1) xs next → ReadsAt function_behind s at room (flag, record { params = ps; block = xs }) next
function_at s at middle next room flag ps xs e some r i t =
    whole_at (below function_parts) function_behind function_made function_whole s at next room (tt, ((flag, ps), (tt, xs)))
    (in_level_at function_parts s at next room (tt, ((flag, ps), (tt, xs))) some
    (behind_tok_at behind_parts behind_least s at (room - 1) k.OpenParen e next ((flag, ps), (tt, xs))
    (joined_at params_of body_parts behind_parts behind_joined s (at + 1) middle next (room - 1) (flag, ps) (tt, xs) r
    (behind_tok_at block_of block_least s middle (room - 1) k.OpenBrace i next xs t))))

function_refused : (s : Source) (at room token : ℕ) (why : Wrong) → kind_at s.tokens at ≡ Some k.OpenParen → room ≢ 0 → RefusesAt behind_parts s (at + 1) (room - 1) token why → RefusesAt function_behind s at room token why
function_refused s at room token why e some r =
    whole_refused (below function_parts) function_behind function_made function_whole s at room token why
    (in_level_refused_at function_parts s at room token why some
    (behind_tok_refused_at behind_parts behind_least s at (room - 1) k.OpenParen e token why r))

pub params_refused : (s : Source) (at room token : ℕ) (why : Wrong) → kind_at s.tokens at ≡ Some k.OpenParen → room ≢ 0 → RefusesAt params_of s (at + 1) (room - 1) token why → RefusesAt function_behind s at room token why
params_refused s at room token why e some r = function_refused s at room token why e some (first_refused_at params_of body_parts behind_parts behind_joined s (at + 1) (room - 1) token why r)

body_refused : (s : Source) (at middle room token : ℕ) (why : Wrong) (x : Bool × List Param) → kind_at s.tokens at ≡ Some k.OpenParen → room ≢ 0 → ReadsAt params_of s (at + 1) (room - 1) x middle → RefusesAt body_parts s middle (room - 1) token why → RefusesAt function_behind s at room token why
body_refused s at middle room token why x e some r t = function_refused s at room token why e some (second_refused_at params_of body_parts behind_parts behind_joined s (at + 1) middle (room - 1) x token why r t)

pub unbraced_at : (s : Source) (at middle room : ℕ) (x : Bool × List Param) → kind_at s.tokens at ≡ Some k.OpenParen → room ≢ 0 → ReadsAt params_of s (at + 1) (room - 1) x middle → kind_at s.tokens middle ≢ Some k.OpenBrace → RefusesAt function_behind s at room middle Unexpected
unbraced_at s at middle room x e some r other = body_refused s at middle room middle Unexpected x e some r (first_refused_at (tok k.OpenBrace) block_of body_parts (word_joined k.OpenBrace block_of block_least) s middle (room - 1) middle Unexpected (tok_refused_at s middle (room - 1) k.OpenBrace other))

pub block_refused : (s : Source) (at middle room token : ℕ) (why : Wrong) (x : Bool × List Param) → kind_at s.tokens at ≡ Some k.OpenParen → room ≢ 0 → ReadsAt params_of s (at + 1) (room - 1) x middle → kind_at s.tokens middle ≡ Some k.OpenBrace → RefusesAt block_of s (middle + 1) (room - 1) token why → RefusesAt function_behind s at room token why
block_refused s at middle room token why x e some r i t = body_refused s at middle room token why x e some r (behind_tok_refused_at block_of block_least s middle (room - 1) k.OpenBrace i token why t)
