-- A text has one graph.
use Rattle.std.proofs.Common.{◌≡◌, ◌⊎◌, ◌≤◌, inl, inr, ℕ, List, Ok, Err, length, ap, sym, subst, ◌∙◌}
use Rattle.std.specs.Prelude.{Result}
use Rattle.c_lexer.specs.declared.token.Token.{Token}
use Rattle.c_lexer.specs.declared.fault.LexFault.{LexFault}
use Rattle.c_lexer.specs.declared.fault.LexFault.TheVariants as lex
use Rattle.c_lexer.specs.Tokens.{tokens_of}
use Rattle.c_tree.specs.declared.tree.Item.{Item}
use Rattle.c_tree.specs.declared.tree.Program.{Program}
use Rattle.c_tree.specs.Tokens.{source}
use Rattle.c_parser.specs.declared.fault.ParseFault.{ParseFault}
use Rattle.c_parser.specs.declared.fault.ParseFault.TheVariants as parse
use Rattle.c_parser.specs.Program.{IsFaultOf, IsOnlyProgram}
use Rattle.emit_list.specs.Vertices.{Listed}
use Rattle.graph_emit.specs.declared.fault.EmitFault.{EmitFault}
use Rattle.graph_emit.specs.declared.fault.EmitFault.TheVariants as emit
use Rattle.graph_emit.specs.declared.fault.EmitKind.{EmitKind}
use Rattle.graph_emit.specs.Program.{IsProgramGraph, graph_of, listed}
use Rattle.graph_emit.specs.State.{State}
use Rattle.source_graph.specs.Sources.{HasTokens, IsRefusal, IsSourceGraph, no_graph, no_program, no_token, of_emit, of_lex, of_parse}

same_tokens : (r : Result (List Token) LexFault) (a b : List Token) → r ≡ Ok a → r ≡ Ok b → a ≡ b
same_tokens r a b p q = cc

same_state : (r : Result (State × Unit {0}) EmitFault) (a b : State) → r ≡ Ok (a, tt) → r ≡ Ok (b, tt) → a ≡ b
same_state r a b p q = ap (λ (x : Result (State × Unit {0}) EmitFault). state_or x a) (sym p ∙ q)
  where
    state_or : Result (State × Unit {0}) EmitFault → State → State
    state_or (Ok x) d = x.0
    state_or (Err e) d = d

same_program : (text : List ℕ) (tokens : List Token) (a b : Program) → IsOnlyProgram (source text tokens) a → IsOnlyProgram (source text tokens) b → b ≡ a
same_program text tokens a b p q =
    let items : b.items ≡ a.items = p.only b.items (record { written = q.written; items_are = q.items_are; is = q.is }) in
    ap (λ (l : List Item). record { items = l }) items

same_graph : (kind : EmitKind) (program : Program) (a b : Listed) → IsProgramGraph kind program a → IsProgramGraph kind program b → a ≡ b
same_graph kind program a b p q =
    p.same ∙ ap listed (same_state (graph_of kind program) p.state q.state p.walked q.walked) ∙ sym q.same

pub one_graph : (kind : EmitKind) (text : List ℕ) (a b : Listed) → IsSourceGraph kind text a → IsSourceGraph kind text b → a ≡ b
one_graph kind text a b p q =
    let tokens = same_tokens _ p.tokens q.tokens p.has.tokens_are q.has.tokens_are in
    let only = subst (λ (t : List Token). IsOnlyProgram (source text t) q.program) (sym tokens) q.program_is in
    let program = same_program text p.tokens p.program q.program p.program_is only in
    same_graph kind p.program a b p.graph (subst (λ (x : Program). IsProgramGraph kind x b) program q.graph)

-- ---- refusals

module _ (kind : EmitKind) (text : List ℕ) where
  pub lex_refused : (f : LexFault) → length text ≤ 16777216 → (f ≡ lex.NoMemory) ⊎ (tokens_of text ≡ Err f) → IsRefusal kind text (of_lex f)
  lex_refused (lex.At line column k) short (inl is) = absurd (cc)
  lex_refused (lex.At line column k) short (inr is) = no_token line column k short is
  lex_refused lex.NoMemory short is = tt

  pub parse_refused : (tokens : List Token) (f : ParseFault) → HasTokens text tokens → IsFaultOf tokens f → IsRefusal kind text (of_parse tokens f)
  parse_refused tokens (parse.At token k) has wrong = no_program tokens token k has wrong
  parse_refused tokens parse.NoMemory has wrong = tt

  pub emit_refused : (tokens : List Token) (program : Program) (f : EmitFault) → HasTokens text tokens → IsOnlyProgram (source text tokens) program → (f ≡ emit.NoMemory) ⊎ (graph_of kind program ≡ Err f) → IsRefusal kind text (of_emit f)
  emit_refused tokens program (emit.At line k) has only (inl is) = absurd (cc)
  emit_refused tokens program (emit.At line k) has only (inr is) = no_graph tokens program line k has only is
  emit_refused tokens program emit.NoMemory has only is = tt
