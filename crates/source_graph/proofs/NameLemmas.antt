-- The names that the program of a text declares are names of the text, and its graph reads back.
use Rattle.std.proofs.Common.{◌≡◌, inl, inr, refl, sym, ap, subst, ◌∙◌, ℕ, zero, suc, ◌+◌, ◌-◌, ◌<◌, ◌==◌, Bool, true, false, List, [], ◌∷◌, take, drop, Option, Some, None, Ok, arith}
use Rattle.std.specs.Prelude.{All, Contains, map, slice_get, unwrap_or}
use Rattle.std.specs.Option.{option_map}
use Rattle.std.proofs.lemmas.Bool.{eqb-true}
use Rattle.std.proofs.lemmas.List.{drop-take}
use Rattle.std.proofs.lemmas.List.Elements.{All-nil, All-weaker, All-contains, All-get_or}
use Rattle.std.proofs.lemmas.Option.{slice_get-map, slice_get_within, get_or_from_slice_get}
use Rattle.io_edge.specs.Lines.{is_line_feed}
use Rattle.edge_text.specs.EdgesText.{edges_of}
use Rattle.c_lexer.specs.declared.token.Token.{Token}
use Rattle.c_lexer.specs.declared.token.TokenKind.TheVariants as k
use Rattle.c_lexer.specs.Pieces.{is_word_byte, IsName}
use Rattle.c_lexer.specs.Tokens.{tokens_of, StandsIn}
use Rattle.c_tree.specs.declared.tree.Name.{Name}
use Rattle.c_tree.specs.declared.tree.Program.{Program}
use Rattle.c_tree.specs.declared.tree.Item.{Item}
use Rattle.c_tree.specs.Said.{Kind, Kept}
use Rattle.c_tree.specs.Tokens.{source, bytes_of, name_of}
use Rattle.c_tree.specs.Reading.{IsKept, Placed, kinds_of}
use Rattle.c_parser.specs.Program.{Written, program_said, items_of, IsOnlyProgram, IsWritten}
use Rattle.emit_list.specs.declared.vertex.Vertex.{Vertex}
use Rattle.emit_list.specs.Vertices.{Listed, IsListed}
use Rattle.emit_list.specs.Printed.{list_bytes}
use Rattle.emit_list.specs.ReadBack.{IsOneLine, edge_by}
use Rattle.graph_emit.specs.declared.fault.EmitKind.{EmitKind}
use Rattle.graph_emit.specs.Names.{declared_names, IsNamedBy, GraphsKeepRules, GraphsAreNamed}
use Rattle.source_graph.specs.Sources.{IsSourceGraph}
use Rattle.source_graph.proofs.Spelled.{SpelledBy, program_spelled}

-- ---- a kept token
placed_at : (stood : ℕ → Name) (at : ℕ) (xs : List Kept) (x : Kept) → Placed stood at xs → Contains xs x → IsKept x (stood (at + x.offset))
placed_at stood at [] x p (i, lt, is) = absurd (omega (arith, lt))
placed_at stood at (y ∷ ys) x p (zero, lt, is) = subst (λ (z : Kept). IsKept z (stood (at + z.offset))) is p.0
placed_at stood at (y ∷ ys) x p (suc i, lt, is) = placed_at stood at ys x p.1 (i, omega (arith, lt), is)

-- ---- a token of kind Name
kind_found : (o : Option Token) → option_map (λ (t : Token). let x : Kind = Some t.kind in x) o ≡ Some (Some k.Name) → (t : Token) × (o ≡ Some t) × (t.kind ≡ k.Name)
kind_found None h = absurd (cc)
kind_found (Some t) h = (t, refl, cc)

named_at : (tokens : List Token) (i : ℕ) → slice_get (kinds_of tokens) i ≡ Some (Some k.Name) → (t : Token) × (slice_get tokens i ≡ Some t) × (t.kind ≡ k.Name)
named_at tokens i h = kind_found (slice_get tokens i) (sym (slice_get-map (λ (t : Token). let x : Kind = Some t.kind in x) tokens i) ∙ h)

token_at : (P : Token → Type 0) (tokens : List Token) (i : ℕ) (t : Token) → All P tokens → slice_get tokens i ≡ Some t → P t
token_at P tokens i t all h = subst P (get_or_from_slice_get tokens i t t h) (All-get_or P tokens i t (slice_get_within tokens i t h) all)

between : (start end : ℕ) (text : List ℕ) → start < end → take (end - start) (drop start text) ≡ drop start (take end text)
between start end text lt = sym (drop-take start (end - start) text) ∙ ap (λ n. drop start (take n text)) (let e : start + (end - start) ≡ end = omega (arith, lt) in e)

bytes_at : (text : List ℕ) (tokens : List Token) (i : ℕ) (t : Token) → slice_get tokens i ≡ Some t → bytes_of (source text tokens) i ≡ drop t.start (take t.end text)
bytes_at text tokens i t h = ap (λ (o : Option Token). unwrap_or (option_map (λ (t : Token). drop t.start (take t.end text)) o) []) h

-- the bytes of a Name token are a name
name_at : (text : List ℕ) (tokens : List Token) (i : ℕ) → All (StandsIn text) tokens → slice_get (kinds_of tokens) i ≡ Some (Some k.Name) → IsName (bytes_of (source text tokens) i)
name_at text tokens i all h =
    let f = named_at tokens i h in
    let t = f.0 in
    let s : StandsIn text t = token_at (StandsIn text) tokens i t all f.1 in
    subst IsName (between t.start t.end text s.some ∙ sym (bytes_at text tokens i t f.1)) (s.named f.2)

spelled_name : (text : List ℕ) (tokens : List Token) (written : List Written) (name : List ℕ) → All (StandsIn text) tokens → IsWritten (source text tokens) written → SpelledBy (program_said written) name → IsName name
spelled_name text tokens written name all w h =
    let x : Kept = record { offset = h.offset; tok = h.tok; bytes = Some name } in
    let kept = placed_at (name_of (source text tokens)) 0 (program_said written).kept x w.placed h.stands in
    let at : 0 + h.offset ≡ h.offset = omega arith in
    let same : name ≡ bytes_of (source text tokens) h.offset = kept.1 ∙ ap (bytes_of (source text tokens)) at in
    let kind : slice_get (kinds_of tokens) h.offset ≡ Some (Some k.Name) = subst (λ (l : List Kind). slice_get l h.offset ≡ Some (Some k.Name)) w.spelled h.kind in
    subst IsName (sym same) (name_at text tokens h.offset all kind)

pub names_are_names : ((text : List ℕ) (tokens : List Token) → tokens_of text ≡ Ok tokens → All (StandsIn text) tokens)
    → (text : List ℕ) (tokens : List Token) (program : Program) → tokens_of text ≡ Ok tokens → IsOnlyProgram (source text tokens) program → All IsName (declared_names program.items)
names_are_names stand text tokens program has p =
    subst (λ (l : List Item). All IsName (declared_names l)) p.items_are
    (All-weaker (SpelledBy (program_said p.written)) IsName (λ name h. spelled_name text tokens p.written name (stand text tokens has) p.is h) (declared_names (items_of p.written)) (program_spelled p.written))

-- ---- no line feed in a name
not_feed : (b : ℕ) (t : Bool) → (b == 10) ≡ t → is_word_byte b ≡ true → t ≡ false
not_feed b true e h = let at : is_word_byte 10 ≡ true = subst (λ b. is_word_byte b ≡ true) (eqb-true b 10 e) h in absurd (cc)
not_feed b false e h = refl

one_line : (names : List (List ℕ)) (v : Vertex) → All IsName names → IsNamedBy names v → IsOneLine v
one_line names v all (inl none) = subst (All (λ b. is_line_feed b ≡ false)) (sym none) (All-nil (λ b. is_line_feed b ≡ false))
one_line names v all (inr among) = All-weaker (λ b. is_word_byte b ≡ true) (λ b. is_line_feed b ≡ false) (λ b h. not_feed b (is_line_feed b) refl h) v.name (All-contains IsName names v.name all among).bytes

pub read_back : GraphsKeepRules → GraphsAreNamed
    → ((text : List ℕ) (tokens : List Token) (program : Program) → tokens_of text ≡ Ok tokens → IsOnlyProgram (source text tokens) program → All IsName (declared_names program.items))
    → ((names : List (List ℕ)) (list : Listed) → IsListed list.vertices list.edges → All IsOneLine list.vertices → edges_of names (list_bytes list) ≡ map (edge_by names) list.edges)
    → (kind : EmitKind) (text : List ℕ) (list : Listed) → IsSourceGraph kind text list → (names : List (List ℕ)) → edges_of names (list_bytes list) ≡ map (edge_by names) list.edges
read_back rules named are reads kind text list g names =
    let declared = declared_names g.program.items in
    let lines = All-weaker (IsNamedBy declared) IsOneLine (λ v h. one_line declared v (are text g.tokens g.program g.has.tokens_are g.program_is) h) list.vertices (named kind g.program list g.graph) in
    reads names list (rules kind g.program list g.graph).listed lines
