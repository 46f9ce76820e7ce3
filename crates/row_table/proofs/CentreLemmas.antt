-- Centres, vertex after vertex.
use Rattle.std.proofs.Common.{◌≡◌, ℕ, suc, ◌+◌, ◌<◌, ◌≤◌, ◌⊎◌, Bool, true, false, not, List, [], ◌∷◌, ◌++◌, length, get_or, refl, sym, ap, subst, ◌∙◌, append_assoc, arith, inl, inr}
use Rattle.std.specs.Prelude.{Contains, ◌==◌}
use Rattle.std.proofs.lemmas.Bool.{cases_lt, false≢true}
use Rattle.std.proofs.lemmas.Bool.Decides.{nat_tests}
use Rattle.std.proofs.lemmas.List.{append-nil}
use Rattle.std.proofs.lemmas.List.Elements.{All-append, All-contains, All-weaker, All-nil, All-push, Contains-append_left, Contains-append_right, Contains-get_or}
use Rattle.graph_words.specs.declared.types.Vertex.{Vertex}
use Rattle.graph_words.specs.declared.types.Born.{Born}
use Rattle.closing_machine.proofs.Members.{either}
use Rattle.partition_file.specs.Spelling.{row_of}
use Rattle.row_table.specs.Loaded.{Loaded, IsLoaded, IsRow, IsCentre, AreCentres, LiesInSpan, LiesInHigh}
use Rattle.row_table.specs.Sieve.{HasNumber, IsEmptySet}
use Rattle.row_table.specs.Joined.{AppendsCentres, IsEndSet, EndsHere, MarksEnds, vertex}
use Rattle.row_table.proofs.SearchLemmas.{from_row, in_its_row}
use Rattle.row_table.proofs.RowLemmas.{some_born}
use Rattle.row_table.proofs.JoinLemmas.{pairs_append, same_vertex, spans_behind}

pub is_end_set : (edges : List Born) (none ends : List Bool) → IsEmptySet none → MarksEnds (EndsHere edges) none ends → IsEndSet edges ends
is_end_set edges none ends empty m w = (λ h. either (λ (x : HasNumber none w). absurd (empty w x)) (λ (x : EndsHere edges w). x) (m.only w h), m.has w)

module _ (edges : List Born) (ends : List Bool) (v : ℕ) (is : IsEndSet edges ends) where
  pub centre_is : HasNumber ends v → 0 < length (row_of v edges) → IsCentre edges (vertex v)
  centre_is h some =
      let e = (is v).0 h in
      let b : Born = get_or (row_of v edges) 0 some_born in
      let r = from_row edges b v (Contains-get_or (row_of v edges) 0 some_born some) in
      record { first = e.0; second = b; has_first = e.1; has_second = r.0; ends = same_vertex e.0.edge.dst (vertex v) e.2; begins = same_vertex b.edge.src (vertex v) r.1 }

  pub centre_ends : (x : Born) → Contains edges x → x.edge.dst.0 ≡ v → HasNumber ends v
  centre_ends x m e = (is v).1 (x, m, e)

  pub centre_row : (y : Born) → Contains edges y → y.edge.src.0 ≡ v → 0 < length (row_of v edges)
  centre_row y m e = let i = in_its_row edges y v e m in omega (arith, i.1)

-- ---- vertex after vertex

pub centres_none : (edges : List Born) (P : ℕ → Type 0) (out : List Vertex) → ((x y : Born) → Contains edges x → Contains edges y → x.edge.dst ≡ y.edge.src → P x.edge.dst.0 → ⊥) → AppendsCentres edges P out out
centres_none edges P out none =
    record {
      new = [];
      behind = sym (append-nil out);
      are = record {
        all = λ x y mx my e p. absurd (none x y mx my e p);
        only = All-nil (λ (v : Vertex). IsCentre edges v × P v.0);
        ascending = λ i j d lt end. absurd (omega arith);
      };
    }

pub centres_one : (edges : List Born) (v : ℕ) (out : List Vertex) → IsCentre edges (vertex v) → AppendsCentres edges (λ w. w ≡ v) out (out ++ vertex v ∷ [])
centres_one edges v out c =
    record {
      new = vertex v ∷ [];
      behind = refl;
      are = record {
        all = λ x y mx my e p. subst (λ (w : Vertex). Contains (vertex v ∷ []) w) (sym (same_vertex x.edge.dst (vertex v) p)) (0, omega arith, refl);
        only = All-push (λ (w : Vertex). IsCentre edges w × (w.0 ≡ v)) [] (vertex v) (All-nil (λ (w : Vertex). IsCentre edges w × (w.0 ≡ v))) (c, refl);
        ascending = λ i j d lt end. absurd (omega arith);
      };
    }

module _ (edges : List Born) (P Q R : ℕ → Type 0) (to : (v : ℕ) → R v → P v ⊎ Q v) (back : (v : ℕ) → P v ⊎ Q v → R v) (before : (v w : ℕ) → P v → Q w → v < w) where
  pub centres_both : (start mid end : List Vertex) → AppendsCentres edges P start mid → AppendsCentres edges Q mid end → AppendsCentres edges R start end
  centres_both start mid end f g =
      record {
        new = f.new ++ g.new;
        behind = g.behind ∙ ap (λ (x : List Vertex). x ++ g.new) f.behind ∙ append_assoc start f.new g.new;
        are = record {
          all = λ x y mx my e r. either (λ (p : P x.edge.dst.0). Contains-append_left f.new g.new x.edge.dst (f.are.all x y mx my e p)) (λ (q : Q x.edge.dst.0). Contains-append_right f.new g.new x.edge.dst (g.are.all x y mx my e q)) (to x.edge.dst.0 r);
          only = All-append (λ (v : Vertex). IsCentre edges v × R v.0) f.new g.new (All-weaker (λ (v : Vertex). IsCentre edges v × P v.0) (λ (v : Vertex). IsCentre edges v × R v.0) (λ v p. (p.0, back v.0 (inl p.1))) f.new f.are.only) (All-weaker (λ (v : Vertex). IsCentre edges v × Q v.0) (λ (v : Vertex). IsCentre edges v × R v.0) (λ v q. (q.0, back v.0 (inr q.1))) g.new g.are.only);
          ascending = pairs_append (λ (v w : Vertex). v.0 < w.0) f.new g.new f.are.ascending g.are.ascending (λ v w mv mw. before v.0 w.0 (All-contains (λ (x : Vertex). IsCentre edges x × P x.0) f.new v f.are.only mv).1 (All-contains (λ (x : Vertex). IsCentre edges x × Q x.0) g.new w g.are.only mw).1);
        };
      }

module _ (edges : List Born) (low : ℕ) where
  pub span_none : (out : List Vertex) → AppendsCentres edges (λ v. (low ≤ v) × (v < low)) out out
  span_none out = centres_none edges (λ v. (low ≤ v) × (v < low)) out (λ x y mx my e p. omega (arith, p.0, p.1))

  pub span_more : (v : ℕ) (start mid end : List Vertex) → low ≤ v → AppendsCentres edges (λ w. (low ≤ w) × (w < v)) start mid → AppendsCentres edges (λ w. w ≡ v) mid end → AppendsCentres edges (λ w. (low ≤ w) × (w < v + 1)) start end
  span_more v start mid end le f g =
      centres_both edges (λ w. (low ≤ w) × (w < v)) (λ w. w ≡ v) (λ w. (low ≤ w) × (w < v + 1))
      (λ w p. elim (cases_lt w v) [ inl lt ↦ inl (p.0, lt) | inr ge ↦ inr (let l : w < v + 1 = p.1 in omega arith) ])
      (λ w o. either (λ (p : (low ≤ w) × (w < v)). (p.0, omega (arith, p.1))) (λ (e : w ≡ v). (omega arith, omega arith)) o)
      (λ w x p e. omega (arith, p.1, e))
      start mid end f g

pub all_centres : (l : Loaded) (mid end : List Vertex) → IsLoaded l → AppendsCentres l.edges (LiesInSpan l.low) [] mid → AppendsCentres l.edges (LiesInHigh l.high) mid end → AreCentres l.edges end
all_centres l mid end h f g =
    let b = centres_both l.edges (LiesInSpan l.low) (LiesInHigh l.high) (IsRow l) (λ v r. r) (λ v o. o) (spans_behind l h) [] mid end f g in
    rw b.behind (
    record {
      all = λ x y mx my e. b.are.all x y mx my e (subst (λ (v : Vertex). IsRow l v.0) (sym e) (All-contains (λ (z : Born). IsRow l z.edge.src.0) l.edges y h.sources my));
      only = All-weaker (λ (v : Vertex). IsCentre l.edges v × IsRow l v.0) (IsCentre l.edges) (λ v p. p.0) b.new b.are.only;
      ascending = b.are.ascending;
    })

-- what the test for an empty row says
pub some_there : (b : Bool) (xs ys : List Born) → b ≡ (length xs == 0) → xs ≡ ys → not b ≡ true → 0 < length ys
some_there true xs ys e same t = absurd (false≢true t)
some_there false [] ys e same t = absurd (never e)
  where
    never : false ≡ (0 == 0) → ⊥
    never h = grind (arith, nat_tests, h)
some_there false (x ∷ xs) ys e same t = subst (λ (l : List Born). 0 < length l) same (omega arith)

pub there_some : (b : Bool) (xs ys : List Born) → b ≡ (length xs == 0) → xs ≡ ys → 0 < length ys → not b ≡ true
there_some false xs ys e same lt = refl
there_some true [] ys e same lt = absurd (let l : 0 < 0 = subst (λ (l : List Born). 0 < length l) (sym same) lt in omega arith)
there_some true (x ∷ xs) ys e same lt = absurd (never (length xs) e)
  where
    never : (k : ℕ) → true ≡ (suc k == 0) → ⊥
    never k h = grind (arith, nat_tests, h)
