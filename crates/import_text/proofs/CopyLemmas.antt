-- A file is copied piece by piece.
use Rattle.std.proofs.Common.{◌≡◌, ◌≢◌, ℕ, ◌+◌, ◌-◌, ◌≤◌, List, [], ◌∷◌, ◌++◌, length, take, drop, replicate, refl, sym, ap, ◌∙◌, arith, subst, append-nil, Some}
use Rattle.std.specs.Prelude.{Option}
use Rattle.std.specs.List.{sum}
use Rattle.std.proofs.lemmas.List.{take_all, drop_all}
use Rattle.graph_words.specs.declared.types.Edge.{Edge}
use Rattle.edge_text.specs.Feed.{IsFed}
use Rattle.edge_text.proofs.FeedLemmas.{IsReadTo, reads_start, reads_on}
use Rattle.io_edge.specs.Devices.{GivesBytes}
use Rattle.disk_model.specs.Disk.{Contents, Sets, written}
use Rattle.import_text.specs.Degrees.{AreDegrees}
use Rattle.import_text.specs.Tally.{Tallied, TakesPiece, TakesEnd}
use Rattle.faults.specs.declared.kinds.InputKind.{InputKind}
use Rattle.edge_text.specs.declared.edges.EdgesFault.{EdgesFault}
use Rattle.edge_text.specs.declared.edges.EdgesFault.TheVariants as edges
use Rattle.faults.specs.Reasons.{Holds, Implies}
use Rattle.edge_text.specs.EdgesText.{edges_fault}
use Rattle.store_fault.specs.Faults.{of_edges, why_of}
use Rattle.import_text.specs.Copy.{CopiesBehind, copy_causes}
use Rattle.import_text.proofs.DegreeLemmas.{AreDegrees-none, AreDegrees-then}

-- bytes that are written at the end
pub written_at_end : (file bytes : List ℕ) (at : ℕ) → length file ≡ at → written file at bytes ≡ file ++ bytes
unfolding written
written_at_end file [] at end = sym (append-nil file)
written_at_end file (b ∷ bytes) at end =
    let past : length file ≤ at + length (b ∷ bytes) = omega (arith, end) in
    let whole : length file ≤ at = omega (arith, end) in
    let zero : at - length file ≡ 0 = omega (arith, end) in
    let none : replicate (at - length file) 0 ≡ [] = ap (λ n. replicate n 0) zero in
    let front : take at (file ++ replicate (at - length file) 0) ≡ file = ap (λ l. take at (file ++ l)) none ∙ ap (take at) (append-nil file) ∙ take_all at file whole in
    ap (λ (l : List ℕ). (l ++ b ∷ bytes) ++ drop (at + length (b ∷ bytes)) file) front
    ∙ ap (λ (l : List ℕ). (file ++ b ∷ bytes) ++ l) (drop_all (at + length (b ∷ bytes)) file past)
    ∙ append-nil (file ++ b ∷ bytes)

-- a reader that reads nothing itself leaves no cause open but the first fault of the text
pub reader_cause : (read_rose disk_rose : Type 0) (P : List (List ℕ) → Type 0) (told : Option (List ℕ)) (f : EdgesFault) → f ≢ edges.ReadFailed
    → ((line : ℕ) (kind : InputKind) → f ≡ edges.Text line kind → (text : List ℕ) (names : List (List ℕ)) → told ≡ Some text → P names
    → edges_fault 0 names text ≡ Some (record { line = line; kind = kind }))
    → Holds (copy_causes read_rose disk_rose P told) (why_of (of_edges f))
reader_cause read_rose disk_rose P told edges.ReadFailed not_read first = absurd (not_read refl)
reader_cause read_rose disk_rose P told (edges.Text line kind) not_read first = (refl, first line kind refl)
reader_cause read_rose disk_rose P told edges.NoMemory not_read first = tt

-- a cause in a part of the call is one in the whole
pub copy_more : (read_rose disk_rose risen : Type 0) (P Q : List (List ℕ) → Type 0) (told : Option (List ℕ)) → (disk_rose → risen)
    → ((names : List (List ℕ)) → Q names → P names) → Implies (copy_causes read_rose disk_rose P told) (copy_causes read_rose risen Q told)
copy_more read_rose disk_rose risen P Q told later names_are =
    record {
      reads = λ h. h;
      disk = later;
      writes = λ h. h;
      text = λ file line kind h. (h.0, λ text names t q. h.1 text names t (names_are names q));
      other = λ file place h. h;
      bad = λ file place kind h. h;
      words = λ h. h;
      none = λ h. h;
      left = λ i j h. h;
      unknown = λ h. h;
    }

-- the text so far is read and stored, and its edges so far are counted
pub record IsCopying (P : List ℕ → Type 0) (tells : Type 0) (file : ℕ) (first now : Tallied) (old new : Contents) (text : List ℕ) (front : List Edge) : Type 0 where
  pub read : IsReadTo P first.reader now.reader text front
  pub stored : tells → Sets file text old new
  pub degrees : AreDegrees front now.degrees
  pub all : sum now.degrees ≤ now.reader.place
  pub small : length now.degrees ≤ 16777216

pub copying_start : (P : List ℕ → Type 0) (tells : Type 0) (file : ℕ) (t : Tallied) (old : Contents) → t.reader.place ≡ 0 → t.degrees ≡ [] → (tells → old file ≡ []) → IsCopying P tells file t t old old [] []
copying_start P tells file t old start none empty =
    record {
      read = reads_start P t.reader [] start refl;
      stored = λ h. record { here = empty h; others = λ f apart. refl };
      degrees = subst (λ (d : List ℕ). AreDegrees [] d) (sym none) AreDegrees-none;
      all = omega (arith, ap sum none);
      small = omega (arith, ap length none);
    }

-- a text that is stored, and the bytes behind it
stored_on : (file at : ℕ) (text bytes : List ℕ) (old mid new : Contents) → length text ≡ at → Sets file text old mid → Sets file (written (mid file) at bytes) mid new → Sets file (text ++ bytes) old new
stored_on file at text bytes old mid new end before now =
    record {
      here = now.here ∙ ap (λ l. written l at bytes) before.here ∙ written_at_end text bytes at end;
      others = λ f apart. now.others f apart ∙ before.others f apart;
    }

-- one piece more
pub copying_on : (P : List ℕ → Type 0) (tells : Type 0) (file : ℕ) (first now after : Tallied) (old mid new : Contents) (text : List ℕ) (front : List Edge) (place n : ℕ) (buf : List ℕ) → now.reader.place ≡ place → ((f : List ℕ) → P f → GivesBytes f place buf n)
    → n ≤ length buf → IsCopying P tells file first now old mid text front → (tells → Sets file (written (mid file) place (take n buf)) mid new) → (t : TakesPiece (take n buf) now after) → IsCopying P tells file first after old new (text ++ take n buf) (front ++ t.added)
copying_on P tells file first now after old mid new text front place n buf here gives few c stores t =
    record {
      read = reads_on P first.reader now.reader text place here buf n front gives c.read after.reader (front ++ t.added) few t.place (λ names f. t.fed names text front f);
      stored = λ h. stored_on file place text (take n buf) old mid new (c.read.length_is ∙ here) (c.stored h) (stores h);
      degrees = AreDegrees-then front t.added now.degrees after.degrees c.degrees t.counted;
      all = omega (arith, c.all, t.counted.all, t.few, t.place);
      small = t.small c.small;
    }

-- and the end
pub copying_ends : (names : List (List ℕ)) (told : Option (List ℕ)) (tells : Type 0) (file : ℕ) (first now after : Tallied) (old new : Contents) (text : List ℕ) (front : List Edge) (len : ℕ) → now.reader.place ≡ len → IsCopying (λ f. told ≡ Some f) tells file first now old new text front
    → ((f : List ℕ) → told ≡ Some f → text ≡ f) → TakesEnd now after → IsFed 0 names [] first.reader [] → CopiesBehind names told tells file old new len after.degrees after.reader.table
copying_ends names told tells file first now after old new text front len here c whole t fed =
    record {
      text = text;
      edges = front ++ t.added;
      reads = t.reads names text front (c.read.feeds names fed);
      is_file = whole;
      stored = c.stored;
      len_is = sym here ∙ sym c.read.length_is;
      degrees_are = AreDegrees-then front t.added now.degrees after.degrees c.degrees t.counted;
    }
