-- A copy is read piece by piece, and what its lines give is gathered.
use Rattle.std.proofs.Common.{◌≡◌, ◌≢◌, ℕ, ◌≤◌, List, [], ◌++◌, length, take, refl, ◌∙◌, arith, subst}
use Rattle.graph_words.specs.declared.types.Edge.{Edge}
use Rattle.normal_law.specs.Closure.{Normal}
use Rattle.faults.specs.declared.kinds.InputKind.{InputKind}
use Rattle.io_edge.specs.Devices.{GivesBytes}
use Rattle.edge_text.specs.declared.edges.EdgesFault.{EdgesFault}
use Rattle.edge_text.specs.declared.edges.EdgesFault.TheVariants as edges
use Rattle.edge_text.specs.Feed.{IsFed}
use Rattle.edge_text.proofs.FeedLemmas.{IsReadTo, reads_start, reads_on}
use Rattle.disk_model.specs.Disk.{ReadsBytes}
use Rattle.faults.specs.Reasons.{BlamesText, Holds, disk_causes}
use Rattle.store_fault.specs.Faults.{why_of}
use Rattle.import_text.specs.Given.{AddsJust, IsAboveIn}
use Rattle.import_text.specs.Gathered.{Gathered, GathersEdges, GathersPiece, GathersEnd}
use Rattle.import_text.specs.GivenPart.{GathersFile, copy_fault}
use Rattle.import_text.proofs.DegreeLemmas.{vertex_count_of-append}
use Rattle.import_text.proofs.GivenLemmas.{AddsJust-then, above_none, above_append}

-- what a read of a disk's file gives
pub gives_from_reads : (file : List ℕ) (at : ℕ) (buf : List ℕ) (n : ℕ) → ReadsBytes file at buf n → GivesBytes file at buf n
gives_from_reads file at buf n r = record { within = omega (arith, r.count); bytes = r.bytes; some = λ room more. omega (arith, r.count, room, more) }

-- ---- faults
-- a reader that reads nothing itself leaves no cause open but that the copy's text has a fault
pub copy_cause : (rose P : Type 0) (file : ℕ) (f : EdgesFault) → f ≢ edges.ReadFailed → ((line : ℕ) (kind : InputKind) → f ≡ edges.Text line kind → P)
    → Holds (disk_causes rose (BlamesText P file)) (why_of (copy_fault file f))
copy_cause rose P file edges.ReadFailed not_read bad = absurd (not_read refl)
copy_cause rose P file (edges.Text line kind) not_read bad = record { file_is = refl; place_is = refl; kind_is = refl; why = bad line kind refl }
copy_cause rose P file edges.NoMemory not_read bad = tt

-- ---- gathering
pub Gathers-none : (n : Normal) (a : Gathered) → GathersEdges n [] a a
Gathers-none n a = record { lo = refl; hi = refl; given = above_none n a.lo a.hi a.given; vertices = omega arith }

pub Gathers-then : (n : Normal) (xs ys : List Edge) (a b c : Gathered) → GathersEdges n xs a b → GathersEdges n ys b c → GathersEdges n (xs ++ ys) a c
Gathers-then n xs ys a b c p q =
    let here = subst (λ (hi : ℕ). AddsJust (IsAboveIn n a.lo hi ys) b.given c.given) p.hi (subst (λ (lo : ℕ). AddsJust (IsAboveIn n lo b.hi ys) b.given c.given) p.lo q.given) in
    record {
      lo = q.lo ∙ p.lo;
      hi = q.hi ∙ p.hi;
      given = AddsJust-then (IsAboveIn n a.lo a.hi xs) (IsAboveIn n a.lo a.hi ys) (IsAboveIn n a.lo a.hi (xs ++ ys)) a.given b.given c.given p.given here (above_append n a.lo a.hi xs ys);
      vertices = omega (arith, p.vertices, q.vertices, vertex_count_of-append xs ys);
    }

-- the text so far is read, and what its lines that have ended give is gathered
pub record IsGathering (n : Normal) (P : List ℕ → Type 0) (first now : Gathered) (text : List ℕ) (found : List Edge) : Type 0 where
  pub read : IsReadTo P first.reader now.reader text found
  pub gathers : GathersEdges n found first now

pub gathering_start : (n : Normal) (P : List ℕ → Type 0) (g : Gathered) → g.reader.place ≡ 0 → IsGathering n P g g [] []
gathering_start n P g start = record { read = reads_start P g.reader [] start refl; gathers = Gathers-none n g }

-- one piece more
pub gathering_on : (n : Normal) (P : List ℕ → Type 0) (first now after : Gathered) (text : List ℕ) (found : List Edge) (place k : ℕ) (buf : List ℕ) → now.reader.place ≡ place → ((f : List ℕ) → P f → GivesBytes f place buf k) → k ≤ length buf → IsGathering n P first now text found
    → (t : GathersPiece n (take k buf) now after) → IsGathering n P first after (text ++ take k buf) (found ++ t.found)
gathering_on n P first now after text found place k buf here gives few c t =
    record {
      read = reads_on P first.reader now.reader text place here buf k found gives c.read after.reader (found ++ t.found) few t.place (λ names f. t.fed names text found f);
      gathers = Gathers-then n found t.found first now after c.gathers t.gathers;
    }

-- and the end
pub gathering_ends : (n : Normal) (names : List (List ℕ)) (tells : Type 0) (file : List ℕ) (first now after : Gathered) (text : List ℕ) (found : List Edge) (len : ℕ) → now.reader.place ≡ len → IsGathering n (λ f. tells × (f ≡ file)) first now text found
    → ((f : List ℕ) → tells × (f ≡ file) → text ≡ f) → GathersEnd n now after → IsFed 0 names [] first.reader [] → GathersFile n names tells file len first after
gathering_ends n names tells file first now after text found len here c whole t fed =
    record {
      text = text;
      found = found ++ t.found;
      reads = t.reads names text found (c.read.feeds names fed);
      is_file = λ h. whole file (h, refl);
      len_is = c.read.length_is ∙ here;
      gathers = Gathers-then n found t.found first now after c.gathers t.gathers;
    }
