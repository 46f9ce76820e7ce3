-- Files that are read in pieces.
use Rattle.std.proofs.Common.{◌≡◌, ℕ, ◌+◌, ◌-◌, ◌^◌, ◌<◌, ◌≤◌, List, [], ◌++◌, length, get_or, take, drop, refl, sym, ap, subst, ◌∙◌, append_assoc, arith, inl, inr, length-append, length-take, length-drop}
use Rattle.std.specs.Prelude.{Option, Some, None, Bool, IsTrue}
use Rattle.std.proofs.Math.Seq.{get_or-append_right, take-add}
use Rattle.std.proofs.lemmas.Bool.{cases_lt}
use Rattle.std.proofs.lemmas.List.{append-nil, get_or_append_left, take-append-drop, take_all}
use Rattle.graph_words.specs.declared.types.Born.{Born}
use Rattle.partition_file.specs.declared.types.Expect.{Expect}
use Rattle.partition_file.specs.declared.types.PartFault.{PartFault}
use Rattle.partition_file.specs.Reader.{Reader, ReadsPiece, prepend, rest_of, taken}
use Rattle.partition_file.specs.FieldsRead.{Found, complete, ends_with, reading}
use Rattle.partition_file.specs.Spelling.{IsBytes, found}
use Rattle.open_store.specs.Stream.{StreamEnds, HasRead}

pub bytes_append : (xs ys : List ℕ) → IsBytes xs → IsBytes ys → IsBytes (xs ++ ys)
bytes_append xs ys x-are y-are i = elim (cases_lt i (length xs)) [
  | inl low ↦ rw (get_or_append_left xs ys 0 i low) (x-are i)
  | inr past ↦ rw (get_or-append_right xs ys i 0 past) (y-are (i - length xs))
]

prepend_both : (front edges : List Born) (f : Found) → prepend (front ++ edges) f ≡ prepend front (prepend edges f)
prepend_both front edges f = λ i. record { edges = append_assoc front edges f.edges i; fault = f.fault }

-- a piece more was given to the reader
pub fed : (e : Expect) (bytes piece : List ℕ) (front before after : List Born) (old new : Reader) → HasRead e bytes (front ++ before) old → ReadsPiece old new before after piece None → IsBytes piece → taken new ≤ taken old + length piece → length after ≤ length before + length piece → HasRead e (bytes ++ piece) (front ++ after) new
fed e bytes piece front before after old new has reads are within few =
    record {
      are_bytes = bytes_append bytes piece has.are_bytes are;
      taken_within = omega (arith, has.taken_within, within, length-append bytes piece);
      few = omega (arith, has.few, few, length-append front before, length-append front after, length-append bytes piece);
      gives = λ more.
          prepend_both front after (rest_of new more) ∙ ap (prepend front) (sym (reads.0 more)) ∙ sym (prepend_both front before (rest_of old (piece ++ more))) ∙ has.gives (piece ++ more)
          ∙ ap (reading e) (sym (append_assoc bytes piece more));
    }

-- a fault in a piece is that of the file
pub faulted : (e : Expect) (bytes piece : List ℕ) (front before after : List Born) (old new : Reader) (f : PartFault) → HasRead e bytes (front ++ before) old → ReadsPiece old new before after piece (Some f) → (more : List ℕ) → (reading e (bytes ++ (piece ++ more))).fault ≡ Some f
faulted e bytes piece front before after old new f has reads more =
    ap (λ (x : Found). x.fault) (sym (has.gives (piece ++ more))) ∙ ap (λ (x : Found). x.fault) (reads more)

-- the bytes end
ended_edges : (edges : List Born) (f : Found) → f ≡ complete → prepend edges f ≡ found edges
ended_edges edges f is = ap (prepend edges) is ∙ (λ i. record { edges = append-nil edges i; fault = None })

pub ended : (e : Expect) (bytes : List ℕ) (edges : List Born) (r : Reader) → HasRead e bytes edges r → rest_of r [] ≡ complete → reading e bytes ≡ found edges
ended e bytes edges r has is = ap (reading e) (sym (append-nil bytes)) ∙ sym (has.gives []) ∙ ended_edges edges (rest_of r []) is

pub ended_bad : (e : Expect) (bytes : List ℕ) (edges : List Born) (r : Reader) (f : PartFault) → HasRead e bytes edges r → (rest_of r []).fault ≡ Some f → (reading e bytes).fault ≡ Some f
ended_bad e bytes edges r f has is = ap (λ (l : List ℕ). (reading e l).fault) (sym (append-nil bytes)) ∙ ap (λ (x : Found). x.fault) (sym (has.gives [])) ∙ is

-- the next bytes of a file behind its first
pub next_bytes : (file : List ℕ) (place n : ℕ) → take place file ++ take n (drop place file) ≡ take (place + n) file
next_bytes file place n = sym (take-add place n file)

pub all_bytes : (file : List ℕ) (place n : ℕ) → take place file ++ (take n (drop place file) ++ drop n (drop place file)) ≡ file
all_bytes file place n = ap (λ (l : List ℕ). take place file ++ l) (take-append-drop n (drop place file)) ∙ take-append-drop place file
