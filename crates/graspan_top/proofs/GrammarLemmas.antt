-- A grammar file that was read up to a limit.
use Rattle.std.proofs.Common.{◌≡◌, inl, inr, ℕ, List, [], ◌++◌, length, drop, Some, None, sym, ap, ◌∙◌, arith}
use Rattle.std.proofs.lemmas.List.{take-append-drop}
use Rattle.io_edge.specs.FirstFault.{Fault}
use Rattle.io_edge.specs.WholeRead.{ReadsWhole}
use Rattle.io_edge.proofs.FaultLemmas.{long_text_has_fault}
use Rattle.grammar_norm.specs.GrammarText.{grammar_fault, rule_fault}

-- a text without a fault is the whole file
pub whole_file : (file value : List ℕ) → ReadsWhole 16781312 file value → grammar_fault value ≡ None → value ≡ file
whole_file file value (inl same) none = same
whole_file file value (inr p) none =
    let f = long_text_has_fault 16777216 rule_fault value [] (let l = p.past in omega arith) in
    let h = sym f.here ∙ none in
    absurd (cc)

-- the first fault of a text is that of the file
pub file_fault : (file value : List ℕ) (f : Fault) → ReadsWhole 16781312 file value → grammar_fault value ≡ Some f → grammar_fault file ≡ Some f
file_fault file value f (inl same) first = ap grammar_fault (sym same) ∙ first
file_fault file value f (inr p) first =
    let rest = drop (length value) file in
    let h = long_text_has_fault 16777216 rule_fault value rest (let l = p.past in omega arith) in
    let all : value ++ rest ≡ file = ap (λ t. t ++ rest) p.front ∙ take-append-drop (length value) file in
    ap grammar_fault (sym all) ∙ h.there ∙ sym h.here ∙ first
