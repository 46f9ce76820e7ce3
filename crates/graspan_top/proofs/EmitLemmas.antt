-- The graph of a C file that was read up to a limit, and what is printed of it.
use Rattle.std.proofs.Common.{◌≡◌, ◌∙◌, inl, inr, ℕ, ◌+◌, ◌<◌, ◌≤◌, List, [], ◌∷◌, Bool, Option, Some, None, Ok, Err, length, length-take, take, take-take, drop, refl, sym, ap, subst, arith}
use Rattle.std.specs.Prelude.{IsTrue, IfErr, Result, is_some}
use Rattle.faults.specs.Reasons.{blames_none}
use Rattle.faults.specs.declared.kinds.InputKind.{InputKind}
use Rattle.faults.specs.declared.kinds.InputKind.TheVariants.{TooLong}
use Rattle.io_edge.specs.Devices.{AppendsPrefix}
use Rattle.io_edge.specs.WholeRead.{ReadsWhole}
use Rattle.command_words.specs.declared.command.GraphKind.{GraphKind}
use Rattle.emit_list.specs.Vertices.{Listed}
use Rattle.emit_list.specs.Printed.{list_bytes}
use Rattle.graph_emit.specs.declared.fault.EmitKind.{EmitKind}
use Rattle.source_graph.specs.Sources.{HasSourceFault, HaveOneGraph, IsSourceGraph, feeds, line_at, too_long, no_token, no_program, no_graph}
use Rattle.graspan_top.specs.Emission.{IsEmitText, emit_stages, graph_kind, source_stage}
use Rattle.graspan_top.specs.Given.{WhereTold}
use Rattle.graspan_top.specs.Printed.{IsNothingOr, TakesBegun, TakesPrefix}
use Rattle.graspan_top.specs.Refusals.{Explained, Refuses, Stage}
use Rattle.graspan_top.specs.Run.{printing_stage}
use Rattle.graspan_top.specs.declared.status.Status.{Status}
use Rattle.graspan_top.proofs.StageLemmas.{Follow, counts_more, in_front, refused_by}

-- ---- a file that was read up to a limit

-- a text with a graph is the whole file
pub whole_source : (kind : EmitKind) (file value : List ℕ) (list : Listed) → ReadsWhole 16777216 file value → IsSourceGraph kind value list → IsSourceGraph kind file list
whole_source kind file value list (inl same) g = subst (λ (t : List ℕ). IsSourceGraph kind t list) same g
whole_source kind file value list (inr p) g = absurd (omega (arith, p.past, g.has.short))

-- the first refusal of a text is that of the file
same_line : (file value : List ℕ) → value ≡ take (length value) file → 16777216 < length value → line_at 16777216 value ≡ line_at 16777216 file
same_line file value front past =
    ap (λ (t : List ℕ). 1 + feeds t) (ap (take 16777216) front ∙ take-take 16777216 (length value) file (omega (arith, past)))

longer : (file value : List ℕ) → value ≡ take (length value) file → length value ≤ length file
longer file value front = omega (arith, ap (λ (t : List ℕ). length t) front, length-take (length value) file)

pub source_fault : (kind : EmitKind) (file value : List ℕ) (line : ℕ) (k : InputKind) → ReadsWhole 16777216 file value → HasSourceFault kind value line k → HasSourceFault kind file line k
source_fault kind file value line k (inl same) f = subst (λ (t : List ℕ). HasSourceFault kind t line k) same f
source_fault kind file value line k (inr p) (too_long past) =
    subst (λ (l : ℕ). HasSourceFault kind file l TooLong) (sym (same_line file value p.front past)) (too_long (omega (arith, past, longer file value p.front)))
source_fault kind file value line k (inr p) (no_token l column q short refused) = absurd (omega (arith, p.past, short))
source_fault kind file value line k (inr p) (no_program tokens token q has wrong) = absurd (omega (arith, p.past, has.short))
source_fault kind file value line k (inr p) (no_graph tokens program l q has only refused) = absurd (omega (arith, p.past, has.short))

-- ---- which stage refuses

-- a write that failed in a part failed in the whole
pub emit_more : (told : Option (List ℕ)) (kind : GraphKind) (rr rr' wr wr' : Type 0) → (rr → rr') → (wr → wr') → Follow (emit_stages told kind rr wr) (emit_stages told kind rr' wr')
emit_more told kind rr rr' wr wr' reads writes = (
  counts_more (source_stage told kind rr).refuses rr' ⊥ ⊥ reads (λ h. h) (λ h. h),
  λ p. p,
  (counts_more (printing_stage ⊥ wr blames_none).refuses ⊥ ⊥ wr' (λ h. h) (λ h. h) writes, λ p. p, tt),
)

-- the file has no graph
pub source_refused : (told : Option (List ℕ)) (kind : GraphKind) (rr wr : Type 0) (s : Status) → Refuses (source_stage told kind rr ∷ []) s → Explained (emit_stages told kind rr wr) s
source_refused told kind rr wr s h =
    let a : List Stage = source_stage told kind rr ∷ [] in
    refused_by a (emit_stages told kind rr wr) (in_front a (printing_stage ⊥ wr blames_none ∷ [])) s h

-- ---- what is printed

-- the text of a file is that of the list
pub the_emit_text : (one : HaveOneGraph) (told : Option (List ℕ)) (kind : GraphKind) (list : Listed) → WhereTold told (λ s. IsSourceGraph (graph_kind kind) s list) → (text : List ℕ) → IsEmitText told kind text → text ≡ list_bytes list
the_emit_text one told kind list is text t =
    t.printed ∙ ap list_bytes (one (graph_kind kind) t.file t.list list t.graph (is t.file t.file_is))

-- and there is such a text, where the file is told
pub some_emit_text : (told : Option (List ℕ)) (kind : GraphKind) (list : Listed) → WhereTold told (λ s. IsSourceGraph (graph_kind kind) s list) → IsTrue (is_some told) → IsEmitText told kind (list_bytes list)
some_emit_text None kind list is t = absurd (cc t)
some_emit_text (Some file) kind list is t =
    record { file = file; file_is = refl; list = list; graph = is file refl; printed = refl }

pub emit_prefix : (one : HaveOneGraph) (told : Option (List ℕ)) (kind : GraphKind) (list : Listed) → WhereTold told (λ s. IsSourceGraph (graph_kind kind) s list) → (old new : Option (List ℕ)) → AppendsPrefix old new (list_bytes list) → TakesPrefix (is_some told) (IsEmitText told kind) old new
emit_prefix one told kind list is old new part text known t =
    subst (AppendsPrefix old new) (sym (the_emit_text one told kind list is text t)) part

pub emit_begun : (told : Option (List ℕ)) (kind : GraphKind) (list : Listed) → WhereTold told (λ s. IsSourceGraph (graph_kind kind) s list) → (old new : Option (List ℕ)) → AppendsPrefix old new (list_bytes list) → TakesBegun (is_some told) (IsNothingOr (IsEmitText told kind)) old new
emit_begun told kind list is old new part known = (list_bytes list, inr (some_emit_text told kind list is known), part)
