use Rattle.std.proofs.Common.{◌≡◌, [], ℕ, List, None, length, refl, sym, ap, ◌∙◌, arith}
use Rattle.faults.specs.Counts.{Rose}
use Rattle.faults.specs.Reasons.{BlamesText}
use Rattle.edge_text.specs.EdgesText.{edges_fault}
use Rattle.edge_text.specs.Feed.{IsFed}
use Rattle.import_text.specs.GivenPart.{IsGoodCopy}
use Rattle.std.specs.Prelude.{IsTrue}
use Rattle.std.proofs.lemmas.Result.{err_from_is_err_and}
use Rattle.normal_law.specs.NormalForm.{normal_form}
use Rattle.edge_text.proofs.AgainLemmas.{distinct-of_once}
use Rattle.faults.proofs.Handed.{disk_more, holds_more, text_more}
use Rattle.import_text.proofs.GoodLemmas.{IsStart, good_place, good_names, good_vertices, gathers_copy}
use Rattle.import_text.proofs.given_part.gather_copy.Goals as goal

pub returns-in_err-found-clause-cause : goal.returns-in_err-found-clause-cause
returns-in_err-found-clause-cause g c =
    let p = err_from_is_err_and c.from_residual-in_err-found.result c.from_residual-in_err-found.ensures.1 in
    let once = c.names-names.ensures.table.once in
    let fed = c.in_ok-gathering.ensures.names c.args.copied.now.labels (c.in_ok-copy.ensures ∙ sym (distinct-of_once c.args.copied.now.labels once)) in
    let D = g.D.Disk in
    let rose : Type 0 = Rose (D.faults c.args.disk.now) (D.faults c.gather_pieces.new.disk) in
    let file = D.seen c.args.disk.now c.args.copied.now.file in
    let names = c.args.copied.now.labels in
    let P : Type 0 = IsTrue D.tells → (names : List (List ℕ)) → IsFed 0 names [] c.in_ok-gathering.gathering.reader [] → edges_fault 0 names file ≡ None → ⊥ in
    let Q : Type 0 = IsTrue D.tells → IsGoodCopy names c.args.copied.now.len c.args.copied.now.vertices file → ⊥ in
    let bad : P → Q = λ no tells good. no tells names fed good.reads.whole in
    rw (p.1, p.2)
    (holds_more _ _ (disk_more rose rose (BlamesText P c.args.copied.now.file) (BlamesText Q c.args.copied.now.file) (λ h. h) (text_more P Q c.args.copied.now.file bad)) _
    c.in_err-found.ensures.cause)

pub returns-then-found-copied-clause-cause : goal.returns-then-found-copied-clause-cause
returns-then-found-copied-clause-cause g c =
    rw c.bad_text.ensures (record {
      file_is = refl;
      place_is = refl;
      kind_is = refl;
      why = λ tells good.
          let once = c.names-names.ensures.table.once in
          let fed = c.in_ok-gathering.ensures.names c.args.copied.now.labels (c.in_ok-copy.ensures ∙ sym (distinct-of_once c.args.copied.now.labels once)) in
          let none = c.in_ok-gathering.ensures.none in
          let start : IsStart c.args.span.0 c.args.span.1 c.in_ok-gathering.gathering = record { lo_is = none.0; hi_is = none.1; given = none.2; vertices = none.3 } in
          let file = c.in_ok-found.ensures.gathered c.args.copied.now.labels fed in
          let has = good_place (normal_form c.args.normal.now) c.args.copied.now.labels c.args.copied.now.len c.args.copied.now.vertices c.args.span.0 c.args.span.1 (IsTrue g.D.Disk.tells) (g.D.Disk.seen c.args.disk.now c.args.copied.now.file) c.in_ok-gathering.gathering c.gather_pieces.new.gathering c.in_ok-found.found start file tells good in
          c.if-found-copied.true has;
    })

pub returns-then-names-clause-cause : goal.returns-then-names-clause-cause
returns-then-names-clause-cause g c =
    rw c.bad_text-then-names.ensures (record {
      file_is = refl;
      place_is = refl;
      kind_is = refl;
      why = λ tells good.
          let once = c.names-names.ensures.table.once in
          let fed = c.in_ok-gathering.ensures.names c.args.copied.now.labels (c.in_ok-copy.ensures ∙ sym (distinct-of_once c.args.copied.now.labels once)) in
          let none = c.in_ok-gathering.ensures.none in
          let start : IsStart c.args.span.0 c.args.span.1 c.in_ok-gathering.gathering = record { lo_is = none.0; hi_is = none.1; given = none.2; vertices = none.3 } in
          let file = c.in_ok-found.ensures.gathered c.args.copied.now.labels fed in
          let has = good_names (normal_form c.args.normal.now) c.args.copied.now.labels c.args.copied.now.len c.args.copied.now.vertices c.args.span.0 c.args.span.1 (IsTrue g.D.Disk.tells) (g.D.Disk.seen c.args.disk.now c.args.copied.now.file) c.in_ok-gathering.gathering c.gather_pieces.new.gathering c.in_ok-found.found start file tells good in
          c.if-names.true (c.names.ensures ∙ has ∙ ap length (sym c.names-names.ensures.names));
    })

pub returns-then-copied-vertices-clause-cause : goal.returns-then-copied-vertices-clause-cause
returns-then-copied-vertices-clause-cause g c =
    rw c.bad_text-then-copied-vertices.ensures (record {
      file_is = refl;
      place_is = refl;
      kind_is = refl;
      why = λ tells good.
          let once = c.names-names.ensures.table.once in
          let fed = c.in_ok-gathering.ensures.names c.args.copied.now.labels (c.in_ok-copy.ensures ∙ sym (distinct-of_once c.args.copied.now.labels once)) in
          let none = c.in_ok-gathering.ensures.none in
          let start : IsStart c.args.span.0 c.args.span.1 c.in_ok-gathering.gathering = record { lo_is = none.0; hi_is = none.1; given = none.2; vertices = none.3 } in
          let file = c.in_ok-found.ensures.gathered c.args.copied.now.labels fed in
          let has = good_vertices (normal_form c.args.normal.now) c.args.copied.now.labels c.args.copied.now.len c.args.copied.now.vertices c.args.span.0 c.args.span.1 (IsTrue g.D.Disk.tells) (g.D.Disk.seen c.args.disk.now c.args.copied.now.file) c.in_ok-gathering.gathering c.gather_pieces.new.gathering c.in_ok-found.found start file tells good in
          omega (arith, c.if-copied-vertices.true, c.vertices.ensures, has);
    })

pub returns-clause-gathered : goal.returns-clause-gathered
returns-clause-gathered g c =
    let once = c.names-names.ensures.table.once in
    let fed = c.in_ok-gathering.ensures.names c.args.copied.now.labels (c.in_ok-copy.ensures ∙ sym (distinct-of_once c.args.copied.now.labels once)) in
    let none = c.in_ok-gathering.ensures.none in
    let start : IsStart c.args.span.0 c.args.span.1 c.in_ok-gathering.gathering = record { lo_is = none.0; hi_is = none.1; given = none.2; vertices = none.3 } in
    let file = c.in_ok-found.ensures.gathered c.args.copied.now.labels fed in
    rw c.into_given.ensures
    (gathers_copy (normal_form c.args.normal.now) c.args.copied.now.labels c.args.copied.now.len c.args.copied.now.vertices c.args.span.0 c.args.span.1 (IsTrue g.D.Disk.tells) (g.D.Disk.seen c.args.disk.now c.args.copied.now.file) c.in_ok-gathering.gathering c.gather_pieces.new.gathering c.in_ok-found.found start file once c.if-found-copied.false (sym c.names.ensures ∙ c.if-names.false ∙ ap length c.names-names.ensures.names) (omega (arith, c.if-copied-vertices.false, c.vertices.ensures)))
