use Rattle.std.proofs.lemmas.Result.{err_from_is_err_and}
use Rattle.disk_model.specs.Disk.{ShortenedIn}
use Rattle.disk_model.specs.Run.{one_step, then_run}
use Rattle.disk_model.specs.OneFile.{OnlyFile, only_refl, only_shortened, only_trans}
use Rattle.std.proofs.Common.{◌≡◌, [], ℕ, List, arith}
use Rattle.faults.specs.Counts.{Rose}
use Rattle.graph_words.specs.Text.{distinct}
use Rattle.edge_text.specs.Feed.{IsFed}
use Rattle.faults.proofs.Handed.{holds_more}
use Rattle.import_text.proofs.CopyLemmas.{copy_more}
use Rattle.import_text.proofs.copy.copy_edges.Goals as goal

pub returns-in_err-cut-clause-any_moment : goal.returns-in_err-cut-clause-any_moment
returns-in_err-cut-clause-any_moment g c =
    let D = g.D.Disk in
    let L = g.met.D.Disk in
    one_step D.moment D.left_since D.may_leave L.counts_now L.only_now c.args.disk.now c.cut.new.self (OnlyFile c.args.file) (ShortenedIn c.args.file 0) (only_refl c.args.file) c.cut.ensures.time c.cut.ensures.crash (λ d x image short. only_shortened c.args.file 0 d x short)

pub copy_pieces-requires-clause-empty : goal.copy_pieces-requires-clause-empty
copy_pieces-requires-clause-empty g c = λ tells. (c.in_ok-cut.ensures.cut tells).here

pub returns-in_err-len-clause-cause : goal.returns-in_err-len-clause-cause
returns-in_err-len-clause-cause g c =
    let D = g.D.Disk in
    let I = g.I.Inputs in
    let reads : Type 0 = Rose (I.faults c.args.inputs.now c.args.name.now) (I.faults c.copy_pieces.new.inputs c.args.name.now) in
    let part : Type 0 = Rose (D.faults c.cut.new.self) (D.faults c.copy_pieces.new.disk) in
    let whole : Type 0 = Rose (D.faults c.args.disk.now) (D.faults c.copy_pieces.new.disk) in
    let later : part → whole = λ rose. omega (arith, rose, c.cut.ensures.cause.later) in
    let P = λ (names : List (List ℕ)). IsFed 0 names [] c.in_ok-tally.tally.reader [] in
    let Q = λ (names : List (List ℕ)). c.args.table ≡ distinct names in
    let p = err_from_is_err_and c.from_residual-in_err-len.result c.from_residual-in_err-len.ensures.1 in
    rw (p.1, p.2)
    (holds_more _ _ (copy_more reads part whole P Q (I.told c.args.inputs.now c.args.name.now) later c.in_ok-tally.ensures.names) _ c.in_err-len.ensures.cause)

pub returns-in_err-len-clause-any_moment : goal.returns-in_err-len-clause-any_moment
returns-in_err-len-clause-any_moment g c =
    let D = g.D.Disk in
    let L = g.met.D.Disk in
    then_run D.moment D.left_since D.may_leave L.counts_now L.only_now c.args.disk.now c.cut.new.self c.copy_pieces.new.disk (OnlyFile c.args.file) (OnlyFile c.args.file) (OnlyFile c.args.file)
    (one_step D.moment D.left_since D.may_leave L.counts_now L.only_now c.args.disk.now c.cut.new.self (OnlyFile c.args.file) (ShortenedIn c.args.file 0) (only_refl c.args.file) c.cut.ensures.time c.cut.ensures.crash (λ d x image short. only_shortened c.args.file 0 d x short))
    c.copy_pieces.ensures.any_moment (λ d x only. only) (λ d m x image image' first next. only_trans c.args.file d m x first next)

pub returns-clause-any_moment : goal.returns-clause-any_moment
returns-clause-any_moment g c =
    let D = g.D.Disk in
    let L = g.met.D.Disk in
    then_run D.moment D.left_since D.may_leave L.counts_now L.only_now c.args.disk.now c.cut.new.self c.copy_pieces.new.disk (OnlyFile c.args.file) (OnlyFile c.args.file) (OnlyFile c.args.file)
    (one_step D.moment D.left_since D.may_leave L.counts_now L.only_now c.args.disk.now c.cut.new.self (OnlyFile c.args.file) (ShortenedIn c.args.file 0) (only_refl c.args.file) c.cut.ensures.time c.cut.ensures.crash (λ d x image short. only_shortened c.args.file 0 d x short))
    c.copy_pieces.ensures.any_moment (λ d x only. only) (λ d m x image image' first next. only_trans c.args.file d m x first next)
