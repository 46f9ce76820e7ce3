use Rattle.std.proofs.Common.{◌≡◌, ◌∙◌, ℕ, ◌+◌, List, [], ◌∷◌, ◌++◌, length, refl, ap, arith}
use Rattle.std.proofs.lemmas.List.{append-nil, drop_all}
use Rattle.disk_model.specs.Disk.{Contents, Sets, TornIn, ShortenedIn, written}
use Rattle.disk_model.specs.Run.{on_ok, one_step, then_call}
use Rattle.disk_model.specs.OneFile.{OnlyFile, only_refl, only_shortened, only_torn, only_trans}
use Rattle.disk_model.proofs.anew.rewrite.Goals as goal

pub returns-clause-any_moment : goal.returns-clause-any_moment
returns-clause-any_moment g c =
    let D = g.D.Disk in
    let L = g.met.D.Disk in
    let old = c.args.disk.now in
    let file = c.args.file in
    then_call D.moment D.left_since D.may_leave L.counts_now L.only_now old c.cut.new.self c.write_at.new.self (OnlyFile file) (TornIn file 0 (length c.args.bytes.now))
    (one_step D.moment D.left_since D.may_leave L.counts_now L.only_now old c.cut.new.self (OnlyFile file) (ShortenedIn file 0) (only_refl file) c.cut.ensures.time c.cut.ensures.crash (λ d x image short. only_shortened file 0 d x short))
    c.write_at.ensures.time c.write_at.ensures.crash
    (λ d m x only torn. only_trans file d m x only (only_torn file 0 (length c.args.bytes.now) m x torn))

-- bytes that are written into an empty file
written_anew : (bytes : List ℕ) → written [] 0 bytes ≡ bytes
unfolding written
written_anew [] = refl
written_anew (b ∷ bytes) = ap (λ (l : List ℕ). (b ∷ bytes) ++ l) (drop_all (0 + length (b ∷ bytes)) [] (omega arith)) ∙ append-nil (b ∷ bytes)

written_behind : (file : ℕ) (bytes : List ℕ) (old mid new : Contents) → Sets file [] old mid → Sets file (written (mid file) 0 bytes) mid new → Sets file bytes old new
written_behind file bytes old mid new cut sets =
    record {
      here = sets.here ∙ (λ i. written (cut.here i) 0 bytes) ∙ written_anew bytes;
      others = λ f apart. sets.others f apart ∙ cut.others f apart;
    }

pub returns-clause-written : goal.returns-clause-written
returns-clause-written g c = λ tells.
    let seen = g.D.Disk.seen in
    let file = c.args.file in
    on_ok _ _ c.write_at.result
    (λ sets. written_behind file c.args.bytes.now (seen c.args.disk.now) (seen c.cut.new.self) (seen c.write_at.new.self) (c.in_ok-cut.ensures.cut tells) sets)
    (c.write_at.ensures.written tells)
