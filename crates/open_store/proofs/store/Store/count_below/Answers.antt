use Rattle.std.proofs.Common.{◌≡◌, ◌<◌, ◌≤◌, ◌+◌, ◌^◌, ℕ, List, [], ◌++◌, length, refl, sym, ap, subst, ◌∙◌, arith, inl, inr, append-nil, length-append}
use Rattle.std.specs.Global.{Vec}
use Rattle.std.specs.Prelude.{Bool, Ok, Err, IsTrue, Result, slice_index_or, cond, nat_lt, ◌==◌, ◌&&◌}
use Rattle.std.proofs.lemmas.List.Sums.{count_by-le-length, sum_by-append}
use Rattle.graph_words.specs.declared.types.Born.{Born}
use Rattle.closing_machine.specs.State.{target}
use Rattle.partition_file.specs.declared.types.Expect.{Expect}
use Rattle.partition_file.specs.Spelling.{first_break}
use Rattle.store_law.specs.Listed.{part_file}
use Rattle.open_store.specs.Store.{OpenStore, expect_in}
use Rattle.open_store.specs.Stream.{StreamEnds, IsAt, IsTally}
use Rattle.open_store.specs.PartRead.{IsRefused, IsTold, count_below_of}
use Rattle.open_store.proofs.Causes.{handed, handed_other}
use Rattle.disk_model.proofs.Looks.{looks_then}
use Rattle.open_store.proofs.Parts.{ended_is_read, ended_is_refused}
use Rattle.open_store.proofs.Tallies.{cell_few, ends_count}
use Rattle.open_store.proofs.store.Store.count_below.Goals as goal

below_append : (ends : List ℕ) (i at : ℕ) (xs ys : List Born) → count_below_of ends i at (xs ++ ys) ≡ count_below_of ends i at xs + count_below_of ends i at ys
below_append ends i at xs ys = sum_by-append (λ (b : Born). cond (nat_lt b.edge.dst.0 at && target ends b == i) 1 0) xs ys

pub loop-tally-init : goal.loop-tally-init
loop-tally-init g c =
    let begun = c.in_ok-stream.ensures.begun in
    record {
      stream = begun.1;
      number = begun.0;
      none = c.new-edges.ensures.items;
      at = ([], [], begun.2, subst (λ (l : List ℕ). IsTally l [] c.in_ok-tally.tally.row.items c.in_ok-tally.tally.newest) (ap (λ (x : OpenStore). x.ends) c.self.view_is) c.in_ok-tally.ensures, refl);
      looks = c.in_ok-stream.ensures.looks;
    }

all_given : (given edges : List Born) → edges ≡ [] → given ≡ given ++ edges
all_given given edges none = sym (append-nil given) ∙ ap (λ (l : List Born). given ++ l) (sym none)

pub add_all-requires : goal.add_all-requires
add_all-requires g c =
    let D = g.D.Disk in
    let inv = c.loop-tally.invariant in
    let s = c.args.self.now in
    let j = c.args.j in
    let given = inv.at.1 in
    let file = D.seen c.args.disk.now (part_file s.manifest j) in
    let same : IsTrue D.tells → D.seen c.loop-tally.disk c.loop-tally.stream.file ≡ file = λ tells k. inv.looks.same_seen k (inv.number k) in
    let at = subst (λ (l : List Born). IsAt (expect_in s j) D.tells file inv.at.0 l c.loop-tally.stream) (all_given given c.loop-tally.edges.items inv.none) inv.at.2 in
    let more = c.in_ok-next.was ∙ ap (λ (b : Bool). Ok b) c.if-branch.true in
    let next = c.next.ensures.more more (expect_in s j) file inv.at.0 given same at in
    let stream = c.next.ensures.stream more in
    let new = c.next.new.edges.items in
    record { room = λ k. omega (arith, cell_few s.ends given c.loop-tally.tally.row.items c.loop-tally.tally.newest inv.at.3 k, length-append given new, next.1.read.few, next.1.place_is, stream.within, stream.small, ap length c.deref.ensures.value) }

pub overflow_add-below : goal.overflow_add-below
overflow_add-below g c =
    let D = g.D.Disk in
    let inv = c.loop-tally.invariant in
    let s = c.args.self.now in
    let j = c.args.j in
    let given = inv.at.1 in
    let file = D.seen c.args.disk.now (part_file s.manifest j) in
    let same : IsTrue D.tells → D.seen c.loop-tally.disk c.loop-tally.stream.file ≡ file = λ tells k. inv.looks.same_seen k (inv.number k) in
    let at = subst (λ (l : List Born). IsAt (expect_in s j) D.tells file inv.at.0 l c.loop-tally.stream) (all_given given c.loop-tally.edges.items inv.none) inv.at.2 in
    let more = c.in_ok-next.was ∙ ap (λ (b : Bool). Ok b) c.if-branch.true in
    let next = c.next.ensures.more more (expect_in s j) file inv.at.0 given same at in
    let stream = c.next.ensures.stream more in
    let new = c.next.new.edges.items in
    omega (arith, inv.at.4, count_by-le-length (λ (b : Born). nat_lt b.edge.dst.0 c.args.at && target s.ends b == c.args.i) given, c.count_below-below.ensures.few, length-append given new, next.1.read.few, next.1.place_is, stream.within, stream.small, ap length c.deref-in-loop-tally.ensures.value)

pub loop-tally-preserved : goal.loop-tally-preserved
loop-tally-preserved g c =
    let D = g.D.Disk in
    let inv = c.loop-tally.invariant in
    let s = c.args.self.now in
    let j = c.args.j in
    let given = inv.at.1 in
    let file = D.seen c.args.disk.now (part_file s.manifest j) in
    let same : IsTrue D.tells → D.seen c.loop-tally.disk c.loop-tally.stream.file ≡ file = λ tells k. inv.looks.same_seen k (inv.number k) in
    let at = subst (λ (l : List Born). IsAt (expect_in s j) D.tells file inv.at.0 l c.loop-tally.stream) (all_given given c.loop-tally.edges.items inv.none) inv.at.2 in
    let more = c.in_ok-next.was ∙ ap (λ (b : Bool). Ok b) c.if-branch.true in
    let next = c.next.ensures.more more (expect_in s j) file inv.at.0 given same at in
    let stream = c.next.ensures.stream more in
    let new = c.next.new.edges.items in
    let ends : c.self.inside.intervals ≡ s.ends = ap (λ (x : OpenStore). x.ends) c.self.view_is in
    record {
      stream = stream;
      number = c.next.ensures.file ∙ inv.number;
      none = c.clear.ensures.items;
      at = (
        next.0,
        given ++ new,
        next.1,
        subst (λ (l : List ℕ). IsTally l (given ++ new) c.add_all.new.self.row.items c.add_all.new.self.newest) ends
            (subst (λ (l : List Born). IsTally c.self.inside.intervals (given ++ l) c.add_all.new.self.row.items c.add_all.new.self.newest) c.deref.ensures.value
            (c.add_all.ensures.tally given (subst (λ (l : List ℕ). IsTally l given c.loop-tally.tally.row.items c.loop-tally.tally.newest) (sym ends) inv.at.3))),
        (λ k. inv.at.4 k + c.count_below-below.ensures.count k)
            ∙ ap (λ (l : List Born). count_below_of s.ends c.args.i c.args.at given + count_below_of c.self.inside.intervals c.args.i c.args.at l) c.deref-in-loop-tally.ensures.value
            ∙ ap (λ (l : List ℕ). count_below_of s.ends c.args.i c.args.at given + count_below_of l c.args.i c.args.at new) ends
            ∙ sym (below_append s.ends c.args.i c.args.at given new),
      );
      looks = looks_then inv.looks c.next.ensures.looks;
    }

pub returns-in_err-next-clause-cause : goal.returns-in_err-next-clause-cause
returns-in_err-next-clause-cause g c =
    let D = g.D.Disk in
    let inv = c.loop-tally.invariant in
    let s = c.args.self.now in
    let j = c.args.j in
    let given = inv.at.1 in
    let file = D.seen c.args.disk.now (part_file s.manifest j) in
    let same : IsTrue D.tells → D.seen c.loop-tally.disk c.loop-tally.stream.file ≡ file = λ tells k. inv.looks.same_seen k (inv.number k) in
    let at = subst (λ (l : List Born). IsAt (expect_in s j) D.tells file inv.at.0 l c.loop-tally.stream) (all_given given c.loop-tally.edges.items inv.none) inv.at.2 in
    handed (D.faults c.args.disk.now) (D.faults c.loop-tally.disk) (D.faults c.next.new.disk) _ _ c.next.result c.from_residual-in_err-next.result c.in_err-next.field-0.0 c.in_err-next.was c.from_residual-in_err-next.ensures.1 inv.looks.later
    (λ f p k blamed. (
      blamed.0 ∙ inv.number,
      λ tells. inl (ap (λ (x : ℕ). first_break (expect_in s j) (D.seen c.args.disk.now x)) (blamed.0 ∙ inv.number) ∙ blamed.1 tells (expect_in s j) file inv.at.0 given (same tells) at),
    ))
    c.next.ensures.cause

pub returns-in_err-check-clause-cause : goal.returns-in_err-check-clause-cause
returns-in_err-check-clause-cause g c =
    let D = g.D.Disk in
    let inv = c.loop-tally.invariant in
    let s = c.args.self.now in
    let j = c.args.j in
    let given = inv.at.1 in
    let file = D.seen c.args.disk.now (part_file s.manifest j) in
    let same : IsTrue D.tells → D.seen c.loop-tally.disk c.loop-tally.stream.file ≡ file = λ tells k. inv.looks.same_seen k (inv.number k) in
    let at = subst (λ (l : List Born). IsAt (expect_in s j) D.tells file inv.at.0 l c.loop-tally.stream) (all_given given c.loop-tally.edges.items inv.none) inv.at.2 in
    let no = c.in_ok-next.was ∙ ap (λ (b : Bool). Ok b) c.if-branch.false in
    let end = c.next.ensures.end no (expect_in s j) file inv.at.0 given same at in
    let ended = subst (λ (l : List Born). StreamEnds (expect_in s j) D.tells file inv.at.0 l) (sym (all_given given c.loop-tally.edges.items inv.none)) end.0 in
    handed_other (D.faults c.args.disk.now) (D.faults c.next.new.disk) _ _ c.check.result c.from_residual-in_err-check.result c.in_err-check.field-0.0 c.in_err-check.was c.from_residual-in_err-check.ensures.1
    (λ f p k blamed. (
      blamed.0,
      λ tells. subst (λ (x : ℕ). IsRefused s j (D.seen c.args.disk.now x) p k) (sym blamed.0)
          (ended_is_refused s j D.tells file inv.at.0 given p k c.stream.ensures.bounds ended (blamed.3 given inv.at.3) blamed.1 blamed.2 tells),
    ))
    c.check.ensures.cause

pub returns-clause-count : goal.returns-clause-count
returns-clause-count g c =
    let D = g.D.Disk in
    let inv = c.loop-tally.invariant in
    let s = c.args.self.now in
    let j = c.args.j in
    let given = inv.at.1 in
    let file = D.seen c.args.disk.now (part_file s.manifest j) in
    let same : IsTrue D.tells → D.seen c.loop-tally.disk c.loop-tally.stream.file ≡ file = λ tells k. inv.looks.same_seen k (inv.number k) in
    let at = subst (λ (l : List Born). IsAt (expect_in s j) D.tells file inv.at.0 l c.loop-tally.stream) (all_given given c.loop-tally.edges.items inv.none) inv.at.2 in
    let no = c.in_ok-next.was ∙ ap (λ (b : Bool). Ok b) c.if-branch.false in
    let end = c.next.ensures.end no (expect_in s j) file inv.at.0 given same at in
    let ended = subst (λ (l : List Born). StreamEnds (expect_in s j) D.tells file inv.at.0 l) (sym (all_given given c.loop-tally.edges.items inv.none)) end.0 in
    (given, ended_is_read s j D.tells file inv.at.0 given c.stream.ensures.bounds ended (c.in_ok-check.ensures.told given inv.at.3), inv.at.4)
