-- What holds of the manifest after a step.
use Rattle.std.proofs.Common.{ℕ, ◌<◌, Bool, ◌++◌, length, sym, arith, Option, Some, None}
use Rattle.std.specs.Prelude.{All, IsTrue}
use Rattle.normal_law.specs.NormalForm.{normal_form}
use Rattle.closing_machine.specs.State.{IsDirtyBy, IsPick}
use Rattle.disk_model.specs.Disk.{Contents}
use Rattle.partition_file.specs.Spelling.{Part}
use Rattle.dest_map.specs.Table.{counts_of}
use Rattle.pair_sched.specs.Marks.{joined_of, newest_of}
use Rattle.manifest_codec.specs.declared.types.Manifest.{Manifest}
use Rattle.manifest_codec.specs.Spelling.{FitsManifest}
use Rattle.row_table.specs.Loaded.{span_of}
use Rattle.open_store.specs.Store.{IsOpenStore, OpenStore}
use Rattle.closer.specs.Continuation.{Continues, work_of}
use Rattle.closer.specs.NextManifest.{ArePairIn, ArePut, AreRun, AreSpelled, IsLeastMarkIn, IsMarked, IsNextManifest, IsOrderedPair}
use Rattle.closer.proofs.Flat.{each_one, each_two, reached_one, reached_two, still_one, still_two, turns_one, turns_two}
use Rattle.closer.proofs.Nexting.{ends_start, part_same, some_none, some_same, well_start}
use Rattle.closer.proofs.StepLemmas.{goes_on_one, goes_on_two}
use Rattle.closer.proofs.Turning.{Turns, next_fits, work_less}

pub record Outcome (s : OpenStore) (tells : Bool) (old new : Contents) (i j k : ℕ) (next : Manifest) : Type 0 where
  pub turns : Turns s.manifest next i j k
  pub fits : FitsManifest next
  pub less : i < length s.manifest.parts → j < length s.manifest.parts → IsDirtyBy (counts_of s.manifest.map) (joined_of s.manifest.marks) (newest_of s.manifest.marks) i j → work_of next < work_of s.manifest
  pub goes_on : IsTrue tells → All (λ r. r.left.0 < length s.manifest.labels) s.rules → IsPick (counts_of s.manifest.map) (joined_of s.manifest.marks) (newest_of s.manifest.marks) (length s.manifest.parts) i j → Continues (normal_form s.rules) 1 old s.manifest new next

module _ (s : OpenStore) (is : IsOpenStore s) (tells : Bool) (old new : Contents) (i j low high k since : ℕ) (least : IsLeastMarkIn s.manifest i j since) (ordered : IsOrderedPair i j low high) (start next : Manifest) (marked : IsMarked s.manifest i j k start) where
  turned : Turns s.manifest start i j k
  turned =
      record {
        generation = marked.generation;
        round_is = marked.round;
        same = marked.same;
        ends = ends_start s.manifest is.fits i j k start marked;
        well = well_start s.manifest is.fits i j k start marked;
        joined = marked.joined;
      }

  by_parts : (p : Part) (q : Option Part) (p' : Part) (q' : Option Part) → ArePairIn s low high p q → (IsTrue tells → AreSpelled s old low high p q) → AreRun (normal_form s.rules) since s.manifest.round p q p' q' k → ArePut s.manifest tells low high p' q' start old next new → Outcome s tells old new i j k next
  by_parts p None p' None pair spelled run put =
      let x = pair.1 in
      let p'-is = part_same s.manifest low p p' x.part_is run.low_is in
      let r = run.run (length p'.edges) (omega arith) in
      let t = turns_one s is.fits i j k start marked turned low p p' x since r.last r.rounds p'-is run.low_part run.format next put.0 in
      let f = next_fits s.manifest next is.fits i j k t run.room (each_one s is.fits i j k start marked turned low p p' x since r.last r.rounds p'-is run.low_part run.format next put.0) (reached_one s is.fits i j k start marked turned low p p' x since r.last r.rounds p'-is run.low_part run.format next put.0) in
      record {
        turns = t;
        fits = f;
        less = work_less s.manifest next is.fits i j k t run.room (still_one s is.fits i j k start marked turned low p p' x since r.last r.rounds p'-is run.low_part run.format next put.0);
        goes_on = λ tell left pick. goes_on_one s is left i j low high k since least ordered start marked turned run.room pick old pair.0 p p' x (spelled tell) run.run p'-is run.low_part run.format next put.0 new (put.1 tell) f;
      }
  by_parts p (Some q) p' (Some q') pair spelled run put =
      let x = pair.1 in
      let y = pair.2 in
      let p'-is = part_same s.manifest low p p' x.part_is run.low_is in
      let q'-is = part_same s.manifest high q q' y.part_is (some_same (span_of q') (span_of q) run.high_is) in
      let r = run.run (length (p'.edges ++ q'.edges)) (omega arith) in
      let t = turns_two s is.fits i j k start marked turned low high pair.0 p q p' q' x y since r.last r.rounds p'-is q'-is run.low_part run.high_part run.format put.mid next put.low_takes put.high_takes in
      let f =
      next_fits s.manifest next is.fits i j k t run.room (each_two s is.fits i j k start marked turned low high pair.0 p q p' q' x y since r.last r.rounds p'-is q'-is run.low_part run.high_part run.format put.mid next put.low_takes put.high_takes)
      (reached_two s is.fits i j k start marked turned low high pair.0 p q p' q' x y since r.last r.rounds p'-is q'-is run.low_part run.high_part run.format put.mid next put.low_takes put.high_takes) in
      record {
        turns = t;
        fits = f;
        less = work_less s.manifest next is.fits i j k t run.room (still_two s is.fits i j k start marked turned low high pair.0 p q p' q' x y since r.last r.rounds p'-is q'-is run.low_part run.high_part run.format put.mid next put.low_takes put.high_takes);
        goes_on = λ tell left pick.
            goes_on_two s is left i j low high k since least ordered start marked turned run.room pick old pair.0 p q p' q' x y (spelled tell).0 (spelled tell).1 run.run p'-is q'-is run.low_part run.high_part run.format put.mid next put.low_takes put.high_takes put.between new (put.low_puts tell) (put.high_puts tell) f;
      }
  by_parts p None p' (Some q') pair spelled run put = absurd (some_none (span_of q') run.high_is)
  by_parts p (Some q) p' None pair spelled run put = absurd (some_none (span_of q) (sym run.high_is))

pub outcome : (s : OpenStore) (tells : Bool) (old new : Contents) (i j : ℕ) (next : Manifest) → IsOpenStore s → (x : IsNextManifest s tells old new i j next) → Outcome s tells old new i j x.k next
outcome s tells old new i j next is x = by_parts s is tells old new i j x.low x.high x.k x.since x.least x.in_order x.start next x.marked x.p x.q x.p' x.q' x.loaded x.spelled x.run x.put
