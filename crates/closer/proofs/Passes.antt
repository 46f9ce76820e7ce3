-- Passes are steps of the closing machine, where nothing is to be split and no budget is passed.
use Rattle.std.proofs.Common.{◌≡◌, ◌==◌, ℕ, zero, suc, ◌+◌, ◌≤◌, ◌<◌, true, not, List, length, refl, ap, arith}
use Rattle.std.specs.Prelude.{filter}
use Rattle.std.proofs.lemmas.List.Filters.{length-filter_both}
use Rattle.graph_words.specs.declared.types.Born.{Born}
use Rattle.normal_law.specs.Closure.{Normal}
use Rattle.closing_machine.specs.State.{State, edges_of, part, IsFinished}
use Rattle.closing_machine.specs.Machine.{is_among, loaded, unloaded}
use Rattle.closing_machine.specs.Chain.{After, EndsChain, IsLarge, IsStep}
use Rattle.closing_machine.proofs.Going.{rounds_longer}
use Rattle.closing_machine.proofs.Telling.{finished_told}
use Rattle.disk_model.specs.Disk.{Contents}
use Rattle.dest_map.specs.Table.{counts_of}
use Rattle.pair_sched.specs.Marks.{joined_of, newest_of}
use Rattle.manifest_codec.specs.declared.types.Manifest.{Manifest}
use Rattle.store_law.specs.Left.{HasNoWork}
use Rattle.store_law.specs.Listed.{state_in}
use Rattle.open_store.proofs.Tallies.{ends_count}
use Rattle.closer.specs.Answers.{EndsAsMachine}
use Rattle.superstep.proofs.LoopLemmas.{rounds_shorter}
use Rattle.closer.specs.Continuation.{AfterSteps, Continues, IsWholePass}

both_lengths : (ends : List ℕ) (i j : ℕ) (edges : List Born) → length (filter (λ b. is_among i j (part ends b)) edges) + length (filter (λ b. not (is_among i j (part ends b))) edges) ≡ length edges
both_lengths ends i j edges = length-filter_both (λ b. is_among i j (part ends b)) (λ b. not (is_among i j (part ends b))) (λ b. refl) edges

module _ (n : Normal) (s after : State) (w : IsWholePass n s after) where
  rows_within : length w.step.rows ≤ length after.edges
  rows_within =
      let split : length (loaded after w.i w.j) + length (unloaded after w.i w.j) ≡ length after.edges = both_lengths after.ends w.i w.j after.edges in
      let here : length (loaded after w.i w.j) ≡ length w.step.rows = ap (λ (l : List Born). length l) w.step.loaded_edges in
      omega (arith, split, here)

  -- a pass takes no edge away
  pub pass_longer : length s.edges ≤ length after.edges
  pass_longer =
      let first : length (loaded s w.i w.j) + length (unloaded s w.i w.j) ≡ length s.edges = both_lengths s.ends w.i w.j s.edges in
      let last : length (loaded after w.i w.j) + length (unloaded after w.i w.j) ≡ length after.edges = both_lengths after.ends w.i w.j after.edges in
      let here : length (loaded after w.i w.j) ≡ length w.step.rows = ap (λ (l : List Born). length l) w.step.loaded_edges in
      let there : length (unloaded after w.i w.j) ≡ length (unloaded s w.i w.j) = ap (λ (l : List Born). length l) w.step.other_edges in
      let more : length (loaded s w.i w.j) + w.rounds ≤ length w.step.rows = rounds_longer n (loaded s w.i w.j) w.step.since s.round w.step.rounds in
      omega (arith, first, last, here, there, more)

  none_large : (limit : ℕ) → length s.edges ≤ limit → (a : ℕ) → IsLarge limit s a → ⊥
  none_large limit few a large =
      let split : length (edges_of s a) + length (filter (λ b. not (part s.ends b == a)) s.edges) ≡ length s.edges = length-filter_both (λ b. part s.ends b == a) (λ b. not (part s.ends b == a)) (λ b. refl) s.edges in
      let over : limit < length (edges_of s a) = large.over in
      omega (arith, split, few, over)

  pass_step : (limit : ℕ) → length after.edges ≤ limit → IsStep n limit limit s after
  pass_step limit few =
      let long = pass_longer in
      let rows = rows_within in
      IsStep.pass w.i w.j (none_large limit (omega (arith, few, long))) w.pick
      (record {
        rounds = w.rounds;
        closed = true;
        step = w.step;
        begins = w.begins;
        within = record {
          before = λ j last mid r some lt. (let h : length mid ≤ length w.step.rows = rounds_shorter n (loaded s w.i w.j) w.step.since s.round w.step.rounds r (omega (arith, lt)) in omega (arith, h, rows, few));
          at_end = λ some. (omega (arith, rows, few));
        };
      })

pub passes_step : (n : Normal) (limit k : ℕ) (s after : State) → AfterSteps n k s after → length after.edges ≤ limit → After n limit limit s k after
passes_step n limit zero s after same few = same
passes_step n limit (suc k) s after (mid, steps, w) few =
    let long = pass_longer n mid after w in
    (mid, passes_step n limit k s mid steps (omega (arith, few, long)), pass_step n mid after w limit few)

pub passes_end : (n : Normal) (limit k : ℕ) (s after : State) → AfterSteps n k s after → length after.edges ≤ limit → IsFinished after → EndsChain n limit limit s after
passes_end n limit k s after steps few finished =
    (k, passes_step n limit k s after steps few, record { none_large = none; finished = finished })
  where
    none : (a : ℕ) → IsLarge limit after a → ⊥
    none a large =
        let split : length (edges_of after a) + length (filter (λ b. not (part after.ends b == a)) after.edges) ≡ length after.edges = length-filter_both (λ b. part after.ends b == a) (λ b. not (part after.ends b == a)) (λ b. refl) after.edges in
        let over : limit < length (edges_of after a) = large.over in
        omega (arith, split, few, over)

-- steps after which no work is left end the machine's chain
pub ends_as_machine : (n : Normal) (k : ℕ) (c d : Contents) (m last : Manifest) → Continues n k c m d last → HasNoWork last → EndsAsMachine n c m d last
ends_as_machine n k c d m last on done parts listed tells =
    let f = on.steps parts listed tells in
    let finished : IsFinished (state_in last f.0) =
    finished_told (counts_of last.map) (joined_of last.marks) (newest_of last.marks) (state_in last f.0) f.2
    (λ i j li lj. done i j (omega (arith, li, ends_count last)) (omega (arith, lj, ends_count last))) in
    (f.0, f.1, λ limit few. passes_end n limit k (state_in m parts) (state_in last f.0) f.3 few finished)
