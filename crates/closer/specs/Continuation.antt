-- A store that is closed step by step.
use Rattle.std.specs.Prelude.{◌≡◌, ℕ, zero, suc, ◌+◌, ◌-◌, ◌*◌, ◌^◌, ◌<◌, ◌≤◌, ◌⊎◌, List, length, true, Ok}
use Rattle.graph_words.specs.declared.types.Born.{Born}
use Rattle.normal_law.specs.Closure.{Normal}
use Rattle.closing_machine.specs.State.{State, count, newest, IsDirtyBy, IsPick}
use Rattle.closing_machine.specs.Machine.{IsSuperstep}
use Rattle.closing_machine.specs.Chain.{IsLeastMark}
use Rattle.closing_machine.specs.Measure.{dirty_pairs}
use Rattle.closing_machine.specs.Tells.{Tells}
use Rattle.disk_model.specs.Disk.{Contents}
use Rattle.partition_file.specs.Spelling.{FitsPart, SpellsPart}
use Rattle.dest_map.specs.Table.{counts_of}
use Rattle.pair_sched.specs.Marks.{joined_of, newest_of}
use Rattle.manifest_codec.specs.declared.types.Manifest.{Manifest}
use Rattle.manifest_codec.specs.Spelling.{FitsManifest}
use Rattle.manifest_codec.specs.Same.{AreOfSameTexts}
use Rattle.manifest_switch.specs.declared.slot.Slot.{Slot}
use Rattle.manifest_switch.specs.declared.slot.Found.TheVariants.{At}
use Rattle.manifest_switch.specs.Slots.{current_of}
use Rattle.store_law.specs.Listed.{AreListed, ends_of, expect_of, part_file, part_of, state_in}
use Rattle.store_law.specs.Steps.{KeepsCopies, KeepsFiles}
use Rattle.open_store.specs.PartRead.{IsTold}

-- one step of closing on the pair that is picked: the first round goes over joins since the least mark of the
-- loaded partitions, and the rounds go on until one adds nothing
pub record IsWholePass (n : Normal) (before after : State) : Type 0 where
  pub i : ℕ
  pub j : ℕ
  pub rounds : ℕ
  pub pick : IsPick (count before) before.marks (newest before) (length before.ends) i j
  pub step : IsSuperstep n i j rounds true before after
  pub begins : IsLeastMark before i j step.since

-- the state after k such steps
abbrev pub AfterSteps : Normal → ℕ → State → State → Type 0
AfterSteps n zero s after = after ≡ s
AfterSteps n (suc k) s after = (mid : State) × AfterSteps n k s mid × IsWholePass n mid after

-- partition a is in the file in which it was, with its bytes from before, and the manifest tells the same of it
pub record IsUntouched (m : Manifest) (c : Contents) (next : Manifest) (d : Contents) (a : ℕ) : Type 0 where
  pub file : part_file next a ≡ part_file m a
  pub bytes : d (part_file next a) ≡ c (part_file m a)
  pub counts : (b : ℕ) → counts_of next.map a b ≡ counts_of m.map a b
  pub newest : newest_of next.marks a ≡ newest_of m.marks a

-- its file spells edges that keep its format, and of which the manifest tells
pub record CanBeRead (n : Normal) (m : Manifest) (c : Contents) (a : ℕ) : Type 0 where
  pub edges : List Born
  pub fits : FitsPart (expect_of m n.fresh a) (part_of m a edges)
  pub spells : SpellsPart (c (part_file m a)) (part_of m a edges)
  pub told : IsTold m a edges

-- The manifest `next` in the contents d goes on from m in c by k steps: it is of the same texts, in the same
-- intervals, and whatever partitions m lists and tells of, it lists and tells of those after the steps. Also where m
-- lists none, each partition is as it was, or can be read.
pub record Continues (n : Normal) (k : ℕ) (c : Contents) (m : Manifest) (d : Contents) (next : Manifest) : Type 0 where
  pub fits : FitsManifest next
  pub same : AreOfSameTexts m next
  pub ends : ends_of next ≡ ends_of m
  pub later : m.round ≤ next.round
  pub copies : KeepsCopies m c d
  pub parts : (a : ℕ) → a < length m.parts → IsUntouched m c next d a ⊎ CanBeRead n next d a
  pub steps : (parts : List (List Born)) → AreListed c m n.fresh parts
      → Tells (counts_of m.map) (joined_of m.marks) (newest_of m.marks) (state_in m parts)
      → (after : List (List Born)) × AreListed d next n.fresh after
      × Tells (counts_of next.map) (joined_of next.marks) (newest_of next.marks) (state_in next after)
      × AfterSteps n k (state_in m parts) (state_in next after)

-- a crash leaves the manifest m current, with the copies and all files that it names
pub record Retains (m : Manifest) (old new : Contents) : Type 0 where
  pub same : current_of new ≡ current_of old
  pub files : KeepsFiles m old new

-- or a manifest is current that goes on from m, as a read gave it
pub record ImageGoesOn (n : Normal) (seen : Contents) (m : Manifest) (c : Contents) : Type 0 where
  pub slot : Slot
  pub next : Manifest
  pub steps : ℕ
  pub current : current_of c ≡ Ok (At slot next)
  pub continues : Continues n steps seen m c next

-- some pair of partitions has work left
pub record HasWork (m : Manifest) : Type 0 where
  pub i : ℕ
  pub j : ℕ
  pub first_below : i < length m.parts
  pub second_below : j < length m.parts
  pub dirty : IsDirtyBy (counts_of m.map) (joined_of m.marks) (newest_of m.marks) i j

-- one number that falls with each step, as long as the round is a u64: the rounds that are left, and the pairs that have work left
abbrev pub work_of : Manifest → ℕ
work_of m = (2 ^ 64 - m.round) * 65537 + dirty_pairs (counts_of m.map) (joined_of m.marks) (newest_of m.marks) (length m.parts)
