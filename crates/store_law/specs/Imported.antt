-- A store as its first commit leaves it.
use Rattle.std.specs.Prelude.{◌≡◌, ◌==◌, ℕ, ◌<◌, List, length, slice_index_or, count_by, Ok}
use Rattle.graph_words.specs.declared.types.Born.{Born}
use Rattle.graph_words.specs.Reach.{Graph}
use Rattle.closing_machine.specs.Machine.{IsOpening}
use Rattle.closing_machine.specs.Tells.{Tells}
use Rattle.disk_model.specs.Disk.{Contents}
use Rattle.intervals.specs.DegreeCut.{IsCutByDegree}
use Rattle.dest_map.specs.Table.{counts_of}
use Rattle.pair_sched.specs.Marks.{joined_of, newest_of}
use Rattle.manifest_codec.specs.declared.types.Manifest.{Manifest}
use Rattle.manifest_switch.specs.declared.slot.Slot.TheVariants.{Zero}
use Rattle.manifest_switch.specs.declared.slot.Found.TheVariants.{At}
use Rattle.manifest_switch.specs.Slots.{current_of}
use Rattle.store_law.specs.Texts.{Texts, graph, normal}
use Rattle.store_law.specs.Listed.{AreListed, ends_of, state_in}
use Rattle.store_law.specs.Left.{IsOfTexts}

-- a number for each vertex: how many edges of the graph begin there
pub record AreDegreesOf (g : Graph) (degrees : List ℕ) : Type 0 where
  pub size : length degrees ≡ g.vertices
  pub each : (v : ℕ) → v < g.vertices → slice_index_or degrees v 0 ≡ count_by (λ e. e.src.0 == v) g.edges

-- With this manifest as the current one the contents are a fresh store of the texts: nothing is joined yet, and the
-- vertices are cut by how many edge lines begin at each. No slot is looked at.
pub record IsFreshStore (t : Texts) (limit : ℕ) (c : Contents) (m : Manifest) (parts : List (List Born)) : Type 0 where
  -- the next generation is 1
  pub first : m.generation ≡ 0
  -- both texts can be read, and the manifest and the copies are theirs
  pub texts : IsOfTexts t c m
  -- the intervals are as long as the limit allows, so the texts and the limit determine them
  pub degrees : List ℕ
  pub counted : AreDegreesOf (graph t) degrees
  pub intervals : IsCutByDegree degrees limit (ends_of m)
  -- the partition files can be read
  pub listed : AreListed c m (normal t).fresh parts
  -- they list the given edges and nothing else, with birth 0, and no pair is joined
  pub opening : IsOpening (normal t) (graph t) (state_in m parts)
  -- the tables are exact, so that no dirty pair is overlooked
  pub tells : Tells (counts_of m.map) (joined_of m.marks) (newest_of m.marks) (state_in m parts)

-- The contents are a fresh store of the texts, by the manifest in slot 0, which is current.
pub record IsImported (t : Texts) (limit : ℕ) (c : Contents) (m : Manifest) (parts : List (List Born)) : Type 0 where
  -- a run finds this manifest, and the next one goes to slot 1
  pub current : current_of c ≡ Ok (At Zero m)
  pub fresh : IsFreshStore t limit c m parts
