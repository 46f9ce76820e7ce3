use Rattle.std.proofs.Common.{◌+◌, ◌-◌, ◌<◌, ◌≤◌, length, take}
use Rattle.partition_file.specs.declared.types.Stage.TheVariants as stages
use Rattle.partition_file.specs.Reader.{LeadsTo}
use Rattle.partition_file.proofs.fields.read_edges.Given as goal

abbrev pub invariant-edges : goal.invariant-edges
invariant-edges l = record {
  leads : LeadsTo l.expect (stages.Label l.fn.row) l.fn.place l.fn.edges.items (take l.used l.bytes) (stages.Label l.row) (l.place + l.used) l.edges.items;
  row : l.row.vertex < l.expect.hi;
  within : l.used ≤ length l.bytes;
  few : length l.edges.items ≤ length l.fn.edges.items + l.used;
}

abbrev pub decreases-edges : goal.decreases-edges
decreases-edges l = length l.bytes - l.used
