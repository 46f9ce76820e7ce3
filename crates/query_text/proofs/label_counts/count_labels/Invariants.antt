use Rattle.std.proofs.Common.{◌≡◌, ◌≤◌, List, length}
use Rattle.graph_words.specs.declared.types.Born.{Born}
use Rattle.closing_machine.specs.Parts.{all_edges}
use Rattle.disk_model.specs.View.{OnlyLooks}
use Rattle.query_text.specs.Answered.{AreRead}
use Rattle.query_text.specs.Shown.{AreTallied}
use Rattle.query_text.proofs.label_counts.count_labels.Given as goal

abbrev pub invariant-loop-i : goal.invariant-loop-i
invariant-loop-i g l =
    let D = g.D.Disk in
    record {
      tallied : (read : List (List Born)) × AreRead l.store D.tells (D.seen l.fn.disk) 0 read × (length read ≡ l.i) × AreTallied (length l.store.manifest.labels) (all_edges read) l.counts.items;
      within : l.i ≤ length l.store.manifest.parts;
      looks : OnlyLooks D l.fn.disk l.disk;
    }
