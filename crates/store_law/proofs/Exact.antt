-- A store without work left lists exactly the closure.
use Rattle.std.proofs.Common.{◌≡◌, ◌↔◌, inl, inr, ◌≤◌, List, length, arith, ap}
use Rattle.std.proofs.lemmas.List.{length-map}
use Rattle.graph_words.specs.declared.types.Vertex.{Vertex}
use Rattle.graph_words.specs.declared.types.LabelId.{LabelId}
use Rattle.graph_words.specs.declared.types.Born.{Born}
use Rattle.graph_words.specs.Reach.{Reach, edge}
use Rattle.normal_law.specs.Closure.{IsLabelOf}
use Rattle.closing_machine.specs.State.{IsFinished}
use Rattle.closing_machine.specs.Parts.{all_edges}
use Rattle.closing_machine.specs.Rounds.{HasEdge}
use Rattle.closing_machine.proofs.Closing.{exact}
use Rattle.closing_machine.proofs.Telling.{finished_told}
use Rattle.disk_model.specs.Disk.{Contents}
use Rattle.dest_map.specs.Table.{counts_of}
use Rattle.pair_sched.specs.Marks.{joined_of, newest_of}
use Rattle.manifest_codec.specs.declared.types.PartEntry.{PartEntry}
use Rattle.manifest_codec.specs.declared.types.Manifest.{Manifest}
use Rattle.store_law.specs.Texts.{Texts, graph, normal}
use Rattle.store_law.specs.Listed.{AreExact, Lists, ends_of, state_in}
use Rattle.store_law.specs.Left.{HasNoWork, IsStore}
use Rattle.store_law.proofs.Named.{task_of_texts}
use Rattle.store_law.proofs.Times.{ListsOnce, lists_once}

module _ (t : Texts) (c : Contents) (m : Manifest) (parts : List (List Born)) (s : IsStore t c m parts) (done : HasNoWork m) where
  few : length m.labels ≤ 1000
  few = s.rest.texts.fits.labels.short

  finished : IsFinished (state_in m parts)
  finished =
      let count : length (ends_of m) ≡ length m.parts = length-map m.parts (λ (p : PartEntry). p.hi) in
      finished_told (counts_of m.map) (joined_of m.marks) (newest_of m.marks) (state_in m parts) s.rest.tells (λ i j li lj d. done i j (omega arith) (omega arith) d)

  lists : (u v : Vertex) (l : LabelId) → Lists (normal t) (graph t) parts u l v
  lists u v l = go (lists_once (all_edges parts) (edge u l v) s.rest.holds.ordered)
    where
      same : HasEdge (all_edges parts) (edge u l v) ↔ (IsLabelOf (normal t) l × Reach (graph t) (normal t).rules u ((normal t).stands l) v)
      same = exact (normal t) (graph t) (state_in m parts) (task_of_texts t (omega (arith, few, ap length s.rest.texts.labels))) s.rest.holds finished u v l

      go : ListsOnce (all_edges parts) (edge u l v) → Lists (normal t) (graph t) parts u l v
      go (inl once) = let r = same.0 once.1 in inl (once.0, r.0, r.1)
      go (inr none) = inr (none.0, λ r. none.1 (same.1 r))

  pub exact_store : AreExact t c
  exact_store = record { slot = s.slot; manifest = m; parts = parts; current = s.current; listed = s.rest.listed; exact = lists }
