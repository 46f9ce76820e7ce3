-- What calls of a disk keep of stores, at each moment of a crash.
use Rattle.std.specs.Prelude.{IsTrue}
use Rattle.graph_words.specs.declared.types.Born.{Born}
use Rattle.disk_model.specs.declared.disk.Disk as disk
use Rattle.disk_model.specs.Disk.{Contents}
use Rattle.disk_model.specs.Crash.{LeavesOnly}
use Rattle.store_law.specs.Texts.{Texts}
use Rattle.store_law.specs.Left.{HoldsStore, IsLeft, ListsBorn}

-- Where each image at the start has P, each that a crash may leave at any moment since has Q, and so has what a read gives.
abbrev pub Leads : {D : Type 0} → disk.Ghosts D → D → D → (Contents → Type 0) → (Contents → Type 0) → Type 0
Leads d old new P Q = ((c : Contents) → d.may_leave old c → P c)
    → LeavesOnly d.moment d.left_since old new Q × (IsTrue d.tells → Q (d.seen new))

-- what each image at the start has, each image since has
abbrev pub Preserves : {D : Type 0} → disk.Ghosts D → D → D → (Contents → Type 0) → Type 0
Preserves d old new P = Leads d old new P P

-- Stores of these texts are kept, and of the edges that they list those that are among these.
pub record KeepsAmong {D : Type 0} (d : disk.Ghosts D) (old new : D) (t : Texts) (among : Born → Type 0) : Type 0 where
  -- what stopped runs of the texts leave stays such
  pub left : Preserves d old new (IsLeft t)
  -- where no image is blank, none becomes so
  pub stores : Preserves d old new (HoldsStore t)
  -- an edge that each image lists with one birth stays listed with it
  pub births : (b : Born) → among b → Preserves d old new (ListsBorn t b)

-- Stores are kept, whatever texts they are of, with each edge that they list.
abbrev pub KeepsStores : {D : Type 0} → disk.Ghosts D → D → D → Type 0
KeepsStores d old new = (t : Texts) → KeepsAmong d old new t (λ b. Unit {0})

-- Where each image at the start has P, each image now has Q, and so has what a read gives.
abbrev pub EndsIn : {D : Type 0} → disk.Ghosts D → D → D → (Contents → Type 0) → (Contents → Type 0) → Type 0
EndsIn d old new P Q = ((c : Contents) → d.may_leave old c → P c)
    → ((c : Contents) → d.may_leave new c → Q c) × (IsTrue d.tells → Q (d.seen new))
