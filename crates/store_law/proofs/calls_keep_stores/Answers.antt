use Rattle.store_law.proofs.Moments.{keeps_looking, keeps_staying, keeps_switching, keeps_then}
use Rattle.store_law.proofs.calls_keep_stores.Goals as goal

pub returns-clause-looks : goal.returns-clause-looks
returns-clause-looks g c = keeps_looking g.D.Disk g.met.D.Disk.counts_now g.met.D.Disk.only_now g.met.D.Disk.honest

pub returns-clause-stays : goal.returns-clause-stays
returns-clause-stays g c = keeps_staying g.D.Disk g.met.D.Disk.counts_now g.met.D.Disk.only_now g.met.D.Disk.honest

pub returns-clause-switch : goal.returns-clause-switch
returns-clause-switch g c = keeps_switching g.D.Disk g.met.D.Disk.counts_now g.met.D.Disk.only_now g.met.D.Disk.honest

pub returns-clause-and_then : goal.returns-clause-and_then
returns-clause-and_then g c = keeps_then g.D.Disk g.met.D.Disk.counts_now g.met.D.Disk.only_now g.met.D.Disk.honest
