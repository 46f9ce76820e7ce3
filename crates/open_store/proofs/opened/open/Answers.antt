use Rattle.store_law.proofs.Moments.{keeps_looking, keeps_staying}
use Rattle.open_store.proofs.Slots.{looked, then_stayed}
use Rattle.open_store.proofs.opened.open.Goals as goal

pub returns-in_ok-sync-in-Change-clause-any_moment : goal.returns-in_ok-sync-in-Change-clause-any_moment
returns-in_ok-sync-in-Change-clause-any_moment g c =
    let D = g.D.Disk in
    let L = g.met.D.Disk in
    then_stayed D.seen D.moment D.left_since D.may_leave L.counts_now L.only_now c.args.disk.now c.sync.new.self c.grasp.new.disk c.sync.ensures.time c.sync.ensures.crash c.grasp.ensures.any_moment

pub returns-in-Look-clause-stores : goal.returns-in-Look-clause-stores
returns-in-Look-clause-stores g c =
    let L = g.met.D.Disk in
    keeps_looking g.D.Disk L.counts_now L.only_now L.honest c.args.disk.now c.look.new.disk c.look.ensures.looks

pub returns-in_err-sync-in-Change-clause-stores : goal.returns-in_err-sync-in-Change-clause-stores
returns-in_err-sync-in-Change-clause-stores g c =
    let D = g.D.Disk in
    let L = g.met.D.Disk in
    keeps_staying D L.counts_now L.only_now L.honest c.args.disk.now c.sync.new.self
    (looked D.seen D.moment D.left_since D.may_leave L.counts_now L.only_now c.args.disk.now c.sync.new.self c.sync.ensures.time c.sync.ensures.crash)

pub returns-in_ok-sync-in-Change-clause-stores : goal.returns-in_ok-sync-in-Change-clause-stores
returns-in_ok-sync-in-Change-clause-stores g c =
    let D = g.D.Disk in
    let L = g.met.D.Disk in
    keeps_staying D L.counts_now L.only_now L.honest c.args.disk.now c.grasp.new.disk
    (then_stayed D.seen D.moment D.left_since D.may_leave L.counts_now L.only_now c.args.disk.now c.sync.new.self c.grasp.new.disk c.sync.ensures.time c.sync.ensures.crash c.grasp.ensures.any_moment)
