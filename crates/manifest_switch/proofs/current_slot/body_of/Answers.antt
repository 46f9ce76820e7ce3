use Rattle.std.proofs.Common.{◌≡◌, drop, take, subst}
use Rattle.disk_model.specs.Disk.{Contents}
use Rattle.std.specs.Prelude.{Result, Ok, Err}
use Rattle.manifest_codec.specs.declared.types.Manifest.{Manifest}
use Rattle.manifest_codec.specs.declared.types.ManifestFault.{ManifestFault}
use Rattle.manifest_switch.specs.declared.slot.OpenFault.{OpenFault}
use Rattle.manifest_switch.specs.declared.slot.OpenFault.TheVariants.{DiskFault, BadStore, NoMemory}
use Rattle.manifest_switch.specs.Answers.{GivesUnblamed}
use Rattle.manifest_codec.specs.FieldsRead.{reading}
use Rattle.manifest_switch.specs.Slots.{file_of, value_of}
use Rattle.manifest_switch.proofs.CodecLemmas.{settled, whole_body}
use Rattle.manifest_switch.proofs.current_slot.body_of.Goals as goal

pub returns-then-not-is_cut-clause-says : goal.returns-then-not-is_cut-clause-says
returns-then-not-is_cut-clause-says g c = λ tells.
    let D = g.D.Disk in
    let f = file_of c.args.slot in
    let said = c.in_ok-said.said in
    let size = c.loop-size.size in
    let is = subst (λ (y : Contents). said ≡ value_of (reading (take size (drop 1 (y f))))) c.loop-size.invariant.looks.same_seen (c.in_ok-said.ensures.says tells) in
    settled (D.seen c.args.disk.now f) size said c.more_bytes_change_nothing.ensures is (c.is_cut.ensures.whole c.if-not-is_cut.true)

gives : (P Q : Result Manifest ManifestFault → Type 0) (r : Result (Result Manifest ManifestFault) OpenFault) → ((x : Result Manifest ManifestFault) → P x → Q x) → GivesUnblamed r P → GivesUnblamed r Q
gives P Q (Ok x) f p = f x p
gives P Q (Err (BadStore file place kind)) f p = p
gives P Q (Err DiskFault) f p = p
gives P Q (Err NoMemory) f p = p

pub returns-clause-says : goal.returns-clause-says
returns-clause-says g c = λ tells.
    let D = g.D.Disk in
    let f = file_of c.args.slot in
    gives _ _ c.front_says-2.result
    (λ said is.
    whole_body (D.seen c.args.disk.now f) c.args.all said (c.requires.all tells)
    (subst (λ (y : Contents). said ≡ value_of (reading (take c.args.all (drop 1 (y f))))) c.loop-size.invariant.looks.same_seen is))
    (c.front_says-2.ensures.says tells)
