use Rattle.std.proofs.Common.{◌≡◌, ◌+◌, ◌-◌, ◌∙◌, List, ℕ, Ok, Err, Some, length, take, drop, subst, ap}
use Rattle.partition_file.specs.FieldsRead.{edge_at, label_at, destination_at, birth_at}
use Rattle.partition_file.specs.Reader.{Gives}
use Rattle.partition_file.proofs.EdgeReading.{passed, tail_whole, edge_gives, second_breaks, third_breaks}
use Rattle.partition_file.proofs.fields.read_edge.Goals as goal

pub returns-in_err-dst : goal.returns-in_err-dst
returns-in_err-dst c =
    let e = c.args.expect.now in
    let r = c.args.row in
    let place = c.args.place in
    let bytes = c.args.bytes.now in
    let first = c.in-Some.first in
    let fault = c.in_err-dst.field-0.0 in
    let l : Gives (label_at e r.format r.before) place bytes (Ok (Some (c.in-Some.label, first))) = rw c.in-Some.is at c.in_ok-label.ensures in
    let d : Gives (destination_at e r.format r.before c.in-Some.label) (place + first) (drop first bytes) (Err fault) =
    subst (λ (x : List ℕ). Gives (destination_at e r.format r.before c.in-Some.label) (place + first) x (Err fault)) (tail_whole first bytes) c.in_err-dst.ensures in
    passed (edge_at e r.format r.vertex r.before) place bytes c.from_residual-in_err-dst.result fault c.from_residual-in_err-dst.ensures.1
    (second_breaks e r.format r.before place bytes c.in-Some.label first fault l d r.vertex)

pub returns-in_err-birth : goal.returns-in_err-birth
returns-in_err-birth c =
    let e = c.args.expect.now in
    let r = c.args.row in
    let place = c.args.place in
    let bytes = c.args.bytes.now in
    let first = c.in-Some.first in
    let second = c.in-Some-2.second in
    let behind : List ℕ = take (length bytes - first) (drop first bytes) in
    let tail : behind ≡ drop first bytes = tail_whole first bytes in
    let fault = c.in_err-birth.field-0.0 in
    let l : Gives (label_at e r.format r.before) place bytes (Ok (Some (c.in-Some.label, first))) = rw c.in-Some.is at c.in_ok-label.ensures in
    let d : Gives (destination_at e r.format r.before c.in-Some.label) (place + first) (drop first bytes) (Ok (Some (c.in-Some-2.dst, second))) =
    subst (λ (x : List ℕ). Gives (destination_at e r.format r.before c.in-Some.label) (place + first) x (Ok (Some (c.in-Some-2.dst, second)))) tail (rw c.in-Some-2.is at c.in_ok-dst.ensures) in
    let t : Gives (birth_at e r.format) (place + first + second) (drop second (drop first bytes)) (Err fault) =
    subst (λ (x : List ℕ). Gives (birth_at e r.format) (place + first + second) x (Err fault)) (tail_whole second behind ∙ ap (drop second) tail) c.in_err-birth.ensures in
    passed (edge_at e r.format r.vertex r.before) place bytes c.from_residual-in_err-birth.result fault c.from_residual-in_err-birth.ensures.1
    (third_breaks e r.format r.before place bytes c.in-Some.label first c.in-Some-2.dst second fault l d t r.vertex)

pub returns : goal.returns
returns c =
    let e = c.args.expect.now in
    let r = c.args.row in
    let place = c.args.place in
    let bytes = c.args.bytes.now in
    let first = c.in-Some.first in
    let second = c.in-Some-2.second in
    let third = c.in-Some-3.third in
    let birth = c.in-Some-3.birth in
    let behind : List ℕ = take (length bytes - first) (drop first bytes) in
    let tail : behind ≡ drop first bytes = tail_whole first bytes in
    let l : Gives (label_at e r.format r.before) place bytes (Ok (Some (c.in-Some.label, first))) = rw c.in-Some.is at c.in_ok-label.ensures in
    let d : Gives (destination_at e r.format r.before c.in-Some.label) (place + first) (drop first bytes) (Ok (Some (c.in-Some-2.dst, second))) =
    subst (λ (x : List ℕ). Gives (destination_at e r.format r.before c.in-Some.label) (place + first) x (Ok (Some (c.in-Some-2.dst, second)))) tail (rw c.in-Some-2.is at c.in_ok-dst.ensures) in
    let t : Gives (birth_at e r.format) (place + first + second) (drop second (drop first bytes)) (Ok (Some (birth, third))) =
    subst (λ (x : List ℕ). Gives (birth_at e r.format) (place + first + second) x (Ok (Some (birth, third)))) (tail_whole second behind ∙ ap (drop second) tail) (rw c.in-Some-3.is at c.in_ok-birth.ensures) in
    rw c.edge_of-edge.ensures (edge_gives e r.format r.vertex r.before place bytes c.in-Some.label first c.in-Some-2.dst second birth third l d t)
