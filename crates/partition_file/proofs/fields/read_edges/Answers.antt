use Rattle.std.proofs.Common.{◌≡◌, ◌+◌, ◌-◌, Ok, Err, Some, drop, refl, arith, length-drop}
use Rattle.partition_file.specs.declared.types.Stage.TheVariants as stages
use Rattle.partition_file.specs.FieldsRead.{edge_at}
use Rattle.partition_file.specs.Reader.{Gives}
use Rattle.partition_file.proofs.PieceLemmas.{leads_edge, leads_fault, row_more}
use Rattle.partition_file.proofs.fields.read_edges.Goals as goal

pub edges-init : goal.edges-init
edges-init c =
    let none : c.args.place + 0 ≡ c.args.place = omega arith in
    record { leads = rw none (λ more. refl); row = c.requires.row; within = omega arith; few = omega arith }

pub returns-then-row-eq0-clause-reads : goal.returns-then-row-eq0-clause-reads
returns-then-row-eq0-clause-reads c =
    let e = c.args.expect.now in
    let r = c.edges.row in
    let used = c.edges.used in
    let b = c.in-Ok-Some.born in
    let len = c.in-Ok-Some.len in
    let none : r.left ≡ 0 = c.if-row-eq0.true in
    let gives : Gives (edge_at e r.format r.vertex r.before) (c.args.place + used) (drop used c.args.bytes.now) (Ok (Some (b, len))) =
    rw (c.in-Ok-Some.field-0-is, c.split_at.ensures.back) at c.in-Ok-Some.ensures in
    rw c.in_ok-push-in-Ok-Some.ensures.items (leads_edge e (stages.Label c.args.row) c.args.place c.args.place c.args.edges.now.items c.edges.edges.items c.args.bytes.now used len r b c.row_from.result
    c.edges.invariant.leads gives (λ after rest. rw none (c.row_from.ensures.next after rest)))

pub edges-preserved : goal.edges-preserved
edges-preserved c =
    let e = c.args.expect.now in
    let r = c.edges.row in
    let used = c.edges.used in
    let b = c.in-Ok-Some.born in
    let len = c.in-Ok-Some.len in
    let gives : Gives (edge_at e r.format r.vertex r.before) (c.args.place + used) (drop used c.args.bytes.now) (Ok (Some (b, len))) =
    rw (c.in-Ok-Some.field-0-is, c.split_at.ensures.back) at c.in-Ok-Some.ensures in
    record {
      leads = rw c.in_ok-push-in-Ok-Some.ensures.items (leads_edge e (stages.Label c.args.row) c.args.place c.args.place c.args.edges.now.items c.edges.edges.items c.args.bytes.now used len r b (stages.Label (record { format = r.format; vertex = r.vertex; left = r.left - 1; before = Some b.edge }))
          c.edges.invariant.leads gives (λ after rest. row_more e r (Some b.edge) after rest (omega (arith, c.if-row-eq0.false))));
      row = c.edges.invariant.row;
      within = omega (arith, gives.1, c.split_at.ensures.back_len, c.edges.invariant.within, length-drop used c.args.bytes.now);
      few = omega (arith, c.edges.invariant.few, gives.0, c.in_ok-push-in-Ok-Some.ensures.len);
    }

pub returns-in-Err-clause-reads : goal.returns-in-Err-clause-reads
returns-in-Err-clause-reads c =
    let e = c.args.expect.now in
    let r = c.edges.row in
    let used = c.edges.used in
    let fault = c.in-Err.fault in
    let gives : Gives (edge_at e r.format r.vertex r.before) (c.args.place + used) (drop used c.args.bytes.now) (Err fault) = rw c.split_at.ensures.back at c.in-Err.ensures in
    leads_fault e (stages.Label c.args.row) c.args.place c.args.place c.args.edges.now.items c.edges.edges.items c.args.bytes.now used r fault c.edges.invariant.leads gives
