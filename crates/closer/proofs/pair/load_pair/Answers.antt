use Rattle.std.proofs.Common.{subst}
use Rattle.disk_model.specs.Disk.{Contents}
use Rattle.open_store.specs.PartRead.{IsRefused}
use Rattle.open_store.proofs.Causes.{handed}
use Rattle.closer.proofs.Flat.{among_second}
use Rattle.closer.proofs.pair.load_pair.Goals as goal

pub returns-in_err-second-clause-cause : goal.returns-in_err-second-clause-cause
returns-in_err-second-clause-cause g c =
    let D = g.D.Disk in
    handed (D.faults c.args.disk.now) (D.faults c.load.new.disk) (D.faults c.load-2.new.disk) _ _ c.load-2.result c.from_residual-in_err-second.result c.in_err-second.field-0.0 c.in_err-second.was c.from_residual-in_err-second.ensures.1 c.load.ensures.looks.later
    (λ f p k blamed. record {
      partition = c.args.high;
      among = among_second c.args.low c.args.high;
      file_is = blamed.0;
      refused = λ tell. subst (λ (x : Contents). IsRefused c.args.store.now c.args.high (x f) p k) c.load.ensures.looks.same_seen (blamed.1 tell);
    })
    c.load-2.ensures.cause
