use Rattle.std.proofs.Common.{ℕ, List, Option, ap}
use Rattle.std.proofs.Common.{Bor}
use Rattle.std.specs.Prelude.{option_map}
use Rattle.graspan_top.proofs.LookLemmas.{refused_label, shown_only}
use Rattle.graspan_top.proofs.labels.shown_number.Goals as goal

pub returns-in_err-number_of-in-Some-clause-none : goal.returns-in_err-number_of-in-Some-clause-none
returns-in_err-number_of-in-Some-clause-none c =
    let label_is = ap (λ (s : Option (Bor (List ℕ))). option_map {T = Bor (List ℕ)} {U = List ℕ} (λ l. l.now) s) c.in-Some.is in
    let none = c.in_err-number_of-in-Some.ensures.none in
    refused_label c.args.manifest.now.labels _ _ c.from_residual.result _ c.from_residual.ensures.1 none.0 label_is none.1

pub returns-in_ok-number_of-in-Some-clause-only : goal.returns-in_ok-number_of-in-Some-clause-only
returns-in_ok-number_of-in-Some-clause-only c =
    let label_is = ap (λ (s : Option (Bor (List ℕ))). option_map {T = Bor (List ℕ)} {U = List ℕ} (λ l. l.now) s) c.in-Some.is in
    shown_only c.args.manifest.now.labels c.requires.labels _ _ c.in_ok-number_of-in-Some.field-0 label_is c.in_ok-number_of-in-Some.ensures.number
