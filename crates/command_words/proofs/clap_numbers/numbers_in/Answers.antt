use Rattle.std.proofs.Common.{◌≡◌, ◌^◌, ◌<◌, ℕ, List, arith, refl}
use Rattle.std.specs.Str.Parse.{ExplainsUnsignedError, HasUnsignedDigitsIfOk}
use Rattle.command_words.specs.Command.{IsNumber}
use Rattle.command_words.proofs.NumberLemmas.{number_got}
use Rattle.command_words.proofs.clap_numbers.numbers_in.Goals as goal

small : (most : ℕ) (w : List ℕ) (n : ℕ) → IsNumber 1 most w n → most < 2 ^ 32 → n < 2 ^ 32
small most w n is h = let low = is.not_more in omega arith

wide : (most : ℕ) (w : List ℕ) (n : ℕ) → IsNumber 1 most w n → most < 2 ^ 64 → n < 2 ^ 64
wide most w n is h = let low = is.not_more in omega arith

pub returns-in_err-workers : goal.returns-in_err-workers
returns-in_err-workers c = λ workers part_edges budget n has w p b.
    let got = number_got (λ u r. ExplainsUnsignedError 10 u r) (λ u r. HasUnsignedDigitsIfOk u r) 32 1 64 workers n.workers c.get_one.result (small 64 workers n.workers w (omega arith)) w (c.get_one.ensures.value workers has.workers_is) in
    let none = c.in_err-workers.was in
    absurd cc

pub returns-in_err-part_edges : goal.returns-in_err-part_edges
returns-in_err-part_edges c = λ workers part_edges budget n has w p b.
    let got = number_got (λ u r. ExplainsUnsignedError 10 u r) (λ u r. HasUnsignedDigitsIfOk u r) 64 1 4294967295 part_edges n.part_edges c.get_one-2.result (wide 4294967295 part_edges n.part_edges p (omega arith)) p (c.get_one-2.ensures.value part_edges has.part_edges_is) in
    let none = c.in_err-part_edges.was in
    absurd cc

pub returns-in_err-budget : goal.returns-in_err-budget
returns-in_err-budget c = λ workers part_edges budget n has w p b.
    let got = number_got (λ u r. ExplainsUnsignedError 10 u r) (λ u r. HasUnsignedDigitsIfOk u r) 64 1 4294967295 budget n.budget c.get_one-3.result (wide 4294967295 budget n.budget b (omega arith)) b (c.get_one-3.ensures.value budget has.budget_is) in
    let none = c.in_err-budget.was in
    absurd cc

pub returns : goal.returns
returns c = λ workers part_edges budget n has w p b.
    let one = number_got (λ u r. ExplainsUnsignedError 10 u r) (λ u r. HasUnsignedDigitsIfOk u r) 32 1 64 workers n.workers c.get_one.result (small 64 workers n.workers w (omega arith)) w (c.get_one.ensures.value workers has.workers_is) in
    let two = number_got (λ u r. ExplainsUnsignedError 10 u r) (λ u r. HasUnsignedDigitsIfOk u r) 64 1 4294967295 part_edges n.part_edges c.get_one-2.result (wide 4294967295 part_edges n.part_edges p (omega arith)) p (c.get_one-2.ensures.value part_edges has.part_edges_is) in
    let three = number_got (λ u r. ExplainsUnsignedError 10 u r) (λ u r. HasUnsignedDigitsIfOk u r) 64 1 4294967295 budget n.budget c.get_one-3.result (wide 4294967295 budget n.budget b (omega arith)) b (c.get_one-3.ensures.value budget has.budget_is) in
    let is_one = c.in_ok-workers.was in
    let is_two = c.in_ok-part_edges.was in
    let is_three = c.in_ok-budget.was in
    let workers_is : c.in_ok-workers.workers ≡ n.workers = cc in
    let part_edges_is : c.in_ok-part_edges.part_edges ≡ n.part_edges = cc in
    let budget_is : c.in_ok-budget.budget ≡ n.budget = cc in
    rw (workers_is, part_edges_is, budget_is) refl
