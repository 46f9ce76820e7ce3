-- Words have at most one reading, which is that of their cut.
use Rattle.std.proofs.Common.{◌≡◌, ◌≤◌, ◌<◌, ℕ, List, [], ◌∷◌, Option, Some, None, All, length, drop, slice_index_or, codes, unwrap_or, arith, ap, subst, refl, sym, ◌∙◌}
use Rattle.std.specs.Str.Parse.{digits_value}
use Rattle.command_words.specs.Words.{GivenOption}
use Rattle.command_words.specs.Command.{Said, run, query, emit, dump, parts, Says, kind_word, Reading, IsDestination, AreNumbers, IsNumberOr, AreWithin, RunsWithin, value_of}
use Rattle.command_words.specs.CutWords.{Cut, any, cut_from}
use Rattle.closing_options.specs.declared.RunOptions.{RunOptions}
use Rattle.command_words.specs.declared.command.GraphKind.{GraphKind}
use Rattle.command_words.specs.declared.command.GraphKind.TheVariants.{Alias, Null}
use Rattle.command_words.proofs.CutsLemmas.{cut, cut_of, cuts_of}

-- ---- the reading of a cut

pub reads : (words : List (List ℕ)) (name : List ℕ) (c : Cut) (command : Said) → 0 < length words → name ≡ slice_index_or words 0 [] → All (λ word. 1 ≤ length word) words → cut_from (drop 1 words) any ≡ Some c → Says name c.options c.plain command → Reading words command
reads [] name c command some is full e says = absurd (omega arith)
reads (w ∷ ws) name c command some is full e says = record {
  name = name;
  others = ws;
  first = ap (λ n. n ∷ ws) (sym is);
  full = full;
  options = c.options;
  plains = c.plain;
  cut = cuts_of ws c e;
  says = says;
}

cut_is : (words : List (List ℕ)) (command : Said) (r : Reading words command) → cut_from (drop 1 words) any ≡ Some (cut r.options r.plains)
cut_is words command r = ap (λ l. cut_from (drop 1 l) any) r.first ∙ cut_of r.cut

pub uncut : (words : List (List ℕ)) (command : Said) → cut_from (drop 1 words) any ≡ None → Reading words command → ⊥
uncut words command none r = let is = cut_is words command r in cc

pub says_of : (words : List (List ℕ)) (name : List ℕ) (c : Cut) (command : Said) → name ≡ slice_index_or words 0 [] → cut_from (drop 1 words) any ≡ Some c → Reading words command → Says name c.options c.plain command
says_of words name c command is e r =
    let same : cut r.options r.plains ≡ c = ap (λ o. unwrap_or o c) (sym (cut_is words command r) ∙ e) in
    let named : r.name ≡ name = sym (is ∙ ap (λ l. slice_index_or l 0 []) r.first) in
    subst (λ n. Says n c.options c.plain command) named (subst (λ x. Says r.name x.options x.plain command) same r.says)

-- ---- the ranges of a run's numbers

number_within : (default least most : ℕ) (word : Option (List ℕ)) (n : ℕ) → least ≤ default → default ≤ most → IsNumberOr default least most word n → (least ≤ n) × (n ≤ most)
number_within default least most None n low high is = (rw is low, rw is high)
number_within default least most (Some word) n low high is = (is.not_less, is.not_more)

numbers_within : (options : List GivenOption) (n : RunOptions) → AreNumbers options n → AreWithin n
numbers_within options n are =
    let workers = number_within 4 1 64 (value_of (codes "workers") options) n.workers (omega arith) (omega arith) are.workers_is in
    let edges = number_within 1000000 1 4294967295 (value_of (codes "part-edges") options) n.part_edges (omega arith) (omega arith) are.part_edges_is in
    let budget = number_within 16000000 1 4294967295 (value_of (codes "budget") options) n.budget (omega arith) (omega arith) are.budget_is in
    record { some_workers = workers.0; few_workers = workers.1; some_edges = edges.0; few_edges = edges.1; some_budget = budget.0; small_budget = budget.1 }

pub runs_within : (name : List ℕ) (options : List GivenOption) (plains : List (List ℕ)) (c : Said) → Says name options plains c → RunsWithin c
runs_within name options plains (run edges grammar numbers show) says = numbers_within options numbers says.2.numbers_are
runs_within name options plains (query label from to) says = tt
runs_within name options plains (emit kind source) says = tt
runs_within name options plains dump says = tt
runs_within name options plains parts says = tt

-- ---- one reading

one_number : (default least most : ℕ) (word : Option (List ℕ)) (m n : ℕ) → IsNumberOr default least most word m → IsNumberOr default least most word n → m ≡ n
one_number default least most None m n a b = a ∙ sym b
one_number default least most (Some word) m n a b = sym a.value ∙ b.value

abbrev numbers : ℕ → ℕ → ℕ → RunOptions
numbers workers part_edges budget = record { workers = workers; part_edges = part_edges; budget = budget }

one_options : (options : List GivenOption) (a b : RunOptions) → AreNumbers options a → AreNumbers options b → a ≡ b
one_options options a b m n =
    let workers = one_number 4 1 64 (value_of (codes "workers") options) a.workers b.workers m.workers_is n.workers_is in
    let edges = one_number 1000000 1 4294967295 (value_of (codes "part-edges") options) a.part_edges b.part_edges m.part_edges_is n.part_edges_is in
    let budget = one_number 16000000 1 4294967295 (value_of (codes "budget") options) a.budget b.budget m.budget_is n.budget_is in
    ap (λ x. numbers x a.part_edges a.budget) workers ∙ (ap (λ x. numbers b.workers x a.budget) edges ∙ ap (λ x. numbers b.workers b.part_edges x) budget)

one_destination : (words : List (List ℕ)) (a b : Option ℕ) → IsDestination words a → IsDestination words b → a ≡ b
one_destination [] None None h k = refl
one_destination [] None (Some b) h k = absurd k
one_destination [] (Some a) b h k = absurd h
one_destination (w ∷ []) None b h k = absurd h
one_destination (w ∷ []) (Some a) None h k = absurd k
one_destination (w ∷ []) (Some a) (Some b) h k = ap Some (sym h.value ∙ k.value)
one_destination (w ∷ v ∷ ws) None b h k = absurd h
one_destination (w ∷ v ∷ ws) (Some a) b h k = absurd h

one_kind : (a b : GraphKind) → kind_word a ≡ kind_word b → a ≡ b
one_kind Alias Alias h = refl
one_kind Null Null h = refl
one_kind Alias Null h = absurd (let bad : 97 ≡ 110 = ap (λ l. slice_index_or l 0 0) h in omega arith)
one_kind Null Alias h = absurd (let bad : 110 ≡ 97 = ap (λ l. slice_index_or l 0 0) h in omega arith)

one_command : (name : List ℕ) (options : List GivenOption) (plains : List (List ℕ)) (c d : Said) → Says name options plains c → Says name options plains d → c ≡ d
one_command name options plains (run e g o s) (run e' g' o' s') h k =
    let p = sym h.1 ∙ k.1 in
    let edges : e ≡ e' = ap (λ l. slice_index_or l 0 []) p in
    let grammar : g ≡ g' = ap (λ l. slice_index_or l 1 []) p in
    let numbers = one_options options o o' h.2.numbers_are k.2.numbers_are in
    let show : s ≡ s' = sym h.2.show_is ∙ k.2.show_is in
    rw (edges, grammar, numbers, show) refl
one_command name options plains (query l f t) (query l' f' t') h k =
    let p = sym h.2.plains_are ∙ k.2.plains_are in
    let label : l ≡ l' = ap (λ x. slice_index_or x 0 []) p in
    let word : h.2.from_word ≡ k.2.from_word = ap (λ x. slice_index_or x 1 []) p in
    let words : h.2.to_words ≡ k.2.to_words = ap (drop 2) p in
    let from : f ≡ f' = sym h.2.from_is.value ∙ (ap (digits_value 10) word ∙ k.2.from_is.value) in
    let to = one_destination k.2.to_words t t' (subst (λ x. IsDestination x t) words h.2.to_is) k.2.to_is in
    rw (label, from, to) refl
one_command name options plains (emit a s) (emit b t) h k =
    let p = sym h.2 ∙ k.2 in
    let kind = one_kind a b (ap (λ x. slice_index_or x 0 []) p) in
    let source : s ≡ t = ap (λ x. slice_index_or x 1 []) p in
    rw (kind, source) refl
one_command name options plains (emit a r) (run e g o s) h k = absurd (let bad : 101 ≡ 114 = ap (λ l. slice_index_or l 0 0) (sym h.0 ∙ k.0) in omega arith)
one_command name options plains (run e g o s) (emit a r) h k = absurd (let bad : 114 ≡ 101 = ap (λ l. slice_index_or l 0 0) (sym h.0 ∙ k.0) in omega arith)
one_command name options plains (emit a r) (query l f t) h k = absurd (let bad : 101 ≡ 113 = ap (λ l. slice_index_or l 0 0) (sym h.0 ∙ k.0) in omega arith)
one_command name options plains (query l f t) (emit a r) h k = absurd (let bad : 113 ≡ 101 = ap (λ l. slice_index_or l 0 0) (sym h.0 ∙ k.0) in omega arith)
one_command name options plains (emit a r) dump h k = absurd (let bad : 101 ≡ 100 = ap (λ l. slice_index_or l 0 0) (sym h.0 ∙ k.0) in omega arith)
one_command name options plains dump (emit a r) h k = absurd (let bad : 100 ≡ 101 = ap (λ l. slice_index_or l 0 0) (sym h.0 ∙ k.0) in omega arith)
one_command name options plains (emit a r) parts h k = absurd (let bad : 101 ≡ 112 = ap (λ l. slice_index_or l 0 0) (sym h.0 ∙ k.0) in omega arith)
one_command name options plains parts (emit a r) h k = absurd (let bad : 112 ≡ 101 = ap (λ l. slice_index_or l 0 0) (sym h.0 ∙ k.0) in omega arith)
one_command name options plains dump dump h k = refl
one_command name options plains parts parts h k = refl
one_command name options plains (run e g o s) (query l f t) h k = absurd (let bad : 114 ≡ 113 = ap (λ l. slice_index_or l 0 0) (sym h.0 ∙ k.0) in omega arith)
one_command name options plains (run e g o s) dump h k = absurd (let bad : 114 ≡ 100 = ap (λ l. slice_index_or l 0 0) (sym h.0 ∙ k.0) in omega arith)
one_command name options plains (run e g o s) parts h k = absurd (let bad : 114 ≡ 112 = ap (λ l. slice_index_or l 0 0) (sym h.0 ∙ k.0) in omega arith)
one_command name options plains (query l f t) (run e g o s) h k = absurd (let bad : 113 ≡ 114 = ap (λ l. slice_index_or l 0 0) (sym h.0 ∙ k.0) in omega arith)
one_command name options plains (query l f t) dump h k = absurd (let bad : 113 ≡ 100 = ap (λ l. slice_index_or l 0 0) (sym h.0 ∙ k.0) in omega arith)
one_command name options plains (query l f t) parts h k = absurd (let bad : 113 ≡ 112 = ap (λ l. slice_index_or l 0 0) (sym h.0 ∙ k.0) in omega arith)
one_command name options plains dump (run e g o s) h k = absurd (let bad : 100 ≡ 114 = ap (λ l. slice_index_or l 0 0) (sym h.0 ∙ k.0) in omega arith)
one_command name options plains dump (query l f t) h k = absurd (let bad : 100 ≡ 113 = ap (λ l. slice_index_or l 0 0) (sym h.0 ∙ k.0) in omega arith)
one_command name options plains dump parts h k = absurd (let bad : 100 ≡ 112 = ap (λ l. slice_index_or l 0 0) (sym h.0 ∙ k.0) in omega arith)
one_command name options plains parts (run e g o s) h k = absurd (let bad : 112 ≡ 114 = ap (λ l. slice_index_or l 0 0) (sym h.0 ∙ k.0) in omega arith)
one_command name options plains parts (query l f t) h k = absurd (let bad : 112 ≡ 113 = ap (λ l. slice_index_or l 0 0) (sym h.0 ∙ k.0) in omega arith)
one_command name options plains parts dump h k = absurd (let bad : 112 ≡ 100 = ap (λ l. slice_index_or l 0 0) (sym h.0 ∙ k.0) in omega arith)

pub one_reading : (words : List (List ℕ)) (c d : Said) → Reading words c → Reading words d → c ≡ d
one_reading words c d r s =
    one_command s.name s.options s.plains c d
    (says_of words s.name (cut s.options s.plains) c (ap (λ l. slice_index_or l 0 []) (sym s.first)) (cut_is words d s) r) s.says
