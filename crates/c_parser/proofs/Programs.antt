-- A program, item by item, and what a refusal says of whole programs.
use Rattle.std.proofs.Common.{◌≡◌, ◌∙◌, ◌⊎◌, inl, inr, refl, sym, ap, subst, ℕ, ◌+◌, ◌≤◌, Bool, true, false, List, [], ◌∷◌, ◌++◌, length, take, append_assoc, append-nil, length-append, Some, None, arith}
use Rattle.std.specs.Prelude.{◌<◌, is_some, Result, Ok, Err, IsErrAnd, IfErr}
use Rattle.std.proofs.Math.Seq.{take-append_seam, take-append-add}
use Rattle.std.specs.Option.{option_map}
use Rattle.std.proofs.lemmas.Option.{slice_get_cases}
use Rattle.std.proofs.lemmas.List.{drop_all, append_cancel_right, map-append}
use Rattle.faults.specs.declared.kinds.InputKind.TheVariants as kind
use Rattle.c_lexer.specs.declared.token.Token.{Token}
use Rattle.c_tree.specs.declared.tree.Item.{Item}
use Rattle.c_tree.specs.declared.tree.Program.{Program}
use Rattle.c_tree.specs.declared.fault.Wrong.{Wrong}
use Rattle.c_tree.specs.declared.fault.Wrong.TheVariants.{Unexpected, TooDeep}
use Rattle.c_tree.specs.declared.fault.ReadFault.{ReadFault}
use Rattle.c_tree.specs.declared.fault.ReadFault.TheVariants as read
use Rattle.c_tree.specs.Said.{Kind, Said}
use Rattle.c_tree.specs.Tokens.{Source, kind_at, name_of}
use Rattle.c_tree.specs.Reading.{Stops, Only, Begins, Counts, GoesOn, Refuses, ReadsAt, RefusesAt, kinds_of, from}
use Rattle.c_tree.proofs.Parts.{seq, seq_joined, TurnIf, Least, Joined}
use Rattle.c_tree.proofs.Places.{joined_at, first_refused_at, second_refused_at, turn_if_at, turn_if_refused_at}
use Rattle.c_tree.proofs.Choices.{quiet_parted}
use Rattle.c_parser.specs.declared.fault.ParseFault.{ParseFault}
use Rattle.c_parser.specs.Faults.{kind_of, fault_of}
use Rattle.c_parser.specs.Flagged.{AnswersFlagged}
use Rattle.c_parser.specs.Program.{Written, written_said, program_said, items_of, IsOnlyProgram, ended, BeginsProgram, IsFirstWrong, IsFaultOf, AnswersProgram}
use Rattle.c_parser.proofs.Vars.{is_base}
use Rattle.c_parser.proofs.Flags.{counts_within}
use Rattle.c_parser.proofs.Items.{item_quiet, item_head}

-- ---- one item more
abbrev cons_of : Written × List Written → List Written
cons_of x = x.0 ∷ x.1

abbrev one_more : Written × List Written → Said
one_more = seq written_said program_said

program_least : Least program_said
program_least = record { tree = []; flat = refl; nearest = refl }

more_joined : Joined written_said program_said one_more
more_joined = seq_joined written_said program_said (quiet_parted written_said program_said item_quiet) program_least

base_some : (a : Kind) → is_base a ≡ true → is_some a ≡ true
base_some None e = absurd (cc)
base_some (Some k) e = refl

stopped : (r : List Kind) (a : Kind) (more : List Kind) → r ≡ a ∷ more → is_some a ≡ true → Stops (program_said []) r → ⊥
stopped [] a more e passes h = h
stopped (x ∷ r) a more e passes h = let is : x ≡ a = cc in let fails : is_some a ≡ false = subst (λ a. is_some a ≡ false) is h in cc

cons_turned : (t : List Written) (r : List Kind) (a : Kind) (more : List Kind) → (program_said t).kinds ++ r ≡ a ∷ more → is_some a ≡ true → Stops (program_said t) r → (x : Written × List Written) × (t ≡ cons_of x)
cons_turned [] r a more e passes h = absurd (stopped r a more e passes h)
cons_turned (x ∷ xs) r a more e passes h = ((x, xs), refl)

cons_turn : TurnIf one_more program_said cons_of is_some
cons_turn = record {
  same = λ x. refl;
  turn = cons_turned;
  begins = λ x. let h = item_head x.0 in (h.0, (h.1.0 ++ (program_said x.1).kinds, ap (λ w. w ++ (program_said x.1).kinds) h.1.1, base_some h.0 h.1.2));
}

end_only : Only program_said []
end_only [] r r' e h h' n = (e, λ stood at p p'. refl)
end_only (x ∷ xs) r r' e h h' n =
    let b = item_head x in
    absurd (stopped r b.0 ((b.1.0 ++ (program_said xs).kinds) ++ r') (e ∙ ap (λ w. (w ++ (program_said xs).kinds) ++ r') b.1.1) (base_some b.0 b.1.2) h)

-- ---- the end
ended_from : (s : Source) (at : ℕ) → length s.tokens ≤ at → from s.tokens at ≡ None ∷ []
ended_from s at h = ap (λ w. kinds_of w ++ None ∷ []) (drop_all at s.tokens h)

end_at : (s : Source) (at room : ℕ) → at ≤ length s.tokens → length s.tokens ≤ at → ReadsAt program_said s at room [] at
end_at s at room inside over = record {
  reads = record { spelled = refl; within = omega arith; nearest = refl; stops = subst (Stops (program_said [])) (sym (ended_from s at over)) refl; only = end_only };
  inside = inside;
  place = omega arith;
  placed = tt;
}

inside_some : (s : Source) (at : ℕ) → at < length s.tokens → is_some (kind_at s.tokens at) ≡ true
inside_some s at inside =
    elim (slice_get_cases s.tokens at).1 as (λ _. is_some (kind_at s.tokens at) ≡ true) [
      | inl h ↦ ap (λ o. is_some (option_map (λ (t : Token). t.kind) o)) h.2
      | inr h ↦ absurd (let over = h.0 in omega arith)
    ]

-- ---- at a place of the tokens
program_at : (s : Source) (at middle room : ℕ) (x : Written) → ReadsAt written_said s at room x middle → (xs : List Written) (n : ℕ) → ReadsAt program_said s middle room xs n → ReadsAt program_said s at room (x ∷ xs) n
program_at s at middle room x r xs n t = turn_if_at one_more program_said cons_of is_some cons_turn s at n room (x, xs) (joined_at written_said program_said one_more more_joined s at middle n room x xs r t)

pub item_refused : (s : Source) (at room token : ℕ) (why : Wrong) → at < length s.tokens → RefusesAt written_said s at room token why → RefusesAt program_said s at room token why
item_refused s at room token why inside r = turn_if_refused_at one_more program_said cons_of is_some cons_turn s at room token why (inside_some s at inside) (first_refused_at written_said program_said one_more more_joined s at room token why r)

later_refused : (s : Source) (at middle room : ℕ) (x : Written) → at < length s.tokens → ReadsAt written_said s at room x middle → (token : ℕ) (why : Wrong) → RefusesAt program_said s middle room token why → RefusesAt program_said s at room token why
later_refused s at middle room x inside r token why t = turn_if_refused_at one_more program_said cons_of is_some cons_turn s at room token why (inside_some s at inside) (second_refused_at written_said program_said one_more more_joined s at middle room x token why r t)

-- an item takes a token
pub item_advances : (s : Source) (at next room : ℕ) (x : Written) → ReadsAt written_said s at room x next → at + 1 ≤ next
item_advances s at next room x r =
    let h = item_head x in
    let n = ap length h.1.1 in
    let place = r.place in
    omega arith

-- ---- the items that were read so far: whatever stands from `next` on completes them
pub record ReadSoFar (s : Source) (room next : ℕ) (items : List Item) : Type 0 where
  pub front : List Written
  pub items_are : items_of front ≡ items
  pub reads : (xs : List Written) (n : ℕ) → ReadsAt program_said s next room xs n → ReadsAt program_said s 0 room (front ++ xs) n
  pub refuses : (token : ℕ) (why : Wrong) → RefusesAt program_said s next room token why → RefusesAt program_said s 0 room token why

pub none_so_far : (s : Source) (room : ℕ) (items : List Item) → items ≡ [] → ReadSoFar s room 0 items
none_so_far s room items is = record { front = []; items_are = sym is; reads = λ xs n r. r; refuses = λ token why r. r }

pub one_further : (s : Source) (room at next : ℕ) (items grown : List Item) (flag : Bool) (x : Item) → ReadSoFar s room at items → at < length s.tokens → ReadsAt written_said s at room (flag, x) next → grown ≡ items ++ x ∷ [] → ReadSoFar s room next grown
one_further s room at next items grown flag x so_far inside r is = record {
  front = so_far.front ++ (flag, x) ∷ [];
  items_are = map-append (λ (x : Written). x.1) so_far.front ((flag, x) ∷ []) ∙ ap (λ w. w ++ x ∷ []) so_far.items_are ∙ sym is;
  reads = λ xs n t. subst (λ ys. ReadsAt program_said s 0 room ys n) (sym (append_assoc so_far.front ((flag, x) ∷ []) xs)) (so_far.reads ((flag, x) ∷ xs) n (program_at s at next room (flag, x) r xs n t));
  refuses = λ token why t. so_far.refuses token why (later_refused s at next room (flag, x) inside r token why t);
}

pub all_read : (s : Source) (room next : ℕ) (items : List Item) → ReadSoFar s room next items → next ≤ length s.tokens → length s.tokens ≤ next → AnswersProgram s room (Ok items)
all_read s room next items so_far inside over =
    let is : next ≡ length s.tokens = omega arith in
    let all = so_far.reads [] next (end_at s next room inside over) in
    (so_far.front, so_far.items_are, subst (ReadsAt program_said s 0 room so_far.front) is (subst (λ xs. ReadsAt program_said s 0 room xs next) (append-nil so_far.front) all))

item_fault : (s : Source) (room at : ℕ) (items : List Item) → ReadSoFar s room at items → at < length s.tokens → (e : ReadFault) → AnswersFlagged written_said s at room (Err e) → AnswersProgram s room (Err e)
item_fault s room at items so_far inside (read.At token why) a = so_far.refuses token why (item_refused s at room token why inside a)
item_fault s room at items so_far inside read.NoMemory a = tt

-- what an item refuses, the program refuses there
pub handed_up : (s : Source) (room at : ℕ) (items : List Item) → ReadSoFar s room at items → at < length s.tokens → (e : ReadFault) → AnswersFlagged written_said s at room (Err e) → (r : Result (List Item) ReadFault) → IsErrAnd r (λ x. x ≡ e) → AnswersProgram s room r
handed_up s room at items so_far inside e a (Ok x) is = absurd is
handed_up s room at items so_far inside e a (Err x) is = subst (λ x. AnswersProgram s room (Err x)) (sym is) (item_fault s room at items so_far inside e a)

-- ---- whole programs
begins_program : (room : ℕ) (front : List Kind) → Begins program_said room front → BeginsProgram room front
begins_program room front b = record {
  written = b.tree;
  more = b.more ++ None ∷ [];
  spelled = ap ended b.spelled ∙ append_assoc front b.more (None ∷ []);
  nearest = b.nearest;
  within = b.within;
}

-- a program stops at the end alone
program_goes : (xs : List Written) (a : Kind) → (program_said xs).goes_on a ≡ is_some a
program_goes [] a = refl
program_goes (x ∷ xs) a = program_goes xs a

none_goes_on : (kinds : List Kind) (room : ℕ) (front : List Kind) (bad : Kind) (why : Wrong) → Refuses program_said (ended kinds) 200 front bad why → ((levels : ℕ) → levels ≤ room → Counts why 200 levels) → BeginsProgram room (front ++ bad ∷ []) → ⊥
none_goes_on kinds room front bad why r counts b =
    r.none b.written (None ∷ []) b.more (b.spelled ∙ append_assoc front (bad ∷ []) b.more) (program_goes b.written None) b.nearest (counts (program_said b.written).levels b.within)

deep_program : (why : Wrong) (front : List Kind) → GoesOn why program_said front → kind_of why ≡ kind.TooDeep → (room : ℕ) × BeginsProgram room front
deep_program Unexpected front g e = absurd (cc)
deep_program TooDeep front g e = (g.0, begins_program g.0 front g.1)

-- an Unexpected speaks of programs of whatever levels
unexpected_counts : (why : Wrong) → kind_of why ≡ kind.Unexpected → (levels : ℕ) → Counts why 200 levels
unexpected_counts Unexpected e levels = tt
unexpected_counts TooDeep e levels = absurd (cc)

named_so : (why : Wrong) → (kind_of why ≡ kind.TooDeep) ⊎ (kind_of why ≡ kind.Unexpected)
named_so Unexpected = inr refl
named_so TooDeep = inl refl

first_wrong : (s : Source) (token : ℕ) (why : Wrong) → RefusesAt program_said s 0 200 token why → IsFirstWrong (kinds_of s.tokens) token (kind_of why)
first_wrong s token why r =
    let q = r.refuses in
    let kinds = kinds_of s.tokens in
    let stands : ended kinds ≡ r.front ++ r.bad ∷ q.rest = q.stands in
    let is : token ≡ length r.front = (let place = r.place in omega arith) in
    let before : take token (ended kinds) ≡ r.front = ap (λ n. take n (ended kinds)) is ∙ ap (take (length r.front)) stands ∙ take-append_seam r.front (r.bad ∷ q.rest) in
    let here : take (token + 1) (ended kinds) ≡ r.front ++ r.bad ∷ [] = ap (λ n. take (n + 1) (ended kinds)) is ∙ ap (take (length r.front + 1)) stands ∙ take-append-add r.front (r.bad ∷ q.rest) 1 in
    record {
      inside = (let n = ap length stands in let a = length-append kinds (None ∷ []) in let b = length-append r.front (r.bad ∷ q.rest) in omega arith);
      before = subst (BeginsProgram 200) (sym before) (begins_program 200 r.front q.some);
      none = λ b. none_goes_on kinds 200 r.front r.bad why q (counts_within why 200) (subst (BeginsProgram 200) here b);
      deep = λ e. subst (λ w. (room : ℕ) × BeginsProgram room w) (sym here) (deep_program why (r.front ++ r.bad ∷ []) q.deep e);
      flat = λ e room b. none_goes_on kinds room r.front r.bad why q (λ levels h. unexpected_counts why e levels) (subst (BeginsProgram room) here b);
      named = named_so why;
    }

pub whole_program : (s : Source) (items : List Item) → AnswersProgram s 200 (Ok items) → IsOnlyProgram s (record { items = items })
whole_program s items a =
    let written = a.0 in
    let r = a.2 in
    let q = r.reads in
    let kinds = kinds_of s.tokens in
    let rest : from s.tokens (length s.tokens) ≡ None ∷ [] = ended_from s (length s.tokens) (omega arith) in
    let all : ended kinds ≡ ended (program_said written).kinds = q.spelled ∙ ap (λ w. (program_said written).kinds ++ w) rest in
    let here : (program_said written).kinds ≡ kinds = sym (append_cancel_right kinds (program_said written).kinds (None ∷ []) all) in
    record {
      written = written;
      items_are = a.1;
      is = record { spelled = here; nearest = q.nearest; placed = r.placed };
      within = q.within;
      only = λ other o.
          let z = o.is in
          let ends = subst (Stops (program_said written)) rest q.stops in
          let same = q.only o.written (None ∷ []) (None ∷ []) (ap ended (here ∙ sym z.spelled)) ends (program_goes o.written None) z.nearest in
          sym o.items_are ∙ ap items_of (sym (same.1 (name_of s) 0 r.placed z.placed)) ∙ a.1;
    }

whole_fault : (s : Source) (e : ReadFault) → AnswersProgram s 200 (Err e) → IsFaultOf s.tokens (fault_of e)
whole_fault s (read.At token why) a = first_wrong s token why a
whole_fault s read.NoMemory a = tt

-- a fault of the items is that of the parser
pub whole_handed : (s : Source) (e : ReadFault) → AnswersProgram s 200 (Err e) → (r : Result Program ParseFault) → IsErrAnd r (λ x. x ≡ fault_of e) → IfErr r (λ x. IsFaultOf s.tokens x)
whole_handed s e a (Ok x) is = absurd is
whole_handed s e a (Err x) is = subst (IsFaultOf s.tokens) (sym is) (whole_fault s e a)
