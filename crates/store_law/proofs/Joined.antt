-- The faults of a joined text are those of its texts, each behind those before it.
use Rattle.std.proofs.Common.{◌≡◌, ℕ, ◌+◌, ◌≤◌, ◌<◌, Bool, true, false, not, cond, List, [], ◌∷◌, ◌++◌, length, refl, sym, ap, ◌∙◌, arith, subst, append-nil, append_assoc, length-append, inl, inr}
use Rattle.std.specs.Prelude.{map, nat_lt, ◌==◌, Option, Some, None}
use Rattle.std.proofs.lemmas.Bool.Decides.{nat_tests}
use Rattle.std.proofs.lemmas.Grind.{flat_map-append}
use Rattle.std.proofs.lemmas.List.Concat.{flat_map-cons}
use Rattle.std.specs.List.{flat_map, onto_first}
use Rattle.graph_words.specs.Text.{words, is_skipped, is_label_word, is_vertex_word, distinct, said, third}
use Rattle.graph_words.proofs.SaidLemmas.{said_cons}
use Rattle.faults.specs.declared.kinds.InputKind.{InputKind}
use Rattle.faults.specs.declared.kinds.InputKind.TheVariants.{LineTooLong, TooLong, BadSource, BadDestination, BadLabel, TooManyLabels}
use Rattle.io_edge.specs.Lines.{is_line_feed, segments, line, lines, without_end}
use Rattle.io_edge.specs.FirstFault.{Fault, fault_or, line_fault, with_line, first_fault}
use Rattle.io_edge.proofs.SegmentLemmas.{segments-join}
use Rattle.edge_text.specs.EdgesText.{edge_fault, edges_fault}
use Rattle.graph_words.specs.declared.limits.TheConstants.{LONGEST_EDGES}
use Rattle.store_law.specs.Texts.{AreGoodBehind, AreGoodInTurn, ended, joined_behind, joined_text, with_next}

-- ---- a text with its line feed

-- what has a byte has one with its line feed
record Some' (xs : List ℕ) : Type 0 where
  pub first : ℕ
  pub rest : List ℕ
  pub is : xs ≡ first ∷ rest

ended_some : (b : ℕ) (bs : List ℕ) → Some' (ended (b ∷ bs))
ended_some b [] = go (b == 10) refl
  where
    go : (t : Bool) → (b == 10) ≡ t → Some' (cond (b == 10) (b ∷ []) (b ∷ 10 ∷ []))
    go true e = record { first = b; rest = []; is = ap (λ (t : Bool). cond t (b ∷ []) (b ∷ 10 ∷ [])) e }
    go false e = record { first = b; rest = 10 ∷ []; is = ap (λ (t : Bool). cond t (b ∷ []) (b ∷ 10 ∷ [])) e }
ended_some b (c ∷ bs) = record { first = b; rest = ended (c ∷ bs); is = refl }

-- the same bytes stand before the line feed
ended_bytes : (s : List ℕ) → without_end 10 (ended s) ≡ without_end 10 s
ended_bytes [] = refl
ended_bytes (b ∷ []) = go (b == 10) refl
  where
    go : (t : Bool) → (b == 10) ≡ t → without_end 10 (cond (b == 10) (b ∷ []) (b ∷ 10 ∷ [])) ≡ cond (b == 10) [] (b ∷ [])
    go true e = ap (λ (t : Bool). without_end 10 (cond t (b ∷ []) (b ∷ 10 ∷ []))) e
    go false e = ap (λ (t : Bool). without_end 10 (cond t (b ∷ []) (b ∷ 10 ∷ []))) e ∙ sym (ap (λ (t : Bool). cond t [] (b ∷ [])) e)
ended_bytes (b ∷ c ∷ bs) =
    let n = ended_some c bs in
    ap (λ (xs : List ℕ). without_end 10 (b ∷ xs)) n.is ∙ ap (λ (xs : List ℕ). b ∷ without_end 10 xs) (sym n.is) ∙ ap (λ (xs : List ℕ). b ∷ xs) (ended_bytes (c ∷ bs))

ended_line : (s : List ℕ) → line (ended s) ≡ line s
ended_line s = ap (λ (xs : List ℕ). without_end 13 xs) (ended_bytes s)

ended_longer : (s : List ℕ) → length s ≤ length (ended s)
ended_longer [] = omega arith
ended_longer (b ∷ []) = go (b == 10) refl
  where
    go : (t : Bool) → (b == 10) ≡ t → 1 ≤ length (cond (b == 10) (b ∷ []) (b ∷ 10 ∷ []))
    go true e = rw e (omega arith)
    go false e = rw e (omega arith)
ended_longer (b ∷ c ∷ bs) = omega (arith, ended_longer (c ∷ bs))

-- the last segment with its line feed
abbrev end_last : List (List ℕ) → List (List ℕ)
end_last [] = []
end_last (s ∷ []) = ended s ∷ []
end_last (s ∷ t ∷ ss) = s ∷ end_last (t ∷ ss)

-- a text that isn't empty has a first segment, which isn't empty
record Segments (text : List ℕ) : Type 0 where
  pub byte : ℕ
  pub bytes : List ℕ
  pub others : List (List ℕ)
  pub are : segments text ≡ (byte ∷ bytes) ∷ others

some_segments : (b : ℕ) (bs : List ℕ) → Segments (b ∷ bs)
some_segments b bs = go (is_line_feed b) refl
  where
    onto : (parts : List (List ℕ)) → is_line_feed b ≡ false → segments bs ≡ parts → Segments (b ∷ bs)
    onto [] e p = record { byte = b; bytes = []; others = []; are = ap (λ (t : Bool). cond t ((b ∷ []) ∷ segments bs) (onto_first b (segments bs))) e ∙ ap (onto_first b) p }
    onto (s ∷ ss) e p = record { byte = b; bytes = s; others = ss; are = ap (λ (t : Bool). cond t ((b ∷ []) ∷ segments bs) (onto_first b (segments bs))) e ∙ ap (onto_first b) p }

    go : (t : Bool) → is_line_feed b ≡ t → Segments (b ∷ bs)
    go true e = record { byte = b; bytes = []; others = segments bs; are = ap (λ (t : Bool). cond t ((b ∷ []) ∷ segments bs) (onto_first b (segments bs))) e }
    go false e = onto (segments bs) e refl

-- a segment in front of the others
end_behind : (s : List ℕ) (text : List ℕ) → Segments text → end_last (s ∷ segments text) ≡ s ∷ end_last (segments text)
end_behind s text n = ap (λ (ss : List (List ℕ)). end_last (s ∷ ss)) n.are ∙ ap (λ (ss : List (List ℕ)). s ∷ end_last ss) (sym n.are)

-- a byte in front of the first
end_onto : (b x : ℕ) (xs : List ℕ) (ss ts : List (List ℕ)) → onto_first b (end_last ((x ∷ xs) ∷ ss) ++ ts) ≡ end_last ((b ∷ x ∷ xs) ∷ ss) ++ ts
end_onto b x xs [] ts = refl
end_onto b x xs (s ∷ ss) ts = refl

-- one byte
one_joined : (b : ℕ) (next : List ℕ) → segments (ended (b ∷ []) ++ next) ≡ end_last (segments (b ∷ [])) ++ segments next
one_joined b next = go (b == 10) refl
  where
    go : (t : Bool) → (b == 10) ≡ t → segments (cond (b == 10) (b ∷ []) (b ∷ 10 ∷ []) ++ next) ≡ end_last (cond (b == 10) ((b ∷ []) ∷ []) ((b ∷ []) ∷ [])) ++ segments next
    go true e =
        ap (λ (t : Bool). segments (cond t (b ∷ []) (b ∷ 10 ∷ []) ++ next)) e
        ∙ ap (λ (t : Bool). cond t ((b ∷ []) ∷ segments next) (onto_first b (segments next))) e
        ∙ sym (ap (λ (t : Bool). cond t (b ∷ []) (b ∷ 10 ∷ []) ∷ segments next) e)
        ∙ sym (ap (λ (t : Bool). end_last (cond t ((b ∷ []) ∷ []) ((b ∷ []) ∷ [])) ++ segments next) e)
    go false e =
        ap (λ (t : Bool). segments (cond t (b ∷ []) (b ∷ 10 ∷ []) ++ next)) e
        ∙ ap (λ (t : Bool). cond t ((b ∷ []) ∷ (10 ∷ []) ∷ segments next) ((b ∷ 10 ∷ []) ∷ segments next)) e
        ∙ sym (ap (λ (t : Bool). cond t (b ∷ []) (b ∷ 10 ∷ []) ∷ segments next) e)
        ∙ sym (ap (λ (t : Bool). end_last (cond t ((b ∷ []) ∷ []) ((b ∷ []) ∷ [])) ++ segments next) e)

-- and a byte in front of a text
more_joined : (b c : ℕ) (bs next : List ℕ) → segments (ended (c ∷ bs) ++ next) ≡ end_last (segments (c ∷ bs)) ++ segments next → segments (ended (b ∷ c ∷ bs) ++ next) ≡ end_last (segments (b ∷ c ∷ bs)) ++ segments next
more_joined b c bs next ih = go (is_line_feed b) refl
  where
    n : Segments (c ∷ bs)
    n = some_segments c bs

    both : Bool → Type 0
    both t = cond t ((b ∷ []) ∷ segments (ended (c ∷ bs) ++ next)) (onto_first b (segments (ended (c ∷ bs) ++ next))) ≡ end_last (cond t ((b ∷ []) ∷ segments (c ∷ bs)) (onto_first b (segments (c ∷ bs)))) ++ segments next

    go : (t : Bool) → is_line_feed b ≡ t → both (is_line_feed b)
    go true e = subst both (sym e) (ap (λ (ss : List (List ℕ)). (b ∷ []) ∷ ss) ih ∙ ap (λ (ss : List (List ℕ)). ss ++ segments next) (sym (end_behind (b ∷ []) (c ∷ bs) n)))
    go false e =
        subst both (sym e)
        (ap (onto_first b) ih
        ∙ ap (λ (ss : List (List ℕ)). onto_first b (end_last ss ++ segments next)) n.are
        ∙ end_onto b n.byte n.bytes n.others (segments next)
        ∙ ap (λ (ss : List (List ℕ)). end_last (onto_first b ss) ++ segments next) (sym n.are))

-- a text with its line feed, and another behind it
joined_segments : (text next : List ℕ) → segments (ended text ++ next) ≡ end_last (segments text) ++ segments next
joined_segments [] next = refl
joined_segments (b ∷ []) next = one_joined b next
joined_segments (b ∷ c ∷ bs) next = more_joined b c bs next (joined_segments (c ∷ bs) next)

-- ---- segments without a fault, whatever their numbers

abbrev Clean : List (List ℕ) → ℕ → List (List (List ℕ)) → List (List ℕ) → Type 0
Clean names at before [] = Unit {0}
Clean names at before (s ∷ ss) = (line_fault LONGEST_EDGES (edge_fault names) before (at + length s) s ≡ None) × Clean names (at + length s) (with_line before s) ss

parts_none : (n : ℕ) (k : Option InputKind) (rest : Option Fault) → fault_or n k rest ≡ None → (k ≡ None) × (rest ≡ None)
parts_none n None rest h = (refl, h)
parts_none n (Some kind) rest h = absurd (cc)

clean : (names : List (List ℕ)) (n at : ℕ) (before : List (List (List ℕ))) (ss : List (List ℕ)) → first_fault LONGEST_EDGES (edge_fault names) n at before ss ≡ None → Clean names at before ss
clean names n at before [] none = tt
clean names n at before (s ∷ ss) none =
    let p = parts_none n (line_fault LONGEST_EDGES (edge_fault names) before (at + length s) s) (first_fault LONGEST_EDGES (edge_fault names) (n + 1) (at + length s) (with_line before s) ss) none in
    (p.0, clean names (n + 1) (at + length s) (with_line before s) ss p.1)

unclean : (names : List (List ℕ)) (n at : ℕ) (before : List (List (List ℕ))) (ss : List (List ℕ)) → Clean names at before ss → first_fault LONGEST_EDGES (edge_fault names) n at before ss ≡ None
unclean names n at before [] c = refl
unclean names n at before (s ∷ ss) c =
    ap (λ (k : Option InputKind). fault_or n k (first_fault LONGEST_EDGES (edge_fault names) (n + 1) (at + length s) (with_line before s) ss)) c.0
    ∙ unclean names (n + 1) (at + length s) (with_line before s) ss c.1

-- where segments end, and what their lines said
abbrev ends : ℕ → List (List ℕ) → ℕ
ends at [] = at
ends at (s ∷ ss) = ends (at + length s) ss

abbrev behind : List (List (List ℕ)) → List (List ℕ) → List (List (List ℕ))
behind before [] = before
behind before (s ∷ ss) = behind (with_line before s) ss

ends_sum : (at : ℕ) (ss : List (List ℕ)) → ends at ss ≡ at + length (flat_map (λ (s : List ℕ). s) ss)
ends_sum at [] = omega arith
ends_sum at (s ∷ ss) = ends_sum (at + length s) ss ∙ omega (arith, ap length (flat_map-cons (λ (s : List ℕ). s) s ss), length-append s (flat_map (λ (s : List ℕ). s) ss))

behind_said : (before : List (List (List ℕ))) (ss : List (List ℕ)) → behind before ss ≡ before ++ said (map line ss)
behind_said before [] = sym (append-nil before)
behind_said before (s ∷ ss) = behind_said (with_line before s) ss ∙ sym (said_cons (map line ss) (line s) before)

clean_both : (names : List (List ℕ)) (at : ℕ) (before : List (List (List ℕ))) (xs ts : List (List ℕ)) → Clean names at before xs → Clean names (ends at xs) (behind before xs) ts → Clean names at before (xs ++ ts)
clean_both names at before [] ts a b = b
clean_both names at before (s ∷ xs) ts a b = (a.0, clean_both names (at + length s) (with_line before s) xs ts a.1 b)

clean_first : (names : List (List ℕ)) (at : ℕ) (before : List (List (List ℕ))) (xs ts : List (List ℕ)) → Clean names at before (xs ++ ts) → Clean names at before xs
clean_first names at before [] ts c = tt
clean_first names at before (s ∷ xs) ts c = (c.0, clean_first names (at + length s) (with_line before s) xs ts c.1)

clean_second : (names : List (List ℕ)) (at : ℕ) (before : List (List (List ℕ))) (xs ts : List (List ℕ)) → Clean names at before (xs ++ ts) → Clean names (ends at xs) (behind before xs) ts
clean_second names at before [] ts c = c
clean_second names at before (s ∷ xs) ts c = clean_second names (at + length s) (with_line before s) xs ts c.1

-- ---- names that were said before count as names that were given
edge_moved : (names : List (List ℕ)) (front before : List (List (List ℕ))) (ws : List (List ℕ)) → edge_fault names (front ++ before) ws ≡ edge_fault (names ++ flat_map third front) before ws
edge_moved names front before [] = refl
edge_moved names front before (a ∷ []) = refl
edge_moved names front before (a ∷ b ∷ []) = refl
edge_moved names front before (a ∷ b ∷ c ∷ []) =
    ap (λ (l : List (List ℕ)). cond (not (is_vertex_word a)) (Some BadSource) (cond (not (is_vertex_word b)) (Some BadDestination) (cond (not (is_label_word c)) (Some BadLabel) (cond (nat_lt 1000 (length (distinct (l ++ c ∷ [])))) (Some TooManyLabels) None))))
    (ap (λ (l : List (List ℕ)). names ++ l) (flat_map-append third front before) ∙ sym (append_assoc names (flat_map third front) (flat_map third before)))
edge_moved names front before (a ∷ b ∷ c ∷ d ∷ ws) = refl

line_moved : (names : List (List ℕ)) (front before : List (List (List ℕ))) (end : ℕ) (s : List ℕ) → line_fault LONGEST_EDGES (edge_fault names) (front ++ before) end s ≡ line_fault LONGEST_EDGES (edge_fault (names ++ flat_map third front)) before end s
line_moved names front before end s =
    ap (λ (k : Option InputKind). cond (nat_lt 4096 (length (without_end 10 s))) (Some LineTooLong) (cond (nat_lt LONGEST_EDGES end) (Some TooLong) (cond (is_skipped (words (line s))) None k))) (edge_moved names front before (words (line s)))

with_moved : (front before : List (List (List ℕ))) (s : List ℕ) → with_line (front ++ before) s ≡ front ++ with_line before s
with_moved front before s = go (is_skipped (words (line s))) refl
  where
    go : (t : Bool) → is_skipped (words (line s)) ≡ t → cond (is_skipped (words (line s))) (front ++ before) ((front ++ before) ++ words (line s) ∷ []) ≡ front ++ cond (is_skipped (words (line s))) before (before ++ words (line s) ∷ [])
    go true e = rw e refl
    go false e = rw e (append_assoc front before (words (line s) ∷ []))

clean_moved : (names : List (List ℕ)) (at : ℕ) (front before : List (List (List ℕ))) (ss : List (List ℕ)) → Clean names at (front ++ before) ss → Clean (names ++ flat_map third front) at before ss
clean_moved names at front before [] c = tt
clean_moved names at front before (s ∷ ss) c =
    (sym (line_moved names front before (at + length s) s) ∙ c.0, clean_moved names (at + length s) front (with_line before s) ss (subst (λ (b : List (List (List ℕ))). Clean names (at + length s) b ss) (with_moved front before s) c.1))

moved_clean : (names : List (List ℕ)) (at : ℕ) (front before : List (List (List ℕ))) (ss : List (List ℕ)) → Clean (names ++ flat_map third front) at before ss → Clean names at (front ++ before) ss
moved_clean names at front before [] c = tt
moved_clean names at front before (s ∷ ss) c =
    (line_moved names front before (at + length s) s ∙ c.0, subst (λ (b : List (List (List ℕ))). Clean names (at + length s) b ss) (sym (with_moved front before s)) (moved_clean names (at + length s) front (with_line before s) ss c.1))

-- ---- the line feed that is added changes no fault but that of a text which is too long with it
nearer : (long far far' skipped : Bool) (k : Option InputKind) → far' ≡ false → cond long (Some LineTooLong) (cond far (Some TooLong) (cond skipped None k)) ≡ None → cond long (Some LineTooLong) (cond far' (Some TooLong) (cond skipped None k)) ≡ None
nearer true far far' skipped k near none = absurd (cc)
nearer false true far' skipped k near none = absurd (cc)
nearer false false far' skipped k near none = ap (λ (t : Bool). cond t (Some TooLong) (cond skipped None k)) near ∙ none

within : (names : List (List ℕ)) (before : List (List (List ℕ))) (end : ℕ) (s : List ℕ) → line_fault LONGEST_EDGES (edge_fault names) before end s ≡ None → end ≤ LONGEST_EDGES
within names before end s none = go (nat_lt 4096 (length (without_end 10 s))) (nat_lt LONGEST_EDGES end) refl none
  where
    go : (long far : Bool) → nat_lt LONGEST_EDGES end ≡ far → cond long (Some LineTooLong) (cond far (Some TooLong) (cond (is_skipped (words (line s))) None (edge_fault names before (words (line s))))) ≡ None → end ≤ LONGEST_EDGES
    go true far e h = absurd (cc)
    go false true e h = absurd (cc)
    go false false e h = grind (arith, nat_tests, e)

-- the fault of a line, by its bytes before the line feed and its end
abbrev fault_by : List (List ℕ) → List (List (List ℕ)) → ℕ → List ℕ → Option InputKind
fault_by names before end bytes =
    cond (nat_lt 4096 (length bytes)) (Some LineTooLong) (cond (nat_lt LONGEST_EDGES end) (Some TooLong) (cond (is_skipped (words (without_end 13 bytes))) None (edge_fault names before (words (without_end 13 bytes)))))

same_but_end : (names : List (List ℕ)) (before : List (List (List ℕ))) (end end' : ℕ) (s : List ℕ) → end' ≤ LONGEST_EDGES → fault_by names before end (without_end 10 s) ≡ None → fault_by names before end' (without_end 10 s) ≡ None
same_but_end names before end end' s small none =
    nearer (nat_lt 4096 (length (without_end 10 s))) (nat_lt LONGEST_EDGES end) (nat_lt LONGEST_EDGES end') (is_skipped (words (line s))) (edge_fault names before (words (line s))) (grind (arith, nat_tests, small)) none

without_feed : (names : List (List ℕ)) (before : List (List (List ℕ))) (at : ℕ) (s : List ℕ) → line_fault LONGEST_EDGES (edge_fault names) before (at + length (ended s)) (ended s) ≡ None → line_fault LONGEST_EDGES (edge_fault names) before (at + length s) s ≡ None
without_feed names before at s none =
    let top = within names before (at + length (ended s)) (ended s) none in
    same_but_end names before (at + length (ended s)) (at + length s) s (omega (arith, top, ended_longer s)) (subst (λ (b : List ℕ). fault_by names before (at + length (ended s)) b ≡ None) (ended_bytes s) none)

with_feed : (names : List (List ℕ)) (before : List (List (List ℕ))) (at : ℕ) (s : List ℕ) → at + length (ended s) ≤ LONGEST_EDGES → line_fault LONGEST_EDGES (edge_fault names) before (at + length s) s ≡ None → line_fault LONGEST_EDGES (edge_fault names) before (at + length (ended s)) (ended s) ≡ None
with_feed names before at s top none =
    subst (λ (b : List ℕ). fault_by names before (at + length (ended s)) b ≡ None) (sym (ended_bytes s)) (same_but_end names before (at + length s) (at + length (ended s)) s top none)

clean_unended : (names : List (List ℕ)) (at : ℕ) (before : List (List (List ℕ))) (ss : List (List ℕ)) → Clean names at before (end_last ss) → Clean names at before ss
clean_unended names at before [] c = tt
clean_unended names at before (s ∷ []) c = (without_feed names before at s c.0, tt)
clean_unended names at before (s ∷ t ∷ ss) c = (c.0, clean_unended names (at + length s) (with_line before s) (t ∷ ss) c.1)

clean_ended : (names : List (List ℕ)) (at : ℕ) (before : List (List (List ℕ))) (ss : List (List ℕ)) → ends at (end_last ss) ≤ LONGEST_EDGES → Clean names at before ss → Clean names at before (end_last ss)
clean_ended names at before [] top c = tt
clean_ended names at before (s ∷ []) top c = (with_feed names before at s top c.0, tt)
clean_ended names at before (s ∷ t ∷ ss) top c = (c.0, clean_ended names (at + length s) (with_line before s) (t ∷ ss) top c.1)

with_ended : (before : List (List (List ℕ))) (s : List ℕ) → with_line before (ended s) ≡ with_line before s
with_ended before s = ap (λ (l : List ℕ). cond (is_skipped (words l)) before (before ++ words l ∷ [])) (ended_line s)

behind_ended : (before : List (List (List ℕ))) (ss : List (List ℕ)) → behind before (end_last ss) ≡ behind before ss
behind_ended before [] = refl
behind_ended before (s ∷ []) = with_ended before s
behind_ended before (s ∷ t ∷ ss) = behind_ended (with_line before s) (t ∷ ss)

-- ---- two texts

ended_end : (text : List ℕ) → ends 0 (end_last (segments text)) ≡ length (ended text)
ended_end text =
    let all : flat_map (λ (s : List ℕ). s) (end_last (segments text)) ≡ ended text =
    ap (flat_map (λ (s : List ℕ). s)) (sym (append-nil (end_last (segments text))) ∙ sym (joined_segments text [])) ∙ segments-join (ended text ++ []) ∙ append-nil (ended text) in
    omega (arith, ends_sum 0 (end_last (segments text)), ap length all)

said_ended : (text : List ℕ) → behind [] (end_last (segments text)) ≡ said (lines text)
said_ended text = behind_ended [] (segments text) ∙ behind_said [] (segments text)

-- what stands before the second text
abbrev second : List (List ℕ) → List ℕ → List (List ℕ) → Type 0
second names text ts = Clean (names ++ flat_map third (said (lines text))) (length (ended text)) [] ts

second_from : (names : List (List ℕ)) (text : List ℕ) (ts : List (List ℕ)) → Clean names (ends 0 (end_last (segments text))) (behind [] (end_last (segments text))) ts → second names text ts
second_from names text ts c =
    clean_moved names (length (ended text)) (said (lines text)) [] ts
    (subst (λ (b : List (List (List ℕ))). Clean names (length (ended text)) b ts) (said_ended text ∙ sym (append-nil (said (lines text)))) (subst (λ (n : ℕ). Clean names n (behind [] (end_last (segments text))) ts) (ended_end text) c))

second_to : (names : List (List ℕ)) (text : List ℕ) (ts : List (List ℕ)) → second names text ts → Clean names (ends 0 (end_last (segments text))) (behind [] (end_last (segments text))) ts
second_to names text ts c =
    subst (λ (n : ℕ). Clean names n (behind [] (end_last (segments text))) ts) (sym (ended_end text))
    (subst (λ (b : List (List (List ℕ))). Clean names (length (ended text)) b ts) (append-nil (said (lines text)) ∙ sym (said_ended text)) (moved_clean names (length (ended text)) (said (lines text)) [] ts c))

both_good : (names : List (List ℕ)) (text next : List ℕ) → edges_fault 0 names text ≡ None → edges_fault (length (ended text)) (names ++ flat_map third (said (lines text))) next ≡ None → edges_fault 0 names (with_next text next) ≡ None
both_good names text [] first last = first
both_good names text (b ∷ bs) first last =
    let n = some_segments b bs in
    let ts = segments (b ∷ bs) in
    let c : second names text ts = clean (names ++ flat_map third (said (lines text))) 1 (length (ended text)) [] ts last in
    let here : second names text ((n.byte ∷ n.bytes) ∷ n.others) = subst (λ (ss : List (List ℕ)). second names text ss) n.are c in
    let end = within (names ++ flat_map third (said (lines text))) [] (length (ended text) + length (n.byte ∷ n.bytes)) (n.byte ∷ n.bytes) here.0 in
    let top : ends 0 (end_last (segments text)) ≤ LONGEST_EDGES = omega (arith, ended_end text, end) in
    unclean names 1 0 [] (segments (ended text ++ b ∷ bs))
    (subst (λ (ss : List (List ℕ)). Clean names 0 [] ss) (sym (joined_segments text (b ∷ bs)))
    (clean_both names 0 [] (end_last (segments text)) ts (clean_ended names 0 [] (segments text) top (clean names 1 0 [] (segments text) first)) (second_to names text ts c)))

first_good : (names : List (List ℕ)) (text next : List ℕ) → edges_fault 0 names (with_next text next) ≡ None → edges_fault 0 names text ≡ None
first_good names text [] both = both
first_good names text (b ∷ bs) both =
    let c : Clean names 0 [] (end_last (segments text) ++ segments (b ∷ bs)) = subst (λ (ss : List (List ℕ)). Clean names 0 [] ss) (joined_segments text (b ∷ bs)) (clean names 1 0 [] (segments (ended text ++ b ∷ bs)) both) in
    unclean names 1 0 [] (segments text) (clean_unended names 0 [] (segments text) (clean_first names 0 [] (end_last (segments text)) (segments (b ∷ bs)) c))

next_good : (names : List (List ℕ)) (text next : List ℕ) → edges_fault 0 names (with_next text next) ≡ None → edges_fault (length (ended text)) (names ++ flat_map third (said (lines text))) next ≡ None
next_good names text [] both = refl
next_good names text (b ∷ bs) both =
    let c : Clean names 0 [] (end_last (segments text) ++ segments (b ∷ bs)) = subst (λ (ss : List (List ℕ)). Clean names 0 [] ss) (joined_segments text (b ∷ bs)) (clean names 1 0 [] (segments (ended text ++ b ∷ bs)) both) in
    unclean (names ++ flat_map third (said (lines text))) 1 (length (ended text)) [] (segments (b ∷ bs)) (second_from names text (segments (b ∷ bs)) (clean_second names 0 [] (end_last (segments text)) (segments (b ∷ bs)) c))

-- ---- all texts

behind_joined : (names : List (List ℕ)) (text : List ℕ) (rest : List (List ℕ)) → edges_fault 0 names text ≡ None → AreGoodBehind names text rest → edges_fault 0 names (joined_behind text rest) ≡ None
behind_joined names text [] first good = first
behind_joined names text (next ∷ rest) first good = behind_joined names (with_next text next) rest (both_good names text next first good.0) good.1

joined_first : (names : List (List ℕ)) (text : List ℕ) (rest : List (List ℕ)) → edges_fault 0 names (joined_behind text rest) ≡ None → edges_fault 0 names text ≡ None
joined_first names text [] all = all
joined_first names text (next ∷ rest) all = first_good names text next (joined_first names (with_next text next) rest all)

joined_rest : (names : List (List ℕ)) (text : List ℕ) (rest : List (List ℕ)) → edges_fault 0 names (joined_behind text rest) ≡ None → AreGoodBehind names text rest
joined_rest names text [] all = tt
joined_rest names text (next ∷ rest) all = (next_good names text next (joined_first names (with_next text next) rest all), joined_rest names (with_next text next) rest all)

pub joined_from_turns : (names : List (List ℕ)) (files : List (List ℕ)) → AreGoodInTurn names files → edges_fault 0 names (joined_text files) ≡ None
joined_from_turns names [] good = refl
joined_from_turns names (first ∷ rest) good = behind_joined names first rest good.0 good.1

pub turns_from_joined : (names : List (List ℕ)) (files : List (List ℕ)) → edges_fault 0 names (joined_text files) ≡ None → AreGoodInTurn names files
turns_from_joined names [] all = tt
turns_from_joined names (first ∷ rest) all = (joined_first names first rest all, joined_rest names first rest all)
