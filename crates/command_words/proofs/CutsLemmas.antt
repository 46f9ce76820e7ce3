-- The words are cut by the relation as the code cuts them.
use Rattle.std.proofs.Common.{◌≡◌, ◌≢◌, ℕ, Bool, true, false, List, [], ◌∷◌, ◌++◌, Option, Some, None, codes, cond, Contains, option_map, unwrap_or, subst, ap, refl, sym, ◌∙◌}
use Rattle.command_words.specs.Words.{GivenOption, given, is_dashed, Cuts}
use Rattle.command_words.specs.Words as words
use Rattle.command_words.specs.CutWords.{Cut, Kind, Next, any, value_for, only_plain, kind_of, kind_behind, behind_dashes, with_option, with_plain, cut_kind, cut_from, nothing}
use Rattle.command_words.specs.CutWords as kinds
use Rattle.command_words.proofs.KindLemmas.{KindIs, kind_is, joined_is, alone_is}

-- a cut
abbrev pub cut : List GivenOption → List (List ℕ) → Cut
cut options plain = record { options = options; plain = plain }

-- behind `--` each word is plain
pub all_plain : (ws : List (List ℕ)) → cut_from ws only_plain ≡ Some (cut [] ws)
all_plain [] = refl
all_plain (w ∷ ws) = ap (with_plain w) (all_plain ws)

plain_kind : (word : List ℕ) → is_dashed word ≡ false → kind_of word ≡ Some kinds.plain
plain_kind word e = ap (λ t. cond t (option_map kind_behind (behind_dashes word)) (Some kinds.plain)) e

joined_kind : (word name value : List ℕ) → word ≡ codes "--" ++ (name ++ (codes "=" ++ value)) → (Contains name 61 → ⊥) → kind_of word ≡ Some (kinds.joined name value)
joined_kind word name value e none = ap kind_of e ∙ ap Some (joined_is name value (name ++ 61 ∷ value) none refl)

alone_kind : (word name : List ℕ) → word ≡ codes "--" ++ name → name ≢ [] → (Contains name 61 → ⊥) → kind_of word ≡ Some (kinds.alone name)
alone_kind word name e some none = ap kind_of e ∙ ap Some (alone_is name some none)

rest_kind : (word : List ℕ) → word ≡ codes "--" → kind_of word ≡ Some kinds.rest
rest_kind word e = ap kind_of e

pub cut_of : {ws : List (List ℕ)} {options : List GivenOption} {plain : List (List ℕ)} → Cuts ws options plain → cut_from ws any ≡ Some (cut options plain)
cut_of words.none = refl
cut_of (words.plain {word = w} {words = ws} dashed more) = ap (λ k. cut_kind w k (cut_from ws)) (plain_kind w dashed) ∙ ap (with_plain w) (cut_of more)
cut_of (words.joined {word = w} {words = ws} name value is none more) = ap (λ k. cut_kind w k (cut_from ws)) (joined_kind w name value is none) ∙ ap (with_option name value) (cut_of more)
cut_of (words.apart {word = w} {value = v} {words = ws} name is some none dashed more) =
    ap (λ k. cut_kind w k (cut_from (v ∷ ws))) (alone_kind w name is some none)
    ∙ (ap (λ t. cond t None (with_option name v (cut_from ws any))) dashed ∙ ap (with_option name v) (cut_of more))
cut_of (words.rest {word = w} {words = ws} is) = ap (λ k. cut_kind w k (cut_from ws)) (rest_kind w is) ∙ all_plain ws

-- the words begin with the value of an option, and the others are cut
record IsValue (ws : List (List ℕ)) (name : List ℕ) (c : Cut) : Type 0 where
  value : List ℕ
  others : List (List ℕ)
  options : List GivenOption
  words_are : ws ≡ value ∷ others
  dashed : is_dashed value ≡ false
  options_are : c.options ≡ given name value ∷ options
  cuts : Cuts others options c.plain

plain_more : (w : List ℕ) (ws : List (List ℕ)) (c : Cut) (o : Option Cut) → is_dashed w ≡ false → ((d : Cut) → o ≡ Some d → Cuts ws d.options d.plain) → with_plain w o ≡ Some c → Cuts (w ∷ ws) c.options c.plain
plain_more w ws c None dashed more e = absurd cc
plain_more w ws c (Some d) dashed more e =
    let same : cut d.options (w ∷ d.plain) ≡ c = ap (λ o. unwrap_or o c) e in
    subst (λ x. Cuts (w ∷ ws) x.options x.plain) same (words.plain dashed (more d refl))

joined_more : (w name value : List ℕ) (ws : List (List ℕ)) (c : Cut) (o : Option Cut) → KindIs w (Some (kinds.joined name value)) → ((d : Cut) → o ≡ Some d → Cuts ws d.options d.plain) → with_option name value o ≡ Some c → Cuts (w ∷ ws) c.options c.plain
joined_more w name value ws c None is more e = absurd cc
joined_more w name value ws c (Some d) is more e =
    let same : cut (given name value ∷ d.options) d.plain ≡ c = ap (λ o. unwrap_or o c) e in
    subst (λ x. Cuts (w ∷ ws) x.options x.plain) same (words.joined name value is.0 is.1 (more d refl))

value_more : (w name : List ℕ) (ws : List (List ℕ)) (c : Cut) (o : Option Cut) → is_dashed w ≡ false → ((d : Cut) → o ≡ Some d → Cuts ws d.options d.plain) → with_option name w o ≡ Some c → IsValue (w ∷ ws) name c
value_more w name ws c None dashed more e = absurd cc
value_more w name ws c (Some d) dashed more e =
    let same : cut (given name w ∷ d.options) d.plain ≡ c = ap (λ o. unwrap_or o c) e in
    subst (IsValue (w ∷ ws) name) same (record { value = w; others = ws; options = d.options; words_are = refl; dashed = dashed; options_are = refl; cuts = more d refl })

alone_more : (w name : List ℕ) (ws : List (List ℕ)) (c : Cut) → KindIs w (Some (kinds.alone name)) → IsValue ws name c → Cuts (w ∷ ws) c.options c.plain
alone_more w name ws c is v =
    let one = words.apart {word = w} name is.0 is.1 is.2 v.dashed v.cuts in
    subst (λ l. Cuts (w ∷ l) c.options c.plain) (sym v.words_are) (subst (λ l. Cuts (w ∷ v.value ∷ v.others) l c.plain) (sym v.options_are) one)

rest_more : (w : List ℕ) (ws : List (List ℕ)) (c : Cut) → w ≡ codes "--" → cut_from ws only_plain ≡ Some c → Cuts (w ∷ ws) c.options c.plain
rest_more w ws c is e =
    let same : cut [] ws ≡ c = ap (λ o. unwrap_or o c) (sym (all_plain ws) ∙ e) in
    subst (λ x. Cuts (w ∷ ws) x.options x.plain) same (words.rest is)

-- what a word of this kind leaves
by_kind : (w : List ℕ) (ws : List (List ℕ)) (c : Cut) (k : Option Kind) → KindIs w k → ((d : Cut) → cut_from ws any ≡ Some d → Cuts ws d.options d.plain) → ((name : List ℕ) (d : Cut) → cut_from ws (value_for name) ≡ Some d → IsValue ws name d)
    → cut_kind w k (cut_from ws) ≡ Some c → Cuts (w ∷ ws) c.options c.plain
by_kind w ws c None is more value e = absurd cc
by_kind w ws c (Some kinds.plain) is more value e = plain_more w ws c (cut_from ws any) is more e
by_kind w ws c (Some kinds.rest) is more value e = rest_more w ws c is e
by_kind w ws c (Some (kinds.joined name v)) is more value e = joined_more w name v ws c (cut_from ws any) is more e
by_kind w ws c (Some (kinds.alone name)) is more value e = alone_more w name ws c is (value name c e)

by_value : (w name : List ℕ) (ws : List (List ℕ)) (c : Cut) (t : Bool) → is_dashed w ≡ t → ((d : Cut) → cut_from ws any ≡ Some d → Cuts ws d.options d.plain) → cond t None (with_option name w (cut_from ws any)) ≡ Some c → IsValue (w ∷ ws) name c
by_value w name ws c true is more e = absurd cc
by_value w name ws c false is more e = value_more w name ws c (cut_from ws any) is more e

both : (ws : List (List ℕ)) → ((c : Cut) → cut_from ws any ≡ Some c → Cuts ws c.options c.plain) × ((name : List ℕ) (c : Cut) → cut_from ws (value_for name) ≡ Some c → IsValue ws name c)
both [] = ((λ c e. subst (λ x. Cuts [] x.options x.plain) (ap (λ o. unwrap_or o c) e) words.none), (λ name c e. absurd cc))
both (w ∷ ws) =
    let ih = both ws in
    ((λ c e. by_kind w ws c (kind_of w) (kind_is w) ih.0 ih.1 e), (λ name c e. by_value w name ws c (is_dashed w) refl ih.0 e))

pub cuts_of : (ws : List (List ℕ)) (c : Cut) → cut_from ws any ≡ Some c → Cuts ws c.options c.plain
cuts_of ws = (both ws).0
