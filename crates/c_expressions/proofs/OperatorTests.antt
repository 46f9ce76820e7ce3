-- The operators by their tokens, and back.
use Rattle.std.proofs.Common.{◌≡◌, ◌∙◌, refl, sym, ap, false, true, Some, None}
use Rattle.std.specs.Prelude.{Option}
use Rattle.c_lexer.specs.declared.token.TokenKind.TheVariants as k
use Rattle.c_tree.specs.declared.tree.AddOp.{AddOp}
use Rattle.c_tree.specs.declared.tree.AddOp.TheVariants as add
use Rattle.c_tree.specs.declared.tree.CompareOp.{CompareOp}
use Rattle.c_tree.specs.declared.tree.CompareOp.TheVariants as compare
use Rattle.c_tree.specs.Said.{Kind}
use Rattle.c_tree.specs.Grammar.{is_open, is_add, is_compare, add_kind, compare_kind}
use Rattle.c_expressions.specs.Operators.{add_of, compare_of}

some_same : {T : Type 0} (x y : T) → Some x ≡ Some y → x ≡ y
some_same x y e = cc

-- what is no Some is None
pub no_some : {T : Type 0} (x : Option T) → ((t : T) → x ≡ Some t → ⊥) → x ≡ None
no_some None h = refl
no_some (Some t) h = absurd (h t refl)

add_back : (x : AddOp) → add_of (Some (add_kind x)) ≡ Some x
add_back add.Plus = refl
add_back add.Minus = refl

pub add_tells : (x y : AddOp) → add_kind x ≡ add_kind y → x ≡ y
add_tells x y e = some_same x y (sym (add_back x) ∙ ap (λ k. add_of (Some k)) e ∙ add_back y)

pub add_kind_is : (k : Kind) (op : AddOp) → add_of k ≡ Some op → k ≡ Some (add_kind op)
add_kind_is (Some k.Plus) op e = ap (λ o. Some (add_kind o)) (some_same add.Plus op e)
add_kind_is (Some k.Minus) op e = ap (λ o. Some (add_kind o)) (some_same add.Minus op e)
add_kind_is _ op e = absurd (cc)

pub no_add : (k : Kind) → add_of k ≡ None → is_add k ≡ false
no_add (Some k.Plus) e = absurd (cc)
no_add (Some k.Minus) e = absurd (cc)
no_add _ e = refl

pub is_add_kind : (op : AddOp) → is_add (Some (add_kind op)) ≡ true
is_add_kind add.Plus = refl
is_add_kind add.Minus = refl

compare_back : (x : CompareOp) → compare_of (Some (compare_kind x)) ≡ Some x
compare_back compare.Equal = refl
compare_back compare.NotEqual = refl
compare_back compare.Less = refl
compare_back compare.Greater = refl
compare_back compare.AtMost = refl
compare_back compare.AtLeast = refl

pub compare_tells : (x y : CompareOp) → compare_kind x ≡ compare_kind y → x ≡ y
compare_tells x y e = some_same x y (sym (compare_back x) ∙ ap (λ k. compare_of (Some k)) e ∙ compare_back y)

pub compare_kind_is : (k : Kind) (op : CompareOp) → compare_of k ≡ Some op → k ≡ Some (compare_kind op)
compare_kind_is (Some k.Equal) op e = ap (λ o. Some (compare_kind o)) (some_same compare.Equal op e)
compare_kind_is (Some k.NotEqual) op e = ap (λ o. Some (compare_kind o)) (some_same compare.NotEqual op e)
compare_kind_is (Some k.Less) op e = ap (λ o. Some (compare_kind o)) (some_same compare.Less op e)
compare_kind_is (Some k.Greater) op e = ap (λ o. Some (compare_kind o)) (some_same compare.Greater op e)
compare_kind_is (Some k.AtMost) op e = ap (λ o. Some (compare_kind o)) (some_same compare.AtMost op e)
compare_kind_is (Some k.AtLeast) op e = ap (λ o. Some (compare_kind o)) (some_same compare.AtLeast op e)
compare_kind_is _ op e = absurd (cc)

pub no_compare : (k : Kind) → compare_of k ≡ None → is_compare k ≡ false
no_compare (Some k.Equal) e = absurd (cc)
no_compare (Some k.NotEqual) e = absurd (cc)
no_compare (Some k.Less) e = absurd (cc)
no_compare (Some k.Greater) e = absurd (cc)
no_compare (Some k.AtMost) e = absurd (cc)
no_compare (Some k.AtLeast) e = absurd (cc)
no_compare _ e = refl

pub is_compare_kind : (op : CompareOp) → is_compare (Some (compare_kind op)) ≡ true
is_compare_kind compare.Equal = refl
is_compare_kind compare.NotEqual = refl
is_compare_kind compare.Less = refl
is_compare_kind compare.Greater = refl
is_compare_kind compare.AtMost = refl
is_compare_kind compare.AtLeast = refl

pub compare_no_add : (k : Kind) → is_compare k ≡ true → is_add k ≡ false
compare_no_add (Some k.Plus) e = absurd (cc)
compare_no_add (Some k.Minus) e = absurd (cc)
compare_no_add _ e = refl

pub compare_no_open : (op : CompareOp) → is_open (Some (compare_kind op)) ≡ false
compare_no_open compare.Equal = refl
compare_no_open compare.NotEqual = refl
compare_no_open compare.Less = refl
compare_no_open compare.Greater = refl
compare_no_open compare.AtMost = refl
compare_no_open compare.AtLeast = refl

pub add_no_open : (op : AddOp) → is_open (Some (add_kind op)) ≡ false
add_no_open add.Plus = refl
add_no_open add.Minus = refl
