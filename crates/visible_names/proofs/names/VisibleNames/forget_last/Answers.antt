use Rattle.std.proofs.Common.{◌≡◌, ◌≤◌, ◌++◌, ◌∷◌, [], length, sym, ap, ◌∙◌, arith, subst, List, ℕ, Some, None, length-append}
use Rattle.std.specs.Prelude.{reverse}
use Rattle.std.specs.Map.{update}
use Rattle.std.specs.Str.{bytes_eq}
use Rattle.std.proofs.Common.{rules}
use Rattle.std.proofs.lemmas.Map.Text.{btree_map_updates_str}
use Rattle.visible_names.specs.Kept.{IsLatest, KeepsBefore}
use Rattle.visible_names.proofs.NameLemmas.{latest_pop, before_pop, at_name, pushed, inner_length, last_here}
use Rattle.visible_names.proofs.names.VisibleNames.forget_last.Goals as goal

pub invariant_of-self-in-Some-get_mut : goal.invariant_of-self-in-Some-get_mut
invariant_of-self-in-Some-get_mut c =
    let inv = c.self.invariant in
    let E = c.self.inside.entries.items in
    let x = c.in-Some.last in
    let rest = c.pop.new.self.items in
    let m = c.self.inside.latest in
    let items : E ≡ rest ++ x ∷ [] = c.in-Some.ensures.items in
    let R = reverse rest in
    let whole = ap reverse items ∙ pushed rest x in
    let latest_of = subst (IsLatest m) whole inv.1 in
    let before_of = subst KeepsBefore whole inv.2 in
    let some = inner_length E c.self.inside.start c.args.self.now c.self.view_is in
    let start : c.self.inside.start ≤ length rest = omega (arith, some, c.requires, ap length items, length-append rest (x ∷ [])) in
    let n = c.get_mut.follows.lender c.in-Some-before.at in
    let updates : (q : List ℕ) → at_name n q ≡ update bytes_eq (at_name m) x.name.now x.before q =
    λ q. subst (λ o. at_name n q ≡ update bytes_eq (at_name m) x.name.now o q) (sym c.in-Some-before.is) (btree_map_updates_str x.name.now m n _ ((c.get_mut.follows.holds c.in-Some-before.at).3 (search rules)) q) in
    (start, latest_pop m n x R latest_of before_of updates, before_pop x R before_of)

pub invariant_of-self-in_default-get_mut : goal.invariant_of-self-in_default-get_mut
invariant_of-self-in_default-get_mut c =
    let inv = c.self.invariant in
    let E = c.self.inside.entries.items in
    let x = c.in-Some.last in
    let rest = c.pop.new.self.items in
    let m = c.self.inside.latest in
    let items : E ≡ rest ++ x ∷ [] = c.in-Some.ensures.items in
    let R = reverse rest in
    let whole = ap reverse items ∙ pushed rest x in
    let latest_of = subst (IsLatest m) whole inv.1 in
    let before_of = subst KeepsBefore whole inv.2 in
    let some = latest_of x.name.now ∙ last_here x R in
    let none = c.in_default-get_mut.ensures.value in
    let e : None ≡ Some (length R) = none ∙ some in
    absurd (cc)

pub invariant_of-self-in-None : goal.invariant_of-self-in-None
invariant_of-self-in-None c =
    let inv = c.self.invariant in
    let E = c.self.inside.entries.items in
    let x = c.in-Some.last in
    let rest = c.pop.new.self.items in
    let m = c.self.inside.latest in
    let items : E ≡ rest ++ x ∷ [] = c.in-Some.ensures.items in
    let R = reverse rest in
    let whole = ap reverse items ∙ pushed rest x in
    let latest_of = subst (IsLatest m) whole inv.1 in
    let before_of = subst KeepsBefore whole inv.2 in
    let some = inner_length E c.self.inside.start c.args.self.now c.self.view_is in
    let start : c.self.inside.start ≤ length rest = omega (arith, some, c.requires, ap length items, length-append rest (x ∷ [])) in
    let n = c.remove.new.self in
    let updates : (q : List ℕ) → at_name n q ≡ update bytes_eq (at_name m) x.name.now x.before q =
    λ q. subst (λ o. at_name n q ≡ update bytes_eq (at_name m) x.name.now o q) (sym c.in-None.is) (btree_map_updates_str x.name.now m n _ c.remove.ensures.updates q) in
    (start, latest_pop m n x R latest_of before_of updates, before_pop x R before_of)
