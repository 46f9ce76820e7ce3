use Rattle.std.proofs.Common.{◌≡◌, ◌++◌, ◌∷◌, [], length, sym, ap, ◌∙◌, arith, subst, List, ℕ, Some, length-append}
use Rattle.std.specs.Prelude.{reverse}
use Rattle.std.specs.Map.{update}
use Rattle.std.specs.Str.{bytes_eq}
use Rattle.std.proofs.lemmas.Map.Text.{btree_map_updates_str}
use Rattle.visible_names.specs.declared.names.Entry.{Entry}
use Rattle.visible_names.specs.Kept.{IsLatest, KeepsBefore}
use Rattle.visible_names.proofs.NameLemmas.{latest_push, before_push, at_name}
use Rattle.visible_names.proofs.names.VisibleNames.bind.Goals as goal

pub invariant_of-self-2 : goal.invariant_of-self-2
invariant_of-self-2 c =
    let inv = c.self.invariant in
    let E = c.self.inside.entries.items in
    let x : Entry = record { name = c.args.name; vertex = c.args.vertex; before = c.copied-before.result } in
    let items : c.push.new.self.items ≡ E ++ x ∷ [] = c.in_ok-push.ensures.items ∙ ap (λ l. l ++ x ∷ []) c.in_ok-reserve.ensures.items in
    let n : c.len.result ≡ length E = omega (arith, c.len.ensures, c.in_ok-reserve.ensures.len) in
    let m = c.self.inside.latest in
    let updates : (q : List ℕ) → at_name c.insert.new.self q ≡ update bytes_eq (at_name m) x.name.now (Some (length E)) q =
    λ q. subst (λ k. at_name c.insert.new.self q ≡ update bytes_eq (at_name m) x.name.now (Some k) q) n (btree_map_updates_str c.args.name.now m c.insert.new.self _ c.in_ok-insert.ensures.updates q) in
    let before = c.copied-before.ensures ∙ c.get.ensures.value ∙ inv.1 c.args.name.now in (
      omega (arith, inv.0, ap length items, length-append E (x ∷ [])),
      subst (λ l. IsLatest c.insert.new.self (reverse l)) (sym items) (latest_push m c.insert.new.self E x inv.1 updates),
      subst (λ l. KeepsBefore (reverse l)) (sym items) (before_push E x inv.2 before),
    )
