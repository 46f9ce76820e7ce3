use Rattle.std.proofs.Common.{◌≡◌, ◌<◌, ◌≤◌, ◌+◌, ℕ, List, length, ap, sym, subst, ◌∙◌, arith, inl, inr}
use Rattle.std.proofs.lemmas.Bool.{cases_lt}
use Rattle.manifest_codec.specs.declared.types.PartEntry.{PartEntry}
use Rattle.open_store.specs.Free.{IsUsed}
use Rattle.open_store.specs.Store.{OpenStore}
use Rattle.open_store.proofs.Freeness.{one_more_used, used_few}
use Rattle.open_store.proofs.store.Store.free_file.Goals as goal

pub loop-self-preserved : goal.loop-self-preserved
loop-self-preserved c =
    let inv = c.loop-self.invariant in
    let file = c.loop-self.file in
    let parts = c.args.self.now.manifest.parts in
    let same : c.as_slice.result.now ≡ parts = c.as_slice.ensures ∙ ap (λ (s : OpenStore). s.manifest.parts) c.self.view_is in
    let used : IsUsed parts c.args.taken.now file = subst (λ (l : List PartEntry). IsUsed l c.args.taken.now file) same (c.is_used.ensures.used c.loop-self-test.true) in
    record {
      least = omega (arith, inv.least);
      used = λ f low high. elim (cases_lt f file) [ inl lt ↦ inv.used f low lt | inr ge ↦ subst (IsUsed parts c.args.taken.now) (omega (arith, ge, high)) used ];
      few = omega (arith, inv.few, one_more_used parts c.args.taken.now file used);
    }
