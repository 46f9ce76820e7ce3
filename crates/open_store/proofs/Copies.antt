-- The copy of a grammar's text under another manifest.
use Rattle.std.proofs.Common.{◌≡◌, ℕ, ◌<◌, ◌≤◌, List, length, take, refl, sym, ap, subst, ◌∙◌, arith, length-take, take-take}
use Rattle.graph_words.specs.declared.types.Rule.{Rule}
use Rattle.faults.specs.declared.form_kind.FormKind.{FormKind}
use Rattle.faults.specs.declared.form_kind.FormKind.TheVariants.{Short}
use Rattle.grammar_norm.specs.GrammarText.{ReadsGrammar}
use Rattle.manifest_codec.specs.declared.types.Manifest.{Manifest}
use Rattle.manifest_switch.specs.declared.slot.Slot.{Slot}
use Rattle.open_store.specs.Copy.{IsBadCopy, IsCopyRead}

pub short_copy : (s : Slot) (m : Manifest) (file : List ℕ) (f p : ℕ) (k : FormKind) → f ≡ 2 → k ≡ Short → p ≡ length file → length file < m.grammar_len → IsBadCopy s m file f p k
short_copy s m file f p k is-file is-kind is-place low = rw (is-file, is-kind, is-place) (IsBadCopy.short low)

names_fit : (all names : List (List ℕ)) → take (length names) all ≡ names → length names ≤ length all
names_fit all names is = omega (arith, length-take (length names) all, ap length is)

-- a manifest that goes on with the same text and the same labels in front
pub next_copy : (m next : Manifest) (file new : List ℕ) (rules : List Rule) → new ≡ file → next.grammar_len ≡ m.grammar_len → take (length m.labels) next.labels ≡ m.labels → IsCopyRead m file rules → IsCopyRead next new rules
next_copy m next file new rules same len labels copy =
    record {
      long = omega (arith, copy.long, len, ap length same);
      names = copy.names;
      reads = subst (λ (t : List ℕ). ReadsGrammar t rules copy.names) (λ i. take (sym len i) (sym same i)) copy.reads;
      begins = sym (take-take (length copy.names) (length m.labels) next.labels (names_fit m.labels copy.names copy.begins)) ∙ ap (take (length copy.names)) labels ∙ copy.begins;
    }
