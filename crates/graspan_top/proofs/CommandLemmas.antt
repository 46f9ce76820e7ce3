-- What a command explains, whichever it is.
use Rattle.std.proofs.Common.{◌≡◌, ◌⊎◌, inl, inr, ℕ, List, Bool, Option, refl}
use Rattle.disk_model.specs.Disk.{Contents}
use Rattle.command_words.specs.declared.fault.WordsFault.{WordsFault}
use Rattle.command_words.specs.declared.fault.WordsFault.TheVariants as words
use Rattle.command_words.specs.Command.{Said, run, query, emit, dump, parts}
use Rattle.graspan_top.specs.Command.{IsBegunOf, stages_of}
use Rattle.graspan_top.specs.Emission.{IsEmitText}
use Rattle.graspan_top.specs.Faults.{of_words}
use Rattle.graspan_top.specs.Given.{Given}
use Rattle.graspan_top.specs.Printed.{Begins}
use Rattle.graspan_top.specs.Refusals.{Explained, Rises}
use Rattle.graspan_top.specs.Run.{IsRunBegun}
use Rattle.graspan_top.specs.Looks.{IsDumpFront, IsPartsText, IsQueryText}
use Rattle.graspan_top.specs.declared.status.Status.{Status}
use Rattle.graspan_top.specs.declared.status.Status.TheVariants.{Done, NoMemory, Words}
use Rattle.graspan_top.proofs.StageLemmas.{Follow, Grow, NoneForWords, no_words_refused}
use Rattle.graspan_top.proofs.EmitLemmas.{emit_more}
use Rattle.graspan_top.proofs.ExplainLemmas.{run_more}
use Rattle.graspan_top.proofs.LookLemmas.{dump_more, parts_more, query_more}
use Rattle.graspan_top.proofs.TextLemmas.{nothing_begun}

module _ (x : Given) (after : Contents) where
  -- counts that rose in a part rose in the whole
  pub said_more : (part whole : Rises) → Grow part whole → (c : Said) → Follow (stages_of x after part c) (stages_of x after whole c)
  said_more part whole grow (run edges grammar options show) = run_more x edges grammar show after part whole grow
  said_more part whole grow (query label from to) = query_more x.tells x.before part.disk whole.disk part.writes whole.writes grow.disk grow.writes label from to
  said_more part whole grow (emit kind source) = emit_more (x.told source) kind (part.reads source) (whole.reads source) part.writes whole.writes (grow.reads source) grow.writes
  said_more part whole grow dump = dump_more x.tells x.before part.disk whole.disk part.writes whole.writes grow.disk grow.writes
  said_more part whole grow parts = parts_more x.tells x.before part.disk whole.disk part.writes whole.writes grow.disk grow.writes

  -- words that were not read for want of memory
  pub words_explain : (rose : Rises) (f : WordsFault) → (f ≡ words.Words → ⊥) → (c : Said) → Explained (stages_of x after rose c) (of_words f)
  words_explain rose words.Words not c = absurd (not refl)
  words_explain rose words.NoMemory not (run edges grammar options show) = inl tt
  words_explain rose words.NoMemory not (query label from to) = inl tt
  words_explain rose words.NoMemory not (emit kind source) = inl tt
  words_explain rose words.NoMemory not dump = inl tt
  words_explain rose words.NoMemory not parts = inl tt

  -- no command answers that the words have no reading
  none_for_words : (rose : Rises) (c : Said) → NoneForWords (stages_of x after rose c)
  none_for_words rose (run edges grammar options show) = (λ h. h, (λ h. h, (λ h. h, (λ h. h, (λ h. h, (λ h. h, (λ h. h, tt)))))))
  none_for_words rose (query label from to) = (λ h. h, (λ h. h, (λ h. h, (λ h. h, (λ h. h, tt)))))
  none_for_words rose (emit kind source) = (λ h. h, (λ h. h, tt))
  none_for_words rose dump = (λ h. h, (λ h. h, (λ h. h, (λ h. h, tt))))
  none_for_words rose parts = (λ h. h, (λ h. h, (λ h. h, tt)))

  pub explains_no_words : (rose : Rises) (c : Said) → Explained (stages_of x after rose c) Words → ⊥
  explains_no_words rose c h = no_words_refused (stages_of x after rose c) (none_for_words rose c) h

pub words_back : (f : WordsFault) → of_words f ≡ Words → f ≡ words.Words
words_back words.Words e = refl
words_back words.NoMemory e = absurd (cc)

-- words have two faults
pub words_or_memory : (s : Status) (f : WordsFault) → s ≡ of_words f → (s ≡ Words) ⊎ (s ≡ NoMemory)
words_or_memory s words.Words is = inl is
words_or_memory s words.NoMemory is = inr is

pub words_not_done : (f : WordsFault) → of_words f ≡ Done → ⊥
words_not_done words.Words e = absurd (cc)
words_not_done words.NoMemory e = absurd (cc)

-- nothing was begun, whichever the command is
pub nothing_begun_of : (known : Bool) (told : List ℕ → Option (List ℕ)) (c : Contents) (d : Said) (old : Option (List ℕ)) (s : Status) → Begins known (IsBegunOf told c d) old old s
nothing_begun_of known told c (run edges grammar options show) old s = nothing_begun known (IsRunBegun c show) old s
nothing_begun_of known told c (query label from to) old s = nothing_begun known (IsQueryText c label from to) old s
nothing_begun_of known told c (emit kind source) old s = nothing_begun known (IsEmitText (told source) kind) old s
nothing_begun_of known told c dump old s = nothing_begun known (IsDumpFront c) old s
nothing_begun_of known told c parts old s = nothing_begun known (IsPartsText c) old s
