-- Lists of stages: how first refusals are put together, and handed on.
use Rattle.std.proofs.Common.{◌≡◌, ℕ, ◌⊎◌, inl, inr, List, [], ◌∷◌, ◌++◌, Option, Some, None, subst}
use Rattle.faults.specs.Reasons.{Causes, Holds, Implies, Why}
use Rattle.faults.proofs.Handed.{holds_more}
use Rattle.store_fault.specs.Faults.{why_of}
use Rattle.store_fault.specs.declared.fault.StoreFault.{StoreFault}
use Rattle.store_fault.specs.declared.fault.StoreFault.TheVariants as stores
use Rattle.query_text.specs.declared.fault.AnswerFault.{AnswerFault}
use Rattle.query_text.specs.declared.fault.AnswerFault.TheVariants as answers
use Rattle.query_text.specs.Answered.{why_not_printed}
use Rattle.graspan_top.specs.Faults.{of_answer, of_store}
use Rattle.graspan_top.specs.Refusals.{ArePassed, EndsFor, Explained, FirstRefusal, Refuses, RefusesFor, Rises, Stage, why_not}
use Rattle.graspan_top.specs.declared.status.Status.{Status}
use Rattle.graspan_top.specs.declared.status.Status.TheVariants.{Done, Words}

-- ---- one list behind another

-- a first refusal in the front is one in the whole
pub in_front : (a b : List Stage) (why : Why) → FirstRefusal a why → FirstRefusal (a ++ b) why
in_front [] b why h = absurd h
in_front (s ∷ a) b why (inl h) = inl h
in_front (s ∷ a) b why (inr h) = inr (h.0, in_front a b why h.1)

-- and so is one in the rest, where the front is passed
pub behind : (a b : List Stage) → ArePassed a → (why : Why) → FirstRefusal b why → FirstRefusal (a ++ b) why
behind [] b passed why h = h
behind (s ∷ a) b passed why h = inr (passed.0, behind a b passed.1 why h)

pub both_passed : (a b : List Stage) → ArePassed a → ArePassed b → ArePassed (a ++ b)
both_passed [] b p q = q
both_passed (s ∷ a) b p q = (p.0, both_passed a b p.1 q)

-- ---- one list for another

-- stage by stage, what explains a refusal by the first list does so by the second, and what is passed in the first is in the second
abbrev pub Follow : List Stage → List Stage → Type 0
Follow [] [] = Unit {0}
Follow [] (t ∷ b) = ⊥
Follow (s ∷ a) [] = ⊥
Follow (s ∷ a) (t ∷ b) = Implies s.refuses t.refuses × (s.passed → t.passed) × Follow a b

pub first_more : (a b : List Stage) → Follow a b → (why : Why) → FirstRefusal a why → FirstRefusal b why
first_more [] [] f why h = h
first_more [] (t ∷ b) f why h = absurd f
first_more (s ∷ a) [] f why h = absurd f
first_more (s ∷ a) (t ∷ b) f why (inl h) = inl (holds_more s.refuses t.refuses f.0 why h)
first_more (s ∷ a) (t ∷ b) f why (inr h) = inr (f.1 h.0, first_more a b f.2 why h.1)

pub passed_more : (a b : List Stage) → Follow a b → ArePassed a → ArePassed b
passed_more [] [] f p = p
passed_more [] (t ∷ b) f p = absurd f
passed_more (s ∷ a) [] f p = absurd f
passed_more (s ∷ a) (t ∷ b) f p = (f.1 p.0, passed_more a b f.2 p.1)

pub both_follow : (a b c d : List Stage) → Follow a b → Follow c d → Follow (a ++ c) (b ++ d)
both_follow [] [] c d f g = g
both_follow [] (t ∷ b) c d f g = absurd f
both_follow (s ∷ a) [] c d f g = absurd f
both_follow (s ∷ a) (t ∷ b) c d f g = (f.0, f.1, both_follow a b c d f.2 g)

-- the same table but for the counts that rose
pub counts_more : (c : Causes) (reads disk writes : Type 0) → (c.reads → reads) → (c.disk → disk) → (c.writes → writes) → Implies c (record c { reads = reads; disk = disk; writes = writes })
counts_more c reads disk writes r d w =
    record {
      reads = r;
      disk = d;
      writes = w;
      text = λ file line kind h. h;
      other = λ file place h. h;
      bad = λ file place kind h. h;
      words = λ h. h;
      none = λ h. h;
      left = λ i j h. h;
      unknown = λ h. h;
    }

-- counts that rose in a part of a call rose in the whole
pub record Grow (part whole : Rises) : Type 0 where
  pub reads : (name : List ℕ) → part.reads name → whole.reads name
  pub disk : part.disk → whole.disk
  pub writes : part.writes → whole.writes

-- ---- statuses

-- a refusal by one list is one by another
pub refuses_by : (a b : List Stage) → ((why : Why) → FirstRefusal a why → FirstRefusal b why) → (s : Status) → Refuses a s → Refuses b s
refuses_by a b more s h = go (why_not s) h
  where
    go : (o : Option Why) → RefusesFor a o → RefusesFor b o
    go None k = k
    go (Some why) k = more why k

-- and explains by it
pub refused_by : (a b : List Stage) → ((why : Why) → FirstRefusal a why → FirstRefusal b why) → (s : Status) → Refuses a s → Explained b s
refused_by a b more s h = go (why_not s) h
  where
    go : (o : Option Why) → RefusesFor a o → EndsFor b o
    go None k = absurd k
    go (Some why) k = more why k

pub explained_by : (a b : List Stage) → ((why : Why) → FirstRefusal a why → FirstRefusal b why) → (ArePassed a → ArePassed b) → (s : Status) → Explained a s → Explained b s
explained_by a b more passed s h = go (why_not s) h
  where
    go : (o : Option Why) → EndsFor a o → EndsFor b o
    go None k = passed k
    go (Some why) k = more why k

pub explained_more : (a b : List Stage) → Follow a b → (s : Status) → Explained a s → Explained b s
explained_more a b follow s h = explained_by a b (first_more a b follow) (passed_more a b follow) s h

pub refused_not_done : (a : List Stage) (s : Status) → Refuses a s → s ≡ Done → ⊥
refused_not_done a s h is = subst (Refuses a) is h

-- the faults of stores and answers as statuses
pub store_refuses : (a : List Stage) (f : StoreFault) → FirstRefusal a (why_of f) → Refuses a (of_store f)
store_refuses a stores.ReadFault h = h
store_refuses a stores.DiskFault h = h
store_refuses a (stores.InputFault file line kind) h = h
store_refuses a (stores.OtherInput file place) h = h
store_refuses a (stores.BadStore file place kind) h = h
store_refuses a stores.NoMemory h = h

pub answer_refuses : (a : List Stage) (f : AnswerFault) → FirstRefusal a (why_not_printed f) → Refuses a (of_answer f)
answer_refuses a answers.DiskFault h = h
answer_refuses a (answers.BadStore file place kind) h = h
answer_refuses a answers.WriteFault h = h
answer_refuses a answers.NoMemory h = h

-- ---- words

-- no stage refuses for words
abbrev pub NoneForWords : List Stage → Type 0
NoneForWords [] = Unit {0}
NoneForWords (s ∷ a) = (s.refuses.words → ⊥) × NoneForWords a

pub no_words_refused : (a : List Stage) → NoneForWords a → Explained a Words → ⊥
no_words_refused [] none h = h
no_words_refused (s ∷ a) none (inl h) = none.0 h
no_words_refused (s ∷ a) none (inr h) = no_words_refused a none.1 h.1
