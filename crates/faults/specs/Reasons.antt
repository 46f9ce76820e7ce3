-- Why a call has no answer: each reason there is, and what it means.
use Rattle.std.specs.Prelude.{◌≡◌, ℕ, Result, Ok, Err}
use Rattle.faults.specs.declared.kinds.InputFile.{InputFile}
use Rattle.faults.specs.declared.kinds.InputKind.{InputKind}
use Rattle.faults.specs.declared.form_kind.FormKind.{FormKind}
use Rattle.faults.specs.declared.form_kind.FormKind.TheVariants.{BadText}

pub data Why : Type 0 where
  -- a read of an input, a call of the disk, or a write failed
  read_failed : Why
  disk_failed : Why
  write_failed : Why
  -- the text has this first fault, at this line
  faulty : InputFile → ℕ → InputKind → Why
  -- an input and the store's copy of it differ first at this place
  differs : InputFile → ℕ → Why
  -- a file of the store breaks this rule first, at this place
  broken : ℕ → ℕ → FormKind → Why
  -- memory was wanted
  no_memory : Why
  -- the words have no reading
  no_words : Why
  -- there is no store, it has work left in this pair, or it lacks what is asked for
  no_store : Why
  work_left : ℕ → ℕ → Why
  not_known : Why

-- What each reason means in a call: a count that rose, a first fault, a difference, a break of a file, or what words
-- and stores lack.
pub record Causes : Type 1 where
  pub reads : Type 0
  pub disk : Type 0
  pub writes : Type 0
  pub text : InputFile → ℕ → InputKind → Type 0
  pub other : InputFile → ℕ → Type 0
  pub bad : ℕ → ℕ → FormKind → Type 0
  pub words : Type 0
  pub none : Type 0
  pub left : ℕ → ℕ → Type 0
  pub unknown : Type 0

-- the reason is there. Want of memory is free.
abbrev pub Holds : Causes → Why → Type 0
Holds c read_failed = c.reads
Holds c disk_failed = c.disk
Holds c write_failed = c.writes
Holds c (faulty file line kind) = c.text file line kind
Holds c (differs file place) = c.other file place
Holds c (broken file place kind) = c.bad file place kind
Holds c no_memory = Unit {0}
Holds c no_words = c.words
Holds c no_store = c.none
Holds c (work_left i j) = c.left i j
Holds c not_known = c.unknown

-- a call that fails does so for a reason that is there
abbrev pub HasReason : {T E : Type 0} → (E → Why) → Causes → Result T E → Type 0
HasReason why c (Ok x) = Unit {0}
HasReason why c (Err e) = Holds c (why e)

-- ---- tables of causes

-- none but want of memory
abbrev pub no_cause : Causes
no_cause =
    record {
      reads = ⊥;
      disk = ⊥;
      writes = ⊥;
      text = λ file line kind. ⊥;
      other = λ file place. ⊥;
      bad = λ file place kind. ⊥;
      words = ⊥;
      none = ⊥;
      left = λ i j. ⊥;
      unknown = ⊥;
    }

-- no file is blamed
abbrev pub blames_none : ℕ → ℕ → FormKind → Type 0
blames_none file place kind = ⊥

-- any may be: that is said elsewhere
abbrev pub blames_any : ℕ → ℕ → FormKind → Type 0
blames_any file place kind = Unit {0}

-- the copy of a text in this file is blamed, for what P says
pub record BlamesText (P : Type 0) (copy file place : ℕ) (kind : FormKind) : Type 0 where
  pub file_is : file ≡ copy
  pub place_is : place ≡ 0
  pub kind_is : kind ≡ BadText
  pub why : P

-- the disk's count rose, or a file of it is blamed
abbrev pub disk_causes : Type 0 → (ℕ → ℕ → FormKind → Type 0) → Causes
disk_causes rose bad = record no_cause { disk = rose; bad = bad }

-- whatever explains a call by the first table explains it by the second
pub record Implies (c d : Causes) : Type 0 where
  pub reads : c.reads → d.reads
  pub disk : c.disk → d.disk
  pub writes : c.writes → d.writes
  pub text : (file : InputFile) (line : ℕ) (kind : InputKind) → c.text file line kind → d.text file line kind
  pub other : (file : InputFile) (place : ℕ) → c.other file place → d.other file place
  pub bad : (file place : ℕ) (kind : FormKind) → c.bad file place kind → d.bad file place kind
  pub words : c.words → d.words
  pub none : c.none → d.none
  pub left : (i j : ℕ) → c.left i j → d.left i j
  pub unknown : c.unknown → d.unknown
