-- What a run keeps of stores at each moment, and what it spares.
use Rattle.std.proofs.Common.{◌≡◌, ◌⊎◌, ◌≤◌, ℕ, List, Option, Some, Ok, ◌∙◌, sym, subst, inl, inr}
use Rattle.std.specs.Prelude.{Bool, IsTrue}
use Rattle.faults.specs.Reasons.{Holds, disk_causes}
use Rattle.faults.specs.declared.form_kind.FormKind.{FormKind}
use Rattle.disk_model.specs.declared.disk.Disk as disk
use Rattle.disk_model.specs.Disk.{Contents}
use Rattle.disk_model.specs.Crash.{LeavesOnly}
use Rattle.disk_model.specs.View.{LeavesBy, OnlyLooks}
use Rattle.disk_model.specs.Run.{no_step, then_no_more, then_run}
use Rattle.disk_model.proofs.Looks.{looks_same}
use Rattle.manifest_switch.specs.declared.slot.Found.TheVariants.{At, Blank}
use Rattle.manifest_switch.specs.Slots.{IsBlank, current_of}
use Rattle.manifest_switch.specs.Steps.{Stays}
use Rattle.store_law.specs.Texts.{Texts}
use Rattle.store_law.specs.Left.{HoldsStore, IsLeft, ListsBorn}
use Rattle.store_law.specs.Kept.{KeepsStores, Leads}
use Rattle.store_law.proofs.Moments.{keeps_looking, keeps_then, leads_by, leads_then, preserved_looking}
use Rattle.open_store.proofs.Slots.{stays_refl}
use Rattle.open_store.specs.Store.{IsHeldAlone, OpenStore}
use Rattle.store_fault.specs.declared.fault.StoreFault.{StoreFault}
use Rattle.store_fault.specs.declared.fault.StoreFault.TheVariants as stores
use Rattle.store_fault.specs.Faults.{why_of}
use Rattle.store.specs.Import.{Imports, texts_of}
use Rattle.store.proofs.Stopping.{import_left}
use Rattle.closer.specs.Answers.{Moves}
use Rattle.closer.proofs.Keeping.{further_left, retained_left}
use Rattle.graspan_top.specs.Faults.{of_store}
use Rattle.graspan_top.specs.Given.{Given}
use Rattle.graspan_top.specs.Run.{Accepts, IsGoodGrammar}
use Rattle.graspan_top.specs.Refusals.{Explained}
use Rattle.graspan_top.specs.Stages.{IsGrammarFile, show_stages}
use Rattle.graspan_top.specs.Stops.{IsNotBlank, KeepsWork, RefusesFile, Spares}
use Rattle.graspan_top.specs.declared.status.Status.{Status}
use Rattle.graspan_top.specs.declared.status.Status.TheVariants.{Done, Words, InputFault, OtherInput, ReadFault}
use Rattle.graspan_top.specs.declared.status.Status.TheVariants.{DiskFault, WriteFault, NoMemory, BadStore, NoStore}
use Rattle.graspan_top.specs.declared.status.Status.TheVariants.{Unfinished, NotKnown}

module _ {D : Type 0} (d : disk.Ghosts D) (counts_now : (x : D) (t : ℕ) (c : Contents) → t ≤ d.moment x → d.may_leave x c → d.left_since x t c)
    (only_now : (x : D) (c : Contents) → d.left_since x (d.moment x) c → d.may_leave x c) (honest : (x : D) → IsTrue d.tells → d.may_leave x (d.seen x))
    (told_images : (x : D) (c : Contents) → d.may_leave x c → IsTrue d.tells)
    (told : List ℕ → Option (List ℕ)) (edges grammar : List ℕ) where
  -- an image at the start that is a store tells that the disk isn't blank
  not_blank : (old : D) (t : Texts) → ((c : Contents) → d.may_leave old c → HoldsStore t c) → IsNotBlank d.tells (d.seen old)
  not_blank old t here tell blank =
      let h = here (d.seen old) (honest old tell) in
      let a : current_of (d.seen old) ≡ Ok (At h.2.slot h.0) = h.2.current in
      absurd (cc)

  work_kept : (old new : D) → ((t : Texts) (g e : List ℕ) → told grammar ≡ Some g → told edges ≡ Some e → Leads d old new (IsLeft t) (λ c. IsLeft t c ⊎ IsLeft (texts_of g e) c)) → (IsNotBlank d.tells (d.seen old) → KeepsStores d old new) → KeepsWork d told edges grammar old new
  work_kept old new left kept =
      record {
        left = left;
        others = λ some t. (kept some t).left;
        stores = λ t here. (kept (not_blank old t here) t).stores here;
        births = λ t b here. (kept (not_blank old t (λ c now. let h = here c now in (h.0, h.1, h.2))) t).births b tt here;
      }

  -- where all stores are kept
  pub work_with : (old new : D) → KeepsStores d old new → KeepsWork d told edges grammar old new
  work_with old new keeps =
      work_kept old new
      (λ t g e tg te. leads_then d counts_now only_now honest old old new (IsLeft t) (IsLeft t) (λ c. IsLeft t c ⊎ IsLeft (texts_of g e) c) (preserved_looking d counts_now only_now honest old old (IsLeft t) looks_same)
      (λ here. let run = (keeps t).left here in (weaker old new t g e run.0, λ tell. inl (run.1 tell))) (λ c q. inl q))
      (λ some. keeps)
    where
      weaker : (old new : D) (t : Texts) (g e : List ℕ) → LeavesOnly d.moment d.left_since old new (IsLeft t) → LeavesOnly d.moment d.left_since old new (λ c. IsLeft t c ⊎ IsLeft (texts_of g e) c)
      weaker old new t g e run =
          record {
            later = run.later;
            each = λ c left. inl (run.each c left);
            before = λ u c le left. elim (run.before u c le left) [ inl past ↦ inl past | inr now ↦ inr (inl now) ];
          }

  pub work_nowhere : (old : D) → KeepsWork d told edges grammar old old
  work_nowhere old = work_with old old (keeps_looking d counts_now only_now honest old old looks_same)

  -- and calls behind that only look
  pub work_looking : (old mid new : D) → KeepsWork d told edges grammar old mid → OnlyLooks d mid new → KeepsWork d told edges grammar old new
  work_looking old mid new first looks =
      record {
        left = λ t g e tg te. then_looks (IsLeft t) (λ c. IsLeft t c ⊎ IsLeft (texts_of g e) c) (first.left t g e tg te);
        others = λ some t. then_looks (IsLeft t) (IsLeft t) (first.others some t);
        stores = λ t. then_looks (HoldsStore t) (HoldsStore t) (first.stores t);
        births = λ t b. then_looks (ListsBorn t b) (ListsBorn t b) (first.births t b);
      }
    where
      then_looks : (P Q : Contents → Type 0) → Leads d old mid P Q → Leads d old new P Q
      then_looks P Q run = leads_then d counts_now only_now honest old mid new P Q Q run (preserved_looking d counts_now only_now honest mid new Q looks) (λ c q. q)

  -- a disk that isn't blank has no image that is
  none_blank : (old mid : D) → (IsTrue d.tells → Stays (d.seen old) (d.seen mid)) → (IsTrue d.tells → current_of (d.seen mid) ≡ Ok Blank) → IsNotBlank d.tells (d.seen old) → (c : Contents) → d.may_leave mid c → ⊥
  none_blank old mid stays blank some c now = let tell = told_images mid c now in some tell (sym (stays tell).same ∙ blank tell)

  -- an import to a blank disk
  pub work_importing : (old mid new : D) (text : List ℕ) (limit : ℕ) → IsGrammarFile (told grammar) text → KeepsStores d old mid → (IsTrue d.tells → Stays (d.seen old) (d.seen mid)) → (IsTrue d.tells → current_of (d.seen mid) ≡ Ok Blank) → ((c : Contents) → d.may_leave mid c → IsBlank c)
      → LeavesBy d mid new (Imports text (told edges) limit) → KeepsWork d told edges grammar old new
  work_importing old mid new text limit file first stays seen_blank blank run =
      work_kept old new
      (λ t g e tg te.
      leads_then d counts_now only_now honest old mid new (IsLeft t) (IsLeft t) (λ c. IsLeft t c ⊎ IsLeft (texts_of g e) c) (first t).left
      (leads_by d counts_now only_now honest mid new (IsLeft t) (λ c. IsLeft t c ⊎ IsLeft (texts_of g e) c) (Imports text (told edges) limit) run
      (λ here x c image by. inr (import_left text g e (told edges) limit x c (file.is_file g tg) te (blank x image) by))) (λ c q. inl q))
      (λ some. keeps_then d counts_now only_now honest old mid new first (none_there (none_blank old mid stays seen_blank some)))
    where
      none_there : ((c : Contents) → d.may_leave mid c → ⊥) → KeepsStores d mid new
      none_there none t =
          record {
            left = from_none (IsLeft t);
            stores = from_none (HoldsStore t);
            births = λ b among. from_none (ListsBorn t b);
          }
        where
          from_none : (P : Contents → Type 0) → Leads d mid new P P
          from_none P = leads_by d counts_now only_now honest mid new P P (Imports text (told edges) limit) run (λ here x c image by. absurd (none x image))

  -- the closing of a store that is held
  pub work_closing : (old mid new : D) (s : OpenStore) → KeepsWork d told edges grammar old mid → ((c : Contents) → d.may_leave mid c → IsHeldAlone s c) → LeavesBy d mid new (Moves s (d.seen mid)) → KeepsStores d mid new → KeepsWork d told edges grammar old new
  work_closing old mid new s first held run keeps =
      record {
        left = λ t g e tg te. leads_then d counts_now only_now honest old mid new (IsLeft t) (either_left t (texts_of g e)) (either_left t (texts_of g e)) (first.left t g e tg te) (closing t (texts_of g e)) (λ c q. q);
        others = λ some t. leads_then d counts_now only_now honest old mid new (IsLeft t) (IsLeft t) (IsLeft t) (first.others some t) (keeps t).left (λ c q. q);
        stores = λ t. leads_then d counts_now only_now honest old mid new (HoldsStore t) (HoldsStore t) (HoldsStore t) (first.stores t) (keeps t).stores (λ c q. q);
        births = λ t b. leads_then d counts_now only_now honest old mid new (ListsBorn t b) (ListsBorn t b) (ListsBorn t b) (first.births t b) ((keeps t).births b tt) (λ c q. q);
      }
    where
      either_left : Texts → Texts → Contents → Type 0
      either_left t u c = IsLeft t c ⊎ IsLeft u c

      turn : (t u : Texts) (x c : Contents) → (IsLeft t x → IsLeft t c) → (IsLeft u x → IsLeft u c) → either_left t u x → either_left t u c
      turn t u x c first second (inl a) = inl (first a)
      turn t u x c first second (inr b) = inr (second b)

      moved : (t u : Texts) (x c : Contents) → IsHeldAlone s (d.seen mid) → IsHeldAlone s x → Moves s (d.seen mid) x c → either_left t u (d.seen mid) → either_left t u x → either_left t u c
      moved t u x c held_seen held_x (inl kept) here there = turn t u x c (retained_left t s x c held_x kept) (retained_left u s x c held_x kept) there
      moved t u x c held_seen held_x (inr on) here there = turn t u (d.seen mid) c (further_left t s (d.seen mid) c held_seen on) (further_left u s (d.seen mid) c held_seen on) here

      closing : (t u : Texts) → Leads d mid new (either_left t u) (either_left t u)
      closing t u =
          leads_by d counts_now only_now honest mid new (either_left t u) (either_left t u) (Moves s (d.seen mid)) run
          (λ here x c image by. let seen = honest mid (told_images mid x image) in moved t u x c (held (d.seen mid) seen) (held x image) by (here (d.seen mid) seen) (here x image))

  -- ---- what is spared

  -- an import makes nothing of a disk that isn't blank
  pub spared_importing : (old mid new : D) (text : List ℕ) (limit : ℕ) → LeavesBy d old mid Stays → (IsTrue d.tells → Stays (d.seen old) (d.seen mid)) → (IsTrue d.tells → current_of (d.seen mid) ≡ Ok Blank) → LeavesBy d mid new (Imports text (told edges) limit) → IsNotBlank d.tells (d.seen old) → LeavesBy d old new Stays
  spared_importing old mid new text limit first stays seen_blank run some =
      then_run d.moment d.left_since d.may_leave counts_now only_now old mid new Stays (Imports text (told edges) limit) Stays first run (λ x c step. step)
      (λ x m c image mid-image step next. absurd (none_blank old mid stays seen_blank some m mid-image))

  pub spared_nowhere : (old : D) → LeavesBy d old old Stays
  spared_nowhere old = no_step d.moment d.left_since d.may_leave counts_now only_now old Stays stays_refl

  pub spared_looking : (old mid new : D) → LeavesBy d old mid Stays → OnlyLooks d mid new → LeavesBy d old new Stays
  spared_looking old mid new first looks = then_no_more d.moment d.left_since d.may_leave counts_now only_now old mid new _ first looks.time looks.no_more

-- a grammar that was read has no fault
pub good_told : (told : Option (List ℕ)) (text g : List ℕ) → IsGrammarFile told text → told ≡ Some g → (IsGoodGrammar g → ⊥) → ⊥
good_told told text g file tg bad = bad (subst IsGoodGrammar (file.is_file g tg) file.good)

-- a run whose files are accepted, and that ends otherwise than by a refusal of them
pub spares_accepted : {D : Type 0} (d : disk.Ghosts D) (x : Given) (edges grammar : List ℕ) (status : Status) (old new : D) → Accepts x edges grammar → (RefusesFile status → ⊥) → Spares d x edges grammar status old new
spares_accepted d x edges grammar status old new accepts other =
    record {
      refused = λ some why. absurd (elim why [ inl not ↦ not accepts | inr refuses ↦ other refuses ]);
      faulty = λ g tg bad. absurd (bad (accepts.0 g tg));
    }

-- a call of the disk alone refuses no file
pub disk_refuses_none : (rose : Type 0) (bad : ℕ → ℕ → FormKind → Type 0) (f : StoreFault) → Holds (disk_causes rose bad) (why_of f) → RefusesFile (of_store f) → ⊥
disk_refuses_none rose bad stores.ReadFault cause refuses = cause
disk_refuses_none rose bad stores.DiskFault cause refuses = refuses
disk_refuses_none rose bad (stores.InputFault file line kind) cause refuses = cause
disk_refuses_none rose bad (stores.OtherInput file place) cause refuses = cause
disk_refuses_none rose bad (stores.BadStore file place kind) cause refuses = refuses
disk_refuses_none rose bad stores.NoMemory cause refuses = refuses

-- and so doesn't the printing
pub show_refuses_none : (s : OpenStore) (tells : Bool) (c : Contents) (show : Option (List ℕ)) (disk_rose out_rose : Type 0) (status : Status) → Explained (show_stages s tells c show disk_rose out_rose) status → RefusesFile status → ⊥
show_refuses_none s tells c show disk_rose out_rose Done why refuses = refuses
show_refuses_none s tells c show disk_rose out_rose Words why refuses = refuses
show_refuses_none s tells c show disk_rose out_rose (InputFault file line kind) (inl first) refuses = first
show_refuses_none s tells c show disk_rose out_rose (InputFault file line kind) (inr (p, inl second)) refuses = second
show_refuses_none s tells c show disk_rose out_rose (InputFault file line kind) (inr (p, inr (q, none))) refuses = none
show_refuses_none s tells c show disk_rose out_rose (OtherInput file place) (inl first) refuses = first
show_refuses_none s tells c show disk_rose out_rose (OtherInput file place) (inr (p, inl second)) refuses = second
show_refuses_none s tells c show disk_rose out_rose (OtherInput file place) (inr (p, inr (q, none))) refuses = none
show_refuses_none s tells c show disk_rose out_rose ReadFault (inl first) refuses = first
show_refuses_none s tells c show disk_rose out_rose ReadFault (inr (p, inl second)) refuses = second
show_refuses_none s tells c show disk_rose out_rose ReadFault (inr (p, inr (q, none))) refuses = none
show_refuses_none s tells c show disk_rose out_rose DiskFault why refuses = refuses
show_refuses_none s tells c show disk_rose out_rose WriteFault why refuses = refuses
show_refuses_none s tells c show disk_rose out_rose NoMemory why refuses = refuses
show_refuses_none s tells c show disk_rose out_rose (BadStore file place kind) why refuses = refuses
show_refuses_none s tells c show disk_rose out_rose NoStore why refuses = refuses
show_refuses_none s tells c show disk_rose out_rose (Unfinished i j) why refuses = refuses
show_refuses_none s tells c show disk_rose out_rose NotKnown why refuses = refuses
