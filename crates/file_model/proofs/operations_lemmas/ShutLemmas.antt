-- The files that are open are closed, one after the other.
use Rattle.std.proofs.Common.{◌≡◌, ◌⊎◌, ◌∙◌, sym, subst, ℕ, zero, suc, ◌<◌, ◌≤◌, ◌+◌, ◌==◌, Bool, true, false, ◌||◌, List, [], ◌∷◌, ◌++◌, length, map, take, Option, Some, None, IfSome, IsSome, IsSomeAnd, is_some, refl, ap, arith, inl, inr, slice_get, slice_set, if◌then◌else◌, append_assoc, Result, Ok, Err}
use Rattle.std.proofs.lemmas.Bool.{cases_lt}
use Rattle.std.proofs.lemmas.List.{length-set}
use Rattle.std.proofs.lemmas.Option.{slice_get-map}
use Rattle.std.specs.Option.{option_map}
use Rattle.std.specs.Str.{bytes_eq}
use Rattle.file_model.specs.declared.device.Put.TheVariants as put
use Rattle.file_model.specs.declared.mem_file.MemFile.{MemFile}
use Rattle.file_model.specs.declared.table.FileRow.{FileRow}
use Rattle.file_model.specs.Attempts.{Address, closed_at, permitted, refused, state_of}
use Rattle.file_model.specs.Status.{closed_row, may_close}
use Rattle.file_model.specs.Told.{Changes, changed, found, shut}
use Rattle.file_model.specs.World.{FileState, World, shelf_found}
use Rattle.file_model.specs.declared.operations.fault.FileFault.{FileFault}
use Rattle.file_model.specs.declared.operations.fault.FileFault.TheVariants as faults
use Rattle.file_model.specs.operations.Calls.{Called, Comes, Leaves, Notes}
use Rattle.file_model.specs.operations.Falling.{AreShut, IsShut, LeftOf, gone_with, is_among, is_used}
use Rattle.file_model.specs.operations.Seen.{IsFirstAt, Seen, device_found, device_put, device_taken}
use Rattle.file_model.specs.operations.Shutting.{Closes, IsShutAmong, IsShutOn, LeavesFiles, OpenIn, ShutTo, Shuts, StandsLeft, are_some}
use Rattle.file_model.specs.operations.Standing.{SameShelf, Stands, row_of, rows_closed_on, shelves_without, without}
use Rattle.file_model.proofs.operations_lemmas.BenchLemmas.{at_some, bench_called, found_before}
use Rattle.file_model.proofs.operations_lemmas.DeviceLemmas.{found_named, found_put, found_put_other, found_taken_other}
use Rattle.file_model.proofs.operations_lemmas.EndLemmas.{close_tried}
use Rattle.file_model.proofs.operations_lemmas.FallLemmas.{left_leaves, or_first, or_second, other_way, used_at}
use Rattle.file_model.proofs.operations_lemmas.FileLemmas.{get_set_other, name_refl, name_same}
use Rattle.file_model.proofs.operations_lemmas.OpLemmas.{RowAt, StateOf, may_close_open, row_at, state_at, state_is}
use Rattle.file_model.proofs.operations_lemmas.StandLemmas.{shelf_behind_other, some_same}
use Rattle.file_model.proofs.operations_lemmas.FileLemmas.{shelf_without_other}
use Rattle.file_model.proofs.operations_lemmas.TakingLemmas.{length_closed}

-- ---- statuses

pub other_status : (result : Result ℕ FileFault) (status : ℕ) → result ≡ Ok status → (status ≡ 0 → ⊥) → result ≡ Ok 0 → ⊥
other_status result status is other same = other (let e : Ok status ≡ Ok 0 = sym is ∙ same in let nought : status ≡ 0 = cc in nought)

pub failed_status : (result : Result ℕ FileFault) (status : ℕ) → result ≡ Err faults.Device → result ≡ Ok status → ⊥
failed_status result status is same = let e : (Err faults.Device) ≡ Ok status = sym is ∙ same in let never : ⊥ = cc in never

-- ---- what CLOSE makes of the files of a device

abbrev IsDown : MemFile → Type 0
IsDown file = file.how ≡ None

first_down : (name : List ℕ) (files : List MemFile) → IfSome (found name (changed name shut files)) IsDown
first_down name [] = tt
first_down name (first ∷ files) = go (bytes_eq first.name name) refl (first_down name files)
  where
    go : (b : Bool) → bytes_eq first.name name ≡ b → IfSome (found name (changed name shut files)) IsDown → IfSome (found name (if b then shut first ∷ files else first ∷ changed name shut files)) IsDown
    go true e more = subst (λ (b : Bool). IfSome (if b then Some (shut first) else found name files) IsDown) (sym e) refl
    go false e more = subst (λ (b : Bool). IfSome (if b then Some first else found name (changed name shut files)) IsDown) (sym e) more

either_down : (name other : List ℕ) (first : MemFile) (files : List MemFile) (b : Bool) →
    IfSome (if b then (if bytes_eq first.name other then Some (shut first) else found other files) else (if bytes_eq first.name other then Some first else found other (changed name shut files))) IsDown →
    IfSome (found other (if b then shut first ∷ files else first ∷ changed name shut files)) IsDown
either_down name other first files true down = down
either_down name other first files false down = down

others_down : (name other : List ℕ) (files : List MemFile) → IfSome (found other files) IsDown → IfSome (found other (changed name shut files)) IsDown
others_down name other [] was = tt
others_down name other (first ∷ files) was = either_down name other first files (bytes_eq first.name name) (go (bytes_eq first.name name) (bytes_eq first.name other) (others_down name other files) was)
  where
    go : (b c : Bool) → (IfSome (found other files) IsDown → IfSome (found other (changed name shut files)) IsDown) → IfSome (if c then Some first else found other files) IsDown →
        IfSome (if b then (if c then Some (shut first) else found other files) else (if c then Some first else found other (changed name shut files))) IsDown
    go true true more down = refl
    go true false more down = down
    go false true more down = down
    go false false more down = more down

among_first : (old now : Option (List MemFile)) (name : List ℕ) → Changes old name shut put.Done now → IsShutAmong now name
among_first None now name changes = subst (λ (o : Option (List MemFile)). IsShutAmong o name) (sym changes) tt
among_first (Some files) now name changes = subst (λ (o : Option (List MemFile)). IsShutAmong o name) (sym changes) (first_down name files)

among_others : (old now : Option (List MemFile)) (name other : List ℕ) → Changes old name shut put.Done now → IsShutAmong old other → IsShutAmong now other
among_others None now name other changes was = subst (λ (o : Option (List MemFile)). IsShutAmong o other) (sym changes) tt
among_others (Some files) now name other changes was = subst (λ (o : Option (List MemFile)). IsShutAmong o other) (sym changes) (others_down name other files was)

pub shut_called : (left : ℕ) (old new : List Seen) (at : ℕ) (address : Address) (left_now : ℕ) → left_now ≡ left → IsFirstAt address.device (take left old) at →
    Called at (λ before after. Changes before address.name shut put.Done after) false old new → IsShutOn (device_found address.device (take left_now new)) address.name
shut_called left old new at address left_now same first called =
    subst (λ (n : ℕ). IsShutOn (device_found address.device (take n new)) address.name) (sym same)
    (subst (λ (o : Option Seen). IsShutOn o address.name)
    (sym (ap (device_found address.device) (bench_called address.device old new left at (λ before after. Changes before address.name shut put.Done after) false first called)
    ∙ found_put address.device called.after called.before (take left old) (found_before address.device old left at called.before first called.here) called.named))
    (among_first called.before.files called.after.files address.name called.tells))

pub others_called : (left : ℕ) (old new : List Seen) (at : ℕ) (device name : List ℕ) (left_now : ℕ) → left_now ≡ left → IsFirstAt device (take left old) at →
    Called at (λ before after. Changes before name shut put.Done after) false old new → (other file : List ℕ) → IsShutOn (device_found other (take left old)) file → IsShutOn (device_found other (take left_now new)) file
others_called left old new at device name left_now same first called other file was =
    subst (λ (n : ℕ). IsShutOn (device_found other (take n new)) file) (sym same)
    (subst (λ (l : List Seen). IsShutOn (device_found other l) file) (sym (bench_called device old new left at (λ before after. Changes before name shut put.Done after) false first called))
    (go (bytes_eq device other) refl))
  where
    there : device_found device (take left old) ≡ Some called.before
    there = found_before device old left at called.before first called.here

    go : (b : Bool) → bytes_eq device other ≡ b → IsShutOn (device_found other (device_put device called.after (take left old))) file
    go true e =
        subst (λ (n : List ℕ). IsShutOn (device_found n (device_put device called.after (take left old))) file) (name_same device other e)
        (subst (λ (o : Option Seen). IsShutOn o file) (sym (found_put device called.after called.before (take left old) there called.named))
        (among_others called.before.files called.after.files name file called.tells
        (subst (λ (o : Option Seen). IsShutOn o file) there (subst (λ (n : List ℕ). IsShutOn (device_found n (take left old)) file) (sym (name_same device other e)) was))))
    go false e =
        let named : bytes_eq called.after.name device ≡ true = ap (λ (n : List ℕ). bytes_eq n device) called.named ∙ found_named device (take left old) called.before there in
        subst (λ (o : Option Seen). IsShutOn o file) (sym (found_put_other device other called.after named e (take left old))) was

-- ---- the files on devices that failed

any_shut : (b : Bool) → IsShut b closed_row
any_shut true = refl
any_shut false = tt

pub nothing_shut : (addresses : List Address) (rows : List FileRow) → AreShut [] addresses rows
nothing_shut [] rows = tt
nothing_shut (address ∷ addresses) [] = tt
nothing_shut (address ∷ addresses) (row ∷ rows) = (tt, nothing_shut addresses rows)

pub set_shut : (gone : List (List ℕ)) (addresses : List Address) (rows : List FileRow) (file : ℕ) (address : Address) (row : FileRow) → slice_get addresses file ≡ Some address → is_among gone address.device ≡ false → AreShut gone addresses rows → AreShut gone addresses (slice_set rows file row)
set_shut gone [] rows file address row here none apart = tt
set_shut gone (first ∷ addresses) [] file address row here none apart = tt
set_shut gone (first ∷ addresses) (one ∷ rows) zero address row here none apart =
    let e : first ≡ address = cc in
    (subst (λ (b : Bool). IsShut b row) (sym (ap (λ (a : Address). is_among gone a.device) e ∙ none)) tt, apart.1)
set_shut gone (first ∷ addresses) (one ∷ rows) (suc file) address row here none apart = (apart.0, set_shut gone addresses rows file address row here none apart.1)

pub closed_shut : (gone : List (List ℕ)) (name : List ℕ) (addresses : List Address) (rows : List FileRow) → AreShut gone addresses rows → AreShut (name ∷ gone) addresses (rows_closed_on name addresses rows)
closed_shut gone name [] rows apart = tt
closed_shut gone name (address ∷ addresses) [] apart = tt
closed_shut gone name (address ∷ addresses) (row ∷ rows) apart = (go (bytes_eq address.device name) refl, closed_shut gone name addresses rows apart.1)
  where
    go : (b : Bool) → bytes_eq address.device name ≡ b → IsShut (bytes_eq name address.device || is_among gone address.device) (if b then closed_row else row)
    go true e = any_shut (bytes_eq name address.device || is_among gone address.device)
    go false e = subst (λ (b : Bool). IsShut (b || is_among gone address.device) row) (sym (other_way address.device name e)) apart.0

shut_row : (b : Bool) (row : FileRow) → IsShut b row → IsSome row.how → b ≡ false
shut_row true row down opened_so = absurd (let e : false ≡ true = sym (ap is_some down) ∙ opened_so in cc)
shut_row false row down opened_so = refl

pub open_left : (gone : List (List ℕ)) (addresses : List Address) (rows : List FileRow) (file : ℕ) (address : Address) (row : FileRow) → AreShut gone addresses rows → slice_get addresses file ≡ Some address → slice_get rows file ≡ Some row → IsSome row.how → is_among gone address.device ≡ false
open_left gone [] rows file address row apart here there opened_so = cc
open_left gone (first ∷ addresses) [] file address row apart here there opened_so = cc
open_left gone (first ∷ addresses) (one ∷ rows) zero address row apart here there opened_so =
    let e : first ≡ address = cc in
    let r : one ≡ row = cc in
    sym (ap (λ (a : Address). is_among gone a.device) e) ∙ shut_row (is_among gone first.device) one apart.0 (subst (λ (x : FileRow). IsSome x.how) (sym r) opened_so)
open_left gone (first ∷ addresses) (one ∷ rows) (suc file) address row apart here there opened_so = open_left gone addresses rows file address row apart.1 here there opened_so

pub notes_shut : (answer : Result ℕ FileFault) (file : ℕ) (address : Address) (gone : List (List ℕ)) (addresses : List Address) (before now : List FileRow) → slice_get addresses file ≡ Some address → is_among gone address.device ≡ false → AreShut gone addresses before →
    Notes answer file address.device addresses before now → AreShut (gone_with answer address.device gone) addresses now
notes_shut (Err faults.Device) file address gone addresses before now here none apart notes = subst (AreShut (address.device ∷ gone) addresses) (sym notes) (closed_shut gone address.device addresses before apart)
notes_shut (Ok status) file address gone addresses before now here none apart notes = subst (AreShut gone addresses) (sym notes.1) (set_shut gone addresses before file address notes.0 here none apart)
notes_shut (Err faults.NoMemory) file address gone addresses before now here none apart notes = subst (AreShut gone addresses) (sym notes) apart

-- ---- one file

same_or_below : (file count : ℕ) → file < suc count → (file ≡ count → ⊥) → file < count
same_or_below file count below other =
    elim (cases_lt file count) [
      | inl less ↦ less
      | inr past ↦ absurd (other (omega (arith, below, past)))
    ]

closed_shelves : (world : World) (file status : ℕ) → (permitted world file status (close_tried world file)).world.shelves ≡ world.shelves
closed_shelves world file status = go (status == 0)
  where
    go : (b : Bool) → (if b then close_tried world file else refused world file status).world.shelves ≡ world.shelves
    go true = refl
    go false = refl

closed_other : (name : List ℕ) (addresses : List Address) (rows : List FileRow) (file : ℕ) (address : Address) → slice_get addresses file ≡ Some address → bytes_eq address.device name ≡ false → slice_get (rows_closed_on name addresses rows) file ≡ slice_get rows file
closed_other name [] rows file address here differ = cc
closed_other name (first ∷ addresses) [] file address here differ = refl
closed_other name (first ∷ addresses) (row ∷ rows) zero address here differ =
    let e : first ≡ address = cc in
    ap (λ (b : Bool). Some (if b then closed_row else row)) (ap (λ (a : Address). bytes_eq a.device name) e ∙ differ)
closed_other name (first ∷ addresses) (row ∷ rows) (suc file) address here differ = closed_other name addresses rows file address here differ

module _ (file : ℕ) (addresses : List Address) (gone : List (List ℕ)) (old : List Seen) (before : List FileRow) (world : World) (so : ShutTo file addresses gone old before world) where
  -- it isn't open
  not_open : (status : ℕ) → IfSome (slice_get before file) (λ row. status ≡ may_close row) → (status ≡ 0 → ⊥) → ShutTo (suc file) addresses gone old before world
  not_open status asked other = record {
    rows = so.rows;
    now = so.now;
    shelves = so.shelves;
    stands = so.stands;
    still = λ f a past opened_so. so.still f a (omega (arith, past)) opened_so;
    shut = λ f a below opened_so. so.shut f a (same_or_below f file below (λ e. never f a e opened_so)) opened_so;
  }
    where
      stays : (o : Option FileRow) → IfSome o (λ row. status ≡ may_close row) → IsSomeAnd o (λ (row : FileRow). IsSome row.how) → ⊥
      stays None asked opened_so = opened_so
      stays (Some row) asked opened_so = other (asked ∙ ap (λ (b : Bool). if b then 0 else 42) opened_so)

      never : (f : ℕ) (a : Address) → f ≡ file → OpenIn world addresses gone f a → ⊥
      never f a e opened_so =
          stays (slice_get before file) asked (subst (λ (n : ℕ). IsSomeAnd (slice_get before n) (λ (row : FileRow). IsSome row.how)) e (so.still f a (omega (arith, e)) opened_so))

  -- it was closed
  was_closed : (address : Address) (new : List Seen) (rows : List FileRow) (status : ℕ) → slice_get addresses file ≡ Some address → Comes (Ok status) addresses address.device new rows so.now (closed_at so.now file) → Notes (Ok status) file address.device addresses before rows →
      IsShutOn (device_found address.device new) address.name → ((device name : List ℕ) → IsShutOn (device_found device old) name → IsShutOn (device_found device new) name) → ShutTo (suc file) addresses gone new rows world
  was_closed address new rows status here comes notes down others = record {
    rows = ap length notes.1 ∙ length-set before file notes.0 ∙ so.rows;
    now = (closed_at so.now file).world;
    shelves = λ name none. ap (shelf_found name) (closed_shelves so.now file _) ∙ so.shelves name none;
    stands = comes.1;
    still = λ f a past opened_so.
        subst (λ (o : Option FileRow). IsSomeAnd o (λ (row : FileRow). IsSome row.how)) (sym (ap (λ l. slice_get l f) notes.1 ∙ get_set_other before file f notes.0 (λ e. omega (arith, e, past))))
        (so.still f a (omega (arith, past)) opened_so);
    shut = λ f a below opened_so. go f a below opened_so (cases_lt f file);
  }
    where
      go : (f : ℕ) (a : Address) → f < suc file → OpenIn world addresses gone f a → (f < file) ⊎ (file ≤ f) → IsShutOn (device_found a.device new) a.name
      go f a below opened_so (inl less) = others a.device a.name (so.shut f a less opened_so)
      go f a below opened_so (inr past) =
          let e : f ≡ file = omega (arith, below, past) in
          let same : a ≡ address = some_same a address (sym opened_so.here ∙ ap (slice_get addresses) e ∙ here) in
          subst (λ (x : Address). IsShutOn (device_found x.device new) x.name) (sym same) down

  -- its device failed
  fell_off : (address : Address) (new : List Seen) (rows : List FileRow) → slice_get addresses file ≡ Some address → Comes (Err faults.Device) addresses address.device new rows so.now (closed_at so.now file) → Notes (Err faults.Device) file address.device addresses before rows →
      new ≡ device_taken address.device old → ShutTo (suc file) addresses (address.device ∷ gone) new rows world
  fell_off address new rows here comes notes off = record {
    rows = ap length notes ∙ length_closed address.device addresses before ∙ so.rows;
    now = without address.device (device_found address.device new) addresses so.now;
    shelves = λ name none.
        shelf_behind_other address.device name (device_found address.device new) (shelves_without address.device so.now.shelves) (first name none)
        ∙ shelf_without_other address.device name (first name none) so.now.shelves ∙ so.shelves name (later name none);
    stands = comes;
    still = λ f a past opened_so.
        subst (λ (o : Option FileRow). IsSomeAnd o (λ (row : FileRow). IsSome row.how)) (sym (ap (λ l. slice_get l f) notes ∙ closed_other address.device addresses before f a opened_so.here (other_way address.device a.device (first a.device opened_so.left))))
        (so.still f a (omega (arith, past)) (less f a opened_so));
    shut = λ f a below opened_so.
        subst (λ (o : Option Seen). IsShutOn o a.name) (sym (ap (device_found a.device) off ∙ found_taken_other address.device a.device (first a.device opened_so.left) old))
        (so.shut f a (same_or_below f file below (λ e. never f a e opened_so)) (less f a opened_so));
  }
    where
      first : (name : List ℕ) → is_among (address.device ∷ gone) name ≡ false → bytes_eq address.device name ≡ false
      first name none = or_first (bytes_eq address.device name) (is_among gone name) none

      later : (name : List ℕ) → is_among (address.device ∷ gone) name ≡ false → is_among gone name ≡ false
      later name none = or_second (bytes_eq address.device name) (is_among gone name) none

      less : (f : ℕ) (a : Address) → OpenIn world addresses (address.device ∷ gone) f a → OpenIn world addresses gone f a
      less f a opened_so = record { state = opened_so.state; here = opened_so.here; there = opened_so.there; open_so = opened_so.open_so; left = later a.device opened_so.left }

      never : (f : ℕ) (a : Address) → f ≡ file → OpenIn world addresses (address.device ∷ gone) f a → ⊥
      never f a e opened_so =
          let same : a ≡ address = some_same a address (sym opened_so.here ∙ ap (slice_get addresses) e ∙ here) in
          let no : false ≡ true = sym (first a.device opened_so.left) ∙ ap (λ (x : Address). bytes_eq address.device x.device) same ∙ name_refl address.device in
          cc

-- ---- what a file comes to

row_open : (status : ℕ) (row : FileRow) → status ≡ may_close row → status ≡ 0 → IsSome row.how
row_open status row is ok = may_close_open row.how (sym is ∙ ok)

status_in : (addresses : List Address) (devices : List Seen) (table : List FileRow) (world : World) (file status : ℕ) → Stands addresses devices table world → file < length table → IfSome (slice_get table file) (λ row. status ≡ may_close row) → status ≡ may_close (state_of world file).row
status_in addresses devices table world file status stands within asked =
    let r : RowAt table file = row_at table file within in
    let s : StateOf world.files file r.row = state_at table world.files stands.rows file r.row r.is in
    at_some (slice_get table file) (λ row. status ≡ may_close row) r.row r.is asked ∙ ap may_close (sym s.is) ∙ ap (λ (t : FileState). may_close t.row) (sym (state_is world file s.state s.at))

module _ (file : ℕ) (addresses : List Address) (gone : List (List ℕ)) (left mid : ℕ) (start old : List Seen) (before : List FileRow) (apart : AreShut gone addresses before) (left_of : LeftOf (is_used addresses) gone left mid start old) where
  pub shuts_none : (status : ℕ) → IfSome (slice_get before file) (λ row. status ≡ may_close row) → (status ≡ 0 → ⊥) → Shuts file (suc file) false addresses gone left mid mid start old old before before
  shuts_none status asked other = record {
    more = [];
    some = refl;
    apart = apart;
    left_of = left_of;
    files = λ world so. not_open file addresses gone (take mid old) before world so status asked other;
  }

  module _ (address : Address) (here : slice_get addresses file ≡ Some address) (status : ℕ) (within : file < length before) (asked : IfSome (slice_get before file) (λ row. status ≡ may_close row)) (ok : status ≡ 0) (now : ℕ) (new : List Seen) (rows : List FileRow) where
    on_left : is_among gone address.device ≡ false
    on_left =
        let r : RowAt before file = row_at before file within in
        open_left gone addresses before file address r.row apart here r.is (row_open status r.row (at_some (slice_get before file) (λ row. status ≡ may_close row) r.row r.is asked) ok)

    pub shuts_done : (answer : ℕ) → Leaves (Ok answer) address.device mid now old new → Notes (Ok answer) file address.device addresses before rows →
        ((world : World) → Stands addresses (take mid old) before world → Comes (Ok answer) addresses address.device (take now new) rows world (closed_at world file)) →
        (answer ≡ 0 → IsShutOn (device_found address.device (take now new)) address.name) → ((device name : List ℕ) → IsShutOn (device_found device (take mid old)) name → IsShutOn (device_found device (take now new)) name) →
        Shuts file (suc file) false addresses gone left mid now start old new before rows
    shuts_done answer leaves notes comes down others = record {
      more = [];
      some = refl;
      apart = notes_shut (Ok answer) file address gone addresses before rows here on_left apart notes;
      left_of = left_leaves (is_used addresses) gone address.device left mid now start old new (used_at addresses file address here) on_left left_of (Ok answer) leaves;
      files = λ world so.
          let came = comes so.now so.stands in
          let zero : answer ≡ 0 = came.0 ∙ allowed_status so.now so.stands in
          was_closed file addresses gone (take mid old) before world so address (take now new) rows answer here came notes (down zero) others;
    }
      where
        allowed_status : (world : World) → Stands addresses (take mid old) before world → (closed_at world file).status ≡ 0
        allowed_status world stands = ap (λ (n : ℕ). (permitted world file n (close_tried world file)).status) (sym (status_in addresses (take mid old) before world file status stands within asked) ∙ ok)

    shuts_off : Leaves (Err faults.Device) address.device mid now old new → Notes (Err faults.Device) file address.device addresses before rows →
        ((world : World) → Stands addresses (take mid old) before world → Comes (Err faults.Device) addresses address.device (take now new) rows world (closed_at world file)) →
        Shuts file (suc file) true addresses gone left mid now start old new before rows
    shuts_off leaves notes comes = record {
      more = address.device ∷ [];
      some = refl;
      apart = notes_shut (Err faults.Device) file address gone addresses before rows here on_left apart notes;
      left_of = left_leaves (is_used addresses) gone address.device left mid now start old new (used_at addresses file address here) on_left left_of (Err faults.Device) leaves;
      files = λ world so. fell_off file addresses gone (take mid old) before world so address (take now new) rows here (comes so.now so.stands) notes leaves.bench;
    }

    pub shuts_broken : (fault : FileFault) → fault ≡ faults.Device → Leaves (Err fault) address.device mid now old new → Notes (Err fault) file address.device addresses before rows →
        ((world : World) → Stands addresses (take mid old) before world → Comes (Err fault) addresses address.device (take now new) rows world (closed_at world file)) →
        Shuts file (suc file) true addresses gone left mid now start old new before rows
    shuts_broken faults.Device is leaves notes comes = shuts_off leaves notes comes
    shuts_broken faults.NoMemory is leaves notes comes = absurd (let never : faults.NoMemory ≡ faults.Device = is in cc)

-- ---- one file after the other

pub shuts_begun : (addresses : List Address) (gone : List (List ℕ)) (left mid : ℕ) (start old : List Seen) (before : List FileRow) → AreShut gone addresses before → LeftOf (is_used addresses) gone left mid start old → Shuts 0 0 false addresses gone left mid mid start old old before before
shuts_begun addresses gone left mid start old before apart left_of = record {
  more = [];
  some = refl;
  apart = apart;
  left_of = left_of;
  files = λ world so. so;
}

pub or_true : (before : Bool) → true ≡ (before || true)
or_true true = refl
or_true false = refl

pub or_false : (before : Bool) → before ≡ (before || false)
or_false true = refl
or_false false = refl

either_some : (second first : List (List ℕ)) (here before : Bool) → are_some second ≡ here → are_some first ≡ before → are_some (second ++ first) ≡ (before || here)
either_some [] first false before two one = one ∙ or_false before
either_some [] first true before two one = cc
either_some (name ∷ second) first true before two one = or_true before
either_some (name ∷ second) first false before two one = cc

pub shuts_next : (count : ℕ) (failed before_failed here : Bool) (addresses : List Address) (gone : List (List ℕ)) (left mid between now : ℕ) (start old middle new : List Seen) (before rows_mid rows : List FileRow) → failed ≡ (before_failed || here) →
    (one : Shuts 0 count before_failed addresses gone left mid between start old middle before rows_mid) → Shuts count (suc count) here addresses (one.more ++ gone) left between now start middle new rows_mid rows →
    Shuts 0 (count + 1) failed addresses gone left mid now start old new before rows
shuts_next count failed before_failed here addresses gone left mid between now start old middle new before rows_mid rows is one two =
    subst (λ (n : ℕ). Shuts 0 n failed addresses gone left mid now start old new before rows) (let e : suc count ≡ count + 1 = omega arith in e)
    (record {
      more = two.more ++ one.more;
      some = either_some two.more one.more here before_failed two.some one.some ∙ sym is;
      apart = subst (λ (l : List (List ℕ)). AreShut l addresses rows) (sym joined) two.apart;
      left_of = subst (λ (l : List (List ℕ)). LeftOf (is_used addresses) l left now start new) (sym joined) two.left_of;
      files = λ world so. subst (λ (l : List (List ℕ)). ShutTo (suc count) addresses l (take now new) rows world) (sym joined) (two.files world (one.files world so));
    })
  where
    joined : ((two.more ++ one.more) ++ gone) ≡ two.more ++ (one.more ++ gone)
    joined = append_assoc two.more one.more gone

-- ---- all

get_below : (xs : List Address) (k : ℕ) (a : Address) → slice_get xs k ≡ Some a → k < length xs
get_below [] k a e = cc
get_below (x ∷ xs) zero a e = omega arith
get_below (x ∷ xs) (suc k) a e = let more : k < length xs = get_below xs k a e in omega (arith, more)

-- the world, none of whose files is closed yet
begun_shut : (addresses : List Address) (gone : List (List ℕ)) (devices : List Seen) (table : List FileRow) (world : World) → StandsLeft addresses gone devices table world → ShutTo 0 addresses gone devices table world
begun_shut addresses gone devices table world so = record {
  rows = so.rows;
  now = so.now;
  shelves = so.shelves;
  stands = so.stands;
  still = λ f a past opened_so. so.still f a opened_so;
  shut = λ f a below opened_so. absurd (omega (arith, below));
}

all_shut : (count : ℕ) (addresses : List Address) (gone : List (List ℕ)) (devices : List Seen) (table : List FileRow) (world : World) → length addresses ≤ count → ShutTo count addresses gone devices table world → LeavesFiles addresses gone devices world
all_shut count addresses gone devices table world whole so = record {
  same = λ name none. subst (SameShelf (device_found name devices)) (so.shelves name none) (so.stands.shelves name);
  shut = λ f a opened_so. so.shut f a (let w : f < length addresses = get_below addresses f a opened_so.here in omega (arith, w, whole)) opened_so;
}

pub closes_all : (count : ℕ) (failed : Bool) (addresses : List Address) (gone : List (List ℕ)) (left mid now : ℕ) (start old new : List Seen) (before rows : List FileRow) → length addresses ≤ count →
    Shuts 0 count failed addresses gone left mid now start old new before rows → Closes failed addresses gone left mid now start old new before
closes_all count failed addresses gone left mid now start old new before rows whole shuts = record {
  more = shuts.more;
  some = shuts.some;
  left_of = shuts.left_of;
  files = λ world so. all_shut count addresses (shuts.more ++ gone) (take now new) rows world whole (shuts.files world (begun_shut addresses gone (take mid old) before world so));
}

-- ---- what is left of a world where a statement breaks off

row_in : (table : List FileRow) (world : World) (file : ℕ) (state : FileState) → table ≡ map row_of world.files → slice_get world.files file ≡ Some state → slice_get table file ≡ Some state.row
row_in table world file state rows there = ap (λ l. slice_get l file) rows ∙ slice_get-map row_of world.files file ∙ ap (option_map row_of) there

-- nothing was done
pub left_standing : (addresses : List Address) (devices : List Seen) (table : List FileRow) (world : World) → length table ≡ length addresses → Stands addresses devices table world → StandsLeft addresses [] devices table world
left_standing addresses devices table world rows stands = record {
  rows = rows;
  now = world;
  shelves = λ name none. refl;
  stands = stands;
  still = λ file address opened_so. subst (λ (o : Option FileRow). IsSomeAnd o (λ (row : FileRow). IsSome row.how)) (sym (row_in table world file opened_so.state stands.rows opened_so.there)) opened_so.open_so;
}

-- a device is gone
pub left_without : (name : List ℕ) (addresses : List Address) (old devices : List Seen) (before table : List FileRow) (world : World) → length before ≡ length addresses → Stands addresses old before world → table ≡ rows_closed_on name addresses before →
    Stands addresses devices table (without name (device_found name devices) addresses world) → StandsLeft addresses (name ∷ []) devices table world
left_without name addresses old devices before table world rows was notes stands = record {
  rows = ap length notes ∙ length_closed name addresses before ∙ rows;
  now = without name (device_found name devices) addresses world;
  shelves = λ other none. shelf_behind_other name other (device_found name devices) (shelves_without name world.shelves) (first other none) ∙ shelf_without_other name other (first other none) world.shelves;
  stands = stands;
  still = λ file address opened_so.
      subst (λ (o : Option FileRow). IsSomeAnd o (λ (row : FileRow). IsSome row.how))
      (sym (ap (λ l. slice_get l file) notes ∙ closed_other name addresses before file address opened_so.here (other_way name address.device (first address.device opened_so.left)) ∙ row_in before world file opened_so.state was.rows opened_so.there))
      opened_so.open_so;
}
  where
    first : (other : List ℕ) → is_among (name ∷ []) other ≡ false → bytes_eq name other ≡ false
    first other none = or_first (bytes_eq name other) false none
