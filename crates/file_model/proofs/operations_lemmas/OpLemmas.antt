-- What each operation comes to in a world: where it is refused, and where its device did it.
use Rattle.std.proofs.Common.{◌≡◌, ◌∙◌, sym, subst, ℕ, zero, suc, ◌<◌, ◌≤◌, ◌+◌, ◌==◌, Bool, true, false, List, [], ◌∷◌, ◌++◌, map, length, take, Option, Some, None, IfSome, IsSomeAnd, IsTrue, is_some, refl, ap, arith, slice_get, slice_set, if◌then◌else◌, length-append, length-take, length-drop, unwrap_or, eqb-true, not, Ok}
use Rattle.std.proofs.lemmas.Option.{slice_get-map}
use Rattle.std.specs.Option.{option_map}
use Rattle.std.specs.Str.{bytes_eq}
use Rattle.cob_tree.specs.declared.file.How.{How}
use Rattle.file_model.specs.declared.device.Put.TheVariants as put
use Rattle.file_model.specs.declared.mem_file.MemFile.{MemFile}
use Rattle.file_model.specs.declared.table.FileRow.{FileRow}
use Rattle.file_model.specs.Attempts.{Address, Attempt, bytes_at, closed, closed_at, noted, over, permitted, refused, rewritten_at, rewritten_of, state_of, with_bytes, with_state, written_at}
use Rattle.file_model.specs.Status.{can_write, closed_row, is_in_out, may_close, may_rewrite, may_write, other_row}
use Rattle.file_model.specs.Told.{Changes, appended, changed, found, replaced, replaced_from, shut}
use Rattle.file_model.specs.World.{File, FileState, Shelf, World, bytes_of_file, file_found, file_put, files_of_shelf, shelf_found, shelf_put}
use Rattle.file_model.specs.operations.Seen.{IsFirstAt, Nowhere, Seen, device_found}
use Rattle.file_model.specs.operations.Standing.{LastAt, OpenAmong, OpenAs, OpenOn, SameFiles, SameShelf, Stands, StandsOn, as_file, row_of}
use Rattle.file_model.specs.operations.Calls.{Called, Comes}
use Rattle.file_model.proofs.operations_lemmas.FileLemmas.{file_found_shown, found_changed, found_changed_other, shelf_put_found, shelf_put_other, shown_changed, with_files}
use Rattle.file_model.proofs.operations_lemmas.StandLemmas.{SameFound, moved, open_alone, restated, some_same}
use Rattle.file_model.proofs.operations_lemmas.BenchLemmas.{at_some, bench_called, found_before}

-- ---- states and statuses

pub record StateOf (states : List FileState) (file : ℕ) (row : FileRow) : Type 0 where
  pub state : FileState
  pub at : slice_get states file ≡ Some state
  pub is : state.row ≡ row

pub state_at : (table : List FileRow) (states : List FileState) → table ≡ map row_of states → (file : ℕ) (row : FileRow) → slice_get table file ≡ Some row → StateOf states file row
state_at table states e file row is = go (slice_get states file) refl (sym (slice_get-map row_of states file) ∙ ap (λ t. slice_get t file) (sym e) ∙ is)
  where
    go : (o : Option FileState) → slice_get states file ≡ o → option_map row_of o ≡ Some row → StateOf states file row
    go None at r = cc
    go (Some state) at r = record { state = state; at = at; is = some_same state.row row r }

pub record RowAt (table : List FileRow) (file : ℕ) : Type 0 where
  pub row : FileRow
  pub is : slice_get table file ≡ Some row

pub row_at : (table : List FileRow) (file : ℕ) → file < length table → RowAt table file
row_at [] file within = absurd (omega (arith, within))
row_at (row ∷ table) zero within = record { row = row; is = refl }
row_at (row ∷ table) (suc file) within = let more : RowAt table file = row_at table file (omega (arith, within)) in record { row = more.row; is = more.is }

pub state_is : (world : World) (file : ℕ) (state : FileState) → slice_get world.files file ≡ Some state → state_of world file ≡ state
state_is world file state at = ap (λ o. unwrap_or o closed) at

not_zero : (status : ℕ) → (status ≡ 0 → ⊥) → (status == 0) ≡ false
not_zero status other = go (status == 0) refl
  where
    go : (b : Bool) → (status == 0) ≡ b → (status == 0) ≡ false
    go true e = absurd (other (eqb-true status 0 e))
    go false e = e

-- an operation that may be tried
pub allowed : (world : World) (file : ℕ) (may : FileRow → ℕ) (attempt : Attempt) (state : FileState) (row : FileRow) → slice_get world.files file ≡ Some state → state.row ≡ row → may row ≡ 0 → permitted world file (may (state_of world file).row) attempt ≡ attempt
allowed world file may attempt state row at is ok =
    ap (λ n. if n == 0 then attempt else refused world file n) (ap (λ (s : FileState). may s.row) (state_is world file state at) ∙ ap may is ∙ ok)

-- ---- an operation that gave no record

abbrev pub noted_state : FileState → FileState
noted_state state = record state { row = other_row state.row }

noted_as : (mode : How) (state : FileState) (file : MemFile) → OpenAs mode state file → OpenAs mode (noted_state state) file
noted_as mode state file as_before = record { how = as_before.how; place = as_before.place; within = as_before.within; read = λ e. absurd (let x : false ≡ true = e in cc) }

noted_found : (mode : How) (state : FileState) (o : Option MemFile) → IsSomeAnd o (OpenAs mode state) → IsSomeAnd o (OpenAs mode (noted_state state))
noted_found mode state None as_before = as_before
noted_found mode state (Some file) as_before = noted_as mode state file as_before

noted_among : (files : Option (List MemFile)) (name : List ℕ) (mode : How) (state : FileState) → OpenAmong files name mode state → OpenAmong files name mode (noted_state state)
noted_among None name mode state as_before = tt
noted_among (Some files) name mode state as_before = noted_found mode state (found name files) as_before

noted_dev : (device : Option Seen) (name : List ℕ) (mode : How) (state : FileState) → OpenOn device name mode state → OpenOn device name mode (noted_state state)
noted_dev None name mode state as_before = as_before
noted_dev (Some device) name mode state as_before = noted_among device.files name mode state as_before

noted_on : (mode : Option How) (device : Option Seen) (name : List ℕ) (state : FileState) → StandsOn mode device name state → StandsOn mode device name (noted_state state)
noted_on None device name state as_before = tt
noted_on (Some mode) device name state as_before = noted_dev device name mode state as_before

pub noted_stands : (addresses : List Address) (devices : List Seen) (table : List FileRow) (world : World) → Stands addresses devices table world → (file : ℕ) (state : FileState) → slice_get world.files file ≡ Some state →
    Stands addresses devices (slice_set table file (other_row state.row)) (noted world file)
noted_stands addresses devices table world stands file state at =
    subst (λ (s : FileState). Stands addresses devices (slice_set table file (other_row state.row)) (with_state world file (noted_state s))) (sym (state_is world file state at))
    (restated addresses devices table world stands file state (noted_state state) at refl (λ device name as_before. noted_on state.row.how device name state as_before))

refused_at : (addresses : List Address) (devices : List Seen) (name : List ℕ) (table : List FileRow) (world : World) (file status : ℕ) (attempt : Attempt) → (status ≡ 0 → ⊥) →
    Stands addresses devices table (noted world file) → Comes (Ok status) addresses name devices table world (permitted world file status attempt)
refused_at addresses devices name table world file status attempt other stands =
    subst (λ (b : Bool). Comes (Ok status) addresses name devices table world (if b then attempt else refused world file status)) (sym (not_zero status other)) (refl, stands)

pub refused_comes : (addresses : List Address) (devices : List Seen) (name : List ℕ) (table now : List FileRow) (world : World) (file status : ℕ) (may : FileRow → ℕ) (attempt : Attempt) →
    Stands addresses devices table world → file < length table → IfSome (slice_get table file) (λ row. status ≡ may row) → (status ≡ 0 → ⊥) →
    IfSome (slice_get table file) (λ row. now ≡ slice_set table file (other_row row)) →
    Comes (Ok status) addresses name devices now world (permitted world file (may (state_of world file).row) attempt)
refused_comes addresses devices name table now world file status may attempt stands within asked other after =
    let r : RowAt table file = row_at table file within in
    let s : StateOf world.files file r.row = state_at table world.files stands.rows file r.row r.is in
    let e : status ≡ may (state_of world file).row = at_some (slice_get table file) (λ row. status ≡ may row) r.row r.is asked ∙ ap may (sym s.is) ∙ ap (λ (t : FileState). may t.row) (sym (state_is world file s.state s.at)) in
    let n : now ≡ slice_set table file (other_row s.state.row) = at_some (slice_get table file) (λ row. now ≡ slice_set table file (other_row row)) r.row r.is after ∙ ap (λ row. slice_set table file (other_row row)) (sym s.is) in
    subst (λ (m : ℕ). Comes (Ok status) addresses name devices now world (permitted world file m attempt)) e
    (refused_at addresses devices name now world file status attempt other
    (subst (λ (t : List FileRow). Stands addresses devices t (noted world file)) (sym n) (noted_stands addresses devices table world stands file s.state s.at)))

-- ---- a device that did it

-- the name stays
abbrev pub KeepsName : (MemFile → MemFile) → Type 0
KeepsName change = (file : MemFile) → (change file).name ≡ file.name

pub others_kept : (old now : Option (List MemFile)) (name : List ℕ) (change : MemFile → MemFile) → KeepsName change → Changes old name change put.Done now → (other : List ℕ) → bytes_eq name other ≡ false → SameFound other old now
others_kept None now name change keeps done other differ = subst (λ (n : Option (List MemFile)). SameFound other None n) (sym done) tt
others_kept (Some files) now name change keeps done other differ = subst (λ (n : Option (List MemFile)). SameFound other (Some files) n) (sym done) (found_changed_other name other change keeps differ files)

changed_found : (name : List ℕ) (change : MemFile → MemFile) → KeepsName change → (files : List MemFile) (mode : How) (state new : FileState) → ((file : MemFile) → OpenAs mode state file → OpenAs mode new (change file)) →
    (o : Option MemFile) → found name files ≡ o → IsSomeAnd o (OpenAs mode state) → IsSomeAnd (found name (changed name change files)) (OpenAs mode new)
changed_found name change keeps files mode state new opens None e as_before = absurd as_before
changed_found name change keeps files mode state new opens (Some file) e as_before = subst (λ (o : Option MemFile). IsSomeAnd o (OpenAs mode new)) (sym (found_changed name change keeps files file e)) (opens file as_before)

changed_among : (old now : Option (List MemFile)) (name : List ℕ) (change : MemFile → MemFile) → KeepsName change → (mode : How) (state new : FileState) → ((file : MemFile) → OpenAs mode state file → OpenAs mode new (change file)) →
    OpenAmong old name mode state → Changes old name change put.Done now → OpenAmong now name mode new
changed_among None now name change keeps mode state new opens as_before done = subst (λ (n : Option (List MemFile)). OpenAmong n name mode new) (sym done) tt
changed_among (Some files) now name change keeps mode state new opens as_before done =
    subst (λ (n : Option (List MemFile)). OpenAmong n name mode new) (sym done) (changed_found name change keeps files mode state new opens (found name files) refl as_before)

-- the shelf has the bytes that the device has
put_shelf_at : (name : List ℕ) (change : MemFile → MemFile) → KeepsName change → (bytes : List ℕ → List ℕ) (mode : How) (state : FileState) → ((file : MemFile) → OpenAs mode state file → (change file).bytes ≡ bytes file.bytes) →
    (files : List MemFile) (o : Option MemFile) → found name files ≡ o → IsSomeAnd o (OpenAs mode state) → (told : List File) → told ≡ map as_file files →
    file_put name (bytes (bytes_of_file (file_found name told))) told ≡ map as_file (changed name change files)
put_shelf_at name change keeps bytes mode state agrees files None e as_before told same = absurd as_before
put_shelf_at name change keeps bytes mode state agrees files (Some file) e as_before told same =
    ap (λ t. file_put name (bytes (bytes_of_file (file_found name t))) t) same
    ∙ ap (λ o. file_put name (bytes (bytes_of_file o)) (map as_file files)) (file_found_shown name files ∙ ap (option_map as_file) e)
    ∙ ap (λ b. file_put name b (map as_file files)) (sym (agrees file as_before))
    ∙ sym (shown_changed name change keeps files file e)

put_shelf : (old now : Option (List MemFile)) (shelf : Option Shelf) (name : List ℕ) (change : MemFile → MemFile) → KeepsName change → (bytes : List ℕ → List ℕ) (mode : How) (state : FileState) → ((file : MemFile) → OpenAs mode state file → (change file).bytes ≡ bytes file.bytes) →
    SameFiles old shelf → OpenAmong old name mode state → Changes old name change put.Done now →
    SameFiles now (option_map (with_files (file_put name (bytes (bytes_of_file (file_found name (files_of_shelf shelf)))))) shelf)
put_shelf None now shelf name change keeps bytes mode state agrees same as_before done = subst (λ (n : Option (List MemFile)). SameFiles n (option_map (with_files (file_put name (bytes (bytes_of_file (file_found name (files_of_shelf shelf)))))) shelf)) (sym done) tt
put_shelf (Some files) now None name change keeps bytes mode state agrees same as_before done = absurd same
put_shelf (Some files) now (Some shelf) name change keeps bytes mode state agrees same as_before done =
    subst (λ (n : Option (List MemFile)). SameFiles n (Some (with_files (file_put name (bytes (bytes_of_file (file_found name shelf.files)))) shelf))) (sym done)
    (put_shelf_at name change keeps bytes mode state agrees files (found name files) refl as_before shelf.files same)

pub open_mode : (row : FileRow) (device : Seen) (name : List ℕ) (state : FileState) (on : Option How) → IsTrue (is_some on) → StandsOn on (Some device) name state → (mode : How) × (on ≡ Some mode) × OpenAmong device.files name mode state
open_mode row device name state None open_so stands = absurd (let x : false ≡ true = open_so in cc)
open_mode row device name state (Some mode) open_so stands = (mode, refl, stands)

-- the file's device changed the file, which is open, and it is open so in its new state
pub puts : (addresses : List Address) (old devices : List Seen) (table : List FileRow) (world : World) (left at file : ℕ) (address : Address) (state new : FileState) (change : MemFile → MemFile) (bytes : List ℕ → List ℕ) →
    Stands addresses (take left old) table world → slice_get addresses file ≡ Some address → slice_get world.files file ≡ Some state → IsTrue (is_some state.row.how) → IsFirstAt address.device (take left old) at →
    Called at (λ before now. Changes before address.name change put.Done now) false old devices → KeepsName change → new.row.how ≡ state.row.how →
    ((mode : How) (told : MemFile) → OpenAs mode state told → (change told).bytes ≡ bytes told.bytes) →
    ((mode : How) (told : MemFile) → OpenAs mode state told → OpenAs mode new (change told)) →
    Stands addresses (take left devices) (slice_set table file new.row) (record { shelves = shelf_put address.device (file_put address.name (bytes (bytes_at world address))) world.shelves; files = slice_set world.files file new })
puts addresses old devices table world left at file address state new change bytes stands is state_here open_so first called keeps how_same agrees opens =
    subst (λ (ds : List Seen). Stands addresses ds (slice_set table file new.row) after) (sym (bench_called address.device old devices left at (λ before now. Changes before address.name change put.Done now) false first called))
    (moved addresses (take left old) table world stands file address state new called.before called.after after.shelves is state_here here called.named
    shelf
    (λ name differ. shelf_put_other address.device name (file_put address.name (bytes (bytes_at world address))) differ world.shelves)
    (subst (λ (h : Option How). StandsOn h (Some called.after) address.name new) (sym (how_same ∙ mode.1)) (changed_among called.before.files called.after.files address.name change keeps mode.0 state new (opens mode.0) mode.2 called.tells))
    (others_kept called.before.files called.after.files address.name change keeps called.tells)
    (open_alone addresses (take left old) table world stands file address state is state_here open_so))
  where
    after : World
    after = record { shelves = shelf_put address.device (file_put address.name (bytes (bytes_at world address))) world.shelves; files = slice_set world.files file new }

    here : device_found address.device (take left old) ≡ Some called.before
    here = found_before address.device old left at called.before first called.here

    mode : (mode : How) × (state.row.how ≡ Some mode) × OpenAmong called.before.files address.name mode state
    mode = open_mode state.row called.before address.name state state.row.how open_so
        (subst (λ (d : Option Seen). StandsOn state.row.how d address.name state) here (stands.standing file address state is state_here))

    shelf : SameFiles called.after.files (shelf_found address.device (shelf_put address.device (file_put address.name (bytes (bytes_at world address))) world.shelves))
    shelf = subst (λ (s : Option Shelf). SameFiles called.after.files s) (sym (shelf_put_found address.device (file_put address.name (bytes (bytes_at world address))) world.shelves))
        (put_shelf called.before.files called.after.files (shelf_found address.device world.shelves) address.name change keeps bytes mode.0 state (agrees mode.0)
        (subst (λ (d : Option Seen). SameShelf d (shelf_found address.device world.shelves)) here (stands.shelves address.device)) mode.2 called.tells)

-- ---- WRITE

pub can_write_open : (on : Option How) → ◌≡◌ {A = ℕ} (if can_write on then 0 else 48) 0 → IsTrue (is_some on)
can_write_open None e = absurd (let x : ◌≡◌ {A = ℕ} 48 0 = e in omega (arith, x))
can_write_open (Some mode) e = refl

pub may_close_open : (on : Option How) → ◌≡◌ {A = ℕ} (if is_some on then 0 else 42) 0 → IsTrue (is_some on)
may_close_open None e = absurd (let x : ◌≡◌ {A = ℕ} 42 0 = e in omega (arith, x))
may_close_open (Some mode) e = refl

pub may_rewrite_open : (on : Option How) (record_there : Bool) → ◌≡◌ {A = ℕ} (if not (is_in_out on) then 49 else (if record_there then 0 else 43)) 0 → IsTrue (is_some on)
may_rewrite_open None record_there e = absurd (let x : ◌≡◌ {A = ℕ} 49 0 = e in omega (arith, x))
may_rewrite_open (Some mode) record_there e = refl

-- no device of the name is there, though a file on it is open
pub device_there : (addresses : List Address) (devices : List Seen) (table : List FileRow) (world : World) → Stands addresses devices table world → (file : ℕ) (address : Address) (row : FileRow) →
    slice_get addresses file ≡ Some address → slice_get table file ≡ Some row → IsTrue (is_some row.how) → Nowhere address.device devices → ⊥
device_there addresses devices table world stands file address row is at open_so nowhere =
    let s : StateOf world.files file row = state_at table world.files stands.rows file row at in
    no_device s.state.row.how address.name s.state (subst (λ (r : FileRow). IsTrue (is_some r.how)) (sym s.is) open_so)
    (subst (λ (d : Option Seen). StandsOn s.state.row.how d address.name s.state) nowhere (stands.standing file address s.state is s.at))
  where
    no_device : (on : Option How) (name : List ℕ) (state : FileState) → IsTrue (is_some on) → StandsOn on None name state → ⊥
    no_device None name state open_so stands = let x : false ≡ true = open_so in cc
    no_device (Some mode) name state open_so stands = stands

written_as : (bytes : List ℕ) (mode : How) (state : FileState) (file : MemFile) → OpenAs mode state file → OpenAs mode (noted_state state) (appended bytes file)
written_as bytes mode state file as_before =
    let within : state.at ≤ length file.bytes = as_before.within in
    record { how = as_before.how; place = as_before.place; within = simp length-append (omega arith); read = λ e. absurd (let x : false ≡ true = e in cc) }

pub writes : (addresses : List Address) (old devices : List Seen) (table now : List FileRow) (world : World) (left at file : ℕ) (address : Address) (bytes : List ℕ) (status : ℕ) →
    Stands addresses (take left old) table world → slice_get addresses file ≡ Some address → file < length table → IsFirstAt address.device (take left old) at →
    IfSome (slice_get table file) (λ row. status ≡ may_write row) → status ≡ 0 →
    Called at (λ before after. Changes before address.name (appended bytes) put.Done after) false old devices →
    IfSome (slice_get table file) (λ row. now ≡ slice_set table file (other_row row)) →
    Comes (Ok 0) addresses address.device (take left devices) now world (written_at world file address bytes)
writes addresses old devices table now world left at file address bytes status stands is within first asked ok called after =
    subst (λ (a : Attempt). Comes (Ok 0) addresses address.device (take left devices) now world a) (sym (allowed world file may_write done s.state r.row s.at s.is may_zero)) (
      refl,
      subst (λ (t : List FileRow). Stands addresses (take left devices) t done.world) (sym rows)
          (subst (λ (x : FileState). Stands addresses (take left devices) (slice_set table file (other_row s.state.row)) (with_state (with_bytes world address (bytes_at world address ++ bytes)) file (noted_state x))) (sym (state_is world file s.state s.at))
          (puts addresses old devices table world left at file address s.state (noted_state s.state) (appended bytes) (λ b. b ++ bytes) stands is s.at
          (can_write_open s.state.row.how (ap may_write s.is ∙ may_zero)) first called (λ f. refl) refl (λ mode told as_before. refl) (written_as' s.state))),
    )
  where
    r : RowAt table file
    r = row_at table file within

    s : StateOf world.files file r.row
    s = state_at table world.files stands.rows file r.row r.is

    done : Attempt
    done = record { world = noted (with_bytes world address (bytes_at world address ++ bytes)) file; bytes = bytes; status = 0 }

    may_zero : may_write r.row ≡ 0
    may_zero = sym (at_some (slice_get table file) (λ row. status ≡ may_write row) r.row r.is asked) ∙ ok

    rows : now ≡ slice_set table file (other_row s.state.row)
    rows = at_some (slice_get table file) (λ row. now ≡ slice_set table file (other_row row)) r.row r.is after ∙ ap (λ row. slice_set table file (other_row row)) (sym s.is)

    written_as' : (state : FileState) (mode : How) (told : MemFile) → OpenAs mode state told → OpenAs mode (noted_state state) (appended bytes told)
    written_as' state mode told as_before = written_as bytes mode state told as_before

-- ---- CLOSE

shown_shut : (name : List ℕ) (files : List MemFile) → map as_file (changed name shut files) ≡ map as_file files
shown_shut name [] = refl
shown_shut name (first ∷ files) = go (bytes_eq first.name name) (shown_shut name files)
  where
    go : (b : Bool) → map as_file (changed name shut files) ≡ map as_file files → map as_file (if b then shut first ∷ files else first ∷ changed name shut files) ≡ as_file first ∷ map as_file files
    go true more = refl
    go false more = ap (λ l. as_file first ∷ l) more

shut_shelf : (old now : Option (List MemFile)) (shelf : Option Shelf) (name : List ℕ) → SameFiles old shelf → Changes old name shut put.Done now → SameFiles now shelf
shut_shelf None now shelf name same done = subst (λ (n : Option (List MemFile)). SameFiles n shelf) (sym done) tt
shut_shelf (Some files) now None name same done = absurd same
shut_shelf (Some files) now (Some shelf) name same done = subst (λ (n : Option (List MemFile)). SameFiles n (Some shelf)) (sym done) (same ∙ sym (shown_shut name files))

pub closes : (addresses : List Address) (old devices : List Seen) (table now : List FileRow) (world : World) (left at file : ℕ) (address : Address) (status : ℕ) →
    Stands addresses (take left old) table world → slice_get addresses file ≡ Some address → file < length table → IsFirstAt address.device (take left old) at →
    IfSome (slice_get table file) (λ row. status ≡ may_close row) → status ≡ 0 →
    Called at (λ before after. Changes before address.name shut put.Done after) false old devices → now ≡ slice_set table file closed_row →
    Comes (Ok 0) addresses address.device (take left devices) now world (closed_at world file)
closes addresses old devices table now world left at file address status stands is within first asked ok called after =
    subst (λ (a : Attempt). Comes (Ok 0) addresses address.device (take left devices) now world a) (sym (allowed world file may_close done s.state r.row s.at s.is may_zero)) (
      refl,
      subst (λ (t : List FileRow). Stands addresses (take left devices) t done.world) (sym after)
          (subst (λ (ds : List Seen). Stands addresses ds (slice_set table file closed_row) done.world) (sym (bench_called address.device old devices left at (λ before after. Changes before address.name shut put.Done after) false first called))
          (moved addresses (take left old) table world stands file address s.state closed called.before called.after world.shelves is s.at here called.named
          (shut_shelf called.before.files called.after.files (shelf_found address.device world.shelves) address.name
          (subst (λ (d : Option Seen). SameShelf d (shelf_found address.device world.shelves)) here (stands.shelves address.device)) called.tells)
          (λ name differ. refl) tt
          (others_kept called.before.files called.after.files address.name shut (λ f. refl) called.tells)
          (open_alone addresses (take left old) table world stands file address s.state is s.at (may_close_open s.state.row.how (ap may_close s.is ∙ may_zero))))),
    )
  where
    r : RowAt table file
    r = row_at table file within

    s : StateOf world.files file r.row
    s = state_at table world.files stands.rows file r.row r.is

    done : Attempt
    done = record { world = with_state world file closed; bytes = []; status = 0 }

    may_zero : may_close r.row ≡ 0
    may_zero = sym (at_some (slice_get table file) (λ row. status ≡ may_close row) r.row r.is asked) ∙ ok

    here : device_found address.device (take left old) ≡ Some called.before
    here = found_before address.device old left at called.before first called.here

-- ---- REWRITE

has_record_there : (on : Option How) (record_there : Bool) → ◌≡◌ {A = ℕ} (if not (is_in_out on) then 49 else (if record_there then 0 else 43)) 0 → record_there ≡ true
has_record_there on true e = refl
has_record_there on false e = absurd (refused_so (is_in_out on) e)
  where
    refused_so : (b : Bool) → ◌≡◌ {A = ℕ} (if not b then 49 else 43) 0 → ⊥
    refused_so true e = let x : ◌≡◌ {A = ℕ} 43 0 = e in omega (arith, x)
    refused_so false e = let x : ◌≡◌ {A = ℕ} 49 0 = e in omega (arith, x)

replaced_name : (bytes : List ℕ) → KeepsName (replaced bytes)
replaced_name bytes file = go file.last
  where
    go : (last : Option ℕ) → (replaced_from last bytes file).name ≡ file.name
    go None = refl
    go (Some start) = refl

abbrev rewritten_state : List ℕ → FileState → FileState
rewritten_state bytes state = record { row = other_row state.row; at = state.start + length bytes; start = state.start }

rewritten_as : (bytes : List ℕ) (mode : How) (state : FileState) (file : MemFile) → IsTrue state.row.has_record → OpenAs mode state file → OpenAs mode (rewritten_state bytes state) (replaced bytes file)
rewritten_as bytes mode state file has as_before =
    let last : LastAt state.start file = as_before.read has in
    let within : state.start ≤ length file.bytes = last.within in
    subst (λ (l : Option ℕ). OpenAs mode (rewritten_state bytes state) (replaced_from l bytes file)) (sym last.last)
    (record {
      how = as_before.how;
      place = simp (length-append, length-take) (omega arith);
      within = simp (length-append, length-take, length-drop) (omega arith);
      read = λ e. absurd (let x : false ≡ true = e in cc);
    })

pub rewrites : (addresses : List Address) (old devices : List Seen) (table now : List FileRow) (world : World) (left at file : ℕ) (address : Address) (bytes : List ℕ) (status : ℕ) →
    Stands addresses (take left old) table world → slice_get addresses file ≡ Some address → file < length table → IsFirstAt address.device (take left old) at →
    IfSome (slice_get table file) (λ row. status ≡ may_rewrite row) → status ≡ 0 →
    Called at (λ before after. Changes before address.name (replaced bytes) put.Done after) false old devices →
    IfSome (slice_get table file) (λ row. now ≡ slice_set table file (other_row row)) →
    Comes (Ok 0) addresses address.device (take left devices) now world (rewritten_at world file address bytes)
rewrites addresses old devices table now world left at file address bytes status stands is within first asked ok called after =
    subst (λ (a : Attempt). Comes (Ok 0) addresses address.device (take left devices) now world a) (sym (allowed world file may_rewrite (rewritten_of world file (state_of world file) address bytes) s.state r.row s.at s.is may_zero)) (
      refl,
      subst (λ (t : List FileRow). Stands addresses (take left devices) t (rewritten_of world file (state_of world file) address bytes).world) (sym rows)
          (subst (λ (x : FileState). Stands addresses (take left devices) (slice_set table file (other_row s.state.row)) (rewritten_of world file x address bytes).world) (sym (state_is world file s.state s.at))
          (puts addresses old devices table world left at file address s.state (rewritten_state bytes s.state) (replaced bytes) (λ b. over b s.state.start bytes) stands is s.at
          (may_rewrite_open s.state.row.how s.state.row.has_record (ap may_rewrite s.is ∙ may_zero)) first called (replaced_name bytes) refl
          (λ mode told as_before. ap (λ l. (replaced_from l bytes told).bytes) (as_before.read has).last)
          (λ mode told as_before. rewritten_as bytes mode s.state told has as_before))),
    )
  where
    r : RowAt table file
    r = row_at table file within

    s : StateOf world.files file r.row
    s = state_at table world.files stands.rows file r.row r.is

    may_zero : may_rewrite r.row ≡ 0
    may_zero = sym (at_some (slice_get table file) (λ row. status ≡ may_rewrite row) r.row r.is asked) ∙ ok

    has : IsTrue s.state.row.has_record
    has = has_record_there s.state.row.how s.state.row.has_record (ap may_rewrite s.is ∙ may_zero)

    rows : now ≡ slice_set table file (other_row s.state.row)
    rows = at_some (slice_get table file) (λ row. now ≡ slice_set table file (other_row row)) r.row r.is after ∙ ap (λ row. slice_set table file (other_row row)) (sym s.is)
