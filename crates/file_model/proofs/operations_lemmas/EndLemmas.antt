-- The ends of an operation, from what its calls promise.
use Rattle.std.proofs.Common.{◌≡◌, ◌∙◌, ◌++◌, sym, subst, ℕ, ◌<◌, Bool, true, false, List, [], length, take, Option, Some, None, IfSome, IsTrue, is_some, refl, ap, arith, slice_get, slice_set, get_or, Result, Ok, Err}
use Rattle.std.proofs.lemmas.Option.{slice_get_read, slice_get-map}
use Rattle.std.specs.Option.{option_map}
use Rattle.cob_tree.specs.declared.file.FileEntry.{FileEntry}
use Rattle.file_model.specs.declared.device.Put.TheVariants as put
use Rattle.file_model.specs.declared.mem_file.MemFile.{MemFile}
use Rattle.file_model.specs.declared.table.FileRow.{FileRow}
use Rattle.file_model.specs.Attempts.{Address, Attempt, address_of, bytes_at, closed, noted, permitted, rewritten_of, state_of, with_bytes, with_state}
use Rattle.file_model.specs.Status.{other_row}
use Rattle.file_model.specs.Told.{Changes}
use Rattle.file_model.specs.World.{World}
use Rattle.file_model.specs.declared.operations.fault.FileFault.{FileFault}
use Rattle.file_model.specs.declared.operations.fault.FileFault.TheVariants as faults
use Rattle.file_model.specs.operations.Seen.{IsFirstAt, Nowhere, Seen, device_put}
use Rattle.file_model.specs.operations.Standing.{Stands, rows_closed_on}
use Rattle.file_model.specs.operations.Calls.{Breaks, Called, Comes, Kept, Leaves, Notes, TakenOff, addresses_of}
use Rattle.file_model.proofs.operations_lemmas.DeviceLemmas.{found_named}
use Rattle.file_model.proofs.operations_lemmas.FileLemmas.{get_set_same, name_same}
use Rattle.file_model.proofs.operations_lemmas.StandLemmas.{some_same}
use Rattle.file_model.proofs.operations_lemmas.BenchLemmas.{at_some, bench_called, failed_stands, found_before, kept_called, kept_same, put_itself, took_off}
use Rattle.file_model.proofs.operations_lemmas.OpLemmas.{RowAt, device_there, refused_comes, row_at}

-- a file of the program, by its device and its name there
pub record Site (files : List FileEntry) (table : List FileRow) (file : ℕ) (device name : List ℕ) : Type 0 where
  pub within : file < length table
  pub device_is : (address : Address) → slice_get (addresses_of files) file ≡ Some address → device ≡ address.device
  pub name_is : (address : Address) → slice_get (addresses_of files) file ≡ Some address → name ≡ address.name

pub site_of : (files : List FileEntry) (table : List FileRow) (file : ℕ) (entry : FileEntry) (device name : List ℕ) → file < length files → length table ≡ length files → entry ≡ get_or files file entry →
    device ≡ (address_of entry.assign).device → name ≡ (address_of entry.assign).name → Site files table file device name
site_of files table file entry device name within many is d n =
    record {
      within = omega arith;
      device_is = λ address here. d ∙ ap (λ (a : Address). a.device) (same address here);
      name_is = λ address here. n ∙ ap (λ (a : Address). a.name) (same address here);
    }
  where
    same : (address : Address) → slice_get (addresses_of files) file ≡ Some address → address_of entry.assign ≡ address
    same address here =
        some_same (address_of entry.assign) address
        (sym (slice_get-map (λ (f : FileEntry). address_of f.assign) files file ∙ ap (option_map (λ (f : FileEntry). address_of f.assign)) (slice_get_read files (length files) file entry refl within is)) ∙ here)

pub entry_address : (files : List FileEntry) (file : ℕ) (entry : FileEntry) → file < length files → entry ≡ get_or files file entry → (address : Address) → slice_get (addresses_of files) file ≡ Some address → address_of entry.assign ≡ address
entry_address files file entry within is address here =
    some_same (address_of entry.assign) address
    (sym (slice_get-map (λ (f : FileEntry). address_of f.assign) files file ∙ ap (option_map (λ (f : FileEntry). address_of f.assign)) (slice_get_read files (length files) file entry refl within is)) ∙ here)

pub first_named : (files : List FileEntry) (table : List FileRow) (file : ℕ) (device name : List ℕ) → Site files table file device name → (address : Address) → slice_get (addresses_of files) file ≡ Some address →
    (devices : List Seen) (at : ℕ) → IsFirstAt device devices at → IsFirstAt address.device devices at
first_named files table file device name site address here devices at first = subst (λ (n : List ℕ). IsFirstAt n devices at) (site.device_is address here) first

pub called_named : (files : List FileEntry) (table : List FileRow) (file : ℕ) (device name : List ℕ) → Site files table file device name → (address : Address) → slice_get (addresses_of files) file ≡ Some address →
    (Tells : List ℕ → Option (List MemFile) → Option (List MemFile) → Type 0) (fails : Bool) (old new : List Seen) (at : ℕ) → Called at (Tells name) fails old new → Called at (Tells address.name) fails old new
called_named files table file device name site address here Tells fails old new at called = subst (λ (n : List ℕ). Called at (Tells n) fails old new) (site.name_is address here) called

-- ---- what is tried

abbrev pub write_tried : World → ℕ → Address → List ℕ → Attempt
write_tried world file address bytes = record { world = noted (with_bytes world address (bytes_at world address ++ bytes)) file; bytes = bytes; status = 0 }

abbrev pub rewrite_tried : World → ℕ → Address → List ℕ → Attempt
rewrite_tried world file address bytes = rewritten_of world file (state_of world file) address bytes

abbrev pub close_tried : World → ℕ → Attempt
close_tried world file = record { world = with_state world file closed; bytes = []; status = 0 }

-- ---- where no device is asked

pub refused_bench : (result : Result ℕ FileFault) (status left : ℕ) (name : List ℕ) (devices : List Seen) → result ≡ Ok status → Leaves result name left left devices devices
refused_bench result status left name devices is = subst (λ (r : Result ℕ FileFault). Leaves r name left left devices devices) (sym is) (kept_same name left devices)

pub refused_world : (result : Result ℕ FileFault) (addresses : List Address) (devices : List Seen) (name : List ℕ) (table now : List FileRow) (world : World) (file status : ℕ) (may : FileRow → ℕ) (attempt : Attempt) → result ≡ Ok status →
    Stands addresses devices table world → file < length table → IfSome (slice_get table file) (λ row. status ≡ may row) → (status ≡ 0 → ⊥) →
    IfSome (slice_get table file) (λ row. now ≡ slice_set table file (other_row row)) →
    Comes result addresses name devices now world (permitted world file (may (state_of world file).row) attempt)
refused_world result addresses devices name table now world file status may attempt is stands within asked other after =
    subst (λ (r : Result ℕ FileFault). Comes r addresses name devices now world (permitted world file (may (state_of world file).row) attempt)) (sym is)
    (refused_comes addresses devices name table now world file status may attempt stands within asked other after)

pub row_asked : (table : List FileRow) (file status : ℕ) (may : FileRow → ℕ) → (r : RowAt table file) → IfSome (slice_get table file) (λ row. status ≡ may row) → status ≡ 0 → may r.row ≡ 0
row_asked table file status may r asked ok = sym (at_some (slice_get table file) (λ row. status ≡ may row) r.row r.is asked) ∙ ok

pub nowhere_world : (addresses : List Address) (devices : List Seen) (device : List ℕ) (table : List FileRow) (world : World) (file status : ℕ) (address : Address) (may : FileRow → ℕ) (P : Type 0) →
    ((row : FileRow) → may row ≡ 0 → IsTrue (is_some row.how)) → Stands addresses devices table world → file < length table → slice_get addresses file ≡ Some address → device ≡ address.device →
    IfSome (slice_get table file) (λ row. status ≡ may row) → status ≡ 0 → Nowhere device devices → P
nowhere_world addresses devices device table world file status address may P opens stands within is named asked ok nowhere =
    let r : RowAt table file = row_at table file within in
    absurd (device_there addresses devices table world stands file address r.row is r.is (opens r.row (row_asked table file status may r asked ok)) (subst (λ (n : List ℕ). Nowhere n devices) named nowhere))

-- ---- where the device failed

pub failed_bench : (result : Result ℕ FileFault) (old mid new : List Seen) (left left_mid left_now at : ℕ) (name : List ℕ) (Tells : Option (List MemFile) → Option (List MemFile) → Type 0) → result ≡ Err faults.Device → left_mid ≡ left →
    IsFirstAt name (take left old) at → Called at Tells true old mid → TakenOff at left_mid left_now mid new → Leaves result name left left_now old new
failed_bench result old mid new left left_mid left_now at name Tells is same first called taken =
    subst (λ (r : Result ℕ FileFault). Leaves r name left left_now old new) (sym is)
    (took_off name old mid new left left_now at Tells first called (subst (λ (l : ℕ). TakenOff at l left_now mid new) same taken))

pub failed_world : (result : Result ℕ FileFault) (old mid new : List Seen) (left left_mid left_now at : ℕ) (name : List ℕ) (Tells : Option (List MemFile) → Option (List MemFile) → Type 0) (addresses : List Address) (table now : List FileRow) (world : World) (attempt : Attempt) →
    result ≡ Err faults.Device → left_mid ≡ left → IsFirstAt name (take left old) at → Called at Tells true old mid → TakenOff at left_mid left_now mid new →
    IfSome (slice_get mid at) (λ device. now ≡ rows_closed_on device.name addresses table) → Stands addresses (take left old) table world →
    Comes result addresses name (take left_now new) now world attempt
failed_world result old mid new left left_mid left_now at name Tells addresses table now world attempt is same first called taken rows stands =
    subst (λ (r : Result ℕ FileFault). Comes r addresses name (take left_now new) now world attempt) (sym is)
    (failed_stands name old mid new left left_now at Tells addresses table now world first called (subst (λ (l : ℕ). TakenOff at l left_now mid new) same taken) rows stands)

pub failed_breaks : (result : Result ℕ FileFault) (old mid new : List Seen) (left left_mid left_now at : ℕ) (name : List ℕ) (Tells : Option (List MemFile) → Option (List MemFile) → Type 0) (addresses : List Address) (table now : List FileRow) (world : World) →
    result ≡ Err faults.Device → left_mid ≡ left → IsFirstAt name (take left old) at → Called at Tells true old mid → TakenOff at left_mid left_now mid new →
    IfSome (slice_get mid at) (λ device. now ≡ rows_closed_on device.name addresses table) → Stands addresses (take left old) table world →
    Breaks result addresses name (take left_now new) now world
failed_breaks result old mid new left left_mid left_now at name Tells addresses table now world is same first called taken rows stands =
    subst (λ (r : Result ℕ FileFault). Breaks r addresses name (take left_now new) now world) (sym is)
    (failed_stands name old mid new left left_now at Tells addresses table now world first called (subst (λ (l : ℕ). TakenOff at l left_now mid new) same taken) rows stands)

-- ---- where the device wants memory

files_same : (old now : Option (List MemFile)) (name : List ℕ) (change : MemFile → MemFile) → Changes old name change put.NoMemory now → now ≡ old
files_same None now name change same = same
files_same (Some files) now name change same = same

seen_built : (name there : List ℕ) (files now : Option (List MemFile)) (faults count : ℕ) → name ≡ there → files ≡ now → faults ≡ count → ◌≡◌ {A = Seen} (record { name = name; files = files; faults = faults }) (record { name = there; files = now; faults = count })
seen_built name there files now faults count e f g = cc

pub unchanged : (old new : List Seen) (left at : ℕ) (name : List ℕ) (Tells : Option (List MemFile) → Option (List MemFile) → Type 0) → IsFirstAt name (take left old) at → (called : Called at Tells false old new) → called.after.files ≡ called.before.files → take left new ≡ take left old
unchanged old new left at name Tells first called same =
    bench_called name old new left at Tells false first called
    ∙ ap (λ d. device_put name d (take left old)) (seen_built called.after.name called.before.name called.after.files called.before.files called.after.faults called.before.faults called.named same called.counted)
    ∙ put_itself name called.before (take left old) (found_before name old left at called.before first called.here)

pub wanted_world : (result : Result ℕ FileFault) (old new : List Seen) (left left_now at : ℕ) (device name : List ℕ) (change : MemFile → MemFile) (addresses : List Address) (table : List FileRow) (world : World) (attempt : Attempt) → result ≡ Err faults.NoMemory → left_now ≡ left →
    IsFirstAt device (take left old) at → Called at (λ before after. Changes before name change put.NoMemory after) false old new → Stands addresses (take left old) table world →
    Comes result addresses device (take left_now new) table world attempt
wanted_world result old new left left_now at device name change addresses table world attempt is same first called stands =
    subst (λ (r : Result ℕ FileFault). Comes r addresses device (take left_now new) table world attempt) (sym is)
    (subst (λ (l : ℕ). Stands addresses (take l new) table world) (sym same)
    (subst (λ (ds : List Seen). Stands addresses ds table world) (sym (unchanged old new left at device (λ before after. Changes before name change put.NoMemory after) first called (files_same called.before.files called.after.files name change called.tells))) stands))

pub wanted_bench : (result : Result ℕ FileFault) (old new : List Seen) (left left_now at : ℕ) (name : List ℕ) (Tells : Option (List MemFile) → Option (List MemFile) → Type 0) → result ≡ Err faults.NoMemory → left_now ≡ left → IsFirstAt name (take left old) at → Called at Tells false old new → Leaves result name left left_now old new
wanted_bench result old new left left_now at name Tells is same first called =
    subst (λ (r : Result ℕ FileFault). Leaves r name left left_now old new) (sym is) (subst (λ (l : ℕ). Kept name left l old new) (sym same) (kept_called name old new left at Tells first called))

-- ---- where the device did it

pub done_bench : (result : Result ℕ FileFault) (old new : List Seen) (status left left_now at : ℕ) (name : List ℕ) (Tells : Option (List MemFile) → Option (List MemFile) → Type 0) → result ≡ Ok status → left_now ≡ left → IsFirstAt name (take left old) at → Called at Tells false old new → Leaves result name left left_now old new
done_bench result old new status left left_now at name Tells is same first called =
    subst (λ (r : Result ℕ FileFault). Leaves r name left left_now old new) (sym is) (subst (λ (l : ℕ). Kept name left l old new) (sym same) (kept_called name old new left at Tells first called))

pub done_world : (result : Result ℕ FileFault) (addresses : List Address) (name : List ℕ) (new : List Seen) (left left_now : ℕ) (now : List FileRow) (world : World) (attempt : Attempt) → result ≡ Ok 0 → left_now ≡ left →
    Comes (Ok 0) addresses name (take left new) now world attempt → Comes result addresses name (take left_now new) now world attempt
done_world result addresses name new left left_now now world attempt is same comes =
    subst (λ (r : Result ℕ FileFault). Comes r addresses name (take left_now new) now world attempt) (sym is) (subst (λ (l : ℕ). Comes (Ok 0) addresses name (take l new) now world attempt) (sym same) comes)

-- ---- the table

pub noted_notes : (result : Result ℕ FileFault) (status file : ℕ) (name : List ℕ) (addresses : List Address) (f : FileRow → FileRow) (before now : List FileRow) → result ≡ Ok status → file < length before →
    IfSome (slice_get before file) (λ row. now ≡ slice_set before file (f row)) → Notes result file name addresses before now
noted_notes result status file name addresses f before now is within after =
    let r : RowAt before file = row_at before file within in
    subst (λ (t : Result ℕ FileFault). Notes t file name addresses before now) (sym is) (f r.row, at_some (slice_get before file) (λ row. now ≡ slice_set before file (f row)) r.row r.is after)

pub set_notes : (result : Result ℕ FileFault) (status file : ℕ) (name : List ℕ) (addresses : List Address) (row : FileRow) (before now : List FileRow) → result ≡ Ok status → now ≡ slice_set before file row → Notes result file name addresses before now
set_notes result status file name addresses row before now is set = subst (λ (t : Result ℕ FileFault). Notes t file name addresses before now) (sym is) (row, set)

pub failed_notes : (result : Result ℕ FileFault) (file : ℕ) (name : List ℕ) (addresses : List Address) (old mid : List Seen) (left at : ℕ) (Tells : Option (List MemFile) → Option (List MemFile) → Type 0) (before now : List FileRow) → result ≡ Err faults.Device →
    IsFirstAt name (take left old) at → Called at Tells true old mid → IfSome (slice_get mid at) (λ device. now ≡ rows_closed_on device.name addresses before) → Notes result file name addresses before now
failed_notes result file name addresses old mid left at Tells before now is first called rows =
    let here : slice_get mid at ≡ Some called.after = ap (λ l. slice_get l at) called.there ∙ get_set_same old at called.after called.before called.here in
    let named : called.after.name ≡ name = called.named ∙ name_same called.before.name name (found_named name (take left old) called.before (found_before name old left at called.before first called.here)) in
    subst (λ (t : Result ℕ FileFault). Notes t file name addresses before now) (sym is)
    (at_some (slice_get mid at) (λ device. now ≡ rows_closed_on device.name addresses before) called.after here rows
    ∙ ap (λ (n : List ℕ). rows_closed_on n addresses before) named)
