-- An operation that a statement asks for, in a world that stands over devices which tell their
-- files.
use Rattle.std.proofs.Common.{◌≡◌, ◌∙◌, sym, subst, ℕ, zero, suc, ◌<◌, ◌≤◌, ◌^◌, ◌==◌, Bool, true, false, List, [], ◌∷◌, map, length, take, Option, Some, None, IsTrue, Result, Ok, Err, refl, ap, arith, inl, inr, slice_get, slice_set, if◌then◌else◌, unwrap_or}
use Rattle.std.proofs.lemmas.Bool.{cases_lt}
use Rattle.std.proofs.lemmas.List.{length-map}
use Rattle.cob_tree.specs.declared.file.FileEntry.{FileEntry}
use Rattle.cob_tree.specs.declared.file.How.{How}
use Rattle.file_model.specs.declared.table.FileRow.{FileRow}
use Rattle.file_model.specs.Attempts.{Address, Attempt, closed, noted, opened_at, permitted, refused, state_of}
use Rattle.file_model.specs.Status.{closed_row, may_open}
use Rattle.file_model.specs.World.{FileState, World}
use Rattle.meanings.specs.statements.Filing.{address_by}
use Rattle.file_model.specs.declared.operations.fault.FileFault.{FileFault}
use Rattle.file_model.specs.declared.operations.fault.FileFault.TheVariants as faults
use Rattle.file_model.specs.operations.Seen.{Seen, device_found}
use Rattle.file_model.specs.operations.Standing.{IsTold, Stands, row_of}
use Rattle.file_model.specs.operations.Calls.{Comes, Leaves, Notes, addresses_of}
use Rattle.file_model.specs.operations.Shutting.{StandsLeft}
use Rattle.file_model.proofs.operations_lemmas.FallLemmas.{off_named}
use Rattle.file_model.proofs.operations_lemmas.ShutLemmas.{left_standing, left_without}
use Rattle.file_model.proofs.operations_lemmas.TellLemmas.{kept_told}
use Rattle.cob_act.specs.files.Over.{BrokeIn, IsOver, Stays, Tries}
use Rattle.cob_act.proofs.files_lemmas.BenchLemmas.{done_listed, none_asked}

-- ---- a file of the program

file_address : (files : List FileEntry) (file : ℕ) → file < length files → slice_get (addresses_of files) file ≡ Some (address_by (slice_get files file))
file_address [] file within = absurd (omega (arith, within))
file_address (entry ∷ files) zero within = refl
file_address (entry ∷ files) (suc file) within = file_address files file (omega (arith, within))

comes_tries : (files : List FileEntry) (answer : Result ℕ FileFault) (name : List ℕ) (left left_now : ℕ) (old new : List Seen) (table now : List FileRow) (world : World) (attempt : Attempt) → length now ≡ length table → IsOver files (take left old) table world →
    Leaves answer name left left_now old new → Comes answer (addresses_of files) name (take left_now new) now world attempt → Tries files answer attempt (take left_now new) now
comes_tries files (Ok status) name left left_now old new table now world attempt many over leaves comes = (
  comes.0,
  record {
    rows = many ∙ over.rows;
    few = over.few;
    told = λ file address here. kept_told name address.device left left_now old new leaves (over.told file address here);
    stands = comes.1;
  },
)
comes_tries files (Err faults.Device) name left left_now old new table now world attempt many over leaves comes = tt
comes_tries files (Err faults.NoMemory) name left left_now old new table now world attempt many over leaves comes = tt

-- what such an operation comes to, by what the devices say of it
pub tried_over : (files : List FileEntry) (file : ℕ) (result : Result ℕ FileFault) (left left_now : ℕ) (old new : List Seen) (table now : List FileRow) (world : World) (attempt : Address → Attempt) → file < length files → length now ≡ length table →
    ((address : Address) → slice_get (addresses_of files) file ≡ Some address → Leaves result address.device left left_now old new) →
    ((address : Address) → slice_get (addresses_of files) file ≡ Some address → Stands (addresses_of files) (take left old) table world → IsTold (device_found address.device (take left old)) → Comes result (addresses_of files) address.device (take left_now new) now world (attempt address)) →
    IsOver files (take left old) table world → Tries files result (attempt (address_by (slice_get files file))) (take left_now new) now
tried_over files file result left left_now old new table now world attempt within many leaves comes over =
    let address : Address = address_by (slice_get files file) in
    let here : slice_get (addresses_of files) file ≡ Some address = file_address files file within in
    comes_tries files result address.device left left_now old new table now world (attempt address) many over (leaves address here) (comes address here over.stands (over.told file address here))

-- the record that came
pub record_came : (files : List FileEntry) (file : ℕ) (result : Result ℕ FileFault) (left : ℕ) (old : List Seen) (table : List FileRow) (world : World) (into : List ℕ) (attempt : Address → Attempt) → file < length files →
    ((address : Address) → slice_get (addresses_of files) file ≡ Some address → Stands (addresses_of files) (take left old) table world → IsTold (device_found address.device (take left old)) → result ≡ Ok 0 → into ≡ (attempt address).bytes) →
    IsOver files (take left old) table world → result ≡ Ok 0 → into ≡ (attempt (address_by (slice_get files file))).bytes
record_came files file result left old table world into attempt within given over came =
    let address : Address = address_by (slice_get files file) in
    let here : slice_get (addresses_of files) file ≡ Some address = file_address files file within in
    given address here over.stands (over.told file address here) came

-- ---- a file that the program hasn't

pub beyond : (has : Bool) (rows files file : ℕ) → (rows ≡ files → files < 2 ^ 32 → file < files → IsTrue has) → has ≡ false → rows ≡ files → files < 2 ^ 32 → files ≤ file
beyond has rows files file is none many few =
    elim (cases_lt file files) [
      | inl within ↦ absurd (let e : false ≡ true = sym none ∙ is many few within in cc)
      | inr past ↦ past
    ]

get_none : {A : Type 0} (xs : List A) (k : ℕ) → length xs ≤ k → slice_get xs k ≡ None
get_none [] k past = refl
get_none (x ∷ xs) zero past = absurd (omega (arith, past))
get_none (x ∷ xs) (suc k) past = get_none xs k (omega (arith, past))

set_none : {A : Type 0} (xs : List A) (k : ℕ) (x : A) → length xs ≤ k → slice_set xs k x ≡ xs
set_none [] k x past = refl
set_none (first ∷ xs) zero x past = absurd (omega (arith, past))
set_none (first ∷ xs) (suc k) x past = ap (λ l. first ∷ l) (set_none xs k x (omega (arith, past)))

states_end : (files : List FileEntry) (devices : List Seen) (table : List FileRow) (world : World) (file : ℕ) → IsOver files devices table world → length files ≤ file → length world.files ≤ file
states_end files devices table world file over past =
    let e : length table ≡ length files = over.rows in
    let f : length table ≡ length (map row_of world.files) = ap length over.stands.rows in
    let m : length (map row_of world.files) ≡ length world.files = simp length-map in
    omega (arith, e, f, m, past)

noted_same : (world : World) (file : ℕ) → length world.files ≤ file → noted world file ≡ world
noted_same world file past = ap (λ states. record world { files = states }) (set_none world.files file _ past)

past_tries : (files : List FileEntry) (devices : List Seen) (table : List FileRow) (world : World) (file status : ℕ) (attempt : Attempt) → length files ≤ file → IsOver files devices table world → attempt ≡ refused world file status → Tries files (Ok status) attempt devices table
past_tries files devices table world file status attempt past over is =
    subst (λ (a : Attempt). Tries files (Ok status) a devices table) (sym is)
    (refl, subst (λ (w : World). IsOver files devices table w) (sym (noted_same world file (states_end files devices table world file over past))) over)

-- an operation that its row refuses
row_refused : (world : World) (file status : ℕ) (may : FileRow → ℕ) (attempt : Attempt) → length world.files ≤ file → may closed_row ≡ status → (status == 0) ≡ false → permitted world file (may (state_of world file).row) attempt ≡ refused world file status
row_refused world file status may attempt past is other =
    ap (λ (o : Option FileState). permitted world file (may (unwrap_or o closed).row) attempt) (get_none world.files file past)
    ∙ ap (λ n. permitted world file n attempt) is
    ∙ ap (λ b. if b then attempt else refused world file status) other

pub past_row : (files : List FileEntry) (devices : List Seen) (table : List FileRow) (world : World) (file status : ℕ) (may : FileRow → ℕ) (attempt : Attempt) → may closed_row ≡ status → (status == 0) ≡ false → length files ≤ file → IsOver files devices table world →
    Tries files (Ok status) (permitted world file (may (state_of world file).row) attempt) devices table
past_row files devices table world file status may attempt is other past over =
    past_tries files devices table world file status (permitted world file (may (state_of world file).row) attempt) past over
    (row_refused world file status may attempt (states_end files devices table world file over past) is other)

opened_past : (files : List FileEntry) (world : World) (file : ℕ) (mode : How) → length files ≤ file → length world.files ≤ file → opened_at world (addresses_of files) file (address_by (slice_get files file)) mode ≡ refused world file 30
opened_past files world file mode past none =
    ap (λ (o : Option FileEntry). opened_at world (addresses_of files) file (address_by o) mode) (get_none files file past)
    ∙ ap (λ (o : Option FileState). permitted world file (may_open (unwrap_or o closed).row) (refused world file 30)) (get_none world.files file none)

pub past_opened : (files : List FileEntry) (devices : List Seen) (table : List FileRow) (world : World) (file : ℕ) (mode : How) → length files ≤ file → IsOver files devices table world →
    Tries files (Ok 30) (opened_at world (addresses_of files) file (address_by (slice_get files file)) mode) devices table
past_opened files devices table world file mode past over =
    past_tries files devices table world file 30 (opened_at world (addresses_of files) file (address_by (slice_get files file)) mode) past over
    (opened_past files world file mode past (states_end files devices table world file over past))

-- ---- an operation that breaks off

many_addresses : (files : List FileEntry) → length (addresses_of files) ≡ length files
many_addresses files = simp length-map

-- the devices stand as they did
pub over_left : (files : List FileEntry) (left : ℕ) (devices : List Seen) (table : List FileRow) (world : World) → IsOver files (take left devices) table world → BrokeIn faults.NoMemory files world left devices table
over_left files left devices table world over = left_standing (addresses_of files) (take left devices) table world (over.rows ∙ sym (many_addresses files)) over.stands

comes_stays : (files : List FileEntry) (address : Address) (answer : Result ℕ FileFault) (file left left_now : ℕ) (old new : List Seen) (table now : List FileRow) (world : World) (attempt : Attempt) → IsOver files (take left old) table world →
    Leaves answer address.device left left_now old new → Notes answer file address.device (addresses_of files) table now → Comes answer (addresses_of files) address.device (take left_now new) now world attempt → Stays answer files world left_now new now
comes_stays files address (Ok status) file left left_now old new table now world attempt over leaves notes comes = tt
comes_stays files address (Err faults.Device) file left left_now old new table now world attempt over leaves notes comes =
    subst (λ (name : List ℕ). StandsLeft (addresses_of files) (name ∷ []) (take left_now new) now world) (sym (off_named address.device left left_now old new leaves))
    (left_without address.device (addresses_of files) (take left old) (take left_now new) table now world (over.rows ∙ sym (many_addresses files)) over.stands notes comes)
comes_stays files address (Err faults.NoMemory) file left left_now old new table now world attempt over leaves notes comes =
    left_standing (addresses_of files) (take left_now new) now world (ap length notes ∙ over.rows ∙ sym (many_addresses files)) comes

pub stays_over : (files : List FileEntry) (file : ℕ) (result : Result ℕ FileFault) (left left_now : ℕ) (old new : List Seen) (table now : List FileRow) (world : World) (attempt : Address → Attempt) → file < length files →
    ((address : Address) → slice_get (addresses_of files) file ≡ Some address → Leaves result address.device left left_now old new) →
    ((address : Address) → slice_get (addresses_of files) file ≡ Some address → Notes result file address.device (addresses_of files) table now) →
    ((address : Address) → slice_get (addresses_of files) file ≡ Some address → Stands (addresses_of files) (take left old) table world → IsTold (device_found address.device (take left old)) → Comes result (addresses_of files) address.device (take left_now new) now world (attempt address)) →
    IsOver files (take left old) table world → Stays result files world left_now new now
stays_over files file result left left_now old new table now world attempt within leaves notes comes over =
    let address : Address = address_by (slice_get files file) in
    let here : slice_get (addresses_of files) file ≡ Some address = file_address files file within in
    comes_stays files address result file left left_now old new table now world (attempt address) over (leaves address here) (notes address here) (comes address here over.stands (over.told file address here))

-- as it was asked for
pub stays_listed : {A : Type 0} (result : Result A FileFault) (listed program : List FileEntry) (devices : List Seen) (table : List FileRow) (world : World) (left : ℕ) (new : List Seen) (now : List FileRow) → listed ≡ program →
    (IsOver listed devices table world → Stays result listed world left new now) → IsOver program devices table world → Stays result program world left new now
stays_listed result listed program devices table world left new now is stays over =
    subst (λ (l : List FileEntry). IsOver l devices table world → Stays result l world left new now) is stays over

-- one operation on a file of the program
pub ruleset one_operation = (done_listed, none_asked, stays_listed)
