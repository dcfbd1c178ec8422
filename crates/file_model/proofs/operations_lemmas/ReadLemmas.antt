-- What READ comes to, on a device that tells its files.
use Rattle.std.proofs.Common.{◌≡◌, ◌∙◌, sym, subst, ℕ, zero, suc, ◌<◌, ◌≤◌, ◌+◌, ◌==◌, Bool, true, false, not, List, [], ◌∷◌, ◌++◌, map, length, take, drop, Option, Some, None, IfSome, IsSome, IsSomeAnd, IsTrue, is_some, refl, ap, arith, slice_get, slice_set, if◌then◌else◌, length-take, length-drop, eqb-true, Result, Ok}
use Rattle.std.proofs.lemmas.List.{take-append-le}
use Rattle.std.specs.Option.{option_map}
use Rattle.std.specs.Str.{bytes_eq}
use Rattle.cob_tree.specs.declared.file.How.{How}
use Rattle.cob_tree.specs.declared.file.FileEntry.{FileEntry}
use Rattle.file_model.specs.declared.device.Got.TheVariants as got
use Rattle.file_model.specs.declared.mem_file.MemFile.{MemFile}
use Rattle.file_model.specs.declared.table.FileRow.{FileRow}
use Rattle.file_model.specs.Attempts.{Address, Attempt, bytes_at, padded_to, read_at, read_of, state_of, with_state}
use Rattle.file_model.specs.Status.{can_read, may_read, read_row}
use Rattle.file_model.specs.Told.{Reads, ReadsFrom, changed, found, next_of, read_on}
use Rattle.file_model.specs.World.{FileState, Shelf, World, bytes_of_file, file_found, files_of_shelf, shelf_found}
use Rattle.file_model.specs.declared.operations.fault.FileFault.{FileFault}
use Rattle.file_model.specs.operations.Seen.{IsFirstAt, Seen, device_found}
use Rattle.file_model.specs.operations.Standing.{IsTold, OpenAmong, OpenAs, SameFiles, SameShelf, Stands, StandsOn, as_file}
use Rattle.file_model.specs.operations.Calls.{Called, Comes, addresses_of}
use Rattle.file_model.proofs.operations_lemmas.FileLemmas.{found_changed, found_changed_other}
use Rattle.file_model.proofs.operations_lemmas.StandLemmas.{SameFound, moved, open_alone}
use Rattle.file_model.proofs.operations_lemmas.BenchLemmas.{at_some, bench_called, found_before}
use Rattle.file_model.proofs.operations_lemmas.OpLemmas.{RowAt, StateOf, allowed, open_mode, row_at, state_at, state_is}
use Rattle.file_model.proofs.operations_lemmas.OpenLemmas.{none_there, shelf_told, shown_kept, told_first}
use Rattle.file_model.proofs.operations_lemmas.EndLemmas.{Site, called_named, first_named}
use Rattle.file_model.proofs.operations_lemmas.TakingLemmas.{take_whole}

-- what stands of a read: the bytes that the world says come next, and the device's files then
pub record ReadSo (world : World) (address : Address) (mode : How) (state : FileState) (size n : ℕ) (after : Option (List MemFile)) (before : Option (List MemFile)) (Fills : List ℕ → Type 0) : Type 0 where
  pub next : List ℕ
  pub fills : Fills next
  pub count : n ≡ length next
  pub is : take size (drop state.at (bytes_at world address)) ≡ next
  pub same : SameFiles after (shelf_found address.device world.shelves)
  pub found_same : (name : List ℕ) → bytes_eq address.name name ≡ false → SameFound name before after
  pub open_now : (new : FileState) → new.at ≡ state.at + n → (n ≡ 0 → IsTrue new.row.has_record → ⊥) → (IsTrue new.row.has_record → new.start ≡ state.at) → OpenAmong after address.name mode new

bytes_told : (world : World) (address : Address) (files : List MemFile) (told : MemFile) (shelf : Shelf) → shelf_found address.device world.shelves ≡ Some shelf → shelf.files ≡ map as_file files → found address.name files ≡ Some told → bytes_at world address ≡ told.bytes
bytes_told world address files told shelf here same e =
    ap (λ s. bytes_of_file (file_found address.name (files_of_shelf s))) here
    ∙ ap bytes_of_file (shelf_told address.name files shelf.files same ∙ ap (option_map as_file) e)

next_within : (size at : ℕ) (bytes : List ℕ) → at ≤ length bytes → at + length (take size (drop at bytes)) ≤ length bytes
next_within size at bytes within = simp (length-take, length-drop) (omega arith)

read_as : (mode : How) (state new : FileState) (told : MemFile) (n size : ℕ) → OpenAs mode state told → n ≡ length (next_of size told) → new.at ≡ state.at + n → (IsTrue new.row.has_record → new.start ≡ state.at) → OpenAs mode new (read_on n told)
read_as mode state new told n size as_before count at start =
    let place : told.at ≡ state.at = as_before.place in
    let within : state.at ≤ length told.bytes = as_before.within in
    let next : told.at + length (take size (drop told.at told.bytes)) ≤ length told.bytes = next_within size told.at told.bytes (omega arith) in
    record {
      how = as_before.how;
      place = ap (λ m. m + n) place ∙ sym at;
      within = omega (arith, next, count, at, place);
      read = λ e. record { last = ap Some (place ∙ sym (start e)); within = let s : new.start ≡ state.at = start e in omega (arith, s, within) };
    }

so_read : (Fills : List ℕ → Type 0) (world : World) (address : Address) (mode : How) (state : FileState) (size n : ℕ) (files : List MemFile) (after : Option (List MemFile)) (shelf : Shelf) → shelf_found address.device world.shelves ≡ Some shelf → shelf.files ≡ map as_file files →
    (told : MemFile) → found address.name files ≡ Some told → OpenAs mode state told → n ≡ length (next_of size told) → after ≡ Some (changed address.name (read_on n) files) → Fills (next_of size told) → ReadSo world address mode state size n after (Some files) Fills
so_read Fills world address mode state size n files after shelf here same told e as_before count done fills =
    record {
      fills = fills;
      next = next_of size told;
      count = count;
      is = ap (λ b. take size (drop state.at b)) (bytes_told world address files told shelf here same e) ∙ ap (λ at. take size (drop at told.bytes)) (sym as_before.place);
      same = subst (λ (m : Option (List MemFile)). SameFiles m (shelf_found address.device world.shelves)) (sym done)
          (subst (λ (s : Option Shelf). SameFiles (Some (changed address.name (read_on n) files)) s) (sym here) (same ∙ sym (shown_kept address.name (read_on n) (λ f. refl) files)));
      found_same = λ name differ. subst (λ (m : Option (List MemFile)). SameFound name (Some files) m) (sym done) (found_changed_other address.name name (read_on n) (λ f. refl) differ files);
      open_now = λ new at never start. subst (λ (m : Option (List MemFile)). OpenAmong m address.name mode new) (sym done)
          (subst (λ (o : Option MemFile). IsSomeAnd o (OpenAs mode new)) (sym (found_changed address.name (read_on n) (λ f. refl) files told e)) (read_as mode state new told n size as_before count at start));
    }

none_left : (size : ℕ) (at : ℕ) (bytes : List ℕ) → drop at bytes ≡ [] → take size (drop at bytes) ≡ []
none_left zero at bytes e = ap (take 0) e
none_left (suc size) at bytes e = ap (take (suc size)) e

so_ended : (world : World) (address : Address) (mode : How) (state : FileState) (size : ℕ) (files : List MemFile) (after : Option (List MemFile)) (shelf : Shelf) → shelf_found address.device world.shelves ≡ Some shelf → shelf.files ≡ map as_file files →
    (told : MemFile) → found address.name files ≡ Some told → OpenAs mode state told → drop told.at told.bytes ≡ [] → after ≡ Some files → ReadSo world address mode state size 0 after (Some files) (λ next. Unit {0})
so_ended world address mode state size files after shelf here same told e as_before over done =
    record {
      fills = tt;
      next = [];
      count = refl;
      is = ap (λ b. take size (drop state.at b)) (bytes_told world address files told shelf here same e) ∙ ap (λ at. take size (drop at told.bytes)) (sym as_before.place) ∙ none_left size told.at told.bytes over;
      same = subst (λ (m : Option (List MemFile)). SameFiles m (shelf_found address.device world.shelves)) (sym done) (subst (λ (s : Option Shelf). SameFiles (Some files) s) (sym here) same);
      found_same = λ name differ. subst (λ (m : Option (List MemFile)). SameFound name (Some files) m) (sym done) refl;
      open_now = λ new at never start. subst (λ (m : Option (List MemFile)). OpenAmong m address.name mode new) (sym done)
          (subst (λ (o : Option MemFile). IsSomeAnd o (OpenAs mode new)) (sym e)
          (let within : state.at ≤ length told.bytes = as_before.within in let a : new.at ≡ state.at + 0 = at in record {
            how = as_before.how;
            place = as_before.place ∙ (let b : state.at ≡ new.at = omega arith in b);
            within = omega arith;
            read = λ r. absurd (never refl r);
          }));
    }

abbrev pub Filled : ℕ → List ℕ → List ℕ → List ℕ → Type 0
Filled n old new next = new ≡ next ++ drop n old

pub bytes_so : (world : World) (address : Address) (mode : How) (state : FileState) (n : ℕ) (before after : Option (List MemFile)) (o : Option Shelf) (old new : List ℕ) → shelf_found address.device world.shelves ≡ o → SameFiles before o → OpenAmong before address.name mode state → IsSome before →
    Reads before address.name (got.Bytes n) old new after → ReadSo world address mode state (length old) n after before (Filled n old new)
bytes_so world address mode state n None after o old new here same as_before told call = absurd (none_there None refl told)
bytes_so world address mode state n (Some files) after None old new here same as_before told call = absurd same
bytes_so world address mode state n (Some files) after (Some shelf) old new here same as_before told call = go (found address.name files) refl as_before call
  where
    go : (f : Option MemFile) → found address.name files ≡ f → IsSomeAnd f (OpenAs mode state) → ReadsFrom address.name f files (got.Bytes n) old new after → ReadSo world address mode state (length old) n after (Some files) (Filled n old new)
    go None e as_before call = absurd as_before
    go (Some told) e as_before call = so_read (Filled n old new) world address mode state (length old) n files after shelf here same told e as_before call.0 call.2 call.1

pub end_so : (world : World) (address : Address) (mode : How) (state : FileState) (before after : Option (List MemFile)) (o : Option Shelf) (old new : List ℕ) → shelf_found address.device world.shelves ≡ o → SameFiles before o → OpenAmong before address.name mode state → IsSome before →
    Reads before address.name got.End old new after → ReadSo world address mode state (length old) 0 after before (λ next. Unit {0})
end_so world address mode state None after o old new here same as_before told call = absurd (none_there None refl told)
end_so world address mode state (Some files) after None old new here same as_before told call = absurd same
end_so world address mode state (Some files) after (Some shelf) old new here same as_before told call = go (found address.name files) refl as_before call
  where
    go : (f : Option MemFile) → found address.name files ≡ f → IsSomeAnd f (OpenAs mode state) → ReadsFrom address.name f files got.End old new after → ReadSo world address mode state (length old) 0 after (Some files) (λ next. Unit {0})
    go None e as_before call = absurd as_before
    go (Some told) e as_before call = so_ended world address mode state (length old) files after shelf here same told e as_before call.0 call.1

pub can_read_open : (on : Option How) (ended : Bool) → ◌≡◌ {A = ℕ} (if not (can_read on) then 47 else (if ended then 46 else 0)) 0 → IsTrue (is_some on)
can_read_open None ended e = absurd (let x : ◌≡◌ {A = ℕ} 47 0 = e in omega (arith, x))
can_read_open (Some mode) ended e = refl

abbrev pub read_state : Bool → ℕ → FileState → FileState
read_state true n state = record state { row = read_row true state.row }
read_state false n state = record { row = read_row false state.row; at = state.at + n; start = state.at }

abbrev pub read_status : Bool → ℕ
read_status true = 10
read_status false = 0

read_is : (world : World) (file : ℕ) (state : FileState) (size n : ℕ) (next : List ℕ) → n ≡ length next → (b : Bool) → (n == 0) ≡ b →
    (read_of world file state size next).status ≡ read_status b × ((read_of world file state size next).world ≡ with_state world file (read_state b n state)) × (b ≡ false → (read_of world file state size next).bytes ≡ padded_to size next)
read_is world file state size n [] count true e = (refl, refl, λ x. absurd (let y : true ≡ false = x in cc))
read_is world file state size n [] count false e = absurd (let x : (0 == 0) ≡ false = ap (λ m. m == 0) (sym count) ∙ e in let y : true ≡ false = x in cc)
read_is world file state size n (byte ∷ next) count false e = (refl, ap (λ m. with_state world file (record { row = read_row false state.row; at = state.at + m; start = state.at })) (sym count), λ x. refl)
read_is world file state size n (byte ∷ next) count true e = absurd (let x : n ≡ 0 = eqb-true n 0 e in let y : n ≡ suc (length next) = count in omega (arith, x, y))

-- what a READ that was done comes to
pub record ReadEnd (addresses : List Address) (address : Address) (devices : List Seen) (now : List FileRow) (world : World) (file size n : ℕ) (result : Result ℕ FileFault) (Fills : List ℕ → Type 0) : Type 0 where
  pub comes : Comes result addresses address.device devices now world (read_at world file address size)
  pub next : List ℕ
  pub count : n ≡ length next
  pub fills : Fills next
  pub bytes : (n == 0) ≡ false → (read_at world file address size).bytes ≡ padded_to size next

pub reads : (addresses : List Address) (old devices : List Seen) (table now : List FileRow) (world : World) (left left_now at file : ℕ) (address : Address) (size n status : ℕ) (result : Result ℕ FileFault) (Tells : Option (List MemFile) → Option (List MemFile) → Type 0) (Fills : List ℕ → Type 0) → left_now ≡ left →
    result ≡ Ok (read_status (n == 0)) → Stands addresses (take left old) table world → slice_get addresses file ≡ Some address → file < length table → IsFirstAt address.device (take left old) at →
    IfSome (slice_get table file) (λ row. status ≡ may_read row) → status ≡ 0 → (called : Called at Tells false old devices) →
    ((mode : How) (state : FileState) → SameFiles called.before.files (shelf_found address.device world.shelves) → OpenAmong called.before.files address.name mode state → ReadSo world address mode state size n called.after.files called.before.files Fills) →
    IfSome (slice_get table file) (λ row. now ≡ slice_set table file (read_row (n == 0) row)) →
    ReadEnd addresses address (take left_now devices) now world file size n result Fills
reads addresses old devices table now world left left_now at file address size n status result Tells Fills same answer stands is within first asked ok called so_for after =
    record {
      comes = subst (λ (r : Result ℕ FileFault). Comes r addresses address.device (take left_now devices) now world (read_at world file address size)) (sym answer)
          (subst (λ (a : Attempt). Comes (Ok (read_status (n == 0))) addresses address.device (take left_now devices) now world a) (sym attempt) (
            sym ends.0,
            subst (λ (w : World). Stands addresses (take left_now devices) now w) (sym ends.1)
                (subst (λ (l : ℕ). Stands addresses (take l devices) now (with_state world file (read_state (n == 0) n s.state))) (sym same)
                (subst (λ (t : List FileRow). Stands addresses (take left devices) t (with_state world file (read_state (n == 0) n s.state))) (sym rows)
                (subst (λ (ds : List Seen). Stands addresses ds (slice_set table file (read_state (n == 0) n s.state).row) (with_state world file (read_state (n == 0) n s.state))) (sym (bench_called address.device old devices left at Tells false first called))
                (moved addresses (take left old) table world stands file address s.state (read_state (n == 0) n s.state) called.before called.after world.shelves is s.at here called.named so.same (λ name differ. refl)
                (stands_now (n == 0) refl) so.found_same (open_alone addresses (take left old) table world stands file address s.state is s.at is_open))))),
          ));
      next = so.next;
      count = so.count;
      fills = so.fills;
      bytes = λ e. ap (λ (a : Attempt). a.bytes) attempt ∙ ends.2 e;
    }
  where
    r : RowAt table file
    r = row_at table file within

    s : StateOf world.files file r.row
    s = state_at table world.files stands.rows file r.row r.is

    may_zero : may_read r.row ≡ 0
    may_zero = sym (at_some (slice_get table file) (λ row. status ≡ may_read row) r.row r.is asked) ∙ ok

    is_open : IsTrue (is_some s.state.row.how)
    is_open = can_read_open s.state.row.how s.state.row.ended (ap may_read s.is ∙ may_zero)

    here : device_found address.device (take left old) ≡ Some called.before
    here = found_before address.device old left at called.before first called.here

    mode : (mode : How) × (s.state.row.how ≡ Some mode) × OpenAmong called.before.files address.name mode s.state
    mode = open_mode s.state.row called.before address.name s.state s.state.row.how is_open
        (subst (λ (d : Option Seen). StandsOn s.state.row.how d address.name s.state) here (stands.standing file address s.state is s.at))

    so : ReadSo world address mode.0 s.state size n called.after.files called.before.files Fills
    so = so_for mode.0 s.state (subst (λ (d : Option Seen). SameShelf d (shelf_found address.device world.shelves)) here (stands.shelves address.device)) mode.2

    attempt : read_at world file address size ≡ read_of world file s.state size so.next
    attempt =
        allowed world file may_read (read_of world file (state_of world file) size (take size (drop (state_of world file).at (bytes_at world address)))) s.state r.row s.at s.is may_zero
        ∙ ap (λ (t : FileState). read_of world file t size (take size (drop t.at (bytes_at world address)))) (state_is world file s.state s.at)
        ∙ ap (read_of world file s.state size) so.is

    ends : (read_of world file s.state size so.next).status ≡ read_status (n == 0) × ((read_of world file s.state size so.next).world ≡ with_state world file (read_state (n == 0) n s.state)) × ((n == 0) ≡ false → (read_of world file s.state size so.next).bytes ≡ padded_to size so.next)
    ends = read_is world file s.state size n so.next so.count (n == 0) refl

    row_now : (b : Bool) → read_row b s.state.row ≡ (read_state b n s.state).row
    row_now true = refl
    row_now false = refl

    rows : now ≡ slice_set table file (read_state (n == 0) n s.state).row
    rows = at_some (slice_get table file) (λ row. now ≡ slice_set table file (read_row (n == 0) row)) r.row r.is after ∙ ap (λ row. slice_set table file (read_row (n == 0) row)) (sym s.is) ∙ ap (slice_set table file) (row_now (n == 0))

    stands_now : (b : Bool) → (n == 0) ≡ b → StandsOn (read_state b n s.state).row.how (Some called.after) address.name (read_state b n s.state)
    stands_now true e =
        let zero_n : n ≡ 0 = eqb-true n 0 e in
        subst (λ (h : Option How). StandsOn h (Some called.after) address.name (read_state true n s.state)) (sym mode.1)
        (so.open_now (read_state true n s.state) (omega (arith, zero_n)) (λ z t. let x : false ≡ true = t in cc) (λ t. absurd (let x : false ≡ true = t in cc)))
    stands_now false e =
        subst (λ (h : Option How). StandsOn h (Some called.after) address.name (read_state false n s.state)) (sym mode.1)
        (so.open_now (read_state false n s.state) refl (λ z t. let x : (0 == 0) ≡ false = ap (λ m. m == 0) (sym z) ∙ e in let y : true ≡ false = x in cc) (λ t. refl))

-- ---- the answers of READ

pub status_as : (b : Bool) → ◌≡◌ {A = ℕ} (if b then 10 else 0) (read_status b)
status_as true = refl
status_as false = refl

abbrev pub read_tried : World → ℕ → Address → ℕ → Attempt
read_tried world file address size = read_of world file (state_of world file) size (take size (drop (state_of world file).at (bytes_at world address)))

pub no_record : (result : Result ℕ FileFault) (status : ℕ) → result ≡ Ok status → (status ≡ 0 → ⊥) → result ≡ Ok 0 → ⊥
no_record result status is other none = other (let e : Ok status ≡ Ok 0 = sym is ∙ none in cc)

pub read_bytes : (files : List FileEntry) (old devices : List Seen) (table now : List FileRow) (world : World) (left left_now at file : ℕ) (device name : List ℕ) (address : Address) (n status : ℕ) (into mid : List ℕ) (result : Result ℕ FileFault) →
    Site files table file device name → slice_get (addresses_of files) file ≡ Some address → left_now ≡ left → result ≡ Ok (if n == 0 then 10 else 0) → Stands (addresses_of files) (take left old) table world → IsTold (device_found address.device (take left old)) →
    IsFirstAt device (take left old) at → IfSome (slice_get table file) (λ row. status ≡ may_read row) → status ≡ 0 → Called at (λ before after. Reads before name (got.Bytes n) into mid after) false old devices →
    IfSome (slice_get table file) (λ row. now ≡ slice_set table file (read_row (n == 0) row)) → ReadEnd (addresses_of files) address (take left_now devices) now world file (length into) n result (Filled n into mid)
read_bytes files old devices table now world left left_now at file device name address n status into mid result site here same answer stands told first asked ok asked_of after =
    let at_first : IsFirstAt address.device (take left old) at = first_named files table file device name site address here (take left old) at first in
    let called : Called at (λ before after. Reads before address.name (got.Bytes n) into mid after) false old devices = called_named files table file device name site address here (λ (m : List ℕ) (before after : Option (List MemFile)). Reads before m (got.Bytes n) into mid after) false old devices at asked_of in
    reads (addresses_of files) old devices table now world left left_now at file address (length into) n status result (λ before after. Reads before address.name (got.Bytes n) into mid after) (Filled n into mid) same
    (answer ∙ ap Ok (status_as (n == 0))) stands here site.within at_first asked ok called
    (λ mode state kept open_so. bytes_so world address mode state n called.before.files called.after.files (shelf_found address.device world.shelves) into mid refl kept open_so
    (told_first (take left old) address.device called.before (found_before address.device old left at called.before at_first called.here) told) called.tells)
    after

pub read_end : (files : List FileEntry) (old devices : List Seen) (table now : List FileRow) (world : World) (left left_now at file : ℕ) (device name : List ℕ) (address : Address) (status : ℕ) (into mid : List ℕ) (result : Result ℕ FileFault) →
    Site files table file device name → slice_get (addresses_of files) file ≡ Some address → left_now ≡ left → result ≡ Ok 10 → Stands (addresses_of files) (take left old) table world → IsTold (device_found address.device (take left old)) →
    IsFirstAt device (take left old) at → IfSome (slice_get table file) (λ row. status ≡ may_read row) → status ≡ 0 → Called at (λ before after. Reads before name got.End into mid after) false old devices →
    IfSome (slice_get table file) (λ row. now ≡ slice_set table file (read_row true row)) → ReadEnd (addresses_of files) address (take left_now devices) now world file (length into) 0 result (λ next. Unit {0})
read_end files old devices table now world left left_now at file device name address status into mid result site here same answer stands told first asked ok asked_of after =
    let at_first : IsFirstAt address.device (take left old) at = first_named files table file device name site address here (take left old) at first in
    let called : Called at (λ before after. Reads before address.name got.End into mid after) false old devices = called_named files table file device name site address here (λ (m : List ℕ) (before after : Option (List MemFile)). Reads before m got.End into mid after) false old devices at asked_of in
    reads (addresses_of files) old devices table now world left left_now at file address (length into) 0 status result (λ before after. Reads before address.name got.End into mid after) (λ next. Unit {0}) same
    answer stands here site.within at_first asked ok called
    (λ mode state kept open_so. end_so world address mode state called.before.files called.after.files (shelf_found address.device world.shelves) into mid refl kept open_so
    (told_first (take left old) address.device called.before (found_before address.device old left at called.before at_first called.here) told) called.tells)
    after

-- a record that was read is the padded one
pub record_read : (addresses : List Address) (address : Address) (devices : List Seen) (now : List FileRow) (world : World) (file size n : ℕ) (result : Result ℕ FileFault) (old mid new : List ℕ) → ReadEnd addresses address devices now world file size n result (Filled n old mid) →
    result ≡ Ok (if n == 0 then 10 else 0) → length mid ≡ size → ((n == 0) ≡ false → new ≡ padded_to (length mid) (take n mid)) → result ≡ Ok 0 → new ≡ (read_at world file address size).bytes
record_read addresses address devices now world file size n result old mid new end answer long padded none = go (n == 0) refl
  where
    front : take n mid ≡ end.next
    front = ap (take n) end.fills ∙ ap (λ k. take k (end.next ++ drop n old)) end.count ∙ take-append-le (length end.next) end.next (drop n old) (omega arith) ∙ take_whole end.next (length end.next) (omega arith)

    go : (b : Bool) → (n == 0) ≡ b → new ≡ (read_at world file address size).bytes
    go true e = absurd (let x : ◌≡◌ {A = Result ℕ FileFault} (Ok (if true then 10 else 0)) (Ok 0) = ap (λ (b : Bool). Ok (if b then 10 else 0)) (sym e) ∙ sym answer ∙ none in let y : ◌≡◌ {A = ℕ} 10 0 = cc in omega (arith, y))
    go false e = padded e ∙ ap (λ k. padded_to k (take n mid)) long ∙ ap (padded_to size) front ∙ sym (end.bytes e)
