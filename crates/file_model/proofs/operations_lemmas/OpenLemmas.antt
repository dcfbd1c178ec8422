-- What OPEN comes to, on a device that tells its files.
use Rattle.std.proofs.Common.{◌≡◌, ◌∙◌, sym, subst, ℕ, zero, suc, ◌<◌, ◌≤◌, Bool, true, false, ◌&&◌, ◌||◌, not, List, [], ◌∷◌, ◌++◌, map, length, take, Option, Some, None, IfSome, IsSome, IsSomeAnd, IsTrue, is_some, refl, ap, arith, slice_get, slice_set, if◌then◌else◌, Result, Ok}
use Rattle.std.specs.Option.{option_map}
use Rattle.std.specs.Str.{bytes_eq}
use Rattle.cob_tree.specs.declared.file.How.{How}
use Rattle.cob_tree.specs.declared.file.How.TheVariants as how
use Rattle.file_model.specs.declared.device.Opened.TheVariants as opened
use Rattle.file_model.specs.declared.mem_file.MemFile.{MemFile}
use Rattle.file_model.specs.declared.table.FileRow.{FileRow}
use Rattle.file_model.specs.Attempts.{Address, Attempt, address_of, can_be_opened, is_output, is_taken, noted, opened_at, opened_from, opened_on, opened_with, permitted, refused, same_address, start_at, state_of, with_bytes}
use Rattle.file_model.specs.Status.{may_open, opened_row, other_row}
use Rattle.file_model.specs.Told.{Opens, changed, found, made, opened_as, opening}
use Rattle.file_model.specs.World.{File, FileState, Shelf, World, file_found, file_put, shelf_found, shelf_put}
use Rattle.file_model.specs.declared.operations.fault.FileFault.{FileFault}
use Rattle.file_model.specs.operations.Seen.{IsFirstAt, Nowhere, Seen, device_found}
use Rattle.file_model.specs.operations.Standing.{IsTold, OpenAmong, OpenAs, SameFiles, SameShelf, Stands, as_file, is_open_there, row_of}
use Rattle.file_model.specs.operations.Calls.{Breaks, Called, Comes}
use Rattle.file_model.proofs.operations_lemmas.FileLemmas.{file_found_shown, found_changed, found_changed_other, found_made, found_made_other, name_refl, shelf_put_found, shelf_put_other, shown_changed, shown_made, with_files}
use Rattle.file_model.proofs.operations_lemmas.StandLemmas.{SameFound, moved, some_same}
use Rattle.file_model.proofs.operations_lemmas.BenchLemmas.{at_some, bench_called, found_before}
use Rattle.file_model.proofs.operations_lemmas.OpLemmas.{RowAt, StateOf, allowed, noted_stands, row_at, state_at}
use Rattle.file_model.proofs.operations_lemmas.EndLemmas.{unchanged}

-- ---- another file of the program there

pub taken_rows : (address : Address) (addresses : List Address) (states : List FileState) → is_open_there address addresses (map row_of states) ≡ is_taken address addresses states
taken_rows address [] states = refl
taken_rows address (other ∷ addresses) [] = refl
taken_rows address (other ∷ addresses) (state ∷ states) = ap (λ b. is_some state.row.how && same_address address other || b) (taken_rows address addresses states)

or_second : (a b : Bool) → (a || b) ≡ false → b ≡ false
or_second true b e = absurd (let x : true ≡ false = e in cc)
or_second false b e = e

same_here : (address : Address) → same_address address address ≡ true
same_here address = ap (λ b. b && bytes_eq address.name address.name) (name_refl address.device) ∙ name_refl address.name

taken_alone : (address : Address) (addresses : List Address) (states : List FileState) → is_taken address addresses states ≡ false →
    (other : ℕ) (there : FileState) → slice_get addresses other ≡ Some address → slice_get states other ≡ Some there → IsTrue (is_some there.row.how) → ⊥
taken_alone address [] states e other there is at open_so = let x : None ≡ Some address = is in cc
taken_alone address (first ∷ addresses) [] e other there is at open_so = let x : None ≡ Some there = at in cc
taken_alone address (first ∷ addresses) (state ∷ states) e zero there is at open_so =
    let a : first ≡ address = some_same first address is in
    let s : state ≡ there = some_same state there at in
    let o : is_some state.row.how ≡ true = ap (λ (t : FileState). is_some t.row.how) s ∙ open_so in
    let t : same_address address first ≡ true = ap (same_address address) a ∙ same_here address in
    let x : (true && true || is_taken address addresses states) ≡ false = sym (ap (λ b. b && same_address address first || is_taken address addresses states) o ∙ ap (λ b. true && b || is_taken address addresses states) t) ∙ e in
    let y : true ≡ false = x in cc
taken_alone address (first ∷ addresses) (state ∷ states) e (suc other) there is at open_so =
    taken_alone address addresses states (or_second (is_some state.row.how && same_address address first) (is_taken address addresses states) e) other there is at open_so

-- ---- what a device that opens the file makes of it

abbrev pub opened_state : How → List ℕ → FileState
opened_state mode bytes = record { row = opened_row mode; at = start_at mode bytes; start = 0 }

-- the attempt, and what stands after it
pub record OpenedSo (world : World) (file : ℕ) (address : Address) (mode : How) (attempt : Attempt) (before after : Option (List MemFile)) : Type 0 where
  pub bytes : List ℕ
  pub shelves : List Shelf
  pub is : attempt ≡ opened_with (record world { shelves = shelves }) file mode bytes
  pub same : SameFiles after (shelf_found address.device shelves)
  pub others : (name : List ℕ) → bytes_eq address.device name ≡ false → shelf_found name shelves ≡ shelf_found name world.shelves
  pub among : OpenAmong after address.name mode (opened_state mode bytes)
  pub found_same : (name : List ℕ) → bytes_eq address.name name ≡ false → SameFound name before after

pub shown_kept : (name : List ℕ) (change : MemFile → MemFile) → ((file : MemFile) → as_file (change file) ≡ as_file file) → (files : List MemFile) → map as_file (changed name change files) ≡ map as_file files
shown_kept name change keeps [] = refl
shown_kept name change keeps (first ∷ files) = go (bytes_eq first.name name) (shown_kept name change keeps files)
  where
    go : (b : Bool) → map as_file (changed name change files) ≡ map as_file files → map as_file (if b then change first ∷ files else first ∷ changed name change files) ≡ as_file first ∷ map as_file files
    go true more = ap (λ f. f ∷ map as_file files) (keeps first)
    go false more = ap (λ l. as_file first ∷ l) more

opened_shown : (mode : How) → is_output mode ≡ false → (file : MemFile) → as_file (opened_as mode file) ≡ as_file file
opened_shown mode e file = ap (shown_so file) e
  where
    shown_so : MemFile → Bool → File
    shown_so f b = record { name = f.name; bytes = if b then [] else f.bytes }

start_within : (mode : How) (bytes : List ℕ) → start_at mode bytes ≤ length (if is_output mode then [] else bytes)
start_within how.Input bytes = omega arith
start_within how.Output bytes = omega arith
start_within how.InOut bytes = omega arith
start_within how.Extend bytes = omega arith

pub shelf_told : (name : List ℕ) (files : List MemFile) (told : List File) → told ≡ map as_file files → file_found name told ≡ option_map as_file (found name files)
shelf_told name files told same = ap (file_found name) same ∙ file_found_shown name files

so_kept : (world : World) (file : ℕ) (address : Address) (mode : How) (files : List MemFile) (now : Option (List MemFile)) (told : MemFile) (shelf : Shelf) → is_output mode ≡ false → shelf_found address.device world.shelves ≡ Some shelf → shelf.files ≡ map as_file files →
    found address.name files ≡ Some told → now ≡ Some (changed address.name (opened_as mode) files) → OpenedSo world file address mode (opened_on world file address mode (shelf_found address.device world.shelves)) (Some files) now
so_kept world file address mode files now told shelf kept here same e done =
    record {
      bytes = told.bytes;
      shelves = world.shelves;
      is =
          ap (opened_on world file address mode) here
          ∙ ap (opened_from world file address mode) (shelf_told address.name files shelf.files same ∙ ap (option_map as_file) e)
          ∙ ap (λ b. if b then opened_with (with_bytes world address []) file mode [] else opened_with world file mode told.bytes) kept;
      same = subst (λ (n : Option (List MemFile)). SameFiles n (shelf_found address.device world.shelves)) (sym done)
          (subst (λ (s : Option Shelf). SameFiles (Some (changed address.name (opened_as mode) files)) s) (sym here) (same ∙ sym (shown_kept address.name (opened_as mode) (opened_shown mode kept) files)));
      others = λ name differ. refl;
      among = subst (λ (n : Option (List MemFile)). OpenAmong n address.name mode (opened_state mode told.bytes)) (sym done)
          (subst (λ (o : Option MemFile). IsSomeAnd o (OpenAs mode (opened_state mode told.bytes))) (sym (found_changed address.name (opened_as mode) (λ f. refl) files told e))
          (record { how = refl; place = refl; within = start_within mode told.bytes; read = λ x. absurd (let y : false ≡ true = x in cc) }));
      found_same = λ name differ. subst (λ (n : Option (List MemFile)). SameFound name (Some files) n) (sym done) (found_changed_other address.name name (opened_as mode) (λ f. refl) differ files);
    }

made_from : (world : World) (file : ℕ) (address : Address) (o : Option File) → opened_from world file address how.Output o ≡ opened_with (with_bytes world address []) file how.Output []
made_from world file address None = refl
made_from world file address (Some f) = refl

-- OUTPUT, on a file that is there or on a new one
so_made : (world : World) (file : ℕ) (address : Address) (files files_now : List MemFile) (now : Option (List MemFile)) (shelf : Shelf) → shelf_found address.device world.shelves ≡ Some shelf → shelf.files ≡ map as_file files →
    map as_file files_now ≡ file_put address.name [] (map as_file files) → IsSomeAnd (found address.name files_now) (OpenAs how.Output (opened_state how.Output [])) →
    ((name : List ℕ) → bytes_eq address.name name ≡ false → found name files_now ≡ found name files) → now ≡ Some files_now →
    OpenedSo world file address how.Output (opened_on world file address how.Output (shelf_found address.device world.shelves)) (Some files) now
so_made world file address files files_now now shelf here same put there others done =
    record {
      bytes = [];
      shelves = shelf_put address.device (file_put address.name []) world.shelves;
      is = ap (opened_on world file address how.Output) here ∙ made_from world file address (file_found address.name shelf.files);
      same = subst (λ (n : Option (List MemFile)). SameFiles n (shelf_found address.device (shelf_put address.device (file_put address.name []) world.shelves))) (sym done)
          (subst (λ (s : Option Shelf). SameFiles (Some files_now) s) (sym (shelf_put_found address.device (file_put address.name []) world.shelves ∙ ap (option_map (with_files (file_put address.name []))) here))
          (ap (file_put address.name []) same ∙ sym put));
      others = λ name differ. shelf_put_other address.device name (file_put address.name []) differ world.shelves;
      among = subst (λ (n : Option (List MemFile)). OpenAmong n address.name how.Output (opened_state how.Output [])) (sym done) there;
      found_same = λ name differ. subst (λ (n : Option (List MemFile)). SameFound name (Some files) n) (sym done) (others name differ);
    }

emptied : (file : MemFile) → OpenAs how.Output (opened_state how.Output []) (opened_as how.Output file)
emptied file = record { how = refl; place = refl; within = omega arith; read = λ x. absurd (let y : false ≡ true = x in cc) }

new_one : (name : List ℕ) → OpenAs how.Output (opened_state how.Output []) (made name)
new_one name = record { how = refl; place = refl; within = omega arith; read = λ x. absurd (let y : false ≡ true = x in cc) }

pub none_there : (now : Option (List MemFile)) → now ≡ None → IsSome now → ⊥
none_there now e there = let x : IsSome {T = List MemFile} None = subst (λ (n : Option (List MemFile)). IsSome n) e there in let y : false ≡ true = x in cc

so_ready : (world : World) (file : ℕ) (address : Address) (mode : How) (files : List MemFile) (now : Option (List MemFile)) (shelf : Shelf) → shelf_found address.device world.shelves ≡ Some shelf → shelf.files ≡ map as_file files →
    (o : Option MemFile) → found address.name files ≡ o → now ≡ opening mode address.name files o → IsSome now → OpenedSo world file address mode (opened_on world file address mode (shelf_found address.device world.shelves)) (Some files) now
so_ready world file address how.Input files now shelf here same (Some told) e done there = so_kept world file address how.Input files now told shelf refl here same e done
so_ready world file address how.InOut files now shelf here same (Some told) e done there = so_kept world file address how.InOut files now told shelf refl here same e done
so_ready world file address how.Extend files now shelf here same (Some told) e done there = so_kept world file address how.Extend files now told shelf refl here same e done
so_ready world file address how.Output files now shelf here same (Some told) e done there =
    so_made world file address files (changed address.name (opened_as how.Output) files) now shelf here same
    (shown_changed address.name (opened_as how.Output) (λ f. refl) files told e)
    (subst (λ (o : Option MemFile). IsSomeAnd o (OpenAs how.Output (opened_state how.Output []))) (sym (found_changed address.name (opened_as how.Output) (λ f. refl) files told e)) (emptied told))
    (λ name differ. found_changed_other address.name name (opened_as how.Output) (λ f. refl) differ files) done
so_ready world file address how.Output files now shelf here same None e done there =
    so_made world file address files (files ++ made address.name ∷ []) now shelf here same
    (shown_made address.name files e)
    (subst (λ (o : Option MemFile). IsSomeAnd o (OpenAs how.Output (opened_state how.Output []))) (sym (found_made address.name files e)) (new_one address.name))
    (λ name differ. found_made_other address.name name differ files) done
so_ready world file address how.Input files now shelf here same None e done there = absurd (none_there now done there)
so_ready world file address how.InOut files now shelf here same None e done there = absurd (none_there now done there)
so_ready world file address how.Extend files now shelf here same None e done there = absurd (none_there now done there)

told_so : (world : World) (file : ℕ) (address : Address) (mode : How) (before after : Option (List MemFile)) (o : Option Shelf) → shelf_found address.device world.shelves ≡ o → SameFiles before o → IsSome before →
    Opens before address.name mode opened.Ready after → OpenedSo world file address mode (opened_on world file address mode (shelf_found address.device world.shelves)) before after
told_so world file address mode None after o here same told call = absurd (none_there None refl told)
told_so world file address mode (Some files) after None here same told call = absurd same
told_so world file address mode (Some files) after (Some shelf) here same told call =
    so_ready world file address mode files after shelf here same (found address.name files) refl call.0 call.1

ready_attempt : (world : World) (addresses : List Address) (file : ℕ) (address : Address) (mode : How) → can_be_opened address.name ≡ true → is_taken address addresses world.files ≡ false →
    (if not (can_be_opened address.name) || is_taken address addresses world.files then refused world file 30 else opened_on world file address mode (shelf_found address.device world.shelves)) ≡ opened_on world file address mode (shelf_found address.device world.shelves)
ready_attempt world addresses file address mode named free =
    ap (λ b. if not b || is_taken address addresses world.files then refused world file 30 else opened_on world file address mode (shelf_found address.device world.shelves)) named
    ∙ ap (λ b. if not true || b then refused world file 30 else opened_on world file address mode (shelf_found address.device world.shelves)) free

pub opens : (addresses : List Address) (old devices : List Seen) (table now : List FileRow) (world : World) (left at file : ℕ) (address : Address) (mode : How) (status : ℕ) →
    Stands addresses (take left old) table world → slice_get addresses file ≡ Some address → file < length table → IsFirstAt address.device (take left old) at →
    IfSome (slice_get table file) (λ row. status ≡ may_open row) → status ≡ 0 → can_be_opened address.name ≡ true → is_open_there address addresses table ≡ false →
    (called : Called at (λ before after. Opens before address.name mode opened.Ready after) false old devices) → IsSome called.before.files → now ≡ slice_set table file (opened_row mode) →
    Comes (Ok 0) addresses address.device (take left devices) now world (opened_at world addresses file address mode)
opens addresses old devices table now world left at file address mode status stands is within first asked ok named free called told after =
    subst (λ (a : Attempt). Comes (Ok 0) addresses address.device (take left devices) now world a)
    (sym (allowed world file may_open tried_so s.state r.row s.at s.is may_zero ∙ ready_attempt world addresses file address mode named not_taken ∙ so.is)) (
      refl,
      subst (λ (t : List FileRow). Stands addresses (take left devices) t done.world) (sym after)
          (subst (λ (ds : List Seen). Stands addresses ds (slice_set table file (opened_row mode)) done.world) (sym (bench_called address.device old devices left at (λ before after. Opens before address.name mode opened.Ready after) false first called))
          (moved addresses (take left old) table world stands file address s.state (opened_state mode so.bytes) called.before called.after so.shelves is s.at here called.named so.same so.others so.among so.found_same
          (λ other there other_is other_at open_so. absurd (taken_alone address addresses world.files not_taken other there other_is other_at open_so)))),
    )
  where
    r : RowAt table file
    r = row_at table file within

    s : StateOf world.files file r.row
    s = state_at table world.files stands.rows file r.row r.is

    may_zero : may_open r.row ≡ 0
    may_zero = sym (at_some (slice_get table file) (λ row. status ≡ may_open row) r.row r.is asked) ∙ ok

    here : device_found address.device (take left old) ≡ Some called.before
    here = found_before address.device old left at called.before first called.here

    not_taken : is_taken address addresses world.files ≡ false
    not_taken = sym (taken_rows address addresses world.files) ∙ ap (is_open_there address addresses) (sym stands.rows) ∙ free

    tried_so : Attempt
    tried_so = if not (can_be_opened address.name) || is_taken address addresses world.files then refused world file 30 else opened_on world file address mode (shelf_found address.device world.shelves)

    so : OpenedSo world file address mode (opened_on world file address mode (shelf_found address.device world.shelves)) called.before.files called.after.files
    so = told_so world file address mode called.before.files called.after.files (shelf_found address.device world.shelves) refl
        (subst (λ (d : Option Seen). SameShelf d (shelf_found address.device world.shelves)) here (stands.shelves address.device)) told called.tells

    done : Attempt
    done = opened_with (record world { shelves = so.shelves }) file mode so.bytes

-- ---- where it is refused

pub refused_with : (addresses : List Address) (devices : List Seen) (name : List ℕ) (table now : List FileRow) (world : World) (file status answer : ℕ) (result : Result ℕ FileFault) (may : FileRow → ℕ) (attempt : Attempt) → result ≡ Ok answer →
    Stands addresses devices table world → file < length table → IfSome (slice_get table file) (λ row. status ≡ may row) → status ≡ 0 → attempt ≡ refused world file answer →
    IfSome (slice_get table file) (λ row. now ≡ slice_set table file (other_row row)) →
    Comes result addresses name devices now world (permitted world file (may (state_of world file).row) attempt)
refused_with addresses devices name table now world file status answer result may attempt is stands within asked ok turned after =
    subst (λ (r : Result ℕ FileFault). Comes r addresses name devices now world (permitted world file (may (state_of world file).row) attempt)) (sym is)
    (subst (λ (a : Attempt). Comes (Ok answer) addresses name devices now world a) (sym (allowed world file may attempt s.state r.row s.at s.is may_zero ∙ turned))
    (refl, subst (λ (t : List FileRow). Stands addresses devices t (noted world file)) (sym rows) (noted_stands addresses devices table world stands file s.state s.at)))
  where
    r : RowAt table file
    r = row_at table file within

    s : StateOf world.files file r.row
    s = state_at table world.files stands.rows file r.row r.is

    may_zero : may r.row ≡ 0
    may_zero = sym (at_some (slice_get table file) (λ row. status ≡ may row) r.row r.is asked) ∙ ok

    rows : now ≡ slice_set table file (other_row s.state.row)
    rows = at_some (slice_get table file) (λ row. now ≡ slice_set table file (other_row row)) r.row r.is after ∙ ap (λ row. slice_set table file (other_row row)) (sym s.is)

abbrev pub open_tried : World → List Address → ℕ → Address → How → Attempt
open_tried world addresses file address mode =
    if not (can_be_opened address.name) || is_taken address addresses world.files then refused world file 30 else opened_on world file address mode (shelf_found address.device world.shelves)

-- the name can't be opened, or another file of the program is open there
pub turned_down : (world : World) (addresses : List Address) (table : List FileRow) (file : ℕ) (address : Address) (mode : How) → table ≡ map row_of world.files → (not (can_be_opened address.name) || is_open_there address addresses table) ≡ true → open_tried world addresses file address mode ≡ refused world file 30
turned_down world addresses table file address mode rows down =
    ap (λ b. if b then refused world file 30 else opened_on world file address mode (shelf_found address.device world.shelves))
    (ap (λ b. not (can_be_opened address.name) || b) (sym (taken_rows address addresses world.files) ∙ ap (is_open_there address addresses) (sym rows)) ∙ down)

let_through : (world : World) (addresses : List Address) (table : List FileRow) (file : ℕ) (address : Address) (mode : How) → table ≡ map row_of world.files → (not (can_be_opened address.name) || is_open_there address addresses table) ≡ false → open_tried world addresses file address mode ≡ opened_on world file address mode (shelf_found address.device world.shelves)
let_through world addresses table file address mode rows down =
    ap (λ b. if b then refused world file 30 else opened_on world file address mode (shelf_found address.device world.shelves))
    (ap (λ b. not (can_be_opened address.name) || b) (sym (taken_rows address addresses world.files) ∙ ap (is_open_there address addresses) (sym rows)) ∙ down)

-- no device of the name is on the bench
pub no_device : (world : World) (addresses : List Address) (devices : List Seen) (table : List FileRow) (file : ℕ) (address : Address) (mode : How) → Stands addresses devices table world → (not (can_be_opened address.name) || is_open_there address addresses table) ≡ false → Nowhere address.device devices →
    open_tried world addresses file address mode ≡ refused world file 30
no_device world addresses devices table file address mode stands down nowhere =
    let_through world addresses table file address mode stands.rows down
    ∙ ap (opened_on world file address mode) (subst (λ (d : Option Seen). SameShelf d (shelf_found address.device world.shelves)) nowhere (stands.shelves address.device))

-- the file is missing
pub record Missed (world : World) (file : ℕ) (address : Address) (mode : How) (before after : Option (List MemFile)) : Type 0 where
  pub is : opened_on world file address mode (shelf_found address.device world.shelves) ≡ refused world file 35
  pub same : after ≡ before

missed_on : (world : World) (file : ℕ) (address : Address) (mode : How) (files : List MemFile) (o : Option MemFile) → opening mode address.name files o ≡ None → opened_from world file address mode (option_map as_file o) ≡ refused world file 35
missed_on world file address mode files (Some told) e = absurd (let x : Some (changed address.name (opened_as mode) files) ≡ None = e in cc)
missed_on world file address how.Input files None e = refl
missed_on world file address how.InOut files None e = refl
missed_on world file address how.Extend files None e = refl
missed_on world file address how.Output files None e = absurd (let x : Some (files ++ made address.name ∷ []) ≡ None = e in cc)

missed_so : (world : World) (file : ℕ) (address : Address) (mode : How) (before after : Option (List MemFile)) (o : Option Shelf) → shelf_found address.device world.shelves ≡ o → SameFiles before o → IsSome before →
    Opens before address.name mode opened.Missing after → Missed world file address mode before after
missed_so world file address mode None after o here same told call = absurd (none_there None refl told)
missed_so world file address mode (Some files) after None here same told call = absurd same
missed_so world file address mode (Some files) after (Some shelf) here same told call =
    record {
      is = ap (opened_on world file address mode) here ∙ ap (opened_from world file address mode) (shelf_told address.name files shelf.files same) ∙ missed_on world file address mode files (found address.name files) call.0;
      same = call.1;
    }

pub missing : (addresses : List Address) (old devices : List Seen) (table now : List FileRow) (world : World) (left at file : ℕ) (address : Address) (mode : How) (status : ℕ) (result : Result ℕ FileFault) → result ≡ Ok 35 →
    Stands addresses (take left old) table world → slice_get addresses file ≡ Some address → file < length table → IsFirstAt address.device (take left old) at →
    IfSome (slice_get table file) (λ row. status ≡ may_open row) → status ≡ 0 → (not (can_be_opened address.name) || is_open_there address addresses table) ≡ false →
    (called : Called at (λ before after. Opens before address.name mode opened.Missing after) false old devices) → IsSome called.before.files →
    IfSome (slice_get table file) (λ row. now ≡ slice_set table file (other_row row)) →
    Comes result addresses address.device (take left devices) now world (opened_at world addresses file address mode)
missing addresses old devices table now world left at file address mode status result answer stands is within first asked ok down called told after =
    subst (λ (ds : List Seen). Comes result addresses address.device ds now world (opened_at world addresses file address mode))
    (sym (unchanged old devices left at address.device (λ before after. Opens before address.name mode opened.Missing after) first called so.same))
    (refused_with addresses (take left old) address.device table now world file status 35 result may_open (open_tried world addresses file address mode) answer stands within asked ok
    (let_through world addresses table file address mode stands.rows down ∙ so.is) after)
  where
    here : device_found address.device (take left old) ≡ Some called.before
    here = found_before address.device old left at called.before first called.here

    so : Missed world file address mode called.before.files called.after.files
    so = missed_so world file address mode called.before.files called.after.files (shelf_found address.device world.shelves) refl
        (subst (λ (d : Option Seen). SameShelf d (shelf_found address.device world.shelves)) here (stands.shelves address.device)) told called.tells

pub both_false : (a b : Bool) → (not a || b) ≡ false → (a ≡ true) × (b ≡ false)
both_false true b e = (refl, e)
both_false false b e = absurd (let x : true ≡ false = e in cc)

-- ---- the ends that no world is needed for

pub status_breaks : (result : Result ℕ FileFault) (status : ℕ) (addresses : List Address) (name : List ℕ) (devices : List Seen) (table : List FileRow) (world : World) → result ≡ Ok status → Breaks result addresses name devices table world
status_breaks result status addresses name devices table world is = subst (λ (r : Result ℕ FileFault). Breaks r addresses name devices table world) (sym is) tt

open_same : (before after : Option (List MemFile)) (name : List ℕ) (mode : How) → Opens before name mode opened.NoMemory after → after ≡ before
open_same None after name mode call = call
open_same (Some files) after name mode call = call

pub open_wanted : (addresses : List Address) (old devices : List Seen) (table : List FileRow) (world : World) (left left_now at : ℕ) (device name : List ℕ) (mode : How) → left_now ≡ left → Stands addresses (take left old) table world → IsFirstAt device (take left old) at →
    Called at (λ before after. Opens before name mode opened.NoMemory after) false old devices → Stands addresses (take left_now devices) table world
open_wanted addresses old devices table world left left_now at device name mode same stands first called =
    subst (λ (l : ℕ). Stands addresses (take l devices) table world) (sym same)
    (subst (λ (ds : List Seen). Stands addresses ds table world) (sym (unchanged old devices left at device (λ before after. Opens before name mode opened.NoMemory after) first called (open_same called.before.files called.after.files name mode called.tells))) stands)

pub told_first : (devices : List Seen) (name : List ℕ) (device : Seen) → device_found name devices ≡ Some device → IsTold (device_found name devices) → IsSome device.files
told_first devices name device here told = subst (λ (d : Option Seen). IsTold d) here told

-- what was asked of OPEN's names, at the file's address
pub down_at : (text entry : List ℕ) (address : Address) (addresses : List Address) (rows table : List FileRow) (result b : Bool) → text ≡ entry → address_of entry ≡ address → rows ≡ table →
    result ≡ (not (can_be_opened (address_of text).name) || is_open_there (address_of text) addresses rows) → result ≡ b → (not (can_be_opened address.name) || is_open_there address addresses table) ≡ b
down_at text entry address addresses rows table result b e a r asked is =
    ap (λ t. not (can_be_opened address.name) || is_open_there address addresses t) (sym r)
    ∙ sym (ap (λ (x : Address). not (can_be_opened x.name) || is_open_there x addresses rows) (ap address_of e ∙ a))
    ∙ sym asked ∙ is

pub nowhere_named : (device name : List ℕ) (devices : List Seen) → device ≡ name → Nowhere device devices → Nowhere name devices
nowhere_named device name devices e nowhere = subst (λ (n : List ℕ). Nowhere n devices) e nowhere

pub missed_world : (result : Result ℕ FileFault) (addresses : List Address) (name : List ℕ) (devices : List Seen) (left left_now : ℕ) (now : List FileRow) (world : World) (attempt : Attempt) → left_now ≡ left →
    Comes result addresses name (take left devices) now world attempt → Comes result addresses name (take left_now devices) now world attempt
missed_world result addresses name devices left left_now now world attempt same comes = subst (λ (l : ℕ). Comes result addresses name (take l devices) now world attempt) (sym same) comes
