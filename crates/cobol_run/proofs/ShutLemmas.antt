-- Where no file is open, nothing is left to close; else the files are closed, on the devices that are
-- left.
use Rattle.std.proofs.Common.{◌≡◌, ◌∙◌, sym, ap, subst, ℕ, zero, suc, ◌+◌, ◌-◌, ◌<◌, ◌≤◌, ◌^◌, arith, inl, inr, Bool, true, false, ◌||◌, List, [], ◌∷◌, ◌++◌, append_assoc, drop, length, take, Option, Some, None, IfSome, IsSome, IsSomeAnd, if◌then◌else◌, refl, slice_get}
use Rattle.std.proofs.lemmas.Bool.{cases_lt}
use Rattle.std.specs.Str.{bytes_eq}
use Rattle.file_model.specs.declared.table.FileRow.{FileRow}
use Rattle.file_model.specs.Attempts.{Address}
use Rattle.file_model.specs.World.{World}
use Rattle.file_model.specs.operations.Calls.{addresses_of}
use Rattle.file_model.specs.operations.Falling.{AreShut, Failed, FailedAs, LeftOf, is_used}
use Rattle.file_model.specs.operations.Seen.{Seen, device_found}
use Rattle.file_model.specs.operations.Shutting.{Closes, LeavesFiles, StandsLeft, are_some}
use Rattle.file_model.specs.operations.Standing.{SameShelf}
use Rattle.cob_base.specs.Sink.{SinkCall}
use Rattle.cob_tree.specs.declared.file.FileEntry.{FileEntry}
use Rattle.cob_tree.specs.declared.program.Program.{Program}
use Rattle.cobol_theory.specs.cobol_meaning.Runs.{Files}
use Rattle.cobol_run.specs.declared.machine.Machine.{Machine}
use Rattle.cobol_run.specs.declared.running.Ran.{Ran}
use Rattle.cobol_run.specs.declared.running.Ran.TheVariants as ran
use Rattle.cobol_run.specs.Falling.{FellNamed, Names, NamesDevice, NamesFit, RunFalls, breaks_off}
use Rattle.cobol_run.specs.Filing.{is_open, some_open}
use Rattle.cobol_run.specs.Over.{ComesTo, FilesEnd, OpenYet, StepsEnd}
use Rattle.file_model.proofs.operations_lemmas.FileLemmas.{name_same}
use Rattle.file_model.proofs.operations_lemmas.FallLemmas.{left_same}
use Rattle.file_model.proofs.operations_lemmas.ShutLemmas.{nothing_shut}
use Rattle.cobol_run.proofs.OverRunLemmas.{comes_late, comes_with}

-- ---- none is open

neither : (a b : Bool) → (a || b) ≡ false → (a ≡ false) × (b ≡ false)
neither true b e = absurd (let x : true ≡ false = e in cc)
neither false b e = (refl, e)

row_shut : (rows : List FileRow) (k : ℕ) → some_open rows ≡ false → IsSomeAnd (slice_get rows k) (λ (row : FileRow). IsSome row.how) → ⊥
row_shut [] k none opened_so = opened_so
row_shut (first ∷ rows) zero none opened_so = let x : false ≡ true = sym (neither (is_open first) (some_open rows) none).0 ∙ opened_so in let never : ⊥ = cc in never
row_shut (first ∷ rows) (suc k) none opened_so = row_shut rows k (neither (is_open first) (some_open rows) none).1 opened_so

none_open_left : (addresses : List Address) (gone : List (List ℕ)) (devices : List Seen) (table : List FileRow) (world : World) → some_open table ≡ false → StandsLeft addresses gone devices table world → LeavesFiles addresses gone devices world
none_open_left addresses gone devices table world none so = record {
  same = λ name apart. subst (SameShelf (device_found name devices)) (so.shelves name apart) (so.stands.shelves name);
  shut = λ file address opened_so. absurd (row_shut table file none (so.still file address opened_so));
}

pub none_left : (start machine : Machine) (steps : ℕ) (sink : SinkCall) (left now : ℕ) (old new : List Seen) (came : Ran) → machine.plan ≡ start.plan → some_open machine.table.rows ≡ false → StepsEnd start machine steps sink left now old new came → FilesEnd start steps sink left now old new came
none_left start machine steps sink left now old new came plan none so = record {
  gone = so.gone;
  bench = so.bench;
  names = so.names;
  files = λ program files own begun.
      comes_with program files steps sink (OpenYet so.gone machine (take now new)) (LeavesFiles (addresses_of start.plan.program.now.files) so.gone (take now new))
      (λ world stands. subst (λ p. LeavesFiles (addresses_of p.program.now.files) so.gone (take now new) world) plan (none_open_left (addresses_of machine.plan.program.now.files) so.gone (take now new) machine.table.rows world none stands))
      came (so.files program files own begun);
}

-- ---- the last of the names is that of the first device that failed

record LastOf (name : List ℕ) (later : List (List ℕ)) (old fallen : List Seen) : Type 0 where
  pub after : Seen
  pub at : slice_get fallen (length later) ≡ Some after
  pub so : FailedAs name old after

last_of : (used : List ℕ → Bool) (later : List (List ℕ)) (name : List ℕ) (old fallen : List Seen) → Failed used (later ++ name ∷ []) old fallen → LastOf name later old fallen
last_of used [] name old [] failed = absurd failed
last_of used [] name old (after ∷ fallen) failed = record { after = after; at = refl; so = failed.0 }
last_of used (first ∷ later) name old [] failed = absurd failed
last_of used (first ∷ later) name old (after ∷ fallen) failed =
    let more : LastOf name later old fallen = last_of used later name old fallen failed.3 in
    record { after = more.after; at = more.at; so = more.so }

get_front : (xs ys : List Seen) (k : ℕ) (x : Seen) → slice_get xs k ≡ Some x → slice_get (xs ++ ys) k ≡ Some x
get_front [] ys k x e = cc
get_front (first ∷ xs) ys zero x e = e
get_front (first ∷ xs) ys (suc k) x e = get_front xs ys k x e

get_of_drop : (xs : List Seen) (n k : ℕ) → slice_get (drop n xs) k ≡ slice_get xs (n + k)
get_of_drop xs zero k = ap (slice_get xs) (let e : k ≡ 0 + k = omega arith in e)
get_of_drop [] (suc n) k = refl
get_of_drop (first ∷ xs) (suc n) k = get_of_drop xs n k ∙ ap (slice_get (first ∷ xs)) (let e : suc (n + k) ≡ suc n + k = omega arith in e)

length_one_more : (later : List (List ℕ)) (name : List ℕ) → length (later ++ name ∷ []) ≡ suc (length later)
length_one_more [] name = refl
length_one_more (first ∷ later) name = ap suc (length_one_more later name)

pub fell_named : (used : List ℕ → Bool) (later : List (List ℕ)) (name : List ℕ) (left now : ℕ) (old new : List Seen) → LeftOf used (later ++ name ∷ []) left now old new → FellNamed name left now old new
fell_named used later name left now old new so =
    let last : LastOf name later (take left old) so.fallen = last_of used later name (take left old) so.fallen so.failed in
    let count : now + length (later ++ name ∷ []) ≡ left = so.count in
    let more : length (later ++ name ∷ []) ≡ suc (length later) = length_one_more later name in
    record {
      before = last.so.before;
      after = last.after;
      less = omega (arith, count, more);
      first = last.so.first;
      there =
          subst (λ (n : ℕ). slice_get new n ≡ Some last.after) (let e : now + length later ≡ left - 1 = omega (arith, count, more) in e)
          (sym (get_of_drop new now (length later)) ∙ ap (λ l. slice_get l (length later)) so.behind ∙ get_front so.fallen (drop left old) (length later) last.after last.at);
      named = last.so.named;
      counted = last.so.counted;
    }

pub falls_so : (came : Ran) (used : List ℕ → Bool) (gone : List (List ℕ)) (left now : ℕ) (old new : List Seen) → LeftOf used gone left now old new → Names came gone → RunFalls came left now old new
falls_so (ran.Ended ending) used gone left now old new so names = tt
falls_so ran.Budget used gone left now old new so names = tt
falls_so (ran.DeviceFault name) used gone left now old new so names = fell_named used names.0 name left now old new (subst (λ (l : List (List ℕ)). LeftOf used l left now old new) names.1 so)
falls_so ran.WriteFault used gone left now old new so names = tt
falls_so ran.NoMemory used gone left now old new so names = tt

-- the device at that place gave its name
abbrev name_in : Option Seen → List ℕ
name_in None = []
name_in (Some device) = device.name

pub names_last : (room : ℕ) (result : Ran) (used : List ℕ → Bool) (later : List (List ℕ)) (last : List ℕ) (left now at : ℕ) (old new : List Seen) → LeftOf used (later ++ last ∷ []) left now old new → at ≡ left - 1 → NamesDevice room result (slice_get new at) → Names result (later ++ last ∷ [])
names_last room (ran.Ended ending) used later last left now at old new so is named = absurd named
names_last room ran.Budget used later last left now at old new so is named = absurd named
names_last room (ran.DeviceFault name) used later last left now at old new so is named =
    let fell : FellNamed last left now old new = fell_named used later last left now old new so in
    let same : fell.after.name ≡ name = subst (λ (o : Option Seen). IfSome o (λ (d : Seen). d.name ≡ name)) (ap (slice_get new) is ∙ fell.there) named in
    (later, ap (λ (n : List ℕ). later ++ n ∷ []) (sym fell.named ∙ same))
names_last room ran.WriteFault used later last left now at old new so is named = absurd named
names_last room ran.NoMemory used later last left now at old new so is named = tt

pub names_named : (room : ℕ) (result : Ran) (used : List ℕ → Bool) (later : List (List ℕ)) (last : List ℕ) (left now at : ℕ) (old new : List Seen) → LeftOf used (later ++ last ∷ []) left now old new → NamesDevice room result (slice_get new at) → at ≡ left - 1 → Names result (later ++ last ∷ [])
names_named room result used later last left now at old new so named is = names_last room result used later last left now at old new so is named

-- ---- there is room for the name of each device

get_of_front : (xs : List Seen) (n k : ℕ) (x : Seen) → slice_get (take n xs) k ≡ Some x → slice_get xs k ≡ Some x
get_of_front xs zero k x e = cc
get_of_front [] (suc n) k x e = cc
get_of_front (first ∷ xs) (suc n) zero x e = e
get_of_front (first ∷ xs) (suc n) (suc k) x e = get_of_front xs n k x e

-- those before that place, and the one there
pub fits_more : (room more : ℕ) (devices : List Seen) (at : ℕ) → room ≤ more → IfSome (slice_get devices at) (λ (d : Seen). length d.name ≤ more) → ((k : ℕ) (device : Seen) → k < at → slice_get devices k ≡ Some device → length device.name ≤ room) →
    (k : ℕ) (device : Seen) → k < at + 1 → slice_get devices k ≡ Some device → length device.name ≤ more
fits_more room more devices at grows fits before k device below here =
    elim (cases_lt k at) [
      | inl less ↦ let within : length device.name ≤ room = before k device less here in omega (arith, within, grows)
      | inr past ↦ let e : at ≡ k = omega (arith, below, past) in subst (λ (o : Option Seen). IfSome o (λ (d : Seen). length d.name ≤ more)) (ap (slice_get devices) e ∙ here) fits
    ]

get_within : (xs : List Seen) (k : ℕ) (x : Seen) → slice_get xs k ≡ Some x → k < length xs
get_within [] k x e = cc
get_within (first ∷ xs) zero x e = omega arith
get_within (first ∷ xs) (suc k) x e = let less : k < length xs = get_within xs k x e in omega (arith, less)

pub fits_all : (room at : ℕ) (devices : List Seen) → length devices ≤ at → ((k : ℕ) (device : Seen) → k < at → slice_get devices k ≡ Some device → length device.name ≤ room) → NamesFit room devices
fits_all room at devices past before k device here =
    let less : k < length devices = get_within devices k device here in
    before k device (omega (arith, less, past)) here

found_fits : (room : ℕ) (devices : List Seen) (name : List ℕ) (before : Seen) → NamesFit room devices → device_found name devices ≡ Some before → length name ≤ room
found_fits room [] name before fits found = cc
found_fits room (device ∷ devices) name before fits found =
    elim (bytes_eq device.name name) as (λ b. bytes_eq device.name name ≡ b → (if b then Some device else device_found name devices) ≡ Some before → length name ≤ room) [
      | true ↦ λ is e. subst (λ (n : List ℕ). length n ≤ room) (name_same device.name name is) (fits 0 device refl)
      | false ↦ λ is e. found_fits room devices name before (λ at other here. fits (suc at) other here) e
    ] refl found

-- so a device that failed isn't told as want of memory
pub never_unnamed : (room : ℕ) (result : Ran) (used : List ℕ → Bool) (later : List (List ℕ)) (last : List ℕ) (left now at : ℕ) (old new : List Seen) → NamesFit room old → LeftOf used (later ++ last ∷ []) left now old new → at ≡ left - 1 → NamesDevice room result (slice_get new at) → result ≡ ran.NoMemory → ⊥
never_unnamed room result used later last left now at old new fits so is named none =
    let fell : FellNamed last left now old new = fell_named used later last left now old new so in
    let missing : IfSome (slice_get new at) (λ (d : Seen). room < length d.name) = subst (λ (r : Ran). NamesDevice room r (slice_get new at)) none named in
    let short : room < length fell.after.name = subst (λ (o : Option Seen). IfSome o (λ (d : Seen). room < length d.name)) (ap (slice_get new) is ∙ fell.there) missing in
    let fitting : length last ≤ room = found_fits room (take left old) last fell.before (λ k device here. fits k device (get_of_front old left k device here)) fell.first in
    let same : length fell.after.name ≡ length last = ap length fell.named in
    omega (arith, short, fitting, same)

-- ---- the files are closed

pub record Ends (names : List (List ℕ)) : Type 0 where
  pub later : List (List ℕ)
  pub last : List ℕ
  pub is : names ≡ later ++ last ∷ []

pub ends_of : (names : List (List ℕ)) → are_some names ≡ true → Ends names
ends_of [] e = cc
ends_of (name ∷ []) e = record { later = []; last = name; is = refl }
ends_of (name ∷ other ∷ names) e =
    let more : Ends (other ∷ names) = ends_of (other ∷ names) refl in
    record { later = name ∷ more.later; last = more.last; is = ap (λ l. name ∷ l) more.is }

none_of : (names : List (List ℕ)) → are_some names ≡ false → names ≡ []
none_of [] e = refl
none_of (name ∷ names) e = cc

append_nothing : (names : List (List ℕ)) → names ++ [] ≡ names
append_nothing [] = refl
append_nothing (name ∷ names) = ap (λ l. name ∷ l) (append_nothing names)

-- a device that fails there is named
pub never_unnamed_late : (room : ℕ) (result : Ran) (failed : Bool) (entries : List FileEntry) (left now : ℕ) (old new : List Seen) (rows : List FileRow) → NamesFit room old →
    ((gone : List (List ℕ)) (n : ℕ) (was : List Seen) → AreShut gone (addresses_of entries) rows → LeftOf (is_used (addresses_of entries)) gone n left was old → Closes failed (addresses_of entries) gone n left now was old new rows) →
    failed ≡ true → NamesDevice room result (slice_get new (left - 1)) → result ≡ ran.NoMemory → ⊥
never_unnamed_late room result failed entries left now old new rows fits closes fell named none =
    let so : Closes failed (addresses_of entries) [] left left now old old new rows = closes [] left old (nothing_shut (addresses_of entries) rows) (left_same (is_used (addresses_of entries)) left old) in
    let e : Ends so.more = ends_of so.more (so.some ∙ fell) in
    let whole : (so.more ++ []) ≡ e.later ++ e.last ∷ [] = append_nothing so.more ∙ e.is in
    never_unnamed room result (is_used (addresses_of entries)) e.later e.last left now (left - 1) old new fits (subst (λ (l : List (List ℕ)). LeftOf (is_used (addresses_of entries)) l left now old new) whole so.left_of) refl named none

-- those that fail now stand before those that failed
names_more : (came : Ran) (more gone : List (List ℕ)) → breaks_off came ≡ true → Names came gone → Names came (more ++ gone)
names_more (ran.Ended ending) more gone broke names = absurd (let x : false ≡ true = broke in cc)
names_more ran.Budget more gone broke names = absurd (let x : false ≡ true = broke in cc)
names_more (ran.DeviceFault name) more gone broke names = (more ++ names.0, ap (λ l. more ++ l) names.1 ∙ sym (append_assoc more names.0 (name ∷ [])))
names_more ran.WriteFault more gone broke names = tt
names_more ran.NoMemory more gone broke names = tt

names_none : (came : Ran) (more gone : List (List ℕ)) → more ≡ [] → Names came gone → Names came (more ++ gone)
names_none came more gone none names = subst (λ (l : List (List ℕ)). Names came (l ++ gone)) (sym none) names

none_gone : (came : Ran) (gone : List (List ℕ)) → breaks_off came ≡ false → Names came gone → gone ≡ []
none_gone (ran.Ended ending) gone goes names = names
none_gone ran.Budget gone goes names = names
none_gone (ran.DeviceFault name) gone goes names = absurd (let x : true ≡ false = goes in cc)
none_gone ran.WriteFault gone goes names = absurd (let x : true ≡ false = goes in cc)
none_gone ran.NoMemory gone goes names = absurd (let x : true ≡ false = goes in cc)

-- what closing says of the files of the program
pub closes_with : (start machine : Machine) (steps : ℕ) (sink : SinkCall) (left mid now : ℕ) (old between new : List Seen) (came : Ran) (failed : Bool) (given : List FileEntry) → given ≡ start.plan.program.now.files → length start.plan.program.now.files < 2 ^ 32 →
    (so : StepsEnd start machine steps sink left mid old between came) →
    (length given < 2 ^ 32 → (gone : List (List ℕ)) (n : ℕ) (was : List Seen) → AreShut gone (addresses_of given) machine.table.rows → LeftOf (is_used (addresses_of given)) gone n mid was between → Closes failed (addresses_of given) gone n mid now was between new machine.table.rows) →
    Closes failed (addresses_of start.plan.program.now.files) so.gone left mid now old between new machine.table.rows
closes_with start machine steps sink left mid now old between new came failed given same few so closes =
    let said = subst (λ (entries : List FileEntry). length entries < 2 ^ 32 → (gone : List (List ℕ)) (n : ℕ) (was : List Seen) → AreShut gone (addresses_of entries) machine.table.rows → LeftOf (is_used (addresses_of entries)) gone n mid was between → Closes failed (addresses_of entries) gone n mid now was between new machine.table.rows) same closes in
    said few so.gone left old so.apart so.bench

module _ (start machine : Machine) (steps : ℕ) (sink : SinkCall) (left mid now : ℕ) (old between new : List Seen) (came : Ran) (plan : machine.plan ≡ start.plan) (so : StepsEnd start machine steps sink left mid old between came)
    (failed : Bool) (closes : Closes failed (addresses_of start.plan.program.now.files) so.gone left mid now old between new machine.table.rows) where
  -- what the steps came to, with the files closed
  shut_left : (result : Ran) → ((program : Program) (files : Files) (Left : World → Type 0) → ComesTo program files steps sink Left came → ComesTo program files steps sink Left result) → Names result (closes.more ++ so.gone) → FilesEnd start steps sink left now old new result
  shut_left result goes names = record {
    gone = closes.more ++ so.gone;
    bench = closes.left_of;
    names = names;
    files = λ program files own begun.
        goes program files (LeavesFiles (addresses_of start.plan.program.now.files) (closes.more ++ so.gone) (take now new))
        (comes_with program files steps sink (OpenYet so.gone machine (take mid between)) (LeavesFiles (addresses_of start.plan.program.now.files) (closes.more ++ so.gone) (take now new))
        (λ world stands. closes.files world (subst (λ p. StandsLeft (addresses_of p.program.now.files) so.gone (take mid between) machine.table.rows world) plan stands))
        came (so.files program files own begun));
  }

  -- it broke off before
  pub left_broken : breaks_off came ≡ true → FilesEnd start steps sink left now old new came
  left_broken broke = shut_left came (λ program files Left c. c) (names_more came closes.more so.gone broke so.names)

  -- no device fails
  pub left_closed : failed ≡ false → FilesEnd start steps sink left now old new came
  left_closed none = shut_left came (λ program files Left c. c) (names_none came closes.more so.gone (none_of closes.more (closes.some ∙ none)) so.names)

  -- a device fails
  pub left_late : (room : ℕ) (result : Ran) (at : ℕ) → breaks_off came ≡ false → failed ≡ true → at ≡ mid - 1 → NamesDevice room result (slice_get new at) → FilesEnd start steps sink left now old new result
  left_late room result at goes fell is named =
      let nothing : so.gone ≡ [] = none_gone came so.gone goes so.names in
      let e : Ends closes.more = ends_of closes.more (closes.some ∙ fell) in
      let whole : (closes.more ++ so.gone) ≡ e.later ++ e.last ∷ [] = ap (λ l. closes.more ++ l) nothing ∙ append_nothing closes.more ∙ e.is in
      let count : mid + length so.gone ≡ left = so.bench.count in
      let none : length so.gone ≡ 0 = ap length nothing in
      let place : at ≡ left - 1 = omega (arith, count, none, is) in
      shut_left result (λ program files Left c. comes_late program files steps sink Left came result room (slice_get new at) goes named c)
      (subst (Names result) (sym whole) (names_last room result (is_used (addresses_of start.plan.program.now.files)) e.later e.last left now at old new (subst (λ (l : List (List ℕ)). LeftOf (is_used (addresses_of start.plan.program.now.files)) l left now old new) whole closes.left_of) place named))

  -- some place is left where one fails
  pub place_left : failed ≡ true → mid ≡ 0 → ⊥
  place_left fell none =
      let e : Ends closes.more = ends_of closes.more (closes.some ∙ fell) in
      let count : now + length (closes.more ++ so.gone) ≡ left = closes.left_of.count in
      let before : mid + length so.gone ≡ left = so.bench.count in
      let many : length (closes.more ++ so.gone) ≡ length closes.more + length so.gone = length_both closes.more so.gone in
      let some : length closes.more ≡ suc (length e.later) = ap length e.is ∙ length_one_more e.later e.last in
      omega (arith, count, before, many, some, none)
    where
      length_both : (xs ys : List (List ℕ)) → length (xs ++ ys) ≡ length xs + length ys
      length_both [] ys = let z : length ys ≡ 0 + length ys = omega arith in z
      length_both (x ∷ xs) ys = let more : length (xs ++ ys) ≡ length xs + length ys = length_both xs ys in omega (arith, more)
