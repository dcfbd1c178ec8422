-- READ, from its operation, its record and what follows its status.
use Rattle.std.proofs.Common.{◌≡◌, ◌∙◌, sym, subst, ℕ, ◌==◌, ◌-◌, Bool, true, false, ◌&&◌, List, [], ◌∷◌, ◌++◌, length, take, replicate, Option, None, Result, slice_get, Ok, Err, refl, ap, if◌then◌else◌, arith, eqb-true, ◌≤◌}
use Rattle.std.proofs.lemmas.List.{append-nil, take_all}
use Rattle.cob_tree.specs.declared.ending.Abend.{Abend}
use Rattle.cob_tree.specs.declared.file.FileEntry.{FileEntry}
use Rattle.cob_tree.specs.declared.place.Place.{Place}
use Rattle.cob_store.specs.declared.spot.Spot.{Spot}
use Rattle.cob_store.specs.Store.{Roots, fitted, put_at}
use Rattle.file_model.specs.declared.table.FileRow.{FileRow}
use Rattle.file_model.specs.Attempts.{Attempt, read_at}
use Rattle.file_model.specs.World.{Read, World}
use Rattle.meanings.specs.statements.Filing.{Declared, Effect, address_at, address_by, Operation, after, into, last_world, no_effect, read_by, read_end, record_put, record_spot, settled, status_place, status_spot, then_do, with_status}
use Rattle.meanings.specs.statements.Filing as files
use Rattle.cob_act.specs.declared.acting.ActOutcome.{ActOutcome}
use Rattle.cob_act.specs.declared.acting.ActOutcome.TheVariants.{Abended}
use Rattle.file_model.specs.operations.Seen.{Seen}
use Rattle.file_model.specs.declared.operations.fault.FileFault.{FileFault}
use Rattle.file_model.specs.declared.operations.fault.FileFault.TheVariants as faults
use Rattle.cob_act.specs.files.Ends.{ended_as}
use Rattle.cob_act.specs.files.Over.{BreaksIn, BrokeIn, Did, EndsAs, IsOver, Tries, read_then, world_behind}
use Rattle.cob_act.proofs.files_lemmas.DeskLemmas.{over_left}
use Rattle.cob_act.proofs.files_lemmas.EffectLemmas.{WentOn, ended_by, goes_on, missed_to, reached_to, settled_did, stops, tried_at}

-- ---- the record

fits_whole : (bytes : List ℕ) (size : ℕ) → length bytes ≡ size → fitted size bytes ≡ bytes
fits_whole bytes size is =
    let none : size - length bytes ≡ 0 = omega (arith, is) in
    ap (λ n. take size bytes ++ replicate n 32) none ∙ append-nil (take size bytes) ∙ take_all size bytes (let e : length bytes ≤ size = omega (arith, is) in e)

pub put_record : (declared : Declared) (file : ℕ) (before store : Roots) (spot : Spot) (attempt : Attempt) (status : ℕ) (bytes : List ℕ) → spot ≡ record_spot declared file → status ≡ attempt.status → (status ≡ 0 → bytes ≡ attempt.bytes) → length bytes ≡ spot.length →
    store ≡ (if status == 0 then put_at before spot (fitted spot.length bytes) else before) → store ≡ record_put declared file before attempt
put_record declared file before store spot attempt status bytes at is given many put = put ∙ go (status == 0) refl ∙ ap (λ (n : ℕ). if n == 0 then put_at before (record_spot declared file) attempt.bytes else before) is
  where
    go : (b : Bool) → (status == 0) ≡ b → (if b then put_at before spot (fitted spot.length bytes) else before) ≡ (if b then put_at before (record_spot declared file) attempt.bytes else before)
    go true zero = ap (put_at before spot) (fits_whole bytes spot.length many ∙ given (eqb-true status 0 zero)) ∙ ap (λ (s : Spot). put_at before s attempt.bytes) at
    go false other = refl

-- the operation as it was asked for, and the record that was put
pub read_came : (declared : Declared) (listed : List FileEntry) (file : ℕ) (before mid : Roots) (spot : Spot) (status : ℕ) (given sent : List ℕ) (old new : List Seen) (table now : List FileRow) (world : World) → spot ≡ record_spot declared file → listed ≡ declared.files → sent ≡ given → length given ≡ spot.length →
    (IsOver listed old table world → Tries listed (Ok status) (read_at world file (address_by (slice_get listed file)) spot.length) new now) → (IsOver listed old table world → ◌≡◌ {A = Result ℕ FileFault} (Ok status) (Ok 0) → given ≡ (read_at world file (address_by (slice_get listed file)) spot.length).bytes) →
    mid ≡ (if status == 0 then put_at before spot (fitted spot.length sent) else before) → IsOver declared.files old table world →
    Tries declared.files (Ok status) (read_at world file (address_at declared file) (record_spot declared file).length) new now × (mid ≡ record_put declared file before (read_at world file (address_at declared file) (record_spot declared file).length))
    × (status ≡ 0 → given ≡ (read_at world file (address_at declared file) (record_spot declared file).length).bytes)
read_came declared listed file before mid spot status given sent old new table now world at is same many does came put over =
    (tries, put_record declared file before mid spot attempt status sent at tries.0 (λ zero. same ∙ bytes (ap (λ n. Ok n) zero)) (ap length same ∙ many) put, λ zero. bytes (ap (λ n. Ok n) zero))
  where
    attempt : Attempt
    attempt = read_at world file (address_at declared file) (record_spot declared file).length

    tries : Tries declared.files (Ok status) attempt new now
    tries = tried_at (read_at world) declared.files listed (Ok status) file file (record_spot declared file).length spot.length old new table now world is refl (ap (λ (s : Spot). s.length) at) does over

    bytes : ◌≡◌ {A = Result ℕ FileFault} (Ok status) (Ok 0) → given ≡ attempt.bytes
    bytes =
        subst (λ (n : ℕ). ◌≡◌ {A = Result ℕ FileFault} (Ok status) (Ok 0) → given ≡ (read_at world file (address_at declared file) n).bytes) (ap (λ (s : Spot). s.length) at)
        (subst (λ (l : List FileEntry). IsOver l old table world → ◌≡◌ {A = Result ℕ FileFault} (Ok status) (Ok 0) → given ≡ (read_at world file (address_by (slice_get l file)) spot.length).bytes) is came over)

-- ---- the ends

both_stop : (b : Bool) (abend : Abend) (world : World) (effect : Effect) (some none : Roots → Effect) → files.Abended abend ≡ effect.end →
    (if b then then_do world effect (λ store later. some store) else then_do world effect (λ store later. none store)) ≡ effect
both_stop true abend world effect some none is = stops abend world effect (λ store later. some store) is
both_stop false abend world effect some none is = stops abend world effect (λ store later. none store) is

both_go : (b : Bool) (done : ActOutcome) (world : World) (effect : Effect) (some none : Roots → Effect) → WentOn done → ended_as done ≡ effect.end →
    (if b then then_do world effect (λ store later. some store) else then_do world effect (λ store later. none store)) ≡ after effect.operations (if b then some effect.store else none effect.store)
both_go true done world effect some none other is = goes_on done world effect (λ store later. some store) other is
both_go false done world effect some none other is = goes_on done world effect (λ store later. none store) other is

-- a record came, or none did
abbrev came : Declared → ℕ → Option Place → Bool → Roots → Effect
came declared file place arms store = into declared file store place (if arms then files.Chose 2 else files.Went)

abbrev none_came : Bool → Roots → Effect
none_came arms store = no_effect store (if arms then files.Chose 1 else files.Went)

-- ---- its status item wasn't reached

pub read_missed : (declared : Declared) (program : List FileEntry) (file : ℕ) (place : Option Place) (at_end arms : Bool) (store : Roots) (attempt : Attempt) (abend : Abend) (world : World) (devices : List Seen) (table : List FileRow) →
    Err abend ≡ status_spot declared store (status_place declared file) → IsOver program devices table world → Did program (Ok (Abended abend)) world (read_by declared store file place at_end arms attempt) store devices table
read_missed declared program file place at_end arms store attempt abend world devices table is over =
    subst (λ (e : Effect). Did program (Ok (Abended abend)) world e store devices table)
    (sym (ap (read_end declared file place arms attempt.status attempt.world) (missed_to declared Read file (at_end && attempt.status == 10) store (record_put declared file store attempt) attempt abend is)
    ∙ both_stop (attempt.status == 0) abend attempt.world (no_effect store (files.Abended abend)) (came declared file place arms) (none_came arms) refl))
    (refl, refl, over)

-- ---- it was

abbrev settled_with : Declared → ℕ → Bool → Roots → Attempt → Option Spot → Effect
settled_with declared file at_end before attempt item = settled Read file (at_end && attempt.status == 10) item (record_put declared file before attempt) attempt

read_is : (declared : Declared) (file : ℕ) (place : Option Place) (at_end arms : Bool) (before : Roots) (attempt : Attempt) (item : Option Spot) → Ok item ≡ status_spot declared before (status_place declared file) →
    read_by declared before file place at_end arms attempt ≡ read_end declared file place arms attempt.status attempt.world (settled_with declared file at_end before attempt item)
read_is declared file place at_end arms before attempt item is = ap (read_end declared file place arms attempt.status attempt.world) (reached_to declared Read file (at_end && attempt.status == 10) before (record_put declared file before attempt) attempt item is)

first_did : (declared : Declared) (program : List FileEntry) (file : ℕ) (at_end : Bool) (before mid store : Roots) (attempt : Attempt) (item : Option Spot) (status : ℕ) (done : ActOutcome) (world : World) (devices : List Seen) (table : List FileRow) →
    Tries program (Ok status) attempt devices table → mid ≡ record_put declared file before attempt → ended_as done ≡ ended_by (at_end && status == 10) item status → store ≡ with_status mid item status →
    Did program (Ok done) world (settled_with declared file at_end before attempt item) store devices table
first_did declared program file at_end before mid store attempt item status done world devices table tries put ends same =
    settled_did program Read file (at_end && attempt.status == 10) item (record_put declared file before attempt) store attempt status done world devices table tries
    (ends ∙ ap (λ (n : ℕ). ended_by (at_end && n == 10) item status) tries.0) (same ∙ ap (λ (s : Roots). with_status s item status) put)

-- the run ended by its status
pub read_stopped : (declared : Declared) (program : List FileEntry) (file : ℕ) (place : Option Place) (at_end arms : Bool) (before mid store : Roots) (attempt : Attempt) (item : Option Spot) (status : ℕ) (abend : Abend) (world : World) (devices : List Seen) (table : List FileRow) →
    Ok item ≡ status_spot declared before (status_place declared file) → Tries program (Ok status) attempt devices table → mid ≡ record_put declared file before attempt → files.Abended abend ≡ ended_by (at_end && status == 10) item status → store ≡ with_status mid item status →
    Did program (Ok (Abended abend)) world (read_by declared before file place at_end arms attempt) store devices table
read_stopped declared program file place at_end arms before mid store attempt item status abend world devices table is tries put ends same =
    let did : Did program (Ok (Abended abend)) world (settled_with declared file at_end before attempt item) store devices table = first_did declared program file at_end before mid store attempt item status (Abended abend) world devices table tries put ends same in
    subst (λ (e : Effect). Did program (Ok (Abended abend)) world e store devices table)
    (sym (read_is declared file place at_end arms before attempt item is ∙ both_stop (attempt.status == 0) abend attempt.world (settled_with declared file at_end before attempt item) (came declared file place arms) (none_came arms) did.0))
    did

-- it went on
pub read_went : (declared : Declared) (program : List FileEntry) (file : ℕ) (place : Option Place) (at_end arms : Bool) (before mid between store : Roots) (attempt : Attempt) (item : Option Spot) (status : ℕ) (first done : ActOutcome) (world : World) (devices : List Seen) (table : List FileRow) →
    Ok item ≡ status_spot declared before (status_place declared file) → Tries program (Ok status) attempt devices table → mid ≡ record_put declared file before attempt → ended_as first ≡ ended_by (at_end && status == 10) item status → between ≡ with_status mid item status →
    WentOn first → EndsAs done store (read_then declared file place arms status between) → Did program (Ok done) world (read_by declared before file place at_end arms attempt) store devices table
read_went declared program file place at_end arms before mid between store attempt item status first done world devices table is tries put ends same other last =
    let effect : Effect = settled_with declared file at_end before attempt item in
    let did : Did program (Ok first) world effect between devices table = first_did declared program file at_end before mid between attempt item status first world devices table tries put ends same in
    let last_now : EndsAs done store (read_then declared file place arms attempt.status effect.store) = subst (λ (n : ℕ). EndsAs done store (read_then declared file place arms n effect.store)) tries.0 (subst (λ (s : Roots). EndsAs done store (read_then declared file place arms status s)) did.1 last) in
    subst (λ (e : Effect). Did program (Ok done) world e store devices table)
    (sym (read_is declared file place at_end arms before attempt item is ∙ both_go (attempt.status == 0) first attempt.world effect (came declared file place arms) (none_came arms) other did.0))
    (last_now.end, last_now.same, subst (λ (ops : List Operation). IsOver program devices table (last_world world (effect.operations ++ ops))) (sym last_now.none) tries.1)

-- ---- what breaks off

behind_none : (world : World) (operations : List Operation) → world_behind 0 world operations ≡ world
behind_none world [] = refl
behind_none world (operation ∷ operations) = refl

-- nothing was done
pub nothing_done : (fault : FileFault) (program : List FileEntry) (world : World) (effect : Effect) (left : ℕ) (devices : List Seen) (table : List FileRow) → BrokeIn fault program world left devices table → BreaksIn {A = ActOutcome} (Err fault) program world effect left devices table
nothing_done fault program world effect left devices table broke =
    (0, subst (λ (w : World). BrokeIn fault program w left devices table) (sym (behind_none world effect.operations)) broke)

-- the record came, and what follows the status wanted memory
pub record_came_first : (declared : Declared) (program : List FileEntry) (file : ℕ) (place : Option Place) (at_end arms : Bool) (before mid between : Roots) (attempt : Attempt) (item : Option Spot) (status : ℕ) (first : ActOutcome) (world : World) (left : ℕ) (devices : List Seen) (table : List FileRow) →
    Ok item ≡ status_spot declared before (status_place declared file) → Tries program (Ok status) attempt (take left devices) table → mid ≡ record_put declared file before attempt → ended_as first ≡ ended_by (at_end && status == 10) item status → between ≡ with_status mid item status →
    WentOn first → BreaksIn {A = ActOutcome} (Err faults.NoMemory) program world (read_by declared before file place at_end arms attempt) left devices table
record_came_first declared program file place at_end arms before mid between attempt item status first world left devices table is tries put ends same other =
    let effect : Effect = settled_with declared file at_end before attempt item in
    let did : Did program (Ok first) world effect between (take left devices) table = first_did declared program file at_end before mid between attempt item status first world (take left devices) table tries put ends same in
    let behind : Effect = if attempt.status == 0 then came declared file place arms effect.store else none_came arms effect.store in (
      1,
      subst (λ (w : World). BrokeIn faults.NoMemory program w left devices table)
          (sym (ap (λ (e : Effect). world_behind 1 world e.operations) (read_is declared file place at_end arms before attempt item is ∙ both_go (attempt.status == 0) first attempt.world effect (came declared file place arms) (none_came arms) other did.0)
          ∙ behind_none attempt.world behind.operations))
          (over_left program left devices table attempt.world tries.1),
    )

-- without INTO the store is as the status left it
no_more : (b : Bool) (declared : Declared) (file : ℕ) (arms : Bool) (operations : List Operation) (store : Roots) → (after operations (if b then came declared file None arms store else none_came arms store)).store ≡ store
no_more true declared file arms operations store = refl
no_more false declared file arms operations store = refl

pub stands_without_into : (declared : Declared) (program : List FileEntry) (file : ℕ) (at_end arms : Bool) (before mid between now : Roots) (attempt : Attempt) (item : Option Spot) (status : ℕ) (first : ActOutcome) (world : World) (devices : List Seen) (table : List FileRow) →
    Ok item ≡ status_spot declared before (status_place declared file) → Tries program (Ok status) attempt devices table → mid ≡ record_put declared file before attempt → ended_as first ≡ ended_by (at_end && status == 10) item status → between ≡ with_status mid item status →
    WentOn first → now ≡ between → now ≡ (read_by declared before file None at_end arms attempt).store
stands_without_into declared program file at_end arms before mid between now attempt item status first world devices table is tries put ends same other kept =
    let effect : Effect = settled_with declared file at_end before attempt item in
    let did : Did program (Ok first) world effect between devices table = first_did declared program file at_end before mid between attempt item status first world devices table tries put ends same in
    let whole : (read_by declared before file None at_end arms attempt).store ≡ effect.store =
    ap (λ (e : Effect). e.store) (read_is declared file None at_end arms before attempt item is ∙ both_go (attempt.status == 0) first attempt.world effect (came declared file None arms) (none_came arms) other did.0)
    ∙ no_more (attempt.status == 0) declared file arms effect.operations effect.store in
    kept ∙ did.1 ∙ sym whole
