-- What a statement comes to, from its operation and from the parts that ask no device.
use Rattle.std.proofs.Common.{◌≡◌, ◌∙◌, sym, subst, ℕ, Bool, false, ◌&&◌, ◌||◌, not, List, [], ◌∷◌, ◌++◌, Option, is_some, Result, Ok, Err, refl, ap, slice_get}
use Rattle.std.specs.Prelude.{IfOk}
use Rattle.cob_tree.specs.declared.ending.Abend.{Abend}
use Rattle.cob_tree.specs.declared.file.FileEntry.{FileEntry}
use Rattle.cob_store.specs.declared.spot.Spot.{Spot}
use Rattle.cob_store.specs.Answer.{Answer, and_then}
use Rattle.cob_store.specs.Store.{Roots}
use Rattle.file_model.specs.declared.table.FileRow.{FileRow}
use Rattle.file_model.specs.Attempts.{Address, Attempt}
use Rattle.file_model.specs.World.{Verb, World}
use Rattle.meanings.specs.statements.Filing.{Declared, Effect, Ended, Operation, address_at, address_by, after, always_ends, end_by, entry_bytes, file_of, last_world, no_effect, operated_to, put_out, settled, status_place, status_spot, then_by, then_do, with_status}
use Rattle.meanings.specs.statements.Filing as files
use Rattle.meanings.specs.statements.Outcome.{Outcome}
use Rattle.cob_act.specs.declared.acting.ActOutcome.{ActOutcome}
use Rattle.cob_act.specs.declared.acting.ActOutcome.TheVariants.{Went, Shown, Chose, Abended}
use Rattle.file_model.specs.operations.Seen.{Seen}
use Rattle.file_model.specs.declared.operations.fault.FileFault.{FileFault}
use Rattle.cob_act.specs.files.Ends.{ended_as}
use Rattle.cob_act.specs.files.Over.{Did, IsOver, PutsOut, Tries}

-- ---- an operation

abbrev operated_by : Verb → ℕ → Bool → (before after : Roots) → Attempt → Answer (Option Spot) → Effect
operated_by verb file cared before after attempt answer =
    elim answer [
      | Ok item ↦ settled verb file cared item after attempt
      | Err abend ↦ no_effect before (files.Abended abend)
    ]

pub reached_to : (declared : Declared) (verb : Verb) (file : ℕ) (cared : Bool) (before after : Roots) (attempt : Attempt) (item : Option Spot) → Ok item ≡ status_spot declared before (status_place declared file) →
    operated_to declared verb file cared before after attempt ≡ settled verb file cared item after attempt
reached_to declared verb file cared before after attempt item is = ap (operated_by verb file cared before after attempt) (sym is)

pub missed_to : (declared : Declared) (verb : Verb) (file : ℕ) (cared : Bool) (before after : Roots) (attempt : Attempt) (abend : Abend) → Err abend ≡ status_spot declared before (status_place declared file) →
    operated_to declared verb file cared before after attempt ≡ no_effect before (files.Abended abend)
missed_to declared verb file cared before after attempt abend is = ap (operated_by verb file cared before after attempt) (sym is)

-- how it ends by a status
abbrev pub ended_by : Bool → Option Spot → ℕ → Ended
ended_by cared item status = end_by ((is_some item || cared) && not (always_ends status)) status

pub settled_did : (program : List FileEntry) (verb : Verb) (file : ℕ) (cared : Bool) (item : Option Spot) (before store : Roots) (attempt : Attempt) (status : ℕ) (done : ActOutcome) (world : World) (devices : List Seen) (table : List FileRow) →
    Tries program (Ok status) attempt devices table → ended_as done ≡ ended_by cared item status → store ≡ with_status before item status → Did program (Ok done) world (settled verb file cared item before attempt) store devices table
settled_did program verb file cared item before store attempt status done world devices table tries ends same =
    (ends ∙ ap (ended_by cared item) tries.0, same ∙ ap (with_status before item) tries.0, tries.1)

-- its status item was reached
pub operated_did : (declared : Declared) (program : List FileEntry) (verb : Verb) (file : ℕ) (item : Option Spot) (before store : Roots) (attempt : Attempt) (status : ℕ) (done : ActOutcome) (world : World) (devices : List Seen) (table : List FileRow) →
    Ok item ≡ status_spot declared before (status_place declared file) → Tries program (Ok status) attempt devices table → ended_as done ≡ ended_by false item status → store ≡ with_status before item status →
    Did program (Ok done) world (operated_to declared verb file false before before attempt) store devices table
operated_did declared program verb file item before store attempt status done world devices table is tries ends same =
    subst (λ (e : Effect). Did program (Ok done) world e store devices table) (sym (reached_to declared verb file false before before attempt item is))
    (settled_did program verb file false item before store attempt status done world devices table tries ends same)

-- it wasn't
pub missed_did : (declared : Declared) (program : List FileEntry) (verb : Verb) (file : ℕ) (store : Roots) (attempt : Attempt) (abend : Abend) (world : World) (devices : List Seen) (table : List FileRow) →
    Err abend ≡ status_spot declared store (status_place declared file) → IsOver program devices table world →
    Did program (Ok (Abended abend)) world (operated_to declared verb file false store store attempt) store devices table
missed_did declared program verb file store attempt abend world devices table is over =
    subst (λ (e : Effect). Did program (Ok (Abended abend)) world e store devices table) (sym (missed_to declared verb file false store store attempt abend is)) (refl, refl, over)

-- the operation as it was asked for
pub tried_at : {A : Type 0} (attempts : ℕ → Address → A → Attempt) (program listed : List FileEntry) (result : Result ℕ FileFault) (file asked : ℕ) (given sent : A) (old new : List Seen) (table now : List FileRow) (world : World) →
    listed ≡ program → asked ≡ file → sent ≡ given → (IsOver listed old table world → Tries listed result (attempts asked (address_by (slice_get listed asked)) sent) new now) → IsOver program old table world →
    Tries program result (attempts file (address_by (slice_get program file)) given) new now
tried_at {A} attempts program listed result file asked given sent old new table now world is at same tries over =
    subst (λ (x : A). Tries program result (attempts file (address_by (slice_get program file)) x) new now) same
    (subst (λ (n : ℕ). Tries program result (attempts n (address_by (slice_get program n)) sent) new now) at
    (subst (λ (l : List FileEntry). IsOver l old table world → Tries l result (attempts asked (address_by (slice_get l asked)) sent) new now) is tries over))

-- ---- FROM first

-- FROM broke off, or the status item wasn't reached
pub put_missed : (declared : Declared) (program : List FileEntry) (verb : Verb) (attempts : ℕ → Address → List ℕ → Attempt) (entry : ℕ) (from : Outcome (Unit {0})) (store : Roots) (bytes : List ℕ) (abend : Abend) (world : World) (devices : List Seen) (table : List FileRow) →
    PutsOut declared entry from (Err abend) store bytes → IsOver program devices table world →
    Did program (Ok (Abended abend)) world (put_out declared verb attempts entry (file_of declared entry) from.store from.answer) store devices table
put_missed declared program verb attempts entry from store bytes abend world devices table puts over = go from.answer puts.1 refl
  where
    file : ℕ
    file = file_of declared entry

    go : (answer : Answer (Unit {0})) → Err abend ≡ and_then answer (λ u. status_spot declared from.store (status_place declared file)) → from.answer ≡ answer →
        Did program (Ok (Abended abend)) world (put_out declared verb attempts entry file from.store from.answer) store devices table
    go (Err other) missed is =
        let same : abend ≡ other = cc in
        subst (λ (a : Answer (Unit {0})). Did program (Ok (Abended abend)) world (put_out declared verb attempts entry file from.store a) store devices table) (sym is)
        (ap files.Abended same, puts.0, over)
    go (Ok u) missed is =
        subst (λ (a : Answer (Unit {0})). Did program (Ok (Abended abend)) world (put_out declared verb attempts entry file from.store a) store devices table) (sym is)
        (subst (λ (s : Roots). Did program (Ok (Abended abend)) world (put_out declared verb attempts entry file from.store (Ok u)) s devices table) (sym puts.0)
        (missed_did declared program verb file from.store (attempts file (address_at declared file) (entry_bytes declared file from.store (slice_get declared.areas.items entry))) abend world devices table missed over))

-- the bytes of the record went out
pub put_did : (declared : Declared) (program : List FileEntry) (verb : Verb) (attempts : ℕ → Address → List ℕ → Attempt) (entry : ℕ) (from : Outcome (Unit {0})) (mid store : Roots) (bytes : List ℕ) (item : Option Spot) (status : ℕ) (done : ActOutcome) (world : World) (devices : List Seen) (table : List FileRow) →
    PutsOut declared entry from (Ok item) mid bytes → Tries program (Ok status) (attempts (file_of declared entry) (address_at declared (file_of declared entry)) bytes) devices table → ended_as done ≡ ended_by false item status → store ≡ with_status mid item status →
    Did program (Ok done) world (put_out declared verb attempts entry (file_of declared entry) from.store from.answer) store devices table
put_did declared program verb attempts entry from mid store bytes item status done world devices table puts tries ends same = go from.answer puts.1 puts.2 refl
  where
    file : ℕ
    file = file_of declared entry

    go : (answer : Answer (Unit {0})) → Ok item ≡ and_then answer (λ u. status_spot declared from.store (status_place declared file)) → IfOk answer (λ u. bytes ≡ entry_bytes declared file from.store (slice_get declared.areas.items entry)) → from.answer ≡ answer →
        Did program (Ok done) world (put_out declared verb attempts entry file from.store from.answer) store devices table
    go (Err other) reached given is = cc
    go (Ok u) reached given is =
        subst (λ (a : Answer (Unit {0})). Did program (Ok done) world (put_out declared verb attempts entry file from.store a) store devices table) (sym is)
        (operated_did declared program verb file item from.store store (attempts file (address_at declared file) (entry_bytes declared file from.store (slice_get declared.areas.items entry))) status done world devices table reached
        (subst (λ (b : List ℕ). Tries program (Ok status) (attempts file (address_at declared file) b) devices table) given tries) ends (same ∙ ap (λ s. with_status s item status) puts.0))

-- ---- one effect, then another

-- it didn't end the run
abbrev pub WentOn : ActOutcome → Type 0
WentOn done = (abend : Abend) → done ≡ Abended abend → ⊥

pub last_after : (world : World) (before later : List Operation) → last_world world (before ++ later) ≡ last_world (last_world world before) later
last_after world [] later = refl
last_after world (operation ∷ before) later = last_after operation.world before later

pub stops : (abend : Abend) (world : World) (effect : Effect) (next : Roots → World → Effect) → files.Abended abend ≡ effect.end → then_do world effect next ≡ effect
stops abend world effect next is = subst (λ (e : Ended). then_by world effect e next ≡ effect) is refl

pub goes_on : (done : ActOutcome) (world : World) (effect : Effect) (next : Roots → World → Effect) → WentOn done → ended_as done ≡ effect.end → then_do world effect next ≡ after effect.operations (next effect.store (last_world world effect.operations))
goes_on done world effect next other is = subst (λ (e : Ended). then_by world effect e next ≡ after effect.operations (next effect.store (last_world world effect.operations))) is (go done other)
  where
    go : (done : ActOutcome) → WentOn done → then_by world effect (ended_as done) next ≡ after effect.operations (next effect.store (last_world world effect.operations))
    go Went other = refl
    go Shown other = refl
    go (Chose arm) other = refl
    go (Abended abend) other = absurd (other abend refl)
