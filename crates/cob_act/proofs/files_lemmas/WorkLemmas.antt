-- What statements on files kept of what they did.
use Rattle.std.proofs.Common.{◌≡◌, ◌∙◌, sym, subst, ap, refl, ℕ, zero, suc, ◌≤◌, ◌==◌, arith, Bool, true, false, IsTrue, List, [], ◌∷◌, ◌++◌, append_assoc, append-nil, drop, length, map, Option, Some, None, Result, Ok, Err, if◌then◌else◌, eqb-true, slice_get, ◌&&◌, ◌||◌}
use Rattle.std.specs.Prelude.{IfOk, not}
use Rattle.cob_tree.specs.declared.ending.Abend.{Abend}
use Rattle.cob_tree.specs.declared.file.FileEntry.{FileEntry}
use Rattle.cob_tree.specs.declared.file.How.{How}
use Rattle.cob_tree.specs.declared.place.Place.{Place}
use Rattle.cob_store.specs.declared.spot.Spot.{Spot}
use Rattle.cob_store.specs.Answer.{Answer, and_then}
use Rattle.cob_store.specs.Store.{Roots}
use Rattle.file_model.specs.declared.table.FileRow.{FileRow}
use Rattle.file_model.specs.Attempts.{Address, Attempt, can_be_opened, closed_at, is_output, is_taken, opened_at, opened_from, opened_on, permitted, bytes_at, noted, read_at, read_of, refused, rewritten_at, rewritten_of, state_of, with_bytes, written_at}
use Rattle.file_model.specs.Status.{may_rewrite, may_write}
use Rattle.file_model.specs.World.{Event, File, FileState, Filed, Read, Shelf, Verb, World, file_found, shelf_found}
use Rattle.file_model.specs.operations.Seen.{Seen}
use Rattle.meanings.specs.statements.Filing.{Declared, Effect, Ended, Operation, address_at, after, entry_bytes, file_of, into, into_by, no_effect, of_outcome, operated_to, put_out, read_by, read_end, record_put, settled, status_place, status_spot, then_by}
use Rattle.meanings.specs.statements.Filing as files
use Rattle.meanings.specs.statements.Outcome.{Outcome}
use Rattle.cob_act.specs.declared.acting.ActOutcome.{ActOutcome}
use Rattle.file_model.specs.declared.operations.fault.FileFault.{FileFault}
use Rattle.cob_act.specs.declared.files.work.FileDone.{FileDone}
use Rattle.cob_act.specs.declared.files.work.FileVerb.{FileVerb}
use Rattle.cob_act.specs.declared.files.work.FileVerb.TheVariants as verbs
use Rattle.cob_act.specs.declared.files.work.FileWork.{FileWork}
use Rattle.cob_act.specs.files.Over.{PutsOut, Tries}
use Rattle.cob_act.specs.files.Work.{Keeps, KeepsMore, bytes_moved, event_done, events_kept, events_made, verb_seen}
use Rattle.cob_act.proofs.files_lemmas.EffectLemmas.{missed_to, reached_to}

-- ---- lists

map_more : {A B : Type 0} (f : A → B) (xs : List A) (x : A) → map f (xs ++ x ∷ []) ≡ map f xs ++ f x ∷ []
map_more f [] x = refl
map_more f (first ∷ xs) x = ap (λ l. f first ∷ l) (map_more f xs x)

made_both : (first second : List Operation) → events_made (first ++ second) ≡ events_made first ++ events_made second
made_both [] second = refl
made_both (operation ∷ first) second = ap (λ l. operation.event ∷ l) (made_both first second)

pub drop_all : {A : Type 0} (xs : List A) (n : ℕ) → length xs ≤ n → drop n xs ≡ []
drop_all [] zero past = refl
drop_all [] (suc n) past = refl
drop_all (x ∷ xs) zero past = absurd (omega (arith, past))
drop_all (x ∷ xs) (suc n) past = drop_all xs n (omega (arith, past))

-- ---- what is kept behind what was kept

-- an operation that was done
abbrev pub done_of : FileVerb → ℕ → ℕ → FileDone
done_of verb file status = record { verb = verb; file = file; status = status }

pub both_kept : (first now last : FileWork) (before one : List Operation) → now.keeps ≡ first.keeps → (IsTrue first.keeps → first.done.items ≡ [] → events_kept now ≡ events_made before) → (IsTrue now.keeps → events_kept last ≡ events_kept now ++ events_made one) →
    IsTrue first.keeps → first.done.items ≡ [] → events_kept last ≡ events_made (before ++ one)
both_kept first now last before one keeping logged kept keeps none =
    kept (subst IsTrue (sym keeping) keeps) ∙ ap (λ l. l ++ events_made one) (logged keeps none) ∙ sym (made_both before one)

kept_more : (old new : FileWork) (one : FileDone) → new.bytes ≡ old.bytes → new.done.items ≡ old.done.items ++ one ∷ [] → events_kept new ≡ events_kept old ++ event_done old.bytes.items one ∷ []
kept_more old new one same more =
    ap (λ b. map (event_done b.items) new.done.items) same ∙ ap (map (event_done old.bytes.items)) more ∙ map_more (event_done old.bytes.items) old.done.items one

-- the event of an operation is that of its attempt
event_is : (program : List FileEntry) (verb : FileVerb) (file status : ℕ) (attempt : Attempt) (bytes : List ℕ) (devices : List Seen) (table : List FileRow) → Tries program (Ok status) attempt devices table → attempt.bytes ≡ bytes_moved verb status bytes →
    event_done bytes (done_of verb file status) ≡ Filed (verb_seen verb) file attempt.bytes attempt.status
event_is program verb file status attempt bytes devices table tries moved =
    ap (λ (b : List ℕ). Filed (verb_seen verb) file b status) (sym moved) ∙ ap (λ (s : ℕ). Filed (verb_seen verb) file attempt.bytes s) tries.0

-- its status item was reached
pub operated_kept : (declared : Declared) (program : List FileEntry) (verb : FileVerb) (file : ℕ) (item : Option Spot) (store : Roots) (attempt : Attempt) (status : ℕ) (devices : List Seen) (table : List FileRow) (done : ActOutcome) (old new : FileWork) →
    Ok item ≡ status_spot declared store (status_place declared file) → Tries program (Ok status) attempt devices table → attempt.bytes ≡ bytes_moved verb status old.bytes.items → new.bytes ≡ old.bytes → (IsTrue old.keeps → new.done.items ≡ old.done.items ++ done_of verb file status ∷ []) →
    KeepsMore {A = ActOutcome} (Ok done) old new (operated_to declared (verb_seen verb) file false store store attempt).operations
operated_kept declared program verb file item store attempt status devices table done old new is tries moved same more = λ keeps.
    kept_more old new (done_of verb file status) same (more keeps)
    ∙ ap (λ (e : Event). events_kept old ++ e ∷ []) (event_is program verb file status attempt old.bytes.items devices table tries moved)
    ∙ sym (ap (λ (e : Effect). events_kept old ++ events_made e.operations) (reached_to declared (verb_seen verb) file false store store attempt item is))

-- it wasn't
pub missed_kept : (declared : Declared) (verb : Verb) (file : ℕ) (store : Roots) (attempt : Attempt) (abend : Abend) (done : ActOutcome) (work : FileWork) → Err abend ≡ status_spot declared store (status_place declared file) →
    KeepsMore {A = ActOutcome} (Ok done) work work (operated_to declared verb file false store store attempt).operations
missed_kept declared verb file store attempt abend done work is = λ keeps.
    sym (ap (λ (e : Effect). events_kept work ++ events_made e.operations) (missed_to declared verb file false store store attempt abend is) ∙ append-nil (events_kept work))

-- ---- the bytes that an attempt moves

if_silent : (b : Bool) (x y : Attempt) → x.bytes ≡ [] → y.bytes ≡ [] → (if b then x else y).bytes ≡ []
if_silent true x y one other = one
if_silent false x y one other = other

from_silent : (world : World) (file : ℕ) (address : Address) (mode : How) (found : Option File) → (opened_from world file address mode found).bytes ≡ []
from_silent world file address mode None = if_silent (is_output mode) _ _ refl refl
from_silent world file address mode (Some found) = if_silent (is_output mode) _ _ refl refl

on_silent : (world : World) (file : ℕ) (address : Address) (mode : How) (found : Option Shelf) → (opened_on world file address mode found).bytes ≡ []
on_silent world file address mode None = refl
on_silent world file address mode (Some shelf) = from_silent world file address mode (file_found address.name shelf.files)

-- OPEN and CLOSE move none
pub opened_silent : (world : World) (addresses : List Address) (file : ℕ) (address : Address) (mode : How) → (opened_at world addresses file address mode).bytes ≡ []
opened_silent world addresses file address mode =
    if_silent (_ == 0) _ _ (if_silent (not (can_be_opened address.name) || is_taken address addresses world.files) _ _ refl (on_silent world file address mode (shelf_found address.device world.shelves))) refl

pub closed_silent : (world : World) (file : ℕ) → (closed_at world file).bytes ≡ []
closed_silent world file = if_silent (_ == 0) _ _ refl refl

-- READ moves what it moves, where its status is 0
abbrev Moves : List ℕ → Attempt → Type 0
Moves bytes attempt = attempt.bytes ≡ (if attempt.status == 0 then bytes else [])

none_moved : (b : Bool) → ◌≡◌ {A = List ℕ} [] (if b then [] else [])
none_moved true = refl
none_moved false = refl

of_moves : (world : World) (file : ℕ) (state : FileState) (size : ℕ) (bytes : List ℕ) → Moves (read_of world file state size bytes).bytes (read_of world file state size bytes)
of_moves world file state size [] = refl
of_moves world file state size (byte ∷ bytes) = refl

own_moves : (b : Bool) (tried : Attempt) (world : World) (file status : ℕ) → Moves tried.bytes tried → Moves (if b then tried else refused world file status).bytes (if b then tried else refused world file status)
own_moves true tried world file status moves = moves
own_moves false tried world file status moves = none_moved (status == 0)

pub read_moves : (world : World) (file : ℕ) (address : Address) (size : ℕ) → (read_at world file address size).bytes ≡ (if (read_at world file address size).status == 0 then (read_at world file address size).bytes else [])
read_moves world file address size = own_moves (_ == 0) (read_of world file (state_of world file) size _) world file _ (of_moves world file (state_of world file) size _)

-- what came is the record
pub record_moved : (program : List FileEntry) (status : ℕ) (attempt : Attempt) (bytes : List ℕ) (devices : List Seen) (table : List FileRow) → Tries program (Ok status) attempt devices table → (status ≡ 0 → bytes ≡ attempt.bytes) → Moves attempt.bytes attempt → attempt.bytes ≡ bytes_moved verbs.Read status bytes
record_moved program status attempt bytes devices table tries came moves =
    subst (λ (s : ℕ). attempt.bytes ≡ (if s == 0 then attempt.bytes else [])) (sym tries.0) moves ∙ go (status == 0) refl
  where
    go : (b : Bool) → (status == 0) ≡ b → ◌≡◌ {A = List ℕ} (if b then attempt.bytes else []) (if b then bytes else [])
    go true is = sym (came (eqb-true status 0 is))
    go false is = refl

-- WRITE and REWRITE move the record, where their status is 0
all_moves : (b : Bool) (tried : Attempt) (world : World) (file status : ℕ) (bytes : List ℕ) → (status == 0) ≡ b → Moves bytes tried → Moves bytes (if b then tried else refused world file status)
all_moves true tried world file status bytes is moves = moves
all_moves false tried world file status bytes is moves = sym (ap (λ (b : Bool). if b then bytes else []) is)

pub written_moves : (world : World) (file : ℕ) (address : Address) (bytes : List ℕ) → (written_at world file address bytes).bytes ≡ (if (written_at world file address bytes).status == 0 then bytes else [])
written_moves world file address bytes =
    all_moves (may_write (state_of world file).row == 0) (record { world = noted (with_bytes world address (bytes_at world address ++ bytes)) file; bytes = bytes; status = 0 }) world file (may_write (state_of world file).row) bytes refl refl

pub rewritten_moves : (world : World) (file : ℕ) (address : Address) (bytes : List ℕ) → (rewritten_at world file address bytes).bytes ≡ (if (rewritten_at world file address bytes).status == 0 then bytes else [])
rewritten_moves world file address bytes =
    all_moves (may_rewrite (state_of world file).row == 0) (rewritten_of world file (state_of world file) address bytes) world file (may_rewrite (state_of world file).row) bytes refl refl

pub put_moved : (program : List FileEntry) (status : ℕ) (attempt : Attempt) (bytes now : List ℕ) (devices : List Seen) (table : List FileRow) → Tries program (Ok status) attempt devices table → attempt.bytes ≡ (if attempt.status == 0 then bytes else []) → now ≡ bytes → attempt.bytes ≡ (if status == 0 then now else [])
put_moved program status attempt bytes now devices table tries moves same =
    moves ∙ ap (λ (s : ℕ). if s == 0 then bytes else []) (sym tries.0) ∙ ap (λ (b : List ℕ). if status == 0 then b else []) (sym same)

-- ---- one operation alone

one_kept : (program : List FileEntry) (verb : FileVerb) (file status : ℕ) (attempt : Attempt) (devices : List Seen) (table : List FileRow) (new : FileWork) → Tries program (Ok status) attempt devices table → attempt.bytes ≡ bytes_moved verb status new.bytes.items → new.done.items ≡ done_of verb file status ∷ [] →
    events_kept new ≡ Filed (verb_seen verb) file attempt.bytes attempt.status ∷ []
one_kept program verb file status attempt devices table new tries moved is =
    ap (map (event_done new.bytes.items)) is ∙ ap (λ (e : Event). e ∷ []) (event_is program verb file status attempt new.bytes.items devices table tries moved)

none_kept : (done : ActOutcome) (old new : FileWork) (operations : List Operation) → new.done.items ≡ old.done.items → operations ≡ [] → Keeps {A = ActOutcome} (Ok done) old new operations
none_kept done old new operations same is = λ keeps none. ap (map (event_done new.bytes.items)) (same ∙ none) ∙ sym (ap events_made is)

-- ---- READ

then_ops : (world : World) (effect : Effect) (end : Ended) (next : Roots → World → Effect) → ((store : Roots) (now : World) → (next store now).operations ≡ []) → (then_by world effect end next).operations ≡ effect.operations
then_ops world effect (files.Abended abend) next none = refl
then_ops world effect files.Went next none = ap (λ l. effect.operations ++ l) (none effect.store _) ∙ append-nil effect.operations
then_ops world effect (files.Chose arm) next none = ap (λ l. effect.operations ++ l) (none effect.store _) ∙ append-nil effect.operations

outcome_ops : (store : Roots) (answer : Answer (Unit {0})) (end : Ended) → (of_outcome store answer end).operations ≡ []
outcome_ops store (Ok u) end = refl
outcome_ops store (Err abend) end = refl

-- what follows the status does nothing with files
end_ops : (came : Bool) (declared : Declared) (file : ℕ) (place : Option Place) (arms : Bool) (world : World) (effect : Effect) →
    (if came
    then then_by world effect effect.end (λ store now. into declared file store place (if arms then files.Chose 2 else files.Went))
    else then_by world effect effect.end (λ store now. no_effect store (if arms then files.Chose 1 else files.Went))).operations ≡ effect.operations
end_ops true declared file place arms world effect = then_ops world effect effect.end _ (λ store now. outcome_ops (into_by declared file store place).store (into_by declared file store place).answer _)
end_ops false declared file place arms world effect = then_ops world effect effect.end _ (λ store now. refl)

module _ (declared : Declared) (file : ℕ) (place : Option Place) (at_end arms : Bool) (before : Roots) (attempt : Attempt) where
  read_ops : (read_by declared before file place at_end arms attempt).operations ≡ (operated_to declared Read file (at_end && attempt.status == 10) before (record_put declared file before attempt) attempt).operations
  read_ops = end_ops (attempt.status == 0) declared file place arms attempt.world (operated_to declared Read file (at_end && attempt.status == 10) before (record_put declared file before attempt) attempt)

  pub read_kept : (program : List FileEntry) (item : Option Spot) (status : ℕ) (devices : List Seen) (table : List FileRow) (done : ActOutcome) (old new : FileWork) → Ok item ≡ status_spot declared before (status_place declared file) → Tries program (Ok status) attempt devices table →
      attempt.bytes ≡ bytes_moved verbs.Read status new.bytes.items → (IsTrue old.keeps → old.done.items ≡ [] → new.done.items ≡ done_of verbs.Read file status ∷ []) → Keeps {A = ActOutcome} (Ok done) old new (read_by declared before file place at_end arms attempt).operations
  read_kept program item status devices table done old new is tries moved kept = λ keeps none.
      one_kept program verbs.Read file status attempt devices table new tries moved (kept keeps none)
      ∙ sym (ap events_made (read_ops ∙ ap (λ (e : Effect). e.operations) (reached_to declared Read file (at_end && attempt.status == 10) before (record_put declared file before attempt) attempt item is)))

  pub read_missed_kept : (abend : Abend) (done : ActOutcome) (work : FileWork) → Err abend ≡ status_spot declared before (status_place declared file) → Keeps {A = ActOutcome} (Ok done) work work (read_by declared before file place at_end arms attempt).operations
  read_missed_kept abend done work is =
      none_kept done work work _ refl (read_ops ∙ ap (λ (e : Effect). e.operations) (missed_to declared Read file (at_end && attempt.status == 10) before (record_put declared file before attempt) attempt abend is))

-- ---- WRITE and REWRITE

module _ (declared : Declared) (verb : FileVerb) (attempts : ℕ → Address → List ℕ → Attempt) (entry : ℕ) (from : Outcome (Unit {0})) where
  abbrev file_there : ℕ
  file_there = file_of declared entry

  abbrev record_there : List ℕ
  record_there = entry_bytes declared file_there from.store (slice_get declared.areas.items entry)

  pub put_kept : (program : List FileEntry) (mid : Roots) (bytes : List ℕ) (item : Option Spot) (status : ℕ) (devices : List Seen) (table : List FileRow) (done : ActOutcome) (old new : FileWork) → PutsOut declared entry from (Ok item) mid bytes →
      Tries program (Ok status) (attempts file_there (address_at declared file_there) bytes) devices table → (attempts file_there (address_at declared file_there) bytes).bytes ≡ bytes_moved verb status new.bytes.items →
      (IsTrue old.keeps → old.done.items ≡ [] → new.done.items ≡ done_of verb file_there status ∷ []) → Keeps {A = ActOutcome} (Ok done) old new (put_out declared (verb_seen verb) attempts entry file_there from.store from.answer).operations
  put_kept program mid bytes item status devices table done old new puts tries moved kept = go from.answer puts.1 puts.2 refl
    where
      go : (answer : Answer (Unit {0})) → Ok item ≡ and_then answer (λ u. status_spot declared from.store (status_place declared file_there)) → IfOk answer (λ u. bytes ≡ record_there) → from.answer ≡ answer →
          Keeps {A = ActOutcome} (Ok done) old new (put_out declared (verb_seen verb) attempts entry file_there from.store from.answer).operations
      go (Err other) reached given is = cc
      go (Ok u) reached given is = λ keeps none.
          one_kept program verb file_there status (attempts file_there (address_at declared file_there) bytes) devices table new tries moved (kept keeps none)
          ∙ ap (λ (b : List ℕ). Filed (verb_seen verb) file_there (attempts file_there (address_at declared file_there) b).bytes (attempts file_there (address_at declared file_there) b).status ∷ []) given
          ∙ sym (ap (λ (e : Effect). events_made e.operations)
          (ap (put_out declared (verb_seen verb) attempts entry file_there from.store) is
          ∙ reached_to declared (verb_seen verb) file_there false from.store from.store (attempts file_there (address_at declared file_there) record_there) item reached))

  pub put_missed_kept : (mid : Roots) (bytes : List ℕ) (abend : Abend) (done : ActOutcome) (old new : FileWork) → PutsOut declared entry from (Err abend) mid bytes → new.done.items ≡ old.done.items →
      Keeps {A = ActOutcome} (Ok done) old new (put_out declared (verb_seen verb) attempts entry file_there from.store from.answer).operations
  put_missed_kept mid bytes abend done old new puts same = go from.answer puts.1 refl
    where
      go : (answer : Answer (Unit {0})) → Err abend ≡ and_then answer (λ u. status_spot declared from.store (status_place declared file_there)) → from.answer ≡ answer →
          Keeps {A = ActOutcome} (Ok done) old new (put_out declared (verb_seen verb) attempts entry file_there from.store from.answer).operations
      go (Err other) missed is = none_kept done old new _ same (ap (λ (a : Answer (Unit {0})). (put_out declared (verb_seen verb) attempts entry file_there from.store a).operations) is)
      go (Ok u) missed is =
          none_kept done old new _ same
          (ap (λ (a : Answer (Unit {0})). (put_out declared (verb_seen verb) attempts entry file_there from.store a).operations) is
          ∙ ap (λ (e : Effect). e.operations) (missed_to declared (verb_seen verb) file_there false from.store from.store (attempts file_there (address_at declared file_there) record_there) abend missed))
