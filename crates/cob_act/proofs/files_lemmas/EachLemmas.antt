-- A statement that does the same for each of some files, one after the other.
use Rattle.std.proofs.Common.{◌≡◌, ◌∙◌, ◌<◌, ◌+◌, sym, subst, suc, ℕ, arith, drop, drop-cons, get_or, ◌≤◌, length, map, IsTrue, List, [], ◌∷◌, ◌++◌, take, Ok, Err, refl, ap, append_assoc}
use Rattle.std.proofs.lemmas.List.{append-nil}
use Rattle.cob_tree.specs.declared.ending.Abend.{Abend}
use Rattle.cob_tree.specs.declared.file.FileEntry.{FileEntry}
use Rattle.cob_store.specs.Store.{Roots}
use Rattle.file_model.specs.declared.table.FileRow.{FileRow}
use Rattle.file_model.specs.World.{World}
use Rattle.meanings.specs.statements.Filing.{Effect, Operation, after, each_file, last_world}
use Rattle.cob_act.specs.declared.acting.ActOutcome.{ActOutcome}
use Rattle.cob_act.specs.declared.acting.ActOutcome.TheVariants.{Went, Abended}
use Rattle.file_model.specs.operations.Seen.{Seen}
use Rattle.file_model.specs.declared.operations.fault.FileFault.{FileFault}
use Rattle.cob_act.specs.files.Over.{BreaksIn, BrokeIn, Did, IsOver, StopsAmong, world_behind}
use Rattle.cob_act.specs.declared.files.work.FileWork.{FileWork}
use Rattle.cob_act.specs.files.Ends.{ended_as}
use Rattle.cob_act.specs.files.Work.{Keeps, KeepsMore, event_done, events_kept, events_made}
use Rattle.cob_act.proofs.files_lemmas.EffectLemmas.{WentOn, goes_on, last_after, stops}
use Rattle.cob_act.proofs.files_lemmas.WorkLemmas.{both_kept, drop_all}

-- some operations were done, and these files are left
pub record Begun {A : Type 0} (does : Roots → World → A → Effect) (program : List FileEntry) (whole : Effect) (world : World) (left : List A) (store : Roots) (devices : List Seen) (table : List FileRow) (first now : FileWork) : Type 0 where
  pub operations : List Operation
  pub same : whole ≡ after operations (each_file does store (last_world world operations) left)
  pub over : IsOver program devices table (last_world world operations)
  -- they were kept, where operations are kept
  pub logged : IsTrue first.keeps → first.done.items ≡ [] → events_kept now ≡ events_made operations

pub begun : {A : Type 0} (does : Roots → World → A → Effect) (program : List FileEntry) (world : World) (items : List A) (store : Roots) (devices : List Seen) (table : List FileRow) (first : FileWork) → IsOver program devices table world →
    Begun does program (each_file does store world items) world items store devices table first first
begun does program world items store devices table first over = record {
  operations = [];
  same = refl;
  over = over;
  logged = λ keeps none. ap (map (event_done first.bytes.items)) none;
}

-- one more
begun_next : {A : Type 0} (does : Roots → World → A → Effect) (program : List FileEntry) (whole : Effect) (world : World) (left : List A) (item : A) (others : List A) (store : Roots) (devices : List Seen) (table : List FileRow) (done : ActOutcome) (store_now : Roots) (devices_now : List Seen) (table_now : List FileRow) (first now last : FileWork) →
    (so : Begun does program whole world left store devices table first now) → left ≡ item ∷ others → WentOn done → Did program (Ok done) (last_world world so.operations) (does store (last_world world so.operations) item) store_now devices_now table_now →
    now.keeps ≡ first.keeps → KeepsMore {A = ActOutcome} (Ok done) now last (does store (last_world world so.operations) item).operations →
    Begun does program whole world others store_now devices_now table_now first last
begun_next does program whole world left item others store devices table done store_now devices_now table_now first now last so is other did keeping kept =
    record {
      operations = so.operations ++ one.operations;
      same =
          so.same
          ∙ ap (λ l. after so.operations (each_file does store mid l)) is
          ∙ ap (after so.operations) (goes_on done mid one (λ now later. each_file does now later others) other did.0)
          ∙ ap (λ ops. record (each_file does one.store (last_world mid one.operations) others) { operations = ops }) (sym (append_assoc so.operations one.operations (each_file does one.store (last_world mid one.operations) others).operations))
          ∙ ap (λ s. after (so.operations ++ one.operations) (each_file does s (last_world mid one.operations) others)) (sym did.1)
          ∙ ap (λ w. after (so.operations ++ one.operations) (each_file does store_now w others)) (sym (last_after world so.operations one.operations));
      over = subst (λ (w : World). IsOver program devices_now table_now w) (sym (last_after world so.operations one.operations)) did.2;
      logged = λ keeps none. both_kept first now last so.operations one.operations keeping so.logged kept keeps none;
    }
  where
    mid : World
    mid = last_world world so.operations

    one : Effect
    one = does store mid item

-- one that ended the run
begun_stops : {A : Type 0} (does : Roots → World → A → Effect) (program : List FileEntry) (whole : Effect) (world : World) (left : List A) (item : A) (others : List A) (store : Roots) (devices : List Seen) (table : List FileRow) (abend : Abend) (store_now : Roots) (devices_now : List Seen) (table_now : List FileRow) (first now : FileWork) →
    (so : Begun does program whole world left store devices table first now) → left ≡ item ∷ others → Did program (Ok (Abended abend)) (last_world world so.operations) (does store (last_world world so.operations) item) store_now devices_now table_now →
    Did program (Ok (Abended abend)) world whole store_now devices_now table_now
begun_stops does program whole world left item others store devices table abend store_now devices_now table_now first now so is did =
    subst (λ (e : Effect). Did program (Ok (Abended abend)) world e store_now devices_now table_now)
    (sym (so.same ∙ ap (λ l. after so.operations (each_file does store mid l)) is ∙ ap (after so.operations) (stops abend mid one (λ now later. each_file does now later others) did.0)))
    (did.0, did.1, subst (λ (w : World). IsOver program devices_now table_now w) (sym (last_after world so.operations one.operations)) did.2)
  where
    mid : World
    mid = last_world world so.operations

    one : Effect
    one = does store mid item

-- none is left
pub begun_ends : {A : Type 0} (does : Roots → World → A → Effect) (program : List FileEntry) (whole : Effect) (world : World) (left : List A) (store : Roots) (devices : List Seen) (table : List FileRow) (first now : FileWork) →
    (so : Begun does program whole world left store devices table first now) → left ≡ [] → Did program (Ok Went) world whole store devices table
begun_ends does program whole world left store devices table first now so is =
    subst (λ (e : Effect). Did program (Ok Went) world e store devices table)
    (sym (so.same ∙ ap (λ l. after so.operations (each_file does store (last_world world so.operations) l)) is))
    (refl, refl, subst (λ (ops : List Operation). IsOver program devices table (last_world world ops)) (sym (append-nil so.operations)) so.over)

-- ---- by the place in the list

pub each_next : {A : Type 0} (does : Roots → World → A → Effect) (program : List FileEntry) (whole : Effect) (world : World) (items : List A) (at : ℕ) (item : A) (store : Roots) (devices : List Seen) (table : List FileRow) (done : ActOutcome) (store_now : Roots) (devices_now : List Seen) (table_now : List FileRow) (first now last : FileWork) →
    at < length items → (so : Begun does program whole world (drop at items) store devices table first now) → WentOn done → Did program (Ok done) (last_world world so.operations) (does store (last_world world so.operations) (get_or items at item)) store_now devices_now table_now →
    now.keeps ≡ first.keeps → KeepsMore {A = ActOutcome} (Ok done) now last (does store (last_world world so.operations) (get_or items at item)).operations →
    Begun does program whole world (drop (at + 1) items) store_now devices_now table_now first last
each_next does program whole world items at item store devices table done store_now devices_now table_now first now last within so other did keeping kept =
    subst (λ (n : ℕ). Begun does program whole world (drop n items) store_now devices_now table_now first last) (let e : suc at ≡ at + 1 = omega arith in e)
    (begun_next does program whole world (drop at items) (get_or items at item) (drop (suc at) items) store devices table done store_now devices_now table_now first now last so (drop-cons items at item within) other did keeping kept)

pub each_stops : {A : Type 0} (does : Roots → World → A → Effect) (program : List FileEntry) (whole : Effect) (world : World) (items : List A) (at : ℕ) (item : A) (store : Roots) (devices : List Seen) (table : List FileRow) (done : ActOutcome) (abend : Abend) (store_now : Roots) (devices_now : List Seen) (table_now : List FileRow) (first now : FileWork) →
    at < length items → (so : Begun does program whole world (drop at items) store devices table first now) → done ≡ Abended abend → Did program (Ok done) (last_world world so.operations) (does store (last_world world so.operations) (get_or items at item)) store_now devices_now table_now →
    Did program (Ok (Abended abend)) world whole store_now devices_now table_now
each_stops does program whole world items at item store devices table done abend store_now devices_now table_now first now within so is did =
    begun_stops does program whole world (drop at items) (get_or items at item) (drop (suc at) items) store devices table abend store_now devices_now table_now first now so (drop-cons items at item within)
    (subst (λ (d : ActOutcome). Did program (Ok d) (last_world world so.operations) (does store (last_world world so.operations) (get_or items at item)) store_now devices_now table_now) is did)

-- ---- one that broke off

front : {A : Type 0} (xs ys : List A) → take (length xs) (xs ++ ys) ≡ xs
front [] [] = refl
front [] (y ∷ ys) = refl
front (x ∷ xs) ys = ap (λ l. x ∷ l) (front xs ys)

-- behind those that were done
pub each_breaks : {A : Type 0} (does : Roots → World → A → Effect) (program : List FileEntry) (whole : Effect) (world : World) (items : List A) (store : Roots) (devices : List Seen) (table : List FileRow) (fault : FileFault) (left_now : ℕ) (devices_now : List Seen) (table_now : List FileRow) (first now : FileWork) →
    (so : Begun does program whole world items store devices table first now) → BrokeIn fault program (last_world world so.operations) left_now devices_now table_now → BreaksIn {A = ActOutcome} (Err fault) program world whole left_now devices_now table_now
each_breaks does program whole world items store devices table fault left_now devices_now table_now first now so broke = (
  length so.operations,
  subst (λ (w : World). BrokeIn fault program w left_now devices_now table_now)
      (sym (ap (λ (e : Effect). world_behind (length so.operations) world e.operations) so.same ∙ ap (last_world world) (front so.operations (each_file does store (last_world world so.operations) items).operations)))
      broke,
)

-- the store is as those that were done left it
pub stops_among : {A : Type 0} (does : Roots → World → A → Effect) (program : List FileEntry) (whole : Effect) (world : World) (items : List A) (at : ℕ) (store store_now : Roots) (devices : List Seen) (table : List FileRow) (first now : FileWork) →
    Begun does program whole world (drop at items) store devices table first now → store_now ≡ store → StopsAmong does whole world items store_now
stops_among does program whole world items at store store_now devices table first now so same =
    (at, so.operations, subst (λ (s : Roots). whole ≡ after so.operations (each_file does s (last_world world so.operations) (drop at items))) (sym same) so.same)

-- ---- what was kept

-- none is left
pub ends_kept : {A : Type 0} (does : Roots → World → A → Effect) (program : List FileEntry) (whole : Effect) (world : World) (items : List A) (at : ℕ) (store : Roots) (devices : List Seen) (table : List FileRow) (done : ActOutcome) (first now : FileWork) →
    Begun does program whole world (drop at items) store devices table first now → length items ≤ at → Keeps {A = ActOutcome} (Ok done) first now whole.operations
ends_kept does program whole world items at store devices table done first now so past = λ keeps none.
    so.logged keeps none
    ∙ ap events_made (sym (append-nil so.operations))
    ∙ ap (λ l. events_made (after so.operations (each_file does store (last_world world so.operations) l)).operations) (sym (drop_all items at past))
    ∙ ap (λ (e : Effect). events_made e.operations) (sym so.same)

-- one ended the run
pub stops_kept : {A : Type 0} (does : Roots → World → A → Effect) (program : List FileEntry) (whole : Effect) (world : World) (items : List A) (at : ℕ) (item : A) (store : Roots) (devices : List Seen) (table : List FileRow) (done : ActOutcome) (abend : Abend) (store_now : Roots) (devices_now : List Seen) (table_now : List FileRow) (first now last : FileWork) →
    at < length items → (so : Begun does program whole world (drop at items) store devices table first now) → done ≡ Abended abend → Did program (Ok done) (last_world world so.operations) (does store (last_world world so.operations) (get_or items at item)) store_now devices_now table_now →
    now.keeps ≡ first.keeps → KeepsMore {A = ActOutcome} (Ok done) now last (does store (last_world world so.operations) (get_or items at item)).operations → Keeps {A = ActOutcome} (Ok (Abended abend)) first last whole.operations
stops_kept does program whole world items at item store devices table done abend store_now devices_now table_now first now last within so is did keeping kept = λ keeps none.
    both_kept first now last so.operations one.operations keeping so.logged kept keeps none
    ∙ sym (ap (λ (e : Effect). events_made e.operations)
    (so.same
    ∙ ap (λ l. after so.operations (each_file does store mid l)) (drop-cons items at item within)
    ∙ ap (after so.operations) (stops abend mid one (λ now later. each_file does now later (drop (suc at) items)) (sym (ap ended_as is) ∙ did.0))))
  where
    mid : World
    mid = last_world world so.operations

    one : Effect
    one = does store mid (get_or items at item)
