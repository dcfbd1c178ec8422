-- What stands still stands after a change of one file's state, of its device, or of its shelf, and
-- after its device is gone.
use Rattle.std.proofs.Common.{◌≡◌, ◌∙◌, inl, inr, sym, subst, ℕ, zero, suc, Bool, true, false, List, [], ◌∷◌, ◌++◌, map, Option, Some, None, refl, ap, slice_get, slice_set, if◌then◌else◌, IsTrue, IsSomeAnd, is_some}
use Rattle.std.proofs.lemmas.Bool.{cases_eq}
use Rattle.std.proofs.lemmas.List.{map-set}
use Rattle.std.specs.Str.{bytes_eq}
use Rattle.cob_tree.specs.declared.file.How.{How}
use Rattle.file_model.specs.declared.mem_file.MemFile.{MemFile}
use Rattle.file_model.specs.declared.table.FileRow.{FileRow}
use Rattle.file_model.specs.Attempts.{Address, closed, with_state}
use Rattle.file_model.specs.Status.{closed_row}
use Rattle.file_model.specs.Told.{found}
use Rattle.file_model.specs.World.{FileState, Shelf, World, shelf_found}
use Rattle.file_model.specs.operations.Seen.{Seen, device_found, device_put, device_taken}
use Rattle.file_model.specs.operations.Standing.{OpenAmong, OpenAs, SameFiles, SameShelf, Stands, StandsOn, as_file, closed_on, next_shelf, row_of, rows_closed_on, shelves_without, without}
use Rattle.file_model.proofs.operations_lemmas.FileLemmas.{get_set_other, get_set_same, name_refl, name_same, shelf_without, shelf_without_other}
use Rattle.file_model.proofs.operations_lemmas.DeviceLemmas.{found_named, found_put, found_put_other, found_taken_other}

-- ---- states

rows_set : (table : List FileRow) (states : List FileState) (file : ℕ) (new : FileState) → table ≡ map row_of states → slice_set table file new.row ≡ map row_of (slice_set states file new)
rows_set table states file new e = ap (λ t. slice_set t file new.row) e ∙ sym (map-set row_of states file new)

-- a file that was is_open so before
pub record Before (states : List FileState) (file : ℕ) (state : FileState) : Type 0 where
  pub old : FileState
  pub here : slice_get states file ≡ Some old
  pub how : state.row.how ≡ old.row.how

same_state : (a b c : FileState) → Some a ≡ Some c → Some b ≡ Some c → a ≡ b
same_state a b c e f = cc

pub some_same : {A : Type 0} (a b : A) → Some a ≡ Some b → a ≡ b
some_same a b e = cc

state_before : (states : List FileState) (file : ℕ) (state new : FileState) → slice_get states file ≡ Some state → new.row.how ≡ state.row.how →
    (other : ℕ) (there : FileState) → slice_get (slice_set states file new) other ≡ Some there → Before states other there
state_before states file state new is how other there at =
    elim (cases_eq file other) [
      | inl e ↦ record {
        old = state;
        here = subst (λ (k : ℕ). slice_get states k ≡ Some state) e is;
        how = ap (λ (s : FileState). s.row.how) (some_same there new (sym at ∙ subst (λ (k : ℕ). slice_get (slice_set states file new) k ≡ Some new) e (get_set_same states file new state is))) ∙ how;
      }
      | inr d ↦ record { old = there; here = sym (get_set_other states file other new d) ∙ at; how = refl }
    ]

open_before : (a b : FileState) → a.row.how ≡ b.row.how → IsTrue (is_some a.row.how) → IsTrue (is_some b.row.how)
open_before a b e t = subst (λ (h : Option How). IsTrue (is_some h)) e t

-- a file in another state, in which it stands as before
pub restated : (addresses : List Address) (devices : List Seen) (table : List FileRow) (world : World) → Stands addresses devices table world →
    (file : ℕ) (state new : FileState) → slice_get world.files file ≡ Some state → new.row.how ≡ state.row.how →
    ((device : Option Seen) (name : List ℕ) → StandsOn state.row.how device name state → StandsOn new.row.how device name new) →
    Stands addresses devices (slice_set table file new.row) (with_state world file new)
restated addresses devices table world stands file state new is how keeps =
    record {
      rows = rows_set table world.files file new stands.rows;
      shelves = stands.shelves;
      standing = λ other address there here at. elim (cases_eq file other) [
        | inl e ↦
            let t : new ≡ there = some_same new there (sym (subst (λ (k : ℕ). slice_get (slice_set world.files file new) k ≡ Some new) e (get_set_same world.files file new state is)) ∙ at) in
            subst (λ (s : FileState). StandsOn s.row.how (device_found address.device devices) address.name s) t
            (keeps (device_found address.device devices) address.name (stands.standing other address state here (subst (λ (k : ℕ). slice_get world.files k ≡ Some state) e is)))
        | inr d ↦ stands.standing other address there here (sym (get_set_other world.files file other new d) ∙ at)
      ];
      apart = λ one other address s t here there at at_other is_open open_other.
          let b : Before world.files one s = state_before world.files file state new is how one s at in
          let c : Before world.files other t = state_before world.files file state new is how other t at_other in
          stands.apart one other address b.old c.old here there b.here c.here (open_before s b.old b.how is_open) (open_before t c.old c.how open_other);
    }

-- ---- a device that changed

-- that file is told as before
abbrev pub SameFound : List ℕ → Option (List MemFile) → Option (List MemFile) → Type 0
SameFound name None None = Unit {0}
SameFound name None (Some now) = ⊥
SameFound name (Some old) None = Unit {0}
SameFound name (Some old) (Some now) = found name now ≡ found name old

-- no other file of the program is is_open there
abbrev pub Alone : List Address → World → ℕ → Address → Type 0
Alone addresses world file address = (other : ℕ) (there : FileState) → slice_get addresses other ≡ Some address → slice_get world.files other ≡ Some there → IsTrue (is_some there.row.how) → file ≡ other

kept_among : (mode : How) (old now : Option (List MemFile)) (name : List ℕ) (state : FileState) → SameFound name old now → OpenAmong old name mode state → OpenAmong now name mode state
kept_among mode None None name state same is_open = is_open
kept_among mode None (Some now) name state same is_open = absurd same
kept_among mode (Some old) None name state same is_open = tt
kept_among mode (Some old) (Some now) name state same is_open = subst (λ (f : Option MemFile). IsSomeAnd f (OpenAs mode state)) (sym same) is_open

kept_on : (how : Option How) (device after : Seen) (name : List ℕ) (state : FileState) → SameFound name device.files after.files → StandsOn how (Some device) name state → StandsOn how (Some after) name state
kept_on None device after name state same stands = stands
kept_on (Some mode) device after name state same stands = kept_among mode device.files after.files name state same stands

not_open : (how : Option How) (device : Option Seen) (name : List ℕ) (state : FileState) → (IsTrue (is_some how) → ⊥) → StandsOn how device name state
not_open None device name state shut = tt
not_open (Some mode) device name state shut = absurd (shut refl)

address_built : (device there name name_there : List ℕ) → device ≡ there → name ≡ name_there → ◌≡◌ {A = Address} (record { device = device; name = name }) (record { device = there; name = name_there })
address_built device there name name_there e f = cc

pub address_same : (a b : Address) → a.device ≡ b.device → a.name ≡ b.name → a ≡ b
address_same a b e f = address_built a.device b.device a.name b.name e f

put_found : (devices : List Seen) (device after : Seen) (name other : List ℕ) → device_found name devices ≡ Some device → after.name ≡ device.name → name ≡ other → device_found other (device_put name after devices) ≡ Some after
put_found devices device after name other here named e = subst (λ (n : List ℕ). device_found n (device_put name after devices) ≡ Some after) e (found_put name after device devices here named)

after_named : (devices : List Seen) (device after : Seen) (name : List ℕ) → device_found name devices ≡ Some device → after.name ≡ device.name → bytes_eq after.name name ≡ true
after_named devices device after name here named = ap (λ n. bytes_eq n name) named ∙ found_named name devices device here

-- a file that isn't the one that changed
other_stands : (addresses : List Address) (devices : List Seen) (world : World) (file other : ℕ) (address b : Address) (there : FileState) (device after : Seen) →
    device_found address.device devices ≡ Some device → after.name ≡ device.name →
    ((name : List ℕ) → bytes_eq address.name name ≡ false → SameFound name device.files after.files) →
    Alone addresses world file address → (file ≡ other → ⊥) → slice_get addresses other ≡ Some b → slice_get world.files other ≡ Some there →
    StandsOn there.row.how (device_found b.device devices) b.name there →
    StandsOn there.row.how (device_found b.device (device_put address.device after devices)) b.name there
other_stands addresses devices world file other address b there device after here named same alone differ is at old = on (bytes_eq address.device b.device) refl
  where
    among : (x : Bool) → bytes_eq address.name b.name ≡ x → address.device ≡ b.device → StandsOn there.row.how (Some after) b.name there
    among false n e = kept_on there.row.how device after b.name there (same b.name n) (subst (λ (d : Option Seen). StandsOn there.row.how d b.name there) (ap (λ n. device_found n devices) (sym e) ∙ here) old)
    among true n e = not_open there.row.how (Some after) b.name there (λ is_open. differ (alone other there (is ∙ ap Some (sym (address_same address b e (name_same address.name b.name n)))) at is_open))

    on : (x : Bool) → bytes_eq address.device b.device ≡ x → StandsOn there.row.how (device_found b.device (device_put address.device after devices)) b.name there
    on false n = subst (λ (d : Option Seen). StandsOn there.row.how d b.name there) (sym (found_put_other address.device b.device after (after_named devices device after address.device here named) n devices)) old
    on true n =
        let e : address.device ≡ b.device = name_same address.device b.device n in
        subst (λ (d : Option Seen). StandsOn there.row.how d b.name there) (sym (put_found devices device after address.device b.device here named e)) (among (bytes_eq address.name b.name) refl e)

shelves_after : (devices : List Seen) (old new : List Shelf) (device after : Seen) (at : List ℕ) →
    ((name : List ℕ) → SameShelf (device_found name devices) (shelf_found name old)) →
    device_found at devices ≡ Some device → after.name ≡ device.name → SameFiles after.files (shelf_found at new) →
    ((name : List ℕ) → bytes_eq at name ≡ false → shelf_found name new ≡ shelf_found name old) →
    (name : List ℕ) → SameShelf (device_found name (device_put at after devices)) (shelf_found name new)
shelves_after devices old new device after at stands here named same others name = go (bytes_eq at name) refl
  where
    go : (x : Bool) → bytes_eq at name ≡ x → SameShelf (device_found name (device_put at after devices)) (shelf_found name new)
    go true n =
        let e : at ≡ name = name_same at name n in
        subst (λ (d : Option Seen). SameShelf d (shelf_found name new)) (sym (put_found devices device after at name here named e))
        (subst (λ (m : List ℕ). SameFiles after.files (shelf_found m new)) e same)
    go false n =
        subst (λ (d : Option Seen). SameShelf d (shelf_found name new)) (sym (found_put_other at name after (after_named devices device after at here named) n devices))
        (subst (λ (s : Option Shelf). SameShelf (device_found name devices) s) (sym (others name n)) (stands name))

-- the file's device, its shelf and its state changed
pub moved : (addresses : List Address) (devices : List Seen) (table : List FileRow) (world : World) → Stands addresses devices table world →
    (file : ℕ) (address : Address) (state new : FileState) (device after : Seen) (shelves : List Shelf) →
    slice_get addresses file ≡ Some address → slice_get world.files file ≡ Some state →
    device_found address.device devices ≡ Some device → after.name ≡ device.name →
    SameFiles after.files (shelf_found address.device shelves) →
    ((name : List ℕ) → bytes_eq address.device name ≡ false → shelf_found name shelves ≡ shelf_found name world.shelves) →
    StandsOn new.row.how (Some after) address.name new →
    ((name : List ℕ) → bytes_eq address.name name ≡ false → SameFound name device.files after.files) →
    Alone addresses world file address →
    Stands addresses (device_put address.device after devices) (slice_set table file new.row) (record { shelves = shelves; files = slice_set world.files file new })
moved addresses devices table world stands file address state new device after shelves is at here named same others is_open same_found alone =
    record {
      rows = rows_set table world.files file new stands.rows;
      shelves = shelves_after devices world.shelves shelves device after address.device stands.shelves here named same others;
      standing = λ other b there there_is there_at. elim (cases_eq file other) [
        | inl e ↦
            let t : new ≡ there = some_same new there (sym (subst (λ (k : ℕ). slice_get (slice_set world.files file new) k ≡ Some new) e (get_set_same world.files file new state at)) ∙ there_at) in
            let a : address ≡ b = some_same address b (sym (subst (λ (k : ℕ). slice_get addresses k ≡ Some address) e is) ∙ there_is) in
            subst (λ (c : Address). StandsOn there.row.how (device_found c.device (device_put address.device after devices)) c.name there) a
            (subst (λ (s : FileState). StandsOn s.row.how (device_found address.device (device_put address.device after devices)) address.name s) t
            (subst (λ (d : Option Seen). StandsOn new.row.how d address.name new) (sym (found_put address.device after device devices here named)) is_open))
        | inr d ↦
            let old_at : slice_get world.files other ≡ Some there = sym (get_set_other world.files file other new d) ∙ there_at in
            other_stands addresses devices world file other address b there device after here named same_found alone d there_is old_at (stands.standing other b there there_is old_at)
      ];
      apart = λ one other b s t one_is other_is one_at other_at one_open other_open. elim (cases_eq file one) [
        | inl e ↦ elim (cases_eq file other) [
          | inl f ↦ sym e ∙ f
          | inr f ↦
              let a : address ≡ b = some_same address b (sym (subst (λ (k : ℕ). slice_get addresses k ≡ Some address) e is) ∙ one_is) in
              sym e ∙ alone other t (other_is ∙ ap Some (sym a)) (sym (get_set_other world.files file other new f) ∙ other_at) other_open
        ]
        | inr d ↦ elim (cases_eq file other) [
          | inl f ↦
              let a : address ≡ b = some_same address b (sym (subst (λ (k : ℕ). slice_get addresses k ≡ Some address) f is) ∙ other_is) in
              sym (alone one s (one_is ∙ ap Some (sym a)) (sym (get_set_other world.files file one new d) ∙ one_at) one_open) ∙ f
          | inr f ↦ stands.apart one other b s t one_is other_is (sym (get_set_other world.files file one new d) ∙ one_at) (sym (get_set_other world.files file other new f) ∙ other_at) one_open other_open
        ]
      ];
    }

-- an is_open file is alone at its place
pub open_alone : (addresses : List Address) (devices : List Seen) (table : List FileRow) (world : World) → Stands addresses devices table world →
    (file : ℕ) (address : Address) (state : FileState) → slice_get addresses file ≡ Some address → slice_get world.files file ≡ Some state → IsTrue (is_some state.row.how) → Alone addresses world file address
open_alone addresses devices table world stands file address state is at is_open other there other_is other_at other_open =
    stands.apart file other address state there is other_is at other_at is_open other_open

-- ---- a device that is gone

rows_gone : (name : List ℕ) (addresses : List Address) (states : List FileState) → rows_closed_on name addresses (map row_of states) ≡ map row_of (closed_on name addresses states)
rows_gone name [] states = refl
rows_gone name (address ∷ addresses) [] = refl
rows_gone name (address ∷ addresses) (state ∷ states) = go (bytes_eq address.device name) (rows_gone name addresses states)
  where
    go : (b : Bool) → rows_closed_on name addresses (map row_of states) ≡ map row_of (closed_on name addresses states) →
        (if b then closed_row else state.row) ∷ rows_closed_on name addresses (map row_of states) ≡ row_of (if b then closed else state) ∷ map row_of (closed_on name addresses states)
    go true more = ap (λ l. closed_row ∷ l) more
    go false more = ap (λ l. state.row ∷ l) more

name_flip : (a b : List ℕ) → bytes_eq a b ≡ false → bytes_eq b a ≡ false
name_flip a b e = go (bytes_eq b a) refl
  where
    go : (x : Bool) → bytes_eq b a ≡ x → bytes_eq b a ≡ false
    go false f = f
    go true f = let same : bytes_eq a b ≡ true = ap (λ n. bytes_eq n b) (sym (name_same b a f)) ∙ name_refl b in absurd (let x : true ≡ false = sym same ∙ e in cc)

-- a state after the device is gone: closed, or the one before of a file on another device
pub record Left (name : List ℕ) (states : List FileState) (file : ℕ) (address : Address) (state : FileState) : Type 0 where
  pub old : IsTrue (is_some state.row.how) → (bytes_eq name address.device ≡ false) × (slice_get states file ≡ Some state)

left_state : (name : List ℕ) (addresses : List Address) (states : List FileState) (file : ℕ) (address : Address) (state : FileState) →
    slice_get addresses file ≡ Some address → slice_get (closed_on name addresses states) file ≡ Some state → Left name states file address state
left_state name [] states file address state is at = cc
left_state name (first ∷ addresses) [] file address state is at = cc
left_state name (first ∷ addresses) (one ∷ states) zero address state is at = go (bytes_eq first.device name) refl at
  where
    go : (b : Bool) → bytes_eq first.device name ≡ b → Some (if b then closed else one) ≡ Some state → Left name (one ∷ states) zero address state
    go true same at = record { old = λ is_open. absurd (let e : closed ≡ state = some_same closed state at in let f : is_some state.row.how ≡ false = ap (λ (s : FileState). is_some s.row.how) (sym e) in let x : true ≡ false = sym is_open ∙ f in cc) }
    go false differ at = record { old = λ is_open. (ap (λ (a : Address). bytes_eq name a.device) (sym (some_same first address is)) ∙ name_flip first.device name differ, at) }
left_state name (first ∷ addresses) (one ∷ states) (suc file) address state is at =
    let more : Left name states file address state = left_state name addresses states file address state is at in
    record { old = more.old }

shelf_behind : (name : List ℕ) (next : Option Seen) (shelves : List Shelf) → shelf_found name shelves ≡ None → SameShelf next (shelf_found name (next_shelf name next ++ shelves))
shelf_behind name None shelves e = e
shelf_behind name (Some device) shelves e = told device.files
  where
    told : (files : Option (List MemFile)) → SameFiles files (shelf_found name (next_shelf name (Some (record device { files = files })) ++ shelves))
    told None = tt
    told (Some files) = subst (λ (b : Bool). SameFiles (Some files) (if b then Some (record { name = name; files = map as_file files }) else shelf_found name shelves)) (sym (name_refl name)) refl

pub shelf_behind_other : (name other : List ℕ) (next : Option Seen) (shelves : List Shelf) → bytes_eq name other ≡ false → shelf_found other (next_shelf name next ++ shelves) ≡ shelf_found other shelves
shelf_behind_other name other None shelves differ = refl
shelf_behind_other name other (Some device) shelves differ = told device.files
  where
    told : (files : Option (List MemFile)) → shelf_found other (next_shelf name (Some (record device { files = files })) ++ shelves) ≡ shelf_found other shelves
    told None = refl
    told (Some files) = ap (λ b. if b then Some (record { name = name; files = map as_file files }) else shelf_found other shelves) differ

shelves_gone : (devices : List Seen) (shelves : List Shelf) (at : List ℕ) →
    ((name : List ℕ) → SameShelf (device_found name devices) (shelf_found name shelves)) → (name : List ℕ) →
    SameShelf (device_found name (device_taken at devices)) (shelf_found name (next_shelf at (device_found at (device_taken at devices)) ++ shelves_without at shelves))
shelves_gone devices shelves at stands name = go (bytes_eq at name) refl
  where
    go : (x : Bool) → bytes_eq at name ≡ x → SameShelf (device_found name (device_taken at devices)) (shelf_found name (next_shelf at (device_found at (device_taken at devices)) ++ shelves_without at shelves))
    go true n = subst (λ (m : List ℕ). SameShelf (device_found m (device_taken at devices)) (shelf_found m (next_shelf at (device_found at (device_taken at devices)) ++ shelves_without at shelves))) (name_same at name n)
        (shelf_behind at (device_found at (device_taken at devices)) (shelves_without at shelves) (shelf_without at shelves))
    go false n =
        subst (λ (d : Option Seen). SameShelf d (shelf_found name (next_shelf at (device_found at (device_taken at devices)) ++ shelves_without at shelves))) (sym (found_taken_other at name n devices))
        (subst (λ (s : Option Shelf). SameShelf (device_found name devices) s) (sym (shelf_behind_other at name (device_found at (device_taken at devices)) (shelves_without at shelves) n ∙ shelf_without_other at name n shelves)) (stands name))

open_left : (how : Option How) (device : Option Seen) (name : List ℕ) (state : FileState) → (IsTrue (is_some how) → StandsOn how device name state) → StandsOn how device name state
open_left None device name state stands = tt
open_left (Some mode) device name state stands = stands refl

pub gone : (addresses : List Address) (devices : List Seen) (table : List FileRow) (world : World) → Stands addresses devices table world → (name : List ℕ) →
    Stands addresses (device_taken name devices) (rows_closed_on name addresses table) (without name (device_found name (device_taken name devices)) addresses world)
gone addresses devices table world stands name =
    record {
      rows = ap (rows_closed_on name addresses) stands.rows ∙ rows_gone name addresses world.files;
      shelves = shelves_gone devices world.shelves name stands.shelves;
      standing = λ file address state is at.
          let l : Left name world.files file address state = left_state name addresses world.files file address state is at in
          open_left state.row.how (device_found address.device (device_taken name devices)) address.name state (λ is_open.
          subst (λ (d : Option Seen). StandsOn state.row.how d address.name state) (sym (found_taken_other name address.device (l.old is_open).0 devices)) (stands.standing file address state is (l.old is_open).1));
      apart = λ one other address s t one_is other_is one_at other_at one_open other_open.
          let l : Left name world.files one address s = left_state name addresses world.files one address s one_is one_at in
          let m : Left name world.files other address t = left_state name addresses world.files other address t other_is other_at in
          stands.apart one other address s t one_is other_is (l.old one_open).1 (m.old other_open).1 one_open other_open;
    }
