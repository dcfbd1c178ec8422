-- What operations leave of a bench, one after the other.
use Rattle.std.proofs.Common.{◌≡◌, ◌∙◌, sym, subst, ℕ, zero, suc, ◌<◌, ◌+◌, Bool, true, false, ◌&&◌, ◌||◌, not, List, [], ◌∷◌, ◌++◌, length, take, drop, Option, Some, None, refl, ap, arith, slice_get, if◌then◌else◌, Result, Ok, Err}
use Rattle.std.specs.Str.{bytes_eq}
use Rattle.cob_tree.specs.declared.file.FileEntry.{FileEntry}
use Rattle.file_model.specs.Attempts.{Address, address_of}
use Rattle.file_model.specs.Told.{Counts}
use Rattle.file_model.specs.declared.operations.fault.FileFault.{FileFault}
use Rattle.file_model.specs.declared.operations.fault.FileFault.TheVariants as faults
use Rattle.file_model.specs.operations.Seen.{Seen, device_found, device_put, device_taken}
use Rattle.file_model.specs.operations.Standing.{IsTold, TellUsed}
use Rattle.file_model.specs.operations.Calls.{Kept, Leaves, SameBut, SameDevice, TookOff, addresses_of}
use Rattle.file_model.specs.operations.Falling.{Failed, LeftOf, Touched, TouchedOne, all_taken, gone_with, is_among, is_used, name_behind, name_of}
use Rattle.file_model.proofs.operations_lemmas.FileLemmas.{name_refl, name_same}
use Rattle.file_model.proofs.operations_lemmas.DeviceLemmas.{found_named, found_taken_other}

-- ---- names

pub other_way : (a b : List ℕ) → bytes_eq a b ≡ false → bytes_eq b a ≡ false
other_way a b differ = go (bytes_eq b a) refl
  where
    go : (t : Bool) → bytes_eq b a ≡ t → t ≡ false
    go false e = refl
    go true e = sym (name_refl b) ∙ ap (λ (x : List ℕ). bytes_eq x b) (name_same b a e) ∙ differ

pub or_first : (a b : Bool) → (a || b) ≡ false → a ≡ false
or_first true b e = e
or_first false b e = refl

pub or_second : (a b : Bool) → (a || b) ≡ false → b ≡ false
or_second true b e = absurd (let x : true ≡ false = e in cc)
or_second false b e = e

pub or_later : (a b : Bool) → b ≡ true → (a || b) ≡ true
or_later true b e = refl
or_later false b e = e

-- where a file of the program is, is used
pub used_at : (addresses : List Address) (file : ℕ) (address : Address) → slice_get addresses file ≡ Some address → is_used addresses address.device ≡ true
used_at [] file address here = cc
used_at (first ∷ addresses) zero address here =
    let e : first ≡ address = cc in
    ap (λ (a : Address). bytes_eq a.device address.device || is_used addresses address.device) e
    ∙ ap (λ (b : Bool). b || is_used addresses address.device) (name_refl address.device)
used_at (first ∷ addresses) (suc file) address here =
    or_later (bytes_eq first.device address.device) (is_used addresses address.device) (used_at addresses file address here)

-- ---- devices of which none failed

one_same : (used : Bool) (device : Seen) → TouchedOne used device device
one_same true device = (refl, refl, λ told. told)
one_same false device = refl

one_named : (used : Bool) (device now : Seen) → TouchedOne used device now → now.name ≡ device.name
one_named true device now one = one.0
one_named false device now one = ap (λ (d : Seen). d.name) one

pub one_device : (used : Bool) (device now : Seen) → TouchedOne used device now → SameDevice device now
one_device true device now one = one
one_device false device now one = subst (λ (d : Seen). SameDevice device d) (sym one) (refl, refl, λ told. told)

one_then : (used : Bool) (device mid now : Seen) → TouchedOne used device mid → TouchedOne used mid now → TouchedOne used device now
one_then true device mid now one two = (two.0 ∙ one.0, two.1 ∙ one.1, λ told. two.2 (one.2 told))
one_then false device mid now one two = two ∙ one

pub touched_same : (used : List ℕ → Bool) (devices : List Seen) → Touched used devices devices
touched_same used [] = tt
touched_same used (device ∷ devices) = (one_same (used device.name) device, touched_same (λ name. used name && not (bytes_eq device.name name)) devices)

pub touched_then : (used : List ℕ → Bool) (old mid new : List Seen) → Touched used old mid → Touched used mid new → Touched used old new
touched_then used [] [] [] one two = tt
touched_then used [] [] (f ∷ new) one two = absurd two
touched_then used [] (e ∷ mid) new one two = absurd one
touched_then used (d ∷ old) [] new one two = absurd one
touched_then used (d ∷ old) (e ∷ mid) [] one two = absurd two
touched_then used (d ∷ old) (e ∷ mid) (f ∷ new) one two =
    let named : e.name ≡ d.name = one_named (used d.name) d e one.0 in (
      one_then (used d.name) d e f one.0 (subst (λ (n : List ℕ). TouchedOne (used n) e f) named two.0),
      touched_then (λ name. used name && not (bytes_eq d.name name)) old mid new one.1
          (subst (λ (n : List ℕ). Touched (λ name. used name && not (bytes_eq n name)) mid new) named two.1),
    )

-- the first of a name that is used is replaced
pub touched_put : (used : List ℕ → Bool) (name : List ℕ) (new : Seen) (devices : List Seen) → used name ≡ true → SameBut (device_found name devices) new → Touched used devices (device_put name new devices)
touched_put used name new [] is same = tt
touched_put used name new (first ∷ devices) is same =
    go (bytes_eq first.name name) refl (touched_put (λ other. used other && not (bytes_eq first.name other)) name new devices) same
  where
    go : (b : Bool) → bytes_eq first.name name ≡ b →
        ((used name && not (bytes_eq first.name name)) ≡ true → SameBut (device_found name devices) new → Touched (λ other. used other && not (bytes_eq first.name other)) devices (device_put name new devices)) →
        SameBut (if b then Some first else device_found name devices) new → Touched used (first ∷ devices) (if b then new ∷ devices else first ∷ device_put name new devices)
    go true e more so = (
      subst (λ (b : Bool). TouchedOne b first new) (sym (ap used (name_same first.name name e) ∙ is)) so,
      touched_same (λ other. used other && not (bytes_eq first.name other)) devices,
    )
    go false e more so = (
      one_same (used first.name) first,
      more (ap (λ (b : Bool). used name && not b) e ∙ ap (λ (b : Bool). b && true) is) so,
    )

-- the same device or none
abbrev pub SameFound : Option Seen → Option Seen → Type 0
SameFound None None = Unit {0}
SameFound (Some device) (Some now) = SameDevice device now
SameFound None (Some now) = ⊥
SameFound (Some device) None = ⊥

pub touched_found : (used : List ℕ → Bool) (name : List ℕ) (old new : List Seen) → Touched used old new → SameFound (device_found name old) (device_found name new)
touched_found used name [] [] one = tt
touched_found used name [] (e ∷ new) one = absurd one
touched_found used name (d ∷ old) [] one = absurd one
touched_found used name (d ∷ old) (e ∷ new) one =
    subst (λ (n : List ℕ). SameFound (if bytes_eq d.name name then Some d else device_found name old) (if bytes_eq n name then Some e else device_found name new)) (sym (one_named (used d.name) d e one.0))
    (go (bytes_eq d.name name) (touched_found (λ other. used other && not (bytes_eq d.name other)) name old new one.1))
  where
    go : (b : Bool) → SameFound (device_found name old) (device_found name new) → SameFound (if b then Some d else device_found name old) (if b then Some e else device_found name new)
    go true more = one_device (used d.name) d e one.0
    go false more = more

-- what tells its files still does
found_told : (a b : Option Seen) → SameFound a b → IsTold a → IsTold b
found_told None None same told = tt
found_told None (Some now) same told = absurd same
found_told (Some device) None same told = absurd same
found_told (Some device) (Some now) same told = same.2 told

pub touched_told : (used : List ℕ → Bool) (name : List ℕ) (old new : List Seen) → Touched used old new → IsTold (device_found name old) → IsTold (device_found name new)
touched_told used name old new one told = found_told (device_found name old) (device_found name new) (touched_found used name old new one) told

-- ---- devices that failed

pub found_all : (gone : List (List ℕ)) (name : List ℕ) (devices : List Seen) → is_among gone name ≡ false → device_found name (all_taken gone devices) ≡ device_found name devices
found_all [] name devices none = refl
found_all (first ∷ gone) name devices none =
    found_taken_other first name (or_first (bytes_eq first name) (is_among gone name) none) (all_taken gone devices)
    ∙ found_all gone name devices (or_second (bytes_eq first name) (is_among gone name) none)

new_named : (name : List ℕ) (new first : Seen) → SameDevice first new → bytes_eq first.name name ≡ true → new.name ≡ name
new_named name new first same e = same.0 ∙ name_same first.name name e

-- another of the names is taken off before or after
pub put_taken : (name other : List ℕ) (new : Seen) (devices : List Seen) → SameBut (device_found name devices) new → bytes_eq other name ≡ false →
    device_put name new (device_taken other devices) ≡ device_taken other (device_put name new devices)
put_taken name other new [] same differ = refl
put_taken name other new (first ∷ devices) same differ = go (bytes_eq first.name name) refl (λ so. put_taken name other new devices so differ) same
  where
    here : (b : Bool) → bytes_eq first.name name ≡ false → (device_put name new (device_taken other devices) ≡ device_taken other (device_put name new devices)) →
        device_put name new (if b then devices else first ∷ device_taken other devices) ≡ (if b then device_put name new devices else first ∷ device_taken other (device_put name new devices))
    here true e more = refl
    here false e more = ap (λ (b : Bool). if b then new ∷ device_taken other devices else first ∷ device_put name new (device_taken other devices)) e ∙ ap (λ (l : List Seen). first ∷ l) more

    go : (b : Bool) → bytes_eq first.name name ≡ b → (SameBut (device_found name devices) new → device_put name new (device_taken other devices) ≡ device_taken other (device_put name new devices)) → SameBut (if b then Some first else device_found name devices) new →
        device_put name new (device_taken other (first ∷ devices)) ≡ device_taken other (if b then new ∷ devices else first ∷ device_put name new devices)
    go true e more so =
        let a : bytes_eq first.name other ≡ false = ap (λ (n : List ℕ). bytes_eq n other) (name_same first.name name e) ∙ other_way other name differ in
        let c : bytes_eq new.name other ≡ false = ap (λ (n : List ℕ). bytes_eq n other) (new_named name new first so e) ∙ other_way other name differ in
        ap (λ (b : Bool). device_put name new (if b then devices else first ∷ device_taken other devices)) a
        ∙ ap (λ (b : Bool). if b then new ∷ device_taken other devices else first ∷ device_put name new (device_taken other devices)) e
        ∙ sym (ap (λ (b : Bool). if b then devices else new ∷ device_taken other devices) c)
    go false e more so = here (bytes_eq first.name other) e (more so)

put_all : (gone : List (List ℕ)) (name : List ℕ) (new : Seen) (devices : List Seen) → SameBut (device_found name devices) new → is_among gone name ≡ false →
    device_put name new (all_taken gone devices) ≡ all_taken gone (device_put name new devices)
put_all [] name new devices same none = refl
put_all (first ∷ gone) name new devices same none =
    let differ : bytes_eq first name ≡ false = or_first (bytes_eq first name) (is_among gone name) none in
    let later : is_among gone name ≡ false = or_second (bytes_eq first name) (is_among gone name) none in
    put_taken name first new (all_taken gone devices) (subst (λ (o : Option Seen). SameBut o new) (sym (found_all gone name devices later)) same) differ
    ∙ ap (device_taken first) (put_all gone name new devices same later)

-- ---- what is left of a bench

pub left_same : (used : List ℕ → Bool) (left : ℕ) (devices : List Seen) → LeftOf used [] left left devices devices
left_same used left devices = record {
  still = take left devices;
  fallen = [];
  touched = touched_same used (take left devices);
  count = let e : left + 0 ≡ left = omega arith in e;
  bench = refl;
  failed = tt;
  behind = refl;
}

record WasThere (device : Option Seen) (now : Seen) : Type 0 where
  pub before : Seen
  pub is : device ≡ Some before
  pub same : SameDevice before now

was_there : (a b : Option Seen) (now : Seen) → SameFound a b → b ≡ Some now → WasThere a now
was_there None None now same is = cc
was_there None (Some other) now same is = absurd same
was_there (Some device) None now same is = absurd same
was_there (Some device) (Some other) now same is = let e : other ≡ now = cc in record { before = device; is = refl; same = subst (λ (d : Seen). SameDevice device d) e same }

counts_from : (a b c : ℕ) → b ≡ a → Counts true b c → Counts true a c
counts_from a b c e counted = subst (λ (n : ℕ). Counts true n c) e counted

module _ (used : List ℕ → Bool) (gone : List (List ℕ)) (name : List ℕ) (left mid now : ℕ) (old between new : List Seen) (is : used name ≡ true) (none : is_among gone name ≡ false) (one : LeftOf used gone left mid old between) where
  found_still : device_found name (take mid between) ≡ device_found name one.still
  found_still = ap (device_found name) one.bench ∙ found_all gone name one.still none

  left_kept : Kept name mid now between new → LeftOf used gone left now old new
  left_kept kept =
      let same : SameBut (device_found name one.still) kept.device = subst (λ (o : Option Seen). SameBut o kept.device) found_still kept.same in
      let at_mid : mid + length gone ≡ left = one.count in
      let count : now ≡ mid = kept.count in
      record {
        still = device_put name kept.device one.still;
        fallen = one.fallen;
        touched = touched_then used (take left old) one.still (device_put name kept.device one.still) one.touched (touched_put used name kept.device one.still is same);
        count = omega (arith, at_mid, count);
        bench = ap (λ (n : ℕ). take n new) kept.count ∙ kept.bench ∙ ap (device_put name kept.device) one.bench ∙ put_all gone name kept.device one.still same none;
        failed = one.failed;
        behind = ap (λ (n : ℕ). drop n new) kept.count ∙ kept.behind ∙ one.behind;
      }

  left_off : TookOff name mid now between new → LeftOf used (name ∷ gone) left now old new
  left_off off =
      let was : WasThere (device_found name (take left old)) off.before = was_there (device_found name (take left old)) (device_found name one.still) off.before (touched_found used name (take left old) one.still one.touched) (sym found_still ∙ off.found) in
      let at_mid : mid + length gone ≡ left = one.count in
      let less : suc now ≡ mid = off.less in
      record {
        still = one.still;
        fallen = off.after ∷ one.fallen;
        touched = one.touched;
        count = let more : length (name ∷ gone) ≡ suc (length gone) = refl in omega (arith, at_mid, less, more);
        bench = off.bench ∙ ap (device_taken name) one.bench;
        failed = (
          record {
            before = was.before;
            first = was.is;
            named = off.named ∙ name_same off.before.name name (found_named name (take mid between) off.before off.found);
            counted = counts_from was.before.faults off.before.faults off.after.faults was.same.1 off.counted;
          },
          is,
          none,
          one.failed,
        );
        behind = off.behind ∙ ap (λ (l : List Seen). off.after ∷ l) one.behind;
      }

  pub left_leaves : (answer : Result ℕ FileFault) → Leaves answer name mid now between new → LeftOf used (gone_with answer name gone) left now old new
  left_leaves (Err faults.Device) leaves = left_off leaves
  left_leaves (Ok status) leaves = left_kept leaves
  left_leaves (Err faults.NoMemory) leaves = left_kept leaves

none_fallen : (used : List ℕ → Bool) (old fallen : List Seen) → Failed used [] old fallen → fallen ≡ []
none_fallen used old [] failed = refl
none_fallen used old (after ∷ fallen) failed = absurd failed

failed_before : (used : List ℕ → Bool) (gone : List (List ℕ)) (old between fallen : List Seen) → Touched used old between → Failed used gone between fallen → Failed used gone old fallen
failed_before used [] old between [] one failed = tt
failed_before used [] old between (after ∷ fallen) one failed = absurd failed
failed_before used (name ∷ gone) old between [] one failed = absurd failed
failed_before used (name ∷ gone) old between (after ∷ fallen) one failed =
    let was : WasThere (device_found name old) failed.0.before = was_there (device_found name old) (device_found name between) failed.0.before (touched_found used name old between one) failed.0.first in (
      record {
        before = was.before;
        first = was.is;
        named = failed.0.named;
        counted = counts_from was.before.faults failed.0.before.faults after.faults was.same.1 failed.0.counted;
      },
      failed.1,
      failed.2,
      failed_before used gone old between fallen one failed.3,
    )

-- the devices that are left where none failed
pub still_is : (used : List ℕ → Bool) (left now : ℕ) (old new : List Seen) (one : LeftOf used [] left now old new) → now ≡ left
still_is used left now old new one = let count : now + length {A = List ℕ} [] ≡ left = one.count in let nothing : length {A = List ℕ} [] ≡ 0 = refl in omega (arith, count, nothing)

pub left_touched : (used : List ℕ → Bool) (left now : ℕ) (old new : List Seen) → LeftOf used [] left now old new → Touched used (take left old) (take now new)
left_touched used left now old new one = subst (λ (l : List Seen). Touched used (take left old) l) (sym one.bench) one.touched

behind_none : (used : List ℕ → Bool) (left now : ℕ) (old new : List Seen) → (one : LeftOf used [] left now old new) → drop now new ≡ drop left old
behind_none used left now old new one = one.behind ∙ ap (λ (l : List Seen). l ++ drop left old) (none_fallen used (take left old) one.fallen one.failed)

-- first nothing failed
pub left_then : (used : List ℕ → Bool) (gone : List (List ℕ)) (left mid now : ℕ) (old between new : List Seen) → LeftOf used [] left mid old between → LeftOf used gone mid now between new → LeftOf used gone left now old new
left_then used gone left mid now old between new one two =
    let touched : Touched used (take left old) (take mid between) = left_touched used left mid old between one in
    let same : mid ≡ left = still_is used left mid old between one in
    let count : now + length gone ≡ mid = two.count in
    record {
      still = two.still;
      fallen = two.fallen;
      touched = touched_then used (take left old) (take mid between) two.still touched two.touched;
      count = omega (arith, same, count);
      bench = two.bench;
      failed = failed_before used gone (take left old) (take mid between) two.fallen touched two.failed;
      behind = two.behind ∙ ap (λ (l : List Seen). two.fallen ++ l) (behind_none used left mid old between one);
    }

-- what is told where no device failed
pub left_told : (addresses : List Address) (left now : ℕ) (old new : List Seen) → LeftOf (is_used addresses) [] left now old new → TellUsed addresses (take left old) → TellUsed addresses (take now new)
left_told addresses left now old new one told file address here =
    touched_told (is_used addresses) address.device (take left old) (take now new) (left_touched (is_used addresses) left now old new one) (told file address here)

-- ---- one operation

pub record Named (files : List FileEntry) (file : ℕ) : Type 0 where
  pub address : Address
  pub here : slice_get (addresses_of files) file ≡ Some address

pub named_at : (files : List FileEntry) (file : ℕ) → file < length files → Named files file
named_at [] file within = absurd (omega (arith, within))
named_at (entry ∷ files) zero within = record { address = address_of entry.assign; here = refl }
named_at (entry ∷ files) (suc file) within = let more : Named files file = named_at files file (omega (arith, within)) in record { address = more.address; here = more.here }

get_drop : {A : Type 0} (xs : List A) (n : ℕ) (x : A) (ys : List A) → drop n xs ≡ x ∷ ys → slice_get xs n ≡ Some x
get_drop [] zero x ys e = cc
get_drop [] (suc n) x ys e = cc
get_drop (first ∷ xs) zero x ys e = cc
get_drop (first ∷ xs) (suc n) x ys e = get_drop xs n x ys e

-- the device that was taken off stands right behind the bench
pub off_named : (name : List ℕ) (left left_now : ℕ) (old new : List Seen) → TookOff name left left_now old new → name_behind left_now new ≡ name
off_named name left left_now old new off =
    ap name_of (get_drop new left_now off.after (drop left old) off.behind)
    ∙ off.named ∙ name_same off.before.name name (found_named name (take left old) off.before off.found)
