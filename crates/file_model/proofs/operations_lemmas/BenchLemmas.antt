-- The devices on a bench after a call, and after a device is taken off.
use Rattle.std.proofs.Common.{◌≡◌, ◌∙◌, sym, subst, ℕ, zero, suc, ◌<◌, Bool, true, false, List, [], ◌∷◌, ◌++◌, length, take, drop, Option, Some, None, IfSome, IsSome, refl, ap, arith, slice_get, slice_set, if◌then◌else◌, length-take, min}
use Rattle.std.specs.Str.{bytes_eq}
use Rattle.file_model.specs.declared.mem_file.MemFile.{MemFile}
use Rattle.file_model.specs.declared.table.FileRow.{FileRow}
use Rattle.file_model.specs.Attempts.{Address}
use Rattle.file_model.specs.World.{World}
use Rattle.file_model.specs.operations.Seen.{IsFirstAt, Seen, device_found, device_put, device_taken}
use Rattle.file_model.specs.operations.Standing.{Stands, rows_closed_on, without}
use Rattle.file_model.specs.operations.Calls.{Called, Kept, SameBut, TakenOff, TookOff}
use Rattle.file_model.proofs.operations_lemmas.FileLemmas.{get_set_same, name_same}
use Rattle.file_model.proofs.operations_lemmas.DeviceLemmas.{found_at, found_named, put_at, taken_at}
use Rattle.file_model.proofs.operations_lemmas.CallLemmas.{get_take}
use Rattle.file_model.proofs.operations_lemmas.StandLemmas.{gone, some_same}

take_set : (devices : List Seen) (left at : ℕ) (new : Seen) → at < left → take left (slice_set devices at new) ≡ slice_set (take left devices) at new
take_set [] zero at new below = absurd (omega (arith, below))
take_set [] (suc left) at new below = refl
take_set (first ∷ devices) zero at new below = absurd (omega (arith, below))
take_set (first ∷ devices) (suc left) zero new below = refl
take_set (first ∷ devices) (suc left) (suc at) new below = ap (λ l. first ∷ l) (take_set devices left at new (omega (arith, below)))

drop_set : (devices : List Seen) (left at : ℕ) (new : Seen) → at < left → drop left (slice_set devices at new) ≡ drop left devices
drop_set [] left at new below = refl
drop_set (first ∷ devices) zero at new below = absurd (omega (arith, below))
drop_set (first ∷ devices) (suc left) zero new below = refl
drop_set (first ∷ devices) (suc left) (suc at) new below = drop_set devices left at new (omega (arith, below))

cut_set : (devices : List Seen) (at : ℕ) (new : Seen) → take at (slice_set devices at new) ++ drop (suc at) (slice_set devices at new) ≡ take at devices ++ drop (suc at) devices
cut_set [] at new = refl
cut_set (first ∷ devices) zero new = refl
cut_set (first ∷ devices) (suc at) new = ap (λ l. first ∷ l) (cut_set devices at new)

pub place_below : (name : List ℕ) (devices : List Seen) (left at : ℕ) → IsFirstAt name (take left devices) at → at < left
place_below name devices left at first = let w : at < length (take left devices) = first.within in let e : length (take left devices) ≡ min left (length devices) = length-take left devices in omega arith

same_now : (o : Option Seen) (before after : Seen) → o ≡ Some before → after.name ≡ before.name → after.faults ≡ before.faults → (IsSome before.files → IsSome after.files) → SameBut o after
same_now o before after e n f t = subst (λ (d : Option Seen). SameBut d after) (sym e) (n, f, t)

pub found_before : (name : List ℕ) (devices : List Seen) (left at : ℕ) (device : Seen) → IsFirstAt name (take left devices) at → slice_get devices at ≡ Some device → device_found name (take left devices) ≡ Some device
found_before name devices left at device first here = found_at name (take left devices) at device first (get_take devices left at (place_below name devices left at first) ∙ here)

pub bench_called : (name : List ℕ) (old new : List Seen) (left at : ℕ) (Tells : Option (List MemFile) → Option (List MemFile) → Type 0) (fails : Bool) →
    IsFirstAt name (take left old) at → (called : Called at Tells fails old new) → take left new ≡ device_put name called.after (take left old)
bench_called name old new left at Tells fails first called = ap (take left) called.there ∙ take_set old left at called.after (place_below name old left at first) ∙ put_at name (take left old) at called.after first

pub kept_called : (name : List ℕ) (old new : List Seen) (left at : ℕ) (Tells : Option (List MemFile) → Option (List MemFile) → Type 0) →
    IsFirstAt name (take left old) at → Called at Tells false old new → Kept name left left old new
kept_called name old new left at Tells first called =
    record {
      device = called.after;
      count = refl;
      bench = bench_called name old new left at Tells false first called;
      behind = ap (drop left) called.there ∙ drop_set old left at called.after (place_below name old left at first);
      same = same_now (device_found name (take left old)) called.before called.after (found_before name old left at called.before first called.here) called.named called.counted called.telling;
    }

put_nothing : (name : List ℕ) (new : Seen) (devices : List Seen) → device_found name devices ≡ None → device_put name new devices ≡ devices
put_nothing name new [] e = refl
put_nothing name new (first ∷ devices) e = go (bytes_eq first.name name) (put_nothing name new devices) e
  where
    go : (b : Bool) → (device_found name devices ≡ None → device_put name new devices ≡ devices) → (if b then Some first else device_found name devices) ≡ None → (if b then new ∷ devices else first ∷ device_put name new devices) ≡ first ∷ devices
    go true more e = cc
    go false more e = ap (λ l. first ∷ l) (more e)

pub put_itself : (name : List ℕ) (device : Seen) (devices : List Seen) → device_found name devices ≡ Some device → device_put name device devices ≡ devices
put_itself name device [] e = refl
put_itself name device (first ∷ devices) e = go (bytes_eq first.name name) (put_itself name device devices) e
  where
    go : (b : Bool) → (device_found name devices ≡ Some device → device_put name device devices ≡ devices) → (if b then Some first else device_found name devices) ≡ Some device → (if b then device ∷ devices else first ∷ device_put name device devices) ≡ first ∷ devices
    go true more e = let f : first ≡ device = cc in ap (λ d. d ∷ devices) (sym f)
    go false more e = ap (λ l. first ∷ l) (more e)

-- where no device is asked
pub kept_same : (name : List ℕ) (left : ℕ) (devices : List Seen) → Kept name left left devices devices
kept_same name left devices = go (device_found name (take left devices)) refl
  where
    go : (o : Option Seen) → device_found name (take left devices) ≡ o → Kept name left left devices devices
    go None e = record {
      device = record { name = name; files = None; faults = 0 };
      count = refl;
      bench = sym (put_nothing name (record { name = name; files = None; faults = 0 }) (take left devices) e);
      behind = refl;
      same = subst (λ (o : Option Seen). SameBut o (record { name = name; files = None; faults = 0 })) (sym e) tt;
    }
    go (Some device) e = record {
      device = device;
      count = refl;
      bench = sym (put_itself name device (take left devices) e);
      behind = refl;
      same = subst (λ (o : Option Seen). SameBut o device) (sym e) (refl, refl, λ told. told);
    }

-- ---- a device that failed

taken_is : (at left left_now : ℕ) (old mid new : List Seen) (Tells : Option (List MemFile) → Option (List MemFile) → Type 0) → (called : Called at Tells true old mid) → (taken : TakenOff at left left_now mid new) → taken.device ≡ called.after
taken_is at left left_now old mid new Tells called taken =
    some_same taken.device called.after (sym taken.here ∙ ap (λ l. slice_get l at) called.there ∙ get_set_same old at called.after called.before called.here)

pub took_off : (name : List ℕ) (old mid new : List Seen) (left left_now at : ℕ) (Tells : Option (List MemFile) → Option (List MemFile) → Type 0) →
    IsFirstAt name (take left old) at → Called at Tells true old mid → TakenOff at left left_now mid new → TookOff name left left_now old new
took_off name old mid new left left_now at Tells first called taken =
    record {
      before = called.before;
      after = called.after;
      less = taken.less;
      found = found_before name old left at called.before first called.here;
      bench =
          taken.bench
          ∙ ap (λ l. take at (take left l) ++ drop (suc at) (take left l)) called.there
          ∙ ap (λ l. take at l ++ drop (suc at) l) (take_set old left at called.after (place_below name old left at first))
          ∙ cut_set (take left old) at called.after
          ∙ taken_at name (take left old) at first;
      behind =
          taken.behind
          ∙ ap (λ d. d ∷ drop left mid) (taken_is at left left_now old mid new Tells called taken)
          ∙ ap (λ l. called.after ∷ l) (ap (drop left) called.there ∙ drop_set old left at called.after (place_below name old left at first));
      named = called.named;
      counted = called.counted;
    }

pub at_some : {A : Type 0} (o : Option A) (P : A → Type 0) (x : A) → o ≡ Some x → IfSome o P → P x
at_some {A} o P x e given = subst (λ (v : Option A). IfSome v P) e given

pub failed_stands : (name : List ℕ) (old mid new : List Seen) (left left_now at : ℕ) (Tells : Option (List MemFile) → Option (List MemFile) → Type 0) (addresses : List Address) (table now : List FileRow) (world : World) →
    IsFirstAt name (take left old) at → Called at Tells true old mid → TakenOff at left left_now mid new →
    IfSome (slice_get mid at) (λ device. now ≡ rows_closed_on device.name addresses table) → Stands addresses (take left old) table world →
    Stands addresses (take left_now new) now (without name (device_found name (take left_now new)) addresses world)
failed_stands name old mid new left left_now at Tells addresses table now world first called taken rows stands =
    subst (λ (ds : List Seen). Stands addresses ds now (without name (device_found name ds) addresses world)) (sym (took_off name old mid new left left_now at Tells first called taken).bench)
    (subst (λ (t : List FileRow). Stands addresses (device_taken name (take left old)) t (without name (device_found name (device_taken name (take left old))) addresses world)) (sym closed_now)
    (gone addresses (take left old) table world stands name))
  where
    named : called.after.name ≡ name
    named = called.named ∙ name_same called.before.name name (found_named name (take left old) called.before (found_before name old left at called.before first called.here))

    closed_now : now ≡ rows_closed_on name addresses table
    closed_now =
        at_some (slice_get mid at) (λ device. now ≡ rows_closed_on device.name addresses table) taken.device taken.here rows
        ∙ ap (λ (d : Seen). rows_closed_on d.name addresses table) (taken_is at left left_now old mid new Tells called taken)
        ∙ ap (λ n. rows_closed_on n addresses table) named
