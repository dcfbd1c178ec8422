-- Devices that tell their files still do after a call, and after one of them is taken off.
use Rattle.std.proofs.Common.{◌≡◌, sym, subst, ℕ, Bool, true, false, List, [], ◌∷◌, take, Option, Some, None, refl, if◌then◌else◌}
use Rattle.std.specs.Prelude.{IsSome}
use Rattle.std.specs.Str.{bytes_eq}
use Rattle.cob_tree.specs.declared.file.How.{How}
use Rattle.file_model.specs.declared.device.Got.{Got}
use Rattle.file_model.specs.declared.device.Got.TheVariants as got
use Rattle.file_model.specs.declared.device.Opened.{Opened}
use Rattle.file_model.specs.declared.device.Opened.TheVariants as opened
use Rattle.file_model.specs.declared.device.Put.{Put}
use Rattle.file_model.specs.declared.device.Put.TheVariants as put
use Rattle.file_model.specs.declared.mem_file.MemFile.{MemFile}
use Rattle.file_model.specs.Told.{Changes, Opens, Reads, ReadsFrom, found}
use Rattle.file_model.specs.operations.Seen.{Seen, device_found, device_put}
use Rattle.file_model.specs.operations.Standing.{IsTold}
use Rattle.file_model.specs.operations.Calls.{Kept, SameBut}

-- ---- a call

still : (files : List MemFile) (now : Option (List MemFile)) → now ≡ Some files → IsSome now
still files now is = subst (λ (o : Option (List MemFile)). IsSome o) (sym is) refl

pub opens_tell : (old now : Option (List MemFile)) (name : List ℕ) (mode : How) (answer : Opened) → Opens old name mode answer now → IsSome old → IsSome now
opens_tell None now name mode answer opens told = absurd (let e : false ≡ true = told in cc)
opens_tell (Some files) now name mode opened.Ready opens told = opens.1
opens_tell (Some files) now name mode opened.Missing opens told = still files now opens.1
opens_tell (Some files) now name mode opened.Failed opens told = still files now opens
opens_tell (Some files) now name mode opened.NoMemory opens told = still files now opens

pub changes_tell : (old now : Option (List MemFile)) (name : List ℕ) (change : MemFile → MemFile) (answer : Put) → Changes old name change answer now → IsSome old → IsSome now
changes_tell None now name change answer changes told = absurd (let e : false ≡ true = told in cc)
changes_tell (Some files) now name change put.Done changes told = subst (λ (o : Option (List MemFile)). IsSome o) (sym changes) refl
changes_tell (Some files) now name change put.Failed changes told = still files now changes
changes_tell (Some files) now name change put.NoMemory changes told = still files now changes

gives_tell : (files : List MemFile) (now : Option (List MemFile)) (name into after : List ℕ) (answer : Got) (file : Option MemFile) → ReadsFrom name file files answer into after now → IsSome now
gives_tell files now name into after answer None reads = still files now reads
gives_tell files now name into after (got.Bytes n) (Some file) reads = subst (λ (o : Option (List MemFile)). IsSome o) (sym reads.2) refl
gives_tell files now name into after got.End (Some file) reads = still files now reads.1
gives_tell files now name into after got.Failed (Some file) reads = still files now reads

pub reads_tell : (old now : Option (List MemFile)) (name into after : List ℕ) (answer : Got) → Reads old name answer into after now → IsSome old → IsSome now
reads_tell None now name into after answer reads told = absurd (let e : false ≡ true = told in cc)
reads_tell (Some files) now name into after answer reads told = gives_tell files now name into after answer (found name files) reads

-- ---- the devices of a bench

put_told : (name other : List ℕ) (new : Seen) (devices : List Seen) → SameBut (device_found name devices) new → IsTold (device_found other devices) → IsTold (device_found other (device_put name new devices))
put_told name other new [] same told = told
put_told name other new (first ∷ devices) same told = go (bytes_eq first.name name) (put_told name other new devices) same
  where
    here : SameBut (Some first) new → (b : Bool) → IsTold (if b then Some first else device_found other devices) → IsTold (if b then Some new else device_found other devices)
    here is true told = is.2 told
    here is false told = told

    later : (b : Bool) → (IsTold (device_found other devices) → IsTold (device_found other (device_put name new devices))) → IsTold (if b then Some first else device_found other devices) → IsTold (if b then Some first else device_found other (device_put name new devices))
    later true more told = told
    later false more told = more told

    go : (b : Bool) → (SameBut (device_found name devices) new → IsTold (device_found other devices) → IsTold (device_found other (device_put name new devices))) → SameBut (if b then Some first else device_found name devices) new → IsTold (device_found other (if b then new ∷ devices else first ∷ device_put name new devices))
    go true more is =
        subst (λ (n : List ℕ). IsTold (if bytes_eq n other then Some new else device_found other devices)) (sym is.0) (here is (bytes_eq first.name other) told)
    go false more is = later (bytes_eq first.name other) (more is) told

-- after an operation that no device failed in
pub kept_told : (name other : List ℕ) (left left_now : ℕ) (old new : List Seen) → Kept name left left_now old new → IsTold (device_found other (take left old)) → IsTold (device_found other (take left_now new))
kept_told name other left left_now old new kept told =
    subst (λ (n : ℕ). IsTold (device_found other (take n new))) (sym kept.count) (subst (λ (ds : List Seen). IsTold (device_found other ds)) (sym kept.bench) (put_told name other kept.device (take left old) kept.same told))
