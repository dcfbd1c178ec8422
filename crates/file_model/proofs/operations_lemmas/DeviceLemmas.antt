-- The first device of a name, after a change.
use Rattle.std.proofs.Common.{◌≡◌, ◌∙◌, sym, subst, ℕ, zero, suc, ◌<◌, Bool, true, false, List, [], ◌∷◌, ◌++◌, length, take, drop, Some, refl, ap, arith, slice_get, slice_set, if◌then◌else◌}
use Rattle.std.specs.Str.{bytes_eq}
use Rattle.file_model.specs.operations.Seen.{IsFirstAt, Seen, device_found, device_put, device_taken}
use Rattle.file_model.proofs.operations_lemmas.FileLemmas.{not_other}

-- ---- by place

pub other_devices : (name : List ℕ) (device : Seen) (devices : List Seen) (at : ℕ) → IsFirstAt name (device ∷ devices) (suc at) → IsFirstAt name devices at
other_devices name device devices at first =
    record {
      within = let w : suc at < length (device ∷ devices) = first.within in omega arith;
      here = first.here;
      others = λ k below. first.others (suc k) (omega arith);
    }

pub found_at : (name : List ℕ) (devices : List Seen) (at : ℕ) (device : Seen) → IsFirstAt name devices at → slice_get devices at ≡ Some device → device_found name devices ≡ Some device
found_at name [] at device first is = cc
found_at name (d ∷ devices) zero device first is =
    let e : bytes_eq d.name name ≡ true = first.here in
    ap (λ b. if b then Some d else device_found name devices) e ∙ is
found_at name (d ∷ devices) (suc at) device first is =
    let e : bytes_eq d.name name ≡ false = first.others 0 (omega arith) in
    ap (λ b. if b then Some d else device_found name devices) e ∙ found_at name devices at device (other_devices name d devices at first) is

pub put_at : (name : List ℕ) (devices : List Seen) (at : ℕ) (new : Seen) → IsFirstAt name devices at → slice_set devices at new ≡ device_put name new devices
put_at name [] at new first = refl
put_at name (d ∷ devices) zero new first =
    let e : bytes_eq d.name name ≡ true = first.here in
    sym (ap (λ b. if b then new ∷ devices else d ∷ device_put name new devices) e)
put_at name (d ∷ devices) (suc at) new first =
    let e : bytes_eq d.name name ≡ false = first.others 0 (omega arith) in
    ap (λ l. d ∷ l) (put_at name devices at new (other_devices name d devices at first))
    ∙ sym (ap (λ b. if b then new ∷ devices else d ∷ device_put name new devices) e)

pub taken_at : (name : List ℕ) (devices : List Seen) (at : ℕ) → IsFirstAt name devices at → take at devices ++ drop (suc at) devices ≡ device_taken name devices
taken_at name [] at first = absurd (let w : at < 0 = first.within in omega arith)
taken_at name (d ∷ devices) zero first =
    let e : bytes_eq d.name name ≡ true = first.here in
    sym (ap (λ b. if b then devices else d ∷ device_taken name devices) e)
taken_at name (d ∷ devices) (suc at) first =
    let e : bytes_eq d.name name ≡ false = first.others 0 (omega arith) in
    ap (λ l. d ∷ l) (taken_at name devices at (other_devices name d devices at first))
    ∙ sym (ap (λ b. if b then devices else d ∷ device_taken name devices) e)

-- ---- by name

pub found_named : (name : List ℕ) (devices : List Seen) (device : Seen) → device_found name devices ≡ Some device → bytes_eq device.name name ≡ true
found_named name [] device e = cc
found_named name (first ∷ devices) device e = go (found_named name devices device) (bytes_eq first.name name) refl e
  where
    go : (device_found name devices ≡ Some device → bytes_eq device.name name ≡ true) → (b : Bool) → bytes_eq first.name name ≡ b → (if b then Some first else device_found name devices) ≡ Some device → bytes_eq device.name name ≡ true
    go more true same e = let f : first ≡ device = cc in subst (λ (d : Seen). bytes_eq d.name name ≡ true) f same
    go more false other e = more e

pub found_put : (name : List ℕ) (new device : Seen) (devices : List Seen) → device_found name devices ≡ Some device → new.name ≡ device.name → device_found name (device_put name new devices) ≡ Some new
found_put name new device [] e n = cc
found_put name new device (first ∷ devices) e n = go (λ f. found_put name new device devices f n) (bytes_eq first.name name) refl e
  where
    go : (device_found name devices ≡ Some device → device_found name (device_put name new devices) ≡ Some new) → (b : Bool) → bytes_eq first.name name ≡ b → (if b then Some first else device_found name devices) ≡ Some device →
        device_found name (if b then new ∷ devices else first ∷ device_put name new devices) ≡ Some new
    go more true same e =
        let f : first ≡ device = cc in
        let s : bytes_eq new.name name ≡ true = ap (λ m. bytes_eq m name) (n ∙ sym (ap (λ (d : Seen). d.name) f)) ∙ same in
        ap (λ b. if b then Some new else device_found name devices) s
    go more false other e = ap (λ b. if b then Some first else device_found name (device_put name new devices)) other ∙ more e

pub found_put_other : (name other : List ℕ) (new : Seen) → bytes_eq new.name name ≡ true → bytes_eq name other ≡ false → (devices : List Seen) →
    device_found other (device_put name new devices) ≡ device_found other devices
found_put_other name other new is differ [] = refl
found_put_other name other new is differ (first ∷ devices) = go (found_put_other name other new is differ devices) (bytes_eq first.name name) refl
  where
    go : device_found other (device_put name new devices) ≡ device_found other devices → (b : Bool) → bytes_eq first.name name ≡ b →
        device_found other (if b then new ∷ devices else first ∷ device_put name new devices) ≡ device_found other (first ∷ devices)
    go more true same =
        let s : bytes_eq first.name other ≡ false = not_other first.name name other same differ in
        let t : bytes_eq new.name other ≡ false = not_other new.name name other is differ in
        ap (λ b. if b then Some new else device_found other devices) t ∙ sym (ap (λ b. if b then Some first else device_found other devices) s)
    go more false differs = ap (λ x. if bytes_eq first.name other then Some first else x) more

pub found_taken_other : (name other : List ℕ) → bytes_eq name other ≡ false → (devices : List Seen) →
    device_found other (device_taken name devices) ≡ device_found other devices
found_taken_other name other differ [] = refl
found_taken_other name other differ (first ∷ devices) = go (found_taken_other name other differ devices) (bytes_eq first.name name) refl
  where
    go : device_found other (device_taken name devices) ≡ device_found other devices → (b : Bool) → bytes_eq first.name name ≡ b →
        device_found other (if b then devices else first ∷ device_taken name devices) ≡ device_found other (first ∷ devices)
    go more true same =
        let s : bytes_eq first.name other ≡ false = not_other first.name name other same differ in
        sym (ap (λ b. if b then Some first else device_found other devices) s)
    go more false differs = ap (λ x. if bytes_eq first.name other then Some first else x) more
