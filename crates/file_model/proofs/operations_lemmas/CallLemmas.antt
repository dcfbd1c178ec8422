-- What a call of one device, or a rotation, makes of the devices of a bench.
use Rattle.std.proofs.Common.{◌≡◌, ◌∙◌, sym, subst, ℕ, zero, suc, ◌<◌, ◌≤◌, ◌+◌, ◌-◌, Bool, true, false, List, [], ◌∷◌, ◌++◌, map, length, take, drop, Option, Some, None, refl, ap, arith, slice_get, slice_set, if◌then◌else◌, get_or}
use Rattle.std.proofs.Common.{inl, inr, IfSome, IsSome, length-append, length-take, length-drop}
use Rattle.std.proofs.lemmas.Bool.{cases_lt}
use Rattle.std.proofs.lemmas.List.{map-set, map-append, length-map, take-map, drop-map, take-append-le}
use Rattle.std.specs.Str.{bytes_eq}
use Rattle.std.proofs.lemmas.Option.{slice_get_read, slice_get-map}
use Rattle.std.specs.Option.{option_map}
use Rattle.file_model.specs.declared.mem_file.MemFile.{MemFile}
use Rattle.file_model.specs.Told.{Counts}
use Rattle.file_model.specs.operations.Seen.{IsFirstAt, Nowhere, Seen, device_found}
use Rattle.file_model.specs.operations.Calls.{Called, TakenOff}

pub seen_at : {A : Type 0} (see : A → Seen) (items : List A) (n at : ℕ) (item : A) → n ≡ length items → at < n → item ≡ get_or items at item → slice_get (map see items) at ≡ Some (see item)
seen_at see items n at item e within is = slice_get-map see items at ∙ ap (option_map see) (slice_get_read items n at item e within is)

pub called_of : {A : Type 0} (see : A → Seen) (items : List A) (n at : ℕ) (old new : A) (Tells : Option (List MemFile) → Option (List MemFile) → Type 0) (fails : Bool) →
    n ≡ length items → at < n → old ≡ get_or items at old → (see new).name ≡ (see old).name → Tells (see old).files (see new).files → (IsSome (see old).files → IsSome (see new).files) → Counts fails (see old).faults (see new).faults →
    Called at Tells fails (map see items) (map see (slice_set items at new))
called_of see items n at old new Tells fails e within is named tells telling counted =
    record {
      before = see old;
      after = see new;
      here = seen_at see items n at old e within is;
      there = map-set see items at new;
      named = named;
      tells = tells;
      telling = telling;
      counted = counted;
    }

-- ---- a rotation

-- the element at a place behind the k - 1 that follow it
abbrev pub turned : {A : Type 0} → ℕ → ℕ → List A → List A
turned at k items = take at items ++ ((drop 1 (take k (drop at items)) ++ take 1 (take k (drop at items))) ++ drop k (drop at items))

turned_map : {A : Type 0} (see : A → Seen) (at k : ℕ) (items : List A) → map see (turned at k items) ≡ turned at k (map see items)
turned_map see at k items = simp (map-append, take-map, drop-map)

length_turned : {A : Type 0} (at k : ℕ) (items : List A) → at + k ≤ length items → 0 < k → length (turned at k items) ≡ length items
length_turned at k items within some = simp (length-append, length-take, length-drop) (omega arith)

front_here : (device : Seen) (rest : List Seen) (m : ℕ) → m ≤ length rest → take m ((take m rest ++ device ∷ []) ++ drop m rest) ≡ take m rest
front_here device rest zero within = refl
front_here device [] (suc m) within = absurd (omega (arith, within))
front_here device (first ∷ rest) (suc m) within = ap (λ l. first ∷ l) (front_here device rest m (omega (arith, within)))

back_here : (device : Seen) (rest : List Seen) (m : ℕ) → m ≤ length rest → drop m ((take m rest ++ device ∷ []) ++ drop m rest) ≡ device ∷ drop m rest
back_here device rest zero within = refl
back_here device [] (suc m) within = absurd (omega (arith, within))
back_here device (first ∷ rest) (suc m) within = back_here device rest m (omega (arith, within))

turned_front : (devices : List Seen) (at k m : ℕ) → at + k ≡ suc m → 0 < k → m < length devices → take m (turned at k devices) ≡ take at (take (suc m) devices) ++ drop (suc at) (take (suc m) devices)
turned_front [] at k m e some within = absurd (omega (arith, within))
turned_front (first ∷ devices) zero k m e some within =
    let f : suc m ≡ k = omega (arith, e) in
    subst (λ (n : ℕ). take m (turned zero n (first ∷ devices)) ≡ drop 1 (take (suc m) (first ∷ devices))) f (front_here first devices m (omega (arith, within)))
turned_front (first ∷ devices) (suc at) k zero e some within = absurd (omega (arith, e, some))
turned_front (first ∷ devices) (suc at) k (suc m) e some within = ap (λ l. first ∷ l) (turned_front devices at k m (omega (arith, e)) some (omega (arith, within)))

turned_back : (devices : List Seen) (at k m : ℕ) (device : Seen) → at + k ≡ suc m → 0 < k → m < length devices → slice_get devices at ≡ Some device → drop m (turned at k devices) ≡ device ∷ drop (suc m) devices
turned_back [] at k m device e some within is = absurd (omega (arith, within))
turned_back (first ∷ devices) zero k m device e some within is =
    let f : first ≡ device = cc in
    let g : suc m ≡ k = omega (arith, e) in
    subst (λ (n : ℕ). drop m (turned zero n (first ∷ devices)) ≡ device ∷ drop m devices) g
    (subst (λ (d : Seen). drop m ((take m devices ++ first ∷ []) ++ drop m devices) ≡ d ∷ drop m devices) f (back_here first devices m (omega (arith, within))))
turned_back (first ∷ devices) (suc at) k zero device e some within is = absurd (omega (arith, e, some))
turned_back (first ∷ devices) (suc at) k (suc m) device e some within is = turned_back devices at k m device (omega (arith, e)) some (omega (arith, within)) is

taken_seen : (devices : List Seen) (at k m : ℕ) (device : Seen) → at + k ≡ suc m → 0 < k → m < length devices → slice_get devices at ≡ Some device → TakenOff at (suc m) m devices (turned at k devices)
taken_seen devices at k m device e some within is =
    record {
      device = device;
      less = refl;
      here = is;
      bench = turned_front devices at k m e some within;
      behind = turned_back devices at k m device e some within is;
    }

get_seen : (devices : List Seen) (at : ℕ) → at < length devices → (device : Seen) × (slice_get devices at ≡ Some device)
get_seen [] at within = absurd (omega (arith, within))
get_seen (first ∷ devices) zero within = (first, refl)
get_seen (first ∷ devices) (suc at) within = get_seen devices at (omega (arith, within))

-- what lies behind a part that was written is as before
take_none : {A : Type 0} (m : ℕ) → take {A = A} m [] ≡ []
take_none zero = refl
take_none (suc m) = refl

pub take_all : {A : Type 0} (xs : List A) (m : ℕ) → length xs ≤ m → take m xs ≡ xs
take_all [] m within = take_none m
take_all (x ∷ xs) zero within = absurd (omega (arith, within))
take_all (x ∷ xs) (suc m) within = ap (λ l. x ∷ l) (take_all xs m (omega (arith, within)))

pub written_whole : {A : Type 0} (items whole : List A) (n : ℕ) → n ≡ length items → length whole ≡ length items → take n (whole ++ drop (length whole) items) ≡ whole
written_whole items whole n e f = take-append-le n whole (drop (length whole) items) (omega arith) ∙ take_all whole n (omega arith)

pub rotated : {A : Type 0} (see : A → Seen) (items lent turn : List A) (n left at : ℕ) → lent ≡ items → n ≡ length items → at < left → left ≤ n →
    turn ≡ drop 1 (take (left - at) (drop at lent)) ++ take 1 (take (left - at) (drop at lent)) →
    TakenOff at left (left - 1) (map see items)
    (map see (take n ((take at lent ++ (turn ++ drop (left - at) (drop at lent))) ++ drop (length (take at lent ++ (turn ++ drop (left - at) (drop at lent)))) items)))
rotated see items lent turn n left at e many within fits turning =
    subst (λ (l : List Seen). TakenOff at left (left - 1) (map see items) l) (sym made)
    (let f : suc (left - 1) ≡ left = omega (arith, within) in
    subst (λ (m : ℕ). TakenOff at m (left - 1) (map see items) (turned at (left - at) (map see items))) f
    (taken_seen (map see items) at (left - at) (left - 1) found.0 (omega (arith, within)) (omega (arith, within)) (simp length-map (omega arith)) found.1))
  where
    found : (device : Seen) × (slice_get (map see items) at ≡ Some device)
    found = get_seen (map see items) at (simp length-map (omega arith))

    whole : take at lent ++ (turn ++ drop (left - at) (drop at lent)) ≡ turned at (left - at) items
    whole = ap (λ t. take at lent ++ (t ++ drop (left - at) (drop at lent))) turning ∙ ap (λ l. turned at (left - at) l) e

    made : map see (take n ((take at lent ++ (turn ++ drop (left - at) (drop at lent))) ++ drop (length (take at lent ++ (turn ++ drop (left - at) (drop at lent)))) items)) ≡ turned at (left - at) (map see items)
    made =
        ap (λ w. map see (take n (w ++ drop (length w) items))) whole
        ∙ ap (map see) (written_whole items (turned at (left - at) items) n many (length_turned at (left - at) items (omega arith) (omega arith)))
        ∙ turned_map see at (left - at) items

-- ---- a search

pub get_take : (devices : List Seen) (left k : ℕ) → k < left → slice_get (take left devices) k ≡ slice_get devices k
get_take [] left k below = ap (λ (l : List Seen). slice_get l k) (take_none {A = Seen} left)
get_take (first ∷ devices) zero k below = absurd (omega (arith, below))
get_take (first ∷ devices) (suc left) zero below = refl
get_take (first ∷ devices) (suc left) (suc k) below = get_take devices left k (omega (arith, below))

pub first_at : (name : List ℕ) (devices : List Seen) (left at : ℕ) (same : Bool) → at < left → left ≤ length devices →
    IfSome (slice_get devices at) (λ device. same ≡ bytes_eq device.name name) → same ≡ true →
    ((k : ℕ) → k < at → IfSome (slice_get devices k) (λ device. bytes_eq device.name name ≡ false)) → IsFirstAt name (take left devices) at
first_at name devices left at same within fits is found others =
    record {
      within = simp length-take (omega arith);
      here = subst (λ (o : Option Seen). IfSome o (λ device. bytes_eq device.name name ≡ true)) (sym (get_take devices left at within)) (given (slice_get devices at) is);
      others = λ k below. subst (λ (o : Option Seen). IfSome o (λ device. bytes_eq device.name name ≡ false)) (sym (get_take devices left k (omega arith))) (others k below);
    }
  where
    given : (o : Option Seen) → IfSome o (λ device. same ≡ bytes_eq device.name name) → IfSome o (λ device. bytes_eq device.name name ≡ true)
    given None e = tt
    given (Some device) e = sym e ∙ found

pub others_more : (name : List ℕ) (devices : List Seen) (at : ℕ) (same : Bool) →
    IfSome (slice_get devices at) (λ device. same ≡ bytes_eq device.name name) → same ≡ false →
    ((k : ℕ) → k < at → IfSome (slice_get devices k) (λ device. bytes_eq device.name name ≡ false)) →
    (k : ℕ) → k < at + 1 → IfSome (slice_get devices k) (λ device. bytes_eq device.name name ≡ false)
others_more name devices at same is differ others k below =
    elim (cases_lt k at) [
      | inl before ↦ others k before
      | inr past ↦ let e : at ≡ k = omega (arith, below, past) in subst (λ (i : ℕ). IfSome (slice_get devices i) (λ device. bytes_eq device.name name ≡ false)) e (given (slice_get devices at) is)
    ]
  where
    given : (o : Option Seen) → IfSome o (λ device. same ≡ bytes_eq device.name name) → IfSome o (λ device. bytes_eq device.name name ≡ false)
    given None e = tt
    given (Some device) e = sym e ∙ differ

pub nowhere : (name : List ℕ) (devices : List Seen) (left at : ℕ) → left ≤ at →
    ((k : ℕ) → k < at → IfSome (slice_get devices k) (λ device. bytes_eq device.name name ≡ false)) → Nowhere name (take left devices)
nowhere name [] left at past others = ap (device_found name) (take_none {A = Seen} left)
nowhere name (first ∷ devices) zero at past others = refl
nowhere name (first ∷ devices) (suc left) zero past others = absurd (omega (arith, past))
nowhere name (first ∷ devices) (suc left) (suc at) past others =
    let differ : bytes_eq first.name name ≡ false = others 0 (omega arith) in
    ap (λ b. if b then Some first else device_found name (take left devices)) differ
    ∙ nowhere name devices left at (omega (arith, past)) (λ k below. others (suc k) (omega (arith, below)))
