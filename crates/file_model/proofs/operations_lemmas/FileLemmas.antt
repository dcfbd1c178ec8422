-- The first file of a name, and the first shelf of a name, after a change.
use Rattle.std.proofs.Common.{◌≡◌, ◌∙◌, sym, ℕ, zero, suc, Bool, true, false, List, [], ◌∷◌, ◌++◌, map, Some, None, refl, ap, slice_get, slice_set, if◌then◌else◌}
use Rattle.std.proofs.lemmas.Slice.Eq.{bytes_eq-Decides}
use Rattle.std.specs.Option.{option_map}
use Rattle.std.specs.Str.{bytes_eq}
use Rattle.file_model.specs.declared.mem_file.MemFile.{MemFile}
use Rattle.file_model.specs.Told.{changed, found, made}
use Rattle.file_model.specs.World.{File, Shelf, file_found, file_put, shelf_found, shelf_put}
use Rattle.file_model.specs.operations.Standing.{as_file, shelves_without}

-- ---- names

pub name_same : (a b : List ℕ) → bytes_eq a b ≡ true → a ≡ b
name_same a b e = (bytes_eq-Decides a b).0 e

pub name_refl : (a : List ℕ) → bytes_eq a a ≡ true
name_refl a = (bytes_eq-Decides a a).1 refl

-- a name that is one isn't the other
pub not_other : (a name other : List ℕ) → bytes_eq a name ≡ true → bytes_eq name other ≡ false → bytes_eq a other ≡ false
not_other a name other e differ = ap (λ x. bytes_eq x other) (name_same a name e) ∙ differ

-- ---- lists

pub get_set_same : {A : Type 0} (xs : List A) (at : ℕ) (x y : A) → slice_get xs at ≡ Some y → slice_get (slice_set xs at x) at ≡ Some x
get_set_same [] at x y e = cc
get_set_same (first ∷ xs) zero x y e = refl
get_set_same (first ∷ xs) (suc at) x y e = get_set_same xs at x y e

pub get_set_other : {A : Type 0} (xs : List A) (at other : ℕ) (x : A) → (at ≡ other → ⊥) → slice_get (slice_set xs at x) other ≡ slice_get xs other
get_set_other [] at other x differ = refl
get_set_other (first ∷ xs) zero zero x differ = absurd (differ refl)
get_set_other (first ∷ xs) zero (suc other) x differ = refl
get_set_other (first ∷ xs) (suc at) zero x differ = refl
get_set_other (first ∷ xs) (suc at) (suc other) x differ = get_set_other xs at other x (λ e. differ (ap suc e))

-- ---- files of a device

pub found_changed : (name : List ℕ) (change : MemFile → MemFile) → ((f : MemFile) → (change f).name ≡ f.name) →
    (files : List MemFile) (file : MemFile) → found name files ≡ Some file → found name (changed name change files) ≡ Some (change file)
found_changed name change keeps [] file e = cc
found_changed name change keeps (first ∷ files) file e = go (found_changed name change keeps files file) (bytes_eq first.name name) refl e
  where
    go : (found name files ≡ Some file → found name (changed name change files) ≡ Some (change file)) → (b : Bool) → bytes_eq first.name name ≡ b → (if b then Some first else found name files) ≡ Some file →
        found name (if b then change first ∷ files else first ∷ changed name change files) ≡ Some (change file)
    go more true same e =
        let f : first ≡ file = cc in
        let s : bytes_eq (change first).name name ≡ true = ap (λ n. bytes_eq n name) (keeps first) ∙ same in
        ap (λ b. if b then Some (change first) else found name files) s ∙ ap (λ x. Some (change x)) f
    go more false other e =
        ap (λ b. if b then Some first else found name (changed name change files)) other ∙ more e

pub found_changed_other : (name other : List ℕ) (change : MemFile → MemFile) → ((f : MemFile) → (change f).name ≡ f.name) →
    bytes_eq name other ≡ false → (files : List MemFile) → found other (changed name change files) ≡ found other files
found_changed_other name other change keeps differ [] = refl
found_changed_other name other change keeps differ (first ∷ files) = go (found_changed_other name other change keeps differ files) (bytes_eq first.name name) refl
  where
    go : found other (changed name change files) ≡ found other files → (b : Bool) → bytes_eq first.name name ≡ b →
        found other (if b then change first ∷ files else first ∷ changed name change files) ≡ found other (first ∷ files)
    go more true same =
        let s : bytes_eq first.name other ≡ false = not_other first.name name other same differ in
        let t : bytes_eq (change first).name other ≡ false = ap (λ n. bytes_eq n other) (keeps first) ∙ s in
        ap (λ b. if b then Some (change first) else found other files) t ∙ sym (ap (λ b. if b then Some first else found other files) s)
    go more false differs = ap (λ x. if bytes_eq first.name other then Some first else x) more

same_file : (m n x y : List ℕ) → m ≡ n → x ≡ y → ◌≡◌ {A = File} (record { name = m; bytes = x }) (record { name = n; bytes = y })
same_file m n x y e f = cc

pub shown_changed : (name : List ℕ) (change : MemFile → MemFile) → ((f : MemFile) → (change f).name ≡ f.name) →
    (files : List MemFile) (file : MemFile) → found name files ≡ Some file →
    map as_file (changed name change files) ≡ file_put name (change file).bytes (map as_file files)
shown_changed name change keeps [] file e = cc
shown_changed name change keeps (first ∷ files) file e = go (shown_changed name change keeps files file) (bytes_eq first.name name) e
  where
    go : (found name files ≡ Some file → map as_file (changed name change files) ≡ file_put name (change file).bytes (map as_file files)) → (b : Bool) → (if b then Some first else found name files) ≡ Some file →
        map as_file (if b then change first ∷ files else first ∷ changed name change files) ≡
        (if b then record (as_file first) { bytes = (change file).bytes } ∷ map as_file files else as_file first ∷ file_put name (change file).bytes (map as_file files))
    go more true e =
        let f : first ≡ file = cc in
        let n : (change first).name ≡ first.name = keeps first in
        let b : (change first).bytes ≡ (change file).bytes = ap (λ x. (change x).bytes) f in
        ap (λ x. x ∷ map as_file files) (same_file (change first).name first.name (change first).bytes (change file).bytes n b)
    go more false e = ap (λ l. as_file first ∷ l) (more e)

pub file_found_shown : (name : List ℕ) (files : List MemFile) → file_found name (map as_file files) ≡ option_map as_file (found name files)
file_found_shown name [] = refl
file_found_shown name (first ∷ files) = go (file_found_shown name files) (bytes_eq first.name name)
  where
    go : file_found name (map as_file files) ≡ option_map as_file (found name files) → (b : Bool) → (if b then Some (as_file first) else file_found name (map as_file files)) ≡ option_map as_file (if b then Some first else found name files)
    go more true = refl
    go more false = more

pub found_made : (name : List ℕ) (files : List MemFile) → found name files ≡ None → found name (files ++ made name ∷ []) ≡ Some (made name)
found_made name [] e = ap (λ b. if b then Some (made name) else None) (name_refl name)
found_made name (first ∷ files) e = go (found_made name files) (bytes_eq first.name name) e
  where
    go : (found name files ≡ None → found name (files ++ made name ∷ []) ≡ Some (made name)) → (b : Bool) → (if b then Some first else found name files) ≡ None →
        (if b then Some first else found name (files ++ made name ∷ [])) ≡ Some (made name)
    go more true e = cc
    go more false e = more e

pub found_made_other : (name other : List ℕ) → bytes_eq name other ≡ false → (files : List MemFile) → found other (files ++ made name ∷ []) ≡ found other files
found_made_other name other differ [] = ap (λ b. if b then Some (made name) else None) differ
found_made_other name other differ (first ∷ files) = ap (λ x. if bytes_eq first.name other then Some first else x) (found_made_other name other differ files)

pub shown_made : (name : List ℕ) (files : List MemFile) → found name files ≡ None → map as_file (files ++ made name ∷ []) ≡ file_put name [] (map as_file files)
shown_made name [] e = refl
shown_made name (first ∷ files) e = go (shown_made name files) (bytes_eq first.name name) e
  where
    go : (found name files ≡ None → map as_file (files ++ made name ∷ []) ≡ file_put name [] (map as_file files)) → (b : Bool) → (if b then Some first else found name files) ≡ None →
        as_file first ∷ map as_file (files ++ made name ∷ []) ≡
        (if b then record (as_file first) { bytes = [] } ∷ map as_file files else as_file first ∷ file_put name [] (map as_file files))
    go more true e = cc
    go more false e = ap (λ l. as_file first ∷ l) (more e)

-- ---- shelves

abbrev pub with_files : (List File → List File) → Shelf → Shelf
with_files change shelf = record shelf { files = change shelf.files }

pub shelf_put_found : (name : List ℕ) (change : List File → List File) (shelves : List Shelf) →
    shelf_found name (shelf_put name change shelves) ≡ option_map (with_files change) (shelf_found name shelves)
shelf_put_found name change [] = refl
shelf_put_found name change (first ∷ shelves) = go (shelf_put_found name change shelves) (bytes_eq first.name name) refl
  where
    go : shelf_found name (shelf_put name change shelves) ≡ option_map (with_files change) (shelf_found name shelves) → (b : Bool) → bytes_eq first.name name ≡ b →
        shelf_found name (if b then with_files change first ∷ shelves else first ∷ shelf_put name change shelves) ≡
        option_map (with_files change) (if b then Some first else shelf_found name shelves)
    go more true same =
        ap (λ b. if b then Some (with_files change first) else shelf_found name shelves) same
    go more false other = ap (λ b. if b then Some first else shelf_found name (shelf_put name change shelves)) other ∙ more

pub shelf_put_other : (name other : List ℕ) (change : List File → List File) → bytes_eq name other ≡ false → (shelves : List Shelf) →
    shelf_found other (shelf_put name change shelves) ≡ shelf_found other shelves
shelf_put_other name other change differ [] = refl
shelf_put_other name other change differ (first ∷ shelves) = go (shelf_put_other name other change differ shelves) (bytes_eq first.name name) refl
  where
    go : shelf_found other (shelf_put name change shelves) ≡ shelf_found other shelves → (b : Bool) → bytes_eq first.name name ≡ b →
        shelf_found other (if b then with_files change first ∷ shelves else first ∷ shelf_put name change shelves) ≡ shelf_found other (first ∷ shelves)
    go more true same =
        let s : bytes_eq first.name other ≡ false = not_other first.name name other same differ in
        ap (λ b. if b then Some (with_files change first) else shelf_found other shelves) s ∙ sym (ap (λ b. if b then Some first else shelf_found other shelves) s)
    go more false differs = ap (λ x. if bytes_eq first.name other then Some first else x) more

pub shelf_without : (name : List ℕ) (shelves : List Shelf) → shelf_found name (shelves_without name shelves) ≡ None
shelf_without name [] = refl
shelf_without name (first ∷ shelves) = go (shelf_without name shelves) (bytes_eq first.name name) refl
  where
    go : shelf_found name (shelves_without name shelves) ≡ None → (b : Bool) → bytes_eq first.name name ≡ b →
        shelf_found name (if b then shelves_without name shelves else first ∷ shelves_without name shelves) ≡ None
    go more true same = more
    go more false other = ap (λ b. if b then Some first else shelf_found name (shelves_without name shelves)) other ∙ more

pub shelf_without_other : (name other : List ℕ) → bytes_eq name other ≡ false → (shelves : List Shelf) →
    shelf_found other (shelves_without name shelves) ≡ shelf_found other shelves
shelf_without_other name other differ [] = refl
shelf_without_other name other differ (first ∷ shelves) = go (shelf_without_other name other differ shelves) (bytes_eq first.name name) refl
  where
    go : shelf_found other (shelves_without name shelves) ≡ shelf_found other shelves → (b : Bool) → bytes_eq first.name name ≡ b →
        shelf_found other (if b then shelves_without name shelves else first ∷ shelves_without name shelves) ≡ shelf_found other (first ∷ shelves)
    go more true same =
        let s : bytes_eq first.name other ≡ false = not_other first.name name other same differ in
        more ∙ sym (ap (λ b. if b then Some first else shelf_found other shelves) s)
    go more false differs = ap (λ x. if bytes_eq first.name other then Some first else x) more
