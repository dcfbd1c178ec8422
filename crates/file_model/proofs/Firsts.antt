-- The first file of a name is found and changed where the ones before it have others.
use Rattle.std.proofs.Common.{◌≡◌, ◌<◌, ◌≤◌, ◌+◌, ◌∙◌, inl, inr, sym, subst, ℕ, zero, suc, List, [], ◌∷◌, length, Option, Some, None, true, false, IfSome, slice_get, slice_set, refl, ap, arith}
use Rattle.std.proofs.lemmas.Bool.{cases_lt}
use Rattle.std.specs.Str.{bytes_eq}
use Rattle.cob_tree.specs.declared.file.How.{How}
use Rattle.file_model.specs.declared.mem_file.MemFile.{MemFile}
use Rattle.file_model.specs.declared.device.Got.{Got}
use Rattle.file_model.specs.declared.device.Got.TheVariants as got
use Rattle.file_model.specs.Told.{ReadsFrom, changed, found, opened_as, opening, read_on}
use Rattle.file_model.specs.First.{GivesNext, HasNone, IsFirst}

-- the files before a place have other names
abbrev pub Others : List ℕ → List MemFile → ℕ → Type 0
Others name files at = (k : ℕ) → k < at → IfSome (slice_get files k) (λ file. bytes_eq file.name name ≡ false)

others_behind : (name : List ℕ) (file : MemFile) (files : List MemFile) (at : ℕ) → Others name (file ∷ files) (suc at) → Others name files at
others_behind name file files at others k below = others (suc k) (omega (arith, below))

found_here : (name : List ℕ) (files : List MemFile) (at : ℕ) (file : MemFile) → slice_get files at ≡ Some file → bytes_eq file.name name ≡ true → Others name files at → found name files ≡ Some file
found_here name [] at file is same others = cc
found_here name (first ∷ files) zero file is same others = let f : first ≡ file = cc in cc
found_here name (first ∷ files) (suc at) file is same others =
    let no : bytes_eq first.name name ≡ false = others 0 (omega arith) in
    let behind : found name files ≡ Some file = found_here name files at file is same (others_behind name first files at others) in
    cc

changed_here : (name : List ℕ) (change : MemFile → MemFile) (files : List MemFile) (at : ℕ) (file : MemFile) → slice_get files at ≡ Some file → bytes_eq file.name name ≡ true → Others name files at → changed name change files ≡ slice_set files at (change file)
changed_here name change [] at file is same others = cc
changed_here name change (first ∷ files) zero file is same others = let f : first ≡ file = cc in cc
changed_here name change (first ∷ files) (suc at) file is same others =
    let no : bytes_eq first.name name ≡ false = others 0 (omega arith) in
    let behind : changed name change files ≡ slice_set files at (change file) = changed_here name change files at file is same (others_behind name first files at others) in
    cc

none_found : (name : List ℕ) (files : List MemFile) → Others name files (length files) → found name files ≡ None
none_found name [] others = refl
none_found name (first ∷ files) others =
    let no : bytes_eq first.name name ≡ false = others 0 (omega arith) in
    let behind : found name files ≡ None = none_found name files (others_behind name first files (length files) others) in
    cc

none_changed : (name : List ℕ) (change : MemFile → MemFile) (files : List MemFile) → Others name files (length files) → changed name change files ≡ files
none_changed name change [] others = refl
none_changed name change (first ∷ files) others =
    let no : bytes_eq first.name name ≡ false = others 0 (omega arith) in
    let behind : changed name change files ≡ files = none_changed name change files (others_behind name first files (length files) others) in
    cc

others_all : (name : List ℕ) (files : List MemFile) (at : ℕ) → Others name files at → length files ≤ at → Others name files (length files)
others_all name files at others past k below = others k (omega (arith, below, past))

pub no_file : (name : List ℕ) (files : List MemFile) (at : ℕ) → Others name files at → length files ≤ at → HasNone name files
no_file name files at others past =
    record {
      none = none_found name files (others_all name files at others past);
      stays = λ change. none_changed name change files (others_all name files at others past);
    }

same_name : (name : List ℕ) (file other : MemFile) → Some file ≡ Some other → bytes_eq file.name name ≡ true → bytes_eq other.name name ≡ true
same_name name file other e same = cc

pub first_file : (name : List ℕ) (files : List MemFile) (at : ℕ) (file : MemFile) → slice_get files at ≡ Some file → at < length files → bytes_eq file.name name ≡ true → Others name files at → IsFirst name files at
first_file name files at file is within same others =
    record {
      within = within;
      here = found_here name files at file is same others ∙ sym is;
      changes = λ change other there. changed_here name change files at other there (same_name name file other (sym is ∙ there) same) others;
    }

pub others_more : (name : List ℕ) (files : List MemFile) (at : ℕ) (file : MemFile) → Others name files at → slice_get files at ≡ Some file → bytes_eq file.name name ≡ false → Others name files (at + 1)
others_more name files at file others there other k below =
    elim (cases_lt k at) [
      | inl before ↦ others k before
      | inr past ↦ subst (λ (i : ℕ). IfSome (slice_get files i) (λ f. bytes_eq f.name name ≡ false)) (omega (arith, below, past)) (subst (λ (o : Option MemFile). IfSome o (λ f. bytes_eq f.name name ≡ false)) (sym there) other)
    ]

-- ---- what becomes of the files

pub put_first : (name : List ℕ) (files : List MemFile) (at : ℕ) (change : MemFile → MemFile) (file new : MemFile) → IsFirst name files at → slice_get files at ≡ Some file → new ≡ change file → slice_set files at new ≡ changed name change files
put_first name files at change file new first there is = ap (slice_set files at) is ∙ sym (first.changes change file there)

set_same : (files : List MemFile) (at : ℕ) (file : MemFile) → slice_get files at ≡ Some file → slice_set files at file ≡ files
set_same [] at file there = cc
set_same (first ∷ files) zero file there = let f : first ≡ file = cc in cc
set_same (first ∷ files) (suc at) file there = ap (λ (l : List MemFile). first ∷ l) (set_same files at file there)

pub kept_first : (files : List MemFile) (at : ℕ) (file new : MemFile) → slice_get files at ≡ Some file → new ≡ file → slice_set files at new ≡ files
kept_first files at file new there is = ap (slice_set files at) is ∙ set_same files at file there

gives_next : (name : List ℕ) (files : List MemFile) (at : ℕ) (file new : MemFile) (answer : Got) (old now : List ℕ) → IsFirst name files at → slice_get files at ≡ Some file →
    GivesNext file answer old now new → ReadsFrom name (Some file) files answer old now (Some (slice_set files at new))
gives_next name files at file new (got.Bytes n) old now first there given = (given.0, given.1, ap Some (put_first name files at (read_on n) file new first there given.2), given.3)
gives_next name files at file new got.End old now first there given = (given.0, ap Some (kept_first files at file new there given.1))
gives_next name files at file new got.Failed old now first there given = ap Some (kept_first files at file new there given)

pub reads_first : (name : List ℕ) (files : List MemFile) (at : ℕ) (file new : MemFile) (answer : Got) (old now : List ℕ) → IsFirst name files at → slice_get files at ≡ Some file →
    GivesNext file answer old now new → ReadsFrom name (found name files) files answer old now (Some (slice_set files at new))
reads_first name files at file new answer old now first there given =
    subst (λ (f : Option MemFile). ReadsFrom name f files answer old now (Some (slice_set files at new))) (sym (first.here ∙ there)) (gives_next name files at file new answer old now first there given)

pub opens_first : (name : List ℕ) (files : List MemFile) (at : ℕ) (mode : How) (file new : MemFile) → IsFirst name files at → slice_get files at ≡ Some file → new ≡ opened_as mode file →
    Some (slice_set files at new) ≡ opening mode name files (found name files)
opens_first name files at mode file new first there is =
    ap Some (put_first name files at (opened_as mode) file new first there is) ∙ sym (ap (opening mode name files) (first.here ∙ there))
