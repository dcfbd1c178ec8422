-- Drafts of printed files break no rule, and the number of each FD is that of its file.
use Rattle.std.proofs.Common.{◌≡◌, ℕ, zero, suc, ◌+◌, Bool, true, false, not, cond, ◌||◌, if◌then◌else◌, List, [], ◌∷◌, ◌++◌, length, map, Option, Some, None, refl, ap, sym, ◌∙◌, append_assoc, length-append, arith}
use Rattle.std.specs.Prelude.{nat_lt, position, slice_get}
use Rattle.std.specs.List.{list_any, prefix_len}
use Rattle.std.specs.Str.{bytes_eq}
use Rattle.std.proofs.lemmas.Bool.{lt-ltb}
use Rattle.std.proofs.lemmas.Slice.Eq.{bytes_eq-Decides}
use Rattle.cob_tree.specs.declared.file.FileEntry.{FileEntry}
use Rattle.cob_tree.specs.declared.place.Place.{Place}
use Rattle.cob_tree.specs.declared.program.Program.{Program}
use Rattle.cobol_grammar.specs.declared.data_forms.draft.FdDraft.{FdDraft}
use Rattle.cobol_grammar.specs.declared.data_forms.draft.SelectDraft.{SelectDraft}
use Rattle.cobol_grammar.specs.declared.data_forms.draft.StatusDraft.{StatusDraft}
use Rattle.parser_combinators.specs.declared.note.NameKind.TheVariants.{Duplicate, Usage}
use Rattle.declaration_checks.specs.Fault.{fault_at, fault_unless}
use Rattle.declaration_checks.specs.File.{is_selected, is_described, duplicate_fault, named_fault, select_fault, selects_from, fd_fault, fds_from, number_by, file_number, status_of, file_of}
use Rattle.round_trip.specs.spelling.data_spelling.Sections.{Fd}
use Rattle.round_trip.specs.spelling.data_spelling.Drafts.{IsStatus, IsSelect, AreSelects, file_title, IsFd, AreFds}
use Rattle.round_trip.specs.declarations.printed_declarations.FileRules.{is_named, AreDistinct, fd_title, is_titled, AreThere, AreApartFds, AreDescribed}
use Rattle.round_trip.proofs.declarations_lemmas.printed_declarations_lemmas.Faults.{none-first}

-- ---- a file's SELECT

status-is : (o : Option Place) (list : List StatusDraft) → IsStatus o list → status_of list ≡ o
status-is None list h = ap status_of h
status-is (Some place) list h = ap status_of h.1

once : (o : Option Place) (list : List StatusDraft) → IsStatus o list → duplicate_fault list ≡ None
once None list h = ap duplicate_fault h
once (Some place) list h = ap duplicate_fault h.1

file-is : (file : FileEntry) (draft : SelectDraft) → IsSelect file draft → file_of draft ≡ file
file-is file draft h =
    ap (λ name. record { name = name; assign = draft.assign; status = status_of draft.statuses }) h.name
    ∙ ap (λ assign. record { name = file.name; assign = assign; status = status_of draft.statuses }) h.assign
    ∙ ap (λ status. record { name = file.name; assign = file.assign; status = status }) (status-is file.status draft.statuses h.status)

pub files-are : (files : List FileEntry) (drafts : List SelectDraft) → AreSelects files drafts → map file_of drafts ≡ files
files-are [] [] h = refl
files-are [] (draft ∷ drafts) h = absurd h
files-are (file ∷ files) [] h = absurd h
files-are (file ∷ files) (draft ∷ drafts) h = ap (λ f. f ∷ map file_of drafts) (file-is file draft h.0) ∙ ap (λ list. file ∷ list) (files-are files drafts h.1)

-- ---- the same names

-- some draft has this name where its file does
any-selected : (name : List ℕ) (files : List FileEntry) (drafts : List SelectDraft) → AreSelects files drafts → list_any (is_selected name) drafts ≡ list_any (is_named name) files
any-selected name [] [] h = refl
any-selected name [] (draft ∷ drafts) h = absurd h
any-selected name (file ∷ files) [] h = absurd h
any-selected name (file ∷ files) (draft ∷ drafts) h =
    ap (λ found. bytes_eq found name || list_any (is_selected name) drafts) h.0.name ∙ ap (λ b. bytes_eq file.name name || b) (any-selected name files drafts h.1)

any-described : (program : Program) (name : List ℕ) (fds : List Fd) (drafts : List FdDraft) → AreFds program fds drafts → list_any (is_described name) drafts ≡ list_any (is_titled program name) fds
any-described program name [] [] h = refl
any-described program name [] (draft ∷ drafts) h = absurd h
any-described program name (fd ∷ fds) [] h = absurd h
any-described program name (fd ∷ fds) (draft ∷ drafts) h =
    ap (λ found. bytes_eq found name || list_any (is_described name) drafts) h.0.name ∙ ap (λ b. bytes_eq (fd_title program fd) name || b) (any-described program name fds drafts h.1)

more-selects : (before : List FileEntry) (drafts : List SelectDraft) (file : FileEntry) (draft : SelectDraft) → AreSelects before drafts → IsSelect file draft → AreSelects (before ++ file ∷ []) (drafts ++ draft ∷ [])
more-selects [] [] file draft h is = (is, tt)
more-selects [] (other ∷ drafts) file draft h is = absurd h
more-selects (other ∷ before) [] file draft h is = absurd h
more-selects (first ∷ before) (other ∷ drafts) file draft h is = (h.0, more-selects before drafts file draft h.1 is)

more-fds : (program : Program) (before : List Fd) (drafts : List FdDraft) (fd : Fd) (draft : FdDraft) → AreFds program before drafts → IsFd program fd draft → AreFds program (before ++ fd ∷ []) (drafts ++ draft ∷ [])
more-fds program [] [] fd draft h is = (is, tt)
more-fds program [] (other ∷ drafts) fd draft h is = absurd h
more-fds program (other ∷ before) [] fd draft h is = absurd h
more-fds program (first ∷ before) (other ∷ drafts) fd draft h is = (h.0, more-fds program before drafts fd draft h.1 is)

-- ---- no fault

module _ (program : Program) (fds : List Fd) (drafts : List FdDraft) (described : AreFds program fds drafts) where
  pub selects-none : (before files : List FileEntry) (ahead selects : List SelectDraft) → AreSelects before ahead → AreSelects files selects → AreDistinct before files → AreDescribed program fds files →
      selects_from drafts None ahead selects ≡ None
  selects-none before [] ahead [] b h d e = refl
  selects-none before [] ahead (select ∷ selects) b h d e = absurd h
  selects-none before (file ∷ files) ahead [] b h d e = absurd h
  selects-none before (file ∷ files) ahead (select ∷ selects) b h d e =
      ap (λ fault. selects_from drafts fault (ahead ++ select ∷ []) selects) here
      ∙ selects-none (before ++ file ∷ []) files (ahead ++ select ∷ []) selects (more-selects before ahead file select b h.0) h.1 d.1 e.1
    where
      new : list_any (is_selected select.name) ahead ≡ false
      new = ap (λ name. list_any (is_selected name) ahead) h.0.name ∙ any-selected file.name before ahead b ∙ d.0

      there : list_any (is_described select.name) drafts ≡ true
      there = ap (λ name. list_any (is_described name) drafts) h.0.name ∙ any-described program file.name fds drafts described ∙ e.0

      named : named_fault drafts ahead select ≡ None
      named =
          ap (λ v. if v then fault_at Duplicate select.at else fault_unless (list_any (is_described select.name) drafts) Usage select.at) new
          ∙ ap (λ v. fault_unless v Usage select.at) there

      here : select_fault drafts ahead select ≡ None
      here = none-first (named_fault drafts ahead select ∷ duplicate_fault select.statuses ∷ []) (named, (once file.status select.statuses h.0.status, tt))

-- the file of a number has a name among those of all
named-there : (files : List FileEntry) (n : ℕ) (file : FileEntry) → slice_get files n ≡ Some file → list_any (is_named file.name) files ≡ true
named-there [] zero file e = absurd cc
named-there [] (suc n) file e = absurd cc
named-there (first ∷ files) zero file e =
    let same : first ≡ file = some-is e in
    ap (λ (f : FileEntry). bytes_eq f.name file.name || list_any (is_named file.name) files) same ∙ ap (λ b. b || list_any (is_named file.name) files) ((bytes_eq-Decides file.name file.name).1 refl)
  where
    some-is : Some first ≡ Some file → first ≡ file
    some-is e = cc
named-there (first ∷ files) (suc n) file e = ap (λ b. bytes_eq first.name file.name || b) (named-there files n file e) ∙ either (bytes_eq first.name file.name)
  where
    either : (b : Bool) → (b || true) ≡ true
    either true = refl
    either false = refl

module _ (program : Program) (selects : List SelectDraft) (selected : AreSelects program.files selects) where
  pub fds-none : (before fds : List Fd) (ahead drafts : List FdDraft) → AreFds program before ahead → AreFds program fds drafts → AreApartFds program before fds → AreThere program fds →
      fds_from selects None ahead drafts ≡ None
  fds-none before [] ahead [] b h d t = refl
  fds-none before [] ahead (draft ∷ drafts) b h d t = absurd h
  fds-none before (fd ∷ fds) ahead [] b h d t = absurd h
  fds-none before (fd ∷ fds) ahead (draft ∷ drafts) b h d t =
      ap (λ fault. fds_from selects fault (ahead ++ draft ∷ []) drafts) here
      ∙ fds-none (before ++ fd ∷ []) fds (ahead ++ draft ∷ []) drafts (more-fds program before ahead fd draft b h.0) h.1 d.1 t.1
    where
      new : list_any (is_described draft.name) ahead ≡ false
      new = ap (λ name. list_any (is_described name) ahead) h.0.name ∙ any-described program (fd_title program fd) before ahead b ∙ d.0

      there : list_any (is_selected draft.name) selects ≡ true
      there =
          ap (λ name. list_any (is_selected name) selects) (h.0.name ∙ ap file_title t.0.1) ∙ any-selected t.0.0.name program.files selects selected
          ∙ named-there program.files fd.number t.0.0 t.0.1

      here : fd_fault selects ahead draft ≡ None
      here =
          ap (λ v. if v then fault_at Duplicate draft.at else fault_unless (list_any (is_selected draft.name) selects) Usage draft.at) new
          ∙ ap (λ v. fault_unless v Usage draft.at) there

-- ---- numbers

prefix-at : {A : Type 0} (test : A → Bool) (before : List A) (x : A) (rest : List A) → list_any test before ≡ false → test x ≡ true →
    prefix_len (λ y. not (test y)) (before ++ x ∷ rest) ≡ length before
prefix-at test [] x rest none here = ap (λ b. cond (not b) (1 + prefix_len (λ y. not (test y)) rest) 0) here
prefix-at {A = A} test (y ∷ before) x rest none here = go (test y) none (prefix-at test before x rest)
  where
    go : (b : Bool) → (b || list_any test before) ≡ false → (list_any test before ≡ false → test x ≡ true → prefix_len (λ y. not (test y)) (before ++ x ∷ rest) ≡ length before) →
        cond (not b) (1 + prefix_len (λ y. not (test y)) (before ++ x ∷ rest)) 0 ≡ length (y ∷ before)
    go true none again = absurd cc
    go false none again = let is = again none here in omega (arith, is)

number-is : (before : List SelectDraft) (select : SelectDraft) (rest : List SelectDraft) (fd : FdDraft) (at : ℕ) → list_any (is_selected select.name) before ≡ false → fd.name ≡ select.name →
    file_number (before ++ select ∷ rest) fd at ≡ length before
number-is before select rest fd at none same =
    let selects = before ++ select ∷ rest in
    let place = prefix-at (is_selected select.name) before select rest none ((bytes_eq-Decides select.name select.name).1 refl) in
    let long = length-append before (select ∷ rest) in
    let there : nat_lt (length before) (length selects) ≡ true = lt-ltb (length before) (length selects) (omega (arith, long)) in
    ap (λ name. number_by (length selects) at (position (is_selected name) selects)) same
    ∙ ap (λ n. number_by (length selects) at (cond (nat_lt n (length selects)) (Some n) None)) place
    ∙ ap (λ b. number_by (length selects) at (cond b (Some (length before)) None)) there

found-number : (before files : List FileEntry) (ahead selects : List SelectDraft) → AreSelects before ahead → AreSelects files selects → AreDistinct before files →
    (n : ℕ) (file : FileEntry) → slice_get files n ≡ Some file → (fd : FdDraft) (at : ℕ) → fd.name ≡ file.name → file_number (ahead ++ selects) fd at ≡ length ahead + n
found-number before [] ahead selects b h d zero file e fd at same = absurd cc
found-number before [] ahead selects b h d (suc n) file e fd at same = absurd cc
found-number before (first ∷ files) ahead [] b h d n file e fd at same = absurd h
found-number before (first ∷ files) ahead (select ∷ selects) b h d zero file e fd at same =
    let is : first ≡ file = some-is e in
    let new : list_any (is_selected select.name) ahead ≡ false = ap (λ name. list_any (is_selected name) ahead) h.0.name ∙ any-selected first.name before ahead b ∙ d.0 in
    let none : length ahead ≡ length ahead + 0 = omega arith in
    number-is ahead select selects fd at new (same ∙ sym (ap (λ (f : FileEntry). f.name) is) ∙ sym h.0.name) ∙ none
  where
    some-is : Some first ≡ Some file → first ≡ file
    some-is e = cc
found-number before (first ∷ files) ahead (select ∷ selects) b h d (suc n) file e fd at same =
    let long = length-append ahead (select ∷ []) in
    let one : length (ahead ++ select ∷ []) + n ≡ length ahead + suc n = omega (arith, long) in
    ap (λ list. file_number list fd at) (sym (append_assoc ahead (select ∷ []) selects))
    ∙ found-number (before ++ first ∷ []) files (ahead ++ select ∷ []) selects (more-selects before ahead first select b h.0) h.1 d.1 n file e fd at same ∙ one

-- the number of an FD is that of its file
pub fd-number : (program : Program) (selects : List SelectDraft) (fd : Fd) (draft : FdDraft) (at : ℕ) → AreSelects program.files selects → AreDistinct [] program.files →
    (file : FileEntry) → slice_get program.files fd.number ≡ Some file → IsFd program fd draft → file_number selects draft at ≡ fd.number
fd-number program selects fd draft at h d file e is =
    let none : 0 + fd.number ≡ fd.number = omega arith in
    found-number [] program.files [] selects tt h d fd.number file e draft at (is.name ∙ ap file_title e) ∙ none
