-- Where no rule on files is broken, the number of each FD is that of a file, and each file has an FD.
use Rattle.std.proofs.Common.{◌≡◌, ℕ, ◌+◌, ◌<◌, Bool, true, false, not, cond, ◌||◌, if◌then◌else◌, List, [], ◌∷◌, ◌++◌, length, map, Option, Some, None, refl, ap, sym, ◌∙◌, subst, zero, suc, append_assoc, length-append, arith}
use Rattle.std.specs.Prelude.{nat_lt, position}
use Rattle.std.specs.List.{list_any, prefix_len}
use Rattle.std.proofs.lemmas.Bool.{lt-ltb}
use Rattle.std.proofs.lemmas.Slice.Eq.{bytes_eq-Decides}
use Rattle.cob_tree.specs.declared.entry.Entry.{Entry}
use Rattle.cobol_grammar.specs.declared.data_forms.draft.Divisions.{Divisions}
use Rattle.cobol_grammar.specs.declared.data_forms.draft.FdDraft.{FdDraft}
use Rattle.cobol_grammar.specs.declared.data_forms.draft.SelectDraft.{SelectDraft}
use Rattle.parser_combinators.specs.declared.note.NameKind.TheVariants.{Duplicate, Usage}
use Rattle.parser_combinators.specs.declared.note.Note.{Note}
use Rattle.parser_combinators.specs.Note.{precedes, earliest}
use Rattle.declaration_checks.specs.Declaring.{files_fault}
use Rattle.declaration_checks.specs.Fault.{fault_at, fault_unless}
use Rattle.declaration_checks.specs.File.{is_selected, is_described, duplicate_fault, named_fault, select_fault, selects_from, fd_fault, fds_from, fds_fault, selects_fault, number_by, file_number}
use Rattle.control_flow_theory.specs.language.All.{all}
use Rattle.program_facts.proofs.well_scoped_lemmas.Made.{both}
use Rattle.grammar_laws.specs.whole_counts.entry_bounds.Bounds.{is_below, has_file}

pub none_of : (early late : Option Note) → earliest early late ≡ None → (early ≡ None) × (late ≡ None)
none_of None late e = (refl, e)
none_of (Some early) None e = absurd cc
none_of (Some early) (Some late) e = go (precedes late early) e
  where
    go : (b : Bool) → (if b then Some late else Some early) ≡ None → (Some early ≡ None) × (Some late ≡ None)
    go true e = absurd cc
    go false e = absurd cc

-- an FD that has a SELECT
abbrev pub has_select : List SelectDraft → FdDraft → Bool
has_select selects fd = list_any (is_selected fd.name) selects

fd-selected : (selects : List SelectDraft) (before : List FdDraft) (fd : FdDraft) → fd_fault selects before fd ≡ None → has_select selects fd ≡ true
fd-selected selects before fd e = go (list_any (is_described fd.name) before) (has_select selects fd) refl e
  where
    go : (again there : Bool) → has_select selects fd ≡ there → (if again then fault_at Duplicate fd.at else fault_unless there Usage fd.at) ≡ None → has_select selects fd ≡ true
    go true there is e = absurd cc
    go false true is e = is
    go false false is e = absurd cc

fds-selected : (selects : List SelectDraft) (fault : Option Note) (before fds : List FdDraft) → fds_from selects fault before fds ≡ None → (fault ≡ None) × (all (map (has_select selects) fds) ≡ true)
fds-selected selects fault before [] e = (e, refl)
fds-selected selects fault before (fd ∷ fds) e =
    let behind = fds-selected selects (earliest fault (fd_fault selects before fd)) (before ++ fd ∷ []) fds e in
    let here = none_of fault (fd_fault selects before fd) behind.0 in
    (here.0, both (fd-selected selects before fd here.1) behind.1)

pub all-selected : (divisions : Divisions) → files_fault divisions ≡ None → all (map (has_select divisions.selects) divisions.data_part.fds) ≡ true
all-selected divisions e =
    let fds = (none_of (selects_fault divisions.data_part.fds divisions.selects) (fds_fault divisions.selects divisions.data_part.fds) e).1 in
    (fds-selected divisions.selects None [] divisions.data_part.fds fds).1

-- where one passes, the first that does is one of them
first-passes : {A : Type 0} (test : A → Bool) (list : List A) → list_any test list ≡ true → prefix_len (λ x. not (test x)) list < length list
first-passes test [] e = absurd cc
first-passes {A = A} test (x ∷ list) e = go (test x) (first-passes test list) e
  where
    go : (b : Bool) → (list_any test list ≡ true → prefix_len (λ y. not (test y)) list < length list) → (b || list_any test list) ≡ true →
        cond (not b) (1 + prefix_len (λ y. not (test y)) list) 0 < length (x ∷ list)
    go true again e = omega arith
    go false again e = let behind = again e in omega (arith, behind)

pub number-there : (selects : List SelectDraft) (fd : FdDraft) (at : ℕ) → has_select selects fd ≡ true → is_below (length selects) (Some (file_number selects fd at)) ≡ true
number-there selects fd at e =
    let number = prefix_len (λ x. not (is_selected fd.name x)) selects in
    let there : nat_lt number (length selects) ≡ true = lt-ltb number (length selects) (first-passes (is_selected fd.name) selects e) in
    ap (λ b. is_below (length selects) (Some (number_by (length selects) at (cond b (Some number) None)))) there ∙ there

-- ---- each file has an FD, whose number is the file's

-- each has a name that no one before it has, and an FD
abbrev pub AllNamed : List FdDraft → (before selects : List SelectDraft) → Type 0
AllNamed fds before [] = Unit {0}
AllNamed fds before (select ∷ selects) =
    (list_any (is_selected select.name) before ≡ false) × (list_any (is_described select.name) fds ≡ true) × AllNamed fds (before ++ select ∷ []) selects

select-named : (fds : List FdDraft) (before : List SelectDraft) (select : SelectDraft) → select_fault fds before select ≡ None →
    (list_any (is_selected select.name) before ≡ false) × (list_any (is_described select.name) fds ≡ true)
select-named fds before select e =
    go (list_any (is_selected select.name) before) (list_any (is_described select.name) fds) refl refl (none_of (named_fault fds before select) (duplicate_fault select.statuses) e).0
  where
    go : (again there : Bool) → list_any (is_selected select.name) before ≡ again → list_any (is_described select.name) fds ≡ there →
        (if again then fault_at Duplicate select.at else fault_unless there Usage select.at) ≡ None →
        (list_any (is_selected select.name) before ≡ false) × (list_any (is_described select.name) fds ≡ true)
    go true there a t e = absurd cc
    go false true a t e = (a, t)
    go false false a t e = absurd cc

selects-named : (fds : List FdDraft) (fault : Option Note) (before selects : List SelectDraft) → selects_from fds fault before selects ≡ None → (fault ≡ None) × AllNamed fds before selects
selects-named fds fault before [] e = (e, tt)
selects-named fds fault before (select ∷ selects) e =
    let behind = selects-named fds (earliest fault (select_fault fds before select)) (before ++ select ∷ []) selects e in
    let here = none_of fault (select_fault fds before select) behind.0 in
    let h = select-named fds before select here.1 in
    (here.0, (h.0, h.1, behind.1))

pub all-named : (divisions : Divisions) → files_fault divisions ≡ None → AllNamed divisions.data_part.fds [] divisions.selects
all-named divisions e =
    let fds = divisions.data_part.fds in
    (selects-named fds None [] divisions.selects (none_of (selects_fault fds divisions.selects) (fds_fault divisions.selects fds) e).0).1

prefix-at : {A : Type 0} (test : A → Bool) (before : List A) (x : A) (rest : List A) → list_any test before ≡ false → test x ≡ true →
    prefix_len (λ y. not (test y)) (before ++ x ∷ rest) ≡ length before
prefix-at test [] x rest none here = ap (λ b. cond (not b) (1 + prefix_len (λ y. not (test y)) rest) 0) here
prefix-at {A = A} test (y ∷ before) x rest none here = go (test y) none (prefix-at test before x rest)
  where
    go : (b : Bool) → (b || list_any test before) ≡ false → (list_any test before ≡ false → test x ≡ true → prefix_len (λ y. not (test y)) (before ++ x ∷ rest) ≡ length before) →
        cond (not b) (1 + prefix_len (λ y. not (test y)) (before ++ x ∷ rest)) 0 ≡ length (y ∷ before)
    go true none again = absurd cc
    go false none again = let is = again none here in omega (arith, is)

number-is : (before : List SelectDraft) (select : SelectDraft) (rest : List SelectDraft) (fd : FdDraft) (at : ℕ) → list_any (is_selected select.name) before ≡ false → fd.name ≡ select.name →
    file_number (before ++ select ∷ rest) fd at ≡ length before
number-is before select rest fd at none same =
    let selects = before ++ select ∷ rest in
    let place = prefix-at (is_selected select.name) before select rest none ((bytes_eq-Decides select.name select.name).1 refl) in
    let long = length-append before (select ∷ rest) in
    let there : nat_lt (length before) (length selects) ≡ true = lt-ltb (length before) (length selects) (omega (arith, long)) in
    ap (λ name. number_by (length selects) at (position (is_selected name) selects)) same
    ∙ ap (λ n. number_by (length selects) at (cond (nat_lt n (length selects)) (Some n) None)) place
    ∙ ap (λ b. number_by (length selects) at (cond b (Some (length before)) None)) there

-- each FD from this number on has entries among these
abbrev pub AllFiled : List SelectDraft → List Entry → List FdDraft → ℕ → Type 0
AllFiled selects entries [] number = Unit {0}
AllFiled selects entries (fd ∷ fds) number = (has_file (file_number selects fd number) entries ≡ true) × AllFiled selects entries fds (number + 1)

found-filed : (selects : List SelectDraft) (entries : List Entry) (fds : List FdDraft) (number : ℕ) (name : List ℕ) (file : ℕ) → list_any (is_described name) fds ≡ true → AllFiled selects entries fds number →
    ((fd : FdDraft) (at : ℕ) → fd.name ≡ name → file_number selects fd at ≡ file) → has_file file entries ≡ true
found-filed selects entries [] number name file e filed is = absurd cc
found-filed selects entries (fd ∷ fds) number name file e filed is =
    go (is_described name fd) refl e (λ rest. found-filed selects entries fds (number + 1) name file rest filed.1 is)
  where
    go : (b : Bool) → is_described name fd ≡ b → (b || list_any (is_described name) fds) ≡ true → (list_any (is_described name) fds ≡ true → has_file file entries ≡ true) → has_file file entries ≡ true
    go true here e later = subst (λ n. has_file n entries ≡ true) (is fd number ((bytes_eq-Decides fd.name name).0 here)) filed.0
    go false here e later = later e

from-before : (fds : List FdDraft) (entries : List Entry) (before rest : List SelectDraft) (selects : List SelectDraft) → selects ≡ before ++ rest → AllNamed fds before rest → AllFiled selects entries fds 0 →
    (i : ℕ) → i < length rest → has_file (length before + i) entries ≡ true
from-before fds entries before [] selects same named filed i h = absurd (omega (arith, h))
from-before fds entries before (select ∷ rest) selects same named filed zero h =
    found-filed selects entries fds 0 select.name (length before + 0) named.1 filed
    (λ fd at is. ap (λ s. file_number s fd at) same ∙ number-is before select rest fd at named.0 is ∙ omega arith)
from-before fds entries before (select ∷ rest) selects same named filed (suc i) h =
    let long = length-append before (select ∷ []) in
    let one : length (before ++ select ∷ []) + i ≡ length before + suc i = omega (arith, long) in
    subst (λ n. has_file n entries ≡ true) one
    (from-before fds entries (before ++ select ∷ []) rest selects (same ∙ sym (append_assoc before (select ∷ []) rest)) named.2 filed i (omega (arith, h)))

pub all-recorded : (fds : List FdDraft) (entries : List Entry) (selects : List SelectDraft) → AllNamed fds [] selects → AllFiled selects entries fds 0 → (file : ℕ) → file < length selects → has_file file entries ≡ true
all-recorded fds entries selects named filed file h =
    let same : 0 + file ≡ file = omega arith in
    subst (λ n. has_file n entries ≡ true) same (from-before fds entries [] selects selects refl named filed file h)
