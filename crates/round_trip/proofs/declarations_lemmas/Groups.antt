-- Files and FDs that are declared with no fault keep the rules, with the entries of each FD.
use Rattle.std.proofs.Common.{◌≡◌, ℕ, zero, suc, ◌+◌, ◌<◌, Bool, true, false, not, cond, ◌||◌, if◌then◌else◌, List, [], ◌∷◌, ◌++◌, length, map, Option, Some, None, refl, ap, sym, ◌∙◌, subst, arith}
use Rattle.std.specs.Prelude.{slice_get, ◌==◌}
use Rattle.std.specs.List.{list_any, prefix_len}
use Rattle.std.specs.Str.{bytes_eq}
use Rattle.std.proofs.lemmas.Bool.{and_parts, lt-ltb}
use Rattle.std.proofs.lemmas.Bool.Decides.{nat_tests}
use Rattle.std.proofs.lemmas.Slice.Eq.{bytes_eq-Decides}
use Rattle.cob_tree.specs.declared.entry.Entry.{Entry}
use Rattle.cob_tree.specs.declared.file.FileEntry.{FileEntry}
use Rattle.cob_tree.specs.declared.picture.Usage.{Usage as ItemUsage}
use Rattle.cob_tree.specs.declared.program.Program.{Program}
use Rattle.cobol_grammar.specs.declared.data_forms.draft.EntryDraft.{EntryDraft}
use Rattle.cobol_grammar.specs.declared.data_forms.draft.FdDraft.{FdDraft}
use Rattle.cobol_grammar.specs.declared.data_forms.draft.SelectDraft.{SelectDraft}
use Rattle.parser_combinators.specs.declared.note.NameKind.TheVariants.{Duplicate, Usage}
use Rattle.parser_combinators.specs.declared.note.Note.{Note}
use Rattle.parser_combinators.specs.Note.{earliest}
use Rattle.control_flow_theory.specs.language.All.{all}
use Rattle.program_facts.specs.well_scoped.Part.{is_filled}
use Rattle.grammar_laws.specs.well_scoped.named_data.Drafts.{entries_literal, fd_literal}
use Rattle.declaration_checks.specs.Base.{base_of}
use Rattle.declaration_checks.specs.Declaring.{settled}
use Rattle.declaration_checks.specs.Fault.{fault_at}
use Rattle.declaration_checks.specs.File.{is_selected, is_described, duplicate_fault, named_fault, select_fault, selects_from, fd_fault, fds_from, number_by, file_number, file_of}
use Rattle.round_trip.specs.spelling.data_spelling.Drafts.{file_title}
use Rattle.round_trip.specs.spelling.data_spelling.Sections.{Fd, records, all_records, StandIn, AreFiled, AreApart}
use Rattle.round_trip.specs.declarations.printed_declarations.FileRules.{is_named, AreDistinct, fd_title, is_titled, AreThere, AreApartFds, AreDescribed}
use Rattle.round_trip.proofs.declarations_lemmas.Entries.{none_of, first-none}
use Rattle.round_trip.proofs.declarations_lemmas.Sections.{section, flat_fds, settled_from, settled-append, stand-in}

-- ---- the rules on files, draft by draft

-- each has a name that no one before it has, and an FD
abbrev pub AllNamed : List FdDraft → (before selects : List SelectDraft) → Type 0
AllNamed fds before [] = Unit {0}
AllNamed fds before (select ∷ selects) =
    ((list_any (is_selected select.name) before ≡ false) × (list_any (is_described select.name) fds ≡ true)) × AllNamed fds (before ++ select ∷ []) selects

-- a name that isn't there twice, and is there among the others
once : (again there : Bool) (duplicate missing : Option Note) → (if again then duplicate else (if there then None else missing)) ≡ None → (duplicate ≡ None → ⊥) → (missing ≡ None → ⊥) → (again ≡ false) × (there ≡ true)
once true there duplicate missing e d m = absurd (d e)
once false true duplicate missing e d m = (refl, refl)
once false false duplicate missing e d m = absurd (m e)

a-note : {note : Note} → Some note ≡ None → ⊥
a-note e = cc

pub all-named : (fds : List FdDraft) (fault : Option Note) (before selects : List SelectDraft) → selects_from fds fault before selects ≡ None → (fault ≡ None) × AllNamed fds before selects
all-named fds fault before [] e = (e, tt)
all-named fds fault before (select ∷ selects) e =
    let behind = all-named fds (earliest fault (select_fault fds before select)) (before ++ select ∷ []) selects e in
    let here = none_of fault (select_fault fds before select) behind.0 in
    let named = (first-none (named_fault fds before select ∷ duplicate_fault select.statuses ∷ []) here.1).0 in
    (here.0, (once (list_any (is_selected select.name) before) (list_any (is_described select.name) fds) (fault_at Duplicate select.at) (fault_at Usage select.at) named a-note a-note, behind.1))

abbrev pub AllSelected : List SelectDraft → (before fds : List FdDraft) → Type 0
AllSelected selects before [] = Unit {0}
AllSelected selects before (fd ∷ fds) =
    ((list_any (is_described fd.name) before ≡ false) × (list_any (is_selected fd.name) selects ≡ true)) × AllSelected selects (before ++ fd ∷ []) fds

pub all-selected : (selects : List SelectDraft) (fault : Option Note) (before fds : List FdDraft) → fds_from selects fault before fds ≡ None → (fault ≡ None) × AllSelected selects before fds
all-selected selects fault before [] e = (e, tt)
all-selected selects fault before (fd ∷ fds) e =
    let behind = all-selected selects (earliest fault (fd_fault selects before fd)) (before ++ fd ∷ []) fds e in
    let here = none_of fault (fd_fault selects before fd) behind.0 in
    (here.0, (once (list_any (is_described fd.name) before) (list_any (is_selected fd.name) selects) (fault_at Duplicate fd.at) (fault_at Usage fd.at) here.1 a-note a-note, behind.1))

-- ---- files of SELECTs

named-alike : (name : List ℕ) (selects : List SelectDraft) → list_any (is_named name) (map file_of selects) ≡ list_any (is_selected name) selects
named-alike name [] = refl
named-alike name (select ∷ selects) = ap (λ b. bytes_eq select.name name || b) (named-alike name selects)

files-behind : (before selects : List SelectDraft) → map file_of (before ++ selects) ≡ map file_of before ++ map file_of selects
files-behind [] selects = refl
files-behind (select ∷ before) selects = ap (λ list. file_of select ∷ list) (files-behind before selects)

pub distinct : (fds : List FdDraft) (before selects : List SelectDraft) → AllNamed fds before selects → AreDistinct (map file_of before) (map file_of selects)
distinct fds before [] h = tt
distinct fds before (select ∷ selects) h = (
  named-alike select.name before ∙ h.0.0,
  subst (λ list. AreDistinct list (map file_of selects)) (files-behind before (select ∷ [])) (distinct fds (before ++ select ∷ []) selects h.1),
)

-- the first that passes is one of them, and passes
first-passes : {A : Type 0} (test : A → Bool) (list : List A) → list_any test list ≡ true →
    (x : A) × (slice_get list (prefix_len (λ y. not (test y)) list) ≡ Some x) × (test x ≡ true) × (prefix_len (λ y. not (test y)) list < length list)
first-passes test [] e = absurd cc
first-passes {A = A} test (x ∷ list) e = go (test x) refl e (first-passes test list)
  where
    go : (b : Bool) → test x ≡ b → (b || list_any test list) ≡ true →
        (list_any test list ≡ true → (y : A) × (slice_get list (prefix_len (λ y. not (test y)) list) ≡ Some y) × (test y ≡ true) × (prefix_len (λ y. not (test y)) list < length list)) →
        (y : A) × (slice_get (x ∷ list) (cond (not b) (1 + prefix_len (λ y. not (test y)) list) 0) ≡ Some y) × (test y ≡ true)
        × (cond (not b) (1 + prefix_len (λ y. not (test y)) list) 0 < length (x ∷ list))
    go true is e again = (x, refl, is, omega arith)
    go false is e again =
        let h = again e in
        let one : 1 + prefix_len (λ y. not (test y)) list ≡ suc (prefix_len (λ y. not (test y)) list) = omega arith in
        (h.0, ap (slice_get (x ∷ list)) one ∙ h.1, h.2, omega (arith, h.3))

map-at : (selects : List SelectDraft) (n : ℕ) (select : SelectDraft) → slice_get selects n ≡ Some select → slice_get (map file_of selects) n ≡ Some (file_of select)
map-at [] zero select e = absurd cc
map-at [] (suc n) select e = absurd cc
map-at (first ∷ selects) zero select e = ap (λ s. Some (file_of s)) (some-is e)
  where
    some-is : Some first ≡ Some select → first ≡ select
    some-is e = cc
map-at (first ∷ selects) (suc n) select e = map-at selects n select e

-- an FD's file
numbered : (selects : List SelectDraft) (fd : FdDraft) (at : ℕ) → list_any (is_selected fd.name) selects ≡ true →
    (file : FileEntry) × (slice_get (map file_of selects) (file_number selects fd at) ≡ Some file) × (file.name ≡ fd.name)
numbered selects fd at e =
    let h = first-passes (is_selected fd.name) selects e in
    let n = prefix_len (λ y. not (is_selected fd.name y)) selects in
    let same : file_number selects fd at ≡ n = ap (λ b. number_by (length selects) at (cond b (Some n) None)) (lt-ltb n (length selects) h.3) in
    (file_of h.0, ap (slice_get (map file_of selects)) same ∙ map-at selects n h.0 h.1, (bytes_eq-Decides h.0.name fd.name).0 h.2)

-- ---- FDs with their entries

-- each is of a file of that name
abbrev pub Titled : Program → List Fd → List FdDraft → Type 0
Titled program [] [] = Unit {0}
Titled program (fd ∷ fds) (draft ∷ drafts) =
    ((file : FileEntry) × (slice_get program.files fd.number ≡ Some file) × (file.name ≡ draft.name)) × Titled program fds drafts
Titled program _ _ = ⊥

pub record Grouped (program : Program) (list : List Entry) (used : List (Option ItemUsage)) (selects : List SelectDraft) (at number : ℕ) (drafts : List FdDraft) : Type 0 where
  pub fds : List Fd
  pub holds : all_records fds ≡ settled_from list used at (flat_fds selects number drafts)
  pub filed : AreFiled fds
  pub titled : Titled program fds drafts

one-group : (list : List Entry) (long : List ℕ) (used : List (Option ItemUsage)) (at file : ℕ) (drafts : List EntryDraft) → is_filled drafts ≡ true →
    (fd : Fd) × (fd.number ≡ file) × (records fd ≡ settled_from list used at (section (Some file) drafts)) × StandIn (Some fd.number) (records fd)
one-group list long used at file [] e = absurd cc
one-group list long used at file (draft ∷ drafts) e =
    (record { number = file; first = settled list used at draft (base_of (Some file) draft); more = settled_from list used (at + 1) (section (Some file) drafts) }, refl, refl, stand-in list long used (Some file) (draft ∷ drafts) at)

pub grouped : (program : Program) (list : List Entry) (long : List ℕ) (used : List (Option ItemUsage)) (selects : List SelectDraft) (before drafts : List FdDraft) (at number : ℕ) → program.files ≡ map file_of selects →
    AllSelected selects before drafts → all (map fd_literal drafts) ≡ true → Grouped program list used selects at number drafts
grouped program list long used selects before [] at number files s l = record { fds = []; holds = refl; filed = tt; titled = tt }
grouped program list long used selects before (draft ∷ drafts) at number files s l =
    let literal = and_parts (fd_literal draft) (all (map fd_literal drafts)) l in
    let file = file_number selects draft number in
    let placed = section (Some file) draft.entries in
    let g = one-group list long used at file draft.entries (and_parts (is_filled draft.entries) (entries_literal draft.entries) literal.0).0 in
    let rest = grouped program list long used selects (before ++ draft ∷ []) drafts (at + length placed) (number + 1) files s.1 literal.1 in
    let n = numbered selects draft number s.0.1 in
    record {
      fds = g.0 ∷ rest.fds;
      holds = ap (λ front. front ++ all_records rest.fds) g.2 ∙ ap (λ back. settled_from list used at placed ++ back) rest.holds ∙ sym (settled-append list used at placed (flat_fds selects (number + 1) drafts));
      filed = (g.3, rest.filed);
      titled = ((n.0, ap (λ k. slice_get program.files k) g.1 ∙ ap (λ files. slice_get files file) files ∙ n.1, n.2), rest.titled);
    }

-- ---- the rules on FDs

title-is : (program : Program) (fd : Fd) (draft : FdDraft) → (file : FileEntry) × (slice_get program.files fd.number ≡ Some file) × (file.name ≡ draft.name) → fd_title program fd ≡ draft.name
title-is program fd draft t = ap file_title t.1 ∙ t.2

any-titled : (program : Program) (name : List ℕ) (fds : List Fd) (drafts : List FdDraft) → Titled program fds drafts → list_any (is_titled program name) fds ≡ list_any (is_described name) drafts
any-titled program name [] [] t = refl
any-titled program name [] (draft ∷ drafts) t = absurd t
any-titled program name (fd ∷ fds) [] t = absurd t
any-titled program name (fd ∷ fds) (draft ∷ drafts) t =
    ap (λ title. bytes_eq title name || list_any (is_titled program name) fds) (title-is program fd draft t.0) ∙ ap (λ b. bytes_eq draft.name name || b) (any-titled program name fds drafts t.1)

more-titled : (program : Program) (fds : List Fd) (drafts : List FdDraft) (fd : Fd) (draft : FdDraft) → Titled program fds drafts → Titled program (fd ∷ []) (draft ∷ []) → Titled program (fds ++ fd ∷ []) (drafts ++ draft ∷ [])
more-titled program [] [] fd draft t n = n
more-titled program [] (other ∷ drafts) fd draft t n = absurd t
more-titled program (other ∷ fds) [] fd draft t n = absurd t
more-titled program (first ∷ fds) (other ∷ drafts) fd draft t n = (t.0, more-titled program fds drafts fd draft t.1 n)

pub apart-fds : (program : Program) (selects : List SelectDraft) (before fds : List Fd) (ahead drafts : List FdDraft) → Titled program before ahead → Titled program fds drafts → AllSelected selects ahead drafts → AreApartFds program before fds
apart-fds program selects before [] ahead drafts b t s = tt
apart-fds program selects before (fd ∷ fds) ahead [] b t s = absurd t
apart-fds program selects before (fd ∷ fds) ahead (draft ∷ drafts) b t s = (
  ap (λ name. list_any (is_titled program name) before) (title-is program fd draft t.0) ∙ any-titled program draft.name before ahead b ∙ s.0.0,
  apart-fds program selects (before ++ fd ∷ []) fds (ahead ++ draft ∷ []) drafts (more-titled program before ahead fd draft b (t.0, tt)) t.1 s.1,
)

pub all-there : (program : Program) (fds : List Fd) (drafts : List FdDraft) → Titled program fds drafts → AreThere program fds
all-there program [] drafts t = tt
all-there program (fd ∷ fds) [] t = absurd t
all-there program (fd ∷ fds) (draft ∷ drafts) t = ((t.0.0, t.0.1), all-there program fds drafts t.1)

pub described : (program : Program) (fds : List Fd) (drafts : List FdDraft) (before selects : List SelectDraft) → Titled program fds drafts → AllNamed drafts before selects → AreDescribed program fds (map file_of selects)
described program fds drafts before [] t h = tt
described program fds drafts before (select ∷ selects) t h = (any-titled program select.name fds drafts t ∙ h.0.1, described program fds drafts (before ++ select ∷ []) selects t h.1)

-- ---- FDs that stand one behind the other are of other files

last-apart : (test : Fd → Bool) (front : List Fd) (fd : Fd) → list_any test (front ++ fd ∷ []) ≡ false → test fd ≡ false
last-apart test [] fd e = go (test fd) e
  where
    go : (b : Bool) → (b || false) ≡ false → b ≡ false
    go true e = e
    go false e = refl
last-apart test (first ∷ front) fd e = last-apart test front fd (go (test first) e)
  where
    go : (b : Bool) → (b || list_any test (front ++ fd ∷ [])) ≡ false → list_any test (front ++ fd ∷ []) ≡ false
    go true e = absurd cc
    go false e = e

other-number : (program : Program) (one other : Fd) → is_titled program (fd_title program other) one ≡ false → (one.number == other.number) ≡ false
other-number program one other e = go (one.number == other.number) refl
  where
    same : (a b : ℕ) → (a == b) ≡ true → a ≡ b
    same a b e = grind (arith, nat_tests)

    no : true ≡ false → ⊥
    no e = cc

    go : (b : Bool) → (one.number == other.number) ≡ b → b ≡ false
    go false is = refl
    go true is =
        let alike : fd_title program one ≡ fd_title program other = ap (λ n. file_title (slice_get program.files n)) (same one.number other.number is) in
        absurd (no (sym ((bytes_eq-Decides (fd_title program one) (fd_title program other)).1 alike) ∙ e))

next-apart : (program : Program) (front : List Fd) (before : Fd) (fds : List Fd) → AreApartFds program (front ++ before ∷ []) fds → AreApart (Some before.number) fds
next-apart program front before [] a = tt
next-apart program front before (fd ∷ fds) a =
    (other-number program before fd (last-apart (is_titled program (fd_title program fd)) front before a.0), next-apart program (front ++ before ∷ []) fd fds a.1)

pub all-apart : (program : Program) (fds : List Fd) → AreApartFds program [] fds → AreApart None fds
all-apart program [] a = tt
all-apart program (fd ∷ fds) a = (tt, next-apart program [] fd fds a.1)
