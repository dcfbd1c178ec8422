-- The rules on files are those on their names alone.
use Rattle.std.proofs.Common.{◌≡◌, ℕ, ◌+◌, ◌<◌, ◌||◌, List, [], ◌∷◌, ◌++◌, length, get_or, take, drop, Option, None, position, refl, sym, ap, ◌∙◌}
use Rattle.std.proofs.lemmas.Iterator.Adapters.{position_from-zero}
use Rattle.std.proofs.lemmas.List.{append_assoc, length-append, take-map}
use Rattle.std.specs.List.{list_any, position_from}
use Rattle.std.specs.Str.{bytes_eq}
use Rattle.cobol_grammar.specs.declared.data_forms.draft.FdDraft.{FdDraft}
use Rattle.cobol_grammar.specs.declared.data_forms.draft.SelectDraft.{SelectDraft}
use Rattle.symbol_tables.proofs.data_names_lemmas.WordLemmas.{bytes_eq_sym}
use Rattle.parser_combinators.specs.Note.{earliest}
use Rattle.parser_combinators.specs.declared.note.Note.{Note}
use Rattle.declaration_checks.specs.declared.file_names.FileNames.{FileNames}
use Rattle.declaration_checks.specs.File as files
use Rattle.declaration_checks.specs.FileNames.{described, fd_fault, fds_from, names_of, select_fault, selected, selects_from}
use Rattle.declaration_checks.proofs.StepLemmas.{drop_step}

-- ---- steps of the loops

pub selects_from_step : (names : FileNames) (fault : Option Note) (selects : List SelectDraft) (at : ℕ) (x : SelectDraft) → at < length selects → x ≡ get_or selects at x → selects_from names fault at (drop at selects) ≡ selects_from names (earliest fault (select_fault names at x)) (at + 1) (drop (at + 1) selects)
selects_from_step names fault selects at x h e = rw (drop_step selects at x h e) refl

pub fds_from_step : (names : FileNames) (fault : Option Note) (fds : List FdDraft) (at : ℕ) (x : FdDraft) → at < length fds → x ≡ get_or fds at x → fds_from names fault at (drop at fds) ≡ fds_from names (earliest fault (fd_fault names at x)) (at + 1) (drop (at + 1) fds)
fds_from_step names fault fds at x h e = rw (drop_step fds at x h e) refl

-- ---- names by tables are names in drafts

any_selected : (name : List ℕ) (selects : List SelectDraft) → list_any (bytes_eq name) (selected selects) ≡ list_any (files.is_selected name) selects
any_selected name [] = refl
any_selected name (select ∷ selects) =
    ap (λ b. b || list_any (bytes_eq name) (selected selects)) (bytes_eq_sym name select.name)
    ∙ ap (λ b. bytes_eq select.name name || b) (any_selected name selects)

any_described : (name : List ℕ) (fds : List FdDraft) → list_any (bytes_eq name) (described fds) ≡ list_any (files.is_described name) fds
any_described name [] = refl
any_described name (fd ∷ fds) =
    ap (λ b. b || list_any (bytes_eq name) (described fds)) (bytes_eq_sym name fd.name)
    ∙ ap (λ b. bytes_eq fd.name name || b) (any_described name fds)

place-selected : (name : List ℕ) (at : ℕ) (selects : List SelectDraft) → position_from (bytes_eq name) at (selected selects) ≡ position_from (files.is_selected name) at selects
place-selected name at [] = refl
place-selected name at (select ∷ selects) =
    rw (bytes_eq_sym name select.name, place-selected name (at + 1) selects) refl

pub place_selected : (name : List ℕ) (selects : List SelectDraft) → position (bytes_eq name) (selected selects) ≡ position (files.is_selected name) selects
place_selected name selects =
    position_from-zero (bytes_eq name) (selected selects) ∙ place-selected name 0 selects
    ∙ sym (position_from-zero (files.is_selected name) selects)

-- ---- the same faults

length-before : {X : Type 0} (before : List X) (x : X) → length (before ++ x ∷ []) ≡ length before + 1
length-before before x = length-append before (x ∷ [])

take-at : {X : Type 0} (before behind : List X) → take (length before) (before ++ behind) ≡ before
take-at [] behind = refl
take-at (x ∷ before) behind = ap (λ r. x ∷ r) (take-at before behind)

selected-before : (before behind : List SelectDraft) → take (length before) (selected (before ++ behind)) ≡ selected before
selected-before before behind =
    take-map (λ (select : SelectDraft). select.name) (length before) (before ++ behind)
    ∙ ap selected (take-at before behind)

described-before : (before behind : List FdDraft) → take (length before) (described (before ++ behind)) ≡ described before
described-before before behind =
    take-map (λ (fd : FdDraft). fd.name) (length before) (before ++ behind)
    ∙ ap described (take-at before behind)

select-same : (fds : List FdDraft) (before : List SelectDraft) (select : SelectDraft) (selects : List SelectDraft) → select_fault (names_of (before ++ select ∷ selects) fds) (length before) select ≡ files.select_fault fds before select
select-same fds before select selects =
    rw (selected-before before (select ∷ selects), any_selected select.name before, any_described select.name fds) refl

selects-same : (fds : List FdDraft) (fault : Option Note) (before selects : List SelectDraft) → selects_from (names_of (before ++ selects) fds) fault (length before) selects ≡ files.selects_from fds fault before selects
selects-same fds fault before [] = refl
selects-same fds fault before (select ∷ selects) =
    ap (λ f. selects_from (names_of (before ++ select ∷ selects) fds) (earliest fault f) (length before + 1) selects) (select-same fds before select selects)
    ∙ rw (length-before before select, append_assoc before (select ∷ []) selects) at (selects-same fds (earliest fault (files.select_fault fds before select)) (before ++ select ∷ []) selects)

pub selects_named : (selects : List SelectDraft) (fds : List FdDraft) → selects_from (names_of selects fds) None 0 selects ≡ files.selects_fault fds selects
selects_named selects fds = selects-same fds None [] selects

fd-same : (selects : List SelectDraft) (before : List FdDraft) (fd : FdDraft) (fds : List FdDraft) → fd_fault (names_of selects (before ++ fd ∷ fds)) (length before) fd ≡ files.fd_fault selects before fd
fd-same selects before fd fds =
    rw (described-before before (fd ∷ fds), any_described fd.name before, any_selected fd.name selects) refl

fds-same : (selects : List SelectDraft) (fault : Option Note) (before fds : List FdDraft) → fds_from (names_of selects (before ++ fds)) fault (length before) fds ≡ files.fds_from selects fault before fds
fds-same selects fault before [] = refl
fds-same selects fault before (fd ∷ fds) =
    ap (λ f. fds_from (names_of selects (before ++ fd ∷ fds)) (earliest fault f) (length before + 1) fds) (fd-same selects before fd fds)
    ∙ rw (length-before before fd, append_assoc before (fd ∷ []) fds) at (fds-same selects (earliest fault (files.fd_fault selects before fd)) (before ++ fd ∷ []) fds)

pub fds_named : (selects : List SelectDraft) (fds : List FdDraft) → fds_from (names_of selects fds) None 0 fds ≡ files.fds_fault selects fds
fds_named selects fds = fds-same selects None [] fds
