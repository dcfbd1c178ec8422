-- SELECTs whose status items are all replaced by the same one: the rules don't tell them apart.
use Rattle.std.proofs.Common.{◌≡◌, ℕ, suc, ◌+◌, not, cond, ◌||◌, if◌then◌else◌, List, [], ◌∷◌, ◌++◌, length, map, position, Option, Some, None, refl, ap, sym, ◌∙◌}
use Rattle.std.specs.Prelude.{nat_lt}
use Rattle.std.specs.List.{list_any, prefix_len}
use Rattle.parser_combinators.specs.declared.note.NameKind.TheVariants.{Duplicate, Usage}
use Rattle.parser_combinators.specs.declared.note.Note.{Note}
use Rattle.parser_combinators.specs.declared.note.Position.{Position}
use Rattle.parser_combinators.specs.Note.{earliest}
use Rattle.cobol_grammar.specs.declared.data_forms.draft.FdDraft.{FdDraft}
use Rattle.cobol_grammar.specs.declared.data_forms.draft.SelectDraft.{SelectDraft}
use Rattle.cobol_grammar.specs.declared.data_forms.draft.StatusDraft.{StatusDraft}
use Rattle.declaration_checks.specs.Fault.{fault_at, fault_unless, first_of}
use Rattle.declaration_checks.specs.File.{is_selected, is_described, duplicate_fault, named_fault, select_fault, selects_from, fd_fault, fds_from, number_by, file_number, file_of}
use Rattle.cobol_grammar.specs.Use.{bare_place}
use Rattle.end_to_end_laws.specs.read_programs.division_readings.Same.{places_of, Selected, selected_of}

abbrev status_at : Position → StatusDraft
status_at position = record { at = position; place = bare_place 0 }

abbrev select_by : Selected → SelectDraft
select_by selected = record { name = selected.name; at = selected.at; assign = selected.assign; statuses = map status_at selected.statuses }

abbrev bare : SelectDraft → SelectDraft
bare select = select_by (selected_of select)

abbrev pub bares_by : List Selected → List SelectDraft
bares_by list = map select_by list

abbrev pub bares : List SelectDraft → List SelectDraft
bares selects = bares_by (map selected_of selects)

bares-append : (front back : List SelectDraft) → bares (front ++ back) ≡ bares front ++ bares back
bares-append [] back = refl
bares-append (select ∷ front) back = ap (λ list. bare select ∷ list) (bares-append front back)

bares-length : (selects : List SelectDraft) → length (bares selects) ≡ length selects
bares-length [] = refl
bares-length (select ∷ selects) = ap suc (bares-length selects)

bares-any : (name : List ℕ) (selects : List SelectDraft) → list_any (is_selected name) (bares selects) ≡ list_any (is_selected name) selects
bares-any name [] = refl
bares-any name (select ∷ selects) = ap (λ b. is_selected name select || b) (bares-any name selects)

bares-before : (name : List ℕ) (selects : List SelectDraft) → prefix_len (λ x. not (is_selected name x)) (bares selects) ≡ prefix_len (λ x. not (is_selected name x)) selects
bares-before name [] = refl
bares-before name (select ∷ selects) = ap (λ n. cond (not (is_selected name select)) (1 + n) 0) (bares-before name selects)

bares-place : (name : List ℕ) (selects : List SelectDraft) → position (is_selected name) (bares selects) ≡ position (is_selected name) selects
bares-place name selects =
    ap (λ n. cond (nat_lt n (length (bares selects))) (Some n) None) (bares-before name selects)
    ∙ ap (λ n. cond (nat_lt (prefix_len (λ x. not (is_selected name x)) selects) n) (Some (prefix_len (λ x. not (is_selected name x)) selects)) None) (bares-length selects)

pub bares-number : (selects : List SelectDraft) (fd : FdDraft) (at : ℕ) → file_number (bares selects) fd at ≡ file_number selects fd at
bares-number selects fd at =
    ap (λ n. number_by n at (position (is_selected fd.name) (bares selects))) (bares-length selects)
    ∙ ap (λ place. number_by (length selects) at place) (bares-place fd.name selects)

-- ---- faults

bare-again : (statuses : List StatusDraft) → duplicate_fault (map status_at (places_of statuses)) ≡ duplicate_fault statuses
bare-again [] = refl
bare-again (first ∷ []) = refl
bare-again (first ∷ second ∷ statuses) = refl

bare-fault : (fds : List FdDraft) (before : List SelectDraft) (select : SelectDraft) → select_fault fds (bares before) (bare select) ≡ select_fault fds before select
bare-fault fds before select =
    ap (λ b. first_of ((if b then fault_at Duplicate select.at else fault_unless (list_any (is_described select.name) fds) Usage select.at) ∷ duplicate_fault (bare select).statuses ∷ []))
    (bares-any select.name before)
    ∙ ap (λ fault. first_of (named_fault fds before select ∷ fault ∷ [])) (bare-again select.statuses)

bares-from : (fds : List FdDraft) (fault : Option Note) (before selects : List SelectDraft) → selects_from fds fault (bares before) (bares selects) ≡ selects_from fds fault before selects
bares-from fds fault before [] = refl
bares-from fds fault before (select ∷ selects) =
    ap (λ found. selects_from fds (earliest fault found) (bares before ++ bare select ∷ []) (bares selects)) (bare-fault fds before select)
    ∙ ap (λ list. selects_from fds (earliest fault (select_fault fds before select)) list (bares selects)) (sym (bares-append before (select ∷ [])))
    ∙ bares-from fds (earliest fault (select_fault fds before select)) (before ++ select ∷ []) selects

pub bares-fault : (fds : List FdDraft) (selects : List SelectDraft) → selects_from fds None [] (bares selects) ≡ selects_from fds None [] selects
bares-fault fds selects = bares-from fds None [] selects

bare-fd : (selects : List SelectDraft) (before : List FdDraft) (fd : FdDraft) → fd_fault (bares selects) before fd ≡ fd_fault selects before fd
bare-fd selects before fd = ap (λ b. if list_any (is_described fd.name) before then fault_at Duplicate fd.at else fault_unless b Usage fd.at) (bares-any fd.name selects)

pub bares-fds : (selects : List SelectDraft) (fault : Option Note) (before fds : List FdDraft) → fds_from (bares selects) fault before fds ≡ fds_from selects fault before fds
bares-fds selects fault before [] = refl
bares-fds selects fault before (fd ∷ fds) =
    ap (λ found. fds_from (bares selects) (earliest fault found) (before ++ fd ∷ []) fds) (bare-fd selects before fd)
    ∙ bares-fds selects (earliest fault (fd_fault selects before fd)) (before ++ fd ∷ []) fds

pub bares-names : (selects : List SelectDraft) → map (λ file. file.name) (map file_of (bares selects)) ≡ map (λ file. file.name) (map file_of selects)
bares-names [] = refl
bares-names (select ∷ selects) = ap (λ list. select.name ∷ list) (bares-names selects)
