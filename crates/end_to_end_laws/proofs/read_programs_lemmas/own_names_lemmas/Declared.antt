-- Divisions that are the same but for status items declare the same entries, with the same fault.
use Rattle.std.proofs.Common.{◌≡◌, ℕ, zero, suc, ◌+◌, List, [], ◌∷◌, ◌++◌, map, Option, Some, None, refl, ap, sym, ◌∙◌}
use Rattle.std.specs.Prelude.{slice_get}
use Rattle.cob_tree.specs.declared.entry.Entry.{Entry}
use Rattle.cob_tree.specs.declared.file.FileEntry.{FileEntry}
use Rattle.parser_combinators.specs.Note.{earliest}
use Rattle.cobol_grammar.specs.declared.data_forms.draft.Divisions.{Divisions}
use Rattle.cobol_grammar.specs.declared.data_forms.draft.FdDraft.{FdDraft}
use Rattle.cobol_grammar.specs.declared.data_forms.draft.SelectDraft.{SelectDraft}
use Rattle.symbol_tables.specs.data_names.Grouping.{bound_of, dims_in, group_words, groups_of}
use Rattle.symbol_tables.specs.data_names.Names.{file_name, file_words, kind_of, name_of, names_from, names_of}
use Rattle.cob_store.specs.sizes.Size.{sized}
use Rattle.declaration_checks.specs.Declaring.{section_bases, record_bases, bases_of, usages_in, settled_by, entries_of, judged_by, files_fault, fault_of, declared_of}
use Rattle.declaration_checks.specs.File.{file_number, file_of, selects_fault, fds_fault}
use Rattle.end_to_end_laws.specs.read_programs.division_readings.Same.{SameDivisions}
use Rattle.end_to_end_laws.specs.read_programs.own_names.Laws.{DeclareAlike}
use Rattle.end_to_end_laws.proofs.read_programs_lemmas.own_names_lemmas.Bare.{bares_by, bares, bares-number, bares-fault, bares-fds, bares-names}

-- ---- names of data, by the names of files alone

abbrev file_by : List ℕ → FileEntry
file_by name = record { name = name; assign = []; status = None }

abbrev files_by : List (List ℕ) → List FileEntry
files_by names = map file_by names

abbrev titles : List FileEntry → List (List ℕ)
titles files = map (λ (file : FileEntry). file.name) files

name-at : (files : List FileEntry) (number : ℕ) → file_name (slice_get (files_by (titles files)) number) ≡ file_name (slice_get files number)
name-at [] zero = refl
name-at [] (suc number) = refl
name-at (file ∷ files) zero = refl
name-at (file ∷ files) (suc number) = name-at files number

words-same : (files : List FileEntry) (file : Option ℕ) → file_words (files_by (titles files)) file ≡ file_words files file
words-same files None = refl
words-same files (Some number) = name-at files number

entries-same : (files : List FileEntry) (before entries : List Entry) → names_from (files_by (titles files)) before entries ≡ names_from files before entries
unfolding names_from
entries-same files before [] = refl
entries-same files before (entry ∷ behind) =
    let groups = groups_of (bound_of entry.level) entry.file before in
    ap (λ words. record { word = entry.name; above = group_words groups ++ words; kind = kind_of entry behind; dims = dims_in (entry ∷ groups) } ∷ names_from (files_by (titles files)) (entry ∷ before) behind)
    (words-same files entry.file)
    ∙ ap (λ list. name_of files before entry behind ∷ list) (entries-same files (entry ∷ before) behind)

titles-by : (names : List (List ℕ)) → titles (files_by names) ≡ names
titles-by [] = refl
titles-by (name ∷ names) = ap (λ list. name ∷ list) (titles-by names)

by-titles : (files : List FileEntry) (entries : List Entry) → names_of (files_by (titles files)) entries ≡ names_of files entries
by-titles files entries =
    ap (λ items. record { items = items; files = titles (files_by (titles files)) }) (entries-same files [] entries)
    ∙ ap (λ list. record { items = names_from files [] entries; files = list }) (titles-by (titles files))

-- files with the same names give the same names of data
pub same-names : (files others : List FileEntry) (entries : List Entry) → titles files ≡ titles others → names_of files entries ≡ names_of others entries
same-names files others entries e =
    sym (by-titles files entries) ∙ ap (λ names. names_of (files_by names) entries) e ∙ by-titles others entries

-- ---- without status items

abbrev bare : Divisions → Divisions
bare draft = record { name = draft.name; selects = bares draft.selects; data_part = draft.data_part }

bare-same : (one other : Divisions) → SameDivisions one other → bare one ≡ bare other
bare-same one other same =
    ap (λ name. record { name = name; selects = bares one.selects; data_part = one.data_part }) same.name
    ∙ ap (λ selects. record { name = other.name; selects = bares_by selects; data_part = one.data_part }) same.selects
    ∙ ap (λ data_part. record { name = other.name; selects = bares other.selects; data_part = data_part }) same.data_part

bare-records : (selects : List SelectDraft) (at : ℕ) (fds : List FdDraft) → record_bases (bares selects) at fds ≡ record_bases selects at fds
bare-records selects at [] = refl
bare-records selects at (fd ∷ fds) =
    ap (λ number. section_bases (Some number) fd.entries ++ record_bases (bares selects) (at + 1) fds) (bares-number selects fd at)
    ∙ ap (λ list. section_bases (Some (file_number selects fd at)) fd.entries ++ list) (bare-records selects (at + 1) fds)

bare-bases : (draft : Divisions) → bases_of (bare draft) ≡ bases_of draft
bare-bases draft = ap (λ list. list ++ section_bases None draft.data_part.storage) (bare-records draft.selects 0 draft.data_part.fds)

bare-entries : (draft : Divisions) → entries_of (bare draft) ≡ entries_of draft
bare-entries draft = ap (λ bases. settled_by bases (usages_in bases draft) draft) (bare-bases draft)

bare-files : (draft : Divisions) → files_fault (bare draft) ≡ files_fault draft
bare-files draft =
    ap (λ fault. earliest fault (fds_fault (bares draft.selects) draft.data_part.fds)) (bares-fault draft.data_part.fds draft.selects)
    ∙ ap (λ fault. earliest (selects_fault draft.data_part.fds draft.selects) fault) (bares-fds draft.selects None [] draft.data_part.fds)

bare-fault : (draft : Divisions) → fault_of (bare draft) ≡ fault_of draft
bare-fault draft =
    ap (λ bases. (judged_by bases (sized (entries_of (bare draft))).sizes (usages_in bases draft) (record { at = 0; fault = files_fault (bare draft) }) draft).fault) (bare-bases draft)
    ∙ ap (λ entries. (judged_by (bases_of draft) (sized entries).sizes (usages_in (bases_of draft) draft) (record { at = 0; fault = files_fault (bare draft) }) draft).fault) (bare-entries draft)
    ∙ ap (λ fault. (judged_by (bases_of draft) (sized (entries_of draft)).sizes (usages_in (bases_of draft) draft) (record { at = 0; fault = fault }) draft).fault) (bare-files draft)

pub declare-alike : (one other : Divisions) → SameDivisions one other → DeclareAlike (declared_of one) (declared_of other)
declare-alike one other same =
    let e = bare-same one other same in
    let entries = sym (bare-entries one) ∙ ap entries_of e ∙ bare-entries other in
    let files = sym (bares-names one.selects) ∙ ap (λ (draft : Divisions). titles (map file_of draft.selects)) e ∙ bares-names other.selects in
    record {
      entries = entries;
      fault = sym (bare-fault one) ∙ ap fault_of e ∙ bare-fault other;
      names = same-names (map file_of one.selects) (map file_of other.selects) (entries_of one) files ∙ ap (λ list. names_of (map file_of other.selects) list) entries;
    }
