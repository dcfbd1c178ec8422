-- Entries by their drafts alone: their values are literals where those of the drafts are.
use Rattle.std.proofs.Common.{◌≡◌, ℕ, ◌+◌, Bool, true, false, if◌then◌else◌, List, [], ◌∷◌, ◌++◌, map, Option, Some, None, refl, cond}
use Rattle.std.specs.Prelude.{◌==◌}
use Rattle.std.specs.List.{find}
use Rattle.std.proofs.lemmas.Bool.{and_parts}
use Rattle.cobol_grammar.specs.declared.data_forms.draft.Clause.{Clause}
use Rattle.cobol_grammar.specs.declared.data_forms.draft.Clause.TheVariants as clauses
use Rattle.cobol_grammar.specs.declared.data_forms.draft.Divisions.{Divisions}
use Rattle.cobol_grammar.specs.declared.data_forms.draft.EntryDraft.{EntryDraft}
use Rattle.cobol_grammar.specs.declared.data_forms.draft.FdDraft.{FdDraft}
use Rattle.cobol_grammar.specs.declared.data_forms.draft.SelectDraft.{SelectDraft}
use Rattle.cobol_grammar.specs.declared.data_forms.draft.SpanDraft.{SpanDraft}
use Rattle.cobol_grammar.specs.declared.data_forms.draft.ThruDraft.{ThruDraft}
use Rattle.declaration_checks.specs.declared.clause.ClauseKind.TheVariants as kinds
use Rattle.declaration_checks.specs.Base.{spans_in, spans_of, value_of, to_of, span_of, condition_of, item_of, base_of, level_of}
use Rattle.declaration_checks.specs.Clause.{is_of, clause_of}
use Rattle.declaration_checks.specs.Declaring.{section_bases, record_bases, bases_of}
use Rattle.declaration_checks.specs.File.{file_number}
use Rattle.control_flow_theory.specs.language.All.{all}
use Rattle.program_facts.specs.well_scoped.Part.{is_filled, if_any}
use Rattle.program_facts.proofs.well_scoped_lemmas.Made.{both}
use Rattle.grammar_laws.specs.form_results.Numbered.{is_literal}
use Rattle.grammar_laws.specs.well_scoped.named_data.Drafts as drafts
use Rattle.grammar_laws.specs.well_scoped.named_data.Drafts.{thru_literal, clause_literal, entry_literal, entries_literal, fd_literal, data_literal}
use Rattle.grammar_laws.specs.well_scoped.named_entries.Entries.{span_literal, values_literal}

find-fine : {A : Type 0} (test p : A → Bool) (list : List A) → all (map test list) ≡ true → if_any test (find p list) ≡ true
find-fine test p [] h = refl
find-fine {A = A} test p (x ∷ list) h = let e = and_parts (test x) (all (map test list)) h in go (p x) e.0 (find-fine test p list e.1)
  where
    go : (b : Bool) → test x ≡ true → if_any test (find p list) ≡ true → if_any test (cond b (Some x) (find p list)) ≡ true
    go true here behind = here
    go false here behind = behind

abbrev Spans : List SpanDraft → Type 0
Spans spans = all (map drafts.span_literal spans) ≡ true

spans_in-fine : (clause : Option Clause) → if_any clause_literal clause ≡ true → Spans (spans_in clause)
spans_in-fine None h = refl
spans_in-fine (Some (clauses.Value at spans)) h = (and_parts (is_filled spans) (all (map drafts.span_literal spans)) h).1
spans_in-fine (Some (clauses.Redefines at name name_at)) h = refl
spans_in-fine (Some (clauses.Picture at text text_at)) h = refl
spans_in-fine (Some (clauses.Usage at usage)) h = refl
spans_in-fine (Some (clauses.Sign at leading separate)) h = refl
spans_in-fine (Some (clauses.Occurs at count count_at)) h = refl

spans_of-fine : (draft : EntryDraft) → entry_literal draft ≡ true → Spans (spans_of draft.clauses)
spans_of-fine draft h = spans_in-fine (clause_of kinds.Value draft.clauses) (find-fine clause_literal (is_of kinds.Value) draft.clauses h)

value-fine : (spans : List SpanDraft) → Spans spans → if_any is_literal (value_of spans) ≡ true
value-fine [] h = refl
value-fine (span ∷ spans) h =
    (and_parts (is_literal span.from) (if_any thru_literal span.thru) (and_parts (drafts.span_literal span) (all (map drafts.span_literal spans)) h).0).0

to-fine : (thru : Option ThruDraft) → if_any thru_literal thru ≡ true → if_any is_literal (to_of thru) ≡ true
to-fine None h = refl
to-fine (Some thru) h = h

ranges-fine : (spans : List SpanDraft) → Spans spans → all (map span_literal (map span_of spans)) ≡ true
ranges-fine [] h = refl
ranges-fine (span ∷ spans) h =
    let e = and_parts (drafts.span_literal span) (all (map drafts.span_literal spans)) h in
    let k = and_parts (is_literal span.from) (if_any thru_literal span.thru) e.0 in
    both (both k.0 (to-fine span.thru k.1)) (ranges-fine spans e.1)

base-fine : (file : Option ℕ) (draft : EntryDraft) → entry_literal draft ≡ true → values_literal (base_of file draft) ≡ true
base-fine file draft h = go (level_of draft.level == 88) (spans_of-fine draft h)
  where
    go : (b : Bool) → Spans (spans_of draft.clauses) → values_literal (if b then condition_of draft file else item_of draft (level_of draft.level) file) ≡ true
    go true s = ranges-fine (spans_of draft.clauses) s
    go false s = both (value-fine (spans_of draft.clauses) s) refl

section-fine : (file : Option ℕ) (list : List EntryDraft) → entries_literal list ≡ true → all (map values_literal (section_bases file list)) ≡ true
section-fine file [] h = refl
section-fine file (draft ∷ list) h =
    let e = and_parts (entry_literal draft) (entries_literal list) h in both (base-fine file draft e.0) (section-fine file list e.1)

all-append : {A : Type 0} (test : A → Bool) (front behind : List A) → all (map test front) ≡ true → all (map test behind) ≡ true → all (map test (front ++ behind)) ≡ true
all-append test [] behind f b = b
all-append test (x ∷ front) behind f b = let e = and_parts (test x) (all (map test front)) f in both e.0 (all-append test front behind e.1 b)

records-fine : (selects : List SelectDraft) (at : ℕ) (fds : List FdDraft) → all (map fd_literal fds) ≡ true → all (map values_literal (record_bases selects at fds)) ≡ true
records-fine selects at [] h = refl
records-fine selects at (fd ∷ fds) h =
    let e = and_parts (fd_literal fd) (all (map fd_literal fds)) h in
    all-append values_literal (section_bases (Some (file_number selects fd at)) fd.entries) (record_bases selects (at + 1) fds) (section-fine (Some (file_number selects fd at)) fd.entries (and_parts (is_filled fd.entries) (entries_literal fd.entries) e.0).1) (records-fine selects (at + 1) fds e.1)

pub bases-fine : (divisions : Divisions) → data_literal divisions.data_part ≡ true → all (map values_literal (bases_of divisions)) ≡ true
bases-fine divisions h =
    let e = and_parts (all (map fd_literal divisions.data_part.fds)) (entries_literal divisions.data_part.storage) h in
    all-append values_literal (record_bases divisions.selects 0 divisions.data_part.fds) (section_bases None divisions.data_part.storage) (records-fine divisions.selects 0 divisions.data_part.fds e.0) (section-fine None divisions.data_part.storage e.1)
