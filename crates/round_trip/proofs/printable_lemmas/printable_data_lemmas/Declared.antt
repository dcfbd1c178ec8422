-- Files and entries as they are declared.
use Rattle.std.proofs.Common.{◌≡◌, ℕ, zero, suc, ◌+◌, ◌-◌, ◌^◌, Bool, true, false, if◌then◌else◌, List, [], ◌∷◌, ◌++◌, length, map, Option, Some, None, refl, ap, sym, ◌∙◌, arith, cond}
use Rattle.std.specs.Prelude.{◌==◌, ◌||◌, ◌&&◌, nat_lt, nat_le, slice_get}
use Rattle.std.specs.List.{fold, find}
use Rattle.std.proofs.lemmas.Bool.{and_parts, leb-true, lt-ltb}
use Rattle.std.proofs.lemmas.Bool.Decides.{nat_tests}
use Rattle.cob_tree.specs.declared.entry.Entry.{Entry}
use Rattle.cob_tree.specs.declared.picture.Picture.{Picture}
use Rattle.cob_tree.specs.declared.picture.Usage.{Usage}
use Rattle.picture_data.specs.Reading.{picture_of as picture_of_text}
use Rattle.cobol_grammar.specs.declared.data_forms.draft.Clause.{Clause}
use Rattle.cobol_grammar.specs.declared.data_forms.draft.Clause.TheVariants as clauses
use Rattle.cobol_grammar.specs.declared.data_forms.draft.Divisions.{Divisions}
use Rattle.cobol_grammar.specs.declared.data_forms.draft.EntryDraft.{EntryDraft}
use Rattle.cobol_grammar.specs.declared.data_forms.draft.FdDraft.{FdDraft}
use Rattle.cobol_grammar.specs.declared.data_forms.draft.SelectDraft.{SelectDraft}
use Rattle.cobol_grammar.specs.declared.data_forms.draft.SpanDraft.{SpanDraft}
use Rattle.cobol_grammar.specs.declared.data_forms.draft.StatusDraft.{StatusDraft}
use Rattle.cobol_grammar.specs.declared.data_forms.draft.ThruDraft.{ThruDraft}
use Rattle.symbol_tables.specs.data_names.Names.{is_group}
use Rattle.declaration_checks.specs.declared.clause.ClauseKind.TheVariants as kinds
use Rattle.declaration_checks.specs.Base.{number_of, level_by, level_of, picture_if, picture_by, picture_in, is_count, count_of, occurs_in, spans_in, spans_of, value_of, to_of, span_of, condition_of, item_of, base_of}
use Rattle.declaration_checks.specs.Clause.{clause_of, is_of}
use Rattle.declaration_checks.specs.Declaring.{section_bases, record_bases, bases_of, settled, settled_at, settle, settle_all, settle_records, usages_in, entries_of}
use Rattle.declaration_checks.specs.File.{file_number, status_by, file_of}
use Rattle.declaration_checks.specs.Standing.{behind}
use Rattle.control_flow_theory.specs.language.All.{all}
use Rattle.program_facts.specs.well_scoped.Part.{if_any}
use Rattle.program_facts.proofs.well_scoped_lemmas.Made.{both, all-added}
use Rattle.round_trip.specs.printable.printable_tokens.Printable.{is_printable_text, begins_well}
use Rattle.round_trip.specs.printable.Part.{is_printable_name, is_printable_place, is_printable_operand}
use Rattle.round_trip.specs.printable.Whole.{is_printable_file, is_printable_picture, is_printable_span, is_printable_count, is_printable_entry}
use Rattle.round_trip.proofs.printable_lemmas.Tokens.{entry-fine}
use Rattle.round_trip.specs.printable.printable_data.Drafts.{thru_printable, span_printable, clause_printable, entry_printable, entries_printable, fd_printable, data_printable, status_printable, select_printable}
use Rattle.round_trip.specs.printable.printable_data.Laws.{EntriesArePrintable}
use Rattle.round_trip.proofs.printable_lemmas.printable_data_lemmas.Pictures.{text-printable}

-- ---- what a draft says by itself

find-fine : {A : Type 0} (test p : A → Bool) (list : List A) → all (map test list) ≡ true → if_any test (find p list) ≡ true
find-fine test p [] h = refl
find-fine {A = A} test p (x ∷ list) h = let e = and_parts (test x) (all (map test list)) h in go (p x) e.0 (find-fine test p list e.1)
  where
    go : (b : Bool) → test x ≡ true → if_any test (find p list) ≡ true → if_any test (cond b (Some x) (find p list)) ≡ true
    go true here behind = here
    go false here behind = behind

-- levels are 01 to 49, 77 and 88, or 0
below-hundred : (n : ℕ) → (nat_lt n 50 || (n == 77 || n == 88)) ≡ true → nat_lt n 100 ≡ true
below-hundred n h = grind (arith, nat_tests)

level-below : (n : ℕ) → nat_lt (level_by n) 100 ≡ true
level-below n = go (nat_lt n 50 || (n == 77 || n == 88)) refl
  where
    go : (v : Bool) → (nat_lt n 50 || (n == 77 || n == 88)) ≡ v → nat_lt (if v then n else 0) 100 ≡ true
    go true e = below-hundred n e
    go false e = refl

text-picture : (text : List ℕ) → begins_well text ≡ true → if_any is_printable_picture (picture_by text) ≡ true
text-picture text h = go (nat_lt (length text) (2 ^ 31))
  where
    go : (b : Bool) → if_any is_printable_picture (if b then picture_if (picture_of_text text) else None) ≡ true
    go true = text-printable text h
    go false = refl

clause-picture : (clause : Option Clause) → if_any clause_printable clause ≡ true → if_any is_printable_picture (picture_in clause) ≡ true
clause-picture None h = refl
clause-picture (Some (clauses.Value at spans)) h = refl
clause-picture (Some (clauses.Redefines at name name_at)) h = refl
clause-picture (Some (clauses.Picture at text text_at)) h = text-picture text h
clause-picture (Some (clauses.Usage at usage)) h = refl
clause-picture (Some (clauses.Sign at leading separate)) h = refl
clause-picture (Some (clauses.Occurs at count count_at)) h = refl

small-count : (n : ℕ) → is_count n ≡ true → is_printable_count n ≡ true
small-count n h =
    let few = leb-true n 65535 (and_parts (nat_le 1 n) (nat_le n 65535) h).1 in lt-ltb n (10 ^ 18) (omega (arith, few))

count-fine : (digits : List ℕ) → is_printable_count (count_of digits) ≡ true
count-fine digits = go (is_count (number_of digits)) refl
  where
    go : (v : Bool) → is_count (number_of digits) ≡ v → is_printable_count (if v then number_of digits else 1) ≡ true
    go true e = small-count (number_of digits) e
    go false e = refl

clause-occurs : (clause : Option Clause) → if_any is_printable_count (occurs_in clause) ≡ true
clause-occurs None = refl
clause-occurs (Some (clauses.Value at spans)) = refl
clause-occurs (Some (clauses.Redefines at name name_at)) = refl
clause-occurs (Some (clauses.Picture at text text_at)) = refl
clause-occurs (Some (clauses.Usage at usage)) = refl
clause-occurs (Some (clauses.Sign at leading separate)) = refl
clause-occurs (Some (clauses.Occurs at count count_at)) = count-fine count

abbrev Spans : List SpanDraft → Type 0
Spans spans = all (map span_printable spans) ≡ true

spans_in-fine : (clause : Option Clause) → if_any clause_printable clause ≡ true → Spans (spans_in clause)
spans_in-fine None h = refl
spans_in-fine (Some (clauses.Value at spans)) h = h
spans_in-fine (Some (clauses.Redefines at name name_at)) h = refl
spans_in-fine (Some (clauses.Picture at text text_at)) h = refl
spans_in-fine (Some (clauses.Usage at usage)) h = refl
spans_in-fine (Some (clauses.Sign at leading separate)) h = refl
spans_in-fine (Some (clauses.Occurs at count count_at)) h = refl

spans_of-fine : (list : List Clause) → all (map clause_printable list) ≡ true → Spans (spans_of list)
spans_of-fine list h = spans_in-fine (clause_of kinds.Value list) (find-fine clause_printable (is_of kinds.Value) list h)

value-fine : (spans : List SpanDraft) → Spans spans → if_any is_printable_operand (value_of spans) ≡ true
value-fine [] h = refl
value-fine (span ∷ spans) h =
    (and_parts (is_printable_operand span.from) (if_any thru_printable span.thru) (and_parts (span_printable span) (all (map span_printable spans)) h).0).0

to-fine : (thru : Option ThruDraft) → if_any thru_printable thru ≡ true → if_any is_printable_operand (to_of thru) ≡ true
to-fine None h = refl
to-fine (Some thru) h = h

ranges-fine : (spans : List SpanDraft) → Spans spans → all (map is_printable_span (map span_of spans)) ≡ true
ranges-fine [] h = refl
ranges-fine (span ∷ spans) h =
    let e = and_parts (span_printable span) (all (map span_printable spans)) h in
    let k = and_parts (is_printable_operand span.from) (if_any thru_printable span.thru) e.0 in
    both (both k.0 (to-fine span.thru k.1)) (ranges-fine spans e.1)

base-fine : (file : Option ℕ) (draft : EntryDraft) → entry_printable draft ≡ true → is_printable_entry (base_of file draft) ≡ true
base-fine file draft h =
    let e = and_parts (if_any is_printable_name draft.name) (all (map clause_printable draft.clauses)) h in
    go (level_of draft.level == 88) e.0 (spans_of-fine draft.clauses e.1)
    (clause-picture (clause_of kinds.Picture draft.clauses) (find-fine clause_printable (is_of kinds.Picture) draft.clauses e.1))
  where
    go : (b : Bool) → if_any is_printable_name draft.name ≡ true → Spans (spans_of draft.clauses) → if_any is_printable_picture (picture_in (clause_of kinds.Picture draft.clauses)) ≡ true →
        is_printable_entry (if b then condition_of draft file else item_of draft (level_of draft.level) file) ≡ true
    go true n s p = both (both (both (both (both refl n) refl) refl) refl) (ranges-fine (spans_of draft.clauses) s)
    go false n s p =
        both (both (both (both (both (level-below (number_of draft.level)) n) p)
        (clause-occurs (clause_of kinds.Occurs draft.clauses))) (value-fine (spans_of draft.clauses) s)) refl

-- ---- all of them

abbrev Entries : List Entry → Type 0
Entries entries = all (map is_printable_entry entries) ≡ true

section-fine : (file : Option ℕ) (drafts : List EntryDraft) → entries_printable drafts ≡ true → Entries (section_bases file drafts)
section-fine file [] h = refl
section-fine file (draft ∷ drafts) h =
    let e = and_parts (entry_printable draft) (entries_printable drafts) h in both (base-fine file draft e.0) (section-fine file drafts e.1)

append-fine : (front entries : List Entry) → Entries front → Entries entries → Entries (front ++ entries)
append-fine [] entries f e = e
append-fine (first ∷ front) entries f e =
    let h = and_parts (is_printable_entry first) (all (map is_printable_entry front)) f in both h.0 (append-fine front entries h.1 e)

records-fine : (selects : List SelectDraft) (at : ℕ) (fds : List FdDraft) → all (map fd_printable fds) ≡ true → Entries (record_bases selects at fds)
records-fine selects at [] h = refl
records-fine selects at (fd ∷ fds) h =
    let e = and_parts (fd_printable fd) (all (map fd_printable fds)) h in
    let file = Some (file_number selects fd at) in
    append-fine (section_bases file fd.entries) (record_bases selects (at + 1) fds) (section-fine file fd.entries e.0) (records-fine selects (at + 1) fds e.1)

bases-fine : (divisions : Divisions) → data_printable divisions.data_part ≡ true → Entries (bases_of divisions)
bases-fine divisions h =
    let fds = divisions.data_part.fds in
    let storage = divisions.data_part.storage in
    let e = and_parts (all (map fd_printable fds)) (entries_printable storage) h in
    append-fine (record_bases divisions.selects 0 fds) (section_bases None storage) (records-fine divisions.selects 0 fds e.0) (section-fine None storage e.1)

-- ---- as they are settled

group-picture : (b : Bool) (picture : Option Picture) → if_any is_printable_picture picture ≡ true → if_any is_printable_picture (if b then None else picture) ≡ true
group-picture true picture h = refl
group-picture false picture h = h

module _ (bases : List Entry) (usages : List (Option Usage)) (fine : Entries bases) where
  settled-fine : (at : ℕ) (draft : EntryDraft) (entry : Entry) → is_printable_entry entry ≡ true → is_printable_entry (settled bases usages at draft entry) ≡ true
  settled-fine at draft entry h =
      let e = entry-fine entry h in
      both (both (both (both (both e.level e.name) (group-picture (is_group entry (behind bases at)) entry.picture e.picture)) e.occurs) e.value) e.ranges

  at-fine : (list : List Entry) (i : ℕ) (entry : Entry) → Entries list → slice_get list i ≡ Some entry → is_printable_entry entry ≡ true
  at-fine [] i entry s e = absurd cc
  at-fine (first ∷ list) zero entry s e =
      ap is_printable_entry (some_is first entry (sym e)) ∙ (and_parts (is_printable_entry first) (all (map is_printable_entry list)) s).0
    where
      some_is : (x y : Entry) → Some y ≡ Some x → y ≡ x
      some_is x y e = cc
  at-fine (first ∷ list) (suc i) entry s e = at-fine list i entry (and_parts (is_printable_entry first) (all (map is_printable_entry list)) s).1 e

  next-fine : (entries : List Entry) (draft : EntryDraft) (o : Option Entry) → slice_get bases (length entries) ≡ o → Entries entries → Entries (settled_at bases usages entries draft o)
  next-fine entries draft None is s = s
  next-fine entries draft (Some entry) is s =
      all-added is_printable_entry entries (settled bases usages (length entries) draft entry) s
      (settled-fine (length entries) draft entry (at-fine bases (length entries) entry fine is))

  all-fine : (drafts : List EntryDraft) (entries : List Entry) → Entries entries → Entries (settle_all bases usages entries drafts)
  all-fine [] entries s = s
  all-fine (draft ∷ drafts) entries s = all-fine drafts (settle bases usages entries draft) (next-fine entries draft (slice_get bases (length entries)) refl s)

  fds-fine : (fds : List FdDraft) (entries : List Entry) → Entries entries → Entries (fold (settle_records bases usages) entries fds)
  fds-fine [] entries s = s
  fds-fine (fd ∷ fds) entries s = fds-fine fds (settle_records bases usages entries fd) (all-fine fd.entries entries s)

pub entries-fine : (divisions : Divisions) → data_printable divisions.data_part ≡ true → Entries (entries_of divisions)
entries-fine divisions h =
    let bases = bases_of divisions in
    let usages = usages_in bases divisions in
    let fine = bases-fine divisions h in
    all-fine bases usages fine divisions.data_part.storage (fold (settle_records bases usages) [] divisions.data_part.fds) (fds-fine bases usages fine divisions.data_part.fds [] refl)

-- ---- files

get-fine : {A : Type 0} (test : A → Bool) (list : List A) (i : ℕ) → all (map test list) ≡ true → if_any test (slice_get list i) ≡ true
get-fine test [] i h = refl
get-fine test (x ∷ list) zero h = (and_parts (test x) (all (map test list)) h).0
get-fine test (x ∷ list) (suc i) h = get-fine test list i (and_parts (test x) (all (map test list)) h).1

status-fine : (status : Option StatusDraft) → if_any status_printable status ≡ true → if_any is_printable_place (status_by status) ≡ true
status-fine None h = refl
status-fine (Some status) h = h

file-fine : (select : SelectDraft) → select_printable select ≡ true → is_printable_file (file_of select) ≡ true
file-fine select h =
    let e = and_parts (is_printable_name select.name && is_printable_text select.assign) (all (map status_printable select.statuses)) h in
    both e.0 (status-fine (slice_get select.statuses (length select.statuses - 1)) (get-fine status_printable select.statuses (length select.statuses - 1) e.1))

pub files-fine : (selects : List SelectDraft) → all (map select_printable selects) ≡ true → all (map is_printable_file (map file_of selects)) ≡ true
files-fine [] h = refl
files-fine (select ∷ selects) h =
    let e = and_parts (select_printable select) (all (map select_printable selects)) h in both (file-fine select e.0) (files-fine selects e.1)

pub entries_are_printable : EntriesArePrintable
entries_are_printable found h = (files-fine found.selects h.selects, entries-fine found h.items)
