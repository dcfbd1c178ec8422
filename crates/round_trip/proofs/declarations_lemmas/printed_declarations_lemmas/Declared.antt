-- Drafts of printed divisions declare the program's files and entries, with no fault.
use Rattle.std.proofs.Common.{◌≡◌, ℕ, ◌+◌, List, [], ◌∷◌, ◌++◌, length, map, drop, Option, Some, None, refl, ap, sym, ◌∙◌, subst, append_assoc, append-nil, length-append, arith}
use Rattle.std.specs.Prelude.{slice_get}
use Rattle.std.specs.List.{fold}
use Rattle.cob_tree.specs.declared.entry.Entry.{Entry}
use Rattle.cob_tree.specs.declared.picture.Usage.{Usage}
use Rattle.cob_tree.specs.declared.file.FileEntry.{FileEntry}
use Rattle.cob_tree.specs.declared.program.Program.{Program}
use Rattle.cobol_grammar.specs.declared.data_forms.draft.Divisions.{Divisions}
use Rattle.cobol_grammar.specs.declared.data_forms.draft.FdDraft.{FdDraft}
use Rattle.cobol_grammar.specs.declared.data_forms.draft.SelectDraft.{SelectDraft}
use Rattle.parser_combinators.specs.declared.note.Note.{Note}
use Rattle.parser_combinators.specs.Note.{earliest}
use Rattle.cob_store.specs.sizes.Size.{sized}
use Rattle.declaration_checks.specs.declared.judging.Judged.{Judged}
use Rattle.declaration_checks.specs.Declaring.{section_bases, record_bases, bases_of, settle_all, settle_records, settled_by, entries_of, usages_in, judge_all, judge_records, judged_by, files_fault, fault_of}
use Rattle.declaration_checks.specs.File.{file_number, fds_fault}
use Rattle.declaration_checks.specs.Usage.{section_usages, record_usages, own_usages, usages_of}
use Rattle.round_trip.specs.spelling.data_spelling.Sections.{Fd, records, all_records, AreFiled}
use Rattle.round_trip.specs.spelling.data_spelling.Drafts.{IsFd, AreFds, AreDivisions}
use Rattle.round_trip.specs.declarations.printed_declarations.Rules.{base, bases, owns, usages, sizes, EntriesKeep}
use Rattle.round_trip.specs.declarations.printed_declarations.FileRules.{AreThere, KeepsRules}
use Rattle.round_trip.specs.declarations.printed_declarations.Laws.{PrintedDivisionsDeclare}
use Rattle.round_trip.proofs.declarations_lemmas.printed_declarations_lemmas.Files.{files-are, selects-none, fds-none, fd-number}
use Rattle.round_trip.proofs.declarations_lemmas.printed_declarations_lemmas.Settled.{section-bases, settled-all, judged-all, behind-these}
use Rattle.round_trip.proofs.declarations_lemmas.printed_declarations_lemmas.Usages.{says, section-owns}

-- ---- the entries of a list, and those behind them

bases-behind : (entries more : List Entry) → map base (entries ++ more) ≡ map base entries ++ map base more
bases-behind [] more = refl
bases-behind (entry ∷ entries) more = ap (λ list. base entry ∷ list) (bases-behind entries more)

owns-behind : (entries more : List Entry) → map says (entries ++ more) ≡ map says entries ++ map says more
owns-behind [] more = refl
owns-behind (entry ∷ entries) more = ap (λ list. says entry ∷ list) (owns-behind entries more)

keep-parts : (program : Program) (entries more : List Entry) (at : ℕ) → EntriesKeep program at (entries ++ more) → EntriesKeep program at entries × EntriesKeep program (at + length entries) more
keep-parts program [] more at k = let same : at ≡ at + 0 = omega arith in (tt, subst (λ n. EntriesKeep program n more) same k)
keep-parts program (entry ∷ entries) more at k =
    let behind = keep-parts program entries more (at + 1) k.1 in
    let same : (at + 1) + length entries ≡ at + length (entry ∷ entries) = omega arith in
    ((k.0, behind.0), subst (λ n. EntriesKeep program n more) same behind.1)

-- ---- the records of FDs

module _ (program : Program) (keep : EntriesKeep program 0 program.entries) (storage : List Entry) where
  record-bases : (selects : List SelectDraft) (fds : List Fd) (drafts : List FdDraft) (at from : ℕ) →
      ((fd : Fd) (draft : FdDraft) (at : ℕ) → (file : FileEntry) → slice_get program.files fd.number ≡ Some file → IsFd program fd draft → file_number selects draft at ≡ fd.number) →
      AreThere program fds → AreFiled fds → EntriesKeep program from (all_records fds) → AreFds program fds drafts → record_bases selects at drafts ≡ map base (all_records fds)
  record-bases selects [] [] at from number there f k h = refl
  record-bases selects [] (draft ∷ drafts) at from number there f k h = absurd h
  record-bases selects (fd ∷ fds) [] at from number there f k h = absurd h
  record-bases selects (fd ∷ fds) (draft ∷ drafts) at from number there f k h =
      let keep = keep-parts program (records fd) (all_records fds) from k in
      ap (λ n. section_bases (Some n) draft.entries ++ record_bases selects (at + 1) drafts) (number fd draft at there.0.0 there.0.1 h.0)
      ∙ ap (λ list. list ++ record_bases selects (at + 1) drafts) (section-bases program (Some fd.number) from (records fd) draft.entries f.0 keep.0 h.0.entries)
      ∙ ap (λ list. map base (records fd) ++ list) (record-bases selects fds drafts (at + 1) (from + length (records fd)) number there.1 f.1 keep.1 h.1)
      ∙ sym (bases-behind (records fd) (all_records fds))

  record-owns : (fds : List Fd) (drafts : List FdDraft) (from : ℕ) → EntriesKeep program from (all_records fds) → AreFds program fds drafts → record_usages drafts ≡ map says (all_records fds)
  record-owns [] [] from k h = refl
  record-owns [] (draft ∷ drafts) from k h = absurd h
  record-owns (fd ∷ fds) [] from k h = absurd h
  record-owns (fd ∷ fds) (draft ∷ drafts) from k h =
      let keep = keep-parts program (records fd) (all_records fds) from k in
      ap (λ list. list ++ record_usages drafts) (section-owns program from (records fd) draft.entries keep.0 h.0.entries)
      ∙ ap (λ list. map says (records fd) ++ list) (record-owns fds drafts (from + length (records fd)) keep.1 h.1)
      ∙ sym (owns-behind (records fd) (all_records fds))

  settled-records : (fds : List Fd) (drafts : List FdDraft) (done : List Entry) → drop (length done) program.entries ≡ all_records fds ++ storage → EntriesKeep program (length done) (all_records fds) →
      AreFds program fds drafts → fold (settle_records (bases program) (usages program)) done drafts ≡ done ++ all_records fds
  settled-records [] [] done from k h = sym (append-nil done)
  settled-records [] (draft ∷ drafts) done from k h = absurd h
  settled-records (fd ∷ fds) [] done from k h = absurd h
  settled-records (fd ∷ fds) (draft ∷ drafts) done from k h =
      let parts = keep-parts program (records fd) (all_records fds) (length done) k in
      let here : drop (length done) program.entries ≡ records fd ++ (all_records fds ++ storage) = from ∙ append_assoc (records fd) (all_records fds) storage in
      let one : settle_records (bases program) (usages program) done draft ≡ done ++ records fd =
      settled-all program keep (records fd) (all_records fds ++ storage) done draft.entries here parts.0 h.0.entries in
      let long : length (done ++ records fd) ≡ length done + length (records fd) = length-append done (records fd) in
      ap (λ list. fold (settle_records (bases program) (usages program)) list drafts) one
      ∙ settled-records fds drafts (done ++ records fd)
      (ap (λ n. drop n program.entries) long ∙ behind-these program (records fd) (all_records fds ++ storage) (length done) here)
      (subst (λ n. EntriesKeep program n (all_records fds)) (sym long) parts.1) h.1
      ∙ append_assoc done (records fd) (all_records fds)

  judged-records : (fds : List Fd) (drafts : List FdDraft) (at : ℕ) → drop at program.entries ≡ all_records fds ++ storage → EntriesKeep program at (all_records fds) →
      AreFds program fds drafts →
      fold (judge_records (bases program) (sizes program) (usages program)) (record { at = at; fault = None }) drafts ≡ record { at = at + length (all_records fds); fault = None }
  judged-records [] [] at from k h = let same : at ≡ at + 0 = omega arith in ap (λ n. record { at = n; fault = None }) same
  judged-records [] (draft ∷ drafts) at from k h = absurd h
  judged-records (fd ∷ fds) [] at from k h = absurd h
  judged-records (fd ∷ fds) (draft ∷ drafts) at from k h =
      let parts = keep-parts program (records fd) (all_records fds) at k in
      let here : drop at program.entries ≡ records fd ++ (all_records fds ++ storage) = from ∙ append_assoc (records fd) (all_records fds) storage in
      let long : length (all_records (fd ∷ fds)) ≡ length (records fd) + length (all_records fds) = length-append (records fd) (all_records fds) in
      let same : (at + length (records fd)) + length (all_records fds) ≡ at + length (all_records (fd ∷ fds)) = omega (arith, long) in
      ap (λ judged. fold (judge_records (bases program) (sizes program) (usages program)) judged drafts)
      (judged-all program keep (records fd) (all_records fds ++ storage) at draft.entries here parts.0 h.0.entries)
      ∙ judged-records fds drafts (at + length (records fd)) (behind-these program (records fd) (all_records fds ++ storage) at here) parts.1 h.1
      ∙ ap (λ n. record { at = n; fault = None }) same

-- ---- all of them

module _ (program : Program) (fds : List Fd) (storage : List Entry) (draft : Divisions) (K : KeepsRules program fds storage) (D : AreDivisions program fds storage draft) where
  abbrev all : List Entry
  all = all_records fds ++ storage

  keep : EntriesKeep program 0 (all_records fds) × EntriesKeep program (0 + length (all_records fds)) storage
  keep = keep-parts program (all_records fds) storage 0 (subst (EntriesKeep program 0) K.sorted.is K.entries)

  bases-are : bases_of draft ≡ bases program
  bases-are =
      ap (λ list. list ++ section_bases None draft.data_part.storage)
      (record-bases program K.entries storage draft.selects fds draft.data_part.fds 0 0
      (λ fd found at file e is. fd-number program draft.selects fd found at D.selects K.distinct file e is) K.there K.sorted.filed keep.0 D.data_part.fds)
      ∙ ap (λ list. map base (all_records fds) ++ list)
      (section-bases program None (0 + length (all_records fds)) storage draft.data_part.storage K.sorted.stored keep.1 D.data_part.storage)
      ∙ sym (bases-behind (all_records fds) storage) ∙ ap (map base) (sym K.sorted.is)

  owns-are : own_usages draft.data_part ≡ owns program
  owns-are =
      ap (λ list. list ++ section_usages draft.data_part.storage) (record-owns program K.entries storage fds draft.data_part.fds 0 keep.0 D.data_part.fds)
      ∙ ap (λ list. map says (all_records fds) ++ list) (section-owns program (0 + length (all_records fds)) storage draft.data_part.storage keep.1 D.data_part.storage)
      ∙ sym (owns-behind (all_records fds) storage) ∙ ap (map says) (sym K.sorted.is)

  usages-are : usages_in (bases_of draft) draft ≡ usages program
  usages-are = ap (λ list. usages_of list (own_usages draft.data_part)) bases-are ∙ ap (usages_of (bases program)) owns-are

  from-start : drop 0 program.entries ≡ all
  from-start = drop-none program.entries ∙ K.sorted.is
    where
      drop-none : (list : List Entry) → drop 0 list ≡ list
      drop-none [] = refl
      drop-none (entry ∷ list) = refl

  behind-records : (n : ℕ) → n ≡ length (all_records fds) → drop n program.entries ≡ storage ++ []
  behind-records n e =
      let none : n ≡ 0 + length (all_records fds) = omega (arith, e) in
      ap (λ n. drop n program.entries) none ∙ behind-these program (all_records fds) storage 0 from-start ∙ sym (append-nil storage)

  kept-behind : (n : ℕ) → n ≡ length (all_records fds) → EntriesKeep program n storage
  kept-behind n e = let none : 0 + length (all_records fds) ≡ n = omega (arith, e) in subst (λ n. EntriesKeep program n storage) none keep.1

  entries-by : (list : List Entry) (used : List (Option Usage)) → list ≡ bases program → used ≡ usages program → settled_by list used draft ≡ program.entries
  entries-by list used e u =
      ap (λ list. settled_by list used draft) e
      ∙ ap (λ used. settled_by (bases program) used draft) u
      ∙ ap (λ list. settle_all (bases program) (usages program) list draft.data_part.storage) (settled-records program K.entries storage fds draft.data_part.fds [] from-start keep.0 D.data_part.fds)
      ∙ settled-all program K.entries storage [] (all_records fds) draft.data_part.storage (behind-records (length (all_records fds)) refl) (kept-behind (length (all_records fds)) refl) D.data_part.storage
      ∙ sym K.sorted.is

  pub entries-are : entries_of draft ≡ program.entries
  entries-are = entries-by (bases_of draft) (usages_in (bases_of draft) draft) bases-are usages-are

  no-files-fault : files_fault draft ≡ None
  no-files-fault =
      ap (λ f. earliest f (fds_fault draft.selects draft.data_part.fds))
      (selects-none program fds draft.data_part.fds D.data_part.fds [] program.files [] draft.selects tt D.selects K.distinct K.described)
      ∙ fds-none program draft.selects D.selects [] fds [] draft.data_part.fds tt D.data_part.fds K.apart K.there

  judged-none : (list : List Entry) (long : List ℕ) (used : List (Option Usage)) (fault : Option Note) → list ≡ bases program → long ≡ sizes program → used ≡ usages program → fault ≡ None →
      (judged_by list long used (record { at = 0; fault = fault }) draft).fault ≡ None
  judged-none list long used fault b s u f =
      ap (λ list. (judged_by list long used (record { at = 0; fault = fault }) draft).fault) b
      ∙ ap (λ long. (judged_by (bases program) long used (record { at = 0; fault = fault }) draft).fault) s
      ∙ ap (λ used. (judged_by (bases program) (sizes program) used (record { at = 0; fault = fault }) draft).fault) u
      ∙ ap (λ fault. (judged_by (bases program) (sizes program) (usages program) (record { at = 0; fault = fault }) draft).fault) f
      ∙ ap (λ judged. (judge_all (bases program) (sizes program) (usages program) judged draft.data_part.storage).fault)
      (judged-records program K.entries storage fds draft.data_part.fds 0 from-start keep.0 D.data_part.fds)
      ∙ ap (λ (judged : Judged). judged.fault)
      (judged-all program K.entries storage [] (0 + length (all_records fds)) draft.data_part.storage (behind-records (0 + length (all_records fds)) (omega arith)) keep.1 D.data_part.storage)

  pub fault-none : fault_of draft ≡ None
  fault-none =
      judged-none (bases_of draft) (sized (entries_of draft)).sizes (usages_in (bases_of draft) draft) (files_fault draft) bases-are (ap (λ list. (sized list).sizes) entries-are) usages-are no-files-fault

pub printed_divisions_declare : PrintedDivisionsDeclare
printed_divisions_declare program fds storage draft K D =
    ap (λ files. record { files = files; entries = entries_of draft; fault = fault_of draft }) (files-are program.files draft.selects D.selects)
    ∙ ap (λ entries. record { files = program.files; entries = entries; fault = fault_of draft }) (entries-are program fds storage draft K D)
    ∙ ap (λ fault. record { files = program.files; entries = program.entries; fault = fault }) (fault-none program fds storage draft K D)
