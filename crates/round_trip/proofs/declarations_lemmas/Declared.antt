-- What divisions declare with no fault keeps the rules.
use Rattle.std.proofs.Common.{◌≡◌, ℕ, ◌+◌, true, List, [], ◌∷◌, ◌++◌, length, map, drop, Option, Some, None, refl, ap, sym, ◌∙◌, subst, append_assoc, append-nil}
use Rattle.std.specs.List.{fold}
use Rattle.std.proofs.lemmas.Bool.{and_parts}
use Rattle.cob_tree.specs.declared.entry.Entry.{Entry}
use Rattle.cob_tree.specs.declared.picture.Usage.{Usage}
use Rattle.cob_tree.specs.declared.program.Program.{Program}
use Rattle.cobol_grammar.specs.declared.data_forms.draft.Divisions.{Divisions}
use Rattle.cobol_grammar.specs.declared.data_forms.draft.EntryDraft.{EntryDraft}
use Rattle.cobol_grammar.specs.declared.data_forms.draft.FdDraft.{FdDraft}
use Rattle.cobol_grammar.specs.declared.data_forms.draft.SelectDraft.{SelectDraft}
use Rattle.parser_combinators.specs.declared.note.Note.{Note}
use Rattle.control_flow_theory.specs.language.All.{all}
use Rattle.program_facts.specs.well_scoped.Part.{is_filled}
use Rattle.grammar_laws.specs.well_scoped.named_data.Drafts.{entry_literal, entries_literal, fd_literal, data_literal}
use Rattle.cob_store.specs.sizes.Size.{sized}
use Rattle.declaration_checks.specs.declared.declaring.Declared.{Declared}
use Rattle.declaration_checks.specs.declared.judging.Judged.{Judged}
use Rattle.declaration_checks.specs.Declaring.{section_bases, record_bases, bases_of, settle, settle_all, settle_records, entries_of, usages_in, judge, judge_all, judge_records, files_fault, fault_of}
use Rattle.declaration_checks.specs.File.{file_number, file_of, selects_fault, fds_fault}
use Rattle.declaration_checks.specs.Usage.{section_usages, record_usages, own_usages}
use Rattle.grammar_laws.proofs.whole_counts_lemmas.entry_bounds_lemmas.Usages.{Handed, usages-handed}
use Rattle.round_trip.specs.spelling.data_spelling.Sections.{Fd}
use Rattle.round_trip.specs.declarations.printed_declarations.Rules.{base, bases, sizes, EntriesKeep}
use Rattle.round_trip.specs.declarations.printed_declarations.FileRules.{AreDistinct, AreDescribed, KeepsRules}
use Rattle.round_trip.specs.declarations.Laws.{DeclaredProgramsKeepRules}
use Rattle.round_trip.proofs.declarations_lemmas.Entries.{none_of}
use Rattle.round_trip.proofs.declarations_lemmas.Sections.{Placed, placed_base, section, flat_fds, all-flat, all-owns, AllHanded, all-handed, settled_from, settled-append, drafts_of, settles, AllFine, faults_from, judges, all-fine, same-bases, stand-in, AreLiteral, all-keep}
use Rattle.round_trip.proofs.declarations_lemmas.Groups.{AllNamed, AllSelected, all-named, all-selected, distinct, Grouped, grouped, apart-fds, all-there, described, all-apart}

-- ---- drafts one behind the other

drafts-section : (file : Option ℕ) (drafts : List EntryDraft) → drafts_of (section file drafts) ≡ drafts
drafts-section file [] = refl
drafts-section file (draft ∷ drafts) = ap (λ list. draft ∷ list) (drafts-section file drafts)

drafts-append : (front back : List Placed) → drafts_of (front ++ back) ≡ drafts_of front ++ drafts_of back
drafts-append [] back = refl
drafts-append (placed ∷ front) back = ap (λ list. placed.draft ∷ list) (drafts-append front back)

module _ {S : Type 0} (f : S → EntryDraft → S) where
  fold-append : (front back : List EntryDraft) (s : S) → fold f s (front ++ back) ≡ fold f (fold f s front) back
  fold-append [] back s = refl
  fold-append (draft ∷ front) back s = fold-append front back (f s draft)

  by-section : (file : Option ℕ) (drafts : List EntryDraft) (back : List Placed) (s : S) → fold f (fold f s drafts) (drafts_of back) ≡ fold f s (drafts_of (section file drafts ++ back))
  by-section file drafts back s =
      sym (fold-append drafts (drafts_of back) s)
      ∙ ap (fold f s) (ap (λ list. list ++ drafts_of back) (sym (drafts-section file drafts)) ∙ sym (drafts-append (section file drafts) back))

  fold-fds : (selects : List SelectDraft) (fds : List FdDraft) (storage : List EntryDraft) (at : ℕ) (s : S) →
      fold f (fold (λ t (fd : FdDraft). fold f t fd.entries) s fds) storage ≡ fold f s (drafts_of (flat_fds selects at fds ++ section None storage))
  fold-fds selects [] storage at s = ap (fold f s) (sym (drafts-section None storage))
  fold-fds selects (fd ∷ fds) storage at s =
      let front = section (Some (file_number selects fd at)) fd.entries in
      fold-fds selects fds storage (at + 1) (fold f s fd.entries)
      ∙ by-section (Some (file_number selects fd at)) fd.entries (flat_fds selects (at + 1) fds ++ section None storage) s
      ∙ ap (λ list. fold f s (drafts_of list)) (sym (append_assoc front (flat_fds selects (at + 1) fds) (section None storage)))

-- ---- values are literals

literal-section : (file : Option ℕ) (drafts : List EntryDraft) → entries_literal drafts ≡ true → AreLiteral (section file drafts)
literal-section file [] e = tt
literal-section file (draft ∷ drafts) e = let h = and_parts (entry_literal draft) (entries_literal drafts) e in (h.0, literal-section file drafts h.1)

literal-append : (front back : List Placed) → AreLiteral front → AreLiteral back → AreLiteral (front ++ back)
literal-append [] back f b = b
literal-append (placed ∷ front) back f b = (f.0, literal-append front back f.1 b)

literal-fds : (selects : List SelectDraft) (at : ℕ) (fds : List FdDraft) → all (map fd_literal fds) ≡ true → AreLiteral (flat_fds selects at fds)
literal-fds selects at [] e = tt
literal-fds selects at (fd ∷ fds) e =
    let h = and_parts (fd_literal fd) (all (map fd_literal fds)) e in
    let k = and_parts (is_filled fd.entries) (entries_literal fd.entries) h.0 in
    literal-append (section (Some (file_number selects fd at)) fd.entries) (flat_fds selects (at + 1) fds) (literal-section (Some (file_number selects fd at)) fd.entries k.1) (literal-fds selects (at + 1) fds h.1)

-- ---- all of it

drop-none : {A : Type 0} (entries : List A) → drop 0 entries ≡ entries
drop-none [] = refl
drop-none (entry ∷ entries) = refl

-- of drafts with these bases, sizes and faults
module _ (program : Program) (list : List Entry) (long : List ℕ) (own used : List (Option Usage)) (handed : Handed list own used) (selects : List SelectDraft) (fds : List FdDraft) (stored : List EntryDraft) (fault : Option Note)
    (literal : data_literal (record { fds = fds; storage = stored }) ≡ true) (based : list ≡ record_bases selects 0 fds ++ section_bases None stored)
    (owned : own ≡ record_usages fds ++ section_usages stored)
    (settles_all : program.entries ≡ settle_all list used (fold (settle_records list used) [] fds) stored) (sized_so : long ≡ sizes program)
    (judged_none : (judge_all list long used (fold (judge_records list long used) (record { at = 0; fault = fault }) fds) stored).fault ≡ None)
    (files : program.files ≡ map file_of selects) where
  abbrev flat : List Placed
  flat = flat_fds selects 0 fds ++ section None stored

  from-start : drop 0 list ≡ map placed_base (flat ++ [])
  from-start = drop-none list ∙ based ∙ all-flat selects fds stored ∙ ap (map placed_base) (sym (append-nil flat))

  entries-flat : program.entries ≡ settled_from list used 0 flat
  entries-flat = settles_all ∙ fold-fds (settle list used) selects fds stored 0 [] ∙ settles list long used flat [] [] from-start

  no-faults : faults_from list long used 0 fault flat ≡ None
  no-faults =
      sym (ap (λ (judged : Judged). judged.fault) (fold-fds (judge list long used) selects fds stored 0 (record { at = 0; fault = fault }) ∙ judges list long used flat [] 0 fault from-start)) ∙ judged_none

  pub fine : (fault ≡ None) × AllFine list long used 0 flat
  fine = all-fine list long used flat 0 fault no-faults

  all-used : AllHanded list used 0 flat
  all-used =
      all-handed list own used handed flat 0 (from-start ∙ ap (map placed_base) (append-nil flat))
      (drop-none own ∙ owned ∙ all-owns selects fds stored)

  same-list : bases program ≡ list
  same-list = ap (map base) entries-flat ∙ same-bases list long used flat 0 fine.1 ∙ sym (all-flat selects fds stored) ∙ sym based

  literals : (all (map fd_literal fds) ≡ true) × (entries_literal stored ≡ true)
  literals = and_parts (all (map fd_literal fds)) (entries_literal stored) literal

  fine-program : AllFine (bases program) (sizes program) used 0 flat
  fine-program = subst (λ entries. AllFine entries (sizes program) used 0 flat) (sym same-list) (subst (λ lengths. AllFine list lengths used 0 flat) sized_so fine.1)

  used-program : AllHanded (bases program) used 0 flat
  used-program = subst (λ entries. AllHanded entries used 0 flat) (sym same-list) all-used

  all-literal : AreLiteral flat
  all-literal = literal-append (flat_fds selects 0 fds) (section None stored) (literal-fds selects 0 fds literals.0) (literal-section None stored literals.1)

  all-kept : EntriesKeep program 0 program.entries
  all-kept =
      subst (EntriesKeep program 0) (ap (λ entries. settled_from entries used 0 flat) same-list ∙ sym entries-flat)
      (all-keep program used flat 0 all-literal used-program fine-program)

  group : (selected : AllSelected selects [] fds) → Grouped program list used selects 0 0 fds
  group selected = grouped program list long used selects [] fds 0 0 files selected literals.0

  abbrev held : List Entry
  held = settled_from list used (0 + length (flat_fds selects 0 fds)) (section None stored)

  pub keeps-rules : AllNamed fds [] selects → AllSelected selects [] fds → (described : List Fd) × (storage : List Entry) × KeepsRules program described storage
  keeps-rules named selected = by (group selected)
    where
      by : Grouped program list used selects 0 0 fds → (described : List Fd) × (storage : List Entry) × KeepsRules program described storage
      by G =
          let apart = apart-fds program selects [] G.fds [] fds tt G.titled selected in (
            G.fds,
            held,
            record {
              sorted = record {
                is = entries-flat ∙ settled-append list used 0 (flat_fds selects 0 fds) (section None stored) ∙ ap (λ front. front ++ held) (sym G.holds);
                filed = G.filed;
                apart = all-apart program G.fds apart;
                stored = stand-in list long used None stored (0 + length (flat_fds selects 0 fds));
              };
              distinct = subst (AreDistinct []) (sym files) (distinct fds [] selects named);
              there = all-there program G.fds fds G.titled;
              apart = apart;
              described = subst (AreDescribed program G.fds) (sym files) (described program G.fds fds [] selects G.titled named);
              entries = all-kept;
            },
          )

module _ (program : Program) (draft : Divisions) (literal : data_literal draft.data_part ≡ true) (files : program.files ≡ map file_of draft.selects) (entries : program.entries ≡ entries_of draft) (none : fault_of draft ≡ None) where
  abbrev its_bases : List Entry
  its_bases = bases_of draft

  abbrev its_owns : List (Option Usage)
  its_owns = own_usages draft.data_part

  no-files-fault : files_fault draft ≡ None
  no-files-fault =
      (fine program its_bases (sized (entries_of draft)).sizes its_owns (usages_in its_bases draft) (usages-handed its_bases its_owns) draft.selects draft.data_part.fds draft.data_part.storage (files_fault draft)
      literal refl refl entries (sym (ap (λ list. (sized list).sizes) entries)) none files).0

  pub rules-kept : (described : List Fd) × (storage : List Entry) × KeepsRules program described storage
  rules-kept =
      let parts = none_of (selects_fault draft.data_part.fds draft.selects) (fds_fault draft.selects draft.data_part.fds) no-files-fault in
      keeps-rules program its_bases (sized (entries_of draft)).sizes its_owns (usages_in its_bases draft) (usages-handed its_bases its_owns) draft.selects draft.data_part.fds draft.data_part.storage (files_fault draft)
      literal refl refl entries (sym (ap (λ list. (sized list).sizes) entries)) none files
      (all-named draft.data_part.fds None [] draft.selects parts.0).1 (all-selected draft.selects None [] draft.data_part.fds parts.1).1

pub declared_programs_keep_rules : DeclaredProgramsKeepRules
declared_programs_keep_rules program draft literal is =
    rules-kept program draft literal (sym (ap (λ (d : Declared). d.files) is)) (sym (ap (λ (d : Declared). d.entries) is)) (ap (λ (d : Declared). d.fault) is)
