-- The tokens of a program's units up to its PROCEDURE DIVISION.
use Rattle.std.proofs.Common.{◌≡◌, ℕ, true, false, if◌then◌else◌, List, [], ◌∷◌, ◌++◌, Option, Some, None, refl, ap, sym, ◌∙◌, append_assoc, eq-eqb}
use Rattle.std.specs.Prelude.{codes, ◌==◌}
use Rattle.cob_tree.specs.declared.entry.Entry.{Entry}
use Rattle.cob_tree.specs.declared.file.FileEntry.{FileEntry}
use Rattle.cob_tree.specs.declared.program.Program.{Program}
use Rattle.cobol_lex.specs.declared.token.TokenKind.TheVariants as kinds
use Rattle.unparser.specs.Token.{Tokens}
use Rattle.unparser.specs.File.{file_tokens}
use Rattle.cobol_print.specs.declared.units.unit.PrintUnit.{PrintUnit}
use Rattle.cobol_print.specs.units.Division.{file_units, environment_units, fd_unit, headers_between, entries_units, data_units, procedure_units, program_units}
use Rattle.cobol_print.specs.units.Entry.{entry_unit}
use Rattle.cobol_print.specs.Unit.{all_tokens}
use Rattle.round_trip.specs.spelling.data_spelling.Kinds.{header_kinds, title_kinds, entry_kinds, entries_kinds, select_kinds, selects_kinds, environment_kinds, fd_kinds, fds_kinds, storage_kinds, sections_kinds, data_kinds, divisions_kinds}
use Rattle.round_trip.specs.spelling.data_spelling.Sections.{Fd, records, all_records, StandIn, AreFiled, AreApart, IsSorted}

all-append : (units more : List PrintUnit) → all_tokens (units ++ more) ≡ all_tokens units ++ all_tokens more
all-append [] more = refl
all-append (unit ∷ units) more = ap (λ list. unit.tokens ++ list) (all-append units more) ∙ sym (append_assoc unit.tokens (all_tokens units) (all_tokens more))

same-number : (n : ℕ) → (n == n) ≡ true
same-number n = eq-eqb n n refl

module _ (program : Program) where
  -- ---- the environment division

  selects-tokens : (files : List FileEntry) → all_tokens (file_units program files) ≡ selects_kinds program files
  selects-tokens [] = refl
  selects-tokens (file ∷ files) = ap (λ list. select_kinds program file ++ list) (selects-tokens files)

  environment-tokens : (files : List FileEntry) → all_tokens (environment_units program files) ≡ environment_kinds program files
  environment-tokens [] = refl
  environment-tokens (file ∷ files) =
      ap (λ list. header_kinds (codes "ENVIRONMENT") (codes "DIVISION") ++ (header_kinds (codes "INPUT-OUTPUT") (codes "SECTION") ++ ((kinds.Word (codes "FILE-CONTROL") ∷ kinds.Period ∷ []) ++ list)))
      (selects-tokens (file ∷ files))

  -- ---- the data division

  abbrev Tokens-of : Option (Option ℕ) → List Entry → Tokens
  Tokens-of before entries = all_tokens (entries_units program before entries)

  -- an entry of this file, or of none
  abbrev one : Option (Option ℕ) → Entry → List Entry → Option ℕ → Tokens
  one before entry entries file = all_tokens (headers_between program before file ++ entry_unit program entry ∷ entries_units program (Some file) entries)

  in-file : (number : ℕ) (entries more : List Entry) → StandIn (Some number) entries → Tokens-of (Some (Some number)) (entries ++ more) ≡ entries_kinds program entries ++ Tokens-of (Some (Some number)) more
  in-file number [] more s = refl
  in-file number (entry ∷ entries) more s =
      ap (one (Some (Some number)) entry (entries ++ more)) s.0
      ∙ ap (λ b. all_tokens ((if b then [] else fd_unit program number ∷ []) ++ entry_unit program entry ∷ entries_units program (Some (Some number)) (entries ++ more))) (same-number number)
      ∙ ap (λ list. entry_kinds program entry ++ list) (in-file number entries more s.1)
      ∙ sym (append_assoc (entry_kinds program entry) (entries_kinds program entries) (Tokens-of (Some (Some number)) more))

  abbrev fd_header : Fd → Tokens
  fd_header fd = kinds.Word (codes "FD") ∷ file_tokens program fd.number ++ kinds.Period ∷ []

  -- the records of an FD behind its header
  behind-header : (fd : Fd) (more : List Entry) → StandIn (Some fd.number) (records fd) →
      fd_header fd ++ (entry_kinds program fd.first ++ Tokens-of (Some (Some fd.number)) (fd.more ++ more)) ≡ fd_kinds program fd ++ Tokens-of (Some (Some fd.number)) more
  behind-header fd more s =
      ap (λ list. fd_header fd ++ (entry_kinds program fd.first ++ list)) (in-file fd.number fd.more more s.1)
      ∙ ap (λ list. fd_header fd ++ list) (sym (append_assoc (entry_kinds program fd.first) (entries_kinds program fd.more) (Tokens-of (Some (Some fd.number)) more)))
      ∙ sym (append_assoc (fd_header fd) (entries_kinds program (records fd)) (Tokens-of (Some (Some fd.number)) more))

  next-fd : (number : ℕ) (fd : Fd) (more : List Entry) → (number == fd.number) ≡ false → StandIn (Some fd.number) (records fd) →
      Tokens-of (Some (Some number)) (records fd ++ more) ≡ fd_kinds program fd ++ Tokens-of (Some (Some fd.number)) more
  next-fd number fd more other s =
      ap (one (Some (Some number)) fd.first (fd.more ++ more)) s.0
      ∙ ap (λ b. all_tokens ((if b then [] else fd_unit program fd.number ∷ []) ++ entry_unit program fd.first ∷ entries_units program (Some (Some fd.number)) (fd.more ++ more))) other
      ∙ behind-header fd more s

  first-fd : (fd : Fd) (more : List Entry) → StandIn (Some fd.number) (records fd) →
      Tokens-of None (records fd ++ more) ≡ header_kinds (codes "FILE") (codes "SECTION") ++ (fd_kinds program fd ++ Tokens-of (Some (Some fd.number)) more)
  first-fd fd more s =
      ap (one None fd.first (fd.more ++ more)) s.0
      ∙ ap (λ list. header_kinds (codes "FILE") (codes "SECTION") ++ list) (behind-header fd more s)

  in-storage : (entries : List Entry) → StandIn None entries → Tokens-of (Some None) entries ≡ entries_kinds program entries
  in-storage [] s = refl
  in-storage (entry ∷ entries) s = ap (one (Some None) entry entries) s.0 ∙ ap (λ list. entry_kinds program entry ++ list) (in-storage entries s.1)

  behind-fds : (number : ℕ) (storage : List Entry) → StandIn None storage → Tokens-of (Some (Some number)) storage ≡ storage_kinds program storage
  behind-fds number [] s = refl
  behind-fds number (entry ∷ entries) s =
      ap (one (Some (Some number)) entry entries) s.0
      ∙ ap (λ list. header_kinds (codes "WORKING-STORAGE") (codes "SECTION") ++ (entry_kinds program entry ++ list)) (in-storage entries s.1)

  storage-alone : (entry : Entry) (entries : List Entry) → StandIn None (entry ∷ entries) → Tokens-of None (entry ∷ entries) ≡ storage_kinds program (entry ∷ entries)
  storage-alone entry entries s =
      ap (one None entry entries) s.0
      ∙ ap (λ list. header_kinds (codes "WORKING-STORAGE") (codes "SECTION") ++ (entry_kinds program entry ++ list)) (in-storage entries s.1)

  more-fds : (number : ℕ) (fds : List Fd) (storage : List Entry) → AreFiled fds → AreApart (Some number) fds → StandIn None storage →
      Tokens-of (Some (Some number)) (all_records fds ++ storage) ≡ fds_kinds program fds ++ storage_kinds program storage
  more-fds number [] storage f a s = behind-fds number storage s
  more-fds number (fd ∷ fds) storage f a s =
      ap (Tokens-of (Some (Some number))) (append_assoc (records fd) (all_records fds) storage)
      ∙ next-fd number fd (all_records fds ++ storage) a.0 f.0
      ∙ ap (λ list. fd_kinds program fd ++ list) (more-fds fd.number fds storage f.1 a.1 s)
      ∙ sym (append_assoc (fd_kinds program fd) (fds_kinds program fds) (storage_kinds program storage))

  all-fds : (fd : Fd) (fds : List Fd) (storage : List Entry) → AreFiled (fd ∷ fds) → AreApart None (fd ∷ fds) → StandIn None storage →
      Tokens-of None (all_records (fd ∷ fds) ++ storage) ≡ sections_kinds program (fd ∷ fds) storage
  all-fds fd fds storage f a s =
      ap (Tokens-of None) (append_assoc (records fd) (all_records fds) storage)
      ∙ first-fd fd (all_records fds ++ storage) f.0
      ∙ ap (λ list. header_kinds (codes "FILE") (codes "SECTION") ++ (fd_kinds program fd ++ list)) (more-fds fd.number fds storage f.1 a.1 s)
      ∙ ap (λ list. header_kinds (codes "FILE") (codes "SECTION") ++ list) (sym (append_assoc (fd_kinds program fd) (fds_kinds program fds) (storage_kinds program storage)))
      ∙ sym (append_assoc (header_kinds (codes "FILE") (codes "SECTION")) (fds_kinds program (fd ∷ fds)) (storage_kinds program storage))

  data-tokens : (fds : List Fd) (storage : List Entry) → AreFiled fds → AreApart None fds → StandIn None storage → all_tokens (data_units program (all_records fds ++ storage)) ≡ data_kinds program fds storage
  data-tokens [] [] f a s = refl
  data-tokens [] (entry ∷ storage) f a s = ap (λ list. header_kinds (codes "DATA") (codes "DIVISION") ++ list) (storage-alone entry storage s)
  data-tokens (fd ∷ fds) storage f a s = ap (λ list. header_kinds (codes "DATA") (codes "DIVISION") ++ list) (all-fds fd fds storage f a s)

  -- ---- all of them

  pub divisions-tokens : (fds : List Fd) (storage : List Entry) → IsSorted fds storage program.entries →
      all_tokens (program_units program) ≡ divisions_kinds program fds storage ++ all_tokens (procedure_units program program.paragraphs)
  divisions-tokens fds storage S =
      let environment = environment_units program program.files in
      let data_part = data_units program program.entries in
      let procedure = procedure_units program program.paragraphs in
      ap (λ list. title_kinds program.name ++ list)
      (all-append (environment ++ data_part) procedure ∙ ap (λ list. list ++ all_tokens procedure) (all-append environment data_part
      ∙ ap (λ list. list ++ all_tokens data_part) (environment-tokens program.files)
      ∙ ap (λ list. environment_kinds program program.files ++ list) (ap (λ entries. all_tokens (data_units program entries)) S.is ∙ data-tokens fds storage S.filed S.apart S.stored)))
      ∙ sym (append_assoc (title_kinds program.name) (environment_kinds program program.files ++ data_kinds program fds storage) (all_tokens procedure))
