-- The units of files, entries and paragraphs, of which no word is left out.
use Rattle.std.proofs.Common.{◌≡◌, ℕ, Bool, true, false, List, [], ◌∷◌, map, Option, Some, None, refl}
use Rattle.std.specs.Prelude.{codes, decimal, ◌==◌, if◌then◌else◌}
use Rattle.std.specs.List.{flat_map}
use Rattle.std.proofs.lemmas.Bool.{and_parts}
use Rattle.cob_tree.specs.declared.entry.Entry.{Entry}
use Rattle.cob_tree.specs.declared.entry.Span.{Span}
use Rattle.cob_tree.specs.declared.file.FileEntry.{FileEntry}
use Rattle.cob_tree.specs.declared.picture.Picture.{Picture}
use Rattle.cob_tree.specs.declared.picture.Sign.{Sign}
use Rattle.cob_tree.specs.declared.picture.Sign.TheVariants.{Within, SeparateLeading, SeparateTrailing}
use Rattle.cob_tree.specs.declared.picture.Usage.{Usage}
use Rattle.cob_tree.specs.declared.picture.Usage.TheVariants.{Display, Binary, Packed}
use Rattle.cob_tree.specs.declared.place.Operand.{Operand}
use Rattle.cob_tree.specs.declared.place.Place.{Place}
use Rattle.cob_tree.specs.declared.program.Paragraph.{Paragraph}
use Rattle.cob_tree.specs.declared.program.Program.{Program}
use Rattle.cob_tree.specs.declared.program.Sentence.{Sentence}
use Rattle.cobol_lex.specs.declared.token.TokenKind.TheVariants as kind
use Rattle.control_flow_theory.specs.language.All.{all}
use Rattle.grammar_laws.specs.form_results.Giving.{Each}
use Rattle.program_facts.specs.well_scoped.Part.{if_any}
use Rattle.cobol_print.specs.declared.units.unit.PrintUnit.{PrintUnit}
use Rattle.cobol_print.specs.units.Unit.{header, ended}
use Rattle.cobol_print.specs.units.Picture.{picture_text}
use Rattle.cobol_print.specs.units.Entry.{level_text, level_column, redefines_tokens, picture_tokens, usage_tokens, sign_tokens, occurs_tokens, value_tokens, thru_operand, span_tokens, spans_tokens, ranges_tokens, clauses_tokens, entry_unit}
use Rattle.cobol_print.specs.units.Division.{select_tokens, status_tokens, file_unit, file_units, environment_units, fd_unit, file_section, headers_between, entries_units, data_units, section_line, named_line, sentence_units, paragraph_units, paragraphs_units}
use Rattle.round_trip.specs.printable.Part.{is_printable_name, is_printable_place, is_printable_operand}
use Rattle.round_trip.specs.printable.Statement.{is_printable_sentence, are_printable_sentences}
use Rattle.round_trip.specs.printable.Whole.{is_printable_file, is_printable_span, is_printable_entry, IfNamed, IsPrintableParagraph}
use Rattle.round_trip.proofs.printable_lemmas.Tokens.{entry-fine}
use Rattle.end_to_end_laws.proofs.read_programs_lemmas.printed_words_lemmas.Tokens.{IsAllowed, AreAllowed, none, append, word, period, text-allowed, picture-allowed, digits-allowed, printable-name, label-allowed, entry-name-allowed, ◌∷∷◌, ◌+++◌}
use Rattle.end_to_end_laws.proofs.read_programs_lemmas.printed_words_lemmas.Places as places
use Rattle.end_to_end_laws.proofs.read_programs_lemmas.printed_words_lemmas.Statements.{IsAllowedLine, AllowedLines, HasNames, no-lines, line, lines-beside, all-allowed}

-- ---- headers

pub header-allowed : (first second : List ℕ) {lines : List PrintUnit} → AreAllowed (kind.Word first ∷ kind.Word second ∷ []) → AllowedLines lines →
    AllowedLines (header first second ∷ lines)
header-allowed first second h k = line 8 (h +++ period ∷∷ none) k

-- a period behind the last unit
ended-each : (units : List PrintUnit) → Each IsAllowedLine units → Each IsAllowedLine (ended units)
ended-each [] h = tt
ended-each (unit ∷ []) h = (append IsAllowed unit.tokens (kind.Period ∷ []) h.0 ((λ line. refl), tt), tt)
ended-each (unit ∷ next ∷ units) h = (h.0, ended-each (next ∷ units) h.1)

ended-allowed : (units : List PrintUnit) → AllowedLines units → AllowedLines (ended units)
ended-allowed units h = record { allowed = ended-each units h.allowed }

module _ (program : Program) (names : HasNames program) where
  -- ---- files

  status-allowed : (status : Option Place) → if_any is_printable_place status ≡ true → AreAllowed (status_tokens program status)
  status-allowed None h = none
  status-allowed (Some place) h =
      word (codes "FILE") refl ∷∷ word (codes "STATUS") refl ∷∷ word (codes "IS") refl ∷∷ places.place-allowed program names.items place h

  select-allowed : (file : FileEntry) → is_printable_name file.name ≡ true → AreAllowed (select_tokens file)
  select-allowed file n =
      word (codes "SELECT") refl ∷∷ printable-name file.name n ∷∷ word (codes "ASSIGN") refl ∷∷ word (codes "TO") refl
      ∷∷ text-allowed file.assign ∷∷ none

  file-allowed : (file : FileEntry) {lines : List PrintUnit} → is_printable_file file ≡ true → AllowedLines lines → AllowedLines (file_unit program file ∷ lines)
  file-allowed file h k =
      let e = and_parts _ (if_any is_printable_place file.status) h in
      line 12 (select-allowed file (and_parts (is_printable_name file.name) _ e.0).0 +++ status-allowed file.status e.1 +++ period ∷∷ none) k

  files-allowed : (files : List FileEntry) → all (map is_printable_file files) ≡ true → AllowedLines (file_units program files)
  files-allowed [] h = no-lines
  files-allowed (file ∷ files) h =
      let e = and_parts (is_printable_file file) (all (map is_printable_file files)) h in file-allowed file e.0 (files-allowed files e.1)

  pub environment-allowed : (files : List FileEntry) → all (map is_printable_file files) ≡ true → AllowedLines (environment_units program files)
  environment-allowed [] h = no-lines
  environment-allowed (file ∷ files) h =
      header-allowed (codes "ENVIRONMENT") (codes "DIVISION") (word (codes "ENVIRONMENT") refl ∷∷ word (codes "DIVISION") refl ∷∷ none)
      (header-allowed (codes "INPUT-OUTPUT") (codes "SECTION") (word (codes "INPUT-OUTPUT") refl ∷∷ word (codes "SECTION") refl ∷∷ none)
      (line 8 (word (codes "FILE-CONTROL") refl ∷∷ period ∷∷ none) (files-allowed (file ∷ files) h)))

  -- ---- entries

  redefines-allowed : (number : Option ℕ) → AreAllowed (redefines_tokens program number)
  redefines-allowed None = none
  redefines-allowed (Some number) = word (codes "REDEFINES") refl ∷∷ names.items number ∷∷ none

  picture-tokens-allowed : (picture : Option Picture) → AreAllowed (picture_tokens picture)
  picture-tokens-allowed None = none
  picture-tokens-allowed (Some picture) = word (codes "PIC") refl ∷∷ picture-allowed (picture_text picture) ∷∷ none

  usage-allowed : (usage : Usage) → AreAllowed (usage_tokens usage)
  usage-allowed Display = none
  usage-allowed Binary = word (codes "BINARY") refl ∷∷ none
  usage-allowed Packed = word (codes "PACKED-DECIMAL") refl ∷∷ none

  sign-allowed : (sign : Sign) → AreAllowed (sign_tokens sign)
  sign-allowed Within = none
  sign-allowed SeparateLeading = word (codes "SIGN") refl ∷∷ word (codes "LEADING") refl ∷∷ word (codes "SEPARATE") refl ∷∷ none
  sign-allowed SeparateTrailing = word (codes "SIGN") refl ∷∷ word (codes "TRAILING") refl ∷∷ word (codes "SEPARATE") refl ∷∷ none

  occurs-allowed : (count : Option ℕ) → AreAllowed (occurs_tokens count)
  occurs-allowed None = none
  occurs-allowed (Some count) = word (codes "OCCURS") refl ∷∷ digits-allowed (decimal count) ∷∷ none

  value-allowed : (value : Option Operand) → if_any is_printable_operand value ≡ true → AreAllowed (value_tokens program value)
  value-allowed None h = none
  value-allowed (Some value) h = word (codes "VALUE") refl ∷∷ places.operand-allowed program names.items value h

  thru-allowed : (to : Option Operand) → if_any is_printable_operand to ≡ true → AreAllowed (thru_operand program to)
  thru-allowed None h = none
  thru-allowed (Some to) h = word (codes "THRU") refl ∷∷ places.operand-allowed program names.items to h

  span-allowed : (span : Span) → is_printable_span span ≡ true → AreAllowed (span_tokens program span)
  span-allowed span h =
      let e = and_parts (is_printable_operand span.from) (if_any is_printable_operand span.to) h in
      places.operand-allowed program names.items span.from e.0 +++ thru-allowed span.to e.1

  spans-allowed : (spans : List Span) → all (map is_printable_span spans) ≡ true → AreAllowed (spans_tokens program spans)
  spans-allowed [] h = none
  spans-allowed (span ∷ spans) h =
      let e = and_parts (is_printable_span span) (all (map is_printable_span spans)) h in span-allowed span e.0 +++ spans-allowed spans e.1

  ranges-allowed : (spans : List Span) → all (map is_printable_span spans) ≡ true → AreAllowed (ranges_tokens program spans)
  ranges-allowed [] h = none
  ranges-allowed (span ∷ spans) h = word (codes "VALUE") refl ∷∷ spans-allowed (span ∷ spans) h

  clauses-allowed : (entry : Entry) → is_printable_entry entry ≡ true → AreAllowed (clauses_tokens program entry)
  clauses-allowed entry h =
      let fine = entry-fine entry h in
      redefines-allowed entry.redefines +++ picture-tokens-allowed entry.picture +++ usage-allowed entry.usage +++ sign-allowed entry.sign +++ occurs-allowed entry.occurs
      +++ value-allowed entry.value fine.value +++ ranges-allowed entry.ranges fine.ranges

  entry-allowed : (entry : Entry) {lines : List PrintUnit} → is_printable_entry entry ≡ true → AllowedLines lines → AllowedLines (entry_unit program entry ∷ lines)
  entry-allowed entry h k =
      line (level_column entry.level)
      (digits-allowed (level_text entry.level) ∷∷ entry-name-allowed entry h ∷∷ clauses-allowed entry h +++ period ∷∷ none) k

  fd-allowed : (file : ℕ) → AllowedLines (fd_unit program file ∷ [])
  fd-allowed file = line 8 (word (codes "FD") refl ∷∷ names.files file +++ period ∷∷ none) no-lines

  section-allowed : (file : ℕ) → AllowedLines (file_section program file)
  section-allowed file = header-allowed (codes "FILE") (codes "SECTION") (word (codes "FILE") refl ∷∷ word (codes "SECTION") refl ∷∷ none) (fd-allowed file)

  storage-allowed : AllowedLines (header (codes "WORKING-STORAGE") (codes "SECTION") ∷ [])
  storage-allowed = header-allowed (codes "WORKING-STORAGE") (codes "SECTION") (word (codes "WORKING-STORAGE") refl ∷∷ word (codes "SECTION") refl ∷∷ none) no-lines

  between-allowed : (before : Option (Option ℕ)) (file : Option ℕ) → AllowedLines (headers_between program before file)
  between-allowed None None = storage-allowed
  between-allowed None (Some file) = section-allowed file
  between-allowed (Some None) None = no-lines
  between-allowed (Some None) (Some file) = section-allowed file
  between-allowed (Some (Some other)) None = storage-allowed
  between-allowed (Some (Some other)) (Some file) = go (other == file)
    where
      go : (same : Bool) → AllowedLines (if same then [] else fd_unit program file ∷ [])
      go true = no-lines
      go false = fd-allowed file

  entries-allowed : (before : Option (Option ℕ)) (entries : List Entry) → all (map is_printable_entry entries) ≡ true → AllowedLines (entries_units program before entries)
  entries-allowed before [] h = no-lines
  entries-allowed before (entry ∷ entries) h =
      let e = and_parts (is_printable_entry entry) (all (map is_printable_entry entries)) h in
      lines-beside (between-allowed before entry.file) (entry-allowed entry e.0 (entries-allowed (Some entry.file) entries e.1))

  pub data-allowed : (entries : List Entry) → all (map is_printable_entry entries) ≡ true → AllowedLines (data_units program entries)
  data-allowed [] h = no-lines
  data-allowed (entry ∷ entries) h =
      header-allowed (codes "DATA") (codes "DIVISION") (word (codes "DATA") refl ∷∷ word (codes "DIVISION") refl ∷∷ none) (entries-allowed None (entry ∷ entries) h)

  -- ---- paragraphs

  section-line-allowed : (name : Option (List ℕ)) → IfNamed name → AllowedLines (section_line name)
  section-line-allowed None h = no-lines
  section-line-allowed (Some name) h = line 8 (label-allowed name h ∷∷ word (codes "SECTION") refl ∷∷ period ∷∷ none) no-lines

  named-line-allowed : (name : Option (List ℕ)) → IfNamed name → AllowedLines (named_line name)
  named-line-allowed None h = no-lines
  named-line-allowed (Some name) h = line 8 (label-allowed name h ∷∷ period ∷∷ none) no-lines

  sentences-allowed : (sentences : List Sentence) → are_printable_sentences sentences ≡ true → AllowedLines (flat_map (sentence_units program) sentences)
  sentences-allowed [] h = no-lines
  sentences-allowed (sentence ∷ sentences) h =
      let e = and_parts (is_printable_sentence sentence) (are_printable_sentences sentences) h in
      lines-beside (ended-allowed _ (all-allowed program names sentence.stmts e.0 12 false)) (sentences-allowed sentences e.1)

  paragraph-allowed : (paragraph : Paragraph) → IsPrintableParagraph paragraph → AllowedLines (paragraph_units program paragraph)
  paragraph-allowed paragraph h =
      lines-beside (lines-beside (section-line-allowed paragraph.section h.section) (named-line-allowed paragraph.name h.name)) (sentences-allowed paragraph.sentences h.sentences)

  pub paragraphs-allowed : (paragraphs : List Paragraph) → Each IsPrintableParagraph paragraphs → AllowedLines (paragraphs_units program paragraphs)
  paragraphs-allowed [] h = no-lines
  paragraphs-allowed (paragraph ∷ paragraphs) h = lines-beside (paragraph-allowed paragraph h.0) (paragraphs-allowed paragraphs h.1)
