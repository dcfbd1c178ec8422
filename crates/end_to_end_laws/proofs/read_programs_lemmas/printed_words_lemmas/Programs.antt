-- A program that can be printed is printed without words that are left out.
use Rattle.std.proofs.Common.{◌≡◌, ℕ, zero, suc, true, List, [], ◌∷◌, map, Option, Some, None, refl, sym, subst}
use Rattle.std.specs.Prelude.{codes, slice_get}
use Rattle.std.proofs.lemmas.Bool.{and_parts}
use Rattle.cob_tree.specs.declared.file.FileEntry.{FileEntry}
use Rattle.cob_tree.specs.declared.program.Paragraph.{Paragraph}
use Rattle.cob_tree.specs.declared.program.Program.{Program}
use Rattle.cobol_print.specs.Printed.{printed_tokens}
use Rattle.cobol_print.specs.Unit.{all_tokens}
use Rattle.cobol_print.proofs.PrintsAll.{prints_all}
use Rattle.control_flow_theory.specs.language.All.{all}
use Rattle.grammar_laws.specs.form_results.Giving.{Each}
use Rattle.program_facts.specs.well_scoped.Part.{if_any}
use Rattle.unparser.specs.File.{name_tokens, file_name, label_of, paragraph_label}
use Rattle.cobol_print.specs.declared.units.unit.PrintUnit.{PrintUnit}
use Rattle.cobol_print.specs.units.Division.{program_units}
use Rattle.round_trip.specs.printable.Part.{is_printable_name, is_printable_place}
use Rattle.round_trip.specs.printable.Whole.{is_printable_file, IfNamed, IsPrintableParagraph, IsPrintableProgram}
use Rattle.end_to_end_laws.specs.read_programs.printed_words.Laws.{NoPrintedWordIsLeftOut}
use Rattle.end_to_end_laws.proofs.read_programs_lemmas.printed_words_lemmas.Tokens.{IsAllowed, AreAllowed, none, append, word, period, printable-name, label-allowed, items-named, none-left-out, ◌∷∷◌}
use Rattle.end_to_end_laws.proofs.read_programs_lemmas.printed_words_lemmas.Statements.{IsAllowedLine, AllowedLines, HasNames, line, lines-beside}
use Rattle.end_to_end_laws.proofs.read_programs_lemmas.printed_words_lemmas.Units.{header-allowed, environment-allowed, data-allowed, paragraphs-allowed}

-- ---- names of files and paragraphs

file-named : (file : FileEntry) → is_printable_file file ≡ true → is_printable_name file.name ≡ true
file-named file h = (and_parts _ _ (and_parts _ (if_any is_printable_place file.status) h).0).0

file-at : (files : List FileEntry) (number : ℕ) → all (map is_printable_file files) ≡ true → AreAllowed (file_name (slice_get files number))
file-at [] number h = none
file-at (file ∷ files) zero h =
    printable-name file.name (file-named file (and_parts (is_printable_file file) (all (map is_printable_file files)) h).0) ∷∷ none
file-at (file ∷ files) (suc number) h = file-at files number (and_parts (is_printable_file file) (all (map is_printable_file files)) h).1

name-allowed : (name : Option (List ℕ)) → IfNamed name → AreAllowed (name_tokens name)
name-allowed None h = none
name-allowed (Some name) h = label-allowed name h ∷∷ none

paragraph-named : (name section : Option (List ℕ)) → IfNamed name → IfNamed section → AreAllowed (paragraph_label name section)
paragraph-named None section n s = name-allowed section s
paragraph-named (Some name) section n s = name-allowed (Some name) n

label-at : (paragraphs : List Paragraph) (number : ℕ) → Each IsPrintableParagraph paragraphs → AreAllowed (label_of (slice_get paragraphs number))
label-at [] number h = none
label-at (paragraph ∷ paragraphs) zero h = paragraph-named paragraph.name paragraph.section h.0.name h.0.section
label-at (paragraph ∷ paragraphs) (suc number) h = label-at paragraphs number h.1

has-names : (program : Program) → IsPrintableProgram program → HasNames program
has-names program h = record {
  items = items-named program h.entries;
  files = λ number. file-at program.files number h.files;
  labels = λ number. label-at program.paragraphs number h.paragraphs;
}

-- ---- all of it

units-allowed : (program : Program) → IsPrintableProgram program → AllowedLines (program_units program)
units-allowed program h =
    let names = has-names program h in
    header-allowed (codes "IDENTIFICATION") (codes "DIVISION") (word (codes "IDENTIFICATION") refl ∷∷ word (codes "DIVISION") refl ∷∷ none)
    (line 8 (word (codes "PROGRAM-ID") refl ∷∷ period ∷∷ printable-name program.name h.name ∷∷ period ∷∷ none)
    (lines-beside (lines-beside (environment-allowed program names program.files h.files) (data-allowed program names program.entries h.entries))
    (header-allowed (codes "PROCEDURE") (codes "DIVISION") (word (codes "PROCEDURE") refl ∷∷ word (codes "DIVISION") refl ∷∷ none)
    (paragraphs-allowed program names program.paragraphs h.paragraphs))))

all-tokens : (units : List PrintUnit) → Each IsAllowedLine units → Each IsAllowed (all_tokens units)
all-tokens [] h = tt
all-tokens (unit ∷ units) h = append IsAllowed unit.tokens (all_tokens units) h.0 (all-tokens units h.1)

pub no_printed_word_is_left_out : NoPrintedWordIsLeftOut
no_printed_word_is_left_out program h =
    let units = program_units program in
    none-left-out (printed_tokens 0 units) (subst (λ tokens. Each IsAllowed tokens) (sym (prints_all 0 units)) (all-tokens units (units-allowed program h).allowed))
