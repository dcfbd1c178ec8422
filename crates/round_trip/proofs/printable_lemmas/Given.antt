-- A program that can be printed is given.
use Rattle.std.proofs.Common.{◌≡◌, ℕ, zero, suc, Bool, true, false, List, [], ◌∷◌, map, Option, Some, None}
use Rattle.std.specs.Prelude.{All, slice_get}
use Rattle.std.proofs.lemmas.Bool.{and_parts}
use Rattle.std.proofs.lemmas.List.Elements.{All-nil, All-cons}
use Rattle.cob_tree.specs.declared.file.FileEntry.{FileEntry}
use Rattle.cob_tree.specs.declared.program.Paragraph.{Paragraph}
use Rattle.cob_tree.specs.declared.program.Program.{Program}
use Rattle.cob_tree.specs.declared.program.Sentence.{Sentence}
use Rattle.control_flow_theory.specs.language.All.{all}
use Rattle.program_facts.specs.well_scoped.Part.{if_any}
use Rattle.grammar_laws.specs.form_results.Giving.{Each}
use Rattle.unparser.specs.File.{name_tokens, file_name, label_of, paragraph_label}
use Rattle.cobol_print.specs.Given.{IsGivenFile, IsGivenEntry, IsGivenSentence, IsGivenParagraph}
use Rattle.round_trip.proofs.printable_lemmas.Free.{label-free}
use Rattle.round_trip.specs.printable.Part.{is_printable_name, is_printable_place}
use Rattle.round_trip.specs.printable.Statement.{is_printable_sentence}
use Rattle.round_trip.specs.printable.Whole.{is_printable_file, is_printable_entry, IfNamed, IsPrintableParagraph, IsPrintableProgram}
use Rattle.round_trip.specs.printable.Laws.{PrintableProgramsAreGiven}
use Rattle.round_trip.proofs.printable_lemmas.Tokens.{Fits, none, printable-name, items-named, ◌∷∷◌}
use Rattle.round_trip.proofs.printable_lemmas.Statements.{HasNames, all-given}
use Rattle.round_trip.proofs.printable_lemmas.Entries.{file-given, entry-given}

-- ---- names of files and paragraphs

file-named : (file : FileEntry) → is_printable_file file ≡ true → is_printable_name file.name ≡ true
file-named file h = (and_parts _ _ (and_parts _ (if_any is_printable_place file.status) h).0).0

file-at : (files : List FileEntry) (number : ℕ) → all (map is_printable_file files) ≡ true → Fits (file_name (slice_get files number))
file-at [] number h = none
file-at (file ∷ files) zero h =
    printable-name file.name (file-named file (and_parts (is_printable_file file) (all (map is_printable_file files)) h).0) ∷∷ none
file-at (file ∷ files) (suc number) h = file-at files number (and_parts (is_printable_file file) (all (map is_printable_file files)) h).1

name-free : (name : Option (List ℕ)) → IfNamed name → Fits (name_tokens name)
name-free None h = none
name-free (Some name) h = record { free = label-free name h } ∷∷ none

paragraph-free : (name section : Option (List ℕ)) → IfNamed name → IfNamed section → Fits (paragraph_label name section)
paragraph-free None section n s = name-free section s
paragraph-free (Some name) section n s = name-free (Some name) n

label-at : (paragraphs : List Paragraph) (number : ℕ) → Each IsPrintableParagraph paragraphs → Fits (label_of (slice_get paragraphs number))
label-at [] number h = none
label-at (paragraph ∷ paragraphs) zero h = paragraph-free paragraph.name paragraph.section h.0.name h.0.section
label-at (paragraph ∷ paragraphs) (suc number) h = label-at paragraphs number h.1

has-names : (program : Program) → IsPrintableProgram program → HasNames program
has-names program h = record {
  items = items-named program h.entries;
  files = λ number. file-at program.files number h.files;
  labels = λ number. label-at program.paragraphs number h.paragraphs;
}

-- ---- each of a list

each-passes : {A : Type 0} (test : A → Bool) (P : A → Type 0) → ((x : A) → test x ≡ true → P x) → (list : List A) → all (map test list) ≡ true → All P list
each-passes test P h [] e = All-nil P
each-passes test P h (x ∷ list) e =
    let k = and_parts (test x) (all (map test list)) e in All-cons P x list (h x k.0) (each-passes test P h list k.1)

module _ (program : Program) (names : HasNames program) where
  sentence-given : (sentence : Sentence) → is_printable_sentence sentence ≡ true → IsGivenSentence program sentence
  sentence-given sentence h = (all-given program names sentence.stmts h 12 false).given

  paragraph-given : (paragraph : Paragraph) → IsPrintableParagraph paragraph → IsGivenParagraph program paragraph
  paragraph-given paragraph h = record {
    section = (name-free paragraph.section h.section).free;
    name = (name-free paragraph.name h.name).free;
    sentences = each-passes is_printable_sentence (IsGivenSentence program) sentence-given paragraph.sentences h.sentences;
  }

  paragraphs-given : (paragraphs : List Paragraph) → Each IsPrintableParagraph paragraphs → All (IsGivenParagraph program) paragraphs
  paragraphs-given [] h = All-nil (IsGivenParagraph program)
  paragraphs-given (paragraph ∷ paragraphs) h =
      All-cons (IsGivenParagraph program) paragraph paragraphs (paragraph-given paragraph h.0) (paragraphs-given paragraphs h.1)

pub printable_programs_are_given : PrintableProgramsAreGiven
printable_programs_are_given program h =
    let names = has-names program h in
    record {
      name = (printable-name program.name h.name).free;
      files = each-passes is_printable_file (IsGivenFile program) (file-given program names) program.files h.files;
      entries = each-passes is_printable_entry (IsGivenEntry program) (entry-given program names) program.entries h.entries;
      paragraphs = paragraphs-given program names program.paragraphs h.paragraphs;
    }
