-- A printed program unfolds, and has the tokens of its units.
use Rattle.std.proofs.Common.{◌≤◌, inl, inr, ℕ, false, List, [], ◌∷◌, ◌++◌, length, None, refl, subst, append-nil}
use Rattle.std.specs.Prelude.{codes}
use Rattle.cob_tree.specs.declared.entry.Entry.{Entry}
use Rattle.cob_tree.specs.declared.file.FileEntry.{FileEntry}
use Rattle.cob_tree.specs.declared.program.Paragraph.{Paragraph}
use Rattle.cob_tree.specs.declared.program.Program.{Program}
use Rattle.ref_format.specs.Laws.{RowsAreRead}
use Rattle.cobol_lex.specs.Laws.{LaidReadsBack}
use Rattle.cobol_lex.specs.declared.awaits.Awaits.TheVariants as awaits
use Rattle.cobol_lex.specs.declared.token.TokenKind.TheVariants as kind
use Rattle.cobol_print.specs.units.Unit.{unit_at, header}
use Rattle.cobol_print.specs.units.Division.{program_id, file_units, environment_units, entries_units, data_units, paragraphs_units, procedure_units, program_units}
use Rattle.cobol_print.specs.Line.{lines_of, NoEntryRow}
use Rattle.cobol_print.specs.Unit.{all_tokens, AreLawfulKinds}
use Rattle.cobol_print.specs.Laws.{ProgramsUnfold}
use Rattle.cobol_print.proofs.GivenLemmas.{AreGood, program-good}
use Rattle.cobol_print.proofs.HeadsBeginNoEntry.{heads_begin_no_entry}
use Rattle.cobol_print.proofs.PrintedReadsBack as units

-- the first lines of a program begin no comment entry, whatever divisions it has
head-lines : (program : Program) (name : List ℕ) (files : List FileEntry) (entries : List Entry) (paragraphs : List Paragraph) → length name ≤ 30 →
    NoEntryRow false (lines_of (header (codes "IDENTIFICATION") (codes "DIVISION") ∷ program_id name
    ∷ (environment_units program files ++ data_units program entries ++ procedure_units program paragraphs)))
head-lines program name (file ∷ files) entries paragraphs short =
    heads_begin_no_entry name (codes "ENVIRONMENT")
    ((header (codes "INPUT-OUTPUT") (codes "SECTION") ∷ unit_at 8 (kind.Word (codes "FILE-CONTROL") ∷ kind.Period ∷ []) ∷ file_units program (file ∷ files))
    ++ data_units program entries ++ procedure_units program paragraphs) short (inl refl)
head-lines program name [] (entry ∷ entries) paragraphs short =
    heads_begin_no_entry name (codes "DATA")
    (entries_units program None (entry ∷ entries) ++ procedure_units program paragraphs) short (inr (inl refl))
head-lines program name [] [] paragraphs short =
    heads_begin_no_entry name (codes "PROCEDURE") (paragraphs_units program paragraphs) short (inr (inr refl))

module _ (rows_read : RowsAreRead) (laid_reads_back : LaidReadsBack) where
  pub programs_unfold : ProgramsUnfold
  programs_unfold program given =
      let good : AreGood (program_units program) = program-good program given in
      let lawful : AreLawfulKinds awaits.Any (all_tokens (program_units program)) =
      subst (AreLawfulKinds awaits.Any) (append-nil (all_tokens (program_units program))) (good.steady [] tt) in
      units.printed_reads_back rows_read laid_reads_back (program_units program) good.are lawful
      (head-lines program program.name program.files program.entries program.paragraphs given.name.0.0.word.short)
