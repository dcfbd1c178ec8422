-- The names of procedures, over the words of a program.
use Rattle.std.proofs.Common.{ℕ, List, [], length, arith}
use Rattle.cob_tree.specs.declared.program.Program.{Program}
use Rattle.cob_tree.specs.declared.program.Range.{Range}
use Rattle.grammar_laws.specs.form_results.Giving.{Each}
use Rattle.out_names.specs.Naming.{names_of}
use Rattle.out_names.specs.Words.{program_words, table_of}
use Rattle.out_names.proofs.FreshLemmas.{IsBehind}
use Rattle.round_trip.specs.printable.printable_tokens.Header.{IsHeaderName}
use Rattle.round_trip.proofs.declarations_lemmas.fresh_items_lemmas.Program.{with-words-few}
use Rattle.round_trip.specs.printable.Whole.{IsPrintableProgram}
use Rattle.round_trip.specs.procedures.Names.{AreDifferent, IsTitle}
use Rattle.round_trip.specs.procedures.Outline.{HasProcedures}
use Rattle.end_to_end_laws.specs.results.result_procedures.Laws.{AreFew, ProcedureNamesAreTitles, ProcedureNamesArePrintable}
use Rattle.end_to_end_laws.proofs.results_lemmas.result_procedures_lemmas.Stem.{numbered-printable, numbered-title}
use Rattle.end_to_end_laws.proofs.results_lemmas.result_procedures_lemmas.Labels.{label-there, same-entry, label-title, label-printable}
use Rattle.end_to_end_laws.proofs.results_lemmas.result_procedures_lemmas.Different.{Few, each-is, all-different}

module _ (program : Program) (order : List Range) (few : AreFew program (length order)) where
  abbrev words : List (List ℕ)
  words = table_of (program_words program)

  fewer : Few words program.paragraphs 0 order
  fewer = let e = with-words-few [] (program_words program) in omega (arith, few, e)

  first : IsBehind words 0 1
  first = record { counted = omega arith; small = omega arith }

  different : HasProcedures program → AreDifferent (names_of program order)
  different H = all-different words program.paragraphs (same-entry program.paragraphs H.different) (label-there program) 0 1 [] order fewer first

  titles : HasProcedures program → Each IsTitle (names_of program order)
  titles H = each-is words program.paragraphs IsTitle (label-title program.paragraphs H.titled) numbered-title 0 1 [] order fewer first

  printable : IsPrintableProgram program → Each IsHeaderName (names_of program order)
  printable P = each-is words program.paragraphs IsHeaderName (label-printable program.paragraphs P.paragraphs) numbered-printable 0 1 [] order fewer first

pub names-titles : ProcedureNamesAreTitles
names-titles program order H few = record { titled = titles program order few H; different = different program order few H }

pub names-printable : ProcedureNamesArePrintable
names-printable program order P few = printable program order few P
