-- A program that is read is proper.
use Rattle.std.proofs.Common.{◌≡◌, true, List, [], ◌∷◌, refl, subst}
use Rattle.cob_tree.specs.declared.entry.Entry.{Entry}
use Rattle.cob_tree.specs.declared.program.Program.{Program}
use Rattle.meanings.specs.statements.Does.{declared_in}
use Rattle.cobol_theory.specs.added_items.Laying.{begins_with_item}
use Rattle.cobol_theory.specs.added_items.Own.{items}
use Rattle.cobol_theory.specs.added_items.Within.{files_within}
use Rattle.cobol_theory.proofs.added_items_lemmas.Layouts.{inside-of}
use Rattle.cobol_theory.specs.cobol_headline.Alike.{IsProper}
use Rattle.program_facts.specs.well_scoped.Named.{counts_of}
use Rattle.grammar_laws.specs.well_scoped.named_entries.Entries as named
use Rattle.end_to_end_laws.specs.read_programs.named_reading.Named.{IsNamed}
use Rattle.control_flow_theory.specs.language.OwnItems.{NamesOwnItems}
use Rattle.cobol_theory.proofs.own_paragraphs_lemmas.OwnParagraphs.{paragraphs-own}
use Rattle.end_to_end_laws.proofs.read_programs_lemmas.proper_programs_lemmas.Within.{files-within, entries-within}

begins : (entries : List Entry) → named.begins_with_item entries ≡ true → begins_with_item entries ≡ true
begins [] e = refl
begins (entry ∷ entries) e = e

pub proper : (program : Program) → IsNamed program → NamesOwnItems program → IsProper program
proper program named own_items =
    let first = begins program.entries named.entries.begins in
    record {
      own_items = own_items;
      own_paragraphs = paragraphs-own (counts_of program) program.paragraphs named.own.statements;
      begins = first;
      levels = named.entries.levels;
      values = entries-within (items (declared_in program)) program.entries named.entries.values;
      statuses = subst (λ count. files_within count program.files ≡ true) (inside-of program.entries first).0 (files-within (counts_of program) program.files named.files);
    }
