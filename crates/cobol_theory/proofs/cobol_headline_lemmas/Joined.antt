-- The headline over control, with COBOL's parts and items.
use Rattle.std.proofs.Common.{sym, subst}
use Rattle.cob_tree.specs.declared.program.Program.{Program}
use Rattle.control_flow_theory.specs.language.Control.{control_of}
use Rattle.control_flow_theory.specs.language.Language as language
use Rattle.control_flow_theory.specs.language.Structured.{IsStructuredControl}
use Rattle.control_flow_theory.specs.lowering.FlowFacts.{IsTold, IsSource}
use Rattle.control_flow_theory.specs.semantics.Structural.{structural}
use Rattle.control_flow_theory.specs.semantics_agree.Same as meanings
use Rattle.control_flow_theory.specs.main_theorem.CallsReached.{GivesSome}
use Rattle.control_flow_theory.specs.main_theorem.MainTheorem.{Parts, CanBeRestructured, PartsAgree, written_by, source_of, result_of}
use Rattle.control_flow_theory.proofs.main_theorem_lemmas.Whole.{written-behaves}
use Rattle.cobol_theory.proofs.cobol_parts_lemmas.Skips.{skips}
use Rattle.cobol_theory.proofs.cobol_parts_lemmas.Gives.{chooses}
use Rattle.cobol_theory.proofs.cobol_parts_lemmas.Sources.{source}
use Rattle.cobol_theory.proofs.cobol_parts_lemmas.SomeArm.{gives-some}
use Rattle.cobol_theory.specs.cobol_meaning.Acting.{Memory, acting}
use Rattle.cobol_theory.specs.cobol_meaning.Runs.{Files, files_left, first_memory, doing_in}
use Rattle.cobol_theory.specs.cobol_meaning.Same.{SameBehaviour}
use Rattle.meanings.specs.statements.Does.{declared_in}
use Rattle.meanings.specs.statements.Filing.{Declared}
use Rattle.cobol_theory.specs.added_items.Widened.{AddedItems, declared_beside, IsWhole}
use Rattle.cobol_theory.proofs.added_items_lemmas.Layouts.{inside-of}
use Rattle.cobol_theory.specs.cell_serving.Choosing.{written_chooser}
use Rattle.cobol_theory.specs.cell_serving.Entries.{whole_literal, added_to, AreDeclared}
use Rattle.cobol_theory.specs.cell_serving.Table.{Carries}
use Rattle.cobol_theory.proofs.cell_serving_lemmas.Entries.{are-literals, are-declared}
use Rattle.cobol_theory.proofs.cell_serving_lemmas.Serving.{serves}
use Rattle.cobol_theory.proofs.cell_serving_lemmas.Tested.{of-kinds}
use Rattle.cobol_theory.specs.cobol_headline.Alike.{IsProper, Writing, naming_of, writable_of, CanBeWritten, IsWrittenOf}

module _ (program result : Program) (writing : Writing) (proper : IsProper program) (can : CanBeWritten program writing) (is : IsWrittenOf program result writing) where
  abbrev declared : Declared
  declared = declared_in program

  abbrev added : AddedItems
  added = added_to program writing.cells

  abbrev beside : Declared
  beside = declared_beside added declared

  items-are : AreDeclared program result writing.cells writing.table
  items-are = are-declared program result writing.cells writing.table proper.begins proper.levels is.files is.entries can.entries

  whole : IsWhole declared
  whole =
      let inside = inside-of program.entries proper.begins in
      record { sized = inside.0; inside = inside.1; values = proper.values; statuses = proper.statuses }

  abbrev parts : Parts Memory Memory Files Files
  parts = record {
    acting = acting declared;
    left = files_left;
    first = first_memory declared;
    result = acting beside;
    other_left = files_left;
    other_first = first_memory beside;
    naming = naming_of program writing;
    kinds = writable_of program writing;
  }

  can-be : CanBeRestructured writing.plan (control_of program)
  can-be = record {
    source = subst (λ told. IsSource told (control_of program)) (sym can.told) (source declared writing.returning program proper.own_items proper.own_paragraphs);
    some = can.some;
    fair = can.fair;
    chooses = subst GivesSome (sym can.told) (gives-some declared writing.returning);
    planned = can.planned;
    called = can.called;
  }

  agree : PartsAgree (Carries declared writing.table) parts writing.plan (control_of program)
  agree = record {
    told = subst (λ told. IsTold told (acting declared)) (sym can.told) (record { skips = skips declared; chooses = chooses declared });
    serves =
        serves declared added writing.table whole_literal (written_chooser whole_literal) writing.empty (writable_of program writing)
        whole items-are.apart items-are.items are-literals (of-kinds declared added writing.table whole_literal are-literals) items-are.starts;
    cells = can.cells;
    stand = can.parts;
  }

  over-control : IsStructuredControl (written_by parts writing.plan (control_of program))
      × meanings.SameBehaviour (source_of parts (control_of program)) (result_of parts (written_by parts writing.plan (control_of program)))
  over-control = written-behaves (Carries declared writing.table) parts writing.plan (control_of program) can-be agree

  -- the result runs over what it declares, and its control is what is written
  abbrev Behaves : Declared → language.Program → Type 0
  Behaves wide control = meanings.SameBehaviour (source_of parts (control_of program)) (λ files. structural (doing_in wide) files_left control (first_memory wide files))

  behaves : Behaves (declared_in result) (control_of result)
  behaves =
      subst (λ wide. Behaves wide (control_of result)) (sym items-are.declared)
      (subst (Behaves beside) (sym is.control) over-control.1)

  same : SameBehaviour program result
  same = record {
    units_per_step = behaves.units_per_step;
    steps_per_unit = behaves.steps_per_unit;
    there = behaves.there;
    back = behaves.back;
  }

  pub alike : IsStructuredControl (control_of result) × SameBehaviour program result
  alike = (subst IsStructuredControl (sym is.control) over-control.0, same)
