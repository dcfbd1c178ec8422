-- What a program that can be printed is split into can be printed.
use Rattle.std.proofs.Common.{◌≡◌, ℕ, zero, suc, ◌+◌, ◌<◌, ◌^◌, Bool, true, List, [], ◌∷◌, ◌++◌, length, map, Some, slice_get, refl, ap, sym, subst}
use Rattle.std.proofs.lemmas.Bool.{and_parts}
use Rattle.cob_tree.specs.declared.entry.Entry.{Entry}
use Rattle.cob_tree.specs.declared.file.FileEntry.{FileEntry}
use Rattle.cob_tree.specs.declared.program.Paragraph.{Paragraph}
use Rattle.cob_tree.specs.declared.program.Program.{Program}
use Rattle.cob_tree.specs.declared.program.Range.{Range}
use Rattle.cob_tree.specs.declared.program.Sentence.{Sentence}
use Rattle.control_flow_theory.specs.language.All.{all}
use Rattle.control_flow_theory.specs.language.Control.{control_of}
use Rattle.program_facts.specs.completion.FlowFacts.{flow_facts_of}
use Rattle.control_flow_theory.specs.rendering.Rendering.{Naming, Procedure, rendered}
use Rattle.control_flow_theory.specs.rendering.Procedures.{Writable}
use Rattle.control_flow_theory.proofs.rendering_lemmas.Written.{or_else}
use Rattle.control_flow_theory.specs.main_theorem.Chain.{EachStands}
use Rattle.control_flow_theory.specs.main_theorem.MainTheorem.{Plan, procedures_by}
use Rattle.pending_returns.specs.declared.facts.Summary.{Summary}
use Rattle.grammar_laws.specs.form_results.Giving.{Each}
use Rattle.program_facts.proofs.well_scoped_lemmas.Made.{both}
use Rattle.out_names.specs.Naming.{names_of}
use Rattle.out_names.specs.Words.{program_words}
use Rattle.added_items.specs.item_table.Owners.{item_kinds}
use Rattle.cobol_theory.specs.cell_serving.Entries.{entries_of}
use Rattle.cobol_theory.specs.cobol_headline.Alike.{naming_of}
use Rattle.procedure_split.proofs.made_procedures_lemmas.Rows.{beside}
use Rattle.procedure_split.specs.Splitting.{IsSplit}
use Rattle.procedure_split.specs.Writing.{added_entries}
use Rattle.procedure_split.specs.split_behaviour.Alike.{IsWellMade}
use Rattle.pending_returns.specs.FaultFree.{IsFaultFree}
use Rattle.round_trip.specs.printable.printable_tokens.Header.{IsHeaderName}
use Rattle.round_trip.specs.printable.Part.{is_printable_name}
use Rattle.round_trip.specs.printable.Statement.{are_printable_stmts, are_printable_sentences}
use Rattle.round_trip.specs.printable.Whole.{is_printable_file, is_printable_entry, IfNamed, IsPrintableParagraph, IsPrintableProgram}
use Rattle.round_trip.proofs.printable_lemmas.printable_control_lemmas.Back.{all-printable}
use Rattle.round_trip.proofs.printable_lemmas.printable_control_lemmas.Served.{paragraphs-are}
use Rattle.round_trip.proofs.printable_lemmas.printable_control_lemmas.Written.{sentence-prints}
use Rattle.round_trip.specs.printable.printable_control.Prints.{StmtsPrint}
use Rattle.end_to_end_laws.specs.results.result_bodies.Bodies.{split_rows, writing_by}
use Rattle.end_to_end_laws.specs.results.result_bodies.Laws.{SplitProgramsPrint}
use Rattle.end_to_end_laws.proofs.results_lemmas.result_bodies_lemmas.Entries.{entries-print}
use Rattle.end_to_end_laws.proofs.results_lemmas.result_bodies_lemmas.Paragraphs.{are-written}
use Rattle.end_to_end_laws.proofs.results_lemmas.result_bodies_lemmas.Standing.{split-stands}
use Rattle.end_to_end_laws.proofs.results_lemmas.result_bodies_lemmas.Words.{printing, printing-served, own_printing, takes-both, names-print}

-- ---- lists

all-append : {A : Type 0} (test : A → Bool) (xs ys : List A) → all (map test xs) ≡ true →
    all (map test ys) ≡ true → all (map test (xs ++ ys)) ≡ true
all-append test [] ys h k = k
all-append test (x ∷ xs) ys h k =
    let parts = and_parts (test x) (all (map test xs)) h in
    both parts.0 (all-append test xs ys parts.1 k)

each-at : {A : Type 0} (P : A → Type 0) (xs : List A) →
    ((at : ℕ) (x : A) → slice_get xs at ≡ Some x → P x) → Each P xs
each-at P [] here = tt
each-at P (x ∷ xs) here = (here 0 x refl, each-at P xs (λ at y is. here (suc at) y is))

of-each : {A : Type 0} (P : A → Type 0) (xs : List A) → Each P xs → (at : ℕ) (x : A) →
    slice_get xs at ≡ Some x → P x
of-each P [] each at x is = cc
of-each P (first ∷ xs) each zero x is = subst P (ap (or_else first) is) each.0
of-each P (first ∷ xs) each (suc at) x is = of-each P xs each.1 at x is

-- ---- what is made

module _ (program made : Program) (summary : Summary) (well : IsWellMade program)
    (flows : IsFaultFree program summary) (split : IsSplit program summary made)
    (few : length (program_words program)
    + length (item_kinds (split_rows program made summary split)) < 2 ^ 31)
    (names : Each IsHeaderName (names_of program split.plan.order))
    (prints : IsPrintableProgram program) where
  abbrev order : List Range
  order = split.plan.order

  abbrev plan : Plan
  plan = (split-stands program made summary well flows split).0

  abbrev naming : Naming
  naming = naming_of program (writing_by program made summary split plan)

  abbrev kinds : Writable
  kinds = own_printing program made summary split plan

  abbrev procedures : List Procedure
  procedures = procedures_by plan (control_of program)

  written : control_of made ≡ rendered naming procedures
  written = (split-stands program made summary well flows split).1.control

  stands : EachStands naming kinds procedures
  stands =
      (split-stands program made summary well flows split).2 printing kinds
      (takes-both program made summary split plan)
      (λ range. paragraphs-are naming printing printing-served
      (flow_facts_of program.files split.plan.returning) range 0 program.paragraphs prints.paragraphs)

  one-prints : (sentences : List Sentence) (sentence : Sentence) → sentences ≡ sentence ∷ [] →
      are_printable_stmts sentence.stmts ≡ true → are_printable_sentences sentences ≡ true
  one-prints sentences sentence alone h =
      subst (λ list. are_printable_sentences list ≡ true) (sym alone) (both h refl)

  sentences-print : (at : ℕ) (paragraph : Paragraph) →
      slice_get made.paragraphs at ≡ Some paragraph →
      are_printable_sentences paragraph.sentences ≡ true
  sentences-print at paragraph is =
      let found = are-written made naming procedures written at paragraph is in
      let one = found.2 in
      one-prints paragraph.sentences one.sentence one.alone
      (all-printable one.last one.sentence.stmts
      (subst StmtsPrint (sym one.seen)
      (sentence-prints naming kinds (names-print program made summary split plan) procedures
      found.0 (stands at found.0 found.1))))

  paragraph-prints : (at : ℕ) (paragraph : Paragraph) →
      slice_get made.paragraphs at ≡ Some paragraph → IsPrintableParagraph paragraph
  paragraph-prints at paragraph is =
      let result = split.written in
      let range = beside made.paragraphs order (sym result.paragraphs.count) at paragraph is in
      let closed = beside order split.closed result.many.trees at range.0 range.1 in
      let cells = beside order result.cells result.many.items at range.0 range.1 in
      let name = beside order (names_of program order) result.many.words at range.0 range.1 in
      let one = result.paragraphs.each at range.0 closed.0 cells.0 name.0 paragraph range.1
      closed.1 cells.1 name.1 is in
      record {
        name = subst IfNamed (sym one.named)
            (of-each IsHeaderName (names_of program order) names at name.0 name.1);
        section = subst IfNamed (sym one.bare) tt;
        sentences = sentences-print at paragraph is;
      }

  abbrev Files : List FileEntry → Type 0
  Files files = all (map is_printable_file files) ≡ true

  abbrev Entries : List Entry → Type 0
  Entries entries = all (map is_printable_entry entries) ≡ true

  program-prints : IsPrintableProgram made
  program-prints = record {
    name = subst (λ name. is_printable_name name ≡ true) (sym split.written.name) prints.name;
    files = subst Files (sym split.written.files) prints.files;
    entries = subst Entries (sym split.written.entries)
        (all-append is_printable_entry program.entries
        (entries_of (added_entries program order split.closed)) prints.entries
        (entries-print program (item_kinds (split_rows program made summary split)) few));
    paragraphs = each-at IsPrintableParagraph made.paragraphs paragraph-prints;
  }

pub split-prints : SplitProgramsPrint
split-prints program made summary well flows split few names prints =
    program-prints program made summary well flows split few names prints
