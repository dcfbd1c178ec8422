-- Each paragraph is what is written of the closed graph of its range, and so is the whole.
use Rattle.std.proofs.Common.{◌≡◌, ◌<◌, ℕ, List, [], ◌∷◌, map, length, Some, slice_get, refl, ap, ap₂, sym, subst, ◌∙◌}
use Rattle.cob_tree.specs.declared.program.Paragraph.{Paragraph}
use Rattle.cob_tree.specs.declared.program.Program.{Program}
use Rattle.cob_tree.specs.declared.program.Range as code
use Rattle.control_flow_theory.specs.language.Control.{control_of, seen_paragraph, seen_paragraphs, seen_sentence}
use Rattle.control_flow_theory.specs.language.Language as language
use Rattle.control_flow_theory.specs.language.Language.{Range, Main, Part}
use Rattle.control_flow_theory.specs.semantics.Graph.{Tree}
use Rattle.control_flow_theory.specs.lowering.FlowFacts.{IsSource}
use Rattle.control_flow_theory.specs.graph_rules.Reduced.{Graphs, tree_in}
use Rattle.control_flow_theory.specs.structuring.Closes.{closed_graph}
use Rattle.control_flow_theory.specs.rendering.Rendering.{Empty, Naming, Procedure, place_of, rendered, written_paragraph}
use Rattle.control_flow_theory.specs.main_theorem.Chain.{procedures_of}
use Rattle.control_flow_theory.specs.main_theorem.MainTheorem.{graphs_by, procedures_by}
use Rattle.control_flow_theory.proofs.main_theorem_lemmas.SomeResult.{every-kind}
use Rattle.region_rewrite.specs.Shaping.{first_tree}
use Rattle.meanings.specs.statements.Does.{declared_in}
use Rattle.cobol_theory.specs.added_items.Own.{items}
use Rattle.cobol_theory.proofs.cobol_parts_lemmas.Sources.{source}
use Rattle.program_points.proofs.table_building_lemmas.Sections.{seen-length}
use Rattle.procedure_split.proofs.plan_lemmas.CobolPlans.{cobol-planned}
use Rattle.branch_tree.specs.Tree.{seen_tree}
use Rattle.lowering_labels.specs.points.FallThrough.{seen_range}
use Rattle.control_flow_theory.proofs.rendering_lemmas.Written.{map-get}
use Rattle.cobol_theory.specs.cell_serving.Choosing.{written_chooser}
use Rattle.cobol_theory.specs.cell_serving.Entries.{whole_literal}
use Rattle.cobol_theory.specs.cell_serving.Naming.{cell_naming}
use Rattle.statement_builders.specs.arms.Placing.{ArePlaced}
use Rattle.statement_builders.specs.arms.Written.{naming_in}
use Rattle.body_rendering.specs.Procedure.{procedure_of}
use Rattle.cobol_theory.specs.cobol_headline.Alike.{Writing, naming_of}
use Rattle.procedure_split.proofs.shaped_ranges_lemmas.Keeping.{AreApart}
use Rattle.procedure_split.specs.made_procedures.Laws.{AreMade, MadeProceduresAreWritten}
use Rattle.procedure_split.specs.made_procedures.Made.{way_of}
use Rattle.procedure_split.proofs.made_procedures_lemmas.Alike.{stmts-alike-all}
use Rattle.procedure_split.proofs.made_procedures_lemmas.Plans.{each-stands, each-closed, entry-first}
use Rattle.procedure_split.proofs.made_procedures_lemmas.Rows.{beside, shaped-at, all-as-planned, later-apart, in-at, procedure_by, procedure-at, place-at, all-seen-as}
use Rattle.procedure_split.proofs.made_procedures_lemmas.Stays.{SentencesStay, paragraph-stays}

module _ (program result : Program) (writing : Writing) (are : AreMade program result writing) where
  abbrev control : language.Program
  control = control_of program

  abbrev graphs : Graphs
  graphs = graphs_by writing.plan control

  abbrev ranges : List Range
  ranges = Main ∷ writing.plan.others

  abbrev procedures : List Procedure
  procedures = procedures_by writing.plan control

  abbrev naming : Naming
  naming = naming_of program writing

  abbrev write : Procedure → language.Paragraph
  write = written_paragraph naming (place_of procedures)

  some : 0 < length control.paragraphs
  some = subst (λ n. 0 < n) (sym (seen-length 0 program.paragraphs)) are.flow.some

  is-source : IsSource writing.plan.told control
  is-source =
      subst (λ told. IsSource told control) (sym are.planned.told)
      (source (declared_in program) writing.returning program are.flow.items are.flow.paragraphs)

  in-order : map seen_range are.order ≡ ranges
  in-order =
      all-as-planned are.order
      ∙ (cobol-planned program are.summary writing.returning are.order are.flow.items
      are.flow.paragraphs some are.flow.flow.never are.flow.flow.is are.by).1.main
      ∙ ap (λ others. Main ∷ others) (sym are.planned.others)

  apart : AreApart ranges
  apart = later-apart writing.plan.told control ranges are.planned.planned.order

  range-at : (at : ℕ) (range : code.Range) → slice_get are.order at ≡ Some range →
      slice_get ranges at ≡ Some (seen_range range)
  range-at at range here =
      subst (λ all. slice_get all at ≡ Some (seen_range range)) in-order
      (map-get seen_range are.order at range here)

  are-placed : ArePlaced (place_of procedures) are.places
  are-placed = λ at placed is.
      place-at graphs ranges apart placed.place (Part placed.entry placed.exit)
      (range-at placed.place (record { entry = placed.entry; exit = Some placed.exit })
      (are.placed at placed is))

  named-so : (range : code.Range) → naming_in (way_of program writing range) ≡ naming
  named-so range =
      ap (λ (empty : Range → language.Picker → ℕ → Empty). cell_naming whole_literal
      (items (declared_in program)) writing.table (written_chooser whole_literal) empty)
      (sym are.empty)

  -- the tree of the one that the range's graph is shaped to
  tree-at : (at : ℕ) (range : code.Range) → slice_get are.order at ≡ Some range →
      (one : Tree) → first_tree (closed_graph (graphs (seen_range range))).nodes ≡ one →
      let closed = closed_graph (graphs (seen_range range)) in
      one ≡ tree_in closed.nodes closed.entry
  tree-at at range here one is =
      let which = seen_range range in
      let closed = each-closed naming writing.plan control is-source some are.planned.planned which
      (in-at ranges at which (range-at at range here)) in
      sym is ∙ sym (entry-first (graphs which) closed)

  paragraph-at : (at : ℕ) (range : code.Range) (paragraph : Paragraph) →
      slice_get are.order at ≡ Some range → slice_get result.paragraphs at ≡ Some paragraph →
      (last : ℕ) → seen_paragraph last paragraph ≡ write (procedure_by graphs (seen_range range))
  paragraph-at at range paragraph here there last =
      let which = seen_range range in
      let one = beside are.order are.closed are.many.trees at range here in
      let own = beside are.order are.cells are.many.items at range here in
      let name = beside are.order are.names are.many.words at range here in
      let made = are.paragraphs.each at range one.0 own.0 name.0 paragraph
      here one.1 own.1 name.1 there in
      let shaped = shaped-at are.graphs are.closed are.shaped at one.0 one.1 in
      let left = subst (λ graph. first_tree (closed_graph graph).nodes ≡ seen_tree one.0.tree)
      (are.planned.each at range shaped.0 here shaped.1) shaped.2.tree in
      let first = made.is (way_of program writing range) (are.items at range own.0 here own.1)
      are-placed refl in
      let written : (seen_sentence 0 made.sentence ∷ [] ≡ write (procedure_by graphs which)) =
      first
      ∙ ap₂ (λ by whole. written_paragraph by (place_of procedures) (procedure_of which whole))
      (named-so range) (tree-at at range here (seen_tree one.0.tree) left) in
      let stands = each-stands naming writing.plan control is-source some are.planned.planned at
      (procedure_by graphs which) (procedure-at graphs ranges at which (range-at at range here)) in
      let stays : SentencesStay (seen_sentence 0 made.sentence ∷ []) =
      subst SentencesStay (sym written)
      (paragraph-stays naming every-kind procedures (procedure_by graphs which) stands) in
      ap (map (seen_sentence last)) made.alone
      ∙ ap (λ sentence. sentence ∷ []) (stmts-alike-all last made.sentence.stmts stays.0)
      ∙ written

  all-written : control_of result ≡ rendered naming procedures
  all-written =
      let seen : seen_paragraphs 0 result.paragraphs ≡ map write procedures =
      all-seen-as graphs write 0 are.order result.paragraphs are.paragraphs.count paragraph-at
      ∙ ap (λ all. map write (procedures_of all graphs)) in-order in
      ap (λ (paragraphs : List language.Paragraph).
      (let whole : language.Program = record { paragraphs = paragraphs } in whole)) seen

pub made-written : MadeProceduresAreWritten
made-written = all-written
