-- The paragraphs that a program is split into nest as their bodies are judged to.
use Rattle.std.proofs.Common.{◌≡◌, ◌≤◌, ◌<◌, ◌+◌, ℕ, suc, max, Bool, true, false, List, [], ◌∷◌, map, length, Option, Some, None, slice_get, refl, ap, sym, ◌∙◌, subst, arith}
use Rattle.cob_tree.specs.Depth.{largest, paragraph_depth, program_depth}
use Rattle.cob_tree.specs.declared.program.Paragraph.{Paragraph}
use Rattle.cob_tree.specs.declared.program.Program.{Program}
use Rattle.cob_tree.specs.declared.program.Range as code
use Rattle.control_flow_theory.specs.language.Control.{control_of, seen_sentence}
use Rattle.control_flow_theory.specs.language.Language.{Range, Main, Part}
use Rattle.control_flow_theory.specs.semantics.Graph.{Tree, body_of}
use Rattle.control_flow_theory.specs.graph_rules.Reduced.{Graphs}
use Rattle.control_flow_theory.specs.rendering.Rendering.{place_of, written_paragraph}
use Rattle.control_flow_theory.proofs.rendering_lemmas.Written.{map-get}
use Rattle.control_flow_theory.specs.main_theorem.Chain.{procedures_of}
use Rattle.program_facts.specs.completion.FlowFacts.{flow_facts_of}
use Rattle.program_points.proofs.table_building_lemmas.Sections.{seen-length}
use Rattle.pending_returns.specs.declared.facts.Summary.{Summary}
use Rattle.procedure_split.specs.plan.Laws.{IsPlannedByPaths, others_of}
use Rattle.procedure_split.proofs.plan_lemmas.CobolPlans.{cobol-planned}
use Rattle.branch_tree.specs.Tree.{seen_tree}
use Rattle.lowering_labels.specs.points.FallThrough.{seen_range}
use Rattle.region_rewrite.specs.written_nesting.Nesting.{nesting}
use Rattle.cob_base.specs.Limit.{max_nesting}
use Rattle.cobol_theory.specs.cell_serving.Table.{CellTable}
use Rattle.statement_builders.specs.arms.Placing.{ArePlaced}
use Rattle.statement_builders.specs.arms.Written.{Way, naming_in}
use Rattle.statement_builders.specs.declared.arms.placing.ProcedurePlace.{ProcedurePlace}
use Rattle.statement_builders.specs.item_words.Words.{AreItems}
use Rattle.statement_builders.specs.declared.item_words.cells.CellItem.{CellItem}
use Rattle.body_rendering.specs.Procedure.{is_main, procedure_of}
use Rattle.procedure_split.specs.shaped_ranges.Laws.{HasFlow}
use Rattle.procedure_split.proofs.shaped_ranges_lemmas.Keeping.{AreApart}
use Rattle.procedure_split.specs.made_procedures.Made.{IsParagraphOf, ArePlacesIn}
use Rattle.procedure_split.proofs.made_procedures_lemmas.Rows.{beside, shaped-at, all-as-planned, later-apart, place-at}
use Rattle.procedure_split.specs.Splitting.{IsSplit}
use Rattle.procedure_split.specs.written_depth.Levels.{paragraph_levels}
use Rattle.procedure_split.proofs.written_depth_lemmas.Seen.{paragraph-agrees}
use Rattle.procedure_split.proofs.written_depth_lemmas.Whole.{paragraph-below}
use Rattle.procedure_split.specs.split_depth.Arms.{StmtsHaveArms, ClosedHaveArms}
use Rattle.procedure_split.proofs.split_depth_lemmas.Fitting.{leaves, stmts-fit}

-- ---- a way with these items

abbrev item_in : Option CellItem → ℕ
item_in None = 0
item_in (Some found) = found.item

abbrev most_in : Option CellItem → ℕ
most_in None = 0
most_in (Some found) = found.most

abbrev ends_in : Option CellItem → Bool
ends_in None = false
ends_in (Some found) = found.ends_in_other

module _ (own : List CellItem) (place : Range → ℕ) (range : Range) where
  abbrev table : CellTable
  table = record {
    stands = λ range cell. true;
    changes = λ range cell. true;
    item = λ range cell. item_in (slice_get own cell);
    digits = λ range cell. 1;
    signed = λ range cell. false;
    most = λ range cell. most_in (slice_get own cell);
    ends_in_other = λ range cell. ends_in (slice_get own cell);
  }

  abbrev way : Way
  way = record { first = 0; table = table; place = place; range = range }

  are-items : AreItems way own
  are-items = record {
    item = λ cell found is.
        let e : item_in (slice_get own cell) ≡ found.item = ap item_in is in
        let h : 0 + item_in (slice_get own cell) ≡ found.item = omega (arith, e) in
        h;
    ends = λ cell found is. ap ends_in is;
    most = λ cell found is. ap most_in is;
  }

  -- the paragraph of a range nests as its body is judged to
  paragraph-within : (places : List ProcedurePlace) → ArePlaced place places → (whole : Tree)
      (name : List ℕ) (made : Paragraph) → IsParagraphOf own places (is_main range) whole name made →
      StmtsHaveArms (body_of whole) → (limit : ℕ) → nesting (body_of whole) ≤ limit →
      paragraph_depth made ≤ limit
  paragraph-within places placed whole name made is arms limit within =
      let sees : map (seen_sentence 0) made.sentences
      ≡ written_paragraph (naming_in way) place (procedure_of range whole) =
      ap (map (seen_sentence 0)) is.alone ∙ is.is way are-items placed refl in
      subst (λ n. n ≤ limit)
      (sym (paragraph-agrees 0 made.sentences ∙ ap paragraph_levels sees))
      (paragraph-below (naming_in way) place limit (procedure_of range whole) (record {
        leaves = leaves way;
        fits = stmts-fit way (body_of whole) arms;
        within = within;
      }))

-- ---- the places of a plan's ranges

abbrev no_graphs : Graphs
no_graphs range = record { entry = 0; nodes = []; added = [] }

module _ (order : List code.Range) (apart : AreApart (map seen_range order)) where
  abbrev placing : Range → ℕ
  placing = place_of (procedures_of (map seen_range order) no_graphs)

  are-placed : (places : List ProcedurePlace) → ArePlacesIn order places → ArePlaced placing places
  are-placed places are = λ at placed is.
      place-at no_graphs (map seen_range order) apart placed.place (Part placed.entry placed.exit)
      (map-get seen_range order placed.place
      (record { entry = placed.entry; exit = Some placed.exit }) (are at placed is))

-- ---- all paragraphs

all-within : (limit : ℕ) (paragraphs : List Paragraph) →
    ((at : ℕ) (one : Paragraph) → slice_get paragraphs at ≡ Some one → paragraph_depth one ≤ limit) →
    largest (map paragraph_depth paragraphs) ≤ limit
all-within limit [] each = omega (arith)
all-within limit (paragraph ∷ paragraphs) each =
    let a = paragraph_depth paragraph in
    let b = largest (map paragraph_depth paragraphs) in
    let here : a ≤ limit = each 0 paragraph refl in
    let behind : b ≤ limit =
    all-within limit paragraphs (λ at one is. each (suc at) one is) in
    let all : max a b ≤ limit = omega (arith, here, behind) in
    all

module _ (program made : Program) (summary : Summary) (flow : HasFlow program summary)
    (split : IsSplit program summary made) where
  abbrev order : List code.Range
  order = split.plan.order

  some : 0 < length (control_of program).paragraphs
  some = subst (λ n. 0 < n) (sym (seen-length 0 program.paragraphs)) flow.some

  planned : IsPlannedByPaths (flow_facts_of program.files split.plan.returning) (control_of program) split.plan.returning order
  planned =
      (cobol-planned program summary split.plan.returning order flow.items flow.paragraphs some
      flow.flow.never flow.flow.is split.plan.is).1

  apart : AreApart (map seen_range order)
  apart =
      subst AreApart (sym (all-as-planned order ∙ planned.main))
      (later-apart (flow_facts_of program.files split.plan.returning) (control_of program)
      (Main ∷ others_of order) planned.later)

  pub split-within : ClosedHaveArms split.closed → program_depth made ≤ max_nesting
  split-within have =
      all-within max_nesting made.paragraphs (λ at paragraph there.
      let written = split.written in
      let range = beside made.paragraphs order (sym written.paragraphs.count) at paragraph there in
      let one = beside order split.closed written.many.trees at range.0 range.1 in
      let own = beside order written.cells written.many.items at range.0 range.1 in
      let name = beside order _ written.many.words at range.0 range.1 in
      let is = written.paragraphs.each at range.0 one.0 own.0 name.0 paragraph
      range.1 one.1 own.1 name.1 there in
      let shaped = shaped-at split.graphs split.closed split.shaped at one.0 one.1 in
      let within = subst (λ tree. nesting (body_of tree) ≤ max_nesting) shaped.2.tree
      shaped.2.within in
      paragraph-within own.0 (placing order apart) (seen_range range.0) written.places
      (are-placed order apart written.places written.placed) (seen_tree one.0.tree) name.0
      paragraph is (have at one.0 one.1) max_nesting within)
