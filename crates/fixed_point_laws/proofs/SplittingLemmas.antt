-- What a program is split into is split into itself.
use Rattle.std.proofs.Common.{◌≡◌, ℕ, zero, suc, ◌<◌, List, [], ◌∷◌, ◌++◌, length, map, Some, refl, ap, ap₂, sym, ◌∙◌, subst, arith}
use Rattle.std.specs.Prelude.{slice_get}
use Rattle.std.proofs.lemmas.List.{append-nil}
use Rattle.cob_tree.specs.declared.entry.Entry.{Entry}
use Rattle.cob_tree.specs.declared.file.FileEntry.{FileEntry}
use Rattle.cob_tree.specs.declared.program.Paragraph.{Paragraph}
use Rattle.cob_tree.specs.declared.program.Program.{Program}
use Rattle.control_flow_theory.specs.language.Control.{control_of}
use Rattle.control_flow_theory.specs.language.Language as language
use Rattle.control_flow_theory.specs.language.Language.{Range, Main}
use Rattle.control_flow_theory.specs.language.Own.{OwnParagraphs}
use Rattle.control_flow_theory.specs.language.Structured.{IsStructuredControl}
use Rattle.control_flow_theory.specs.graph_rules.Reduced.{Graph, Graphs}
use Rattle.control_flow_theory.specs.semantics.Graph.{tree}
use Rattle.control_flow_theory.specs.structuring.Closes.{closed_graph}
use Rattle.control_flow_theory.specs.rendering.Rendering.{Naming, Procedure, place_of, written_paragraph, written_stmts}
use Rattle.control_flow_theory.specs.main_theorem.MainTheorem.{Plan, graphs_by, procedures_by}
use Rattle.control_flow_theory.proofs.language_lemmas.Losing.{control-loses_nothing}
use Rattle.meanings.specs.statements.Does.{declared_in}
use Rattle.cobol_theory.specs.added_items.Own.{items}
use Rattle.cobol_theory.specs.cell_serving.Entries.{entries_of}
use Rattle.statement_builders.specs.arms.Written.{Way}
use Rattle.out_names.specs.Naming.{names_of}
use Rattle.out_names.specs.Words.{program_words, table_of}
use Rattle.added_items.specs.item_table.Owners.{item_kinds}
use Rattle.added_items.specs.item_table.Laws.{cell_range, closed_ranges}
use Rattle.added_items.specs.item_table.Row.{CellRange}
use Rattle.lowering_labels.specs.points.FallThrough.{seen_range}
use Rattle.program_points.specs.numbering.Kind.{never_first_of}
use Rattle.pending_returns.specs.Summary.{IsSummary}
use Rattle.pending_returns.specs.declared.facts.Summary.{Summary}
use Rattle.procedure_split.specs.Counting.{counts_of}
use Rattle.procedure_split.specs.Rows.{rows_of}
use Rattle.procedure_split.specs.Splitting.{IsSplit}
use Rattle.procedure_split.specs.Writing.{added_entries}
use Rattle.procedure_split.specs.shaped_ranges.Laws.{IsPlannedWith}
use Rattle.procedure_split.specs.split_behaviour.Alike.{IsWellMade}
use Rattle.pending_returns.specs.FaultFree.{IsFaultFree}
use Rattle.procedure_split.proofs.made_procedures_lemmas.Rows.{beside, in-at}
use Rattle.procedure_split.proofs.split_behaviour_lemmas.Joined as joined
use Rattle.procedure_split.proofs.one_split_lemmas.Owned.{rendered-own}
use Rattle.procedure_split.proofs.one_split_lemmas.Written.{lists-same, paragraph-same, statements-at}
use Rattle.fixed_point.specs.Fixed.{result_by}
use Rattle.fixed_point_laws.specs.Splitting.{SplitsComeAgain, SplitsKeepControl}
use Rattle.fixed_point_laws.proofs.AddingLemmas.{count-nothing, add-nothing}
use Rattle.fixed_point_laws.proofs.AgainLemmas as first
use Rattle.fixed_point_laws.proofs.AgainLemmas.{PlannedAgain}
use Rattle.fixed_point_laws.proofs.FaultlessLemmas.{are-faultless}
use Rattle.fixed_point_laws.proofs.PlacingLemmas.{names-again}

-- ---- lists

map-back : {A B : Type 0} → (f : A → B) (xs : List A) (n : ℕ) (y : B) → slice_get (map f xs) n ≡ Some y → (x : A) × (slice_get xs n ≡ Some x) × (f x ≡ y)
map-back f [] n y e = absurd (let k : ⊥ = cc in k)
map-back f (x ∷ xs) zero y e = (x, refl, let k : f x ≡ y = cc in k)
map-back f (x ∷ xs) (suc n) y e = map-back f xs n y e

within-list : {A : Type 0} → (xs : List A) (n : ℕ) (x : A) → slice_get xs n ≡ Some x → n < length xs
within-list [] n x e = absurd (let k : ⊥ = cc in k)
within-list (y ∷ xs) zero x e = omega arith
within-list (y ∷ xs) (suc n) x e = (let k = within-list xs n x e in omega (arith, k))

in-list : {A : Type 0} → (xs : List A) (n : ℕ) → n < length xs → (x : A) × (slice_get xs n ≡ Some x)
in-list [] n lt = absurd (omega (arith, lt))
in-list (x ∷ xs) zero lt = (x, refl)
in-list (x ∷ xs) (suc n) lt = in-list xs n (omega (arith, lt))

module _ (program made twice : Program) (summary other : Summary) (well : IsWellMade program) (flows : IsFaultFree program summary) (split : IsSplit program summary made)
    (well_made : IsWellMade made) (summed : IsSummary (never_first_of made.files) (control_of made) other) (split_made : IsSplit made other twice) where
  abbrev plan : Plan
  plan = first.plan program made summary well flows split

  abbrev naming : Naming
  naming = first.naming program made summary well flows split

  structured : IsStructuredControl (control_of made)
  structured = (joined.behave-alike program made summary well flows split).0

  flows_made : IsFaultFree made other
  flows_made = record {
    never = are-faultless made well_made.proper.own_items well_made.proper.own_paragraphs structured;
    is = summed;
  }

  planned : IsPlannedWith made split_made.plan.returning split_made.plan.order split_made.graphs (joined.plan made twice other well_made flows_made split_made)
  planned = joined.planned made twice other well_made flows_made split_made

  abbrev planned_again : PlannedAgain made other
  planned_again = record {
    returning = split_made.plan.returning;
    order = split_made.plan.order;
    is = split_made.plan.is;
    plan = joined.plan made twice other well_made flows_made split_made;
    told = planned.told;
    others = planned.others;
    planned = planned.planned;
  }

  abbrev other_way : Way
  other_way = record {
    first = items (declared_in made);
    table = (joined.writing made twice other well_made flows_made split_made).table;
    place = place_of (procedures_by planned_again.plan (control_of made));
    range = Main;
  }

  abbrev procedures : List Procedure
  procedures = procedures_by plan (control_of program)

  abbrev other_order : List Range
  other_order = Main ∷ planned_again.plan.others

  abbrev other_graphs : Graphs
  other_graphs = graphs_by planned_again.plan (control_of made)

  abbrev rows : List CellRange
  rows = rows_of split_made.plan.order split_made.closed

  result : result_by plan (control_of program) naming ≡ control_of made
  result = first.result program made summary well flows split

  pub control-same : control_of twice ≡ control_of made
  control-same =
      (joined.is-written made twice other well_made flows_made split_made).control
      ∙ first.rendered-again program made summary well flows split other well_made.proper.own_items well_made.proper.own_paragraphs summed planned_again other_way

  many : length other_order ≡ length (control_of made).paragraphs
  many = first.as-many program made summary well flows split other well_made.proper.own_items well_made.proper.own_paragraphs summed planned_again other_way

  -- as many procedures as ranges of the second plan
  order-size : length other_order ≡ length procedures
  order-size =
      many ∙ ap (λ (p : language.Program). length p.paragraphs) (sym result)
      ∙ first.map-size (written_paragraph naming (place_of procedures)) procedures

  -- no graph has a cell
  closed-added : (number : ℕ) (range : Range) → slice_get other_order number ≡ Some range → (closed_graph (other_graphs range)).added ≡ []
  closed-added number range at =
      let procedure = in-list procedures number (let lt = within-list other_order number range at in let size = order-size in omega (arith, lt, size)) in
      let b = first.bare program made summary well flows split other well_made.proper.own_items well_made.proper.own_paragraphs summed planned_again other_way number procedure.0 range procedure.1 at in
      let body = written_stmts naming (place_of procedures) procedure.0.range procedure.0.body in
      subst (λ (p : language.Program). (closed_graph (graphs_by planned_again.plan p range)).added ≡ []) result
      (ap (λ (g : Graph). g.added) b.closed
      ∙ count-nothing planned_again.plan (result_by plan (control_of program) naming) range
      (first.just-there program made summary well flows split other well_made.proper.own_items well_made.proper.own_paragraphs summed planned_again other_way range (in-at other_order number range at))
      (tree body b.last) b.plain b.node)

  without : (number : ℕ) (row : CellRange) → slice_get rows number ≡ Some row → row.added ≡ []
  without number row is =
      let f : slice_get (closed_ranges other_order other_graphs) number ≡ Some row =
      ap (λ rs. slice_get rs number) (sym (first.rows-are made twice other well_made flows_made split_made)) ∙ is in
      let range = map-back (λ range. cell_range range (closed_graph (other_graphs range))) other_order number row f in
      ap (λ (r : CellRange). r.added) (sym range.2) ∙ closed-added number range.0 range.1

  no-entries : added_entries made split_made.plan.order split_made.closed ≡ []
  no-entries = (add-nothing (table_of (program_words made)) rows without).1

  pub no-kinds : item_kinds rows ≡ []
  no-kinds = (add-nothing (table_of (program_words made)) rows without).0

  entries-same : twice.entries ≡ made.entries
  entries-same =
      split_made.written.entries
      ∙ ap (λ cells. made.entries ++ entries_of cells) no-entries
      ∙ append-nil made.entries

  -- ---- the paragraphs

  own : OwnParagraphs (control_of made).paragraphs
  own = subst (λ (p : language.Program). OwnParagraphs p.paragraphs) result (rendered-own naming procedures)

  order-is : length split_made.plan.order ≡ length made.paragraphs
  order-is =
      sym (first.map-size seen_range split_made.plan.order)
      ∙ ap (λ (rs : List Range). length rs) (joined.in-order made twice other well_made flows_made split_made)
      ∙ many ∙ sym (first.control-size made)

  paragraph-at : (at : ℕ) (here there : Paragraph) → slice_get made.paragraphs at ≡ Some here → slice_get twice.paragraphs at ≡ Some there → here ≡ there
  paragraph-at at here there is also_is =
      let w = split.written in
      let v = split_made.written in
      let range = beside made.paragraphs split.plan.order (sym w.paragraphs.count) at here is in
      let also_range = beside twice.paragraphs split_made.plan.order (sym v.paragraphs.count) at there also_is in
      let shaped = beside split.plan.order split.closed w.many.trees at range.0 range.1 in
      let also_shaped = beside split_made.plan.order split_made.closed v.many.trees at also_range.0 also_range.1 in
      let cells = beside split.plan.order w.cells w.many.items at range.0 range.1 in
      let also_cells = beside split_made.plan.order v.cells v.many.items at also_range.0 also_range.1 in
      let name = beside split.plan.order (names_of program split.plan.order) w.many.words at range.0 range.1 in
      let also_name = beside split_made.plan.order (names_of made split_made.plan.order) v.many.words at also_range.0 also_range.1 in
      let one = w.paragraphs.each at range.0 shaped.0 cells.0 name.0 here range.1 shaped.1 cells.1 name.1 is in
      let other_one = v.paragraphs.each at also_range.0 also_shaped.0 also_cells.0 also_name.0 there also_range.1 also_shaped.1 also_cells.1 also_name.1 also_is in
      let begins = (first.places program made summary well flows split other well_made.proper.own_items well_made.proper.own_paragraphs summed planned_again other_way).begins in
      let named : Some name.0 ≡ Some also_name.0 =
      sym (names-again made split_made.plan.order begins at (within-list split_made.plan.order at also_range.0 also_range.1) here name.0 is one.named) ∙ also_name.1 in
      paragraph-same here there (one.named ∙ named ∙ sym other_one.named) (one.bare ∙ sym other_one.bare)
      (statements-at made.paragraphs twice.paragraphs (control-loses_nothing made twice own (sym control-same)) at here there is also_is)

  paragraphs-same : made.paragraphs ≡ twice.paragraphs
  paragraphs-same =
      lists-same made.paragraphs twice.paragraphs (sym (split_made.written.paragraphs.count ∙ order-is)) paragraph-at

  pub program-same : twice ≡ made
  program-same =
      ap (λ (n : List ℕ). record {
        name = n;
        files = twice.files;
        entries = twice.entries;
        paragraphs = twice.paragraphs;
      }) split_made.written.name
      ∙ ap (λ (fs : List FileEntry). record {
        name = made.name;
        files = fs;
        entries = twice.entries;
        paragraphs = twice.paragraphs;
      }) split_made.written.files
      ∙ ap₂ (λ (es : List Entry) (ps : List Paragraph). record {
        name = made.name;
        files = made.files;
        entries = es;
        paragraphs = ps;
      }) entries-same (sym paragraphs-same)

pub keep-control : SplitsKeepControl
keep-control = λ program made twice summary other well flows split well_made summed split_made.
    control-same program made twice summary other well flows split well_made summed split_made

pub come-again : SplitsComeAgain
come-again = λ program made summary other twice well flows split well_made summed is. (
  program-same program made twice.program summary other well flows split well_made summed is.is,
  is.added ∙ ap (λ kinds. counts_of kinds) (no-kinds program made twice.program summary other well flows split well_made summed is.is),
)
