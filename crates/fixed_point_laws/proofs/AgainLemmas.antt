-- What a program is split into is written again as it was written.
use Rattle.std.proofs.Common.{◌≡◌, ℕ, suc, ◌≤◌, ◌<◌, true, false, List, [], ◌∷◌, length, map, Some, refl, ap, sym, ◌∙◌, subst, arith}
use Rattle.std.specs.Prelude.{slice_get}
use Rattle.cob_tree.specs.declared.program.Program.{Program}
use Rattle.cob_tree.specs.declared.program.Range as code
use Rattle.cob_tree.specs.declared.stmt.Stmt.TheVariants.{Continue}
use Rattle.control_flow_theory.specs.language.Control.{control_of}
use Rattle.control_flow_theory.specs.language.Language as language
use Rattle.control_flow_theory.specs.language.Language.{Act, Picker, Range, Main, Part, Stmt, Do, Choose, Loop, Perform, Go, GoDepending, NextSentence, ExitParagraph, ExitSection, ExitPerform, StopRun, Stmts, none, also, Arms, done, given, missing, Body, Nested, Performed}
use Rattle.control_flow_theory.specs.language.Structured.{StmtsNest, IsStructuredControl}
use Rattle.control_flow_theory.specs.lowering.Completes.{skips}
use Rattle.control_flow_theory.specs.lowering.FlowFacts.{FlowFacts, IsSource}
use Rattle.control_flow_theory.specs.language.OwnItems.{NamesOwnItems}
use Rattle.control_flow_theory.specs.lowering.flow.Entered.{IsEntered}
use Rattle.control_flow_theory.specs.lowering.flow.Paths as theory
use Rattle.control_flow_theory.specs.lowering.WellFormed.{AreJustReached}
use Rattle.control_flow_theory.specs.graph_rules.Reduced.{Graphs, size}
use Rattle.control_flow_theory.specs.graph_rules.Walked.{In}
use Rattle.control_flow_theory.specs.rendering.Rendering.{Naming, Procedure, place_of, written_act, written_paragraph}
use Rattle.control_flow_theory.specs.main_theorem.Chain.{IsPlan, procedures_of}
use Rattle.control_flow_theory.specs.main_theorem.CallsReached.{GivesSome}
use Rattle.control_flow_theory.specs.main_theorem.MainTheorem.{Plan, graphs_by, procedures_by}
use Rattle.program_facts.specs.completion.FlowFacts.{flow_facts_of, width_of}
use Rattle.program_points.proofs.table_building_lemmas.Sections.{seen-length}
use Rattle.program_points.specs.numbering.Kind.{never_first_of}
use Rattle.meanings.specs.statements.Does.{declared_in}
use Rattle.cobol_theory.specs.added_items.Own.{items}
use Rattle.cobol_theory.specs.cobol_headline.Alike.{Writing, naming_of, IsWrittenOf}
use Rattle.cobol_theory.specs.cobol_parts.Named.{NamesOwnParagraphs}
use Rattle.cobol_theory.proofs.cobol_parts_lemmas.SomeArm.{gives-some}
use Rattle.cobol_theory.proofs.cobol_parts_lemmas.Sources as sources
use Rattle.statement_builders.specs.arms.Written.{Way, naming_in}
use Rattle.added_items.specs.item_table.Laws.{closed_ranges}
use Rattle.added_items.specs.item_table.Tables.{most_arms, table_of_cells}
use Rattle.lowering_labels.specs.points.FallThrough.{seen_range}
use Rattle.pending_returns.specs.Summary.{IsSummary}
use Rattle.pending_returns.specs.declared.facts.Summary.{Summary}
use Rattle.procedure_split.specs.Rows.{row_of, rows_of}
use Rattle.procedure_split.specs.Splitting.{IsSplit}
use Rattle.procedure_split.specs.plan.Laws.{others_of}
use Rattle.procedure_split.specs.plan.Planned.{IsPlanOf}
use Rattle.procedure_split.specs.shaped_ranges.Laws.{IsPlannedWith}
use Rattle.procedure_split.specs.shaped_ranges.Shaping.{IsShapedTo}
use Rattle.procedure_split.specs.declared.shaped_ranges.shaping.Closed.{Closed}
use Rattle.procedure_split.specs.split_behaviour.Alike.{IsWellMade}
use Rattle.pending_returns.specs.FaultFree.{IsFaultFree}
use Rattle.procedure_split.proofs.made_procedures_lemmas.Plans.{each-closed, entry-first}
use Rattle.procedure_split.proofs.made_procedures_lemmas.Rows.{shaped-at, in-at}
use Rattle.procedure_split.proofs.split_behaviour_lemmas.ClosedRows.{closed_row, row-is, all-rows}
use Rattle.procedure_split.proofs.split_behaviour_lemmas.FewNodes.{as-many-graphs, few-nodes}
use Rattle.procedure_split.proofs.split_behaviour_lemmas.Joined as joined
use Rattle.control_flow_theory.proofs.rendering_lemmas.Written.{map-get}
use Rattle.fixed_point.specs.Again.{IsRangeAt}
use Rattle.fixed_point.specs.Choices.{ChoiceFits}
use Rattle.fixed_point.specs.Fixed.{stands_in, result_by, ResultIsWritten, IsBare}
use Rattle.fixed_point.specs.Tops.{ParagraphsAct}
use Rattle.fixed_point.specs.Written.{NamesAlike, PickerAgain, StmtChooses, StmtsChoose, ArmsChoose, BodyChooses}
use Rattle.fixed_point.proofs.Composed.{results-again, results-bare}
use Rattle.fixed_point_laws.specs.Counting.{counting, TellsArms}
use Rattle.fixed_point_laws.specs.Entering.{IsFirstWritten}
use Rattle.fixed_point_laws.specs.Ordering.{GoesByPlaces}
use Rattle.fixed_point_laws.proofs.ChoiceLemmas.{come-again}
use Rattle.fixed_point_laws.proofs.CountingLemmas.{are-counted}
use Rattle.fixed_point_laws.proofs.EnteringLemmas.{are-entered}
use Rattle.fixed_point_laws.proofs.FaultlessLemmas.{no-fault, same-told}
use Rattle.fixed_point_laws.proofs.NameLemmas.{parts-keep, reads-alike, acts-so}
use Rattle.fixed_point_laws.proofs.OrderingLemmas.{by-places}
use Rattle.fixed_point_laws.proofs.TableLemmas.{tell-arms}
use Rattle.fixed_point_laws.proofs.TurningLemmas.{acts}

-- ---- what is so of one choice is so of each

module _ (One Other : Picker → Arms → Type 0) (to : (picker : Picker) (arms : Arms) → One picker arms → Other picker arms) where
  mutual
    stmt-chooses : (stmt : Stmt) → StmtChooses One stmt → StmtChooses Other stmt
    stmt-chooses (Do act) h = tt
    stmt-chooses (Choose picker arms) h = (to picker arms h.0, arms-choose arms h.1)
    stmt-chooses (Loop control body) h = body-chooses body h
    stmt-chooses (Perform entry exit) h = tt
    stmt-chooses (Go on) h = tt
    stmt-chooses (GoDepending names on) h = tt
    stmt-chooses NextSentence h = tt
    stmt-chooses ExitParagraph h = tt
    stmt-chooses (ExitSection last) h = tt
    stmt-chooses (ExitPerform cycle) h = tt
    stmt-chooses StopRun h = tt

    stmts-choose : (stmts : Stmts) → StmtsChoose One stmts → StmtsChoose Other stmts
    stmts-choose none h = tt
    stmts-choose (also stmt stmts) h = (stmt-chooses stmt h.0, stmts-choose stmts h.1)

    arms-choose : (arms : Arms) → ArmsChoose One arms → ArmsChoose Other arms
    arms-choose done h = tt
    arms-choose (given arm others) h = (stmts-choose arm h.0, arms-choose others h.1)
    arms-choose (missing others) h = arms-choose others h

    body-chooses : (body : Body) → BodyChooses One body → BodyChooses Other body
    body-chooses (Nested stmts) h = stmts-choose stmts h
    body-chooses (Performed entry exit) h = tt

pub map-size : {A B : Type 0} → (f : A → B) (xs : List A) → length (map f xs) ≡ length xs
map-size f [] = refl
map-size f (x ∷ xs) = ap (λ (n : ℕ). suc n) (map-size f xs)

procs-size : (order : List Range) (graphs : Graphs) → length (procedures_of order graphs) ≡ length order
procs-size [] graphs = refl
procs-size (range ∷ order) graphs = ap (λ (n : ℕ). suc n) (procs-size order graphs)

-- how a program is planned by this summary
pub record PlannedAgain (made : Program) (other : Summary) : Type 0 where
  pub returning : List (List ℕ)
  pub order : List code.Range
  pub is : IsPlanOf other.ranges returning order
  pub plan : Plan
  pub told : plan.told ≡ flow_facts_of made.files returning
  pub others : plan.others ≡ others_of order
  pub planned : IsPlan plan.told (control_of made) plan.keep plan.others

-- a program has as many paragraphs as its control
pub control-size : (program : Program) → length program.paragraphs ≡ length (control_of program).paragraphs
control-size program = sym (seen-length 0 program.paragraphs)

-- ---- the rows of a split program are those of its closed graphs

module _ (program made : Program) (summary : Summary) (well : IsWellMade program) (flows : IsFaultFree program summary) (split : IsSplit program summary made) where
  abbrev pub plan : Plan
  plan = joined.plan program made summary well flows split

  abbrev pub writing : Writing
  writing = joined.writing program made summary well flows split

  abbrev pub naming : Naming
  naming = naming_of program writing

  planned : IsPlannedWith program split.plan.returning split.plan.order split.graphs plan
  planned = joined.planned program made summary well flows split

  source : IsSource plan.told (control_of program)
  source = joined.is-source program made summary well flows split

  abbrev graphs : Graphs
  graphs = graphs_by plan (control_of program)

  in-ranges : (at : ℕ) (range : code.Range) → slice_get split.plan.order at ≡ Some range → In (seen_range range) (Main ∷ plan.others)
  in-ranges at range here =
      in-at (Main ∷ plan.others) at (seen_range range)
      (subst (λ all. slice_get all at ≡ Some (seen_range range)) (joined.in-order program made summary well flows split)
      (map-get seen_range split.plan.order at range here))

  row-closed : (at : ℕ) (range : code.Range) (one : Closed) → slice_get split.plan.order at ≡ Some range → slice_get split.closed at ≡ Some one → row_of range one ≡ closed_row graphs (seen_range range)
  row-closed at range one here there =
      let which = seen_range range in
      let shaped = shaped-at split.graphs split.closed split.shaped at one there in
      let closed = each-closed naming plan (control_of program) source (joined.some program made summary well flows split) planned.planned which (in-ranges at range here) in
      row-is range (graphs which) one (entry-first (graphs which) closed)
      (subst (λ graph. IsShapedTo graph one) (planned.each at range shaped.0 here shaped.1) shaped.2)

  pub rows-are : rows_of split.plan.order split.closed ≡ closed_ranges (Main ∷ plan.others) graphs
  rows-are =
      all-rows graphs split.plan.order split.closed split.written.many.trees row-closed
      ∙ ap (λ all. closed_ranges all graphs) (joined.in-order program made summary well flows split)

  few : (range : Range) → In range (Main ∷ plan.others) → size (graphs range).nodes < most_arms
  few range here =
      few-nodes graphs split.plan.order split.graphs
      (as-many-graphs (flow_facts_of program.files split.plan.returning) (control_of program) split.plan.order split.graphs split.lowered.are)
      split.lowered.within planned.each range
      (subst (λ all. In range all) (sym (joined.in-order program made summary well flows split)) here)

  told-is : plan.told ≡ flow_facts_of program.files split.plan.returning
  told-is = planned.told

  pub counted : (number : ℕ) (procedure : Procedure) → slice_get (procedures_by plan (control_of program)) number ≡ Some procedure →
      StmtsNest (λ entry exit. stands_in (procedures_by plan (control_of program)) entry exit ≡ true) procedure.body
      × StmtsChoose (ChoiceFits naming (counting plan.told.width writing.table.most) (procedures_by plan (control_of program)) procedure.range) procedure.body
  counted number procedure is =
      are-counted naming writing.table.most plan (control_of program) source (joined.some program made summary well flows split) planned.planned
      (subst (λ rows. TellsArms plan (control_of program) (table_of_cells rows).most) (sym rows-are)
      (λ range here cell kind is chosen arms found le. tell-arms (Main ∷ plan.others) graphs few range here cell kind is chosen arms found le))
      number procedure is

  written : IsWrittenOf program made writing
  written = joined.is-written program made summary well flows split

  pub result : result_by plan (control_of program) naming ≡ control_of made
  result = sym written.control

  structured : IsStructuredControl (control_of made)
  structured = (joined.behave-alike program made summary well flows split).0

  -- ---- planned once more

  module _ (other : Summary) (items_made : NamesOwnItems made) (paragraphs_made : NamesOwnParagraphs made)
      (is : IsSummary (never_first_of made.files) (control_of made) other) (p : PlannedAgain made other) (other_way : Way) where
    abbrev pub other_naming : Naming
    other_naming = naming_in other_way

    -- it has the source's files
    other-told : p.plan.told ≡ flow_facts_of program.files p.returning
    other-told = p.told ∙ ap (λ files. flow_facts_of files p.returning) split.written.files

    abbrev pub way : Way
    way = record {
      first = items (declared_in program);
      table = writing.table;
      place = place_of (procedures_by plan (control_of program));
      range = Main;
    }

    names : NamesAlike naming plan.told p.plan.told
    names =
        subst (λ told. NamesAlike naming told p.plan.told) (sym told-is)
        (subst (λ told. NamesAlike naming (flow_facts_of program.files split.plan.returning) told) (sym other-told)
        (reads-alike way program.files split.plan.returning p.returning))

    gives : GivesSome plan.told
    gives = subst GivesSome (sym told-is) (gives-some (declared_in program) split.plan.returning)

    other-gives : GivesSome p.plan.told
    other-gives = subst GivesSome (sym p.told) (gives-some (declared_in made) p.returning)

    other-source : IsSource p.plan.told (control_of made)
    other-source =
        subst (λ told. IsSource told (control_of made)) (sym p.told)
        (sources.source (declared_in made) p.returning made items_made paragraphs_made)

    fair : theory.HasFaultyRun p.plan.told (control_of made) → ⊥
    fair = no-fault p.plan.told (control_of made) structured

    first-written : IsFirstWritten plan (control_of program) naming p.plan.told
    first-written = record {
      source = source;
      gives = gives;
      planned = planned.planned;
      nests = λ number procedure is. (counted number procedure is).0;
      structured = subst IsStructuredControl (sym result) structured;
      result = subst (IsSource p.plan.told) (sym result) other-source;
      names = names;
    }

    entered : (number : ℕ) → 1 ≤ number → number < length (control_of made).paragraphs → IsEntered p.plan.told (control_of made) (Part number number)
    entered number some lt =
        subst (λ q. IsEntered p.plan.told q (Part number number)) result
        (are-entered plan (control_of program) naming p.plan.told first-written number some
        (subst (λ (q : language.Program). number < length q.paragraphs) (sym result) lt))

    summed : IsSummary p.plan.told.never_first (control_of made) other
    summed =
        subst (λ (told : FlowFacts). IsSummary told.never_first (control_of made) other) (sym p.told)
        (subst (λ never. IsSummary never (control_of made) other) (same-told made.files) is)

    pub places : GoesByPlaces (control_of made) p.order
    places = by-places p.plan.told (control_of made) other p.returning p.order other-source other-gives structured fair summed p.is entered

    pub as-many : length (Main ∷ p.plan.others) ≡ length (control_of made).paragraphs
    as-many = ap (λ (others : List Range). suc (length others)) p.others ∙ places.many

    made-size : length (control_of made).paragraphs ≡ length (Main ∷ plan.others)
    made-size =
        ap (λ (q : language.Program). length q.paragraphs) (sym result)
        ∙ map-size (written_paragraph naming (place_of (procedures_by plan (control_of program)))) (procedures_by plan (control_of program))
        ∙ procs-size (Main ∷ plan.others) graphs

    many : length p.plan.others ≡ length plan.others
    many = (let a = as-many in let b = made-size in omega (arith, a, b))

    order : (number : ℕ) (range : Range) → slice_get (Main ∷ p.plan.others) number ≡ Some range → IsRangeAt number range
    order number range at =
        places.each number range (ap (λ (others : List Range). slice_get (Main ∷ others) number) (sym p.others) ∙ at)

    acting : ParagraphsAct plan.told (control_of program).paragraphs
    acting = subst (λ told. ParagraphsAct told (control_of program).paragraphs) (sym told-is) (acts program.files split.plan.returning program)

    skipped : p.plan.told.skipped naming.nothing ≡ true
    skipped = ap (λ (told : FlowFacts). told.skipped Continue) p.told

    does : (range : Range) (act : Act) → skips plan.told act ≡ false → skips p.plan.told (written_act naming (place_of (procedures_by plan (control_of program))) range act) ≡ false
    does range act h =
        ap (λ told. skips told (written_act naming (place_of (procedures_by plan (control_of program))) range act)) other-told
        ∙ acts-so way (place_of (procedures_by plan (control_of program))) program.files split.plan.returning p.returning range act
        (ap (λ told. skips told act) (sym told-is) ∙ h)

    choices : (number : ℕ) (procedure : Procedure) → slice_get (procedures_by plan (control_of program)) number ≡ Some procedure → (range : Range) →
        StmtsChoose (PickerAgain naming (place_of (procedures_by plan (control_of program))) procedure.range other_naming
        (place_of (procedures_by p.plan (result_by plan (control_of program) naming))) range) procedure.body
    choices number procedure here range =
        stmts-choose
        (ChoiceFits naming (counting width_of writing.table.most) (procedures_by plan (control_of program)) procedure.range)
        (PickerAgain naming (place_of (procedures_by plan (control_of program))) procedure.range other_naming
        (place_of (procedures_by p.plan (result_by plan (control_of program) naming))) range)
        (λ picker arms fits.
        come-again way other_way (place_of (procedures_by plan (control_of program))) (place_of (procedures_by p.plan (result_by plan (control_of program) naming)))
        procedure.range range (procedures_by plan (control_of program)) picker arms fits)
        procedure.body
        (subst (λ (told : FlowFacts). StmtsChoose (ChoiceFits naming (counting told.width writing.table.most) (procedures_by plan (control_of program)) procedure.range) procedure.body) told-is
        (counted number procedure here).1)

    pub written-again : ResultIsWritten plan (control_of program) naming p.plan other_naming
    written-again = record {
      source = source;
      acts = acting;
      gives = gives;
      planned = planned.planned;
      nests = λ number procedure is. (counted number procedure is).0;
      structured = subst IsStructuredControl (sym result) structured;
      result = subst (IsSource p.plan.told) (sym result) other-source;
      result_planned = subst (λ q. IsPlan p.plan.told q p.plan.keep p.plan.others) (sym result) p.planned;
      many = many;
      order = order;
      names = names;
      nothing = refl;
      skipped = skipped;
      done = does;
      keeps = parts-keep other_way;
      chooses = choices;
    }

    -- the nodes of each of its graphs are just those that are reached
    pub just-there : (range : Range) → In range (Main ∷ p.plan.others) → AreJustReached p.plan.told (result_by plan (control_of program) naming) range (p.plan.keep range)
    just-there range here = subst (λ q. AreJustReached p.plan.told q range (p.plan.keep range)) (sym result) (p.planned.just range here)

    pub rendered-again : result_by p.plan (control_of made) other_naming ≡ control_of made
    rendered-again =
        ap (λ q. result_by p.plan q other_naming) (sym result)
        ∙ results-again plan (control_of program) naming p.plan other_naming written-again
        ∙ result

    -- each of its graphs is one node, and closed as it is
    pub bare : (number : ℕ) (procedure : Procedure) (range : Range) → slice_get (procedures_by plan (control_of program)) number ≡ Some procedure →
        slice_get (Main ∷ p.plan.others) number ≡ Some range → IsBare plan (control_of program) naming p.plan procedure range
    bare number procedure range here at =
        (results-bare plan (control_of program) naming p.plan other_naming written-again).1 number procedure range here at
