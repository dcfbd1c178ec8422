-- Splitting a result passes no limit.
use Rattle.std.proofs.Common.{◌≡◌, ◌≤◌, ◌<◌, ◌+◌, ℕ, zero, suc, true, false, Bool, List, [], ◌∷◌, map, length, Some, slice_get, sum_by, refl, ap, sym, subst, ◌∙◌, inl, inr, arith, IsTrue}
use Rattle.std.specs.Prelude.{max}
use Rattle.std.proofs.lemmas.List.Sums.{sum_by-cons}
use Rattle.std.proofs.lemmas.Option.{slice_get_within}
use Rattle.cob_base.specs.declared.limit.Limit.{Limit}
use Rattle.cob_tree.specs.Depth.{largest}
use Rattle.cob_tree.specs.declared.fault.SplitFault.TheVariants as fault
use Rattle.cob_tree.specs.declared.program.Program.{Program}
use Rattle.cob_tree.specs.declared.program.Paragraph as trees
use Rattle.cob_tree.specs.declared.program.Range as code
use Rattle.control_flow_theory.specs.language.Control.{control_of}
use Rattle.control_flow_theory.specs.language.Language as language
use Rattle.control_flow_theory.specs.language.Language.{Picker, Range, Main, Stmt, Do, Choose, Loop, Perform, Go, GoDepending, NextSentence, ExitParagraph, ExitSection, ExitPerform, StopRun, Stmts, none, also, Arms, done, given, missing, Body, Nested, Performed, Paragraph}
use Rattle.control_flow_theory.specs.language.Structured.{IsStructuredControl}
use Rattle.control_flow_theory.specs.lowering.Completes.{sizes}
use Rattle.control_flow_theory.specs.lowering.FlowFacts.{FlowFacts}
use Rattle.control_flow_theory.specs.lowering.Lowered.{lowered, total}
use Rattle.control_flow_theory.specs.semantics.Graph.{tree, End, Pick, Jump, Return, Stop, Dead, body_of}
use Rattle.control_flow_theory.specs.graph_rules.Reduced.{Graph, Node}
use Rattle.control_flow_theory.specs.structuring.Closes.{closed_graph}
use Rattle.control_flow_theory.specs.structuring.Laws.{PlainEnd}
use Rattle.control_flow_theory.specs.rendering.Rendering.{Naming, Procedure, place_of, required, then_stmts, closing, written_paragraph, written_stmts}
use Rattle.control_flow_theory.specs.main_theorem.MainTheorem.{Plan, graphs_by, procedures_by}
use Rattle.control_flow_theory.proofs.rendering_lemmas.Written.{map-get}
use Rattle.program_points.specs.numbering.Kind.{never_first_of}
use Rattle.branch_tree.specs.Graph.{seen_graph}
use Rattle.lowering_labels.specs.points.FallThrough.{seen_range}
use Rattle.flow_graph.specs.graph_sizes.Sizing.{end_size, graph_size, node_size, tree_size}
use Rattle.region_rewrite.specs.Shaping.{first_tree, result_nesting}
use Rattle.region_rewrite.specs.written_nesting.Nesting.{leaves_out, is_nothing, arm_level, nesting, stmt_nesting, body_nesting, arms_nesting}
use Rattle.cobol_print.specs.Unit.{all_tokens}
use Rattle.cobol_print.specs.units.Division.{program_units}
use Rattle.meanings.specs.statements.Does.{declared_in}
use Rattle.cobol_theory.specs.added_items.Own.{items}
use Rattle.statement_builders.specs.arms.Written.{Way}
use Rattle.pending_returns.specs.Summary.{IsSummary}
use Rattle.pending_returns.specs.declared.facts.Summary.{Summary}
use Rattle.procedure_split.specs.Splitting.{IsSplit, IsSplitFault}
use Rattle.procedure_split.specs.plan.Planned.{IsPlanOf}
use Rattle.procedure_split.specs.shaped_ranges.Graphs.{HaveGraphs, total_size}
use Rattle.procedure_split.specs.shaped_ranges.Laws.{HasFlow}
use Rattle.cob_base.specs.Limit.{max_nesting, max_nodes}
use Rattle.procedure_split.specs.split_behaviour.Alike.{IsWellMade}
use Rattle.pending_returns.specs.FaultFree.{IsFaultFree}
use Rattle.procedure_split.specs.written_depth.Levels.{levels, stmt_levels, body_levels, arms_levels, least_levels, paragraph_levels, program_levels}
use Rattle.procedure_split.proofs.lowered_arms_lemmas.Graphs.{split-nests}
use Rattle.procedure_split.proofs.shaped_ranges_lemmas.GraphRows.{have-seen}
use Rattle.procedure_split.proofs.split_behaviour_lemmas.Joined as joined
use Rattle.procedure_split.proofs.split_behaviour_lemmas.Named.{have-names}
use Rattle.procedure_split.proofs.written_depth_lemmas.Seen.{program-agrees}
use Rattle.program_facts.specs.completion.FlowFacts.{flow_facts_of}
use Rattle.program_facts.specs.well_scoped.Part.{is_filled}
use Rattle.fixed_point.specs.Fixed.{result_by}
use Rattle.fixed_point_laws.specs.Limits.{SplitsPassNoLimit}
use Rattle.fixed_point_laws.specs.Tokens.{parts_of}
use Rattle.fixed_point_laws.proofs.AgainLemmas as first
use Rattle.fixed_point_laws.proofs.AgainLemmas.{PlannedAgain}
use Rattle.fixed_point_laws.proofs.FaultlessLemmas.{are-faultless}
use Rattle.fixed_point_laws.proofs.HavingLemmas.{PlannedHaving, planned-having}
use Rattle.fixed_point_laws.proofs.TokenLemmas.{each-part}

-- ---- statements nest no deeper by what is judged than they stand

more-left : (a b c d : ℕ) → a ≤ c → b ≤ d → max a b ≤ max c d
more-left a b c d h g = omega (arith, h, g)

arm-more : (out nothing : Bool) (a b : ℕ) → a ≤ b → arm_level out nothing a ≤ suc b
arm-more true true a b h = omega arith
arm-more true false a b h = omega (arith, h)
arm-more false nothing a b h = omega (arith, h)

behind-least : (least a b : ℕ) → a ≤ b → a ≤ max least b
behind-least least a b h = omega (arith, h)

mutual
  stmt-judged : (stmt : Stmt) → stmt_nesting stmt ≤ stmt_levels stmt
  stmt-judged (Do act) = omega arith
  stmt-judged (Choose picker arms) = behind-least (least_levels picker) (arms_nesting picker true arms) (arms_levels arms) (arms-judged picker true arms)
  stmt-judged (Loop control body) = body-judged body
  stmt-judged (Perform entry exit) = omega arith
  stmt-judged (Go to) = omega arith
  stmt-judged (GoDepending to on) = omega arith
  stmt-judged NextSentence = omega arith
  stmt-judged ExitParagraph = omega arith
  stmt-judged (ExitSection last) = omega arith
  stmt-judged (ExitPerform cycle) = omega arith
  stmt-judged StopRun = omega arith

  stmts-judged : (stmts : Stmts) → nesting stmts ≤ levels stmts
  stmts-judged none = omega arith
  stmts-judged (also stmt stmts) = more-left (stmt_nesting stmt) (nesting stmts) (stmt_levels stmt) (levels stmts) (stmt-judged stmt) (stmts-judged stmts)

  arms-judged : (picker : Picker) (start : Bool) (arms : Arms) → arms_nesting picker start arms ≤ arms_levels arms
  arms-judged picker start done = omega arith
  arms-judged picker start (given arm others) =
      more-left (arm_level (leaves_out picker start) (is_nothing arm) (nesting arm)) (arms_nesting picker false others) (suc (levels arm)) (arms_levels others)
      (arm-more (leaves_out picker start) (is_nothing arm) (nesting arm) (levels arm) (stmts-judged arm)) (arms-judged picker false others)
  arms-judged picker start (missing others) = arms-judged picker false others

  body-judged : (body : Body) → body_nesting body ≤ body_levels body
  body-judged (Nested stmts) = (let k = stmts-judged stmts in omega (arith, k))
  body-judged (Performed entry exit) = omega arith

-- ---- a body stands in its sentence

front-levels : (body last : Stmts) → levels body ≤ levels (then_stmts body last)
front-levels none last = omega arith
front-levels (also stmt stmts) last = (let k = front-levels stmts last in more-left (stmt_levels stmt) (levels stmts) (stmt_levels stmt) (levels (then_stmts stmts last)) (omega arith) k)

front-sizes : (body last : Stmts) → sizes body ≤ sizes (then_stmts body last)
front-sizes none last = omega arith
front-sizes (also stmt stmts) last = (let k = front-sizes stmts last in omega (arith, k))

required-levels : (naming : Naming) (stmts : Stmts) → levels stmts ≤ levels (required naming.nothing stmts)
required-levels naming none = omega arith
required-levels naming (also stmt stmts) = omega arith

required-sizes : (naming : Naming) (stmts : Stmts) → sizes stmts ≤ sizes (required naming.nothing stmts)
required-sizes naming none = omega arith
required-sizes naming (also stmt stmts) = omega arith

through : (a b c : ℕ) → a ≤ b → b ≤ c → a ≤ c
through a b c h g = omega (arith, h, g)

clash : (a b c : ℕ) → a ≤ b → b ≤ c → c < a → ⊥
clash a b c h g past = omega (arith, h, g, past)

same-least : (n : ℕ) → n ≤ n
same-least n = omega arith

plus-none : (a b : ℕ) → a ≤ b → a ≤ b + 0
plus-none a b h = omega (arith, h)

max-none : (a b : ℕ) → a ≤ b → a ≤ max b 0
max-none a b h = omega (arith, h)

-- in the one sentence of its paragraph
in-total : (naming : Naming) (body last : Stmts) → sizes body ≤ total (required naming.nothing (then_stmts body last) ∷ [])
in-total naming body last =
    plus-none (sizes body) (sizes (required naming.nothing (then_stmts body last)))
    (through (sizes body) (sizes (then_stmts body last)) (sizes (required naming.nothing (then_stmts body last))) (front-sizes body last) (required-sizes naming (then_stmts body last)))

in-levels : (naming : Naming) (body last : Stmts) → levels body ≤ paragraph_levels (required naming.nothing (then_stmts body last) ∷ [])
in-levels naming body last =
    max-none (levels body) (levels (required naming.nothing (then_stmts body last)))
    (through (levels body) (levels (then_stmts body last)) (levels (required naming.nothing (then_stmts body last))) (front-levels body last) (required-levels naming (then_stmts body last)))

plain-size : (end : End) → PlainEnd end → end_size end ≡ 0
plain-size (Pick picker arms) h = absurd h
plain-size (Jump to) h = absurd h
plain-size Return h = refl
plain-size Stop h = refl
plain-size Dead h = refl

node-total : (node : Node) (body : Stmts) (last : End) (most : ℕ) → node.tree ≡ tree body last → PlainEnd last → sizes body ≤ most → sum_by node_size (node ∷ []) ≤ suc most
node-total node body last most is plain h =
    let sum : sum_by node_size (node ∷ []) ≡ node_size node + sum_by node_size [] = sum_by-cons node_size node [] in
    let nil : sum_by node_size [] ≡ 0 = refl in
    let whole : node_size node ≡ 1 + (sizes body + end_size last) = ap (λ t. 1 + tree_size t) is in
    let none_more = plain-size last plain in
    omega (arith, sum, nil, whole, none_more, h)

sum-of : (x a b c d : ℕ) → x ≡ a + b → a ≤ c → b ≤ d → x ≤ c + d
sum-of x a b c d is h g = omega (arith, is, h, g)

largest-at : (numbers : List ℕ) (at number : ℕ) → slice_get numbers at ≡ Some number → number ≤ largest numbers
largest-at [] at number e = absurd (let k : ⊥ = cc in k)
largest-at (x ∷ numbers) zero number e = (let k : x ≡ number = cc in omega (arith, k))
largest-at (x ∷ numbers) (suc at) number e = (let k = largest-at numbers at number e in omega (arith, k))

in-list : {A : Type 0} → (xs : List A) (n : ℕ) → n < length xs → (x : A) × (slice_get xs n ≡ Some x)
in-list [] n lt = absurd (omega (arith, lt))
in-list (x ∷ xs) zero lt = (x, refl)
in-list (x ∷ xs) (suc n) lt = in-list xs n (omega (arith, lt))

some-there : (paragraphs : List trees.Paragraph) → IsTrue (is_filled paragraphs) → 0 < length paragraphs
some-there [] some = absurd (let k : ⊥ = cc in k)
some-there (paragraph ∷ paragraphs) some = omega arith

-- graphs each of which is no larger than its paragraph
sums-within : (graphs : List Graph) (paragraphs : List Paragraph) → length graphs ≡ length paragraphs →
    ((at : ℕ) (graph : Graph) (paragraph : Paragraph) → slice_get graphs at ≡ Some graph → slice_get paragraphs at ≡ Some paragraph → graph_size graph ≤ suc (total paragraph)) →
    sum_by graph_size graphs ≤ parts_of paragraphs
sums-within [] [] many each = omega arith
sums-within [] (paragraph ∷ paragraphs) many each = absurd (omega (arith, many))
sums-within (graph ∷ graphs) [] many each = absurd (omega (arith, many))
sums-within (graph ∷ graphs) (paragraph ∷ paragraphs) many each =
    sum-of (sum_by graph_size (graph ∷ graphs)) (graph_size graph) (sum_by graph_size graphs) (suc (total paragraph)) (parts_of paragraphs)
    (sum_by-cons graph_size graph graphs) (each 0 graph paragraph refl refl)
    (sums-within graphs paragraphs (omega (arith, many)) (λ at g p e f. each (suc at) g p e f))

module _ (program made : Program) (summary other : Summary) (well : IsWellMade program) (flows : IsFaultFree program summary) (split : IsSplit program summary made)
    (well_made : IsWellMade made) (summed : IsSummary (never_first_of made.files) (control_of made) other) where
  abbrev plan : Plan
  plan = first.plan program made summary well flows split

  abbrev naming : Naming
  naming = first.naming program made summary well flows split

  abbrev procedures : List Procedure
  procedures = procedures_by plan (control_of program)

  abbrev way : Way
  way = record {
    first = items (declared_in program);
    table = (first.writing program made summary well flows split).table;
    place = place_of procedures;
    range = Main;
  }

  result : result_by plan (control_of program) naming ≡ control_of made
  result = first.result program made summary well flows split

  structured : IsStructuredControl (control_of made)
  structured = (joined.behave-alike program made summary well flows split).0

  flows_made : IsFaultFree made other
  flows_made = record {
    never = are-faultless made well_made.proper.own_items well_made.proper.own_paragraphs structured;
    is = summed;
  }

  flow : HasFlow made other
  flow = record {
    items = well_made.proper.own_items;
    paragraphs = well_made.proper.own_paragraphs;
    some = some-there made.paragraphs well_made.fit.own.some;
    flow = flows_made;
  }

  module _ (p : PlannedAgain made other) where
    abbrev order : List Range
    order = Main ∷ p.plan.others

    many : length order ≡ length (control_of made).paragraphs
    many = first.as-many program made summary well flows split other well_made.proper.own_items well_made.proper.own_paragraphs summed p way

    order-size : length order ≡ length procedures
    order-size =
        many ∙ ap (λ (q : language.Program). length q.paragraphs) (sym result)
        ∙ first.map-size (written_paragraph naming (place_of procedures)) procedures

    abbrev written : Procedure → Stmts
    written procedure = written_stmts naming (place_of procedures) procedure.range procedure.body

    -- the graph of the range with this number holds what is written of a procedure, and stands in its paragraph
    record Stands (number : ℕ) (range : Range) : Type 0 where
      procedure : Procedure
      last : End
      plain : PlainEnd last
      nodes : (graphs_by p.plan (control_of made) range).nodes ≡ record { label = (lowered p.plan.told (control_of made)).entry range; tree = tree (written procedure) last } ∷ []
      closed : closed_graph (graphs_by p.plan (control_of made) range) ≡ graphs_by p.plan (control_of made) range
      paragraph : slice_get (control_of made).paragraphs number ≡ Some (written_paragraph naming (place_of procedures) procedure)

    stands : (number : ℕ) (range : Range) → slice_get order number ≡ Some range → Stands number range
    stands number range at =
        let procedure = in-list procedures number (let lt = slice_get_within order number range at in let k = order-size in omega (arith, lt, k)) in
        let b = first.bare program made summary well flows split other well_made.proper.own_items well_made.proper.own_paragraphs summed p way number procedure.0 range procedure.1 at in
        record {
          procedure = procedure.0;
          last = b.last;
          plain = b.plain;
          nodes = subst (λ (q : language.Program). (graphs_by p.plan q range).nodes ≡ record { label = (lowered p.plan.told q).entry range; tree = tree (written procedure.0) b.last } ∷ []) result b.node;
          closed = subst (λ (q : language.Program). closed_graph (graphs_by p.plan q range) ≡ graphs_by p.plan q range) result b.closed;
          paragraph =
              subst (λ (q : language.Program). slice_get q.paragraphs number ≡ Some (written_paragraph naming (place_of procedures) procedure.0)) result
              (map-get (written_paragraph naming (place_of procedures)) procedures number procedure.0 procedure.1);
        }

    body-size : (number : ℕ) (range : Range) (s : Stands number range) → sizes (written s.procedure) ≤ total (written_paragraph naming (place_of procedures) s.procedure)
    body-size number range s = in-total naming (written s.procedure) (closing s.procedure.range s.procedure.end)

    graph-size : (number : ℕ) (range : Range) (paragraph : Paragraph) → slice_get order number ≡ Some range → slice_get (control_of made).paragraphs number ≡ Some paragraph →
        graph_size (graphs_by p.plan (control_of made) range) ≤ suc (total paragraph)
    graph-size number range paragraph at here =
        let s = stands number range at in
        let node : Node = record { label = (lowered p.plan.told (control_of made)).entry range; tree = tree (written s.procedure) s.last } in
        let same : written_paragraph naming (place_of procedures) s.procedure ≡ paragraph = some-same (sym s.paragraph ∙ here) in
        let fits : sizes (written s.procedure) ≤ total paragraph = subst (λ (q : Paragraph). sizes (written s.procedure) ≤ total q) same (body-size number range s) in
        subst (λ (nodes : List Node). sum_by node_size nodes ≤ suc (total paragraph)) (sym s.nodes)
        (node-total node (written s.procedure) s.last (total paragraph) refl s.plain fits)
      where
        some-same : {A : Type 0} → {x y : A} → Some x ≡ Some y → x ≡ y
        some-same {A} {x} {y} e = cc

    nests-at : (number : ℕ) (range : Range) → slice_get order number ≡ Some range → result_nesting (closed_graph (graphs_by p.plan (control_of made) range)) ≤ program_levels (control_of made)
    nests-at number range at =
        let s = stands number range at in
        let body = written s.procedure in
        let last = closing s.procedure.range s.procedure.end in
        let whole = written_paragraph naming (place_of procedures) s.procedure in
        let is : result_nesting (closed_graph (graphs_by p.plan (control_of made) range)) ≡ nesting body =
        ap (λ (g : Graph). result_nesting g) s.closed ∙ ap (λ (nodes : List Node). nesting (body_of (first_tree nodes))) s.nodes in
        subst (λ (n : ℕ). n ≤ program_levels (control_of made)) (sym is)
        (through (nesting body) (levels body) (program_levels (control_of made)) (stmts-judged body)
        (through (levels body) (paragraph_levels whole) (program_levels (control_of made)) (in-levels naming body last)
        (largest-at (map paragraph_levels (control_of made).paragraphs) number (paragraph_levels whole)
        (map-get paragraph_levels (control_of made).paragraphs number whole s.paragraph))))

  depth : program_levels (control_of made) ≤ max_nesting
  depth =
      subst (λ (n : ℕ). n ≤ max_nesting) (program-agrees made)
      (split-nests program made summary (joined.flow program made summary well flows split) well.fit.own.statements split)

  having : (returning : List (List ℕ)) (order : List code.Range) (graphs : List Graph) → IsPlanOf other.ranges returning order →
      HaveGraphs (flow_facts_of made.files returning) (control_of made) order graphs → PlannedHaving made other order graphs
  having returning order graphs is have = planned-having made other returning order graphs flow is have

  have-many : (told : FlowFacts) (ranges : List code.Range) (graphs : List Graph) → HaveGraphs told (control_of made) ranges graphs → length graphs ≡ length ranges
  have-many told [] [] have = refl
  have-many told [] (graph ∷ graphs) have = absurd have
  have-many told (range ∷ ranges) [] have = absurd have
  have-many told (range ∷ ranges) (graph ∷ graphs) have = ap (λ (n : ℕ). suc n) (have-many told ranges graphs have.1)

  module _ (order : List code.Range) (graphs : List Graph) (h : PlannedHaving made other order graphs) where
    -- the order as control ranges
    order-is : map seen_range order ≡ Main ∷ h.planned.plan.others
    order-is =
        ap (λ (o : List code.Range). map seen_range o) (sym h.same) ∙ h.ranges

    at-order : (at : ℕ) (range : code.Range) → slice_get order at ≡ Some range → slice_get (Main ∷ h.planned.plan.others) at ≡ Some (seen_range range)
    at-order at range here = ap (λ (rs : List Range). slice_get rs at) (sym order-is) ∙ map-get seen_range order at range here

    size-within : length graphs ≡ length order → total_size graphs ≤ parts_of (control_of made).paragraphs
    size-within count =
        sums-within graphs (control_of made).paragraphs
        (count ∙ sym (first.map-size seen_range order) ∙ ap (λ (rs : List Range). length rs) order-is ∙ many h.planned)
        (λ at graph paragraph here there.
        let range = in-list order at (let lt = slice_get_within graphs at graph here in omega (arith, lt, count)) in
        subst (λ (g : Graph). graph_size g ≤ suc (total paragraph)) (sym (h.each at range.0 graph range.1 here))
        (graph-size h.planned at (seen_range range.0) paragraph (at-order at range.0 range.1) there))

    nests-within : (at : ℕ) (range : code.Range) (graph : Graph) → slice_get order at ≡ Some range → slice_get graphs at ≡ Some graph → result_nesting (closed_graph graph) ≤ max_nesting
    nests-within at range graph here there =
        subst (λ (g : Graph). result_nesting (closed_graph g) ≤ max_nesting) (sym (h.each at range graph here there))
        (through (result_nesting (closed_graph (graphs_by h.planned.plan (control_of made) (seen_range range)))) (program_levels (control_of made)) max_nesting
        (nests-at h.planned at (seen_range range) (at-order at range here)) depth)

  tokens-within : length (all_tokens (program_units made)) ≤ max_nodes → parts_of (control_of made).paragraphs ≤ max_nodes
  tokens-within few =
      through (parts_of (control_of made).paragraphs) (length (all_tokens (program_units made))) max_nodes
      (each-part made (λ k d lt. (have-names program made summary split k d lt).0)) few

  passes-none : (limit : Limit) → length (all_tokens (program_units made)) ≤ max_nodes → IsSplitFault made other (fault.Limit limit) → ⊥
  passes-none limit few (inl large) =
      let have = large.past.have in
      let h = having large.plan.returning large.plan.order large.past.graphs large.plan.is have in
      let le = size-within large.plan.order large.past.graphs h (have-many (flow_facts_of made.files large.plan.returning) large.plan.order large.past.graphs have) in
      clash (total_size large.past.graphs) (parts_of (control_of made).paragraphs) max_nodes le (tokens-within few) large.past.past
  passes-none limit few (inr deep) =
      let have = have-seen (flow_facts_of made.files deep.plan.returning) (control_of made) deep.plan.order deep.graphs deep.lowered.are in
      let h = having deep.plan.returning deep.plan.order (map seen_graph deep.graphs) deep.plan.is have in
      let there = map-get seen_graph deep.graphs deep.deep.at deep.deep.graph deep.deep.there in
      let count = have-many (flow_facts_of made.files deep.plan.returning) deep.plan.order (map seen_graph deep.graphs) have in
      let range = in-list deep.plan.order deep.deep.at (let lt = slice_get_within (map seen_graph deep.graphs) deep.deep.at (seen_graph deep.deep.graph) there in omega (arith, lt, count)) in
      let le = nests-within deep.plan.order (map seen_graph deep.graphs) h deep.deep.at range.0 (seen_graph deep.deep.graph) range.1 there in
      clash (result_nesting (closed_graph (seen_graph deep.deep.graph))) max_nesting max_nesting le (same-least max_nesting) deep.deep.deep

pub pass-none : SplitsPassNoLimit
pass-none = λ program made summary other limit well flows split well_made summed few fault.
    passes-none program made summary other well flows split well_made summed limit few fault
