-- What the rules write of cells may be written with their table.
use Rattle.std.proofs.Common.{◌≡◌, ℕ, suc, ◌^◌, ◌<◌, ◌≤◌, nat_le, nat_lt, ◌&&◌, true, false, not, if◌then◌else◌, List, [], ◌∷◌, Some, refl, ap, ◌∙◌, arith, le-leb, lt-ltb}
use Rattle.std.specs.Prelude.{is_some, min}
use Rattle.control_flow_theory.specs.language.Language.{Range, Stmts, same_range}
use Rattle.control_flow_theory.specs.semantics.Graph.{body_of}
use Rattle.control_flow_theory.proofs.semantics_lemmas.Ranges.{same-range}
use Rattle.control_flow_theory.specs.graph_rules.Families.{Added, Never, Flag, Count, State, Exit}
use Rattle.control_flow_theory.specs.graph_rules.Reduced.{Graphs, kind_at, tree_in, size}
use Rattle.control_flow_theory.specs.graph_rules.Walked.{is_in, In}
use Rattle.control_flow_theory.specs.structuring.Closes.{closed_graph}
use Rattle.control_flow_theory.specs.rendering.Procedures.{Writable}
use Rattle.meanings.specs.statements.Filing.{Declared}
use Rattle.cobol_theory.specs.added_items.Widened.{AddedItems}
use Rattle.cobol_theory.specs.cell_serving.Table.{CellTable}
use Rattle.cobol_theory.specs.cell_serving.Tested.{kinds_of, is_plain}
use Rattle.control_flow_theory.specs.main_theorem.Chain.{stmts_arms, ChoiceServed, KindServed}
use Rattle.added_items.specs.item_table.Owners.{is_never, or_never, kind_in}
use Rattle.added_items.specs.item_table.Laws.{cell_range, closed_ranges, ClosedCellsAreServed}
use Rattle.added_items.specs.item_table.Naming.{digits_of, is_signed}
use Rattle.added_items.specs.item_table.Row.{CellRange, of_range}
use Rattle.added_items.specs.item_table.Tables.{most_arms, few_arms, most_by, table_of_cells}

-- ---- one cell, by what the table has at it

module _ (declared : Declared) (added : AddedItems) (table : CellTable) (range : Range) (body : Stmts) (nodes cell : ℕ)
    (stands : table.stands range cell ≡ true) where
  abbrev kinds : Writable
  kinds = kinds_of declared added table

  plain : table.signed range cell ≡ false → is_plain declared added table range cell ≡ true
  plain signed = ap (λ b. b && not (table.signed range cell)) stands ∙ ap not signed

  compared : (value most : ℕ) → table.signed range cell ≡ false → table.most range cell ≡ most → value ≤ most → kinds.compares range cell value ≡ true
  compared value most signed is le =
      ap (λ b. b && nat_le value (table.most range cell)) (plain signed)
      ∙ ap (nat_le value) is ∙ le-leb value most le

  set : (value most : ℕ) → table.signed range cell ≡ false → table.changes range cell ≡ true → table.most range cell ≡ most → value ≤ most →
      kinds.sets range cell value ≡ true
  set value most signed changes is le =
      let one : (is_plain declared added table range cell && table.changes range cell) ≡ true =
      ap (λ b. b && table.changes range cell) (plain signed) ∙ changes in
      ap (λ b. b && nat_le value (table.most range cell)) one ∙ ap (nat_le value) is ∙ le-leb value most le

  chosen : (arms : ℕ) → table.signed range cell ≡ false → table.most range cell ≡ arms → table.digits range cell ≡ 6 → arms < 1000000 →
      kinds.chooses range cell arms ≡ true
  chosen arms signed is digits less =
      let one : (is_plain declared added table range cell && nat_le (table.most range cell) arms) ≡ true =
      ap (λ b. b && nat_le (table.most range cell) arms) (plain signed) ∙ ap (λ n. nat_le n arms) is ∙ le-leb arms arms (omega arith) in
      ap (λ b. b && nat_lt arms (10 ^ table.digits range cell)) one ∙ ap (λ n. nat_lt arms (10 ^ n)) digits ∙ lt-ltb arms 1000000 less

  by-choice : table.signed range cell ≡ false → table.changes range cell ≡ true → table.digits range cell ≡ 6 →
      table.most range cell ≡ few_arms (stmts_arms cell body) → nodes < most_arms → ChoiceServed kinds range body (suc nodes) cell
  by-choice signed changes digits is few = λ arms found le.
      let most : table.most range cell ≡ arms = is ∙ ap few_arms found ∙ (let e : min arms 999999 ≡ arms = omega (arith, le, few) in e) in
      ((λ value within. set value arms signed changes most within), chosen arms signed most digits (omega (arith, le, few)))

  pub kind-served : (kind : Added) → table.changes range cell ≡ not (is_never kind) → table.signed range cell ≡ is_signed kind →
      table.digits range cell ≡ digits_of kind → table.most range cell ≡ most_by (stmts_arms cell body) kind → nodes < most_arms →
      KindServed kinds range body (suc nodes) cell kind
  kind-served Never changes signed digits most few = compared 1 1 signed most (omega arith)
  kind-served Flag changes signed digits most few =
      (set 0 1 signed changes most (omega arith), set 1 1 signed changes most (omega arith), compared 1 1 signed most (omega arith))
  kind-served Count changes signed digits most few = tt
  kind-served State changes signed digits most few =
      (compared 0 (few_arms (stmts_arms cell body)) signed most (omega arith), by-choice signed changes digits most few)
  kind-served Exit changes signed digits most few = (stands, by-choice signed changes digits most few)

-- ---- the closed graph of a range

closed-one : (order : List Range) (graphs : Graphs) (range : Range) → In range order →
    of_range (closed_ranges order graphs) range ≡ cell_range range (closed_graph (graphs range))
closed-one [] graphs range is = cc
closed-one (first ∷ others) graphs range is =
    elim (same_range first range) as (λ b. same_range first range ≡ b → (if b then true else is_in range others) ≡ true →
    (if b then cell_range first (closed_graph (graphs first)) else of_range (closed_ranges others graphs) range) ≡ cell_range range (closed_graph (graphs range))) [
      | true ↦ λ e h. ap (λ r. cell_range r (closed_graph (graphs r))) (same-range first range e)
      | false ↦ λ e h. closed-one others graphs range h
    ] refl is

pub are-served : ClosedCellsAreServed
are-served declared added order graphs few range in_order cell kind is =
    let ranges = closed_ranges order graphs in
    let graph = closed_graph (graphs range) in
    let table = table_of_cells ranges in
    let one : of_range ranges range ≡ cell_range range graph = closed-one order graphs range in_order in
    let found : kind_at (of_range ranges range).added cell ≡ Some kind = ap (λ (r : CellRange). kind_at r.added cell) one ∙ is in
    let kind_is : kind_in (of_range ranges range).added cell ≡ kind = ap or_never found in
    let body : stmts_arms cell (of_range ranges range).body ≡ stmts_arms cell (body_of (tree_in graph.nodes graph.entry)) =
    ap (λ (r : CellRange). stmts_arms cell r.body) one in
    kind-served declared added table range (body_of (tree_in graph.nodes graph.entry)) (size (graphs range).nodes) cell
    (ap is_some found) kind (ap (λ k. not (is_never k)) kind_is) (ap is_signed kind_is) (ap digits_of kind_is)
    (ap (λ a. most_by a (kind_in (of_range ranges range).added cell)) body
    ∙ ap (most_by (stmts_arms cell (body_of (tree_in graph.nodes graph.entry)))) kind_is)
    (few range in_order)
