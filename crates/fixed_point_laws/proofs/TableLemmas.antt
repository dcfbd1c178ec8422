-- The table of cells tells how many arms their choices have.
use Rattle.std.proofs.Common.{◌≡◌, ℕ, suc, ◌<◌, ◌≤◌, true, false, if◌then◌else◌, List, [], ◌∷◌, Some, refl, ap, ◌∙◌, arith}
use Rattle.std.specs.Prelude.{min}
use Rattle.control_flow_theory.specs.language.Language.{Range, same_range}
use Rattle.control_flow_theory.proofs.semantics_lemmas.Ranges.{same-range}
use Rattle.control_flow_theory.specs.graph_rules.Families.{Added, Never, Flag, Count, State, Exit}
use Rattle.control_flow_theory.specs.graph_rules.Reduced.{Graphs, size}
use Rattle.control_flow_theory.specs.graph_rules.Walked.{is_in, In}
use Rattle.control_flow_theory.specs.structuring.Closes.{closed_graph}
use Rattle.control_flow_theory.specs.main_theorem.Chain.{stmts_arms}
use Rattle.added_items.specs.item_table.Owners.{or_never, kind_in}
use Rattle.added_items.specs.item_table.Laws.{cell_range, closed_ranges}
use Rattle.added_items.specs.item_table.Row.{CellRange, of_range}
use Rattle.added_items.specs.item_table.Tables.{most_arms, few_arms, most_by}
use Rattle.fixed_point_laws.specs.Counting.{IsChosenBy}
use Rattle.fixed_point_laws.specs.Tables.{TablesTellArms}

-- the row of a range
pub closed-one : (order : List Range) (graphs : Graphs) (range : Range) → In range order →
    of_range (closed_ranges order graphs) range ≡ cell_range range (closed_graph (graphs range))
closed-one [] graphs range is = cc
closed-one (first ∷ others) graphs range is =
    elim (same_range first range) as (λ b. same_range first range ≡ b → (if b then true else is_in range others) ≡ true →
    (if b then cell_range first (closed_graph (graphs first)) else of_range (closed_ranges others graphs) range) ≡ cell_range range (closed_graph (graphs range))) [
      | true ↦ λ e h. ap (λ r. cell_range r (closed_graph (graphs r))) (same-range first range e)
      | false ↦ λ e h. closed-one others graphs range h
    ] refl is

few : (arms nodes : ℕ) → arms ≤ suc nodes → nodes < most_arms → few_arms (Some arms) ≡ arms
few arms nodes le lt = (let e : min arms 999999 ≡ arms = omega (arith, le, lt) in e)

by-kind : (kind : Added) → IsChosenBy kind → (arms nodes : ℕ) → arms ≤ suc nodes → nodes < most_arms → most_by (Some arms) kind ≡ arms
by-kind Never h arms nodes le lt = absurd h
by-kind Flag h arms nodes le lt = absurd h
by-kind Count h arms nodes le lt = absurd h
by-kind State h arms nodes le lt = few arms nodes le lt
by-kind Exit h arms nodes le lt = few arms nodes le lt

pub tell-arms : TablesTellArms
tell-arms = λ order graphs small range here cell kind is chosen arms found le.
    let ranges = closed_ranges order graphs in
    let graph = closed_graph (graphs range) in
    let one : of_range ranges range ≡ cell_range range graph = closed-one order graphs range here in
    let kind_is : kind_in (of_range ranges range).added cell ≡ kind = ap (λ (r : CellRange). kind_in r.added cell) one ∙ ap or_never is in
    let body : stmts_arms cell (of_range ranges range).body ≡ Some arms = ap (λ (r : CellRange). stmts_arms cell r.body) one ∙ found in
    ap (λ a. most_by a (kind_in (of_range ranges range).added cell)) body
    ∙ ap (most_by (Some arms)) kind_is ∙ by-kind kind chosen arms (size (graphs range).nodes) le (small range here)
