-- Nothing is added where no graph has a counter.
use Rattle.std.proofs.Common.{◌≡◌, ℕ, suc, ◌+◌, Bool, true, false, if◌then◌else◌, List, [], ◌∷◌, ◌++◌, length, map, Some, refl, ap, sym, ◌∙◌, subst, arith}
use Rattle.std.specs.Prelude.{slice_get}
use Rattle.std.proofs.lemmas.Bool.{le-ltb}
use Rattle.control_flow_theory.specs.language.Language.{Control, Times, Until, Varying, Stmt, Do, Choose, Loop, Perform, Go, GoDepending, NextSentence, ExitParagraph, ExitSection, ExitPerform, StopRun, Stmts, none, also, Arms, done, given, missing, Body, Nested, Performed, Paragraph, Program, Range}
use Rattle.control_flow_theory.specs.semantics.Graph.{Label, Tree, tree, End, Pick, Jump, Return, Stop, Dead, end_of, Family}
use Rattle.control_flow_theory.specs.lowering.Lower as lower
use Rattle.control_flow_theory.specs.lowering.Completes.{size, sizes}
use Rattle.control_flow_theory.specs.lowering.Lowered.{total, lowered, place_in}
use Rattle.control_flow_theory.specs.lowering.flow.Comes.{entry_of}
use Rattle.control_flow_theory.specs.lowering.Reached.{JumpsTo, IsReached, entered, jumped}
use Rattle.control_flow_theory.specs.lowering.Renamed.{end_anew, tree_anew}
use Rattle.control_flow_theory.specs.lowering.WellFormed.{AreJustReached}
use Rattle.control_flow_theory.specs.graph_rules.Families.{Added}
use Rattle.control_flow_theory.specs.graph_rules.Reduced.{Node, tree_in}
use Rattle.control_flow_theory.specs.structuring.Laws.{PlainEnd}
use Rattle.control_flow_theory.specs.main_theorem.MainTheorem.{Plan, graphs_by}
use Rattle.control_flow_theory.specs.main_theorem.Numbering.{control_counters, stmt_counters, stmts_counters, arms_counters, body_counters, paragraph_counters, paragraphs_counters, counts, numbers_by, added_by}
use Rattle.control_flow_theory.proofs.semantics_lemmas.Ranges.{eq-self}
use Rattle.control_flow_theory.proofs.main_theorem_lemmas.graphs.LoweredGraphs.{graphs-family}
use Rattle.added_items.specs.mentions.CellUse.{cells_named}
use Rattle.added_items.specs.item_table.Owners.{item_kinds, owner_of, kind_in, counted_on, each_once}
use Rattle.added_items.specs.item_table.Naming.{all_from_one, entries_from}
use Rattle.added_items.specs.item_table.Row.{CellRange, in_row, kinds_of_row, named_behind}
use Rattle.fixed_point_laws.specs.Adding.{LoneNodesCountNothing, RangesWithoutCellsAddNothing}

-- ---- without kept heads there are no counters

module _ (keep : Label → Bool) (none_kept : (place : ℕ) → keep (lower.loop_head_label place) ≡ false) where
  both-empty : (xs ys : List ℕ) → xs ≡ [] → ys ≡ [] → xs ++ ys ≡ []
  both-empty xs ys e f = ap (λ zs. zs ++ ys) e ∙ f

  control-none : (control : Control) (place : ℕ) → control_counters keep control place ≡ []
  control-none (Times amount) place = ap (λ b. if b then place ∷ [] else []) (none_kept place)
  control-none (Until after test) place = refl
  control-none (Varying after set step test) place = refl

  mutual
    stmt-none : (stmt : Stmt) (place : ℕ) → stmt_counters keep stmt place ≡ []
    stmt-none (Do act) place = refl
    stmt-none (Choose picker arms) place = arms-none arms (place + 1)
    stmt-none (Loop control body) place = body-none body control place
    stmt-none (Perform entry exit) place = refl
    stmt-none (Go to) place = refl
    stmt-none (GoDepending to chooser) place = refl
    stmt-none NextSentence place = refl
    stmt-none ExitParagraph place = refl
    stmt-none (ExitSection last) place = refl
    stmt-none (ExitPerform cycle) place = refl
    stmt-none StopRun place = refl

    stmts-none : (stmts : Stmts) (place : ℕ) → stmts_counters keep stmts place ≡ []
    stmts-none none place = refl
    stmts-none (also stmt stmts) place =
        both-empty (stmt_counters keep stmt place) (stmts_counters keep stmts (place + size stmt)) (stmt-none stmt place) (stmts-none stmts (place + size stmt))

    arms-none : (arms : Arms) (place : ℕ) → arms_counters keep arms place ≡ []
    arms-none done place = refl
    arms-none (given arm others) place =
        both-empty (stmts_counters keep arm place) (arms_counters keep others (place + sizes arm)) (stmts-none arm place) (arms-none others (place + sizes arm))
    arms-none (missing others) place = arms-none others place

    body-none : (body : Body) (control : Control) (place : ℕ) → body_counters keep body control place ≡ []
    body-none (Nested stmts) control place =
        both-empty (control_counters keep control place) (stmts_counters keep stmts (place + 1)) (control-none control place) (stmts-none stmts (place + 1))
    body-none (Performed entry exit) control place = refl

  paragraph-none : (paragraph : Paragraph) (place : ℕ) → paragraph_counters keep paragraph place ≡ []
  paragraph-none [] place = refl
  paragraph-none (sentence ∷ sentences) place =
      both-empty (stmts_counters keep sentence place) (paragraph_counters keep sentences (place + sizes sentence)) (stmts-none sentence place) (paragraph-none sentences (place + sizes sentence))

  paragraphs-none : (paragraphs : List Paragraph) (place : ℕ) → paragraphs_counters keep paragraphs place ≡ []
  paragraphs-none [] place = refl
  paragraphs-none (paragraph ∷ others) place =
      both-empty (paragraph_counters keep paragraph (place + 1)) (paragraphs_counters keep others (place + 1 + total paragraph)) (paragraph-none paragraph (place + 1)) (paragraphs-none others (place + 1 + total paragraph))

-- ---- from an entry that jumps nowhere nothing else is reached

plain-goes-nowhere : (end : End) (to : Label) → PlainEnd end → JumpsTo to end → ⊥
plain-goes-nowhere (Pick picker arms) to plain jumps = plain
plain-goes-nowhere (Jump there) to plain jumps = plain
plain-goes-nowhere Return to plain jumps = jumps
plain-goes-nowhere Stop to plain jumps = jumps
plain-goes-nowhere Dead to plain jumps = jumps

entry-alone : (family : Family) (range : Range) → PlainEnd (end_of (family.node range (family.entry range))) → (label : Label) → IsReached family range label → label ≡ family.entry range
entry-alone family range plain label entered = refl
entry-alone family range plain label (jumped from to is jumps) =
    let here = entry-alone family range plain from is in
    absurd (plain-goes-nowhere (end_of (family.node range (family.entry range))) to plain
    (subst (λ l. JumpsTo to (end_of (family.node range l))) here jumps))

plain-anew : (number : ℕ → ℕ) (end : End) → PlainEnd (end_anew number end) → PlainEnd end
plain-anew number (Pick picker arms) h = h
plain-anew number (Jump to) h = h
plain-anew number Return h = tt
plain-anew number Stop h = tt
plain-anew number Dead h = tt

tree-plain : (number : ℕ → ℕ) (one : Tree) → PlainEnd (end_of (tree_anew number one)) → PlainEnd (end_of one)
tree-plain number (tree body end) h = plain-anew number end h

apart : (b : Bool) → (b ≡ true → ⊥) → b ≡ false
apart true h = absurd (h refl)
apart false h = refl

no-head : (place other : ℕ) → lower.loop_head_label place ≡ lower.point other → ⊥
no-head place other e = absurd (omega (arith, e))

module _ (plan : Plan) (program : Program) (range : Range) (just : AreJustReached plan.told program range (plan.keep range)) (left : Tree) (plain : PlainEnd (end_of left))
    (nodes : (graphs_by plan program range).nodes ≡ record { label = (lowered plan.told program).entry range; tree = left } ∷ []) where
  abbrev entry : Label
  entry = (lowered plan.told program).entry range

  abbrev numbers : Range → ℕ → ℕ
  numbers = numbers_by plan.keep program

  abbrev alone : List Node
  alone = record { label = entry; tree = left } ∷ []

  found : tree_in (graphs_by plan program range).nodes entry ≡ left
  found = ap (λ ns. tree_in ns entry) nodes ∙ ap (λ b. if b then left else tree_in [] entry) (eq-self entry)

  anew : tree_anew (numbers range) ((lowered plan.told program).node range entry) ≡ left
  anew =
      ap (λ b. tree_anew (numbers range) (if b then (lowered plan.told program).node range entry else lower.end_alone Dead)) (sym (just.1 entry entered))
      ∙ ap (λ f. f.node range entry) (graphs-family plan.told program plan.keep numbers (added_by plan.keep program))
      ∙ found

  ends : PlainEnd (end_of ((lowered plan.told program).node range entry))
  ends = tree-plain (numbers range) ((lowered plan.told program).node range entry) (subst (λ t. PlainEnd (end_of t)) (sym anew) plain)

  heads : (place : ℕ) → plan.keep range (lower.loop_head_label place) ≡ false
  heads place =
      apart (plan.keep range (lower.loop_head_label place)) (λ is.
      no-head place (place_in program (entry_of range)) (entry-alone (lowered plan.told program) range ends (lower.loop_head_label place) (just.0 (lower.loop_head_label place) is)))

  pub no-counters : (graphs_by plan program range).added ≡ []
  no-counters = ap counts (paragraphs-none (plan.keep range) heads program.paragraphs 0)

pub count-nothing : LoneNodesCountNothing
count-nothing = λ plan program range just left plain nodes. no-counters plan program range just left plain nodes

-- ---- without cells there are no items

none-in-row : (before : ℕ) (cells : List ℕ) → in_row before 0 cells ≡ []
none-in-row before [] = refl
none-in-row before (cell ∷ cells) =
    ap (λ b. if b then (before + cell) ∷ in_row before 0 cells else in_row before 0 cells) (le-ltb cell 0 (omega arith))
    ∙ none-in-row before cells

abbrev Without : List CellRange → Type 0
Without rows = (number : ℕ) (row : CellRange) → slice_get rows number ≡ Some row → row.added ≡ []

no-kinds : (rows : List CellRange) → Without rows → kinds_of_row rows ≡ []
no-kinds [] h = refl
no-kinds (row ∷ rows) h = ap (λ added. added ++ kinds_of_row rows) (h 0 row refl) ∙ no-kinds rows (λ n r e. h (suc n) r e)

none-named : (before : ℕ) (rows : List CellRange) → Without rows → named_behind before rows ≡ []
none-named before [] h = refl
none-named before (row ∷ rows) h =
    let size : length row.added ≡ 0 = ap (λ (added : List Added). length added) (h 0 row refl) in
    ap (λ n. in_row before n (cells_named row.body) ++ named_behind (before + length row.added) rows) size
    ∙ ap (λ ns. ns ++ named_behind (before + length row.added) rows) (none-in-row before (cells_named row.body))
    ∙ none-named (before + length row.added) rows (λ n r e. h (suc n) r e)

no-items : (rows : List CellRange) → Without rows → item_kinds rows ≡ []
no-items rows h =
    let kinds = kinds_of_row rows in
    ap (λ named. map (kind_in kinds) (each_once [] (map (owner_of kinds) (named ++ counted_on 0 (length kinds))))) (none-named 0 rows h)
    ∙ ap (λ n. map (kind_in kinds) (each_once [] (map (owner_of kinds) (counted_on 0 n)))) (ap (λ (ks : List Added). length ks) (no-kinds rows h))

pub add-nothing : RangesWithoutCellsAddNothing
add-nothing = λ words rows h. (no-items rows h, ap (λ kinds. entries_from words all_from_one kinds) (no-items rows h))
