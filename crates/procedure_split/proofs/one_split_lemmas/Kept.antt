-- Graphs of nodes that are kept alike.
use Rattle.std.proofs.Common.{◌≡◌, ℕ, ◌+◌, Bool, true, false, if◌then◌else◌, List, [], ◌∷◌, ◌++◌, refl, ap, ap₂, sym, ◌∙◌}
use Rattle.control_flow_theory.specs.language.Language.{Control, Times, Until, Varying, Stmt, Do, Choose, Loop, Perform, Go, GoDepending, NextSentence, ExitParagraph, ExitSection, ExitPerform, StopRun, Stmts, none, also, Arms, done, given, missing, Body, Nested, Performed, Paragraph, Program, Range}
use Rattle.control_flow_theory.specs.semantics.Graph.{Label}
use Rattle.control_flow_theory.specs.lowering.FlowFacts.{FlowFacts}
use Rattle.control_flow_theory.specs.lowering.Completes.{size, sizes}
use Rattle.control_flow_theory.specs.lowering.Lower as lower
use Rattle.control_flow_theory.specs.lowering.Lower.{Node}
use Rattle.control_flow_theory.specs.lowering.Lowered.{total, nodes_of, lowered}
use Rattle.control_flow_theory.specs.lowering.Reached.{kept_nodes}
use Rattle.control_flow_theory.specs.graph_rules.Reduced as reduced
use Rattle.control_flow_theory.specs.main_theorem.Chain.{graph_nodes}
use Rattle.control_flow_theory.specs.main_theorem.Numbering.{place_among, control_counters, stmt_counters, stmts_counters, arms_counters, body_counters, paragraph_counters, paragraphs_counters, counters_of, counts}
use Rattle.procedure_split.specs.shaped_ranges.Graphs.{IsGraphOf, graph_by}

module _ (keep also_keep : Label → Bool) (same : (label : Label) → keep label ≡ also_keep label) where
  kept-same : (nodes : List Node) → kept_nodes keep nodes ≡ kept_nodes also_keep nodes
  kept-same [] = refl
  kept-same (one ∷ others) =
      ap₂ (λ (b : Bool) (kept : List Node). if b then one ∷ kept else kept) (same one.key)
      (kept-same others)

  control-same : (control : Control) (place : ℕ) →
      control_counters keep control place ≡ control_counters also_keep control place
  control-same (Times amount) place =
      ap (λ (b : Bool). if b then place ∷ [] else []) (same (lower.loop_head_label place))
  control-same (Until after test) place = refl
  control-same (Varying after set step test) place = refl

  mutual
    stmt-same : (stmt : Stmt) (place : ℕ) →
        stmt_counters keep stmt place ≡ stmt_counters also_keep stmt place
    stmt-same (Do act) place = refl
    stmt-same (Choose picker arms) place = arms-same arms (place + 1)
    stmt-same (Loop control body) place = body-same body control place
    stmt-same (Perform entry exit) place = refl
    stmt-same (Go to) place = refl
    stmt-same (GoDepending to chooser) place = refl
    stmt-same NextSentence place = refl
    stmt-same ExitParagraph place = refl
    stmt-same (ExitSection last) place = refl
    stmt-same (ExitPerform cycle) place = refl
    stmt-same StopRun place = refl

    stmts-same : (stmts : Stmts) (place : ℕ) →
        stmts_counters keep stmts place ≡ stmts_counters also_keep stmts place
    stmts-same none place = refl
    stmts-same (also stmt stmts) place =
        ap₂ ◌++◌ (stmt-same stmt place) (stmts-same stmts (place + size stmt))

    arms-same : (arms : Arms) (place : ℕ) →
        arms_counters keep arms place ≡ arms_counters also_keep arms place
    arms-same done place = refl
    arms-same (given arm others) place =
        ap₂ ◌++◌ (stmts-same arm place) (arms-same others (place + sizes arm))
    arms-same (missing others) place = arms-same others place

    body-same : (body : Body) (control : Control) (place : ℕ) →
        body_counters keep body control place ≡ body_counters also_keep body control place
    body-same (Nested stmts) control place =
        ap₂ ◌++◌ (control-same control place) (stmts-same stmts (place + 1))
    body-same (Performed entry exit) control place = refl

  paragraph-same : (paragraph : Paragraph) (place : ℕ) →
      paragraph_counters keep paragraph place ≡ paragraph_counters also_keep paragraph place
  paragraph-same [] place = refl
  paragraph-same (sentence ∷ sentences) place =
      ap₂ ◌++◌ (stmts-same sentence place)
      (paragraph-same sentences (place + sizes sentence))

  paragraphs-same : (paragraphs : List Paragraph) (place : ℕ) →
      paragraphs_counters keep paragraphs place ≡ paragraphs_counters also_keep paragraphs place
  paragraphs-same [] place = refl
  paragraphs-same (paragraph ∷ others) place =
      ap₂ ◌++◌ (paragraph-same paragraph (place + 1))
      (paragraphs-same others (place + 1 + total paragraph))

  counters-same : (program : Program) → counters_of keep program ≡ counters_of also_keep program
  counters-same program = paragraphs-same program.paragraphs 0

  graphs-alike : (told : FlowFacts) (program : Program) (range : Range) →
      graph_by told program keep range ≡ graph_by told program also_keep range
  graphs-alike told program range =
      ap₂ (λ (counters : List ℕ) (kept : List Node). (
      let graph : reduced.Graph = record {
        entry = (lowered told program).entry range;
        nodes = graph_nodes (place_among counters) kept;
        added = counts counters;
      } in graph
      )) (counters-same program) (kept-same (nodes_of told program range))

bools-same : (a b : Bool) → (a ≡ true → b ≡ true) → (b ≡ true → a ≡ true) → a ≡ b
bools-same true b to from = sym (to refl)
bools-same false true to from = from refl
bools-same false false to from = refl

-- a range has one graph
pub one-graph : (told : FlowFacts) (program : Program) (range : Range) (graph other : reduced.Graph) →
    IsGraphOf told program range graph → IsGraphOf told program range other → graph ≡ other
one-graph told program range graph other is also_is =
    is.is
    ∙ graphs-alike is.keep also_is.keep
    (λ label. bools-same (is.keep label) (also_is.keep label)
    (λ kept. also_is.just.1 label (is.just.0 label kept))
    (λ kept. is.just.1 label (also_is.just.0 label kept))) told program range
    ∙ sym also_is.is
