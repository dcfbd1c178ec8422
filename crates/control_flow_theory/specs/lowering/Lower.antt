-- Lowering: the trees that are built from rests, and the nodes of a range.
-- A counter cell has the number of the place of its loop. Rendering numbers cells anew, in the
-- order of their first mention.
use Rattle.std.specs.Prelude.{ℕ, suc, ◌+◌, ◌*◌, Bool, true, false, if◌then◌else◌, ◌==◌, List, [], ◌∷◌, ◌++◌, Option, Some, None, slice_get}
use Rattle.control_flow_theory.specs.language.Language.{Take, Lower, Test, Above, If, By, Control, Times, Until, Varying, Stmt, Do, Choose, Loop, Perform, Go, GoDepending, NextSentence, ExitParagraph, ExitSection, ExitPerform, StopRun, Stmts, none, also, Arms, done, given, missing, Body, Nested, Performed, Paragraph, Program, Range, Main, Part}
use Rattle.control_flow_theory.specs.semantics.Graph.{Label, Tree, tree, End, Pick, Jump, Return, Stop, Dead, Trees, no_more, more, body_of, end_of}
use Rattle.control_flow_theory.specs.lowering.FlowFacts.{FlowFacts}
use Rattle.control_flow_theory.specs.lowering.Completes.{first_is_dead, completes, cut, cut_body, whole, whole_body, size, sizes, skips}

-- the label of the point before a place
abbrev pub point : ℕ → Label
point place = 3 * place

-- the label of the head of the loop at a place
abbrev pub loop_head_label : ℕ → Label
loop_head_label place = 3 * place + 1

-- the label of the test or step of the loop at a place
abbrev pub loop_step_label : ℕ → Label
loop_step_label place = 3 * place + 2

-- a tree that is only an end
abbrev pub end_alone : End → Tree
end_alone end = tree none end

-- the statement before the tree
abbrev pub with_first : Stmt → Tree → Tree
with_first stmt t = tree (also stmt (body_of t)) (end_of t)

-- the label to which a loop's body comes back
abbrev pub loop_back_label : Control → ℕ → Label
loop_back_label (Times amount) place = loop_head_label place
loop_back_label (Until false test) place = loop_head_label place
loop_back_label (Until true test) place = loop_step_label place
loop_back_label (Varying after set step test) place = loop_step_label place

-- the tree before the loop with an escape at this place
abbrev pub loop_start : Control → ℕ → Tree
loop_start (Times amount) place =
    tree (also (Do (Take place amount)) none) (Jump (loop_head_label place))
loop_start (Until after test) place = end_alone (Jump (loop_head_label place))
loop_start (Varying after set step test) place =
    tree (also (Do set) none) (Jump (loop_head_label place))

-- labels in order with their trees
pub record Node : Type 0 where
  -- the label
  pub key : Label
  pub tree : Tree

-- the tree at this label
abbrev pub node : Label → Tree → Node
node key at_key = record { key = key; tree = at_key }

-- the choice of a test, with the tree where it holds first
abbrev pub by_test : Test → Tree → Tree → Tree
by_test test holds fails = end_alone (Pick (If test) (more holds (more fails no_more)))

-- the nodes of a loop with an escape, by the tree of its body and the continuation
abbrev pub loop_nodes : Control → ℕ → Tree → End → List Node
loop_nodes (Times amount) place body after =
    node (loop_head_label place)
    (by_test (Above place) (with_first (Do (Lower place)) body) (end_alone after)) ∷ []
loop_nodes (Until false test) place body after =
    node (loop_head_label place) (by_test test (end_alone after) body) ∷ []
loop_nodes (Until true test) place body after =
    node (loop_head_label place) body
    ∷ node (loop_step_label place)
    (by_test test (end_alone after) (end_alone (Jump (loop_head_label place)))) ∷ []
loop_nodes (Varying false set step test) place body after =
    node (loop_head_label place) (by_test test (end_alone after) body)
    ∷ node (loop_step_label place) (tree (also (Do step) none) (Jump (loop_head_label place))) ∷ []
loop_nodes (Varying true set step test) place body after =
    node (loop_head_label place) body
    ∷ node (loop_step_label place)
    (by_test test (end_alone after) (tree (also (Do step) none) (Jump (loop_head_label place))))
    ∷ []

-- where what leaves a rest goes on: after its sentence, at the end of its paragraph or of the one
-- with a number, after
-- the innermost loop that holds it, and at the next turn of that loop
pub record EscapeTargets : Type 0 where
  -- after its sentence
  pub sentence : End
  -- at the end of its paragraph
  pub paragraph : End
  -- at the end of the paragraph with this number
  pub section : ℕ → End
  -- after the innermost loop that holds it
  pub loop : End
  -- at the next turn of that loop
  pub cycle : End

-- within the loop whose continuation and next turn are these
abbrev pub within_loop : EscapeTargets → End → End → EscapeTargets
within_loop leaving after turn = record {
  sentence = leaving.sentence;
  paragraph = leaving.paragraph;
  section = leaving.section;
  loop = after;
  cycle = turn;
}

-- EXIT PERFORM leaves the loop, and with CYCLE the turn
abbrev pub loop_left : Bool → EscapeTargets → End
loop_left false leaving = leaving.loop
loop_left true leaving = leaving.cycle

-- what lowering knows, and the place of each paragraph
module _ (told : FlowFacts) (place_of : ℕ → ℕ) where
  -- a statement without an escape, and then the tree; Dead where the statement can't complete
  abbrev pub push : Stmt → Tree → Tree
  push stmt behind =
      if completes told stmt then with_first (cut told stmt) behind
      else tree (also (cut told stmt) none) Dead

  -- where a rest goes on that begins with this statement, at this place, with that continuation
  -- after it
  abbrev pub leaf_stmt : Stmt → ℕ → End → End
  leaf_stmt (Do act) place after = if skips told act then after else Jump (point place)
  leaf_stmt (Choose picker arms) place after = Jump (point place)
  leaf_stmt (Loop control body) place after = Jump (point place)
  leaf_stmt (Perform entry exit) place after = Jump (point place)
  leaf_stmt (Go to) place after = Jump (point (place_of to))
  leaf_stmt (GoDepending to on) place after = Jump (point place)
  leaf_stmt NextSentence place after = Jump (point place)
  leaf_stmt ExitParagraph place after = Jump (point place)
  leaf_stmt (ExitSection last) place after = Jump (point place)
  leaf_stmt (ExitPerform cycle) place after = Jump (point place)
  leaf_stmt StopRun place after = Stop

  -- where a rest goes on that begins with these statements
  abbrev pub leaf : Stmts → ℕ → End → End
  leaf none place after = after
  leaf (also stmt stmts) place after = leaf_stmt stmt place (leaf stmts (place + size stmt) after)

  -- the names of a GO TO DEPENDING, and the missing arm last
  abbrev pub depending : List ℕ → End → Trees
  depending [] after = more (end_alone after) no_more
  depending (to ∷ others) after =
      more (end_alone (Jump (point (place_of to)))) (depending others after)

  -- the tree of a rest that begins with these statements: where what leaves it goes on, the
  -- continuation after the statements,
  -- and the tree of what follows them
  abbrev mutual
    pub build_stmt : Stmt → ℕ → EscapeTargets → End → Tree → Tree
    build_stmt (Do act) place leaving after behind =
        if skips told act then behind else push (Do act) behind
    build_stmt (Choose picker arms) place leaving after behind =
        if whole (cut told (Choose picker arms))
        then push (Choose picker arms) behind
        else end_alone (Pick picker
        (build_arms (first_is_dead told picker) arms (place + 1) leaving after))
    build_stmt (Loop control body) place leaving after behind =
        if whole_body (cut_body told body) then push (Loop control body) behind
        else loop_start control place
    build_stmt (Perform entry exit) place leaving after behind = push (Perform entry exit) behind
    build_stmt (Go to) place leaving after behind = end_alone (Jump (point (place_of to)))
    build_stmt (GoDepending to on) place leaving after behind =
        end_alone (Pick (By on) (depending to after))
    build_stmt NextSentence place leaving after behind = end_alone leaving.sentence
    build_stmt ExitParagraph place leaving after behind = end_alone leaving.paragraph
    build_stmt (ExitSection last) place leaving after behind = end_alone (leaving.section last)
    build_stmt (ExitPerform cycle) place leaving after behind = end_alone (loop_left cycle leaving)
    build_stmt StopRun place leaving after behind = end_alone Stop

    -- the same of several statements
    pub build : Stmts → ℕ → EscapeTargets → End → Tree → Tree
    build none place leaving after behind = behind
    build (also stmt stmts) place leaving after behind =
        build_stmt stmt place leaving (leaf stmts (place + size stmt) after)
        (build stmts (place + size stmt) leaving after behind)

    -- the arms of a choice with an escape; a missing first arm that is never given is Dead
    pub build_arms : Bool → Arms → ℕ → EscapeTargets → End → Trees
    build_arms first done place leaving after = no_more
    build_arms first (given arm others) place leaving after =
        more (build arm place leaving after (end_alone after))
        (build_arms false others (place + sizes arm) leaving after)
    build_arms first (missing others) place leaving after =
        more (end_alone (if first then Dead else after))
        (build_arms false others place leaving after)

  -- The nodes of statements, in the order of their labels. The tree of a label inside an arm runs
  -- on through what comes
  -- after the arm; only the arms of a Pick end by the jump that is the continuation.

  abbrev mutual
    -- the nodes within a statement at this place
    pub nodes_in : Stmt → ℕ → EscapeTargets → End → Tree → List Node
    nodes_in (Do act) place leaving after behind = []
    nodes_in (Choose picker arms) place leaving after behind =
        nodes_of_arms arms (place + 1) leaving after behind
    nodes_in (Loop control body) place leaving after behind =
        nodes_of_body body control place leaving after
    nodes_in (Perform entry exit) place leaving after behind = []
    nodes_in (Go to) place leaving after behind = []
    nodes_in (GoDepending to on) place leaving after behind = []
    nodes_in NextSentence place leaving after behind = []
    nodes_in ExitParagraph place leaving after behind = []
    nodes_in (ExitSection last) place leaving after behind = []
    nodes_in (ExitPerform cycle) place leaving after behind = []
    nodes_in StopRun place leaving after behind = []

    -- the nodes of statements from this place on: of each its point, and those within it
    pub nodes : Stmts → ℕ → EscapeTargets → End → Tree → List Node
    nodes none place leaving after behind = []
    nodes (also stmt stmts) place leaving after behind =
        node (point place)
        (build_stmt stmt place leaving (leaf stmts (place + size stmt) after)
        (build stmts (place + size stmt) leaving after behind))
        ∷ (nodes_in stmt place leaving (leaf stmts (place + size stmt) after)
        (build stmts (place + size stmt) leaving after behind)
        ++ nodes stmts (place + size stmt) leaving after behind)

    -- the nodes of the arms' statements
    pub nodes_of_arms : Arms → ℕ → EscapeTargets → End → Tree → List Node
    nodes_of_arms done place leaving after behind = []
    nodes_of_arms (given arm others) place leaving after behind =
        nodes arm place leaving after behind ++ nodes_of_arms others (place + sizes arm)
        leaving after behind
    nodes_of_arms (missing others) place leaving after behind =
        nodes_of_arms others place leaving after behind

    -- the nodes of a loop at this place, and those of the statements of its body
    pub nodes_of_body : Body → Control → ℕ → EscapeTargets → End → List Node
    nodes_of_body (Nested stmts) control place leaving after =
        loop_nodes control place
        (build stmts (place + 1) (within_loop leaving after (Jump (loop_back_label control place)))
        (Jump (loop_back_label control place)) (end_alone (Jump (loop_back_label control place))))
        after
        ++ nodes stmts (place + 1)
        (within_loop leaving after (Jump (loop_back_label control place)))
        (Jump (loop_back_label control place)) (end_alone (Jump (loop_back_label control place)))
    nodes_of_body (Performed entry exit) control place leaving after = []

-- where a range goes on after a paragraph that isn't its exit
abbrev pub fall_leaf : (ℕ → ℕ) → ℕ → Option Paragraph → End
fall_leaf place_of number None = Stop
fall_leaf place_of number (Some next) = Jump (point (place_of (suc number)))

-- the end of a paragraph in a range
abbrev pub paragraph_end_target : (ℕ → ℕ) → Program → Range → ℕ → End
paragraph_end_target place_of program Main number =
    fall_leaf place_of number (slice_get program.paragraphs (suc number))
paragraph_end_target place_of program (Part entry exit) number =
    if exit == number then Return
    else fall_leaf place_of number (slice_get program.paragraphs (suc number))

-- where escapes lead at the beginning of a paragraph in a range: no loop is held there, so what
-- leaves one leaves the paragraph
abbrev pub leaving_at : (ℕ → ℕ) → Program → Range → ℕ → EscapeTargets
leaving_at place_of program range number = record {
  sentence = paragraph_end_target place_of program range number;
  paragraph = paragraph_end_target place_of program range number;
  section = paragraph_end_target place_of program range;
  loop = paragraph_end_target place_of program range number;
  cycle = paragraph_end_target place_of program range number;
}
