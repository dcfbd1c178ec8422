-- How a loop is tested.
use Rattle.std.specs.Prelude.{Bool, true, false, if◌then◌else◌, ◌&&◌, Option, Some, None, is_some}
use Rattle.control_flow_theory.specs.language.Language.{Until, Loop, Nested, Stmt, Stmts, none, also}
use Rattle.control_flow_theory.specs.semantics.Graph.{Label, Tree, tree, End, Trees, no_more, more, Dead, body_of, end_of}
use Rattle.control_flow_theory.specs.graph_rules.Loops.{turned_test}
use Rattle.control_flow_theory.specs.graph_rules.Shapes.{alone, followed, Live, ToLabel, end_at, Targets, NoTarget, Only, Several}
use Rattle.control_flow_theory.specs.graph_rules.Reduced.{form_of, is_leaf, stays}
use Rattle.control_flow_theory.specs.graph_rules.Reduced as reduced
use Rattle.branch_tree.specs.Choosers.{seen_test}
use Rattle.branch_tree.specs.Tree.{stated}
use Rattle.loop_rules.specs.declared.forms.Turning.{Turning}
use Rattle.loop_rules.specs.declared.forms.LoopForm.{LoopForm}
use Rattle.loop_rules.specs.declared.forms.LoopForm.TheVariants as form

-- the form of a loop that is tested after its body or before it
abbrev pub when_after : Bool → Bool → LoopForm
when_after true turned = form.After turned
when_after false turned = form.Before turned

-- a flag, where no test of its own fits
abbrev pub form_at : Option reduced.Form → LoopForm
form_at None = form.Flag
form_at (Some one) = when_after one.after one.turned

-- the form of a loop with such targets
abbrev pub form_for : Label → Targets → Tree → Option reduced.Form
form_for label NoTarget t = None
form_for label (Only live) t = form_of label live t
form_for label Several t = None

-- the target as an end
abbrev pub end_by : Targets → End
end_by NoTarget = Dead
end_by (Only live) = end_at live
end_by Several = Dead

-- the end is a leaf to the one target
abbrev pub leaf_by : Targets → End → Bool
leaf_by NoTarget end = false
leaf_by (Only live) end = is_leaf live end
leaf_by Several end = false

-- there is no statement
abbrev pub is_nothing : Stmts → Bool
is_nothing none = true
is_nothing (also first others) = false

-- only that leaf
abbrev pub bare_by : Targets → Tree → Bool
bare_by targets t = is_nothing (body_of t) && leaf_by targets (end_of t)

-- the first arm leaves and the second stays, or the other way round
abbrev pub way : Bool → Bool → Bool → LoopForm
way after first second =
    if first then when_after after false else (if second then when_after after true else form.Flag)

-- the form of two arms after a body, which may be empty
abbrev pub two_ways : Targets → Label → Bool → Tree → Tree → LoopForm
two_ways targets label empty one two =
    if empty
    then way false (bare_by targets one && is_some (stays label two))
    (bare_by targets two && is_some (stays label one))
    else way true (bare_by targets one && bare_by (Only (ToLabel label)) two)
    (bare_by targets two && bare_by (Only (ToLabel label)) one)

-- the form of a loop by a choice with these arms; only with two it has one of its own
abbrev pub ways : Targets → Label → Bool → Trees → LoopForm
ways targets label empty no_more = form.Flag
ways targets label empty (more one no_more) = form.Flag
ways targets label empty (more one (more two no_more)) = two_ways targets label empty one two
ways targets label empty (more one (more two (more three others))) = form.Flag

-- the loop with its own test, and then the target
abbrev pub formed : Live → reduced.Form → Tree
formed live form =
    tree (alone (Loop (Until form.after (turned_test form.turned form.test)) (Nested form.body)))
    (end_at live)

-- the loop with its own test, where it has one target and such a form; else the tree as it was
abbrev pub formed_if : Targets → Option reduced.Form → Tree → Tree
formed_if NoTarget form t = t
formed_if (Only live) None t = t
formed_if (Only live) (Some form) t = formed live form
formed_if Several form t = t

-- the loop that turns so, over this body
abbrev pub loop_by : Turning → Tree → Stmt
loop_by turning body =
    Loop (Until turning.after (turned_test turning.turned (seen_test turning.test)))
    (Nested (stated turning.leaves body))

-- the tree as the body of such a loop after what comes before it, and then the end
abbrev pub looped_by : Turning → Stmts → Tree → End → Tree
looped_by turning before body end = tree (followed before (alone (loop_by turning body))) end
