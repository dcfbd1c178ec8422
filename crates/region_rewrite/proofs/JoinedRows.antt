-- Trees that are joined.
use Rattle.std.proofs.Common.{◌≡◌, ℕ, true, List, [], ◌∷◌, Option, Some, None, refl, ap, ◌∙◌}
use Rattle.control_flow_theory.specs.language.Language.{Picker, Stmts}
use Rattle.control_flow_theory.specs.semantics.Graph.{Label, Tree, tree, End, Pick, Jump, Return, Stop, Dead, Trees, no_more, more}
use Rattle.control_flow_theory.specs.graph_rules.Shapes.{Live, ToLabel, Back, end_at, Targets, NoTarget, Only, Several, arms_targets, join_by, joined, join_end, joined_arms}
use Rattle.control_flow_theory.specs.graph_rules.Reduced.{Node, Form, each_tree, form_of, at_most_one}
use Rattle.loop_rules.specs.Nodes.{closed_form, closed_by}
use Rattle.region_rewrite.specs.Candidates.{Fixed}

-- Join once more changes nothing.

live_joined : (body : Stmts) (live : Live) → joined (tree body (end_at live)) ≡ tree body (end_at live)
live_joined body (ToLabel to) = refl
live_joined body Back = refl

by_joined : (body : Stmts) (picker : Picker) (arms : Trees) → joined_arms arms ≡ arms → (targets : Targets) → arms_targets arms ≡ targets →
    joined (join_by body picker arms targets) ≡ join_by body picker arms targets
by_joined body picker arms same NoTarget e = refl
by_joined body picker arms same (Only live) e = live_joined _ live
by_joined body picker arms same Several e = ap (λ a. join_by body picker a (arms_targets a)) same ∙ ap (join_by body picker arms) e

mutual
  pub joined_twice : (t : Tree) → joined (joined t) ≡ joined t
  joined_twice (tree body end) = end_twice body end

  end_twice : (body : Stmts) (end : End) → joined (join_end body end) ≡ join_end body end
  end_twice body (Pick picker arms) = by_joined body picker (joined_arms arms) (arms_twice arms) (arms_targets (joined_arms arms)) refl
  end_twice body (Jump to) = refl
  end_twice body Return = refl
  end_twice body Stop = refl
  end_twice body Dead = refl

  arms_twice : (arms : Trees) → joined_arms (joined_arms arms) ≡ joined_arms arms
  arms_twice no_more = refl
  arms_twice (more first others) = ap (λ a. more a (joined_arms (joined_arms others))) (joined_twice first) ∙ ap (more (joined first)) (arms_twice others)

pub each_joined : (nodes : List Node) → Fixed joined (each_tree joined nodes)
each_joined [] = tt
each_joined (node ∷ nodes) = (joined_twice node.tree, each_joined nodes)

-- a tree as a loop is joined
pub closed_joined : (label : Label) (cell : ℕ) (t : Tree) (targets : Targets) → at_most_one targets ≡ true →
    joined (closed_by label cell t targets).node ≡ (closed_by label cell t targets).node
closed_joined label cell t NoTarget h = refl
closed_joined label cell t (Only live) h = by (form_of label live t)
  where
    by : (form : Option Form) → joined (closed_form label cell t (Only live) form).node ≡ (closed_form label cell t (Only live) form).node
    by None = live_joined _ live
    by (Some form) = live_joined _ live
closed_joined label cell t Several h = let no : ⊥ = cc in absurd no
