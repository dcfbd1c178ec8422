-- Labels that are added to a list.
use Rattle.std.proofs.Common.{◌≡◌, ℕ, zero, suc, ◌+◌, ◌≤◌, ◌<◌, ◌⊎◌, inl, inr, List, [], ◌∷◌, drop, get_or, length, Some, refl, ap, sym, ◌∙◌, subst, arith, add-one}
use Rattle.std.specs.Prelude.{slice_get}
use Rattle.std.proofs.Math.Seq.{drop-cons}
use Rattle.std.proofs.lemmas.List.{drop_all}
use Rattle.control_flow_theory.specs.language.Language as language
use Rattle.control_flow_theory.specs.semantics.Graph as graph
use Rattle.control_flow_theory.specs.lowering.Reached.{ArmsJumpTo, JumpsTo}
use Rattle.branch_tree.specs.Tree.{seen_body, seen_end, seen_tree, seen_trees}
use Rattle.branch_tree.specs.declared.tree.Tree as code
use Rattle.branch_tree.proofs.TreeRows.{seen_tree_is}
use Rattle.pending_returns.specs.levels.Reach.{Adds, Holds}
use Rattle.flow_graph.specs.Jumps.{AddsArmJumps, AddsJumps, AddsThose, ArmsJumpBelow, JumpBelow}

pub adds_nothing : (IsNew : ℕ → Type 0) (places : List ℕ) → ((label : ℕ) → IsNew label → ⊥) → AddsThose IsNew places places
adds_nothing IsNew places none = record {
  added = λ label new. absurd (none label new);
  kept = λ at other is. is;
  only = λ other h. inl h;
}

pub adds_jump : (to : ℕ) (old new : List ℕ) → Adds old new to → AddsJumps (graph.Jump to) old new
adds_jump to old new h = record {
  added = λ label is. subst (Holds new) is h.added;
  kept = h.kept;
  only = λ other there. elim (h.only other there) [
    | inl before ↦ inl before
    | inr is ↦ inr (sym is)
  ];
}

pub adds_same : (A B : ℕ → Type 0) (old new : List ℕ) → ((label : ℕ) → A label → B label) → ((label : ℕ) → B label → A label) → AddsThose A old new → AddsThose B old new
adds_same A B old new to back h = record {
  added = λ label is. h.added label (back label is);
  kept = h.kept;
  only = λ other there. elim (h.only other there) [
    | inl before ↦ inl before
    | inr is ↦ inr (to other is)
  ];
}

-- arms so far
pub record ArmsSoFar (arms : List code.Tree) (i : ℕ) (old now : List ℕ) : Type 0 where
  pub added : (label : ℕ) → ArmsJumpTo label (seen_trees arms) → Holds now label ⊎ ArmsJumpTo label (seen_trees (drop i arms))
  pub kept : (at other : ℕ) → slice_get old at ≡ Some other → slice_get now at ≡ Some other
  pub only : (other : ℕ) → Holds now other → Holds old other ⊎ ArmsJumpTo other (seen_trees arms)
  pub inside : (label : ℕ) → ArmsJumpTo label (seen_trees (drop i arms)) → ArmsJumpTo label (seen_trees arms)

pub arms_begin : (arms : List code.Tree) (old : List ℕ) → ArmsSoFar arms 0 old old
arms_begin arms old = record {
  added = λ label is. inr is;
  kept = λ at other is. is;
  only = λ other h. inl h;
  inside = λ label is. is;
}

pub arms_over : (arms : List code.Tree) (i : ℕ) (old now : List ℕ) → length arms ≤ i → ArmsSoFar arms i old now → AddsArmJumps (seen_trees arms) old now
arms_over arms i old now le a = record {
  added = λ label is. elim (a.added label is) [
    | inl there ↦ there
    | inr left ↦ absurd (subst (λ ts. ArmsJumpTo label (seen_trees ts)) (drop_all i arms le) left)
  ];
  kept = a.kept;
  only = a.only;
}

pub holds_on : (now new : List ℕ) (label : ℕ) → ((at other : ℕ) → slice_get now at ≡ Some other → slice_get new at ≡ Some other) → Holds now label → Holds new label
holds_on now new label kept there = (there.0, kept there.0 label there.1)

first_or : (label : ℕ) (new : List ℕ) (body : language.Stmts) (end : graph.End) (others : graph.Trees) → JumpsTo label end ⊎ ArmsJumpTo label others → ((to : ℕ) → JumpsTo to end → Holds new to) →
    Holds new label ⊎ ArmsJumpTo label others
first_or label new body end others left added = elim left [
  | inl jumps ↦ inl (added label jumps)
  | inr behind ↦ inr behind
]

-- what an end is seen as

pub end_at : (t : code.Tree) → graph.end_of (seen_tree t) ≡ seen_end t.end
end_at t = ap graph.end_of (seen_tree_is t)

pub jump_below : (bound to : ℕ) (e : graph.End) → e ≡ graph.Jump to → JumpBelow bound e → to < bound
jump_below bound to e is below = below to (subst (JumpsTo to) (sym is) refl)

pub arms_below : (bound : ℕ) (e : graph.End) (picker : language.Picker) (arms : graph.Trees) → e ≡ graph.Pick picker arms → JumpBelow bound e → ArmsJumpBelow bound arms
arms_below bound e picker arms is below = λ label jumps. below label (subst (JumpsTo label) (sym is) jumps)

pub adds_end : (e f : graph.End) (old new : List ℕ) → e ≡ f → AddsJumps f old new → AddsJumps e old new
adds_end e f old new is h = subst (λ x. AddsJumps x old new) (sym is) h

-- how deep ends are, which falls from a choice to its arms
abbrev mutual
  pub end_depth : graph.End → ℕ
  end_depth (graph.Pick picker arms) = suc (arms_depth arms)
  end_depth (graph.Jump to) = 0
  end_depth graph.Return = 0
  end_depth graph.Stop = 0
  end_depth graph.Dead = 0

  pub arms_depth : graph.Trees → ℕ
  arms_depth graph.no_more = 0
  arms_depth (graph.more (graph.tree body end) others) = suc (end_depth end + arms_depth others)

more_depth : (t : graph.Tree) (ts : graph.Trees) → arms_depth (graph.more t ts) ≡ suc (end_depth (graph.end_of t) + arms_depth ts)
more_depth (graph.tree body end) ts = refl

pub depth_in : (arms : List code.Tree) (i : ℕ) (arm : code.Tree) → i < length arms → arm ≡ get_or arms i arm → end_depth (graph.end_of (seen_tree arm)) < arms_depth (seen_trees arms)
depth_in [] i arm lt is = absurd (omega (arith, lt))
depth_in (x ∷ xs) zero arm lt is = omega (arith, more_depth (seen_tree x) (seen_trees xs), ap (λ t. end_depth (graph.end_of (seen_tree t))) is)
depth_in (x ∷ xs) (suc i) arm lt is = omega (arith, more_depth (seen_tree x) (seen_trees xs), depth_in xs i arm (omega (arith, lt)) is)

module _ (arms : List code.Tree) (i : ℕ) (arm : code.Tree) (lt : i < length arms) (is : arm ≡ get_or arms i arm) where
  first_left : drop i arms ≡ arm ∷ drop (i + 1) arms
  first_left = rw (add-one i) (drop-cons arms i arm lt) ∙ ap (λ a. a ∷ drop (i + 1) arms) (sym is)

  seen_left : seen_trees (drop i arms) ≡ graph.more (graph.tree (seen_body arm.body.items) (seen_end arm.end)) (seen_trees (drop (i + 1) arms))
  seen_left = ap seen_trees first_left ∙ ap (λ t. graph.more t (seen_trees (drop (i + 1) arms))) (seen_tree_is arm)

  pub arm_below : (bound : ℕ) (old now : List ℕ) → ArmsSoFar arms i old now → ArmsJumpBelow bound (seen_trees arms) → JumpBelow bound (seen_end arm.end)
  arm_below bound old now a below = λ label jumps. below label (a.inside label (subst (ArmsJumpTo label) (sym seen_left) (inl jumps)))

  pub arms_more : (old now new : List ℕ) → ArmsSoFar arms i old now → AddsJumps (seen_end arm.end) now new → ArmsSoFar arms (i + 1) old new
  arms_more old now new a h = record {
    added = λ label jumps. elim (a.added label jumps) [
      | inl there ↦ inl (holds_on now new label h.kept there)
      | inr left ↦ first_or label new (seen_body arm.body.items) (seen_end arm.end) (seen_trees (drop (i + 1) arms)) (subst (ArmsJumpTo label) seen_left left) h.added
    ];
    kept = λ at other e. h.kept at other (a.kept at other e);
    only = λ other there. elim (h.only other there) [
      | inl before ↦ a.only other before
      | inr jumps ↦ inr (a.inside other (subst (ArmsJumpTo other) (sym seen_left) (inl jumps)))
    ];
    inside = λ label left. a.inside label (subst (ArmsJumpTo label) (sym seen_left) (inr left));
  }
