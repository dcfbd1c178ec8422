-- How deep pieces nest, row by row.
use Rattle.std.proofs.Common.{◌≡◌, ◌<◌, ◌≤◌, ℕ, zero, suc, ◌-◌, ◌^◌, min, max, Bool, true, false, if◌then◌else◌, ◌==◌, ◌&&◌, List, [], ◌∷◌, length, drop, get_or, refl, ap, sym, ◌∙◌, arith, inl, inr}
use Rattle.std.proofs.lemmas.Bool.Decides.{eqb_tells}
use Rattle.control_flow_theory.specs.language.Language.{Picker, Stmts, none, also}
use Rattle.control_flow_theory.specs.semantics.Graph.{Label, End, Pick, Jump, Return, Stop, Dead}
use Rattle.control_flow_theory.specs.graph_rules.Shapes.{followed, arm_stmts, arms_stmts, last_stmts}
use Rattle.branch_tree.specs.declared.tree.Leaves.{Leaves}
use Rattle.branch_tree.specs.declared.tree.Leaves.TheVariants as leaves
use Rattle.branch_tree.specs.declared.tree.Tree as code
use Rattle.branch_tree.specs.Tree.{seen_piece, seen_tree, seen_trees, seen_body, seen_end, jump_within, return_within, stated}
use Rattle.branch_tree.specs.declared.tree.Piece.TheVariants as piece
use Rattle.branch_tree.proofs.TreeRows.{seen_tree_is, seen_own}
use Rattle.cob_tree.specs.declared.stmt.Stmt.{Stmt}
use Rattle.region_rewrite.specs.written_nesting.Own.{own_nesting}
use Rattle.region_rewrite.proofs.written_nesting_lemmas.OwnAgrees.{stmt-agrees}
use Rattle.control_flow_theory.specs.structuring.Dispatches.{set_to, number_in}
use Rattle.branch_tree.specs.declared.tree.Piece.{Piece}
use Rattle.region_rewrite.specs.written_nesting.Nesting.{leaves_out, is_nothing, arm_level, nesting, stmt_nesting, arms_nesting}
use Rattle.branch_tree.specs.Within.{end_within, arms_within}

max_joined : (a b c : ℕ) → max a (max b c) ≡ max (max a b) c
max_joined a b c = omega (arith)

pub capped_max : (a b : ℕ) → max (min a (2 ^ 32 - 1)) (min b (2 ^ 32 - 1)) ≡ min (max a b) (2 ^ 32 - 1)
capped_max a b = omega (arith)

pub level_capped : (out nothing : Bool) (n : ℕ) →
    min (arm_level out nothing (min n (2 ^ 32 - 1))) (2 ^ 32 - 1) ≡ min (arm_level out nothing n) (2 ^ 32 - 1)
level_capped true true n = refl
level_capped true false n = omega (arith)
level_capped false nothing n = omega (arith)

-- One list after the other.

pub followed_nesting : (a b : Stmts) → nesting (followed a b) ≡ max (nesting a) (nesting b)
followed_nesting none b = let h : nesting b ≡ max 0 (nesting b) = omega (arith) in h
followed_nesting (also s a) b =
    ap (max (stmt_nesting s)) (followed_nesting a b) ∙ max_joined (stmt_nesting s) (nesting a) (nesting b)

nothing_more : (n : ℕ) → max n 0 ≡ n
nothing_more n = omega (arith)

-- An arm that became statements.

last_nesting : (e : End) → nesting (last_stmts e) ≡ 0
last_nesting (Pick picker arms) = refl
last_nesting (Jump to) = refl
last_nesting Return = refl
last_nesting Stop = nothing_more 0
last_nesting Dead = refl

pub arm_nesting_is : (t : code.Tree) → nesting (arm_stmts (seen_tree t)) ≡ nesting (seen_body t.body.items)
arm_nesting_is t =
    ap (λ x. nesting (arm_stmts x)) (seen_tree_is t)
    ∙ followed_nesting (seen_body t.body.items) (last_stmts (seen_end t.end))
    ∙ ap (max (nesting (seen_body t.body.items))) (last_nesting (seen_end t.end))
    ∙ nothing_more (nesting (seen_body t.body.items))

followed_nothing : (a b : Stmts) → is_nothing (followed a b) ≡ (is_nothing a && is_nothing b)
followed_nothing none b = refl
followed_nothing (also s a) b = refl

pub arm_nothing : (t : code.Tree) → (is_nothing (seen_body t.body.items) && is_nothing (last_stmts (seen_end t.end))) ≡ is_nothing (arm_stmts (seen_tree t))
arm_nothing t =
    sym (ap (λ x. is_nothing (arm_stmts x)) (seen_tree_is t)
    ∙ followed_nothing (seen_body t.body.items) (last_stmts (seen_end t.end)))

some_left : (n : ℕ) → 1 ≤ n → (n == 0) ≡ false
some_left n more =
    elim (eqb_tells n 0) [
      | inl e ↦ let none = e.1 in let no : ⊥ = omega (arith, more, none) in absurd no
      | inr e ↦ e.0
    ]

pub none_left : (pieces : List Piece) → (length pieces == 0) ≡ is_nothing (seen_body pieces)
none_left [] = refl
none_left (p ∷ pieces) =
    let some : false ≡ is_nothing (seen_body (p ∷ pieces)) = refl in
    some_left (length (p ∷ pieces)) (omega arith) ∙ some

-- A tree within a loop.

module _ (leaves : Leaves) where
  pub tree_nesting_is : (t : code.Tree) →
      nesting (stated leaves (seen_tree t)) ≡ max (nesting (seen_body t.body.items)) (nesting (end_within leaves (seen_end t.end)))
  tree_nesting_is t =
      ap (λ x. nesting (stated leaves x)) (seen_tree_is t)
      ∙ followed_nesting (seen_body t.body.items) (end_within leaves (seen_end t.end))

  pub tree_nothing : (t : code.Tree) → (is_nothing (seen_body t.body.items) && is_nothing (end_within leaves (seen_end t.end))) ≡ is_nothing (stated leaves (seen_tree t))
  tree_nothing t =
      sym (ap (λ x. is_nothing (stated leaves x)) (seen_tree_is t)
      ∙ followed_nothing (seen_body t.body.items) (end_within leaves (seen_end t.end)))

-- no leaf is deep

set_or_none : (cell number : ℕ) (z : Bool) → nesting (if z then none else set_to cell number) ≡ 0
set_or_none cell number true = refl
set_or_none cell number false = nothing_more 0

pub jump_nesting : (leaves : Leaves) (to : Label) → nesting (jump_within leaves to) ≡ 0
jump_nesting leaves.Silent to = refl
jump_nesting (leaves.Flag cell label) to = set_or_none cell 1 (to == label)
jump_nesting (leaves.Exit cell label targets) to = set_or_none cell (number_in targets to) (to == label)
jump_nesting (leaves.State cell labels) to = nothing_more 0

pub return_nesting : (leaves : Leaves) → nesting (return_within leaves) ≡ 0
return_nesting leaves.Silent = refl
return_nesting (leaves.Flag cell label) = nothing_more 0
return_nesting (leaves.Exit cell label targets) = nothing_more 0
return_nesting (leaves.State cell labels) = nothing_more 0

set_is_nothing : (cell number : ℕ) (z : Bool) → is_nothing (if z then none else set_to cell number) ≡ z
set_is_nothing cell number true = refl
set_is_nothing cell number false = refl

pub flag_is_nothing : (cell : ℕ) (label to : Label) → is_nothing (jump_within (leaves.Flag cell label) to) ≡ (to == label)
flag_is_nothing cell label to = set_is_nothing cell 1 (to == label)

pub exit_is_nothing : (cell : ℕ) (label : Label) (targets : List Label) (to : Label) →
    is_nothing (jump_within (leaves.Exit cell label targets) to) ≡ (to == label)
exit_is_nothing cell label targets to = set_is_nothing cell (number_in targets to) (to == label)

-- a statement of the program
pub piece_own : (stmt : Stmt) → stmt_nesting (seen_piece (piece.Own stmt)) ≡ own_nesting stmt
piece_own stmt = ap stmt_nesting (seen_own stmt) ∙ stmt-agrees 0 stmt

-- Arms from one on.

module _ (picker : Picker) where
  abbrev level_of : Bool → Stmts → ℕ
  level_of first arm = arm_level (leaves_out picker first) (is_nothing arm) (nesting arm)

  pub chosen_next : (first : Bool) (arms : List code.Tree) (at : ℕ) (d : code.Tree) → at < length arms →
      arms_nesting picker first (arms_stmts (seen_trees (drop at arms)))
      ≡ max (level_of first (arm_stmts (seen_tree (get_or arms at d)))) (arms_nesting picker false (arms_stmts (seen_trees (drop (suc at) arms))))
  chosen_next first [] at d within = let no : ⊥ = omega (arith, within) in absurd no
  chosen_next first (arm ∷ arms) zero d within = refl
  chosen_next first (arm ∷ arms) (suc at) d within =
      let less : at < length arms = omega (arith, within) in chosen_next first arms at d less

  pub within_next : (leaves : Leaves) (k : ℕ) (first : Bool) (arms : List code.Tree) (at : ℕ) (d : code.Tree) → at < length arms →
      arms_nesting picker first (arms_within leaves picker k (seen_trees (drop at arms)))
      ≡ max (level_of first (stated leaves (seen_tree (get_or arms at d)))) (arms_nesting picker false (arms_within leaves picker (suc k) (seen_trees (drop (suc at) arms))))
  within_next leaves k first [] at d within = let no : ⊥ = omega (arith, within) in absurd no
  within_next leaves k first (arm ∷ arms) zero d within = refl
  within_next leaves k first (arm ∷ arms) (suc at) d within =
      let less : at < length arms = omega (arith, within) in within_next leaves k first arms at d less

-- lemmas that are named together
pub ruleset leaf_is_nothing = (flag_is_nothing, exit_is_nothing)

pub ruleset choice_is_capped = (chosen_next, capped_max)

pub ruleset arm_is_capped = (level_capped, arm_nesting_is)

pub ruleset tree_is_capped = (capped_max, tree_nesting_is)

pub ruleset leaf_nesting = (jump_nesting, return_nesting)

pub ruleset arms_are_capped = (within_next, capped_max)
