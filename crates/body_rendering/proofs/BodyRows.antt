-- Lists of statements, and the arms of choices, as they are written.
use Rattle.std.proofs.Common.{◌≡◌, ℕ, suc, Bool, true, List, [], ◌∷◌, ◌++◌, map, refl, ap, sym, ◌∙◌}
use Rattle.cob_tree.specs.declared.stmt.Stmt.{Stmt}
use Rattle.cob_tree.specs.declared.stmt.Stmt.TheVariants.{StopRun}
use Rattle.control_flow_theory.proofs.language_lemmas.Rows.{seen_stop_run}
use Rattle.control_flow_theory.specs.language.Language as language
use Rattle.control_flow_theory.specs.language.Language.{Choose, Picker, Stmts, none, also, Arms, done, given}
use Rattle.control_flow_theory.specs.language.Control.{seen, seen_stmts}
use Rattle.control_flow_theory.specs.semantics.Graph as graph
use Rattle.control_flow_theory.specs.graph_rules.Shapes.{alone, followed, last_stmts, arms_stmts}
use Rattle.control_flow_theory.specs.structuring.Closes.{none_left_out}
use Rattle.control_flow_theory.specs.structuring.Dispatches.{stated_arms}
use Rattle.control_flow_theory.specs.rendering.Rendering.{Empty, Continues, Stays, Goes, arm_stands, standing, whole_arms, picker_lacks, written_arms, written_picker}
use Rattle.branch_tree.specs.Tree.{seen_trees, jump_within, return_within}
use Rattle.branch_tree.specs.declared.tree.Leaves.{Leaves}
use Rattle.branch_tree.specs.declared.tree.Tree.{Tree}
use Rattle.statement_builders.specs.arms.EmptyArms.{put_arm}
use Rattle.statement_builders.specs.arms.Written.{Way, naming_in, written, all_written}
use Rattle.statement_builders.specs.item_words.Lists.{put_arms, stand_so, chosen}
use Rattle.body_rendering.specs.Pieces.{within_arm, within_loop}

-- Lists.

pub followed_none : (stmts : Stmts) → followed stmts none ≡ stmts
followed_none none = refl
followed_none (also stmt stmts) = ap (also stmt) (followed_none stmts)

pub followed_assoc : (first second third : Stmts) → followed (followed first second) third ≡ followed first (followed second third)
followed_assoc none second third = refl
followed_assoc (also stmt stmts) second third = ap (also stmt) (followed_assoc stmts second third)

pub seen_append : (first second : List Stmt) → seen_stmts 0 (first ++ second) ≡ followed (seen_stmts 0 first) (seen_stmts 0 second)
seen_append [] second = refl
seen_append (stmt ∷ stmts) second = ap (also (seen 0 stmt)) (seen_append stmts second)

-- what is as it stands
pub stop_added : (old new : List Stmt) → new ≡ old ++ StopRun ∷ [] → seen_stmts 0 new ≡ followed (seen_stmts 0 old) (alone language.StopRun)
stop_added old new e = ap (seen_stmts 0) e ∙ seen_append old (StopRun ∷ []) ∙ ap (λ s. followed (seen_stmts 0 old) (also s none)) (seen_stop_run 0)

pub none_added : (old : List Stmt) (stmts : Stmts) → stmts ≡ none → seen_stmts 0 old ≡ followed (seen_stmts 0 old) stmts
none_added old stmts e = sym (ap (followed (seen_stmts 0 old)) e ∙ followed_none (seen_stmts 0 old))

pub written_last : (way : Way) (end : graph.End) → all_written way (last_stmts end) ≡ last_stmts end
written_last way graph.Stop = refl
written_last way (graph.Pick picker arms) = refl
written_last way (graph.Jump to) = refl
written_last way graph.Return = refl
written_last way graph.Dead = refl

module _ (way : Way) where
  pub written_followed : (first second : Stmts) → all_written way (followed first second) ≡ followed (all_written way first) (all_written way second)
  written_followed none second = refl
  written_followed (also stmt stmts) second = ap (also (written way stmt)) (written_followed stmts second)

  -- one statement more
  pub adds_one : (old new : List Stmt) (made : Stmt) (stmt : language.Stmt) → new ≡ old ++ made ∷ [] → seen 0 made ≡ written way stmt →
      seen_stmts 0 new ≡ followed (seen_stmts 0 old) (all_written way (alone stmt))
  adds_one old new made stmt e h =
      ap (seen_stmts 0) e ∙ seen_append old (made ∷ []) ∙ ap (λ s. followed (seen_stmts 0 old) (also s none)) h

  pub adds_none : (old new : List Stmt) → new ≡ old → seen_stmts 0 new ≡ followed (seen_stmts 0 old) (all_written way none)
  adds_none old new e = ap (seen_stmts 0) e ∙ sym (followed_none (seen_stmts 0 old))

  pub adds_nothing : (old : List Stmt) (stmts : Stmts) → stmts ≡ none → seen_stmts 0 old ≡ followed (seen_stmts 0 old) (all_written way stmts)
  adds_nothing old stmts e = sym (ap (λ s. followed (seen_stmts 0 old) (all_written way s)) e ∙ followed_none (seen_stmts 0 old))

  -- some and then others
  pub adds_both : (old between new : Stmts) (first second : Stmts) → between ≡ followed old (all_written way first) → new ≡ followed between (all_written way second) →
      new ≡ followed old (all_written way (followed first second))
  adds_both old between new first second h g =
      g ∙ ap (λ b. followed b (all_written way second)) h
      ∙ followed_assoc old (all_written way first) (all_written way second)
      ∙ ap (followed old) (sym (written_followed first second))

  -- Arms.

  abbrev all_given : List Stmts → Arms
  all_given [] = done
  all_given (stmts ∷ lists) = given stmts (all_given lists)

  stands_alike : (empty : Empty) (stmts : Stmts) → arm_stands empty true stmts ≡ arm_stands empty true (all_written way stmts)
  stands_alike Continues none = refl
  stands_alike Stays none = refl
  stands_alike Goes none = refl
  stands_alike empty (also stmt stmts) = refl

  standing_row : (empty : ℕ → Empty) (k : ℕ) (lists : List Stmts) → standing empty k (all_given lists) ≡ stand_so empty k (map (all_written way) lists)
  standing_row empty k [] = refl
  standing_row empty k (stmts ∷ lists) =
      ap (λ b. b ∷ standing empty (suc k) (all_given lists)) (stands_alike (empty k) stmts)
      ∙ ap (λ bs. arm_stands (empty k) true (all_written way stmts) ∷ bs) (standing_row empty (suc k) lists)

  abbrev written_given : (ℕ → Empty) → ℕ → List Stmts → Arms
  written_given empty k lists = written_arms (naming_in way) way.place way.range empty k (all_given lists)

  given_row : (empty : ℕ → Empty) (k : ℕ) (lists : List Stmts) → written_given empty k lists ≡ put_arms empty k (map (all_written way) lists)
  given_row empty k [] = refl
  given_row empty k (stmts ∷ lists) = ap (put_arm (empty k) (all_written way stmts)) (given_row empty (suc k) lists)

  chosen_row : (picker : Picker) (lists : List Stmts) → chosen way picker (map (all_written way) lists) ≡ written way (Choose picker (all_given lists))
  chosen_row picker lists =
      let empty : ℕ → Empty = (naming_in way).empty way.range picker in
      let lacks = picker_lacks (naming_in way) way.place way.range picker in
      let by : List Bool → Picker = written_picker (naming_in way) way.place way.range picker in
      ap (λ stands. Choose (by stands) (whole_arms lacks (put_arms empty 0 (map (all_written way) lists)))) (sym (standing_row empty 0 lists))
      ∙ ap (λ arms. Choose (by (standing empty 0 (all_given lists))) (whole_arms lacks arms)) (sym (given_row empty 0 lists))

  arms_given : (arms : List Tree) → arms_stmts (seen_trees arms) ≡ all_given (map within_arm arms)
  arms_given [] = refl
  arms_given (arm ∷ arms) = ap (given (within_arm arm)) (arms_given arms)

  stated_given : (leaves : Leaves) (picker : Picker) (k : ℕ) (arms : List Tree) →
      stated_arms none_left_out (jump_within leaves) (return_within leaves) picker k (seen_trees arms) ≡ all_given (map (within_loop leaves) arms)
  stated_given leaves picker k [] = refl
  stated_given leaves picker k (arm ∷ arms) = ap (given (within_loop leaves arm)) (stated_given leaves picker (suc k) arms)

  -- a choice over such lists
  pub choice_row : (picker : Picker) (arms : List Tree) (lists : List Stmts) → lists ≡ map (all_written way) (map within_arm arms) →
      chosen way picker lists ≡ written way (Choose picker (arms_stmts (seen_trees arms)))
  choice_row picker arms lists e =
      ap (chosen way picker) e ∙ chosen_row picker (map within_arm arms) ∙ ap (λ a. written way (Choose picker a)) (sym (arms_given arms))

  pub stated_row : (leaves : Leaves) (picker : Picker) (arms : List Tree) (lists : List Stmts) → lists ≡ map (all_written way) (map (within_loop leaves) arms) →
      chosen way picker lists ≡ written way (Choose picker (stated_arms none_left_out (jump_within leaves) (return_within leaves) picker 0 (seen_trees arms)))
  stated_row leaves picker arms lists e =
      ap (chosen way picker) e ∙ chosen_row picker (map (within_loop leaves) arms) ∙ ap (λ a. written way (Choose picker a)) (sym (stated_given leaves picker 0 arms))
