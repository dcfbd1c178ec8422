-- What statements that hold others give of few tokens passes a test by parts, where what they hold does.
use Rattle.std.proofs.Common.{◌≡◌, ℕ, zero, suc, Bool, true, false, ◌||◌, List, [], ◌++◌, map, Option, Some, None, refl}
use Rattle.std.specs.Prelude.{codes}
use Rattle.cob_tree.specs.declared.choice.Subject.{Subject}
use Rattle.cob_tree.specs.declared.choice.Test.{Test}
use Rattle.cob_tree.specs.declared.cond.Cond.{Cond}
use Rattle.cob_tree.specs.declared.control.Control.{Control}
use Rattle.cob_tree.specs.declared.stmt.Stmt.{Stmt}
use Rattle.cob_tree.specs.declared.stmt.When.{When}
use Rattle.parser_combinators.specs.declared.note.Position.{Position}
use Rattle.parser_combinators.specs.Form.{Form}
use Rattle.parser_combinators.proofs.MakerLaws as laws
use Rattle.parser_combinators.proofs.MakerLaws.{Law}
use Rattle.cobol_grammar.specs.declared.stmt_forms.head.NotPhrase.{NotPhrase}
use Rattle.cobol_grammar.specs.declared.stmt_forms.head.NotPhrase.TheVariants as nots
use Rattle.cobol_grammar.specs.declared.stmt_forms.head.PerformHead.{PerformHead}
use Rattle.cobol_grammar.specs.declared.stmt_forms.head.PerformHead.TheVariants as heads
use Rattle.cobol_grammar.specs.declared.stmt_forms.head.ReadHead.{ReadHead}
use Rattle.cobol_grammar.specs.declared.stmt_forms.head.ReadHead.TheVariants as reads
use Rattle.cobol_grammar.specs.declared.stmt_forms.phrase.Phrase.{Phrase}
use Rattle.cobol_grammar.specs.declared.stmt_forms.phrase.Phrase.TheVariants as phrases
use Rattle.cobol_grammar.specs.declared.stmt_forms.scope.Scope.{Scope}
use Rattle.cobol_grammar.specs.declared.stmt_forms.whens.Whens.{Whens}
use Rattle.cobol_grammar.specs.stmt_forms.Part.{Parts}
use Rattle.cobol_grammar.specs.stmt_forms.Laws.{PartsAreLawful}
use Rattle.cobol_grammar.specs.stmt_forms.Arms.{Level, Found}
use Rattle.cobol_grammar.specs.stmt_forms.Arms as arms
use Rattle.cobol_grammar.specs.stmt_forms.Choice as choice
use Rattle.cobol_grammar.specs.stmt_forms.File as file
use Rattle.cobol_grammar.specs.stmt_forms.Loop as loops
use Rattle.cobol_grammar.specs.stmt_forms.Stmt as forms
use Rattle.cobol_grammar.proofs.stmt_forms_lemmas.HoldingLaws as law
use Rattle.cobol_grammar.proofs.stmt_forms_lemmas.HoldingLaws.{LevelIsLawful}
use Rattle.cobol_grammar.proofs.stmt_forms_lemmas.SimpleLaws as simple_law
use Rattle.control_flow_theory.specs.language.All.{all}
use Rattle.program_facts.proofs.well_scoped_lemmas.Made.{all-added}
use Rattle.grammar_laws.specs.short_lists.Giving.{GivesOfFew}
use Rattle.grammar_laws.proofs.short_lists_lemmas.Giving.{any, hence, still, pure, refuse, chosen, where_next, loop, ◌>>=◌, ◌>>◌}
use Rattle.grammar_laws.proofs.short_lists_lemmas.Passing as passing
use Rattle.grammar_laws.proofs.short_lists_lemmas.Passing.{Fold, IsByParts, Passes, Stmts, Behind, arm_passes, arms_pass, stmt_passes, when_passes}
use Rattle.grammar_laws.proofs.short_lists_lemmas.Simple as simple

-- ---- what is held

abbrev WhensPass : Fold → List When → Type 0
WhensPass fold whens = all (map (when_passes fold) whens) ≡ true

abbrev ArmPasses : Fold → Option (List Stmt) → Type 0
ArmPasses fold arm = arm_passes fold arm ≡ true

abbrev HeadPasses : Fold → PerformHead → Type 0
HeadPasses fold (heads.Whole stmt pending_not) = Passes fold stmt
HeadPasses fold (heads.Inline control) = Unit {0}

module _ {bound : ℕ} {fold : Fold} (is : IsByParts bound fold) where
  pub record LevelGives (level : Level) : Type 0 where
    pub law : LevelIsLawful level
    pub stmts : (scope : Scope) → GivesOfFew bound (level.stmts scope) (λ found. Stmts fold found.0)

  module _ {level : Level} (L : LevelGives level) where
    held_arm : (scope : Scope) → GivesOfFew bound (arms.held_arm level scope) (λ arm. ArmPasses fold arm.0)
    unfolding arms.held_arm
    held_arm scope = L.stmts scope >>= (λ found. pure (λ h. h))

    first_arm : (scope : Scope) (present : Bool) → GivesOfFew bound (arms.first_arm level scope present) (λ arm. ArmPasses fold arm.0)
    unfolding arms.first_arm
    first_arm scope present = chosen present (held_arm scope) (pure refl)

    second_arm : (scope : Scope) (found : NotPhrase) → GivesOfFew bound (arms.second_arm level scope found) (λ arm. ArmPasses fold arm.0)
    unfolding arms.second_arm
    second_arm scope nots.Missing = pure refl
    second_arm scope nots.Own = held_arm scope
    second_arm scope nots.Foreign = pure refl

    both_arms : (phrase : Phrase) (scope : Scope) → GivesOfFew bound (arms.arms phrase level scope) (λ found. arms_pass fold found.0 ≡ true)
    unfolding arms.arms arms.second_behind
    both_arms phrase scope =
        any (law.first_phrase L.law.enter phrase) >>= (λ present. first_arm scope present >>= (λ first.
        any (law.not_phrase L.law.enter phrase (file.is_some first.0) first.1) >>= (λ following. second_arm scope following >>= (λ second.
        pure (λ s _ f _. passing.made-Arms is first.0 second.0 f s)))))

    read_by : (scope : Scope) (before : List Stmt) (head : ReadHead) → GivesOfFew bound (arms.read_by level scope before head) (λ found. Behind fold before found.0)
    unfolding arms.read_by arms.read_arms
    read_by scope before (reads.WithSentence file) =
        pure (λ b. all-added (stmt_passes fold) (before ++ _) _
        (all-added (stmt_passes fold) before _ b (passing.made-Read is file None arms.no_arms (passing.made-Arms is None None refl refl))) (passing.made-NextSentence is))
    read_by scope before (reads.Open file into) =
        both_arms phrases.End scope >>= (λ found. law.end_word (codes "END-READ") found.1 >>
        pure (λ a b. all-added (stmt_passes fold) before _ b (passing.made-Read is file into found.0 a)))

    else_part : (scope : Scope) → GivesOfFew bound (choice.else_part level scope) (λ found. Stmts fold found.0)
    unfolding choice.else_part
    else_part scope = where_next (laws.key (codes "ELSE") >> L.stmts scope) (pure refl)

    if_behind : (scope : Scope) (cond : Cond) (first : Found) → GivesOfFew bound (choice.if_behind level scope cond first) (λ found. Stmts fold first.0 → Passes fold found.0)
    unfolding choice.if_behind choice.if_ended
    if_behind scope cond first =
        chosen first.1 (pure (λ f. passing.made-If is cond first.0 [] f refl))
        (else_part scope >>= (λ second. law.end_word (codes "END-IF") second.1 >>
        pure (λ s f. passing.made-If is cond first.0 second.0 f s)))

    when_held : (scope : Scope) (before : List When) (list : List Test) → GivesOfFew bound (choice.when_held level scope before list) (λ state. WhensPass fold before → WhensPass fold state.whens)
    unfolding choice.when_held
    when_held scope before list =
        L.stmts scope >>= (λ held. pure (λ h b. all-added (when_passes fold) before (choice.when_of list held.0) b (passing.made-When is list held.0 h)))

    whens_by : (scope : Scope) (before : List When) (head : Option (List Test)) → GivesOfFew bound (choice.whens_by level scope before head) (λ state. WhensPass fold before → WhensPass fold state.whens)
    unfolding choice.whens_by
    whens_by scope before None = pure (λ b. b)
    whens_by scope before (Some list) = when_held scope before list

    other_part : (scope : Scope) (state : Whens) → GivesOfFew bound (choice.other_part level scope state) (λ arm. ArmPasses fold arm.0)
    unfolding choice.other_part
    other_part scope state = chosen state.other (held_arm scope) (pure refl)

    evaluated : (scope : Scope) (subject : Subject) (state : Whens) → GivesOfFew bound (choice.evaluated level scope subject state) (λ found. WhensPass fold state.whens → Passes fold found.0)
    unfolding choice.evaluated
    evaluated scope subject state =
        other_part scope state >>= (λ other. law.end_word (codes "END-EVALUATE") other.1 >>
        pure (λ o w. passing.made-Evaluate is subject state.whens other.0 w o))

    loop_body : (scope : Scope) (control : Control) → GivesOfFew bound (loops.loop_body level scope control) (λ found. Passes fold found.0)
    unfolding loops.loop_body loops.loop_end loops.loop_closed
    loop_body scope control =
        L.stmts (loops.looped scope) >>= (λ held. chosen held.1 refuse (laws.key (codes "END-PERFORM") >> pure (λ h. passing.made-Loop is control held.0 h)))

    perform_by : (scope : Scope) (head : PerformHead) → GivesOfFew bound (loops.perform_by level scope head) (λ found. HeadPasses fold head → Passes fold found.0)
    unfolding loops.perform_by
    perform_by scope (heads.Whole stmt pending_not) = pure (λ h. h)
    perform_by scope (heads.Inline control) = still (loop_body scope control)

  module _ {Side Known : Type 0} {parts : Parts Side Known} (lawful : PartsAreLawful parts) where
    -- ---- PERFORM

    perform_named : (name : List ℕ) (position : Position) → GivesOfFew bound (loops.perform_named parts name position) (HeadPasses fold)
    unfolding loops.perform_named
    perform_named name position =
        any (simple_law.procedure_named lawful name position) >>= (λ first. any (law.exit_of lawful first.1) >>= (λ exit. any (law.control_part lawful) >>= (λ control.
        pure (λ _ _ _. passing.made-Perform is first.0 exit control.0))))

    perform_word : GivesOfFew bound (loops.perform_word parts) (HeadPasses fold)
    unfolding loops.perform_word
    perform_word = any laws.word >>= (λ name. still (perform_named name.0 name.1))

    times_head : (side : Side) → GivesOfFew bound (loops.times_head parts side) (HeadPasses fold)
    unfolding loops.times_head
    times_head side = any (law.times_behind lawful side) >>= (λ control. pure (λ _. tt))

    -- ---- heads that enter a level

    module _ {enter : Form (Unit {0})} (E : Law false enter) where
      until_head : GivesOfFew bound (loops.until_head parts enter) (HeadPasses fold)
      unfolding loops.until_head loops.inline
      until_head = E >> (any (law.until_control lawful) >>= (λ control. chosen control.1 refuse (pure (λ _. tt))))

      item_head : (name : List ℕ) (position : Position) → GivesOfFew bound (loops.item_head parts enter name position) (HeadPasses fold)
      unfolding loops.item_head
      item_head name position = E >> (any (lawful.reference_behind name position) >>= (λ side. still (times_head side)))

      digits_head : (found : List ℕ) (position : Position) → GivesOfFew bound (loops.digits_head parts enter found position) (HeadPasses fold)
      unfolding loops.digits_head
      digits_head found position = E >> times_head (parts.digits_side found position)

      operand_head : GivesOfFew bound (loops.operand_head parts enter) (HeadPasses fold)
      unfolding loops.operand_head
      operand_head = E >> (any lawful.operand >>= (λ side. still (times_head side)))

      perform_name : GivesOfFew bound (loops.perform_name parts enter) (HeadPasses fold)
      unfolding loops.perform_name
      perform_name = any laws.word >>= (λ name. still (where_next (item_head name.0 name.1) (perform_named name.0 name.1)))

      perform_digits : GivesOfFew bound (loops.perform_digits parts enter) (HeadPasses fold)
      unfolding loops.perform_digits
      perform_digits = any laws.digits >>= (λ found. still (where_next (digits_head found.0 found.1) (perform_named found.0 found.1)))

      perform_other : GivesOfFew bound (loops.perform_other parts enter) (HeadPasses fold)
      unfolding loops.perform_other loops.perform_operand
      perform_other = where_next perform_digits (where_next perform_word (where_next operand_head refuse))

      perform_head : GivesOfFew bound (loops.perform_head parts enter) (HeadPasses fold)
      unfolding loops.perform_head loops.perform_behind
      perform_head = laws.key (codes "PERFORM") >> where_next until_head (where_next perform_name perform_other)

    -- ---- statements, over those that are held

    module _ {level : Level} (L : LevelGives level) where
      arithmetic_stmt : (scope : Scope) → GivesOfFew bound (arms.arithmetic_stmt parts level scope) (λ found. Passes fold found.0)
      unfolding arms.arithmetic_stmt arms.end_work
      arithmetic_stmt scope = any (law.arithmetic_work lawful) >>= (λ worked. both_arms L phrases.Size scope >>= (λ found. law.end_word (arms.end_of worked.0) found.1 >>
          pure (λ a _. passing.made-Arith is worked.1.0 worked.1.1 found.0 a)))

      read_stmt : (scope : Scope) (before : List Stmt) → GivesOfFew bound (arms.read_stmt parts level scope before) (λ found. Behind fold before found.0)
      unfolding arms.read_stmt
      read_stmt scope before = any (law.read_head lawful) >>= (λ head. still (read_by L scope before head))

      if_stmt : (scope : Scope) → GivesOfFew bound (choice.if_stmt parts level scope) (λ found. Passes fold found.0)
      unfolding choice.if_stmt
      if_stmt scope = any (law.if_head lawful L.law.enter) >>= (λ cond. still (L.stmts scope >>= if_behind L scope cond))

      when_next : (scope : Scope) (known : Option Known) (before : List When) → GivesOfFew bound (choice.when_next parts level scope known before) (λ state. WhensPass fold before → WhensPass fold state.whens)
      unfolding choice.when_next
      when_next scope known before = any (law.when_head lawful known) >>= (λ head. still (whens_by L scope before head))

      whens_turn : (scope : Scope) (known : Option Known) (state : Whens) → GivesOfFew bound (choice.whens_turn parts level scope known state) (λ last. WhensPass fold state.whens → WhensPass fold last.whens)
      unfolding choice.whens_turn
      whens_turn scope known state = chosen (state.other || state.pending_not) refuse (when_next scope known state.whens)

      whens : (scope : Scope) (known : Option Known) → GivesOfFew bound (choice.whens parts level scope known) (λ state. WhensPass fold state.whens)
      unfolding choice.whens
      whens scope known = any (law.first_tests lawful known) >>= (λ list. when_held L scope [] list >>= (λ first.
          hence (λ last h w _. h (w refl)) (loop {P = λ (state : Whens). WhensPass fold state.whens} (whens_turn scope known))))

      evaluate_stmt : (scope : Scope) → GivesOfFew bound (choice.evaluate_stmt parts level scope) (λ found. Passes fold found.0)
      unfolding choice.evaluate_stmt
      evaluate_stmt scope = any (law.evaluate_head lawful L.law.enter) >>= (λ found. still (whens scope found.1 >>= evaluated L scope found.0))

      choice_stmt : (scope : Scope) → GivesOfFew bound (choice.choice_stmt parts level scope) (λ found. Passes fold found.0)
      unfolding choice.choice_stmt
      choice_stmt scope = where_next (if_stmt scope) (evaluate_stmt scope)

      perform_stmt : (scope : Scope) → GivesOfFew bound (loops.perform_stmt parts level scope) (λ found. Passes fold found.0)
      unfolding loops.perform_stmt
      perform_stmt scope = perform_head L.law.enter >>= perform_by L scope

      holding_stmt : (scope : Scope) → GivesOfFew bound (forms.holding_stmt parts level scope) (λ found. Passes fold found.0)
      unfolding forms.holding_stmt
      holding_stmt scope = where_next (arithmetic_stmt scope) (where_next (choice_stmt scope) (perform_stmt scope))

      held_stmts : (scope : Scope) (before : List Stmt) → GivesOfFew bound (forms.held_stmts parts level scope before) (λ found. Behind fold before found.0)
      unfolding forms.held_stmts
      held_stmts scope before = where_next (read_stmt scope before) (holding_stmt scope >>= (λ found. pure (λ h b. all-added (stmt_passes fold) before found.0 b h)))

      stmt : (scope : Scope) (before : List Stmt) → GivesOfFew bound (forms.stmt parts level scope before) (λ found. Behind fold before found.0)
      unfolding forms.stmt
      stmt scope before = where_next (simple.simple_stmts is lawful scope before >>= (λ found. pure (λ h. h))) (held_stmts scope before)

      pub stmts_turn : (scope : Scope) (found : Found) → GivesOfFew bound (forms.stmts_turn parts level scope found) (λ last. Behind fold found.0 last.0)
      unfolding forms.stmts_turn
      stmts_turn scope found = chosen found.1 refuse (stmt scope found.0)

      pub stmts_with : (scope : Scope) → GivesOfFew bound (forms.stmts_with parts level scope) (λ found. Stmts fold found.0)
      unfolding forms.stmts_with
      stmts_with scope = stmt scope [] >>= (λ before. hence (λ last h b. h (b refl)) (loop {P = λ (found : Found). Stmts fold found.0} (stmts_turn scope)))

    held : (levels : ℕ) (scope : Scope) → GivesOfFew bound (forms.held parts levels scope) (λ found. Stmts fold found.0)
    unfolding forms.held
    held zero scope = refuse
    held (suc n) scope = stmts_with (record { law = law.level lawful n; stmts = held n }) scope

    pub level : (levels : ℕ) → LevelGives (forms.level parts levels)
    level levels = record { law = law.level lawful levels; stmts = held levels }
