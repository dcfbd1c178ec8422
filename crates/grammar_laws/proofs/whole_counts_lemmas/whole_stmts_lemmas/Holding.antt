-- What statements that hold others give, where what they hold counts by whole numbers.
use Rattle.std.proofs.Common.{◌≡◌, ℕ, zero, suc, Bool, true, false, ◌||◌, List, [], ◌++◌, map, Option, Some, None, refl}
use Rattle.std.specs.Prelude.{codes}
use Rattle.cob_tree.specs.declared.choice.Subject.{Subject}
use Rattle.cob_tree.specs.declared.choice.Test.{Test}
use Rattle.cob_tree.specs.declared.cond.Cond.{Cond}
use Rattle.cob_tree.specs.declared.control.Control.{Control}
use Rattle.cob_tree.specs.declared.entry.Entry.{Entry}
use Rattle.cob_tree.specs.declared.stmt.Stmt.{Stmt}
use Rattle.cob_tree.specs.declared.stmt.When.{When}
use Rattle.parser_combinators.specs.declared.note.Position.{Position}
use Rattle.parser_combinators.specs.Form.{Form}
use Rattle.parser_combinators.proofs.MakerLaws as laws
use Rattle.parser_combinators.proofs.MakerLaws.{Law}
use Rattle.cobol_grammar.specs.declared.stmt_forms.head.NotPhrase.{NotPhrase}
use Rattle.cobol_grammar.specs.declared.stmt_forms.head.NotPhrase.TheVariants as nots
use Rattle.cobol_grammar.specs.declared.stmt_forms.head.PerformHead.{PerformHead}
use Rattle.cobol_grammar.specs.declared.stmt_forms.head.PerformHead.TheVariants as heads
use Rattle.cobol_grammar.specs.declared.stmt_forms.head.ReadHead.{ReadHead}
use Rattle.cobol_grammar.specs.declared.stmt_forms.head.ReadHead.TheVariants as reads
use Rattle.cobol_grammar.specs.declared.stmt_forms.phrase.Phrase.{Phrase}
use Rattle.cobol_grammar.specs.declared.stmt_forms.phrase.Phrase.TheVariants as phrases
use Rattle.cobol_grammar.specs.declared.stmt_forms.scope.Scope.{Scope}
use Rattle.cobol_grammar.specs.declared.stmt_forms.whens.Whens.{Whens}
use Rattle.cobol_grammar.specs.stmt_forms.Part.{Parts}
use Rattle.cobol_grammar.specs.stmt_forms.Laws.{PartsAreLawful}
use Rattle.cobol_grammar.specs.stmt_forms.Arms.{Level, Found}
use Rattle.cobol_grammar.specs.stmt_forms.Arms as arms
use Rattle.cobol_grammar.specs.stmt_forms.Choice as choice
use Rattle.cobol_grammar.specs.stmt_forms.File as file
use Rattle.cobol_grammar.specs.stmt_forms.Loop as loops
use Rattle.cobol_grammar.specs.stmt_forms.Stmt as forms
use Rattle.cobol_grammar.proofs.stmt_forms_lemmas.HoldingLaws as law
use Rattle.cobol_grammar.proofs.stmt_forms_lemmas.HoldingLaws.{LevelIsLawful}
use Rattle.cobol_grammar.proofs.stmt_forms_lemmas.SimpleLaws as simple_law
use Rattle.control_flow_theory.specs.language.All.{all}
use Rattle.program_facts.proofs.well_scoped_lemmas.Made.{all-added}
use Rattle.grammar_laws.specs.form_results.Giving.{Gives}
use Rattle.grammar_laws.specs.form_results.Numbered.{IsNumbered}
use Rattle.grammar_laws.proofs.form_results_lemmas.Giving.{any, hence, still, pure, refuse, note, key, chosen, where_next, loop, ◌>>=◌, ◌>>◌}
use Rattle.program_facts.specs.whole_counts.Whole.{control_counts_whole}
use Rattle.grammar_laws.specs.whole_counts.whole_stmts.Parts.{PartsCountWhole, IsWholeAmount}
use Rattle.grammar_laws.proofs.whole_counts_lemmas.whole_stmts_lemmas.Made as made
use Rattle.grammar_laws.proofs.whole_counts_lemmas.whole_stmts_lemmas.Made.{stmt_whole, arms_count_whole, when_counts_whole, arm_counts_whole, Whole}
use Rattle.grammar_laws.proofs.whole_counts_lemmas.whole_stmts_lemmas.Simple as simple
use Rattle.grammar_laws.proofs.whole_counts_lemmas.whole_stmts_lemmas.Simple.{Stmts, Behind}

module _ (entries : List Entry) where
  -- ---- what is held

  abbrev WhensWhole : List When → Type 0
  WhensWhole whens = all (map (when_counts_whole entries) whens) ≡ true

  abbrev ControlWhole : Control → Type 0
  ControlWhole control = control_counts_whole entries control ≡ true

  abbrev ArmWhole : Option (List Stmt) → Type 0
  ArmWhole arm = arm_counts_whole entries arm ≡ true

  abbrev HeadWhole : PerformHead → Type 0
  HeadWhole (heads.Whole stmt pending_not) = Whole entries stmt
  HeadWhole (heads.Inline control) = ControlWhole control

  pub record LevelGives (level : Level) : Type 0 where
    pub law : LevelIsLawful level
    pub stmts : (scope : Scope) → Gives IsNumbered (level.stmts scope) (λ found. Stmts entries found.0)

  module _ {level : Level} (L : LevelGives level) where
    held_arm : (scope : Scope) → Gives IsNumbered (arms.held_arm level scope) (λ arm. ArmWhole arm.0)
    unfolding arms.held_arm
    held_arm scope = L.stmts scope >>= (λ found. pure (λ h. h))

    first_arm : (scope : Scope) (present : Bool) → Gives IsNumbered (arms.first_arm level scope present) (λ arm. ArmWhole arm.0)
    unfolding arms.first_arm
    first_arm scope present = chosen present (held_arm scope) (pure refl)

    second_arm : (scope : Scope) (found : NotPhrase) → Gives IsNumbered (arms.second_arm level scope found) (λ arm. ArmWhole arm.0)
    unfolding arms.second_arm
    second_arm scope nots.Missing = pure refl
    second_arm scope nots.Own = held_arm scope
    second_arm scope nots.Foreign = pure refl

    both_arms : (phrase : Phrase) (scope : Scope) → Gives IsNumbered (arms.arms phrase level scope) (λ found. arms_count_whole entries found.0 ≡ true)
    unfolding arms.arms arms.second_behind
    both_arms phrase scope =
        any (law.first_phrase L.law.enter phrase) >>= (λ present. first_arm scope present >>= (λ first.
        any (law.not_phrase L.law.enter phrase (file.is_some first.0) first.1) >>= (λ following. second_arm scope following >>= (λ second.
        pure (λ s _ f _. made.made-Arms entries first.0 second.0 f s)))))

    read_by : (scope : Scope) (before : List Stmt) (head : ReadHead) → Gives IsNumbered (arms.read_by level scope before head) (λ found. Behind entries before found.0)
    unfolding arms.read_by arms.read_arms
    read_by scope before (reads.WithSentence file) =
        pure (λ b. all-added (stmt_whole entries) (before ++ _) _
        (all-added (stmt_whole entries) before _ b (made.made-Read entries file None arms.no_arms (made.made-Arms entries None None refl refl))) (made.made-NextSentence entries))
    read_by scope before (reads.Open file into) =
        both_arms phrases.End scope >>= (λ found. any (law.end_word (codes "END-READ") found.1) >>
        pure (λ _ a b. all-added (stmt_whole entries) before _ b (made.made-Read entries file into found.0 a)))

    else_part : (scope : Scope) → Gives IsNumbered (choice.else_part level scope) (λ found. Stmts entries found.0)
    unfolding choice.else_part
    else_part scope = where_next (key (codes "ELSE") >> still (L.stmts scope)) (pure refl)

    if_behind : (scope : Scope) (cond : Cond) (first : Found) → Gives IsNumbered (choice.if_behind level scope cond first) (λ found. Stmts entries first.0 → Whole entries found.0)
    unfolding choice.if_behind choice.if_ended
    if_behind scope cond first =
        chosen first.1 (pure (λ f. made.made-If entries cond first.0 [] f refl))
        (else_part scope >>= (λ second. any (law.end_word (codes "END-IF") second.1) >>
        pure (λ _ s f. made.made-If entries cond first.0 second.0 f s)))

    when_held : (scope : Scope) (before : List When) (list : List Test) → Gives IsNumbered (choice.when_held level scope before list) (λ state. WhensWhole before → WhensWhole state.whens)
    unfolding choice.when_held
    when_held scope before list =
        L.stmts scope >>= (λ held. pure (λ h b. all-added (when_counts_whole entries) before (choice.when_of list held.0) b (made.made-When entries list held.0 h)))

    whens_by : (scope : Scope) (before : List When) (head : Option (List Test)) → Gives IsNumbered (choice.whens_by level scope before head) (λ state. WhensWhole before → WhensWhole state.whens)
    unfolding choice.whens_by
    whens_by scope before None = pure (λ b. b)
    whens_by scope before (Some list) = when_held scope before list

    other_part : (scope : Scope) (state : Whens) → Gives IsNumbered (choice.other_part level scope state) (λ arm. ArmWhole arm.0)
    unfolding choice.other_part
    other_part scope state = chosen state.other (held_arm scope) (pure refl)

    evaluated : (scope : Scope) (subject : Subject) (state : Whens) → Gives IsNumbered (choice.evaluated level scope subject state) (λ found. WhensWhole state.whens → Whole entries found.0)
    unfolding choice.evaluated
    evaluated scope subject state =
        other_part scope state >>= (λ other. any (law.end_word (codes "END-EVALUATE") other.1) >>
        pure (λ _ o w. made.made-Evaluate entries subject state.whens other.0 w o))

    loop_body : (scope : Scope) (control : Control) → Gives IsNumbered (loops.loop_body level scope control) (λ found. ControlWhole control → Whole entries found.0)
    unfolding loops.loop_body loops.loop_end loops.loop_closed
    loop_body scope control =
        L.stmts (loops.looped scope) >>= (λ held. chosen held.1 refuse (key (codes "END-PERFORM") >> pure (λ _ h c. made.made-Loop entries control held.0 c h)))

    perform_by : (scope : Scope) (head : PerformHead) → Gives IsNumbered (loops.perform_by level scope head) (λ found. HeadWhole head → Whole entries found.0)
    unfolding loops.perform_by
    perform_by scope (heads.Whole stmt pending_not) = pure (λ h. h)
    perform_by scope (heads.Inline control) = loop_body scope control

  module _ {Side Known : Type 0} {parts : Parts Side Known} (lawful : PartsAreLawful parts) (P : PartsCountWhole entries parts) where
    -- ---- control

    until_cond : (after : Bool) → Gives IsNumbered (loops.until_cond parts after) (λ control. ControlWhole control.0)
    unfolding loops.until_cond
    until_cond after = key (codes "UNTIL") >> (any lawful.cond >>= (λ cond. pure (λ _ _. refl)))

    varying_cond : (after : Bool) → Gives IsNumbered (loops.varying_cond parts after) (λ control. ControlWhole control.0)
    unfolding loops.varying_cond
    varying_cond after = do
      key (codes "VARYING")
      item ← any (law.varied lawful)
      key (codes "FROM")
      from ← any (simple_law.number_operand lawful)
      key (codes "BY")
      by ← any (simple_law.number_operand lawful)
      key (codes "UNTIL")
      cond ← any lawful.cond
      pure (λ _ _ _ _ _ _ _ _. refl)

    until_control : Gives IsNumbered (loops.until_control parts) (λ control. ControlWhole control.0)
    unfolding loops.until_control
    until_control = any law.test_part >>= (λ after. still (where_next (varying_cond after) (until_cond after)))

    times_behind : (side : Side) → Gives IsNumbered (loops.times_behind parts side) (λ control. IsWholeAmount entries parts side → ControlWhole control)
    unfolding loops.times_behind
    times_behind side = note >> (key (codes "TIMES") >> pure (λ _ n w. w n.1))

    times_control : Gives IsNumbered (loops.times_control parts) ControlWhole
    unfolding loops.times_control
    times_control = P.operand >>= times_behind

    control_part : Gives IsNumbered (loops.control_part parts) (λ control. ControlWhole control.0)
    unfolding loops.control_part loops.times_or_once
    control_part = where_next until_control (where_next (times_control >>= (λ control. pure (λ h. h))) (pure refl))

    perform_named : (name : List ℕ) (position : Position) → Gives IsNumbered (loops.perform_named parts name position) HeadWhole
    unfolding loops.perform_named
    perform_named name position =
        any (simple_law.procedure_named lawful name position) >>= (λ first. any (law.exit_of lawful first.1) >>= (λ exit. control_part >>= (λ control.
        pure (λ c _ _. made.made-Perform entries first.0 exit control.0 c))))

    perform_word : Gives IsNumbered (loops.perform_word parts) HeadWhole
    unfolding loops.perform_word
    perform_word = any laws.word >>= (λ name. still (perform_named name.0 name.1))

    -- ---- heads that enter a level

    module _ {enter : Form (Unit {0})} (E : Law false enter) where
      until_head : Gives IsNumbered (loops.until_head parts enter) HeadWhole
      unfolding loops.until_head loops.inline
      until_head = any E >> still (until_control >>= (λ control. chosen control.1 refuse (pure (λ c. c))))

      times_head : (side : Side) → Gives IsNumbered (loops.times_head parts side) (λ head. IsWholeAmount entries parts side → HeadWhole head)
      unfolding loops.times_head
      times_head side = times_behind side >>= (λ control. pure (λ h w. h w))

      item_head : (name : List ℕ) (position : Position) → Gives IsNumbered (loops.item_head parts enter name position) HeadWhole
      unfolding loops.item_head
      item_head name position = any E >> still (P.reference_behind name position >>= times_head)

      digits_head : (found : List ℕ) (position : Position) → Gives IsNumbered (loops.digits_head parts enter found position) HeadWhole
      unfolding loops.digits_head
      digits_head found position = any E >> still (hence (λ head h. h (P.digits_side found position)) (times_head (parts.digits_side found position)))

      operand_head : Gives IsNumbered (loops.operand_head parts enter) HeadWhole
      unfolding loops.operand_head
      operand_head = any E >> still (P.operand >>= times_head)

      perform_name : Gives IsNumbered (loops.perform_name parts enter) HeadWhole
      unfolding loops.perform_name
      perform_name = any laws.word >>= (λ name. still (where_next (item_head name.0 name.1) (perform_named name.0 name.1)))

      perform_digits : Gives IsNumbered (loops.perform_digits parts enter) HeadWhole
      unfolding loops.perform_digits
      perform_digits = any laws.digits >>= (λ found. still (where_next (digits_head found.0 found.1) (perform_named found.0 found.1)))

      perform_other : Gives IsNumbered (loops.perform_other parts enter) HeadWhole
      unfolding loops.perform_other loops.perform_operand
      perform_other = where_next perform_digits (where_next perform_word (where_next operand_head refuse))

      perform_head : Gives IsNumbered (loops.perform_head parts enter) HeadWhole
      unfolding loops.perform_head loops.perform_behind
      perform_head = key (codes "PERFORM") >> still (where_next until_head (where_next perform_name perform_other))

    -- ---- statements, over those that are held

    module _ {level : Level} (L : LevelGives level) where
      arithmetic_stmt : (scope : Scope) → Gives IsNumbered (arms.arithmetic_stmt parts level scope) (λ found. Whole entries found.0)
      unfolding arms.arithmetic_stmt arms.end_work
      arithmetic_stmt scope = any (law.arithmetic_work lawful) >>= (λ worked. both_arms L phrases.Size scope >>= (λ found. any (law.end_word (arms.end_of worked.0) found.1) >>
          pure (λ _ a _. made.made-Arith entries worked.1.0 worked.1.1 found.0 a)))

      read_stmt : (scope : Scope) (before : List Stmt) → Gives IsNumbered (arms.read_stmt parts level scope before) (λ found. Behind entries before found.0)
      unfolding arms.read_stmt
      read_stmt scope before = any (law.read_head lawful) >>= (λ head. still (read_by L scope before head))

      if_stmt : (scope : Scope) → Gives IsNumbered (choice.if_stmt parts level scope) (λ found. Whole entries found.0)
      unfolding choice.if_stmt
      if_stmt scope = any (law.if_head lawful L.law.enter) >>= (λ cond. still (L.stmts scope >>= if_behind L scope cond))

      when_next : (scope : Scope) (known : Option Known) (before : List When) → Gives IsNumbered (choice.when_next parts level scope known before) (λ state. WhensWhole before → WhensWhole state.whens)
      unfolding choice.when_next
      when_next scope known before = any (law.when_head lawful known) >>= (λ head. still (whens_by L scope before head))

      whens_turn : (scope : Scope) (known : Option Known) (state : Whens) → Gives IsNumbered (choice.whens_turn parts level scope known state) (λ last. WhensWhole state.whens → WhensWhole last.whens)
      unfolding choice.whens_turn
      whens_turn scope known state = chosen (state.other || state.pending_not) refuse (when_next scope known state.whens)

      whens : (scope : Scope) (known : Option Known) → Gives IsNumbered (choice.whens parts level scope known) (λ state. WhensWhole state.whens)
      unfolding choice.whens
      whens scope known = any (law.first_tests lawful known) >>= (λ list. when_held L scope [] list >>= (λ first.
          hence (λ last h w _. h (w refl)) (loop {P = λ (state : Whens). WhensWhole state.whens} (whens_turn scope known))))

      evaluate_stmt : (scope : Scope) → Gives IsNumbered (choice.evaluate_stmt parts level scope) (λ found. Whole entries found.0)
      unfolding choice.evaluate_stmt
      evaluate_stmt scope = any (law.evaluate_head lawful L.law.enter) >>= (λ found. still (whens scope found.1 >>= evaluated L scope found.0))

      choice_stmt : (scope : Scope) → Gives IsNumbered (choice.choice_stmt parts level scope) (λ found. Whole entries found.0)
      unfolding choice.choice_stmt
      choice_stmt scope = where_next (if_stmt scope) (evaluate_stmt scope)

      perform_stmt : (scope : Scope) → Gives IsNumbered (loops.perform_stmt parts level scope) (λ found. Whole entries found.0)
      unfolding loops.perform_stmt
      perform_stmt scope = perform_head L.law.enter >>= perform_by L scope

      holding_stmt : (scope : Scope) → Gives IsNumbered (forms.holding_stmt parts level scope) (λ found. Whole entries found.0)
      unfolding forms.holding_stmt
      holding_stmt scope = where_next (arithmetic_stmt scope) (where_next (choice_stmt scope) (perform_stmt scope))

      held_stmts : (scope : Scope) (before : List Stmt) → Gives IsNumbered (forms.held_stmts parts level scope before) (λ found. Behind entries before found.0)
      unfolding forms.held_stmts
      held_stmts scope before = where_next (read_stmt scope before) (holding_stmt scope >>= (λ found. pure (λ h b. all-added (stmt_whole entries) before found.0 b h)))

      stmt : (scope : Scope) (before : List Stmt) → Gives IsNumbered (forms.stmt parts level scope before) (λ found. Behind entries before found.0)
      unfolding forms.stmt
      stmt scope before = where_next (simple.simple_stmts entries lawful P scope before >>= (λ found. pure (λ h. h))) (held_stmts scope before)

      pub stmts_turn : (scope : Scope) (found : Found) → Gives IsNumbered (forms.stmts_turn parts level scope found) (λ last. Behind entries found.0 last.0)
      unfolding forms.stmts_turn
      stmts_turn scope found = chosen found.1 refuse (stmt scope found.0)

      pub stmts_with : (scope : Scope) → Gives IsNumbered (forms.stmts_with parts level scope) (λ found. Stmts entries found.0)
      unfolding forms.stmts_with
      stmts_with scope = stmt scope [] >>= (λ before. hence (λ last h b. h (b refl)) (loop {P = λ (found : Found). Stmts entries found.0} (stmts_turn scope)))

    held : (levels : ℕ) (scope : Scope) → Gives IsNumbered (forms.held parts levels scope) (λ found. Stmts entries found.0)
    unfolding forms.held
    held zero scope = refuse
    held (suc n) scope = stmts_with (record { law = law.level lawful n; stmts = held n }) scope

    pub level : (levels : ℕ) → LevelGives (forms.level parts levels)
    level levels = record { law = law.level lawful levels; stmts = held levels }
