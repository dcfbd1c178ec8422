-- Statements that hold others weigh no more than their tokens, where what they hold doesn't.
use Rattle.std.proofs.Common.{◌+◌, ℕ, zero, suc, Bool, false, ◌||◌, List, [], ◌∷◌, ◌++◌, Option, Some, None, arith}
use Rattle.std.specs.Prelude.{codes}
use Rattle.cob_tree.specs.declared.choice.Subject.{Subject}
use Rattle.cob_tree.specs.declared.choice.Test.{Test}
use Rattle.cob_tree.specs.declared.cond.Cond.{Cond}
use Rattle.cob_tree.specs.declared.control.Control.{Control}
use Rattle.cob_tree.specs.declared.stmt.Stmt.{Stmt}
use Rattle.cob_tree.specs.declared.stmt.Stmt.TheVariants as stmts
use Rattle.cob_tree.specs.declared.stmt.When.{When}
use Rattle.parser_combinators.specs.declared.note.Position.{Position}
use Rattle.parser_combinators.specs.Form.{Form}
use Rattle.parser_combinators.proofs.MakerLaws as laws
use Rattle.parser_combinators.proofs.MakerLaws.{Law}
use Rattle.cobol_grammar.specs.declared.stmt_forms.head.NotPhrase.{NotPhrase}
use Rattle.cobol_grammar.specs.declared.stmt_forms.head.NotPhrase.TheVariants as nots
use Rattle.cobol_grammar.specs.declared.stmt_forms.head.PerformHead.{PerformHead}
use Rattle.cobol_grammar.specs.declared.stmt_forms.head.PerformHead.TheVariants as heads
use Rattle.cobol_grammar.specs.declared.stmt_forms.head.ReadHead.{ReadHead}
use Rattle.cobol_grammar.specs.declared.stmt_forms.head.ReadHead.TheVariants as reads
use Rattle.cobol_grammar.specs.declared.stmt_forms.phrase.Phrase.{Phrase}
use Rattle.cobol_grammar.specs.declared.stmt_forms.phrase.Phrase.TheVariants as phrases
use Rattle.cobol_grammar.specs.declared.stmt_forms.scope.Scope.{Scope}
use Rattle.cobol_grammar.specs.declared.stmt_forms.whens.Whens.{Whens}
use Rattle.cobol_grammar.specs.stmt_forms.Part.{Parts}
use Rattle.cobol_grammar.specs.stmt_forms.Laws.{PartsAreLawful}
use Rattle.cobol_grammar.specs.stmt_forms.Arms.{Level, Found}
use Rattle.cobol_grammar.specs.stmt_forms.Arms as arms
use Rattle.cobol_grammar.specs.stmt_forms.Choice as choice
use Rattle.cobol_grammar.specs.stmt_forms.File as file
use Rattle.cobol_grammar.specs.stmt_forms.Loop as loops
use Rattle.cobol_grammar.specs.stmt_forms.Stmt as forms
use Rattle.cobol_grammar.proofs.stmt_forms_lemmas.HoldingLaws as law
use Rattle.cobol_grammar.proofs.stmt_forms_lemmas.HoldingLaws.{LevelIsLawful}
use Rattle.cobol_grammar.proofs.stmt_forms_lemmas.SimpleLaws as simple_law
use Rattle.end_to_end_laws.proofs.rewriting_lemmas.weights.Weights as made
use Rattle.end_to_end_laws.proofs.rewriting_lemmas.weights.Weights.{arm_weighs, arms_weigh, one-more, stmt_weighs, stmts_weigh, when_weighs, whens_weigh}
use Rattle.end_to_end_laws.proofs.rewriting_lemmas.weights.Weighing.{Weighs, any, chosen, eased, framed, loop, pure, refuse, takes, where_next, ◌>>=◌, ◌>>◌}
use Rattle.end_to_end_laws.proofs.rewriting_lemmas.weights.Simple as simple

-- ---- heads: an inline PERFORM has two words at least before what it holds

abbrev head_weighs : PerformHead → ℕ
head_weighs (heads.Whole stmt pending_not) = stmt_weighs stmt
head_weighs (heads.Inline control) = 2

abbrev read_weighs : ReadHead → ℕ
read_weighs (reads.WithSentence file) = 2
read_weighs (reads.Open file into) = 1

pub record LevelWeighs (level : Level) : Type 0 where
  pub law : LevelIsLawful level
  pub stmts : (scope : Scope) → Weighs 0 (level.stmts scope) (λ found. stmts_weigh found.0)

module _ {level : Level} (L : LevelWeighs level) where
  held_arm : {n : ℕ} (scope : Scope) → Weighs n (arms.held_arm level scope) (λ arm. n + arm_weighs arm.0)
  unfolding arms.held_arm
  held_arm scope = framed (L.stmts scope) >>= (λ found. pure (omega arith))

  first_arm : {n : ℕ} (scope : Scope) (present : Bool) → Weighs n (arms.first_arm level scope present) (λ arm. n + arm_weighs arm.0)
  unfolding arms.first_arm
  first_arm scope present = chosen present (held_arm scope) (pure (omega arith))

  second_arm : {n : ℕ} (scope : Scope) (found : NotPhrase) → Weighs n (arms.second_arm level scope found) (λ arm. n + arm_weighs arm.0)
  unfolding arms.second_arm
  second_arm scope nots.Missing = pure (omega arith)
  second_arm scope nots.Own = held_arm scope
  second_arm scope nots.Foreign = pure (omega arith)

  both_arms : {n : ℕ} (phrase : Phrase) (scope : Scope) → Weighs n (arms.arms phrase level scope) (λ found. n + arms_weigh found.0)
  unfolding arms.arms arms.second_behind
  both_arms phrase scope =
      any (law.first_phrase L.law.enter phrase) >>= (λ present. first_arm scope present >>= (λ first.
      any (law.not_phrase L.law.enter phrase (file.is_some first.0) first.1) >>= (λ following. second_arm scope following >>= (λ second.
      pure (let h = made.made-Arms first.0 second.0 in omega (arith, h))))))

  read_by : (scope : Scope) (before : List Stmt) (head : ReadHead) → Weighs (stmts_weigh before + read_weighs head) (arms.read_by level scope before head) (λ found. stmts_weigh found.0)
  unfolding arms.read_by arms.read_arms
  read_by scope before (reads.WithSentence file) =
      pure (
      let one = made.made-Read file None arms.no_arms in
      let arm = made.made-Arms None None in
      let two = made.made-NextSentence in
      let first = one-more stmt_weighs before (stmts.Read file None arms.no_arms) in
      let second = one-more stmt_weighs (before ++ stmts.Read file None arms.no_arms ∷ []) stmts.NextSentence in
      omega (arith, one, arm, two, first, second))
  read_by scope before (reads.Open file into) =
      both_arms phrases.End scope >>= (λ found. any (law.end_word (codes "END-READ") found.1) >>= (λ _.
      pure (
      let one = made.made-Read file into found.0 in
      let more = one-more stmt_weighs before (stmts.Read file into found.0) in
      omega (arith, one, more))))

  else_part : {n : ℕ} (scope : Scope) → Weighs n (choice.else_part level scope) (λ found. n + stmts_weigh found.0)
  unfolding choice.else_part
  else_part scope = where_next (any (laws.key (codes "ELSE")) >>= (λ _. framed (L.stmts scope))) (pure (omega arith))

  if_behind : (scope : Scope) (cond : Cond) (first : Found) → Weighs (1 + stmts_weigh first.0) (choice.if_behind level scope cond first) (λ found. stmt_weighs found.0)
  unfolding choice.if_behind choice.if_ended
  if_behind scope cond first =
      chosen first.1 (pure (let h = made.made-If cond first.0 [] in omega (arith, h)))
      (else_part scope >>= (λ second. any (law.end_word (codes "END-IF") second.1) >>= (λ _.
      pure (let h = made.made-If cond first.0 second.0 in omega (arith, h)))))

  when_held : (n : ℕ) (scope : Scope) (before : List When) (list : List Test) → Weighs (n + whens_weigh before) (choice.when_held level scope before list) (λ state. n + whens_weigh state.whens)
  unfolding choice.when_held
  when_held n scope before list =
      framed (L.stmts scope) >>= (λ held. pure (
      let one = made.made-When list held.0 in
      let more = one-more when_weighs before (choice.when_of list held.0) in
      omega (arith, one, more)))

  whens_by : (n : ℕ) (scope : Scope) (before : List When) (head : Option (List Test)) → Weighs (n + whens_weigh before) (choice.whens_by level scope before head) (λ state. n + whens_weigh state.whens)
  unfolding choice.whens_by
  whens_by n scope before None = pure (omega arith)
  whens_by n scope before (Some list) = when_held n scope before list

  other_part : {n : ℕ} (scope : Scope) (state : Whens) → Weighs n (choice.other_part level scope state) (λ arm. n + arm_weighs arm.0)
  unfolding choice.other_part
  other_part scope state = chosen state.other (held_arm scope) (pure (omega arith))

  evaluated : (scope : Scope) (subject : Subject) (state : Whens) → Weighs (1 + whens_weigh state.whens) (choice.evaluated level scope subject state) (λ found. stmt_weighs found.0)
  unfolding choice.evaluated
  evaluated scope subject state =
      other_part scope state >>= (λ other. any (law.end_word (codes "END-EVALUATE") other.1) >>= (λ _.
      pure (let h = made.made-Evaluate subject state.whens other.0 in omega (arith, h))))

  loop_body : (scope : Scope) (control : Control) → Weighs 2 (loops.loop_body level scope control) (λ found. stmt_weighs found.0)
  unfolding loops.loop_body loops.loop_end loops.loop_closed
  loop_body scope control =
      framed (L.stmts (loops.looped scope)) >>= (λ held. chosen held.1 refuse (laws.key (codes "END-PERFORM") >>
      pure (let h = made.made-Loop control held.0 in omega (arith, h))))

  perform_by : (scope : Scope) (head : PerformHead) → Weighs (head_weighs head) (loops.perform_by level scope head) (λ found. stmt_weighs found.0)
  unfolding loops.perform_by
  perform_by scope (heads.Whole stmt pending_not) = pure (omega arith)
  perform_by scope (heads.Inline control) = loop_body scope control

module _ {Side Known : Type 0} {parts : Parts Side Known} (lawful : PartsAreLawful parts) where
  -- ---- READ

  read_open : (n : ℕ) (found : Option ℕ) → Weighs (n + 1) (arms.read_open parts found) (λ head. n + read_weighs head)
  unfolding arms.read_open
  read_open n found = any (simple_law.into_part lawful found) >>= (λ into. pure (omega arith))

  read_next : (n : ℕ) (found : Option ℕ) → Weighs (n + 1) (arms.read_next parts found) (λ head. n + read_weighs head)
  unfolding arms.read_next arms.read_sentence
  read_next n found =
      any (laws.key (codes "NEXT")) >>= (λ _. where_next (laws.key (codes "SENTENCE") >> pure (omega arith)) (read_open n found))

  read_head : (n : ℕ) → Weighs n (arms.read_head parts) (λ head. n + read_weighs head)
  unfolding arms.read_head
  read_head n = takes (simple_law.read_file lawful) >>= (λ found. where_next (read_next n found) (read_open n found))

  -- ---- PERFORM

  perform_named : (name : List ℕ) (position : Position) → Weighs 1 (loops.perform_named parts name position) head_weighs
  unfolding loops.perform_named
  perform_named name position =
      any (simple_law.procedure_named lawful name position) >>= (λ first. any (law.exit_of lawful first.1) >>= (λ exit. any (law.control_part lawful) >>= (λ control.
      pure (let h = made.made-Perform first.0 exit control.0 in omega (arith, h)))))

  perform_word : Weighs 1 (loops.perform_word parts) head_weighs
  unfolding loops.perform_word
  perform_word = any laws.word >>= (λ name. perform_named name.0 name.1)

  times_head : (side : Side) → Weighs 1 (loops.times_head parts side) head_weighs
  unfolding loops.times_head
  times_head side = takes (law.times_behind lawful side) >>= (λ control. pure (omega arith))

  -- ---- heads that enter a level

  module _ {enter : Form (Unit {0})} (E : Law false enter) where
    until_head : Weighs 1 (loops.until_head parts enter) head_weighs
    unfolding loops.until_head loops.inline
    until_head = any E >>= (λ _. takes (law.until_control lawful) >>= (λ control. chosen control.1 refuse (pure (omega arith))))

    item_head : (name : List ℕ) (position : Position) → Weighs 1 (loops.item_head parts enter name position) head_weighs
    unfolding loops.item_head
    item_head name position = any E >>= (λ _. any (lawful.reference_behind name position) >>= (λ side. times_head side))

    digits_head : (found : List ℕ) (position : Position) → Weighs 1 (loops.digits_head parts enter found position) head_weighs
    unfolding loops.digits_head
    digits_head found position = any E >>= (λ _. times_head (parts.digits_side found position))

    operand_head : Weighs 1 (loops.operand_head parts enter) head_weighs
    unfolding loops.operand_head
    operand_head = any E >>= (λ _. any lawful.operand >>= (λ side. times_head side))

    perform_name : Weighs 1 (loops.perform_name parts enter) head_weighs
    unfolding loops.perform_name
    perform_name = any laws.word >>= (λ name. where_next (item_head name.0 name.1) (perform_named name.0 name.1))

    perform_digits : Weighs 1 (loops.perform_digits parts enter) head_weighs
    unfolding loops.perform_digits
    perform_digits = any laws.digits >>= (λ found. where_next (digits_head found.0 found.1) (perform_named found.0 found.1))

    perform_other : Weighs 1 (loops.perform_other parts enter) head_weighs
    unfolding loops.perform_other loops.perform_operand
    perform_other = where_next perform_digits (where_next perform_word (where_next operand_head refuse))

    perform_head : Weighs 0 (loops.perform_head parts enter) head_weighs
    unfolding loops.perform_head loops.perform_behind
    perform_head = laws.key (codes "PERFORM") >> where_next until_head (where_next perform_name perform_other)

  -- ---- statements, over those that are held

  module _ {level : Level} (L : LevelWeighs level) where
    arithmetic_stmt : (scope : Scope) → Weighs 0 (arms.arithmetic_stmt parts level scope) (λ found. stmt_weighs found.0)
    unfolding arms.arithmetic_stmt arms.end_work
    arithmetic_stmt scope = takes (law.arithmetic_work lawful) >>= (λ worked. both_arms L phrases.Size scope >>= (λ found. any (law.end_word (arms.end_of worked.0) found.1) >>= (λ _.
        pure (let h = made.made-Arith worked.1.0 worked.1.1 found.0 in omega (arith, h)))))

    read_stmt : (scope : Scope) (before : List Stmt) → Weighs (stmts_weigh before) (arms.read_stmt parts level scope before) (λ found. stmts_weigh found.0)
    unfolding arms.read_stmt
    read_stmt scope before = read_head (stmts_weigh before) >>= (λ head. read_by L scope before head)

    if_stmt : (scope : Scope) → Weighs 0 (choice.if_stmt parts level scope) (λ found. stmt_weighs found.0)
    unfolding choice.if_stmt
    if_stmt scope = takes (law.if_head lawful L.law.enter) >>= (λ cond. framed (L.stmts scope) >>= (λ first. if_behind L scope cond first))

    when_next : (scope : Scope) (known : Option Known) (before : List When) → Weighs (1 + whens_weigh before) (choice.when_next parts level scope known before) (λ state. 1 + whens_weigh state.whens)
    unfolding choice.when_next
    when_next scope known before = any (law.when_head lawful known) >>= (λ head. whens_by L 1 scope before head)

    whens_turn : (scope : Scope) (known : Option Known) (state : Whens) → Weighs (1 + whens_weigh state.whens) (choice.whens_turn parts level scope known state) (λ last. 1 + whens_weigh last.whens)
    unfolding choice.whens_turn
    whens_turn scope known state = chosen (state.other || state.pending_not) refuse (when_next scope known state.whens)

    whens : (scope : Scope) (known : Option Known) → Weighs 1 (choice.whens parts level scope known) (λ state. 1 + whens_weigh state.whens)
    unfolding choice.whens
    whens scope known = any (law.first_tests lawful known) >>= (λ list. eased (omega arith) (λ state. omega arith) (when_held L 1 scope [] list) >>= (λ first.
        loop {w = λ (state : Whens). 1 + whens_weigh state.whens} (whens_turn scope known)))

    evaluate_stmt : (scope : Scope) → Weighs 0 (choice.evaluate_stmt parts level scope) (λ found. stmt_weighs found.0)
    unfolding choice.evaluate_stmt
    evaluate_stmt scope = takes (law.evaluate_head lawful L.law.enter) >>= (λ found. eased (omega arith) (λ state. omega arith) (whens scope found.1) >>= (λ state. evaluated L scope found.0 state))

    choice_stmt : (scope : Scope) → Weighs 0 (choice.choice_stmt parts level scope) (λ found. stmt_weighs found.0)
    unfolding choice.choice_stmt
    choice_stmt scope = where_next (if_stmt scope) (evaluate_stmt scope)

    perform_stmt : (scope : Scope) → Weighs 0 (loops.perform_stmt parts level scope) (λ found. stmt_weighs found.0)
    unfolding loops.perform_stmt
    perform_stmt scope = perform_head L.law.enter >>= (λ head. perform_by L scope head)

    holding_stmt : (scope : Scope) → Weighs 0 (forms.holding_stmt parts level scope) (λ found. stmt_weighs found.0)
    unfolding forms.holding_stmt
    holding_stmt scope = where_next (arithmetic_stmt scope) (where_next (choice_stmt scope) (perform_stmt scope))

    held_stmts : (scope : Scope) (before : List Stmt) → Weighs (stmts_weigh before) (forms.held_stmts parts level scope before) (λ found. stmts_weigh found.0)
    unfolding forms.held_stmts
    held_stmts scope before = where_next (read_stmt scope before) (framed (holding_stmt scope) >>= (λ found. pure (let h = one-more stmt_weighs before found.0 in omega (arith, h))))

    stmt : (scope : Scope) (before : List Stmt) → Weighs (stmts_weigh before) (forms.stmt parts level scope before) (λ found. stmts_weigh found.0)
    unfolding forms.stmt
    stmt scope before = where_next (simple.simple_stmts lawful scope before >>= (λ found. pure (omega arith))) (held_stmts scope before)

    pub stmts_turn : (scope : Scope) (found : Found) → Weighs (stmts_weigh found.0) (forms.stmts_turn parts level scope found) (λ last. stmts_weigh last.0)
    unfolding forms.stmts_turn
    stmts_turn scope found = chosen found.1 refuse (stmt scope found.0)

    pub stmts_with : (scope : Scope) → Weighs 0 (forms.stmts_with parts level scope) (λ found. stmts_weigh found.0)
    unfolding forms.stmts_with
    stmts_with scope = stmt scope [] >>= (λ before. loop {w = λ (found : Found). stmts_weigh found.0} (stmts_turn scope))

  held : (levels : ℕ) (scope : Scope) → Weighs 0 (forms.held parts levels scope) (λ found. stmts_weigh found.0)
  unfolding forms.held
  held zero scope = refuse
  held (suc n) scope = stmts_with (record { law = law.level lawful n; stmts = held n }) scope

  pub level : (levels : ℕ) → LevelWeighs (forms.level parts levels)
  level levels = record { law = law.level lawful levels; stmts = held levels }
