-- Statements that hold others, where what they hold fits.
use Rattle.std.proofs.Common.{◌≡◌, ℕ, zero, suc, Bool, ◌||◌, List, [], ◌∷◌, ◌++◌, Option, Some, None}
use Rattle.std.specs.Prelude.{codes}
use Rattle.cob_tree.specs.declared.choice.Subject.{Subject}
use Rattle.cob_tree.specs.declared.choice.Test.{Test}
use Rattle.cob_tree.specs.declared.cond.Cond.{Cond}
use Rattle.cob_tree.specs.declared.stmt.Arms.{Arms}
use Rattle.cob_tree.specs.declared.stmt.Stmt.{Stmt, roll-Stmt}
use Rattle.cob_tree.specs.declared.stmt.Stmt.TheOpen.{Stmt-F}
use Rattle.cob_tree.specs.declared.stmt.Stmt.TheVariants as stmts
use Rattle.cob_tree.specs.declared.stmt.When.{When}
use Rattle.cobol_lex.specs.declared.token.TokenKind.{TokenKind}
use Rattle.cobol_grammar.specs.declared.stmt_forms.head.NotPhrase.{NotPhrase}
use Rattle.cobol_grammar.specs.declared.stmt_forms.head.NotPhrase.TheVariants as nots
use Rattle.cobol_grammar.specs.declared.stmt_forms.head.PerformHead.{PerformHead}
use Rattle.cobol_grammar.specs.declared.stmt_forms.head.PerformHead.TheVariants as heads
use Rattle.cobol_grammar.specs.declared.stmt_forms.head.ReadHead.{ReadHead}
use Rattle.cobol_grammar.specs.declared.stmt_forms.head.ReadHead.TheVariants as reads
use Rattle.cobol_grammar.specs.declared.stmt_forms.phrase.Phrase.{Phrase}
use Rattle.cobol_grammar.specs.declared.stmt_forms.phrase.Phrase.TheVariants as phrases
use Rattle.cobol_grammar.specs.declared.stmt_forms.scope.Scope.{Scope}
use Rattle.cobol_grammar.specs.declared.stmt_forms.whens.Whens.{Whens}
use Rattle.cobol_grammar.specs.stmt_forms.Part.{Parts}
use Rattle.cobol_grammar.specs.stmt_forms.Laws.{PartsAreLawful}
use Rattle.cobol_grammar.specs.stmt_forms.Arms.{Level, Found, Arm}
use Rattle.cobol_grammar.specs.stmt_forms.Arms as arms
use Rattle.cobol_grammar.specs.stmt_forms.Choice as choice
use Rattle.cobol_grammar.specs.stmt_forms.File as file
use Rattle.cobol_grammar.specs.stmt_forms.Loop as loops
use Rattle.cobol_grammar.specs.stmt_forms.Stmt as forms
use Rattle.cobol_grammar.proofs.stmt_forms_lemmas.HoldingLaws as law
use Rattle.cobol_grammar.proofs.stmt_forms_lemmas.HoldingLaws.{LevelIsLawful}
use Rattle.grammar_laws.specs.form_results.Giving.{Gives}
use Rattle.grammar_laws.proofs.form_results_lemmas.Giving.{any, hence, pure, refuse, key, chosen, where_next, loop, ◌>>=◌, ◌>>◌}
use Rattle.round_trip.specs.spelling.stmt_spelling.Part.{Kept}
use Rattle.round_trip.specs.spelling.stmt_spelling.Stmt.{Each, Some_of, IfAny}
use Rattle.round_trip.specs.fitting_statements.Fits.{Fits}
use Rattle.round_trip.specs.fitting_statements.Given.{PartsFit}
use Rattle.round_trip.proofs.fitting_statements_lemmas.Shape.{FitsSubject, FitsArms, FitsWhen, HeldOrNone, FitsShape}
use Rattle.round_trip.proofs.fitting_statements_lemmas.Trees.{Good, gathered}
use Rattle.round_trip.proofs.procedures_lemmas.readable_stmts_lemmas.Lists.{each-added, each-hence, some-added}
use Rattle.round_trip.proofs.fitting_statements_lemmas.Made.{made, made_arms, made_when}
use Rattle.round_trip.proofs.fitting_statements_lemmas.Simple as simple
use Rattle.round_trip.proofs.fitting_statements_lemmas.Simple.{Fine, Stmts}
use Rattle.round_trip.proofs.fitting_statements_lemmas.Heads as head

-- what is held, and fits, whatever it stands in
pub record LevelGives (Kind : TokenKind → Type 0) (Held : Scope → List Stmt → Type 0) (level : Level) : Type 0 where
  pub law : LevelIsLawful level
  pub stmts : (scope : Scope) → Gives Kind (level.stmts scope) (λ found. Held scope found.0)

module _ {Side Known : Type 0} {parts : Parts Side Known} {kept : Kept Side} {fits : Fits} {Kind : TokenKind → Type 0} (lawful : PartsAreLawful parts) (F : PartsFit parts kept fits Kind) where
  module _ (Held : Scope → List Stmt → Type 0) {level : Level} (L : LevelGives Kind Held level) (scope : Scope) where
    abbrev IsFine : Stmt → Type 0
    IsFine stmt = Fine F Held scope stmt

    abbrev AreFine : List Stmt → Type 0
    AreFine list = Stmts F Held scope list

    shaped : (y : Stmt-F Stmt Arms When) (x : Stmt) → roll-Stmt y ≡ x → FitsShape fits Held scope y → IsFine x
    shaped y x e h = made fits Held scope y x e h

    -- ---- arms

    abbrev ArmFine : Option (List Stmt) → Type 0
    ArmFine arm = IfAny (Held scope) arm

    held_arm : Gives Kind (arms.held_arm level scope) (λ arm. ArmFine arm.0)
    unfolding arms.held_arm
    held_arm = L.stmts scope >>= (λ found. pure (λ h. h))

    first_arm : (present : Bool) → Gives Kind (arms.first_arm level scope present) (λ arm. ArmFine arm.0)
    unfolding arms.first_arm
    first_arm present = chosen present held_arm (pure tt)

    second_arm : (found : NotPhrase) → Gives Kind (arms.second_arm level scope found) (λ arm. ArmFine arm.0)
    unfolding arms.second_arm
    second_arm nots.Missing = pure tt
    second_arm nots.Own = held_arm
    second_arm nots.Foreign = pure tt

    both_arms : (phrase : Phrase) → Gives Kind (arms.arms phrase level scope) (λ found. FitsArms fits Held scope found.0)
    unfolding arms.arms arms.second_behind
    both_arms phrase =
        any (law.first_phrase L.law.enter phrase) >>= (λ present. first_arm present >>= (λ first.
        any (law.not_phrase L.law.enter phrase (file.is_some first.0) first.1) >>= (λ following. second_arm following >>= (λ second.
        pure (λ s _ f _. made_arms fits Held scope first.0 second.0 f s)))))

    arithmetic_stmt : Gives Kind (arms.arithmetic_stmt parts level scope) (λ found. IsFine found.0)
    unfolding arms.arithmetic_stmt arms.end_work
    arithmetic_stmt = head.arithmetic_work F >>= (λ worked. both_arms phrases.Size >>= (λ found. any (law.end_word (arms.end_of worked.0) found.1) >>
        pure (λ _ a w. shaped (Stmt-F.Arith worked.1.0 worked.1.1 found.0) (stmts.Arith worked.1.0 worked.1.1 found.0) (stmts.rolls-Arith worked.1.0 worked.1.1 found.0) (w, a))))

    read_by : (before : List Stmt) (found : ReadHead) → Gives Kind (arms.read_by level scope before found) (λ last. head.ReadFine F found → Each IsFine before → AreFine last.0)
    unfolding arms.read_by arms.read_arms
    read_by before (reads.WithSentence number) =
        pure (λ h b. some-added IsFine (before ++ stmts.Read number None arms.no_arms ∷ []) stmts.NextSentence
        (each-added IsFine before (stmts.Read number None arms.no_arms) b
        (shaped (Stmt-F.Read number None arms.no_arms) (stmts.Read number None arms.no_arms) (stmts.rolls-Read number None arms.no_arms) (h, (tt, made_arms fits Held scope None None tt tt))))
        (shaped Stmt-F.NextSentence stmts.NextSentence stmts.rolls-NextSentence tt))
    read_by before (reads.Open number into) =
        both_arms phrases.End >>= (λ found. any (law.end_word (codes "END-READ") found.1) >>
        pure (λ _ a h b. some-added IsFine before (stmts.Read number into found.0) b
        (shaped (Stmt-F.Read number into found.0) (stmts.Read number into found.0) (stmts.rolls-Read number into found.0) (h.0, (h.1, a)))))

    read_stmt : (before : List Stmt) → Gives Kind (arms.read_stmt parts level scope before) (λ found. Each IsFine before → AreFine found.0)
    unfolding arms.read_stmt
    read_stmt before = head.read_head F >>= read_by before

    -- ---- IF

    held_some : (list : List Stmt) → Held scope list → HeldOrNone fits Held scope list
    held_some [] h = tt
    held_some (stmt ∷ others) h = h

    else_part : Gives Kind (choice.else_part level scope) (λ found. HeldOrNone fits Held scope found.0)
    unfolding choice.else_part
    else_part = where_next (key (codes "ELSE") >> hence (λ found h _. held_some found.0 h) (L.stmts scope)) (pure tt)

    if_behind : (cond : Cond) (first : Found) → Gives Kind (choice.if_behind level scope cond first) (λ found. Held scope first.0 → head.CondFine F cond → IsFine found.0)
    unfolding choice.if_behind choice.if_ended
    if_behind cond first =
        chosen first.1 (pure (λ f c. shaped (Stmt-F.If cond first.0 []) (stmts.If cond first.0 []) (stmts.rolls-If cond first.0 []) (c, (f, tt))))
        (else_part >>= (λ second. any (law.end_word (codes "END-IF") second.1) >>
        pure (λ _ s f c. shaped (Stmt-F.If cond first.0 second.0) (stmts.If cond first.0 second.0) (stmts.rolls-If cond first.0 second.0) (c, (f, s)))))

    if_stmt : Gives Kind (choice.if_stmt parts level scope) (λ found. IsFine found.0)
    unfolding choice.if_stmt
    if_stmt = head.if_head F L.law.enter >>= (λ cond. L.stmts scope >>= if_behind cond)

    -- ---- EVALUATE: branches under each subject of which this is known

    module _ (known : Option Known) where
      abbrev WhenFine : When → Type 0
      WhenFine when = (subject : Subject) → head.Suits F subject known → FitsWhen fits Held scope subject when

      abbrev Branches : List When → Type 0
      Branches list = Some_of WhenFine list

      when_fine : (tests : List Test) (held : List Stmt) → head.Tests F known tests → Held scope held → WhenFine (choice.when_of tests held)
      when_fine tests held t h subject s = made_when fits Held scope subject tests held (t.0, each-hence (λ test k. k subject s) tests t.1) h

      when_held : (before : List When) (tests : List Test) → Gives Kind (choice.when_held level scope before tests) (λ state. head.Tests F known tests → Each WhenFine before → Branches state.whens)
      unfolding choice.when_held
      when_held before tests = L.stmts scope >>= (λ held. pure (λ h t b. some-added WhenFine before (choice.when_of tests held.0) b (when_fine tests held.0 t h)))

      whens_by : (before : List When) (found : Option (List Test)) → Gives Kind (choice.whens_by level scope before found) (λ state. head.TestsOrNone F known found → Branches before → Branches state.whens)
      unfolding choice.whens_by
      whens_by before None = pure (λ _ b. b)
      whens_by before (Some tests) = hence (λ state h t b. h t b.1) (when_held before tests)

      when_next : (before : List When) → Gives Kind (choice.when_next parts level scope known before) (λ state. Branches before → Branches state.whens)
      unfolding choice.when_next
      when_next before = head.when_head F known >>= whens_by before

      whens_turn : (state : Whens) → Gives Kind (choice.whens_turn parts level scope known state) (λ last. Branches state.whens → Branches last.whens)
      unfolding choice.whens_turn
      whens_turn state = chosen (state.other || state.pending_not) refuse (when_next state.whens)

      whens : Gives Kind (choice.whens parts level scope known) (λ state. Branches state.whens)
      unfolding choice.whens
      whens = head.first_tests F known >>= (λ tests. when_held [] tests >>= (λ first.
          hence (λ last h w t. h (w t tt)) (loop {P = λ (state : Whens). Branches state.whens} whens_turn)))

      evaluated : (subject : Subject) (state : Whens) → Gives Kind (choice.evaluated level scope subject state) (λ found. Branches state.whens → FitsSubject fits subject × head.Suits F subject known → IsFine found.0)
      unfolding choice.evaluated choice.other_part
      evaluated subject state =
          chosen state.other {P = λ (arm : Arm). ArmFine arm.0} held_arm (pure tt) >>= (λ other. any (law.end_word (codes "END-EVALUATE") other.1) >>
          pure (λ _ o w s. shaped (Stmt-F.Evaluate subject state.whens other.0) (stmts.Evaluate subject state.whens other.0) (stmts.rolls-Evaluate subject state.whens other.0)
          (s.0, ((w.0, each-hence (λ when k. k subject s.1) state.whens w.1), o))))

    evaluate_stmt : Gives Kind (choice.evaluate_stmt parts level scope) (λ found. IsFine found.0)
    unfolding choice.evaluate_stmt
    evaluate_stmt = head.evaluate_head F L.law.enter >>= (λ found. whens found.1 >>= evaluated found.1 found.0)

    choice_stmt : Gives Kind (choice.choice_stmt parts level scope) (λ found. IsFine found.0)
    unfolding choice.choice_stmt
    choice_stmt = where_next if_stmt evaluate_stmt

    -- ---- PERFORM

    perform_by : (found : PerformHead) → Gives Kind (loops.perform_by level scope found) (λ last. head.PerformFine F Held scope found → IsFine last.0)
    unfolding loops.perform_by loops.loop_body loops.loop_end loops.loop_closed
    perform_by (heads.Whole stmt pending_not) = pure (λ h. h)
    perform_by (heads.Inline control) =
        L.stmts (loops.looped scope) >>= (λ held. chosen held.1 refuse (key (codes "END-PERFORM") >>
        pure (λ _ b c. shaped (Stmt-F.Loop control held.0) (stmts.Loop control held.0) (stmts.rolls-Loop control held.0) (c, b))))

    perform_stmt : Gives Kind (loops.perform_stmt parts level scope) (λ found. IsFine found.0)
    unfolding loops.perform_stmt
    perform_stmt = head.perform_head F Held scope L.law.enter >>= perform_by

    -- ---- all of them

    holding_stmt : Gives Kind (forms.holding_stmt parts level scope) (λ found. IsFine found.0)
    unfolding forms.holding_stmt
    holding_stmt = where_next arithmetic_stmt (where_next choice_stmt perform_stmt)

    held_stmts : (before : List Stmt) → Gives Kind (forms.held_stmts parts level scope before) (λ found. Each IsFine before → AreFine found.0)
    unfolding forms.held_stmts
    held_stmts before = where_next (read_stmt before) (holding_stmt >>= (λ found. pure (λ h b. some-added IsFine before found.0 b h)))

    stmt : (before : List Stmt) → Gives Kind (forms.stmt parts level scope before) (λ found. Each IsFine before → AreFine found.0)
    unfolding forms.stmt
    stmt before = where_next (simple.simple_stmts F Held scope before >>= (λ found. pure (λ h. h))) (held_stmts before)

    pub stmts_turn : (found : Found) → Gives Kind (forms.stmts_turn parts level scope found) (λ last. AreFine found.0 → AreFine last.0)
    unfolding forms.stmts_turn
    stmts_turn found = chosen found.1 refuse (hence (λ last h w. h w.1) (stmt found.0))

    pub stmts_with : Gives Kind (forms.stmts_with parts level scope) (λ found. AreFine found.0)
    unfolding forms.stmts_with
    stmts_with = stmt [] >>= (λ before. hence (λ last h b. h (b tt)) (loop {P = λ (found : Found). AreFine found.0} stmts_turn))

  -- with so many levels for what they hold
  held : (levels : ℕ) (scope : Scope) → Gives Kind (forms.held parts levels scope) (λ found. Good fits levels scope found.0)
  unfolding forms.held
  held zero scope = refuse
  held (suc n) scope = hence (λ found h. gathered fits n scope found.0 h) (stmts_with (Good fits n) (record { law = law.level lawful n; stmts = held n }) scope)

  pub level : (levels : ℕ) → LevelGives Kind (Good fits levels) (forms.level parts levels)
  level levels = record { law = law.level lawful levels; stmts = held levels }
