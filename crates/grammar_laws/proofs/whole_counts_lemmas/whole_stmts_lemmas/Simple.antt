-- What statements that hold no others give.
use Rattle.std.proofs.Common.{◌≡◌, ℕ, true, List, [], ◌∷◌}
use Rattle.std.specs.Prelude.{codes}
use Rattle.cob_tree.specs.declared.entry.Entry.{Entry}
use Rattle.cob_tree.specs.declared.stmt.Stmt.{Stmt}
use Rattle.parser_combinators.specs.declared.note.Position.{Position}
use Rattle.parser_combinators.specs.Form as form
use Rattle.parser_combinators.specs.Form.{Form}
use Rattle.parser_combinators.proofs.MakerLaws as laws
use Rattle.cobol_grammar.specs.declared.stmt_forms.scope.Scope.{Scope}
use Rattle.cobol_grammar.specs.stmt_forms.Part.{Parts}
use Rattle.cobol_grammar.specs.stmt_forms.Laws.{PartsAreLawful}
use Rattle.cobol_grammar.specs.stmt_forms.Move as move
use Rattle.cobol_grammar.specs.stmt_forms.File as file
use Rattle.cobol_grammar.specs.stmt_forms.Jump as jump
use Rattle.cobol_grammar.specs.stmt_forms.Stmt as forms
use Rattle.cobol_grammar.proofs.stmt_forms_lemmas.SimpleLaws as law
use Rattle.program_facts.proofs.well_scoped_lemmas.Made.{all-added}
use Rattle.grammar_laws.specs.form_results.Giving.{Gives}
use Rattle.grammar_laws.specs.form_results.Numbered.{IsNumbered}
use Rattle.grammar_laws.proofs.form_results_lemmas.Giving as giving
use Rattle.grammar_laws.proofs.form_results_lemmas.Giving.{any, hence, still, pure, refuse, note, key, maybe, where_next, items_all, ◌>>=◌, ◌>>◌}
use Rattle.grammar_laws.specs.whole_counts.whole_stmts.Paragraph.{stmts_count_whole}
use Rattle.grammar_laws.specs.whole_counts.whole_stmts.Parts.{PartsCountWhole}
use Rattle.grammar_laws.proofs.whole_counts_lemmas.whole_stmts_lemmas.Made as made
use Rattle.grammar_laws.proofs.whole_counts_lemmas.whole_stmts_lemmas.Made.{stmt_whole, Whole}

module _ (entries : List Entry) where
  abbrev pub Stmts : List Stmt → Type 0
  Stmts list = stmts_count_whole entries list ≡ true

  -- behind those before
  abbrev pub Behind : List Stmt → List Stmt → Type 0
  Behind before list = Stmts before → Stmts list

  added : {item : Form Stmt} (before : List Stmt) → Gives IsNumbered item (Whole entries) → Gives IsNumbered (form.added item before) (Behind before)
  added before F = hence (λ list h b. (h b).1) (giving.added (stmt_whole entries) before F)

  -- ---- without parts

  go_alone : (targets : List ℕ) → Gives IsNumbered (jump.go_alone targets) (Whole entries)
  unfolding jump.go_alone
  go_alone [] = refuse
  go_alone (target ∷ []) = pure (made.made-Go entries target)
  go_alone (target ∷ more ∷ others) = refuse

  cycle : Gives IsNumbered jump.cycle (λ _. Unit {0})
  unfolding jump.cycle
  cycle = where_next (key (codes "CYCLE") >> pure (λ _. tt)) (pure tt)

  pub exit_behind : (scope : Scope) (position : Position) → Gives IsNumbered (jump.exit_behind scope position) (Whole entries)
  unfolding jump.exit_behind jump.exit_paragraph jump.exit_section jump.exit_perform
  exit_behind scope position =
      where_next (key (codes "PARAGRAPH") >> pure (λ _. made.made-ExitParagraph entries))
      (where_next (key (codes "SECTION") >> (note >> pure (λ _ _. made.made-ExitSection entries)))
      (key (codes "PERFORM") >> (cycle >>= (λ again. note >> pure (λ _ _ _. made.made-ExitPerform entries again)))))

  exit_stmt : (scope : Scope) → Gives IsNumbered (jump.exit_stmt scope) (Whole entries)
  unfolding jump.exit_stmt
  exit_stmt scope = key (codes "EXIT") >>= (λ position. still (exit_behind scope position))

  still_stmt : Gives IsNumbered jump.still_stmt (Whole entries)
  unfolding jump.still_stmt jump.next_sentence jump.stop_run jump.continue_stmt
  still_stmt =
      where_next (any (laws.◌>>◌ (laws.key (codes "NEXT")) (laws.key (codes "SENTENCE"))) >> pure (λ _. made.made-NextSentence entries))
      (where_next (any (laws.◌>>◌ (laws.key (codes "STOP")) (laws.key (codes "RUN"))) >> pure (λ _. made.made-StopRun entries))
      (key (codes "CONTINUE") >> pure (λ _. made.made-Continue entries)))

  module _ {Side Known : Type 0} {parts : Parts Side Known} (lawful : PartsAreLawful parts) (P : PartsCountWhole entries parts) where
    -- ---- moves

    display_stmt : Gives IsNumbered (move.display_stmt parts) (Whole entries)
    unfolding move.display_stmt
    display_stmt = do
      key (codes "DISPLAY")
      operands ← any (laws.some (law.value_operand lawful))
      advance ← any law.advancing
      pure (λ _ _ _. made.made-Display entries operands advance)

    move_stmt : Gives IsNumbered (move.move_stmt parts) (Whole entries)
    unfolding move.move_stmt
    move_stmt = do
      key (codes "MOVE")
      from ← any (law.value lawful)
      key (codes "TO")
      places ← any (laws.some (law.receiver lawful from))
      pure (λ _ _ _ _. made.made-Move entries (parts.operand_of from) places)

    set_one : Gives IsNumbered (move.set_one parts) (Whole entries)
    unfolding move.set_one
    set_one = any lawful.reference >>= (λ side. note >> pure (λ _ _. made.made-SetTrue entries (parts.place_of side)))

    set_stmts : (before : List Stmt) → Gives IsNumbered (move.set_stmts parts before) (Behind before)
    unfolding move.set_stmts
    set_stmts before = do
      key (codes "SET")
      first ← set_one
      found ← items_all (stmt_whole entries) set_one
      key (codes "TO")
      key (codes "TRUE")
      pure (λ _ _ h f _ b. h (all-added (stmt_whole entries) before first b f))

    -- ---- files

    open_stmt : Gives IsNumbered (file.open_stmt parts) (Whole entries)
    unfolding file.open_stmt
    open_stmt = do
      key (codes "OPEN")
      first ← any (law.open_group lawful [])
      openings ← any (laws.loop (law.open_group lawful))
      pure (λ _ _ _. made.made-Opens entries openings)

    close_stmt : Gives IsNumbered (file.close_stmt parts) (Whole entries)
    unfolding file.close_stmt
    close_stmt = do
      key (codes "CLOSE")
      files ← any (laws.some (law.file_name lawful))
      pure (λ _ _. made.made-Closes entries files)

    write_stmt : Gives IsNumbered (file.write_stmt parts) (Whole entries)
    unfolding file.write_stmt
    write_stmt = do
      key (codes "WRITE")
      target ← any lawful.record_name
      from ← any (law.from_part lawful target)
      maybe (codes "END-WRITE")
      pure (λ _ _ _ _. made.made-Write entries (parts.entry_of target) from)

    rewrite_stmt : Gives IsNumbered (file.rewrite_stmt parts) (Whole entries)
    unfolding file.rewrite_stmt
    rewrite_stmt = do
      key (codes "REWRITE")
      target ← any lawful.record_name
      from ← any (law.from_part lawful target)
      maybe (codes "END-REWRITE")
      pure (λ _ _ _ _. made.made-Rewrite entries (parts.entry_of target) from)

    -- ---- jumps

    go_depending : (targets : List ℕ) → Gives IsNumbered (jump.go_depending parts targets) (Whole entries)
    unfolding jump.go_depending
    go_depending targets = do
      key (codes "DEPENDING")
      maybe (codes "ON")
      side ← P.reference
      note
      pure (λ n w _ _. made.made-GoDepending entries targets (parts.place_of side) (w n.1))

    go_stmt : Gives IsNumbered (jump.go_stmt parts) (Whole entries)
    unfolding jump.go_stmt
    go_stmt = do
      key (codes "GO")
      maybe (codes "TO")
      first ← any (law.procedure_entry lawful)
      targets ← any (laws.loop (λ front. laws.added front (law.procedure_entry lawful)))
      where_next (hence (λ stmt h _ _ _ _. h) (go_depending targets)) (hence (λ stmt h _ _ _ _. h) (go_alone targets))

    jump_stmt : (scope : Scope) → Gives IsNumbered (jump.jump_stmt parts scope) (Whole entries)
    unfolding jump.jump_stmt
    jump_stmt scope = where_next go_stmt (where_next (exit_stmt scope) still_stmt)

    -- ---- all of them

    moving_stmts : (before : List Stmt) → Gives IsNumbered (forms.moving_stmts parts before) (Behind before)
    unfolding forms.moving_stmts forms.moving_stmt
    moving_stmts before = where_next (set_stmts before) (added before (where_next display_stmt move_stmt))

    filing_stmt : Gives IsNumbered (forms.filing_stmt parts) (Whole entries)
    unfolding forms.filing_stmt forms.writing_stmt
    filing_stmt = where_next open_stmt (where_next close_stmt (where_next write_stmt rewrite_stmt))

    pub simple_stmts : (scope : Scope) (before : List Stmt) → Gives IsNumbered (forms.simple_stmts parts scope before) (Behind before)
    unfolding forms.simple_stmts forms.filing_or_jump
    simple_stmts scope before = where_next (moving_stmts before) (added before (where_next filing_stmt (jump_stmt scope)))
