-- What statements that hold no others give of few tokens passes a test by parts.
use Rattle.std.proofs.Common.{◌<◌, ◌+◌, ℕ, List, [], ◌∷◌, length}
use Rattle.std.specs.Prelude.{codes}
use Rattle.cob_tree.specs.declared.stmt.Stmt.{Stmt}
use Rattle.parser_combinators.specs.declared.note.Position.{Position}
use Rattle.parser_combinators.proofs.MakerLaws as laws
use Rattle.cobol_grammar.specs.declared.stmt_forms.scope.Scope.{Scope}
use Rattle.cobol_grammar.specs.stmt_forms.Part.{Parts}
use Rattle.cobol_grammar.specs.stmt_forms.Laws.{PartsAreLawful}
use Rattle.cobol_grammar.specs.stmt_forms.Move as move
use Rattle.cobol_grammar.specs.stmt_forms.File as file
use Rattle.cobol_grammar.specs.stmt_forms.Jump as jump
use Rattle.cobol_grammar.specs.stmt_forms.Stmt as forms
use Rattle.cobol_grammar.proofs.stmt_forms_lemmas.SimpleLaws as law
use Rattle.program_facts.proofs.well_scoped_lemmas.Made.{all-added}
use Rattle.grammar_laws.specs.short_lists.Giving.{GivesOfFew}
use Rattle.grammar_laws.proofs.short_lists_lemmas.Giving.{any, hence, still, pure, refuse, where_next, few_items, added, items_all, ◌>>=◌, ◌>>◌}
use Rattle.grammar_laws.proofs.short_lists_lemmas.Passing as passing
use Rattle.grammar_laws.proofs.short_lists_lemmas.Passing.{Fold, IsByParts, Passes, Behind, stmt_passes}

module _ {bound : ℕ} {fold : Fold} (is : IsByParts bound fold) where
  -- ---- without parts

  go_alone : (targets : List ℕ) → GivesOfFew bound (jump.go_alone targets) (Passes fold)
  unfolding jump.go_alone
  go_alone [] = refuse
  go_alone (target ∷ []) = pure (passing.made-Go is target)
  go_alone (target ∷ more ∷ others) = refuse

  cycle : GivesOfFew bound jump.cycle (λ _. Unit {0})
  unfolding jump.cycle
  cycle = where_next (laws.key (codes "CYCLE") >> pure tt) (pure tt)

  pub exit_behind : (scope : Scope) (position : Position) → GivesOfFew bound (jump.exit_behind scope position) (Passes fold)
  unfolding jump.exit_behind jump.exit_paragraph jump.exit_section jump.exit_perform
  exit_behind scope position =
      where_next (laws.key (codes "PARAGRAPH") >> pure (passing.made-ExitParagraph is))
      (where_next (laws.key (codes "SECTION") >> (laws.note >> pure (passing.made-ExitSection is)))
      (laws.key (codes "PERFORM") >> (cycle >>= (λ again. laws.note >> pure (λ _. passing.made-ExitPerform is again)))))

  exit_stmt : (scope : Scope) → GivesOfFew bound (jump.exit_stmt scope) (Passes fold)
  unfolding jump.exit_stmt
  exit_stmt scope = any (laws.key (codes "EXIT")) >>= (λ position. still (exit_behind scope position))

  still_stmt : GivesOfFew bound jump.still_stmt (Passes fold)
  unfolding jump.still_stmt jump.next_sentence jump.stop_run jump.continue_stmt
  still_stmt =
      where_next (laws.◌>>◌ (laws.key (codes "NEXT")) (laws.key (codes "SENTENCE")) >> pure (passing.made-NextSentence is))
      (where_next (laws.◌>>◌ (laws.key (codes "STOP")) (laws.key (codes "RUN")) >> pure (passing.made-StopRun is))
      (laws.key (codes "CONTINUE") >> pure (passing.made-Continue is)))

  module _ {Side Known : Type 0} {parts : Parts Side Known} (lawful : PartsAreLawful parts) where
    -- ---- moves

    display_stmt : GivesOfFew bound (move.display_stmt parts) (Passes fold)
    unfolding move.display_stmt
    display_stmt = do
      laws.key (codes "DISPLAY")
      operands ← any (laws.some (law.value_operand lawful))
      advance ← any law.advancing
      pure (λ _ _. passing.made-Display is operands advance)

    move_stmt : GivesOfFew bound (move.move_stmt parts) (Passes fold)
    unfolding move.move_stmt
    move_stmt = do
      laws.key (codes "MOVE")
      from ← any (law.value lawful)
      laws.key (codes "TO")
      places ← any (laws.some (law.receiver lawful from))
      pure (λ _ _. passing.made-Move is (parts.operand_of from) places)

    set_one : GivesOfFew bound (move.set_one parts) (Passes fold)
    unfolding move.set_one
    set_one = any lawful.reference >>= (λ side. laws.note >> pure (λ _. passing.made-SetTrue is (parts.place_of side)))

    set_stmts : (before : List Stmt) → GivesOfFew bound (move.set_stmts parts before) (Behind fold before)
    unfolding move.set_stmts
    set_stmts before = do
      laws.key (codes "SET")
      first ← set_one
      found ← items_all (stmt_passes fold) set_one
      laws.key (codes "TO")
      laws.key (codes "TRUE")
      pure (λ h f b. h (all-added (stmt_passes fold) before first b f))

    -- ---- files

    open_stmt : GivesOfFew bound (file.open_stmt parts) (Passes fold)
    unfolding file.open_stmt
    open_stmt = do
      laws.key (codes "OPEN")
      first ← any (law.open_group lawful [])
      openings ← any (laws.loop (law.open_group lawful))
      pure (λ _ _. passing.made-Opens is openings)

    close_stmt : GivesOfFew bound (file.close_stmt parts) (Passes fold)
    unfolding file.close_stmt
    close_stmt = do
      laws.key (codes "CLOSE")
      files ← any (laws.some (law.file_name lawful))
      pure (λ _. passing.made-Closes is files)

    write_stmt : GivesOfFew bound (file.write_stmt parts) (Passes fold)
    unfolding file.write_stmt
    write_stmt = do
      laws.key (codes "WRITE")
      target ← any lawful.record_name
      from ← any (law.from_part lawful target)
      laws.maybe (codes "END-WRITE")
      pure (λ _ _. passing.made-Write is (parts.entry_of target) from)

    rewrite_stmt : GivesOfFew bound (file.rewrite_stmt parts) (Passes fold)
    unfolding file.rewrite_stmt
    rewrite_stmt = do
      laws.key (codes "REWRITE")
      target ← any lawful.record_name
      from ← any (law.from_part lawful target)
      laws.maybe (codes "END-REWRITE")
      pure (λ _ _. passing.made-Rewrite is (parts.entry_of target) from)

    -- ---- jumps

    go_depending : (targets : List ℕ) → GivesOfFew bound (jump.go_depending parts targets) (λ stmt. length targets < 1 + bound → Passes fold stmt)
    unfolding jump.go_depending
    go_depending targets = do
      laws.key (codes "DEPENDING")
      laws.maybe (codes "ON")
      side ← any lawful.reference
      laws.note
      pure (λ _ few. passing.made-GoDepending is targets (parts.place_of side) few)

    -- the first name, and those behind it, each of which takes a token
    go_stmt : GivesOfFew bound (jump.go_stmt parts) (Passes fold)
    unfolding jump.go_stmt
    go_stmt = do
      laws.key (codes "GO")
      laws.maybe (codes "TO")
      first ← any (law.procedure_entry lawful)
      targets ← few_items (law.procedure_entry lawful)
      where_next (hence (λ stmt h few _. h few) (go_depending targets)) (still (still (go_alone targets)))

    jump_stmt : (scope : Scope) → GivesOfFew bound (jump.jump_stmt parts scope) (Passes fold)
    unfolding jump.jump_stmt
    jump_stmt scope = where_next go_stmt (where_next (exit_stmt scope) still_stmt)

    -- ---- all of them

    moving_stmts : (before : List Stmt) → GivesOfFew bound (forms.moving_stmts parts before) (Behind fold before)
    unfolding forms.moving_stmts forms.moving_stmt
    moving_stmts before = where_next (set_stmts before) (added (stmt_passes fold) before (where_next display_stmt move_stmt))

    filing_stmt : GivesOfFew bound (forms.filing_stmt parts) (Passes fold)
    unfolding forms.filing_stmt forms.writing_stmt
    filing_stmt = where_next open_stmt (where_next close_stmt (where_next write_stmt rewrite_stmt))

    pub simple_stmts : (scope : Scope) (before : List Stmt) → GivesOfFew bound (forms.simple_stmts parts scope before) (Behind fold before)
    unfolding forms.simple_stmts forms.filing_or_jump
    simple_stmts scope before = where_next (moving_stmts before) (added (stmt_passes fold) before (where_next filing_stmt (jump_stmt scope)))
