-- Statements that hold no others weigh no more than their tokens.
use Rattle.std.proofs.Common.{ℕ, List, [], ◌∷◌, arith}
use Rattle.std.specs.Prelude.{codes}
use Rattle.cob_tree.specs.declared.stmt.Stmt.{Stmt}
use Rattle.parser_combinators.specs.declared.note.Position.{Position}
use Rattle.parser_combinators.proofs.MakerLaws as laws
use Rattle.cobol_grammar.specs.declared.stmt_forms.scope.Scope.{Scope}
use Rattle.cobol_grammar.specs.stmt_forms.Part.{Parts}
use Rattle.cobol_grammar.specs.stmt_forms.Laws.{PartsAreLawful}
use Rattle.cobol_grammar.specs.stmt_forms.Move as move
use Rattle.cobol_grammar.specs.stmt_forms.File as file
use Rattle.cobol_grammar.specs.stmt_forms.Jump as jump
use Rattle.cobol_grammar.specs.stmt_forms.Stmt as forms
use Rattle.cobol_grammar.proofs.stmt_forms_lemmas.SimpleLaws as law
use Rattle.end_to_end_laws.proofs.rewriting_lemmas.weights.Weights as made
use Rattle.end_to_end_laws.proofs.rewriting_lemmas.weights.Weights.{stmt_weighs, stmts_weigh}
use Rattle.end_to_end_laws.proofs.rewriting_lemmas.weights.Weighing.{Weighs, added, any, eased, framed, items_behind, pure, refuse, takes, where_next, ◌>>=◌, ◌>>◌}

-- ---- without parts

go_alone : (targets : List ℕ) → Weighs 1 (jump.go_alone targets) stmt_weighs
unfolding jump.go_alone
go_alone [] = refuse
go_alone (target ∷ []) = pure (let h = made.made-Go target in omega (arith, h))
go_alone (target ∷ more ∷ others) = refuse

cycle : {n : ℕ} → Weighs n jump.cycle (λ _. n)
unfolding jump.cycle
cycle = where_next (laws.key (codes "CYCLE") >> pure (omega arith)) (pure (omega arith))

pub exit_behind : (scope : Scope) (position : Position) → Weighs 0 (jump.exit_behind scope position) stmt_weighs
unfolding jump.exit_behind jump.exit_paragraph jump.exit_section jump.exit_perform
exit_behind scope position =
    where_next (laws.key (codes "PARAGRAPH") >> pure (let h = made.made-ExitParagraph in omega (arith, h)))
    (where_next (laws.key (codes "SECTION") >> (any laws.note >>= (λ _. pure (let h = made.made-ExitSection in omega (arith, h)))))
    (laws.key (codes "PERFORM") >> (cycle >>= (λ again. any laws.note >>= (λ _. pure (let h = made.made-ExitPerform again in omega (arith, h)))))))

exit_stmt : (scope : Scope) → Weighs 0 (jump.exit_stmt scope) stmt_weighs
unfolding jump.exit_stmt
exit_stmt scope = any (laws.key (codes "EXIT")) >>= (λ position. exit_behind scope position)

still_stmt : Weighs 0 jump.still_stmt stmt_weighs
unfolding jump.still_stmt jump.next_sentence jump.stop_run jump.continue_stmt
still_stmt =
    where_next (laws.◌>>◌ (laws.key (codes "NEXT")) (laws.key (codes "SENTENCE")) >> pure (let h = made.made-NextSentence in omega (arith, h)))
    (where_next (laws.◌>>◌ (laws.key (codes "STOP")) (laws.key (codes "RUN")) >> pure (let h = made.made-StopRun in omega (arith, h)))
    (laws.key (codes "CONTINUE") >> pure (let h = made.made-Continue in omega (arith, h))))

module _ {Side Known : Type 0} {parts : Parts Side Known} (lawful : PartsAreLawful parts) where
  -- ---- moves

  display_stmt : Weighs 0 (move.display_stmt parts) stmt_weighs
  unfolding move.display_stmt
  display_stmt =
      laws.key (codes "DISPLAY") >> (any (laws.some (law.value_operand lawful)) >>= (λ operands. any law.advancing >>= (λ advance.
      pure (let h = made.made-Display operands advance in omega (arith, h)))))

  move_stmt : Weighs 0 (move.move_stmt parts) stmt_weighs
  unfolding move.move_stmt
  move_stmt =
      laws.key (codes "MOVE") >> (any (law.value lawful) >>= (λ from. any (laws.key (codes "TO")) >>= (λ _. any (laws.some (law.receiver lawful from)) >>= (λ places.
      pure (let h = made.made-Move (parts.operand_of from) places in omega (arith, h))))))

  set_one : Weighs 0 (move.set_one parts) stmt_weighs
  unfolding move.set_one
  set_one = takes lawful.reference >>= (λ side. any laws.note >>= (λ _. pure (let h = made.made-SetTrue (parts.place_of side) in omega (arith, h))))

  set_stmts : (before : List Stmt) → Weighs (stmts_weigh before) (move.set_stmts parts before) stmts_weigh
  unfolding move.set_stmts
  set_stmts before =
      any (laws.key (codes "SET")) >>= (λ _. framed set_one >>= (λ first.
      items_behind stmt_weighs before first set_one >>= (λ found.
      any (laws.key (codes "TO")) >>= (λ _. any (laws.key (codes "TRUE")) >>= (λ _. pure (omega arith))))))

  -- ---- files

  open_stmt : Weighs 0 (file.open_stmt parts) stmt_weighs
  unfolding file.open_stmt
  open_stmt =
      laws.key (codes "OPEN") >> (any (law.open_group lawful []) >>= (λ first. any (laws.loop (law.open_group lawful)) >>= (λ openings.
      pure (let h = made.made-Opens openings in omega (arith, h)))))

  close_stmt : Weighs 0 (file.close_stmt parts) stmt_weighs
  unfolding file.close_stmt
  close_stmt = laws.key (codes "CLOSE") >> (any (laws.some (law.file_name lawful)) >>= (λ files. pure (let h = made.made-Closes files in omega (arith, h))))

  write_stmt : Weighs 0 (file.write_stmt parts) stmt_weighs
  unfolding file.write_stmt
  write_stmt =
      laws.key (codes "WRITE") >> (any lawful.record_name >>= (λ target. any (law.from_part lawful target) >>= (λ from. any (laws.maybe (codes "END-WRITE")) >>= (λ _.
      pure (let h = made.made-Write (parts.entry_of target) from in omega (arith, h))))))

  rewrite_stmt : Weighs 0 (file.rewrite_stmt parts) stmt_weighs
  unfolding file.rewrite_stmt
  rewrite_stmt =
      laws.key (codes "REWRITE") >> (any lawful.record_name >>= (λ target. any (law.from_part lawful target) >>= (λ from. any (laws.maybe (codes "END-REWRITE")) >>= (λ _.
      pure (let h = made.made-Rewrite (parts.entry_of target) from in omega (arith, h))))))

  -- ---- jumps

  go_depending : (targets : List ℕ) → Weighs 1 (jump.go_depending parts targets) stmt_weighs
  unfolding jump.go_depending
  go_depending targets =
      any (laws.key (codes "DEPENDING")) >>= (λ _. any (laws.maybe (codes "ON")) >>= (λ _. any lawful.reference >>= (λ side. any laws.note >>= (λ _.
      pure (let h = made.made-GoDepending targets (parts.place_of side) in omega (arith, h))))))

  go_stmt : Weighs 0 (jump.go_stmt parts) stmt_weighs
  unfolding jump.go_stmt
  go_stmt =
      laws.key (codes "GO") >> (any (laws.maybe (codes "TO")) >>= (λ _. any (law.procedure_entry lawful) >>= (λ first. any (laws.loop (λ before. laws.added before (law.procedure_entry lawful))) >>= (λ targets.
      where_next (eased (omega arith) (λ stmt. omega arith) (go_depending targets)) (eased (omega arith) (λ stmt. omega arith) (go_alone targets))))))

  jump_stmt : (scope : Scope) → Weighs 0 (jump.jump_stmt parts scope) stmt_weighs
  unfolding jump.jump_stmt
  jump_stmt scope = where_next go_stmt (where_next (exit_stmt scope) still_stmt)

  -- ---- all of them

  moving_stmts : (before : List Stmt) → Weighs (stmts_weigh before) (forms.moving_stmts parts before) stmts_weigh
  unfolding forms.moving_stmts forms.moving_stmt
  moving_stmts before = where_next (set_stmts before) (added stmt_weighs before (where_next display_stmt move_stmt))

  filing_stmt : Weighs 0 (forms.filing_stmt parts) stmt_weighs
  unfolding forms.filing_stmt forms.writing_stmt
  filing_stmt = where_next open_stmt (where_next close_stmt (where_next write_stmt rewrite_stmt))

  pub simple_stmts : (scope : Scope) (before : List Stmt) → Weighs (stmts_weigh before) (forms.simple_stmts parts scope before) stmts_weigh
  unfolding forms.simple_stmts forms.filing_or_jump
  simple_stmts scope before = where_next (moving_stmts before) (added stmt_weighs before (where_next filing_stmt (jump_stmt scope)))
