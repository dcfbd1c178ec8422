-- DISPLAY, MOVE and SET.
use Rattle.std.proofs.Common.{◌≡◌, ℕ, Bool, true, false, inl, List, [], ◌∷◌, ◌++◌, Option, Some, refl, ap, ◌∙◌}
use Rattle.std.specs.Prelude.{codes}
use Rattle.cob_tree.specs.declared.place.Operand.{Operand}
use Rattle.cob_tree.specs.declared.place.Operand.TheVariants as operands
use Rattle.cob_tree.specs.declared.place.Place.{Place}
use Rattle.cob_tree.specs.declared.program.Program.{Program}
use Rattle.cob_tree.specs.declared.stmt.Stmt.{Stmt}
use Rattle.cob_tree.specs.declared.stmt.Stmt.TheVariants as stmts
use Rattle.cobol_lex.specs.declared.token.TokenKind.{TokenKind}
use Rattle.cobol_lex.specs.declared.token.TokenKind.TheVariants as kinds
use Rattle.parser_combinators.specs.Form as form
use Rattle.parser_combinators.specs.Form.{begins_by}
use Rattle.unparser.specs.Head.{advance_tokens, display_tokens, places_tokens}
use Rattle.unparser.specs.Place.{operand_tokens, place_tokens}
use Rattle.cobol_grammar.specs.stmt_forms.Part.{Parts}
use Rattle.cobol_grammar.specs.stmt_forms.Move as move
use Rattle.round_trip.specs.spelled_forms.Spelling.{first_of, Spelled}
use Rattle.round_trip.proofs.spelled_forms_lemmas.Makers.{pure, note, where_behind, bind, then, ending, behind_first, behind_none, there_next, other_next, no_turn}
use Rattle.round_trip.proofs.spelled_forms_lemmas.Tokens.{key, maybe}
use Rattle.round_trip.specs.spelling.stmt_spelling.Behind.{BehindPart, BehindStmt, behind_stmts}
use Rattle.round_trip.specs.spelling.stmt_spelling.Part.{Kept, PartsAreTold, BehindOperand, SpellsPlace, SpellsValue, Without}
use Rattle.round_trip.specs.spelling.stmt_spelling.Stmt.{Some_of, Receives}
use Rattle.round_trip.proofs.spelling_lemmas.stmt_spelling_lemmas.Behind.{none-among, stmt-part}
use Rattle.round_trip.proofs.spelling_lemmas.stmt_spelling_lemmas.Lists.{each, IsItem, some-items}
use Rattle.round_trip.proofs.spelling_lemmas.stmt_spelling_lemmas.Parts.{no-operand, no-name, stmt-operand, name-operand, value, value_item}

advancing : {n : ℕ} (advance : Bool) → Spelled move.advancing n (advance_tokens advance) BehindStmt (λ found. found ≡ advance)
unfolding move.advancing move.no_advancing
advancing true = other_next move.begins_advancing _ (λ o b. none-among move.begins_advancing behind_stmts refl refl o b) (pure refl)
advancing false =
    there_next move.begins_advancing _ (λ o b. refl)
    (then (maybe (codes "WITH")) (λ _ _. then (key (codes "NO")) (λ _ _. ending (where_behind (λ o b. tt) (key (codes "ADVANCING"))) (λ _ _. pure refl))))

behind-items : (advance : Bool) (o : Option TokenKind) → BehindStmt o → BehindPart (first_of (advance_tokens advance) o)
behind-items true o b = stmt-part o b
behind-items false o b = refl

module _ {Side Known : Type 0} {parts : Parts Side Known} {kept : Kept Side} (T : PartsAreTold parts kept) (program : Program) where
  pub display_stmt : {n : ℕ} (items : List Operand) (advance : Bool) → Some_of (SpellsValue parts kept program) items →
      Spelled (move.display_stmt parts) n (display_tokens program items advance) BehindStmt (λ stmt. stmt ≡ stmts.Display items advance)
  unfolding move.display_stmt
  display_stmt items advance h =
      then (key (codes "DISPLAY")) (λ _ _. bind
      (some-items parts.begins_operand (move.value_operand parts) (operand_tokens program) (BehindOperand parts) BehindPart (λ o b. inl b) (no-operand T) items h.0 (each (value_item T) items h.1) _)
      (behind-items advance)
      (λ found e. ending (advancing advance) (λ a k. pure (ap (λ list. stmts.Display list a) e ∙ ap (λ v. stmts.Display items v) k))))

  receiver : (from : Operand) {side : Side} → kept.operand from side → (place : Place) → Receives parts kept program from place →
      IsItem parts.is_name (move.receiver parts side) (place_tokens program) (BehindOperand parts) place
  unfolding move.receiver
  receiver from {side = side} told place S = record {
    spelled = λ n. ending (S.0.spelled n) (λ other h. behind_none (note (S.1.0 other h)) (λ _ _. behind_none (note (S.1.1 side other told h)) (λ _ _. pure (T.place_told place other h))));
    begins = S.0.begins;
    enters = λ o. name-operand T _ (S.0.begins o);
  }

  pub move_stmt : {n : ℕ} (from : Operand) (to : List Place) → SpellsValue parts kept program from → Some_of (Receives parts kept program from) to →
      Spelled (move.move_stmt parts) n (kinds.Word (codes "MOVE") ∷ operand_tokens program from ++ kinds.Word (codes "TO") ∷ places_tokens program to) BehindStmt
      (λ stmt. stmt ≡ stmts.Move from to)
  unfolding move.move_stmt
  move_stmt from to S h =
      then (key (codes "MOVE")) (λ _ _. bind (value T S) (λ o b. inl refl) (λ side told. then (key (codes "TO")) (λ _ _. ending
      (some-items parts.is_name (move.receiver parts side) (place_tokens program) (BehindOperand parts) BehindStmt (stmt-operand T) (λ o b. no-name T o (stmt-part o b)) to h.0 (each (receiver from told) to h.1) _)
      (λ list e. pure (ap (λ x. stmts.Move x list) (T.operand_told from side told) ∙ ap (stmts.Move from) e)))))

  abbrev IsTo : Option TokenKind → Type 0
  IsTo o = o ≡ Some (kinds.Word (codes "TO"))

  pub set_stmts : {n : ℕ} (place : Place) → SpellsPlace parts kept program place → Without parts kept program parts.condition_fault (operands.Place place) → (before : List Stmt) →
      Spelled (move.set_stmts parts before) n
      (kinds.Word (codes "SET") ∷ place_tokens program place ++ kinds.Word (codes "TO") ∷ kinds.Word (codes "TRUE") ∷ []) BehindStmt
      (λ list. list ≡ before ++ stmts.SetTrue place ∷ [])
  unfolding move.set_stmts move.set_one
  set_stmts place S w before =
      then (key (codes "SET")) (λ _ _. bind
      (ending (S.spelled _) (λ side h. behind_none (note (w side h)) (λ _ _. pure (ap stmts.SetTrue (T.place_told place side h)))))
      (λ o b. inl refl)
      (λ first e. behind_first {Mid = IsTo}
      (no_turn parts.is_name (form.added (move.set_one parts)) (λ o b. ap (begins_by parts.is_name) b ∙ T.word_no_name (codes "TO") refl) (ap (λ x. before ++ x ∷ []) e))
      (λ o b. refl)
      (λ list k. then (key (codes "TO")) (λ _ _. ending (where_behind (λ o b. tt) (key (codes "TRUE"))) (λ _ _. pure k)))))
