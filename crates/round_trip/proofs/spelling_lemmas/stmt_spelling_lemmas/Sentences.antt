-- Sentences, one behind the other.
use Rattle.std.proofs.Common.{◌≡◌, ℕ, Bool, true, false, List, [], ◌∷◌, ◌++◌, Option, None, refl, ap, sym, ◌∙◌, subst, append_assoc, append-nil}
use Rattle.std.specs.Prelude.{codes}
use Rattle.cob_tree.specs.declared.program.Program.{Program}
use Rattle.cob_tree.specs.declared.stmt.Arms.{Arms}
use Rattle.cob_tree.specs.declared.stmt.Stmt.{Stmt, out-Stmt, roll-Stmt, roll-out-Stmt, map-Stmt, fold-roll-Stmt}
use Rattle.cob_tree.specs.declared.stmt.Stmt.TheOpen.{Stmt-F}
use Rattle.cob_tree.specs.declared.stmt.Stmt.TheVariants as stmts
use Rattle.cob_tree.specs.declared.stmt.When.{When}
use Rattle.cobol_lex.specs.declared.token.TokenKind.{TokenKind}
use Rattle.cobol_lex.specs.declared.token.TokenKind.TheVariants as kinds
use Rattle.parser_combinators.specs.declared.note.Position.{Position}
use Rattle.parser_combinators.specs.declared.why.Why.TheVariants.{Syntax}
use Rattle.parser_combinators.specs.Form as form
use Rattle.parser_combinators.specs.Form.{Form, begins_by}
use Rattle.parser_combinators.specs.Part as part
use Rattle.unparser.specs.Token.{Tokens}
use Rattle.cobol_print.specs.declared.units.unit.PrintUnit.{PrintUnit}
use Rattle.cobol_print.specs.units.Unit.{ended}
use Rattle.cobol_print.specs.units.Statement.{Lines, ArmLines, WhenLines, stmt_step, arms_step, when_step, stmt_lines, arms_lines, when_lines}
use Rattle.cobol_print.specs.Unit.{all_tokens}
use Rattle.cobol_grammar.specs.declared.stmt_forms.scope.Scope.{Scope}
use Rattle.cobol_grammar.specs.stmt_forms.Arms.{Found, Level}
use Rattle.cobol_grammar.specs.stmt_forms.Jump as jump
use Rattle.cobol_grammar.specs.stmt_forms.Part.{Parts}
use Rattle.cobol_grammar.specs.stmt_forms.Paragraph as paragraphs
use Rattle.cobol_grammar.specs.stmt_forms.Verb.{begins_stmt}
use Rattle.round_trip.specs.spelled_forms.Spelling.{first_of, Any, Spelled}
use Rattle.round_trip.proofs.spelled_forms_lemmas.Makers.{pure, hence, where_behind, ending, chosen_other}
use Rattle.round_trip.proofs.spelled_forms_lemmas.Tokens.{period}
use Rattle.round_trip.specs.spelling.stmt_spelling.Behind.{BehindStmt}
use Rattle.round_trip.specs.spelling.stmt_spelling.Part.{Kept, PartsAreTold}
use Rattle.round_trip.specs.spelling.stmt_spelling.Stmt.{SpellsShape}
use Rattle.round_trip.proofs.spelling_lemmas.stmt_spelling_lemmas.Behind.{true-false}
use Rattle.round_trip.proofs.spelling_lemmas.stmt_spelling_lemmas.Jumps as jumps
use Rattle.round_trip.proofs.spelling_lemmas.stmt_spelling_lemmas.Holding.{calc-first}

-- ---- a period behind the last line

ended-some : (unit : PrintUnit) (units : List PrintUnit) → all_tokens (ended (unit ∷ units)) ≡ all_tokens (unit ∷ units) ++ kinds.Period ∷ []
ended-some unit [] = append-nil (unit.tokens ++ kinds.Period ∷ []) ∙ ap (λ t. t ++ kinds.Period ∷ []) (sym (append-nil unit.tokens))
ended-some unit (next ∷ units) = ap (λ t. unit.tokens ++ t) (ended-some next units) ∙ sym (append_assoc unit.tokens (all_tokens (next ∷ units)) (kinds.Period ∷ []))

pub ended-told : (units : List PrintUnit) → begins_by begins_stmt (first_of (all_tokens units) None) ≡ true → all_tokens (ended units) ≡ all_tokens units ++ kinds.Period ∷ []
ended-told [] h = absurd cc
ended-told (unit ∷ units) h = ended-some unit units

pub sentence-end : {n : ℕ} (xs : List Stmt) (found : Found) → found ≡ (xs, false) → Spelled (paragraphs.sentence_end found) n (kinds.Period ∷ []) Any (λ s. s ≡ paragraphs.sentence_of xs)
unfolding paragraphs.sentence_end paragraphs.sentence_closed
sentence-end {n = n} xs found e =
    subst (λ f. Spelled (paragraphs.sentence_end f) n (kinds.Period ∷ []) Any (λ s. s ≡ paragraphs.sentence_of xs)) (sym e)
    (chosen_other (form.refuse Syntax) refl (ending period (λ _ _. pure refl)))

-- ---- EXIT with a further word at the front

unfoldable pub exit_word : Stmt-F Stmt Arms When → Bool
exit_word Stmt-F.ExitParagraph = true
exit_word Stmt-F.ExitSection = true
exit_word (Stmt-F.ExitPerform cycle) = true
exit_word _ = false

module _ {Side Known : Type 0} {parts : Parts Side Known} {kept : Kept Side} (T : PartsAreTold parts kept) (program : Program) where
  abbrev pub Stepped : ℕ → Bool → Stmt-F Stmt Arms When → Tokens
  Stepped column closed y = all_tokens (stmt_step program (map-Stmt Stmt Arms When Lines ArmLines WhenLines (stmt_lines program) (arms_lines program) (when_lines program) y) column closed)

  abbrev pub Printed : ℕ → Bool → Stmt → Tokens
  Printed column closed x = all_tokens (stmt_lines program x column closed)

  pub step-told : (column : ℕ) (closed : Bool) (x : Stmt) → Printed column closed x ≡ Stepped column closed (out-Stmt x)
  step-told column closed x =
      ap (Printed column closed) (sym (roll-out-Stmt x))
      ∙ ap (λ (f : Lines). all_tokens (f column closed)) (fold-roll-Stmt Lines ArmLines WhenLines (stmt_step program) arms_step (when_step program) (out-Stmt x))

  module _ (level : Level) (scope : Scope) (Held : Scope → List Stmt → Type 0) where
    pub not-exit : (y : Stmt-F Stmt Arms When) → exit_word y ≡ false → SpellsShape parts kept program Held scope y → (column : ℕ) (closed : Bool) (o : Option TokenKind) →
        begins_by (part.is_key (codes "EXIT")) (first_of (Stepped column closed y) o) ≡ false
    unfolding exit_word
    not-exit (Stmt-F.Display items advance) e h column closed o = refl
    not-exit (Stmt-F.Move from to) e h column closed o = refl
    not-exit (Stmt-F.Arith calc into arms) e h column closed o = calc-first T program level scope (part.is_key (codes "EXIT")) false refl refl refl refl refl calc into _ o
    not-exit (Stmt-F.SetTrue place) e h column closed o = refl
    not-exit (Stmt-F.Opens openings) e h column closed o = refl
    not-exit (Stmt-F.Closes files) e h column closed o = refl
    not-exit (Stmt-F.Read file into arms) e h column closed o = refl
    not-exit (Stmt-F.Write entry from) e h column closed o = refl
    not-exit (Stmt-F.Rewrite entry from) e h column closed o = refl
    not-exit (Stmt-F.If cond met unmet) e h column closed o = refl
    not-exit (Stmt-F.Evaluate subject whens other) e h column closed o = refl
    not-exit (Stmt-F.Loop control body) e h column closed o = refl
    not-exit (Stmt-F.Perform entry exit control) e h column closed o = refl
    not-exit (Stmt-F.Go to) e h column closed o = refl
    not-exit (Stmt-F.GoDepending to on) e h column closed o = refl
    not-exit Stmt-F.NextSentence e h column closed o = refl
    not-exit Stmt-F.StopRun e h column closed o = refl
    not-exit Stmt-F.Exit e h column closed o = absurd h
    not-exit Stmt-F.ExitParagraph e h column closed o = true-false refl e
    not-exit Stmt-F.ExitSection e h column closed o = true-false refl e
    not-exit (Stmt-F.ExitPerform cycle) e h column closed o = true-false refl e
    not-exit Stmt-F.Continue e h column closed o = refl

    pub record ExitTurn (x : Stmt) (tokens : Bool → Tokens) : Type 0 where
      pub rest : Tokens
      pub told : (closed : Bool) → tokens closed ≡ kinds.Word (codes "EXIT") ∷ rest
      pub word : (o : Option TokenKind) → begins_by paragraphs.begins_exit_word (first_of rest o) ≡ true
      pub behind : (n : ℕ) (position : Position) → Spelled (jump.exit_behind scope position) n rest BehindStmt (λ y. y ≡ x)

    pub exit-turn : (y : Stmt-F Stmt Arms When) → exit_word y ≡ true → SpellsShape parts kept program Held scope y → (column : ℕ) → ExitTurn (roll-Stmt y) (λ closed. Stepped column closed y)
    unfolding exit_word
    exit-turn Stmt-F.ExitParagraph e h column = record {
      rest = kinds.Word (codes "PARAGRAPH") ∷ [];
      told = λ closed. refl;
      word = λ o. refl;
      behind = λ n position. hence (λ y k. k ∙ sym stmts.rolls-ExitParagraph) (where_behind (λ o b. tt) (jumps.exit_paragraph scope position));
    }
    exit-turn Stmt-F.ExitSection e h column = record {
      rest = kinds.Word (codes "SECTION") ∷ [];
      told = λ closed. refl;
      word = λ o. refl;
      behind = λ n position. hence (λ y k. k ∙ sym stmts.rolls-ExitSection) (where_behind (λ o b. tt) (jumps.exit_section scope position h));
    }
    exit-turn (Stmt-F.ExitPerform true) e h column = record {
      rest = kinds.Word (codes "PERFORM") ∷ kinds.Word (codes "CYCLE") ∷ [];
      told = λ closed. refl;
      word = λ o. refl;
      behind = λ n position. hence (λ y k. k ∙ sym (stmts.rolls-ExitPerform true)) (jumps.exit_perform scope position true h);
    }
    exit-turn (Stmt-F.ExitPerform false) e h column = record {
      rest = kinds.Word (codes "PERFORM") ∷ [];
      told = λ closed. refl;
      word = λ o. refl;
      behind = λ n position. hence (λ y k. k ∙ sym (stmts.rolls-ExitPerform false)) (jumps.exit_perform scope position false h);
    }
    exit-turn (Stmt-F.Display items advance) e h column = true-false e refl
    exit-turn (Stmt-F.Move from to) e h column = true-false e refl
    exit-turn (Stmt-F.Arith calc into arms) e h column = true-false e refl
    exit-turn (Stmt-F.SetTrue place) e h column = true-false e refl
    exit-turn (Stmt-F.Opens openings) e h column = true-false e refl
    exit-turn (Stmt-F.Closes files) e h column = true-false e refl
    exit-turn (Stmt-F.Read file into arms) e h column = true-false e refl
    exit-turn (Stmt-F.Write entry from) e h column = true-false e refl
    exit-turn (Stmt-F.Rewrite entry from) e h column = true-false e refl
    exit-turn (Stmt-F.If cond met unmet) e h column = true-false e refl
    exit-turn (Stmt-F.Evaluate subject whens other) e h column = true-false e refl
    exit-turn (Stmt-F.Loop control body) e h column = true-false e refl
    exit-turn (Stmt-F.Perform entry exit control) e h column = true-false e refl
    exit-turn (Stmt-F.Go to) e h column = true-false e refl
    exit-turn (Stmt-F.GoDepending to on) e h column = true-false e refl
    exit-turn Stmt-F.NextSentence e h column = true-false e refl
    exit-turn Stmt-F.StopRun e h column = true-false e refl
    exit-turn Stmt-F.Exit e h column = true-false e refl
    exit-turn Stmt-F.Continue e h column = true-false e refl
