-- Statements that hold no others, behind those before them.
use Rattle.std.proofs.Common.{◌≡◌, ℕ, Bool, true, false, ◌⊎◌, inl, inr, List, [], ◌∷◌, ◌++◌, Option, refl, ap, sym, subst, append_assoc, append-nil}
use Rattle.std.specs.Prelude.{codes}
use Rattle.cob_tree.specs.declared.control.Control.{Control}
use Rattle.cob_tree.specs.declared.program.Program.{Program}
use Rattle.cob_tree.specs.declared.stmt.Arms.{Arms}
use Rattle.cob_tree.specs.declared.stmt.Stmt.{Stmt, roll-Stmt}
use Rattle.cob_tree.specs.declared.stmt.Stmt.TheOpen.{Stmt-F}
use Rattle.cob_tree.specs.declared.stmt.Stmt.TheVariants as stmts
use Rattle.cob_tree.specs.declared.stmt.When.{When}
use Rattle.cobol_lex.specs.declared.token.TokenKind.{TokenKind}
use Rattle.cobol_lex.specs.declared.token.TokenKind.TheVariants as kinds
use Rattle.parser_combinators.specs.declared.note.Position.{Position}
use Rattle.parser_combinators.specs.Part as part
use Rattle.unparser.specs.Control.{control_tokens}
use Rattle.unparser.specs.Head.{head_step, range_tokens}
use Rattle.unparser.specs.Token.{Tokens}
use Rattle.cobol_grammar.specs.declared.stmt_forms.scope.Scope.{Scope}
use Rattle.cobol_grammar.specs.stmt_forms.Arms.{Level}
use Rattle.cobol_grammar.specs.stmt_forms.Part.{Parts}
use Rattle.cobol_grammar.specs.stmt_forms.Jump as jump
use Rattle.cobol_grammar.specs.stmt_forms.Loop as loops
use Rattle.cobol_grammar.specs.stmt_forms.Stmt as forms
use Rattle.cobol_grammar.specs.declared.stmt_forms.head.PerformHead.{PerformHead}
use Rattle.cobol_grammar.specs.declared.stmt_forms.head.PerformHead.TheVariants as heads
use Rattle.cobol_grammar.specs.stmt_forms.Verb.{begins_stmt, begins_simple, begins_moving, begins_filing, begins_jumping, begins_holding, begins_arithmetic, begins_adding, begins_multiplying, begins_choice}
use Rattle.round_trip.specs.spelled_forms.Spelling.{Spelled}
use Rattle.round_trip.proofs.spelled_forms_lemmas.Makers.{pure, where_behind, then, ending, there_next, other_next}
use Rattle.round_trip.proofs.spelled_forms_lemmas.Tokens.{key}
use Rattle.round_trip.specs.spelling.stmt_spelling.Behind.{BehindStmt, IsNot, BeginsPhrase}
use Rattle.round_trip.specs.spelling.stmt_spelling.Part.{Kept, PartsAreTold, SpellsRange}
use Rattle.round_trip.specs.spelling.stmt_spelling.Stmt.{SpellsShape, SpellsControl}
use Rattle.round_trip.proofs.spelling_lemmas.stmt_spelling_lemmas.Behind.{is-not, true-false}
use Rattle.round_trip.proofs.spelling_lemmas.stmt_spelling_lemmas.Moves.{display_stmt, move_stmt, set_stmts}
use Rattle.round_trip.proofs.spelling_lemmas.stmt_spelling_lemmas.Files.{open_stmt, close_stmt, write_stmt, rewrite_stmt}
use Rattle.round_trip.proofs.spelling_lemmas.stmt_spelling_lemmas.Jumps as jumps
use Rattle.round_trip.proofs.spelling_lemmas.stmt_spelling_lemmas.Performs.{Controls, control-ends, control-not, whole-with}
use Rattle.round_trip.proofs.spelling_lemmas.stmt_spelling_lemmas.Along.{Gives, One, simple, Not, Next, ends-stmt-one, ends-behind}

module _ {Side Known : Type 0} {parts : Parts Side Known} {kept : Kept Side} (T : PartsAreTold parts kept) (program : Program) (level : Level) (scope : Scope) where
  moving : (x : Stmt) (word : List ℕ) (rest : Tokens) → begins_simple (kinds.Word word) ≡ true → begins_moving (kinds.Word word) ≡ true → part.is_key (codes "SET") (kinds.Word word) ≡ false →
      ((n : ℕ) → Spelled (forms.moving_stmt parts) n (kinds.Word word ∷ rest) BehindStmt (λ y. y ≡ x)) → Gives parts level scope (x ∷ []) (kinds.Word word ∷ rest) BehindStmt false
  unfolding forms.stmt forms.simple_stmts forms.moving_stmts
  moving x word rest s m set F before n =
      there_next begins_simple _ (λ o b. s) (ending (there_next begins_moving _ (λ o b. m) (other_next (part.is_key (codes "SET")) _ (λ o b. set)
      (ending (F n) (λ y e. pure (ap (λ x. before ++ x ∷ []) e))))) (λ list e. pure (ap (λ l. (l, false)) e)))

  still : (x : Stmt) (word : List ℕ) (rest : Tokens) → begins_simple (kinds.Word word) ≡ true → begins_moving (kinds.Word word) ≡ false →
      ((n : ℕ) → Spelled (forms.filing_or_jump parts scope) n (kinds.Word word ∷ rest) BehindStmt (λ y. y ≡ x)) → Gives parts level scope (x ∷ []) (kinds.Word word ∷ rest) BehindStmt false
  unfolding forms.stmt forms.simple_stmts
  still x word rest s m F before n =
      there_next begins_simple _ (λ o b. s) (ending (other_next begins_moving _ (λ o b. m) (ending (F n) (λ y e. pure (ap (λ x. before ++ x ∷ []) e)))) (λ list e. pure (ap (λ l. (l, false)) e)))

  -- as a statement of the tree, whose tokens are those of its one line
  rolled : (x : Stmt) (y : Stmt-F Stmt Arms When) → roll-Stmt y ≡ x → (tokens : Tokens) → One parts level scope (λ c. tokens) x → One parts level scope (λ c. tokens ++ []) (roll-Stmt y)
  rolled x y e tokens O = subst (λ t. One parts level scope (λ c. t) (roll-Stmt y)) (sym (append-nil tokens)) (subst (One parts level scope (λ c. tokens)) (sym e) O)

  jumping : {n : ℕ} {Behind : Option TokenKind → Type 0} (x : Stmt) (word : List ℕ) (rest : Tokens) → begins_filing (kinds.Word word) ≡ false →
      Spelled (jump.jump_stmt parts scope) n (kinds.Word word ∷ rest) Behind (λ y. y ≡ x) → Spelled (forms.filing_or_jump parts scope) n (kinds.Word word ∷ rest) Behind (λ y. y ≡ x)
  unfolding forms.filing_or_jump
  jumping x word rest e F = other_next begins_filing _ (λ o b. e) F

  next-sentence : One parts level scope (λ c. kinds.Word (codes "NEXT") ∷ kinds.Word (codes "SENTENCE") ∷ []) stmts.NextSentence
  unfolding begins_stmt begins_simple begins_moving begins_filing begins_jumping jump.jump_stmt jump.still_stmt
  next-sentence =
      let F : Gives parts level scope (stmts.NextSentence ∷ []) Next BehindStmt false =
      still stmts.NextSentence (codes "NEXT") (kinds.Word (codes "SENTENCE") ∷ []) refl refl (λ n. jumping stmts.NextSentence (codes "NEXT") (kinds.Word (codes "SENTENCE") ∷ []) refl
      (other_next (part.is_key (codes "GO")) _ (λ o b. refl) (other_next (part.is_key (codes "EXIT")) _ (λ o b. refl) (there_next (part.is_key (codes "NEXT")) _ (λ o b. refl)
      (where_behind (λ o b. tt) jumps.next_sentence))))) in
      record {
        begins = λ closed o. refl;
        enters = λ closed o. refl;
        fronts = inr (refl, λ closed. refl);
        ends = λ closed. inl (λ before m. where_behind (ends-behind closed) (F before m));
        before_not = inl (λ before m. where_behind is-not (F before m));
      }

  exit-with : (x : Stmt) (rest : Tokens) → ((n : ℕ) (position : Position) → Spelled (jump.exit_behind scope position) n rest BehindStmt (λ y. y ≡ x)) → One parts level scope (λ c. kinds.Word (codes "EXIT") ∷ rest) x
  unfolding begins_stmt begins_simple begins_moving begins_filing begins_jumping jump.jump_stmt jump.exit_stmt
  exit-with x rest F =
      simple parts level scope x (codes "EXIT") rest refl refl refl (still x (codes "EXIT") rest refl refl (λ n. jumping x (codes "EXIT") rest refl
      (other_next (part.is_key (codes "GO")) _ (λ o b. refl) (there_next (part.is_key (codes "EXIT")) _ (λ o b. refl) (then (key (codes "EXIT")) (λ position _. F _ position))))))

  whole-by : {n : ℕ} {Behind : Option TokenKind → Type 0} (x : Stmt) (pending_not : Bool) (head : PerformHead) → head ≡ heads.Whole x pending_not →
      Spelled (loops.perform_by level scope head) n [] Behind (λ found. found ≡ (x, pending_not))
  unfolding loops.perform_by
  whole-by {n = n} {Behind = Behind} x pending_not head e = subst (λ h. Spelled (loops.perform_by level scope h) n [] Behind (λ found. found ≡ (x, pending_not))) (sym e) (pure refl)

  whole-perform : {Behind : Option TokenKind → Type 0} {tokens : Tokens} {pending_not : Bool} (entry exit : ℕ) → SpellsRange parts kept program entry exit → (control : Control) →
      Controls T program control Behind tokens pending_not →
      Gives parts level scope (stmts.Perform entry exit control ∷ []) (kinds.Word (codes "PERFORM") ∷ (range_tokens program entry exit ++ tokens)) Behind pending_not
  unfolding forms.stmt forms.held_stmts forms.holding_stmt begins_simple begins_moving begins_filing begins_jumping begins_arithmetic begins_adding begins_multiplying begins_choice loops.perform_stmt
  whole-perform {pending_not = pending_not} entry exit R control C before n =
      other_next begins_simple _ (λ o b. refl) (other_next (part.is_key (codes "READ")) _ (λ o b. refl) (ending (other_next begins_arithmetic _ (λ o b. refl) (other_next begins_choice _ (λ o b. refl)
      (ending (whole-with T program level.enter entry exit R control C) (λ head e. whole-by (stmts.Perform entry exit control) pending_not head e))))
      (λ found e. pure (ap (forms.behind before) e))))

  perform-not : (entry exit : ℕ) → SpellsRange parts kept program entry exit → (control : Control) →
      Controls T program control IsNot (control_tokens program control) false ⊎ Controls T program control BeginsPhrase (control_tokens program control ++ Not) true →
      Gives parts level scope (stmts.Perform entry exit control ∷ []) (kinds.Word (codes "PERFORM") ∷ (range_tokens program entry exit ++ control_tokens program control)) IsNot false
      ⊎ Gives parts level scope (stmts.Perform entry exit control ∷ []) ((kinds.Word (codes "PERFORM") ∷ (range_tokens program entry exit ++ control_tokens program control)) ++ Not) BeginsPhrase true
  perform-not entry exit R control (inl C) = inl (whole-perform entry exit R control C)
  perform-not entry exit R control (inr C) =
      inr (subst (λ t. Gives parts level scope (stmts.Perform entry exit control ∷ []) (kinds.Word (codes "PERFORM") ∷ t) BeginsPhrase true)
      (sym (append_assoc (range_tokens program entry exit) (control_tokens program control) Not)) (whole-perform entry exit R control C))

  perform-one : (entry exit : ℕ) (control : Control) → SpellsRange parts kept program entry exit → SpellsControl parts kept program control →
      One parts level scope (λ c. kinds.Word (codes "PERFORM") ∷ (range_tokens program entry exit ++ control_tokens program control)) (stmts.Perform entry exit control)
  unfolding begins_stmt begins_simple begins_moving begins_filing begins_jumping begins_holding begins_arithmetic begins_adding begins_multiplying begins_choice
  perform-one entry exit control R S = record {
    begins = λ closed o. refl;
    enters = λ closed o. refl;
    fronts = inl (λ closed o. refl);
    ends = λ closed. inl (λ before m. where_behind (ends-stmt-one closed) (whole-perform entry exit R control (control-ends T program control S) before m));
    before_not = perform-not entry exit R control (control-not T program control S);
  }

  -- ---- all of them

  -- whether it holds no statements and is no EXIT
  abbrev pub holds_none : Stmt-F Stmt Arms When → Bool
  holds_none (Stmt-F.Arith calc into arms) = false
  holds_none (Stmt-F.Read file into arms) = false
  holds_none (Stmt-F.If cond met unmet) = false
  holds_none (Stmt-F.Evaluate subject whens other) = false
  holds_none (Stmt-F.Loop control body) = false
  holds_none Stmt-F.Exit = false
  holds_none _ = true

  module _ (Held : Scope → List Stmt → Type 0) where
    pub simple-one : (y : Stmt-F Stmt Arms When) → holds_none y ≡ true → SpellsShape parts kept program Held scope y → One parts level scope (λ c. head_step program y ++ []) (roll-Stmt y)
    unfolding begins_stmt begins_simple begins_moving begins_filing begins_jumping forms.moving_stmt forms.filing_or_jump forms.filing_stmt forms.writing_stmt jump.jump_stmt jump.still_stmt forms.stmt forms.simple_stmts forms.moving_stmts
    simple-one (Stmt-F.Display items advance) s h =
        rolled (stmts.Display items advance) (Stmt-F.Display items advance) (stmts.rolls-Display items advance) _
        (simple parts level scope _ (codes "DISPLAY") _ refl refl refl (moving _ (codes "DISPLAY") _ refl refl refl (λ n. there_next (part.is_key (codes "DISPLAY")) _ (λ o b. refl) (display_stmt T program items advance h))))
    simple-one (Stmt-F.Move from to) s h =
        rolled (stmts.Move from to) (Stmt-F.Move from to) (stmts.rolls-Move from to) _
        (simple parts level scope _ (codes "MOVE") _ refl refl refl (moving _ (codes "MOVE") _ refl refl refl (λ n. other_next (part.is_key (codes "DISPLAY")) _ (λ o b. refl) (move_stmt T program from to h.0 h.1))))
    simple-one (Stmt-F.SetTrue place) s h =
        rolled (stmts.SetTrue place) (Stmt-F.SetTrue place) (stmts.rolls-SetTrue place) _
        (simple parts level scope _ (codes "SET") _ refl refl refl (λ before n. there_next begins_simple _ (λ o b. refl) (ending (there_next begins_moving _ (λ o b. refl)
        (there_next (part.is_key (codes "SET")) _ (λ o b. refl) (set_stmts T program place h.0 h.1 before))) (λ list e. pure (ap (λ l. (l, false)) e)))))
    simple-one (Stmt-F.Opens openings) s h =
        rolled (stmts.Opens openings) (Stmt-F.Opens openings) (stmts.rolls-Opens openings) _
        (simple parts level scope _ (codes "OPEN") _ refl refl refl (still _ (codes "OPEN") _ refl refl (λ n. there_next begins_filing _ (λ o b. refl)
        (there_next (part.is_key (codes "OPEN")) _ (λ o b. refl) (open_stmt T program openings h)))))
    simple-one (Stmt-F.Closes files) s h =
        rolled (stmts.Closes files) (Stmt-F.Closes files) (stmts.rolls-Closes files) _
        (simple parts level scope _ (codes "CLOSE") _ refl refl refl (still _ (codes "CLOSE") _ refl refl (λ n. there_next begins_filing _ (λ o b. refl)
        (other_next (part.is_key (codes "OPEN")) _ (λ o b. refl) (there_next (part.is_key (codes "CLOSE")) _ (λ o b. refl) (close_stmt T program files h))))))
    simple-one (Stmt-F.Write entry from) s h =
        rolled (stmts.Write entry from) (Stmt-F.Write entry from) (stmts.rolls-Write entry from) _
        (simple parts level scope _ (codes "WRITE") _ refl refl refl (still _ (codes "WRITE") _ refl refl (λ n. there_next begins_filing _ (λ o b. refl)
        (other_next (part.is_key (codes "OPEN")) _ (λ o b. refl) (other_next (part.is_key (codes "CLOSE")) _ (λ o b. refl) (there_next (part.is_key (codes "WRITE")) _ (λ o b. refl)
        (write_stmt T program entry from h.0 h.1)))))))
    simple-one (Stmt-F.Rewrite entry from) s h =
        rolled (stmts.Rewrite entry from) (Stmt-F.Rewrite entry from) (stmts.rolls-Rewrite entry from) _
        (simple parts level scope _ (codes "REWRITE") _ refl refl refl (still _ (codes "REWRITE") _ refl refl (λ n. there_next begins_filing _ (λ o b. refl)
        (other_next (part.is_key (codes "OPEN")) _ (λ o b. refl) (other_next (part.is_key (codes "CLOSE")) _ (λ o b. refl) (other_next (part.is_key (codes "WRITE")) _ (λ o b. refl)
        (rewrite_stmt T program entry from h.0 h.1)))))))
    simple-one (Stmt-F.Perform entry exit control) s h =
        rolled (stmts.Perform entry exit control) (Stmt-F.Perform entry exit control) (stmts.rolls-Perform entry exit control) _ (perform-one entry exit control h.0 h.1)
    simple-one (Stmt-F.Go to) s h =
        rolled (stmts.Go to) (Stmt-F.Go to) (stmts.rolls-Go to) _
        (simple parts level scope _ (codes "GO") _ refl refl refl (still _ (codes "GO") _ refl refl (λ n. jumping _ (codes "GO") _ refl (there_next (part.is_key (codes "GO")) _ (λ o b. refl) (jumps.go_stmt T program to h)))))
    simple-one (Stmt-F.GoDepending to on) s h =
        rolled (stmts.GoDepending to on) (Stmt-F.GoDepending to on) (stmts.rolls-GoDepending to on) _
        (simple parts level scope _ (codes "GO") _ refl refl refl (still _ (codes "GO") _ refl refl (λ n. jumping _ (codes "GO") _ refl
        (there_next (part.is_key (codes "GO")) _ (λ o b. refl) (jumps.go_depending_stmt T program to on h.0 h.1.0 h.1.1)))))
    simple-one Stmt-F.NextSentence s h = rolled stmts.NextSentence Stmt-F.NextSentence stmts.rolls-NextSentence _ next-sentence
    simple-one Stmt-F.StopRun s h =
        rolled stmts.StopRun Stmt-F.StopRun stmts.rolls-StopRun _
        (simple parts level scope _ (codes "STOP") _ refl refl refl (still _ (codes "STOP") _ refl refl (λ n. jumping _ (codes "STOP") _ refl (other_next (part.is_key (codes "GO")) _ (λ o b. refl)
        (other_next (part.is_key (codes "EXIT")) _ (λ o b. refl) (other_next (part.is_key (codes "NEXT")) _ (λ o b. refl) (there_next (part.is_key (codes "STOP")) _ (λ o b. refl)
        (where_behind (λ o b. tt) jumps.stop_run))))))))
    simple-one Stmt-F.ExitParagraph s h =
        rolled stmts.ExitParagraph Stmt-F.ExitParagraph stmts.rolls-ExitParagraph _ (exit-with _ _ (λ n position. where_behind (λ o b. tt) (jumps.exit_paragraph scope position)))
    simple-one Stmt-F.ExitSection s h =
        rolled stmts.ExitSection Stmt-F.ExitSection stmts.rolls-ExitSection _ (exit-with _ _ (λ n position. where_behind (λ o b. tt) (jumps.exit_section scope position h)))
    simple-one (Stmt-F.ExitPerform cycle) s h =
        rolled (stmts.ExitPerform cycle) (Stmt-F.ExitPerform cycle) (stmts.rolls-ExitPerform cycle) _ (exit-with _ _ (λ n position. jumps.exit_perform scope position cycle h))
    simple-one Stmt-F.Continue s h =
        rolled stmts.Continue Stmt-F.Continue stmts.rolls-Continue _
        (simple parts level scope _ (codes "CONTINUE") _ refl refl refl (still _ (codes "CONTINUE") _ refl refl (λ n. jumping _ (codes "CONTINUE") _ refl (other_next (part.is_key (codes "GO")) _ (λ o b. refl)
        (other_next (part.is_key (codes "EXIT")) _ (λ o b. refl) (other_next (part.is_key (codes "NEXT")) _ (λ o b. refl) (other_next (part.is_key (codes "STOP")) _ (λ o b. refl)
        (where_behind (λ o b. tt) jumps.continue_stmt))))))))
    simple-one (Stmt-F.Arith calc into arms) s h = absurd (true-false s refl)
    simple-one (Stmt-F.Read file into arms) s h = absurd (true-false s refl)
    simple-one (Stmt-F.If cond met unmet) s h = absurd (true-false s refl)
    simple-one (Stmt-F.Evaluate subject whens other) s h = absurd (true-false s refl)
    simple-one (Stmt-F.Loop control body) s h = absurd (true-false s refl)
    simple-one Stmt-F.Exit s h = absurd (true-false s refl)
