-- Names of procedures, GO TO, and what leaves or does nothing.
use Rattle.std.proofs.Common.{◌≡◌, ℕ, Bool, true, false, ◌||◌, ◌⊎◌, inl, inr, List, [], ◌∷◌, Option, Some, None, refl, ap, sym, ◌∙◌, subst, append_assoc}
use Rattle.std.specs.Prelude.{codes, if◌then◌else◌}
use Rattle.cob_tree.specs.declared.place.Operand.TheVariants as operands
use Rattle.cob_tree.specs.declared.place.Place.{Place}
use Rattle.cob_tree.specs.declared.program.Program.{Program}
use Rattle.cob_tree.specs.declared.stmt.Stmt.TheVariants as stmts
use Rattle.cobol_lex.specs.declared.token.TokenKind.{TokenKind}
use Rattle.cobol_lex.specs.declared.token.TokenKind.TheVariants as kinds
use Rattle.parser_combinators.specs.declared.note.Position.{Position}
use Rattle.parser_combinators.specs.Form as form
use Rattle.parser_combinators.specs.Form.{begins_by}
use Rattle.parser_combinators.specs.Part as part
use Rattle.unparser.specs.File.{label_tokens, labels_tokens}
use Rattle.unparser.specs.Head.{go_depending_tokens}
use Rattle.unparser.specs.Place.{place_tokens}
use Rattle.unparser.specs.Token.{Tokens, procedure_token}
use Rattle.cobol_grammar.specs.declared.stmt_forms.scope.Scope.{Scope}
use Rattle.cobol_grammar.specs.stmt_forms.Part.{Parts}
use Rattle.cobol_grammar.specs.stmt_forms.Jump as jump
use Rattle.round_trip.specs.spelled_forms.Spelling.{first_of, Any, Spelled}
use Rattle.round_trip.proofs.spelled_forms_lemmas.Makers.{pure, note, where_behind, bind, ending, behind_first, behind_none, there_next, other_next, no_turn}
use Rattle.round_trip.proofs.spelled_forms_lemmas.Tokens.{key, maybe, word, valued}
use Rattle.round_trip.specs.spelling.stmt_spelling.Behind.{BehindPart, BehindStmt, behind_stmts}
use Rattle.round_trip.specs.spelling.stmt_spelling.Part.{Kept, PartsAreTold, SpellsPlace, SpellsLabel, SpellsEntry, Without}
use Rattle.round_trip.specs.spelling.stmt_spelling.Stmt.{Some_of}
use Rattle.round_trip.proofs.spelling_lemmas.stmt_spelling_lemmas.Behind.{none-among, stmt-part, true-false}
use Rattle.round_trip.proofs.spelling_lemmas.stmt_spelling_lemmas.Lists.{and_then, each, IsItem, loop-items}
use Rattle.round_trip.proofs.spelling_lemmas.stmt_spelling_lemmas.Parts.{stmt-operand}

module _ {Side Known : Type 0} {parts : Parts Side Known} {kept : Kept Side} (T : PartsAreTold parts kept) (program : Program) where
  -- ---- labels

  pub named : {n : ℕ} (name : List ℕ) {span : ℕ × ℕ} → parts.procedure_of name ≡ Some span → (found : List ℕ) → found ≡ name → (position : Position) →
      {Behind : Option TokenKind → Type 0} → Spelled (jump.procedure_named parts found position) n [] Behind (λ s. s ≡ span)
  unfolding jump.procedure_named
  named name is found e position =
      behind_none (note (ap (λ f. jump.unknown_fault f position) (ap parts.procedure_of e ∙ is))) (λ _ _. pure (ap jump.span_or_0 (ap parts.procedure_of e ∙ is)))

  procedure-by : {n : ℕ} (number : ℕ) {span : ℕ × ℕ} (S : SpellsLabel parts kept program number span) → (kind : TokenKind) →
      ((kind ≡ kinds.Word S.name) × (parts.is_procedure_word (kinds.Word S.name) ≡ true)) ⊎ (kind ≡ kinds.Digits S.name) →
      Spelled (jump.procedure parts) n (kind ∷ []) Any (λ s. s ≡ span)
  unfolding jump.procedure jump.word_procedure jump.digits_procedure
  procedure-by {n = n} number {span = span} S kind (inl w) =
      subst (λ k. Spelled (jump.procedure parts) n (k ∷ []) Any (λ s. s ≡ span)) (sym w.0)
      (there_next parts.is_procedure_word _ (λ o b. w.1) (ending (word S.name) (λ found h. named S.name S.found found.0 h.0 found.1)))
  procedure-by {n = n} number {span = span} S kind (inr d) =
      subst (λ k. Spelled (jump.procedure parts) n (k ∷ []) Any (λ s. s ≡ span)) (sym d)
      (other_next parts.is_procedure_word _ (λ o b. T.digits_no_procedure S.name)
      (ending (valued part.digits_of S.name refl) (λ found h. named S.name S.found found.0 h.0 found.1)))

  pub procedure : {n : ℕ} (number : ℕ) {span : ℕ × ℕ} → SpellsLabel parts kept program number span →
      Spelled (jump.procedure parts) n (label_tokens program number) Any (λ s. s ≡ span)
  procedure {n = n} number {span = span} S =
      subst (λ t. Spelled (jump.procedure parts) n t Any (λ s. s ≡ span)) (sym S.tokens) (procedure-by number S (procedure_token S.name) S.begins)

  label-begins-by : (number : ℕ) {span : ℕ × ℕ} (S : SpellsLabel parts kept program number span) (kind : TokenKind) →
      ((kind ≡ kinds.Word S.name) × (parts.is_procedure_word (kinds.Word S.name) ≡ true)) ⊎ (kind ≡ kinds.Digits S.name) → jump.begins_procedure parts kind ≡ true
  unfolding jump.begins_procedure
  label-begins-by number S kind (inl w) = ap (jump.begins_procedure parts) w.0 ∙ ap (λ b. b || false) w.1
  label-begins-by number S kind (inr d) = ap (jump.begins_procedure parts) d ∙ ap (λ b. b || true) (T.digits_no_procedure S.name)

  pub label-begins : (number : ℕ) {span : ℕ × ℕ} → SpellsLabel parts kept program number span → (o : Option TokenKind) →
      begins_by (jump.begins_procedure parts) (first_of (label_tokens program number) o) ≡ true
  label-begins number S o = ap (λ t. begins_by (jump.begins_procedure parts) (first_of t o)) S.tokens ∙ label-begins-by number S (procedure_token S.name) S.begins

  pub no-label : (o : Option TokenKind) → BehindPart o → begins_by (jump.begins_procedure parts) o ≡ false
  unfolding jump.begins_procedure
  no-label None b = refl
  no-label (Some (kinds.Word word)) b = ap (λ v. v || false) (T.word_no_procedure word b)
  no-label (Some kinds.Period) b = ap (λ v. v || false) T.period_no_procedure
  no-label (Some other) b = absurd b

  entry : {n : ℕ} (to : ℕ) → SpellsEntry parts kept program to → Spelled (jump.procedure_entry parts) n (label_tokens program to) Any (λ x. x ≡ to)
  unfolding jump.procedure_entry
  entry to S = ending (procedure to S.1) (λ span e. pure (ap (λ s. s.0) e))

  entry_item : (to : ℕ) → SpellsEntry parts kept program to → IsItem (jump.begins_procedure parts) (jump.procedure_entry parts) (label_tokens program) Any to
  entry_item to S = record { spelled = λ n. entry to S; begins = label-begins to S.1; enters = λ o. tt }

  -- ---- GO TO

  go_alone : {n : ℕ} (to : ℕ) (list : List ℕ) → list ≡ to ∷ [] → Spelled (jump.go_alone list) n [] BehindStmt (λ stmt. stmt ≡ stmts.Go to)
  unfolding jump.go_alone
  go_alone {n = n} to list e = subst (λ l. Spelled (jump.go_alone l) n [] BehindStmt (λ stmt. stmt ≡ stmts.Go to)) (sym e) (pure refl)

  pub go_stmt : {n : ℕ} (to : ℕ) → SpellsEntry parts kept program to →
      Spelled (jump.go_stmt parts) n (kinds.Word (codes "GO") ∷ kinds.Word (codes "TO") ∷ label_tokens program to) BehindStmt (λ stmt. stmt ≡ stmts.Go to)
  unfolding jump.go_stmt
  go_stmt to S =
      and_then (key (codes "GO")) (λ _ _. and_then (maybe (codes "TO")) (λ _ _. ending (where_behind (λ o b. tt) (entry to S))
      (λ first e. behind_first {Mid = BehindStmt}
      (no_turn (jump.begins_procedure parts) (form.added (jump.procedure_entry parts)) (λ o b. no-label o (stmt-part o b)) (ap (λ x. x ∷ []) e)) (λ o b. b)
      (λ list k. other_next (part.is_key (codes "DEPENDING")) _ (none-among (part.is_key (codes "DEPENDING")) behind_stmts refl refl) (go_alone to list k)))))

  abbrev IsDepending : Option TokenKind → Type 0
  IsDepending o = o ≡ Some (kinds.Word (codes "DEPENDING"))

  go_depending : {n : ℕ} (to list : List ℕ) → list ≡ to → (on : Place) → SpellsPlace parts kept program on → Without parts kept program parts.whole_fault (operands.Place on) →
      Spelled (jump.go_depending parts list) n (kinds.Word (codes "DEPENDING") ∷ kinds.Word (codes "ON") ∷ place_tokens program on) BehindStmt (λ stmt. stmt ≡ stmts.GoDepending to on)
  unfolding jump.go_depending
  go_depending to list e on S w =
      and_then (key (codes "DEPENDING")) (λ _ _. and_then (maybe (codes "ON")) (λ _ _. ending (where_behind (stmt-operand T) (S.spelled _))
      (λ side h. behind_none (note (w side h)) (λ _ _. pure (ap (λ l. stmts.GoDepending l (parts.place_of side)) e ∙ ap (stmts.GoDepending to) (T.place_told on side h))))))

  pub go_depending_stmt : {n : ℕ} (to : List ℕ) (on : Place) → Some_of (SpellsEntry parts kept program) to → SpellsPlace parts kept program on →
      Without parts kept program parts.whole_fault (operands.Place on) →
      Spelled (jump.go_stmt parts) n (go_depending_tokens program to on) BehindStmt (λ stmt. stmt ≡ stmts.GoDepending to on)
  unfolding jump.go_stmt
  go_depending_stmt [] on h S w = absurd (true-false h.0 refl)
  go_depending_stmt {n = n} (first ∷ to) on h S w =
      let back : Tokens = kinds.Word (codes "DEPENDING") ∷ kinds.Word (codes "ON") ∷ place_tokens program on in
      subst (λ t. Spelled (jump.go_stmt parts) n (kinds.Word (codes "GO") ∷ kinds.Word (codes "TO") ∷ t) BehindStmt (λ stmt. stmt ≡ stmts.GoDepending (first ∷ to) on))
      (sym (append_assoc (label_tokens program first) (labels_tokens program to) back))
      (and_then (key (codes "GO")) (λ _ _. and_then (maybe (codes "TO")) (λ _ _. and_then (entry first h.1.0)
      (λ x e. bind {Mid = IsDepending}
      (loop-items (jump.begins_procedure parts) (jump.procedure_entry parts) (label_tokens program) Any IsDepending (λ o b. tt)
      (λ o b. ap (begins_by (jump.begins_procedure parts)) b ∙ no-label (Some (kinds.Word (codes "DEPENDING"))) refl) to (each entry_item to h.1.1) (x ∷ []) _)
      (λ o b. refl)
      (λ list k. there_next (part.is_key (codes "DEPENDING")) _ (λ o b. refl) (go_depending (first ∷ to) list (k ∙ ap (λ y. y ∷ to) e) on S w))))))

-- ---- EXIT with a further word

pub exit_paragraph : {n : ℕ} (scope : Scope) (position : Position) → Spelled (jump.exit_behind scope position) n (kinds.Word (codes "PARAGRAPH") ∷ []) Any (λ stmt. stmt ≡ stmts.ExitParagraph)
unfolding jump.exit_behind jump.exit_paragraph
exit_paragraph scope position = there_next (part.is_key (codes "PARAGRAPH")) _ (λ o b. refl) (ending (key (codes "PARAGRAPH")) (λ _ _. pure refl))

pub exit_section : {n : ℕ} (scope : Scope) (position : Position) → scope.in_section ≡ true →
    Spelled (jump.exit_behind scope position) n (kinds.Word (codes "SECTION") ∷ []) Any (λ stmt. stmt ≡ stmts.ExitSection)
unfolding jump.exit_behind jump.exit_section
exit_section scope position e =
    other_next (part.is_key (codes "PARAGRAPH")) _ (λ o b. refl) (there_next (part.is_key (codes "SECTION")) _ (λ o b. refl)
    (ending (key (codes "SECTION")) (λ _ _. behind_none (note (ap (λ v. jump.usage_unless v position) e)) (λ _ _. pure refl))))

cycle_tokens : Bool → Tokens
cycle_tokens again = if again then kinds.Word (codes "CYCLE") ∷ [] else []

cycle : {n : ℕ} (again : Bool) → Spelled jump.cycle n (cycle_tokens again) BehindStmt (λ found. found ≡ again)
unfolding jump.cycle cycle_tokens
cycle true = there_next (part.is_key (codes "CYCLE")) _ (λ o b. refl) (ending (where_behind (λ o b. tt) (key (codes "CYCLE"))) (λ _ _. pure refl))
cycle false = other_next (part.is_key (codes "CYCLE")) _ (none-among (part.is_key (codes "CYCLE")) behind_stmts refl refl) (pure refl)

pub exit_perform : {n : ℕ} (scope : Scope) (position : Position) (again : Bool) → scope.in_loop ≡ true →
    Spelled (jump.exit_behind scope position) n (kinds.Word (codes "PERFORM") ∷ (if again then kinds.Word (codes "CYCLE") ∷ [] else [])) BehindStmt (λ stmt. stmt ≡ stmts.ExitPerform again)
unfolding jump.exit_behind jump.exit_perform cycle_tokens
exit_perform scope position again e =
    other_next (part.is_key (codes "PARAGRAPH")) _ (λ o b. refl) (other_next (part.is_key (codes "SECTION")) _ (λ o b. refl)
    (and_then (key (codes "PERFORM")) (λ _ _. ending (cycle again) (λ found k. behind_none (note (ap (λ v. jump.usage_unless v position) e)) (λ _ _. pure (ap stmts.ExitPerform k))))))

-- ---- the others

pub next_sentence : {n : ℕ} → Spelled jump.next_sentence n (kinds.Word (codes "NEXT") ∷ kinds.Word (codes "SENTENCE") ∷ []) Any (λ stmt. stmt ≡ stmts.NextSentence)
unfolding jump.next_sentence
next_sentence = ending (and_then (key (codes "NEXT")) (λ _ _. key (codes "SENTENCE"))) (λ _ _. pure refl)

pub stop_run : {n : ℕ} → Spelled jump.stop_run n (kinds.Word (codes "STOP") ∷ kinds.Word (codes "RUN") ∷ []) Any (λ stmt. stmt ≡ stmts.StopRun)
unfolding jump.stop_run
stop_run = ending (and_then (key (codes "STOP")) (λ _ _. key (codes "RUN"))) (λ _ _. pure refl)

pub continue_stmt : {n : ℕ} → Spelled jump.continue_stmt n (kinds.Word (codes "CONTINUE") ∷ []) Any (λ stmt. stmt ≡ stmts.Continue)
unfolding jump.continue_stmt
continue_stmt = ending (key (codes "CONTINUE")) (λ _ _. pure refl)
