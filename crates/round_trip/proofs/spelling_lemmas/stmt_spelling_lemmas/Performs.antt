-- PERFORM up to what it holds.
use Rattle.std.proofs.Common.{◌≡◌, ℕ, ◌+◌, Bool, true, false, ◌||◌, ◌⊎◌, inl, inr, List, [], ◌∷◌, ◌++◌, Option, Some, None, refl, ap, sym, ◌∙◌, subst, append_assoc}
use Rattle.std.specs.Prelude.{codes, if◌then◌else◌, ◌==◌}
use Rattle.cob_base.specs.Bytes.{left_parenthesis}
use Rattle.cob_tree.specs.declared.cond.Cond.{Cond}
use Rattle.cob_tree.specs.declared.control.Control.{Control}
use Rattle.cob_tree.specs.declared.control.Control.TheVariants as controls
use Rattle.cob_tree.specs.declared.place.Operand.{Operand}
use Rattle.cob_tree.specs.declared.place.Place.{Place}
use Rattle.cob_tree.specs.declared.program.Program.{Program}
use Rattle.cob_tree.specs.declared.stmt.Stmt.TheVariants as stmts
use Rattle.cobol_lex.specs.declared.token.TokenKind.{TokenKind}
use Rattle.cobol_lex.specs.declared.token.TokenKind.TheVariants as kinds
use Rattle.parser_combinators.specs.declared.note.Position.{Position}
use Rattle.parser_combinators.specs.declared.why.Why.TheVariants.{Syntax}
use Rattle.parser_combinators.specs.Form as form
use Rattle.parser_combinators.specs.Form.{Form, begins_by}
use Rattle.parser_combinators.specs.Part as part
use Rattle.unparser.specs.Condition.{cond_tokens}
use Rattle.unparser.specs.Control.{after_tokens, until_tokens, control_tokens}
use Rattle.unparser.specs.File.{label_tokens}
use Rattle.unparser.specs.Head.{range_tokens}
use Rattle.unparser.specs.Place.{operand_tokens, place_tokens}
use Rattle.unparser.specs.Token.{Tokens, procedure_token}
use Rattle.cobol_grammar.specs.declared.stmt_forms.head.PerformHead.TheVariants as heads
use Rattle.cobol_grammar.specs.stmt_forms.Part.{Parts}
use Rattle.cobol_grammar.specs.stmt_forms.Jump.{is_digits}
use Rattle.cobol_grammar.specs.stmt_forms.Loop as loops
use Rattle.cobol_grammar.specs.stmt_forms.Choice.{begins_thru, thru}
use Rattle.round_trip.specs.spelled_forms.Spelling.{first_of, Any, Spelled}
use Rattle.round_trip.proofs.spelled_forms_lemmas.Makers.{pure, note, where_behind, bind, ending, behind_none, chosen_other, there_next, other_next}
use Rattle.round_trip.proofs.spelled_forms_lemmas.Tokens.{key, maybe, word, valued}
use Rattle.round_trip.specs.spelling.stmt_spelling.Behind.{behind_stmts, BehindStmt, EndsStmt, IsNot, BeginsPhrase}
use Rattle.round_trip.specs.spelling.stmt_spelling.Part.{Kept, PartsAreTold, BehindOperand, SpellsNumberPlace, SpellsCond, SpellsRange}
use Rattle.round_trip.specs.spelling.stmt_spelling.Stmt.{Number, Whole, SpellsControl, SpellsTurns, CountsTurns, CountsByItem, CountsByDigits, CountsOtherwise}
use Rattle.round_trip.proofs.spelling_lemmas.stmt_spelling_lemmas.Behind.{none-among, stmt-part, closing-stmt, no-key, or-false, first-append, true-false}
use Rattle.round_trip.proofs.spelling_lemmas.stmt_spelling_lemmas.Lists.{and_then}
use Rattle.round_trip.proofs.spelling_lemmas.stmt_spelling_lemmas.Parts.{no-operand, number}
use Rattle.round_trip.proofs.spelling_lemmas.stmt_spelling_lemmas.Jumps.{named, procedure}

pub thru_word : {n : ℕ} → Spelled thru n (kinds.Word (codes "THRU") ∷ []) Any (λ _. Unit {0})
unfolding thru
thru_word = there_next (part.is_key (codes "THRU")) _ (λ o b. refl) (ending (key (codes "THRU")) (λ _ _. pure tt))

after_part : {n : ℕ} (after : Bool) → Spelled loops.test_part n (after_tokens after) (λ o. begins_by loops.begins_testing o ≡ false) (λ found. found ≡ after)
unfolding loops.test_part loops.test_words loops.after_word
after_part true =
    there_next loops.begins_testing _ (λ o b. refl) (and_then (maybe (codes "WITH")) (λ _ _. and_then (key (codes "TEST")) (λ _ _.
    other_next (part.is_key (codes "BEFORE")) _ (λ o b. refl) (ending (where_behind (λ o b. tt) (key (codes "AFTER"))) (λ _ _. pure refl)))))
after_part false = other_next loops.begins_testing _ (λ o b. b) (pure refl)

-- the first token of what is done until a condition
until-begins : (after : Bool) (word : List ℕ) → loops.begins_until (kinds.Word word) ≡ true → (more : Tokens) (o : Option TokenKind) →
    begins_by loops.begins_until (first_of (after_tokens after ++ kinds.Word word ∷ more) o) ≡ true
unfolding loops.begins_until
until-begins true word e more o = refl
until-begins false word e more o = e

apart : (test : TokenKind → Bool) (word : List ℕ) → test (kinds.Word (codes "WITH")) ≡ false → test (kinds.Word word) ≡ false → (after : Bool) (more : Tokens) (o : Option TokenKind) →
    begins_by test (first_of (after_tokens after ++ kinds.Word word ∷ more) o) ≡ false
apart test word w u true more o = w
apart test word w u false more o = u

module _ {Side Known : Type 0} {parts : Parts Side Known} {kept : Kept Side} (T : PartsAreTold parts kept) (program : Program) where
  -- a condition with what may stand behind it, and whether a NOT is read with it
  record Conded (cond : Cond) (Behind : Option TokenKind → Type 0) (tokens : Tokens) (pending_not : Bool) : Type 0 where
    spelled : (taken : ℕ) → Spelled parts.cond taken tokens Behind (λ found. found ≡ (cond, pending_not))

  until_cond : {n : ℕ} {Behind : Option TokenKind → Type 0} {tokens : Tokens} {pending_not : Bool} (after : Bool) (cond : Cond) → Conded cond Behind tokens pending_not →
      Spelled (loops.until_control parts) n (after_tokens after ++ kinds.Word (codes "UNTIL") ∷ tokens) Behind (λ found. found ≡ (controls.Until after cond, pending_not))
  unfolding loops.until_control loops.until_cond
  until_cond {n = n} {Behind = Behind} {tokens = tokens} {pending_not = pending_not} after cond C =
      bind (after_part after) (λ o b. refl) (λ found e. other_next (part.is_key (codes "VARYING")) _ (λ o b. refl)
      (and_then (key (codes "UNTIL")) (λ _ _. ending (C.spelled _) (λ x k. pure (ap (λ v. (controls.Until found v.0, v.1)) k ∙ ap (λ v. (controls.Until v cond, pending_not)) e)))))

  -- what is done for an item, with what stands behind BY
  abbrev Behind_item : Place → Operand → Operand → Tokens → Tokens
  Behind_item item from by tokens =
      place_tokens program item ++ (kinds.Word (codes "FROM") ∷ (operand_tokens program from ++ (kinds.Word (codes "BY") ∷ (operand_tokens program by ++ tokens))))

  abbrev Varying : Bool → Place → Operand → Operand → Tokens → Tokens
  Varying after item from by tokens = after_tokens after ++ (kinds.Word (codes "VARYING") ∷ Behind_item item from by tokens)

  varying-told : (after : Bool) (item : Place) (from by : Operand) (tokens : Tokens) →
      (((after_tokens after ++ (kinds.Word (codes "VARYING") ∷ place_tokens program item)) ++ (kinds.Word (codes "FROM") ∷ operand_tokens program from))
      ++ (kinds.Word (codes "BY") ∷ operand_tokens program by)) ++ tokens ≡ Varying after item from by tokens
  varying-told after item from by tokens =
      let v : Tokens = kinds.Word (codes "VARYING") ∷ place_tokens program item in
      let f : Tokens = kinds.Word (codes "FROM") ∷ operand_tokens program from in
      let b : Tokens = kinds.Word (codes "BY") ∷ operand_tokens program by in
      append_assoc ((after_tokens after ++ v) ++ f) b tokens ∙ append_assoc (after_tokens after ++ v) f (b ++ tokens) ∙ append_assoc (after_tokens after) v (f ++ (b ++ tokens))

  varied : {n : ℕ} (item : Place) → SpellsNumberPlace parts kept program item → Spelled (loops.varied parts) n (place_tokens program item) (BehindOperand parts) (λ found. found ≡ item)
  unfolding loops.varied
  varied {n = n} item S = ending (S.0.spelled n) (λ side k. behind_none (note (S.1 side k)) (λ _ _. pure (T.place_told item side k)))

  varying_behind : {n : ℕ} {Behind : Option TokenKind → Type 0} {tokens : Tokens} {pending_not : Bool} (after : Bool) (item : Place) (from by : Operand) (cond : Cond) →
      SpellsNumberPlace parts kept program item → Number parts kept program from → Number parts kept program by → Conded cond Behind tokens pending_not → (found : Bool) → found ≡ after →
      Spelled (loops.varying_cond parts found) n
      (kinds.Word (codes "VARYING") ∷ Behind_item item from by (kinds.Word (codes "UNTIL") ∷ tokens)) Behind
      (λ x. x ≡ (controls.Varying after item from by cond, pending_not))
  unfolding loops.varying_cond
  varying_behind {pending_not = pending_not} after item from by cond I F B C found e =
      and_then (key (codes "VARYING")) (λ _ _. bind (varied item I) (λ o b. inl refl)
      (λ place i. and_then (key (codes "FROM")) (λ _ _. bind (number T from F) (λ o b. inl refl)
      (λ first j. and_then (key (codes "BY")) (λ _ _. bind (number T by B) (λ o b. inl refl)
      (λ step l. and_then (key (codes "UNTIL")) (λ _ _. ending (C.spelled _) (λ x k. pure
      (ap (λ v. (controls.Varying found place first step v.0, v.1)) k ∙ ap (λ v. (controls.Varying v place first step cond, pending_not)) e
      ∙ ap (λ v. (controls.Varying after v first step cond, pending_not)) i ∙ ap (λ v. (controls.Varying after item v step cond, pending_not)) j
      ∙ ap (λ v. (controls.Varying after item from v cond, pending_not)) l)))))))))

  varying_cond : {n : ℕ} {Behind : Option TokenKind → Type 0} {tokens : Tokens} {pending_not : Bool} (after : Bool) (item : Place) (from by : Operand) (cond : Cond) →
      SpellsControl parts kept program (controls.Varying after item from by cond) → Conded cond Behind tokens pending_not →
      Spelled (loops.until_control parts) n
      (Varying after item from by (kinds.Word (codes "UNTIL") ∷ tokens)) Behind
      (λ found. found ≡ (controls.Varying after item from by cond, pending_not))
  unfolding loops.until_control
  varying_cond after item from by cond h C =
      bind (after_part after) (λ o b. refl) (λ found e. there_next (part.is_key (codes "VARYING")) _ (λ o b. refl) (varying_behind after item from by cond h.0 h.1.0 h.1.1.0 C found e))

  -- ---- by TIMES

  times_behind : {n : ℕ} {Behind : Option TokenKind → Type 0} (count : Operand) (side : Side) → kept.operand count side → Whole parts kept program count →
      Spelled (loops.times_behind parts side) n (kinds.Word (codes "TIMES") ∷ []) Behind (λ control. control ≡ controls.Times count)
  unfolding loops.times_behind
  times_behind count side told S =
      behind_none (note (S.1 side told)) (λ _ _. ending (where_behind (λ o b. tt) (key (codes "TIMES"))) (λ _ _. pure (ap controls.Times (T.operand_told count side told))))

  -- ---- the names

  range-by : {n : ℕ} (entry exit : ℕ) (R : SpellsRange parts kept program entry exit) (b : Bool) → (entry == exit) ≡ b → (Behind : Option TokenKind → Type 0) →
      ((o : Option TokenKind) → Behind o → begins_by begins_thru o ≡ false) →
      Spelled (loops.exit_of parts R.last) n (if entry == exit then [] else kinds.Word (codes "THRU") ∷ label_tokens program exit) Behind (λ found. found ≡ exit)
  unfolding loops.exit_of
  range-by {n = n} entry exit R true e Behind none =
      subst (λ v. Spelled (loops.exit_of parts R.last) n (if v then [] else kinds.Word (codes "THRU") ∷ label_tokens program exit) Behind (λ found. found ≡ exit)) (sym e)
      (other_next begins_thru _ none (pure (R.alone e)))
  range-by {n = n} entry exit R false e Behind none =
      subst (λ v. Spelled (loops.exit_of parts R.last) n (if v then [] else kinds.Word (codes "THRU") ∷ label_tokens program exit) Behind (λ found. found ≡ exit)) (sym e)
      (there_next begins_thru _ (λ o b. refl)
      (and_then thru_word
      (λ _ _. ending (where_behind (λ o b. tt) (procedure T program exit (R.last_label e).1)) (λ span k. pure (ap (λ s. s.1) k)))))

  -- the control behind the names, as it is printed or with a NOT
  pub record Controls (control : Control) (Behind : Option TokenKind → Type 0) (tokens : Tokens) (pending_not : Bool) : Type 0 where
    pub spelled : (taken : ℕ) → Spelled (loops.control_part parts) taken tokens Behind (λ found. found ≡ (control, pending_not))
    -- none of them goes on with a name
    pub no_thru : (o : Option TokenKind) → Behind o → begins_by begins_thru (first_of tokens o) ≡ false
    pub no_item : (o : Option TokenKind) → Behind o → begins_by loops.continues_item (first_of tokens o) ≡ false

  perform_named : {n : ℕ} {Behind : Option TokenKind → Type 0} {tokens : Tokens} {pending_not : Bool} (entry exit : ℕ) (R : SpellsRange parts kept program entry exit) (control : Control) →
      Controls control Behind tokens pending_not → (found : List ℕ) → found ≡ R.first_label.name → (position : Position) →
      Spelled (loops.perform_named parts found position) n
      ((if entry == exit then [] else kinds.Word (codes "THRU") ∷ label_tokens program exit) ++ tokens) Behind
      (λ head. head ≡ heads.Whole (stmts.Perform entry exit control) pending_not)
  unfolding loops.perform_named
  perform_named {n = n} {Behind = Behind} {tokens = tokens} {pending_not = pending_not} entry exit R control C found is position =
      behind_none (named T program R.first_label.name R.first_label.found found is position)
      (λ first e. bind {Mid = λ o. begins_by begins_thru o ≡ false}
      (subst (λ s. Spelled (loops.exit_of parts s.1) n (if entry == exit then [] else kinds.Word (codes "THRU") ∷ label_tokens program exit) (λ o. begins_by begins_thru o ≡ false) (λ x. x ≡ exit)) (sym e)
      (range-by entry exit R (entry == exit) refl (λ o. begins_by begins_thru o ≡ false) (λ o b. b))) C.no_thru
      (λ last k. ending (C.spelled _) (λ x l. pure
      (ap (λ v. heads.Whole (stmts.Perform first.0 last v.0) v.1) l ∙ ap (λ v. heads.Whole (stmts.Perform v.0 last control) pending_not) e
      ∙ ap (λ v. heads.Whole (stmts.Perform entry v control) pending_not) k))))

  -- ---- PERFORM of paragraphs

  or-left : (a b : Bool) → (a || b) ≡ false → a ≡ false
  or-left true b e = absurd (true-false refl e)
  or-left false b e = refl

  no-times : (o : Option TokenKind) → begins_by loops.continues_item o ≡ false → begins_by (part.is_key (codes "TIMES")) o ≡ false
  unfolding loops.continues_item
  no-times None e = refl
  no-times (Some kind) e =
      or-left (part.is_key (codes "TIMES") kind) (part.is_key (codes "OF") kind || (part.is_key (codes "IN") kind || part.is_mark left_parenthesis kind)) e

  -- neither a word of UNTIL begins what such a test takes
  no-until : (test : TokenKind → Bool) → test (kinds.Word (codes "WITH")) ≡ false → test (kinds.Word (codes "TEST")) ≡ false →
      test (kinds.Word (codes "VARYING")) ≡ false → test (kinds.Word (codes "UNTIL")) ≡ false → (kind : TokenKind) → test kind ≡ true → loops.begins_until kind ≡ false
  unfolding loops.begins_until
  no-until test w t v u kind e =
      or-false (loops.begins_testing kind) (part.is_key (codes "VARYING") kind || part.is_key (codes "UNTIL") kind)
      (or-false (part.is_key (codes "WITH") kind) (part.is_key (codes "TEST") kind) (no-key test kind (codes "WITH") e w) (no-key test kind (codes "TEST") e t))
      (or-false (part.is_key (codes "VARYING") kind) (part.is_key (codes "UNTIL") kind) (no-key test kind (codes "VARYING") e v) (no-key test kind (codes "UNTIL") e u))

  behind-range : (entry exit : ℕ) {control : Control} {Behind : Option TokenKind → Type 0} {tokens : Tokens} {pending_not : Bool} → Controls control Behind tokens pending_not →
      (b : Bool) → (entry == exit) ≡ b → (o : Option TokenKind) → Behind o →
      begins_by loops.continues_item (first_of ((if entry == exit then [] else kinds.Word (codes "THRU") ∷ label_tokens program exit) ++ tokens) o) ≡ false
  unfolding loops.continues_item
  behind-range entry exit {tokens = tokens} C true e o b =
      ap (λ v. begins_by loops.continues_item (first_of ((if v then [] else kinds.Word (codes "THRU") ∷ label_tokens program exit) ++ tokens) o)) e ∙ C.no_item o b
  behind-range entry exit {tokens = tokens} C false e o b =
      ap (λ v. begins_by loops.continues_item (first_of ((if v then [] else kinds.Word (codes "THRU") ∷ label_tokens program exit) ++ tokens) o)) e

  module _ (enter : Form (Unit {0})) where
    word-or-other : {n : ℕ} {Behind : Option TokenKind → Type 0} {tokens : Tokens} {pending_not : Bool} (entry exit : ℕ) (R : SpellsRange parts kept program entry exit) (control : Control) →
        Controls control Behind tokens pending_not → parts.is_procedure_word (kinds.Word R.first_label.name) ≡ true → (b : Bool) → parts.is_name (kinds.Word R.first_label.name) ≡ b →
        Spelled (form.where_next parts.is_name (loops.perform_name parts enter) (loops.perform_other parts enter)) n
        (kinds.Word R.first_label.name ∷ ((if entry == exit then [] else kinds.Word (codes "THRU") ∷ label_tokens program exit) ++ tokens)) Behind
        (λ head. head ≡ heads.Whole (stmts.Perform entry exit control) pending_not)
    unfolding loops.perform_name loops.perform_other loops.perform_operand loops.perform_word
    word-or-other entry exit R control C p true e =
        there_next parts.is_name _ (λ o b. e) (and_then (word R.first_label.name) (λ found k.
        other_next loops.continues_item _ (λ o b. behind-range entry exit C (entry == exit) refl o b) (perform_named entry exit R control C found.0 k.0 found.1)))
    word-or-other entry exit R control C p false e =
        other_next parts.is_name _ (λ o b. e) (other_next is_digits _ (λ o b. refl) (there_next parts.is_procedure_word _ (λ o b. p)
        (and_then (word R.first_label.name) (λ found k. perform_named entry exit R control C found.0 k.0 found.1))))

    by-label : {n : ℕ} {Behind : Option TokenKind → Type 0} {tokens : Tokens} {pending_not : Bool} (entry exit : ℕ) (R : SpellsRange parts kept program entry exit) (control : Control) →
        Controls control Behind tokens pending_not → (kind : TokenKind) →
        ((kind ≡ kinds.Word R.first_label.name) × (parts.is_procedure_word (kinds.Word R.first_label.name) ≡ true)) ⊎ (kind ≡ kinds.Digits R.first_label.name) →
        Spelled (loops.perform_behind parts enter) n (kind ∷ ((if entry == exit then [] else kinds.Word (codes "THRU") ∷ label_tokens program exit) ++ tokens)) Behind
        (λ head. head ≡ heads.Whole (stmts.Perform entry exit control) pending_not)
    unfolding loops.perform_behind loops.perform_other loops.perform_digits loops.begins_until
    by-label {n = n} {Behind = Behind} {tokens = tokens} {pending_not = pending_not} entry exit R control C kind (inl w) =
        subst (λ k. Spelled (loops.perform_behind parts enter) n (k ∷ ((if entry == exit then [] else kinds.Word (codes "THRU") ∷ label_tokens program exit) ++ tokens)) Behind
        (λ head. head ≡ heads.Whole (stmts.Perform entry exit control) pending_not)) (sym w.0)
        (other_next loops.begins_until _ (λ o b. no-until parts.is_procedure_word (T.word_no_procedure (codes "WITH") refl) (T.word_no_procedure (codes "TEST") refl)
        (T.word_no_procedure (codes "VARYING") refl) (T.word_no_procedure (codes "UNTIL") refl) (kinds.Word R.first_label.name) w.1)
        (word-or-other entry exit R control C w.1 (parts.is_name (kinds.Word R.first_label.name)) refl))
    by-label {n = n} {Behind = Behind} {tokens = tokens} {pending_not = pending_not} entry exit R control C kind (inr d) =
        subst (λ k. Spelled (loops.perform_behind parts enter) n (k ∷ ((if entry == exit then [] else kinds.Word (codes "THRU") ∷ label_tokens program exit) ++ tokens)) Behind
        (λ head. head ≡ heads.Whole (stmts.Perform entry exit control) pending_not)) (sym d)
        (other_next loops.begins_until _ (λ o b. refl) (other_next parts.is_name _ (λ o b. T.digits_no_name R.first_label.name) (there_next is_digits _ (λ o b. refl)
        (and_then (valued part.digits_of R.first_label.name refl) (λ found k.
        other_next (part.is_key (codes "TIMES")) _ (λ o b. no-times _ (behind-range entry exit C (entry == exit) refl o b)) (perform_named entry exit R control C found.0 k.0 found.1))))))

    pub whole-with : {n : ℕ} {Behind : Option TokenKind → Type 0} {tokens : Tokens} {pending_not : Bool} (entry exit : ℕ) (R : SpellsRange parts kept program entry exit) (control : Control) →
        Controls control Behind tokens pending_not →
        Spelled (loops.perform_head parts enter) n (kinds.Word (codes "PERFORM") ∷ (range_tokens program entry exit ++ tokens)) Behind
        (λ head. head ≡ heads.Whole (stmts.Perform entry exit control) pending_not)
    unfolding loops.perform_head
    whole-with {n = n} {Behind = Behind} {tokens = tokens} {pending_not = pending_not} entry exit R control C =
        let thru : Tokens = if entry == exit then [] else kinds.Word (codes "THRU") ∷ label_tokens program exit in
        subst (λ t. Spelled (loops.perform_head parts enter) n (kinds.Word (codes "PERFORM") ∷ ((t ++ thru) ++ tokens)) Behind (λ head. head ≡ heads.Whole (stmts.Perform entry exit control) pending_not))
        (sym R.first_label.tokens)
        (and_then (key (codes "PERFORM")) (λ _ _. by-label entry exit R control C (procedure_token R.first_label.name) R.first_label.begins))

  -- ---- controls as they are printed

  operand-until : (o : Option TokenKind) → begins_by parts.begins_operand o ≡ true → begins_by loops.begins_until o ≡ false
  operand-until None e = absurd cc
  operand-until (Some kind) e =
      no-until parts.begins_operand (T.word_no_operand (codes "WITH") refl) (T.word_no_operand (codes "TEST") refl) (T.word_no_operand (codes "VARYING") refl) (T.word_no_operand (codes "UNTIL") refl) kind e

  operand-thru : (o : Option TokenKind) → begins_by parts.begins_operand o ≡ true → begins_by begins_thru o ≡ false
  operand-thru None e = absurd cc
  operand-thru (Some kind) e =
      or-false (part.is_key (codes "THRU") kind) (part.is_key (codes "THROUGH") kind)
      (no-key parts.begins_operand kind (codes "THRU") e (T.word_no_operand (codes "THRU") refl)) (no-key parts.begins_operand kind (codes "THROUGH") e (T.word_no_operand (codes "THROUGH") refl))

  operand-item : (o : Option TokenKind) → begins_by parts.begins_operand o ≡ true → begins_by loops.continues_item o ≡ false
  operand-item None e = absurd cc
  operand-item (Some kind) e = T.operand_apart kind e

  once : Controls controls.Once BehindStmt [] false
  unfolding loops.control_part loops.times_or_once loops.begins_until loops.continues_item
  once = record {
    spelled = λ n. other_next loops.begins_until _ (none-among loops.begins_until behind_stmts refl refl) (other_next parts.begins_operand _ (λ o b. no-operand T o (stmt-part o b)) (pure refl));
    no_thru = none-among begins_thru behind_stmts refl refl;
    no_item = none-among loops.continues_item behind_stmts refl refl;
  }

  times : (count : Operand) → Whole parts kept program count → Controls (controls.Times count) BehindStmt (operand_tokens program count ++ kinds.Word (codes "TIMES") ∷ []) false
  unfolding loops.control_part loops.times_or_once loops.times_control
  times count S =
      let back : Tokens = kinds.Word (codes "TIMES") ∷ [] in
      let begins : (o : Option TokenKind) → begins_by parts.begins_operand (first_of (operand_tokens program count ++ back) o) ≡ true =
      λ o. ap (begins_by parts.begins_operand) (first-append (operand_tokens program count) back o) ∙ S.0.begins (first_of back o) in
      record {
        spelled = λ n. other_next loops.begins_until _ (λ o b. operand-until _ (begins o)) (there_next parts.begins_operand _ (λ o b. begins o)
            (ending (bind (S.0.spelled n) (λ o b. inl refl) (λ side k. times_behind count side k S)) (λ control e. pure (ap (λ c. (c, false)) e))));
        no_thru = λ o b. operand-thru _ (begins o);
        no_item = λ o b. operand-item _ (begins o);
      }

  until : {Behind : Option TokenKind → Type 0} {tokens : Tokens} {pending_not : Bool} (after : Bool) (cond : Cond) → Conded cond Behind tokens pending_not →
      Controls (controls.Until after cond) Behind (after_tokens after ++ kinds.Word (codes "UNTIL") ∷ tokens) pending_not
  unfolding loops.control_part loops.begins_until loops.continues_item
  until {tokens = tokens} after cond C = record {
    spelled = λ n. there_next loops.begins_until _ (λ o b. until-begins after (codes "UNTIL") refl tokens o) (until_cond after cond C);
    no_thru = λ o b. apart begins_thru (codes "UNTIL") refl refl after tokens o;
    no_item = λ o b. apart loops.continues_item (codes "UNTIL") refl refl after tokens o;
  }

  varying : {Behind : Option TokenKind → Type 0} {tokens : Tokens} {pending_not : Bool} (after : Bool) (item : Place) (from by : Operand) (cond : Cond) →
      SpellsControl parts kept program (controls.Varying after item from by cond) → Conded cond Behind tokens pending_not →
      Controls (controls.Varying after item from by cond) Behind
      (Varying after item from by (kinds.Word (codes "UNTIL") ∷ tokens)) pending_not
  unfolding loops.control_part loops.begins_until loops.continues_item
  varying {tokens = tokens} after item from by cond h C =
      let more : Tokens = Behind_item item from by (kinds.Word (codes "UNTIL") ∷ tokens) in
      record {
        spelled = λ n. there_next loops.begins_until _ (λ o b. until-begins after (codes "VARYING") refl more o) (varying_cond after item from by cond h C);
        no_thru = λ o b. apart begins_thru (codes "VARYING") refl refl after more o;
        no_item = λ o b. apart loops.continues_item (codes "VARYING") refl refl after more o;
      }

  narrowed : {control : Control} {Behind Less : Option TokenKind → Type 0} {tokens : Tokens} {pending_not : Bool} → ((o : Option TokenKind) → Less o → Behind o) →
      Controls control Behind tokens pending_not → Controls control Less tokens pending_not
  narrowed h C = record {
    spelled = λ n. where_behind h (C.spelled n);
    no_thru = λ o b. C.no_thru o (h o b);
    no_item = λ o b. C.no_item o (h o b);
  }

  abbrev Not : Tokens
  Not = kinds.Word (codes "NOT") ∷ []

  conded : {cond : Cond} → SpellsCond parts kept program cond → Conded cond EndsStmt (cond_tokens program cond false) false
  conded S = record { spelled = S.spelled }

  pub control-ends : (control : Control) → SpellsControl parts kept program control → Controls control EndsStmt (control_tokens program control) false
  control-ends controls.Once h = narrowed closing-stmt once
  control-ends (controls.Times count) h = narrowed closing-stmt (times count h)
  control-ends (controls.Until after cond) h = until after cond (conded h)
  control-ends (controls.Varying after item from by cond) h =
      subst (λ t. Controls (controls.Varying after item from by cond) EndsStmt t false) (sym (varying-told after item from by (until_tokens program cond))) (varying after item from by cond h (conded h.1.1.1))

  is-not-stmt : (o : Option TokenKind) → IsNot o → BehindStmt o
  is-not-stmt o e = subst BehindStmt (sym e) refl

  abbrev BeforeNot : Control → Type 0
  BeforeNot control = Controls control IsNot (control_tokens program control) false ⊎ Controls control BeginsPhrase (control_tokens program control ++ Not) true

  until-not : (after : Bool) (cond : Cond) → ((taken : ℕ) → Spelled parts.cond taken (cond_tokens program cond false) IsNot (λ found. found ≡ (cond, false)))
      ⊎ ((taken : ℕ) → Spelled parts.cond taken (cond_tokens program cond false ++ Not) BeginsPhrase (λ found. found ≡ (cond, true))) → BeforeNot (controls.Until after cond)
  until-not after cond (inl F) = inl (until after cond (record { spelled = F }))
  until-not after cond (inr F) =
      inr (subst (λ t. Controls (controls.Until after cond) BeginsPhrase t true) (sym (append_assoc (after_tokens after) (until_tokens program cond) Not))
      (until after cond (record { spelled = F })))

  varying-not : (after : Bool) (item : Place) (from by : Operand) (cond : Cond) → SpellsControl parts kept program (controls.Varying after item from by cond) →
      ((taken : ℕ) → Spelled parts.cond taken (cond_tokens program cond false) IsNot (λ found. found ≡ (cond, false)))
      ⊎ ((taken : ℕ) → Spelled parts.cond taken (cond_tokens program cond false ++ Not) BeginsPhrase (λ found. found ≡ (cond, true))) →
      BeforeNot (controls.Varying after item from by cond)
  varying-not after item from by cond h (inl F) =
      inl (subst (λ t. Controls (controls.Varying after item from by cond) IsNot t false) (sym (varying-told after item from by (until_tokens program cond)))
      (varying after item from by cond h (record { spelled = F })))
  varying-not after item from by cond h (inr F) =
      let front : Tokens =
      ((after_tokens after ++ (kinds.Word (codes "VARYING") ∷ place_tokens program item)) ++ (kinds.Word (codes "FROM") ∷ operand_tokens program from))
      ++ (kinds.Word (codes "BY") ∷ operand_tokens program by) in
      inr (subst (λ t. Controls (controls.Varying after item from by cond) BeginsPhrase t true)
      (sym (append_assoc front (until_tokens program cond) Not ∙ varying-told after item from by (until_tokens program cond ++ Not)))
      (varying after item from by cond h (record { spelled = F })))

  pub control-not : (control : Control) → SpellsControl parts kept program control → BeforeNot control
  control-not controls.Once h = inl (narrowed is-not-stmt once)
  control-not (controls.Times count) h = inl (narrowed is-not-stmt (times count h))
  control-not (controls.Until after cond) h = until-not after cond h.before_not
  control-not (controls.Varying after item from by cond) h = varying-not after item from by cond h h.1.1.1.before_not

  -- ---- the head of an inline PERFORM

  module _ (enter : Form (Unit {0})) (E : (n : ℕ) → Spelled enter n [] Any (λ _. Unit {0})) where
    inline-form : {n : ℕ} {Behind : Option TokenKind → Type 0} (control : Control) (found : loops.Controlled) → found ≡ (control, false) →
        Spelled (loops.inline found) n [] Behind (λ head. head ≡ heads.Inline control)
    unfolding loops.inline
    inline-form {n = n} {Behind = Behind} control found e =
        subst (λ f. Spelled (loops.inline f) n [] Behind (λ head. head ≡ heads.Inline control)) (sym e) (chosen_other (form.refuse Syntax) refl (pure refl))

    inline-until : {n : ℕ} {Behind : Option TokenKind → Type 0} {tokens : Tokens} (control : Control) →
        ((m : ℕ) → Spelled (loops.until_control parts) m tokens Behind (λ found. found ≡ (control, false))) →
        ((o : Option TokenKind) → begins_by loops.begins_until (first_of tokens o) ≡ true) →
        Spelled (loops.perform_behind parts enter) n tokens Behind (λ head. head ≡ heads.Inline control)
    unfolding loops.perform_behind loops.until_head
    inline-until {n = n} control F begins =
        there_next loops.begins_until _ (λ o b. begins o) (behind_none (E _) (λ _ _. ending (F n)
        (λ found e. inline-form control found e)))

    times-head : {n : ℕ} {Behind : Option TokenKind → Type 0} (count : Operand) (side : Side) → kept.operand count side → Whole parts kept program count →
        Spelled (loops.times_head parts side) n (kinds.Word (codes "TIMES") ∷ []) Behind (λ head. head ≡ heads.Inline (controls.Times count))
    unfolding loops.times_head
    times-head count side told S = ending (times_behind count side told S) (λ control e. pure (ap heads.Inline e))

    by-item : {n : ℕ} {Behind : Option TokenKind → Type 0} (count : Operand) → Whole parts kept program count → (C : CountsByItem parts kept program count) →
        Spelled (loops.perform_behind parts enter) n (kinds.Word C.first ∷ (C.others ++ kinds.Word (codes "TIMES") ∷ [])) Behind (λ head. head ≡ heads.Inline (controls.Times count))
    unfolding loops.perform_behind loops.perform_name loops.item_head
    by-item {n = n} {Behind = Behind} count S C =
        let back : Tokens = kinds.Word (codes "TIMES") ∷ [] in
        other_next loops.begins_until _ (λ o b. no-until parts.is_name (T.word_no_name (codes "WITH") refl) (T.word_no_name (codes "TEST") refl)
        (T.word_no_name (codes "VARYING") refl) (T.word_no_name (codes "UNTIL") refl) (kinds.Word C.first) C.is_name)
        (there_next parts.is_name _ (λ o b. C.is_name) (and_then (word C.first) (λ found k.
        there_next loops.continues_item _ (λ o b. ap (begins_by loops.continues_item) (first-append C.others back o) ∙ C.goes_on)
        (behind_none (E _) (λ _ _. subst (λ w. Spelled (form.◌>>=◌ (parts.reference_behind w found.1) (loops.times_head parts)) (n + 1) (C.others ++ back) Behind (λ head. head ≡ heads.Inline (controls.Times count))) (sym k.0)
        (bind (C.spelled (n + 1) found.1) (λ o b. inl refl) (λ side l. times-head count side l S)))))))

    by-digits : {n : ℕ} {Behind : Option TokenKind → Type 0} (count : Operand) → Whole parts kept program count → (C : CountsByDigits parts kept program count) →
        Spelled (loops.perform_behind parts enter) n (kinds.Digits C.digits ∷ kinds.Word (codes "TIMES") ∷ []) Behind (λ head. head ≡ heads.Inline (controls.Times count))
    unfolding loops.perform_behind loops.perform_other loops.perform_digits loops.digits_head loops.begins_until
    by-digits {n = n} {Behind = Behind} count S C =
        other_next loops.begins_until _ (λ o b. refl) (other_next parts.is_name _ (λ o b. T.digits_no_name C.digits) (there_next is_digits _ (λ o b. refl)
        (and_then (valued part.digits_of C.digits refl) (λ found k. there_next (part.is_key (codes "TIMES")) _ (λ o b. refl)
        (behind_none (E _) (λ _ _. subst (λ d. Spelled (loops.times_head parts (parts.digits_side d found.1)) (n + 1) (kinds.Word (codes "TIMES") ∷ []) Behind (λ head. head ≡ heads.Inline (controls.Times count))) (sym k.0)
        (times-head count (parts.digits_side C.digits found.1) (C.is found.1) S)))))))

    otherwise : {n : ℕ} {Behind : Option TokenKind → Type 0} (count : Operand) → Whole parts kept program count → (C : CountsOtherwise parts kept program count) →
        Spelled (loops.perform_behind parts enter) n (operand_tokens program count ++ kinds.Word (codes "TIMES") ∷ []) Behind (λ head. head ≡ heads.Inline (controls.Times count))
    unfolding loops.perform_behind loops.perform_other loops.perform_operand loops.operand_head
    otherwise {n = n} {Behind = Behind} count S C =
        let back : Tokens = kinds.Word (codes "TIMES") ∷ [] in
        let begins : (o : Option TokenKind) → begins_by parts.begins_operand (first_of (operand_tokens program count ++ back) o) ≡ true =
        λ o. ap (begins_by parts.begins_operand) (first-append (operand_tokens program count) back o) ∙ S.0.begins (first_of back o) in
        let first : (test : TokenKind → Bool) → test C.first ≡ false → (o : Option TokenKind) → begins_by test (first_of (operand_tokens program count ++ back) o) ≡ false =
        λ test e o. ap (λ t. begins_by test (first_of (t ++ back) o)) C.tokens ∙ e in
        other_next loops.begins_until _ (λ o b. operand-until _ (begins o)) (other_next parts.is_name _ (λ o b. first parts.is_name C.no_name o)
        (other_next is_digits _ (λ o b. first is_digits C.no_digits o) (other_next parts.is_procedure_word _ (λ o b. first parts.is_procedure_word C.no_procedure o)
        (there_next parts.begins_operand _ (λ o b. begins o) (behind_none (E _) (λ _ _. bind (S.0.spelled n) (λ o b. inl refl) (λ side k. times-head count side k S)))))))

    inline-times : {n : ℕ} {Behind : Option TokenKind → Type 0} (count : Operand) → Whole parts kept program count → CountsTurns parts kept program count →
        Spelled (loops.perform_behind parts enter) n (operand_tokens program count ++ kinds.Word (codes "TIMES") ∷ []) Behind (λ head. head ≡ heads.Inline (controls.Times count))
    inline-times {n = n} {Behind = Behind} count S (inl C) =
        subst (λ t. Spelled (loops.perform_behind parts enter) n (t ++ kinds.Word (codes "TIMES") ∷ []) Behind (λ head. head ≡ heads.Inline (controls.Times count))) (sym C.tokens) (by-item count S C)
    inline-times {n = n} {Behind = Behind} count S (inr (inl C)) =
        subst (λ t. Spelled (loops.perform_behind parts enter) n (t ++ kinds.Word (codes "TIMES") ∷ []) Behind (λ head. head ≡ heads.Inline (controls.Times count))) (sym C.tokens) (by-digits count S C)
    inline-times count S (inr (inr C)) = otherwise count S C

    inline-by : {n : ℕ} (control : Control) → SpellsTurns parts kept program control →
        Spelled (loops.perform_behind parts enter) n (control_tokens program control) EndsStmt (λ head. head ≡ heads.Inline control)
    unfolding loops.begins_until
    inline-by controls.Once h = absurd h
    inline-by (controls.Times count) h = inline-times count h.0 h.1
    inline-by (controls.Until after cond) h =
        inline-until (controls.Until after cond) (λ m. until_cond after cond (conded h)) (until-begins after (codes "UNTIL") refl (cond_tokens program cond false))
    inline-by {n = n} (controls.Varying after item from by cond) h =
        subst (λ t. Spelled (loops.perform_behind parts enter) n t EndsStmt (λ head. head ≡ heads.Inline (controls.Varying after item from by cond))) (sym (varying-told after item from by (until_tokens program cond)))
        (inline-until (controls.Varying after item from by cond) (λ m. varying_cond after item from by cond h (conded h.1.1.1))
        (until-begins after (codes "VARYING") refl (Behind_item item from by (until_tokens program cond))))

    pub inline-head : {n : ℕ} (control : Control) → SpellsTurns parts kept program control →
        Spelled (loops.perform_head parts enter) n (kinds.Word (codes "PERFORM") ∷ control_tokens program control) EndsStmt (λ head. head ≡ heads.Inline control)
    unfolding loops.perform_head
    inline-head control h = and_then (key (codes "PERFORM")) (λ _ _. inline-by control h)
