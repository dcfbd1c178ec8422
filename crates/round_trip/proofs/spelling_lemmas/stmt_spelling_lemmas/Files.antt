-- OPEN, CLOSE, WRITE and REWRITE.
use Rattle.std.proofs.Common.{◌≡◌, ℕ, ◌+◌, Bool, true, false, List, [], ◌∷◌, ◌++◌, Option, Some, None, refl, ap, sym, ◌∙◌, subst, append_assoc, append-nil}
use Rattle.std.specs.Prelude.{codes, if◌then◌else◌}
use Rattle.cob_tree.specs.declared.file.How.{How}
use Rattle.cob_tree.specs.declared.file.How.TheVariants as hows
use Rattle.cob_tree.specs.declared.file.Opening.{Opening}
use Rattle.cob_tree.specs.declared.place.Operand.{Operand}
use Rattle.cob_tree.specs.declared.program.Program.{Program}
use Rattle.cob_tree.specs.declared.stmt.Stmt.TheVariants as stmts
use Rattle.cobol_lex.specs.declared.token.TokenKind.{TokenKind}
use Rattle.cobol_lex.specs.declared.token.TokenKind.TheVariants as kinds
use Rattle.parser_combinators.specs.Form as form
use Rattle.parser_combinators.specs.Form.{begins_by}
use Rattle.parser_combinators.specs.Part as part
use Rattle.unparser.specs.File.{file_tokens, files_tokens, openings_tokens, mode_word, mode_tokens, same_mode}
use Rattle.unparser.specs.Head.{from_tokens}
use Rattle.unparser.specs.Place.{item_name}
use Rattle.unparser.specs.Token.{Tokens}
use Rattle.cobol_grammar.specs.stmt_forms.Part.{Parts}
use Rattle.cobol_grammar.specs.stmt_forms.File as file
use Rattle.round_trip.specs.spelled_forms.Spelling.{first_of, Any, Spelled}
use Rattle.round_trip.proofs.spelled_forms_lemmas.Makers.{pure, note, hence, where_behind, bind, ending, behind_none, there_next, other_next, no_turn, turn, one}
use Rattle.round_trip.proofs.spelled_forms_lemmas.Tokens.{key}
use Rattle.round_trip.specs.spelling.stmt_spelling.Behind.{BehindPart, BehindStmt, behind_stmts}
use Rattle.round_trip.specs.spelling.stmt_spelling.Part.{Kept, PartsAreTold, BehindOperand, SpellsFile, SpellsRecord}
use Rattle.round_trip.specs.spelling.stmt_spelling.Stmt.{Each, IfAny, Some_of, WrittenFrom}
use Rattle.round_trip.proofs.spelling_lemmas.stmt_spelling_lemmas.Behind.{none_of, none-among, stmt-part, first-append, true-false}
use Rattle.round_trip.proofs.spelling_lemmas.stmt_spelling_lemmas.Lists.{and_then, each, IsItem, some-items}
use Rattle.round_trip.proofs.spelling_lemmas.stmt_spelling_lemmas.Parts.{no-name, part-operand, stmt-operand, name-operand, value}

-- ---- modes

mode-told : (how : How) → file.how_of (kinds.Word (mode_word how)) ≡ Some how
unfolding file.how_of_word
mode-told hows.Input = refl
mode-told hows.Output = refl
mode-told hows.InOut = refl
mode-told hows.Extend = refl

mode-begins : (how : How) → file.begins_opening (kinds.Word (mode_word how)) ≡ true
unfolding file.begins_opening
mode-begins how = ap file.is_some (mode-told how)

mode-is : (mode how : How) → same_mode (Some mode) how ≡ true → how ≡ mode
mode-is hows.Input hows.Input e = refl
mode-is hows.Output hows.Output e = refl
mode-is hows.InOut hows.InOut e = refl
mode-is hows.Extend hows.Extend e = refl
mode-is hows.Input hows.Output e = absurd cc
mode-is hows.Input hows.InOut e = absurd cc
mode-is hows.Input hows.Extend e = absurd cc
mode-is hows.Output hows.Input e = absurd cc
mode-is hows.Output hows.InOut e = absurd cc
mode-is hows.Output hows.Extend e = absurd cc
mode-is hows.InOut hows.Input e = absurd cc
mode-is hows.InOut hows.Output e = absurd cc
mode-is hows.InOut hows.Extend e = absurd cc
mode-is hows.Extend hows.Input e = absurd cc
mode-is hows.Extend hows.Output e = absurd cc
mode-is hows.Extend hows.InOut e = absurd cc

mode-said : (before : Option How) (how : How) → same_mode before how ≡ false → mode_tokens before how ≡ kinds.Word (mode_word how) ∷ []
mode-said before how e = ap (λ v. if v then [] else kinds.Word (mode_word how) ∷ []) e

mode-unsaid : (before : Option How) (how : How) → same_mode before how ≡ true → mode_tokens before how ≡ []
mode-unsaid before how e = ap (λ v. if v then [] else kinds.Word (mode_word how) ∷ []) e

mode-behind : (how : How) → BehindPart (Some (kinds.Word (mode_word how)))
mode-behind hows.Input = refl
mode-behind hows.Output = refl
mode-behind hows.InOut = refl
mode-behind hows.Extend = refl

how : {n : ℕ} (mode : How) → Spelled file.how n (kinds.Word (mode_word mode) ∷ []) Any (λ found. found ≡ mode)
how mode = one (λ position kind. file.how_of kind) (λ position i. (mode, mode-told mode, refl))

no-opening : (o : Option TokenKind) → BehindStmt o → begins_by file.begins_opening o ≡ false
unfolding file.begins_opening file.how_of_word
no-opening o b = none-among file.begins_opening behind_stmts refl refl o b

module _ {Side Known : Type 0} {parts : Parts Side Known} {kept : Kept Side} (T : PartsAreTold parts kept) (program : Program) where
  file_item : (number : ℕ) → SpellsFile parts kept program number → IsItem parts.is_name (file.file_name parts) (file_tokens program) (BehindOperand parts) number
  unfolding file.file_name
  file_item number S = record {
    spelled = λ n. ending (S.spelled n) (λ found e. pure (ap file.index_or_0 e));
    begins = S.begins;
    enters = λ o. name-operand T _ (S.begins o);
  }

  pub close_stmt : {n : ℕ} (files : List ℕ) → Some_of (SpellsFile parts kept program) files →
      Spelled (file.close_stmt parts) n (kinds.Word (codes "CLOSE") ∷ files_tokens program files) BehindStmt (λ stmt. stmt ≡ stmts.Closes files)
  unfolding file.close_stmt
  close_stmt files h =
      and_then (key (codes "CLOSE")) (λ _ _. ending
      (some-items parts.is_name (file.file_name parts) (file_tokens program) (BehindOperand parts) BehindStmt (stmt-operand T) (λ o b. no-name T o (stmt-part o b)) files h.0 (each file_item files h.1) _)
      (λ list e. pure (ap stmts.Closes e)))

  -- ---- OPEN

  abbrev Opened : Opening → Type 0
  Opened opening = SpellsFile parts kept program opening.file

  abbrev More : How → List Opening → form.Form (List Opening)
  More mode front = form.loop parts.is_name (form.added (file.open_one parts mode)) front

  abbrev Groups : List Opening → form.Form (List Opening)
  Groups front = form.loop file.begins_opening (file.open_group parts) front

  -- those of the same mode, and those behind them
  record Runs (mode : How) (list : List Opening) : Type 0 where
    same : List Opening
    others : List Opening
    here : Tokens
    there : Tokens
    is : list ≡ same ++ others
    tokens : openings_tokens program (Some mode) list ≡ here ++ there
    enters : (o : Option TokenKind) → BehindPart o → BehindOperand parts (first_of here o)
    begins : (o : Option TokenKind) → BehindStmt o → BehindPart (first_of there o)
    more : (front : List Opening) (n : ℕ) → Spelled (More mode front) n here BehindPart (λ found. found ≡ front ++ same)
    groups : (front : List Opening) (n : ℕ) → Spelled (Groups front) n there BehindStmt (λ found. found ≡ front ++ others)

  one_file : {n : ℕ} (mode : How) (opening : Opening) → opening.how ≡ mode → Opened opening →
      Spelled (file.open_one parts mode) n (file_tokens program opening.file) (BehindOperand parts) (λ found. found ≡ opening)
  unfolding file.open_one
  one_file {n = n} mode opening e S =
      ending ((file_item opening.file S).spelled n) (λ number k. pure (ap (file.opening_of mode) k ∙ ap (λ m. file.opening_of m opening.file) (sym e)))

  module _ (opening : Opening) (list : List Opening) (S : Opened opening) where
    abbrev Mode : TokenKind
    Mode = kinds.Word (mode_word opening.how)

    abbrev File : Tokens
    File = file_tokens program opening.file

    group : (R : Runs opening.how list) (front : List Opening) (n : ℕ) →
        Spelled (file.open_group parts front) n (Mode ∷ (File ++ R.here)) BehindPart (λ found. found ≡ front ++ opening ∷ R.same)
    unfolding file.open_group
    group R front n =
        and_then (how opening.how) (λ mode e. subst
        (λ m. Spelled (form.◌>>=◌ (file.open_one parts m) (λ first. file.open_more parts m (front ++ first ∷ []))) (n + 1) (File ++ R.here) BehindPart (λ found. found ≡ front ++ opening ∷ R.same)) (sym e)
        (bind (one_file opening.how opening refl S) R.enters
        (λ first k. hence (λ found l. l ∙ ap (λ x. (front ++ x ∷ []) ++ R.same) k ∙ append_assoc front (opening ∷ []) R.same) (R.more (front ++ first ∷ []) _))))

    all-groups : (R : Runs opening.how list) (front : List Opening) (n : ℕ) →
        Spelled (Groups front) n ((Mode ∷ (File ++ R.here)) ++ R.there) BehindStmt (λ found. found ≡ front ++ opening ∷ list)
    all-groups R front n =
        turn file.begins_opening (file.open_group parts) (λ o. mode-begins opening.how) (group R front n) R.begins
        (λ mid k. hence (λ found l. l ∙ ap (λ f. f ++ R.others) k ∙ append_assoc front (opening ∷ R.same) R.others ∙ ap (λ l. front ++ opening ∷ l) (sym R.is)) (R.groups mid _))

    told : (R : Runs opening.how list) → Mode ∷ (File ++ openings_tokens program (Some opening.how) list) ≡ (Mode ∷ (File ++ R.here)) ++ R.there
    told R = ap (λ t. Mode ∷ (File ++ t)) R.tokens ∙ ap (λ t. Mode ∷ t) (sym (append_assoc File R.here R.there))

    opened : (before : Option How) → openings_tokens program before (opening ∷ list) ≡ mode_tokens before opening.how ++ (File ++ openings_tokens program (Some opening.how) list)
    opened before = append_assoc (mode_tokens before opening.how) File (openings_tokens program (Some opening.how) list)

    by-mode : (mode : How) → Runs opening.how list → (b : Bool) → same_mode (Some mode) opening.how ≡ b → Runs mode (opening ∷ list)
    by-mode mode R false e = record {
      same = [];
      others = opening ∷ list;
      here = [];
      there = (Mode ∷ (File ++ R.here)) ++ R.there;
      is = refl;
      tokens = opened (Some mode) ∙ ap (λ t. t ++ (File ++ openings_tokens program (Some opening.how) list)) (mode-said (Some mode) opening.how e) ∙ told R;
      enters = part-operand T;
      begins = λ o b. mode-behind opening.how;
      more = λ front n. no_turn parts.is_name (form.added (file.open_one parts mode)) (no-name T) (sym (append-nil front));
      groups = all-groups R;
    }
    by-mode mode R true e =
        let is-mode : opening.how ≡ mode = mode-is mode opening.how e in
        let Q : Runs mode list = subst (λ m. Runs m list) is-mode R in
        record {
          same = opening ∷ Q.same;
          others = Q.others;
          here = File ++ Q.here;
          there = Q.there;
          is = ap (λ l. opening ∷ l) Q.is;
          tokens =
              opened (Some mode) ∙ ap (λ t. t ++ (File ++ openings_tokens program (Some opening.how) list)) (mode-unsaid (Some mode) opening.how e)
              ∙ ap (λ m. File ++ openings_tokens program (Some m) list) is-mode ∙ ap (λ t. File ++ t) Q.tokens ∙ sym (append_assoc File Q.here Q.there);
          enters = λ o b. subst (BehindOperand parts) (sym (first-append File Q.here o)) (name-operand T _ (S.begins (first_of Q.here o)));
          begins = Q.begins;
          more = λ front n. turn parts.is_name (form.added (file.open_one parts mode)) S.begins
              (ending (one_file mode opening is-mode S) (λ x k. pure (ap (λ x. front ++ x ∷ []) k))) Q.enters
              (λ mid k. hence (λ found l. l ∙ ap (λ f. f ++ Q.same) k ∙ append_assoc front (opening ∷ []) Q.same) (Q.more mid _));
          groups = Q.groups;
        }

  runs : (list : List Opening) → Each Opened list → (mode : How) → Runs mode list
  runs [] h mode = record {
    same = [];
    others = [];
    here = [];
    there = [];
    is = refl;
    tokens = refl;
    enters = part-operand T;
    begins = stmt-part;
    more = λ front n. no_turn parts.is_name (form.added (file.open_one parts mode)) (no-name T) (sym (append-nil front));
    groups = λ front n. no_turn file.begins_opening (file.open_group parts) no-opening (sym (append-nil front));
  }
  runs (opening ∷ list) h mode = by-mode opening list h.0 mode (runs list h.1 opening.how) (same_mode (Some mode) opening.how) refl

  pub open_stmt : {n : ℕ} (list : List Opening) → Some_of Opened list →
      Spelled (file.open_stmt parts) n (kinds.Word (codes "OPEN") ∷ openings_tokens program None list) BehindStmt (λ stmt. stmt ≡ stmts.Opens list)
  unfolding file.open_stmt
  open_stmt [] h = absurd (true-false h.0 refl)
  open_stmt {n = n} (opening ∷ list) h =
      let R : Runs opening.how list = runs list h.1.1 opening.how in
      subst (λ t. Spelled (file.open_stmt parts) n (kinds.Word (codes "OPEN") ∷ t) BehindStmt (λ stmt. stmt ≡ stmts.Opens (opening ∷ list))) (sym (told opening list h.1.0 R))
      (and_then (key (codes "OPEN")) (λ _ _. bind (group opening list h.1.0 R [] _) R.begins
      (λ first k. ending (R.groups first _) (λ found l. pure (ap stmts.Opens (l ∙ ap (λ f. f ++ R.others) k ∙ ap (λ l. opening ∷ l) (sym R.is)))))))

  -- ---- WRITE and REWRITE

  behind-record : (from : Option Operand) (o : Option TokenKind) → BehindStmt o → BehindPart (first_of (from_tokens program from) o)
  behind-record None o b = stmt-part o b
  behind-record (Some operand) o b = refl

  from_part : {n : ℕ} (entry : ℕ) {target : Side} → kept.entry entry target → (from : Option Operand) → IfAny (WrittenFrom parts kept program entry) from →
      Spelled (file.from_part parts target) n (from_tokens program from) BehindStmt (λ found. found ≡ from)
  unfolding file.from_part file.from_operand
  from_part entry told None h = other_next (part.is_key (codes "FROM")) _ (none-among (part.is_key (codes "FROM")) behind_stmts refl refl) (pure refl)
  from_part entry {target = target} told (Some operand) h =
      there_next (part.is_key (codes "FROM")) _ (λ o b. refl) (and_then (key (codes "FROM")) (λ _ _. ending (where_behind (stmt-operand T) (value T h.0))
      (λ side k. behind_none (note (h.1 side target k told)) (λ _ _. pure (ap Some (T.operand_told operand side k))))))

  unsaid : {n : ℕ} (word : List ℕ) → none_of (part.is_key word) behind_stmts ≡ true → Spelled (part.maybe word) n [] BehindStmt (λ _. Unit {0})
  unsaid word none = other_next (part.is_key word) _ (none-among (part.is_key word) behind_stmts none refl) (pure tt)

  pub write_stmt : {n : ℕ} (entry : ℕ) (from : Option Operand) → SpellsRecord parts kept program entry → IfAny (WrittenFrom parts kept program entry) from →
      Spelled (file.write_stmt parts) n (kinds.Word (codes "WRITE") ∷ kinds.Word (item_name program entry) ∷ from_tokens program from) BehindStmt (λ stmt. stmt ≡ stmts.Write entry from)
  unfolding file.write_stmt
  write_stmt entry from S h =
      and_then (key (codes "WRITE")) (λ _ _. bind (S.spelled _) (behind-record from) (λ target told. ending (from_part entry told from h)
      (λ found e. ending (unsaid (codes "END-WRITE") refl) (λ _ _. pure (ap (λ x. stmts.Write x found) (T.entry_told entry target told) ∙ ap (stmts.Write entry) e)))))

  pub rewrite_stmt : {n : ℕ} (entry : ℕ) (from : Option Operand) → SpellsRecord parts kept program entry → IfAny (WrittenFrom parts kept program entry) from →
      Spelled (file.rewrite_stmt parts) n (kinds.Word (codes "REWRITE") ∷ kinds.Word (item_name program entry) ∷ from_tokens program from) BehindStmt (λ stmt. stmt ≡ stmts.Rewrite entry from)
  unfolding file.rewrite_stmt
  rewrite_stmt entry from S h =
      and_then (key (codes "REWRITE")) (λ _ _. bind (S.spelled _) (behind-record from) (λ target told. ending (from_part entry told from h)
      (λ found e. ending (unsaid (codes "END-REWRITE") refl) (λ _ _. pure (ap (λ x. stmts.Rewrite x found) (T.entry_told entry target told) ∙ ap (stmts.Rewrite entry) e)))))
