-- Sentences.
use Rattle.std.proofs.Common.{arith, ◌≡◌, true, List, [], inl, inr, refl}
use Rattle.std.specs.Prelude.{codes}
use Rattle.cob_tree.specs.declared.program.Sentence.{Sentence}
use Rattle.cob_tree.specs.declared.stmt.Stmt.{Stmt}
use Rattle.cobol_lex.specs.declared.token.TokenKind.{TokenKind}
use Rattle.parser_combinators.specs.declared.note.Position.{Position}
use Rattle.cobol_grammar.specs.declared.stmt_forms.scope.Scope.{Scope}
use Rattle.cobol_grammar.specs.stmt_forms.Part.{Parts}
use Rattle.cobol_grammar.specs.stmt_forms.Laws.{PartsAreLawful}
use Rattle.cobol_grammar.specs.stmt_forms.Arms.{Found}
use Rattle.cob_base.specs.Limit.{max_nesting}
use Rattle.cobol_grammar.specs.stmt_forms.Paragraph as paragraphs
use Rattle.cobol_grammar.specs.stmt_forms.Verb.{begins_stmt}
use Rattle.program_facts.specs.well_scoped.Part.{is_filled}
use Rattle.grammar_laws.specs.form_results.Giving.{Gives}
use Rattle.grammar_laws.proofs.form_results_lemmas.Giving.{hence, pure, refuse, key, period, chosen, where_next, loop, ◌>>=◌, ◌>>◌}
use Rattle.round_trip.specs.spelling.stmt_spelling.Part.{Kept}
use Rattle.round_trip.specs.spelling.stmt_spelling.Stmt.{Each, Some_of}
use Rattle.round_trip.specs.fitting_statements.Fits.{Fits}
use Rattle.round_trip.specs.fitting_statements.Given.{PartsFit, FitSentence, FitSentences}
use Rattle.round_trip.proofs.fitting_statements_lemmas.Shape.{FitsStmt}
use Rattle.round_trip.proofs.fitting_statements_lemmas.Trees.{Good, gathered}
use Rattle.round_trip.proofs.procedures_lemmas.readable_stmts_lemmas.From.{GivesFrom, Begins, from, hence_from, branch_from, loop_begun}
use Rattle.round_trip.proofs.procedures_lemmas.readable_stmts_lemmas.Lists.{some-one, added, items, items_all}
use Rattle.round_trip.proofs.fitting_statements_lemmas.Simple as simple
use Rattle.round_trip.proofs.fitting_statements_lemmas.Simple.{Stmts}
use Rattle.round_trip.proofs.fitting_statements_lemmas.Holding as holding

module _ {Side Known : Type 0} {parts : Parts Side Known} {kept : Kept Side} {fits : Fits} {Kind : TokenKind → Type 0} (lawful : PartsAreLawful parts) (F : PartsFit parts kept fits Kind) (scope : Scope) where
  -- a list whose statements hold lists of so many levels
  listed : (list : List Stmt) → Some_of (FitsStmt fits (Good fits max_nesting) scope) list → FitSentence fits scope (paragraphs.sentence_of list)
  listed list h =
      let g = gathered fits max_nesting scope list h in
      let depth = g.depth in
      record { filled = g.filled; fit = g.fit; in_scope = g.scoped; depth = omega arith }

  abbrev Whole : List Stmt → Type 0
  Whole list = Stmts F (Good fits max_nesting) scope list

  abbrev IsSpelled : Sentence → Type 0
  IsSpelled sentence = FitSentence fits scope sentence

  abbrev AreSpelled : List Sentence → Type 0
  AreSpelled list = FitSentences fits scope list

  sentence_end : (found : Found) → Gives Kind (paragraphs.sentence_end found) (λ sentence. Whole found.0 → IsSpelled sentence)
  unfolding paragraphs.sentence_end paragraphs.sentence_closed
  sentence_end found = chosen found.1 refuse (period >> pure (λ _ h. listed found.0 h))

  sentence : Gives Kind (paragraphs.sentence parts scope) IsSpelled
  unfolding paragraphs.sentence
  sentence = holding.stmts_with lawful F (Good fits max_nesting) (holding.level lawful F max_nesting) scope >>= sentence_end

  sentences_from : {before : List Sentence} → Gives Kind (paragraphs.sentences_from parts scope before) (λ list. Each IsSpelled before → Each IsSpelled list)
  sentences_from = items_all IsSpelled sentence

  -- one at least
  abbrev pub Filled : List Sentence → Type 0
  Filled list = (is_filled list ≡ true) × AreSpelled list

  sentences_begun : GivesFrom (Begins begins_stmt) Kind (paragraphs.sentences_from parts scope []) (λ list. Unit {0} → Some_of IsSpelled list)
  sentences_begun = loop_begun {P = Some_of IsSpelled} (hence (λ list h _. h tt) (added IsSpelled [] sentence)) (λ front. hence (λ list h f. h f.1) (added IsSpelled front sentence))

  exit_sentence : (position : Position) → Gives Kind (paragraphs.exit_sentence parts scope position) IsSpelled
  unfolding paragraphs.exit_sentence
  exit_sentence position = simple.exit_behind F (Good fits max_nesting) scope position >>= (λ first.
      loop {P = λ (found : Found). Whole found.0} (holding.stmts_turn lawful F (Good fits max_nesting) (holding.level lawful F max_nesting) scope)
      >>= (λ found. hence (λ sentence h w f. h (w (some-one (FitsStmt fits (Good fits max_nesting) scope) first f))) (sentence_end found)))

  exit_sentences : (position : Position) → Gives Kind (paragraphs.exit_sentences parts scope position) Filled
  unfolding paragraphs.exit_sentences
  exit_sentences position = exit_sentence position >>= (λ first. hence (λ list h f. let all = h (some-one IsSpelled first f) in (all.0, inr all.1)) (items IsSpelled sentence))

  by_exit : Gives Kind (paragraphs.sentences_by_exit parts scope) Filled
  unfolding paragraphs.sentences_by_exit paragraphs.exit_alone
  by_exit = key (codes "EXIT") >>= (λ position. where_next (hence (λ list h _. h) (exit_sentences position)) (period >> pure (λ _ _. (refl, inl refl))))

  pub sentences : Gives Kind (paragraphs.sentences parts scope) AreSpelled
  unfolding paragraphs.sentences
  sentences = where_next (hence (λ list h. h.1) by_exit) (hence (λ list h. inr (h tt)) sentences_from)

  -- where a statement begins
  pub filled_sentences : GivesFrom (Begins begins_stmt) Kind (paragraphs.sentences parts scope) Filled
  unfolding paragraphs.sentences
  filled_sentences = branch_from (from by_exit) (hence_from (λ list h. let all = h tt in (all.0, inr all.1)) sentences_begun)
