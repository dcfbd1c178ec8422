-- How the scan of headers goes over sentences: one paragraph more where one is awaited.
use Rattle.std.proofs.Common.{◌≡◌, ℕ, zero, suc, Bool, true, false, if◌then◌else◌, ◌⊎◌, inl, inr, List, [], ◌∷◌, length, refl, ap, sym, ◌∙◌, subst}
use Rattle.std.specs.Prelude.{codes}
use Rattle.cob_tree.specs.declared.entry.Entry.{Entry}
use Rattle.cob_tree.specs.declared.program.Sentence.{Sentence}
use Rattle.cob_tree.specs.declared.stmt.Stmt.{Stmt}
use Rattle.symbol_tables.specs.data_names.Names.{Names}
use Rattle.parser_combinators.specs.declared.note.Position.{Position}
use Rattle.parser_combinators.specs.declared.why.Why.TheVariants.{Syntax}
use Rattle.parser_combinators.specs.Form.{Input, Got, then_read, refuse, chosen, added, loop_reads, is_next}
use Rattle.parser_combinators.specs.Part.{is_key, key, period}
use Rattle.parser_combinators.proofs.Lawful.{got_is, then_got}
use Rattle.parser_combinators.proofs.MakerLaws as laws
use Rattle.parser_combinators.proofs.Turns.{loop-unrolls}
use Rattle.symbol_tables.specs.declared.procedure_names.scan.Scan.{Scan}
use Rattle.symbol_tables.specs.declared.procedure_names.table.ProcedureTable.{ProcedureTable}
use Rattle.symbol_tables.specs.procedure_names.Procedures.{unheaded}
use Rattle.cobol_grammar.specs.declared.stmt_forms.scope.Scope.{Scope}
use Rattle.cobol_grammar.specs.stmt_forms.Arms.{Found}
use Rattle.cobol_grammar.specs.stmt_forms.Laws.{PartsAreLawful}
use Rattle.cobol_grammar.specs.stmt_forms.Jump.{exit_behind}
use Rattle.cobol_grammar.specs.stmt_forms.Paragraph.{sentence_closed, sentence_end, sentence, sentences_from, begins_exit_word, exit_alone, exit_sentence, exit_sentences, sentences_by_exit, sentences}
use Rattle.cob_base.specs.Limit.{max_nesting}
use Rattle.cobol_grammar.specs.stmt_forms.Stmt.{level, stmts, stmts_from}
use Rattle.cobol_grammar.specs.stmt_forms.Verb.{begins_stmt}
use Rattle.cobol_grammar.proofs.stmt_forms_lemmas.HoldingLaws as holding_laws
use Rattle.cobol_grammar.proofs.stmt_forms_lemmas.ParagraphLaws as paragraph_laws
use Rattle.cobol_grammar.specs.declared.subject_kind.SubjectKind.{SubjectKind}
use Rattle.cobol_grammar.specs.Whole.{parts_of}
use Rattle.cobol_grammar.proofs.PartLaws as part_laws
use Rattle.cobol_grammar.specs.declared.expr_forms.side.Side.{Side}
use Rattle.cobol_grammar.specs.stmt_forms.Part.{Parts}
use Rattle.grammar_laws.proofs.no_periods_lemmas.Makers as makers
use Rattle.grammar_laws.proofs.no_periods_lemmas.Parts.{PartsArePlain}
use Rattle.grammar_laws.proofs.no_periods_lemmas.Simple as simple
use Rattle.grammar_laws.proofs.no_periods_lemmas.Holding as holding
use Rattle.grammar_laws.proofs.no_periods_lemmas.Plainly as plainly
use Rattle.grammar_laws.proofs.whole_counts_lemmas.header_counts_lemmas.Taken.{sign-of, where-got, added-got}
use Rattle.grammar_laws.proofs.whole_counts_lemmas.header_counts_lemmas.Verbs as verbs
use Rattle.grammar_laws.proofs.whole_counts_lemmas.header_counts_lemmas.Goes.{Goes, stays, goes-then, over, period-over, over-begun, verb-first}

-- where no paragraph is awaited, sentences add none
abbrev pub IsSettled : Scan → Type 0
IsSettled scan = unheaded false scan ≡ scan

closed-over : (found : List Stmt) (p : Input) (a : Sentence) (q : Input) → (sentence_closed found).reads p ≡ Got a q → (scan : Scan) → Goes p.rest false scan q.rest true scan
unfolding sentence_closed
closed-over found p a q e scan =
    let s = then_got (period.reads p) _ a q e in
    subst (λ r. Goes p.rest false scan r.rest true scan) (got_is _ a s.1 q s.3).1 (period-over p s.0 s.1 s.2 scan)

end-over : (found : Found) (p : Input) (a : Sentence) (q : Input) → (sentence_end found).reads p ≡ Got a q → (scan : Scan) → Goes p.rest false scan q.rest true scan
unfolding sentence_end
end-over found p a q e scan = go found.1 e
  where
    go : (b : Bool) → (chosen b (refuse Syntax) (sentence_closed found.0)).reads p ≡ Got a q → Goes p.rest false scan q.rest true scan
    go true e = absurd cc
    go false e = closed-over found.0 p a q e scan

alone-over : (p : Input) (a : List Sentence) (q : Input) → exit_alone.reads p ≡ Got a q → (scan : Scan) → Goes p.rest false scan q.rest true scan
unfolding exit_alone
alone-over p a q e scan =
    let s = then_got (period.reads p) _ a q e in
    subst (λ r. Goes p.rest false scan r.rest true scan) (got_is _ a s.1 q s.3).1 (period-over p s.0 s.1 s.2 scan)

module _ (names : Names) (entries : List Entry) (table : ProcedureTable) where
  abbrev parts : Parts Side SubjectKind
  parts = parts_of names entries table

  abbrev lawful : PartsAreLawful parts
  lawful = part_laws.parts names entries table

  abbrev plain : PartsArePlain parts
  plain = plainly.parts names entries table

  sentence-over : (scope : Scope) (p : Input) (a : Sentence) (q : Input) → (sentence parts scope).reads p ≡ Got a q → is_next begins_stmt p ≡ true → (scan : Scan) →
      Goes p.rest true scan q.rest true (unheaded false scan)
  unfolding sentence
  sentence-over scope p a q e begins scan =
      let s = then_got ((stmts parts max_nesting scope).reads p) _ a q e in
      goes-then p.rest s.1.rest q.rest true false true scan (unheaded false scan) (unheaded false scan)
      (over-begun (holding.stmts plain max_nesting scope) ((holding_laws.stmts lawful max_nesting scope).consumes refl) p s.0 s.1 begins s.2 scan)
      (end-over s.0 s.1 a q s.3 (unheaded false scan))

  -- ---- as many as there are

  step-law : (scope : Scope) (front : List Sentence) → laws.Law true (added (sentence parts scope) front)
  step-law scope front = laws.added front (paragraph_laws.sentence lawful scope)

  turns-over : (scope : Scope) (n : ℕ) (before : List Sentence) (p : Input) (a : List Sentence) (q : Input) → loop_reads (λ _. begins_stmt) (added (sentence parts scope)) n before p ≡ Got a q →
      (scan : Scan) → IsSettled scan → Goes p.rest true scan q.rest true scan
  unfolding loop_reads
  turns-over scope zero before p a q e scan settled =
      subst (λ r. Goes p.rest true scan r.rest true scan) (got_is before a p q e).1 (stays p.rest true scan)
  turns-over scope (suc n) before p a q e scan settled = turn (λ x r. turns-over scope n x r a q) (is_next begins_stmt p) refl e
    where
      turn : ((x : List Sentence) (r : Input) → loop_reads (λ _. begins_stmt) (added (sentence parts scope)) n x r ≡ Got a q → (scan : Scan) → IsSettled scan → Goes r.rest true scan q.rest true scan) →
          (b : Bool) → is_next begins_stmt p ≡ b →
          (if b then then_read ((added (sentence parts scope) before).reads p) (λ x r. loop_reads (λ _. begins_stmt) (added (sentence parts scope)) n x r) else Got before p) ≡ Got a q →
          Goes p.rest true scan q.rest true scan
      turn again true begins e =
          let s = then_got ((added (sentence parts scope) before).reads p) (λ x r. loop_reads (λ _. begins_stmt) (added (sentence parts scope)) n x r) a q e in
          let x = added-got (sentence parts scope) before p s.0 s.1 s.2 in
          goes-then p.rest s.1.rest q.rest true true true scan scan scan
          (subst (λ t. Goes p.rest true scan s.1.rest true t) settled (sentence-over scope p x.0 s.1 x.1 begins scan))
          (again s.0 s.1 s.3 scan settled)
      turn again false begins e = subst (λ r. Goes p.rest true scan r.rest true scan) (got_is before a p q e).1 (stays p.rest true scan)

  from-over : (scope : Scope) (before : List Sentence) (p : Input) (a : List Sentence) (q : Input) → (sentences_from parts scope before).reads p ≡ Got a q →
      (scan : Scan) → IsSettled scan → Goes p.rest true scan q.rest true scan
  from-over scope before p a q e scan settled = turns-over scope (length p.rest) before p a q e scan settled

  -- the first one adds a paragraph where one is awaited
  from-begun : (scope : Scope) (before : List Sentence) (p : Input) (a : List Sentence) (q : Input) → (sentences_from parts scope before).reads p ≡ Got a q → is_next begins_stmt p ≡ true →
      (scan : Scan) → Goes p.rest true scan q.rest true (unheaded false scan)
  from-begun scope before p a q e begins scan =
      let unrolled = loop-unrolls (λ _. begins_stmt) (added (sentence parts scope)) (λ x. (step-law scope x).lawful) (λ x. (step-law scope x).consumes refl) before p in
      let turn = sym (ap (λ b. if b then then_read ((added (sentence parts scope) before).reads p) (λ x r. (sentences_from parts scope x).reads r) else Got before p) begins) ∙ (sym unrolled ∙ e) in
      let s = then_got ((added (sentence parts scope) before).reads p) _ a q turn in
      let x = added-got (sentence parts scope) before p s.0 s.1 s.2 in
      goes-then p.rest s.1.rest q.rest true true true scan (unheaded false scan) (unheaded false scan)
      (sentence-over scope p x.0 s.1 x.1 begins scan)
      (from-over scope s.0 s.1 a q s.3 (unheaded false scan) refl)

  -- ---- EXIT first

  exit-over : (scope : Scope) (position : Position) (p : Input) (a : Sentence) (q : Input) → (exit_sentence parts scope position).reads p ≡ Got a q → (scan : Scan) → Goes p.rest false scan q.rest true scan
  unfolding exit_sentence
  exit-over scope position p a q e scan =
      let s = then_got ((exit_behind scope position).reads p) _ a q e in
      let t = then_got ((stmts_from parts (level parts max_nesting) scope (s.0 ∷ [], false)).reads s.1) _ a q s.3 in
      goes-then p.rest s.1.rest q.rest false false true scan scan scan (over (simple.exit_behind scope position) p s.0 s.1 s.2 scan)
      (goes-then s.1.rest t.1.rest q.rest false false true scan scan scan
      (over (makers.loop (holding.stmts_turn plain (holding.level plain max_nesting) scope)) s.1 t.0 t.1 t.2 scan)
      (end-over t.0 t.1 a q t.3 scan))

  exits-over : (scope : Scope) (position : Position) (p : Input) (a : List Sentence) (q : Input) → (exit_sentences parts scope position).reads p ≡ Got a q →
      (scan : Scan) → IsSettled scan → Goes p.rest false scan q.rest true scan
  unfolding exit_sentences
  exits-over scope position p a q e scan settled =
      let s = then_got ((exit_sentence parts scope position).reads p) _ a q e in
      goes-then p.rest s.1.rest q.rest false true true scan scan scan
      (exit-over scope position p s.0 s.1 s.2 scan)
      (from-over scope (s.0 ∷ []) s.1 a q s.3 scan settled)

  by-exit : (scope : Scope) (p : Input) (a : List Sentence) (q : Input) → (sentences_by_exit parts scope).reads p ≡ Got a q →
      (scan : Scan) → Goes p.rest true scan q.rest true (unheaded false scan)
  unfolding sentences_by_exit
  by-exit scope p a q e scan =
      let s = then_got ((key (codes "EXIT")).reads p) _ a q e in
      let t = sign-of (is_key (codes "EXIT")) p s.0 s.1 s.2 in
      goes-then p.rest s.1.rest q.rest true false true scan (unheaded false scan) (unheaded false scan)
      (subst (λ ts. Goes ts true scan s.1.rest false (unheaded false scan)) (sym t.1) (verb-first t.0 s.1.rest scan (verbs.exit t.0.kind t.2)))
      (go s.0 s.1 (where-got begins_exit_word (exit_sentences parts scope s.0) exit_alone s.1 a q s.3))
    where
      go : (position : Position) (mid : Input) → ((is_next begins_exit_word mid ≡ true) × ((exit_sentences parts scope position).reads mid ≡ Got a q)) ⊎ ((is_next begins_exit_word mid ≡ false) × (exit_alone.reads mid ≡ Got a q)) →
          Goes mid.rest false (unheaded false scan) q.rest true (unheaded false scan)
      go position mid (inl h) = exits-over scope position mid a q h.1 (unheaded false scan) refl
      go position mid (inr h) = alone-over mid a q h.1 (unheaded false scan)

  -- ---- the sentences of a paragraph

  -- they add a paragraph where one is awaited
  pub sentences-begun : (scope : Scope) (p : Input) (a : List Sentence) (q : Input) → (sentences parts scope).reads p ≡ Got a q → is_next begins_stmt p ≡ true →
      (scan : Scan) → Goes p.rest true scan q.rest true (unheaded false scan)
  unfolding sentences
  sentences-begun scope p a q e begins scan = go (where-got (is_key (codes "EXIT")) (sentences_by_exit parts scope) (sentences_from parts scope []) p a q e)
    where
      go : ((is_next (is_key (codes "EXIT")) p ≡ true) × ((sentences_by_exit parts scope).reads p ≡ Got a q)) ⊎ ((is_next (is_key (codes "EXIT")) p ≡ false) × ((sentences_from parts scope []).reads p ≡ Got a q)) →
          Goes p.rest true scan q.rest true (unheaded false scan)
      go (inl h) = by-exit scope p a q h.1 scan
      go (inr h) = from-begun scope [] p a q h.1 begins scan

  -- and none where none is
  pub sentences-over : (scope : Scope) (p : Input) (a : List Sentence) (q : Input) → (sentences parts scope).reads p ≡ Got a q →
      (scan : Scan) → IsSettled scan → Goes p.rest true scan q.rest true scan
  unfolding sentences
  sentences-over scope p a q e scan settled = go (where-got (is_key (codes "EXIT")) (sentences_by_exit parts scope) (sentences_from parts scope []) p a q e)
    where
      go : ((is_next (is_key (codes "EXIT")) p ≡ true) × ((sentences_by_exit parts scope).reads p ≡ Got a q)) ⊎ ((is_next (is_key (codes "EXIT")) p ≡ false) × ((sentences_from parts scope []).reads p ≡ Got a q)) →
          Goes p.rest true scan q.rest true scan
      go (inl h) = subst (λ s. Goes p.rest true scan q.rest true s) settled (by-exit scope p a q h.1 scan)
      go (inr h) = from-over scope [] p a q h.1 scan settled
