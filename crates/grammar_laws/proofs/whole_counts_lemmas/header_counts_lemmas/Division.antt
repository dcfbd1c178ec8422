-- Headers tell as many paragraphs as the grammar gives.
use Rattle.std.proofs.Common.{◌≡◌, ℕ, zero, suc, ◌+◌, Bool, true, false, if◌then◌else◌, ◌⊎◌, inl, inr, List, [], ◌∷◌, ◌++◌, length, Option, Some, None, refl, ap, sym, ◌∙◌, subst, length-append}
use Rattle.std.specs.Prelude.{codes, position}
use Rattle.std.specs.Str.{bytes_eq}
use Rattle.std.proofs.lemmas.Bool.{ne_eqb}
use Rattle.cob_tree.specs.declared.entry.Entry.{Entry}
use Rattle.cob_tree.specs.declared.program.Paragraph.{Paragraph}
use Rattle.cobol_lex.specs.declared.token.Token.{Token}
use Rattle.symbol_tables.specs.data_names.Names.{Names}
use Rattle.parser_combinators.specs.declared.note.Position.{Position}
use Rattle.parser_combinators.specs.Form.{Input, Got, Form, then_read, note, pure, refuse, where_next, loop_reads, is_next, next}
use Rattle.parser_combinators.specs.Form as form
use Rattle.parser_combinators.specs.Part.{is_key, key, period, ended}
use Rattle.parser_combinators.proofs.Lawful.{got_is, then_got}
use Rattle.symbol_tables.specs.declared.procedure_names.scan.Awaited.{Awaited}
use Rattle.symbol_tables.specs.declared.procedure_names.scan.Awaited.TheVariants as awaited
use Rattle.symbol_tables.specs.declared.procedure_names.scan.Scan.{Scan}
use Rattle.symbol_tables.specs.declared.procedure_names.table.Header.{Header}
use Rattle.symbol_tables.specs.declared.procedure_names.table.ProcedureTable.{ProcedureTable}
use Rattle.symbol_tables.specs.procedure_names.Procedures as procedures
use Rattle.symbol_tables.specs.procedure_names.Procedures.{scanned, unheaded, headed, whole_count, procedures_of}
use Rattle.cobol_grammar.specs.declared.stmt_forms.outline.Outline.{Outline}
use Rattle.cobol_grammar.specs.stmt_forms.Jump.{begins_procedure}
use Rattle.cobol_grammar.specs.stmt_forms.Paragraph as paragraphs
use Rattle.cobol_grammar.specs.stmt_forms.Paragraph.{with_pending, at_least_one, all_of, outline_of, scope_of, paragraph_of}
use Rattle.cobol_grammar.specs.stmt_forms.Verb.{begins_stmt}
use Rattle.cobol_grammar.specs.declared.expr_forms.side.Side.{Side}
use Rattle.cobol_grammar.specs.stmt_forms.Part.{Parts}
use Rattle.cobol_grammar.specs.declared.subject_kind.SubjectKind.{SubjectKind}
use Rattle.cobol_grammar.specs.Name as words
use Rattle.cobol_grammar.specs.Whole.{parts_of}
use Rattle.grammar_laws.proofs.no_periods_lemmas.Makers as makers
use Rattle.grammar_laws.proofs.whole_counts_lemmas.header_counts_lemmas.Taken.{value-of, sign-of, where-got, none-left, note-got}
use Rattle.grammar_laws.proofs.whole_counts_lemmas.header_counts_lemmas.Goes.{Goes, stays, goes-then, over, period-over, header-first, end-first, none-behind}
use Rattle.grammar_laws.proofs.whole_counts_lemmas.header_counts_lemmas.Sentences.{sentences-begun, sentences-over}

-- ---- what is found so far

-- as many paragraphs as there are, with the one of a section that has none yet and without it
record Ties (outline : Outline) (scan : Scan) : Type 0 where
  count : scan.found.count ≡ length outline.done
  whole : whole_count scan ≡ length (with_pending outline.pending outline.done)

named-count : (number : Option ℕ) (name : List ℕ) (header : Header) (table : ProcedureTable) → (procedures.named_by number name header table).count ≡ table.count
named-count (Some number) name header table = refl
named-count None name header table = refl

one-more : (list : List Paragraph) (x : Paragraph) → length (list ++ x ∷ []) ≡ length list + 1
one-more list x = length-append list (x ∷ [])

section-ties : (outline : Outline) (scan : Scan) (name : List ℕ) (in_section : Bool) (index : ℕ) → Ties outline scan →
    Ties (outline_of (with_pending outline.pending outline.done) (Some name) in_section) (procedures.section_headed name index scan)
section-ties outline scan name in_section index T =
    let count = named-count (position (bytes_eq name) scan.found.names) name (record { first = whole_count scan; section = Some (length scan.found.starts); index = index })
    (record scan.found { starts = scan.found.starts ++ whole_count scan ∷ []; count = whole_count scan }) ∙ T.whole in
    record {
      count = count;
      whole = ap (λ n. n + 1) count ∙ sym (one-more (with_pending outline.pending outline.done) (paragraph_of None (Some name) []));
    }

-- a section that has sentences, behind its header
filled-ties : (scan : Scan) (done : List Paragraph) (name : List ℕ) (pending : Bool) (next : Paragraph) → scan.awaited ≡ awaited.Section → Ties (outline_of done (Some name) pending) scan →
    Ties (outline_of (done ++ next ∷ []) None pending) (unheaded false scan)
filled-ties scan done name pending next is T = tied scan.awaited is
  where
    tied : (a : Awaited) → a ≡ awaited.Section → Ties (outline_of (done ++ next ∷ []) None pending) (record { found = procedures.with_sentences a scan.found; awaited = awaited.Nothing })
    tied awaited.Section e = let count = ap (λ n. n + 1) T.count ∙ sym (one-more done next) in record { count = count; whole = count }
    tied awaited.Division e = absurd cc
    tied awaited.Nothing e = absurd cc

paragraph-ties : (outline : Outline) (scan : Scan) (name : List ℕ) (next : Paragraph) (index : ℕ) → Ties outline scan →
    Ties (paragraphs.with_paragraph next outline) (procedures.paragraph_headed name index scan)
paragraph-ties outline scan name next index T =
    let count = named-count (position (bytes_eq name) scan.found.names) name (record { first = scan.found.count; section = None; index = index })
    (record scan.found { count = scan.found.count + 1 }) ∙ (ap (λ n. n + 1) T.count ∙ sym (one-more outline.done next)) in
    record { count = count; whole = count }

-- ---- over headers

-- the scan goes on so that what it has found is tied
abbrev Follows : Outline → List Token → Scan → Type 0
Follows outline rest all = (place : ℕ) × (next : Scan) × Ties outline next × (all ≡ scanned rest true place next)

then-follows : (mid last : Outline) (tokens rest : List Token) (all : Scan) → Follows mid tokens all →
    ((scan : Scan) → Ties mid scan → (index : ℕ) → Follows last rest (scanned tokens true index scan)) → Follows last rest all
then-follows mid last tokens rest all one more = let h = more one.1 one.2 one.0 in (h.0, h.1, h.2, one.3 ∙ h.3)

go-on : (outline : Outline) (tokens rest : List Token) (may : Bool) (index : ℕ) (scan next all : Scan) → Ties outline next → Goes tokens may scan rest true next →
    all ≡ scanned tokens may index scan → Follows outline rest all
go-on outline tokens rest may index scan next all T G is = let h = G index in (h.0, next, T, is ∙ h.1)

module _ (names : Names) (entries : List Entry) (table : ProcedureTable) where
  abbrev here : Parts Side SubjectKind
  here = parts_of names entries table

  -- what stands behind the header of a section
  section-over : (name : List ℕ) (state : Outline) (p : Input) (last : Outline) (q : Input) → (paragraphs.section here name state).reads p ≡ Got last q →
      (scan all : Scan) (index from : ℕ) → Ties state scan → all ≡ scanned p.rest false index (procedures.section_headed name from scan) → Follows last q.rest all
  unfolding paragraphs.section paragraphs.section_start
  section-over name state p last q e scan all index from T is =
      let s = then_got ((key (codes "SECTION")).reads p) _ last q e in
      let t = then_got (period.reads s.1) _ last q s.3 in
      let there = procedures.section_headed name from scan in
      let over_it = goes-then p.rest s.1.rest t.1.rest false false true there there there (over (makers.key (codes "SECTION")) p s.0 s.1 s.2 there) (period-over s.1 t.0 t.1 t.2 there) in
      rest t.1 over_it (where-got begins_stmt (paragraphs.section_start here name done) (pure (outline_of done (Some name) true)) t.1 last q t.3)
    where
      done : List Paragraph
      done = with_pending state.pending state.done

      rest : (mid : Input) → Goes p.rest false (procedures.section_headed name from scan) mid.rest true (procedures.section_headed name from scan) →
          ((is_next begins_stmt mid ≡ true) × ((paragraphs.section_start here name done).reads mid ≡ Got last q)) ⊎ ((is_next begins_stmt mid ≡ false) × (Got (outline_of done (Some name) true) mid ≡ Got last q)) →
          Follows last q.rest all
      rest mid G (inl h) =
          let there = procedures.section_headed name from scan in
          let s = then_got ((paragraphs.sentences here (scope_of true)).reads mid) _ last q h.1 in
          let g = got_is _ last s.1 q s.3 in
          let over_it = sentences-begun names entries table (scope_of true) mid s.0 s.1 s.2 h.0 there in
          let tied = filled-ties there done name true (paragraph_of None (Some name) s.0) refl (section-ties state scan name true from T) in
          go-on last p.rest q.rest false index there (unheaded false there) all (subst (λ o. Ties o (unheaded false there)) g.0 tied)
          (goes-then p.rest mid.rest q.rest false true true there there (unheaded false there) G (subst (λ r. Goes mid.rest true there r.rest true (unheaded false there)) g.1 over_it)) is
      rest mid G (inr h) =
          let there = procedures.section_headed name from scan in
          let g = got_is _ last mid q h.1 in
          go-on last p.rest q.rest false index there there all (subst (λ o. Ties o there) g.0 (section-ties state scan name true from T))
          (subst (λ r. Goes p.rest false there r.rest true there) g.1 G) is

  paragraph-over : (name : List ℕ) (state : Outline) (p : Input) (last : Outline) (q : Input) → (paragraphs.paragraph here name state).reads p ≡ Got last q →
      (scan all : Scan) (index from : ℕ) → Ties state scan → all ≡ scanned p.rest false index (procedures.paragraph_headed name from scan) → Follows last q.rest all
  unfolding paragraphs.paragraph
  paragraph-over name state p last q e scan all index from T is =
      let there = procedures.paragraph_headed name from scan in
      let s = then_got (period.reads p) _ last q e in
      let t = then_got ((paragraphs.sentences here (scope_of state.in_section)).reads s.1) _ last q s.3 in
      let g = got_is _ last t.1 q t.3 in
      let tied = paragraph-ties state scan name (paragraph_of (Some name) state.pending t.0) from T in
      go-on last p.rest q.rest false index there there all (subst (λ o. Ties o there) g.0 tied)
      (subst (λ r. Goes p.rest false there r.rest true there) g.1
      (goes-then p.rest s.1.rest t.1.rest false true true there there there (period-over p s.0 s.1 s.2 there) (sentences-over names entries table (scope_of state.in_section) s.1 t.0 t.1 t.2 there refl))) is

  headed-over : (state : Outline) (p : Input) (last : Outline) (q : Input) → (paragraphs.headed here state).reads p ≡ Got last q →
      (scan : Scan) → Ties state scan → (index : ℕ) → Follows last q.rest (scanned p.rest true index scan)
  unfolding paragraphs.headed words.header_name
  headed-over state p last q e scan T index =
      let s = then_got (words.header_name.reads p) _ last q e in
      let t = value-of procedures.header_name p s.0 s.1 s.2 in
      noted s.0 s.1 t.0 t.1 t.2 s.3
    where
      behind : (t : Token) (name : List ℕ) (mid : Input) → p.rest ≡ t ∷ mid.rest → procedures.header_name t.kind ≡ Some name →
          ((is_next (is_key (codes "SECTION")) mid ≡ true) × ((paragraphs.section here name state).reads mid ≡ Got last q)) ⊎ ((is_next (is_key (codes "SECTION")) mid ≡ false) × ((paragraphs.paragraph here name state).reads mid ≡ Got last q)) →
          Follows last q.rest (scanned p.rest true index scan)
      behind t name mid is n (inl h) =
          section-over name state mid last q h.1 scan (scanned p.rest true index scan) (index + 1) index T
          (ap (λ ts. scanned ts true index scan) is ∙ header-first t mid.rest name true n h.0 index scan)
      behind t name mid is n (inr h) =
          paragraph-over name state mid last q h.1 scan (scanned p.rest true index scan) (index + 1) index T
          (ap (λ ts. scanned ts true index scan) is ∙ header-first t mid.rest name false n h.0 index scan)

      noted : (name : List ℕ × Position) (mid : Input) (t : Token) → p.rest ≡ t ∷ mid.rest → procedures.header_name t.kind ≡ Some name.0 →
          (form.◌>>◌ (note (here.duplicate_fault name.0 name.1)) (where_next (is_key (codes "SECTION")) (paragraphs.section here name.0 state) (paragraphs.paragraph here name.0 state))).reads mid ≡ Got last q →
          Follows last q.rest (scanned p.rest true index scan)
      noted name mid t is n e =
          let parts = where_next (is_key (codes "SECTION")) (paragraphs.section here name.0 state) (paragraphs.paragraph here name.0 state) in
          let u = then_got ((note (here.duplicate_fault name.0 name.1)).reads mid) (λ _ r. parts.reads r) last q e in
          let same = note-got (here.duplicate_fault name.0 name.1) mid u.0 u.1 u.2 in
          behind t name.0 u.1 (is ∙ ap (λ r. t ∷ r) (sym same)) n
          (where-got (is_key (codes "SECTION")) (paragraphs.section here name.0 state) (paragraphs.paragraph here name.0 state) u.1 last q u.3)

  all-headed : (n : ℕ) (state : Outline) (p : Input) (last : Outline) (q : Input) → loop_reads (λ _. begins_procedure here) (paragraphs.headed here) n state p ≡ Got last q →
      (scan : Scan) → Ties state scan → (index : ℕ) → Follows last q.rest (scanned p.rest true index scan)
  unfolding loop_reads
  all-headed zero state p last q e scan T index = let g = got_is state last p q e in (index, scan, subst (λ o. Ties o scan) g.0 T, ap (λ r. scanned r.rest true index scan) g.1)
  all-headed (suc n) state p last q e scan T index = turn (λ x r. all-headed n x r last q) (is_next (begins_procedure here) p) e
    where
      turn : ((x : Outline) (r : Input) → loop_reads (λ _. begins_procedure here) (paragraphs.headed here) n x r ≡ Got last q → (scan : Scan) → Ties x scan → (index : ℕ) → Follows last q.rest (scanned r.rest true index scan)) →
          (b : Bool) →
          (if b then then_read ((paragraphs.headed here state).reads p) (λ x r. loop_reads (λ _. begins_procedure here) (paragraphs.headed here) n x r) else Got state p) ≡ Got last q →
          Follows last q.rest (scanned p.rest true index scan)
      turn again true e =
          let s = then_got ((paragraphs.headed here state).reads p) (λ x r. loop_reads (λ _. begins_procedure here) (paragraphs.headed here) n x r) last q e in
          then-follows s.0 last s.1.rest q.rest (scanned p.rest true index scan) (headed-over state p s.0 s.1 s.2 scan T index) (again s.0 s.1 s.3)
      turn again false e = let g = got_is state last p q e in (index, scan, subst (λ o. Ties o scan) g.0 T, ap (λ r. scanned r.rest true index scan) g.1)

  -- ---- the sentences before the first header

  start-over : (p : Input) (first : Outline) (q : Input) → (paragraphs.start here).reads p ≡ Got first q → (index : ℕ) → Follows first q.rest (scanned p.rest true index procedures.start)
  unfolding paragraphs.start paragraphs.unnamed_start
  start-over p first q e index = go (where-got begins_stmt (paragraphs.unnamed_start here) (pure (outline_of [] None false)) p first q e)
    where
      go : ((is_next begins_stmt p ≡ true) × ((paragraphs.unnamed_start here).reads p ≡ Got first q)) ⊎ ((is_next begins_stmt p ≡ false) × (Got (outline_of [] None false) p ≡ Got first q)) →
          Follows first q.rest (scanned p.rest true index procedures.start)
      go (inl h) =
          let s = then_got ((paragraphs.sentences here (scope_of false)).reads p) _ first q h.1 in
          let g = got_is _ first s.1 q s.3 in
          let over_it = sentences-begun names entries table (scope_of false) p s.0 s.1 s.2 h.0 procedures.start in
          let tied : Ties (outline_of (paragraph_of None None s.0 ∷ []) None false) (unheaded false procedures.start) = record { count = refl; whole = refl } in
          go-on first p.rest q.rest true index procedures.start (unheaded false procedures.start) (scanned p.rest true index procedures.start)
          (subst (λ o. Ties o (unheaded false procedures.start)) g.0 tied)
          (subst (λ r. Goes p.rest true procedures.start r.rest true (unheaded false procedures.start)) g.1 over_it) refl
      go (inr h) =
          let g = got_is _ first p q h.1 in
          let tied : Ties (outline_of [] None false) procedures.start = record { count = refl; whole = refl } in
          (index, procedures.start, subst (λ o. Ties o procedures.start) g.0 tied, ap (λ r. scanned r.rest true index procedures.start) g.1)

  -- ---- END PROGRAM, and the end

  program-over : (p : Input) (a : Unit {0}) (q : Input) → (paragraphs.end_program here).reads p ≡ Got a q → (scan : Scan) → Goes p.rest true scan q.rest true scan
  unfolding paragraphs.end_program paragraphs.program_name
  program-over p a q e scan =
      let s = then_got ((key (codes "END")).reads p) _ a q e in
      let t = then_got ((key (codes "PROGRAM")).reads s.1) _ a q s.3 in
      let u = then_got ((paragraphs.program_name here).reads t.1) _ a q t.3 in
      let v = then_got (period.reads u.1) _ a q u.3 in
      let first = sign-of (is_key (codes "END")) p s.0 s.1 s.2 in
      subst (λ r. Goes p.rest true scan r.rest true scan) (got_is tt a v.1 q v.3).1
      (goes-then p.rest s.1.rest v.1.rest true false true scan scan scan
      (subst (λ ts. Goes ts true scan s.1.rest false scan) (sym first.1) (end-first first.0 s.1.rest scan first.2))
      (goes-then s.1.rest t.1.rest v.1.rest false false true scan scan scan (over (makers.key (codes "PROGRAM")) s.1 t.0 t.1 t.2 scan)
      (goes-then t.1.rest u.1.rest v.1.rest false false true scan scan scan
      (over (makers.where_next (makers.◌>>◌ makers.word makers.pure) makers.refuse) t.1 u.0 u.1 u.2 scan)
      (period-over u.1 v.0 v.1 v.2 scan))))

  end-over : (p : Input) (a : Unit {0}) (q : Input) → (paragraphs.end_part here).reads p ≡ Got a q → (scan : Scan) → Goes p.rest true scan q.rest true scan
  unfolding paragraphs.end_part
  end-over p a q e scan = go (where-got (is_key (codes "END")) (paragraphs.end_program here) (pure tt) p a q e)
    where
      go : ((is_next (is_key (codes "END")) p ≡ true) × ((paragraphs.end_program here).reads p ≡ Got a q)) ⊎ ((is_next (is_key (codes "END")) p ≡ false) × (Got tt p ≡ Got a q)) →
          Goes p.rest true scan q.rest true scan
      go (inl h) = program-over p a q h.1 scan
      go (inr h) = subst (λ r. Goes p.rest true scan r.rest true scan) (got_is tt a p q h.1).1 (stays p.rest true scan)

  -- ---- the division

  some-one : (list : List Paragraph) → procedures.at_least_one (length list) ≡ length (at_least_one list)
  some-one [] = refl
  some-one (x ∷ list) = ap (λ b. if b then 1 else length (x ∷ list)) (ne_eqb (length (x ∷ list)) 0 (λ e. absurd cc))

  closed-count : (state : Outline) (scan : Scan) → Ties state scan → (procedures.closed scan).count ≡ length (all_of state)
  closed-count state scan T = ap procedures.at_least_one T.whole ∙ some-one (with_pending state.pending state.done)

  -- all headers are behind, and nothing but END PROGRAM is left
  ended-count : (state : Outline) (p mid : Input) (a : Unit {0}) (all : Scan) → Follows state p.rest all → (paragraphs.end_part here).reads p ≡ Got a mid → mid.rest ≡ [] →
      (procedures.closed all).count ≡ length (all_of state)
  ended-count state p mid a all F e none =
      let behind = end-over p a mid e F.1 F.0 in
      let done : all ≡ F.1 = F.3 ∙ (behind.1 ∙ none-behind mid.rest true behind.0 F.1 none) in
      ap (λ scan. (procedures.closed scan).count) done ∙ closed-count state F.1 F.2

  all-over : (p : Input) (found : List Paragraph) (q : Input) (from : ℕ) → (paragraphs.paragraphs here).reads p ≡ Got found q →
      (state : Outline) × (all_of state ≡ found) × Follows state q.rest (scanned p.rest true from procedures.start)
  unfolding paragraphs.paragraphs
  all-over p found q from e =
      let s = then_got ((paragraphs.start here).reads p) _ found q e in
      let t = then_got ((paragraphs.headed_from here s.0).reads s.1) _ found q s.3 in
      let g = got_is _ found t.1 q t.3 in
      let follows = then-follows s.0 t.0 s.1.rest t.1.rest (scanned p.rest true from procedures.start) (start-over p s.0 s.1 s.2 from) (all-headed (length s.1.rest) s.0 s.1 t.0 t.1 t.2) in
      (t.0, g.0, subst (λ r. Follows t.0 r.rest (scanned p.rest true from procedures.start)) g.1 follows)

  pub counted-are-read : (p : Input) (found : List Paragraph) (q : Input) (from : ℕ) → (paragraphs.division here).reads p ≡ Got found q → (procedures_of p.rest from).count ≡ length found
  unfolding paragraphs.division
  counted-are-read p found q from e =
      let s = then_got ((paragraphs.paragraphs here).reads p) _ found q e in
      let t = then_got ((paragraphs.end_part here).reads s.1) _ found q s.3 in
      let u = then_got (ended.reads t.1) _ found q t.3 in
      let all = all-over p s.0 s.1 from s.2 in
      ended-count all.0 s.1 t.1 t.0 (scanned p.rest true from procedures.start) all.2 t.2 (none-left t.1 u.0 u.1 u.2)
      ∙ ap length (all.1 ∙ (got_is s.0 found u.1 q u.3).0)
