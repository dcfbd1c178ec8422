-- The headers of a source tell what the paragraphs that are read of it tell themselves, but for
-- places; where no fault is noted, no name stands twice.
use Rattle.std.proofs.Common.{◌≡◌, ℕ, zero, suc, ◌+◌, ◌<◌, Bool, true, false, if◌then◌else◌, ◌⊎◌, inl, inr, List, [], ◌∷◌, ◌++◌, length, Option, Some, None, slice_get, refl, ap, sym, ◌∙◌, subst, length-append, append_assoc, append-nil, arith}
use Rattle.std.specs.Prelude.{codes, position}
use Rattle.std.specs.List.{list_any}
use Rattle.std.specs.Str.{bytes_eq}
use Rattle.cob_tree.specs.declared.entry.Entry.{Entry}
use Rattle.cob_tree.specs.declared.program.Paragraph.{Paragraph}
use Rattle.cob_tree.specs.declared.program.Sentence.{Sentence}
use Rattle.cobol_lex.specs.declared.token.Token.{Token}
use Rattle.symbol_tables.specs.data_names.Names.{Names}
use Rattle.parser_combinators.specs.declared.note.Position.{Position}
use Rattle.parser_combinators.specs.Form.{Input, Got, Form, then_read, note, pure, refuse, where_next, loop_reads, is_next, next}
use Rattle.parser_combinators.specs.Form as form
use Rattle.parser_combinators.specs.Part.{is_key, key, period, ended}
use Rattle.parser_combinators.proofs.Lawful.{got_is, then_got}
use Rattle.parser_combinators.proofs.MakerLaws as maker_laws
use Rattle.program_facts.specs.well_scoped.Part.{is_filled}
use Rattle.symbol_tables.specs.declared.procedure_names.scan.Awaited.{Awaited}
use Rattle.symbol_tables.specs.declared.procedure_names.scan.Awaited.TheVariants as awaited
use Rattle.symbol_tables.specs.declared.procedure_names.scan.Scan.{Scan}
use Rattle.symbol_tables.specs.declared.procedure_names.table.Header.{Header}
use Rattle.symbol_tables.specs.declared.procedure_names.table.ProcedureTable.{ProcedureTable}
use Rattle.symbol_tables.specs.procedure_names.Procedures as procedures
use Rattle.symbol_tables.specs.procedure_names.Procedures.{scanned, unheaded, headed, whole_count, closed, procedures_of, duplicate_fault, header_of}
use Rattle.cobol_grammar.specs.declared.stmt_forms.outline.Outline.{Outline}
use Rattle.cobol_grammar.specs.stmt_forms.Jump.{begins_procedure}
use Rattle.cobol_grammar.specs.stmt_forms.Paragraph as paragraphs
use Rattle.cobol_grammar.specs.stmt_forms.Paragraph.{with_pending, at_least_one, all_of, outline_of, scope_of, paragraph_of}
use Rattle.cobol_grammar.specs.stmt_forms.Verb.{begins_stmt}
use Rattle.cobol_grammar.specs.stmt_forms.Laws.{PartsAreLawful}
use Rattle.cobol_grammar.proofs.stmt_forms_lemmas.ParagraphLaws as paragraph_laws
use Rattle.cobol_grammar.specs.declared.expr_forms.side.Side.{Side}
use Rattle.cobol_grammar.specs.stmt_forms.Part.{Parts}
use Rattle.cobol_grammar.specs.declared.subject_kind.SubjectKind.{SubjectKind}
use Rattle.cobol_grammar.specs.Name as words
use Rattle.cobol_grammar.specs.Whole.{parts_of}
use Rattle.cobol_grammar.proofs.PartLaws as part_laws
use Rattle.grammar_laws.proofs.no_periods_lemmas.Plainly as plainly
use Rattle.grammar_laws.proofs.no_periods_lemmas.Makers as makers
use Rattle.round_trip.specs.spelling.stmt_spelling.Division.{is_bare_by}
use Rattle.round_trip.specs.procedures.Names.{own_name, header_names, AreDifferent}
use Rattle.round_trip.specs.procedures.Outline.{MayFollow, is_bare, AreHeaded, AreOutlined}
use Rattle.round_trip.specs.procedures.Own.{IsReadWith, without_indices}
use Rattle.round_trip.specs.procedures.Told.{section_told}
use Rattle.round_trip.proofs.procedures_lemmas.Clean.{clean, neither}
use Rattle.round_trip.proofs.procedures_lemmas.Finding.{with-new, different-more}
use Rattle.round_trip.proofs.procedures_lemmas.Growth.{Grows, scan-grows, Below, header-new}
use Rattle.round_trip.proofs.procedures_lemmas.Plainly.{plain, paragraphs_plain, plain-append, section-plain, paragraph-plain, unheaded-plain, own-plain, named-settled}
use Rattle.round_trip.proofs.procedures_lemmas.Taken.{value-of, sign-of, where-got, none-left, note-is}
use Rattle.round_trip.proofs.procedures_lemmas.Goes.{Goes, stays, goes-then, over, period-over, header-first, end-first, none-behind}
use Rattle.round_trip.proofs.procedures_lemmas.Sentences.{sentences-begun, sentences-over, sentences-filled}

-- ---- the outline of what is read

-- whatever paragraphs with headers follow, where one may follow a bare section
abbrev LaidTo : List Paragraph → Bool → Type 0
LaidTo done bare = (more : List Paragraph) → AreHeaded bare more → is_filled (done ++ more) ≡ true → AreOutlined (done ++ more)

headed-first : (name section : Option (List ℕ)) (found : List Sentence) (more : List Paragraph) → AreHeaded false (paragraph_of name section found ∷ more) → AreOutlined (paragraph_of name section found ∷ more)
headed-first None None found more a = absurd a.0
headed-first (Some name) None found more a = a
headed-first None (Some section) found more a = a
headed-first (Some name) (Some section) found more a = a

none-laid : LaidTo [] false
none-laid [] a f = absurd cc
none-laid (p ∷ more) a f = headed-first p.name p.section p.sentences more a

filled-behind : (done : List Paragraph) (p : Paragraph) (more : List Paragraph) → is_filled (done ++ p ∷ more) ≡ true
filled-behind [] p more = refl
filled-behind (q ∷ done) p more = refl

laid-more : (done : List Paragraph) (bare : Bool) → LaidTo done bare → (p : Paragraph) → MayFollow bare p.name p.section → LaidTo (done ++ p ∷ []) (is_bare p)
laid-more done bare L p f more a filled =
    subst AreOutlined (sym (append_assoc done (p ∷ []) more)) (L (p ∷ more) (f, a) (filled-behind done p more))

record Laid (outline : Outline) : Type 0 where
  bare : Bool
  laid : LaidTo outline.done bare
  settled : outline.pending ≡ None → bare ≡ false

none-apart : {A : Type 0} {x : A} {C : Type 0} → Some x ≡ None → C
none-apart e = absurd cc

-- ---- what is found so far

own-append : (list more : List Paragraph) → header_names (list ++ more) ≡ header_names list ++ header_names more
own-append [] more = refl
own-append (p ∷ list) more =
    ap (λ l. own_name p.section ++ (own_name p.name ++ l)) (own-append list more)
    ∙ (ap (λ l. own_name p.section ++ l) (sym (append_assoc (own_name p.name) (header_names list) (header_names more)))
    ∙ sym (append_assoc (own_name p.section) (own_name p.name ++ header_names list) (header_names more)))

abbrev begun : Outline → Scan
begun outline = section_told outline.pending 0 (paragraphs_plain outline.done procedures.start)

record Core (outline : Outline) (scan : Scan) : Type 0 where
  told : plain scan ≡ begun outline
  names : scan.found.names ≡ header_names outline.done ++ own_name outline.pending
  different : AreDifferent scan.found.names
  paired : length scan.found.headers ≡ length scan.found.names
  laid : Laid outline

-- with a section that has no paragraph
pending-told : (pending : Option (List ℕ)) (done : List Paragraph) → section_told pending 0 (paragraphs_plain done procedures.start) ≡ paragraphs_plain (with_pending pending done) procedures.start
pending-told None done = refl
pending-told (Some section) done = sym (plain-append done (paragraph_of None (Some section) [] ∷ []) procedures.start)

pending-names : (pending : Option (List ℕ)) (done : List Paragraph) → header_names done ++ own_name pending ≡ header_names (with_pending pending done)
pending-names None done = append-nil (header_names done)
pending-names (Some section) done = sym (own-append done (paragraph_of None (Some section) [] ∷ []))

pending-laid : (pending : Option (List ℕ)) (done : List Paragraph) (in_section : Bool) → Laid (outline_of done pending in_section) → (bare : Bool) × LaidTo (with_pending pending done) bare
pending-laid None done in_section L = (L.bare, L.laid)
pending-laid (Some section) done in_section L = (true, laid-more done L.bare L.laid (paragraph_of None (Some section) []) tt)

-- one more of each
push : {A : Type 0} (list : List A) (x : A) → length (list ++ x ∷ []) ≡ length list + 1
push list x = length-append list (x ∷ [])

module _ (name : List ℕ) (header : Header) (table : ProcedureTable) (new : list_any (bytes_eq name) table.names ≡ false) where
  named-names : (procedures.with_name name header table).names ≡ table.names ++ name ∷ []
  named-names = ap (λ t. t.names) (with-new name header table new)

  named-headers : (procedures.with_name name header table).headers ≡ table.headers ++ header ∷ []
  named-headers = ap (λ t. t.headers) (with-new name header table new)

  named-different : AreDifferent table.names → AreDifferent (procedures.with_name name header table).names
  named-different d = subst AreDifferent (sym named-names) (different-more table.names name d new)

  named-paired : length table.headers ≡ length table.names → length (procedures.with_name name header table).headers ≡ length (procedures.with_name name header table).names
  named-paired e = ap length named-headers ∙ (push table.headers header ∙ (ap (λ n. n + 1) e ∙ (sym (push table.names name) ∙ ap length (sym named-names))))

  named-below : (place : ℕ) → header.index ≡ place → Below table.headers place → Below (procedures.with_name name header table).headers (place + 1)
  named-below place e below k found is = by-place (get-push table.headers header k found (ap (λ l. slice_get l k) (sym named-headers) ∙ is))
    where
      get-push : {X : Type 0} (xs : List X) (x : X) (k : ℕ) (found : X) → slice_get (xs ++ x ∷ []) k ≡ Some found → (slice_get xs k ≡ Some found) ⊎ (x ≡ found)
      get-push [] x zero found is = inr (let e : x ≡ found = cc in e)
      get-push [] x (suc k) found is = absurd cc
      get-push (y ∷ xs) x zero found is = inl is
      get-push (y ∷ xs) x (suc k) found is = get-push xs x k found is

      by-place : (slice_get table.headers k ≡ Some found) ⊎ (header ≡ found) → found.index < place + 1
      by-place (inl there) = let less = below k found there in omega (arith, less)
      by-place (inr last) = let at : header.index ≡ found.index = ap (λ h. h.index) last in omega (arith, at, e)

-- ---- sections

section-core : (outline : Outline) (scan : Scan) → Core outline scan → (name : List ℕ) → list_any (bytes_eq name) scan.found.names ≡ false → (in_section : Bool) (index : ℕ) →
    Core (outline_of (with_pending outline.pending outline.done) (Some name) in_section) (procedures.section_headed name index scan)
section-core outline scan C name new in_section index =
    let header : Header = record { first = whole_count scan; section = Some (length scan.found.starts); index = index } in
    let table : ProcedureTable = record scan.found { starts = scan.found.starts ++ whole_count scan ∷ []; count = whole_count scan } in
    let L = pending-laid outline.pending outline.done outline.in_section C.laid in
    record {
      told = section-plain name index scan ∙ ap (procedures.section_headed name 0) (C.told ∙ pending-told outline.pending outline.done);
      names = named-names name header table new ∙ ap (λ l. l ++ name ∷ []) (C.names ∙ pending-names outline.pending outline.done);
      different = named-different name header table new C.different;
      paired = named-paired name header table new C.paired;
      laid = record { bare = L.0; laid = L.1; settled = λ e. none-apart e };
    }

-- sentences before the first name of a section
filled-core : (done : List Paragraph) (name : List ℕ) (in_section : Bool) (scan : Scan) → Core (outline_of done (Some name) in_section) scan → (found : List Sentence) → is_filled found ≡ true →
    Core (outline_of (done ++ paragraph_of None (Some name) found ∷ []) None in_section) (unheaded false scan)
filled-core done name in_section scan C [] f = absurd cc
filled-core done name in_section scan C (s ∷ found) f =
    let next = paragraph_of None (Some name) (s ∷ found) in
    record {
      told = unheaded-plain scan ∙ (ap (unheaded false) C.told ∙ sym (plain-append done (next ∷ []) procedures.start));
      names = same-names scan.awaited ∙ (C.names ∙ (sym (own-append done (next ∷ [])) ∙ sym (append-nil (header_names (done ++ next ∷ [])))));
      different = subst AreDifferent (sym (same-names scan.awaited)) C.different;
      paired = ap length (same-headers scan.awaited) ∙ (C.paired ∙ ap length (sym (same-names scan.awaited)));
      laid = record { bare = false; laid = laid-more done C.laid.bare C.laid.laid next tt; settled = λ e. refl };
    }
  where
    same-names : (a : Awaited) → (procedures.with_sentences a scan.found).names ≡ scan.found.names
    same-names awaited.Division = refl
    same-names awaited.Section = refl
    same-names awaited.Nothing = refl

    same-headers : (a : Awaited) → (procedures.with_sentences a scan.found).headers ≡ scan.found.headers
    same-headers awaited.Division = refl
    same-headers awaited.Section = refl
    same-headers awaited.Nothing = refl

unheaded-headers : (scan : Scan) → (unheaded false scan).found.headers ≡ scan.found.headers
unheaded-headers scan = go scan.awaited
  where
    go : (a : Awaited) → (procedures.with_sentences a scan.found).headers ≡ scan.found.headers
    go awaited.Division = refl
    go awaited.Section = refl
    go awaited.Nothing = refl

-- ---- paragraphs

name-follows : (bare : Bool) (name : List ℕ) (pending : Option (List ℕ)) → (pending ≡ None → bare ≡ false) → MayFollow bare (Some name) pending
name-follows bare name None h = h refl
name-follows bare name (Some section) h = tt

name-not-bare : (name : List ℕ) (pending : Option (List ℕ)) (found : List Sentence) → is_bare_by (Some name) pending found ≡ false
name-not-bare name None found = refl
name-not-bare name (Some section) found = refl

paragraph-core : (outline : Outline) (scan : Scan) → Core outline scan → (name : List ℕ) → list_any (bytes_eq name) scan.found.names ≡ false → (found : List Sentence) (index : ℕ) →
    Core (paragraphs.with_paragraph (paragraph_of (Some name) outline.pending found) outline) (procedures.paragraph_headed name index scan)
paragraph-core outline scan C name new found index =
    let next = paragraph_of (Some name) outline.pending found in
    let header : Header = record { first = scan.found.count; section = None; index = index } in
    let table : ProcedureTable = record scan.found { count = scan.found.count + 1 } in
    record {
      told = paragraph-plain name index scan ∙ (ap (procedures.paragraph_headed name 0) C.told
          ∙ (sym (named-settled found name 0 (begun outline)) ∙ sym (plain-append outline.done (next ∷ []) procedures.start)));
      names = named-names name header table new ∙ (ap (λ l. l ++ name ∷ []) C.names ∙ (append_assoc (header_names outline.done) (own_name outline.pending) (name ∷ [])
          ∙ (sym (own-append outline.done (next ∷ [])) ∙ sym (append-nil (header_names (outline.done ++ next ∷ []))))));
      different = named-different name header table new C.different;
      paired = named-paired name header table new C.paired;
      laid = record {
        bare = is_bare next;
        laid = laid-more outline.done C.laid.bare C.laid.laid next (name-follows C.laid.bare name outline.pending C.laid.settled);
        settled = λ e. name-not-bare name outline.pending found;
      };
    }

-- ---- over headers

-- the scan goes on so that what it has found is what was read
record IsReadTo (outline : Outline) (q : Input) (all : Scan) : Type 0 where
  next : Scan
  core : Core outline next
  below : Below next.found.headers q.taken
  is : all ≡ scanned q.rest true q.taken next

below-more : (headers : List Header) (m n : ℕ) → m < n + 1 → Below headers m → Below headers n
below-more headers m n less below k header is = let at = below k header is in omega (arith, at, less)

module _ (names : Names) (entries : List Entry) (table : ProcedureTable) (all : Scan) (whole : table ≡ closed all) where
  abbrev here : Parts Side SubjectKind
  here = parts_of names entries table

  abbrev lawful : PartsAreLawful here
  lawful = part_laws.parts names entries table

  -- what stands behind a header, up to the next one
  record Behind (p : Input) (scan : Scan) (last : Outline) (q : Input) (next : Scan) : Type 0 where
    goes : Goes p.rest false scan q.rest true next
    core : Core last next
    headers : next.found.headers ≡ scan.found.headers

  section-over : (name : List ℕ) (state : Outline) (p : Input) (last : Outline) (q : Input) → (paragraphs.section here name state).reads p ≡ Got last q →
      (scan : Scan) (from : ℕ) → Core state scan → list_any (bytes_eq name) scan.found.names ≡ false →
      (next : Scan) × Behind p (procedures.section_headed name from scan) last q next
  unfolding paragraphs.section paragraphs.section_start
  section-over name state p last q e scan from C new =
      let s = then_got ((key (codes "SECTION")).reads p) _ last q e in
      let t = then_got (period.reads s.1) _ last q s.3 in
      rest t.1 (goes-then p.rest s.1.rest t.1.rest false false true there there there (over (makers.key (codes "SECTION")) p s.0 s.1 s.2 there) (period-over s.1 t.0 t.1 t.2 there))
      (where-got begins_stmt (paragraphs.section_start here name done) (pure (outline_of done (Some name) true)) t.1 last q t.3)
    where
      there : Scan
      there = procedures.section_headed name from scan

      done : List Paragraph
      done = with_pending state.pending state.done

      begun_core : Core (outline_of done (Some name) true) there
      begun_core = section-core state scan C name new true from

      rest : (mid : Input) → Goes p.rest false there mid.rest true there →
          ((is_next begins_stmt mid ≡ true) × ((paragraphs.section_start here name done).reads mid ≡ Got last q)) ⊎ ((is_next begins_stmt mid ≡ false) × (Got (outline_of done (Some name) true) mid ≡ Got last q)) →
          (next : Scan) × Behind p there last q next
      rest mid G (inl h) =
          let s = then_got ((paragraphs.sentences here (scope_of true)).reads mid) _ last q h.1 in
          let g = got_is _ last s.1 q s.3 in
          let over_it = sentences-begun (parts_of names entries table) (part_laws.parts names entries table) (plainly.parts names entries table) (scope_of true) mid s.0 s.1 s.2 h.0 there in
          let filled = sentences-filled (parts_of names entries table) (part_laws.parts names entries table) (plainly.parts names entries table) (scope_of true) mid s.0 s.1 s.2 h.0 in (
            unheaded false there,
            record {
              goes = goes-then p.rest mid.rest q.rest false true true there there (unheaded false there) G (subst (λ r. Goes mid.rest true there r.rest true (unheaded false there)) g.1 over_it);
              core = subst (λ o. Core o (unheaded false there)) g.0 (filled-core done name true there begun_core s.0 filled);
              headers = unheaded-headers there;
            },
          )
      rest mid G (inr h) =
          let g = got_is _ last mid q h.1 in (
            there,
            record {
              goes = subst (λ r. Goes p.rest false there r.rest true there) g.1 G;
              core = subst (λ o. Core o there) g.0 begun_core;
              headers = refl;
            },
          )

  paragraph-over : (name : List ℕ) (state : Outline) (p : Input) (last : Outline) (q : Input) → (paragraphs.paragraph here name state).reads p ≡ Got last q →
      (scan : Scan) (from : ℕ) → Core state scan → list_any (bytes_eq name) scan.found.names ≡ false →
      (next : Scan) × Behind p (procedures.paragraph_headed name from scan) last q next
  unfolding paragraphs.paragraph
  paragraph-over name state p last q e scan from C new =
      let there = procedures.paragraph_headed name from scan in
      let s = then_got (period.reads p) _ last q e in
      let t = then_got ((paragraphs.sentences here (scope_of state.in_section)).reads s.1) _ last q s.3 in
      let g = got_is _ last t.1 q t.3 in (
        there,
        record {
          goes = subst (λ r. Goes p.rest false there r.rest true there) g.1
              (goes-then p.rest s.1.rest t.1.rest false true true there there there (period-over p s.0 s.1 s.2 there) (sentences-over (parts_of names entries table) (part_laws.parts names entries table) (plainly.parts names entries table) (scope_of state.in_section) s.1 t.0 t.1 t.2 there refl));
          core = subst (λ o. Core o there) g.0 (paragraph-core state scan C name new t.0 from);
          headers = refl;
        },
      )

  -- the name of a header that is the first with it
  new-here : (tokens : List Token) (scan : Scan) (place : ℕ) (name : List ℕ) (position : Position) → all ≡ scanned tokens true place scan → length scan.found.headers ≡ length scan.found.names → Below scan.found.headers place →
      position.index ≡ place → duplicate_fault (header_of table name) position ≡ None → list_any (bytes_eq name) scan.found.names ≡ false
  new-here tokens scan place name position is paired below at e =
      let grown : Grows scan.found all.found = subst (λ (s : Scan). Grows scan.found s.found) (sym is) (scan-grows tokens true place scan) in
      let in_table : Grows scan.found table = record {
        new_names = grown.new_names;
        names = ap (λ t. t.names) whole ∙ grown.names;
        new_headers = grown.new_headers;
        headers = ap (λ t. t.headers) whole ∙ grown.headers;
      } in
      header-new table scan name position in_table paired (subst (Below scan.found.headers) (sym at) below) e

  headed-over : (state : Outline) (p : Input) (last : Outline) (q : Input) → (paragraphs.headed here state).reads p ≡ Got last q → q.fault ≡ None →
      (F : IsReadTo state p all) → IsReadTo last q all
  unfolding paragraphs.headed words.header_name
  headed-over state p last q e none F =
      let s = then_got (words.header_name.reads p) _ last q e in
      let t = value-of procedures.header_name p s.0 s.1 s.2 in
      noted s.0 s.1 t.0 t.1 t.2 t.3 s.3
    where
      L : maker_laws.Law true (paragraphs.headed here state)
      L = paragraph_laws.headed lawful state

      -- where the scan stands behind it
      placed : (t : Token) (mid : Input) (scan next : Scan) → p.rest ≡ t ∷ mid.rest → scanned p.rest true p.taken F.next ≡ scanned mid.rest false (p.taken + 1) scan →
          Behind mid scan last q next → Below scan.found.headers (p.taken + 1) → IsReadTo last q all
      placed t mid scan next is began B below =
          let g = B.goes (p.taken + 1) in
          let counted = L.lawful.counted p last q e in
          let shorter = (L.consumes refl).less p last q e in
          let many : length p.rest ≡ length (t ∷ mid.rest) = ap length is in
          let place : g.0 ≡ q.taken = omega (arith, g.1, counted, many) in
          let later : p.taken + 1 < q.taken + 1 = omega (arith, counted, shorter) in
          record {
            next = next;
            core = B.core;
            below = subst (λ l. Below l q.taken) (sym B.headers) (below-more scan.found.headers (p.taken + 1) q.taken later below);
            is = F.is ∙ (began ∙ (g.2 ∙ ap (λ k. scanned q.rest true k next) place));
          }

      behind : (t : Token) (name : List ℕ) (mid : Input) → p.rest ≡ t ∷ mid.rest → procedures.header_name t.kind ≡ Some name → list_any (bytes_eq name) F.next.found.names ≡ false →
          ((is_next (is_key (codes "SECTION")) mid ≡ true) × ((paragraphs.section here name state).reads mid ≡ Got last q)) ⊎ ((is_next (is_key (codes "SECTION")) mid ≡ false) × ((paragraphs.paragraph here name state).reads mid ≡ Got last q)) →
          IsReadTo last q all
      behind t name mid is n new (inl h) =
          let B = section-over name state mid last q h.1 F.next p.taken F.core new in
          let header : Header = record { first = whole_count F.next; section = Some (length F.next.found.starts); index = p.taken } in
          placed t mid (procedures.section_headed name p.taken F.next) B.0 is
          (ap (λ ts. scanned ts true p.taken F.next) is ∙ header-first t mid.rest name true n h.0 p.taken F.next) B.1
          (named-below name header (record F.next.found { starts = F.next.found.starts ++ whole_count F.next ∷ []; count = whole_count F.next }) new p.taken refl F.below)
      behind t name mid is n new (inr h) =
          let B = paragraph-over name state mid last q h.1 F.next p.taken F.core new in
          let header : Header = record { first = F.next.found.count; section = None; index = p.taken } in
          placed t mid (procedures.paragraph_headed name p.taken F.next) B.0 is
          (ap (λ ts. scanned ts true p.taken F.next) is ∙ header-first t mid.rest name false n h.0 p.taken F.next) B.1
          (named-below name header (record F.next.found { count = F.next.found.count + 1 }) new p.taken refl F.below)

      noted : (name : List ℕ × Position) (mid : Input) (t : Token) → p.rest ≡ t ∷ mid.rest → procedures.header_name t.kind ≡ Some name.0 → name.1.index ≡ p.taken →
          (form.◌>>◌ (note (here.duplicate_fault name.0 name.1)) (where_next (is_key (codes "SECTION")) (paragraphs.section here name.0 state) (paragraphs.paragraph here name.0 state))).reads mid ≡ Got last q →
          IsReadTo last q all
      noted name mid t is n at e =
          let parts = where_next (is_key (codes "SECTION")) (paragraphs.section here name.0 state) (paragraphs.paragraph here name.0 state) in
          let laws : maker_laws.Law true parts = maker_laws.where_next (paragraph_laws.section lawful name.0 state) (paragraph_laws.paragraph lawful name.0 state) in
          let u = then_got ((note (here.duplicate_fault name.0 name.1)).reads mid) (λ _ r. parts.reads r) last q e in
          let same = note-is (here.duplicate_fault name.0 name.1) mid u.0 u.1 u.2 in
          let before : u.1.fault ≡ None = clean laws.lawful u.1 last q u.3 none in
          let free = neither mid.fault (here.duplicate_fault name.0 name.1) (ap (λ r. r.fault) same ∙ before) in
          behind t name.0 u.1 (is ∙ ap (λ r. t ∷ r.rest) same) n
          (new-here p.rest F.next p.taken name.0 name.1 F.is F.core.paired F.below at free.1)
          (where-got (is_key (codes "SECTION")) (paragraphs.section here name.0 state) (paragraphs.paragraph here name.0 state) u.1 last q u.3)

  -- where no fault is noted behind the headers, none is before them
  turns-clean : (n : ℕ) (state : Outline) (p : Input) (last : Outline) (q : Input) → loop_reads (λ _. begins_procedure here) (paragraphs.headed here) n state p ≡ Got last q → q.fault ≡ None → p.fault ≡ None
  unfolding loop_reads
  turns-clean zero state p last q e none = ap (λ r. r.fault) (got_is state last p q e).1 ∙ none
  turns-clean (suc n) state p last q e none = turn (λ x r. turns-clean n x r last q) (is_next (begins_procedure here) p) e
    where
      turn : ((x : Outline) (r : Input) → loop_reads (λ _. begins_procedure here) (paragraphs.headed here) n x r ≡ Got last q → q.fault ≡ None → r.fault ≡ None) → (b : Bool) →
          (if b then then_read ((paragraphs.headed here state).reads p) (λ x r. loop_reads (λ _. begins_procedure here) (paragraphs.headed here) n x r) else Got state p) ≡ Got last q → p.fault ≡ None
      turn again true e =
          let s = then_got ((paragraphs.headed here state).reads p) (λ x r. loop_reads (λ _. begins_procedure here) (paragraphs.headed here) n x r) last q e in
          clean (paragraph_laws.headed lawful state).lawful p s.0 s.1 s.2 (again s.0 s.1 s.3 none)
      turn again false e = ap (λ r. r.fault) (got_is state last p q e).1 ∙ none

  as-follows : (state last : Outline) (p q : Input) → Got state p ≡ Got last q → IsReadTo state p all → IsReadTo last q all
  as-follows state last p q e F = let g = got_is state last p q e in subst (λ o. IsReadTo o q all) g.0 (subst (λ r. IsReadTo state r all) g.1 F)

  all-headed : (n : ℕ) (state : Outline) (p : Input) (last : Outline) (q : Input) → loop_reads (λ _. begins_procedure here) (paragraphs.headed here) n state p ≡ Got last q → q.fault ≡ None →
      IsReadTo state p all → IsReadTo last q all
  unfolding loop_reads
  all-headed zero state p last q e none F = as-follows state last p q e F
  all-headed (suc n) state p last q e none F = turn (λ x r. all-headed n x r last q) (is_next (begins_procedure here) p) e
    where
      turn : ((x : Outline) (r : Input) → loop_reads (λ _. begins_procedure here) (paragraphs.headed here) n x r ≡ Got last q → q.fault ≡ None → IsReadTo x r all → IsReadTo last q all) → (b : Bool) →
          (if b then then_read ((paragraphs.headed here state).reads p) (λ x r. loop_reads (λ _. begins_procedure here) (paragraphs.headed here) n x r) else Got state p) ≡ Got last q →
          IsReadTo last q all
      turn again true e =
          let s = then_got ((paragraphs.headed here state).reads p) (λ x r. loop_reads (λ _. begins_procedure here) (paragraphs.headed here) n x r) last q e in
          again s.0 s.1 s.3 none (headed-over state p s.0 s.1 s.2 (turns-clean n s.0 s.1 last q s.3 none) F)
      turn again false e = as-follows state last p q e F

  -- ---- the sentences before the first header

  none-below : (place : ℕ) → Below [] place
  none-below place k header is = absurd cc

  unnamed-core : (found : List Sentence) → is_filled found ≡ true → Core (outline_of (paragraph_of None None found ∷ []) None false) (unheaded false procedures.start)
  unnamed-core [] f = absurd cc
  unnamed-core (s ∷ found) f = record {
    told = refl;
    names = refl;
    different = tt;
    paired = refl;
    laid = record { bare = false; laid = λ more a filled. (inl refl, a); settled = λ e. refl };
  }

  empty-core : Core (outline_of [] None false) procedures.start
  empty-core = record { told = refl; names = refl; different = tt; paired = refl; laid = record { bare = false; laid = none-laid; settled = λ e. refl } }

  start-over : (p : Input) (first : Outline) (q : Input) → (paragraphs.start here).reads p ≡ Got first q → all ≡ scanned p.rest true p.taken procedures.start → IsReadTo first q all
  unfolding paragraphs.start paragraphs.unnamed_start
  start-over p first q e is = go (where-got begins_stmt (paragraphs.unnamed_start here) (pure (outline_of [] None false)) p first q e)
    where
      go : ((is_next begins_stmt p ≡ true) × ((paragraphs.unnamed_start here).reads p ≡ Got first q)) ⊎ ((is_next begins_stmt p ≡ false) × (Got (outline_of [] None false) p ≡ Got first q)) → IsReadTo first q all
      go (inl h) =
          let s = then_got ((paragraphs.sentences here (scope_of false)).reads p) _ first q h.1 in
          let g = got_is _ first s.1 q s.3 in
          let over_it = sentences-begun (parts_of names entries table) (part_laws.parts names entries table) (plainly.parts names entries table) (scope_of false) p s.0 s.1 s.2 h.0 procedures.start p.taken in
          let filled = sentences-filled (parts_of names entries table) (part_laws.parts names entries table) (plainly.parts names entries table) (scope_of false) p s.0 s.1 s.2 h.0 in
          let counted = (paragraph_laws.sentences lawful (scope_of false)).lawful.counted p s.0 s.1 s.2 in
          let place : over_it.0 ≡ s.1.taken = omega (arith, over_it.1, counted) in
          subst (λ r. IsReadTo first r all) g.1 (record {
            next = unheaded false procedures.start;
            core = subst (λ o. Core o (unheaded false procedures.start)) g.0 (unnamed-core s.0 filled);
            below = none-below s.1.taken;
            is = is ∙ (over_it.2 ∙ ap (λ k. scanned s.1.rest true k (unheaded false procedures.start)) place);
          })
      go (inr h) =
          as-follows (outline_of [] None false) first p q h.1 (record { next = procedures.start; core = empty-core; below = none-below p.taken; is = is })

  -- ---- END PROGRAM, and the end

  program-over : (p : Input) (a : Unit {0}) (q : Input) → (paragraphs.end_program here).reads p ≡ Got a q → (scan : Scan) → Goes p.rest true scan q.rest true scan
  unfolding paragraphs.end_program paragraphs.program_name
  program-over p a q e scan =
      let s = then_got ((key (codes "END")).reads p) _ a q e in
      let t = then_got ((key (codes "PROGRAM")).reads s.1) _ a q s.3 in
      let u = then_got ((paragraphs.program_name here).reads t.1) _ a q t.3 in
      let v = then_got (period.reads u.1) _ a q u.3 in
      let first = sign-of (is_key (codes "END")) p s.0 s.1 s.2 in
      subst (λ r. Goes p.rest true scan r.rest true scan) (got_is tt a v.1 q v.3).1
      (goes-then p.rest s.1.rest v.1.rest true false true scan scan scan
      (subst (λ ts. Goes ts true scan s.1.rest false scan) (sym first.1) (end-first first.0 s.1.rest scan first.2))
      (goes-then s.1.rest t.1.rest v.1.rest false false true scan scan scan (over (makers.key (codes "PROGRAM")) s.1 t.0 t.1 t.2 scan)
      (goes-then t.1.rest u.1.rest v.1.rest false false true scan scan scan
      (over (makers.where_next (makers.◌>>◌ makers.word makers.pure) makers.refuse) t.1 u.0 u.1 u.2 scan)
      (period-over u.1 v.0 v.1 v.2 scan))))

  end-over : (p : Input) (a : Unit {0}) (q : Input) → (paragraphs.end_part here).reads p ≡ Got a q → (scan : Scan) → Goes p.rest true scan q.rest true scan
  unfolding paragraphs.end_part
  end-over p a q e scan = go (where-got (is_key (codes "END")) (paragraphs.end_program here) (pure tt) p a q e)
    where
      go : ((is_next (is_key (codes "END")) p ≡ true) × ((paragraphs.end_program here).reads p ≡ Got a q)) ⊎ ((is_next (is_key (codes "END")) p ≡ false) × (Got tt p ≡ Got a q)) →
          Goes p.rest true scan q.rest true scan
      go (inl h) = program-over p a q h.1 scan
      go (inr h) = subst (λ r. Goes p.rest true scan r.rest true scan) (got_is tt a p q h.1).1 (stays p.rest true scan)

  -- ---- the division

  -- what the paragraphs that are read tell themselves
  pub record IsTold (found : List Paragraph) : Type 0 where
    pub told : without_indices table ≡ closed (paragraphs_plain found procedures.start)
    pub different : AreDifferent (header_names found)
    pub outlined : AreOutlined found

  one-told : (list : List Paragraph) → paragraphs_plain list procedures.start ≡ paragraphs_plain (at_least_one list) procedures.start
  one-told [] = refl
  one-told (p ∷ list) = refl

  one-names : (list : List Paragraph) → header_names list ≡ header_names (at_least_one list)
  one-names [] = refl
  one-names (p ∷ list) = refl

  one-outlined : (list : List Paragraph) (bare : Bool) → LaidTo list bare → AreOutlined (at_least_one list)
  one-outlined [] bare L = (inr refl, tt)
  one-outlined (p ∷ list) bare L = subst AreOutlined (append-nil (p ∷ list)) (L [] tt refl)

  -- all headers are behind
  ended-told : (state : Outline) (p mid : Input) (a : Unit {0}) → IsReadTo state p all → (paragraphs.end_part here).reads p ≡ Got a mid → mid.rest ≡ [] → IsTold (all_of state)
  ended-told state p mid a F e none =
      let over_it = end-over p a mid e F.next p.taken in
      let done : all ≡ F.next = F.is ∙ (over_it.2 ∙ none-behind mid.rest true over_it.0 F.next none) in
      let list = with_pending state.pending state.done in
      let L = pending-laid state.pending state.done state.in_section F.core.laid in
      record {
        told = ap without_indices whole ∙ (ap (λ s. closed (plain s)) done ∙ ap (λ s. closed s) (F.core.told ∙ (pending-told state.pending state.done ∙ one-told list)));
        different = subst AreDifferent (F.core.names ∙ (pending-names state.pending state.done ∙ one-names list)) F.core.different;
        outlined = one-outlined list L.0 L.1;
      }

  all-over : (p : Input) (found : List Paragraph) (q : Input) → (paragraphs.paragraphs here).reads p ≡ Got found q → q.fault ≡ None → all ≡ scanned p.rest true p.taken procedures.start →
      (state : Outline) × (all_of state ≡ found) × IsReadTo state q all
  unfolding paragraphs.paragraphs
  all-over p found q e none is =
      let s = then_got ((paragraphs.start here).reads p) _ found q e in
      let t = then_got ((paragraphs.headed_from here s.0).reads s.1) _ found q s.3 in
      let g = got_is _ found t.1 q t.3 in
      let follows = all-headed (length s.1.rest) s.0 s.1 t.0 t.1 t.2 (ap (λ r. r.fault) g.1 ∙ none) (start-over p s.0 s.1 s.2 is) in
      (t.0, g.0, subst (λ r. IsReadTo t.0 r all) g.1 follows)

  pub division-told : (p : Input) (found : List Paragraph) (q : Input) → (paragraphs.division here).reads p ≡ Got found q → q.fault ≡ None → all ≡ scanned p.rest true p.taken procedures.start → IsTold found
  unfolding paragraphs.division
  division-told p found q e none is =
      let s = then_got ((paragraphs.paragraphs here).reads p) _ found q e in
      let t = then_got ((paragraphs.end_part here).reads s.1) _ found q s.3 in
      let u = then_got (ended.reads t.1) _ found q t.3 in
      let g = got_is s.0 found u.1 q u.3 in
      let u_none : u.1.fault ≡ None = ap (λ r. r.fault) g.1 ∙ none in
      let t_none : t.1.fault ≡ None = clean maker_laws.ended.lawful t.1 u.0 u.1 u.2 u_none in
      let s_none : s.1.fault ≡ None = clean (paragraph_laws.end_part lawful).lawful s.1 t.0 t.1 t.2 t_none in
      let all_read = all-over p s.0 s.1 s.2 s_none is in
      subst IsTold (all_read.1 ∙ g.0) (ended-told all_read.0 s.1 t.1 t.0 all_read.2 t.2 (none-left t.1 u.0 u.1 u.2))

pub division-is-told : (names : Names) (entries : List Entry) (p : Input) (found : List Paragraph) (q : Input) →
    (paragraphs.division (parts_of names entries (procedures_of p.rest p.taken))).reads p ≡ Got found q → q.fault ≡ None → IsReadWith (procedures_of p.rest p.taken) found
division-is-told names entries p found q e none =
    let T = division-told names entries (procedures_of p.rest p.taken) (scanned p.rest true p.taken procedures.start) refl p found q e none refl in
    record {
      outlined = T.outlined;
      different = T.different;
      same = λ program taken is. T.told ∙ (ap (λ l. closed (paragraphs_plain l procedures.start)) (sym is) ∙ sym (own-plain program taken));
    }
