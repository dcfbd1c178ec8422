-- What the parts of statements give in a program with these names, entries and procedures.
use Rattle.std.proofs.Common.{◌≡◌, ℕ, ◌≤◌, ◌<◌, Bool, true, false, if◌then◌else◌, List, [], length, Option, Some, None, refl, ap, ◌∙◌, subst, arith, cond}
use Rattle.std.specs.Prelude.{position, slice_get, nat_lt}
use Rattle.std.specs.List.{position_or_len}
use Rattle.std.specs.Str.{bytes_eq}
use Rattle.std.proofs.lemmas.Bool.{lt-ltb, ltb-true}
use Rattle.cob_tree.specs.declared.entry.Entry.{Entry}
use Rattle.cob_tree.specs.declared.place.Place.{out-roll-Place}
use Rattle.cobol_lex.specs.declared.token.Token.{Token}
use Rattle.parser_combinators.specs.declared.note.Position.{Position}
use Rattle.symbol_tables.specs.declared.data_names.name.Referent.{Referent}
use Rattle.symbol_tables.specs.declared.data_names.name.Referent.TheVariants as found
use Rattle.symbol_tables.specs.data_names.Look.{look, look_file}
use Rattle.symbol_tables.specs.data_names.Names.{Names}
use Rattle.parser_combinators.proofs.words_lemmas.WordLaws as words
use Rattle.cobol_grammar.specs.declared.expr_forms.side.ParsedExpr.{ParsedExpr}
use Rattle.cobol_grammar.specs.declared.expr_forms.side.ParsedExpr.TheVariants as whats
use Rattle.cobol_grammar.specs.expr_forms.Fault.{item_of, usage}
use Rattle.cobol_grammar.specs.expr_forms.Side as sides
use Rattle.symbol_tables.specs.procedure_names.Procedures.{procedures_of, range_of, header_of}
use Rattle.cobol_grammar.specs.Name as names_of
use Rattle.cobol_grammar.specs.Use as uses
use Rattle.cobol_grammar.specs.Whole.{parts_of}
use Rattle.cobol_grammar.specs.stmt_forms.File.{index_or_0}
use Rattle.program_facts.specs.well_scoped.Part.{Counts, item_named, file_named, paragraph_named, place_named, operand_named}
use Rattle.program_facts.proofs.well_scoped_lemmas.Made.{made-Place-operand, made-Figure-operand}
use Rattle.grammar_laws.specs.form_results.Giving.{Gives}
use Rattle.grammar_laws.specs.form_results.Numbered.{IsNumbered}
use Rattle.grammar_laws.proofs.form_results_lemmas.Giving.{any, hence, pure, note, ◌>>=◌, ◌>>◌}
use Rattle.grammar_laws.specs.well_scoped.named_exprs.Sides.{AreDeclared, is_reference, what_named}
use Rattle.grammar_laws.proofs.well_scoped_lemmas.named_exprs_lemmas.Found.{get-below}
use Rattle.grammar_laws.proofs.well_scoped_lemmas.named_exprs_lemmas.Expressions as exprs
use Rattle.grammar_laws.proofs.well_scoped_lemmas.named_exprs_lemmas.Conditions.{whole_cond}
use Rattle.grammar_laws.specs.well_scoped.named_stmts.Parts.{PartsGive}
use Rattle.grammar_laws.specs.well_scoped.named_division.Laws.{AreCounted}
use Rattle.grammar_laws.proofs.well_scoped_lemmas.named_division_lemmas.Table.{span-below}

module _ (counts : Counts) where
  -- ---- what stands in the tree for what is read

  operand-named : (what : ParsedExpr) → what_named counts what ≡ true → operand_named counts (uses.operand_of what) ≡ true
  operand-named (whats.Ref place) h = made-Place-operand counts place h
  operand-named (whats.Literal operand) h = h
  operand-named (whats.Enclosed place) h = made-Place-operand counts place h
  operand-named (whats.Sum expr) h = made-Figure-operand counts _

  place-named : (what : ParsedExpr) → what_named counts what ≡ true → is_reference what ≡ true → place_named counts (uses.place_of what) ≡ true
  place-named (whats.Ref place) h r = h
  place-named (whats.Literal operand) h r = absurd (apart r)
    where
      apart : false ≡ true → ⊥
      apart e = cc
  place-named (whats.Enclosed place) h r = h
  place-named (whats.Sum expr) h r = absurd (apart r)
    where
      apart : false ≡ true → ⊥
      apart e = cc

  -- ---- files and records

  position-below : {A : Type 0} (test : A → Bool) (list : List A) (i : ℕ) → position test list ≡ Some i → i < length list
  position-below test list i e = go (nat_lt (position_or_len test list) (length list)) refl e
    where
      some_is : (n : ℕ) → Some n ≡ Some i → n ≡ i
      some_is n e = cc

      go : (b : Bool) → nat_lt (position_or_len test list) (length list) ≡ b → cond b (Some (position_or_len test list)) None ≡ Some i → i < length list
      go true below e = subst (λ n. n < length list) (some_is (position_or_len test list) e) (ltb-true (position_or_len test list) (length list) below)
      go false below e = absurd cc

  file_fine : (names : Names) → AreDeclared names counts → (word : List ℕ) (position : Position) (o : Option ℕ) → look_file names word ≡ o → names_of.file_fault o position ≡ None →
      file_named counts (index_or_0 o) ≡ true
  file_fine names declared word position None e n = absurd cc
  file_fine names declared word position (Some file) e n =
      let below = position-below (bytes_eq word) names.files file e in
      let files = declared.files in
      lt-ltb file counts.files (omega (arith, below, files))

  file : (names : Names) → AreDeclared names counts → Gives IsNumbered (names_of.file names) (λ found. file_named counts (index_or_0 found) ≡ true)
  unfolding names_of.file
  file names declared = any words.name >>= (λ word. note >> pure (λ n _. file_fine names declared word.0 word.1 (look_file names word.0) refl n.1))

  record-below : (entries : List Entry) (item : ℕ) (o : Option Entry) → slice_get entries item ≡ o → names_of.is_record_entry o ≡ true → item < length entries
  record-below entries item None e h = absurd (apart h)
    where
      apart : false ≡ true → ⊥
      apart e = cc
  record-below entries item (Some entry) e h = get-below entries item entry e

  record_fine : (entries : List Entry) → length entries ≤ counts.items → (found : Referent) (position : Position) → names_of.record_fault entries found position ≡ None →
      item_named counts (item_of (names_of.as_record entries found)) ≡ true
  record_fine entries le found.Unknown position n = absurd cc
  record_fine entries le found.Ambiguous position n = absurd cc
  record_fine entries le (found.Item item kind dims) position n = go (names_of.is_record entries item) refl n
    where
      go : (b : Bool) → names_of.is_record entries item ≡ b → (if b then None else usage position) ≡ None →
          item_named counts (item_of (if b then found.Item item kind dims else found.Unknown)) ≡ true
      go true e n = let below = record-below entries item (slice_get entries item) refl e in lt-ltb item counts.items (omega (arith, below, le))
      go false e n = absurd cc

  record_name : (names : Names) (entries : List Entry) → length entries ≤ counts.items → Gives IsNumbered (names_of.record_name names entries) (λ side. item_named counts (uses.entry_of side.what) ≡ true)
  unfolding names_of.record_name sides.ref_side
  record_name names entries le = any words.name >>= (λ word. note >> pure (λ n _.
      let kept = names_of.as_record entries (look names word.0 []) in
      ap (λ place. item_named counts place.item) (out-roll-Place (record { item = item_of kept; of = []; subs = []; window = None }))
      ∙ record_fine entries le (look names word.0 []) word.1 n.1))

  -- ---- procedures

  module _ (tokens : List Token) (from : ℕ) (le : (procedures_of tokens from).count ≤ counts.paragraphs) where
    procedure_fine : (name : List ℕ) (span : ℕ × ℕ) → names_of.procedure_of (procedures_of tokens from) name ≡ Some span →
        (paragraph_named counts span.0 ≡ true) × (paragraph_named counts span.1 ≡ true)
    procedure_fine name span e = go (names_of.is_capital_word name) e
      where
        go : (b : Bool) → (if b then range_of (procedures_of tokens from) (header_of (procedures_of tokens from) name) else None) ≡ Some span →
            (paragraph_named counts span.0 ≡ true) × (paragraph_named counts span.1 ≡ true)
        go true e =
            let below = span-below tokens from name span e in
            let first = below.0 in
            let last = below.1 in
            (lt-ltb span.0 counts.paragraphs (omega (arith, first, le)), lt-ltb span.1 counts.paragraphs (omega (arith, last, le)))
        go false e = absurd cc

pub parts : (names : Names) (entries : List Entry) (tokens : List Token) (from : ℕ) (counts : Counts) → AreCounted names entries (procedures_of tokens from) counts →
    PartsGive counts (parts_of names entries (procedures_of tokens from))
parts names entries tokens from counts counted = record {
  operand = hence (λ side h. operand-named counts side.what h) (exprs.data_operand counts names counted.declared);
  reference = hence (λ side h. (place-named counts side.what h.0 h.1, operand-named counts side.what h.0)) (exprs.data_reference counts names counted.declared);
  reference_behind = λ first position. hence (λ side h. operand-named counts side.what h.0) (exprs.data_reference_behind counts names counted.declared first position);
  digits_side = λ digits position d. operand-named counts (sides.digits_side digits position).what (exprs.digits_side-named counts digits position d);
  expr = hence (λ side h. exprs.expr-named counts side.what h) (exprs.whole_expr counts names counted.declared);
  cond = whole_cond counts names counted.declared;
  file = file counts names counted.declared;
  record_name = record_name counts names entries counted.items;
  procedure_of = procedure_fine counts tokens from counted.told;
}
