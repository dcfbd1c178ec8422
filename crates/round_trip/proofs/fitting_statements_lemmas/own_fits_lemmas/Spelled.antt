-- What passes a test by a program's own names spells what is asked for its use.
use Rattle.std.proofs.Common.{◌≡◌, ℕ, ◌≤◌, Bool, true, false, ◌&&◌, List, Option, Some, None, refl, ap, sym, ◌∙◌}
use Rattle.std.specs.Prelude.{nat_le, slice_get}
use Rattle.std.proofs.lemmas.Bool.{and_parts, both_ways, eqb-true, leb-true}
use Rattle.cob_tree.specs.declared.cond.Cond.{Cond}
use Rattle.cob_tree.specs.declared.entry.Entry.{Entry}
use Rattle.cob_tree.specs.declared.file.FileEntry.{FileEntry}
use Rattle.cob_tree.specs.declared.place.Expr.{Expr}
use Rattle.cob_tree.specs.declared.place.Operand.{Operand}
use Rattle.cob_tree.specs.declared.place.Operand.TheVariants as operands
use Rattle.cob_tree.specs.declared.place.Place.{Place}
use Rattle.cob_tree.specs.declared.program.Program.{Program}
use Rattle.unparser.specs.Place.{item_name}
use Rattle.program_facts.specs.term_counts.Condition.{cond_terms}
use Rattle.program_facts.specs.term_counts.Expression.{expr_terms}
use Rattle.parser_combinators.specs.words.Word.{is_data_word}
use Rattle.symbol_tables.specs.declared.data_names.name.Referent.{Referent}
use Rattle.symbol_tables.specs.declared.data_names.name.Referent.TheVariants as founds
use Rattle.symbol_tables.specs.declared.data_names.name.ItemKind.{ItemKind}
use Rattle.symbol_tables.specs.data_names.Look.{look_file}
use Rattle.symbol_tables.specs.data_names.Names.{Names}
use Rattle.symbol_tables.specs.declared.procedure_names.table.ProcedureTable.{ProcedureTable}
use Rattle.cobol_grammar.specs.declared.expr_forms.side.ExprContent.TheVariants as makes
use Rattle.cobol_grammar.specs.declared.expr_forms.side.Side.{Side}
use Rattle.cobol_grammar.specs.declared.expr_forms.side.ValueKind.{ValueKind}
use Rattle.cobol_grammar.specs.expr_forms.Fault.{is_condition, kind_of}
use Rattle.cobol_grammar.specs.stmt_forms.Part.{Parts}
use Rattle.cobol_grammar.specs.declared.subject_kind.SubjectKind.{SubjectKind}
use Rattle.cobol_grammar.specs.Name.{is_record}
use Rattle.cobol_grammar.specs.Use.{record_kind}
use Rattle.cobol_grammar.specs.Whole.{parts_of}
use Rattle.round_trip.specs.spelling.expr_spelling.Printable.{is_number, takes_result, is_counting, IsPrintableExpr, IsPrintableOperand, IsPrintablePlace}
use Rattle.round_trip.specs.spelling.expr_spelling.Spelled.{PlaceHasRoom, OperandHasRoom}
use Rattle.round_trip.proofs.spelling_lemmas.expr_spelling_lemmas.Layers.{judged-Place}
use Rattle.round_trip.specs.spelling.cond_spelling.Printable.{cond_fit}
use Rattle.round_trip.specs.spelling.stmt_spelling.Part.{Kept, SpellsOperand, SpellsPlace, SpellsExpr, SpellsCond, SpellsEntry}
use Rattle.round_trip.specs.spelling.stmt_spelling.Stmt.{CountsTurns}
use Rattle.round_trip.specs.spelling.Kept.{kept_of}
use Rattle.round_trip.specs.spelling.Named.{IsNamedFile, IsNamedRecord}
use Rattle.round_trip.specs.spelling.Use.{OperandIsFree, ExprIsFree}
use Rattle.round_trip.proofs.spelling_lemmas.Operands as spelled_operands
use Rattle.round_trip.proofs.spelling_lemmas.Exprs as spelled_exprs
use Rattle.round_trip.proofs.spelling_lemmas.Conds as spelled_conds
use Rattle.round_trip.proofs.spelling_lemmas.Named as spelled_names
use Rattle.round_trip.proofs.spelling_lemmas.Turns as spelled_turns
use Rattle.round_trip.proofs.spelling_lemmas.Uses as uses
use Rattle.round_trip.specs.fitting_statements.Spelling.{FitsSpell}
use Rattle.round_trip.specs.fitting_statements.own_fits.Laws.{AreInTable, OwnFitsSpell}
use Rattle.round_trip.specs.fitting_statements.own_fits.Move.{may_move}
use Rattle.round_trip.specs.fitting_statements.own_fits.Own.{own_names, has_value, is_fit_as, is_at, is_item, own_operand, own_place, own_expr, own_record, operand_fits, place_fits, expr_fits, cond_fits, is_named, record_fits, own_fits}
use Rattle.round_trip.specs.fitting_statements.own_fits.Room.{operand_has_room, place_has_room}
use Rattle.round_trip.proofs.fitting_statements_lemmas.own_fits_lemmas.Room.{place-room, operand-room}
use Rattle.round_trip.proofs.fitting_statements_lemmas.own_fits_lemmas.Moves.{move-free}

at-is : (number : ℕ) (found : Option ℕ) → is_at number found ≡ true → found ≡ Some number
at-is number None e = absurd cc
at-is number (Some other) e = ap Some (eqb-true other number e)

item-is : (item : ℕ) (found : Referent) → is_item item found ≡ true → (kind : ItemKind) × (dims : ℕ) × (found ≡ founds.Item item kind dims)
item-is item (founds.Item number kind dims) e = (kind, dims, ap (λ n. founds.Item n kind dims) (eqb-true number item e))
item-is item found e = absurd (both_ways false refl e)

module _ (program : Program) where
  abbrev names : Names
  names = own_names program

  -- ---- what a test tells

  pub record OperandPasses (is_kind : ValueKind → Bool) (operand : Operand) : Type 0 where
    pub fit : IsPrintableOperand names program operand
    pub kind : is_kind (own_operand program operand).kind ≡ true
    pub room : OperandHasRoom true 501 1 operand

  operand-passes : (is_kind : ValueKind → Bool) (operand : Operand) → operand_fits program is_kind operand ≡ true → OperandPasses is_kind operand
  operand-passes is_kind operand h =
      let p = and_parts (is_fit_as is_kind (own_operand program operand)) (operand_has_room operand) h in
      let q = and_parts (own_operand program operand).fit (is_kind (own_operand program operand).kind) p.0 in
      record { fit = q.0; kind = q.1; room = operand-room operand p.1 }

  -- its kind as an operand
  pub record PlacePasses (is_kind : ValueKind → Bool) (place : Place) : Type 0 where
    pub fit : IsPrintablePlace names program place
    pub kind : is_kind (own_operand program (operands.Place place)).kind ≡ true
    pub room : PlaceHasRoom true 501 0 place

  place-passes : (is_kind : ValueKind → Bool) (place : Place) → place_fits program is_kind place ≡ true → PlacePasses is_kind place
  place-passes is_kind place h =
      let p = and_parts (is_fit_as is_kind (own_place program place)) (place_has_room 0 place) h in
      let q = and_parts (own_place program place).fit (is_kind (own_place program place).kind) p.0 in
      record { fit = q.0; kind = ap (λ j. is_kind j.kind) (judged-Place names program place) ∙ q.1; room = place-room 0 place p.1 }

  pub record ExprPasses (is_kind : ValueKind → Bool) (expr : Expr) : Type 0 where
    pub fit : IsPrintableExpr names program expr
    pub kind : is_kind (own_expr program expr).kind ≡ true
    pub few : expr_terms expr ≤ 500

  expr-passes : (is_kind : ValueKind → Bool) (expr : Expr) → expr_fits program is_kind expr ≡ true → ExprPasses is_kind expr
  expr-passes is_kind expr h =
      let p = and_parts (is_fit_as is_kind (own_expr program expr)) (nat_le (expr_terms expr) 500) h in
      let q = and_parts (own_expr program expr).fit (is_kind (own_expr program expr).kind) p.0 in
      record { fit = q.0; kind = q.1; few = leb-true (expr_terms expr) 500 p.1 }

  file-named : (file : ℕ) (there : Option FileEntry) → slice_get program.files file ≡ there → is_named program file there ≡ true → IsNamedFile names program file
  file-named file None e h = absurd cc
  file-named file (Some entry) e h =
      let p = and_parts (is_data_word entry.name) (is_at file (look_file names entry.name)) h in
      record { entry = entry; there = e; word = p.0; found = at-is file (look_file names entry.name) p.1 }

  record-named : (entry : ℕ) → record_fits program entry ≡ true → IsNamedRecord names program program.entries entry
  record-named entry h =
      let p = and_parts (is_data_word (item_name program entry)) (is_item entry (own_record program entry) && is_record program.entries entry) h in
      let q = and_parts (is_item entry (own_record program entry)) (is_record program.entries entry) p.1 in
      let i = item-is entry (own_record program entry) q.0 in
      record { word = p.0; kind = i.0; dims = i.1; found = i.2; is = q.1 }

  -- ---- what it spells

  module _ (table : ProcedureTable) where
    abbrev entries : List Entry
    entries = program.entries

    abbrev parts : Parts Side SubjectKind
    parts = parts_of names entries table

    abbrev kept : Kept Side
    kept = kept_of names program

    free : (operand : Operand) → OperandIsFree names entries table program operand
    free operand = uses.operand_free names entries table program operand

    expr-free : (expr : Expr) → ExprIsFree names entries table program expr
    expr-free expr = uses.expr_free names entries table program expr

    operand-spelled : (is_kind : ValueKind → Bool) (operand : Operand) → OperandPasses is_kind operand → SpellsOperand parts kept program operand
    operand-spelled is_kind operand h = spelled_operands.operand_spelled names entries table program operand h.fit h.room

    place-spelled : (is_kind : ValueKind → Bool) (place : Place) → PlacePasses is_kind place → SpellsPlace parts kept program place
    place-spelled is_kind place h = spelled_operands.place_spelled names entries table program place h.fit h.room

    expr-spelled : (is_kind : ValueKind → Bool) (expr : Expr) → ExprPasses is_kind expr → SpellsExpr parts kept program expr
    expr-spelled is_kind expr h = spelled_exprs.expr_spelled names entries table program expr h.fit h.few

    turns-counted : (operand : Operand) → OperandPasses is_counting operand → CountsTurns parts kept program operand
    turns-counted operand h =
        spelled_turns.turns_counted names entries table program operand h.fit (λ place e. spelled_operands.place-room place (h.room place e))

    cond-spelled : (cond : Cond) → cond_fits program cond ≡ true → SpellsCond parts kept program cond
    cond-spelled cond h =
        let p = and_parts (cond_fit names program cond) (nat_le (cond_terms cond) 500) h in
        spelled_conds.cond_spelled names entries table program cond p.0 (leb-true (cond_terms cond) 500 p.1)

    -- the kind of the receiver as an operand
    place-kind : (place : Place) → (own_place program place).kind ≡ (own_operand program (operands.Place place)).kind
    place-kind place = ap (λ j. j.kind) (sym (judged-Place names program place))

    module _ (label : ℕ → Bool) (range : ℕ → ℕ → Bool) (named : AreInTable table program label range) where
      label-spelled : (to : ℕ) → label to ≡ true → SpellsEntry parts kept program to
      label-spelled to h =
          let l = named.labels to h in (l.0, spelled_names.label_spelled names entries table program to (to, l.0) l.1)

      pub fits-spell : FitsSpell parts kept program (own_fits program label range)
      fits-spell = record {
        value = λ operand h. let p = operand-passes has_value operand h in (operand-spelled has_value operand p, (free operand).value p.kind);
        number = λ operand h. let p = operand-passes is_number operand h in (operand-spelled is_number operand p, (free operand).number p.kind);
        whole = λ operand h. let p = operand-passes is_counting operand h in (operand-spelled is_counting operand p, (free operand).whole p.kind);
        turns = λ operand h. turns-counted operand (operand-passes is_counting operand h);
        receives = λ place h. let p = place-passes has_value place h in (place-spelled has_value place p, (free (operands.Place place)).value p.kind);
        number_place = λ place h. let p = place-passes is_number place h in (place-spelled is_number place p, (free (operands.Place place)).number p.kind);
        result_place = λ place h. let p = place-passes takes_result place h in (place-spelled takes_result place p, (free (operands.Place place)).result p.kind);
        whole_place = λ place h. let p = place-passes is_counting place h in (place-spelled is_counting place p, (free (operands.Place place)).whole p.kind);
        condition_place = λ place h. let p = place-passes is_condition place h in (place-spelled is_condition place p, (free (operands.Place place)).condition p.kind);
        moves = λ from place h. (free from).moves (operands.Place place)
            (move-free (own_operand program from).make (own_operand program from).kind (own_operand program (operands.Place place)).kind
            (ap (λ k. may_move (own_operand program from).make (own_operand program from).kind k) (sym (place-kind place)) ∙ h));
        into = λ file place h. (free (operands.Place place)).into file
            (move-free makes.Item (record_kind entries file) (own_operand program (operands.Place place)).kind (ap (λ k. may_move makes.Item (record_kind entries file) k) (sym (place-kind place)) ∙ h));
        expr_value = λ expr h. let p = expr-passes has_value expr h in (expr-spelled has_value expr p, (expr-free expr).value p.kind);
        expr_number = λ expr h. let p = expr-passes is_number expr h in (expr-spelled is_number expr p, (expr-free expr).number p.kind);
        compares = λ subject expr h. (expr-free subject).compares expr h;
        cond = cond-spelled;
        file = λ file h. spelled_names.file_spelled names entries table program file (file-named file (slice_get program.files file) refl h);
        entry_record = λ entry h. spelled_names.record_spelled names entries table program entry (record-named entry h);
        writes = λ entry from h. (free from).writes entry
            (move-free (own_operand program from).make (own_operand program from).kind (kind_of (own_record program entry)) h);
        label = label-spelled;
        range = λ entry exit h. spelled_names.range_spelled names entries table program entry exit (named.ranges entry exit h);
      }

pub own-spell : OwnFitsSpell
own-spell program table label range named = fits-spell program table label range named
