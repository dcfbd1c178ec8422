-- Status items are spelled by what they are printed with.
use Rattle.std.proofs.Common.{◌≡◌, Bool, true, false, List, [], ◌∷◌, Option, Some, None, refl, ap, sym, ◌∙◌}
use Rattle.cob_tree.specs.declared.file.FileEntry.{FileEntry}
use Rattle.cob_tree.specs.declared.place.Operand.TheVariants as operands
use Rattle.cob_tree.specs.declared.place.Place.{Place}
use Rattle.cob_tree.specs.declared.program.Program.{Program}
use Rattle.cobol_lex.specs.declared.token.TokenKind.{TokenKind}
use Rattle.cobol_lex.specs.declared.token.TokenKind.TheVariants as token_kinds
use Rattle.cobol_read.specs.Status as statuses
use Rattle.cobol_read.specs.Status.{is_status, kind_fault, status_fault}
use Rattle.symbol_tables.specs.data_names.Names.{Names}
use Rattle.round_trip.specs.spelling.data_spelling.Printable.{IfAny, IsPeriod, SpellsStatus}
use Rattle.cobol_grammar.specs.declared.expr_forms.side.Side.{Side}
use Rattle.cobol_grammar.specs.declared.expr_forms.side.ValueKind.{ValueKind}
use Rattle.cobol_grammar.specs.declared.expr_forms.side.ValueKind.TheVariants as kinds
use Rattle.cobol_grammar.specs.expr_forms.Token.{is_of}
use Rattle.round_trip.specs.spelling.expr_spelling.Printable.{judged_operand}
use Rattle.round_trip.specs.spelling.expr_spelling.Spelled.{Ends, continues_place, IsOperandSide}
use Rattle.round_trip.proofs.spelling_lemmas.expr_spelling_lemmas.Levels.{data_reference}
use Rattle.parser_combinators.specs.declared.note.Position.{Position}
use Rattle.parser_combinators.specs.Form.{begins_by}
use Rattle.round_trip.specs.declarations.Named.{AreStated}
use Rattle.grammar_laws.specs.form_results.Giving.{Gives}
use Rattle.grammar_laws.proofs.form_results_lemmas.Giving as giving
use Rattle.grammar_laws.proofs.form_results_lemmas.Giving.{hence, ◌>>=◌, ◌>>◌}
use Rattle.round_trip.specs.printable.printable_tokens.Printable.{IsPrintable}
use Rattle.round_trip.proofs.spelled_forms_lemmas.Makers.{pure, note, where_behind, ending, behind_none}
use Rattle.cobol_grammar.specs.Use.{place_of}
use Rattle.end_to_end_laws.specs.read_programs.readable_parts.Read.{EachStatus, IsFitReference, IsFitStatus, ReferencesAreFit}

-- ---- its fault doesn't depend on where it stands

anywhere : (kind : ValueKind) (is : Bool) (one other : Position) → kind_fault kind is one ≡ None → kind_fault kind is other ≡ None
anywhere kinds.Unknown is one other e = refl
anywhere kinds.Text true one other e = refl
anywhere kinds.Text false one other e = absurd cc
anywhere kinds.Edited is one other e = absurd cc
anywhere kinds.Group is one other e = absurd cc
anywhere kinds.Figure is one other e = absurd cc
anywhere kinds.Condition is one other e = absurd cc
anywhere (kinds.Number whole) is one other e = absurd cc

period-ends : continues_place token_kinds.Period ≡ false
unfolding continues_place is_of
period-ends = refl

behind : (o : Option TokenKind) → IsPeriod o → Ends continues_place o
behind o b = ap (λ o. begins_by continues_place o) b ∙ period-ends

module _ (names : Names) (program : Program) where
  no-fault : (place : Place) → IsFitStatus names program place → (side : Side) → IsOperandSide names program (operands.Place place) side → status_fault program.entries side ≡ None
  no-fault place s side h =
      ap (λ what. kind_fault side.kind (is_status program.entries (place_of what)) side.position) h.what
      ∙ (ap (λ kind. kind_fault kind (is_status program.entries place) side.position) h.known.kind ∙ s.suits side.position)

  pub spelled : (place : Place) → IsFitStatus names program place → SpellsStatus (statuses.status names program.entries) program (Some place)
  unfolding statuses.status
  spelled place s taken =
      where_behind behind
      (ending (data_reference names program place s.fit s.room) (λ side h. behind_none (note (no-fault place s side h)) (λ _ _. pure (ap place_of h.what))))

  fit : (side : Side) → IsFitReference names program side → status_fault program.entries side ≡ None → IsFitStatus names program (place_of side.what)
  fit side h none = record {
    fit = h.fit;
    room = h.room;
    suits = λ position.
        anywhere (judged_operand names program (operands.Place (place_of side.what))).kind (is_status program.entries (place_of side.what)) side.position position
        (ap (λ kind. kind_fault kind (is_status program.entries (place_of side.what)) side.position) (sym h.kept.known.kind) ∙ none);
  }

  pub fit-status : ReferencesAreFit names program → Gives IsPrintable (statuses.status names program.entries) (IsFitStatus names program)
  unfolding statuses.status
  fit-status references =
      references >>= (λ side. giving.note >> giving.pure (λ n s. fit side s n.1))

  pub status-spells : ReferencesAreFit names program → Gives IsPrintable (statuses.status names program.entries) (λ place. SpellsStatus (statuses.status names program.entries) program (Some place))
  status-spells references = hence spelled (fit-status references)

  pub each-stated : (files : List FileEntry) → EachStatus (IsFitStatus names program) files → AreStated (statuses.status names program.entries) program files
  each-stated [] h = tt
  each-stated (file ∷ files) h = (one file.status h.0, each-stated files h.1)
    where
      one : (place : Option Place) → IfAny (IsFitStatus names program) place → SpellsStatus (statuses.status names program.entries) program place
      one None h = tt
      one (Some place) h = spelled place h
