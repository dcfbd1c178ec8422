-- Status items are fit still where items stand behind.
use Rattle.std.proofs.Common.{◌≡◌, ℕ, Bool, true, false, not, ◌&&◌, List, [], ◌∷◌, Option, Some, None, refl, ap, sym, ◌∙◌, subst}
use Rattle.std.specs.Prelude.{slice_get}
use Rattle.std.specs.Option.{is_some}
use Rattle.cob_tree.specs.declared.entry.Entry.{Entry}
use Rattle.cob_tree.specs.declared.file.FileEntry.{FileEntry}
use Rattle.cob_tree.specs.declared.place.Operand.TheVariants as operands
use Rattle.cob_tree.specs.declared.place.Place.{Place, out-Place}
use Rattle.cob_tree.specs.declared.program.Program.{Program}
use Rattle.cobol_read.specs.Status.{holds_two, is_status, kind_fault}
use Rattle.round_trip.specs.spelling.data_spelling.Printable.{IfAny}
use Rattle.cobol_grammar.specs.declared.expr_forms.side.ValueKind.{ValueKind}
use Rattle.cobol_grammar.specs.declared.expr_forms.side.ValueKind.TheVariants as kinds
use Rattle.round_trip.specs.spelling.expr_spelling.Printable.{judged_operand}
use Rattle.round_trip.proofs.spelling_lemmas.expr_spelling_lemmas.Layers.{judged-Place}
use Rattle.parser_combinators.specs.declared.note.Position.{Position}
use Rattle.round_trip.specs.declarations.added_entries.Items.{WholeItem, whole_entries, HasAdded, AreNew}
use Rattle.round_trip.specs.declarations.added_entries.References.{AreJudgedAlike}
use Rattle.round_trip.proofs.declarations_lemmas.added_entries_lemmas.References.{names_stay}
use Rattle.round_trip.proofs.declarations_lemmas.added_entries_lemmas.Rules.{got-added}
use Rattle.round_trip.specs.fitting_statements.own_fits.Own.{own_names}
use Rattle.end_to_end_laws.specs.read_programs.readable_parts.Laws.{HasFitStatuses}
use Rattle.end_to_end_laws.specs.read_programs.readable_parts.Read.{EachStatus, IsFitStatus}

-- where no fault is told of it, none is told where the item is such an item the more
told-none : (kind : ValueKind) (is made : Bool) (position : Position) → (is ≡ true → made ≡ true) → kind_fault kind is position ≡ None → kind_fault kind made position ≡ None
told-none kinds.Unknown is made position h e = refl
told-none kinds.Text true made position h e = ap (λ b. kind_fault kinds.Text b position) (h refl)
told-none kinds.Text false made position h e = absurd cc
told-none kinds.Edited is made position h e = absurd cc
told-none kinds.Group is made position h e = absurd cc
told-none kinds.Figure is made position h e = absurd cc
told-none kinds.Condition is made position h e = absurd cc
told-none (kinds.Number whole) is made position h e = absurd cc

module _ (program made : Program) (items : List WholeItem) (has : HasAdded program items made) (new : AreNew program items) where
  alike : AreJudgedAlike program made
  alike = names_stay.judged program made items has new

  -- an item that holds a status is there
  status-still : (place : Place) → is_status program.entries place ≡ true → is_status made.entries place ≡ true
  status-still place h = go (slice_get program.entries at) refl h
    where
      at : ℕ
      at = (out-Place place).item

      bare : Bool
      bare = not (is_some (out-Place place).window)

      go : (found : Option Entry) → slice_get program.entries at ≡ found → (holds_two found && bare) ≡ true → (holds_two (slice_get made.entries at) && bare) ≡ true
      go None e h = absurd cc
      go (Some entry) e h =
          ap (λ found. holds_two found && bare) (ap (λ list. slice_get list at) has.entries ∙ got-added program.entries (whole_entries items) at entry e) ∙ h

  fit-still : (place : Place) → IsFitStatus (own_names program) program place → IsFitStatus (own_names made) made place
  fit-still place s = record {
    fit = ap (λ judged. judged.fit) (alike.place place s.fit) ∙ s.fit;
    room = s.room;
    suits = λ position.
        ap (λ judged. kind_fault judged.kind (is_status made.entries place) position)
        (alike.operand (operands.Place place) (ap (λ judged. judged.fit) (judged-Place (own_names program) program place) ∙ s.fit))
        ∙ told-none (judged_operand (own_names program) program (operands.Place place)).kind (is_status program.entries place) (is_status made.entries place) position (status-still place) (s.suits position);
  }

  each-still : (files : List FileEntry) → EachStatus (IsFitStatus (own_names program) program) files → EachStatus (IsFitStatus (own_names made) made) files
  each-still [] h = tt
  each-still (file ∷ files) h = (one file.status h.0, each-still files h.1)
    where
      one : (place : Option Place) → IfAny (IsFitStatus (own_names program) program) place → IfAny (IsFitStatus (own_names made) made) place
      one None h = tt
      one (Some place) h = fit-still place h

  pub statuses-still : HasFitStatuses program → HasFitStatuses made
  statuses-still h = subst (EachStatus (IsFitStatus (own_names made) made)) (sym has.files) (each-still program.files h)
