-- The end of a paragraph.
use Rattle.std.proofs.Common.{◌≡◌, ℕ, zero, suc, ◌+◌, List, [], ◌∷◌, Option, Some, None, false, if◌then◌else◌, ◌==◌, refl, ap, sym, ◌∙◌, subst, add-one}
use Rattle.std.specs.Prelude.{slice_get}
use Rattle.cob_tree.specs.declared.program.Paragraph.{Paragraph}
use Rattle.cob_tree.specs.declared.program.Program.{Program}
use Rattle.control_flow_theory.specs.language.Control.{control_of, seen_paragraphs}
use Rattle.control_flow_theory.specs.language.Language as language
use Rattle.control_flow_theory.specs.semantics.Graph as graph
use Rattle.control_flow_theory.specs.lowering.Lower as lower
use Rattle.lowering_labels.specs.points.Layout.{paragraph_size, places_from, place_at, AreAt, IsLayout}
use Rattle.lowering_labels.specs.points.JumpTarget.{seen_target}
use Rattle.lowering_labels.specs.points.FallThrough.{fallen, fallen_to}

-- a paragraph is there exactly where it has a place
abbrev Paired : Option ℕ → Option language.Paragraph → ℕ → Type 0
Paired None None place = Unit {0}
Paired None (Some paragraph) place = ⊥
Paired (Some one) None place = ⊥
Paired (Some one) (Some paragraph) place = one ≡ place

paired : (first place end : ℕ) (paragraphs : List Paragraph) (number : ℕ) →
    Paired (slice_get (places_from place paragraphs) number) (slice_get (seen_paragraphs first paragraphs) number)
    (place_at (places_from place paragraphs) end number)
paired first place end [] number = tt
paired first place end (paragraph ∷ others) zero = refl
paired first place end (paragraph ∷ others) (suc number) = paired (suc first) (place + 1 + paragraph_size paragraph) end others number

fall-by : (place_of : ℕ → ℕ) (number : ℕ) (one : Option ℕ) (other : Option language.Paragraph) (place : ℕ) → Paired one other place →
    place ≡ place_of (suc number) → seen_target (fallen_to one) ≡ lower.fall_leaf place_of number other
fall-by place_of number None None place h at = refl
fall-by place_of number None (Some paragraph) place h at = absurd h
fall-by place_of number (Some one) None place h at = absurd h
fall-by place_of number (Some one) (Some paragraph) place h at = ap (λ p. seen_target (fallen_to (Some p))) (h ∙ at)

module _ (program : Program) (places : List ℕ) (end : ℕ) (layout : IsLayout program places end) (place_of : ℕ → ℕ) (at : AreAt places end place_of) (number : ℕ) where
  pub fallen-seen : seen_target (fallen places number)
      ≡ lower.fall_leaf place_of number (slice_get (control_of program).paragraphs (suc number))
  fallen-seen =
      ap (λ n. seen_target (fallen_to (slice_get places n))) (add-one number)
      ∙ fall-by place_of number (slice_get places (suc number)) (slice_get (control_of program).paragraphs (suc number)) (place_at places end (suc number))
      (subst (λ table. Paired (slice_get table (suc number)) (slice_get (control_of program).paragraphs (suc number)) (place_at table end (suc number)))
      (sym layout.table) (paired 0 0 end program.paragraphs (suc number)))
      (at (suc number))

  pub end_of-main : seen_target (fallen places number) ≡ lower.paragraph_end_target place_of (control_of program) language.Main number
  end_of-main = fallen-seen

  pub end_of-other : (entry exit : ℕ) → (exit == number) ≡ false →
      seen_target (fallen places number) ≡ lower.paragraph_end_target place_of (control_of program) (language.Part entry exit) number
  end_of-other entry exit h =
      fallen-seen
      ∙ sym (ap (λ b. if b then graph.Return else lower.fall_leaf place_of number (slice_get (control_of program).paragraphs (suc number))) h)
