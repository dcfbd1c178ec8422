-- The names that restructuring gives to procedures can be printed, and may head a paragraph.
use Rattle.std.proofs.Common.{◌≡◌, ℕ, ◌<◌, ◌^◌, true, List, [], ◌∷◌, ◌++◌, Some, None, refl, ap, arith}
use Rattle.std.specs.Prelude.{All, if◌then◌else◌}
use Rattle.std.specs.Fmt.{decimal}
use Rattle.std.proofs.lemmas.List.Elements.{All-cons, All-nil}
use Rattle.cob_tree.specs.declared.program.Paragraph.{Paragraph}
use Rattle.cobol_lex.specs.declared.token.TokenKind.TheVariants as kinds
use Rattle.cob_words.specs.numbered.Stem.{IsStem, stem_byte}
use Rattle.cob_words.proofs.numbered_lemmas.NumberedLemmas.{numbered_is_capital_word}
use Rattle.symbol_tables.specs.procedure_names.Procedures.{header_name}
use Rattle.round_trip.specs.printable.printable_tokens.Header.{IsHeaderName}
use Rattle.out_names.specs.Naming.{procedure_stem}
use Rattle.round_trip.proofs.declarations_lemmas.fresh_items_lemmas.Stems.{begun-free}
use Rattle.round_trip.specs.procedures.Names.{IsTitle}
use Rattle.round_trip.proofs.procedures_lemmas.Titles.{titled}

spelled : (b : ℕ) (bs : List ℕ) → stem_byte b ≡ true → All (λ x. stem_byte x ≡ true) bs → All (λ x. stem_byte x ≡ true) (b ∷ bs)
spelled b bs h hs = All-cons (λ x. stem_byte x ≡ true) b bs h hs

-- RX-PARA-
stem-is : IsStem procedure_stem
stem-is = record {
  begun = omega arith;
  short = omega arith;
  spelled = spelled 82 (88 ∷ 45 ∷ 80 ∷ 65 ∷ 82 ∷ 65 ∷ 45 ∷ []) refl
      (spelled 88 (45 ∷ 80 ∷ 65 ∷ 82 ∷ 65 ∷ 45 ∷ []) refl
      (spelled 45 (80 ∷ 65 ∷ 82 ∷ 65 ∷ 45 ∷ []) refl
      (spelled 80 (65 ∷ 82 ∷ 65 ∷ 45 ∷ []) refl
      (spelled 65 (82 ∷ 65 ∷ 45 ∷ []) refl
      (spelled 82 (65 ∷ 45 ∷ []) refl
      (spelled 65 (45 ∷ []) refl
      (spelled 45 [] refl (All-nil (λ x. stem_byte x ≡ true)))))))));
  first = refl;
}

abbrev pub numbered : ℕ → List ℕ
numbered number = procedure_stem ++ decimal number

pub numbered-printable : (number : ℕ) → number < 2 ^ 32 → IsHeaderName (numbered number)
unfolding header_name
numbered-printable number small = record {
  kind = kinds.Word (numbered number);
  is = ap (λ b. if b then Some (numbered number) else None) (begun-free (numbered number) refl);
  printable = (numbered_is_capital_word procedure_stem number stem-is small, refl);
}

abbrev headed : List ℕ → Paragraph
headed name = record { name = Some name; section = None; sentences = [] }

pub numbered-title : (number : ℕ) → number < 2 ^ 32 → IsTitle (numbered number)
numbered-title number small =
    (titled (headed (numbered number) ∷ []) (record { name = numbered-printable number small; section = tt; sentences = refl }, tt)).1.0
