-- The paragraphs of generated programs, by their names.
use Rattle.std.proofs.Common.{◌≡◌, ℕ, zero, suc, ◌+◌, ◌*◌, ◌<◌, ◌≤◌, List, [], ◌∷◌, length, Some, None, slice_get, if◌then◌else◌, refl, ap, sym, ◌∙◌, subst, arith}
use Rattle.cob_tree.specs.declared.program.Paragraph.{Paragraph}
use Rattle.cob_tree.specs.declared.program.Program.{Program}
use Rattle.unparser.specs.File.{label_of, paragraph_label}
use Rattle.round_trip.specs.spelling.Named.{IsLabel}
use Rattle.symbol_tables.specs.declared.procedure_names.table.ProcedureTable.{ProcedureTable}
use Rattle.symbol_tables.specs.procedure_names.Procedures.{header_of, range_of}
use Rattle.round_trip.specs.procedures.Names.{AreDifferent, IfTitle, AreTitled, IsTitle}
use Rattle.round_trip.specs.procedures.Outline.{HaveNamesAlone, HasProcedures}
use Rattle.round_trip.specs.procedures.Told.{own_procedures}
use Rattle.round_trip.proofs.procedures_lemmas.Heads.{names-are-own, Own, own-told}
use Rattle.round_trip.proofs.procedures_lemmas.Named.{named-outlined}
use Rattle.round_trip.proofs.procedures_lemmas.Spans.{Rows, Spot, spot-at, outlined-behind}
use Rattle.round_trip.proofs.procedures_lemmas.Titles as titles
use Rattle.program_gen.specs.Generated.{next_of, group_word, groups_of, main_of, generated}
use Rattle.end_to_end_laws.proofs.generated_lemmas.Printable.{printable}
use Rattle.end_to_end_laws.proofs.generated_lemmas.Different.{different}

-- ---- all have names, and no sections

groups-named : (count group x : ℕ) → HaveNamesAlone (groups_of count group x)
groups-named zero group x = tt
groups-named (suc count) group x =
    (((group_word group 1, refl), refl), (((group_word group 2, refl), refl), (((group_word group 3, refl), refl), (((group_word group 4, refl), refl), groups-named count (suc group) (next_of (next_of (next_of x)))))))

named : (n : ℕ) → HaveNamesAlone (generated n).paragraphs
named n = (((_, refl), refl), groups-named n 1 n)

groups-count : (count group x : ℕ) → length (groups_of count group x) ≡ 4 * count
groups-count zero group x = refl
groups-count (suc count) group x = let more = groups-count count (suc group) (next_of (next_of (next_of x))) in omega (arith, more)

pub paragraph-count : (n : ℕ) → length (generated n).paragraphs ≡ 1 + 4 * n
paragraph-count n = let more = groups-count n 1 n in omega (arith, more)

pub has-procedures : (n : ℕ) → n ≤ 1249 → HasProcedures (generated n)
has-procedures n small = record {
  outlined = named-outlined (main_of n) (groups_of n 1 n) (named n);
  titled = titles.titled (generated n).paragraphs (printable n small).paragraphs;
  different = different n small;
}

-- ---- the label of each stands for it alone

record NamedAt (list : List Paragraph) (at : ℕ) : Type 0 where
  paragraph : Paragraph
  there : slice_get list at ≡ Some paragraph
  name : List ℕ
  is : paragraph.name ≡ Some name

named-at : (list : List Paragraph) → HaveNamesAlone list → (at : ℕ) → at < length list → NamedAt list at
named-at [] h at low = absurd (omega (arith, low))
named-at (p ∷ list) h zero low = record { paragraph = p; there = refl; name = h.0.0.0; is = h.0.0.1 }
named-at (p ∷ list) h (suc at) low =
    let more = named-at list h.1 at (omega (arith, low)) in
    record { paragraph = more.paragraph; there = more.there; name = more.name; is = more.is }

some-is : {A : Type 0} {x y : A} → Some x ≡ Some y → x ≡ y
some-is e = cc

title-at : (list : List Paragraph) → AreTitled list → (at : ℕ) (p : Paragraph) → slice_get list at ≡ Some p → IfTitle p.name
title-at [] t at p e = absurd cc
title-at (q ∷ list) t zero p e = subst (λ (r : Paragraph). IfTitle r.name) (some-is e) t.1.0
title-at (q ∷ list) t (suc at) p e = title-at list t.1.1 at p e

module _ (program : Program) (taken : ℕ) (H : HasProcedures program) where
  abbrev table : ProcedureTable
  table = own_procedures program taken

  own : Own program program.paragraphs taken table
  own = own-told program taken H

  apart : AreDifferent table.names
  apart = subst AreDifferent (sym (ap (λ t. t.names) own ∙ names-are-own program program.paragraphs 0 taken 0)) H.different

  rows : Rows program table [] [] 0 taken program.paragraphs
  rows =
      let count : length program.paragraphs ≡ 0 + length program.paragraphs = omega arith in
      record { names = ap (λ t. t.names) own; headers = ap (λ t. t.headers) own; starts = ap (λ t. t.starts) own; count = ap (λ t. t.count) own ∙ count }

  spot : (at : ℕ) (p : Paragraph) → slice_get program.paragraphs at ≡ Some p → Spot program table apart program.paragraphs 0 at p
  spot at p e =
      let none : 0 + at ≡ at = omega arith in
      subst (λ n. Spot program table apart program.paragraphs 0 n p) none (spot-at program table apart program.paragraphs [] [] 0 taken rows (outlined-behind program.paragraphs H.outlined) at p e)

  named-label : (at : ℕ) → NamedAt program.paragraphs at → IsLabel table program at (at, at)
  named-label at N =
      let t : IsTitle N.name = subst IfTitle N.is (title-at program.paragraphs H.titled at N.paragraph N.there) in
      record {
        name = N.name;
        tokens = ap label_of N.there ∙ ap (λ o. paragraph_label o N.paragraph.section) N.is;
        named = t.named;
        found = ap (λ b. if b then range_of table (header_of table N.name) else None) t.capital ∙ (spot at N.paragraph N.there).named N.name N.is;
      }

pub labelled : (n taken : ℕ) → n ≤ 1249 → (at : ℕ) → at < 1 + 4 * n → IsLabel (own_procedures (generated n) taken) (generated n) at (at, at)
labelled n taken small at low =
    named-label (generated n) taken (has-procedures n small) at
    (named-at (generated n).paragraphs (named n) at (subst (λ count. at < count) (sym (paragraph-count n)) low))
