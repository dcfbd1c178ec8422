-- Paragraphs that all have names, and no sections.
use Rattle.std.proofs.Common.{◌≡◌, Bool, false, List, [], ◌∷◌, Option, Some, None, refl, sym, subst}
use Rattle.std.specs.Prelude.{ℕ}
use Rattle.cob_tree.specs.declared.program.Paragraph.{Paragraph}
use Rattle.cob_tree.specs.declared.program.Sentence.{Sentence}
use Rattle.round_trip.specs.spelling.stmt_spelling.Division.{is_bare_by}
use Rattle.round_trip.specs.procedures.Outline.{MayFollow, is_bare, AreHeaded, MayBegin, AreOutlined, HaveNamesAlone}

follows : (name section : Option (List ℕ)) (word : List ℕ) → name ≡ Some word → section ≡ None → MayFollow false name section
follows (Some name) None word n s = refl
follows None section word n s = absurd cc
follows (Some name) (Some section) word n s = absurd cc

not-bare : (name section : Option (List ℕ)) (sentences : List Sentence) → section ≡ None → is_bare_by name section sentences ≡ false
not-bare None None sentences s = refl
not-bare (Some name) None sentences s = refl
not-bare name (Some section) sentences s = absurd cc

headed : (list : List Paragraph) (bare : Bool) → bare ≡ false → HaveNamesAlone list → AreHeaded bare list
headed [] bare b h = tt
headed (p ∷ list) bare b h = (
  subst (λ v. MayFollow v p.name p.section) (sym b) (follows p.name p.section h.0.0.0 h.0.0.1 h.0.1),
  headed list (is_bare p) (not-bare p.name p.section p.sentences h.0.1) h.1,
)

begins : (name section : Option (List ℕ)) (sentences : List Sentence) (list : List Paragraph) (word : List ℕ) → name ≡ Some word → AreHeaded false (record { name = name; section = section; sentences = sentences } ∷ list) →
    MayBegin name section (record { name = name; section = section; sentences = sentences }) list
begins None section sentences list word n a = absurd cc
begins (Some name) None sentences list word n a = a
begins (Some name) (Some section) sentences list word n a = a

pub named-outlined : (p : Paragraph) (list : List Paragraph) → HaveNamesAlone (p ∷ list) → AreOutlined (p ∷ list)
named-outlined p list h = begins p.name p.section p.sentences list h.0.0.0 h.0.0.1 (headed (p ∷ list) false refl h)
