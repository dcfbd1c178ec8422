-- Paragraphs with their headers.
use Rattle.std.proofs.Common.{ℕ, ◌+◌, Bool, false, ◌||◌, is_some, List, [], ◌∷◌, length, Option, Some, None}
use Rattle.cob_tree.specs.declared.program.Paragraph.{Paragraph}
use Rattle.cob_tree.specs.declared.program.Program.{Program}
use Rattle.cob_tree.specs.declared.program.Sentence.{Sentence}
use Rattle.cobol_grammar.specs.stmt_forms.Part.{Parts}
use Rattle.round_trip.specs.spelling.stmt_spelling.Division.{paragraph_tokens, SpellsHeaded, SpellsParagraphs, SpellsFirst, SpellsDivision}
use Rattle.round_trip.specs.spelling.stmt_spelling.Part.{Kept}
use Rattle.round_trip.specs.procedures.readable_stmts.Body.{IsHeaded, AreHeaders, SpellsBody, SpellsBehind, SpellsFirstBody, SpellsBodies, is_bare}

module _ {Side Known : Type 0} (parts : Parts Side Known) (kept : Kept Side) (program : Program) where
  headed : (bare in_section : Bool) (taken : ℕ) (name section : Option (List ℕ)) (list : List Sentence) → SpellsBody parts kept program bare in_section name section list →
      IsHeaded parts kept program taken name section → SpellsHeaded parts kept program bare in_section taken name section list
  headed bare in_section taken None None list b h = absurd b
  headed bare in_section taken (Some name) None list b h = (b.0, (h, b.1))
  headed bare in_section taken None (Some section) list b h = (h, b)
  headed bare in_section taken (Some name) (Some section) list b h = (h.0, (h.1, b))

  all_headed : (bare in_section : Bool) (taken : ℕ) (list : List Paragraph) → SpellsBehind parts kept program bare in_section list → AreHeaders parts kept program taken list →
      SpellsParagraphs parts kept program bare in_section taken list
  all_headed bare in_section taken [] b h = tt
  all_headed bare in_section taken (paragraph ∷ list) b h = (
    headed bare in_section taken paragraph.name paragraph.section paragraph.sentences b.0 h.0,
    all_headed (is_bare parts kept program paragraph) (is_some paragraph.section || in_section) (taken + length (paragraph_tokens parts kept program paragraph)) list b.1 h.1,
  )

  first_headed : (name section : Option (List ℕ)) (taken : ℕ) (first : Paragraph) (others : List Paragraph) → SpellsFirstBody parts kept program name section first others →
      AreHeaders parts kept program taken (first ∷ others) → SpellsFirst parts kept program name section taken first others
  first_headed None None taken first others b h = (b.0, (b.1.0, all_headed false false (taken + length (paragraph_tokens parts kept program first)) others b.1.1 h.1))
  first_headed (Some name) None taken first others b h = all_headed false false taken (first ∷ others) b h
  first_headed None (Some section) taken first others b h = all_headed false false taken (first ∷ others) b h
  first_headed (Some name) (Some section) taken first others b h = all_headed false false taken (first ∷ others) b h

  pub division : (taken : ℕ) (list : List Paragraph) → SpellsBodies parts kept program list → AreHeaders parts kept program taken list → SpellsDivision parts kept program taken list
  division taken [] b h = absurd b
  division taken (first ∷ others) b h = first_headed first.name first.section taken first others b h
