-- The kept lines, one after the other.
use Rattle.std.proofs.Common.{◌≡◌, ℕ, ◌+◌, ◌||◌, ◌&&◌, not, Bool, true, false, List, [], ◌∷◌, map, Option, Some, None, Result, Ok, Err, sym, ap, refl, ◌∙◌}
use Rattle.std.specs.Prelude.{if◌then◌else◌}
use Rattle.std.specs.List.{list_any}
use Rattle.std.specs.Str.Lines.{lines}
use Rattle.ref_format.specs.declared.placed.Placed.{Placed}
use Rattle.ref_format.specs.declared.fault.FormatFault.{FormatFault}
use Rattle.ref_format.specs.declared.fault.FormatError.{FormatError}
use Rattle.ref_format.specs.declared.fault.FormatError.TheVariants.{Fault}
use Rattle.ref_format.specs.Column.{card_of}
use Rattle.ref_format.specs.Entry.{is_division, is_comment_header, entry_goes_on, is_without_text, in_entry}
use Rattle.ref_format.specs.Line.{Line, kept_behind, kept_lines, line_of}
use Rattle.ref_format.specs.Joining.{joined, fault_of, with_line, literal_at_end, program_text}

abbrev pub inside_behind : Bool → Bool → List ℕ → Bool
inside_behind over inside card = (is_comment_header card && not over) || (entry_goes_on card && inside)

-- the kept lines, where `over` and `inside` say what stood before
abbrev pub kept_by : Bool → Bool → ℕ → List (List ℕ) → List Line
kept_by over inside number [] = []
kept_by over inside number (card ∷ cards) = if is_without_text card || inside_behind over inside card then kept_by (is_division card || over) (inside_behind over inside card) (number + 1) cards else line_of number card ∷ kept_by (is_division card || over) (inside_behind over inside card) (number + 1) cards

pub kept_behind-by : (before : List (List ℕ)) (number : ℕ) (cards : List (List ℕ)) → kept_behind before number cards ≡ kept_by (list_any is_division before) (in_entry before) number cards
kept_behind-by before number [] = refl
kept_behind-by before number (card ∷ cards) =
    let out : Bool = is_without_text card || in_entry (card ∷ before) in
    ap (λ rest. if out then rest else line_of number card ∷ rest) (kept_behind-by (card ∷ before) (number + 1) cards)

-- what is still to come of the program text
unfoldable pub text_behind : Bool → Bool → ℕ → Option ℕ → List Placed → List ℕ → Result (List Placed) FormatError
text_behind over inside number last text bytes = joined last text (kept_by over inside number (map card_of (lines bytes)))

pub text_behind-all : (bytes : List ℕ) → text_behind false false 1 None [] bytes ≡ program_text bytes
unfolding text_behind program_text kept_lines
text_behind-all bytes = ap (joined None []) (sym (kept_behind-by [] 1 (map card_of (lines bytes))))

pub text_behind-none : (over inside : Bool) (number : ℕ) (last : Option ℕ) (text : List Placed) → text_behind over inside number last text [] ≡ Ok text
unfolding text_behind
text_behind-none over inside number last text = refl

module _ (over inside now_over now_inside drops : Bool) (number : ℕ) (last : Option ℕ) (text : List Placed) (bytes line rest card : List ℕ)
    (first : lines bytes ≡ line ∷ lines rest) (card_is : card ≡ card_of line) (over_is : now_over ≡ (is_division card || over))
    (inside_is : now_inside ≡ inside_behind over inside card) (drops_is : drops ≡ (is_without_text card || now_inside)) where
  turn : text_behind over inside number last text bytes ≡ joined last text (if drops then kept_by now_over now_inside (number + 1) (map card_of (lines rest)) else line_of number card ∷ kept_by now_over now_inside (number + 1) (map card_of (lines rest)))
  unfolding text_behind
  turn = rw (first, drops_is, inside_is, over_is, card_is) refl

  pub text_behind-dropped : drops ≡ true → text_behind over inside number last text bytes ≡ text_behind now_over now_inside (number + 1) last text rest
  unfolding text_behind
  text_behind-dropped e = turn ∙ rw e refl

  pub text_behind-fault : (fault : FormatFault) → drops ≡ false → fault_of last (literal_at_end text) (line_of number card) ≡ Some fault → text_behind over inside number last text bytes ≡ Err (Fault fault)
  text_behind-fault fault e f = turn ∙ rw e (rw f refl)

  pub text_behind-kept : drops ≡ false → fault_of last (literal_at_end text) (line_of number card) ≡ None → text_behind over inside number last text bytes ≡ text_behind now_over now_inside (number + 1) (Some number) (with_line last text (line_of number card)) rest
  unfolding text_behind
  text_behind-kept e f = turn ∙ rw e (rw f refl)
