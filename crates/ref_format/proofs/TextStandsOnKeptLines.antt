-- Each byte of a text stands on a kept line.
use Rattle.std.proofs.Common.{◌≡◌, ℕ, ◌<◌, true, false, cond, List, [], ◌∷◌, ◌++◌, length, map, reverse, take, get_or, Option, Some, None, sym, ap, refl, ◌∙◌, append-nil}
use Rattle.std.specs.Prelude.{All, Contains, IfOk, ◌==◌}
use Rattle.std.proofs.lemmas.List.{reverse-append, reverse-reverse, length-map, get_or-map}
use Rattle.std.proofs.lemmas.List.Elements.{All-nil, All-cons, All-head, All-tail, All-append, All-take}
use Rattle.std.proofs.Math.Seq.{take-append_seam}
use Rattle.ref_format.specs.declared.placed.Placed.{Placed}
use Rattle.ref_format.specs.declared.joining.Literal.{Literal}
use Rattle.ref_format.specs.declared.joining.Literal.TheVariants.{Closed, InQuotes, InApostrophes}
use Rattle.std.specs.Str.Lines.{lines}
use Rattle.ref_format.specs.Column.{columns, is_continuation}
use Rattle.ref_format.specs.Line.{Line, kept_lines}
use Rattle.ref_format.specs.Placed.{placed}
use Rattle.ref_format.specs.Joining.{literal_at_end, unspaced_front, trimmed, continuing, line_end, with_line, fault_of, joined, joined_or, program_text}
use Rattle.ref_format.specs.Laws.{TextStandsOnKeptLines}

-- what a trim takes off
front_cut : (text : List Placed) → (off : List Placed) × (text ≡ off ++ unspaced_front text)
front_cut [] = ([], refl)
front_cut (p ∷ text) = elim (p.byte == 32) as (λ t. (off : List Placed) × (p ∷ text ≡ off ++ cond t (unspaced_front text) (p ∷ text))) [ true ↦ (p ∷ (front_cut text).0, ap (λ rest. p ∷ rest) (front_cut text).1) | false ↦ ([], refl) ]

pub trimmed_cut : (literal : Literal) (text : List Placed) → (off : List Placed) × (text ≡ trimmed literal text ++ off)
trimmed_cut Closed text =
    let cut = front_cut (reverse text) in
    (reverse cut.0, sym (reverse-reverse text) ∙ ap reverse cut.1 ∙ reverse-append cut.0 (unspaced_front (reverse text)))
trimmed_cut InQuotes text = ([], sym (append-nil text))
trimmed_cut InApostrophes text = ([], sym (append-nil text))

pub front_of_all : (P : Placed → Type 0) (front back text : List Placed) → text ≡ front ++ back → All P text → All P front
front_of_all P front back text e all =
    let whole : All P (front ++ back) = rw e at all in
    let part : All P (take (length front) (front ++ back)) = All-take P (length front) (front ++ back) whole in
    rw take-append_seam at part

pub All-placed : (P : ℕ → Type 0) (number : ℕ) (bytes : List ℕ) → P number → All (λ p. P p.line) (placed number bytes)
All-placed P number [] h = All-nil (λ p. P p.line)
All-placed P number (b ∷ bytes) h = All-cons (λ p. P p.line) (record { byte = b; line = number }) (placed number bytes) h (All-placed P number bytes h)

-- every byte's line has P where the kept lines have it
module _ (P : ℕ → Type 0) where
  abbrev pub Last : Option ℕ → Type 0
  Last None = Unit {0}
  Last (Some number) = P number

  pub All-line_end : (last : Option ℕ) → Last last → All (λ p. P p.line) (line_end last)
  All-line_end None h = All-nil (λ p. P p.line)
  All-line_end (Some number) h = All-placed P number (10 ∷ []) h

  pub All-with_line : (last : Option ℕ) (text : List Placed) (line : Line) → Last last → All (λ p. P p.line) text → P line.number → All (λ p. P p.line) (with_line last text line)
  All-with_line last text line l all here =
      let literal = literal_at_end text in
      let cut = trimmed_cut literal text in
      elim (is_continuation line.card) as (λ t. All (λ p. P p.line) (cond t (trimmed literal text ++ placed line.number (continuing literal line.card)) (text ++ line_end last ++ placed line.number (columns 8 72 line.card)))) [
        | true ↦ All-append (λ p. P p.line) (trimmed literal text) (placed line.number (continuing literal line.card)) (front_of_all (λ p. P p.line) (trimmed literal text) cut.0 text cut.1 all) (All-placed P line.number (continuing literal line.card) here)
        | false ↦ All-append (λ p. P p.line) (text ++ line_end last) (placed line.number (columns 8 72 line.card)) (All-append (λ p. P p.line) text (line_end last) all (All-line_end last l)) (All-placed P line.number (columns 8 72 line.card) here)
      ]

  pub All-joined : (last : Option ℕ) (text : List Placed) (lines : List Line) → Last last → All (λ p. P p.line) text → All (λ line. P line.number) lines → IfOk (joined last text lines) (λ t. All (λ p. P p.line) t)
  All-joined last text [] l all here = all
  All-joined last text (line ∷ lines) l all here =
      let head : P line.number = All-head (λ l'. P l'.number) line lines here in
      let rest = All-joined (Some line.number) (with_line last text line) lines head (All-with_line last text line l all head) (All-tail (λ l'. P l'.number) line lines here) in
      elim (fault_of last (literal_at_end text) line) as (λ o. IfOk (joined_or o (joined (Some line.number) (with_line last text line) lines)) (λ t. All (λ p. P p.line) t)) [ Some fault ↦ tt | None ↦ rest ]

pub text_stands_on_kept_lines : TextStandsOnKeptLines
unfolding program_text
text_stands_on_kept_lines bytes =
    let lines = kept_lines bytes in
    let numbers : List ℕ = map (λ (line : Line). line.number) lines in
    let here : All (λ (line : Line). Contains numbers line.number) lines = λ k d h. (k, rw length-map h, number_at lines k d h) in
    All-joined (Contains numbers) None [] lines tt (All-nil (λ (p : Placed). Contains numbers p.line)) here where
      number_at : (lines : List Line) (k : ℕ) (d : Line) → k < length lines → get_or (map (λ (line : Line). line.number) lines) k (get_or lines k d).number ≡ (get_or lines k d).number
      number_at lines k d h = get_or-map (λ (line : Line). line.number) lines k d (get_or lines k d).number h
