-- What holds of every program text.
use Rattle.std.specs.Prelude.{ℕ, ◌≡◌, false, List, ◌∷◌, map, All, Contains, Ok, IfOk}
use Rattle.std.specs.List.Sorted.{IsNonDecreasingBy}
use Rattle.ref_format.specs.declared.joining.Literal.TheVariants.{Closed}
use Rattle.ref_format.specs.Entry.{NoEntry}
use Rattle.ref_format.specs.Line.{kept_lines, source_of}
use Rattle.ref_format.specs.Joining.{program_text}
use Rattle.ref_format.specs.Plain.{IsPlainLine, plain_line, laid}
use Rattle.ref_format.specs.Row.{Row, Begins, row_line, AreRows, text_of_rows}

-- the numbers of the kept lines of a source
abbrev pub kept_numbers : List ℕ → List ℕ
kept_numbers bytes = map (λ line. line.number) (kept_lines bytes)

-- each byte is on a kept line
abbrev pub TextStandsOnKeptLines : Type 0
TextStandsOnKeptLines =
    (bytes : List ℕ) →
    IfOk (program_text bytes) (λ text. All (λ p. Contains (kept_numbers bytes) p.line) text)

-- no byte is on an earlier line than one before it
abbrev pub LinesRise : Type 0
LinesRise =
    (bytes : List ℕ) → IfOk (program_text bytes) (λ text. IsNonDecreasingBy (λ p. p.line) text)

-- plain lines are the text, filled to column 72, where none of them begins a comment entry
abbrev pub PlainLinesAreRead : Type 0
PlainLinesAreRead =
    (texts : List (List ℕ)) → All IsPlainLine texts → NoEntry false (map plain_line texts) →
    program_text (source_of (map plain_line texts)) ≡ Ok (laid texts)

-- lines that are written are read, literals that go on over them too
abbrev pub RowsAreRead : Type 0
RowsAreRead =
    (text : List ℕ) (rows : List Row) →
    AreRows Closed 0 (Begins text ∷ rows) → NoEntry false (map row_line (Begins text ∷ rows)) →
    program_text (source_of (map row_line (Begins text ∷ rows))) ≡ Ok (text_of_rows text rows)
