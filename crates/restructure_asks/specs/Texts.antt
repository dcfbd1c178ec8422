-- What is written: a text to the result's sink, and where a report is asked for, its lines to the
-- notes.
use Rattle.std.specs.Prelude.{ℕ, List, Some, None}
use Rattle.restructure_asks.specs.declared.texts.Texts.{Texts}

-- a text without a report
abbrev pub text_alone : List ℕ → Texts
text_alone text = record { text = text; report = None }

-- a text with a report
abbrev pub with_report : (text report : List ℕ) → Texts
with_report text report = record { text = text; report = Some report }
