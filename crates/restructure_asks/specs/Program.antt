-- How a call of the program ends.
use Rattle.std.specs.Prelude.{ℕ, ◌≡◌, Bool, false, if◌then◌else◌, ◌||◌, List, [], ◌∷◌, codes}
use Rattle.std.specs.Str.{bytes_eq}
use Rattle.cob_base.specs.Source.{SourceCall}
use Rattle.cob_base.specs.Sink.{SinkCall}
use Rattle.restructure_asks.specs.declared.command_line.TheConstants.{HELP, VERSION}
use Rattle.restructure_asks.specs.declared.status.Status.{Status}
use Rattle.restructure_asks.specs.Texts.{text_alone}
use Rattle.restructure_asks.specs.Writing.{Writes}

-- whether the word asks for a page
abbrev pub is_page_word : List ℕ → Bool
is_page_word word = bytes_eq word (codes "--help") || bytes_eq word (codes "--version")

-- whether the program itself answers the words, by a page of text
abbrev pub is_page : List (List ℕ) → Bool
is_page [] = false
is_page (word ∷ []) = is_page_word word
is_page (first ∷ second ∷ others) = false

-- the page that the word asks for
abbrev pub page_for : List ℕ → List ℕ
page_for word = if bytes_eq word (codes "--help") then HELP.now else VERSION.now

-- the page that the words ask for
abbrev pub asked_page : List (List ℕ) → List ℕ
asked_page [] = []
asked_page (word ∷ []) = page_for word
asked_page (first ∷ second ∷ others) = []

-- this page was written, or why not is noted; the source is as it was
pub record ShowsPage (page : List ℕ) (source : SourceCall) (out notes : SinkCall) (status : Status) : Type 0 where
  pub written : Writes (text_alone page) out notes status
  -- nothing of the source was read
  pub unread : source.left ≡ source.told
