-- What the words ask.
use Rattle.std.specs.Prelude.{ℕ, ◌≤◌, ◌+◌, nat_lt, if◌then◌else◌, Bool, true, false, List, [], ◌∷◌, Option, Some, None, option_map, option_and_then, codes}
use Rattle.std.specs.Str.{bytes_eq}
use Rattle.cob_tree.specs.Digits.{digits_value}
use Rattle.cob_base.specs.Limit.{max_source}
use Rattle.restructure_asks.specs.declared.ask.Ask.{Ask}
use Rattle.restructure_asks.specs.declared.ask.Ask.TheVariants.{Restructure, Report, Check, Run, Compare, Generate, Trial}

-- the number that 1 to 18 digits spell
abbrev pub number_of : List ℕ → Option ℕ
number_of [] = None
number_of (byte ∷ bytes) = digits_value (byte ∷ bytes)

-- the number of the last program that is generated
abbrev pub last_program : ℕ
last_program = 1249

-- the number, where a program is generated for it
abbrev pub in_range : ℕ → Option ℕ
in_range n = if nat_lt n 1 then None else if nat_lt last_program n then None else Some n

-- the number of a program that is generated
abbrev pub program_number : List ℕ → Option ℕ
program_number bytes = option_and_then in_range (number_of bytes)

-- the ask of one word
abbrev pub ask_of_word : List ℕ → Option Ask
ask_of_word word =
    if bytes_eq word (codes "restructure") then Some Restructure
    else if bytes_eq word (codes "check") then Some Check
    else None

-- the ask of restructure with one more word
abbrev pub report_of : List ℕ → Option Ask
report_of option = if bytes_eq option (codes "--report") then Some Report else None

-- the ask to generate the program of a number
abbrev pub generate_of : List ℕ → Option Ask
generate_of number = option_map (λ n. Generate n) (program_number number)

-- the ask to try the program of a number
abbrev pub trial_of : List ℕ → Option Ask
trial_of number = option_map (λ n. Trial n) (program_number number)

-- the ask of two words: restructure --report, generate and a number, or trial and a number
abbrev pub ask_of_two : (word other : List ℕ) → Option Ask
ask_of_two word other =
    if bytes_eq word (codes "restructure") then report_of other
    else if bytes_eq word (codes "generate") then generate_of other
    else if bytes_eq word (codes "trial") then trial_of other
    else None

-- the ask to run a source for so many steps
abbrev pub run_of : List ℕ → Option Ask
run_of number = option_map (λ steps. Run steps) (number_of number)

-- the ask to compare two programs within so many steps
abbrev pub compare_of : List ℕ → Option Ask
compare_of number = option_map (λ steps. Compare steps) (number_of number)

-- the ask of three words: run or compare, --steps and a number
abbrev pub steps_of : (word option number : List ℕ) → Option Ask
steps_of word option number =
    if bytes_eq option (codes "--steps")
    then (if bytes_eq word (codes "run") then run_of number
    else if bytes_eq word (codes "compare") then compare_of number
    else None) else None

-- the ask of the words, where they are one
abbrev pub ask_of : List (List ℕ) → Option Ask
ask_of [] = None
ask_of (word ∷ []) = ask_of_word word
ask_of (word ∷ other ∷ []) = ask_of_two word other
ask_of (word ∷ option ∷ number ∷ []) = steps_of word option number
ask_of (first ∷ second ∷ third ∷ fourth ∷ others) = None

-- a program is generated for the number
pub record IsProgramNumber (n : ℕ) : Type 0 where
  -- it is 1 at least
  pub low : 1 ≤ n
  -- it is the last program's at most
  pub high : n ≤ last_program

-- an ask about a generated program is about one that is there
abbrev pub HasProgram : Ask → Type 0
HasProgram (Generate n) = IsProgramNumber n
HasProgram (Trial n) = IsProgramNumber n
HasProgram other = Unit {0}

-- whether the ask runs a program over the bench
abbrev pub uses_bench : Option Ask → Bool
uses_bench (Some (Run steps)) = true
uses_bench (Some (Compare steps)) = true
uses_bench _ = false

-- whether the ask runs a program over the second bench
abbrev pub uses_second : Option Ask → Bool
uses_second (Some (Compare steps)) = true
uses_second _ = false

-- how many bytes of the source are read: to its end, or to the first byte past the limit
abbrev pub reads : Option Ask → ℕ
reads None = 0
reads (Some Restructure) = max_source + 1
reads (Some Report) = max_source + 1
reads (Some Check) = max_source + 1
reads (Some (Run steps)) = max_source + 1
reads (Some (Compare steps)) = max_source + 1
reads (Some (Generate n)) = 0
reads (Some (Trial n)) = 0
