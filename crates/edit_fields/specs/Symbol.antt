-- The symbols of a mask, in capitals.
use Rattle.std.specs.Prelude.{ℕ, Bool, ◌==◌, ◌||◌}

-- a digit that is always shown
abbrev pub symbol_9 : ℕ
symbol_9 = 57

-- `Z`, which fills with spaces
abbrev pub symbol_z : ℕ
symbol_z = 90

-- `*`, which fills with asterisks
abbrev pub symbol_star : ℕ
symbol_star = 42

-- `+`, a sign of every number
abbrev pub symbol_plus : ℕ
symbol_plus = 43

-- `-`, a sign of numbers below zero
abbrev pub symbol_minus : ℕ
symbol_minus = 45

-- `$`, the currency sign
abbrev pub symbol_dollar : ℕ
symbol_dollar = 36

-- `B`, which shows a space
abbrev pub symbol_b : ℕ
symbol_b = 66

-- `0`, which shows itself
abbrev pub symbol_0 : ℕ
symbol_0 = 48

-- `/`, which shows itself
abbrev pub symbol_slash : ℕ
symbol_slash = 47

-- `,`, which shows itself
abbrev pub symbol_comma : ℕ
symbol_comma = 44

-- the decimal point
abbrev pub symbol_period : ℕ
symbol_period = 46

-- where the decimal point is thought to be
abbrev pub symbol_v : ℕ
symbol_v = 86

-- the first letter of CR
abbrev pub symbol_c : ℕ
symbol_c = 67

-- the second letter of CR
abbrev pub symbol_r : ℕ
symbol_r = 82

-- the first letter of DB, whose second is `B`
abbrev pub symbol_d : ℕ
symbol_d = 68

-- ---- what shows a space

-- the byte of a space
abbrev pub space : ℕ
space = 32

-- ---- their kinds

-- plus or minus
abbrev pub is_sign : ℕ → Bool
is_sign symbol = symbol == symbol_plus || symbol == symbol_minus

-- a sign or `$`, which floats where it comes twice
abbrev pub is_currency_or_sign : ℕ → Bool
is_currency_or_sign symbol = is_sign symbol || symbol == symbol_dollar

-- Z or `*`, which stands for leading zeros alone
abbrev pub is_suppressor : ℕ → Bool
is_suppressor symbol = symbol == symbol_z || symbol == symbol_star

-- it has no digit and shows itself, or a space
abbrev pub is_insertion : ℕ → Bool
is_insertion symbol =
    symbol == symbol_b || symbol == symbol_0 || symbol == symbol_slash || symbol == symbol_comma

-- where the point is shown, or thought to be
abbrev pub is_point : ℕ → Bool
is_point symbol = symbol == symbol_period || symbol == symbol_v

-- CR and DB begin with it
abbrev pub is_tail_letter : ℕ → Bool
is_tail_letter symbol = symbol == symbol_c || symbol == symbol_d

-- a symbol of masks
abbrev pub is_symbol : ℕ → Bool
is_symbol symbol =
    is_currency_or_sign symbol || is_suppressor symbol || symbol == symbol_9
    || is_insertion symbol || is_point symbol || is_tail_letter symbol || symbol == symbol_r
