-- The bytes of source text that a rule names, each by one name.
use Rattle.std.specs.Prelude.{ℕ}

-- ---- what is between tokens

-- the tab
abbrev pub tab : ℕ
tab = 9

-- the end of a line
abbrev pub line_feed : ℕ
line_feed = 10

-- a space; all bytes below it are control characters
abbrev pub space : ℕ
space = 32

-- `,`
abbrev pub comma : ℕ
comma = 44

-- `;`
abbrev pub semicolon : ℕ
semicolon = 59

-- ---- what opens and closes a literal

-- `"`
abbrev pub quote : ℕ
quote = 34

-- `'`
abbrev pub apostrophe : ℕ
apostrophe = 39

-- ---- marks

-- `(`
abbrev pub left_parenthesis : ℕ
left_parenthesis = 40

-- `)`
abbrev pub right_parenthesis : ℕ
right_parenthesis = 41

-- `*`
abbrev pub asterisk : ℕ
asterisk = 42

-- `+`
abbrev pub plus_sign : ℕ
plus_sign = 43

-- the minus sign too
abbrev pub hyphen : ℕ
hyphen = 45

-- `.`, the decimal point too
abbrev pub period : ℕ
period = 46

-- `/`
abbrev pub slash : ℕ
slash = 47

-- `:`
abbrev pub colon : ℕ
colon = 58

-- `<`
abbrev pub less_sign : ℕ
less_sign = 60

-- `=`
abbrev pub equal_sign : ℕ
equal_sign = 61

-- `>`
abbrev pub greater_sign : ℕ
greater_sign = 62

-- ---- letters and digits

-- `0`
abbrev pub digit_0 : ℕ
digit_0 = 48

-- `9`
abbrev pub digit_9 : ℕ
digit_9 = 57

-- `A`
abbrev pub capital_a : ℕ
capital_a = 65

-- `D`
abbrev pub capital_d : ℕ
capital_d = 68

-- `Z`
abbrev pub capital_z : ℕ
capital_z = 90

-- `a`
abbrev pub small_a : ℕ
small_a = 97

-- `d`
abbrev pub small_d : ℕ
small_d = 100

-- `z`
abbrev pub small_z : ℕ
small_z = 122
