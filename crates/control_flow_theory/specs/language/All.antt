-- Tests, all of which hold.
use Rattle.std.specs.Prelude.{Bool, true, ◌&&◌, List, [], ◌∷◌, Option, Some, None}

-- each of these tests holds
abbrev pub all : List Bool → Bool
all [] = true
all (first ∷ others) = first && all others

-- of what may be absent

-- each of these tests holds, or there are none
abbrev pub all_if : Option (List Bool) → Bool
all_if None = true
all_if (Some tests) = all tests

-- the test holds, or there is none
abbrev pub if_there : Option Bool → Bool
if_there None = true
if_there (Some test) = test
