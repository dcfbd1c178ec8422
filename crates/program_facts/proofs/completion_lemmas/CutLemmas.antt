-- Lists that are cut.
use Rattle.std.proofs.Common.{◌≡◌, List, [], ◌∷◌, ◌++◌, refl, ap}
use Rattle.control_flow_theory.specs.language.Language as language
use Rattle.control_flow_theory.specs.language.Control.{stmts_of}

-- statements, and then others
abbrev pub joined : language.Stmts → language.Stmts → language.Stmts
joined language.none others = others
joined (language.also stmt stmts) others = language.also stmt (joined stmts others)

pub joined_one : (stmts : List language.Stmt) (stmt : language.Stmt) (others : language.Stmts) →
    joined (stmts_of (stmts ++ stmt ∷ [])) others ≡ joined (stmts_of stmts) (language.also stmt others)
joined_one [] stmt others = refl
joined_one (first ∷ stmts) stmt others = ap (language.also first) (joined_one stmts stmt others)

pub joined_none : (stmts : language.Stmts) → joined stmts language.none ≡ stmts
joined_none language.none = refl
joined_none (language.also stmt stmts) = ap (language.also stmt) (joined_none stmts)
