-- Known bytes, through several writes.
use Rattle.std.proofs.Common.{ℕ, List, ◌++◌, Option, Some, None, ap, ◌∙◌}
use Rattle.std.specs.Io.KnownBytes.{Keeps, Appends}

pub appends_kept : (a b c : Option (List ℕ)) (bs : List ℕ) → Appends a b bs → Keeps b c → Appends a c bs
appends_kept None b c bs h k = tt
appends_kept (Some xs) None c bs h k = absurd h
appends_kept (Some xs) (Some ys) None bs h k = k
appends_kept (Some xs) (Some ys) (Some zs) bs h k = k ∙ h

pub kept_appends : (a b c : Option (List ℕ)) (bs : List ℕ) → Keeps a b → Appends b c bs → Appends a c bs
kept_appends None b c bs h k = tt
kept_appends (Some xs) None c bs h k = absurd h
kept_appends (Some xs) (Some ys) None bs h k = k
kept_appends (Some xs) (Some ys) (Some zs) bs h k = k ∙ ap (λ l. l ++ bs) h
