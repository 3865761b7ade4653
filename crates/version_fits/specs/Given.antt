-- Scaffold: loop files that may be given.
use Rattle.std.specs.Prelude.{ℕ, List, [], option_map, unwrap_or, Option}
use Rattle.std.specs.Borrow.{Bor}

-- the one that is given
abbrev pub given_file : Option (Bor (List ℕ)) → Option (List ℕ)
given_file given = option_map (λ l. l.now) given

-- and its bytes, or none
abbrev pub given_bytes : Option (Bor (List ℕ)) → List ℕ
given_bytes given = unwrap_or (given_file given) []
