-- A drafted loop file in pieces, and the file with the bounds that are missing filled in.
use Rattle.std.specs.Prelude.{codes, ◌≡◌, ℕ, zero, suc, Bool, true, false, List, [], ◌∷◌, ◌++◌, flat_map, string_bytes, if◌then◌else◌, Option, Some, None}
use Rattle.std.specs.Fmt.{decimal}
use Rattle.loop_drafts.specs.declared.drafted.Piece.{Piece}

-- the line of a bound
abbrev pub bound_line : ℕ → List ℕ
bound_line bound = codes "bound = " ++ decimal bound ++ 10 ∷ []

-- a piece as it is printed, and with a bound where its own is missing
abbrev pub printed_piece : Piece → List ℕ
printed_piece piece = string_bytes piece.text

abbrev pub filled_piece : ℕ → Piece → List ℕ
filled_piece bound piece = printed_piece piece ++ (if piece.is_open then bound_line bound else [])

-- the file as it is printed, and with a bound for each loop that has none
abbrev pub printed : List Piece → List ℕ
printed pieces = flat_map printed_piece pieces

abbrev pub filled : ℕ → List Piece → List ℕ
filled bound pieces = flat_map (filled_piece bound) pieces

-- ---- the first lines: whether returns are proved to go back, how many bytes an input has at most, where that is told, and how many stores are trusted,
-- where some are

abbrev pub returns_line : Bool → List ℕ
returns_line true = codes "# returns: proved\n"
returns_line false = codes "# returns: open\n"

abbrev pub inputs_line : Option ℕ → List ℕ
inputs_line None = []
inputs_line (Some most) = codes "# inputs: at most " ++ decimal most ++ codes " bytes\n"

abbrev pub trusted_line : ℕ → List ℕ
trusted_line zero = []
trusted_line (suc n) = codes "# trusted stores: " ++ decimal (suc n) ++ 10 ∷ []

abbrev pub first_lines : Option ℕ → Bool → (trusted : ℕ) → List ℕ
first_lines most returns trusted = returns_line returns ++ inputs_line most ++ trusted_line trusted

abbrev pub HasFirstLines : Option ℕ → Bool → (trusted : ℕ) → List ℕ → Type 0
HasFirstLines most returns trusted file = (rest : List ℕ) × (file ≡ first_lines most returns trusted ++ rest)
