-- What the addresses of a versioned image stand for, by its pieces and sites.
use Rattle.std.specs.Prelude.{ℕ, ◌&&◌, ◌||◌, not, nat_le, nat_lt, Bool, List, [], ◌∷◌, Option, Some, None, is_some, if◌then◌else◌}
use Rattle.scale_base.specs.Arith.{plus}
use Rattle.graph_runs.specs.KeptSteps.{call_of}
use Rattle.loop_versions.specs.declared.pieces.Piece.{Piece}
use Rattle.loop_versions.specs.declared.pieces.Piece.TheVariants.{Copied, Branched, Jumped, Bridge, Guard, Entered, Returned}
use Rattle.loop_versions.specs.declared.pieces.Site.{Site}
use Rattle.loop_versions.specs.Pieces.{behind, in_extra, is_site}
use Rattle.loop_versions.specs.Fitting.{origin_by, calls_by, calls_round}
use Rattle.copy_bounds.specs.Copies.{Meaning}

-- the piece that an address lies in, of pieces that stand one behind the other from a place on
abbrev pub piece_round : (place : ℕ) → List Piece → ℕ → Option Piece
piece_round place [] v = None
piece_round place (p ∷ ps) v = if nat_le place v && nat_lt v (behind place p) then Some p else piece_round (behind place p) ps v

-- Where a step of the original comes from that is made at such a piece, of the instruction at an address: a return comes from its call, and
-- a call from nowhere.
abbrev pub source_by : Option Piece → (at : ℕ) → (opened : List ℕ) → Option ℕ
source_by None at opened = Some at
source_by (Some (Copied a)) at opened = Some at
source_by (Some (Branched a to)) at opened = Some at
source_by (Some (Jumped a to)) at opened = Some at
source_by (Some (Bridge a to)) at opened = Some at
source_by (Some (Guard a larger smaller limit to)) at opened = Some at
source_by (Some (Entered a to end)) at opened = None
source_by (Some (Returned a to)) at opened = call_of opened

abbrev pub without_first : List ℕ → Option (List ℕ)
without_first [] = None
without_first (r ∷ rs) = Some rs

-- the inlined calls that are open behind it
abbrev pub opened_by : Option Piece → (at : ℕ) → (opened : List ℕ) → Option (List ℕ)
opened_by None at opened = Some opened
opened_by (Some (Copied a)) at opened = Some opened
opened_by (Some (Branched a to)) at opened = Some opened
opened_by (Some (Jumped a to)) at opened = Some opened
opened_by (Some (Bridge a to)) at opened = Some opened
opened_by (Some (Guard a larger smaller limit to)) at opened = Some opened
opened_by (Some (Entered a to end)) at opened = Some (plus at 4 ∷ opened)
opened_by (Some (Returned a to)) at opened = without_first opened

module _ (pieces : List Piece) (sites : List Site) (base : ℕ) where
  abbrev pub text_at : ℕ → ℕ
  text_at v = origin_by pieces base (piece_round base pieces v) v

  abbrev pub is_extra : ℕ → Bool
  is_extra v = is_site sites v || in_extra base pieces v

  abbrev pub open_at : ℕ → List ℕ
  open_at v = calls_by (piece_round base pieces v) (calls_round pieces v)

  abbrev pub meaning : Meaning
  meaning = record {
    text_at = text_at;
    is_extra = is_extra;
    is_own = λ v. not (is_some (piece_round base pieces v)) && not (is_extra v);
    open_at = open_at;
    opened_at = λ v. if is_extra v then Some (open_at v) else opened_by (piece_round base pieces v) (text_at v) (open_at v);
    source_at = λ v. source_by (piece_round base pieces v) (text_at v) (open_at v);
  }
