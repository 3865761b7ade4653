-- What the run of the versioned image is, of a run of the original.
use Rattle.std.specs.Prelude.{◌≡◌, ℕ, ◌+◌, ◌*◌, ◌^◌, ◌<◌, nat_le, nat_lt, ◌&&◌, ◌||◌, not, Bool, false, List, length, map, filter, All, true, Some}
use Rattle.std.specs.List.{list_any}
use Rattle.scale_base.specs.declared.stepping.Stepped.{Stepped}
use Rattle.scale_base.specs.declared.stepping.Trap.{Trap}
use Rattle.scale_base.specs.Image.{Image}
use Rattle.scale_base.specs.Layout.{in_text, layout_of}
use Rattle.scale_base.specs.State.{State}
use Rattle.scale_base.specs.Run.{Run, Standing, GoesOn, HasExited, HasTrapped, run_of}
use Rattle.graph_runs.specs.RunTransitions.{returns_so}
use Rattle.loop_versions.specs.declared.pieces.Piece.{Piece}
use Rattle.loop_versions.specs.declared.pieces.Site.{Site}
use Rattle.loop_versions.specs.Pieces.{pieces_code, in_extra, is_site}
use Rattle.loop_versions.specs.Fitting.{origin, is_entered, is_returned}
use Rattle.loop_versions.specs.Made.{IsVersioned}

module _ (image versioned : Image) (pieces : List Piece) (sites : List Site) (base : ℕ) where
  -- an address lies in the block of the pieces
  abbrev pub in_block : ℕ → Bool
  in_block v = nat_le base v && nat_lt v (base + 4 * length (pieces_code image base pieces))

  -- no step of the original run goes to where the block stands in the other image
  abbrev pub StaysOutside : (levels : ℕ) (input : List ℕ) (n : ℕ) → Type 0
  StaysOutside levels input n = All (λ x. in_block x.next ≡ false) (run_of image levels input n).steps

  -- The states are the same, but that the pc of one stands for that of the other, and but for the bytes in the text of either image, which no
  -- instruction reads.
  pub record AreSameStates (s t : State) : Type 0 where
    pub pc : origin pieces base t.pc ≡ s.pc
    pub regs : t.regs ≡ s.regs
    pub bytes : (a : ℕ) → in_text (layout_of image) a ≡ false → in_text (layout_of versioned) a ≡ false → t.bytes a ≡ s.bytes a
    pub window : t.window ≡ s.window
    pub used : t.used ≡ s.used
    pub output : t.output ≡ s.output

  -- Where calls are inlined, each return of the first steps goes back to its call.
  abbrev pub GoesBack : (levels : ℕ) (input : List ℕ) (n : ℕ) → Type 0
  GoesBack levels input n = list_any is_entered pieces ≡ true → (rs : List ℕ) × (returns_so (run_of image levels input n).steps ≡ Some rs)

  -- it has trapped, too, of the same kind
  abbrev pub HasTrappedAs : Trap → Standing → Type 0
  HasTrappedAs trap GoesOn = ⊥
  HasTrappedAs trap (HasExited status) = ⊥
  HasTrappedAs trap (HasTrapped other) = other.kind ≡ trap.kind

  -- How the versioned run stands where the original one has come so far. A trap says nothing where it is at a return of an inlined call.
  abbrev pub IsSoFar : Run → Run → Standing → Type 0
  IsSoFar raw own GoesOn = (own.standing ≡ GoesOn) × AreSameStates raw.state own.state
  IsSoFar raw own (HasExited status) = (own.standing ≡ HasExited status) × (own.state.output ≡ raw.state.output)
  IsSoFar raw own (HasTrapped trap) =
      list_any (is_returned raw.state.pc) pieces ≡ false → HasTrappedAs trap own.standing × (own.state.output ≡ raw.state.output)

  -- a step at a site, a bridge or a guard, or one that fills x1 for a call, which stands for no step of the original
  abbrev pub is_extra_step : Stepped → Bool
  is_extra_step x = is_site sites x.pc || in_extra base pieces x.pc

  -- The versioned run, at a number of its steps. Without the extra ones its steps are of the same classes as those of the original, one by one:
  -- so whatever the costs of the classes are, it costs as much as the original and its extra steps.
  pub record FollowsVersioned (raw own : Run) : Type 0 where
    pub standing : IsSoFar raw own raw.standing
    pub classes : map (λ (x : Stepped). x.class) (filter (λ x. not (is_extra_step x)) own.steps) ≡ map (λ (x : Stepped). x.class) raw.steps

-- The versioned image follows each run of the original that stays outside the block, and goes back where calls are inlined, at some number
-- of its own steps.
abbrev pub VersionedRunsFollow : Type 0
VersionedRunsFollow =
    (image versioned : Image) (pieces : List Piece) (sites : List Site) (base levels : ℕ) (input : List ℕ) (n : ℕ) →
    IsVersioned image versioned pieces sites base →
    All (λ b. b < 2 ^ 8) input → StaysOutside image versioned pieces sites base levels input n →
    GoesBack image versioned pieces sites base levels input n →
    (m : ℕ) × FollowsVersioned image versioned pieces sites base (run_of image levels input n) (run_of versioned levels input m)
