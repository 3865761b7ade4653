-- An image and the one that is stored of it with stubs, and the runs of the original that the stored one follows.
use Rattle.std.specs.Prelude.{◌≡◌, ℕ, ℤ, ◌+◌, ◌/◌, ◌%◌, ◌^◌, ◌<◌, ◌≤◌, true, List, [], ◌∷◌, length, All, Some, None, Ok}
use Rattle.scale_base.specs.declared.fragments.Fragment.{Fragment}
use Rattle.scale_base.specs.declared.fragments.Fragment.TheVariants.{Switch, Exit, Reset, Count, Lowest, Tally}
use Rattle.scale_base.specs.declared.instruction.Instr.TheVariants as instr
use Rattle.scale_base.specs.Image.{Image, image_of, loaded_byte, is_word_address}
use Rattle.scale_base.specs.Layout.{layout_of}
use Rattle.scale_base.specs.Reading.{instr_of}
use Rattle.scale_base.specs.Arith.{plus, moved_by}
use Rattle.scale_base.specs.State.{word_at}
use Rattle.scale_base.specs.Run.{GoesOn, run_of}
use Rattle.elf_patch.specs.Stored.{stored_image}
use Rattle.stored_laws.specs.StoredView.{IsStorable}
use Rattle.stub_writer.specs.Fragments.{IsShadow}
use Rattle.stub_writer.specs.Stubs.{Site, Way, Place, Forked, Straight, out_of_reach, patches_from, block_bytes}
use Rattle.stored_runs.specs.Meaning.{four_bits}
use Rattle.stored_runs.specs.Marks.{shadow_first, shadow_after}
use Rattle.stored_runs.specs.Legs.{Leg, AreLegs, originals, all_steps, Meets, Holds, steps_to}

-- ---- what is asked of the marks

-- a word of entries: each is a level
abbrev pub IsTable : ℕ → ℕ → Type 0
IsTable levels word = (word < 2 ^ 32) × ((i : ℕ) → i < levels → four_bits word i < levels)

-- A fragment whose tables hold levels, and that has a row for each count up to the counter's limit. `limits` gives the greatest count of each
-- counter.
abbrev pub IsSafe : ℕ → (ℕ → ℕ) → Fragment → Type 0
IsSafe levels limits (Switch word) = IsTable levels word
IsSafe levels limits (Exit counter shift rows) = IsShadow counter × (shift < 32) × (length rows ≤ 16) ×
    (limits counter / 2 ^ shift < length rows) × All (IsTable levels) rows
IsSafe levels limits (Reset counter) = IsShadow counter
IsSafe levels limits (Count counter) = IsShadow counter
IsSafe levels limits (Lowest down) = Unit {0}
IsSafe levels limits (Tally counter shift from) = IsShadow counter × (shift < 32) × (1 ≤ from) × (from < 2048) ×
    (limits counter + 1 < 2 ^ 31)

-- a fragment that stores nothing at the port
abbrev pub IsQuiet : Fragment → Type 0
IsQuiet (Switch word) = ⊥
IsQuiet (Exit counter shift rows) = ⊥
IsQuiet (Reset counter) = Unit {0}
IsQuiet (Count counter) = Unit {0}
IsQuiet (Lowest down) = ⊥
IsQuiet (Tally counter shift from) = ⊥

-- at most the first one stores at the port
abbrev pub AreOrdered : List Fragment → Type 0
AreOrdered [] = Unit {0}
AreOrdered (f ∷ fs) = All IsQuiet fs

-- the fragments of a way to an address
pub record IsSafeWay (levels : ℕ) (limits : ℕ → ℕ) (w : Way) : Type 0 where
  pub few : length w.fragments ≤ 17
  pub safe : All (IsSafe levels limits) w.fragments
  pub ordered : AreOrdered w.fragments
  pub small : w.to < 2 ^ 32
  pub even : w.to % 4 ≡ 0

-- the ways are those of the branch or the jump that stands at the address
abbrev pub IsOfImage : Image → ℕ → Place → Type 0
IsOfImage image at (Forked op rs1 rs2 untaken taken) =
    (offset : ℤ) × (instr_of (word_at (loaded_byte image) at) ≡ Some (instr.Branch op rs1 rs2 offset)) × (untaken.to ≡ plus at 4) ×
    (taken.to ≡ moved_by at offset)
IsOfImage image at (Straight way) =
    (offset : ℤ) × (instr_of (word_at (loaded_byte image) at) ≡ Some (instr.Jal 0 offset)) × (way.to ≡ moved_by at offset)

abbrev pub AreSafeWays : ℕ → (ℕ → ℕ) → Place → Type 0
AreSafeWays levels limits (Forked op rs1 rs2 untaken taken) = (rs1 < 32) × (rs2 < 32) × IsSafeWay levels limits untaken ×
    IsSafeWay levels limits taken
AreSafeWays levels limits (Straight way) = IsSafeWay levels limits way

pub record IsSafeSite (image : Image) (levels : ℕ) (limits : ℕ → ℕ) (site : Site) : Type 0 where
  pub word : is_word_address image site.at ≡ true
  pub place : IsOfImage image site.at site.place
  pub ways : AreSafeWays levels limits site.place

abbrev pub AreAscending : List Site → Type 0
AreAscending [] = Unit {0}
AreAscending (site ∷ sites) = All (λ later. site.at < later.at) sites × AreAscending sites

-- The image of a file, and what is stored of it: the stubs of marked instructions at a base, and a starting level. Its machine has so many levels.
pub record IsStubbed (file : List ℕ) (image : Image) (levels : ℕ) (limits : ℕ → ℕ) (sites : List Site) (base start : ℕ) (stored : Image)
    : Type 0 where
  pub read : image_of file ≡ Ok image
  pub storable : IsStorable image (patches_from base sites) base (block_bytes base sites) start
  pub stored_is : image_of (stored_image file (patches_from base sites) base (block_bytes base sites) start) ≡ Ok stored
  pub near : out_of_reach base sites ≡ None
  pub ascending : AreAscending sites
  pub safe : All (IsSafeSite image levels limits) sites
  pub start_is_level : start < levels
  pub few_levels : levels ≤ 8
  pub small_limits : (k : ℕ) → limits k ≤ 2 ^ 31

-- ---- what is asked of a run of the original

-- as long as it goes on it stands in the text
abbrev pub StaysInText : Image → ℕ → List ℕ → ℕ → Type 0
StaysInText image levels input n =
    (m : ℕ) → m < n → (run_of image levels input m).standing ≡ GoesOn → is_word_address image (run_of image levels input m).state.pc ≡ true

-- and the shadow counters keep their limits
abbrev pub KeepsLimits : Image → ℕ → (ℕ → ℕ) → List Site → ℕ → List ℕ → ℕ → Type 0
KeepsLimits image levels limits sites start input n =
    (m : ℕ) → m < n → (run_of image levels input m).standing ≡ GoesOn → (k : ℕ) →
    (shadow_after sites (shadow_first start) (run_of image levels input m).steps).counters k ≤ limits k

-- ---- what then is so of the stored image

-- After n steps of the original the stored run is at a step where the two meet: it has taken the legs of the original's steps, stands as the original
-- does, and its window holds the level and the counters that the marks lead to.
pub record IsFollowed (image stored : Image) (levels : ℕ) (sites : List Site) (start : ℕ) (input : List ℕ) (n : ℕ) : Type 0 where
  pub legs : List Leg
  pub are : AreLegs sites (shadow_first start) legs
  pub originals_are : originals legs ≡ (run_of image levels input n).steps
  pub after : ℕ
  pub after_is : after ≡ length (all_steps legs) + steps_to (run_of image levels input n).standing
  pub steps : (run_of stored levels input after).steps ≡ all_steps legs
  pub standing : (run_of stored levels input after).standing ≡ (run_of image levels input n).standing
  pub meets : Meets (layout_of stored) (run_of image levels input n).state (run_of stored levels input after).state
  pub holds : Holds (shadow_after sites (shadow_first start) (run_of image levels input n).steps)
      (run_of stored levels input after).state.window
