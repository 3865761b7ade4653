-- Scaffold: an image and one of which some instructions are patched: each leads to its stub, which may stand anywhere in the keyed segment.
use Rattle.std.specs.Prelude.{◌≡◌, ℕ, ◌+◌, ◌/◌, ◌%◌, ◌^◌, ◌<◌, ◌≤◌, true, false, List, length, All, Some, None, Ok}
use Rattle.scale_base.specs.declared.fragments.Fragment.{Fragment}
use Rattle.scale_base.specs.declared.fragments.Fragment.TheVariants.{Switch, Exit, Reset, Count, Lowest, Tally}
use Rattle.scale_base.specs.Image.{Image, image_of, loaded_byte, is_word_address}
use Rattle.scale_base.specs.Layout.{layout_of, in_text, is_keyed}
use Rattle.scale_base.specs.Run.{setting_of, starting_level}
use Rattle.scale_base.specs.State.{Setting, word_at}
use Rattle.scale_base.specs.Word.{Encodes}
use Rattle.stub_writer.specs.Fragments.{IsShadow}
use Rattle.stub_writer.specs.Stubs.{Site, Way, Place, Forked, Straight, jump}
use Rattle.stored_runs.specs.Held.{StubStands}
use Rattle.stored_runs.specs.Marks.{place_at}
use Rattle.stored_runs.specs.Stubbed.{IsTable, AreOrdered, IsOfImage}

-- A fragment whose tables hold levels, and that has a row for each count up to the counter's limit.
abbrev pub IsSafeFragment : ℕ → (ℕ → ℕ) → Fragment → Type 0
IsSafeFragment levels limits (Switch word) = IsTable levels word
IsSafeFragment levels limits (Exit counter shift rows) = IsShadow counter × (shift < 32) × (limits counter / 2 ^ shift < length rows) ×
    All (IsTable levels) rows
IsSafeFragment levels limits (Reset counter) = IsShadow counter
IsSafeFragment levels limits (Count counter) = IsShadow counter
IsSafeFragment levels limits (Lowest down) = Unit {0}
IsSafeFragment levels limits (Tally counter shift from) = IsShadow counter × (shift < 32) × (1 ≤ from) × (from < 2048) ×
    (limits counter + 1 < 2 ^ 31)

-- the fragments of an edge, and the address to which it leads
pub record IsSafeEdge (levels : ℕ) (limits : ℕ → ℕ) (w : Way) : Type 0 where
  pub few : length w.fragments ≤ 64
  pub safe : All (IsSafeFragment levels limits) w.fragments
  pub ordered : AreOrdered w.fragments
  pub small : w.to < 2 ^ 32
  pub even : w.to % 4 ≡ 0

abbrev pub AreSafeEdges : ℕ → (ℕ → ℕ) → Place → Type 0
AreSafeEdges levels limits (Forked op rs1 rs2 untaken taken) = IsSafeEdge levels limits untaken × IsSafeEdge levels limits taken
AreSafeEdges levels limits (Straight way) = IsSafeEdge levels limits way

-- the instruction at the address is a jump to a stub
pub record HasStub (image : Image) (env : Setting) (bytes : ℕ → ℕ) (limits : ℕ → ℕ) (at : ℕ) (p : Place) : Type 0 where
  pub stub : ℕ
  pub patch : Encodes (word_at bytes at) (jump at stub)
  pub small : stub < 2 ^ 32
  pub even : stub % 4 ≡ 0
  pub stands : StubStands env bytes stub p
  pub of_image : IsOfImage image at p
  pub edges : AreSafeEdges env.levels limits p

-- The patched image has the original's entry, text ranges and segments, but for the keyed segment, which the original has not; its bytes outside the text
-- and the keyed segment, and its words that are not patched, are the original's; and its starting level is one of the machine's.
pub record IsPatched (image patched : Image) (levels : ℕ) (limits : ℕ → ℕ) (sites : List Site) (start : ℕ) : Type 0 where
  pub original_file : List ℕ
  pub original_is : image_of original_file ≡ Ok image
  pub file : List ℕ
  pub patched_is : image_of file ≡ Ok patched
  pub no_key : image.keyed_segment ≡ None
  pub entry : patched.entry ≡ image.entry
  pub text : patched.text ≡ image.text
  pub segments : (layout_of patched).parts ≡ (layout_of image).parts
  pub bytes : (a : ℕ) → in_text (layout_of patched) a ≡ false → is_keyed (layout_of patched) a ≡ false →
      loaded_byte patched a ≡ loaded_byte image a
  pub words : (at : ℕ) → is_word_address image at ≡ true → place_at sites at ≡ None →
      word_at (loaded_byte patched) at ≡ word_at (loaded_byte image) at
  pub stubs : (input : List ℕ) (at : ℕ) (p : Place) → is_word_address image at ≡ true → place_at sites at ≡ Some p →
      HasStub image (setting_of patched levels input) (loaded_byte patched) limits at p
  pub start_is : starting_level levels patched.keyed_segment ≡ start
  pub start_is_level : start < levels
  pub few_levels : levels ≤ 8
  pub small_limits : (k : ℕ) → limits k ≤ 2 ^ 31
