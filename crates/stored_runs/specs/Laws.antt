-- The laws of stored runs, as statements for the contracts of functions.
use Rattle.std.specs.Prelude.{◌≡◌, ℕ, ◌+◌, ◌≤◌, false, not, List, filter, length}
use Rattle.std.specs.List.{sum_by}
use Rattle.scale_base.specs.declared.stepping.Class.{Class}
use Rattle.scale_base.specs.declared.stepping.Stepped.{Stepped}
use Rattle.scale_base.specs.Image.{Image}
use Rattle.scale_base.specs.Layout.{is_keyed}
use Rattle.scale_base.specs.Run.{GoesOn, run}
use Rattle.scale_base.specs.State.{Setting, State}
use Rattle.stub_writer.specs.Stubs.{Site}
use Rattle.stored_runs.specs.Cycles.{stepped_cycles}
use Rattle.stored_runs.specs.Marks.{Shadow, extra_cycles, stored_cycles}
use Rattle.stored_runs.specs.Legs.{Leg, AreLegs, originals, all_steps}
use Rattle.stored_runs.specs.Stubbed.{IsStubbed, StaysInText, KeepsLimits, IsFollowed}
use Rattle.stored_runs.specs.Patched.{IsPatched}

-- The stored image follows each run of the original that stays in the text and keeps the counters' limits.
abbrev pub StoredRunsFollow : Type 0
StoredRunsFollow = (file : List ℕ) (image : Image) (levels : ℕ) (limits : ℕ → ℕ) (sites : List Site) (base start : ℕ) (stored : Image) →
    IsStubbed file image levels limits sites base start stored →
    (input : List ℕ) (n : ℕ) → StaysInText image levels input n → KeepsLimits image levels limits sites start input n →
    IsFollowed image stored levels sites start input n

-- The same of a patched image, whose stubs may stand anywhere.
abbrev pub PatchedRunsFollow : Type 0
PatchedRunsFollow = (image patched : Image) (levels : ℕ) (limits : ℕ → ℕ) (sites : List Site) (start : ℕ) →
    IsPatched image patched levels limits sites start →
    (input : List ℕ) (n : ℕ) → StaysInText image levels input n → KeepsLimits image levels limits sites start input n →
    IsFollowed image patched levels sites start input n

-- An image that is stored with a block of stubs is a patched one.
abbrev pub StubbedArePatched : Type 0
StubbedArePatched = (file : List ℕ) (image : Image) (levels : ℕ) (limits : ℕ → ℕ) (sites : List Site) (base start : ℕ) (stored : Image) →
    IsStubbed file image levels limits sites base start stored →
    IsPatched image stored levels limits sites start

-- the steps that were fetched outside the keyed segment
abbrev pub text_steps : List Stepped → List Stepped
text_steps xs = filter (λ x. not x.keyed) xs

-- The steps of legs cost the stored weights of their edges, whatever the costs of the classes.
abbrev pub LegsCostStoredWeights : Type 0
LegsCostStoredWeights = (sites : List Site) (h : Shadow) (legs : List Leg) → AreLegs sites h legs → (costs : Class → ℕ) →
    stepped_cycles costs (all_steps legs) ≡ sum_by (stored_cycles costs sites) (originals legs)

-- One step of each leg was fetched from the text.
abbrev pub LegsHaveOneStepOfText : Type 0
LegsHaveOneStepOfText = (sites : List Site) (h : Shadow) (legs : List Leg) → AreLegs sites h legs →
    length (text_steps (all_steps legs)) ≡ length legs

-- Where each class costs a cycle at least, legs have at most so many steps more than the original as they cost cycles more.
abbrev pub LegsAreShort : Type 0
LegsAreShort = (sites : List Site) (h : Shadow) (legs : List Leg) → AreLegs sites h legs → (costs : Class → ℕ) →
    ((class : Class) → 1 ≤ costs class) →
    length (all_steps legs) ≤ length legs + sum_by (extra_cycles costs sites) (originals legs)

-- and at least as many
abbrev pub LegsAreLong : Type 0
LegsAreLong = (sites : List Site) (h : Shadow) (legs : List Leg) → AreLegs sites h legs → length legs ≤ length (all_steps legs)

-- Where a run of a stored image has taken so many steps of the text and stands in the text, it has taken so many steps in all: there is one such step at most.
abbrev pub MeetingsAreOnce : Type 0
MeetingsAreOnce = (env : Setting) (s : State) (i j : ℕ) → (run env s i).standing ≡ GoesOn → (run env s j).standing ≡ GoesOn →
    is_keyed env.layout (run env s i).state.pc ≡ false → is_keyed env.layout (run env s j).state.pc ≡ false
    → length (text_steps (run env s i).steps) ≡ length (text_steps (run env s j).steps) → i ≡ j
