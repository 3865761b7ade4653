-- A run of the stored image, step of the original by step: each step of the original run is one leg of the stored one.
use Rattle.std.specs.Prelude.{◌≡◌, ℕ, true, false, List, [], ◌∷◌, ◌++◌, map, slice_index, Option, Some, None, All}
use Rattle.std.specs.List.{flat_map}
use Rattle.scale_base.specs.declared.stepping.Class.{Class}
use Rattle.scale_base.specs.declared.stepping.Stepped.{Stepped}
use Rattle.scale_base.specs.Layout.{Layout, in_text, is_keyed}
use Rattle.scale_base.specs.State.{State}
use Rattle.scale_base.specs.Run.{Standing, GoesOn, HasExited, HasTrapped}
use Rattle.stub_writer.specs.Fragments.{port, IsShadow}
use Rattle.stub_writer.specs.Stubs.{Site}
use Rattle.stored_runs.specs.Cycles.{stepped_cycles}
use Rattle.stored_runs.specs.Marks.{Shadow, fragments_over, stored_cycles, tail_cycles, level_stored, shadow_more}

-- a step of the original run, and the steps of the stored run in its place
pub record Leg : Type 0 where
  pub step : Stepped
  pub steps : List Stepped

-- one of the steps stores the level at the port, and the steps behind it cost so much
pub record StoresOnce (level : ℕ) (tail : (Class → ℕ) → ℕ) (steps : List Stepped) : Type 0 where
  pub before : List Stepped
  pub store : Stepped
  pub behind : List Stepped
  pub parts : steps ≡ before ++ store ∷ behind
  pub level_is : store.port ≡ Some level
  pub none_before : All (λ x. x.port ≡ None) before
  pub none_behind : All (λ x. x.port ≡ None) behind
  pub tail_is : (costs : Class → ℕ) → stepped_cycles costs behind ≡ tail costs

-- the steps store the level at the port once, or nothing where there is none
abbrev pub StoresLevel : Option ℕ → ((Class → ℕ) → ℕ) → List Stepped → Type 0
StoresLevel None tail steps = All (λ x. x.port ≡ None) steps
StoresLevel (Some level) tail steps = StoresOnce level tail steps

-- What a leg is, from a level and counters on. Its first step is fetched from the text and all others from the keyed segment; it costs the stored
-- weight of its edge, whatever the costs of the classes; and it stores what the edge's marks choose.
pub record IsLeg (sites : List Site) (h : Shadow) (l : Leg) : Type 0 where
  pub first : Stepped
  pub others : List Stepped
  pub parts : l.steps ≡ first ∷ others
  pub text : first.keyed ≡ false
  pub keyed : All (λ x. x.keyed ≡ true) others
  pub cost : (costs : Class → ℕ) → stepped_cycles costs l.steps ≡ stored_cycles costs sites l.step
  pub stores : StoresLevel (level_stored (fragments_over sites l.step) h) (λ costs. tail_cycles costs (fragments_over sites l.step)) l.steps

abbrev pub AreLegs : List Site → Shadow → List Leg → Type 0
AreLegs sites h [] = Unit {0}
AreLegs sites h (l ∷ ls) = IsLeg sites h l × AreLegs sites (shadow_more sites h l.step) ls

abbrev pub originals : List Leg → List Stepped
originals legs = map (λ l. l.step) legs

abbrev pub all_steps : List Leg → List Stepped
all_steps legs = flat_map (λ l. l.steps) legs

-- the states of two runs meet: but for the text, the keyed segment and the window they are the same. u is the stored run's
pub record Meets (layout : Layout) (s u : State) : Type 0 where
  pub pc : u.pc ≡ s.pc
  pub regs : u.regs ≡ s.regs
  pub bytes : (a : ℕ) → in_text layout a ≡ false → is_keyed layout a ≡ false → u.bytes a ≡ s.bytes a
  pub used : u.used ≡ s.used
  pub output : u.output ≡ s.output

-- the window holds the level at the port and the counters
pub record Holds (h : Shadow) (window : List ℕ) : Type 0 where
  pub level : slice_index window port ≡ h.level
  pub counters : (k : ℕ) → IsShadow k → slice_index window k ≡ h.counters k

-- a trap is no completed step, but it takes a step to come to it
abbrev pub steps_to : Standing → ℕ
steps_to GoesOn = 0
steps_to (HasExited status) = 0
steps_to (HasTrapped trap) = 1
