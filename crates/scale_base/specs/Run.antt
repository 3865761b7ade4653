-- A run: the first steps from a state, and where they lead.
use Rattle.std.specs.Prelude.{ℕ, zero, suc, ◌-◌, List, [], ◌∷◌, ◌++◌, replicate, slice_set, Option, Some, None}
use Rattle.scale_base.specs.declared.stepping.Trap.{Trap}
use Rattle.scale_base.specs.declared.stepping.Stepped.{Stepped}
use Rattle.scale_base.specs.declared.stepping.StepEnd.{StepEnd}
use Rattle.scale_base.specs.declared.stepping.StepEnd.TheVariants.{Went, Exited, Trapped}
use Rattle.scale_base.specs.declared.ranges.Keyed.{Keyed}
use Rattle.scale_base.specs.Image.{Image, loaded_byte}
use Rattle.scale_base.specs.Layout.{layout_of}
use Rattle.scale_base.specs.State.{Setting, State}
use Rattle.scale_base.specs.Step.{step, port_index}

-- how a run stands
pub data Standing : Type 0 where
  GoesOn : Standing
  HasExited : ℕ → Standing
  HasTrapped : Trap → Standing

-- the completed steps, the state after them, and how the run stands
pub record Run : Type 0 where
  pub steps : List Stepped
  pub state : State
  pub standing : Standing

-- the stack pointer (x2) at the start
abbrev pub STACK_POINTER : ℕ
STACK_POINTER = 0x7FFFFFF0

-- the state at the start
abbrev pub start : (ℕ → ℕ) → ℕ → ℕ → State
start bytes entry level = record {
  pc = entry;
  regs = slice_set (replicate 32 0) 2 STACK_POINTER;
  bytes = bytes;
  window = slice_set (replicate 512 0) port_index level;
  used = 0;
  output = [];
}

-- no step yet
abbrev pub begin : State → Run
begin s = record { steps = []; state = s; standing = GoesOn }

-- a step more, which ended so, in this state. A trap is no completed step
abbrev pub ended : List Stepped → StepEnd → State → Run
ended xs (Went x) s = record { steps = xs ++ x ∷ []; state = s; standing = GoesOn }
ended xs (Exited x status) s = record { steps = xs ++ x ∷ []; state = s; standing = HasExited status }
ended xs (Trapped trap) s = record { steps = xs; state = s; standing = HasTrapped trap }

-- a step more, where the run goes on
abbrev pub one_more_by : Setting → Run → Standing → Run
one_more_by env r GoesOn = ended r.steps (step env r.state).end (step env r.state).state
one_more_by env r (HasExited status) = r
one_more_by env r (HasTrapped trap) = r

abbrev pub one_more : Setting → Run → Run
one_more env r = one_more_by env r r.standing

-- the first n steps from the state
unfoldable pub run : Setting → State → ℕ → Run
run env s zero = begin s
run env s (suc n) = one_more env (run env s n)

-- ---- the run of an image

-- the level at the start, of so many levels: that of the keyed segment, and the fastest one without it
abbrev pub starting_level : ℕ → Option Keyed → ℕ
starting_level levels None = levels - 1
starting_level levels (Some keyed) = keyed.start

abbrev pub setting_of : Image → ℕ → List ℕ → Setting
setting_of image levels input = record { layout = layout_of image; levels = levels; input = input }

abbrev pub start_of : Image → ℕ → State
start_of image levels = start (loaded_byte image) image.entry (starting_level levels image.keyed_segment)

-- the first n steps of an image on a machine of so many levels, with an input
unfoldable pub run_of : Image → ℕ → List ℕ → ℕ → Run
run_of image levels input n = run (setting_of image levels input) (start_of image levels) n
