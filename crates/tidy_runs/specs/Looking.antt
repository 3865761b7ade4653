-- Scaffold: one step of a run and whether it is tidy, and how far a run is tidy.
use Rattle.std.specs.Prelude.{◌≡◌, ℕ, List, map, reverse, Some, true}
use Rattle.scale_base.specs.declared.stepping.Move.{Move}
use Rattle.scale_base.specs.declared.stepping.StepEnd.{StepEnd}
use Rattle.scale_base.specs.declared.stepping.StepEnd.TheVariants as ends
use Rattle.scale_base.specs.Arith.{plus}
use Rattle.scale_base.specs.State.{Setting, State}
use Rattle.scale_base.specs.Step.{Outcome}
use Rattle.scale_base.specs.Run.{GoesOn, run}
use Rattle.bound_laws.specs.Values.{Values}
use Rattle.stack_laws.specs.Stacks.{Stacks}
use Rattle.stack_laws.specs.Tidy as tidy
use Rattle.stack_laws.specs.Tidy.{IsTidy, IsTidyStep, activations, activations_behind, activations_by}
use Rattle.tidy_runs.specs.declared.activations.Activation.{Activation}
use Rattle.tidy_runs.specs.declared.activations.Broken.{Broken}
use Rattle.tidy_runs.specs.declared.looking.Looked.{Looked}
use Rattle.tidy_runs.specs.declared.looking.Looked.TheVariants as looks
use Rattle.tidy_runs.specs.declared.writing.Written.{Written}
use Rattle.tidy_runs.specs.Writing.{MissesWord}

abbrev pub activation_of : Activation → tidy.Activation
activation_of y = record { function = y.function; stack = y.stack }

-- those of a list whose last one runs
abbrev pub active_now : List Activation → List tidy.Activation
active_now ys = map activation_of (reverse ys)

-- what is written meets no word that is kept for it
abbrev pub AreMissed : Stacks → Written → Activation → Type 0
AreMissed w x y = (k : ℕ) → w.kept y.function k ≡ true → MissesWord (Some x) (plus y.stack (w.offset k))

-- at an address where what is written is doubtful, a word that is kept
pub record IsBroken (w : Stacks) (at : ℕ) (b : Broken) : Type 0 where
  pub at_is : b.at ≡ at
  pub doubtful : w.doubtful b.at ≡ true
  pub kept : w.kept b.function b.number ≡ true

-- those that run or wait behind a step that moved so
abbrev pub IsMoved : Values → List tidy.Activation → Move → State → List tidy.Activation → Looked → Type 0
IsMoved v ys moved next zs looks.GoesOn = zs ≡ activations_by v ys moved next
IsMoved v ys moved next zs looks.Ended = ⊥
IsMoved v ys moved next zs (looks.Broke b) = ⊥
IsMoved v ys moved next zs looks.Lost = Unit {0}

-- the run goes on behind a step that ended so
abbrev pub DoesGoOn : StepEnd → Type 0
DoesGoOn (ends.Went x) = Unit {0}
DoesGoOn (ends.Exited x status) = ⊥
DoesGoOn (ends.Trapped trap) = ⊥

-- it has ended
abbrev pub HasEnded : StepEnd → Type 0
HasEnded (ends.Went x) = ⊥
HasEnded (ends.Exited x status) = Unit {0}
HasEnded (ends.Trapped trap) = Unit {0}

abbrev pub IsArrival : Values → List tidy.Activation → StepEnd → State → List tidy.Activation → Looked → Type 0
IsArrival v ys end next zs looks.GoesOn = DoesGoOn end × (zs ≡ activations_behind v ys end next)
IsArrival v ys end next zs looks.Ended = HasEnded end
IsArrival v ys end next zs (looks.Broke b) = ⊥
IsArrival v ys end next zs looks.Lost = Unit {0}

-- the run goes on behind a tidy step, to this state and these that run or wait
pub record IsTidyMove (v : Values) (w : Stacks) (s : State) (ys : List tidy.Activation) (o : Outcome) (next : State) (zs : List tidy.Activation) : Type 0 where
  pub tidy : IsTidyStep w s.pc ys s.bytes o.state.bytes
  pub goes : DoesGoOn o.end
  pub state_is : next ≡ o.state
  pub active_are : zs ≡ activations_behind v ys o.end o.state

pub record IsTidyEnd (w : Stacks) (s : State) (ys : List tidy.Activation) (o : Outcome) : Type 0 where
  pub tidy : IsTidyStep w s.pc ys s.bytes o.state.bytes
  pub ended : HasEnded o.end

-- a step from a state, before which these run or wait, led there
abbrev pub IsLooked : Values → Stacks → State → List tidy.Activation → Outcome → State → List tidy.Activation → Looked → Type 0
IsLooked v w s ys o next zs looks.GoesOn = IsTidyMove v w s ys o next zs
IsLooked v w s ys o next zs looks.Ended = IsTidyEnd w s ys o
IsLooked v w s ys o next zs (looks.Broke b) = IsBroken w s.pc b
IsLooked v w s ys o next zs looks.Lost = Unit {0}

-- after n steps a tidy run goes on, with this setting, in this state, and these run or wait
pub record IsTidySoFar (v : Values) (w : Stacks) (env : Setting) (first : State) (n : ℕ) (setting : Setting) (now : State) (ys : List tidy.Activation) : Type 0 where
  pub run_is : run env first n ≡ record { steps = (run env first n).steps; state = now; standing = GoesOn }
  pub setting_is : setting ≡ env
  pub tidy : IsTidy v w env first n
  pub active_are : activations v env first n ≡ ys
