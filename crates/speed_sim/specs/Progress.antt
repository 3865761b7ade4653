-- Scaffold: how far the run of a machine has come, and how it ended.
use Rattle.std.specs.Prelude.{◌≡◌, ◌<◌, ℕ, length}
use Rattle.scale_base.specs.declared.stepping.Stepped.{Stepped}
use Rattle.scale_base.specs.State.{Setting, State}
use Rattle.scale_base.specs.Run.{Standing, GoesOn, run}
use Rattle.power_model.specs.Numbers.{PowerModel, RunPrice}
use Rattle.power_model.specs.Price.{price}
use Rattle.speed_sim.specs.Seen.{seen_from}

-- What a run begins with: the machine's levels and costs, what no step changes, the state, the level, and what sees its steps.
pub record Job (W : Type 0) : Type 0 where
  pub power : PowerModel
  pub env : Setting
  pub first : State
  pub start : ℕ
  pub see : W → Stepped → W
  pub unseen : W

-- what has seen the first n steps
abbrev pub seen_by : {W : Type 0} → Job W → ℕ → W
seen_by job n = seen_from job.env job.first job.see job.unseen n

-- after k steps the run goes on, with this setting, in this state, at this price, seen so
pub record Progress {W : Type 0} (job : Job W) (k : ℕ) (env : Setting) (now : State) (paid : RunPrice) (seen : W) : Type 0 where
  pub run_is : run job.env job.first k ≡ record { steps = (run job.env job.first k).steps; state = now; standing = GoesOn }
  pub env_is : env ≡ job.env
  pub paid_is : paid ≡ price job.power job.start (run job.env job.first k).steps
  pub steps_are : paid.steps ≡ k
  pub is_level : paid.level < length job.power.levels
  pub seen_is : seen ≡ seen_by job k

-- the run of at most n steps has ended so, in this state, at this price, seen so
pub record IsRunEnd {W : Type 0} (job : Job W) (n : ℕ) (standing : Standing) (now : State) (paid : RunPrice) (seen : W) : Type 0 where
  pub standing_is : (run job.env job.first n).standing ≡ standing
  pub state_is : now ≡ (run job.env job.first n).state
  pub paid_is : paid ≡ price job.power job.start (run job.env job.first n).steps
  pub seen_is : seen ≡ seen_by job n
