-- Scaffold: what a guard does as steps of the machine: it leads one of its two ways, with the registers as they were.
use Rattle.std.specs.Prelude.{◌≡◌, ℕ, ◌+◌, ◌-◌, ◌*◌, ◌%◌, ◌^◌, ◌<◌, ◌≤◌, Bool, cond, negsuc, List, length, All, int_lt, not, ◌&&◌}
use Rattle.scale_base.specs.declared.stepping.Class.{Class}
use Rattle.scale_base.specs.declared.stepping.Class.TheVariants.{Alu, Taken, Untaken, Jump}
use Rattle.scale_base.specs.declared.stepping.Stepped.{Stepped}
use Rattle.scale_base.specs.declared.instruction.RegOp.TheVariants.{Sub}
use Rattle.scale_base.specs.declared.instruction.ImmOp.TheVariants.{Addi}
use Rattle.scale_base.specs.Arith.{reg_result, imm_result, signed}
use Rattle.scale_base.specs.State.{Setting, State, reg}
use Rattle.stored_runs.specs.Cycles.{stepped_cycles}
use Rattle.stored_runs.specs.Meaning.{StepsLead}
use Rattle.image_lower.specs.TreeRuns.{CodeStands}
use Rattle.loop_versions.specs.Pieces.{guard_code}

-- the state is at a guard, whose registers hold numbers of 32 bits
pub record IsAtGuard (env : Setting) (s : State) (larger smaller limit to : ℕ) : Type 0 where
  pub some : 0 < larger
  pub few : larger < 32
  pub smaller_few : smaller < 32
  pub other : (larger ≡ smaller → ⊥)
  pub limit_some : 0 < limit
  pub limit_few : limit < 2048
  pub regs : length s.regs ≡ 32
  pub zero : reg s.regs 0 ≡ 0
  pub larger_word : reg s.regs larger < 2 ^ 32
  pub smaller_word : reg s.regs smaller < 2 ^ 32
  pub room : s.pc + 36 < 2 ^ 32
  pub to_word : to < 2 ^ 32
  pub to_even : to % 4 ≡ 0
  pub code : CodeStands env s.bytes s.pc (guard_code s.pc larger smaller limit to)

-- the difference of the two registers, and less the limit
abbrev pub difference : State → (larger smaller : ℕ) → ℕ
difference s larger smaller = reg_result Sub (reg s.regs larger) (reg s.regs smaller)

abbrev pub less_limit : State → (larger smaller limit : ℕ) → ℕ
less_limit s larger smaller limit = imm_result Addi (difference s larger smaller) (negsuc (limit - 1))

-- as a signed number
abbrev pub is_negative : ℕ → Bool
is_negative v = int_lt (signed v) (signed 0)

-- what the two branches of a guard find
pub record Found : Type 0 where
  pub below : Bool
  pub less : Bool

abbrev pub found_by : State → (larger smaller limit : ℕ) → Found
found_by s larger smaller limit = record {
  below = is_negative (difference s larger smaller);
  less = is_negative (less_limit s larger smaller limit);
}

-- the difference is from 0 on, and below the limit: the loop turns seldom
abbrev pub is_small : Found → Bool
is_small f = not f.below && f.less

-- the cycles of its three ways
abbrev pub guard_cycles : (Class → ℕ) → Found → ℕ
guard_cycles costs f =
    cond f.below (2 * costs Alu + costs Taken + costs Jump)
    (4 * costs Alu + costs Untaken + cond f.less (costs Taken) (costs Untaken + costs Jump))

-- the steps from the state to one of the two ways, all of them at the guard's own instructions
pub record LeadsOn (env : Setting) (s : State) (f : Found) (to : ℕ) : Type 0 where
  pub steps : List Stepped
  pub leads : StepsLead env s steps (record s { pc = cond (is_small f) (s.pc + 36) to })
  pub inside : All (λ x. (s.pc ≤ x.pc) × (x.pc < s.pc + 36)) steps
  pub cycles : (costs : Class → ℕ) → stepped_cycles costs steps ≡ guard_cycles costs f

-- A guard leads on behind it where the difference is from 0 on and below the limit, and else to the other way; nothing else is changed.
abbrev pub GuardsLeadOn : Type 0
GuardsLeadOn = (env : Setting) (s : State) (larger smaller limit to : ℕ) → IsAtGuard env s larger smaller limit to →
    LeadsOn env s (found_by s larger smaller limit) to
