-- Scaffold: what a tree does as steps of the machine: it leads to the target that the register holds, with the registers as they were.
use Rattle.std.specs.Prelude.{◌≡◌, ℕ, ◌+◌, ◌*◌, ◌%◌, ◌^◌, ◌<◌, ◌≤◌, true, List, [], ◌∷◌, length, All}
use Rattle.std.specs.List.{Contains}
use Rattle.scale_base.specs.declared.instruction.Instr.{Instr}
use Rattle.scale_base.specs.declared.stepping.Class.{Class}
use Rattle.scale_base.specs.declared.stepping.Stepped.{Stepped}
use Rattle.scale_base.specs.Layout.{can_fetch}
use Rattle.scale_base.specs.State.{Setting, State, reg, word_at}
use Rattle.scale_base.specs.Word.{Encodes}
use Rattle.stored_runs.specs.Cycles.{stepped_cycles}
use Rattle.stored_runs.specs.Meaning.{StepsLead}
use Rattle.image_lower.specs.Trees.{whole_tree, tree_depth}
use Rattle.image_lower.specs.Meets.{tree_cycles}

-- the word of the instruction stands at the address, and may be fetched; in a keyed segment or not
pub record InstrStands (env : Setting) (bytes : ℕ → ℕ) (at : ℕ) (i : Instr) : Type 0 where
  pub fetched : can_fetch env.layout at ≡ true
  pub room : at + 4 < 2 ^ 32
  pub encodes : Encodes (word_at bytes at) i

-- the instructions stand one after another from the address on
abbrev pub CodeStands : Setting → (ℕ → ℕ) → ℕ → List Instr → Type 0
CodeStands env bytes at [] = Unit {0}
CodeStands env bytes at (i ∷ is) = InstrStands env bytes at i × CodeStands env bytes (at + 4) is

-- the state is at the tree of targets, one of which its register holds
pub record IsAtTree (env : Setting) (s : State) (rs target : ℕ) (targets : List ℕ) : Type 0 where
  pub register : (0 < rs) × (rs < 32)
  pub regs : length s.regs ≡ 32
  pub zero : reg s.regs 0 ≡ 0
  pub words : All (λ u. (u % 4 ≡ 0) × (u < 2 ^ 32)) targets
  pub listed : Contains targets target
  pub holds : reg s.regs rs ≡ target
  pub room : s.pc + 4 * length (whole_tree rs s.pc targets) < 2 ^ 32
  pub code : CodeStands env s.bytes s.pc (whole_tree rs s.pc targets)

-- the steps from the state to the target
pub record FindsTarget (env : Setting) (s : State) (target depth : ℕ) : Type 0 where
  pub steps : List Stepped
  pub leads : StepsLead env s steps (record s { pc = target })
  pub within : (costs : Class → ℕ) → stepped_cycles costs steps ≤ tree_cycles costs depth

-- A tree leads to the target that its register holds, and costs no more than a tree of its depth.
abbrev pub TreesFindTargets : Type 0
TreesFindTargets = (env : Setting) (s : State) (rs target : ℕ) (targets : List ℕ) → IsAtTree env s rs target targets →
    FindsTarget env s target (tree_depth 32 targets)
