-- The tree of comparisons of a noted jump: it finds the target that a register holds by its bits, from the highest on in which two of the
-- targets differ, and jumps to it. The register is shifted left until the bit is its sign; at a target it gets its number again.
use Rattle.std.specs.Prelude.{ℕ, pos, zero, suc, ◌+◌, ◌-◌, ◌*◌, ◌/◌, ◌%◌, ◌^◌, ◌==◌, ◌&&◌, ◌||◌, not, max, Bool, true, List, [], ◌∷◌, ◌++◌, length, filter, if◌then◌else◌}
use Rattle.std.specs.List.{list_all}
use Rattle.scale_base.specs.declared.instruction.BranchOp.TheVariants.{Blt}
use Rattle.scale_base.specs.declared.instruction.ImmOp.TheVariants.{Addi, Slli}
use Rattle.scale_base.specs.declared.instruction.Instr.{Instr}
use Rattle.scale_base.specs.declared.instruction.Instr.TheVariants as instr
use Rattle.stub_writer.specs.Fragments.{hi, lo}
use Rattle.stub_writer.specs.Stubs.{jump, is_even, is_field}

abbrev pub has_bit : ℕ → ℕ → Bool
has_bit b x = x / 2 ^ b % 2 == 1

abbrev pub lacks_bit : ℕ → ℕ → Bool
lacks_bit b x = not (has_bit b x)

-- no two of the numbers differ in the bit
abbrev pub are_alike : ℕ → List ℕ → Bool
are_alike b xs = list_all (has_bit b) xs || list_all (lacks_bit b) xs

abbrev pub first_target : List ℕ → ℕ
first_target [] = 0
first_target (x ∷ xs) = x

-- the tree of one target
abbrev pub leaf : (rs at to : ℕ) → List Instr
leaf rs at to = instr.Lui rs (hi to) ∷ instr.Imm Addi rs rs (lo to) ∷ jump (at + 8) to ∷ []

-- a shift, and a branch over the first tree to the second one
abbrev pub fork : (rs shift : ℕ) → List Instr → List Instr → List Instr
fork rs shift lacking having = instr.Imm Slli rs rs (pos shift) ∷ instr.Branch Blt rs 0 (pos (4 + 4 * length lacking)) ∷ lacking ++ having

-- The tree at an address, of targets that differ in their lowest `bits` bits alone. The trees round it have shifted rs by `shifted` places.
unfoldable pub tree : (rs bits shifted at : ℕ) → List ℕ → List Instr
tree rs zero shifted at targets = leaf rs at (first_target targets)
tree rs (suc b) shifted at targets =
    if are_alike b targets then tree rs b shifted at targets
    else (let lacking = tree rs b (31 - b) (at + 8) (filter (lacks_bit b) targets) in
    fork rs (31 - b - shifted) lacking (tree rs b (31 - b) (at + 8 + 4 * length lacking) (filter (has_bit b) targets)))

-- the greatest number of branches on a way through it
unfoldable pub tree_depth : (bits : ℕ) → List ℕ → ℕ
tree_depth zero targets = 0
tree_depth (suc b) targets =
    if are_alike b targets then tree_depth b targets
    else 1 + max (tree_depth b (filter (lacks_bit b) targets)) (tree_depth b (filter (has_bit b) targets))

-- addresses have 32 bits
abbrev pub whole_tree : (rs at : ℕ) → List ℕ → List Instr
whole_tree rs at targets = tree rs 32 0 at targets

-- a JAL reaches what it jumps to
abbrev pub fits : Instr → Bool
fits (instr.Jal rd offset) = is_even offset && is_field offset
fits i = true
