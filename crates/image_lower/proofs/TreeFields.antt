-- The instructions of a tree have words, where its jumps fit.
use Rattle.std.proofs.Common.{◌≡◌, ℕ, pos, negsuc, suc, zero, ◌+◌, ◌-◌, ◌*◌, ◌%◌, ◌^◌, ◌<◌, ◌≤◌, Bool, true, false, List, [], ◌∷◌, ◌++◌, length, refl, arith, sym, subst, ◌∙◌}
use Rattle.std.specs.Prelude.{filter, nat_lt, if◌then◌else◌}
use Rattle.std.specs.List.{All, list_all}
use Rattle.std.proofs.lemmas.Bool.{and_parts}
use Rattle.std.proofs.lemmas.Bool.Decides.{nat_tests}
use Rattle.std.proofs.lemmas.List.Elements.{All-nil, All-cons, All-append}
use Rattle.std.proofs.lemmas.List.Folds.{list_all-append}
use Rattle.scale_base.specs.declared.instruction.BranchOp.TheVariants.{Blt}
use Rattle.scale_base.specs.declared.instruction.ImmOp.TheVariants.{Addi, Slli}
use Rattle.scale_base.specs.declared.instruction.Instr.{Instr}
use Rattle.scale_base.specs.declared.instruction.Instr.TheVariants as instr
use Rattle.scale_base.specs.Word.{FieldsInRange, IsSignedField}
use Rattle.rv_encode.specs.Jumps.{distance}
use Rattle.stub_writer.specs.Fragments.{hi, lo}
use Rattle.stub_writer.specs.Stubs.{jump}
use Rattle.image_lower.specs.Trees.{first_target, leaf, fork, tree, fits, are_alike, has_bit, lacks_bit}
use Rattle.image_lower.proofs.Reach.{offset_fits}
use Rattle.image_lower.proofs.TreeLaws.{parts, fork_len}

signed_fits : (n : ℕ) → n < 2 ^ 12 → (b : Bool) → nat_lt n (2 ^ 11) ≡ b → IsSignedField 12 (if b then pos n else negsuc (2 ^ 12 - 1 - n))
signed_fits n small true e = let low : n < 2 ^ 11 = grind (arith, nat_tests) in omega (arith, low)
signed_fits n small false e = let high : 2 ^ 11 ≤ n = grind (arith, nat_tests) in omega (arith, high, small)

pub jump_fits : (from to : ℕ) → fits (jump from to) ≡ true → FieldsInRange (jump from to)
jump_fits from to h = let p = offset_fits (distance (from % 2 ^ 32) (to % 2 ^ 32)) h in (omega arith, p.0, p.1)

lui_fields : (rs c : ℕ) → rs < 32 → FieldsInRange (instr.Lui rs (hi c))
lui_fields rs c small = (small, omega arith, omega arith)

addi_fields : (rs c : ℕ) → rs < 32 → FieldsInRange (instr.Imm Addi rs rs (lo c))
addi_fields rs c small = (small, small, signed_fits (c % 2 ^ 12) (omega arith) (nat_lt (c % 2 ^ 12) (2 ^ 11)) refl)

slli_fields : (rs shift : ℕ) → rs < 32 → shift < 32 → FieldsInRange (instr.Imm Slli rs rs (pos shift))
slli_fields rs shift small low = (small, small, low)

blt_fields : (rs n : ℕ) → rs < 32 → n ≤ 1000 → FieldsInRange (instr.Branch Blt rs 0 (pos (4 + 4 * n)))
blt_fields rs n small short = (small, omega arith, omega arith, omega (arith, short))

leaf_fields : (rs at to : ℕ) → rs < 32 → list_all fits (leaf rs at to) ≡ true → All FieldsInRange (leaf rs at to)
leaf_fields rs at to small h =
    let p = and_parts (fits (jump (at + 8) to)) true h in
    let last : All FieldsInRange (jump (at + 8) to ∷ []) = All-cons FieldsInRange (jump (at + 8) to) [] (jump_fits (at + 8) to p.0) (All-nil FieldsInRange) in
    All-cons FieldsInRange (instr.Lui rs (hi to)) (instr.Imm Addi rs rs (lo to) ∷ jump (at + 8) to ∷ []) (lui_fields rs to small)
    (All-cons FieldsInRange (instr.Imm Addi rs rs (lo to)) (jump (at + 8) to ∷ []) (addi_fields rs to small) last)

fork_fields : (rs shift : ℕ) (first second : List Instr) → rs < 32 → shift < 32 → length first ≤ 1000 → All FieldsInRange first → All FieldsInRange second → All FieldsInRange (fork rs shift first second)
fork_fields rs shift first second small low short a b =
    All-cons FieldsInRange (instr.Imm Slli rs rs (pos shift)) (instr.Branch Blt rs 0 (pos (4 + 4 * length first)) ∷ first ++ second) (slli_fields rs shift small low)
    (All-cons FieldsInRange (instr.Branch Blt rs 0 (pos (4 + 4 * length first))) (first ++ second) (blt_fields rs (length first) small short) (All-append FieldsInRange first second a b))

fork_fits : (rs shift : ℕ) (first second : List Instr) → list_all fits (fork rs shift first second) ≡ true → (list_all fits first ≡ true) × (list_all fits second ≡ true)
fork_fits rs shift first second h = and_parts (list_all fits first) (list_all fits second) (sym (list_all-append fits first second) ∙ h)

-- ---- over the bits

pub record IsSound (code : List Instr) (targets : ℕ) : Type 0 where
  pub short : length code + 2 ≤ 5 * targets
  pub fields : list_all fits code ≡ true → All FieldsInRange code

sound_fork : (rs shift : ℕ) (first second : List Instr) (m n k : ℕ) → rs < 32 → shift < 32 → m ≤ 128 → m + n ≡ k → IsSound first m → IsSound second n → IsSound (fork rs shift first second) k
sound_fork rs shift first second m n k small low few whole a b =
    let l = fork_len rs shift first second in
    let s = a.short in
    let t = b.short in
    record {
      short = omega (arith, l, s, t, whole);
      fields = λ h. let p = fork_fits rs shift first second h in fork_fields rs shift first second small low (omega (arith, s, few)) (a.fields p.0) (b.fields p.1);
    }

-- by the bit that is looked at
choose : (alike : Bool) (one two : List Instr) (n : ℕ) → (alike ≡ true → IsSound one n) → (alike ≡ false → IsSound two n) → IsSound (if alike then one else two) n
choose true one two n f g = f refl
choose false one two n f g = g refl

pub tree_sound : (rs bits shifted at : ℕ) (xs : List ℕ) → rs < 32 → 1 ≤ length xs → length xs ≤ 128 → IsSound (tree rs bits shifted at xs) (length xs)
unfolding tree
tree_sound rs zero shifted at xs small some few = record { short = omega (arith, some); fields = leaf_fields rs at (first_target xs) small }
tree_sound rs (suc b) shifted at xs small some few =
    choose (are_alike b xs) (tree rs b shifted at xs) _ (length xs)
    (λ e. tree_sound rs b shifted at xs small some few)
    (λ e.
    let p = parts b xs e in
    let w = p.without in
    let v = p.having in
    let d = p.whole in
    sound_fork rs (31 - b - shifted) _ _ (length (filter (lacks_bit b) xs)) (length (filter (has_bit b) xs)) (length xs) small (omega arith) (omega (arith, few, d)) d
    (tree_sound rs b (31 - b) (at + 8) (filter (lacks_bit b) xs) small w (omega (arith, few, d)))
    (tree_sound rs b (31 - b) _ (filter (has_bit b) xs) small v (omega (arith, few, d))))

pub tree_has_words : (rs at : ℕ) (xs : List ℕ) (code : List Instr) → rs < 32 → 1 ≤ length xs → length xs ≤ 128 → code ≡ tree rs 32 0 at xs → list_all fits code ≡ true → All FieldsInRange code
tree_has_words rs at xs code small some few is fit =
    let P : List Instr → Type 0 = λ c. list_all fits c ≡ true → All FieldsInRange c in
    subst P (sym is) (tree_sound rs 32 0 at xs small some few).fields fit
