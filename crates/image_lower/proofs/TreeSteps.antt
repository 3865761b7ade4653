-- A tree as steps of the machine.
use Rattle.std.proofs.Common.{◌≡◌, ℕ, pos, suc, zero, ◌+◌, ◌-◌, ◌*◌, ◌%◌, ◌^◌, ◌<◌, ◌≤◌, Bool, true, false, not, List, [], ◌∷◌, ◌++◌, length, None, refl, arith, ap, sym, subst, ◌∙◌, get_or-set_other, length-set}
use Rattle.std.specs.Prelude.{filter, max, slice_set, ◌==◌, int_lt}
use Rattle.std.specs.List.{list_any, Contains}
use Rattle.std.proofs.Math.Nat.{mul-le-mul_right}
use Rattle.std.proofs.lemmas.Bool.Decides.{nat_tests}
use Rattle.std.proofs.lemmas.Bool.{cond-true, cond-false, and_parts, eqb-true, eq-eqb, or_left, or_right}
use Rattle.std.proofs.lemmas.Int.{ints, of_z-to_z}
use Rattle.std.proofs.lemmas.List.{get_or-set_same, set-set, set-get_or}
use Rattle.std.proofs.lemmas.List.Sums.{sum_by-cons}
use Rattle.std.specs.Int.{w32}
use Rattle.scale_base.specs.declared.instruction.BranchOp.TheVariants.{Blt}
use Rattle.scale_base.specs.declared.instruction.ImmOp.TheVariants.{Addi, Slli}
use Rattle.scale_base.specs.declared.instruction.Instr.{Instr}
use Rattle.scale_base.specs.declared.instruction.Instr.TheVariants as instr
use Rattle.scale_base.specs.declared.stepping.Class.{Class}
use Rattle.scale_base.specs.declared.stepping.Class.TheVariants as classes
use Rattle.scale_base.specs.declared.stepping.Stepped.{Stepped}
use Rattle.scale_base.specs.Layout.{each_byte, fetches_byte}
use Rattle.scale_base.specs.Arith.{plus, moved_by, unsigned, signed, imm_result, is_taken}
use Rattle.scale_base.specs.State.{Setting, State, reg, with_reg, word_at}
use Rattle.scale_base.specs.Step.{step, goes, stepped, sets, jumps, branches, performs}
use Rattle.scale_base.proofs.Laws.{word_back}
use Rattle.rv_encode.specs.Jumps.{distance}
use Rattle.machine_laws.proofs.Laws.{step_performs}
use Rattle.stored_runs.specs.Meaning.{StepsLead}
use Rattle.stored_runs.proofs.Laws.{leads_none, leads_first}
use Rattle.stored_runs.specs.Cycles.{stepped_cycles}
use Rattle.stub_writer.specs.Fragments.{hi, lo}
use Rattle.stub_writer.specs.Stubs.{jump}
use Rattle.image_lower.specs.Trees.{has_bit, lacks_bit, are_alike, leaf, fork, tree, tree_depth}
use Rattle.image_lower.specs.Meets.{tree_cycles}
use Rattle.image_lower.specs.TreeRuns.{InstrStands, CodeStands, IsAtTree, FindsTarget}
use Rattle.image_lower.proofs.TreeArith.{Agree, some_agree, alike_agree, agree_first, agree_all, any_kept, having_agree, lacking_agree, shifted_on, sign_is_bit, parts_join}
use Rattle.image_lower.proofs.TreeLaws.{fork_len, alike_more, forks_more, depth_more, depth_forks}

-- ---- code that stands, in parts

pub stand_left : (env : Setting) (bytes : ℕ → ℕ) (at : ℕ) (xs ys : List Instr) → CodeStands env bytes at (xs ++ ys) → CodeStands env bytes at xs
stand_left env bytes at [] ys h = tt
stand_left env bytes at (x ∷ xs) ys h = (h.0, stand_left env bytes (at + 4) xs ys h.1)

pub stand_right : (env : Setting) (bytes : ℕ → ℕ) (at : ℕ) (xs ys : List Instr) → CodeStands env bytes at (xs ++ ys) → CodeStands env bytes (at + 4 * length xs) ys
stand_right env bytes at [] ys h = let e : at ≡ at + 4 * 0 = omega arith in subst (λ a. CodeStands env bytes a ys) e h
stand_right env bytes at (x ∷ xs) ys h =
    let e : at + 4 + 4 * length xs ≡ at + 4 * length (x ∷ xs) = omega arith in
    subst (λ a. CodeStands env bytes a ys) e (stand_right env bytes (at + 4) xs ys h.1)

pub aligned : (env : Setting) (bytes : ℕ → ℕ) (at : ℕ) (i : Instr) → InstrStands env bytes at i → at % 4 ≡ 0
aligned env bytes at i h = eqb-true (at % 4) 0 (and_parts (at % 4 == 0) (each_byte (fetches_byte env.layout) at 4) h.fetched).0

-- ---- single steps

pub performed : (env : Setting) (s : State) (i : Instr) → InstrStands env s.bytes s.pc i → step env s ≡ performs env s i i
performed env s i h = step_performs env s i h.fetched (word_back (word_at s.bytes s.pc) i h.encodes)

put : (s : State) (x : Stepped) (pc pc2 : ℕ) (regs regs2 : List ℕ) → pc ≡ pc2 → regs ≡ regs2 → goes x (record s { pc = pc; regs = regs }) ≡ goes x (record s { pc = pc2; regs = regs2 })
put s x pc pc2 regs regs2 e f = ap (λ n. goes x (record s { pc = n; regs = regs })) e ∙ ap (λ r. goes x (record s { pc = pc2; regs = r })) f

next_is : (pc : ℕ) → pc + 4 < 2 ^ 32 → plus pc 4 ≡ pc + 4
next_is pc h = omega arith

-- a register that isn't x0 gets a value, and the next instruction follows
set_step : (env : Setting) (s : State) (i : Instr) (rs v value next : ℕ) (regs : List ℕ) → InstrStands env s.bytes s.pc i → performs env s i i ≡ sets env s i rs v → 0 < rs → v ≡ value → next ≡ s.pc + 4 → slice_set s.regs rs value ≡ regs
    → step env s ≡ goes (stepped env s i false None (plus s.pc 4)) (record s { pc = next; regs = regs })
set_step env s i rs v value next regs h is some e to f =
    performed env s i h ∙ (is ∙ put s (stepped env s i false None (plus s.pc 4)) (plus s.pc 4) next (with_reg s.regs rs v) regs
    (next_is s.pc h.room ∙ sym to)
    (cond-false (rs == 0) s.regs (slice_set s.regs rs v) (not_zero rs some) ∙ (ap (slice_set s.regs rs) e ∙ f)))
  where
    not_zero : (r : ℕ) → 0 < r → (r == 0) ≡ false
    not_zero r lt = grind (arith, nat_tests)

pub reaches_to : (from to : ℕ) → from < 2 ^ 32 → to < 2 ^ 32 → moved_by from (distance (from % 2 ^ 32) (to % 2 ^ 32)) ≡ to
reaches_to from to h g =
    ap (plus from) (of_z-to_z w32 ((to % 2 ^ 32 + (2 ^ 32 - from % 2 ^ 32)) % 2 ^ 32) (omega arith)) ∙ omega arith

-- a jump to a multiple of 4
pub jump_step : (env : Setting) (s : State) (from to : ℕ) → s.pc ≡ from → InstrStands env s.bytes s.pc (jump from to) → to < 2 ^ 32 → to % 4 ≡ 0 → step env s ≡ goes (stepped env s (jump from to) false None to) (record s { pc = to })
jump_step env s from to here h small even =
    let low : s.pc < 2 ^ 32 = omega (arith, h.room) in
    let there : moved_by s.pc (distance (from % 2 ^ 32) (to % 2 ^ 32)) ≡ to = ap (λ n. moved_by s.pc (distance (n % 2 ^ 32) (to % 2 ^ 32))) (sym here) ∙ reaches_to s.pc to low small in
    performed env s (jump from to) h
    ∙ (ap (λ target. jumps env s (jump from to) 0 target) there
    ∙ cond-true (to % 4 == 0) _ _ (eq-eqb (to % 4) 0 even))

-- ---- the tree of one target

cycles_one : (costs : Class → ℕ) (x : Stepped) (xs : List Stepped) → stepped_cycles costs (x ∷ xs) ≡ costs x.class + stepped_cycles costs xs
cycles_one costs x xs = sum_by-cons (λ y. costs y.class) x xs

-- the steps from the state to the target, which the register then holds
pub record Finds (env : Setting) (s : State) (rs target depth : ℕ) : Type 0 where
  pub steps : List Stepped
  pub leads : StepsLead env s steps (record s { pc = target; regs = slice_set s.regs rs target })
  pub within : (costs : Class → ℕ) → stepped_cycles costs steps ≤ tree_cycles costs depth

-- what is asked of the state and of the target
pub record IsFit (s : State) (rs target : ℕ) : Type 0 where
  pub some : 0 < rs
  pub few : rs < 32
  pub regs : length s.regs ≡ 32
  pub zero : reg s.regs 0 ≡ 0
  pub small : target < 2 ^ 32
  pub even : target % 4 ≡ 0

leaf_finds : (env : Setting) (s : State) (rs to : ℕ) → IsFit s rs to → CodeStands env s.bytes s.pc (leaf rs s.pc to) → Finds env s rs to 0
leaf_finds env s rs to fit h =
    let few = fit.few in
    let long = fit.regs in
    let upper = hi to in
    let s1 : State = record s { pc = s.pc + 4; regs = slice_set s.regs rs upper } in
    let s2 : State = record s { pc = s.pc + 8; regs = slice_set s.regs rs to } in
    let s3 : State = record s { pc = to; regs = slice_set s.regs rs to } in
    let there : s.pc + 4 + 4 ≡ s.pc + 8 = omega arith in
    let last : InstrStands env s.bytes (s.pc + 8) (jump (s.pc + 8) to) = subst (λ a. InstrStands env s.bytes a (jump (s.pc + 8) to)) there h.1.1.0 in
    let holds : reg (slice_set s.regs rs upper) rs ≡ upper = get_or-set_same s.regs rs upper 0 (omega (arith, few, long)) in
    let sum : imm_result Addi (reg s1.regs rs) (lo to) ≡ to = ap (λ v. plus v (unsigned (lo to))) holds ∙ parts_join to fit.small in
    let e1 = set_step env s (instr.Lui rs upper) rs upper upper (s.pc + 4) (slice_set s.regs rs upper) h.0 refl fit.some refl refl refl in
    let e2 = set_step env s1 (instr.Imm Addi rs rs (lo to)) rs (imm_result Addi (reg s1.regs rs) (lo to)) to (s.pc + 8) (slice_set s.regs rs to) h.1.0 refl fit.some sum (sym there) (set-set s.regs rs upper to) in
    let e3 = jump_step env s2 (s.pc + 8) to refl last fit.small fit.even in
    record {
      steps = _;
      leads = leads_first env s s1 s3 _ _ e1 (leads_first env s1 s2 s3 _ _ e2 (leads_first env s2 s3 s3 _ [] e3 (leads_none env s3)));
      within = λ costs. omega (
        arith,
        cycles_one costs (stepped env s (instr.Lui rs upper) false None (plus s.pc 4)) (stepped env s1 (instr.Imm Addi rs rs (lo to)) false None (plus s1.pc 4) ∷ stepped env s2 (jump (s.pc + 8) to) false None to ∷ []),
        cycles_one costs (stepped env s1 (instr.Imm Addi rs rs (lo to)) false None (plus s1.pc 4)) (stepped env s2 (jump (s.pc + 8) to) false None to ∷ []),
        cycles_one costs (stepped env s2 (jump (s.pc + 8) to) false None to) [],
      );
    }

-- ---- a fork

taken_step : (env : Setting) (s : State) (rs n to : ℕ) → InstrStands env s.bytes s.pc (instr.Branch Blt rs 0 (pos n)) → int_lt (signed (reg s.regs rs)) (signed (reg s.regs 0)) ≡ true → s.pc + n < 2 ^ 32 → n % 4 ≡ 0 → to ≡ s.pc + n →
    step env s ≡ goes (stepped env s (instr.Branch Blt rs 0 (pos n)) true None to) (record s { pc = to })
taken_step env s rs n to h is room even to_is =
    let i = instr.Branch Blt rs 0 (pos n) in
    let here = aligned env s.bytes s.pc i h in
    let there : moved_by s.pc (pos n) ≡ to = omega (arith, ints) in
    let e : to % 4 ≡ 0 = omega (arith, here, even, to_is) in
    performed env s i h
    ∙ (ap (branches env s i (is_taken Blt (reg s.regs rs) (reg s.regs 0))) there
    ∙ (ap (λ b. branches env s i b to) is
    ∙ cond-true (to % 4 == 0) _ _ (eq-eqb (to % 4) 0 e)))

passed_step : (env : Setting) (s : State) (rs n to : ℕ) → InstrStands env s.bytes s.pc (instr.Branch Blt rs 0 (pos n)) → int_lt (signed (reg s.regs rs)) (signed (reg s.regs 0)) ≡ false → to ≡ s.pc + 4 →
    step env s ≡ goes (stepped env s (instr.Branch Blt rs 0 (pos n)) false None (plus s.pc 4)) (record s { pc = to })
passed_step env s rs n to h is to_is =
    let i = instr.Branch Blt rs 0 (pos n) in
    performed env s i h
    ∙ (ap (λ b. branches env s i b (moved_by s.pc (pos n))) is
    ∙ ap (λ pc. goes (stepped env s i false None (plus s.pc 4)) (record s { pc = pc })) (next_is s.pc h.room ∙ sym to_is))

deeper : (alu branch leaves d e deep : ℕ) → d + 1 ≤ deep → e ≤ d * (alu + branch) + leaves → alu + (branch + e) ≤ deep * (alu + branch) + leaves
deeper alu branch leaves d e deep le h =
    let more : (d + 1) * (alu + branch) ≤ deep * (alu + branch) = mul-le-mul_right (alu + branch) le in
    let one : (d + 1) * (alu + branch) ≡ d * (alu + branch) + (alu + branch) = grind arith in
    omega (arith, more, one, h)

-- two steps, and then the tree of the half that has the target
two_more : (env : Setting) (s s1 : State) (rs target value p d deep : ℕ) (x y : Stepped) → step env s ≡ goes x s1 → step env s1 ≡ goes y (record s { pc = p; regs = slice_set s.regs rs value })
    → x.class ≡ classes.Alu → ((costs : Class → ℕ) → costs y.class ≤ max (costs classes.Taken) (costs classes.Untaken)) → d + 1 ≤ deep
    → Finds env (record s { pc = p; regs = slice_set s.regs rs value }) rs target d → Finds env s rs target deep
two_more env s s1 rs target value p d deep x y e1 e2 alu branch le f =
    let s2 : State = record s { pc = p; regs = slice_set s.regs rs value } in
    let again : record s2 { pc = target; regs = slice_set s2.regs rs target } ≡ record s { pc = target; regs = slice_set s.regs rs target } =
    ap (λ (r : List ℕ). record s { pc = target; regs = r }) (set-set s.regs rs value target) in
    let rest : StepsLead env s2 f.steps (record s { pc = target; regs = slice_set s.regs rs target }) = subst (StepsLead env s2 f.steps) again f.leads in
    record {
      steps = x ∷ y ∷ f.steps;
      leads = leads_first env s s1 _ x (y ∷ f.steps) e1 (leads_first env s1 s2 _ y f.steps e2 rest);
      within = λ costs. within costs;
    }
  where
    within : (costs : Class → ℕ) → stepped_cycles costs (x ∷ y ∷ f.steps) ≤ tree_cycles costs deep
    within costs =
        let first : costs x.class ≡ costs classes.Alu = ap costs alu in
        let a = cycles_one costs x (y ∷ f.steps) in
        let b = cycles_one costs y f.steps in
        let c = branch costs in
        let rest = f.within costs in
        let most = deeper (costs classes.Alu) (max (costs classes.Taken) (costs classes.Untaken)) (2 * costs classes.Alu + costs classes.Jump) d (stepped_cycles costs f.steps) deep le (omega (arith, rest)) in
        omega (arith, first, a, b, c, most)

fit_on : (s : State) (rs target value p : ℕ) → IsFit s rs target → IsFit (record s { pc = p; regs = slice_set s.regs rs value }) rs target
fit_on s rs target value p fit =
    let some = fit.some in
    record {
      some = fit.some;
      few = fit.few;
      regs = length-set s.regs rs value ∙ fit.regs;
      zero = get_or-set_other s.regs rs 0 value 0 (omega (arith, some)) ∙ fit.zero;
      small = fit.small;
      even = fit.even;
    }

shift_is : (v c : ℕ) → c < 32 → imm_result Slli v (pos c) ≡ v * 2 ^ c % 2 ^ 32
shift_is v c lt = let e : unsigned (pos c) % 32 ≡ c = omega (arith, ints) in ap (λ n. v * 2 ^ n % 2 ^ 32) e

max_left : (a b : ℕ) → a ≤ max a b
max_left a b = grind (arith, nat_tests)

max_right : (a b : ℕ) → b ≤ max a b
max_right a b = grind (arith, nat_tests)

-- behind the shift the branch leads to the half that has the target
forked : (env : Setting) (s : State) (rs target value left right : ℕ) (first second : List Instr) (x : Stepped) → step env s ≡ goes x (record s { pc = s.pc + 4; regs = slice_set s.regs rs value }) → x.class ≡ classes.Alu
    → InstrStands env s.bytes (s.pc + 4) (instr.Branch Blt rs 0 (pos (4 + 4 * length first))) → s.pc + 8 + 4 * length first < 2 ^ 32
    → (c : Bool) → int_lt (signed (reg (slice_set s.regs rs value) rs)) (signed (reg (slice_set s.regs rs value) 0)) ≡ c
    → (c ≡ false → Finds env (record s { pc = s.pc + 8; regs = slice_set s.regs rs value }) rs target left)
    → (c ≡ true → Finds env (record s { pc = s.pc + 8 + 4 * length first; regs = slice_set s.regs rs value }) rs target right)
    → Finds env s rs target (1 + max left right)
forked env s rs target value left right first second x e1 alu h room true sign go_left go_right =
    let s1 : State = record s { pc = s.pc + 4; regs = slice_set s.regs rs value } in
    let more = max_right left right in
    two_more env s s1 rs target value (s.pc + 8 + 4 * length first) right (1 + max left right) x _ e1
    (taken_step env s1 rs (4 + 4 * length first) (s.pc + 8 + 4 * length first) h sign (omega (arith, room)) (omega arith) (omega arith))
    alu (λ costs. max_left (costs classes.Taken) (costs classes.Untaken)) (omega (arith, more)) (go_right refl)
forked env s rs target value left right first second x e1 alu h room false sign go_left go_right =
    let s1 : State = record s { pc = s.pc + 4; regs = slice_set s.regs rs value } in
    let more = max_left left right in
    two_more env s s1 rs target value (s.pc + 8) left (1 + max left right) x _ e1
    (passed_step env s1 rs (4 + 4 * length first) (s.pc + 8) h sign (omega arith))
    alu (λ costs. max_right (costs classes.Taken) (costs classes.Untaken)) (omega (arith, more)) (go_left refl)

pub choose : {P : Type 0} (b : Bool) → (b ≡ true → P) → (b ≡ false → P) → P
choose true f g = f refl
choose false f g = g refl

pub tree_finds : (env : Setting) (s : State) (rs bits shifted target : ℕ) (xs : List ℕ) → shifted + bits ≤ 32 → IsFit s rs target → reg s.regs rs ≡ target * 2 ^ shifted % 2 ^ 32 → list_any (λ u. u == target) xs ≡ true → Agree bits target xs
    → s.pc + 4 * length (tree rs bits shifted s.pc xs) < 2 ^ 32 → CodeStands env s.bytes s.pc (tree rs bits shifted s.pc xs) → Finds env s rs target (tree_depth bits xs)
unfolding tree tree_depth
tree_finds env s rs zero shifted target xs low fit holds listed agree room h =
    leaf_finds env s rs target fit (subst (λ to. CodeStands env s.bytes s.pc (leaf rs s.pc to)) (agree_first target xs listed agree) h)
tree_finds env s rs (suc b) shifted target xs low fit holds listed agree room h = choose (are_alike b xs)
    (λ e.
    let same = alike_more rs b shifted s.pc xs e in
    subst (Finds env s rs target) (sym (depth_more b xs e))
    (tree_finds env s rs b shifted target xs (omega (arith, low)) fit holds listed (alike_agree b target xs e listed agree)
    (subst (λ (code : List Instr). s.pc + 4 * length code < 2 ^ 32) same room) (subst (CodeStands env s.bytes s.pc) same h)))
    (λ e.
    let few = fit.few in
    let long = fit.regs in
    let lack = filter (lacks_bit b) xs in
    let have = filter (has_bit b) xs in
    let first = tree rs b (31 - b) (s.pc + 8) lack in
    let second = tree rs b (31 - b) (s.pc + 8 + 4 * length first) have in
    let shift = 31 - b - shifted in
    let value = target * 2 ^ (31 - b) % 2 ^ 32 in
    let same = forks_more rs b shifted s.pc xs e in
    let code : CodeStands env s.bytes s.pc (fork rs shift first second) = subst (CodeStands env s.bytes s.pc) same h in
    let room2 : s.pc + 4 * length (fork rs shift first second) < 2 ^ 32 = subst (λ (c : List Instr). s.pc + 4 * length c < 2 ^ 32) same room in
    let long2 = fork_len rs shift first second in
    let sum : 31 - b ≡ shifted + shift = omega (arith, low) in
    let is : imm_result Slli (reg s.regs rs) (pos shift) ≡ value =
    shift_is (reg s.regs rs) shift (omega (arith, sum)) ∙ (ap (λ v. v * 2 ^ shift % 2 ^ 32) holds ∙ shifted_on target shifted shift (31 - b) sum) in
    let e1 = set_step env s (instr.Imm Slli rs rs (pos shift)) rs (imm_result Slli (reg s.regs rs) (pos shift)) value (s.pc + 4) (slice_set s.regs rs value) code.0 refl fit.some is refl refl in
    let now : reg (slice_set s.regs rs value) rs ≡ value = get_or-set_same s.regs rs value 0 (omega (arith, few, long)) in
    let next = fit_on s rs target value (s.pc + 4) fit in
    let sign = sign_is_bit target b (reg (slice_set s.regs rs value) rs) (reg (slice_set s.regs rs value) 0) (omega (arith, low)) now next.zero in
    let there : s.pc + 4 + 4 ≡ s.pc + 8 = omega arith in
    let both : CodeStands env s.bytes (s.pc + 8) (first ++ second) = subst (λ a. CodeStands env s.bytes a (first ++ second)) there code.1.1 in
    subst (Finds env s rs target) (sym (depth_forks b xs e))
    (forked env s rs target value (tree_depth b lack) (tree_depth b have) first second _ e1 refl code.1.0 (omega (arith, room2, long2)) (has_bit b target) sign
    (λ none. let lacks : lacks_bit b target ≡ true = ap not none in
    tree_finds env (record s { pc = s.pc + 8; regs = slice_set s.regs rs value }) rs b (31 - b) target lack (omega (arith, low)) (fit_on s rs target value (s.pc + 8) fit) now (any_kept (lacks_bit b) target xs lacks listed)
    (some_agree b target (lacks_bit b) xs (lacking_agree b target lacks) agree) (omega (arith, room2, long2)) (stand_left env s.bytes (s.pc + 8) first second both))
    (λ has. tree_finds env (record s { pc = s.pc + 8 + 4 * length first; regs = slice_set s.regs rs value }) rs b (31 - b) target have (omega (arith, low)) (fit_on s rs target value (s.pc + 8 + 4 * length first) fit) now (any_kept (has_bit b) target xs has listed)
    (some_agree b target (has_bit b) xs (having_agree b target has) agree) (omega (arith, room2, long2)) (stand_right env s.bytes (s.pc + 8) first second both))))

-- ---- the law

listed_any : (t : ℕ) (xs : List ℕ) → Contains xs t → list_any (λ u. u == t) xs ≡ true
listed_any t [] c = absurd (let lt = c.1 in omega (arith, lt))
listed_any t (x ∷ xs) (zero, lt, e) = or_left (x == t) (list_any (λ u. u == t) xs) (eq-eqb x t e)
listed_any t (x ∷ xs) (suc k, lt, e) = or_right (x == t) (list_any (λ u. u == t) xs) (listed_any t xs (k, omega (arith, lt), e))

pub trees_find : (env : Setting) (s : State) (rs target : ℕ) (targets : List ℕ) → IsAtTree env s rs target targets → FindsTarget env s target (tree_depth 32 targets)
trees_find env s rs target targets h =
    let c = h.listed in
    let word : (target % 4 ≡ 0) × (target < 2 ^ 32) = subst (λ u. (u % 4 ≡ 0) × (u < 2 ^ 32)) c.2 (h.words c.0 target c.1) in
    let small = word.1 in
    let fit : IsFit s rs target = record { some = h.register.0; few = h.register.1; regs = h.regs; zero = h.zero; small = word.1; even = word.0 } in
    let holds : reg s.regs rs ≡ target * 2 ^ 0 % 2 ^ 32 = h.holds ∙ omega (arith, small) in
    let f = tree_finds env s rs 32 0 target targets (omega arith) fit holds (listed_any target targets c) (agree_all target targets word.1 h.words) h.room h.code in
    let same : slice_set s.regs rs target ≡ s.regs = ap (slice_set s.regs rs) (sym h.holds) ∙ set-get_or s.regs rs 0 in
    record { steps = f.steps; leads = subst (λ (r : List ℕ). StepsLead env s f.steps (record s { pc = target; regs = r })) same f.leads; within = f.within }
