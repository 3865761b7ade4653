-- What reads a machine keeps its numbers in their ranges.
use Rattle.std.proofs.Common.{◌≡◌, ℕ, ◌+◌, ◌-◌, ◌^◌, ◌≤◌, ◌&&◌, Bool, true, false, nat_le, nat_lt, if◌then◌else◌, ℤ, pos, negsuc, List, [], ◌∷◌, length, Option, Some, None, option_and_then, Result, Ok, Err, codes, refl, arith, zero, suc}
use Rattle.std.specs.Option.{IfSome}
use Rattle.std.specs.Result.{IfOk}
use Rattle.std.proofs.lemmas.Result.{IfOk-at_ok}
use Rattle.std.proofs.lemmas.Bool.Decides.{nat_tests}
use Rattle.toml.specs.Data.{Data, Members, get_member, as_integer}
use Rattle.scale_base.specs.declared.refusal.Refusal.{Refusal}
use Rattle.scale_base.specs.declared.refusal.Refusal.TheVariants.{MachineText}
use Rattle.power_model.specs.declared.power.Level.{Level}
use Rattle.power_model.specs.declared.power.Costs.{Costs}
use Rattle.power_model.specs.Levels.{IsSlower, AreRanked, ArePositive}
use Rattle.power_model.specs.Numbers.{PowerModel, CostsArePositive, IsPowerModel}
use Rattle.table_keys.specs.Keys.{document_of, number_within, number_of, number_at, tables_of, or_refuse, checked_keys, ◌>>=◌}
use Rattle.machine_file.specs.Machine.{in_file, in_cost, in_level, bad_key, bad_value, number, cost_at_key, cost_keys, cost_table, level_keys, few_tables, level_tables, level_of, levels_from, first_unranked, ranked, costs_in, FileNumbers, top_numbers, top_keys, version_of, machine_of, read_machine, switch_cost, pair_table}

-- a range of a number, both ends in it
pub record IsWithin (low high n : ℕ) : Type 0 where
  pub from : low ≤ n
  pub to : n ≤ high

-- what a step gives holds after the next
pub kept-then : {A B E : Type 0} (Q : A → Type 0) (P : B → Type 0) (r : Result A E) (f : A → Result B E) → IfOk r Q → ((x : A) → Q x → IfOk (f x) P) → IfOk (r >>= f) P
kept-then Q P (Ok x) f h k = k x h
kept-then Q P (Err e) f h k = tt

-- a step of which nothing is known
pub any-then : {A B E : Type 0} (P : B → Type 0) (r : Result A E) (f : A → Result B E) → ((x : A) → IfOk (f x) P) → IfOk (r >>= f) P
any-then P (Ok x) f k = k x
any-then P (Err e) f k = tt

pub kept-or_refuse : {A E : Type 0} (P : A → Type 0) (e : E) (o : Option A) → IfSome o P → IfOk (or_refuse e o) P
kept-or_refuse P e None h = tt
kept-or_refuse P e (Some x) h = h

-- a last step that may give none
pub kept-and_then : {A B : Type 0} (P : B → Type 0) (o : Option A) (f : A → Option B) → ((x : A) → IfSome (f x) P) → IfSome (option_and_then f o) P
kept-and_then P None f k = tt
kept-and_then P (Some x) f k = k x

-- a value that a test lets through
pub kept-guard : {A : Type 0} (P : A → Type 0) (b : Bool) (x : A) → (b ≡ true → P x) → IfSome (if b then Some x else None) P
kept-guard P true x k = k refl
kept-guard P false x k = tt

range-from_tests : (low high n : ℕ) → (nat_le low n && nat_le n high) ≡ true → IsWithin low high n
range-from_tests low high n e = record { from = grind (arith, nat_tests); to = grind (arith, nat_tests) }

within-number_within : (low high : ℕ) (z : ℤ) → IfSome (number_within low high z) (IsWithin low high)
within-number_within low high (pos n) = kept-guard (IsWithin low high) (nat_le low n && nat_le n high) n (range-from_tests low high n)
within-number_within low high (negsuc n) = tt

within-number_of : (low high : ℕ) (d : Data) → IfSome (number_of low high d) (IsWithin low high)
within-number_of low high d = kept-and_then (IsWithin low high) (as_integer d) (number_within low high) (within-number_within low high)

pub within-number : (path : List ℕ) (table : Members) (low high : ℕ) (key : List ℕ) → IfOk (number path table low high key) (IsWithin low high)
within-number path table low high key =
    kept-or_refuse (IsWithin low high) (bad_value path key) (number_at low high key table)
    (kept-and_then (IsWithin low high) (get_member key table) (number_of low high) (within-number_of low high))

-- 1 to 8 tables
few-level_tables : (table : Members) → IfOk (level_tables table) (λ ts. IsWithin 1 8 (length ts))
few-level_tables table =
    let P : List Members → Type 0 = λ ts. IsWithin 1 8 (length ts) in
    kept-or_refuse P (bad_value in_file (codes "level")) (option_and_then few_tables (option_and_then tables_of (get_member (codes "level") table)))
    (kept-and_then P (option_and_then tables_of (get_member (codes "level") table)) few_tables
    (λ (ts : List Members). kept-guard P (nat_le 1 (length ts) && nat_le (length ts) 8) ts (range-from_tests 1 8 (length ts))))

-- a level takes time and energy
abbrev IsPositive : Level → Type 0
IsPositive l = (1 ≤ l.period) × (1 ≤ l.energy)

positive-level_of : (i : ℕ) (table : Members) → IfOk (level_of i table) IsPositive
unfolding level_of
positive-level_of i table =
    any-then IsPositive (checked_keys (bad_key (in_level i)) level_keys level_keys table) _ (λ _.
    kept-then (IsWithin 1 (2 ^ 32 - 1)) IsPositive (number (in_level i) table 1 (2 ^ 32 - 1) (codes "period")) _ (within-number (in_level i) table 1 (2 ^ 32 - 1) (codes "period")) (λ period p.
    kept-then (IsWithin 1 (2 ^ 32 - 1)) IsPositive (number (in_level i) table 1 (2 ^ 32 - 1) (codes "energy")) _ (within-number (in_level i) table 1 (2 ^ 32 - 1) (codes "energy")) (λ energy e.
    (p.from, e.from))))

-- as many levels as tables, each with time and energy
record AreLevelsOf (n : ℕ) (levels : List Level) : Type 0 where
  count : length levels ≡ n
  positive : ArePositive levels

positive-cons : (l : Level) (ls : List Level) → IsPositive l → ArePositive ls → ArePositive (l ∷ ls)
positive-cons l ls h k zero i = h
positive-cons l ls h k (suc j) i = k j (omega arith)

positive-levels_from : (i : ℕ) (tables : List Members) → IfOk (levels_from i tables) (AreLevelsOf (length tables))
positive-levels_from i [] = record { count = refl; positive = λ j h. absurd (omega arith) }
positive-levels_from i (t ∷ ts) =
    kept-then IsPositive (AreLevelsOf (length (t ∷ ts))) (level_of i t) _ (positive-level_of i t) (λ first p.
    kept-then (AreLevelsOf (length ts)) (AreLevelsOf (length (t ∷ ts))) (levels_from (i + 1) ts) _ (positive-levels_from (i + 1) ts) (λ others q.
    record { count = omega (arith, q.count); positive = positive-cons first others p q.positive }))

-- levels of which none is unranked are in order
slower-from_tests : (x y : Level) → (nat_lt y.period x.period && nat_lt x.energy y.energy) ≡ true → IsSlower x y
slower-from_tests x y e = record { period = grind (arith, nat_tests); energy = grind (arith, nat_tests) }

ranked-cons : (x y : Level) (ys : List Level) → IsSlower x y → AreRanked (y ∷ ys) → AreRanked (x ∷ y ∷ ys)
ranked-cons x y ys h k zero i = h
ranked-cons x y ys h k (suc j) i =
    let next : suc j + 1 ≡ suc (j + 1) = omega arith in
    rw next (k j (omega arith))

-- either a level is refused, or what follows tells of the rest
ranked-at : (P Q : Type 0) (b : Bool) (i : ℕ) (rest : Option ℕ) → (b ≡ true → P → Q) → IfOk (ranked rest) (λ _. P) → IfOk (ranked (if b then rest else Some i)) (λ _. Q)
ranked-at P Q true i None k h = k refl h
ranked-at P Q true i (Some j) k h = tt
ranked-at P Q false i rest k h = tt

ranked-first_unranked : (i : ℕ) (levels : List Level) → IfOk (ranked (first_unranked i levels)) (λ _. AreRanked levels)
ranked-first_unranked i [] = λ j h. absurd (omega arith)
ranked-first_unranked i (x ∷ []) = λ j h. absurd (omega arith)
ranked-first_unranked i (x ∷ y ∷ ys) =
    ranked-at (AreRanked (y ∷ ys)) (AreRanked (x ∷ y ∷ ys)) (nat_lt y.period x.period && nat_lt x.energy y.energy) i (first_unranked (i + 1) (y ∷ ys))
    (λ e k. ranked-cons x y ys (slower-from_tests x y e) k) (ranked-first_unranked (i + 1) (y ∷ ys))

-- each cost is at least 1
one_cost : (P : Costs → Type 0) (table : Members) (key : List ℕ) (f : ℕ → Result Costs Refusal) → ((n : ℕ) → 1 ≤ n → IfOk (f n) P) → IfOk (cost_at_key table key >>= f) P
one_cost P table key f k =
    kept-then (IsWithin 1 65535) P (cost_at_key table key) f (within-number in_cost table 1 65535 key) (λ n h. k n h.from)

positive-costs_of : (table : Members) → IfOk (costs_in table) CostsArePositive
unfolding costs_in
positive-costs_of table =
    any-then CostsArePositive (checked_keys (bad_key in_cost) cost_keys cost_keys table) _ (λ _.
    one_cost CostsArePositive table (codes "alu") _ (λ alu h1.
    one_cost CostsArePositive table (codes "load") _ (λ load h2.
    one_cost CostsArePositive table (codes "store") _ (λ store h3.
    one_cost CostsArePositive table (codes "taken") _ (λ taken h4.
    one_cost CostsArePositive table (codes "untaken") _ (λ untaken h5.
    one_cost CostsArePositive table (codes "jump") _ (λ jump h6.
    one_cost CostsArePositive table (codes "mul") _ (λ mul h7.
    one_cost CostsArePositive table (codes "div") _ (λ div h8.
    one_cost CostsArePositive table (codes "ecall") _ (λ ecall h9.
    one_cost CostsArePositive table (codes "fence") _ (λ fence h10.
    record { alu = h1; load = h2; store = h3; taken = h4; untaken = h5; jump = h6; mul = h7; div = h8; ecall = h9; fence = h10 })))))))))))

-- the numbers at the top of the file
record TopIsWithin (top : FileNumbers) : Type 0 where
  deadline : IsWithin 1 (2 ^ 63 - 1) top.deadline
  steps : IsWithin 1 (2 ^ 40) top.steps

top_number : (P : FileNumbers → Type 0) (table : Members) (low high : ℕ) (key : List ℕ) (f : ℕ → Result FileNumbers Refusal)
    → ((n : ℕ) → IsWithin low high n → IfOk (f n) P) → IfOk (number in_file table low high key >>= f) P
top_number P table low high key f k = kept-then (IsWithin low high) P (number in_file table low high key) f (within-number in_file table low high key) k

within-top_numbers : (version : ℕ) (table : Members) → IfOk (top_numbers version table) TopIsWithin
unfolding top_numbers
within-top_numbers version table =
    top_number TopIsWithin table 1 (2 ^ 63 - 1) (codes "deadline") _ (λ deadline d.
    top_number TopIsWithin table 1 (2 ^ 40) (codes "steps") _ (λ steps s.
    top_number TopIsWithin table 0 (2 ^ 32 - 1) (codes "min_gain") _ (λ min_gain _.
    any-then TopIsWithin (switch_cost version table (codes "switch_time")) _ (λ switch_time.
    any-then TopIsWithin (switch_cost version table (codes "switch_energy")) _ (λ switch_energy.
    record { deadline = d; steps = s })))))

model-machine_of : (table : Members) → IfOk (machine_of table) IsPowerModel
unfolding machine_of
model-machine_of table =
    any-then IsPowerModel (version_of table) _ (λ version.
    any-then IsPowerModel (checked_keys (bad_key in_file) top_keys top_keys table) _ (λ _.
    kept-then TopIsWithin IsPowerModel (top_numbers version table) _ (within-top_numbers version table) (λ top t.
    any-then IsPowerModel (cost_table table) _ (λ in_costs.
    kept-then (λ ts. IsWithin 1 8 (length ts)) IsPowerModel (level_tables table) _ (few-level_tables table) (λ in_levels few.
    kept-then CostsArePositive IsPowerModel (costs_in in_costs) _ (positive-costs_of in_costs) (λ costs c.
    kept-then (AreLevelsOf (length in_levels)) IsPowerModel (levels_from 0 in_levels) _ (positive-levels_from 0 in_levels) (λ levels l.
    any-then IsPowerModel (pair_table (codes "switch_time") (length levels) top.switch_time) _ (λ switch_time.
    any-then IsPowerModel (pair_table (codes "switch_energy") (length levels) top.switch_energy) _ (λ switch_energy.
    kept-then (λ _. AreRanked levels) IsPowerModel (ranked (first_unranked 1 levels)) _ (ranked-first_unranked 1 levels) (λ _ r.
    record {
      some = omega (arith, few.from, l.count);
      few = omega (arith, few.to, l.count);
      positive = l.positive;
      ranked = r;
      costs = c;
      deadline_from = t.deadline.from;
      deadline_to = omega (arith, t.deadline.to);
      steps_from = t.steps.from;
      steps_to = t.steps.to;
    }))))))))))

model-read_machine : (bytes : List ℕ) → IfOk (read_machine bytes) IsPowerModel
unfolding read_machine
model-read_machine bytes = any-then IsPowerModel (or_refuse MachineText (document_of bytes)) machine_of model-machine_of

pub model-from_bytes : (bytes : List ℕ) (power : PowerModel) → read_machine bytes ≡ Ok power → IsPowerModel power
model-from_bytes bytes power e = IfOk-at_ok IsPowerModel e (model-read_machine bytes)
