-- What is to show of numbers that are divided, case by case.
use Rattle.std.proofs.Common.{◌≡◌, ◌<◌, ◌≤◌, ◌+◌, ◌-◌, ◌*◌, ◌^◌, get_or, ℕ, List, length, Option, Some, None, arith, sym, ap, ◌∙◌, subst}
use Rattle.std.specs.List.{All}
use Rattle.std.specs.Prelude.{slice_get, option_map, is_some, IfSome}
use Rattle.std.proofs.lemmas.List.{get_or_default}
use Rattle.std.proofs.lemmas.Nat.{pow-add}
use Rattle.std.proofs.lemmas.Option.{slice_get-get_or}
use Rattle.std.proofs.Math.Nat.{mul-le-mul_right}
use Rattle.scale_base.specs.declared.instruction.Instr.{Instr}
use Rattle.bound_laws.specs.Values.{Arc, Values, top_of}
use Rattle.stack_laws.specs.Digits as digits
use Rattle.stack_laws.specs.Digits.{IsDwindlingBehind, IsDwindlingOver}
use Rattle.stack_laws.specs.Digits.IsDwindlingBy.{known}
use Rattle.stack_tables.specs.declared.tables.Dwindling.{Dwindling}
use Rattle.stack_tables.specs.Tables.{dwindling_in, dwindling_view}
use Rattle.stack_checks.specs.declared.ways.Way.{Way}
use Rattle.stack_checks.specs.Checked.{IsDividedOn, IsDwindlingByAlong, IsLimitOf, IsSomeDivided, IsSomeLimit, passed_along}
use Rattle.stack_checks.proofs.CellRows.{of_each, one_so_far}

-- what is so of what is found is so in other words
pub if_some : {A : Type 0} {P Q : A → Type 0} (o : Option A) → IfSome o P → ((x : A) → P x → Q x) → IfSome o Q
if_some None given so = tt
if_some (Some x) given so = so x given

-- ---- powers of two

-- a product with a number of so many bits
pub short_product : (top bits : ℕ) → top < 2 ^ bits → bits ≤ 32 → top * 2 ^ (32 - bits) ≤ 2 ^ 32
short_product top bits below few =
    let less : top ≤ 2 ^ bits = omega (arith, below) in
    let product : top * 2 ^ (32 - bits) ≤ 2 ^ bits * 2 ^ (32 - bits) = mul-le-mul_right (2 ^ (32 - bits)) less in
    let all : bits + (32 - bits) ≡ 32 = omega (arith, few) in
    let whole : 2 ^ bits * 2 ^ (32 - bits) ≡ 2 ^ 32 = sym (pow-add 2 bits (32 - bits)) ∙ ap (λ (n : ℕ). 2 ^ n) all in
    subst (λ (n : ℕ). top * 2 ^ (32 - bits) ≤ n) whole product

-- a number and a count by their intervals
pub known_so : (x : Way) (y : Dwindling) (value count : Arc) (bits t m : ℕ) → passed_along x y.value ≡ Some value → passed_along x y.count ≡ Some count → t ≡ top_of (Some value) → m ≡ top_of (Some count) → t < 2 ^ bits → bits + y.bits * m ≤ y.below → IsDwindlingByAlong x y
known_so x y value count bits t m v n is_top is_most below room = known bits (ap (λ (o : Option Arc). is_some o) v) (ap (λ (o : Option Arc). is_some o) n)
    (subst (λ (o : Option Arc). top_of o < 2 ^ bits) (sym v) (subst (λ (k : ℕ). k < 2 ^ bits) is_top below))
    (subst (λ (o : Option Arc). bits + y.bits * top_of o ≤ y.below) (sym n) (subst (λ (k : ℕ). bits + y.bits * k ≤ y.below) is_most room))

-- ---- rows

pub divided_at : (x : Way) (row : List Dwindling) (y : Dwindling) (n : ℕ) (d : Dwindling) → n < length row → IsDividedOn x (get_or row n d) y → IsSomeDivided x row y
divided_at x row y n d within on = record { number = n; found = get_or row n d; found_is = slice_get-get_or row n d within; on = on }

pub limit_at : (x : Way) (row : List Dwindling) (r n : ℕ) (d : Dwindling) → n < length row → IsLimitOf x r (get_or row n d) → IsSomeLimit x row r
limit_at x row r n d within of = record { number = n; found = get_or row n d; found_is = slice_get-get_or row n d within; of = of }

pub all_so_far : {A : Type 0} (P : A → Type 0) (xs : List A) (n : ℕ) (d : A) → n < length xs → P (get_or xs n d) → ((i : ℕ) (other : A) → i < n → P (get_or xs i other)) → (i : ℕ) (other : A) → i < n + 1 → P (get_or xs i other)
all_so_far P xs n d within here before = one_so_far P xs n (get_or xs n d) within (get_or_default xs n d (get_or xs n d) within) here before

pub dwindling_of : (xs : List Dwindling) (n : ℕ) (x : Dwindling) (o : Option digits.Dwindling) → dwindling_in xs n ≡ o → slice_get xs n ≡ Some x → o ≡ Some (dwindling_view x)
dwindling_of xs n x o same at = sym same ∙ ap (option_map dwindling_view) at

pub behind_all : (v : Values) (before : ℕ → Option digits.Dwindling) (i : Instr) (a b : ℕ) (xs : List Dwindling) → All (λ (y : Dwindling). IsDwindlingOver v before i a b (dwindling_view y)) xs → (j : ℕ) → IsDwindlingBehind v before i a b (dwindling_in xs j)
behind_all v before i a b xs all = of_each dwindling_view (IsDwindlingBehind v before i a b) tt xs all
