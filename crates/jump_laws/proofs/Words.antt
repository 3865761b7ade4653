-- Words of a table, by addresses and by sums.
use Rattle.std.proofs.Common.{◌≡◌, ℕ, ◌+◌, ◌-◌, ◌*◌, ◌<◌, ◌≤◌, ◌%◌, ◌^◌, ⊎_elim, sym, ap, ◌∙◌, subst, arith}
use Rattle.std.proofs.lemmas.Bool.{cases_lt}
use Rattle.std.proofs.Math.Nat.{mul-add, mul-le-mul_left}
use Rattle.scale_base.specs.Arith.{plus}
use Rattle.scale_base.specs.State.{word_at}
use Rattle.bound_laws.specs.Values.{ahead, IsIn, AreBytes}
use Rattle.fixed_tables.specs.declared.table.Table.{Table}
use Rattle.jump_laws.specs.Reads.{addresses_in, entry_of, IsEntryOf, IsPlainTable, raised}

behind : (low more a : ℕ) → low < 2 ^ 32 → a < 2 ^ 32 → (a + (2 ^ 32 - low)) % 2 ^ 32 ≤ more → low + more < 2 ^ 32 → a ≡ low + (a + (2 ^ 32 - low)) % 2 ^ 32
behind low more a b c d e = omega arith

few : (step k count : ℕ) → 0 < step → 0 < count → step * k ≤ step * (count - 1) → k < count
few step k count p q h = ⊎_elim (λ (l : k < count). l)
    (λ (g : count ≤ k).
    let a : step * ((count - 1) + 1) ≤ step * k = mul-le-mul_left step (let r : (count - 1) + 1 ≤ k = omega arith in r) in
    let b : step * ((count - 1) + 1) ≡ step * (count - 1) + step * 1 = mul-add step (count - 1) 1 in
    let bad : ⊥ = omega arith in absurd bad) (cases_lt k count)

-- an address in the interval of a table's addresses is that of a word of it
pub word_number : (table : Table) (a : ℕ) → IsPlainTable table → IsIn (addresses_in table) a → (k : ℕ) × (k < table.count) × (a ≡ table.at + table.step * k)
word_number table a plain is =
    let m = is.step in
    let near : ahead table.at a ≤ table.step * (table.count - 1) = is.near in
    let e : ahead table.at a ≡ table.step * m.0 = m.1 in
    let low : table.step * m.0 ≤ table.step * (table.count - 1) = subst (λ (n : ℕ). n ≤ table.step * (table.count - 1)) e near in
    let f : a ≡ table.at + ahead table.at a = behind table.at (table.step * (table.count - 1)) a is.start is.word near plain.fits in
    (m.0, few table.step m.0 table.count plain.apart plain.some low, f ∙ ap (λ (n : ℕ). table.at + n) e)

word_below : (a b c d : ℕ) → a < 256 → b < 256 → c < 256 → d < 256 → (0 + (a + b * 2 ^ 8 + c * 2 ^ 16 + d * 2 ^ 24)) % 2 ^ 32 ≡ a + b * 2 ^ 8 + c * 2 ^ 16 + d * 2 ^ 24
word_below a b c d p q r s = omega arith

-- a word that is an address is what it gives
pub plain_entry : (bytes : ℕ → ℕ) (table : Table) (k : ℕ) → AreBytes bytes → IsPlainTable table → entry_of bytes table k ≡ word_at bytes (table.at + table.step * k)
plain_entry bytes table k small plain =
    let a : ℕ = table.at + table.step * k in
    ap (λ (n : ℕ). (n + word_at bytes a) % 2 ^ 32) plain.base ∙ word_below (bytes a) (bytes (a + 1)) (bytes (a + 2)) (bytes (a + 3)) (small a) (small (a + 1)) (small (a + 2)) (small (a + 3))

sums : (base word n : ℕ) → ((base + word) % 2 ^ 32 + n) % 2 ^ 32 ≡ ((base + n) % 2 ^ 32 + word) % 2 ^ 32
sums base word n = omega arith

sums_to : (base word n : ℕ) → (n + (base + word) % 2 ^ 32) % 2 ^ 32 ≡ ((base + n) % 2 ^ 32 + word) % 2 ^ 32
sums_to base word n = omega arith

-- a word with a number more is one of the table that is raised by it
pub raised_entry : (bytes : ℕ → ℕ) (table other : Table) (value n sum : ℕ) → IsEntryOf bytes table value → other ≡ raised table n → sum ≡ plus value n → IsEntryOf bytes other sum
raised_entry bytes table other value n sum (k, lt, is) same e =
    subst (λ (y : Table). IsEntryOf bytes y sum) (sym same)
    (k, lt, e ∙ (ap (λ (x : ℕ). plus x n) is ∙ sums table.base (word_at bytes (table.at + table.step * k)) n))

pub raised_entry_to : (bytes : ℕ → ℕ) (table other : Table) (value n sum : ℕ) → IsEntryOf bytes table value → other ≡ raised table n → sum ≡ plus n value → IsEntryOf bytes other sum
raised_entry_to bytes table other value n sum (k, lt, is) same e =
    subst (λ (y : Table). IsEntryOf bytes y sum) (sym same)
    (k, lt, e ∙ (ap (λ (x : ℕ). plus n x) is ∙ sums_to table.base (word_at bytes (table.at + table.step * k)) n))
