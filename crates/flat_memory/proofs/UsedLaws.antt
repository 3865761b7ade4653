-- Whether an address from one to another is used.
use Rattle.std.proofs.Common.{◌≡◌, ℕ, ◌+◌, ◌<◌, ◌≤◌, Bool, true, false, not, List, length, get_or, refl, ap, sym, ◌∙◌, arith, inl, inr, vec_len}
use Rattle.std.specs.Prelude.{◌||◌, ◌==◌, nat_lt, nat_le, ◌↔◌}
use Rattle.std.specs.List.{list_any}
use Rattle.std.proofs.lemmas.Bool.{cases_lt, cases_eq}
use Rattle.std.proofs.lemmas.Bool.Decides.{nat_tests}
use Rattle.std.proofs.lemmas.List.Folds.{list_any_at}
use Rattle.scale_base.specs.Layout.{in_stack}
use Rattle.flat_memory.specs.Blocks.{holds}
use Rattle.flat_memory.specs.declared.block.Block.{Block}
use Rattle.flat_memory.proofs.OrderLaws.{any_none}
use Rattle.flat_memory.proofs.PageLaws.{some_index}

-- an address from one to another passes the test
abbrev pub Has : ℕ → ℕ → (ℕ → Bool) → Type 0
Has from last test = (a : ℕ) × (from ≤ a) × (a ≤ last) × (test a ≡ true)

-- whether the stack or a block has the address
abbrev pub used : List Block → ℕ → Bool
used blocks a = in_stack a || list_any (holds a) blocks

-- none of the first k blocks has an address from one to another
abbrev pub Unused : List Block → ℕ → ℕ → ℕ → Type 0
Unused blocks from last k = (a i : ℕ) (d : Block) → from ≤ a → a ≤ last → i < k → holds a (get_or blocks i d) ≡ false

-- a block that isn't empty has its first address
pub first_held : (b : Block) (from last : ℕ) (empty : Bool) → from ≤ b.from → b.from ≤ last → empty ≡ (vec_len b.bytes == 0) → not empty ≡ true → Has from last (λ a. holds a b)
first_held b from last empty low high is some = (b.from, low, high, grind (arith, nat_tests))

-- ---- blocks, one by one

untrue : (b : Bool) → (b ≡ true → ⊥) → b ≡ false
untrue true away = absurd (away refl)
untrue false away = refl

apart : (b : Bool) → b ≡ false → b ≡ true → ⊥
apart true f t = cc
apart false f t = cc

pub unused_more : (xs : List Block) (from last k : ℕ) (b : Block) (touched : Bool) → k < length xs → b ≡ get_or xs k b → (touched ≡ true) ↔ Has from last (λ a. holds a b) → touched ≡ false →
    Unused xs from last k → Unused xs from last (k + 1)
unused_more xs from last k b touched inside is says away before a i d low high lt =
    elim (cases_eq i k) [
      | inl same ↦
          (let here : get_or xs i d ≡ b = ap (λ n. get_or xs n d) same ∙ (some_index xs k d b inside ∙ sym is) in
          ap (holds a) here ∙ untrue (holds a b) (λ yes. apart touched away (says.1 (a, low, high, yes))))
      | inr ne ↦ before a i d low high (omega arith)
    ]

or_right : (a b : Bool) → b ≡ true → (a || b) ≡ true
or_right true b e = refl
or_right false b e = e

pub used_block : (xs : List Block) (from last k : ℕ) (b : Block) → k < length xs → b ≡ get_or xs k b → Has from last (λ a. holds a b) → Has from last (used xs)
used_block xs from last k b inside is h =
    (h.0, h.1, h.2, or_right (in_stack h.0) (list_any (holds h.0) xs) (list_any_at (holds h.0) xs k b inside (ap (holds h.0) (sym is) ∙ h.3)))

-- ---- and the stack

or_left : (a b : Bool) → a ≡ true → (a || b) ≡ true
or_left true b e = refl
or_left false b e = absurd cc

left_of : (a b : Bool) → (a || b) ≡ true → b ≡ false → a ≡ true
left_of true b e f = refl
left_of false b e f = absurd cc

stack_met : (from last : ℕ) (off : Bool) → from ≤ last → off ≡ (nat_lt last 0x7FFC0000 || nat_le 0x80000000 from) → not off ≡ true → Has from last in_stack
stack_met from last off some is on =
    elim (cases_lt from 0x7FFC0000) [
      | inl below ↦ (0x7FFC0000, omega arith, grind (arith, nat_tests), grind (arith, nat_tests))
      | inr above ↦ (from, omega arith, some, grind (arith, nat_tests))
    ]

stack_meets : (from last a : ℕ) (off : Bool) → off ≡ (nat_lt last 0x7FFC0000 || nat_le 0x80000000 from) → from ≤ a → a ≤ last → in_stack a ≡ true → not off ≡ true
stack_meets from last a off is low high here = grind (arith, nat_tests)

-- where no block has an address from one to another, the stack decides
pub used_stack : (xs : List Block) (from last k : ℕ) (off : Bool) → from ≤ last → length xs ≤ k → Unused xs from last k → off ≡ (nat_lt last 0x7FFC0000 || nat_le 0x80000000 from) → (not off ≡ true) ↔ Has from last (used xs)
used_stack xs from last k off some all none is = (
  λ on. let h = stack_met from last off some is on in (h.0, h.1, h.2, or_left (in_stack h.0) (list_any (holds h.0) xs) h.3),
  λ h.
      let away : list_any (holds h.0) xs ≡ false = any_none (holds h.0) xs (λ i d lt. none h.0 i d h.1 h.2 (omega arith)) in
      stack_meets from last h.0 off is h.1 h.2 (left_of (in_stack h.0) (list_any (holds h.0) xs) h.3 away),
)
