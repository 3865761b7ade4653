-- What a step leaves of the words in memory, as `stack_laws` has it for its own proofs.
use Rattle.std.proofs.Common.{◌≡◌, ℕ, ◌+◌, ◌-◌, ◌*◌, ◌/◌, ◌<◌, ◌≤◌, ◌%◌, ◌^◌, ◌⊎◌, inl, inr, ⊎_elim, true, List, [], ◌∷◌, length, refl, ap, ◌∙◌, subst, arith}
use Rattle.std.specs.Prelude.{◌==◌, not, nat_lt, min, take, drop}
use Rattle.std.proofs.lemmas.Bool.{cond_both, cond-false, eqb-true, ne_eqb, not-false, and_parts, cases_lt, leb-true}
use Rattle.std.proofs.lemmas.List.{length-take}
use Rattle.scale_base.specs.declared.instruction.StoreOp.{StoreOp}
use Rattle.scale_base.specs.declared.instruction.StoreOp.TheVariants.{Sb, Sh, Sw}
use Rattle.scale_base.specs.declared.instruction.Instr.{Instr}
use Rattle.scale_base.specs.Layout.{can_write, uses_window, may_write, reads_byte}
use Rattle.scale_base.specs.Arith.{store_width, stored}
use Rattle.scale_base.specs.State.{Setting, State, reg, with_byte, with_half, with_list, word_at}
use Rattle.scale_base.specs.Service.{served, serves, read_count, write_count}
use Rattle.scale_base.specs.Step.{Outcome, stores, window_index, port_index}
use Rattle.stack_laws.specs.Stacks.{IsApart}

-- ---- bytes and words

byte_out : (bytes : ℕ → ℕ) (at value a : ℕ) → (a ≡ at → ⊥) → with_byte bytes at value a ≡ bytes a
unfolding with_byte
byte_out bytes at value a ne = cond-false _ _ _ (ne_eqb a at ne)

-- so many bytes from an address on are the same
abbrev pub AreSame : (ℕ → ℕ) → (ℕ → ℕ) → ℕ → ℕ → Type 0
AreSame f g q n = (i : ℕ) → i < n → f (q + i) ≡ g (q + i)

pub first_same : (f g : ℕ → ℕ) (q n : ℕ) → 0 < n → AreSame f g q n → f q ≡ g q
first_same f g q n lt same = subst (λ x. f x ≡ g x) (let e : q + 0 ≡ q = omega arith in e) (same 0 lt)

pub word_same : (f g : ℕ → ℕ) (q : ℕ) → AreSame f g q 4 → word_at f q ≡ word_at g q
word_same f g q same =
    ap (λ x. x + f (q + 1) * 2 ^ 8 + f (q + 2) * 2 ^ 16 + f (q + 3) * 2 ^ 24) (first_same f g q 4 (omega arith) same)
    ∙ (ap (λ x. g q + x * 2 ^ 8 + f (q + 2) * 2 ^ 16 + f (q + 3) * 2 ^ 24) (same 1 (omega arith))
    ∙ (ap (λ x. g q + g (q + 1) * 2 ^ 8 + x * 2 ^ 16 + f (q + 3) * 2 ^ 24) (same 2 (omega arith))
    ∙ ap (λ x. g q + g (q + 1) * 2 ^ 8 + g (q + 2) * 2 ^ 16 + x * 2 ^ 24) (same 3 (omega arith))))

-- an address that is none of so many from q on
abbrev IsOut : ℕ → ℕ → ℕ → Type 0
IsOut at q n = (at < q) ⊎ (q + n ≤ at)

other : (at q n i : ℕ) → i < n → IsOut at q n → q + i ≡ at → ⊥
other at q n i lt out e = ⊎_elim (λ (l : at < q). let bad : ⊥ = omega arith in bad) (λ (g : q + n ≤ at). let bad : ⊥ = omega arith in bad) out

byte_same : (bytes : ℕ → ℕ) (at value q n : ℕ) → IsOut at q n → AreSame (with_byte bytes at value) bytes q n
byte_same bytes at value q n out i lt = byte_out bytes at value (q + i) (other at q n i lt out)

-- so many bytes, none of which is one of n from q on
abbrev pub AreOut : ℕ → ℕ → ℕ → ℕ → Type 0
AreOut at width q n = (at + width ≤ q) ⊎ (q + n ≤ at)

each_out : (at width q n i : ℕ) → i < width → AreOut at width q n → IsOut (at + i) q n
each_out at width q n i lt out = ⊎_elim (λ (l : at + width ≤ q). inl (let e : at + i < q = omega arith in e)) (λ (g : q + n ≤ at). inr (let e : q + n ≤ at + i = omega arith in e)) out

first_out : (at width q n : ℕ) → 0 < width → AreOut at width q n → IsOut at q n
first_out at width q n lt out = subst (λ k. IsOut k q n) (let e : at + 0 ≡ at = omega arith in e) (each_out at width q n 0 lt out)

stored_out : (op : StoreOp) (bytes : ℕ → ℕ) (at value q n : ℕ) → AreOut at (store_width op) q n → AreSame (stored op bytes at value) bytes q n
stored_out Sb bytes at value q n out i lt = byte_same bytes at (value % 256) q n (first_out at 1 q n (omega arith) out) i lt
stored_out Sh bytes at value q n out i lt =
    byte_same (with_byte bytes at (value % 256)) (at + 1) (value / 2 ^ 8 % 256) q n (each_out at 2 q n 1 (omega arith) out) i lt
    ∙ byte_same bytes at (value % 256) q n (first_out at 2 q n (omega arith) out) i lt
stored_out Sw bytes at value q n out i lt =
    byte_same (with_byte (with_half bytes at value) (at + 2) (value / 2 ^ 16 % 256)) (at + 3) (value / 2 ^ 24 % 256) q n (each_out at 4 q n 3 (omega arith) out) i lt
    ∙ (byte_same (with_half bytes at value) (at + 2) (value / 2 ^ 16 % 256) q n (each_out at 4 q n 2 (omega arith) out) i lt
    ∙ (byte_same (with_byte bytes at (value % 256)) (at + 1) (value / 2 ^ 8 % 256) q n (each_out at 4 q n 1 (omega arith) out) i lt
    ∙ byte_same bytes at (value % 256) q n (first_out at 4 q n (omega arith) out) i lt))

list_out : (xs : List ℕ) (bytes : ℕ → ℕ) (at q n : ℕ) → AreOut at (length xs) q n → AreSame (with_list bytes at xs) bytes q n
unfolding with_list
list_out [] bytes at q n out i lt = refl
list_out (x ∷ xs) bytes at q n out i lt = list_out xs (with_byte bytes at x) (at + 1) q n later i lt ∙ byte_same bytes at x q n (first_out at (length (x ∷ xs)) q n (omega arith) out) i lt
  where
    later : AreOut (at + 1) (length xs) q n
    later = ⊎_elim (λ (l : at + length (x ∷ xs) ≤ q). inl (let e : at + 1 + length xs ≤ q = omega arith in e)) (λ (g : q + n ≤ at). inr (let e : q + n ≤ at + 1 = omega arith in e)) out

-- ---- addresses modulo 2^32

pub apart_out : (at width q : ℕ) → at < 2 ^ 32 → q < 2 ^ 32 → at + width ≤ 2 ^ 32 → IsApart at width q → AreOut at width q 4
apart_out at width q a b fits apart = ⊎_elim
    (λ (l : at < q). inl (before at width q a b l apart.0))
    (λ (g : q ≤ at). ⊎_elim (λ (m : q < at). inr (behind at q a b m apart.1)) (λ (m : at ≤ q). inl (same at width q a b g m apart.0)) (cases_lt q at)) (cases_lt at q)
  where
    before : (at width q : ℕ) → at < 2 ^ 32 → q < 2 ^ 32 → at < q → width ≤ (q + (2 ^ 32 - at)) % 2 ^ 32 → at + width ≤ q
    before at width q a b l h = omega arith

    behind : (at q : ℕ) → at < 2 ^ 32 → q < 2 ^ 32 → q < at → 4 ≤ (at + (2 ^ 32 - q)) % 2 ^ 32 → q + 4 ≤ at
    behind at q a b l h = omega arith

    same : (at width q : ℕ) → at < 2 ^ 32 → q < 2 ^ 32 → q ≤ at → at ≤ q → width ≤ (q + (2 ^ 32 - at)) % 2 ^ 32 → at + width ≤ q
    same at width q a b g m h = omega arith

aligned_fits : (op : StoreOp) (at : ℕ) → at < 2 ^ 32 → at % store_width op ≡ 0 → at + store_width op ≤ 2 ^ 32
aligned_fits Sb at a h = omega arith
aligned_fits Sh at a h = two at a h
  where
    two : (at : ℕ) → at < 2 ^ 32 → at % 2 ≡ 0 → at + 2 ≤ 2 ^ 32
    two at a h = omega arith
aligned_fits Sw at a h = four at a h
  where
    four : (at : ℕ) → at < 2 ^ 32 → at % 4 ≡ 0 → at + 4 ≤ 2 ^ 32
    four at a h = omega arith

-- ---- steps

module _ (env : Setting) (s : State) (q many : ℕ) where
  abbrev Keeps : Outcome → Type 0
  Keeps o = AreSame o.state.bytes s.bytes q many

  pub stores_keep : (i : Instr) (op : StoreOp) (at value : ℕ) → at < 2 ^ 32 → (at + store_width op ≤ 2 ^ 32 → AreOut at (store_width op) q many) → Keeps (stores env s i op at value)
  stores_keep i op at value low out =
      cond_both (not (at % store_width op == 0)) _ _ Keeps (λ _ i lt. refl)
      (λ whole. cond_both (uses_window env.layout s.pc at (store_width op)) _ _ Keeps
      (λ _. cond_both (not (window_index at == port_index)) _ _ Keeps (λ _ i lt. refl)
      (λ _. cond_both (nat_lt value env.levels) _ _ Keeps (λ _ i lt. refl) (λ _ i lt. refl)))
      (λ _. cond_both (can_write env.layout at (store_width op)) _ _ Keeps
      (λ _. stored_out op s.bytes at value q many (out (aligned_fits op at low (eqb-true (at % store_width op) 0 (not-false (at % store_width op == 0) whole))))) (λ _ i lt. refl)))

  -- a read service stores so many bytes at most
  pub served_keeps : (reg s.regs 17 ≡ 63 → (n : ℕ) → n ≤ 256 → n ≤ reg s.regs 12 → reg s.regs 11 + n ≤ 2 ^ 32 → AreOut (reg s.regs 11) n q many) → AreSame (served env s).bytes s.bytes q many
  unfolding served
  served_keeps far =
      let P : State → Type 0 = λ t. AreSame t.bytes s.bytes q many in
      cond_both (reg s.regs 17 == 63) _ _ P
      (λ is. cond_both (not (reg s.regs 10 == 0)) _ _ P (λ _ i lt. refl)
      (λ _. cond_both (not (serves (may_write env.layout) (reg s.regs 11) (read_count env s))) _ _ P (λ _ i lt. refl)
      (λ fine. reads (far (eqb-true (reg s.regs 17) 63 is)) (not-false (serves (may_write env.layout) (reg s.regs 11) (read_count env s)) fine))))
      (λ _. cond_both (reg s.regs 17 == 64) _ _ P
      (λ _. cond_both (not (reg s.regs 10 == 1)) _ _ P (λ _ i lt. refl)
      (λ _. cond_both (not (serves (reads_byte env.layout s.pc) (reg s.regs 11) (write_count s))) _ _ P (λ _ i lt. refl) (λ _ i lt. refl)))
      (λ _ i lt. refl))
    where
      xs : List ℕ
      xs = take (read_count env s) (drop s.used env.input)

      reads : ((n : ℕ) → n ≤ 256 → n ≤ reg s.regs 12 → reg s.regs 11 + n ≤ 2 ^ 32 → AreOut (reg s.regs 11) n q many) → serves (may_write env.layout) (reg s.regs 11) (read_count env s) ≡ true → AreSame (with_list s.bytes (reg s.regs 11) xs) s.bytes q many
      reads h fine =
          let e : length xs ≡ min (read_count env s) (length (drop s.used env.input)) = length-take (read_count env s) (drop s.used env.input) in
          let few : length xs ≤ read_count env s = omega arith in
          let room : reg s.regs 11 + read_count env s ≤ 2 ^ 32 = leb-true (reg s.regs 11 + read_count env s) (2 ^ 32) (and_parts _ _ fine).0 in
          let fits : reg s.regs 11 + length xs ≤ 2 ^ 32 = omega arith in
          let small_count : length xs ≤ 256 = omega arith in
          let asked : length xs ≤ reg s.regs 12 = omega arith in
          list_out xs s.bytes (reg s.regs 11) q many (h (length xs) small_count asked fits)
