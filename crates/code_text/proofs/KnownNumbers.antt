-- The number that is known of x17 at an address is that of the nearest `addi` before it.
use Rattle.std.proofs.Common.{◌≡◌, ℕ, zero, suc, ◌-◌, ◌*◌, ◌<◌, ◌≤◌, Bool, true, false, List, [], ◌∷◌, inl, inr, refl, sym, ap, ◌∙◌, subst, arith, Option, Some, None}
use Rattle.std.specs.Prelude.{◌==◌, ◌||◌, ◌&&◌, not, nat_lt, nat_le, All}
use Rattle.std.specs.List.{find, list_any}
use Rattle.std.proofs.lemmas.Bool.{or_parts, or_from, and_left, and_parts, and_from, not-false, not-true, lt-ltb, le-leb, leb-true, ltb-true, cond-true, cond-false}
use Rattle.std.proofs.lemmas.List.Elements.{All-head, All-tail}
use Rattle.scale_base.specs.declared.ranges.Range.{Range}
use Rattle.scale_base.specs.Image.{is_in}
use Rattle.scale_base.specs.declared.instruction.ImmOp.TheVariants.{Addi, Slti, Sltiu, Xori, Ori, Andi, Slli, Srli, Srai}
use Rattle.scale_base.specs.declared.instruction.Instr.{Instr}
use Rattle.scale_base.specs.declared.instruction.Instr.TheVariants.{Lui, Auipc, Jal, Jalr, Branch, Load, Store, Imm, Reg, Fence, Ecall, Ebreak}
use Rattle.machine_laws.proofs.Laws.{found_in, found_from_any, found_passes, any_from_found}
use Rattle.code_text.specs.Text.{Text, instr_at, is_target, follows, puts17, leaves17, or_passed, known_behind, known_within, IsPutBefore, AreApart}
use Rattle.code_text.specs.Laws.{KnownNumbersArePut}

-- the same by neighbors: each of the words stands in one range with the next
pub record IsPassedOn (t : Text) (v m k : ℕ) : Type 0 where
  pub puts : (i : Instr) × (instr_at t (v - 4 * m) ≡ Some i) × (puts17 i ≡ Some k)
  pub between : (j : ℕ) → 1 ≤ j → j < m → (i : Instr) × (instr_at t (v - 4 * j) ≡ Some i) × (leaves17 i ≡ true)
  pub joined : (j : ℕ) → j < m → follows t (v - 4 * j) ≡ true
  pub no_way_in : (j : ℕ) → j < m → is_target t (v - 4 * j) ≡ false

-- one word nearer
nearer : (v j : ℕ) → v - 4 - 4 * j ≡ v - 4 * suc j
nearer v j = omega arith

none_nearer : (v : ℕ) → v - 4 * 0 ≡ v
none_nearer v = omega arith

by_first : (t : Text) (v k : ℕ) (i : Instr) → is_target t v ≡ false → follows t v ≡ true → instr_at t (v - 4) ≡ Some i → puts17 i ≡ Some k → IsPassedOn t v 1 k
by_first t v k i way join at puts = record {
  puts = (i, at, puts);
  between = λ j low high. (let bad : ⊥ = omega arith in absurd bad);
  joined = λ j lt. subst (λ x. follows t x ≡ true) (let e : v ≡ v - 4 * j = omega arith in e) join;
  no_way_in = λ j lt. subst (λ x. is_target t x ≡ false) (let e : v ≡ v - 4 * j = omega arith in e) way;
}

by_next : (t : Text) (v m k : ℕ) (i : Instr) → is_target t v ≡ false → follows t v ≡ true → instr_at t (v - 4) ≡ Some i → leaves17 i ≡ true → IsPassedOn t (v - 4) m k → IsPassedOn t v (suc m) k
by_next t v m k i way join at leaves put = record {
  puts = subst (λ x. (i : Instr) × (instr_at t x ≡ Some i) × (puts17 i ≡ Some k)) (nearer v m) put.puts;
  between = between;
  joined = joined;
  no_way_in = no_way_in;
}
  where
    between : (j : ℕ) → 1 ≤ j → j < suc m → (i : Instr) × (instr_at t (v - 4 * j) ≡ Some i) × (leaves17 i ≡ true)
    between zero low high = let bad : ⊥ = omega arith in absurd bad
    between (suc zero) low high = (i, at, leaves)
    between (suc (suc j)) low high = subst (λ x. (i : Instr) × (instr_at t x ≡ Some i) × (leaves17 i ≡ true)) (nearer v (suc j)) (put.between (suc j) (omega arith) (omega (arith, high)))

    joined : (j : ℕ) → j < suc m → follows t (v - 4 * j) ≡ true
    joined zero lt = subst (λ x. follows t x ≡ true) (sym (none_nearer v)) join
    joined (suc j) lt = subst (λ x. follows t x ≡ true) (nearer v j) (put.joined j (omega (arith, lt)))

    no_way_in : (j : ℕ) → j < suc m → is_target t (v - 4 * j) ≡ false
    no_way_in zero lt = subst (λ x. is_target t x ≡ false) (sym (none_nearer v)) way
    no_way_in (suc j) lt = subst (λ x. is_target t x ≡ false) (nearer v j) (put.no_way_in j (omega (arith, lt)))

-- what is known was put there
known_put : (t : Text) (n v k : ℕ) → known_within t n v ≡ Some k → (m : ℕ) × (1 ≤ m) × (m ≤ n) × IsPassedOn t v m k
unfolding known_within
known_put t zero v k h = let bad : ⊥ = cc in absurd bad
known_put t (suc n) v k h = go (λ q. known_put t n (v - 4) k q) (is_target t v || not (follows t v)) refl
  where
    by_parts : ((known_within t n (v - 4) ≡ Some k) → (m : ℕ) × (1 ≤ m) × (m ≤ n) × IsPassedOn t (v - 4) m k) → is_target t v ≡ false → follows t v ≡ true →
        (i : Instr) → instr_at t (v - 4) ≡ Some i → (p : Option ℕ) → puts17 i ≡ p → (l : Bool) → leaves17 i ≡ l → or_passed p l (known_within t n (v - 4)) ≡ Some k → (m : ℕ) × (1 ≤ m) × (m ≤ suc n) × IsPassedOn t v m k
    by_parts ih way join i at (Some j) puts l leaves e = (1, omega arith, omega arith, by_first t v k i way join at (puts ∙ e))
    by_parts ih way join i at None puts true leaves e = let r = ih e in (suc r.0, omega arith, (let le = r.2 in omega (arith, le)), by_next t v r.0 k i way join at leaves r.3)
    by_parts ih way join i at None puts false leaves e = let bad : ⊥ = cc in absurd bad

    by_word : ((known_within t n (v - 4) ≡ Some k) → (m : ℕ) × (1 ≤ m) × (m ≤ n) × IsPassedOn t (v - 4) m k) → is_target t v ≡ false → follows t v ≡ true →
        (o : Option Instr) → instr_at t (v - 4) ≡ o → known_behind o (known_within t n (v - 4)) ≡ Some k → (m : ℕ) × (1 ≤ m) × (m ≤ suc n) × IsPassedOn t v m k
    by_word ih way join None at e = let bad : ⊥ = cc in absurd bad
    by_word ih way join (Some i) at e = by_parts ih way join i at (puts17 i) refl (leaves17 i) refl e

    go : ((known_within t n (v - 4) ≡ Some k) → (m : ℕ) × (1 ≤ m) × (m ≤ n) × IsPassedOn t (v - 4) m k) → (b : Bool) → (is_target t v || not (follows t v)) ≡ b → (m : ℕ) × (1 ≤ m) × (m ≤ suc n) × IsPassedOn t v m k
    go ih true e = let q : known_within t (suc n) v ≡ None = cond-true _ _ _ e in let bad : ⊥ = cc in absurd bad
    go ih false e =
        let parts = or_parts (is_target t v) (not (follows t v)) e in
        let q : known_within t (suc n) v ≡ known_behind (instr_at t (v - 4)) (known_within t n (v - 4)) = cond-false _ _ _ e in
        by_word ih parts.0 (not-false (follows t v) parts.1) (instr_at t (v - 4)) refl (sym q ∙ h)

-- a word that leaves x17 as it is puts nothing there
nothing_put : (i : Instr) → leaves17 i ≡ true → puts17 i ≡ None
nothing_put (Lui rd imm) h = refl
nothing_put (Auipc rd imm) h = refl
nothing_put (Jal rd offset) h = refl
nothing_put (Jalr rd rs1 offset) h = refl
nothing_put (Branch op rs1 rs2 offset) h = refl
nothing_put (Load op rd rs1 offset) h = refl
nothing_put (Store op rs1 rs2 offset) h = refl
nothing_put (Imm Addi rd rs1 imm) h = cond-false _ _ _ (and_left (rd == 17) (rs1 == 0) (not-true (rd == 17) h))
nothing_put (Imm Slti rd rs1 imm) h = refl
nothing_put (Imm Sltiu rd rs1 imm) h = refl
nothing_put (Imm Xori rd rs1 imm) h = refl
nothing_put (Imm Ori rd rs1 imm) h = refl
nothing_put (Imm Andi rd rs1 imm) h = refl
nothing_put (Imm Slli rd rs1 imm) h = refl
nothing_put (Imm Srli rd rs1 imm) h = refl
nothing_put (Imm Srai rd rs1 imm) h = refl
nothing_put (Reg op rd rs1 rs2) h = refl
nothing_put (Fence rd rs1 imm) h = refl
nothing_put Ecall h = refl
nothing_put Ebreak h = refl

behind_nearer : (t : Text) (v m k : ℕ) → IsPassedOn t v (suc (suc m)) k → IsPassedOn t (v - 4) (suc m) k
behind_nearer t v m k put = record {
  puts = subst (λ x. (i : Instr) × (instr_at t x ≡ Some i) × (puts17 i ≡ Some k)) (sym (nearer v (suc m))) put.puts;
  between = λ j low high. subst (λ x. (i : Instr) × (instr_at t x ≡ Some i) × (leaves17 i ≡ true)) (sym (nearer v j)) (put.between (suc j) (omega arith) (omega (arith, high)));
  joined = λ j lt. subst (λ x. follows t x ≡ true) (sym (nearer v j)) (put.joined (suc j) (omega (arith, lt)));
  no_way_in = λ j lt. subst (λ x. is_target t x ≡ false) (sym (nearer v j)) (put.no_way_in (suc j) (omega (arith, lt)));
}

-- and what was put there is known
put_known : (t : Text) (n v m k : ℕ) → 1 ≤ m → m ≤ n → IsPassedOn t v m k → known_within t n v ≡ Some k
unfolding known_within
put_known t zero v m k low high put = let bad : ⊥ = omega (arith, low, high) in absurd bad
put_known t (suc n) v zero k low high put = let bad : ⊥ = omega (arith, low) in absurd bad
put_known t (suc n) v (suc zero) k low high put =
    let way : is_target t v ≡ false = subst (λ x. is_target t x ≡ false) (none_nearer v) (put.no_way_in 0 (omega arith)) in
    let join : follows t v ≡ true = subst (λ x. follows t x ≡ true) (none_nearer v) (put.joined 0 (omega arith)) in
    let at : instr_at t (v - 4) ≡ Some put.puts.0 = put.puts.1 in
    let q : known_within t (suc n) v ≡ known_behind (instr_at t (v - 4)) (known_within t n (v - 4)) = cond-false _ _ _ (or_from (is_target t v) (not (follows t v)) way (ap not join)) in
    q ∙ (ap (λ o. known_behind o (known_within t n (v - 4))) at ∙ ap (λ p. or_passed p (leaves17 put.puts.0) (known_within t n (v - 4))) put.puts.2)
put_known t (suc n) v (suc (suc m)) k low high put =
    let way : is_target t v ≡ false = subst (λ x. is_target t x ≡ false) (none_nearer v) (put.no_way_in 0 (omega arith)) in
    let join : follows t v ≡ true = subst (λ x. follows t x ≡ true) (none_nearer v) (put.joined 0 (omega arith)) in
    let word = put.between 1 (omega arith) (omega arith) in
    let at : instr_at t (v - 4) ≡ Some word.0 = word.1 in
    let q : known_within t (suc n) v ≡ known_behind (instr_at t (v - 4)) (known_within t n (v - 4)) = cond-false _ _ _ (or_from (is_target t v) (not (follows t v)) way (ap not join)) in
    q ∙ (ap (λ o. known_behind o (known_within t n (v - 4))) at
    ∙ (ap (λ p. or_passed p (leaves17 word.0) (known_within t n (v - 4))) (nothing_put word.0 word.2)
    ∙ (ap (λ l. or_passed None l (known_within t n (v - 4))) word.2 ∙ put_known t n (v - 4) (suc m) k (omega arith) (omega (arith, high)) (behind_nearer t v m k put))))

-- ---- one range

-- what holds of each element holds of the one that is found
found_all : {A : Type 0} (P : A → Type 0) (q : A → Bool) (xs : List A) (x : A) → find q xs ≡ Some x → All P xs → P x
found_all P q [] x e all = absurd cc
found_all P q (y ∷ ys) x e all =
    elim (found_in (q y) x y (find q ys) e) [
      | inl here ↦ subst P here.1 (All-head P y ys all)
      | inr there ↦ found_all P q ys x there.1 (All-tail P y ys all)
    ]

-- a range of the text that holds both addresses
record HasBoth (t : Text) (a b : ℕ) : Type 0 where
  range : Range
  test : Range → Bool
  among : find test t.ranges ≡ Some range
  low : is_in a range ≡ true
  high : is_in b range ≡ true

both_of : (t : Text) (a b : ℕ) → list_any (λ r. is_in a r && is_in b r) t.ranges ≡ true → HasBoth t a b
both_of t a b h =
    let f = found_from_any (λ r. is_in a r && is_in b r) t.ranges h in
    let p = and_parts (is_in a f.0) (is_in b f.0) (found_passes (λ r. is_in a r && is_in b r) t.ranges f.0 f.1) in
    record { range = f.0; test = λ r. is_in a r && is_in b r; among = f.1; low = p.0; high = p.1 }

of_both : (t : Text) (a b : ℕ) → HasBoth t a b → list_any (λ r. is_in a r && is_in b r) t.ranges ≡ true
of_both t a b h = any_from_found h.test (λ r. is_in a r && is_in b r) t.ranges h.range h.among (and_from (is_in a h.range) (is_in b h.range) h.low h.high)

-- what lies between two addresses of a range lies in it
between_both : (t : Text) (a b x y : ℕ) → a ≤ x → x ≤ b → a ≤ y → y ≤ b → HasBoth t a b → HasBoth t x y
between_both t a b x y ax xb ay yb h = record { range = h.range; test = h.test; among = h.among; low = inside x ax xb; high = inside y ay yb }
  where
    inside : (z : ℕ) → a ≤ z → z ≤ b → is_in z h.range ≡ true
    inside z az zb =
        let p = and_parts (nat_le h.range.from a) (nat_lt a h.range.to) h.low in
        let q = and_parts (nat_le h.range.from b) (nat_lt b h.range.to) h.high in
        let low = leb-true h.range.from a p.0 in
        let high = ltb-true b h.range.to q.1 in
        and_from (nat_le h.range.from z) (nat_lt z h.range.to) (le-leb h.range.from z (omega (arith, low, az))) (lt-ltb z h.range.to (omega (arith, high, zb)))

-- two ranges that share an address are one
meet : (t : Text) → AreApart t.ranges → (a b c : ℕ) → HasBoth t a b → HasBoth t b c → HasBoth t a c
meet t apart a b c x y =
    let all = found_all (λ r. All (λ s. (z : ℕ) → is_in z r ≡ true → is_in z s ≡ true → r ≡ s) t.ranges) y.test t.ranges y.range y.among apart in
    let same : y.range ≡ x.range = found_all (λ s. (z : ℕ) → is_in z y.range ≡ true → is_in z s ≡ true → y.range ≡ s) x.test t.ranges x.range x.among all b y.low x.high in
    record { range = x.range; test = x.test; among = x.among; low = x.low; high = subst (λ r. is_in c r ≡ true) same y.high }

followed : (t : Text) (v : ℕ) → follows t v ≡ true → (4 ≤ v) × HasBoth t (v - 4) v
followed t v h =
    let p = and_parts (nat_le 4 v) (list_any (λ r. is_in (v - 4) r && is_in v r) t.ranges) h in
    (leb-true 4 v p.0, both_of t (v - 4) v p.1)

follows_from : (t : Text) (v : ℕ) → 4 ≤ v → HasBoth t (v - 4) v → follows t v ≡ true
follows_from t v low h = and_from (nat_le 4 v) (list_any (λ r. is_in (v - 4) r && is_in v r) t.ranges) (le-leb 4 v low) (of_both t (v - 4) v h)

-- neighbors in one range each are all in one
all_in_one : (t : Text) → AreApart t.ranges → (v m : ℕ) → ((j : ℕ) → j < suc m → follows t (v - 4 * j) ≡ true) → (4 * suc m ≤ v) × HasBoth t (v - 4 * suc m) v
all_in_one t apart v zero joined =
    let f = followed t v (subst (λ x. follows t x ≡ true) (none_nearer v) (joined 0 (omega arith))) in
    (let low = f.0 in omega (arith, low), f.1)
all_in_one t apart v (suc m) joined =
    let ih = all_in_one t apart v m (λ j lt. joined j (omega (arith, lt))) in
    let f = followed t (v - 4 * suc m) (joined (suc m) (omega arith)) in
    let low = f.0 in
    let e : v - 4 * suc m - 4 ≡ v - 4 * suc (suc m) = omega arith in
    (omega (arith, low), meet t apart (v - 4 * suc (suc m)) (v - 4 * suc m) v (subst (λ x. HasBoth t x (v - 4 * suc m)) e f.1) ih.1)

put_from : (t : Text) → AreApart t.ranges → (v m k : ℕ) → 1 ≤ m → IsPassedOn t v m k → IsPutBefore t v m k
put_from t apart v zero k low on = let bad : ⊥ = omega (arith, low) in absurd bad
put_from t apart v (suc m) k low on =
    let one = all_in_one t apart v m on.joined in
    record { within = one.0; puts = on.puts; between = on.between; in_one = of_both t (v - 4 * suc m) v one.1; no_way_in = on.no_way_in }

passed_from : (t : Text) (v m k : ℕ) → IsPutBefore t v m k → IsPassedOn t v m k
passed_from t v m k put = record { puts = put.puts; between = put.between; joined = joined; no_way_in = put.no_way_in }
  where
    joined : (j : ℕ) → j < m → follows t (v - 4 * j) ≡ true
    joined j lt =
        let w = put.within in
        follows_from t (v - 4 * j) (omega (arith, w, lt)) (between_both t (v - 4 * m) v (v - 4 * j - 4) (v - 4 * j) (omega (arith, w, lt)) (omega arith) (omega (arith, w, lt)) (omega arith) (both_of t (v - 4 * m) v put.in_one))

pub known_numbers : KnownNumbersArePut
known_numbers t apart v k = (
  λ h. let r = known_put t 16 v k h in (r.0, r.1, r.2, put_from t apart v r.0 k r.1 r.3),
  λ (h : (m : ℕ) × (1 ≤ m) × (m ≤ 16) × IsPutBefore t v m k). put_known t 16 v h.0 k h.1 h.2 (passed_from t v h.0 k h.3),
)
