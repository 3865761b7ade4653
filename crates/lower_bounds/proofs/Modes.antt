-- Where a run stands by a certificate of a lower bound, and that each transition over the graph keeps it so.
use Rattle.std.proofs.Common.{◌≡◌, ◌≢◌, ℕ, ◌+◌, ◌-◌, ◌*◌, ◌<◌, ◌≤◌, Bool, true, false, cond, ◌⊎◌, inl, inr, ⊎_elim, List, [], ◌∷◌, nat_eq, refl, sym, subst, arith}
use Rattle.std.proofs.lemmas.Bool.{cond-true, cond-false, eqb-true, ne_eqb, eqb-false, both_ways, cases_lt}
use Rattle.std.proofs.Math.Nat.{add-mul, mul-le-mul_right}
use Rattle.scale_base.specs.State.{reg}
use Rattle.cost_theory.specs.Graph.{Graph}
use Rattle.code_text.specs.Text.{Text}
use Rattle.bound_laws.specs.Turning.{Leads, Calls}
use Rattle.bound_laws.specs.Values.{Values}
use Rattle.bound_laws.proofs.Laws.{AreOutside}
use Rattle.stack_laws.specs.Stacks.{Stacks, View}
use Rattle.stack_laws.specs.Counting.{counted}
use Rattle.lower_bounds.specs.LowerBounds.{LowerCertificate, IsLowerCertificate, most_behind, too_great}

-- the counter after so many turns, and what has been added since at most
abbrev pub IsFew : LowerCertificate → (added count value : ℕ) → Type 0
IsFew c added count value = value ≤ c.first + count * c.most + added

-- in the body, or elsewhere, while no call from the body is open
pub data Level (c : LowerCertificate) (pc : ℕ) (calls : List ℕ) (count value : ℕ) : Type 0 where
  within : c.body pc ≡ true → IsFew c (c.added pc) count value → AreOutside c.body calls → Level c pc calls count value
  elsewhere : c.body pc ≡ false → AreOutside c.body calls → Level c pc calls count value

-- a call from the body is open, before which the counter was so, and all calls within it come from quiet code
abbrev pub Waits : LowerCertificate → ℕ → List ℕ → List View → Type 0
Waits c count [] xs = ⊥
Waits c count (u ∷ us) [] = ⊥
Waits c count (u ∷ us) (x ∷ xs) =
    ((c.quiet u ≡ true) × Waits c count us xs) ⊎ ((c.body u ≡ true) × (reg x.regs 0 ≡ 0) × IsFew c (c.added u) count (counted c.counter x) × AreOutside c.body us)

pub data Mode (c : LowerCertificate) (pc : ℕ) (calls : List ℕ) (xs : List View) (count value : ℕ) : Type 0 where
  at_level : Level c pc calls count value → Mode c pc calls xs count value
  called : c.quiet pc ≡ true → Waits c count calls xs → Mode c pc calls xs count value

-- ---- numbers

more_added : (c : LowerCertificate) (a added count before after : ℕ) → IsFew c (c.added a) count before → after ≤ before + c.adds a → most_behind c a ≤ added → IsFew c added count after
more_added c a added count before after few adds most = omega arith

one_turn : (c : LowerCertificate) (a count before after : ℕ) → IsFew c (c.added a) count before → after ≤ before + c.adds a → most_behind c a ≤ c.most → IsFew c 0 (count + 1) after
one_turn c a count before after few adds most = let d : (count + 1) * c.most ≡ count * c.most + 1 * c.most = add-mul count 1 c.most in omega arith

-- what is as great as that comes after so many turns
pub turned_often : (c : LowerCertificate) (trips a count before after : ℕ) → IsFew c (c.added a) count before → after ≤ before + c.adds a → too_great c trips a ≤ after → trips ≤ count
turned_often c trips a count before after few adds great = ⊎_elim
    (λ (less : count < trips).
    let e : count ≤ trips - 1 = omega arith in
    let m : count * c.most ≤ (trips - 1) * c.most = mul-le-mul_right c.most e in
    let bad : ⊥ = omega arith in absurd bad)
    (λ (enough : trips ≤ count). enough) (cases_lt count trips)

module _ (t : Text) (g : Graph) (v : Values) (w : Stacks) (h : ℕ) (extent : ℕ → Bool) (trips : ℕ) (c : LowerCertificate) (cert : IsLowerCertificate t g v w h extent trips c) where
  -- the count after a step over an edge, and after a call
  abbrev pub after_edge : ℕ → ℕ → ℕ → ℕ
  after_edge a b count = cond (nat_eq b h) (cond (extent a) (count + 1) 0) count

  abbrev pub after_call_to : ℕ → ℕ → ℕ
  after_call_to b count = cond (nat_eq b h) 0 count

  abbrev Few : ℕ → ℕ → ℕ → Type 0
  Few a count value = IsFew c (c.added a) count value

  -- behind an instruction of the body, or of other code
  abbrev Came : ℕ → ℕ → ℕ → Type 0
  Came a count after = ((c.body a ≡ true) × ((before : ℕ) × Few a count before × (after ≤ before + c.adds a))) ⊎ (c.body a ≡ false)

  few_at_header : (count value : ℕ) → IsFew c 0 count value → Few h count value
  few_at_header count value few = let q : value ≤ c.first + count * c.most + c.added h = omega arith in q

  module _ (a b : ℕ) (leads : Leads g a b) (live : v.live a ≡ true) (count after : ℕ) (small : b ≡ h → extent a ≡ false → after ≤ c.first) (calls : List ℕ) (out : AreOutside c.body calls) (came : Came a count after) where
    to_header : b ≡ h → Level c h calls (cond (extent a) (count + 1) 0) after
    to_header same = go (extent a) refl
      where
        to : Leads g a h
        to = subst (λ n. Leads g a n) same leads

        few_anew : extent a ≡ false → IsFew c 0 0 after
        few_anew off = let s : after ≤ c.first = small same off in let q : after ≤ c.first + 0 * c.most + 0 = omega arith in q

        few_turned : extent a ≡ true → IsFew c 0 (count + 1) after
        few_turned on = ⊎_elim
            (λ (p : (c.body a ≡ true) × ((before : ℕ) × Few a count before × (after ≤ before + c.adds a))). one_turn c a count p.1.0 after p.1.1 p.1.2 (cert.turns a to live on).1)
            (λ (off : c.body a ≡ false). absurd (both_ways (c.body a) off (cert.turns a to live on).0)) came

        go : (x : Bool) → extent a ≡ x → Level c h calls (cond (extent a) (count + 1) 0) after
        go false off = subst (λ n. Level c h calls n after) (sym (cond-false _ (count + 1) 0 off)) (within cert.head (few_at_header 0 after (few_anew off)) out)
        go true on = subst (λ n. Level c h calls n after) (sym (cond-true _ (count + 1) 0 on)) (within cert.head (few_at_header (count + 1) after (few_turned on)) out)

    to_other : b ≢ h → Level c b calls count after
    to_other other = go (c.body b) refl
      where
        go : (x : Bool) → c.body b ≡ x → Level c b calls count after
        go false off = elsewhere off out
        go true on = ⊎_elim
            (λ (p : (c.body a ≡ true) × ((before : ℕ) × Few a count before × (after ≤ before + c.adds a))).
            within on (more_added c a (c.added b) count p.1.0 after p.1.1 p.1.2 (cert.along a b leads live p.0 on other)) out)
            (λ (off : c.body a ≡ false). absurd (both_ways (c.body a) off (cert.entered a b leads live on other))) came

    -- over an edge, from the body or from elsewhere
    arrive : Level c b calls (after_edge a b count) after
    arrive = go (nat_eq b h) refl
      where
        go : (x : Bool) → nat_eq b h ≡ x → Level c b calls (after_edge a b count) after
        go true e =
            let same : b ≡ h = eqb-true b h e in
            subst (λ n. Level c b calls n after) (sym (cond-true _ _ _ e)) (subst (λ n. Level c n calls (cond (extent a) (count + 1) 0) after) (sym same) (to_header same))
        go false e = subst (λ n. Level c b calls n after) (sym (cond-false _ _ _ e)) (to_other (eqb-false b h e))

  -- quiet code is no header, so the count stays
  quiet_count : (b n count : ℕ) → c.quiet b ≡ true → cond (nat_eq b h) n count ≡ count
  quiet_count b n count quiet = cond-false _ _ _ (ne_eqb b h (λ same. both_ways (c.quiet h) cert.quiet_apart (subst (λ n. c.quiet n ≡ true) same quiet)))

  -- over an edge
  pub along_edge : (a b : ℕ) → Leads g a b → v.live a ≡ true → (calls : List ℕ) (xs : List View) (count before after : ℕ) → (c.body a ≡ true → after ≤ before + c.adds a) → (b ≡ h → extent a ≡ false → after ≤ c.first) →
      Mode c a calls xs count before → Mode c b calls xs (after_edge a b count) after
  along_edge a b leads live calls xs count before after does small (at_level level) = at_level (by level)
    where
      by : Level c a calls count before → Level c b calls (after_edge a b count) after
      by (within at few out) = arrive a b leads live count after small calls out (inl (at, (before, few, does at)))
      by (elsewhere at out) = arrive a b leads live count after small calls out (inr at)
  along_edge a b leads live calls xs count before after does small (called at waits) =
      let quiet : c.quiet b ≡ true = cert.quiet_along a b leads at in
      subst (λ n. Mode c b calls xs n after) (sym (quiet_count b _ count quiet)) (called quiet waits)

  -- into a call, before which this is seen
  pub along_call : (a b : ℕ) → Calls g a b → v.live a ≡ true → (calls : List ℕ) (xs : List View) (x : View) (count after : ℕ) → reg x.regs 0 ≡ 0 →
      Mode c a calls xs count (counted c.counter x) → Mode c b (a ∷ calls) (x ∷ xs) (after_call_to b count) after
  along_call a b call live calls xs x count after zero_is (at_level level) = by level
    where
      by : Level c a calls count (counted c.counter x) → Mode c b (a ∷ calls) (x ∷ xs) (after_call_to b count) after
      by (within at few out) =
          let quiet : c.quiet b ≡ true = (cert.calls a b call live at).0 in
          subst (λ n. Mode c b (a ∷ calls) (x ∷ xs) n after) (sym (quiet_count b _ count quiet)) (called quiet (inr (at, zero_is, few, out)))
      by (elsewhere at out) =
          let off : c.body b ≡ false = cert.called a b call live in
          let other : nat_eq b h ≡ false = ne_eqb b h (λ same. both_ways (c.body b) off (subst (λ n. c.body n ≡ true) (sym same) cert.head)) in
          subst (λ n. Mode c b (a ∷ calls) (x ∷ xs) n after) (sym (cond-false _ _ _ other)) (at_level (elsewhere off (at, out)))
  along_call a b call live calls xs x count after zero_is (called at waits) =
      let quiet : c.quiet b ≡ true = cert.quiet_calls a b call at in
      subst (λ n. Mode c b (a ∷ calls) (x ∷ xs) n after) (sym (quiet_count b _ count quiet)) (called quiet (inl (at, waits)))

  -- back from a call at u to a function, by a return at a
  pub along_return : (a u b to : ℕ) → Leads g u b → Calls g u to → v.live u ≡ true → (calls : List ℕ) (xs : List View) (x : View) (count before after : ℕ) →
      (reg x.regs 0 ≡ 0 → c.body u ≡ true → after ≡ counted c.counter x) → Mode c a (u ∷ calls) (x ∷ xs) count before → Mode c b calls xs (after_edge u b count) after
  along_return a u b to leads call live calls xs x count before after same mode = go mode
    where
      -- a call never comes back into the loop from outside
      small : b ≡ h → extent u ≡ false → after ≤ c.first
      small e off = absurd (both_ways (extent u) off (cert.back u to call (subst (λ n. Leads g u n) e leads) live))

      by : Level c a (u ∷ calls) count before → Level c b calls (after_edge u b count) after
      by (within at few out) = arrive u b leads live count after small calls out.1 (inr out.0)
      by (elsewhere at out) = arrive u b leads live count after small calls out.1 (inr out.0)

      still : reg x.regs 0 ≡ 0 → c.body u ≡ true → after ≤ counted c.counter x + c.adds u
      still zero_is at = let e : after ≡ counted c.counter x = same zero_is at in let q : after ≤ counted c.counter x + c.adds u = omega arith in q

      go : Mode c a (u ∷ calls) (x ∷ xs) count before → Mode c b calls xs (after_edge u b count) after
      go (at_level level) = at_level (by level)
      go (called at waits) = ⊎_elim
          (λ (q : (c.quiet u ≡ true) × Waits c count calls xs).
          let quiet : c.quiet b ≡ true = cert.quiet_along u b leads q.0 in
          subst (λ n. Mode c b calls xs n after) (sym (quiet_count b _ count quiet)) (called quiet q.1))
          (λ (q : (c.body u ≡ true) × (reg x.regs 0 ≡ 0) × IsFew c (c.added u) count (counted c.counter x) × AreOutside c.body calls).
          at_level (arrive u b leads live count after small calls q.3 (inl (q.0, (counted c.counter x, q.2, still q.1 q.0))))) waits

  -- a step out of the loop, from its body
  pub out_late : (a : ℕ) (calls : List ℕ) (xs : List View) (count before after : ℕ) → c.body a ≡ true → c.quiet a ≡ false → after ≤ before + c.adds a → too_great c trips a ≤ after → Mode c a calls xs count before → trips ≤ count
  out_late a calls xs count before after inside apart adds great (at_level level) = by level
    where
      by : Level c a calls count before → trips ≤ count
      by (within at few out) = turned_often c trips a count before after few adds great
      by (elsewhere at out) = absurd (both_ways (c.body a) at inside)
  out_late a calls xs count before after inside apart adds great (called at waits) = absurd (both_ways (c.quiet a) apart at)
