-- Where a run stands by a certificate over the stack, and that each transition over the graph keeps it so.
use Rattle.std.proofs.Common.{◌≡◌, ◌≢◌, ℕ, ◌+◌, ◌*◌, ◌<◌, ◌≤◌, ◌%◌, ◌^◌, Bool, true, false, cond, ◌⊎◌, inl, inr, ⊎_elim, List, [], ◌∷◌, nat_eq, refl, sym, ap, ◌∙◌, subst, arith}
use Rattle.std.proofs.lemmas.Bool.{cond-true, cond-false, eqb-true, ne_eqb, eqb-false, both_ways}
use Rattle.scale_base.specs.State.{reg}
use Rattle.cost_theory.specs.Graph.{Graph}
use Rattle.code_text.specs.Text.{Text}
use Rattle.bound_laws.specs.Turning.{Leads, Calls}
use Rattle.bound_laws.specs.Values.{Values}
use Rattle.bound_laws.proofs.Laws.{nothing_more, no_turns, one_turn, small_sum, kept_sum, AreOutside}
use Rattle.stack_laws.specs.Stacks.{Stacks, View}
use Rattle.stack_laws.specs.Counting.{counted, StackCertificate, added_behind, IsStackCertificate}

-- the counter is what it was at the header, which the turns have raised so far, and what has been added since
pub record Tied (c : StackCertificate) (value count offset : ℕ) : Type 0 where
  pub start : ℕ
  pub small : start ≤ c.width
  pub raised : count * c.least ≤ start
  pub is : value ≡ (start + offset) % 2 ^ 32

-- in the body, or elsewhere, while no call from the body is open
pub data Level (c : StackCertificate) (pc : ℕ) (calls : List ℕ) (count value : ℕ) : Type 0 where
  within : c.body pc ≡ true → Tied c value count (c.offset pc) → AreOutside c.body calls → Level c pc calls count value
  elsewhere : c.body pc ≡ false → AreOutside c.body calls → count * c.least ≤ c.width → Level c pc calls count value

-- a call from the body is open, before which the counter was so, and all calls within it come from quiet code
abbrev pub Waits : StackCertificate → ℕ → List ℕ → List View → Type 0
Waits c count [] xs = ⊥
Waits c count (u ∷ us) [] = ⊥
Waits c count (u ∷ us) (x ∷ xs) =
    ((c.quiet u ≡ true) × Waits c count us xs) ⊎ ((c.body u ≡ true) × (reg x.regs 0 ≡ 0) × Tied c (counted c.counter x) count (c.offset u) × AreOutside c.body us)

pub data Mode (c : StackCertificate) (pc : ℕ) (calls : List ℕ) (xs : List View) (count value : ℕ) : Type 0 where
  at_level : Level c pc calls count value → Mode c pc calls xs count value
  called : c.quiet pc ≡ true → Waits c count calls xs → Mode c pc calls xs count value

tied_turned : (c : StackCertificate) (value count offset : ℕ) → Tied c value count offset → count * c.least ≤ c.width
tied_turned c value count offset at = let a = at.small in let b = at.raised in omega arith

level_turned : (c : StackCertificate) (pc : ℕ) (calls : List ℕ) (count value : ℕ) → Level c pc calls count value → count * c.least ≤ c.width
level_turned c pc calls count value (within at tied out) = tied_turned c value count (c.offset pc) tied
level_turned c pc calls count value (elsewhere at out few) = few

waits_turned : (c : StackCertificate) (count : ℕ) (calls : List ℕ) (xs : List View) → Waits c count calls xs → count * c.least ≤ c.width
waits_turned c count [] xs h = absurd h
waits_turned c count (u ∷ us) [] h = absurd h
waits_turned c count (u ∷ us) (x ∷ xs) h = ⊎_elim (λ (q : (c.quiet u ≡ true) × Waits c count us xs). waits_turned c count us xs q.1)
    (λ (b : (c.body u ≡ true) × (reg x.regs 0 ≡ 0) × Tied c (counted c.counter x) count (c.offset u) × AreOutside c.body us). tied_turned c (counted c.counter x) count (c.offset u) b.2) h

-- so a loop turns so often at most
pub turned : (c : StackCertificate) (pc : ℕ) (calls : List ℕ) (xs : List View) (count value : ℕ) → Mode c pc calls xs count value → count * c.least ≤ c.width
turned c pc calls xs count value (at_level level) = level_turned c pc calls count value level
turned c pc calls xs count value (called at waits) = waits_turned c count calls xs waits

module _ (t : Text) (g : Graph) (v : Values) (w : Stacks) (h : ℕ) (extent : ℕ → Bool) (c : StackCertificate) (cert : IsStackCertificate t g v w h extent c) where
  -- the count after a step over an edge, and after a call
  abbrev pub after_edge : ℕ → ℕ → ℕ → ℕ
  after_edge a b count = cond (nat_eq b h) (cond (extent a) (count + 1) 0) count

  abbrev pub after_call_to : ℕ → ℕ → ℕ
  after_call_to b count = cond (nat_eq b h) 0 count

  -- behind an instruction of the body, or of other code
  abbrev Came : ℕ → ℕ → ℕ → Type 0
  Came a value count = ((c.body a ≡ true) × Tied c value count (added_behind c a)) ⊎ ((c.body a ≡ false) × (count * c.least ≤ c.width))

  -- at the header
  pub at_header : (value count : ℕ) → value < 2 ^ 32 → value ≤ c.width → count * c.least ≤ value → (calls : List ℕ) → AreOutside c.body calls → Level c h calls count value
  at_header value count low small raised calls out = within cert.first (record {
    start = value;
    small = small;
    raised = raised;
    is = sym (ap (λ n. (value + n) % 2 ^ 32) cert.begins ∙ nothing_more value low);
  }) out

  module _ (a b : ℕ) (leads : Leads g a b) (live : v.live a ≡ true) (value count : ℕ) (low : value < 2 ^ 32) (small : b ≡ h → value ≤ c.width) (calls : List ℕ) (out : AreOutside c.body calls) where
    to_header : b ≡ h → Came a value count → Level c h calls (cond (extent a) (count + 1) 0) value
    to_header same came = go (extent a) refl
      where
        anew : extent a ≡ false → Level c h calls (cond (extent a) (count + 1) 0) value
        anew off = subst (λ n. Level c h calls n value) (sym (cond-false _ (count + 1) 0 off)) (at_header value 0 low (small same) (no_turns c.least value) calls out)

        to : Leads g a h
        to = subst (λ n. Leads g a n) same leads

        raised : Tied c value count (added_behind c a) → (c.body a ≡ true) → (count + 1) * c.least ≤ value
        raised p in_body =
            let turn : (c.least ≤ added_behind c a) × (added_behind c a + c.width < 2 ^ 32) = cert.turns a to live in_body in
            let sum : value ≡ p.start + added_behind c a = p.is ∙ small_sum p.start (added_behind c a) c.width p.small turn.1 in
            one_turn count c.least p.start (added_behind c a) value p.raised turn.0 sum

        go : (x : Bool) → extent a ≡ x → Level c h calls (cond (extent a) (count + 1) 0) value
        go false off = anew off
        go true on = ⊎_elim
            (λ (p : (c.body a ≡ true) × Tied c value count (added_behind c a)). subst (λ n. Level c h calls n value) (sym (cond-true _ (count + 1) 0 on))
            (at_header value (count + 1) low (small same) (raised p.1 p.0) calls out))
            (λ (q : (c.body a ≡ false) × (count * c.least ≤ c.width)). absurd (both_ways (c.body a) q.0 (cert.counts a to live on))) came

    to_other : b ≢ h → Came a value count → Level c b calls count value
    to_other other came = go (c.body b) refl
      where
        few : count * c.least ≤ c.width
        few = ⊎_elim (λ (p : (c.body a ≡ true) × Tied c value count (added_behind c a)). tied_turned c value count (added_behind c a) p.1)
            (λ (q : (c.body a ≡ false) × (count * c.least ≤ c.width)). q.1) came

        go : (x : Bool) → c.body b ≡ x → Level c b calls count value
        go false off = elsewhere off out few
        go true on = ⊎_elim
            (λ (p : (c.body a ≡ true) × Tied c value count (added_behind c a)).
            within on (subst (Tied c value count) (sym (cert.along a b leads live p.0 on other)) p.1) out)
            (λ (q : (c.body a ≡ false) × (count * c.least ≤ c.width)). absurd (both_ways (c.body a) q.0 (cert.entered a b leads live on other))) came

    -- over an edge, from the body or from elsewhere
    arrive : Came a value count → Level c b calls (after_edge a b count) value
    arrive came = go (nat_eq b h) refl
      where
        go : (x : Bool) → nat_eq b h ≡ x → Level c b calls (after_edge a b count) value
        go true e =
            let same : b ≡ h = eqb-true b h e in
            subst (λ n. Level c b calls n value) (sym (cond-true _ _ _ e)) (subst (λ n. Level c n calls (cond (extent a) (count + 1) 0) value) (sym same) (to_header same came))
        go false e = subst (λ n. Level c b calls n value) (sym (cond-false _ _ _ e)) (to_other (eqb-false b h e) came)

  -- quiet code is no header, so the count stays
  quiet_count : (b n count : ℕ) → c.quiet b ≡ true → cond (nat_eq b h) n count ≡ count
  quiet_count b n count quiet = cond-false _ _ _ (ne_eqb b h (λ same. both_ways (c.quiet h) cert.quiet_apart (subst (λ n. c.quiet n ≡ true) same quiet)))

  -- what an instruction of the body adds
  passed : (a before after count : ℕ) → Tied c before count (c.offset a) → after ≡ (before + c.adds a) % 2 ^ 32 → Tied c after count (added_behind c a)
  passed a before after count tied does = record {
    start = tied.start;
    small = tied.small;
    raised = tied.raised;
    is = does ∙ (ap (λ n. (n + c.adds a) % 2 ^ 32) tied.is ∙ kept_sum (2 ^ 32) tied.start (c.offset a) (c.adds a));
  }

  -- over an edge
  pub along_edge : (a b : ℕ) → Leads g a b → v.live a ≡ true → (calls : List ℕ) (xs : List View) (count before after : ℕ) → after < 2 ^ 32 → (c.body a ≡ true → after ≡ (before + c.adds a) % 2 ^ 32) → (b ≡ h → after ≤ c.width) →
      Mode c a calls xs count before → Mode c b calls xs (after_edge a b count) after
  along_edge a b leads live calls xs count before after low does small (at_level level) = at_level (by level)
    where
      by : Level c a calls count before → Level c b calls (after_edge a b count) after
      by (within at tied out) = arrive a b leads live after count low small calls out (inl (at, passed a before after count tied (does at)))
      by (elsewhere at out few) = arrive a b leads live after count low small calls out (inr (at, few))
  along_edge a b leads live calls xs count before after low does small (called at waits) =
      let quiet : c.quiet b ≡ true = cert.quiet_along a b leads at in
      subst (λ n. Mode c b calls xs n after) (sym (quiet_count b _ count quiet)) (called quiet waits)

  -- into a call, before which this is seen
  pub along_call : (a b : ℕ) → Calls g a b → v.live a ≡ true → (calls : List ℕ) (xs : List View) (x : View) (count after : ℕ) → after < 2 ^ 32 → reg x.regs 0 ≡ 0 → (b ≡ h → after ≤ c.width) →
      Mode c a calls xs count (counted c.counter x) → Mode c b (a ∷ calls) (x ∷ xs) (after_call_to b count) after
  along_call a b call live calls xs x count after low zero_is small (at_level level) = by level
    where
      by : Level c a calls count (counted c.counter x) → Mode c b (a ∷ calls) (x ∷ xs) (after_call_to b count) after
      by (within at tied out) =
          let go = cert.calls a b call live at in
          subst (λ n. Mode c b (a ∷ calls) (x ∷ xs) n after) (sym (quiet_count b _ count go.0)) (called go.0 (inr (at, zero_is, tied, out)))
      by (elsewhere at out few) = at_level (go (nat_eq b h) refl)
        where
          go : (y : Bool) → nat_eq b h ≡ y → Level c b (a ∷ calls) (after_call_to b count) after
          go true e =
              let same : b ≡ h = eqb-true b h e in
              subst (λ n. Level c b (a ∷ calls) n after) (sym (cond-true _ _ _ e)) (subst (λ n. Level c n (a ∷ calls) 0 after) (sym same) (at_header after 0 low (small same) (no_turns c.least after) (a ∷ calls) (at, out)))
          go false e = subst (λ n. Level c b (a ∷ calls) n after) (sym (cond-false _ _ _ e)) (by_body (c.body b) refl)
            where
              by_body : (y : Bool) → c.body b ≡ y → Level c b (a ∷ calls) count after
              by_body false off = elsewhere off (at, out) few
              by_body true on = absurd (eqb-false b h e (cert.called a b call live on))
  along_call a b call live calls xs x count after low zero_is small (called at waits) =
      let quiet : c.quiet b ≡ true = cert.quiet_calls a b call at in
      subst (λ n. Mode c b (a ∷ calls) (x ∷ xs) n after) (sym (quiet_count b _ count quiet)) (called quiet (inl (at, waits)))

  -- back from a call at u to a function, by a return at a
  pub along_return : (a u b to : ℕ) → Leads g u b → Calls g u to → v.live u ≡ true → (calls : List ℕ) (xs : List View) (x : View) (count before after : ℕ) → after < 2 ^ 32 →
      (reg x.regs 0 ≡ 0 → c.body u ≡ true → after ≡ counted c.counter x) → (b ≡ h → after ≤ c.width) →
      Mode c a (u ∷ calls) (x ∷ xs) count before → Mode c b calls xs (after_edge u b count) after
  along_return a u b to leads call live calls xs x count before after low same small (at_level level) = at_level (by level)
    where
      by : Level c a (u ∷ calls) count before → Level c b calls (after_edge u b count) after
      by (within at tied out) = arrive u b leads live after count low small calls out.1 (inr (out.0, tied_turned c before count (c.offset a) tied))
      by (elsewhere at out few) = arrive u b leads live after count low small calls out.1 (inr (out.0, few))
  along_return a u b to leads call live calls xs x count before after low same small (called at waits) = ⊎_elim
      (λ (q : (c.quiet u ≡ true) × Waits c count calls xs).
      let quiet : c.quiet b ≡ true = cert.quiet_along u b leads q.0 in
      subst (λ n. Mode c b calls xs n after) (sym (quiet_count b _ count quiet)) (called quiet q.1))
      (λ (q : (c.body u ≡ true) × (reg x.regs 0 ≡ 0) × Tied c (counted c.counter x) count (c.offset u) × AreOutside c.body calls).
      at_level (arrive u b leads live after count low small calls q.3 (inl (q.0, passed u (counted c.counter x) after count q.2 (still q.0 (same q.1 q.0)))))) waits
    where
      still : c.body u ≡ true → after ≡ counted c.counter x → after ≡ (counted c.counter x + c.adds u) % 2 ^ 32
      still at e =
          let none : c.adds u ≡ 0 = (cert.calls u to call live at).1 in
          e ∙ (sym (nothing_more (counted c.counter x) (subst (λ n. n < 2 ^ 32) e low)) ∙ ap (λ n. (counted c.counter x + n) % 2 ^ 32) (sym none))
