-- Where a run stands by a certificate, and that each transition over the graph keeps it so.
use Rattle.std.proofs.Common.{◌≡◌, ◌≢◌, ℕ, ◌+◌, ◌*◌, ◌<◌, ◌≤◌, ◌%◌, ◌^◌, Bool, true, false, cond, ◌⊎◌, inl, inr, ⊎_elim, List, [], ◌∷◌, nat_eq, refl, sym, ap, ◌∙◌, subst, arith, Some}
use Rattle.std.proofs.lemmas.Bool.{cond-true, cond-false, eqb-true, ne_eqb, eqb-false, both_ways}
use Rattle.cost_theory.specs.Graph.{Graph}
use Rattle.code_text.specs.Text.{Text}
use Rattle.bound_laws.specs.Registers.{effect_at}
use Rattle.bound_laws.specs.Turning.{Certificate, Leads, Calls, behind, IsCertificate}
use Rattle.bound_laws.proofs.Moduli.{nothing_more, no_turns, one_turn, small_sum, kept_sum}

-- the calls that are open are none of the body's
abbrev pub AreOutside : (ℕ → Bool) → List ℕ → Type 0
AreOutside body [] = Unit {0}
AreOutside body (u ∷ us) = (body u ≡ false) × AreOutside body us

-- the measure is what it was at the header, which the turns have raised so far, and what has been added since
pub record Tied (c : Certificate) (value count offset : ℕ) : Type 0 where
  pub start : ℕ
  pub small : start ≤ c.width
  pub raised : count * c.least ≤ start
  pub is : value ≡ (start + offset) % 2 ^ 32

-- a call from the body is open, and all calls within it come from quiet code
abbrev pub IsOpen : Certificate → ℕ → ℕ → List ℕ → Type 0
IsOpen c value count [] = ⊥
IsOpen c value count (u ∷ us) = ((c.quiet u ≡ true) × IsOpen c value count us) ⊎ ((c.body u ≡ true) × Tied c value count (c.offset u) × AreOutside c.body us)

-- in the body, in a call from there, or elsewhere
pub data Mode (c : Certificate) (pc : ℕ) (calls : List ℕ) (count value : ℕ) : Type 0 where
  within : c.body pc ≡ true → Tied c value count (c.offset pc) → AreOutside c.body calls → Mode c pc calls count value
  called : c.quiet pc ≡ true → IsOpen c value count calls → Mode c pc calls count value
  elsewhere : c.body pc ≡ false → AreOutside c.body calls → count * c.least ≤ c.width → Mode c pc calls count value

tied_turned : (c : Certificate) (value count offset : ℕ) → Tied c value count offset → count * c.least ≤ c.width
tied_turned c value count offset at = let a = at.small in let b = at.raised in omega arith

open_turned : (c : Certificate) (value count : ℕ) (calls : List ℕ) → IsOpen c value count calls → count * c.least ≤ c.width
open_turned c value count [] h = absurd h
open_turned c value count (u ∷ us) h = ⊎_elim (λ (q : (c.quiet u ≡ true) × IsOpen c value count us). open_turned c value count us q.1)
    (λ (b : (c.body u ≡ true) × Tied c value count (c.offset u) × AreOutside c.body us). tied_turned c value count (c.offset u) b.1) h

-- so a loop turns so often at most
pub turned : (c : Certificate) (pc : ℕ) (calls : List ℕ) (count value : ℕ) → Mode c pc calls count value → count * c.least ≤ c.width
turned c pc calls count value (within at tied out) = tied_turned c value count (c.offset pc) tied
turned c pc calls count value (called at opened) = open_turned c value count calls opened
turned c pc calls count value (elsewhere at out few) = few

module _ (t : Text) (g : Graph) (h : ℕ) (extent : ℕ → Bool) (c : Certificate) (cert : IsCertificate t g h extent c) where
  -- the count after a step over an edge, and after a call
  abbrev pub after_edge : ℕ → ℕ → ℕ → ℕ
  after_edge a b count = cond (nat_eq b h) (cond (extent a) (count + 1) 0) count

  abbrev pub after_call_to : ℕ → ℕ → ℕ
  after_call_to b count = cond (nat_eq b h) 0 count

  -- behind an instruction of the body, or of other code
  pub record Passed (a value count : ℕ) : Type 0 where
    pub start : ℕ
    pub small : start ≤ c.width
    pub raised : count * c.least ≤ start
    pub is : (e : ℕ) → effect_at t c.measure a ≡ Some e → value ≡ (start + behind c a e) % 2 ^ 32

  abbrev Came : ℕ → ℕ → ℕ → Type 0
  Came a value count = ((c.body a ≡ true) × Passed a value count) ⊎ ((c.body a ≡ false) × (count * c.least ≤ c.width))

  -- what a step does to the measure
  abbrev pub Does : ℕ → ℕ → ℕ → Type 0
  Does a before after = (e : ℕ) → effect_at t c.measure a ≡ Some e → after ≡ (before + e) % 2 ^ 32

  -- at the header
  pub at_header : (value count : ℕ) → value < 2 ^ 32 → value ≤ c.width → count * c.least ≤ value → (calls : List ℕ) → AreOutside c.body calls → Mode c h calls count value
  at_header value count low small raised calls out = within cert.first (record {
    start = value;
    small = small;
    raised = raised;
    is = sym (ap (λ n. (value + n) % 2 ^ 32) cert.begins ∙ nothing_more value low);
  }) out

  module _ (a b : ℕ) (leads : Leads g a b) (value count : ℕ) (low : value < 2 ^ 32) (small : b ≡ h → value ≤ c.width) (calls : List ℕ) (out : AreOutside c.body calls) where
    to_header : b ≡ h → Came a value count → Mode c h calls (cond (extent a) (count + 1) 0) value
    to_header same came = go (extent a) refl
      where
        anew : extent a ≡ false → Mode c h calls (cond (extent a) (count + 1) 0) value
        anew off = subst (λ n. Mode c h calls n value) (sym (cond-false _ (count + 1) 0 off)) (at_header value 0 low (small same) (no_turns c.least value) calls out)

        to : Leads g a h
        to = subst (λ v. Leads g a v) same leads

        raised : Passed a value count → (c.body a ≡ true) → (count + 1) * c.least ≤ value
        raised p in_body =
            let turn : (e : ℕ) × (effect_at t c.measure a ≡ Some e) × (c.least ≤ behind c a e) × (behind c a e + c.width < 2 ^ 32) = cert.turns a to in_body in
            let is : value ≡ (p.start + behind c a turn.0) % 2 ^ 32 = p.is turn.0 turn.1 in
            let sum : value ≡ p.start + behind c a turn.0 = is ∙ small_sum p.start (behind c a turn.0) c.width p.small turn.3 in
            one_turn count c.least p.start (behind c a turn.0) value p.raised turn.2 sum

        go : (x : Bool) → extent a ≡ x → Mode c h calls (cond (extent a) (count + 1) 0) value
        go false off = anew off
        go true on = ⊎_elim
            (λ (p : (c.body a ≡ true) × Passed a value count). subst (λ n. Mode c h calls n value) (sym (cond-true _ (count + 1) 0 on))
            (at_header value (count + 1) low (small same) (raised p.1 p.0) calls out))
            (λ (q : (c.body a ≡ false) × (count * c.least ≤ c.width)). absurd (both_ways (c.body a) q.0 (cert.counted a to on))) came

    to_other : b ≢ h → Came a value count → Mode c b calls count value
    to_other other came = go (c.body b) refl
      where
        few : count * c.least ≤ c.width
        few = ⊎_elim (λ (p : (c.body a ≡ true) × Passed a value count). let x = p.1.small in let y = p.1.raised in let r : count * c.least ≤ c.width = omega arith in r)
            (λ (q : (c.body a ≡ false) × (count * c.least ≤ c.width)). q.1) came

        inside : c.body b ≡ true → (c.body a ≡ true) × Passed a value count → Mode c b calls count value
        inside on p =
            let way : (e : ℕ) × (effect_at t c.measure a ≡ Some e) × (c.offset b ≡ behind c a e) = cert.along a b leads p.0 on other in
            within on (record { start = p.1.start; small = p.1.small; raised = p.1.raised; is = p.1.is way.0 way.1 ∙ ap (λ n. (p.1.start + n) % 2 ^ 32) (sym way.2) }) out

        go : (x : Bool) → c.body b ≡ x → Mode c b calls count value
        go false off = elsewhere off out few
        go true on = ⊎_elim (inside on)
            (λ (q : (c.body a ≡ false) × (count * c.least ≤ c.width)). absurd (both_ways (c.body a) q.0 (cert.entered a b leads on other))) came

    -- over an edge, from the body or from elsewhere
    arrive : Came a value count → Mode c b calls (after_edge a b count) value
    arrive came = go (nat_eq b h) refl
      where
        go : (x : Bool) → nat_eq b h ≡ x → Mode c b calls (after_edge a b count) value
        go true e =
            let same : b ≡ h = eqb-true b h e in
            subst (λ n. Mode c b calls n value) (sym (cond-true _ _ _ e)) (subst (λ v. Mode c v calls (cond (extent a) (count + 1) 0) value) (sym same) (to_header same came))
        go false e = subst (λ n. Mode c b calls n value) (sym (cond-false _ _ _ e)) (to_other (eqb-false b h e) came)

  -- quiet code is no header, so the count stays
  quiet_count : (b n count : ℕ) → c.quiet b ≡ true → cond (nat_eq b h) n count ≡ count
  quiet_count b n count quiet = cond-false _ _ _ (ne_eqb b h (λ same. both_ways (c.quiet h) cert.quiet_apart (subst (λ v. c.quiet v ≡ true) same quiet)))

  open_same : (before after count : ℕ) → after ≡ before → (calls : List ℕ) → IsOpen c before count calls → IsOpen c after count calls
  open_same before after count same calls opened = subst (λ v. IsOpen c v count calls) (sym same) opened

  leaves : (a before after : ℕ) → before < 2 ^ 32 → Does a before after → effect_at t c.measure a ≡ Some 0 → after ≡ before
  leaves a before after low does none = does 0 none ∙ nothing_more before low

  passed : (a before after count : ℕ) → Tied c before count (c.offset a) → Does a before after → Passed a after count
  passed a before after count tied does = record {
    start = tied.start;
    small = tied.small;
    raised = tied.raised;
    is = λ e is. does e is ∙ (ap (λ v. (v + e) % 2 ^ 32) tied.is ∙ kept_sum (2 ^ 32) tied.start (c.offset a) e);
  }

  -- over an edge
  pub along_edge : (a b : ℕ) → Leads g a b → (calls : List ℕ) (count before after : ℕ) → before < 2 ^ 32 → after < 2 ^ 32 → Does a before after → (b ≡ h → after ≤ c.width) →
      Mode c a calls count before → Mode c b calls (after_edge a b count) after
  along_edge a b leads calls count before after low0 low does small (within at tied out) = arrive a b leads after count low small calls out (inl (at, passed a before after count tied does))
  along_edge a b leads calls count before after low0 low does small (elsewhere at out few) = arrive a b leads after count low small calls out (inr (at, few))
  along_edge a b leads calls count before after low0 low does small (called at opened) =
      let quiet : c.quiet b ≡ true = cert.quiet_along a b leads at in
      let none : effect_at t c.measure a ≡ Some 0 = subst (λ v. effect_at t c.measure v ≡ Some 0) leads.2 (cert.quiet_leaves leads.0 leads.1 (ap c.quiet leads.2 ∙ at)) in
      subst (λ n. Mode c b calls n after) (sym (quiet_count b _ count quiet)) (called quiet (open_same before after count (leaves a before after low0 does none) calls opened))

  -- over a call
  pub along_call : (a b : ℕ) → Calls g a b → (calls : List ℕ) (count before after : ℕ) → before < 2 ^ 32 → after < 2 ^ 32 → Does a before after → (b ≡ h → after ≤ c.width) →
      Mode c a calls count before → Mode c b (a ∷ calls) (after_call_to b count) after
  along_call a b call calls count before after low0 low does small (within at tied out) =
      let go : (c.quiet b ≡ true) × (effect_at t c.measure a ≡ Some 0) = cert.calls a b call at in
      subst (λ n. Mode c b (a ∷ calls) n after) (sym (quiet_count b _ count go.0))
      (called go.0 (inr (at, subst (λ v. Tied c v count (c.offset a)) (sym (leaves a before after low0 does go.1)) tied, out)))
  along_call a b call calls count before after low0 low does small (called at opened) =
      let quiet : c.quiet b ≡ true = cert.quiet_calls a b call at in
      let none : effect_at t c.measure a ≡ Some 0 = subst (λ v. effect_at t c.measure v ≡ Some 0) call.3 (cert.quiet_leaves call.0 call.2 (ap c.quiet call.3 ∙ at)) in
      subst (λ n. Mode c b (a ∷ calls) n after) (sym (quiet_count b _ count quiet)) (called quiet (inl (at, open_same before after count (leaves a before after low0 does none) calls opened)))
  along_call a b call calls count before after low0 low does small (elsewhere at out few) = go (nat_eq b h) refl
    where
      go : (x : Bool) → nat_eq b h ≡ x → Mode c b (a ∷ calls) (after_call_to b count) after
      go true e =
          let same : b ≡ h = eqb-true b h e in
          subst (λ n. Mode c b (a ∷ calls) n after) (sym (cond-true _ _ _ e)) (subst (λ v. Mode c v (a ∷ calls) 0 after) (sym same) (at_header after 0 low (small same) (no_turns c.least after) (a ∷ calls) (at, out)))
      go false e = subst (λ n. Mode c b (a ∷ calls) n after) (sym (cond-false _ _ _ e)) (by_body (c.body b) refl)
        where
          by_body : (x : Bool) → c.body b ≡ x → Mode c b (a ∷ calls) count after
          by_body false off = elsewhere off (at, out) few
          by_body true on = absurd (eqb-false b h e (cert.called a b call on))

  -- back from a call at u, by a return at a
  pub along_return : (a u b to : ℕ) → Leads g u b → Calls g u to → (e : ℕ) → e < g.edges → g.source e ≡ a → (calls : List ℕ) (count before after : ℕ) → before < 2 ^ 32 → after < 2 ^ 32 → Does a before after → (b ≡ h → after ≤ c.width) →
      Mode c a (u ∷ calls) count before → Mode c b calls (after_edge u b count) after
  along_return a u b to leads call e lt from calls count before after low0 low does small (within at tied out) = arrive u b leads after count low small calls out.1 (inr (out.0, tied_turned c before count (c.offset a) tied))
  along_return a u b to leads call e lt from calls count before after low0 low does small (elsewhere at out few) = arrive u b leads after count low small calls out.1 (inr (out.0, few))
  along_return a u b to leads call e lt from calls count before after low0 low does small (called at opened) = ⊎_elim
      (λ (q : (c.quiet u ≡ true) × IsOpen c before count calls).
      let quiet : c.quiet b ≡ true = cert.quiet_along u b leads q.0 in
      subst (λ n. Mode c b calls n after) (sym (quiet_count b _ count quiet)) (called quiet (open_same before after count same calls q.1)))
      (λ (q : (c.body u ≡ true) × Tied c before count (c.offset u) × AreOutside c.body calls). arrive u b leads after count low small calls q.2 (inl (q.0, passed u before after count q.1 (back q.0)))) opened
    where
      same : after ≡ before
      same = leaves a before after low0 does (subst (λ v. effect_at t c.measure v ≡ Some 0) from (cert.quiet_leaves e lt (ap c.quiet from ∙ at)))

      back : c.body u ≡ true → Does u before after
      back in_body k is =
          let none : effect_at t c.measure u ≡ Some 0 = (cert.calls u to call in_body).1 in
          let q : Some 0 ≡ Some k = sym none ∙ is in
          let q1 : 0 ≡ k = cc in
          same ∙ (sym (nothing_more before low0) ∙ ap (λ n. (before + n) % 2 ^ 32) q1)
