-- Where a run of a versioned image stands by a copy of a loop, with the counts of the copy and of the loop, and that each step keeps it so.
use Rattle.std.proofs.Common.{◌≡◌, ◌≢◌, ℕ, ◌+◌, ◌≤◌, Bool, true, false, cond, ◌⊎◌, inl, inr, ⊎_elim, List, [], ◌∷◌, nat_eq, refl, sym, ◌∙◌, ap, subst, arith}
use Rattle.std.proofs.lemmas.Bool.{cond-true, cond-false, eqb-true, eq-eqb, ne_eqb, eqb-false, both_ways}
use Rattle.cost_theory.specs.Graph.{Graph}
use Rattle.code_text.specs.Text.{Text}
use Rattle.bound_laws.specs.Turning.{Leads, Calls}
use Rattle.bound_laws.proofs.Laws.{AreOutside}
use Rattle.copy_bounds.specs.Copies.{Meaning, CopyCertificate, IsCopy, counts_from}

module _ (m : Meaning) (t : Text) (g : Graph) (h : ℕ) (extent : ℕ → Bool) (copied : ℕ) (round : ℕ → Bool) (c : CopyCertificate)
    (cert : IsCopy m t g h extent copied round c) (most : ℕ) where
  -- how many turns the original has counted more, at least
  abbrev pub lead : ℕ → ℕ
  lead a = cond (c.ahead a) 1 0

  -- a call from the body is open, and all calls within it come from quiet code
  abbrev pub Waits : (count other : ℕ) → List ℕ → Type 0
  Waits count other [] = ⊥
  Waits count other (u ∷ us) = ((c.quiet u ≡ true) × Waits count other us) ⊎ ((c.body u ≡ true) × (count + lead u ≤ other) × AreOutside c.body us)

  -- in the body, elsewhere while no call from the body is open, or in a call from it
  pub data Mode (pc : ℕ) (calls : List ℕ) (count other : ℕ) : Type 0 where
    within : c.body pc ≡ true → count + lead pc ≤ other → AreOutside c.body calls → Mode pc calls count other
    elsewhere : c.body pc ≡ false → count ≤ most → AreOutside c.body calls → Mode pc calls count other
    called : c.quiet pc ≡ true → Waits count other calls → Mode pc calls count other

  waits_few : (count other : ℕ) (calls : List ℕ) → Waits count other calls → count ≤ other
  waits_few count other [] h = absurd h
  waits_few count other (u ∷ us) h = ⊎_elim
      (λ (q : (c.quiet u ≡ true) × Waits count other us). waits_few count other us q.1)
      (λ (q : (c.body u ≡ true) × (count + lead u ≤ other) × AreOutside c.body us). let few = q.1 in let r : count ≤ other = omega (arith, few) in r) h

  -- the copy has turned no more often than the loop may
  pub turned : (pc : ℕ) (calls : List ℕ) (count other : ℕ) → other ≤ most → Mode pc calls count other → count ≤ most
  turned pc calls count other few (within at less out) = let r : count ≤ most = omega (arith, few, less) in r
  turned pc calls count other few (elsewhere at less out) = less
  turned pc calls count other few (called at waits) = let less = waits_few count other calls waits in let r : count ≤ most = omega (arith, few, less) in r

  -- ---- counts

  -- the count of the copy after a step over an edge, and after a call
  abbrev pub after_edge : ℕ → ℕ → ℕ → ℕ
  after_edge a b count = cond (nat_eq b h) (cond (extent a) (count + 1) 0) count

  abbrev pub after_call_to : ℕ → ℕ → ℕ
  after_call_to b count = cond (nat_eq b h) 0 count

  -- that of the loop, where the step is one of the original
  abbrev pub other_after : ℕ → ℕ → ℕ → ℕ
  other_after a b other = cond (nat_eq (m.text_at b) copied) (cond (counts_from round (m.source_at a)) (other + 1) 0) other

  abbrev pub Counts : (a b other next : ℕ) → Type 0
  Counts a b other next = ((m.is_extra a ≡ true) × (next ≡ other)) ⊎ ((m.is_extra a ≡ false) × (next ≡ other_after a b other))

  -- where the original comes to its header, and elsewhere
  came_to : (a b other next : ℕ) → next ≡ other_after a b other → m.text_at b ≡ copied → counts_from round (m.source_at a) ≡ true → next ≡ other + 1
  came_to a b other next e here from = e ∙ (cond-true _ _ _ (eq-eqb (m.text_at b) copied here) ∙ cond-true _ _ _ from)

  went_by : (a b other next : ℕ) → next ≡ other_after a b other → m.text_at b ≢ copied → next ≡ other
  went_by a b other next e off = e ∙ cond-false _ _ _ (ne_eqb (m.text_at b) copied off)

  lead_of : (a : ℕ) (b : Bool) → c.ahead a ≡ b → lead a ≡ cond b 1 0
  lead_of a b e = ap (λ x. cond x 1 0) e

  -- within the body the original counts each turn
  module _ (a b : ℕ) (leads : Leads g a b) (at : c.body a ≡ true) (on : c.body b ≡ true) (count other next : ℕ) (counts : Counts a b other next) (less : count + lead a ≤ other) where
    -- it comes to its header, or stays as it was
    grows : (next ≡ other) ⊎ ((m.is_extra a ≡ false) × (next ≡ other + 1))
    grows = ⊎_elim (λ (p : (m.is_extra a ≡ true) × (next ≡ other)). inl p.1) (λ (p : (m.is_extra a ≡ false) × (next ≡ other_after a b other)). real p.0 p.1 (nat_eq (m.text_at b) copied) refl) counts
      where
        real : m.is_extra a ≡ false → next ≡ other_after a b other → (y : Bool) → nat_eq (m.text_at b) copied ≡ y → (next ≡ other) ⊎ ((m.is_extra a ≡ false) × (next ≡ other + 1))
        real off e true here = let same : m.text_at b ≡ copied = eqb-true (m.text_at b) copied here in inr (off, came_to a b other next e same (cert.comes a b leads at on off same))
        real off e false there = inl (went_by a b other next e (eqb-false (m.text_at b) copied there))

    at_turn : b ≡ h → extent a ≡ true → count + 1 ≤ next
    at_turn same inside = ⊎_elim
        (λ (p : (m.is_extra a ≡ true) × (next ≡ other)).
        let ahead : lead a ≡ 1 = lead_of a true (cert.turns a (subst (λ x. Leads g a x) same leads) at inside p.0) in
        let e = p.1 in
        let r : count + 1 ≤ next = omega (arith, less, ahead, e) in r)
        (λ (p : (m.is_extra a ≡ false) × (next ≡ other_after a b other)).
        let here : m.text_at b ≡ copied = ap m.text_at same ∙ cert.stands in
        let e : next ≡ other + 1 = came_to a b other next p.1 here (cert.comes a b leads at on p.0 here) in
        let r : count + 1 ≤ next = omega (arith, less, e) in r) counts

    to_header : b ≡ h → cond (extent a) (count + 1) 0 + lead h ≤ next
    to_header same = go (extent a) refl
      where
        none : lead h ≡ 0
        none = lead_of h false cert.begins

        go : (y : Bool) → extent a ≡ y → cond (extent a) (count + 1) 0 + lead h ≤ next
        go true e = let few = at_turn same e in let is : cond (extent a) (count + 1) 0 ≡ count + 1 = cond-true _ _ _ e in let r : cond (extent a) (count + 1) 0 + lead h ≤ next = omega (arith, few, is, none) in r
        go false e = let is : cond (extent a) (count + 1) 0 ≡ 0 = cond-false _ _ _ e in let r : cond (extent a) (count + 1) 0 + lead h ≤ next = omega (arith, is, none) in r

    to_other : b ≢ h → count + lead b ≤ next
    to_other other_node = go (c.ahead b) refl
      where
        go : (y : Bool) → c.ahead b ≡ y → count + lead b ≤ next
        go false e = let none : lead b ≡ 0 = lead_of b false e in ⊎_elim
            (λ (p : next ≡ other). let r : count + lead b ≤ next = omega (arith, less, none, p) in r)
            (λ (p : (m.is_extra a ≡ false) × (next ≡ other + 1)). let e = p.1 in let r : count + lead b ≤ next = omega (arith, less, none, e) in r) grows
        go true e = let one : lead b ≡ 1 = lead_of b true e in ⊎_elim
            (λ (p : c.ahead a ≡ true). let before : lead a ≡ 1 = lead_of a true p in ⊎_elim
            (λ (q : next ≡ other). let r : count + lead b ≤ next = omega (arith, less, one, before, q) in r)
            (λ (q : (m.is_extra a ≡ false) × (next ≡ other + 1)). let e = q.1 in let r : count + lead b ≤ next = omega (arith, less, one, before, e) in r) grows)
            (λ (p : (m.is_extra a ≡ false) × (m.text_at b ≡ copied)). ⊎_elim
            (λ (q : (m.is_extra a ≡ true) × (next ≡ other)). absurd (both_ways (m.is_extra a) p.0 q.0))
            (λ (q : (m.is_extra a ≡ false) × (next ≡ other_after a b other)).
            let e : next ≡ other + 1 = came_to a b other next q.1 p.1 (cert.comes a b leads at on p.0 p.1) in
            let r : count + lead b ≤ next = omega (arith, less, one, e) in r) counts)
            (cert.along a b leads at on other_node e)

  -- ---- steps

  -- over an edge from a to b, from the body or from elsewhere
  abbrev Came : (a count other : ℕ) → Type 0
  Came a count other = ((c.body a ≡ true) × (count + lead a ≤ other)) ⊎ ((c.body a ≡ false) × (count ≤ most))

  module _ (a b : ℕ) (leads : Leads g a b) (count other next : ℕ) (few : other ≤ most) (counts : Counts a b other next) (calls : List ℕ) (out : AreOutside c.body calls) (came : Came a count other) where
    came_few : count ≤ most
    came_few = ⊎_elim (λ (p : (c.body a ≡ true) × (count + lead a ≤ other)). let less = p.1 in let r : count ≤ most = omega (arith, less, few) in r) (λ (p : (c.body a ≡ false) × (count ≤ most)). p.1) came

    reach_header : b ≡ h → cond (extent a) (count + 1) 0 + lead h ≤ next
    reach_header same = ⊎_elim
        (λ (p : (c.body a ≡ true) × (count + lead a ≤ other)). to_header a b leads p.0 (subst (λ x. c.body x ≡ true) (sym same) cert.first) count other next counts p.1 same)
        (λ (p : (c.body a ≡ false) × (count ≤ most)). by p.0 (extent a) refl) came
      where
        none : lead h ≡ 0
        none = lead_of h false cert.begins

        by : c.body a ≡ false → (y : Bool) → extent a ≡ y → cond (extent a) (count + 1) 0 + lead h ≤ next
        by off true e = absurd (both_ways (c.body a) off (cert.counts a (subst (λ x. Leads g a x) same leads) e))
        by off false e = let is : cond (extent a) (count + 1) 0 ≡ 0 = cond-false _ _ _ e in let r : cond (extent a) (count + 1) 0 + lead h ≤ next = omega (arith, is, none) in r

    reach_other : b ≢ h → Mode b calls count next
    reach_other other_node = go (c.body b) refl
      where
        go : (y : Bool) → c.body b ≡ y → Mode b calls count next
        go false off = elsewhere off came_few out
        go true on = ⊎_elim
            (λ (p : (c.body a ≡ true) × (count + lead a ≤ other)). within on (to_other a b leads p.0 on count other next counts p.1 other_node) out)
            (λ (p : (c.body a ≡ false) × (count ≤ most)). absurd (both_ways (c.body a) p.0 (cert.entered a b leads on other_node))) came

    pub arrive : Mode b calls (after_edge a b count) next
    arrive = go (nat_eq b h) refl
      where
        go : (y : Bool) → nat_eq b h ≡ y → Mode b calls (after_edge a b count) next
        go true e =
            let same : b ≡ h = eqb-true b h e in
            subst (λ n. Mode b calls n next) (sym (cond-true _ _ _ e)) (subst (λ v. Mode v calls (cond (extent a) (count + 1) 0) next) (sym same) (within cert.first (reach_header same) out))
        go false e = subst (λ n. Mode b calls n next) (sym (cond-false _ _ _ e)) (reach_other (eqb-false b h e))

  -- quiet code is no header, so the counts stay
  quiet_off : (b : ℕ) → c.quiet b ≡ true → b ≢ h
  quiet_off b quiet same = cert.quiet_apart b quiet (ap m.text_at same ∙ cert.stands)

  quiet_count : (b n count : ℕ) → c.quiet b ≡ true → cond (nat_eq b h) n count ≡ count
  quiet_count b n count quiet = cond-false _ _ _ (ne_eqb b h (quiet_off b quiet))

  quiet_other : (a b other next : ℕ) → c.quiet b ≡ true → Counts a b other next → next ≡ other
  quiet_other a b other next quiet counts = ⊎_elim (λ (p : (m.is_extra a ≡ true) × (next ≡ other)). p.1)
      (λ (p : (m.is_extra a ≡ false) × (next ≡ other_after a b other)). went_by a b other next p.1 (cert.quiet_apart b quiet)) counts

  -- over an edge
  pub along_edge : (a b : ℕ) → Leads g a b → (calls : List ℕ) (count other next : ℕ) → other ≤ most → Counts a b other next → Mode a calls count other → Mode b calls (after_edge a b count) next
  along_edge a b leads calls count other next few counts (within at less out) = arrive a b leads count other next few counts calls out (inl (at, less))
  along_edge a b leads calls count other next few counts (elsewhere at less out) = arrive a b leads count other next few counts calls out (inr (at, less))
  along_edge a b leads calls count other next few counts (called at waits) =
      let quiet : c.quiet b ≡ true = cert.quiet_along a b leads at in
      subst (λ n. Mode b calls n next) (sym (quiet_count b _ count quiet)) (subst (λ n. Mode b calls count n) (sym (quiet_other a b other next quiet counts)) (called quiet waits))

  -- the count of the loop after a call
  abbrev pub other_called : ℕ → ℕ → ℕ
  other_called b other = cond (nat_eq (m.text_at b) copied) 0 other

  -- into a call
  pub along_call : (a b : ℕ) → Calls g a b → (calls : List ℕ) (count other next : ℕ) → other ≤ most → next ≡ other_called b other → Mode a calls count other → Mode b (a ∷ calls) (after_call_to b count) next
  along_call a b call calls count other next few counts (within at less out) =
      let quiet : c.quiet b ≡ true = cert.calls a b call at in
      let same : next ≡ other = counts ∙ cond-false _ _ _ (ne_eqb (m.text_at b) copied (cert.quiet_apart b quiet)) in
      subst (λ n. Mode b (a ∷ calls) n next) (sym (quiet_count b _ count quiet)) (subst (λ n. Mode b (a ∷ calls) count n) (sym same) (called quiet (inr (at, less, out))))
  along_call a b call calls count other next few counts (called at waits) =
      let quiet : c.quiet b ≡ true = cert.quiet_calls a b call at in
      let same : next ≡ other = counts ∙ cond-false _ _ _ (ne_eqb (m.text_at b) copied (cert.quiet_apart b quiet)) in
      subst (λ n. Mode b (a ∷ calls) n next) (sym (quiet_count b _ count quiet)) (subst (λ n. Mode b (a ∷ calls) count n) (sym same) (called quiet (inl (at, waits))))
  along_call a b call calls count other next few counts (elsewhere at less out) = go (nat_eq b h) refl
    where
      none : lead h ≡ 0
      none = lead_of h false cert.begins

      go : (y : Bool) → nat_eq b h ≡ y → Mode b (a ∷ calls) (after_call_to b count) next
      go true e =
          let same : b ≡ h = eqb-true b h e in
          let zero : 0 + lead h ≤ next = omega (arith, none) in
          subst (λ n. Mode b (a ∷ calls) n next) (sym (cond-true _ _ _ e)) (subst (λ v. Mode v (a ∷ calls) 0 next) (sym same) (within cert.first zero (at, out)))
      go false e = subst (λ n. Mode b (a ∷ calls) n next) (sym (cond-false _ _ _ e)) (by_body (c.body b) refl)
        where
          by_body : (y : Bool) → c.body b ≡ y → Mode b (a ∷ calls) count next
          by_body false off = elsewhere off less (at, out)
          by_body true on = absurd (eqb-false b h e (cert.called a b call on))

  -- back from a call at u
  pub along_return : (a u b : ℕ) → Leads g u b → (calls : List ℕ) (count other next : ℕ) → other ≤ most → Counts u b other next → Mode a (u ∷ calls) count other → Mode b calls (after_edge u b count) next
  along_return a u b leads calls count other next few counts (within at less out) =
      arrive u b leads count other next few counts calls out.1 (inr (out.0, let r : count ≤ most = omega (arith, less, few) in r))
  along_return a u b leads calls count other next few counts (elsewhere at less out) = arrive u b leads count other next few counts calls out.1 (inr (out.0, less))
  along_return a u b leads calls count other next few counts (called at waits) = ⊎_elim
      (λ (q : (c.quiet u ≡ true) × Waits count other calls).
      let quiet : c.quiet b ≡ true = cert.quiet_along u b leads q.0 in
      subst (λ n. Mode b calls n next) (sym (quiet_count b _ count quiet)) (subst (λ n. Mode b calls count n) (sym (quiet_other u b other next quiet counts)) (called quiet q.1)))
      (λ (q : (c.body u ≡ true) × (count + lead u ≤ other) × AreOutside c.body calls). arrive u b leads count other next few counts calls q.2 (inl (q.0, q.1))) waits

  -- at the start
  pub mode_first : Mode t.entry [] 0 0
  mode_first = go (c.body t.entry) refl
    where
      none : lead h ≡ 0
      none = lead_of h false cert.begins

      go : (y : Bool) → c.body t.entry ≡ y → Mode t.entry [] 0 0
      go false off = elsewhere off (omega arith) tt
      go true on = let zero : 0 + lead h ≤ 0 = omega (arith, none) in subst (λ v. Mode v [] 0 0) (sym (cert.entry on)) (within cert.first zero tt)
