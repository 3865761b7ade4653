-- Where a run stands by what is so at each address of a loop's body, and that each transition over the graph keeps it so.
use Rattle.std.proofs.Common.{◌≡◌, ◌≢◌, ℕ, ◌+◌, ◌*◌, ◌≤◌, Bool, true, false, cond, ◌⊎◌, inl, inr, ⊎_elim, List, [], ◌∷◌, nat_eq, refl, sym, subst}
use Rattle.std.proofs.lemmas.Bool.{cond-true, cond-false, eqb-true, ne_eqb, eqb-false, both_ways}
use Rattle.scale_base.specs.State.{reg}
use Rattle.cost_theory.specs.Graph.{Graph}
use Rattle.code_text.specs.Text.{Text}
use Rattle.bound_laws.specs.Turning.{Leads, Calls}
use Rattle.bound_laws.specs.Values.{Values}
use Rattle.bound_laws.proofs.Laws.{AreOutside}
use Rattle.stack_laws.specs.Stacks.{Stacks, View}
use Rattle.walk_areas.specs.Walking.{WalkCertificate, IsWalkCertificate}

module _ (t : Text) (g : Graph) (v : Values) (w : Stacks) (h : ℕ) (extent : ℕ → Bool) (c : WalkCertificate) (cert : IsWalkCertificate t g v w h extent c)
    (Facts : ℕ → ℕ → View → Type 0) (few : (a n : ℕ) (x : View) → Facts a n x → n * c.least ≤ c.width) (reset : (n : ℕ) (x : View) → Facts h n x → Facts h 0 x) where
  -- in the body, or elsewhere, while no call from the body is open
  pub data Level (pc : ℕ) (calls : List ℕ) (count : ℕ) (x : View) : Type 0 where
    within : c.body pc ≡ true → Facts pc count x → AreOutside c.body calls → Level pc calls count x
    elsewhere : c.body pc ≡ false → AreOutside c.body calls → count * c.least ≤ c.width → Level pc calls count x

  -- a call from the body is open, before which all was so, and all calls within it come from quiet code
  abbrev pub Waits : ℕ → List ℕ → List View → Type 0
  Waits count [] xs = ⊥
  Waits count (u ∷ us) [] = ⊥
  Waits count (u ∷ us) (x ∷ xs) = ((c.quiet u ≡ true) × Waits count us xs) ⊎ ((c.body u ≡ true) × (reg x.regs 0 ≡ 0) × Facts u count x × AreOutside c.body us)

  pub data Mode (pc : ℕ) (calls : List ℕ) (xs : List View) (count : ℕ) (x : View) : Type 0 where
    at_level : Level pc calls count x → Mode pc calls xs count x
    called : c.quiet pc ≡ true → Waits count calls xs → Mode pc calls xs count x

  level_turned : (pc : ℕ) (calls : List ℕ) (count : ℕ) (x : View) → Level pc calls count x → count * c.least ≤ c.width
  level_turned pc calls count x (within at facts out) = few pc count x facts
  level_turned pc calls count x (elsewhere at out less) = less

  waits_turned : (count : ℕ) (calls : List ℕ) (xs : List View) → Waits count calls xs → count * c.least ≤ c.width
  waits_turned count [] xs h = absurd h
  waits_turned count (u ∷ us) [] h = absurd h
  waits_turned count (u ∷ us) (x ∷ xs) h = ⊎_elim (λ (q : (c.quiet u ≡ true) × Waits count us xs). waits_turned count us xs q.1)
      (λ (b : (c.body u ≡ true) × (reg x.regs 0 ≡ 0) × Facts u count x × AreOutside c.body us). few u count x b.2) h

  -- so a loop turns so often at most
  pub turned : (pc : ℕ) (calls : List ℕ) (xs : List View) (count : ℕ) (x : View) → Mode pc calls xs count x → count * c.least ≤ c.width
  turned pc calls xs count x (at_level level) = level_turned pc calls count x level
  turned pc calls xs count x (called at waits) = waits_turned count calls xs waits

  -- the count after a step over an edge, and after a call
  abbrev pub after_edge : ℕ → ℕ → ℕ → ℕ
  after_edge a b count = cond (nat_eq b h) (cond (extent a) (count + 1) 0) count

  abbrev pub after_call_to : ℕ → ℕ → ℕ
  after_call_to b count = cond (nat_eq b h) 0 count

  -- over an edge from a to b: what holds at the header of a new turn, and anew where it comes from elsewhere, and elsewhere in the body
  pub record IsPassedOn (a b count : ℕ) (x : View) : Type 0 where
    pub anew : b ≡ h → c.body a ≡ false → Facts h 0 x
    pub turn : b ≡ h → c.body a ≡ true → Facts h (count + 1) x
    pub on : b ≢ h → c.body a ≡ true → c.body b ≡ true → Facts b count x

  module _ (a b : ℕ) (leads : Leads g a b) (live : v.live a ≡ true) (count : ℕ) (x : View) (passed : IsPassedOn a b count x) (calls : List ℕ) (out : AreOutside c.body calls) (less : count * c.least ≤ c.width) where
    to_header : b ≡ h → Level h calls (cond (extent a) (count + 1) 0) x
    to_header same = go (extent a) refl
      where
        begun : (y : Bool) → c.body a ≡ y → Facts h 0 x
        begun false off = passed.anew same off
        begun true on = reset (count + 1) x (passed.turn same on)

        to : Leads g a h
        to = subst (λ n. Leads g a n) same leads

        go : (y : Bool) → extent a ≡ y → Level h calls (cond (extent a) (count + 1) 0) x
        go false off = subst (λ n. Level h calls n x) (sym (cond-false _ (count + 1) 0 off)) (within cert.first (begun (c.body a) refl) out)
        go true on = subst (λ n. Level h calls n x) (sym (cond-true _ (count + 1) 0 on)) (within cert.first (passed.turn same (cert.counts a to live on)) out)

    to_other : b ≢ h → Level b calls count x
    to_other other = go (c.body b) refl
      where
        go : (y : Bool) → c.body b ≡ y → Level b calls count x
        go false off = elsewhere off out less
        go true on = within on (passed.on other (cert.entered a b leads live on other) on) out

    pub arrive : Level b calls (after_edge a b count) x
    arrive = go (nat_eq b h) refl
      where
        go : (y : Bool) → nat_eq b h ≡ y → Level b calls (after_edge a b count) x
        go true e =
            let same : b ≡ h = eqb-true b h e in
            subst (λ n. Level b calls n x) (sym (cond-true _ _ _ e)) (subst (λ n. Level n calls (cond (extent a) (count + 1) 0) x) (sym same) (to_header same))
        go false e = subst (λ n. Level b calls n x) (sym (cond-false _ _ _ e)) (to_other (eqb-false b h e))

  -- quiet code is no header, so the count stays
  quiet_count : (b n count : ℕ) → c.quiet b ≡ true → cond (nat_eq b h) n count ≡ count
  quiet_count b n count quiet = cond-false _ _ _ (ne_eqb b h (λ same. both_ways (c.quiet h) cert.quiet_apart (subst (λ n. c.quiet n ≡ true) same quiet)))

  -- where no fact of the body is needed, none is had
  outside : (a b count : ℕ) (x : View) → c.body a ≡ false → (b ≡ h → c.body a ≡ false → Facts h 0 x) → IsPassedOn a b count x
  outside a b count x off anew = record {
    anew = anew;
    turn = λ same in_body. absurd (both_ways (c.body a) off in_body);
    on = λ other in_body on. absurd (both_ways (c.body a) off in_body);
  }

  pub along_edge : (a b : ℕ) → Leads g a b → v.live a ≡ true → (calls : List ℕ) (xs : List View) (count : ℕ) (before after : View) → (b ≡ h → c.body a ≡ false → Facts h 0 after) →
      (c.body a ≡ true → Facts a count before → IsPassedOn a b count after) → Mode a calls xs count before → Mode b calls xs (after_edge a b count) after
  along_edge a b leads live calls xs count before after anew does (at_level level) = at_level (by level)
    where
      by : Level a calls count before → Level b calls (after_edge a b count) after
      by (within at facts out) = arrive a b leads live count after (does at facts) calls out (few a count before facts)
      by (elsewhere at out less) = arrive a b leads live count after (outside a b count after at anew) calls out less
  along_edge a b leads live calls xs count before after anew does (called at waits) =
      let quiet : c.quiet b ≡ true = cert.quiet_along a b leads at in
      subst (λ n. Mode b calls xs n after) (sym (quiet_count b _ count quiet)) (called quiet waits)

  -- into a call, before which this is seen
  pub along_call : (a b : ℕ) → Calls g a b → v.live a ≡ true → (calls : List ℕ) (xs : List View) (x : View) (count : ℕ) (after : View) → reg x.regs 0 ≡ 0 → (b ≡ h → Facts h 0 after) →
      Mode a calls xs count x → Mode b (a ∷ calls) (x ∷ xs) (after_call_to b count) after
  along_call a b call live calls xs x count after zero_is anew (at_level level) = by level
    where
      by : Level a calls count x → Mode b (a ∷ calls) (x ∷ xs) (after_call_to b count) after
      by (within at facts out) =
          let quiet : c.quiet b ≡ true = cert.calls a b call live at in
          subst (λ n. Mode b (a ∷ calls) (x ∷ xs) n after) (sym (quiet_count b _ count quiet)) (called quiet (inr (at, zero_is, facts, out)))
      by (elsewhere at out less) = at_level (go (nat_eq b h) refl)
        where
          go : (y : Bool) → nat_eq b h ≡ y → Level b (a ∷ calls) (after_call_to b count) after
          go true e =
              let same : b ≡ h = eqb-true b h e in
              subst (λ n. Level b (a ∷ calls) n after) (sym (cond-true _ _ _ e)) (subst (λ n. Level n (a ∷ calls) 0 after) (sym same) (within cert.first (anew same) (at, out)))
          go false e = subst (λ n. Level b (a ∷ calls) n after) (sym (cond-false _ _ _ e)) (by_body (c.body b) refl)
            where
              by_body : (y : Bool) → c.body b ≡ y → Level b (a ∷ calls) count after
              by_body false off = elsewhere off (at, out) less
              by_body true on = absurd (eqb-false b h e (cert.called a b call live on))
  along_call a b call live calls xs x count after zero_is anew (called at waits) =
      let quiet : c.quiet b ≡ true = cert.quiet_calls a b call at in
      subst (λ n. Mode b (a ∷ calls) (x ∷ xs) n after) (sym (quiet_count b _ count quiet)) (called quiet (inl (at, waits)))

  -- back from a call at u to a function, by a return at a
  pub along_return : (a u b to : ℕ) → Leads g u b → Calls g u to → v.live u ≡ true → (calls : List ℕ) (xs : List View) (x : View) (count : ℕ) (before after : View) → (b ≡ h → c.body u ≡ false → Facts h 0 after) →
      (reg x.regs 0 ≡ 0 → c.body u ≡ true → Facts u count x → IsPassedOn u b count after) → Mode a (u ∷ calls) (x ∷ xs) count before → Mode b calls xs (after_edge u b count) after
  along_return a u b to leads call live calls xs x count before after anew does (at_level level) = at_level (by level)
    where
      by : Level a (u ∷ calls) count before → Level b calls (after_edge u b count) after
      by (within at facts out) = arrive u b leads live count after (outside u b count after out.0 anew) calls out.1 (few a count before facts)
      by (elsewhere at out less) = arrive u b leads live count after (outside u b count after out.0 anew) calls out.1 less
  along_return a u b to leads call live calls xs x count before after anew does (called at waits) = ⊎_elim
      (λ (q : (c.quiet u ≡ true) × Waits count calls xs).
      let quiet : c.quiet b ≡ true = cert.quiet_along u b leads q.0 in
      subst (λ n. Mode b calls xs n after) (sym (quiet_count b _ count quiet)) (called quiet q.1))
      (λ (q : (c.body u ≡ true) × (reg x.regs 0 ≡ 0) × Facts u count x × AreOutside c.body calls).
      at_level (arrive u b leads live count after (does q.1 q.0 q.2) calls q.3 (few u count x q.2))) waits
