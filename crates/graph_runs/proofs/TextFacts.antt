-- Addresses of the text, and the jumps that stand in it.
use Rattle.std.proofs.Common.{◌≡◌, ℕ, zero, suc, ◌+◌, ◌-◌, ◌*◌, ◌<◌, ◌≤◌, ◌%◌, ◌/◌, Bool, true, false, List, [], ◌∷◌, refl, sym, ap, ◌∙◌, subst, arith, Some, ⊎_elim}
use Rattle.std.specs.Prelude.{◌==◌, ◌&&◌, not, nat_lt, nat_le, All}
use Rattle.std.specs.List.{list_any}
use Rattle.std.proofs.lemmas.Bool.{and_parts, and_from, or_cases, or_left, or_right, ltb-true, leb-true, lt-ltb, le-leb, eq-eqb, not_from_true, or_from, and_right}
use Rattle.std.proofs.lemmas.List.Elements.{All-head, All-tail}
use Rattle.cost_theory.proofs.Laws.{below_suc}
use Rattle.scale_base.specs.declared.ranges.Range.{Range}
use Rattle.scale_base.specs.Image.{is_in}
use Rattle.scale_base.specs.Layout.{may_write, in_stack}
use Rattle.scale_base.specs.State.{Setting, word_at}
use Rattle.cost_theory.specs.Graph.{any_below}
use Rattle.code_text.specs.Text.{Text, is_text_address, instr_at, jump_of, is_at, jumps_from, is_target, follows}
use Rattle.graph_runs.specs.TextStates.{IsTextRange, IsTextOf}

-- a test of a range that holds at two places at once
any_step : (p q : Range → Bool) (P : Range → Type 0) (rs : List Range) → All P rs → ((r : Range) → P r → p r ≡ true → q r ≡ true) → list_any p rs ≡ true → list_any q rs ≡ true
any_step p q P [] all step h = h
any_step p q P (r ∷ rs) all step h = ⊎_elim
    (λ here. or_left (q r) (list_any q rs) (step r (All-head P r rs all) here))
    (λ there. or_right (q r) (list_any q rs) (any_step p q P rs (All-tail P r rs all) step there)) (or_cases (p r) (list_any p rs) h)

-- a fact that each range gives
any_fact : (p : Range → Bool) (P : Range → Type 0) (G : Type 0) (rs : List Range) → All P rs → ((r : Range) → P r → p r ≡ true → G) → list_any p rs ≡ true → G
any_fact p P G [] all step h = let bad : ⊥ = cc in absurd bad
any_fact p P G (r ∷ rs) all step h = ⊎_elim (λ here. step r (All-head P r rs all) here) (λ there. any_fact p P G rs (All-tail P r rs all) step there) (or_cases (p r) (list_any p rs) h)

range_parts : (r : Range) (v : ℕ) → is_in v r ≡ true → (r.from ≤ v) × (v < r.to)
range_parts r v h = let b = and_parts (nat_le r.from v) (nat_lt v r.to) h in (leb-true r.from v b.0, ltb-true v r.to b.1)

range_from : (r : Range) (v : ℕ) → r.from ≤ v → v < r.to → is_in v r ≡ true
range_from r v a b = and_from (nat_le r.from v) (nat_lt v r.to) (le-leb r.from v a) (lt-ltb v r.to b)

any_at : (n : ℕ) (p : ℕ → Bool) (i : ℕ) → i < n → p i ≡ true → any_below n p ≡ true
any_at zero p i lt h = let bad : ⊥ = omega arith in absurd bad
any_at (suc n) p i lt h = ⊎_elim
    (λ (low : i < n). or_left (any_below n p) (p n) (any_at n p i low h))
    (λ (e : i ≡ n). or_right (any_below n p) (p n) (ap p (sym e) ∙ h)) (below_suc i n lt)

pub word_within : (t : Text) (env : Setting) → IsTextOf t env → (v k : ℕ) → is_text_address t v ≡ true → v % 4 ≡ 0 → k < 4 → is_text_address t (v + k) ≡ true
word_within t env ok v k h al lt = any_step (λ r. is_in v r) (λ r. is_in (v + k) r) IsTextRange t.ranges ok.each
    (λ r is here. let b = range_parts r v here in let a0 = is.0 in let a1 = is.1 in range_from r (v + k) (omega arith) (omega arith)) h

pub word_bound : (t : Text) (env : Setting) → IsTextOf t env → (v : ℕ) → is_text_address t v ≡ true → v < 0xFF000000
word_bound t env ok v h = any_fact (λ r. is_in v r) IsTextRange (v < 0xFF000000) t.ranges ok.each (λ r is here. let b = range_parts r v here in let a2 = is.2 in omega arith) h

pub not_written : (t : Text) (env : Setting) → IsTextOf t env → (a : ℕ) → is_text_address t a ≡ true → may_write env.layout a ≡ false
unfolding may_write
not_written t env ok a h =
    let e : list_any (λ r. is_in a r) env.layout.text ≡ true = subst (λ rs. list_any (λ r. is_in a r) rs ≡ true) ok.ranges h in
    or_from (in_stack a) _ (ok.no_stack a h) (and_right _ (not (list_any (λ r. is_in a r) env.layout.text)) (not_from_true _ e))

-- the target of a branch or a JAL of the text is one
pub target_is : (t : Text) (env : Setting) → IsTextOf t env → (u v : ℕ) → is_text_address t u ≡ true → u % 4 ≡ 0 → jump_of (instr_at t u) u ≡ Some v → is_target t v ≡ true
unfolding is_target
target_is t env ok u v h al jump = or_right (v == t.entry) _
    (any_step (λ r. is_in u r) (jumps_from t v) IsTextRange t.ranges ok.each
    (λ r is here.
    let b = range_parts r u here in
    let a0 = is.0 in
    let a1 = is.1 in
    let i : ℕ = (u - r.from) / 4 in
    let eq : r.from + 4 * i ≡ u = omega arith in
    any_at ((r.to - r.from) / 4) (λ j. is_at (jump_of (instr_at t (r.from + 4 * j)) (r.from + 4 * j)) v) i (omega arith)
    (ap (λ w. is_at (jump_of (instr_at t w) w) v) eq ∙ (ap (λ o. is_at o v) jump ∙ eq-eqb v v refl))) h)

pub entry_is : (t : Text) → is_target t t.entry ≡ true
unfolding is_target
entry_is t = or_left (t.entry == t.entry) _ (eq-eqb t.entry t.entry refl)

pub follows_word : (t : Text) (env : Setting) → IsTextOf t env → (v : ℕ) → follows t v ≡ true → (4 ≤ v) × (is_text_address t (v - 4) ≡ true)
follows_word t env ok v h =
    let b = and_parts (nat_le 4 v) (list_any (λ r. is_in (v - 4) r && is_in v r) t.ranges) h in (
      leb-true 4 v b.0,
      any_step (λ r. is_in (v - 4) r && is_in v r) (λ r. is_in (v - 4) r) IsTextRange t.ranges ok.each
          (λ r is here. let c = and_parts (is_in (v - 4) r) (is_in v r) here in c.0) b.1,
    )

-- the words of a run's state are the text's
pub word_same : (t : Text) (env : Setting) → IsTextOf t env → (bytes : ℕ → ℕ) → ((a : ℕ) → is_text_address t a ≡ true → bytes a ≡ t.bytes a) → (v : ℕ) → is_text_address t v ≡ true → v % 4 ≡ 0 → word_at bytes v ≡ word_at t.bytes v
word_same t env ok bytes same v h al =
    let e0 = same v h in
    let e1 = same (v + 1) (word_within t env ok v 1 h al (omega arith)) in
    let e2 = same (v + 2) (word_within t env ok v 2 h al (omega arith)) in
    let e3 = same (v + 3) (word_within t env ok v 3 h al (omega arith)) in
    cc
