-- Along the chain of the words with one key.
use Rattle.std.proofs.Common.{◌≡◌, ℕ, zero, suc, ◌+◌, ◌<◌, ◌≤◌, Bool, true, false, List, length, refl, sym, ap, ◌∙◌, subst, arith, Option, Some, None, ◌⊎◌, inl, inr, ⊎_elim, [], ◌∷◌, replicate}
use Rattle.std.specs.Prelude.{◌||◌, ◌==◌, not, nat_le, slice_index, slice_index_or, All}
use Rattle.std.proofs.lemmas.Bool.{and_from, and_parts, or_left, or_right, or_from, or_cases, cases_Bool, cases_eq, eq-eqb, ne_eqb, both_ways, eqb-false, eqb-true, not-true, not_from_false, leb-true, le-leb}
use Rattle.code_graph.specs.declared.reach.step.Step.{Step}
use Rattle.code_graph.specs.Flow.{step_at, key_of, Waits, but, AreStepChains, is_number, is_key, is_below, but_keyed, but_above, is_part, but_parts, IsPart, IsReturnPass, flag, count_true}
use Rattle.code_graph.proofs.FlowLaws.{waits_less, count_le}
use Rattle.std.proofs.lemmas.List.Elements.{All-nil}

abbrev pub place : Option ℕ → ℕ
place None = 0
place (Some s) = s + 1

pub place_less : (o : Option ℕ) (s : ℕ) → ((r : ℕ) → o ≡ Some r → r < s) → place o < s + 1
place_less None s h = omega arith
place_less (Some r) s h = let lt = h r refl in omega arith

pub key_is : (steps : List Step) (k x : ℕ) → is_key steps k x ≡ true → key_of (step_at steps x) ≡ Some k
key_is steps k x h = go (key_of (step_at steps x)) refl h
  where
    go : (o : Option ℕ) → key_of (step_at steps x) ≡ o → is_number o k ≡ true → key_of (step_at steps x) ≡ Some k
    go None e h = let bad : ⊥ = cc in absurd bad
    go (Some j) e h = e ∙ ap Some (eqb-true j k h)

module _ (steps : List Step) (last before : List (Option ℕ)) (chain : AreStepChains steps (length steps) last before) (flags : List Bool) (queue : List ℕ) (done k : ℕ) (kl : k < length steps) (left : ℕ → Bool) where
  pub chain_start : Waits steps flags queue done left → Waits steps flags queue done (but_above steps k (slice_index_or last k None) left)
  chain_start = waits_less steps flags queue done left (but_above steps k (slice_index_or last k None) left)
      (λ x xl l. and_from (left x) _ l (⊎_elim
      (λ (t : is_key steps k x ≡ true). or_right (not (is_key steps k x)) (is_below (slice_index_or last k None) x) (chain.last_all k x kl xl (key_is steps k x t)))
      (λ f. or_left (not (is_key steps k x)) (is_below (slice_index_or last k None) x) (not_from_false (is_key steps k x) f)) (cases_Bool (is_key steps k x))))

  pub chain_next : (s : ℕ) → s < length steps → key_of (step_at steps s) ≡ Some k → Waits steps flags queue done (but (but_above steps k (Some s) left) s) → Waits steps flags queue done (but_above steps k (slice_index_or before s None) left)
  chain_next s sl key = waits_less steps flags queue done (but (but_above steps k (Some s) left) s) (but_above steps k (slice_index_or before s None) left)
      (λ x xl l.
      let p = and_parts (but_above steps k (Some s) left x) (not (x == s)) l in
      let q = and_parts (left x) (not (is_key steps k x) || nat_le x s) p.0 in
      let ne = eqb-false x s (not-true (x == s) p.1) in
      and_from (left x) _ q.0 (⊎_elim
      (λ (t : is_key steps k x ≡ true). ⊎_elim
      (λ f. absurd (both_ways (is_key steps k x) (not-true (is_key steps k x) f) t))
      (λ b. let le = leb-true x s b in or_right (not (is_key steps k x)) (is_below (slice_index_or before s None) x) (chain.before_all k s x kl sl key (key_is steps k x t) (let lt : x < s = omega (arith, ne) in lt)))
      (or_cases (not (is_key steps k x)) (nat_le x s) q.1))
      (λ f. or_left (not (is_key steps k x)) (is_below (slice_index_or before s None) x) (not_from_false (is_key steps k x) f)) (cases_Bool (is_key steps k x))))

  pub chain_end : Waits steps flags queue done (but_above steps k None left) → Waits steps flags queue done (but_keyed steps k left)
  chain_end = waits_less steps flags queue done (but_above steps k None left) (but_keyed steps k left)
      (λ x xl l.
      let q = and_parts (left x) (not (is_key steps k x) || false) l in
      and_from (left x) _ q.0 (⊎_elim (λ a. a) (λ b. (let bad : ⊥ = cc in absurd bad)) (or_cases (not (is_key steps k x)) false q.1)))

-- ---- one word of the queue, all words at the start
part_true : (steps : List Step) (k x : ℕ) → IsPart steps x k → is_part steps k x ≡ true
part_true steps k x h = ⊎_elim
    (λ e. or_left (is_key steps k x) (x + 1 == k) (ap (λ o. is_number o k) e ∙ eq-eqb k k refl))
    (λ e. or_right (is_key steps k x) (x + 1 == k) (eq-eqb (x + 1) k e)) h

pub waits_next : (steps : List Step) (flags : List Bool) (queue : List ℕ) (done k : ℕ) → slice_index queue done ≡ k →
    Waits steps flags queue done (λ x. false) → Waits steps flags queue (done + 1) (is_part steps k)
waits_next steps flags queue done k at waits x xl none has = ⊎_elim
    (λ (w : (p : ℕ) × (done ≤ p) × (p < length queue) × IsPart steps x (slice_index queue p)). by_place w.0 w.1 w.2 w.3 (cases_eq w.0 done))
    (λ l. (let bad : ⊥ = cc in absurd bad)) (waits x xl none has)
  where
    by_place : (p : ℕ) → done ≤ p → p < length queue → IsPart steps x (slice_index queue p) → (p ≡ done) ⊎ (p ≡ done → ⊥) →
        ((p : ℕ) × (done + 1 ≤ p) × (p < length queue) × IsPart steps x (slice_index queue p)) ⊎ (is_part steps k x ≡ true)
    by_place p a b part (inl e) = inr (part_true steps k x (subst (λ j. IsPart steps x j) (ap (slice_index queue) e ∙ at) part))
    by_place p a b part (inr ne) = inl (p, (let r : done + 1 ≤ p = omega (arith, ne) in r), b, part)

pub waits_done : (steps : List Step) (flags : List Bool) (queue : List ℕ) (done k : ℕ) → Waits steps flags queue done (but_parts steps k (is_part steps k)) → Waits steps flags queue done (λ x. false)
waits_done steps flags queue done k = waits_less steps flags queue done (but_parts steps k (is_part steps k)) (λ x. false)
    (λ x xl l. let p = and_parts (is_part steps k x) (not (is_part steps k x)) l in absurd (both_ways (is_part steps k x) (not-true (is_part steps k x) p.1) p.0))

pub parts_of : (steps : List Step) (flags : List Bool) (queue : List ℕ) (done k j : ℕ) (left : ℕ → Bool) → j + 1 ≡ k → Waits steps flags queue done (but (but_keyed steps k left) j) → Waits steps flags queue done (but_parts steps k left)
parts_of steps flags queue done k j left e = waits_less steps flags queue done (but (but_keyed steps k left) j) (but_parts steps k left)
    (λ x xl l.
    let p = and_parts (but_keyed steps k left x) (not (x == j)) l in
    let q = and_parts (left x) (not (is_key steps k x)) p.0 in
    let ne = eqb-false x j (not-true (x == j) p.1) in
    and_from (left x) _ q.0 (not_from_false (is_part steps k x) (or_from (is_key steps k x) (x + 1 == k) (not-true (is_key steps k x) q.1) (ne_eqb (x + 1) k (λ (h : x + 1 ≡ k). ne (let r : x ≡ j = omega arith in r))))))

pub parts_none : (steps : List Step) (flags : List Bool) (queue : List ℕ) (done k : ℕ) (left : ℕ → Bool) → k ≡ 0 → Waits steps flags queue done (but_keyed steps k left) → Waits steps flags queue done (but_parts steps k left)
parts_none steps flags queue done k left e = waits_less steps flags queue done (but_keyed steps k left) (but_parts steps k left)
    (λ x xl l.
    let q = and_parts (left x) (not (is_key steps k x)) l in
    and_from (left x) _ q.0 (not_from_false (is_part steps k x) (or_from (is_key steps k x) (x + 1 == k) (not-true (is_key steps k x) q.1) (ne_eqb (x + 1) k (λ (h : x + 1 ≡ k). (let bad : ⊥ = omega arith in bad))))))

pub waits_seed : (steps : List Step) (flags : List Bool) (queue : List ℕ) (done s : ℕ) → Waits steps flags queue done (but (λ x. nat_le s x) s) → Waits steps flags queue done (λ x. nat_le (s + 1) x)
waits_seed steps flags queue done s = waits_less steps flags queue done (but (λ x. nat_le s x) s) (λ x. nat_le (s + 1) x)
    (λ x xl l.
    let p = and_parts (nat_le s x) (not (x == s)) l in
    let ne = eqb-false x s (not-true (x == s) p.1) in
    let le = leb-true s x p.0 in
    le-leb (s + 1) x (let r : s + 1 ≤ x = omega (arith, ne) in r))

none_flag : (n s : ℕ) → flag (replicate n false) s ≡ false
none_flag zero s = refl
none_flag (suc n) zero = refl
none_flag (suc n) (suc s) = none_flag n s

none_size : (n : ℕ) → length (replicate n false) ≡ n
none_size zero = refl
none_size (suc n) = ap suc (none_size n)

none_count : (n : ℕ) → count_true (replicate n false) ≡ 0
none_count zero = refl
none_count (suc n) = let ih = none_count n in omega arith

pub pass_start : (steps : List Step) (flags : List Bool) (queue : List ℕ) → flags ≡ replicate (length steps) false → queue ≡ [] → IsReturnPass steps flags queue
pass_start steps flags queue f q = record {
  size = ap length f ∙ none_size (length steps);
  sound = λ s h. absurd (both_ways (flag flags s) (ap (λ fs. flag fs s) f ∙ none_flag (length steps) s) h);
  counted = ap count_true f ∙ (none_count (length steps) ∙ sym (ap length q));
  within = subst (λ xs. All (λ k. k < length steps) xs) (sym q) (All-nil (λ k. k < length steps));
}

pub queue_within : (steps : List Step) (flags : List Bool) (queue : List ℕ) → IsReturnPass steps flags queue → length queue ≤ length steps
queue_within steps flags queue pass = let a = pass.size in let b = pass.counted in let c = count_le flags in omega arith

pub same_index : (xs : List ℕ) (i d e : ℕ) → i < length xs → slice_index_or xs i d ≡ slice_index_or xs i e
same_index [] i d e lt = let bad : ⊥ = omega arith in absurd bad
same_index (x ∷ xs) zero d e lt = refl
same_index (x ∷ xs) (suc i) d e lt = same_index xs i d e (omega arith)
