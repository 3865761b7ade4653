-- The backward pass: flags that are sound and closed are the least set.
use Rattle.std.proofs.Common.{◌≡◌, ◌≢◌, ℕ, zero, suc, ◌+◌, ◌<◌, ◌≤◌, ◌↔◌, Bool, true, false, List, [], ◌∷◌, ◌++◌, length, refl, sym, ap, ◌∙◌, subst, arith, Option, Some, None, ◌⊎◌, inl, inr, ⊎_elim, set, get_or-set_same, get_or-set_other, length-append, length-set}
use Rattle.std.specs.Prelude.{◌&&◌, ◌==◌, not, slice_index, if◌then◌else◌}
use Rattle.std.proofs.lemmas.Bool.{and_from, and_parts, or_left, or_right, or_cases, cases_eq, both_ways, ne_eqb, not_from_false, true_from_ne_false}
use Rattle.std.proofs.lemmas.List.Elements.{All-push}
use Rattle.std.proofs.lemmas.List.{get_or_append_left}
use Rattle.code_graph.specs.declared.reach.step.Step.{Step}
use Rattle.code_graph.specs.declared.reach.step.Step.TheVariants.{Return, Stop, On, Call}
use Rattle.code_graph.specs.Flow.{step_at, flag, flag_option, reason_by, reason, key_of, CanReturnAt, IsPart, AreSound, AreClosed, Waits, but, count_true, IsReturnPass}
use Rattle.code_graph.specs.Flow.CanReturnAt.{here, jumps, goes, across}

-- what has a reason by sound flags can return
pub reason_sound : (steps : List Step) (flags : List Bool) → AreSound steps flags → (s : ℕ) → s < length steps → reason steps flags s ≡ true → CanReturnAt steps s
reason_sound steps flags sound s lt h = go (step_at steps s) refl h
  where
    by_jump : (jump : Option ℕ) (next : Bool) → step_at steps s ≡ On jump next → flag_option flags jump ≡ true → CanReturnAt steps s
    by_jump None next at f = let bad : ⊥ = cc in absurd bad
    by_jump (Some k) next at f = jumps k next lt at (sound k f)

    by_next : (jump : Option ℕ) (next : Bool) → step_at steps s ≡ On jump next → (next && flag flags (s + 1)) ≡ true → CanReturnAt steps s
    by_next jump true at f = goes jump lt at (sound (s + 1) f)
    by_next jump false at f = let bad : ⊥ = cc in absurd bad

    by_call : (callee : Option ℕ) (next : Bool) → step_at steps s ≡ Call callee next → flag_option flags callee ≡ true → (next && flag flags (s + 1)) ≡ true → CanReturnAt steps s
    by_call None next at f g = let bad : ⊥ = cc in absurd bad
    by_call (Some k) true at f g = across k lt at (sound k f) (sound (s + 1) g)
    by_call (Some k) false at f g = let bad : ⊥ = cc in absurd bad

    go : (x : Step) → step_at steps s ≡ x → reason_by x flags s ≡ true → CanReturnAt steps s
    go Return at r = here lt at
    go Stop at r = let bad : ⊥ = cc in absurd bad
    go (On jump next) at r = ⊎_elim (λ f. by_jump jump next at f) (λ f. by_next jump next at f) (or_cases (flag_option flags jump) (next && flag flags (s + 1)) r)
    go (Call callee next) at r = let p = and_parts (flag_option flags callee) (next && flag flags (s + 1)) r in by_call callee next at p.0 p.1

-- what can return has its flag, where the flags are closed
pub closed_complete : (steps : List Step) (flags : List Bool) → AreClosed steps flags → (s : ℕ) → CanReturnAt steps s → flag flags s ≡ true
closed_complete steps flags closed s (here lt at) = closed s lt (ap (λ x. reason_by x flags s) at)
closed_complete steps flags closed s (jumps k next lt at can) = closed s lt (ap (λ x. reason_by x flags s) at ∙ or_left (flag flags k) (next && flag flags (s + 1)) (closed_complete steps flags closed k can))
closed_complete steps flags closed s (goes jump lt at can) = closed s lt (ap (λ x. reason_by x flags s) at ∙ or_right (flag_option flags jump) (flag flags (s + 1)) (closed_complete steps flags closed (s + 1) can))
closed_complete steps flags closed s (across k lt at can behind) = closed s lt (ap (λ x. reason_by x flags s) at ∙ and_from (flag flags k) (flag flags (s + 1)) (closed_complete steps flags closed k can) (closed_complete steps flags closed (s + 1) behind))

pub flags_exactly : (steps : List Step) (flags : List Bool) → AreSound steps flags → AreClosed steps flags → (s : ℕ) → (flag flags s ≡ true) ↔ CanReturnAt steps s
flags_exactly steps flags sound closed s = (sound s, closed_complete steps flags closed s)

-- ---- one flag more
pub flag_here : (flags : List Bool) (j : ℕ) → j < length flags → flag (set flags j true) j ≡ true
flag_here flags j lt = get_or-set_same flags j true false lt

flag_other : (flags : List Bool) (j s : ℕ) → s ≢ j → flag (set flags j true) s ≡ flag flags s
flag_other flags j s ne = get_or-set_other flags j s true false ne

flag_kept : (flags : List Bool) (j s : ℕ) → j < length flags → flag (set flags j true) s ≡ false → flag flags s ≡ false
flag_kept flags j s lt h = ⊎_elim
    (λ (e : s ≡ j). absurd (both_ways (flag (set flags j true) s) h (ap (flag (set flags j true)) e ∙ flag_here flags j lt)))
    (λ ne. sym (flag_other flags j s ne) ∙ h) (cases_eq s j)

-- a new flag is an old one, or the one
flag_cases : (flags : List Bool) (j s : ℕ) → flag (set flags j true) s ≡ true → (flag flags s ≡ true) ⊎ (s ≡ j)
flag_cases flags j s h = ⊎_elim (λ e. inr e) (λ ne. inl (sym (flag_other flags j s ne) ∙ h)) (cases_eq s j)

pub reason_cases : (steps : List Step) (flags : List Bool) (j s : ℕ) → reason steps (set flags j true) s ≡ true → (reason steps flags s ≡ true) ⊎ IsPart steps s j
reason_cases steps flags j s h = go (step_at steps s) refl h
  where
    by_key : (o : Option ℕ) → flag_option (set flags j true) o ≡ true → (flag_option flags o ≡ true) ⊎ (o ≡ Some j)
    by_key None f = let bad : ⊥ = cc in absurd bad
    by_key (Some k) f = ⊎_elim (λ a. inl a) (λ e. inr (ap Some e)) (flag_cases flags j k f)

    by_next : (next : Bool) → (next && flag (set flags j true) (s + 1)) ≡ true → ((next && flag flags (s + 1)) ≡ true) ⊎ (s + 1 ≡ j)
    by_next false f = let bad : ⊥ = cc in absurd bad
    by_next true f = flag_cases flags j (s + 1) f

    go : (x : Step) → step_at steps s ≡ x → reason_by x (set flags j true) s ≡ true → (reason_by x flags s ≡ true) ⊎ IsPart steps s j
    go Return at r = inl refl
    go Stop at r = let bad : ⊥ = cc in absurd bad
    go (On jump next) at r = ⊎_elim
        (λ f. ⊎_elim (λ a. inl (or_left (flag_option flags jump) (next && flag flags (s + 1)) a)) (λ e. inr (inl (ap key_of at ∙ e))) (by_key jump f))
        (λ f. ⊎_elim (λ a. inl (or_right (flag_option flags jump) (next && flag flags (s + 1)) a)) (λ e. inr (inr e)) (by_next next f))
        (or_cases (flag_option (set flags j true) jump) (next && flag (set flags j true) (s + 1)) r)
    go (Call callee next) at r =
        let p = and_parts (flag_option (set flags j true) callee) (next && flag (set flags j true) (s + 1)) r in
        ⊎_elim
        (λ a. ⊎_elim (λ b. inl (and_from (flag_option flags callee) (next && flag flags (s + 1)) a b)) (λ e. inr (inr e)) (by_next next p.1))
        (λ e. inr (inl (ap key_of at ∙ e))) (by_key callee p.0)

-- ---- who waits
pub waits_add : (steps : List Step) (flags : List Bool) (queue : List ℕ) (done j : ℕ) (left : ℕ → Bool) → j < length flags → done ≤ length queue →
    Waits steps flags queue done left → Waits steps (set flags j true) (queue ++ j ∷ []) done left
waits_add steps flags queue done j left lt room waits s sl none has = ⊎_elim
    (λ old. ⊎_elim
    (λ (w : (p : ℕ) × (done ≤ p) × (p < length queue) × IsPart steps s (slice_index queue p)).
    inl (w.0, w.1, (let n = length-append queue (j ∷ []) in let r : w.0 < length (queue ++ j ∷ []) = omega arith in r), subst (λ k. IsPart steps s k) (sym (get_or_append_left queue (j ∷ []) 0 w.0 w.2)) w.3))
    (λ l. inr l) (waits s sl (flag_kept flags j s lt none) old))
    (λ part. inl (
      length queue,
      room,
      (let n = length-append queue (j ∷ []) in let r : length queue < length (queue ++ j ∷ []) = omega arith in r),
      subst (λ k. IsPart steps s k) (sym (last_of queue j)) part,
    ))
    (reason_cases steps flags j s has)
  where
    last_of : (queue : List ℕ) (j : ℕ) → slice_index (queue ++ j ∷ []) (length queue) ≡ j
    last_of [] j = refl
    last_of (x ∷ xs) j = last_of xs j

-- one of those left, which has its flag or no reason
pub waits_visit : (steps : List Step) (flags : List Bool) (queue : List ℕ) (done s : ℕ) (left : ℕ → Bool) → ((flag flags s ≡ true) ⊎ (reason steps flags s ≡ false)) →
    Waits steps flags queue done left → Waits steps flags queue done (but left s)
waits_visit steps flags queue done s left seen waits x xl none has = ⊎_elim (λ w. inl w)
    (λ l. inr (and_from (left x) (not (x == s)) l (not_from_false (x == s) (ne_eqb x s (λ (e : x ≡ s). ⊎_elim
    (λ f. both_ways (flag flags x) none (ap (flag flags) e ∙ f))
    (λ r. both_ways (reason steps flags x) (ap (reason steps flags) e ∙ r) has) seen)))))
    (waits x xl none has)

pub waits_less : (steps : List Step) (flags : List Bool) (queue : List ℕ) (done : ℕ) (left some : ℕ → Bool) → ((x : ℕ) → x < length steps → left x ≡ true → some x ≡ true) →
    Waits steps flags queue done left → Waits steps flags queue done some
waits_less steps flags queue done left some less waits x xl none has = ⊎_elim (λ w. inl w) (λ l. inr (less x xl l)) (waits x xl none has)

pub waits_closed : (steps : List Step) (flags : List Bool) (queue : List ℕ) (done : ℕ) → length queue ≤ done → Waits steps flags queue done (λ x. false) → AreClosed steps flags
waits_closed steps flags queue done all waits s sl has = true_from_ne_false (flag flags s) (λ none. ⊎_elim
    (λ (w : (p : ℕ) × (done ≤ p) × (p < length queue) × IsPart steps s (slice_index queue p)). (let bad : ⊥ = omega (arith, w.1, w.2) in bad))
    (λ l. (let bad : ⊥ = cc in bad)) (waits s sl none has))

-- ---- how many
pub count_add : (flags : List Bool) (j : ℕ) → j < length flags → flag flags j ≡ false → count_true (set flags j true) ≡ count_true flags + 1
count_add [] j lt none = let bad : ⊥ = omega arith in absurd bad
count_add (true ∷ bs) zero lt none = let bad : ⊥ = cc in absurd bad
count_add (false ∷ bs) zero lt none = omega arith
count_add (b ∷ bs) (suc j) lt none = let ih = count_add bs j (omega arith) none in ap (λ n. (if b then 1 else 0) + n) ih ∙ omega arith

pub count_le : (flags : List Bool) → count_true flags ≤ length flags
count_le [] = omega arith
count_le (true ∷ bs) = let ih = count_le bs in omega arith
count_le (false ∷ bs) = let ih = count_le bs in omega arith

pub sound_add : (steps : List Step) (flags : List Bool) (j : ℕ) → AreSound steps flags → CanReturnAt steps j → AreSound steps (set flags j true)
sound_add steps flags j sound can s h = ⊎_elim (λ f. sound s f) (λ e. subst (λ k. CanReturnAt steps k) (sym e) can) (flag_cases flags j s h)

-- the pass after one flag more
pub pass_add : (steps : List Step) (flags : List Bool) (queue : List ℕ) (j : ℕ) → IsReturnPass steps flags queue → j < length steps → flag flags j ≡ false → reason steps flags j ≡ true → IsReturnPass steps (set flags j true) (queue ++ j ∷ [])
pass_add steps flags queue j pass lt none has = record {
  size = length-set flags j true ∙ pass.size;
  sound = sound_add steps flags j pass.sound (reason_sound steps flags pass.sound j lt has);
  counted = (let n = length-append queue (j ∷ []) in let k = count_add flags j (let r : j < length flags = omega (arith, pass.size) in r) none in let c = pass.counted in omega arith);
  within = All-push (λ k. k < length steps) queue j pass.within lt;
}
