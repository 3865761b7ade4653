-- Steps by number and words by address: where one goes on, so does the other, and a return can come from both or from none.
use Rattle.std.proofs.Common.{◌≡◌, ℕ, ◌+◌, ◌-◌, ◌<◌, Bool, true, false, List, [], ◌∷◌, ◌++◌, length, length-append, Option, Some, None, refl, sym, ap, ◌∙◌, subst, arith, ◌⊎◌, inl, inr, ⊎_elim}
use Rattle.std.proofs.lemmas.Bool.{and_parts}
use Rattle.std.proofs.lemmas.List.{get_or_append_left, get_or-append_right}
use Rattle.std.proofs.lemmas.Option.{slice_get_within}
use Rattle.cost_theory.specs.declared.flow.Flow.{Flow}
use Rattle.cost_theory.specs.declared.flow.Flow.TheVariants as flow
use Rattle.cost_theory.specs.Reached.{LeadsTo}
use Rattle.code_text.specs.Table.{WordTable}
use Rattle.code_graph.specs.declared.reach.step.Step.{Step}
use Rattle.code_graph.specs.declared.reach.step.Step.TheVariants.{Return, Stop, On, Call}
use Rattle.code_graph.specs.Flow.{step_at, flag, flag_option, CanReturnAt}
use Rattle.code_graph.specs.Flow.CanReturnAt.{here as here_at, jumps as jumps_at, goes as goes_at, across as across_at}
use Rattle.code_graph.specs.Marks.{jumped_word, called_word, goes_on_after}
use Rattle.code_graph.specs.Reach.{WordStandsAt}
use Rattle.code_graph.specs.Steps.{IsWordTableOf, IsWordNumber, HasNextWord, IsStepOf, IsStepAt, AreSteps}
use Rattle.code_graph.proofs.Places.{order, one_place, next_place}
use Rattle.code_graph.proofs.ReturnLaws.{CanReturn, never_bad}
use Rattle.code_graph.proofs.ReturnLaws.CanReturn.{here, onward, across}

module _ (words : WordTable) (k v : ℕ) where
  -- ---- from a step to its word
  return_is : (w : Flow) (s : Step) → IsStepOf words k v w s → s ≡ Return → w ≡ flow.Return
  return_is (flow.Branch to) s (o, b, e, at, f) h = let bad : On o b ≡ Return = cc in let r : ⊥ = cc in absurd r
  return_is (flow.Jump to) s (o, e, at) h = let bad : On o false ≡ Return = cc in let r : ⊥ = cc in absurd r
  return_is (flow.Call to) s (o, b, e, at, f) h = let bad : Call o b ≡ Return = cc in let r : ⊥ = cc in absurd r
  return_is flow.Return s e h = refl
  return_is flow.Exit s e h = let bad : Stop ≡ Return = cc in let r : ⊥ = cc in absurd r
  return_is flow.MayExit s (b, e, f) h = let bad : On None b ≡ Return = cc in let r : ⊥ = cc in absurd r
  return_is flow.Breakpoint s e h = let bad : Stop ≡ Return = cc in let r : ⊥ = cc in absurd r
  return_is flow.Next s (b, e, f) h = let bad : On None b ≡ Return = cc in let r : ⊥ = cc in absurd r
  return_is flow.Refused s e h = let bad : Stop ≡ Return = cc in let r : ⊥ = cc in absurd r

  pub jump_leads : (w : Flow) (s : Step) (j : ℕ) → IsStepOf words k v w s → jumped_word s ≡ Some j → (u : ℕ) × WordStandsAt words j u × LeadsTo w v u
  jump_leads (flow.Branch to) s j (o, b, e, at, f) h = (to, (at j).0 (sym (ap jumped_word e) ∙ h), inl refl)
  jump_leads (flow.Jump to) s j (o, e, at) h = (to, (at j).0 (sym (ap jumped_word e) ∙ h), refl)
  jump_leads (flow.Call to) s j (o, b, e, at, f) h = let bad : None ≡ Some j = sym (ap jumped_word e) ∙ h in let r : ⊥ = cc in absurd r
  jump_leads flow.Return s j e h = let bad : None ≡ Some j = sym (ap jumped_word e) ∙ h in let r : ⊥ = cc in absurd r
  jump_leads flow.Exit s j e h = let bad : None ≡ Some j = sym (ap jumped_word e) ∙ h in let r : ⊥ = cc in absurd r
  jump_leads flow.MayExit s j (b, e, f) h = let bad : None ≡ Some j = sym (ap jumped_word e) ∙ h in let r : ⊥ = cc in absurd r
  jump_leads flow.Breakpoint s j e h = let bad : None ≡ Some j = sym (ap jumped_word e) ∙ h in let r : ⊥ = cc in absurd r
  jump_leads flow.Next s j (b, e, f) h = let bad : None ≡ Some j = sym (ap jumped_word e) ∙ h in let r : ⊥ = cc in absurd r
  jump_leads flow.Refused s j e h = let bad : None ≡ Some j = sym (ap jumped_word e) ∙ h in let r : ⊥ = cc in absurd r

  pub callee_is : (w : Flow) (s : Step) (c : ℕ) → IsStepOf words k v w s → called_word s ≡ Some c → (h : ℕ) × WordStandsAt words c h × (w ≡ flow.Call h)
  callee_is (flow.Branch to) s c (o, b, e, at, f) h = let bad : None ≡ Some c = sym (ap called_word e) ∙ h in let r : ⊥ = cc in absurd r
  callee_is (flow.Jump to) s c (o, e, at) h = let bad : None ≡ Some c = sym (ap called_word e) ∙ h in let r : ⊥ = cc in absurd r
  callee_is (flow.Call to) s c (o, b, e, at, f) h = (to, (at c).0 (sym (ap called_word e) ∙ h), refl)
  callee_is flow.Return s c e h = let bad : None ≡ Some c = sym (ap called_word e) ∙ h in let r : ⊥ = cc in absurd r
  callee_is flow.Exit s c e h = let bad : None ≡ Some c = sym (ap called_word e) ∙ h in let r : ⊥ = cc in absurd r
  callee_is flow.MayExit s c (b, e, f) h = let bad : None ≡ Some c = sym (ap called_word e) ∙ h in let r : ⊥ = cc in absurd r
  callee_is flow.Breakpoint s c e h = let bad : None ≡ Some c = sym (ap called_word e) ∙ h in let r : ⊥ = cc in absurd r
  callee_is flow.Next s c (b, e, f) h = let bad : None ≡ Some c = sym (ap called_word e) ∙ h in let r : ⊥ = cc in absurd r
  callee_is flow.Refused s c e h = let bad : None ≡ Some c = sym (ap called_word e) ∙ h in let r : ⊥ = cc in absurd r

  -- the word is a call of a word with a flag
  abbrev pub Comes : List Bool → Flow → Type 0
  Comes returns w = (h : ℕ) × (c : ℕ) × (w ≡ flow.Call h) × WordStandsAt words c h × (flag returns c ≡ true)

  pub next_leads : (returns : List Bool) (w : Flow) (s : Step) → IsStepOf words k v w s → goes_on_after s returns ≡ true → WordStandsAt words (k + 1) (v + 4) × (LeadsTo w v (v + 4) ⊎ Comes returns w)
  next_leads returns (flow.Branch to) s (o, b, e, at, f) h = (f.0 (sym (ap (λ x. goes_on_after x returns) e) ∙ h), inl (inr refl))
  next_leads returns (flow.Jump to) s (o, e, at) h = let bad : false ≡ true = sym (ap (λ x. goes_on_after x returns) e) ∙ h in let r : ⊥ = cc in absurd r
  next_leads returns (flow.Call to) s (o, b, e, at, f) h =
      let p = and_parts b (flag_option returns o) (sym (ap (λ x. goes_on_after x returns) e) ∙ h) in
      (f.0 p.0, inr (go o at p.1))
    where
      go : (o : Option ℕ) → IsWordNumber words to o → flag_option returns o ≡ true → Comes returns (flow.Call to)
      go None at q = let r : ⊥ = cc in absurd r
      go (Some c) at q = (to, c, refl, (at c).0 refl, q)
  next_leads returns flow.Return s e h = let bad : false ≡ true = sym (ap (λ x. goes_on_after x returns) e) ∙ h in let r : ⊥ = cc in absurd r
  next_leads returns flow.Exit s e h = let bad : false ≡ true = sym (ap (λ x. goes_on_after x returns) e) ∙ h in let r : ⊥ = cc in absurd r
  next_leads returns flow.MayExit s (b, e, f) h = (f.0 (sym (ap (λ x. goes_on_after x returns) e) ∙ h), inl refl)
  next_leads returns flow.Breakpoint s e h = let bad : false ≡ true = sym (ap (λ x. goes_on_after x returns) e) ∙ h in let r : ⊥ = cc in absurd r
  next_leads returns flow.Next s (b, e, f) h = (f.0 (sym (ap (λ x. goes_on_after x returns) e) ∙ h), inl refl)
  next_leads returns flow.Refused s e h = let bad : false ≡ true = sym (ap (λ x. goes_on_after x returns) e) ∙ h in let r : ⊥ = cc in absurd r

  -- a call with a word right behind it
  across_is : (w : Flow) (s : Step) (c : ℕ) → IsStepOf words k v w s → s ≡ Call (Some c) true → (h : ℕ) × WordStandsAt words c h × (w ≡ flow.Call h) × WordStandsAt words (k + 1) (v + 4)
  across_is w s c is h =
      let q = callee_is w s c is (ap called_word h) in
      let call : IsStepOf words k v (flow.Call q.0) s = subst (λ x. IsStepOf words k v x s) q.2 is in
      (q.0, q.1, q.2, go q.0 call)
    where
      go : (to : ℕ) → IsStepOf words k v (flow.Call to) s → WordStandsAt words (k + 1) (v + 4)
      go to (o, b, e, at, f) = let same : Call o b ≡ Call (Some c) true = sym e ∙ h in let yes : b ≡ true = cc in f.0 yes

  -- ---- from a word to its step
  pub step_leads : (w : Flow) (s : Step) (j u : ℕ) → (WordStandsAt words j (v + 4) → j ≡ k + 1) → IsStepOf words k v w s → LeadsTo w v u → WordStandsAt words j u →
      ((b : Bool) × (s ≡ On (Some j) b)) ⊎ ((j ≡ k + 1) × ((o : Option ℕ) × (s ≡ On o true)))
  step_leads (flow.Branch to) s j u next (o, b, e, at, f) (inl same) there = inl (b, e ∙ ap (λ x. On x b) ((at j).1 (subst (λ x. WordStandsAt words j x) same there)))
  step_leads (flow.Branch to) s j u next (o, b, e, at, f) (inr same) there =
      let four = subst (λ x. WordStandsAt words j x) same there in
      let place = next four in
      inr (place, (o, e ∙ ap (λ x. On o x) (f.1 (subst (λ i. WordStandsAt words i (v + 4)) place four))))
  step_leads (flow.Jump to) s j u next (o, e, at) same there = inl (false, e ∙ ap (λ x. On x false) ((at j).1 (subst (λ x. WordStandsAt words j x) same there)))
  step_leads (flow.Call to) s j u next is leads there = absurd leads
  step_leads flow.Return s j u next is leads there = absurd leads
  step_leads flow.Exit s j u next is leads there = absurd leads
  step_leads flow.MayExit s j u next (b, e, f) same there =
      let four = subst (λ x. WordStandsAt words j x) same there in
      let place = next four in
      inr (place, (None, e ∙ ap (λ x. On None x) (f.1 (subst (λ i. WordStandsAt words i (v + 4)) place four))))
  step_leads flow.Breakpoint s j u next is leads there = absurd leads
  step_leads flow.Next s j u next (b, e, f) same there =
      let four = subst (λ x. WordStandsAt words j x) same there in
      let place = next four in
      inr (place, (None, e ∙ ap (λ x. On None x) (f.1 (subst (λ i. WordStandsAt words i (v + 4)) place four))))
  step_leads flow.Refused s j u next is leads there = absurd leads

  pub step_calls : (w : Flow) (s : Step) (h c : ℕ) → IsStepOf words k v w s → w ≡ flow.Call h → WordStandsAt words c h → (b : Bool) × (s ≡ Call (Some c) b) × HasNextWord words k v b
  step_calls w s h c is calls there = go (subst (λ x. IsStepOf words k v x s) calls is)
    where
      go : IsStepOf words k v (flow.Call h) s → (b : Bool) × (s ≡ Call (Some c) b) × HasNextWord words k v b
      go (o, b, e, at, f) = (b, e ∙ ap (λ x. Call x b) ((at c).1 there), f)

module _ (word : ℕ → Flow) (words : WordTable) (steps : List Step) (table : IsWordTableOf word words) (are : AreSteps words steps) where
  pub within : (k v : ℕ) → WordStandsAt words k v → k < length steps
  within k v at = let lt = slice_get_within words.addresses k v at in let size = are.size in omega (arith, lt, size)

  pub same_word : (i j v : ℕ) → WordStandsAt words i v → WordStandsAt words j v → i ≡ j
  same_word i j v a b = one_place words.addresses table.rising i j v a b

  pub next_word : (k j v : ℕ) → WordStandsAt words k v → WordStandsAt words j (v + 4) → j ≡ k + 1
  next_word k j v a b = next_place words.addresses table.rising table.aligned k j v a b

  pub step_of : (k v : ℕ) → WordStandsAt words k v → IsStepOf words k v (word v) (step_at steps k)
  step_of k v at = are.each k (slice_get_within words.addresses k v at) v (word v) at (table.kinds k v at)

  -- a word at an address that is not refused
  pub number_of : (v : ℕ) → (word v ≡ flow.Refused → ⊥) → (k : ℕ) × WordStandsAt words k v
  number_of v good = ⊎_elim (λ bad. absurd (good bad)) (λ at. at) (table.whole v)

  pub can_return : (k : ℕ) → CanReturnAt steps k → (v : ℕ) → WordStandsAt words k v → CanReturn word v
  can_return k (here_at lt e) v at = here (return_is words k v (word v) (step_at steps k) (step_of k v at) e)
  can_return k (jumps_at j next lt e can) v at =
      let q = jump_leads words k v (word v) (step_at steps k) j (step_of k v at) (ap jumped_word e) in
      onward q.0 q.2 (can_return j can q.0 q.1)
  can_return k (goes_at jump lt e can) v at =
      let q = next_leads words k v [] (word v) (step_at steps k) (step_of k v at) (ap (λ x. goes_on_after x []) e) in
      ⊎_elim (λ leads. onward (v + 4) leads (can_return (k + 1) can (v + 4) q.0)) (λ comes. (let bad : false ≡ true = comes.4 in let r : ⊥ = cc in absurd r)) q.1
  can_return k (across_at c lt e can behind) v at =
      let q = across_is words k v (word v) (step_at steps k) c (step_of k v at) e in
      across q.0 q.2 (can_return c can q.0 q.1) (can_return (k + 1) behind (v + 4) q.3)

  pub can_return_at : (v : ℕ) → CanReturn word v → (k : ℕ) → WordStandsAt words k v → CanReturnAt steps k
  can_return_at v (here e) k at =
      let is : IsStepOf words k v flow.Return (step_at steps k) = subst (λ w. IsStepOf words k v w (step_at steps k)) e (step_of k v at) in
      here_at (within k v at) is
  can_return_at v (onward u leads can) k at =
      let j = number_of u (never_bad word u can) in
      let more = can_return_at u can j.0 j.1 in
      ⊎_elim (λ a. jumps_at j.0 a.0 (within k v at) a.1 more)
      (λ b. goes_at b.1.0 (within k v at) b.1.1 (subst (λ i. CanReturnAt steps i) b.0 more))
      (step_leads words k v (word v) (step_at steps k) j.0 u (next_word k j.0 v at) (step_of k v at) leads j.1)
  can_return_at v (across h calls can behind) k at =
      let c = number_of h (never_bad word h can) in
      let j = number_of (v + 4) (never_bad word (v + 4) behind) in
      let place = next_word k j.0 v at j.1 in
      let s = step_calls words k v (word v) (step_at steps k) h c.0 (step_of k v at) calls c.1 in
      let yes = s.2.1 (subst (λ i. WordStandsAt words i (v + 4)) place j.1) in
      across_at c.0 (within k v at) (s.1 ∙ ap (λ b. Call (Some c.0) b) yes) (can_return_at h can c.0 c.1) (subst (λ i. CanReturnAt steps i) place (can_return_at (v + 4) behind j.0 j.1))

-- ---- the steps one by one
pub next_step : (words : WordTable) (steps new : List Step) (k : ℕ) (s : Step) → new ≡ steps ++ s ∷ [] → length steps ≡ k → ((j : ℕ) → j < k → IsStepAt words j (step_at steps j)) → IsStepAt words k s →
    record { size : length new ≡ k + 1; each : (j : ℕ) → j < k + 1 → IsStepAt words j (step_at new j) }
next_step words steps new k s e size each is = record {
  size = ap length e ∙ length-append steps (s ∷ []) ∙ ap (λ n. n + 1) size;
  each = λ j lt. ⊎_elim
      (λ (low : j < k). subst (λ x. IsStepAt words j x) (sym (ap (λ xs. step_at xs j) e ∙ get_or_append_left steps (s ∷ []) Stop j (omega (arith, low, size)))) (each j low))
      (λ r. ⊎_elim
      (λ (same : j ≡ k). subst (λ i. IsStepAt words i (step_at new i)) (sym same) (subst (λ x. IsStepAt words k x) (sym (ap (λ xs. step_at xs k) e ∙ get_or-append_right steps (s ∷ []) k k Stop size (omega arith) ∙ ap (λ i. step_at (s ∷ []) i) (none_more k))) is))
      (λ (high : k < j). absurd (omega (arith, lt, high))) r) (order j k);
}
  where
    none_more : (n : ℕ) → n - n ≡ 0
    none_more n = omega arith
