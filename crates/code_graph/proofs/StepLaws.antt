-- Flags, numbers and ranges, an element further.
use Rattle.std.proofs.Common.{◌≡◌, ℕ, ◌+◌, ◌<◌, Bool, true, false, List, [], ◌∷◌, ◌++◌, length, get_or, Option, Some, None, sym, ap, ◌∙◌, subst, arith, ◌⊎◌, inl, inr, ⊎_elim}
use Rattle.std.specs.Prelude.{slice_get, ◌↔◌}
use Rattle.std.proofs.lemmas.Option.{slice_get_within, slice_get-get_or, get_or_from_slice_get}
use Rattle.scale_base.specs.declared.edges.Edge.{Edge}
use Rattle.cost_theory.specs.Reached.{edge_at, edge_to}
use Rattle.cost_theory.proofs.Laws.{below_suc}
use Rattle.code_graph.specs.Assembling.{AreEnds, AreHeads, AreUp, IsEntryNode, LeadsApart}
use Rattle.code_graph.proofs.Lists.{get_left, get_end, get_pushed, length_pushed}

-- ---- flags that are up

pub flag_here : (flags : List Bool) (k : ℕ) (d : Bool) → k < length flags → get_or flags k d ≡ true → slice_get flags k ≡ Some true
flag_here flags k d lt is = slice_get-get_or flags k d lt ∙ ap Some is

pub flag_down : (flags : List Bool) (k : ℕ) (d : Bool) → get_or flags k d ≡ false → slice_get flags k ≡ Some true → ⊥
flag_down flags k d is up = let same : true ≡ false = sym (get_or_from_slice_get flags k true d up) ∙ is in let bad : ⊥ = cc in bad

pub up_same : (n : ℕ) (flags : List Bool) (numbers : List ℕ) → (slice_get flags n ≡ Some true → ⊥) → AreUp n flags numbers → AreUp (n + 1) flags numbers
up_same n flags numbers down are = record {
  few = (let few = are.few in omega arith);
  up = λ b k at. (let u = are.up b k at in let lt : k < n = u.0 in (omega arith, u.1));
  whole = λ k kn is. ⊎_elim (λ (lt : k < n). are.whole k lt is) (λ (e : k ≡ n). absurd (down (subst (λ i. slice_get flags i ≡ Some true) e is))) (below_suc k n (omega arith));
  ascending = are.ascending;
}

pub up_more : (n : ℕ) (flags : List Bool) (numbers more : List ℕ) → more ≡ numbers ++ n ∷ [] → slice_get flags n ≡ Some true → AreUp n flags numbers → AreUp (n + 1) flags more
up_more n flags numbers more pushed here are = subst (AreUp (n + 1) flags) (sym pushed) (record {
  few = (let few = are.few in let long = length_pushed numbers n in omega arith);
  up = λ b k at. ⊎_elim
      (λ (old : slice_get numbers b ≡ Some k). let u = are.up b k old in let lt : k < n = u.0 in (omega arith, u.1))
      (λ (new : (b ≡ length numbers) × (n ≡ k)). let e : n ≡ k = new.1 in (omega arith, subst (λ i. slice_get flags i ≡ Some true) e here))
      (get_pushed numbers n b k at);
  whole = λ k kn is. ⊎_elim
      (λ (lt : k < n). let w = are.whole k lt is in (w.0, get_left numbers (n ∷ []) w.0 k w.1))
      (λ (e : k ≡ n). (length numbers, get_end numbers n ∙ ap Some (sym e)))
      (below_suc k n (omega arith));
  ascending = λ b c j k bc at_b at_c. ⊎_elim
      (λ (old_c : slice_get numbers c ≡ Some k). ⊎_elim
      (λ (old_b : slice_get numbers b ≡ Some j). are.ascending b c j k bc old_b old_c)
      (λ (new_b : (b ≡ length numbers) × (n ≡ j)). let e = new_b.0 in let lt = slice_get_within numbers c k old_c in let bad : ⊥ = omega arith in absurd bad)
      (get_pushed numbers n b j at_b))
      (λ (new_c : (c ≡ length numbers) × (n ≡ k)). ⊎_elim
      (λ (old_b : slice_get numbers b ≡ Some j). let lt : j < n = (are.up b j old_b).0 in let e : n ≡ k = new_c.1 in omega arith)
      (λ (new_b : (b ≡ length numbers) × (n ≡ j)). let e = new_b.0 in let f = new_c.0 in let bad : ⊥ = omega arith in absurd bad)
      (get_pushed numbers n b j at_b))
      (get_pushed numbers n c k at_c);
})

-- ---- ends

pub ends_more : (n : ℕ) (nodes : List ℕ) (edges : List Edge) (sources more_sources : List ℕ) (targets more_targets : List (Option ℕ)) (x : Edge) (s : ℕ) (t : Option ℕ) → slice_get edges n ≡ Some x →
    more_sources ≡ sources ++ s ∷ [] → more_targets ≡ targets ++ t ∷ [] → slice_get nodes s ≡ Some x.at →
    ((k : ℕ) → t ≡ Some k → edge_to (Some x) ≡ slice_get nodes k) → ((k : ℕ) → t ≡ Some k → k < length nodes) → (t ≡ None → edge_to (Some x) ≡ None) →
    AreEnds n nodes edges sources targets → AreEnds (n + 1) nodes edges more_sources more_targets
ends_more n nodes edges sources more_sources targets more_targets x s t at pushed_s pushed_t source some within none are =
    subst (λ ss. AreEnds (n + 1) nodes edges ss more_targets) (sym pushed_s) (subst (AreEnds (n + 1) nodes edges (sources ++ s ∷ [])) (sym pushed_t) (record {
      sources_size = (let z = are.sources_size in let long = length_pushed sources s in omega arith);
      targets_size = (let z = are.targets_size in let long = length_pushed targets t in omega arith);
      source = λ e k here. ⊎_elim
          (λ (old : slice_get sources e ≡ Some k). are.source e k old)
          (λ (new : (e ≡ length sources) × (s ≡ k)). ap (slice_get nodes) (sym new.1) ∙ source ∙ ap (λ o. Some (edge_at o)) (sym (edge_here e (new.0 ∙ are.sources_size))))
          (get_pushed sources s e k here);
      target = λ e k here. ⊎_elim
          (λ (old : slice_get targets e ≡ Some (Some k)). are.target e k old)
          (λ (new : (e ≡ length targets) × (t ≡ Some k)). (ap edge_to (edge_here e (new.0 ∙ are.targets_size)) ∙ some k new.1, within k new.1))
          (get_pushed targets t e (Some k) here);
      end = λ e here. ⊎_elim
          (λ (old : slice_get targets e ≡ Some None). are.end e old)
          (λ (new : (e ≡ length targets) × (t ≡ None)). ap edge_to (edge_here e (new.0 ∙ are.targets_size)) ∙ none new.1)
          (get_pushed targets t e None here);
    }))
  where
    edge_here : (e : ℕ) → e ≡ n → slice_get edges e ≡ Some x
    edge_here e same = ap (slice_get edges) same ∙ at

-- ---- nodes that begin blocks

module _ (nodes owners functions : List ℕ) (edges : List Edge) (firsts sources : List ℕ) (targets : List (Option ℕ)) where
  pub heads_more : (n : ℕ) (heads more : List Bool) (o : Option ℕ) → length more ≡ length heads →
      ((k : ℕ) → (slice_get more k ≡ Some true) ↔ ((slice_get heads k ≡ Some true) ⊎ (o ≡ Some k))) →
      ((k : ℕ) → (o ≡ Some k) ↔ LeadsApart edges firsts sources targets n k) →
      AreHeads n nodes owners functions edges firsts sources targets heads → AreHeads (n + 1) nodes owners functions edges firsts sources targets more
  heads_more n heads more o size up led are = record {
    size = (let s = are.size in omega arith);
    entry = λ k kn is. (up k).1 (inl (are.entry k kn is));
    apart = λ e k en is. ⊎_elim
        (λ (lt : e < n). (up k).1 (inl (are.apart e k lt is)))
        (λ (same : e ≡ n). (up k).1 (inr ((led k).1 (subst (λ i. LeadsApart edges firsts sources targets i k) same is))))
        (below_suc e n (omega arith));
    only = λ k is. ⊎_elim
        (λ (old : slice_get heads k ≡ Some true). ⊎_elim
        (λ (entry : IsEntryNode nodes owners functions k). inl entry)
        (λ (by : (e : ℕ) × (e < n) × LeadsApart edges firsts sources targets e k). let lt : by.0 < n = by.1 in inr (by.0, (let r : by.0 < n + 1 = omega arith in r), by.2))
        (are.only k old))
        (λ (new : o ≡ Some k). inr (n, (let r : n < n + 1 = omega arith in r), (led k).0 new))
        ((up k).0 is);
  }
