-- The code of three words is that of a program with a loop: a branch to itself, an `addi` behind it, and an exit.
use Rattle.std.proofs.Common.{◌≡◌, ◌≢◌, ℕ, zero, suc, ◌+◌, ◌<◌, ◌⊎◌, inl, inr, ⊎_elim, Bool, true, false, nat_eq, [], ◌∷◌, slice_get, Some, None, refl, sym, ap, subst, ◌∙◌, arith, eqb-true}
use Rattle.scale_base.specs.declared.edges.EdgeKind.TheVariants.{Taken, Untaken, Next, End}
use Rattle.cost_theory.specs.declared.flow.Flow.{Flow}
use Rattle.cost_theory.specs.declared.flow.Flow.TheVariants as flow
use Rattle.cost_theory.specs.Graph.{Graph, Loops, IsPlain}
use Rattle.cost_theory.specs.Accepted.{IsInBody, AreAccepted, HasNoRecursion, IsCallOrder, IsPlainOrder}
use Rattle.cost_theory.specs.Reached.{if_true, LeadsTo, Reached, DoesReturn, Code, owner_of, returns_of, edge_at, edge_to, callee_of, edge_callee, graph_of, IsCodeOf, HasNoBadWord}
use Rattle.cost_theory.specs.Reached.Reached.{main, onward, back, called}
use Rattle.cost_theory.proofs.Laws.{some_same, order-no_cycle}

abbrev pub small_code : Code
small_code = record {
  nodes = 0x10000 ∷ 0x10004 ∷ 0x10008 ∷ [];
  edges = record { at = 0x10000; kind = Taken; to = 0x10000 } ∷ record { at = 0x10000; kind = Untaken; to = 0x10004 }
      ∷ record { at = 0x10004; kind = Next; to = 0x10008 } ∷ record { at = 0x10008; kind = End; to = 0x10008 } ∷ [];
  functions = 0x10000 ∷ [];
  owners = 0 ∷ 0 ∷ 0 ∷ [];
  returning = false ∷ [];
}

abbrev pub small_extent : ℕ → ℕ → Bool
small_extent k v = nat_eq v 0x10000

abbrev pub small_loop : Loops
small_loop = record { loops = 1; header = λ k. 0x10000; bound = λ k. 3; least_trips = λ k. 0; inside = small_extent }

-- one of the three addresses
abbrev IsSmall : ℕ → Type 0
IsSmall v = (v ≡ 0x10000) ⊎ ((v ≡ 0x10004) ⊎ (v ≡ 0x10008))

-- what holds at each of the three
each : (P : ℕ → Type 0) → P 0x10000 → P 0x10004 → P 0x10008 → (v : ℕ) → IsSmall v → P v
each P a b c v (inl e) = subst P (sym e) a
each P a b c v (inr (inl e)) = subst P (sym e) b
each P a b c v (inr (inr e)) = subst P (sym e) c

no_number : (x : ℕ) → None ≡ Some x → ⊥
no_number x h = cc

module _ (w : ℕ → Flow) (branch : w 0x10000 ≡ flow.Branch 0x10000) (addi : w 0x10004 ≡ flow.Next) (exit : w 0x10008 ≡ flow.Exit) where
  -- the words of the three addresses
  each_word : (P : Flow → Type 0) → P (flow.Branch 0x10000) → P flow.Next → P flow.Exit → (v : ℕ) → IsSmall v → P (w v)
  each_word P a b c = each (λ v. P (w v)) (subst P (sym branch) a) (subst P (sym addi) b) (subst P (sym exit) c)

  no_call : (v h : ℕ) → IsSmall v → w v ≡ flow.Call h → ⊥
  no_call v h is = each_word (λ x. x ≡ flow.Call h → ⊥) (λ e. cc) (λ e. cc) (λ e. cc) v is

  no_return : (v : ℕ) → IsSmall v → w v ≡ flow.Return → ⊥
  no_return v is = each_word (λ x. x ≡ flow.Return → ⊥) (λ e. cc) (λ e. cc) (λ e. cc) v is

  leads_on : (v u : ℕ) → IsSmall v → LeadsTo (w v) v u → IsSmall u
  leads_on v u is = each (λ v. LeadsTo (w v) v u → IsSmall u)
      (λ to. ⊎_elim (λ (e : u ≡ 0x10000). inl e) (λ (e : u ≡ 0x10004). inr (inl e)) (subst (λ x. LeadsTo x 0x10000 u) branch to))
      (λ to. inr (inr (subst (λ x. LeadsTo x 0x10004 u) addi to)))
      (λ to. absurd (subst (λ x. LeadsTo x 0x10008 u) exit to)) v is

  only_small : (f v : ℕ) → Reached w 0x10000 f v → (f ≡ 0x10000) × IsSmall v
  only_small f v main = (refl, inl refl)
  only_small f v (onward u r to) = let ih = only_small f _ r in (ih.0, leads_on _ v ih.1 to)
  only_small f v (back h r at call within returns) = let ih = only_small f _ at in absurd (no_call _ h ih.1 call)
  only_small f v (called h at call) = let ih = only_small _ _ at in absurd (no_call _ h ih.1 call)

  first_reached : Reached w 0x10000 0x10000 0x10000
  first_reached = main

  second_reached : Reached w 0x10000 0x10000 0x10004
  second_reached = onward 0x10004 first_reached (subst (λ x. LeadsTo x 0x10000 0x10004) (sym branch) (inr refl))

  third_reached : Reached w 0x10000 0x10000 0x10008
  third_reached = onward 0x10008 second_reached (subst (λ x. LeadsTo x 0x10004 0x10008) (sym addi) refl)

  small_reached : (v : ℕ) → IsSmall v → Reached w 0x10000 0x10000 v
  small_reached = each (λ v. Reached w 0x10000 0x10000 v) first_reached second_reached third_reached

  -- ---- the lists are those of the reached code

  node_is : (i v : ℕ) → slice_get small_code.nodes i ≡ Some v → IsSmall v
  node_is zero v h = inl (sym (some_same 0x10000 v h))
  node_is (suc zero) v h = inr (inl (sym (some_same 0x10004 v h)))
  node_is (suc (suc zero)) v h = inr (inr (sym (some_same 0x10008 v h)))
  node_is (suc (suc (suc i))) v h = absurd (no_number v h)

  node_at : (v : ℕ) → IsSmall v → (i : ℕ) × (slice_get small_code.nodes i ≡ Some v)
  node_at = each (λ v. (i : ℕ) × (slice_get small_code.nodes i ≡ Some v)) (0, refl) (1, refl) (2, refl)

  rising : (i j v u : ℕ) → i < j → slice_get small_code.nodes i ≡ Some v → slice_get small_code.nodes j ≡ Some u → v < u
  rising i zero v u lt a b = let bad : ⊥ = omega (arith, lt) in absurd bad
  rising zero (suc zero) v u lt a b = let p = some_same 0x10000 v a in let q = some_same 0x10004 u b in omega (arith, p, q)
  rising zero (suc (suc zero)) v u lt a b = let p = some_same 0x10000 v a in let q = some_same 0x10008 u b in omega (arith, p, q)
  rising (suc i) (suc zero) v u lt a b = let bad : ⊥ = omega (arith, lt) in absurd bad
  rising (suc zero) (suc (suc zero)) v u lt a b = let p = some_same 0x10004 v a in let q = some_same 0x10008 u b in omega (arith, p, q)
  rising (suc (suc i)) (suc (suc zero)) v u lt a b = let bad : ⊥ = omega (arith, lt) in absurd bad
  rising i (suc (suc (suc j))) v u lt a b = absurd (no_number u b)

  none_returns : (h : ℕ) → returns_of small_code h ≡ false
  none_returns h = by_test (nat_eq 0x10000 h)
    where
      by_test : (b : Bool) → if_true b false false ≡ false
      by_test true = refl
      by_test false = refl

  function_is : (i f : ℕ) → slice_get small_code.functions i ≡ Some f → (i ≡ 0) × (f ≡ 0x10000)
  function_is zero f h = (refl, sym (some_same 0x10000 f h))
  function_is (suc i) f h = absurd (no_number f h)

  pub small_lists : IsCodeOf w 0x10000 small_code
  small_lists = record {
    nodes = λ v. (λ (h : (i : ℕ) × (slice_get small_code.nodes i ≡ Some v)). (0x10000, small_reached v (node_is h.0 v h.1)), λ (h : (f : ℕ) × Reached w 0x10000 f v). node_at v (only_small h.0 v h.1).1);
    ascending = rising;
    returns = λ h. (λ e. (let bad : ⊥ = differ (sym (none_returns h) ∙ e) in absurd bad), λ (d : DoesReturn w 0x10000 h). absurd (no_return d.0 (only_small h d.0 d.1).1 d.2));
    edges = rw branch (rw addi (rw exit refl));
    functions = λ f. (λ (h : (i : ℕ) × (slice_get small_code.functions i ≡ Some f)). subst (λ g. Reached w 0x10000 g g) (sym (function_is h.0 f h.1).1) first_reached, λ r. (0, ap Some (sym (only_small f f r).0)));
    first_function = refl;
    once = λ i j f a b. (function_is i f a).0 ∙ sym (function_is j f b).0;
    owner = λ f v r. let s = only_small f v r in subst (λ g. slice_get small_code.functions (owner_of small_code v) ≡ Some g) (sym s.0) (each (λ v. slice_get small_code.functions (owner_of small_code v) ≡ Some 0x10000) refl refl refl v s.1);
  }
    where
      differ : false ≡ true → ⊥
      differ h = cc

  pub small_words : HasNoBadWord w 0x10000
  small_words f v r = each_word (λ x. x ≢ flow.Refused) (λ e. cc) (λ e. cc) (λ e. cc) v (only_small f v r).1

  -- ---- the graph

  abbrev small_graph : Graph
  small_graph = graph_of w small_code

  pub no_callee : (e f : ℕ) → e < 4 → edge_callee w small_code.functions (slice_get small_code.edges e) ≡ Some f → ⊥
  no_callee zero f lt h = no_number f (ap (callee_of small_code.functions) (sym branch) ∙ h)
  no_callee (suc zero) f lt h = no_number f (ap (callee_of small_code.functions) (sym branch) ∙ h)
  no_callee (suc (suc zero)) f lt h = no_number f (ap (callee_of small_code.functions) (sym addi) ∙ h)
  no_callee (suc (suc (suc zero))) f lt h = no_number f (ap (callee_of small_code.functions) (sym exit) ∙ h)
  no_callee (suc (suc (suc (suc e)))) f lt h = let bad : ⊥ = omega (arith, lt) in bad

  pub small_calls : HasNoRecursion small_graph
  small_calls f next fs calls = no_callee calls.0.2.0 next calls.0.2.1 calls.0.2.3

  pub small_call_order : IsCallOrder small_graph (λ f. 0)
  small_call_order = record { below = λ f fl. omega arith; falls = λ u f call. absurd (no_callee call.0 f call.1 call.3) }

  source_low : (e : ℕ) → e < 4 → edge_at (slice_get small_code.edges e) < 0x1000C
  source_low zero lt = omega arith
  source_low (suc zero) lt = omega arith
  source_low (suc (suc zero)) lt = omega arith
  source_low (suc (suc (suc zero))) lt = omega arith
  source_low (suc (suc (suc (suc e)))) lt = let bad : ⊥ = omega (arith, lt) in absurd bad

  source_rises : (e v : ℕ) → e < 4 → IsPlain small_graph small_loop e → edge_to (slice_get small_code.edges e) ≡ Some v → edge_at (slice_get small_code.edges e) < v
  source_rises zero v lt plain to = let back : true ≡ false = plain 0 (omega arith) in let bad : ⊥ = cc in absurd bad
  source_rises (suc zero) v lt plain to = let is = some_same 0x10004 v to in omega (arith, is)
  source_rises (suc (suc zero)) v lt plain to = let is = some_same 0x10008 v to in omega (arith, is)
  source_rises (suc (suc (suc zero))) v lt plain to = absurd (no_number v to)
  source_rises (suc (suc (suc (suc e)))) v lt plain to = let bad : ⊥ = omega (arith, lt) in absurd bad

  pub small_order : IsPlainOrder small_graph small_loop 0x1000C (λ v. v)
  small_order = record { below = λ v node. subst (λ u. u < 0x1000C) node.2 (source_low node.0 node.1); rises = source_rises }

  in_body : (v : ℕ) → nat_eq v 0x10000 ≡ true → IsInBody small_graph 0x10000 (λ u. nat_eq u 0x10000) v
  in_body v h =
      let e = eqb-true v 0x10000 h in
      (ap (owner_of small_code) e, refl, (0, [], (omega arith, ap Some e, tt), refl, (refl, tt)))

  of_body : (v : ℕ) → IsInBody small_graph 0x10000 (λ u. nat_eq u 0x10000) v → nat_eq v 0x10000 ≡ true
  of_body v b = subst (λ u. nat_eq u 0x10000 ≡ true) (sym (some_same v (edge_at (slice_get small_code.edges b.2.0)) b.2.2.1)) b.2.4.0

  pub small_accepted : AreAccepted small_graph small_loop small_extent
  small_accepted = record {
    bodies = λ k v kl. (in_body v, of_body v);
    header_reached = λ k kl none. none (0, omega arith, refl);
    distinct = λ j k kl same. (let lt : j < k = same.0 in let bad : ⊥ = omega (arith, lt, kl) in bad);
    back_edge = λ k kl none. (let back : true ≡ false = none 0 (omega arith) in let bad : ⊥ = cc in bad);
    no_side = λ k from to kl side. side.1 (eqb-true to 0x10000 side.0);
    no_crossing = λ j k jl kl crossing. (let a : nat_eq crossing.1.0 0x10000 ≡ true = crossing.1.1 in let b : nat_eq crossing.1.0 0x10000 ≡ false = crossing.1.2 in let bad : ⊥ = cc in bad);
    not_deep = λ k kl deep. (let d : 16 < 0 + 1 = deep in let bad : ⊥ = omega arith in bad);
    no_cycle = order-no_cycle small_graph small_loop 0x1000C (λ v. v) small_order;
  }
