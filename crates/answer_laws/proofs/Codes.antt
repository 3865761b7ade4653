-- Two lists of one reached code: they differ in the numbers of functions alone.
use Rattle.std.proofs.Common.{◌≡◌, ℕ, suc, ◌<◌, ◌≤◌, Bool, true, false, eqb-true, List, [], ◌∷◌, map, length, slice_get, nat_eq, cond, Option, Some, None, option_map, refl, sym, ap, ◌∙◌, subst, arith, ⊎_elim}
use Rattle.std.specs.Prelude.{flat_map}
use Rattle.std.proofs.Math.Path.{fun_ext}
use Rattle.std.proofs.lemmas.Option.{slice_get_within}
use Rattle.cost_theory.specs.Graph.{Graph}
use Rattle.scale_base.specs.declared.edges.Edge.{Edge}
use Rattle.cost_theory.specs.declared.flow.Flow.{Flow}
use Rattle.cost_theory.specs.declared.flow.Flow.TheVariants as flow
use Rattle.cost_theory.specs.Reached.{edges_of, Code, number_beside, owner_of, returns_of, edge_at, edge_to, number_or_0, call_returns, callee_of, edge_callee, edge_returns, edge_exits, graph_of, IsCodeOf, HasNoBadWord}
use Rattle.cost_theory.proofs.Laws.{some_get, callee-call, callee-is}
use Rattle.code_text.specs.Text.{kind_at}
use Rattle.code_text.specs.EdgeCosts.{cost_of, edge_class}
use Rattle.code_text.specs.TextGraph.{text_graph}
use Rattle.flow_graph.specs.FlowGraph.{graph}
use Rattle.flow_graph.proofs.Laws.{place_or_none, some_is}
use Rattle.answer_laws.specs.Renumbered.{AreNumberedBy, IsRenumberedGraph}
use Rattle.answer_laws.specs.Laws.{GraphsAreRenumbered, WeightsAgree}
use Rattle.answer_laws.proofs.Numbers.{both_ways, IsThere, ascending_same, few_numbered}

-- the number of a function of one list in another
abbrev pub number_in : Code → Code → ℕ → ℕ
number_in code code' f = owner_of code (number_or_0 (slice_get code'.functions f))

-- nothing stands beside a number that isn't there
beside_none : (us table : List ℕ) (v : ℕ) → ((k : ℕ) → slice_get us k ≡ Some v → ⊥) → number_beside us table v ≡ 0
beside_none [] table v none = refl
beside_none (u ∷ us) [] v none = refl
beside_none (u ∷ us) (x ∷ xs) v none = go (nat_eq u v) refl (beside_none us xs v (λ k at. none (suc k) at))
  where
    go : (b : Bool) → nat_eq u v ≡ b → number_beside us xs v ≡ 0 → cond (nat_eq u v) x (number_beside us xs v) ≡ 0
    go true e later = absurd (none 0 (ap Some (eqb-true u v e)))
    go false e later = ap (λ b. cond b x (number_beside us xs v)) e ∙ later

-- what calls, by the lists of functions
callee_with : (fs fs' : List ℕ) (number : ℕ → ℕ) → ((to : ℕ) → callee_of fs (flow.Call to) ≡ option_map number (callee_of fs' (flow.Call to))) → (w : Flow) → callee_of fs w ≡ option_map number (callee_of fs' w)
callee_with fs fs' number calls (flow.Call to) = calls to
callee_with fs fs' number calls (flow.Branch to) = refl
callee_with fs fs' number calls (flow.Jump to) = refl
callee_with fs fs' number calls flow.Return = refl
callee_with fs fs' number calls flow.Exit = refl
callee_with fs fs' number calls flow.MayExit = refl
callee_with fs fs' number calls flow.Breakpoint = refl
callee_with fs fs' number calls flow.Next = refl
callee_with fs fs' number calls flow.Refused = refl

returns_with : (code code' : Code) → ((h : ℕ) → returns_of code h ≡ returns_of code' h) → (w : Flow) → call_returns code w ≡ call_returns code' w
returns_with code code' same (flow.Call to) = same to
returns_with code code' same (flow.Branch to) = refl
returns_with code code' same (flow.Jump to) = refl
returns_with code code' same flow.Return = refl
returns_with code code' same flow.Exit = refl
returns_with code code' same flow.MayExit = refl
returns_with code code' same flow.Breakpoint = refl
returns_with code code' same flow.Next = refl
returns_with code code' same flow.Refused = refl

module _ (word : ℕ → Flow) (first : ℕ) (code code' : Code) (is : IsCodeOf word first code) (is' : IsCodeOf word first code') where
  pub same_nodes : code.nodes ≡ code'.nodes
  same_nodes = ascending_same code.nodes code'.nodes (λ i j a b. is.ascending i j a b) (λ i j a b. is'.ascending i j a b) (λ v at. (is'.nodes v).1 ((is.nodes v).0 at)) (λ v at. (is.nodes v).1 ((is'.nodes v).0 at))

  pub same_returns : (h : ℕ) → returns_of code h ≡ returns_of code' h
  same_returns h = both_ways (returns_of code h) (returns_of code' h) (λ e. (is'.returns h).1 ((is.returns h).0 e)) (λ e. (is.returns h).1 ((is'.returns h).0 e))

  pub same_edges : code.edges ≡ code'.edges
  same_edges =
      let each : (λ v. edges_of (word v) v (call_returns code (word v))) ≡ (λ v. edges_of (word v) v (call_returns code' (word v))) = fun_ext (λ v. ap (edges_of (word v) v) (returns_with code code' same_returns (word v))) in
      is.edges ∙ ap (λ f. flat_map f code.nodes) each ∙ ap (λ vs. flat_map (λ v. edges_of (word v) v (call_returns code' (word v))) vs) same_nodes ∙ sym is'.edges

  -- a function has its entry under its number
  pub number_at_entry : (f h : ℕ) → slice_get code'.functions f ≡ Some h → slice_get code.functions (number_in code code' f) ≡ Some h
  number_at_entry f h at = ap (λ x. slice_get code.functions (owner_of code x)) (ap number_or_0 at) ∙ is.owner h h ((is'.functions h).0 (f, at))

  first_number : number_in code code' 0 ≡ 0
  first_number = is.once (number_in code code' 0) 0 first (number_at_entry 0 first is'.first_function) is.first_function

  pub number_within : (f : ℕ) → f < length code'.functions → number_in code code' f < length code.functions
  number_within f lt = let h = some_get code'.functions f lt in slice_get_within code.functions (number_in code code' f) h.0 (number_at_entry f h.0 h.1)

  same_entry : (f : ℕ) → f < length code'.functions → number_or_0 (slice_get code.functions (number_in code code' f)) ≡ number_or_0 (slice_get code'.functions f)
  same_entry f lt = let h = some_get code'.functions f lt in ap number_or_0 (number_at_entry f h.0 h.1) ∙ sym (ap number_or_0 h.1)

  pub same_owner : (v : ℕ) → owner_of code v ≡ number_in code code' (owner_of code' v)
  same_owner v = ⊎_elim
      (λ (at : IsThere code.nodes v). let r = (is.nodes v).0 at in is.once (owner_of code v) (number_in code code' (owner_of code' v)) r.0 (is.owner r.0 v r.1) (number_at_entry (owner_of code' v) r.0 (is'.owner r.0 v r.1)))
      (λ (none : (k : ℕ) → slice_get code.nodes k ≡ Some v → ⊥).
      let here : owner_of code v ≡ 0 = beside_none code.nodes code.owners v none in
      let there : owner_of code' v ≡ 0 = beside_none code'.nodes code'.owners v (λ k at. let n = (is.nodes v).1 ((is'.nodes v).0 (k, at)) in none n.0 n.1) in
      here ∙ sym first_number ∙ ap (number_in code code') (sym there))
      (place_or_none code.nodes v)

module _ (word : ℕ → Flow) (first : ℕ) (code code' : Code) (is : IsCodeOf word first code) (is' : IsCodeOf word first code') (fine : HasNoBadWord word first) where
  -- a number there and back
  pub number_back : (f : ℕ) → f < length code'.functions → number_in code' code (number_in code code' f) ≡ f
  number_back f lt =
      let h = some_get code'.functions f lt in
      is'.once (number_in code' code (number_in code code' f)) f h.0 (number_at_entry word first code' code is' is (number_in code code' f) h.0 (number_at_entry word first code code' is is' f h.0 h.1)) h.1

  same_call : (to : ℕ) → callee_of code.functions (flow.Call to) ≡ option_map (number_in code code') (callee_of code'.functions (flow.Call to))
  same_call to = go (callee_of code'.functions (flow.Call to)) refl
    where
      entry : (c : Code) (i : ℕ) → callee_of c.functions (flow.Call to) ≡ Some i → slice_get c.functions i ≡ Some to
      entry c i e =
          let k = callee-call c.functions (flow.Call to) i e in
          let same : to ≡ k.0 = (let q = k.1 in cc) in
          let x = some_get c.functions i k.2 in
          x.1 ∙ ap Some (sym (ap number_or_0 x.1) ∙ k.3 ∙ sym same)

      absent : (o : Option ℕ) → callee_of code.functions (flow.Call to) ≡ o → callee_of code'.functions (flow.Call to) ≡ None → o ≡ None
      absent None e none = refl
      absent (Some i) e none =
          let there = callee-is word first code' is' fine (number_in code' code i) to (number_at_entry word first code' code is' is i to (entry code i e)) in
          let clash : Some (number_in code' code i) ≡ None = sym there ∙ none in
          let bad : ⊥ = cc in absurd bad

      go : (o : Option ℕ) → callee_of code'.functions (flow.Call to) ≡ o → callee_of code.functions (flow.Call to) ≡ option_map (number_in code code') (callee_of code'.functions (flow.Call to))
      go None e = absent (callee_of code.functions (flow.Call to)) refl e ∙ sym (ap (option_map (number_in code code')) e)
      go (Some j) e = callee-is word first code is fine (number_in code code' j) to (number_at_entry word first code code' is is' j to (entry code' j e)) ∙ sym (ap (option_map (number_in code code')) e)

  same_callee : (o : Option Edge) → edge_callee word code.functions o ≡ option_map (number_in code code') (edge_callee word code'.functions o)
  same_callee None = refl
  same_callee (Some e) = callee_with code.functions code'.functions (number_in code code') same_call (word e.at)

  callee_known : (o : Option Edge) (f : ℕ) → edge_callee word code'.functions o ≡ Some f → f < length code'.functions
  callee_known None f e = let bad : ⊥ = cc in absurd bad
  callee_known (Some x) f e = (callee-call code'.functions (word x.at) f e).2

  pub numbered : AreNumberedBy (graph_of word code) (graph_of word code') (number_in code code')
  numbered = record {
    first = first_number word first code code' is is';
    within = number_within word first code code' is is';
    entry = same_entry word first code code' is is';
    called = λ e f calls. callee_known (slice_get code'.edges e) f calls;
    callee = λ e. ap (λ es. edge_callee word code.functions (slice_get es e)) (same_edges word first code code' is is') ∙ same_callee (slice_get code'.edges e);
    owner = same_owner word first code code' is is';
  }

  pub fewer : length code'.functions ≤ length code.functions
  fewer = few_numbered (owner_of code) code'.functions (length code.functions)
      (λ i a at. slice_get_within code.functions (owner_of code a) a (is.owner a a ((is'.functions a).0 (i, at))))
      (λ i j a b at_i at_j same.
      let r = is.owner a a ((is'.functions a).0 (i, at_i)) in
      let q = is.owner b b ((is'.functions b).0 (j, at_j)) in
      let e : a ≡ b = some_is a b (sym r ∙ ap (slice_get code.functions) same ∙ q) in
      is'.once i j b (at_i ∙ ap Some e) at_j)

-- the graphs of two lists, whose functions have their entries under their numbers
abbrev pub IsSeen : Code → Code → Graph → Graph → Type 0
IsSeen code code' g g' = (r : IsRenumberedGraph g g') × ((f : ℕ) → f < length code'.functions → slice_get code'.functions f ≡ slice_get code.functions (r.number f))

module _ (word : ℕ → Flow) (first : ℕ) (code code' : Code) (is : IsCodeOf word first code) (is' : IsCodeOf word first code') (fine : HasNoBadWord word first) where
  pub code_seen : IsSeen code code' (graph_of word code) (graph_of word code')
  code_seen =
      let es = same_edges word first code code' is is' in (
        record {
          edges = ap length es;
          source = ap {B = ℕ → ℕ} (λ (xs : List Edge) (e : ℕ). edge_at (slice_get xs e)) es;
          target = ap {B = ℕ → Option ℕ} (λ (xs : List Edge) (e : ℕ). edge_to (slice_get xs e)) es;
          returns = ap {B = ℕ → Bool} (λ (xs : List Edge) (e : ℕ). edge_returns word (slice_get xs e)) es;
          exits = ap {B = ℕ → Bool} (λ (xs : List Edge) (e : ℕ). edge_exits word (slice_get xs e)) es;
          functions = (let a = fewer word first code code' is is' fine in let b = fewer word first code' code is' is fine in let r : length code.functions ≡ length code'.functions = omega arith in r);
          number = number_in code code';
          back = number_in code' code;
          numbered = numbered word first code code' is is' fine;
          again = numbered word first code' code is' is fine;
          there = number_back word first code' code is' is fine;
          here = number_back word first code code' is is' fine;
        },
        λ f lt. let h = some_get code'.functions f lt in h.1 ∙ sym (number_at_entry word first code code' is is' f h.0 h.1),
      )

pub graphs_renumbered : GraphsAreRenumbered
graphs_renumbered t v v' is is' =
    let word = kind_at t in
    let one = is.reached.lists in
    let two = is'.reached.lists in
    let nodes = same_nodes word t.entry v.code v'.code one two in
    let edges = same_edges word t.entry v.code v'.code one two in
    let seen : IsSeen v.code v'.code (graph v) (graph v') = subst (IsSeen v.code v'.code (graph v)) is'.graph_is
    (subst (λ g. IsSeen v.code v'.code g (text_graph t v'.code)) is.graph_is (code_seen word t.entry v.code v'.code one two is.reached.words)) in
    record {
      nodes = nodes;
      edges = edges;
      kinds = is.kinds ∙ ap (map (kind_at t)) nodes ∙ sym is'.kinds;
      classes = is.classes ∙ ap (map (λ (e : Edge). edge_class t (Some e))) edges ∙ sym is'.classes;
      returns = same_returns word t.entry v.code v'.code one two;
      graphs = seen.0;
      functions = seen.1;
    }

pub weights_same : WeightsAgree
weights_same t v v' costs same = ap {B = ℕ → ℕ} (λ (es : List Edge) (e : ℕ). cost_of costs (edge_class t (slice_get es e))) same.edges
