-- Where a kept run stands in the graph: by its moves, and by what it carries.
use Rattle.std.proofs.Common.{◌≡◌, ℕ, ◌-◌, Bool, List, [], ◌∷◌, map, Option, Some, None, refl, ap, ◌∙◌, arith}
use Rattle.std.specs.Prelude.{◌||◌}
use Rattle.std.specs.List.{list_any}
use Rattle.scale_base.specs.State.{Setting}
use Rattle.cost_theory.specs.Graph.{Graph, Loops, sum_below, only, is_round, next_edge}
use Rattle.cost_theory.specs.Worst.{Numbers, turns}
use Rattle.cost_theory.specs.Steps as steps
use Rattle.cost_theory.specs.Steps.{left_call, add_call, left_calls, left_at_node, cycles_left}
use Rattle.cost_theory.specs.Reached.{HasNoBadWord}
use Rattle.cost_theory.proofs.Laws.{sum-same}
use Rattle.code_text.specs.Text.{Text, kind_at}
use Rattle.graph_runs.specs.TextStates.{IsTextOf}
use Rattle.graph_runs.specs.RunTransitions.{after_call, IsStack}
use Rattle.graph_runs.specs.KeptRuns.{AreSameBelow}
use Rattle.graph_runs.proofs.Laws.{word_bound}
use Rattle.code_text.proofs.Laws.{kind_facts}
use Rattle.paid_runs.specs.Shadows.{is_within_loop}

-- ---- calls

pub calls_back : (t : Text) (env : Setting) → IsTextOf t env → HasNoBadWord (kind_at t) t.entry → (f : ℕ) (calls : List ℕ) → IsStack (kind_at t) t.entry f calls → map (λ a. a - 4) (map after_call calls) ≡ calls
calls_back t env ok fine f [] st = refl
calls_back t env ok fine f (u ∷ us) st =
    let b = word_bound t env ok u (kind_facts t u (fine st.0 u st.2)).1 in
    let e : after_call u - 4 ≡ u = omega arith in
    ap (λ x. x ∷ map (λ a. a - 4) (map after_call us)) e ∙ ap (λ xs. u ∷ xs) (calls_back t env ok fine st.0 us st.3)

-- ---- counts

turns_same : (l : Loops) (n : Numbers) (one other : ℕ → ℕ) (k : ℕ) (b : Bool) → one k ≡ other k → only b (turns l n one k) ≡ only b (turns l n other k)
turns_same l n one other k b e = rw e refl

sums_same : (l : Loops) (n : Numbers) (one other : ℕ → ℕ) (round : ℕ → Bool) → AreSameBelow l.loops one other → sum_below l.loops (λ k. only (round k) (turns l n one k)) ≡ sum_below l.loops (λ k. only (round k) (turns l n other k))
sums_same l n one other round same = sum-same l.loops (λ k. only (round k) (turns l n one k)) (λ k. only (round k) (turns l n other k)) (λ k kl. turns_same l n one other k (round k) (same k kl))

added_same : (g : Graph) (l : Loops) (w : ℕ → ℕ) (n : Numbers) (one other : ℕ → ℕ) (u : ℕ) (o : Option ℕ) (r q : ℕ) → AreSameBelow l.loops one other → r ≡ q → add_call g l w n one u o r ≡ add_call g l w n other u o q
added_same g l w n one other u None r q same e = refl
added_same g l w n one other u (Some d) r q same e =
    let s = sums_same l n one other (λ k. l.inside k u) same in omega (arith, s, e)

calls_same : (g : Graph) (l : Loops) (w : ℕ → ℕ) (n : Numbers) (one other : ℕ → ℕ) (calls : List ℕ) → AreSameBelow l.loops one other → left_calls g l w n one calls ≡ left_calls g l w n other calls
calls_same g l w n one other [] same = refl
calls_same g l w n one other (u ∷ calls) same = added_same g l w n one other u (next_edge g u) (left_calls g l w n one calls) (left_calls g l w n other calls) same (calls_same g l w n one other calls same)

-- counts that agree for the loops leave the same
node_same : (g : Graph) (l : Loops) (w : ℕ → ℕ) (n : Numbers) (one other : ℕ → ℕ) (node : Option ℕ) (calls : List ℕ) → AreSameBelow l.loops one other → left_at_node g l w n node calls one ≡ left_at_node g l w n node calls other
node_same g l w n one other None calls same = refl
node_same g l w n one other (Some v) calls same =
    let s = sums_same l n one other (λ k. is_round l k (Some v)) same in
    let c = calls_same g l w n one other calls same in omega (arith, s, c)

abbrev pub place : ℕ → List ℕ → (ℕ → ℕ) → steps.GraphState
place pc calls counts = record { node = Some pc; calls = calls; counts = counts }

-- so do two places
pub left_same : (g : Graph) (l : Loops) (w : ℕ → ℕ) (n : Numbers) (s : steps.GraphState) (pc : ℕ) (calls : List ℕ) (counts : ℕ → ℕ) → s.node ≡ Some pc → s.calls ≡ calls → AreSameBelow l.loops s.counts counts
    → cycles_left g l w n s ≡ cycles_left g l w n (place pc calls counts)
left_same g l w n s pc calls counts node suspended same =
    ap (λ o. left_at_node g l w n o s.calls s.counts) node ∙ (ap (λ cs. left_at_node g l w n (Some pc) cs s.counts) suspended ∙ node_same g l w n s.counts counts (Some pc) calls same)

pub in_same : (l : Loops) (k : ℕ) (s : steps.GraphState) (pc : ℕ) (calls : List ℕ) (counts : ℕ → ℕ) → s.node ≡ Some pc → s.calls ≡ calls → is_within_loop l k s ≡ is_within_loop l k (place pc calls counts)
in_same l k s pc calls counts node suspended = ap (λ o. is_round l k o || list_any (l.inside k) s.calls) node ∙ ap (λ cs. is_round l k (Some pc) || list_any (l.inside k) cs) suspended
