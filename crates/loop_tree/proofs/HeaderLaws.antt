-- The headers of loops.
use Rattle.std.proofs.Common.{◌≡◌, ◌≢◌, ℕ, ◌+◌, ◌<◌, ◌≤◌, false, List, [], ◌∷◌, ◌++◌, length, get_or, set, sym, ap, ◌∙◌, subst, arith, Option, Some, None, inl, inr, ⊎_elim, get_or-set_same, get_or-set_other, length-set, length-append}
use Rattle.std.specs.Prelude.{slice_get}
use Rattle.std.proofs.lemmas.Bool.{cases_eq, cases_lt}
use Rattle.std.proofs.lemmas.List.{get_or_append_left, get_or_at}
use Rattle.std.proofs.lemmas.Option.{get_or_from_slice_get, slice_get_within}
use Rattle.flow_graph.specs.FlowGraph.{FlowGraph, IsFlowGraph}
use Rattle.graph_algorithms.specs.Keys.{option_at}
use Rattle.graph_algorithms.specs.Bodies.{IsLeastPair, IsLesserPair}
use Rattle.graph_algorithms.proofs.Laws.{least_same, least_more}
use Rattle.loop_file.specs.declared.notes.LoopNote.{LoopNote}
use Rattle.loop_file.specs.Kept.{note_at}
use Rattle.scale_base.specs.declared.refusal.Refusal.{Refusal}
use Rattle.scale_base.specs.declared.refusal.Refusal.TheVariants.{HeaderNotReached}
use Rattle.loop_forest.specs.Noted.{header_address, IsHeaderReached}
use Rattle.loop_forest.specs.Refused.{IsHeaderRefused}

-- the note of a number
pub note_is : (notes : List LoopNote) (k : ℕ) (note : LoopNote) → slice_get notes k ≡ Some note → note_at notes k ≡ note
note_is notes k note h = get_or_from_slice_get notes k note (record { header = 0; ranges = []; bound = 0; counted = false; at_least = 0 }) h

-- ---- the nodes of the headers
pub record AreFirstHeaders (v : FlowGraph) (notes : List LoopNote) (n : ℕ) (headers : List ℕ) : Type 0 where
  pub size : length headers ≡ n
  pub at : (k : ℕ) → k < n → slice_get v.code.nodes (get_or headers k 0) ≡ Some (header_address notes k)

pub headers_next : (v : FlowGraph) (notes : List LoopNote) (n header : ℕ) (note : LoopNote) (headers longer : List ℕ) → longer ≡ headers ++ header ∷ [] → slice_get notes n ≡ Some note →
    slice_get v.code.nodes header ≡ Some note.header → AreFirstHeaders v notes n headers → AreFirstHeaders v notes (n + 1) longer
headers_next v notes n header note headers longer e at_note at was = record {
  size = (let l = ap length e in let a = length-append headers (header ∷ []) in let s = was.size in omega arith);
  at = λ k lt. ⊎_elim
      (λ (here : k ≡ n).
      ap (slice_get v.code.nodes) (ap (λ xs. get_or xs k 0) e ∙ get_or_at headers header [] 0 k (was.size ∙ sym here)) ∙
      (at ∙ ap Some (sym (ap (header_address notes) here ∙ ap (λ x. x.header) (note_is notes n note at_note)))))
      (λ (ne : k ≡ n → ⊥).
      let d : k ≢ n = ne in
      let below : k < n = omega arith in
      ap (slice_get v.code.nodes) (ap (λ xs. get_or xs k 0) e ∙ get_or_append_left headers (header ∷ []) 0 k (let s = was.size in omega arith)) ∙ was.at k below)
      (cases_eq k n);
}

-- the headers up to one are reached
pub reached_below : (v : FlowGraph) (notes : List LoopNote) (n : ℕ) (headers : List ℕ) → IsFlowGraph v → AreFirstHeaders v notes n headers → (k : ℕ) → k < n → IsHeaderReached v notes k
reached_below v notes n headers is was k lt = (is.nodes (header_address notes k)).0 (get_or headers k 0, was.at k lt)

-- the next one isn't a node
pub unreached : (v : FlowGraph) (notes : List LoopNote) (n : ℕ) (headers : List ℕ) (note : LoopNote) (refusal : Refusal) → IsFlowGraph v → AreFirstHeaders v notes n headers → slice_get notes n ≡ Some note →
    ((k : ℕ) → slice_get v.code.nodes k ≡ Some note.header → ⊥) → refusal ≡ HeaderNotReached (n + 1) → IsHeaderRefused v notes refusal
unreached v notes n headers note refusal is was at none e = record {
  k = n;
  within = slice_get_within notes n note at;
  unreached = λ node. let w = (is.nodes (header_address notes n)).1 node in none w.0 (w.1 ∙ ap (λ x. Some x.header) (note_is notes n note at));
  first = reached_below v notes n headers is was;
  refusal_is = e;
}

-- ---- the least two loops with one header
-- the first place below n that has a number, if there is one
abbrev pub IsFirstOf : List ℕ → ℕ → ℕ → Option ℕ → Type 0
IsFirstOf headers n x None = (k : ℕ) → k < n → get_or headers k 0 ≡ x → ⊥
IsFirstOf headers n x (Some one) = (one < n) × (get_or headers one 0 ≡ x) × ((k : ℕ) → k < n → get_or headers k 0 ≡ x → one ≤ k)

-- two loops below n with one header
abbrev pub IsPairBelow : List ℕ → ℕ → ℕ → ℕ → Type 0
IsPairBelow headers n j k = (j < k) × (k < n) × (get_or headers j 0 ≡ get_or headers k 0)

pub record ArePairs (headers : List ℕ) (count n : ℕ) (firsts : List (Option ℕ)) (least : Option (ℕ × ℕ)) : Type 0 where
  pub size : length firsts ≡ count
  pub firsts_are : (x : ℕ) → x < count → IsFirstOf headers n x (option_at firsts x)
  pub pairs : IsLeastPair (IsPairBelow headers n) least

module _ (headers : List ℕ) (count n header : ℕ) (firsts : List (Option ℕ)) (least : Option (ℕ × ℕ)) (was : ArePairs headers count n firsts least) (here : get_or headers n 0 ≡ header) (low : header < count) where
  -- the numbers of other headers
  other : (x : ℕ) → x ≢ header → (o : Option ℕ) → IsFirstOf headers n x o → IsFirstOf headers (n + 1) x o
  other x ne None old = λ k lt e. ⊎_elim (λ (at : k ≡ n). ne (sym e ∙ (ap (λ i. get_or headers i 0) at ∙ here))) (λ (apart : k ≡ n → ⊥). let d : k ≢ n = apart in old k (omega arith) e) (cases_eq k n)
  other x ne (Some one) old = (
    (let a = old.0 in let r : one < n + 1 = omega arith in r),
    old.1,
    λ k lt e. ⊎_elim (λ (at : k ≡ n). absurd (ne (sym e ∙ (ap (λ i. get_or headers i 0) at ∙ here)))) (λ (apart : k ≡ n → ⊥). let d : k ≢ n = apart in old.2 k (omega arith) e) (cases_eq k n),
  )

  longer : (j k : ℕ) → IsPairBelow headers n j k → IsPairBelow headers (n + 1) j k
  longer j k p = (p.0, (let a = p.1 in let r : k < n + 1 = omega arith in r), p.2)

  -- its header was seen
  pub pairs_seen : (one : ℕ) (r : ℕ × ℕ) → option_at firsts header ≡ Some one → IsLesserPair least (one, n) r → ArePairs headers count (n + 1) firsts (Some r)
  pairs_seen one r seen lesser = record {
    size = was.size;
    firsts_are = λ x lt. ⊎_elim
        (λ (e : x ≡ header).
        let at : option_at firsts x ≡ Some one = ap (option_at firsts) e ∙ seen in
        subst (IsFirstOf headers (n + 1) x) (sym at)
        ((let a = first.0 in let q : one < n + 1 = omega arith in q), first.1 ∙ sym e, λ k kl same. up_to k kl (same ∙ e)))
        (λ (ne : x ≡ header → ⊥). let d : x ≢ header = ne in other x d (option_at firsts x) (was.firsts_are x lt)) (cases_eq x header);
    pairs = least_more (IsPairBelow headers n) (IsPairBelow headers (n + 1)) least (one, n) r longer
        (first.0, (let q : n < n + 1 = omega arith in q), first.1 ∙ sym here)
        (λ j k p. ⊎_elim
        (λ (e : k ≡ n).
        let le = first.2 j (let a = p.0 in omega arith) (p.2 ∙ (ap (λ i. get_or headers i 0) e ∙ here)) in
        inr (⊎_elim (λ (lt : one < j). inl lt) (λ (ge : j ≤ one). inr ((let q : one ≡ j = omega arith in q), (let q : n ≤ k = omega arith in q))) (cases_lt one j)))
        (λ (ne : k ≡ n → ⊥). let d : k ≢ n = ne in let a = p.1 in inl (p.0, (let q : k < n = omega arith in q), p.2)) (cases_eq k n))
        lesser was.pairs;
  }
    where
      first : (one < n) × (get_or headers one 0 ≡ header) × ((k : ℕ) → k < n → get_or headers k 0 ≡ header → one ≤ k)
      first = subst (IsFirstOf headers n header) seen (was.firsts_are header low)

      up_to : (k : ℕ) → k < n + 1 → get_or headers k 0 ≡ header → one ≤ k
      up_to k kl e = ⊎_elim (λ (at : k ≡ n). let a = first.0 in (let q : one ≤ k = omega arith in q)) (λ (ne : k ≡ n → ⊥). let d : k ≢ n = ne in first.2 k (omega arith) e) (cases_eq k n)

  -- its header is new
  pub pairs_new : option_at firsts header ≡ None → ArePairs headers count (n + 1) (set firsts header (Some n)) least
  pairs_new unseen = record {
    size = length-set firsts header (Some n) ∙ was.size;
    firsts_are = λ x lt. ⊎_elim
        (λ (e : x ≡ header).
        let at : option_at (set firsts header (Some n)) x ≡ Some n = ap (option_at (set firsts header (Some n))) e ∙ get_or-set_same firsts header (Some n) None (let s = was.size in omega arith) in
        subst (IsFirstOf headers (n + 1) x) (sym at) (
          (let q : n < n + 1 = omega arith in q),
          here ∙ sym e,
          λ k kl same. ⊎_elim (λ (below : k < n). absurd (none k below (same ∙ e))) (λ (ge : n ≤ k). ge) (cases_lt k n),
        ))
        (λ (ne : x ≡ header → ⊥).
        let d : x ≢ header = ne in
        subst (IsFirstOf headers (n + 1) x) (sym (get_or-set_other firsts header x (Some n) None d)) (other x d (option_at firsts x) (was.firsts_are x lt)))
        (cases_eq x header);
    pairs = least_same (IsPairBelow headers n) (IsPairBelow headers (n + 1)) least longer
        (λ j k p. ⊎_elim
        (λ (e : k ≡ n). absurd (none j (let a = p.0 in omega arith) (p.2 ∙ (ap (λ i. get_or headers i 0) e ∙ here))))
        (λ (ne : k ≡ n → ⊥). let d : k ≢ n = ne in let a = p.1 in (p.0, (let q : k < n = omega arith in q), p.2)) (cases_eq k n)) was.pairs;
  }
    where
      none : (k : ℕ) → k < n → get_or headers k 0 ≡ header → ⊥
      none = subst (IsFirstOf headers n header) unseen (was.firsts_are header low)
