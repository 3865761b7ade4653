-- The headers of notes, and what was found of the loops up to one.
use Rattle.std.proofs.Common.{◌≡◌, ◌≢◌, ℕ, zero, suc, ◌+◌, ◌<◌, ◌≤◌, List, [], ◌∷◌, ◌++◌, length, get_or, replicate, refl, sym, ap, ◌∙◌, subst, arith, Some, None, ⊎_elim, length-append}
use Rattle.std.specs.Prelude.{slice_get}
use Rattle.std.proofs.lemmas.Bool.{cases_eq}
use Rattle.std.proofs.lemmas.Option.{slice_get_within}
use Rattle.scale_base.specs.declared.refusal.Refusal.{Refusal}
use Rattle.scale_base.specs.declared.refusal.Refusal.TheVariants.{NoBackEdge, SideEntry, TooDeep}
use Rattle.cost_theory.specs.Lists.{body_of}
use Rattle.flow_graph.specs.FlowGraph.{FlowGraph}
use Rattle.graph_algorithms.specs.Edges.{EdgeView}
use Rattle.graph_algorithms.specs.Bodies.{IsLeastPair}
use Rattle.loop_file.specs.declared.notes.LoopNote.{LoopNote}
use Rattle.loop_file.specs.Kept.{note_at}
use Rattle.loop_forest.specs.Noted.{header_address, HasBackEdge, IsNotedSideEntry}
use Rattle.loop_forest.specs.Refused.{AreHeaders, IsBackEdgeRefused}
use Rattle.loop_forest.specs.Found.{IsAscending}
use Rattle.loop_tree.specs.Passes.{IsReady, GoesBack, IsNumberedBody, IsSidePair, AreBodies, AreDepths, AreEntriesFound, AreEnteredBelow, IsEnteredBy, IsDeepest, depth_at}
use Rattle.loop_tree.proofs.HeaderLaws.{note_is}
use Rattle.loop_tree.proofs.EntryLaws.{IsAside, none_aside, least_aside, depths_start}

-- the header's node of a note
pub header_at : (v : FlowGraph) (search : EdgeView) (notes : List LoopNote) (headers : List ℕ) → IsReady v search notes headers → (k : ℕ) (note : LoopNote) → slice_get notes k ≡ Some note → slice_get v.code.nodes (get_or headers k 0) ≡ Some note.header
header_at v search notes headers is k note at = is.numbers.at k (slice_get_within notes k note at) ∙ ap (λ x. Some x.header) (note_is notes k note at)

pub header_within : (v : FlowGraph) (search : EdgeView) (notes : List LoopNote) (headers : List ℕ) → IsReady v search notes headers → (k : ℕ) → k < length notes → get_or headers k 0 < length v.code.nodes
header_within v search notes headers is k lt = slice_get_within v.code.nodes (get_or headers k 0) (header_address notes k) (is.numbers.at k lt)

-- ---- edges that turn back
abbrev pub HaveBackEdges : FlowGraph → List LoopNote → ℕ → Type 0
HaveBackEdges v notes n = (k : ℕ) → k < n → HasBackEdge v notes k

pub back_edges_next : (v : FlowGraph) (notes : List LoopNote) (n : ℕ) (note : LoopNote) → slice_get notes n ≡ Some note → GoesBack v note → HaveBackEdges v notes n → HaveBackEdges v notes (n + 1)
back_edges_next v notes n note at turn was k lt = ⊎_elim
    (λ (e : k ≡ n). subst (λ j. HasBackEdge v notes j) (sym e) (subst (GoesBack v) (sym (note_is notes n note at)) turn))
    (λ (ne : k ≡ n → ⊥). let d : k ≢ n = ne in was k (omega arith))
    (cases_eq k n)

pub back_edge_refused : (v : FlowGraph) (notes : List LoopNote) (n : ℕ) (note : LoopNote) (refusal : Refusal) → AreHeaders v notes → slice_get notes n ≡ Some note → (GoesBack v note → ⊥) → HaveBackEdges v notes n → refusal ≡ NoBackEdge (n + 1) → IsBackEdgeRefused v notes refusal
back_edge_refused v notes n note refusal headers at none was e = record {
  headers = headers;
  k = n;
  within = slice_get_within notes n note at;
  none = λ turn. none (subst (GoesBack v) (note_is notes n note at) turn);
  first = was;
  refusal_is = e;
}

-- ---- side entries
pub entered_start : (v : FlowGraph) (notes : List LoopNote) (count : ℕ) (depths : List ℕ) → count ≡ length v.code.nodes → depths ≡ replicate {A = ℕ} count 0 → AreEnteredBelow v notes 0 depths
entered_start v notes count depths size e = record { none = λ k a b lt h. let bad : ⊥ = omega arith in bad; counts = depths_start v notes count depths size e }

pub entered_end : (v : FlowGraph) (notes : List LoopNote) (n : ℕ) (depths : List ℕ) → n ≡ length notes → AreEnteredBelow v notes n depths → AreEntriesFound v notes depths
entered_end v notes n depths e was = record { none = λ k a b lt h. was.none k a b (omega arith) h; counts = subst (λ m. AreDepths v notes m depths) e was.counts }

module _ (v : FlowGraph) (search : EdgeView) (notes : List LoopNote) (headers : List ℕ) (is : IsReady v search notes headers) (n : ℕ) (note : LoopNote) (at : slice_get notes n ≡ Some note) (body : List ℕ)
    (numbers : IsNumberedBody v note body) where
  at_header : slice_get v.code.nodes (get_or headers n 0) ≡ Some note.header
  at_header = header_at v search notes headers is n note at

  pub entered_none : IsLeastPair (IsSidePair v search (get_or headers n 0) body) None → (a b : ℕ) → IsNotedSideEntry v notes n a b → ⊥
  entered_none none a b h = none_aside v search is.edges note (get_or headers n 0) body at_header numbers none a b (subst (λ x. IsAside v x a b) (note_is notes n note at) h)

  pub entered_by : (p : ℕ × ℕ) (a b : ℕ) (refusal : Refusal) → IsLeastPair (IsSidePair v search (get_or headers n 0) body) (Some p) →
      slice_get v.code.nodes p.0 ≡ Some a → slice_get v.code.nodes p.1 ≡ Some b → refusal ≡ SideEntry (n + 1) a b → IsEnteredBy v notes n refusal
  entered_by p a b refusal least at_a at_b e =
      let aside = least_aside v search is.edges note (get_or headers n 0) body at_header numbers p a b least at_a at_b in
      record {
        from = a;
        to = b;
        entered = subst (λ x. IsAside v x a b) (sym (note_is notes n note at)) aside.0;
        least = λ c d h. aside.1 c d (subst (λ x. IsAside v x c d) (note_is notes n note at) h);
        refusal_is = e;
      }

-- one loop more
pub none_next : (v : FlowGraph) (notes : List LoopNote) (n : ℕ) → ((a b : ℕ) → IsNotedSideEntry v notes n a b → ⊥) → ((k a b : ℕ) → k < n → IsNotedSideEntry v notes k a b → ⊥) → (k a b : ℕ) → k < n + 1 → IsNotedSideEntry v notes k a b → ⊥
none_next v notes n here was k a b lt h = ⊎_elim
    (λ (e : k ≡ n). here a b (subst (λ j. IsNotedSideEntry v notes j a b) e h))
    (λ (ne : k ≡ n → ⊥). let d : k ≢ n = ne in was k a b (omega arith) h)
    (cases_eq k n)

-- ---- the bodies that are kept
body_old : (xs : List (List ℕ)) (x : List ℕ) (k : ℕ) → k < length xs → body_of (xs ++ x ∷ []) k ≡ body_of xs k
body_old [] x k lt = let bad : ⊥ = omega arith in absurd bad
body_old (y ∷ ys) x zero lt = refl
body_old (y ∷ ys) x (suc k) lt = body_old ys x k (omega arith)

body_last : (xs : List (List ℕ)) (x : List ℕ) → body_of (xs ++ x ∷ []) (length xs) ≡ x
body_last [] x = refl
body_last (y ∷ ys) x = body_last ys x

abbrev pub IsKeptBody : FlowGraph → LoopNote → List ℕ → Type 0
IsKeptBody v note body = IsNumberedBody v note body × IsAscending (length v.code.nodes) body

pub bodies_next : (v : FlowGraph) (notes : List LoopNote) (n : ℕ) (note : LoopNote) (body : List ℕ) (bodies longer : List (List ℕ)) → slice_get notes n ≡ Some note → longer ≡ bodies ++ body ∷ [] → IsKeptBody v note body → AreBodies v notes n bodies → AreBodies v notes (n + 1) longer
bodies_next v notes n note body bodies longer at e is was = record {
  size = (let l = ap length e in let a = length-append bodies (body ∷ []) in let s = was.size in omega arith);
  body = λ k lt. ⊎_elim
      (λ (here : k ≡ n).
      let last : body_of longer k ≡ body = ap (λ xs. body_of xs k) e ∙ (ap (body_of (bodies ++ body ∷ [])) (here ∙ sym was.size) ∙ body_last bodies body) in
      subst (λ b. IsKeptBody v (note_at notes k) b) (sym last)
      (subst (λ j. IsKeptBody v (note_at notes j) body) (sym here) (subst (λ x. IsKeptBody v x body) (sym (note_is notes n note at)) is)))
      (λ (ne : k ≡ n → ⊥).
      let d : k ≢ n = ne in
      let below : k < n = omega arith in
      let old : body_of longer k ≡ body_of bodies k = ap (λ xs. body_of xs k) e ∙ body_old bodies body k (let s = was.size in omega arith) in
      subst (λ b. IsKeptBody v (note_at notes k) b) (sym old) (was.body k below))
      (cases_eq k n);
}

-- ---- depths
pub deepest : (headers depths : List ℕ) (n : ℕ) (refusal : Refusal) → n < length headers → 16 < depth_at headers depths n → ((k : ℕ) → k < n → depth_at headers depths k ≤ 16) → refusal ≡ TooDeep (n + 1) → IsDeepest headers depths refusal
deepest headers depths n refusal lt deep was e = record { k = n; within = lt; deep = deep; first = was; refusal_is = e }
