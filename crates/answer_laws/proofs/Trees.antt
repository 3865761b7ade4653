-- The trees of notes list the same loops.
use Rattle.std.proofs.Common.{◌≡◌, ℕ, zero, suc, ◌<◌, ◌≤◌, Bool, List, [], ◌∷◌, map, length, Some, slice_get, refl, sym, ap, ◌∙◌, arith, ⊎_elim}
use Rattle.std.specs.Prelude.{slice_index}
use Rattle.std.proofs.Math.Path.{fun_ext}
use Rattle.std.proofs.lemmas.Bool.{cases_lt, cases_eq}
use Rattle.std.proofs.lemmas.List.{length-map, ext_get_or}
use Rattle.std.proofs.lemmas.Option.{slice_get-get_or}
use Rattle.cost_theory.specs.Graph.{Loops}
use Rattle.cost_theory.specs.Lists.{body_of, is_among}
use Rattle.flow_graph.specs.FlowGraph.{FlowGraph, IsFlowGraph}
use Rattle.loop_file.specs.declared.notes.LoopNote.{LoopNote}
use Rattle.loop_file.specs.Kept.{noted_loops}
use Rattle.loop_forest.specs.Noted.{node_address}
use Rattle.loop_forest.proofs.Laws.{one_number}
use Rattle.loop_forest.specs.Tree.{LoopView, loops, HasWholeExtent, IsTreeOf}
use Rattle.answer_laws.specs.Laws.{TreeIsNotRefused, LoopRefusalsAgree, TreesAgree}
use Rattle.answer_laws.proofs.SameLoops.{tree_moved, refusal_moved, loops_moved}
use Rattle.answer_laws.proofs.LoopRefusals.{tree_noted, tree_entered, inside_same, tree_not_refused, loop_refusals_alike}

-- ---- lists

-- a map that tells entries apart tells lists apart
map_apart : {X Y : Type 0} (f : X → Y) (xs ys : List X) → ((i j : ℕ) (x y : X) → slice_get xs i ≡ Some x → slice_get ys j ≡ Some y → f x ≡ f y → x ≡ y) → map f xs ≡ map f ys → xs ≡ ys
map_apart f [] [] apart same = refl
map_apart f [] (y ∷ ys) apart same = let bad : ⊥ = cc in absurd bad
map_apart f (x ∷ xs) [] apart same = let bad : ⊥ = cc in absurd bad
map_apart f (x ∷ xs) (y ∷ ys) apart same =
    let head : f x ≡ f y = cc in
    let tail : map f xs ≡ map f ys = cc in
    let first : x ≡ y = apart 0 0 x y refl refl head in
    let rest : xs ≡ ys = map_apart f xs ys (λ i j a b at_i at_j. apart (suc i) (suc j) a b at_i at_j) tail in
    ap (λ z. z ∷ xs) first ∙ ap (λ zs. y ∷ zs) rest

no_body : (bodies : List (List ℕ)) (k : ℕ) → length bodies ≤ k → body_of bodies k ≡ []
no_body [] k le = refl
no_body (b ∷ bs) zero le = let bad : ⊥ = omega arith in absurd bad
no_body (b ∷ bs) (suc k) le = no_body bs k (omega arith)

-- loops with the same parts
loops_same : (l l' : Loops) → l.loops ≡ l'.loops → l.header ≡ l'.header → l.bound ≡ l'.bound → l.least_trips ≡ l'.least_trips → l.inside ≡ l'.inside → l ≡ l'
loops_same l l' a b c d e =
    ap {B = Loops} (λ (x : ℕ). record l { loops = x }) a ∙ ap {B = Loops} (λ (x : ℕ → ℕ). record l' { header = x; bound = l.bound; least_trips = l.least_trips; inside = l.inside }) b ∙
    ap {B = Loops} (λ (x : ℕ → ℕ). record l' { bound = x; least_trips = l.least_trips; inside = l.inside }) c ∙
    ap {B = Loops} (λ (x : ℕ → ℕ). record l' { least_trips = x; inside = l.inside }) d ∙ ap {B = Loops} (λ (x : ℕ → ℕ → Bool). record l' { inside = x }) e

-- ---- two trees over one graph

module _ (v : FlowGraph) (notes : List LoopNote) (t t' : LoopView) (flow : IsFlowGraph v) (is : IsTreeOf v notes t) (is' : IsTreeOf v notes t') where
  pub same_headers : t.headers ≡ t'.headers
  same_headers = map_apart (node_address v) t.headers t'.headers
      (λ i j a b at_i at_j same.
      let one = slice_get-get_or v.code.nodes a 0 (is.tree.header i a at_i) in
      let two = slice_get-get_or v.code.nodes b 0 (is'.tree.header j b at_j) in
      one_number v flow a b (node_address v a) one (two ∙ ap Some (sym same)))
      (is.headers ∙ sym is'.headers)

  count : length t.headers ≡ length notes
  count = sym (length-map t.headers (node_address v)) ∙ ap length is.headers ∙ length-map notes (λ (note : LoopNote). note.header)

  body_held : (k at : ℕ) → (loops v t).inside k at ≡ (loops v t').inside k at
  body_held k at = ⊎_elim
      (λ (low : k < length notes). inside_same v notes (loops v t) (loops v t') (tree_noted v notes t is) (tree_entered v notes t is) (tree_noted v notes t' is') (tree_entered v notes t' is') k at low)
      (λ (high : length notes ≤ k). ap (is_among at) (none t is high) ∙ sym (ap (is_among at) (none t' is' high)))
      (cases_lt k (length notes))
    where
      none : (s : LoopView) → IsTreeOf v notes s → length notes ≤ k → body_of (map (λ body. map (node_address v) body) s.bodies) k ≡ []
      none s tree high = no_body (map (λ body. map (node_address v) body) s.bodies) k
          (let a = length-map s.bodies (λ (body : List ℕ). map (node_address v) body) in let b = tree.tree.bodies_size in
          let c : length s.headers ≡ length notes = sym (length-map s.headers (node_address v)) ∙ ap length tree.headers ∙ length-map notes (λ (note : LoopNote). note.header) in omega arith)

  -- a body has all nodes of its extent or not, in both trees
  whole_there : (k : ℕ) → HasWholeExtent v (loops v t) (noted_loops notes).inside k → HasWholeExtent v (loops v t') (noted_loops notes).inside k
  whole_there k whole at node held = sym (body_held k at) ∙ whole at node held

  whole_back : (k : ℕ) → HasWholeExtent v (loops v t') (noted_loops notes).inside k → HasWholeExtent v (loops v t) (noted_loops notes).inside k
  whole_back k whole at node held = body_held k at ∙ whole at node held

  trip_same : (k : ℕ) → k < length notes → slice_index t.least_trips k ≡ slice_index t'.least_trips k
  trip_same k kl = ⊎_elim
      (λ (e : slice_index t.least_trips k ≡ slice_index t'.least_trips k). e)
      (λ (ne : slice_index t.least_trips k ≡ slice_index t'.least_trips k → ⊥).
      let one = is.trips k kl in
      let two = is'.trips k kl in
      let never : HasWholeExtent v (loops v t) (noted_loops notes).inside k → ⊥ = λ whole. ne (one.whole whole ∙ sym (two.whole (whole_there k whole))) in
      one.more never ∙ sym (two.more (λ whole. never (whole_back k whole))))
      (cases_eq (slice_index t.least_trips k) (slice_index t'.least_trips k))

  pub same_trips : t.least_trips ≡ t'.least_trips
  same_trips = ext_get_or 0 t.least_trips t'.least_trips
      (let e = ap length same_headers in is.tree.trips_size ∙ e ∙ sym is'.tree.trips_size)
      (λ k kl. trip_same k (let a = is.tree.trips_size in let b = count in omega arith))

  pub same_loops : loops v t ≡ loops v t'
  same_loops = loops_same (loops v t) (loops v t')
      (ap (λ hs. length (map (node_address v) hs)) same_headers)
      (ap {B = ℕ → ℕ} (λ (hs : List ℕ) (k : ℕ). slice_index (map (node_address v) hs) k) same_headers)
      (ap {B = ℕ → ℕ} (λ (xs : List ℕ) (k : ℕ). slice_index xs k) (is.bounds ∙ sym is'.bounds))
      (ap {B = ℕ → ℕ} (λ (xs : List ℕ) (k : ℕ). slice_index xs k) same_trips)
      (fun_ext (λ k. fun_ext (λ at. body_held k at)))

-- ---- over two graphs

pub tree_is_not_refused : TreeIsNotRefused
tree_is_not_refused v v' notes t refusal same flow tree refused = tree_not_refused v notes t tree flow refusal (refusal_moved v v' notes refusal same refused)

pub loop_refusals_agree : LoopRefusalsAgree
loop_refusals_agree v v' notes refusal refusal' same one two = loop_refusals_alike v notes refusal refusal' one (refusal_moved v v' notes refusal' same two)

pub trees_agree : TreesAgree
trees_agree v v' notes t t' same flow tree tree' =
    let here = tree_moved v v' notes t' same tree' in
    record {
      headers = same_headers v notes t t' flow tree here;
      bounds = tree.bounds ∙ sym tree'.bounds;
      counted = tree.counted ∙ sym tree'.counted;
      least_trips = same_trips v notes t t' flow tree here;
      loops = same_loops v notes t t' flow tree here ∙ loops_moved v v' t' same;
    }
