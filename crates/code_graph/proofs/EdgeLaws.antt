-- The edges of nodes, one node after another.
use Rattle.std.proofs.Common.{◌≡◌, ℕ, ◌+◌, ◌*◌, ◌<◌, ◌≤◌, Bool, true, false, List, [], ◌∷◌, ◌++◌, length, length-append, take, get_or, map, Option, Some, None, refl, sym, ap, ◌∙◌, subst, arith, ⊎_elim, append-nil}
use Rattle.std.specs.Prelude.{slice_get}
use Rattle.std.specs.List.{flat_map}
use Rattle.std.proofs.lemmas.Bool.{cases_lt}
use Rattle.std.proofs.lemmas.List.{take_more, take_all}
use Rattle.std.proofs.lemmas.Grind.{flat_map-append}
use Rattle.std.proofs.lemmas.Option.{slice_get_within, slice_get-get_or, get_or_from_slice_get, slice_get-map}
use Rattle.scale_base.specs.declared.edges.Edge.{Edge}
use Rattle.scale_base.specs.declared.edges.EdgeKind.{EdgeKind}
use Rattle.scale_base.specs.declared.edges.EdgeKind.TheVariants.{Taken, Untaken, Jump, Next, CallNext, End}
use Rattle.cost_theory.specs.declared.flow.Flow.{Flow}
use Rattle.cost_theory.specs.declared.flow.Flow.TheVariants as flow
use Rattle.cost_theory.specs.Reached.{edge_at, edges_of}
use Rattle.cost_theory.proofs.Laws.{below_suc, some_get, Within, edges-at}
use Rattle.code_graph.specs.Assembling.{flag_at, AreEdgesOf}
use Rattle.flow_graph.specs.Stored.{AreFirsts}
use Rattle.code_graph.proofs.Lists.{get_left, get_end, get_more, length_pushed}

pub few_edges : (w : Flow) (v : ℕ) (b : Bool) → length (edges_of w v b) ≤ 2
few_edges (flow.Branch to) v b = omega arith
few_edges (flow.Jump to) v b = omega arith
few_edges (flow.Call to) v true = omega arith
few_edges (flow.Call to) v false = omega arith
few_edges flow.Return v b = omega arith
few_edges flow.Exit v b = omega arith
few_edges flow.MayExit v b = omega arith
few_edges flow.Breakpoint v b = omega arith
few_edges flow.Next v b = omega arith
few_edges flow.Refused v b = omega arith

of_another : (x : Edge) (k : EdgeKind) (v to : ℕ) → record { at = v; kind = k; to = to } ≡ x → x.kind ≡ Next → (k ≡ Next → ⊥) → x.to ≡ x.at + 4
of_another x k v to e kind apart = absurd (apart (ap (λ (y : Edge). y.kind) e ∙ kind))

goes_on : (x : Edge) (v : ℕ) → record { at = v; kind = Next; to = v + 4 } ≡ x → x.to ≡ x.at + 4
goes_on x v e = subst (λ (y : Edge). y.to ≡ y.at + 4) e refl

-- an edge of kind Next leads to the word behind
pub next_leads : (w : Flow) (v : ℕ) (b : Bool) (x : Edge) → Within x (edges_of w v b) → x.kind ≡ Next → x.to ≡ x.at + 4
next_leads (flow.Branch to) v b x h kind = ⊎_elim (λ e. of_another x Taken v to e kind (λ q. let bad : ⊥ = cc in bad)) (λ r. ⊎_elim (λ e. of_another x Untaken v (v + 4) e kind (λ q. let bad : ⊥ = cc in bad)) (λ n. absurd n) r) h
next_leads (flow.Jump to) v b x h kind = ⊎_elim (λ e. of_another x Jump v to e kind (λ q. let bad : ⊥ = cc in bad)) (λ n. absurd n) h
next_leads (flow.Call to) v true x h kind = ⊎_elim (λ e. of_another x CallNext v (v + 4) e kind (λ q. let bad : ⊥ = cc in bad)) (λ r. ⊎_elim (λ e. of_another x End v v e kind (λ q. let bad : ⊥ = cc in bad)) (λ n. absurd n) r) h
next_leads (flow.Call to) v false x h kind = ⊎_elim (λ e. of_another x End v v e kind (λ q. let bad : ⊥ = cc in bad)) (λ n. absurd n) h
next_leads flow.Return v b x h kind = ⊎_elim (λ e. of_another x End v v e kind (λ q. let bad : ⊥ = cc in bad)) (λ n. absurd n) h
next_leads flow.Exit v b x h kind = ⊎_elim (λ e. of_another x End v v e kind (λ q. let bad : ⊥ = cc in bad)) (λ n. absurd n) h
next_leads flow.MayExit v b x h kind = ⊎_elim (λ e. goes_on x v e) (λ r. ⊎_elim (λ e. of_another x End v v e kind (λ q. let bad : ⊥ = cc in bad)) (λ n. absurd n) r) h
next_leads flow.Breakpoint v b x h kind = ⊎_elim (λ e. of_another x End v v e kind (λ q. let bad : ⊥ = cc in bad)) (λ n. absurd n) h
next_leads flow.Next v b x h kind = ⊎_elim (λ e. goes_on x v e) (λ n. absurd n) h
next_leads flow.Refused v b x h kind = absurd h

-- ---- the numbers of first edges

number_left : (xs : List ℕ) (y i : ℕ) → i < length xs → get_or (xs ++ y ∷ []) i 0 ≡ get_or xs i 0
number_left xs y i lt = get_or_from_slice_get (xs ++ y ∷ []) i (get_or xs i 0) 0 (get_left xs (y ∷ []) i (get_or xs i 0) (slice_get-get_or xs i 0 lt))

number_end : (xs : List ℕ) (y i : ℕ) → i ≡ length xs → get_or (xs ++ y ∷ []) i 0 ≡ y
number_end xs y i e = get_or_from_slice_get (xs ++ y ∷ []) i y 0 (ap (slice_get (xs ++ y ∷ [])) e ∙ get_end xs y)

module _ (n : ℕ) (nodes : List ℕ) (edges : List Edge) (firsts : List ℕ) (more : List Edge) (are : AreFirsts n nodes edges firsts) (at : (x : Edge) → Within x more → x.at ≡ get_or nodes n 0) where
  long : length (edges ++ more) ≡ length edges + length more
  long = length-append edges more

  left : (k : ℕ) → k ≤ n → get_or (firsts ++ length (edges ++ more) ∷ []) k 0 ≡ get_or firsts k 0
  left k le = number_left firsts (length (edges ++ more)) k (let s = are.size in omega arith)

  end : (k : ℕ) → k ≡ n + 1 → get_or (firsts ++ length (edges ++ more) ∷ []) k 0 ≡ length (edges ++ more)
  end k e = number_end firsts (length (edges ++ more)) k (let s = are.size in omega arith)

  rises : (j k : ℕ) → j ≤ k → k ≤ n + 1 → get_or (firsts ++ length (edges ++ more) ∷ []) j 0 ≤ get_or (firsts ++ length (edges ++ more) ∷ []) k 0
  rises j k jk kn = ⊎_elim
      (λ (kl : k < n + 1).
      let a : get_or (firsts ++ length (edges ++ more) ∷ []) j 0 ≡ get_or firsts j 0 = left j (omega arith) in
      let b : get_or (firsts ++ length (edges ++ more) ∷ []) k 0 ≡ get_or firsts k 0 = left k (omega arith) in
      let r : get_or firsts j 0 ≤ get_or firsts k 0 = are.rising j k jk (omega arith) in
      omega arith)
      (λ (kg : n + 1 ≤ k).
      let b : get_or (firsts ++ length (edges ++ more) ∷ []) k 0 ≡ length (edges ++ more) = end k (omega arith) in ⊎_elim
      (λ (jl : j < n + 1).
      let a : get_or (firsts ++ length (edges ++ more) ∷ []) j 0 ≡ get_or firsts j 0 = left j (omega arith) in
      let r : get_or firsts j 0 ≤ get_or firsts n 0 = are.rising j n (omega arith) (omega arith) in
      let l : get_or firsts n 0 ≡ length edges = are.last in
      let s = long in
      omega arith)
      (λ (jg : n + 1 ≤ j). let a : get_or (firsts ++ length (edges ++ more) ∷ []) j 0 ≡ length (edges ++ more) = end j (omega arith) in omega arith)
      (cases_lt j (n + 1)))
      (cases_lt k (n + 1))

  owned : (k e : ℕ) → k < n + 1 → get_or (firsts ++ length (edges ++ more) ∷ []) k 0 ≤ e → e < get_or (firsts ++ length (edges ++ more) ∷ []) (k + 1) 0 → edge_at (slice_get (edges ++ more) e) ≡ get_or nodes k 0
  owned k e kn low high = ⊎_elim
      (λ (kl : k < n).
      let a : get_or (firsts ++ length (edges ++ more) ∷ []) k 0 ≡ get_or firsts k 0 = left k (omega arith) in
      let b : get_or (firsts ++ length (edges ++ more) ∷ []) (k + 1) 0 ≡ get_or firsts (k + 1) 0 = left (k + 1) (omega arith) in
      let r : get_or firsts (k + 1) 0 ≤ get_or firsts n 0 = are.rising (k + 1) n (omega arith) (omega arith) in
      let l : get_or firsts n 0 ≡ length edges = are.last in
      let x = some_get edges e (omega arith) in
      ap edge_at (get_left edges more e x.0 x.1) ∙ sym (ap edge_at x.1) ∙ are.own k e kl (omega arith) (omega arith))
      (λ (is : k ≡ n).
      let a : get_or (firsts ++ length (edges ++ more) ∷ []) k 0 ≡ get_or firsts k 0 = left k (omega arith) in
      let here : get_or firsts k 0 ≡ get_or firsts n 0 = ap (λ i. get_or firsts i 0) is in
      let l : get_or firsts n 0 ≡ length edges = are.last in
      let b : get_or (firsts ++ length (edges ++ more) ∷ []) (k + 1) 0 ≡ length (edges ++ more) = end (k + 1) (omega arith) in
      let x = some_get (edges ++ more) e (omega arith) in ⊎_elim
      (λ (old : slice_get edges e ≡ Some x.0). let lt = slice_get_within edges e x.0 old in let bad : ⊥ = omega arith in absurd bad)
      (λ (new : (length edges ≤ e) × Within x.0 more). ap edge_at x.1 ∙ at x.0 new.1 ∙ ap (λ i. get_or nodes i 0) (sym is))
      (get_more edges more e x.0 x.1))
      (below_suc k n (omega arith))

  wholly : (e : ℕ) → e < length (edges ++ more) → (k : ℕ) × (k < n + 1) × (get_or (firsts ++ length (edges ++ more) ∷ []) k 0 ≤ e) × (e < get_or (firsts ++ length (edges ++ more) ∷ []) (k + 1) 0)
  wholly e el = ⊎_elim
      (λ (old : e < length edges).
      let w = are.whole e old in
      let kl : w.0 < n = w.1 in
      let a : get_or (firsts ++ length (edges ++ more) ∷ []) w.0 0 ≡ get_or firsts w.0 0 = left w.0 (omega arith) in
      let b : get_or (firsts ++ length (edges ++ more) ∷ []) (w.0 + 1) 0 ≡ get_or firsts (w.0 + 1) 0 = left (w.0 + 1) (omega arith) in
      let low : get_or firsts w.0 0 ≤ e = w.2 in
      let high : e < get_or firsts (w.0 + 1) 0 = w.3 in
      (w.0, omega arith, omega arith, omega arith))
      (λ (new : length edges ≤ e).
      let a : get_or (firsts ++ length (edges ++ more) ∷ []) n 0 ≡ get_or firsts n 0 = left n (omega arith) in
      let l : get_or firsts n 0 ≡ length edges = are.last in
      let b : get_or (firsts ++ length (edges ++ more) ∷ []) (n + 1) 0 ≡ length (edges ++ more) = end (n + 1) refl in
      (n, omega arith, omega arith, omega arith))
      (cases_lt e (length edges))

  pub firsts_more : AreFirsts (n + 1) nodes (edges ++ more) (firsts ++ length (edges ++ more) ∷ [])
  firsts_more = record {
    size = (let s = are.size in let t = length_pushed firsts (length (edges ++ more)) in omega arith);
    last = end (n + 1) refl;
    rising = rises;
    own = owned;
    whole = wholly;
  }

-- ---- the edges themselves

pub flat_map_next : {X Y : Type 0} (f : X → List Y) (xs : List X) (i : ℕ) (d : X) → i < length xs → flat_map f (take i xs) ++ f (get_or xs i d) ≡ flat_map f (take (i + 1) xs)
flat_map_next f xs i d lt =
    ap (λ ys. flat_map f (take i xs) ++ ys) (sym (append-nil (f (get_or xs i d)))) ∙ sym (flat_map-append f (take i xs) (get_or xs i d ∷ [])) ∙ ap (flat_map f) (sym (take_more xs i d lt))

-- an entry of a list that is mapped from another
pub mapped_at : {X Y : Type 0} (f : X → Y) (xs : List X) (ys : List Y) (k : ℕ) (x : X) (y : Y) → k < length xs → ys ≡ map f xs → get_or ys k y ≡ f (get_or xs k x)
mapped_at f xs ys k x y lt same =
    get_or_from_slice_get ys k (f (get_or xs k x)) y (ap (λ zs. slice_get zs k) same ∙ slice_get-map f xs k ∙ rw (slice_get-get_or xs k x lt) refl)

-- a node further
module _ (nodes : List ℕ) (kinds : List Flow) (callees : List (Option ℕ)) (returning : List Bool) (k : ℕ) (edges new : List Edge) (b : Bool)
    (lt : k < length nodes) (flag : b ≡ flag_at returning (get_or callees k None)) (more : new ≡ edges ++ edges_of (get_or kinds k (flow.Branch 0)) (get_or nodes k 0) b) where
  pub edges_next : length kinds ≡ length nodes → AreEdgesOf k nodes kinds callees returning edges → AreEdgesOf (k + 1) nodes kinds callees returning new
  edges_next size are = record {
    edges_are = λ word words callee called.
        let w : get_or kinds k (flow.Branch 0) ≡ word (get_or nodes k 0) = mapped_at word nodes kinds k 0 (flow.Branch 0) lt words in
        let c : get_or callees k None ≡ callee (word (get_or nodes k 0)) = mapped_at callee kinds callees k (flow.Branch 0) None (omega arith) called ∙ ap callee w in
        more ∙ ap (λ es. es ++ edges_of (get_or kinds k (flow.Branch 0)) (get_or nodes k 0) b) (are.edges_are word words callee called)
        ∙ ap (λ e. flat_map (λ v. edges_of (word v) v (flag_at returning (callee (word v)))) (take k nodes) ++ edges_of e (get_or nodes k 0) b) w
        ∙ ap (λ r. flat_map (λ v. edges_of (word v) v (flag_at returning (callee (word v)))) (take k nodes) ++ edges_of (word (get_or nodes k 0)) (get_or nodes k 0) r) (flag ∙ ap (flag_at returning) c)
        ∙ flat_map_next (λ v. edges_of (word v) v (flag_at returning (callee (word v)))) nodes k 0 lt;
  }

  pub firsts_next : (firsts firsts' : List ℕ) (n : ℕ) → AreFirsts k nodes edges firsts → n ≡ length new → firsts' ≡ firsts ++ n ∷ [] → AreFirsts (k + 1) nodes new firsts'
  firsts_next firsts firsts' n are size pushed =
      let next = firsts_more k nodes edges firsts (edges_of (get_or kinds k (flow.Branch 0)) (get_or nodes k 0) b) are (λ x at. edges-at (get_or kinds k (flow.Branch 0)) (get_or nodes k 0) b x at) in
      subst (λ fs. AreFirsts (k + 1) nodes new fs) (sym (pushed ∙ ap (λ m. firsts ++ m ∷ []) size))
      (subst (λ es. AreFirsts (k + 1) nodes es (firsts ++ length es ∷ [])) (sym more) next)

  pub few_next : length edges ≤ 2 * k → length new ≤ 2 * (k + 1)
  few_next few =
      let size : length new ≡ length edges + length (edges_of (get_or kinds k (flow.Branch 0)) (get_or nodes k 0) b) = ap length more ∙ length-append edges (edges_of (get_or kinds k (flow.Branch 0)) (get_or nodes k 0) b) in
      let two = few_edges (get_or kinds k (flow.Branch 0)) (get_or nodes k 0) b in
      omega arith

pub edges_whole : (n : ℕ) (nodes : List ℕ) (kinds : List Flow) (callees : List (Option ℕ)) (returning : List Bool) (edges : List Edge) → length nodes ≡ n → AreEdgesOf n nodes kinds callees returning edges →
    (word : ℕ → Flow) → kinds ≡ map word nodes → (callee : Flow → Option ℕ) → callees ≡ map callee kinds → edges ≡ flat_map (λ v. edges_of (word v) v (flag_at returning (callee (word v)))) nodes
edges_whole n nodes kinds callees returning edges size are word words callee called =
    are.edges_are word words callee called ∙ ap (flat_map (λ v. edges_of (word v) v (flag_at returning (callee (word v))))) (take_all n nodes (omega arith))
