-- An edge leaves at most one outermost counted loop, so at most one of its marks is a switch.
use Rattle.std.proofs.Common.{◌≡◌, ◌≢◌, ℕ, ◌+◌, ◌<◌, ◌≤◌, Bool, true, false, not, ◌&&◌, ◌||◌, nat_le, inl, inr, List, [], ◌∷◌, ◌++◌, length, Option, Some, None, refl, sym, ap, ◌∙◌, subst, arith, ⊎_elim}
use Rattle.cost_theory.specs.Graph.{Graph, Loops, leaves}
use Rattle.cost_theory.specs.Accepted.{IsProgram, AreAccepted, IsWithin}
use Rattle.std.proofs.lemmas.Bool.{cases_eq}
use Rattle.cost_theory.proofs.Laws.{and_left, and_right, accepted_entered, one_within}
use Rattle.scale_base.specs.declared.fragments.Mark.TheVariants.{Switch, Exit}
use Rattle.scale_sites.specs.Marks.{leaves_any, holds_left, is_outermost, mark_if, exits_from, switch_of, IsListedLoop, AreLoopsOnce, AreDistinctLoops}

leaves-inside : (l : Loops) (k u : ℕ) (p : Option ℕ) → leaves l k u p ≡ true → l.inside k u ≡ true
leaves-inside l k u None h = let bad : ⊥ = cc in absurd bad
leaves-inside l k u (Some v) h = and_left (l.inside k u) (not (l.inside k v)) h

-- a loop that is left and stands in the list is held
held : (g : Graph) (l : Loops) (e k j : ℕ) (js : List ℕ) → holds_left l (g.source e) (g.target e) k js ≡ true → IsListedLoop j js → leaves l j (g.source e) (g.target e) ≡ true → l.inside k (l.header j) ≡ true
held g l e k j [] h among left = absurd among
held g l e k j (i ∷ is) h among left = ⊎_elim
    (λ same. subst (λ x. l.inside k (l.header x) ≡ true) (sym same)
    (or-right (leaves l i (g.source e) (g.target e)) (l.inside k (l.header i)) (and_left (not (leaves l i (g.source e) (g.target e)) || l.inside k (l.header i)) (holds_left l (g.source e) (g.target e) k is) h) (subst (λ x. leaves l x (g.source e) (g.target e) ≡ true) same left)))
    (λ rest. held g l e k j is (and_right (not (leaves l i (g.source e) (g.target e)) || l.inside k (l.header i)) (holds_left l (g.source e) (g.target e) k is) h) rest left) among
  where
    or-right : (a b : Bool) → (not a || b) ≡ true → a ≡ true → b ≡ true
    or-right true b h t = h
    or-right false b h t = let bad : ⊥ = cc in absurd bad

module _ (g : Graph) (l : Loops) (extent : ℕ → ℕ → Bool) (prog : IsProgram g) (acc : AreAccepted g l extent) (counted : List ℕ) (loops : AreLoopsOnce l counted) where
  pub outermost-one : (e j k : ℕ) → e < g.edges → IsListedLoop j counted → IsListedLoop k counted → is_outermost l (g.source e) (g.target e) j counted ≡ true → is_outermost l (g.source e) (g.target e) k counted ≡ true → j ≡ k
  outermost-one e j k lt in_j in_k out_j out_k =
      let left_j : leaves l j (g.source e) (g.target e) ≡ true = and_left _ _ out_j in
      let left_k : leaves l k (g.source e) (g.target e) ≡ true = and_left _ _ out_k in
      let u_j : l.inside j (g.source e) ≡ true = leaves-inside l j (g.source e) (g.target e) left_j in
      let u_k : l.inside k (g.source e) ≡ true = leaves-inside l k (g.source e) (g.target e) left_k in
      let j_holds : l.inside j (l.header k) ≡ true = held g l e j k counted (and_right (leaves l j (g.source e) (g.target e)) (holds_left l (g.source e) (g.target e) j counted) out_j) in_k left_k in
      let k_holds : l.inside k (l.header j) ≡ true = held g l e k j counted (and_right (leaves l k (g.source e) (g.target e)) (holds_left l (g.source e) (g.target e) k counted) out_k) in_j left_j in
      ⊎_elim
      (λ (same : j ≡ k). same)
      (λ (other : j ≢ k). ⊎_elim
      (λ (within : IsWithin l j k). let no : l.inside j (l.header k) ≡ false = within.header in let bad : ⊥ = cc in absurd bad)
      (λ (within : IsWithin l k j). let no : l.inside k (l.header j) ≡ false = within.header in let bad : ⊥ = cc in absurd bad)
      (one_within g l extent prog (accepted_entered acc) j k (g.source e) (loops j in_j) (loops k in_k) other u_j u_k))
      (cases_eq j k)

  -- no exit where no loop of the list is the outermost
  none-from : (e i : ℕ) (ks : List ℕ) → ((k : ℕ) → IsListedLoop k ks → is_outermost l (g.source e) (g.target e) k counted ≡ false) → exits_from l (g.source e) (g.target e) counted i ks ≡ []
  none-from e i [] none = refl
  none-from e i (k ∷ ks) none = ap (λ b. mark_if b (Exit i) ++ exits_from l (g.source e) (g.target e) counted (i + 1) ks) (none k (inl refl)) ∙ none-from e (i + 1) ks (λ j h. none j (inr h))

  pub exits-one : (e i : ℕ) (ks : List ℕ) → e < g.edges → AreDistinctLoops ks → ((k : ℕ) → IsListedLoop k ks → IsListedLoop k counted) → length (exits_from l (g.source e) (g.target e) counted i ks) ≤ 1
  exits-one e i [] lt distinct within = omega arith
  exits-one e i (k ∷ ks) lt (new, distinct) within = go (is_outermost l (g.source e) (g.target e) k counted) refl (exits-one e (i + 1) ks lt distinct (λ j h. within j (inr h)))
    where
      go : (b : Bool) → is_outermost l (g.source e) (g.target e) k counted ≡ b → length (exits_from l (g.source e) (g.target e) counted (i + 1) ks) ≤ 1 → length (mark_if b (Exit i) ++ exits_from l (g.source e) (g.target e) counted (i + 1) ks) ≤ 1
      go true is rest =
          let none : exits_from l (g.source e) (g.target e) counted (i + 1) ks ≡ [] = none-from e (i + 1) ks (λ j h. other j h (is_outermost l (g.source e) (g.target e) j counted) refl) in
          let len : length (exits_from l (g.source e) (g.target e) counted (i + 1) ks) ≡ 0 = ap length none in
          omega arith
        where
          other : (j : ℕ) → IsListedLoop j ks → (b : Bool) → is_outermost l (g.source e) (g.target e) j counted ≡ b → is_outermost l (g.source e) (g.target e) j counted ≡ false
          other j h true out = absurd (new (subst (λ x. IsListedLoop x ks) (outermost-one e j k lt (within j (inr h)) (within k (inl refl)) out is) h))
          other j h false out = out
      go false is rest = rest

  -- and a switch stands only where no counted loop is left
  left-none : (e i : ℕ) (ks : List ℕ) → leaves_any l (g.source e) (g.target e) ks ≡ false → exits_from l (g.source e) (g.target e) counted i ks ≡ []
  left-none e i [] h = refl
  left-none e i (k ∷ ks) h =
      let here : leaves l k (g.source e) (g.target e) ≡ false = or-left (leaves l k (g.source e) (g.target e)) (leaves_any l (g.source e) (g.target e) ks) h in
      let rest : leaves_any l (g.source e) (g.target e) ks ≡ false = or-rest (leaves l k (g.source e) (g.target e)) (leaves_any l (g.source e) (g.target e) ks) h in
      let out : is_outermost l (g.source e) (g.target e) k counted ≡ false = ap (λ b. b && holds_left l (g.source e) (g.target e) k counted) here in
      ap (λ b. mark_if b (Exit i) ++ exits_from l (g.source e) (g.target e) counted (i + 1) ks) out ∙ left-none e (i + 1) ks rest
    where
      or-left : (a b : Bool) → (a || b) ≡ false → a ≡ false
      or-left true b h = h
      or-left false b h = refl

      or-rest : (a b : Bool) → (a || b) ≡ false → b ≡ false
      or-rest true b h = let bad : ⊥ = cc in absurd bad
      or-rest false b h = h

  pub switches-one : (e : ℕ) (branch : Bool) (slack min_gain i : ℕ) → e < g.edges → AreDistinctLoops counted → length (switch_of l (g.source e) (g.target e) counted branch slack min_gain ++ exits_from l (g.source e) (g.target e) counted i counted) ≤ 1
  switches-one e branch slack min_gain i lt distinct = go branch (leaves_any l (g.source e) (g.target e) counted) refl (nat_le min_gain slack)
    where
      go : (b a : Bool) → leaves_any l (g.source e) (g.target e) counted ≡ a → (s : Bool) → length (mark_if (b && (not a && s)) Switch ++ exits_from l (g.source e) (g.target e) counted i counted) ≤ 1
      go true true is s = exits-one e i counted lt distinct (λ k h. h)
      go true false is true =
          let none : exits_from l (g.source e) (g.target e) counted i counted ≡ [] = left-none e i counted is in
          let len : length (exits_from l (g.source e) (g.target e) counted i counted) ≡ 0 = ap length none in
          omega arith
      go true false is false = exits-one e i counted lt distinct (λ k h. h)
      go false a is s = exits-one e i counted lt distinct (λ k h. h)
