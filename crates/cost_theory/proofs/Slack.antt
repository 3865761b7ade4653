-- The slack of an edge is never negative.
use Rattle.std.proofs.Common.{◌≡◌, ◌≢◌, ℕ, ◌+◌, ◌<◌, ◌≤◌, Bool, true, false, inl, inr, nat_eq, List, [], ◌∷◌, Option, Some, None, refl, sym, ap, subst, arith, eqb-true, ⊎_elim}
use native.Mathlib.Decide.{ℕ_discrete}
use Rattle.cost_theory.specs.Graph.{Graph, Loops, total, only, is_round, is_header, is_back, IsPlain, IsPlainPath, IsClosing}
use Rattle.cost_theory.specs.Worst.{Numbers, IsGreatest, IsGreatestIfAny, charged, AreLoopNumbers, left_at, turn_back}
use Rattle.cost_theory.proofs.Basics.{search_below, term-le-sum, and_left, and_right, only_true}

-- what the slack wants of the loops: each way in leads to the header
pub record AreEnteredAtHeaders (g : Graph) (l : Loops) : Type 0 where
  pub holds_header : (k : ℕ) → k < l.loops → l.inside k (l.header k) ≡ true
  pub side : (e k v : ℕ) → e < g.edges → k < l.loops → g.target e ≡ Some v → l.inside k v ≡ true → l.inside k (g.source e) ≡ false → v ≡ l.header k

module _ (g : Graph) (l : Loops) (c : ℕ → ℕ) (n : Numbers) (nums : AreLoopNumbers g l c n) (ways : AreEnteredAtHeaders g l) where
  pub closing_present : (k v : ℕ) → k < l.loops → l.inside k v ≡ true → (es : List ℕ) → IsClosing g l k (Some v) es →
      (b : ℕ) × (n.closing k v ≡ Some b) × (total (charged g l n c) es ≤ b)
  closing_present k v lt inside es closes = go (n.closing k v) refl
    where
      go : (o : Option ℕ) → n.closing k v ≡ o → (b : ℕ) × (n.closing k v ≡ Some b) × (total (charged g l n c) es ≤ b)
      go None e = absurd ((subst (λ o. IsGreatestIfAny (IsClosing g l k (Some v)) (total (charged g l n c)) o) e (nums.closing k v lt inside)) es closes)
      go (Some b) e = (b, e, (subst (λ o. IsGreatestIfAny (IsClosing g l k (Some v)) (total (charged g l n c)) o) e (nums.closing k v lt inside)).most es closes)

  -- a closing path bounds what is left at its node: what is left at the header is gained for one iteration
  pub closing-left : (k v : ℕ) → k < l.loops → l.inside k v ≡ true → (es : List ℕ) → IsClosing g l k (Some v) es →
      total (charged g l n c) es + n.left (l.header k) ≤ n.left v + n.iteration k
  closing-left k v lt inside es closes = go (ℕ_discrete (l.header k) v)
    where
      go : Dec (l.header k ≡ v) → total (charged g l n c) es + n.left (l.header k) ≤ n.left v + n.iteration k
      go (yes e) =
          let at_header : IsClosing g l k (Some (l.header k)) es = subst (λ u. IsClosing g l k (Some u) es) (sym e) closes in
          let most : total (charged g l n c) es ≤ n.iteration k = (nums.iteration k lt).most es at_header in
          let q : n.left (l.header k) ≡ n.left v = ap n.left e in
          omega arith
      go (no ne) =
          let p : (b : ℕ) × (n.closing k v ≡ Some b) × (total (charged g l n c) es ≤ b) = closing_present k v lt inside es closes in
          let h : p.0 + n.left (l.header k) ≤ n.left v + n.iteration k = (nums.left v).over_closing k p.0 lt inside ne p.1 in
          let m : total (charged g l n c) es ≤ p.0 = p.2 in
          omega arith

  pub plain-left : (e : ℕ) → e < g.edges → IsPlain g l e → (es : List ℕ) → IsPlainPath g l (g.target e) es →
      charged g l n c e + total (charged g l n c) es ≤ n.left (g.source e)
  plain-left e lt plain es path =
      let most : charged g l n c e + total (charged g l n c) es ≤ n.plain (g.source e) =
      (nums.plain (g.source e)).most (e ∷ es) (lt, refl, plain, path) in
      let over : n.plain (g.source e) ≤ n.left (g.source e) = (nums.left (g.source e)).over_plain in
      omega arith

  -- along a plain edge
  pub slack_plain : (e : ℕ) → e < g.edges → IsPlain g l e →
      charged g l n c e + left_at n (g.target e) ≤ n.left (g.source e)
  slack_plain e lt plain = go (g.target e) refl
    where
      inner : (k v b : ℕ) → g.target e ≡ Some v → k < l.loops → l.inside k v ≡ true → l.header k ≢ v → n.closing k v ≡ Some b →
          n.left v + n.iteration k ≡ b + n.left (l.header k) → l.inside k (g.source e) ≡ true →
          charged g l n c e + n.left v ≤ n.left (g.source e)
      inner k v b to kl in_v ne is eq in_u =
          let best : IsGreatest (IsClosing g l k (Some v)) (total (charged g l n c)) b =
          subst (λ o. IsGreatestIfAny (IsClosing g l k (Some v)) (total (charged g l n c)) o) is (nums.closing k v kl in_v) in
          let closes : IsClosing g l k (g.target e) best.reached.0 = subst (λ o. IsClosing g l k o best.reached.0) (sym to) best.reached.1 in
          let round : is_round l k (g.target e) ≡ true = subst (λ o. is_round l k o ≡ true) (sym to) in_v in
          let h : charged g l n c e + total (charged g l n c) best.reached.0 + n.left (l.header k) ≤ n.left (g.source e) + n.iteration k =
          closing-left k (g.source e) kl in_u (e ∷ best.reached.0) (lt, refl, inr (plain, round, closes)) in
          let q : total (charged g l n c) best.reached.0 ≡ b = best.reached.2 in
          omega arith

      from_loop : (v k b : ℕ) → g.target e ≡ Some v → k < l.loops → l.inside k v ≡ true → l.header k ≢ v → n.closing k v ≡ Some b →
          n.left v + n.iteration k ≡ b + n.left (l.header k) →
          (t : Bool) → l.inside k (g.source e) ≡ t →
          charged g l n c e + n.left v ≤ n.left (g.source e)
      from_loop v k b to kl in_v ne is eq true et = inner k v b to kl in_v ne is eq et
      from_loop v k b to kl in_v ne is eq false et = absurd (ne (sym (ways.side e k v lt kl to in_v et)))

      go : (o : Option ℕ) → g.target e ≡ o → charged g l n c e + left_at n o ≤ n.left (g.source e)
      go None to =
          let p : IsPlainPath g l (g.target e) [] = tt in
          let h : charged g l n c e + 0 ≤ n.left (g.source e) = plain-left e lt plain [] p in
          h
      go (Some v) to = elim (nums.left v).attained [
        | inl eq ↦ (let r : (es : List ℕ) × IsPlainPath g l (Some v) es × (total (charged g l n c) es ≡ n.plain v) = (nums.plain v).reached in
            let path : IsPlainPath g l (g.target e) r.0 = subst (λ o. IsPlainPath g l o r.0) (sym to) r.1 in
            let h : charged g l n c e + total (charged g l n c) r.0 ≤ n.left (g.source e) = plain-left e lt plain r.0 path in
            let q : total (charged g l n c) r.0 ≡ n.plain v = r.2 in
            let a : n.left v ≡ n.plain v = eq in
            let fin : charged g l n c e + n.left v ≤ n.left (g.source e) = omega arith in fin)
        | inr m ↦ from_loop v m.0 m.1 to m.2 m.3 m.4 m.5 m.6 (l.inside m.0 (g.source e)) refl
      ]

  -- along a back edge one iteration more
  pub slack_back : (e k : ℕ) → e < g.edges → k < l.loops → is_back g l k e ≡ true →
      charged g l n c e + left_at n (g.target e) ≤ n.left (g.source e) + n.iteration k
  slack_back e k lt kl back = go (g.target e) refl
    where
      inside : l.inside k (g.source e) ≡ true
      inside = and_left (l.inside k (g.source e)) (is_header l k (g.target e)) back

      heads : is_header l k (g.target e) ≡ true
      heads = and_right (l.inside k (g.source e)) (is_header l k (g.target e)) back

      go : (o : Option ℕ) → g.target e ≡ o → charged g l n c e + left_at n o ≤ n.left (g.source e) + n.iteration k
      go None to = absurd (let no : false ≡ true = subst (λ o. is_header l k o ≡ true) to heads in let bad : ⊥ = cc in bad)
      go (Some v) to =
          let at_v : nat_eq v (l.header k) ≡ true = subst (λ o. is_header l k o ≡ true) to heads in
          let is : v ≡ l.header k = eqb-true v (l.header k) at_v in
          let h : charged g l n c e + 0 + n.left (l.header k) ≤ n.left (g.source e) + n.iteration k =
          closing-left k (g.source e) kl inside (e ∷ []) (lt, refl, inl (back, refl)) in
          let q : n.left v ≡ n.left (l.header k) = ap n.left is in
          omega arith

  -- the slack of an edge is never negative
  pub slack-le : (e : ℕ) → e < g.edges →
      charged g l n c e + left_at n (g.target e) ≤ n.left (g.source e) + turn_back g l n e
  slack-le e lt = ⊎_elim
      (λ (f : (k : ℕ) × (k < l.loops) × (is_back g l k e ≡ true)).
      let h : charged g l n c e + left_at n (g.target e) ≤ n.left (g.source e) + n.iteration f.0 = slack_back e f.0 lt f.1 f.2 in
      let t : only (is_back g l f.0 e) (n.iteration f.0) ≤ turn_back g l n e =
      term-le-sum l.loops (λ k. only (is_back g l k e) (n.iteration k)) f.0 f.1 in
      let q : only (is_back g l f.0 e) (n.iteration f.0) ≡ n.iteration f.0 = only_true (is_back g l f.0 e) (n.iteration f.0) f.2 in
      omega arith)
      (λ (none : (k : ℕ) → k < l.loops → is_back g l k e ≡ false).
      let h : charged g l n c e + left_at n (g.target e) ≤ n.left (g.source e) = slack_plain e lt none in
      omega arith)
      (search_below l.loops (λ k. is_back g l k e))
