-- From each header a closing path leads.
use Rattle.std.proofs.Common.{◌≡◌, ℕ, ◌<◌, Bool, true, false, inl, inr, List, [], ◌∷◌, ◌++◌, Option, Some, refl, sym, ap, ◌∙◌, subst, eq-eqb, ⊎_elim}
use Rattle.cost_theory.specs.Graph.{Graph, Loops, IsWalk, end_of, is_round, is_header, is_back, IsPlain, IsClosing}
use Rattle.cost_theory.specs.Accepted.{IsProgram, IsInBody, AreAccepted, StaysWithin}
use Rattle.cost_theory.proofs.Basics.{search_below, and_left, and_both}
use Rattle.cost_theory.proofs.Append.{leads_to_header}
use Rattle.cost_theory.proofs.Nesting.{some_same, header_held, one_loop, IsAtHeader, step_at_header, accepted_entered}

-- a plain path within loop k
abbrev pub IsPlainWithin : Graph → Loops → ℕ → Option ℕ → List ℕ → Type 0
IsPlainWithin g l k p [] = Unit {0}
IsPlainWithin g l k p (e ∷ es) = (e < g.edges) × (p ≡ Some (g.source e)) × IsPlain g l e × (is_round l k (g.target e) ≡ true) × IsPlainWithin g l k (g.target e) es

module _ (g : Graph) (l : Loops) (extent : ℕ → ℕ → Bool) (prog : IsProgram g) (acc : AreAccepted g l extent) where
  pub within_snoc : (k : ℕ) (es : List ℕ) (p : Option ℕ) (e : ℕ) → IsPlainWithin g l k p es → end_of g p es ≡ Some (g.source e) → e < g.edges → IsPlain g l e → is_round l k (g.target e) ≡ true →
      IsPlainWithin g l k p (es ++ e ∷ []) × (end_of g p (es ++ e ∷ []) ≡ g.target e)
  within_snoc k [] p e path ends lt plain round = ((lt, ends, plain, round, tt), refl)
  within_snoc k (x ∷ es) p e path ends lt plain round =
      let ih : IsPlainWithin g l k (g.target x) (es ++ e ∷ []) × (end_of g (g.target x) (es ++ e ∷ []) ≡ g.target e) = within_snoc k es (g.target x) e path.4 ends lt plain round in
      ((path.0, path.1, path.2, path.3, ih.0), ih.1)

  pub close_snoc : (k : ℕ) (es : List ℕ) (p : Option ℕ) (e : ℕ) → IsPlainWithin g l k p es → end_of g p es ≡ Some (g.source e) → e < g.edges → is_back g l k e ≡ true →
      IsClosing g l k p (es ++ e ∷ [])
  close_snoc k [] p e path ends lt back = (lt, ends, inl (back, refl))
  close_snoc k (x ∷ es) p e path ends lt back = (path.0, path.1, inr (path.2, path.3, close_snoc k es (g.target x) e path.4 ends lt back))

  -- a plain path within k into the body of j passes j's header
  pub within_to_header : (k j : ℕ) → j < l.loops → (es : List ℕ) (p : Option ℕ) (v : ℕ) → IsAtHeader l j p → IsPlainWithin g l k p es → end_of g p es ≡ Some v → l.inside j v ≡ true →
      (xs : List ℕ) × IsPlainWithin g l k p xs × (end_of g p xs ≡ Some (l.header j))
  within_to_header k j jl [] p v at path ends in_v =
      let r : is_round l j p ≡ true = subst (λ o. is_round l j o ≡ true) (sym ends) in_v in
      ([], tt, at r)
  within_to_header k j jl (e ∷ es) p v at path ends in_v = go (is_round l j p) refl
      (λ out. within_to_header k j jl es (g.target e) v (step_at_header g l extent prog (accepted_entered acc) e j path.0 jl out) path.4 ends in_v)
    where
      go : (b : Bool) → is_round l j p ≡ b →
          (l.inside j (g.source e) ≡ false → (xs : List ℕ) × IsPlainWithin g l k (g.target e) xs × (end_of g (g.target e) xs ≡ Some (l.header j))) →
          (xs : List ℕ) × IsPlainWithin g l k p xs × (end_of g p xs ≡ Some (l.header j))
      go true r ih = ([], tt, at r)
      go false r ih =
          let more : (xs : List ℕ) × IsPlainWithin g l k (g.target e) xs × (end_of g (g.target e) xs ≡ Some (l.header j)) = ih (subst (λ o. is_round l j o ≡ false) path.1 r) in
          (e ∷ more.0, (path.0, path.1, path.2, path.3, more.1), more.2)

  -- the header of k is in the body of j, whose header is in k, only as j's header
  pub header_at_header : (k j : ℕ) → k < l.loops → j < l.loops → l.inside k (l.header j) ≡ true → IsAtHeader l j (Some (l.header k))
  header_at_header k j kl jl j_in_k k_in_j = ap (λ i. Some (l.header i)) (one_loop g l extent prog (accepted_entered acc) k j kl jl j_in_k k_in_j)

  -- a nonempty walk within the extent from a node that a plain path within k reaches, to the header
  pub close_walk : (k : ℕ) → k < l.loops → extent k (l.header k) ≡ true → (es : List ℕ) (e : ℕ) (xs : List ℕ) →
      g.owner (g.source e) ≡ g.owner (l.header k) →
      IsPlainWithin g l k (Some (l.header k)) xs → end_of g (Some (l.header k)) xs ≡ Some (g.source e) →
      IsWalk g (Some (g.source e)) (e ∷ es) → end_of g (g.target e) es ≡ Some (l.header k) → StaysWithin g (extent k) (e ∷ es) →
      (zs : List ℕ) × IsClosing g l k (Some (l.header k)) zs
  close_walk k kl eh [] e xs owner path ends walk to stays =
      let in_u : l.inside k (g.source e) ≡ true = (acc.bodies k (g.source e) kl).1 (owner, eh, (e, [], walk, to, stays)) in
      let at : is_header l k (g.target e) ≡ true = subst (λ o. is_header l k o ≡ true) (sym to) (eq-eqb (l.header k) (l.header k) refl) in
      (xs ++ e ∷ [], close_snoc k xs (Some (l.header k)) e path ends walk.0 (and_both (l.inside k (g.source e)) (is_header l k (g.target e)) in_u at))
  close_walk k kl eh (d ∷ es) e xs owner path ends walk to stays = ⊎_elim
      (λ (b : (j : ℕ) × (j < l.loops) × (is_back g l j e ≡ true)).
      let in_j : l.inside b.0 (g.source e) ≡ true = and_left (l.inside b.0 (g.source e)) (is_header l b.0 (g.target e)) b.2 in
      let to_j : g.target e ≡ Some (l.header b.0) = leads_to_header g l e b.0 b.2 in
      let same : g.source d ≡ l.header b.0 = some_same _ _ (sym walk.2.1 ∙ to_j) in
      let j_in_k : l.inside k (l.header b.0) ≡ true = subst (λ u. l.inside k u ≡ true) same in_v in
      let ys : (xs : List ℕ) × IsPlainWithin g l k (Some (l.header k)) xs × (end_of g (Some (l.header k)) xs ≡ Some (l.header b.0)) =
      within_to_header k b.0 b.1 xs (Some (l.header k)) (g.source e) (header_at_header k b.0 kl b.1 j_in_k) path ends in_j in
      close_walk k kl eh es d ys.0 owner_d ys.1 (ys.2 ∙ ap Some (sym same)) onward to stays.1)
      (λ (plain : IsPlain g l e).
      let more : IsPlainWithin g l k (Some (l.header k)) (xs ++ e ∷ []) × (end_of g (Some (l.header k)) (xs ++ e ∷ []) ≡ g.target e) =
      within_snoc k xs (Some (l.header k)) e path ends walk.0 plain (subst (λ o. is_round l k o ≡ true) (sym walk.2.1) in_v) in
      close_walk k kl eh es d (xs ++ e ∷ []) owner_d more.0 (more.1 ∙ walk.2.1) onward to stays.1)
      (search_below l.loops (λ j. is_back g l j e))
    where
      in_u : l.inside k (g.source e) ≡ true
      in_u = (acc.bodies k (g.source e) kl).1 (owner, eh, (e, d ∷ es, walk, to, stays))

      owner_d : g.owner (g.source d) ≡ g.owner (l.header k)
      owner_d = (prog.stays e (g.source d) walk.0 walk.2.1).1 ∙ owner

      onward : IsWalk g (Some (g.source d)) (d ∷ es)
      onward = (walk.2.0, refl, walk.2.2)

      in_v : l.inside k (g.source d) ≡ true
      in_v = (acc.bodies k (g.source d) kl).1 (owner_d, eh, (d, es, onward, to, stays.1))

  pub header_closes : (k : ℕ) → k < l.loops → (zs : List ℕ) × IsClosing g l k (Some (l.header k)) zs
  header_closes k kl = go ((acc.bodies k (l.header k) kl).0 (header_held g l extent prog (accepted_entered acc) k kl))
    where
      go : IsInBody g (l.header k) (extent k) (l.header k) → (zs : List ℕ) × IsClosing g l k (Some (l.header k)) zs
      go b =
          let at : Some (l.header k) ≡ Some (g.source b.2.0) = b.2.2.1 in
          let eq : l.header k ≡ g.source b.2.0 = some_same _ _ at in
          close_walk k kl b.1 b.2.1 b.2.0 [] (ap g.owner (sym eq)) tt at (b.2.2.0, refl, b.2.2.2) b.2.3 b.2.4
