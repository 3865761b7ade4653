-- The nodes of a body and their marks.
use Rattle.std.proofs.Common.{◌≡◌, ◌≢◌, ℕ, zero, suc, ◌+◌, ◌<◌, ◌≤◌, ◌↔◌, Bool, true, false, List, [], ◌∷◌, ◌++◌, length, refl, sym, ap, ◌∙◌, subst, arith, Option, Some, ◌⊎◌, inl, inr, ⊎_elim, set, get_or-set_same, get_or-set_other, length-append}
use Rattle.std.specs.Prelude.{slice_get, if◌then◌else◌}
use Rattle.std.proofs.lemmas.Bool.{cases_eq, both_ways}
use Rattle.std.proofs.lemmas.Option.{slice_get_within}
use Rattle.graph_algorithms.specs.Bodies.{HasEdge, LeadsWithin, IsIn}
use Rattle.graph_algorithms.specs.Bodies.LeadsWithin.{at_once, onward}
use Rattle.graph_algorithms.specs.BodySearch.{is_marked_at, AreUnmarked, count_marked, IsMarkedBody, BodyGrows, IsSettled}

-- ---- one node behind a list
pub push_front : (xs : List ℕ) (x p : ℕ) → p < length xs → slice_get (xs ++ x ∷ []) p ≡ slice_get xs p
push_front [] x p lt = let bad : ⊥ = omega arith in absurd bad
push_front (y ∷ ys) x zero lt = refl
push_front (y ∷ ys) x (suc p) lt = push_front ys x p (omega arith)

push_last : (xs : List ℕ) (x : ℕ) → slice_get (xs ++ x ∷ []) (length xs) ≡ Some x
push_last [] x = refl
push_last (y ∷ ys) x = push_last ys x

pub push_cases : (xs : List ℕ) (x p v : ℕ) → slice_get (xs ++ x ∷ []) p ≡ Some v → (slice_get xs p ≡ Some v) ⊎ ((p ≡ length xs) × (v ≡ x))
push_cases [] x zero v h = let same : x ≡ v = cc in inr (refl, sym same)
push_cases [] x (suc p) v h = let bad : ⊥ = cc in absurd bad
push_cases (y ∷ ys) x zero v h = inl h
push_cases (y ∷ ys) x (suc p) v h = ⊎_elim (λ old. inl old) (λ new. let at = new.0 in inr ((let r : suc p ≡ length (y ∷ ys) = omega arith in r), new.1)) (push_cases ys x p v h)

-- ---- marks
pub flag_within : (found : List Bool) (v : ℕ) → is_marked_at found v ≡ true → v < length found
flag_within [] v h = let bad : ⊥ = cc in absurd bad
flag_within (b ∷ bs) zero h = omega arith
flag_within (b ∷ bs) (suc v) h = let ih = flag_within bs v h in omega arith

flag_here : (found : List Bool) (j : ℕ) (b : Bool) → j < length found → is_marked_at (set found j b) j ≡ b
flag_here found j b lt = get_or-set_same found j b false lt

flag_other : (found : List Bool) (j v : ℕ) (b : Bool) → v ≢ j → is_marked_at (set found j b) v ≡ is_marked_at found v
flag_other found j v b ne = get_or-set_other found j v b false ne

flag_kept : (found : List Bool) (j v : ℕ) → j < length found → is_marked_at found v ≡ true → is_marked_at (set found j true) v ≡ true
flag_kept found j v lt h = ⊎_elim (λ (e : v ≡ j). ap (is_marked_at (set found j true)) e ∙ flag_here found j true lt) (λ ne. flag_other found j v true ne ∙ h) (cases_eq v j)

flag_cases : (found : List Bool) (j v : ℕ) → is_marked_at (set found j true) v ≡ true → (is_marked_at found v ≡ true) ⊎ (v ≡ j)
flag_cases found j v h = ⊎_elim (λ e. inr e) (λ ne. inl (sym (flag_other found j v true ne) ∙ h)) (cases_eq v j)

count_add : (found : List Bool) (j : ℕ) → j < length found → is_marked_at found j ≡ false → count_marked (set found j true) ≡ count_marked found + 1
count_add [] j lt none = let bad : ⊥ = omega arith in absurd bad
count_add (true ∷ bs) zero lt none = let bad : ⊥ = cc in absurd bad
count_add (false ∷ bs) zero lt none = omega arith
count_add (b ∷ bs) (suc j) lt none = let ih = count_add bs j (omega arith) none in ap (λ n. (if b then 1 else 0) + n) ih ∙ omega arith

count_le : (found : List Bool) → count_marked found ≤ length found
count_le [] = omega arith
count_le (true ∷ bs) = let ih = count_le bs in omega arith
count_le (false ∷ bs) = let ih = count_le bs in omega arith

pub body_small : (found : List Bool) (body : List ℕ) → IsMarkedBody found body → length body ≤ length found
body_small found body marked = let a = marked.counted in let b = count_le found in omega arith

module _ (found : List Bool) (body : List ℕ) (node : ℕ) (was : IsMarkedBody found body) (lt : node < length found) where
  pub grows_add : BodyGrows found body (set found node true) (body ++ node ∷ [])
  grows_add = record {
    kept = λ v h. flag_kept found node v lt h;
    longer = (let n = length-append body (node ∷ []) in omega arith);
    front = λ p pl. push_front body node p pl;
  }

  pub marked_add : is_marked_at found node ≡ false → IsMarkedBody (set found node true) (body ++ node ∷ [])
  marked_add none = record {
    listed = λ v h. ⊎_elim
        (λ (f : is_marked_at found v ≡ true). let w = was.listed v f in (w.0, push_front body node w.0 (slice_get_within body w.0 v w.1) ∙ w.1))
        (λ (e : v ≡ node). (length body, push_last body node ∙ ap Some (sym e)))
        (flag_cases found node v h);
    flagged = λ p v h. ⊎_elim
        (λ (old : slice_get body p ≡ Some v). flag_kept found node v lt (was.flagged p v old))
        (λ (new : (p ≡ length body) × (v ≡ node)). ap (is_marked_at (set found node true)) new.1 ∙ flag_here found node true lt)
        (push_cases body node p v h);
    once = λ i j v hi hj. ⊎_elim
        (λ (old : slice_get body i ≡ Some v). ⊎_elim
        (λ (also : slice_get body j ≡ Some v). was.once i j v old also)
        (λ (new : (j ≡ length body) × (v ≡ node)). absurd (apart i v old new.1))
        (push_cases body node j v hj))
        (λ (new : (i ≡ length body) × (v ≡ node)). ⊎_elim
        (λ (old : slice_get body j ≡ Some v). absurd (apart j v old new.1))
        (λ (also : (j ≡ length body) × (v ≡ node)). new.0 ∙ sym also.0)
        (push_cases body node j v hj))
        (push_cases body node i v hi);
    counted = (let n = length-append body (node ∷ []) in let k = count_add found node lt none in let c = was.counted in omega arith);
  }
    where
      apart : (i v : ℕ) → slice_get body i ≡ Some v → v ≡ node → ⊥
      apart i v old e = both_ways (is_marked_at found v) (ap (is_marked_at found) e ∙ none) (was.flagged i v old)

pub grows_then : (f g h : List Bool) (b c d : List ℕ) → BodyGrows f b g c → BodyGrows g c h d → BodyGrows f b h d
grows_then f g h b c d one two = record {
  kept = λ v k. two.kept v (one.kept v k);
  longer = (let x = one.longer in let y = two.longer in omega arith);
  front = λ p lt. two.front p (let x = one.longer in omega arith) ∙ one.front p lt;
}

-- ---- no marks
none_count : (found : List Bool) → AreUnmarked found → count_marked found ≡ 0
none_count [] none = refl
none_count (true ∷ bs) none = let f = none 0 in let bad : ⊥ = cc in absurd bad
none_count (false ∷ bs) none = let ih = none_count bs (λ v. none (suc v)) in omega arith

pub marked_none : (found : List Bool) (body : List ℕ) → AreUnmarked found → body ≡ [] → IsMarkedBody found body
marked_none found body none empty = record {
  listed = λ v h. absurd (both_ways (is_marked_at found v) (none v) h);
  flagged = λ p v h. absurd (no_node p v h);
  once = λ i j v hi hj. absurd (no_node i v hi);
  counted = none_count found none ∙ sym (ap length empty);
}
  where
    no_node : (p v : ℕ) → slice_get body p ≡ Some v → ⊥
    no_node p v h = let e : slice_get [] p ≡ Some v = ap (λ xs. slice_get xs p) (sym empty) ∙ h in (cc)

-- the marks that are left are those of the body's nodes from a place on
abbrev pub AreLeft : List Bool → List ℕ → ℕ → Type 0
AreLeft found body index = (v : ℕ) → is_marked_at found v ≡ true → (p : ℕ) × (index ≤ p) × (slice_get body p ≡ Some v)

pub left_next : (found : List Bool) (body : List ℕ) (index node : ℕ) → node < length found → slice_get body index ≡ Some node → AreLeft found body index → AreLeft (set found node false) body (index + 1)
left_next found body index node lt at left v h = ⊎_elim
    (λ (e : v ≡ node). absurd (both_ways (is_marked_at (set found node false) v) (ap (is_marked_at (set found node false)) e ∙ flag_here found node false lt) h))
    (λ (ne : v ≡ node → ⊥).
    let d : v ≢ node = ne in
    let w = left v (sym (flag_other found node v false d) ∙ h) in
    ⊎_elim
    (λ (e : w.0 ≡ index). absurd (ne (let q : Some v ≡ Some node = sym w.2 ∙ (ap (slice_get body) e ∙ at) in let same : v ≡ node = cc in same)))
    (λ (other : w.0 ≡ index → ⊥). let o : w.0 ≢ index = other in let a = w.1 in (w.0, (let r : index + 1 ≤ w.0 = omega arith in r), w.2))
    (cases_eq w.0 index))
    (cases_eq v node)

pub left_end : (found : List Bool) (body : List ℕ) (index : ℕ) → length body ≤ index → AreLeft found body index → AreUnmarked found
left_end found body index end left v = go (is_marked_at found v) refl
  where
    go : (b : Bool) → is_marked_at found v ≡ b → is_marked_at found v ≡ false
    go false e = e
    go true e = let w = left v e in let a = w.1 in let lt = slice_get_within body w.0 v w.2 in absurd (let bad : ⊥ = omega arith in bad)

-- ---- the search
module _ (sources : List ℕ) (targets : List (Option ℕ)) (extent : ℕ → Bool) (header : ℕ) where
  -- the nodes of a body lead to the header
  abbrev pub AreSound : List ℕ → Type 0
  AreSound body = (p v : ℕ) → slice_get body p ≡ Some v → LeadsWithin sources targets extent header v

  -- those below a place are settled
  abbrev pub AreSettled : List Bool → List ℕ → ℕ → Type 0
  AreSettled found body done = (p u : ℕ) → p < done → slice_get body p ≡ Some u → IsSettled sources targets extent found u

  pub settled_grows : (f g : List Bool) (b c : List ℕ) (u : ℕ) → BodyGrows f b g c → IsSettled sources targets extent f u → IsSettled sources targets extent g u
  settled_grows f g b c u grows settled v edge inside = grows.kept v (settled v edge inside)

  pub settled_next : (f g : List Bool) (b c : List ℕ) (done node : ℕ) → BodyGrows f b g c → done < length b → slice_get b done ≡ Some node → IsSettled sources targets extent g node → AreSettled f b done → AreSettled g c (done + 1)
  settled_next f g b c done node grows lt at this settled p u pl h = ⊎_elim
      (λ (e : p ≡ done).
      let q : Some node ≡ Some u = sym at ∙ (sym (grows.front done lt) ∙ (ap (slice_get c) (sym e) ∙ h)) in
      let same : node ≡ u = cc in
      subst (λ x. IsSettled sources targets extent g x) same this)
      (λ (ne : p ≡ done → ⊥).
      let d : p ≢ done = ne in
      settled_grows f g b c u grows (settled p u (let q : p < done = omega arith in q) (sym (grows.front p (let q : p < length b = omega arith in q)) ∙ h)))
      (cases_eq p done)

  pub sound_next : (b c : List ℕ) (done node : ℕ) → slice_get b done ≡ Some node → ((p v : ℕ) → slice_get c p ≡ Some v → (slice_get b p ≡ Some v) ⊎ (HasEdge sources targets v node × (extent v ≡ true))) → AreSound b → AreSound c
  sound_next b c done node at only sound p v h = ⊎_elim (λ old. sound p v old) (λ (new : HasEdge sources targets v node × (extent v ≡ true)). onward node new.0 new.1 (sound done node at)) (only p v h)

  pub sound_start : (b c : List ℕ) → b ≡ [] → ((p v : ℕ) → slice_get c p ≡ Some v → (slice_get b p ≡ Some v) ⊎ (HasEdge sources targets v header × (extent v ≡ true))) → AreSound c
  sound_start b c empty only p v h = ⊎_elim
      (λ (old : slice_get b p ≡ Some v). absurd (let e : slice_get [] p ≡ Some v = ap (λ xs. slice_get xs p) (sym empty) ∙ old in let bad : ⊥ = cc in bad))
      (λ (new : HasEdge sources targets v header × (extent v ≡ true)). at_once new.0 new.1) (only p v h)

  -- where all are settled, each node that leads to the header is marked
  complete : (found : List Bool) → ((u : ℕ) → is_marked_at found u ≡ true → IsSettled sources targets extent found u) → IsSettled sources targets extent found header → (v : ℕ) → LeadsWithin sources targets extent header v → is_marked_at found v ≡ true
  complete found settled start v (at_once edge inside) = start v edge inside
  complete found settled start v (onward u edge inside leads) = settled u (complete found settled start u leads) v edge inside

  pub nodes_exactly : (found : List Bool) (body : List ℕ) (done : ℕ) → length body ≤ done → IsMarkedBody found body → AreSound body → IsSettled sources targets extent found header → AreSettled found body done → (v : ℕ) → IsIn body v ↔ LeadsWithin sources targets extent header v
  nodes_exactly found body done end marked sound start settled v = (
    λ w. sound w.0 v w.1,
    λ leads. marked.listed v (complete found
        (λ u f. let w = marked.listed u f in settled w.0 u (let lt = slice_get_within body w.0 u w.1 in let q : w.0 < done = omega arith in q) w.1) start v leads),
  )
