-- What the marks of words say of the reached addresses of a text.
use Rattle.std.proofs.Common.{◌≡◌, ◌≢◌, ℕ, ◌≤◌, length, Option, Some, None, refl, sym, ap, ◌∙◌, subst, arith, ◌⊎◌, inl, inr, ⊎_elim}
use Rattle.std.specs.Prelude.{slice_get}
use Rattle.std.proofs.lemmas.Bool.{cases_eq}
use Rattle.std.proofs.lemmas.Option.{slice_get_within}
use Rattle.cost_theory.specs.declared.flow.Flow.TheVariants as flow
use Rattle.cost_theory.specs.Reached.{Reached, HasNoBadWord, HasNoSharedCode}
use Rattle.code_graph.specs.declared.reach.marks.Mark.{Mark}
use Rattle.code_graph.specs.declared.reach.marks.Mark.TheVariants.{Unreached, Owner, Shared}
use Rattle.code_text.specs.Text.{Text, kind_at}
use Rattle.code_graph.specs.Reach.{Reach, WordStandsAt, IsReachOf}
use Rattle.flow_graph.specs.Refused.{IsReached, IsShared}
use Rattle.code_graph.specs.Steps.{IsWordTableOf}
use Rattle.code_graph.specs.Finding.{IsFirstBelow, IsRefusedWord, IsLesser, IsLeastBad}
use Rattle.flow_graph.proofs.Laws.{some_is, place_or_none}
use Rattle.code_graph.proofs.Lists.{beside, not_earlier}

module _ (t : Text) (r : Reach) (is : IsReachOf t r) (table : IsWordTableOf (kind_at t) r.words) where
  pub mark_of : (k v : ℕ) → WordStandsAt r.words k v → (m : Mark) × (slice_get r.marks k ≡ Some m)
  mark_of k v at = beside r.words.addresses r.marks k v is.marks_size at

  -- a word with a mark is reached
  marked_reached : (k v : ℕ) (m : Mark) → WordStandsAt r.words k v → slice_get r.marks k ≡ Some m → (slice_get r.marks k ≢ Some Unreached) → IsReached t v
  marked_reached k v Unreached at mark some = absurd (some mark)
  marked_reached k v (Owner f) at mark some = let o = is.owner k v f at mark in (o.0, o.2)
  marked_reached k v Shared at mark some = let s = is.shared k v at mark in (s.0, s.3)

  word_bad : (k v : ℕ) → WordStandsAt r.words k v → IsRefusedWord r k → IsReached t v × (kind_at t v ≡ flow.Refused)
  word_bad k v at refused =
      let m = mark_of k v at in
      (marked_reached k v m.0 at m.1 refused.1, some_is _ _ (sym (table.kinds k v at) ∙ refused.0))

  bad_word : (k v : ℕ) → WordStandsAt r.words k v → IsReached t v → kind_at t v ≡ flow.Refused → IsRefusedWord r k
  bad_word k v at reached bad = (table.kinds k v at ∙ ap Some bad, λ none. is.unreached k v at none reached)

  outside_bad : (v : ℕ) → r.outside ≡ Some v → IsReached t v × (kind_at t v ≡ flow.Refused)
  outside_bad v out = let o = is.outside v out in (o.0, ⊎_elim (λ bad. bad) (λ (place : (k : ℕ) × WordStandsAt r.words k v). absurd (o.1 place.0 place.1)) (table.whole v))

  -- a reached address that is refused is a word, or at least the least outside
  word_or_outside : (v : ℕ) → IsReached t v → ((k : ℕ) × WordStandsAt r.words k v) ⊎ ((u : ℕ) × (r.outside ≡ Some u) × (u ≤ v))
  word_or_outside v reached = ⊎_elim (λ place. inl place) (λ none. inr (is.outside_least v reached none)) (place_or_none r.words.addresses v)

  pub least_without : (o : Option ℕ) → r.outside ≡ o → IsFirstBelow (length r.words.addresses) (IsRefusedWord r) None → IsLeastBad t o
  least_without None out none = λ f v reached bad. ⊎_elim
      (λ (place : (k : ℕ) × WordStandsAt r.words k v). none place.0 (slice_get_within r.words.addresses place.0 v place.1) (bad_word place.0 v place.1 (f, reached) bad))
      (λ (u : (u : ℕ) × (r.outside ≡ Some u) × (u ≤ v)). let some = sym out ∙ u.1 in let no_way : ⊥ = cc in no_way)
      (word_or_outside v (f, reached))
  least_without (Some at) out none = (
    (outside_bad at out).0,
    (outside_bad at out).1,
    λ v reached less bad. ⊎_elim
        (λ (place : (k : ℕ) × WordStandsAt r.words k v). none place.0 (slice_get_within r.words.addresses place.0 v place.1) (bad_word place.0 v place.1 reached bad))
        (λ (u : (u : ℕ) × (r.outside ≡ Some u) × (u ≤ v)). let same : at ≡ u.0 = some_is at u.0 (sym out ∙ u.1) in let le = u.2 in omega arith)
        (word_or_outside v reached),
  )

  lesser_bad : (k a x : ℕ) (o : Option ℕ) → r.outside ≡ o → WordStandsAt r.words k a → IsRefusedWord r k → IsLesser a o x → IsReached t x × (kind_at t x ≡ flow.Refused)
  lesser_bad k a x None out at refused less = subst (λ y. IsReached t y × (kind_at t y ≡ flow.Refused)) (sym less) (word_bad k a at refused)
  lesser_bad k a x (Some other) out at refused less = ⊎_elim
      (λ (e : x ≡ a). subst (λ y. IsReached t y × (kind_at t y ≡ flow.Refused)) (sym e) (word_bad k a at refused))
      (λ (ne : x ≡ a → ⊥). subst (λ y. IsReached t y × (kind_at t y ≡ flow.Refused)) (sym (less.2 ne)) (outside_bad other out))
      (cases_eq x a)

  lesser_low : (a x : ℕ) (o : Option ℕ) → IsLesser a o x → (x ≤ a) × ((u : ℕ) → o ≡ Some u → x ≤ u)
  lesser_low a x None less = (omega arith, λ u e. let no_way : ⊥ = cc in absurd no_way)
  lesser_low a x (Some other) less = (less.0, λ u e. let same : other ≡ u = some_is other u e in let le = less.1 in omega arith)

  pub least_with : (k a x : ℕ) → IsFirstBelow (length r.words.addresses) (IsRefusedWord r) (Some k) → WordStandsAt r.words k a → IsLesser a r.outside x → IsLeastBad t (Some x)
  least_with k a x first at less =
      let bad = lesser_bad k a x r.outside refl at first.1 less in
      let low = lesser_low a x r.outside less in (
        bad.0,
        bad.1,
        λ v reached below is_bad. ⊎_elim
            (λ (place : (j : ℕ) × WordStandsAt r.words j v).
            let le : a ≤ v = not_earlier r.words.addresses table.rising k place.0 a v (λ jk. first.2 place.0 jk (bad_word place.0 v place.1 reached is_bad)) at place.1 in let more = low.0 in omega arith)
            (λ (u : (u : ℕ) × (r.outside ≡ Some u) × (u ≤ v)). let le = u.2 in let more = low.1 u.0 u.1 in omega arith)
            (word_or_outside v reached),
      )

  -- ---- where no word is refused
  module _ (fine : HasNoBadWord (kind_at t) t.entry) where
    pub word_place : (f v : ℕ) → Reached (kind_at t) t.entry f v → (k : ℕ) × WordStandsAt r.words k v
    word_place f v reached = ⊎_elim (λ bad. absurd (fine f v reached bad)) (λ place. place) (table.whole v)

    shared_mark : (k v : ℕ) (m : Mark) → WordStandsAt r.words k v → slice_get r.marks k ≡ Some m → IsShared t v → slice_get r.marks k ≡ Some Shared
    shared_mark k v Unreached at mark shared = absurd (is.unreached k v at mark (shared.0, shared.3))
    shared_mark k v (Owner f) at mark shared = let o = is.owner k v f at mark in absurd (shared.2 (o.3 shared.0 shared.3 ∙ sym (o.3 shared.1 shared.4)))
    shared_mark k v Shared at mark shared = mark

    shared_word : (v : ℕ) → IsShared t v → (k : ℕ) × WordStandsAt r.words k v × (slice_get r.marks k ≡ Some Shared)
    shared_word v shared =
        let place = word_place shared.0 v shared.3 in
        let m = mark_of place.0 v place.1 in
        (place.0, place.1, shared_mark place.0 v m.0 place.1 m.1 shared)

    pub first_is_least : (k a : ℕ) → IsFirstBelow (length r.marks) (λ j. slice_get r.marks j ≡ Some Shared) (Some k) → WordStandsAt r.words k a → IsShared t a × ((v : ℕ) → IsShared t v → a ≤ v)
    first_is_least k a first at = (
      is.shared k a at first.1,
      λ v shared. let w = shared_word v shared in not_earlier r.words.addresses table.rising k w.0 a v (λ jk. first.2 w.0 jk w.2) at w.1,
    )

    pub none_shared : IsFirstBelow (length r.marks) (λ j. slice_get r.marks j ≡ Some Shared) None → HasNoSharedCode (kind_at t) t.entry
    none_shared none f h v in_f in_h = ⊎_elim
        (λ (e : f ≡ h). e)
        (λ (ne : f ≡ h → ⊥). let w = shared_word v (f, h, ne, in_f, in_h) in absurd (none w.0 (slice_get_within r.marks w.0 Shared w.2) w.2))
        (cases_eq f h)

    -- where no code is shared, a reached address is a word with one owner
    pub owned : HasNoSharedCode (kind_at t) t.entry → (f v k : ℕ) → Reached (kind_at t) t.entry f v → WordStandsAt r.words k v → (g : ℕ) × (slice_get r.marks k ≡ Some (Owner g)) × WordStandsAt r.words g f
    owned apart f v k reached at = let m = mark_of k v at in go m.0 m.1
      where
        go : (m : Mark) → slice_get r.marks k ≡ Some m → (g : ℕ) × (slice_get r.marks k ≡ Some (Owner g)) × WordStandsAt r.words g f
        go Unreached mark = absurd (is.unreached k v at mark (f, reached))
        go (Owner g) mark = let o = is.owner k v g at mark in (g, mark, subst (WordStandsAt r.words g) (sym (o.3 f reached)) o.1)
        go Shared mark = let s = is.shared k v at mark in absurd (s.2 (apart s.0 s.1 v s.3 s.4))
