-- The files that are wanted, one after another.
use Rattle.std.proofs.Common.{◌≡◌, ◌∙◌, ◌+◌, ◌-◌, ◌++◌, ◌<◌, ◌≤◌, ℕ, List, [], ◌∷◌, length, length-append, map, take, get_or, slice_get, option_map, Option, Some, None, inl, inr, refl, sym, ap, subst, arith}
use Rattle.std.specs.Borrow.{Bor}
use Rattle.std.proofs.lemmas.Option.{get_or_from_slice_get, slice_get-get_or, slice_get-map, slice_get_cases, slice_get_past, slice_get_within}
use Rattle.std.proofs.lemmas.List.{map-append, take_all, take_more}
use Rattle.host_runs.specs.declared.loading.Want.{Want}
use Rattle.host_runs.specs.Loading.{Wants}
use Rattle.host_runs.specs.Views.{want_views}
use Rattle.pace_tool.specs.Command.{input_wants}
use Rattle.pace_tool.specs.Views.{texts, want_view}

-- ---- inputs, each within a limit

module _ (limit : ℕ) where
  abbrev wanted : List ℕ → List ℕ × ℕ
  wanted name = (name, limit)

  input_of : (inputs : List (Bor (List ℕ))) (k : ℕ) → slice_get (input_wants limit (texts inputs)) k ≡ option_map wanted (option_map (λ word. word.now) (slice_get inputs k))
  input_of inputs k = slice_get-map wanted (texts inputs) k ∙ ap (option_map wanted) (slice_get-map (λ word. word.now) inputs k)

  pub input_read : (inputs : List (Bor (List ℕ))) (k : ℕ) (d : Bor (List ℕ)) (want : Want) → k < length inputs → want.name.now ≡ (get_or inputs k d).now → want.limit ≡ limit →
      Some (want_view want) ≡ slice_get (input_wants limit (texts inputs)) k
  input_read inputs k d want h name same =
      let is : want_view want ≡ wanted (get_or inputs k d).now = λ i. (name i, same i) in
      ap (λ (w : List ℕ × ℕ). Some w) is
      ∙ sym (input_of inputs k ∙ ap (λ (o : Option (Bor (List ℕ))). option_map wanted (option_map (λ word. word.now) o)) (slice_get-get_or inputs k d h))

  pub input_missed : (inputs : List (Bor (List ℕ))) (k : ℕ) → length inputs ≤ k → None ≡ slice_get (input_wants limit (texts inputs)) k
  input_missed inputs k h = sym (input_of inputs k ∙ ap (λ (o : Option (Bor (List ℕ))). option_map wanted (option_map (λ word. word.now) o)) (slice_get_past inputs k h))

-- ---- all of them, one after another

take_next : (wants : Wants) (k : ℕ) (want : List ℕ × ℕ) → slice_get wants k ≡ Some want → take (k + 1) wants ≡ take k wants ++ want ∷ []
take_next wants k want at =
    take_more wants k want (slice_get_within wants k want at) ∙ ap (λ (w : List ℕ × ℕ). take k wants ++ w ∷ []) (get_or_from_slice_get wants k want want at)

module _ (wants : Wants) (now : List Want) (k : ℕ) (count : k ≡ length now) where
  pub one_more : (new : List Want) (want : Want) → new ≡ now ++ want ∷ [] → Some (want_view want) ≡ slice_get wants k → want_views now ≡ take (length now) wants → want_views new ≡ take (length new) wants
  one_more new want pushed is so_far =
      let size : k + 1 ≡ length new = ap (λ n. n + 1) count ∙ sym (ap length pushed ∙ length-append now (want ∷ [])) in
      ap want_views pushed
      ∙ map-append want_view now (want ∷ [])
      ∙ ap (λ (ws : Wants). ws ++ want_view want ∷ []) (so_far ∙ ap (λ n. take n wants) (sym count))
      ∙ sym (take_next wants k (want_view want) (sym is))
      ∙ ap (λ n. take n wants) size

  pub fewer_left : (new : List Want) (want : Want) → new ≡ now ++ want ∷ [] → Some (want_view want) ≡ slice_get wants k → length wants - length new < length wants - length now
  fewer_left new want pushed is =
      let size : length new ≡ length now + 1 = ap length pushed ∙ length-append now (want ∷ []) in
      let within : k < length wants = slice_get_within wants k (want_view want) (sym is) in
      omega (arith, count, size, within)

  pub all_wanted : None ≡ slice_get wants k → want_views now ≡ take (length now) wants → want_views now ≡ wants
  all_wanted none so_far =
      elim (slice_get_cases wants k).1 [
        | inl some ↦ let at : slice_get wants k ≡ Some some.0 = some.2 in absurd cc
        | inr past ↦ so_far ∙ take_all (length now) wants (subst (λ n. length wants ≤ n) count past.0)
      ]
