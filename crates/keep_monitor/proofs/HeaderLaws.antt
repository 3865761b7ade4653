-- The headers at an address, among headers that rise, are all loops of that header.
use Rattle.std.proofs.Common.{◌≡◌, ℕ, zero, suc, ◌+◌, ◌-◌, ◌<◌, ◌≤◌, Bool, true, false, not, ◌&&◌, nat_lt, nat_eq, ◌⊎◌, ⊎_elim, List, [], ◌∷◌, ◌++◌, length, get_or, slice_get, Some, take, drop, refl, sym, ap, ◌∙◌, subst, arith, eqb-true, eq-eqb, get_or-take, get_or-drop}
use Rattle.std.proofs.lemmas.Bool.{cond-true, cond-false, ne_eqb, lt-ltb, le-ltb, cases_order}
use Rattle.std.proofs.lemmas.Option.{get_or_from_slice_get}
use Rattle.std.proofs.lemmas.List.{take-append-drop, length-take-le, length-drop, append-nil}
use Rattle.std.proofs.lemmas.List.Elements.{All-filter, filter-append, filter_agree, filter_passes}
use Rattle.std.proofs.lemmas.List.FromFn.{length-map-range_with_len, get_or-map-range_with_len, map-range_with_len_more}
use Rattle.std.proofs.lemmas.List.Kept.{AllPairs-filter}
use Rattle.std.specs.List.{All, AllPairs, filter}
use Rattle.std.specs.List.Sorted.{IsStableBy, ties}
use Rattle.loop_file.specs.declared.notes.LoopNote.{LoopNote}
use Rattle.loop_file.specs.Kept.{note_at}
use Rattle.keep_monitor.specs.declared.headers.Header.{Header}
use Rattle.keep_monitor.specs.Headers.{header_by_number, headers_of, is_of, sorted_header, AreLoopsOf}

abbrev no_header : Header
no_header = record { at = 0; number = 0 }

filter_none : (at : ℕ) (xs : List Header) → ((k : ℕ) → k < length xs → is_of at (sorted_header xs k) ≡ false) → filter (is_of at) xs ≡ []
filter_none at [] h = refl
filter_none at (x ∷ xs) h = cond-false _ _ _ (h zero (omega arith)) ∙ filter_none at xs (λ k kl. h (suc k) (omega arith))

filter_whole : (at : ℕ) (xs : List Header) → ((k : ℕ) → k < length xs → is_of at (sorted_header xs k) ≡ true) → filter (is_of at) xs ≡ xs
filter_whole at [] h = refl
filter_whole at (x ∷ xs) h = cond-true _ _ _ (h zero (omega arith)) ∙ ap (λ ys. x ∷ ys) (filter_whole at xs (λ k kl. h (suc k) (omega arith)))

-- the headers at an address stand between those below it and those above it
pub filter_between : (at : ℕ) (xs rest : List Header) (i n : ℕ) → rest ≡ drop i xs → i ≤ length xs → n ≤ length rest →
    ((k : ℕ) → k < i → (sorted_header xs k).at < at) → ((k : ℕ) → i ≤ k → k < length xs → at ≤ (sorted_header xs k).at) →
    ((k : ℕ) → k < n → (sorted_header rest k).at ≤ at) → ((k : ℕ) → n ≤ k → k < length rest → at < (sorted_header rest k).at) →
    take n rest ≡ filter (is_of at) xs
filter_between at xs rest i n cut il nl low high mid top =
    let size : length rest ≡ length xs - i = ap length cut ∙ length-drop i xs in
    let front : filter (is_of at) (take i xs) ≡ [] = filter_none at (take i xs) (λ k kl.
    let tl : length (take i xs) ≡ i = length-take-le i xs il in
    let k_i : k < i = omega arith in
    let same : sorted_header (take i xs) k ≡ sorted_header xs k = get_or-take i xs k no_header k_i in
    let less : (sorted_header xs k).at < at = low k k_i in
    ne_eqb _ _ (λ e. let f : (sorted_header xs k).at ≡ at = sym (ap (λ h. h.at) same) ∙ e in let no : ⊥ = omega arith in no)) in
    let middle : filter (is_of at) (take n rest) ≡ take n rest = filter_whole at (take n rest) (λ k kl.
    let tl : length (take n rest) ≡ n = length-take-le n rest nl in
    let k_n : k < n = omega arith in
    let same : sorted_header (take n rest) k ≡ sorted_header rest k = get_or-take n rest k no_header k_n in
    let there : sorted_header rest k ≡ sorted_header xs (i + k) = ap (λ ys. sorted_header ys k) cut ∙ get_or-drop i xs k no_header in
    let most : (sorted_header rest k).at ≤ at = mid k k_n in
    let least : at ≤ (sorted_header xs (i + k)).at = high (i + k) (omega arith) (omega arith) in
    let f : (sorted_header rest k).at ≡ (sorted_header xs (i + k)).at = ap (λ h. h.at) there in
    let g : (sorted_header rest k).at ≡ at = omega arith in
    eq-eqb _ _ (ap (λ h. h.at) same ∙ g)) in
    let end : filter (is_of at) (drop n rest) ≡ [] = filter_none at (drop n rest) (λ k kl.
    let dl : length (drop n rest) ≡ length rest - n = length-drop n rest in
    let same : sorted_header (drop n rest) k ≡ sorted_header rest (n + k) = get_or-drop n rest k no_header in
    let more : at < (sorted_header rest (n + k)).at = top (n + k) (omega arith) (omega arith) in
    ne_eqb _ _ (λ e. let f : (sorted_header rest (n + k)).at ≡ at = sym (ap (λ h. h.at) same) ∙ e in let no : ⊥ = omega arith in no)) in
    let two : filter (is_of at) rest ≡ take n rest =
    ap (filter (is_of at)) (sym (take-append-drop n rest)) ∙ filter-append (is_of at) (take n rest) (drop n rest) ∙ ap (λ ys. filter (is_of at) (take n rest) ++ ys) end ∙ append-nil (filter (is_of at) (take n rest)) ∙ middle in
    sym (ap (filter (is_of at)) (sym (take-append-drop i xs)) ∙ filter-append (is_of at) (take i xs) (drop i xs) ∙ ap (λ ys. ys ++ filter (is_of at) (drop i xs)) front ∙ ap (filter (is_of at)) (sym cut) ∙ two)

abbrev tied : ℕ → Header → Bool
tied at h = ties (λ (x y : Header). nat_lt x.at y.at) (record { at = at; number = 0 }) h

tied-is : (at : ℕ) (h : Header) → tied at h ≡ is_of at h
tied-is at h = by_order at h.at
  where
    by_order : (a b : ℕ) → (not (nat_lt a b) && not (nat_lt b a)) ≡ nat_eq b a
    by_order a b = ⊎_elim
        (λ (e : a ≡ b). let q : nat_lt a b ≡ false = le-ltb a b (omega arith) in let r : nat_lt b a ≡ false = le-ltb b a (omega arith) in let t : nat_eq b a ≡ true = eq-eqb b a (sym e) in cc)
        (λ (o : (a < b) ⊎ (b < a)). ⊎_elim
        (λ (l : a < b). let q : nat_lt a b ≡ true = lt-ltb a b l in let t : nat_eq b a ≡ false = ne_eqb b a (λ e. let no : ⊥ = omega arith in no) in cc)
        (λ (l : b < a). let q : nat_lt b a ≡ true = lt-ltb b a l in let r : nat_lt a b ≡ false = le-ltb a b (omega arith) in let t : nat_eq b a ≡ false = ne_eqb b a (λ e. let no : ⊥ = omega arith in no) in cc)
        o)
        (cases_order a b)

-- a stable sort by the address keeps the order of the headers at an address
pub same_from_stable : (xs ys : List Header) → IsStableBy (λ (x y : Header). nat_lt x.at y.at) xs ys → (at : ℕ) → filter (is_of at) ys ≡ filter (is_of at) xs
same_from_stable xs ys stable at =
    sym (filter_agree (tied at) (is_of at) (tied-is at) ys) ∙ stable (record { at = at; number = 0 }) ∙ filter_agree (tied at) (is_of at) (tied-is at) xs

kept_in : (at : ℕ) (xs : List Header) (k : ℕ) → k < length xs → is_of at (sorted_header xs k) ≡ true →
    (j : ℕ) × (j < length (filter (is_of at) xs)) × (sorted_header (filter (is_of at) xs) j ≡ sorted_header xs k)
kept_in at [] k kl h = let bad : ⊥ = omega arith in absurd bad
kept_in at (x ∷ xs) zero kl h =
    subst (λ (ys : List Header). (j : ℕ) × (j < length ys) × (sorted_header ys j ≡ x)) (sym (cond-true _ (x ∷ filter (is_of at) xs) (filter (is_of at) xs) h)) (0, omega arith, refl)
kept_in at (x ∷ xs) (suc k) kl h = go (is_of at x) refl (kept_in at xs k (omega arith) h)
  where
    go : (b : Bool) → is_of at x ≡ b → (j : ℕ) × (j < length (filter (is_of at) xs)) × (sorted_header (filter (is_of at) xs) j ≡ sorted_header xs k) →
        (j : ℕ) × (j < length (filter (is_of at) (x ∷ xs))) × (sorted_header (filter (is_of at) (x ∷ xs)) j ≡ sorted_header xs k)
    go true e found =
        subst (λ (ys : List Header). (j : ℕ) × (j < length ys) × (sorted_header ys j ≡ sorted_header xs k)) (sym (cond-true _ (x ∷ filter (is_of at) xs) (filter (is_of at) xs) e))
        (suc found.0, (let l = found.1 in omega (arith, l)), found.2)
    go false e found =
        subst (λ (ys : List Header). (j : ℕ) × (j < length ys) × (sorted_header ys j ≡ sorted_header xs k)) (sym (cond-false _ (x ∷ filter (is_of at) xs) (filter (is_of at) xs) e)) found

-- they are all loops of that header, each once, in their order
pub loops_from_filter : (notes : List LoopNote) (at : ℕ) (group : List Header) → group ≡ filter (is_of at) (headers_of notes (length notes)) → AreLoopsOf notes at group
loops_from_filter notes at group e = subst (AreLoopsOf notes at) (sym e) record {
  loops = record {
    within = λ j jl. (each j no_header jl).0;
    rise = λ i j il jl. pairs i j no_header il jl;
  };
  header = λ j jl. let here = (each j no_header jl).1 in let of = eqb-true _ _ (passes j no_header jl) in sym here ∙ of;
  whole = λ k kl h.
      let spot : sorted_header heads k ≡ header_by_number notes k = here k no_header kl in
      let found = kept_in at heads k (omega (arith, size)) (eq-eqb _ _ (ap (λ x. x.at) spot ∙ h)) in
      (found.0, found.1, ap (λ x. x.number) (found.2 ∙ spot));
}
  where
    heads : List Header
    heads = headers_of notes (length notes)

    size : length heads ≡ length notes
    size = length-map-range_with_len (header_by_number notes) 0 (length notes)

    here : (k : ℕ) (d : Header) → k < length notes → get_or heads k d ≡ header_by_number notes k
    here k d kl = get_or-map-range_with_len (header_by_number notes) 0 (length notes) k k d kl (omega arith)

    each : All (λ h. (h.number < length notes) × (h.at ≡ (note_at notes h.number).header)) (filter (is_of at) heads)
    each = All-filter (is_of at) (λ h. (h.number < length notes) × (h.at ≡ (note_at notes h.number).header)) heads (λ k d kl.
        let lt : k < length notes = omega (arith, size) in
        subst (λ (h : Header). (h.number < length notes) × (h.at ≡ (note_at notes h.number).header)) (sym (here k d lt)) (lt, refl))

    passes : All (λ h. is_of at h ≡ true) (filter (is_of at) heads)
    passes = filter_passes (is_of at) heads

    pairs : AllPairs (λ x y. x.number < y.number) (filter (is_of at) heads)
    pairs = AllPairs-filter (λ x y. x.number < y.number) (is_of at) heads (λ i j d il jl.
        let jn : j < length notes = omega (arith, size) in
        let first : (get_or heads i d).number ≡ i = ap (λ x. x.number) (here i d (omega arith)) in
        let second : (get_or heads j d).number ≡ j = ap (λ x. x.number) (here j d jn) in
        omega arith)

-- one header more
pub headers_more : (notes : List LoopNote) (xs ys : List Header) (k : ℕ) (note : LoopNote) → xs ≡ headers_of notes k → slice_get notes k ≡ Some note →
    ys ≡ xs ++ (record { at = note.header; number = k }) ∷ [] → ys ≡ headers_of notes (k + 1)
headers_more notes xs ys k note before at more =
    let same : note_at notes k ≡ note = get_or_from_slice_get notes k note _ at in
    let head : header_by_number notes k ≡ record { at = note.header; number = k } = ap (λ (n : LoopNote). record { at = n.header; number = k }) same in
    let next : headers_of notes (k + 1) ≡ headers_of notes k ++ header_by_number notes k ∷ [] = map-range_with_len_more (header_by_number notes) 0 k k (omega arith) in
    more ∙ ap (λ zs. zs ++ (record { at = note.header; number = k }) ∷ []) before ∙ sym (ap (λ h. headers_of notes k ++ h ∷ []) head) ∙ sym next
