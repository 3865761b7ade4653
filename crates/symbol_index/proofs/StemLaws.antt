-- The keys of a stem among keys that rise, and what a look-up among them finds.
use Rattle.std.proofs.Common.{◌≡◌, ℕ, zero, suc, ◌+◌, ◌-◌, ◌*◌, ◌/◌, ◌<◌, ◌≤◌, Bool, true, false, not, ◌&&◌, cond, nat_lt, nat_eq, ◌⊎◌, ⊎_elim, List, [], ◌∷◌, ◌++◌, length, map, get_or, take, drop, refl, sym, ap, ◌∙◌, subst, arith, eqb-true, eq-eqb, get_or-take, get_or-drop}
use Rattle.std.specs.Prelude.{◌==◌, option_map}
use Rattle.std.proofs.lemmas.Bool.{cond-true, cond-false, ne_eqb, lt-ltb, le-ltb, cases_order, false≢true}
use Rattle.std.proofs.lemmas.List.{take-append-drop, length-take-le, length-drop, append-nil, map-append}
use Rattle.std.proofs.lemmas.List.Elements.{All-filter, All-map, filter-append, filter_agree}
use Rattle.std.proofs.lemmas.List.FromFn.{length-range_with_len, get_or-range_with_len}
use Rattle.std.specs.List.{All, filter, find, range_with_len, starts_with}
use Rattle.std.specs.List.Sorted.{IsStableBy, ties}
use Rattle.scale_base.specs.Bytes.{list_word_at}
use Rattle.scale_base.specs.Symbols.{is_named, stands_at, value_in}
use Rattle.symbol_index.specs.declared.stems.SymbolKey.{SymbolKey}
use Rattle.elf_image.specs.Table.{is_defined}
use Rattle.symbol_index.specs.Stems.{mixed, stem_from, stem_of, symbol_key, keys_of, has_stem, IsInTable, AreSortedKeys}
use Rattle.elf_image.proofs.Laws.{both_true}

abbrev no_key : SymbolKey
no_key = record { stem = 0; number = 0 }

abbrev key_at : List SymbolKey → ℕ → SymbolKey
key_at keys k = get_or keys k no_key

-- ---- the keys of a stem

filter_none : (stem : ℕ) (xs : List SymbolKey) → ((k : ℕ) → k < length xs → has_stem stem (key_at xs k) ≡ false) → filter (has_stem stem) xs ≡ []
filter_none stem [] h = refl
filter_none stem (x ∷ xs) h = cond-false _ _ _ (h zero (omega arith)) ∙ filter_none stem xs (λ k kl. h (suc k) (omega arith))

filter_whole : (stem : ℕ) (xs : List SymbolKey) → ((k : ℕ) → k < length xs → has_stem stem (key_at xs k) ≡ true) → filter (has_stem stem) xs ≡ xs
filter_whole stem [] h = refl
filter_whole stem (x ∷ xs) h = cond-true _ _ _ (h zero (omega arith)) ∙ ap (λ ys. x ∷ ys) (filter_whole stem xs (λ k kl. h (suc k) (omega arith)))

-- they stand between those below it and those above it
pub filter_between : (stem : ℕ) (xs rest : List SymbolKey) (i n : ℕ) → rest ≡ drop i xs → i ≤ length xs → n ≤ length rest →
    ((k : ℕ) → k < i → (key_at xs k).stem < stem) → ((k : ℕ) → i ≤ k → k < length xs → stem ≤ (key_at xs k).stem) →
    ((k : ℕ) → k < n → (key_at rest k).stem ≤ stem) → ((k : ℕ) → n ≤ k → k < length rest → stem < (key_at rest k).stem) →
    take n rest ≡ filter (has_stem stem) xs
filter_between stem xs rest i n cut il nl low high mid top =
    let size : length rest ≡ length xs - i = ap length cut ∙ length-drop i xs in
    let front : filter (has_stem stem) (take i xs) ≡ [] = filter_none stem (take i xs) (λ k kl.
    let tl : length (take i xs) ≡ i = length-take-le i xs il in
    let k_i : k < i = omega arith in
    let same : key_at (take i xs) k ≡ key_at xs k = get_or-take i xs k no_key k_i in
    let less : (key_at xs k).stem < stem = low k k_i in
    ne_eqb _ _ (λ e. let f : (key_at xs k).stem ≡ stem = sym (ap (λ h. h.stem) same) ∙ e in let no : ⊥ = omega arith in no)) in
    let middle : filter (has_stem stem) (take n rest) ≡ take n rest = filter_whole stem (take n rest) (λ k kl.
    let tl : length (take n rest) ≡ n = length-take-le n rest nl in
    let k_n : k < n = omega arith in
    let same : key_at (take n rest) k ≡ key_at rest k = get_or-take n rest k no_key k_n in
    let there : key_at rest k ≡ key_at xs (i + k) = ap (λ ys. key_at ys k) cut ∙ get_or-drop i xs k no_key in
    let most : (key_at rest k).stem ≤ stem = mid k k_n in
    let least : stem ≤ (key_at xs (i + k)).stem = high (i + k) (omega arith) (omega arith) in
    let f : (key_at rest k).stem ≡ (key_at xs (i + k)).stem = ap (λ h. h.stem) there in
    let g : (key_at rest k).stem ≡ stem = omega arith in
    eq-eqb _ _ (ap (λ h. h.stem) same ∙ g)) in
    let end : filter (has_stem stem) (drop n rest) ≡ [] = filter_none stem (drop n rest) (λ k kl.
    let dl : length (drop n rest) ≡ length rest - n = length-drop n rest in
    let same : key_at (drop n rest) k ≡ key_at rest (n + k) = get_or-drop n rest k no_key in
    let more : stem < (key_at rest (n + k)).stem = top (n + k) (omega arith) (omega arith) in
    ne_eqb _ _ (λ e. let f : (key_at rest (n + k)).stem ≡ stem = sym (ap (λ h. h.stem) same) ∙ e in let no : ⊥ = omega arith in no)) in
    let two : filter (has_stem stem) rest ≡ take n rest =
    ap (filter (has_stem stem)) (sym (take-append-drop n rest)) ∙ filter-append (has_stem stem) (take n rest) (drop n rest) ∙ ap (λ ys. filter (has_stem stem) (take n rest) ++ ys) end ∙ append-nil (filter (has_stem stem) (take n rest)) ∙ middle in
    sym (ap (filter (has_stem stem)) (sym (take-append-drop i xs)) ∙ filter-append (has_stem stem) (take i xs) (drop i xs) ∙ ap (λ ys. ys ++ filter (has_stem stem) (drop i xs)) front ∙ ap (filter (has_stem stem)) (sym cut) ∙ two)

abbrev tied : ℕ → SymbolKey → Bool
tied stem key = ties (λ (x y : SymbolKey). nat_lt x.stem y.stem) (record { stem = stem; number = 0 }) key

tied-is : (stem : ℕ) (key : SymbolKey) → tied stem key ≡ has_stem stem key
tied-is stem key = by_order stem key.stem
  where
    by_order : (a b : ℕ) → (not (nat_lt a b) && not (nat_lt b a)) ≡ nat_eq b a
    by_order a b = ⊎_elim
        (λ (e : a ≡ b). let q : nat_lt a b ≡ false = le-ltb a b (omega arith) in let r : nat_lt b a ≡ false = le-ltb b a (omega arith) in let t : nat_eq b a ≡ true = eq-eqb b a (sym e) in cc)
        (λ (o : (a < b) ⊎ (b < a)). ⊎_elim
        (λ (l : a < b). let q : nat_lt a b ≡ true = lt-ltb a b l in let t : nat_eq b a ≡ false = ne_eqb b a (λ e. let no : ⊥ = omega arith in no) in cc)
        (λ (l : b < a). let q : nat_lt b a ≡ true = lt-ltb b a l in let r : nat_lt a b ≡ false = le-ltb a b (omega arith) in let t : nat_eq b a ≡ false = ne_eqb b a (λ e. let no : ⊥ = omega arith in no) in cc)
        o)
        (cases_order a b)

-- a stable sort by the stem keeps the order of the keys of a stem
pub same_from_stable : (xs ys : List SymbolKey) → IsStableBy (λ (x y : SymbolKey). nat_lt x.stem y.stem) xs ys → (stem : ℕ) → filter (has_stem stem) ys ≡ filter (has_stem stem) xs
same_from_stable xs ys stable stem =
    sym (filter_agree (tied stem) (has_stem stem) (tied-is stem) ys) ∙ stable (record { stem = stem; number = 0 }) ∙ filter_agree (tied stem) (has_stem stem) (tied-is stem) xs

-- ---- the list of keys

range_suc : (a n : ℕ) → range_with_len a (suc n) ≡ range_with_len a n ++ (a + n) ∷ []
range_suc a zero = ap (λ (i : ℕ). i ∷ []) (let e : a ≡ a + 0 = omega arith in e)
range_suc a (suc n) = ap (λ (ks : List ℕ). a ∷ ks) (range_suc (a + 1) n ∙ ap (λ (i : ℕ). range_with_len (a + 1) n ++ i ∷ []) (let e : a + 1 + n ≡ a + suc n = omega arith in e))

-- the numbers of the entries before k, of those before the next, and the last of these
range_next : (k : ℕ) → 1 ≤ k → range_with_len 1 (k + 1 - 1) ≡ range_with_len 1 (k - 1) ++ k ∷ []
range_next k le =
    ap (range_with_len 1) (let e : k + 1 - 1 ≡ suc (k - 1) = omega arith in e) ∙ range_suc 1 (k - 1) ∙ ap (λ (i : ℕ). range_with_len 1 (k - 1) ++ i ∷ []) (let e : 1 + (k - 1) ≡ k = omega arith in e)

keys_next : (strings table : List ℕ) (k : ℕ) (some : List ℕ) → 1 ≤ k → filter (is_defined table) (k ∷ []) ≡ some → keys_of strings table (k + 1 - 1) ≡ map (symbol_key strings table) (filter (is_defined table) (range_with_len 1 (k - 1)) ++ some)
keys_next strings table k some le e =
    ap (map (symbol_key strings table)) (ap (filter (is_defined table)) (range_next k le) ∙ filter-append (is_defined table) (range_with_len 1 (k - 1)) (k ∷ []) ∙ ap (λ (ks : List ℕ). filter (is_defined table) (range_with_len 1 (k - 1)) ++ ks) e)

-- entry k is undefined
pub keys_pass : (strings table : List ℕ) (k : ℕ) → 1 ≤ k → is_defined table k ≡ false → keys_of strings table (k + 1 - 1) ≡ keys_of strings table (k - 1)
keys_pass strings table k le off =
    keys_next strings table k [] le (cond-false _ (k ∷ []) [] off) ∙ ap (map (symbol_key strings table)) (append-nil (filter (is_defined table) (range_with_len 1 (k - 1))))

-- entry k has a key
pub keys_take : (strings table : List ℕ) (k : ℕ) → 1 ≤ k → is_defined table k ≡ true → keys_of strings table (k + 1 - 1) ≡ keys_of strings table (k - 1) ++ symbol_key strings table k ∷ []
keys_take strings table k le on =
    keys_next strings table k (k ∷ []) le (cond-true _ (k ∷ []) [] on) ∙ map-append (symbol_key strings table) (filter (is_defined table) (range_with_len 1 (k - 1))) (k ∷ [])

-- each key of a stem is of an entry of the table
pub keys_in_table : (strings table : List ℕ) (keys : List SymbolKey) (stem : ℕ) → AreSortedKeys strings table keys → All (IsInTable (length table)) (filter (has_stem stem) keys)
keys_in_table strings table keys stem sorted =
    subst (λ (found : List SymbolKey). All (IsInTable (length table)) found) (sym (sorted.same stem))
    (All-filter (has_stem stem) (IsInTable (length table)) (keys_of strings table (length table / 16 - 1))
    (All-map (IsInTable (length table)) (symbol_key strings table) (filter (is_defined table) numbers)
    (All-filter (is_defined table) (λ (k : ℕ). 16 * k + 16 ≤ length table) numbers (λ k d lt.
    let few : length numbers ≡ length table / 16 - 1 = length-range_with_len 1 (length table / 16 - 1) in
    let is : get_or numbers k d ≡ 1 + k = get_or-range_with_len 1 (length table / 16 - 1) k d (omega arith) in
    let fits : 16 * (1 + k) + 16 ≤ length table = omega arith in
    subst (λ (j : ℕ). 16 * j + 16 ≤ length table) (sym is) fits))))
  where
    numbers : List ℕ
    numbers = range_with_len 1 (length table / 16 - 1)

-- ---- equal texts have equal stems

text_stem : (stem n : ℕ) (bytes name : List ℕ) → starts_with nat_eq bytes (name ++ 0 ∷ []) ≡ true → stem_from stem (take n bytes) ≡ stem_from stem (take n name)
text_stem stem zero bytes name e = refl
text_stem stem (suc n) [] [] e = absurd (false≢true e)
text_stem stem (suc n) [] (x ∷ xs) e = absurd (false≢true e)
text_stem stem (suc n) (y ∷ ys) [] e = cond-true _ _ _ (eq-eqb y 0 (sym (eqb-true 0 y (both_true (nat_eq 0 y) true e).0)))
text_stem stem (suc n) (y ∷ ys) (x ∷ xs) e =
    let parts = both_true (nat_eq x y) (starts_with nat_eq ys (xs ++ 0 ∷ [])) e in
    let same : x ≡ y = eqb-true x y parts.0 in
    let rest = text_stem (mixed stem x) n ys xs parts.1 in
    subst (λ (z : ℕ). cond (z == 0) stem (stem_from (mixed stem z) (take n ys)) ≡ cond (x == 0) stem (stem_from (mixed stem x) (take n xs))) same (ap (λ (s : ℕ). cond (x == 0) stem s) rest)

-- an entry with the name is defined, and its key has the stem of the name
pub named_key : (name strings table : List ℕ) (k : ℕ) → is_named name strings table k ≡ true → (is_defined table k ≡ true) × (has_stem (stem_of name) (symbol_key strings table k) ≡ true)
unfolding stem_of
named_key name strings table k e =
    let parts = both_true (is_defined table k) (stands_at name strings (list_word_at table (16 * k))) e in
    let stands = both_true _ (starts_with nat_eq (drop (list_word_at table (16 * k)) strings) (name ++ 0 ∷ [])) parts.1 in
    (parts.0, eq-eqb _ _ (text_stem _ 4096 (drop (list_word_at table (16 * k)) strings) name stands.1))

-- ---- what a look-up finds

-- a search among the numbers that have a key of a stem, where that has all that may be found
found_among : (named defined : ℕ → Bool) (key : ℕ → SymbolKey) (stem : ℕ) (value : ℕ → ℕ) → ((k : ℕ) → (key k).number ≡ k) →
    ((k : ℕ) → named k ≡ true → (defined k ≡ true) × (has_stem stem (key k) ≡ true)) → (ks : List ℕ) →
    option_map (λ (e : SymbolKey). value e.number) (find (λ (e : SymbolKey). named e.number) (filter (has_stem stem) (map key (filter defined ks)))) ≡ option_map value (find named ks)
found_among named defined key stem value number has [] = refl
found_among named defined key stem value number has (k ∷ ks) =
    by_cases (named k) (defined k) (has_stem stem (key k)) refl refl refl (found_among named defined key stem value number has ks)
  where
    by_cases : (a b c : Bool) → named k ≡ a → defined k ≡ b → has_stem stem (key k) ≡ c →
        option_map (λ (e : SymbolKey). value e.number) (find (λ (e : SymbolKey). named e.number) (filter (has_stem stem) (map key (filter defined ks)))) ≡ option_map value (find named ks) →
        option_map (λ (e : SymbolKey). value e.number) (find (λ (e : SymbolKey). named e.number) (filter (has_stem stem) (map key (filter defined (k ∷ ks))))) ≡ option_map value (find named (k ∷ ks))
    by_cases true false c ea eb ec rest = absurd (false≢true (sym eb ∙ (has k ea).0))
    by_cases true true false ea eb ec rest = absurd (false≢true (sym ec ∙ (has k ea).1))
    by_cases true true true ea eb ec rest = rw (eb, ec, number k, ea) refl
    by_cases false false c ea eb ec rest = rw (eb, ea) rest
    by_cases false true false ea eb ec rest = rw (eb, ec, ea) rest
    by_cases false true true ea eb ec rest = rw (eb, ec, number k, ea) rest

pub found : (name strings table : List ℕ) (keys : List SymbolKey) → AreSortedKeys strings table keys →
    option_map (λ (key : SymbolKey). list_word_at table (16 * key.number + 4)) (find (λ (key : SymbolKey). is_named name strings table key.number) (filter (has_stem (stem_of name)) keys)) ≡ value_in name strings table
found name strings table keys sorted = rw (sorted.same (stem_of name))
    (found_among (is_named name strings table) (is_defined table) (symbol_key strings table) (stem_of name) (λ k. list_word_at table (16 * k + 4)) (λ k. refl) (named_key name strings table) (range_with_len 1 (length table / 16 - 1)))
