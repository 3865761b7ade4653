-- Pages by their numbers, and the bytes that they stand for.
use Rattle.std.proofs.Common.{rules, ◌≡◌, ℕ, zero, suc, ◌+◌, ◌-◌, ◌*◌, ◌/◌, ◌%◌, ◌^◌, ◌<◌, ◌≤◌, Bool, true, false, List, [], ◌∷◌, length, get_or, set, Option, Some, None, is_some, refl, ap, sym, ◌∙◌, subst, arith, inl, inr, vec_len, get_or-set_same, get_or-set_other, length-set}
use Rattle.std.specs.Prelude.{slice_index, slice_index_or, slice_set, ◌==◌, if◌then◌else◌}
use Rattle.std.proofs.Math.Path.{fun_ext}
use Rattle.std.proofs.lemmas.Bool.{cond-true, cond-false, cases_eq, eq-eqb, ne_eqb}
use Rattle.scale_base.specs.State.{with_byte, with_word, word_at}
use Rattle.scale_base.specs.Layout.{Layout, each_byte, may_read, may_write}
use Rattle.scale_base.proofs.Laws.{each_byte_none, each_byte_more, each_byte_false}
use Rattle.flat_memory.specs.Pages.{put_byte, put_word, reads_in, writes_in, UseHolds}
use Rattle.flat_memory.specs.PageTables.{use_of, bytes_of_page, IsPut, IsPutAt, page_in, page_at, paged_bytes}
use Rattle.flat_memory.specs.declared.page.Page.{Page}
use Rattle.flat_memory.specs.declared.page_table.PageGroup.{PageGroup}
use Rattle.flat_memory.proofs.Chosen.{written_same, written_other}

-- ---- one of a list

pub some_index : {A : Type 0} (xs : List A) (k : ℕ) (d e : A) → k < length xs → get_or xs k d ≡ get_or xs k e
some_index [] k d e lt = absurd (omega arith)
some_index (x ∷ xs) zero d e lt = refl
some_index (x ∷ xs) (suc k) d e lt = some_index xs k d e (omega arith)

-- the element of an index is one, whatever stands for one that is missing
pub one_index : {A : Type 0} (xs : List A) (k : ℕ) (o d : A) → k < length xs → o ≡ get_or xs k o → get_or xs k d ≡ o
one_index xs k o d lt is = some_index xs k d o lt ∙ sym is

-- ---- the page of a number

pub page_found : (groups : List (Option PageGroup)) (n : ℕ) (o : Option PageGroup) → n / 1024 < length groups → o ≡ get_or groups (n / 1024) o → page_at groups n ≡ page_in o (n % 1024)
unfolding page_at
page_found groups n o lt is = ap (λ g. page_in g (n % 1024)) (one_index groups (n / 1024) o None lt is)

page_set : (groups : List (Option PageGroup)) (n : ℕ) (o : Option PageGroup) (m : ℕ) → n / 1024 < length groups → m / 1024 ≡ n / 1024 → page_at (set groups (n / 1024) o) m ≡ page_in o (m % 1024)
unfolding page_at
page_set groups n o m lt e =
    ap (λ k. page_in (get_or (set groups (n / 1024) o) k None) (m % 1024)) e ∙ ap (λ g. page_in g (m % 1024)) (get_or-set_same groups (n / 1024) o None lt)

page_unset : (groups : List (Option PageGroup)) (k : ℕ) (o : Option PageGroup) (m : ℕ) → (m / 1024 ≡ k → ⊥) → page_at (set groups k o) m ≡ page_at groups m
unfolding page_at
page_unset groups k o m ne = ap (λ g. page_in g (m % 1024)) (get_or-set_other groups k (m / 1024) o None ne)

-- a group with another page in the place of one
pub put_some : (groups : List (Option PageGroup)) (n : ℕ) (o : Option PageGroup) (g h : PageGroup) (change : List ℕ → List ℕ) → n / 1024 < length groups → o ≡ get_or groups (n / 1024) o → o ≡ Some g →
    IsPut (get_or g.pages.items (n % 1024) None) (get_or h.pages.items (n % 1024) None) change →
    ((j : ℕ) → (j ≡ n % 1024 → ⊥) → get_or h.pages.items j None ≡ get_or g.pages.items j None) → IsPutAt groups (set groups (n / 1024) (Some h)) n change
put_some groups n o g h change lt is some put others =
    let at_n : (m : ℕ) → m / 1024 ≡ n / 1024 → page_at groups m ≡ page_in (Some g) (m % 1024) =
    λ m e. page_found groups m o (subst (λ k. k < length groups) (sym e) lt) (subst (λ k. o ≡ get_or groups k o) (sym e) is) ∙ ap (λ x. page_in x (m % 1024)) some in
    record {
      here = subst (λ p. IsPut p (page_at (set groups (n / 1024) (Some h)) n) change) (sym (at_n n refl)) (subst (λ q. IsPut (get_or g.pages.items (n % 1024) None) q change) (sym (page_set groups n (Some h) n lt refl)) put);
      others = λ m ne.
          elim (cases_eq (m / 1024) (n / 1024)) [
            | inl e ↦ (let apart : (m % 1024 ≡ n % 1024 → ⊥) = omega arith in page_set groups n (Some h) m lt e ∙ (others (m % 1024) apart ∙ sym (at_n m e)))
            | inr away ↦ page_unset groups (n / 1024) (Some h) m away
          ];
    }

-- a place without a group stays so
pub put_none : (groups : List (Option PageGroup)) (n : ℕ) (o : Option PageGroup) (change : List ℕ → List ℕ) → n / 1024 < length groups → o ≡ get_or groups (n / 1024) o → o ≡ None →
    change [] ≡ [] → IsPutAt groups (set groups (n / 1024) o) n change
put_none groups n o change lt is none empty =
    let before : (m : ℕ) → m / 1024 ≡ n / 1024 → page_at groups m ≡ None =
    λ m e. page_found groups m o (subst (λ k. k < length groups) (sym e) lt) (subst (λ k. o ≡ get_or groups k o) (sym e) is) ∙ ap (λ x. page_in x (m % 1024)) none in
    let behind : (m : ℕ) → m / 1024 ≡ n / 1024 → page_at (set groups (n / 1024) o) m ≡ None =
    λ m e. page_set groups n o m lt e ∙ ap (λ x. page_in x (m % 1024)) none in
    record {
      here = record {
        there = ap is_some (behind n refl) ∙ sym (ap is_some (before n refl));
        whole = ap use_of (behind n refl) ∙ sym (ap use_of (before n refl));
        bytes = ap bytes_of_page (behind n refl) ∙ (sym empty ∙ ap change (sym (ap bytes_of_page (before n refl))));
      };
      others = λ m ne.
          elim (cases_eq (m / 1024) (n / 1024)) [
            | inl e ↦ behind m e ∙ sym (before m e)
            | inr away ↦ page_unset groups (n / 1024) o m away
          ];
    }

-- ---- bytes of one page among others

-- the bytes of the n-th page, and elsewhere others
abbrev window : ℕ → (ℕ → ℕ) → (ℕ → ℕ) → ℕ → ℕ
window n page rest a = if a / 4096 == n then page (a % 4096) else rest a

window_in : (n : ℕ) (page rest : ℕ → ℕ) (a : ℕ) → a / 4096 ≡ n → window n page rest a ≡ page (a % 4096)
window_in n page rest a e = cond-true (a / 4096 == n) (page (a % 4096)) (rest a) (eq-eqb (a / 4096) n e)

window_out : (n : ℕ) (page rest : ℕ → ℕ) (a : ℕ) → (a / 4096 ≡ n → ⊥) → window n page rest a ≡ rest a
window_out n page rest a ne = cond-false (a / 4096 == n) (page (a % 4096)) (rest a) (ne_eqb (a / 4096) n ne)

window_put : (n place value : ℕ) (page rest : ℕ → ℕ) → place < 4096 → window n (with_byte page place value) rest ≡ with_byte (window n page rest) (n * 4096 + place) value
window_put n place value page rest lt = fun_ext (λ a.
    elim (cases_eq (a / 4096) n) [
      | inl e ↦
          window_in n (with_byte page place value) rest a e
          ∙ elim (cases_eq (a % 4096) place) [
            | inl same ↦ (let is : a ≡ n * 4096 + place = omega arith in written_same page place value (a % 4096) same ∙ sym (written_same (window n page rest) (n * 4096 + place) value a is))
            | inr ne ↦ (let apart : (a ≡ n * 4096 + place → ⊥) = omega arith in written_other page place value (a % 4096) ne ∙ (sym (window_in n page rest a e) ∙ sym (written_other (window n page rest) (n * 4096 + place) value a apart)))
          ]
      | inr away ↦
          (let apart : (a ≡ n * 4096 + place → ⊥) = omega arith in
          window_out n (with_byte page place value) rest a away ∙ (sym (window_out n page rest a away) ∙ sym (written_other (window n page rest) (n * 4096 + place) value a apart)))
    ])

list_put : (xs : List ℕ) (place value : ℕ) → place < length xs → slice_index (slice_set xs place value) ≡ with_byte (slice_index xs) place value
list_put xs place value lt = fun_ext (λ k.
    elim (cases_eq k place) [
      | inl e ↦ ap (slice_index (slice_set xs place value)) e ∙ (get_or-set_same xs place value 0 lt ∙ sym (written_same (slice_index xs) place value k e))
      | inr ne ↦ get_or-set_other xs place k value 0 ne ∙ sym (written_other (slice_index xs) place value k ne)
    ])

one_put : (xs : List ℕ) (n place value : ℕ) (rest : ℕ → ℕ) → place < 4096 → length xs ≡ 4096 → window n (slice_index (slice_set xs place value)) rest ≡ with_byte (window n (slice_index xs) rest) (n * 4096 + place) value
one_put xs n place value rest lt size = ap (λ f. window n f rest) (list_put xs place value (omega arith)) ∙ window_put n place value (slice_index xs) rest lt

-- a word is put into the bytes of a page
words_put : (xs : List ℕ) (n place value : ℕ) (rest : ℕ → ℕ) → place + 3 < 4096 → length xs ≡ 4096 → window n (slice_index (put_word xs place value)) rest ≡ with_word (window n (slice_index xs) rest) (n * 4096 + place) value
words_put xs n place value rest fits size =
    let a = value % 256 in
    let b = value / 2 ^ 8 % 256 in
    let c = value / 2 ^ 16 % 256 in
    let d = value / 2 ^ 24 % 256 in
    let ys = slice_set xs place a in
    let zs = slice_set ys (place + 1) b in
    let us = slice_set zs (place + 2) c in
    let ys_size : length ys ≡ 4096 = length-set xs place a ∙ size in
    let zs_size : length zs ≡ 4096 = length-set ys (place + 1) b ∙ ys_size in
    let us_size : length us ≡ 4096 = length-set zs (place + 2) c ∙ zs_size in
    let one = one_put xs n place a rest (omega arith) size in
    let two = one_put ys n (place + 1) b rest (omega arith) ys_size in
    let three = one_put zs n (place + 2) c rest (omega arith) zs_size in
    let four = one_put us n (place + 3) d rest (omega arith) us_size in
    let e1 : n * 4096 + (place + 1) ≡ n * 4096 + place + 1 = omega arith in
    let e2 : n * 4096 + (place + 2) ≡ n * 4096 + place + 2 = omega arith in
    let e3 : n * 4096 + (place + 3) ≡ n * 4096 + place + 3 = omega arith in
    four
    ∙ (ap (λ f. with_byte f (n * 4096 + (place + 3)) d) (three ∙ (ap (λ f. with_byte f (n * 4096 + (place + 2)) c) (two ∙ ap (λ f. with_byte f (n * 4096 + (place + 1)) b) one)))
    ∙ (ap (λ i. with_byte (with_byte (with_byte (with_byte (window n (slice_index xs) rest) (n * 4096 + place) a) (n * 4096 + (place + 1)) b) (n * 4096 + (place + 2)) c) i d) e3
    ∙ (ap (λ i. with_byte (with_byte (with_byte (with_byte (window n (slice_index xs) rest) (n * 4096 + place) a) (n * 4096 + (place + 1)) b) i c) (n * 4096 + place + 3) d) e2
    ∙ ap (λ i. with_byte (with_byte (with_byte (with_byte (window n (slice_index xs) rest) (n * 4096 + place) a) i b) (n * 4096 + place + 2) c) (n * 4096 + place + 3) d) e1)))

-- ---- the bytes of a table

paged_here : (groups : List (Option PageGroup)) (rest : ℕ → ℕ) (a : ℕ) → is_some (page_at groups (a / 4096)) ≡ true → paged_bytes groups rest a ≡ slice_index (bytes_of_page (page_at groups (a / 4096))) (a % 4096)
unfolding paged_bytes
paged_here groups rest a there = cond-true (is_some (page_at groups (a / 4096))) _ _ there

paged_away : (groups : List (Option PageGroup)) (rest : ℕ → ℕ) (a : ℕ) → is_some (page_at groups (a / 4096)) ≡ false → paged_bytes groups rest a ≡ rest a
unfolding paged_bytes
paged_away groups rest a none = cond-false (is_some (page_at groups (a / 4096))) _ _ none

paged_other : (old new : List (Option PageGroup)) (rest : ℕ → ℕ) (a : ℕ) → page_at new (a / 4096) ≡ page_at old (a / 4096) → paged_bytes new rest a ≡ paged_bytes old rest a
unfolding paged_bytes
paged_other old new rest a h = ap (λ p. if is_some p then slice_index (bytes_of_page p) (a % 4096) else rest a) h

-- a table in which one page has other bytes
paged_window : (old new : List (Option PageGroup)) (n : ℕ) (rest : ℕ → ℕ) (change : List ℕ → List ℕ) → IsPutAt old new n change → is_some (page_at old n) ≡ true →
    paged_bytes new rest ≡ window n (slice_index (change (bytes_of_page (page_at old n)))) (paged_bytes old rest)
paged_window old new n rest change put there = fun_ext (λ a.
    elim (cases_eq (a / 4096) n) [
      | inl e ↦
          paged_here new rest a (ap (λ k. is_some (page_at new k)) e ∙ (put.here.there ∙ there))
          ∙ (ap (λ k. slice_index (bytes_of_page (page_at new k)) (a % 4096)) e
          ∙ (ap (λ xs. slice_index xs (a % 4096)) put.here.bytes ∙ sym (window_in n (slice_index (change (bytes_of_page (page_at old n)))) (paged_bytes old rest) a e)))
      | inr ne ↦ paged_other old new rest a (put.others (a / 4096) ne) ∙ sym (window_out n (slice_index (change (bytes_of_page (page_at old n)))) (paged_bytes old rest) a ne)
    ])

window_same : (groups : List (Option PageGroup)) (n : ℕ) (rest : ℕ → ℕ) → is_some (page_at groups n) ≡ true → window n (slice_index (bytes_of_page (page_at groups n))) (paged_bytes groups rest) ≡ paged_bytes groups rest
window_same groups n rest there = fun_ext (λ a.
    elim (cases_eq (a / 4096) n) [
      | inl e ↦
          window_in n (slice_index (bytes_of_page (page_at groups n))) (paged_bytes groups rest) a e
          ∙ (ap (λ k. slice_index (bytes_of_page (page_at groups k)) (a % 4096)) (sym e) ∙ sym (paged_here groups rest a (ap (λ k. is_some (page_at groups k)) e ∙ there)))
      | inr ne ↦ window_out n (slice_index (bytes_of_page (page_at groups n))) (paged_bytes groups rest) a ne
    ])

page_size : (p : Option Page) → is_some p ≡ true → length (bytes_of_page p) ≡ 4096
page_size None h = absurd cc
page_size (Some p) h = let size : length p.bytes.items ≡ vec_len p.bytes = search rules in size ∙ p.size

-- a byte is written into its page
pub paged_put_byte : (old new : List (Option PageGroup)) (at value : ℕ) (rest : ℕ → ℕ) → IsPutAt old new (at / 4096) (λ xs. put_byte xs (at % 4096) value) →
    is_some (page_at old (at / 4096)) ≡ true → paged_bytes new rest ≡ with_byte (paged_bytes old rest) at value
paged_put_byte old new at value rest put there =
    let n = at / 4096 in
    let o = at % 4096 in
    let xs = bytes_of_page (page_at old (at / 4096)) in
    let size = page_size (page_at old (at / 4096)) there in
    let is : (at / 4096) * 4096 + at % 4096 ≡ at = omega arith in
    paged_window old new n rest _ put there
    ∙ (one_put xs n o value (paged_bytes old rest) (omega arith) size
    ∙ (ap (λ a. with_byte (window n (slice_index xs) (paged_bytes old rest)) a value) is
    ∙ ap (λ f. with_byte f at value) (window_same old n rest there)))

same_rest : (groups : List (Option PageGroup)) (rest rest' : ℕ → ℕ) (a : ℕ) → rest' a ≡ rest a → paged_bytes groups rest' a ≡ paged_bytes groups rest a
unfolding paged_bytes
same_rest groups rest rest' a h = ap (λ x. if is_some (page_at groups (a / 4096)) then slice_index (bytes_of_page (page_at groups (a / 4096))) (a % 4096) else x) h

-- a byte is written where no page is
pub paged_put_rest : (groups : List (Option PageGroup)) (at value : ℕ) (rest rest' : ℕ → ℕ) → is_some (page_at groups (at / 4096)) ≡ false → rest' ≡ with_byte rest at value →
    paged_bytes groups rest' ≡ with_byte (paged_bytes groups rest) at value
paged_put_rest groups at value rest rest' none e = fun_ext (λ a.
    elim (cases_eq a at) [
      | inl same ↦
          (let away : is_some (page_at groups (a / 4096)) ≡ false = ap (λ k. is_some (page_at groups (k / 4096))) same ∙ none in
          paged_away groups rest' a away ∙ (ap (λ f. f a) e ∙ (written_same rest at value a same ∙ sym (written_same (paged_bytes groups rest) at value a same))))
      | inr ne ↦ same_rest groups rest rest' a (ap (λ f. f a) e ∙ written_other rest at value a ne) ∙ sym (written_other (paged_bytes groups rest) at value a ne)
    ])

-- the byte of a page that is there
pub page_byte : (groups : List (Option PageGroup)) (rest : ℕ → ℕ) (at : ℕ) (p : Page) → page_at groups (at / 4096) ≡ Some p → slice_index p.bytes.items (at % 4096) ≡ paged_bytes groups rest at
page_byte groups rest at p is = sym (paged_here groups rest at (ap is_some is) ∙ ap (λ o. slice_index (bytes_of_page o) (at % 4096)) is)

pub rest_byte : (groups : List (Option PageGroup)) (rest : ℕ → ℕ) (at : ℕ) → page_at groups (at / 4096) ≡ None → rest at ≡ paged_bytes groups rest at
rest_byte groups rest at none = sym (paged_away groups rest at (ap is_some none))

-- ---- words

-- the word of a page that is there
pub page_word : (groups : List (Option PageGroup)) (rest : ℕ → ℕ) (at : ℕ) (p : Page) → at % 4 ≡ 0 → page_at groups (at / 4096) ≡ Some p → word_at (slice_index p.bytes.items) (at % 4096) ≡ word_at (paged_bytes groups rest) at
page_word groups rest at p aligned is =
    let e0 = page_byte groups rest at p is in
    let e1 = byte_behind 1 (omega arith) (omega arith) in
    let e2 = byte_behind 2 (omega arith) (omega arith) in
    let e3 = byte_behind 3 (omega arith) (omega arith) in
    ap (λ n. n + slice_index p.bytes.items (at % 4096 + 1) * 2 ^ 8 + slice_index p.bytes.items (at % 4096 + 2) * 2 ^ 16 + slice_index p.bytes.items (at % 4096 + 3) * 2 ^ 24) e0
    ∙ (ap (λ n. paged_bytes groups rest at + n * 2 ^ 8 + slice_index p.bytes.items (at % 4096 + 2) * 2 ^ 16 + slice_index p.bytes.items (at % 4096 + 3) * 2 ^ 24) e1
    ∙ (ap (λ n. paged_bytes groups rest at + paged_bytes groups rest (at + 1) * 2 ^ 8 + n * 2 ^ 16 + slice_index p.bytes.items (at % 4096 + 3) * 2 ^ 24) e2
    ∙ ap (λ n. paged_bytes groups rest at + paged_bytes groups rest (at + 1) * 2 ^ 8 + paged_bytes groups rest (at + 2) * 2 ^ 16 + n * 2 ^ 24) e3))
  where
    byte_behind : (k : ℕ) → (at + k) / 4096 ≡ at / 4096 → (at + k) % 4096 ≡ at % 4096 + k → slice_index p.bytes.items (at % 4096 + k) ≡ paged_bytes groups rest (at + k)
    byte_behind k page place = ap (slice_index p.bytes.items) (sym place) ∙ page_byte groups rest (at + k) p (ap (page_at groups) page ∙ is)

-- a word is written into its page
pub paged_put_word : (old new : List (Option PageGroup)) (at value : ℕ) (rest : ℕ → ℕ) → at % 4 ≡ 0 → IsPutAt old new (at / 4096) (λ xs. put_word xs (at % 4096) value) →
    is_some (page_at old (at / 4096)) ≡ true → paged_bytes new rest ≡ with_word (paged_bytes old rest) at value
paged_put_word old new at value rest aligned put there =
    let n = at / 4096 in
    let o = at % 4096 in
    let xs = bytes_of_page (page_at old (at / 4096)) in
    let size = page_size (page_at old (at / 4096)) there in
    let fits : at % 4096 + 3 < 4096 = omega arith in
    let is : (at / 4096) * 4096 + at % 4096 ≡ at = omega arith in
    paged_window old new n rest _ put there ∙ words_put xs n o value (paged_bytes old rest) fits size
    ∙ (ap (λ a. with_word (window n (slice_index xs) (paged_bytes old rest)) a value) is
    ∙ ap (λ f. with_word f at value) (window_same old n rest there))

-- ---- permissions of a word

each_four : (test : ℕ → Bool) (at : ℕ) (b : Bool) → ((k : ℕ) → k < 4 → test (at + k) ≡ b) → each_byte test at 4 ≡ b
each_four test at false h = each_byte_false test at 0 4 (omega arith) (h 0 (omega arith))
each_four test at true h =
    each_byte_more test at 3 (each_byte_more test at 2 (each_byte_more test at 1 (each_byte_more test at 0 (each_byte_none test at) (h 0 (omega arith))) (h 1 (omega arith))) (h 2 (omega arith))) (h 3 (omega arith))

-- what the page of a word says holds of each of its bytes
pub word_reads : (layout : Layout) (groups : List (Option PageGroup)) (at : ℕ) (b : Bool) → ((a : ℕ) → UseHolds layout a (use_of (page_at groups (a / 4096)))) → at % 4 ≡ 0 →
    reads_in (use_of (page_at groups (at / 4096))) ≡ Some b → each_byte (may_read layout) at 4 ≡ b
word_reads layout groups at b holds aligned says =
    each_four (may_read layout) at b (λ k lt.
    let same : (at + k) / 4096 ≡ at / 4096 = omega arith in
    (holds (at + k)).reads b (ap (λ n. reads_in (use_of (page_at groups n))) same ∙ says))

pub word_writes : (layout : Layout) (groups : List (Option PageGroup)) (at : ℕ) (b : Bool) → ((a : ℕ) → UseHolds layout a (use_of (page_at groups (a / 4096)))) → at % 4 ≡ 0 →
    writes_in (use_of (page_at groups (at / 4096))) ≡ Some b → each_byte (may_write layout) at 4 ≡ b
word_writes layout groups at b holds aligned says =
    each_four (may_write layout) at b (λ k lt.
    let same : (at + k) / 4096 ≡ at / 4096 = omega arith in
    (holds (at + k)).writes b (ap (λ n. writes_in (use_of (page_at groups n))) same ∙ says))

-- a word is written where no page is
pub paged_put_words : (groups : List (Option PageGroup)) (at value : ℕ) (rest rest' : ℕ → ℕ) → at % 4 ≡ 0 → is_some (page_at groups (at / 4096)) ≡ false → rest' ≡ with_word rest at value →
    paged_bytes groups rest' ≡ with_word (paged_bytes groups rest) at value
paged_put_words groups at value rest rest' aligned none e =
    let away : (k : ℕ) → k < 4 → is_some (page_at groups ((at + k) / 4096)) ≡ false = λ k lt. let same : (at + k) / 4096 ≡ at / 4096 = omega arith in ap (λ n. is_some (page_at groups n)) same ∙ none in
    let r1 = with_byte rest at (value % 256) in
    let r2 = with_byte r1 (at + 1) (value / 2 ^ 8 % 256) in
    let r3 = with_byte r2 (at + 2) (value / 2 ^ 16 % 256) in
    paged_put_rest groups (at + 3) (value / 2 ^ 24 % 256) r3 rest' (away 3 (omega arith)) e
    ∙ (ap (λ f. with_byte f (at + 3) (value / 2 ^ 24 % 256)) (paged_put_rest groups (at + 2) (value / 2 ^ 16 % 256) r2 r3 (away 2 (omega arith)) refl)
    ∙ (ap (λ f. with_byte (with_byte f (at + 2) (value / 2 ^ 16 % 256)) (at + 3) (value / 2 ^ 24 % 256)) (paged_put_rest groups (at + 1) (value / 2 ^ 8 % 256) r1 r2 (away 1 (omega arith)) refl)
    ∙ ap (λ f. with_byte (with_byte (with_byte f (at + 1) (value / 2 ^ 8 % 256)) (at + 2) (value / 2 ^ 16 % 256)) (at + 3) (value / 2 ^ 24 % 256)) (paged_put_rest groups at (value % 256) rest r1 none refl)))

-- the word where no page is
pub rest_word : (groups : List (Option PageGroup)) (rest : ℕ → ℕ) (at : ℕ) → at % 4 ≡ 0 → page_at groups (at / 4096) ≡ None → word_at rest at ≡ word_at (paged_bytes groups rest) at
rest_word groups rest at aligned none =
    let behind : (k : ℕ) → (at + k) / 4096 ≡ at / 4096 → rest (at + k) ≡ paged_bytes groups rest (at + k) = λ k same. rest_byte groups rest (at + k) (ap (page_at groups) same ∙ none) in
    let e0 = rest_byte groups rest at none in
    let e1 = behind 1 (omega arith) in
    let e2 = behind 2 (omega arith) in
    let e3 = behind 3 (omega arith) in
    ap (λ n. n + rest (at + 1) * 2 ^ 8 + rest (at + 2) * 2 ^ 16 + rest (at + 3) * 2 ^ 24) e0
    ∙ (ap (λ n. paged_bytes groups rest at + n * 2 ^ 8 + rest (at + 2) * 2 ^ 16 + rest (at + 3) * 2 ^ 24) e1
    ∙ (ap (λ n. paged_bytes groups rest at + paged_bytes groups rest (at + 1) * 2 ^ 8 + n * 2 ^ 16 + rest (at + 3) * 2 ^ 24) e2
    ∙ ap (λ n. paged_bytes groups rest at + paged_bytes groups rest (at + 1) * 2 ^ 8 + paged_bytes groups rest (at + 2) * 2 ^ 16 + n * 2 ^ 24) e3))

-- nothing is written where no page is
pub paged_put_none : (old new : List (Option PageGroup)) (n : ℕ) (rest : ℕ → ℕ) (change : List ℕ → List ℕ) → IsPutAt old new n change → is_some (page_at old n) ≡ false → paged_bytes new rest ≡ paged_bytes old rest
paged_put_none old new n rest change put none = fun_ext (λ a.
    elim (cases_eq (a / 4096) n) [
      | inl e ↦
          paged_away new rest a (ap (λ k. is_some (page_at new k)) e ∙ (put.here.there ∙ none))
          ∙ sym (paged_away old rest a (ap (λ k. is_some (page_at old k)) e ∙ none))
      | inr ne ↦ paged_other old new rest a (put.others (a / 4096) ne)
    ])
