-- The text of an image, one part more at a time.
use Rattle.std.proofs.Common.{◌≡◌, ℕ, ◌+◌, ◌%◌, ◌^◌, ◌<◌, ◌≤◌, Bool, true, false, ◌&&◌, List, [], ◌∷◌, ◌++◌, length, map, fold, get_or, take, take_all, drop, Option, Some, None, refl, sym, ap, ◌∙◌, arith, add-one, zero-add, drop-cons, inl, inr}
use Rattle.std.specs.Prelude.{nat_lt, nat_le, slice_get, All, ◌==◌}
use Rattle.std.specs.List.{list_all, list_any, filter_map, cons_option, sum_by}
use Rattle.std.specs.Option.{ForSome}
use Rattle.std.proofs.lemmas.Bool.{cases_lt, lt-ltb}
use Rattle.std.proofs.lemmas.Bool.Decides.{nat_tests}
use Rattle.std.proofs.lemmas.List.{append-nil, take_more, take-append-le, take-append-drop, length-append}
use Rattle.std.proofs.Math.Seq.{take-append-add}
use Rattle.std.proofs.lemmas.List.Elements.{filter_map-append}
use Rattle.std.proofs.lemmas.List.Folds.{list_all-append, Any-from_list_any}
use Rattle.std.proofs.lemmas.List.Sums.{sum_by-append}
use Rattle.scale_base.specs.declared.headers.ProgramHeader.{ProgramHeader}
use Rattle.scale_base.specs.declared.ranges.Range.{Range}
use Rattle.scale_base.specs.declared.ranges.TextPart.{TextPart}
use Rattle.scale_base.specs.declared.refusal.Refusal.{Refusal}
use Rattle.scale_base.specs.declared.refusal.Refusal.TheVariants.{BadText}
use Rattle.scale_base.specs.declared.refusal.Stop.{Stop}
use Rattle.scale_base.specs.declared.refusal.Stop.TheVariants.{Refused, Memory}
use Rattle.scale_base.specs.Spans.{each_pair}
use Rattle.scale_base.specs.Rules.{rule, first_broken, AllHold, IsStop}
use Rattle.scale_base.specs.Image.{range_of, insert_range, ascending, ranges_of, is_text_place, is_off_table, is_code_segment, holds_part, are_apart, keeps_text_rules, part_rules, text_rules, text_start}
use Rattle.scale_base.proofs.Laws.{rule_kept}
use Rattle.elf_view.specs.Beside.{are_separate, fits_beside, next_rules}
use Rattle.elf_image.proofs.Laws.{both_true, le_of}
use Rattle.elf_view.proofs.First.{first_at, none_broken}
use Rattle.elf_view.proofs.AscendingLemmas.{all_apart, all-fold}
use Rattle.elf_view.proofs.RangesLemmas.{ranges_of-push, length-ranges_of}

-- ---- one more element of a list that passes the tests

shuffle : (a b c d : Bool) → ((a && (b && true)) && (c && d)) ≡ ((a && c) && (b && d))
shuffle true true c d = refl
shuffle true false true d = refl
shuffle true false false d = refl
shuffle false b c d = refl

each_pair-push : {A : Type 0} (test : A → A → Bool) (xs : List A) (y : A) → each_pair test (xs ++ y ∷ []) ≡ (each_pair test xs && list_all (λ x. test x y) xs)
each_pair-push test [] y = refl
each_pair-push test (x ∷ xs) y =
    rw (list_all-append (test x) xs (y ∷ []), each_pair-push test xs y) (shuffle (list_all (test x) xs) (test x y) (each_pair test xs) (list_all (λ z. test z y) xs))

and-true : (a : Bool) → (a && true) ≡ a
and-true true = refl
and-true false = refl

keeps-push : {A : Type 0} (each : A → Bool) (two : A → A → Bool) (size : A → ℕ) (limit : ℕ) (xs : List A) (y : A)
    → (list_all each xs && each_pair two xs && nat_le (sum_by size xs) limit) ≡ true
    → (list_all each (xs ++ y ∷ []) && each_pair two (xs ++ y ∷ []) && nat_le (sum_by size (xs ++ y ∷ [])) limit) ≡ (each y && list_all (λ x. two x y) xs && nat_le (sum_by size xs + size y) limit)
keeps-push each two size limit xs y h =
    let outer = both_true (list_all each xs && each_pair two xs) (nat_le (sum_by size xs) limit) h in
    let inner = both_true (list_all each xs) (each_pair two xs) outer.0 in
    let one : sum_by size (y ∷ []) ≡ size y = zero-add (size y) in
    let alone : list_all each (y ∷ []) ≡ each y = and-true (each y) in
    rw (list_all-append each xs (y ∷ []), each_pair-push two xs y, sum_by-append size xs (y ∷ []), inner.0, inner.1, one, alone) refl

-- ---- the parts so far

-- parts that keep the rules, their ranges in ascending order, and how many bytes they have
pub record IsTextOf (file : List ℕ) (segments : List ProgramHeader) (parts : List TextPart) (ranges : List Range) (bytes : ℕ) : Type 0 where
  pub some : list_all (λ p. nat_lt 0 p.span.len) parts ≡ true
  pub total : bytes ≡ sum_by (λ p. p.span.len) parts
  pub ranges_are : ranges ≡ ranges_of parts
  pub kept : keeps_text_rules file segments parts ≡ true
  pub each : (j : ℕ) → j < length parts → keeps_text_rules file segments (take (j + 1) parts) ≡ true

pub text_none : (file : List ℕ) (segments : List ProgramHeader) → IsTextOf file segments [] [] 0
unfolding keeps_text_rules ascending
text_none file segments = record { some = refl; total = refl; ranges_are = refl; kept = refl; each = λ j lt. absurd (omega arith) }

pub text_low : (file : List ℕ) (segments : List ProgramHeader) (parts : List TextPart) (ranges : List Range) (bytes : ℕ) → IsTextOf file segments parts ranges bytes → bytes ≤ 524288
unfolding keeps_text_rules
text_low file segments parts ranges bytes h =
    rw h.total (le_of _ _ (both_true (list_all (is_text_place file segments) parts && each_pair are_apart parts) (nat_le (sum_by (λ part. part.span.len) parts) 524288) h.kept).1)

separate : (parts : List TextPart) (ranges : List Range) (part : TextPart) → list_all (λ p. nat_lt 0 p.span.len) parts ≡ true → ranges ≡ ranges_of parts → 0 < part.span.len
    → list_all (λ a. are_apart a part) parts ≡ list_all (λ r. are_separate r (range_of part)) ranges
unfolding ascending
separate parts ranges part some are one =
    all_apart parts part some one ∙ rw are (sym (all-fold (λ r. are_separate r (range_of part)) [] (map range_of parts) ∙ and-true (list_all (λ r. are_separate r (range_of part)) (map range_of parts))))

keeps-next : (file : List ℕ) (segments : List ProgramHeader) (parts : List TextPart) (ranges : List Range) (bytes : ℕ) (part : TextPart) → IsTextOf file segments parts ranges bytes → 0 < part.span.len
    → keeps_text_rules file segments (parts ++ part ∷ []) ≡ fits_beside file segments ranges bytes part
unfolding keeps_text_rules
keeps-next file segments parts ranges bytes part h one =
    keeps-push (is_text_place file segments) are_apart (λ p. p.span.len) 524288 parts part h.kept ∙ rw (separate parts ranges part h.some h.ranges_are one, ← h.total) refl

each-push : (file : List ℕ) (segments : List ProgramHeader) (parts : List TextPart) (part : TextPart) → ((j : ℕ) → j < length parts → keeps_text_rules file segments (take (j + 1) parts) ≡ true)
    → keeps_text_rules file segments (parts ++ part ∷ []) ≡ true → (j : ℕ) → j < length (parts ++ part ∷ []) → keeps_text_rules file segments (take (j + 1) (parts ++ part ∷ [])) ≡ true
each-push file segments parts part each all j lt =
    elim (cases_lt j (length parts)) [
      | inl low ↦ rw (take-append-le (j + 1) parts (part ∷ []) (omega arith)) (each j low)
      | inr high ↦ rw (take_all (j + 1) (parts ++ part ∷ []) (omega (arith, length-append parts (part ∷ [])))) all
    ]

text_push : (file : List ℕ) (segments : List ProgramHeader) (parts : List TextPart) (ranges : List Range) (bytes : ℕ) (part : TextPart) → IsTextOf file segments parts ranges bytes → 0 < part.span.len
    → fits_beside file segments ranges bytes part ≡ true → IsTextOf file segments (parts ++ part ∷ []) (insert_range ranges (range_of part)) (bytes + part.span.len)
text_push file segments parts ranges bytes part h one fits =
    let all = keeps-next file segments parts ranges bytes part h one ∙ fits in
    record {
      some = list_all-append (λ p. nat_lt 0 p.span.len) parts (part ∷ []) ∙ rw (h.some, lt-ltb 0 part.span.len one) refl;
      total = rw h.total (sym (sum_by-append (λ p. p.span.len) parts (part ∷ []) ∙ ap (λ (n : ℕ). sum_by (λ p. p.span.len) parts + n) (zero-add part.span.len)));
      ranges_are = rw h.ranges_are (sym (ranges_of-push parts part));
      kept = all;
      each = each-push file segments parts part h.each all;
    }

-- the next part of a table, if there is one, is added
text_next : (file : List ℕ) (segments : List ProgramHeader) (parts : List TextPart) (ranges new : List Range) (bytes total : ℕ) (o : Option TextPart) → IsTextOf file segments parts ranges bytes → ForSome o (λ p. 0 < p.span.len)
    → AllHold (next_rules file segments ranges bytes o) → new ≡ fold insert_range ranges (map range_of (cons_option o [])) → total ≡ bytes + sum_by (λ p. p.span.len) (cons_option o [])
    → IsTextOf file segments (parts ++ cons_option o []) new total
text_next file segments parts ranges new bytes total None h some kept is sum =
    let same : total ≡ bytes = omega (arith, sum) in
    rw (append-nil parts, is, same) h
text_next file segments parts ranges new bytes total (Some part) h some kept is sum =
    let one = some part refl in
    let more : total ≡ bytes + part.span.len = sum ∙ ap (λ (n : ℕ). bytes + n) (zero-add part.span.len) in
    rw (is, more) (text_push file segments parts ranges bytes part h one (rule_kept (fits_beside file segments ranges bytes part) (BadText part.span.from) [] kept).0)

slice_at : (front rest : List TextPart) (part : TextPart) → slice_get (front ++ part ∷ rest) (length front) ≡ Some part
slice_at [] rest part = refl
slice_at (p ∷ front) rest part = slice_at front rest part

broken_at : (file : List ℕ) (segments : List ProgramHeader) (front rest : List TextPart) (part : TextPart) → ((j : ℕ) → j < length front → keeps_text_rules file segments (take (j + 1) front) ≡ true)
    → keeps_text_rules file segments (front ++ part ∷ []) ≡ false → first_broken (part_rules file segments (front ++ part ∷ rest)) ≡ Some (BadText part.span.from)
unfolding part_rules
broken_at file segments front rest part before here =
    let all = front ++ part ∷ rest in
    let len = length-append front (part ∷ rest) in
    first_at (λ k. rule (keeps_text_rules file segments (take (k + 1) all)) (BadText (text_start (slice_get all k)))) (length all) (length front) (omega (arith, len))
    (λ j lt. rw (take-append-le (j + 1) front (part ∷ rest) (omega arith)) (before j lt))
    (rw (take-append-add front (part ∷ rest) 1) here)
    ∙ ap (λ (o : Option TextPart). Some (BadText (text_start o))) (slice_at front rest part)

rule_stops : (b : Bool) (refusal other : Refusal) → first_broken (rule b refusal ∷ []) ≡ Some other → (b ≡ false) × (refusal ≡ other)
rule_stops true refusal other e = absurd cc
rule_stops false refusal other e = (refl, cc)

-- the next part of a table is refused
text_stop : (file : List ℕ) (segments : List ProgramHeader) (parts rest : List TextPart) (ranges : List Range) (bytes : ℕ) (o : Option TextPart) (stop : Stop) → IsTextOf file segments parts ranges bytes → ForSome o (λ p. 0 < p.span.len)
    → IsStop (next_rules file segments ranges bytes o) stop → IsStop (part_rules file segments (parts ++ cons_option o rest)) stop
text_stop file segments parts rest ranges bytes o Memory h some e = tt
text_stop file segments parts rest ranges bytes None (Refused refusal) h some e = absurd cc
text_stop file segments parts rest ranges bytes (Some part) (Refused refusal) h some e =
    let s = rule_stops (fits_beside file segments ranges bytes part) (BadText part.span.from) refusal e in
    broken_at file segments parts rest part h.each (keeps-next file segments parts ranges bytes part h (some part refl) ∙ s.0) ∙ ap (λ (r : Refusal). Some r) s.1

text_done : (file : List ℕ) (segments : List ProgramHeader) (parts : List TextPart) (ranges : List Range) (bytes : ℕ) → IsTextOf file segments parts ranges bytes → AllHold (part_rules file segments parts)
unfolding part_rules
text_done file segments parts ranges bytes h =
    none_broken (λ k. rule (keeps_text_rules file segments (take (k + 1) parts)) (BadText (text_start (slice_get parts k)))) (length parts) h.each

-- ---- a table of which each entry holds a part, or none

pub table_next : {A : Type 0} (f : A → Option TextPart) (xs : List A) (k : ℕ) (d : A) (file : List ℕ) (segments : List ProgramHeader) (ranges new : List Range) (bytes total : ℕ) (o : Option TextPart)
    → k < length xs → o ≡ f (get_or xs k d) → IsTextOf file segments (filter_map f (take k xs)) ranges bytes → ForSome o (λ p. 0 < p.span.len)
    → AllHold (next_rules file segments ranges bytes o) → new ≡ fold insert_range ranges (map range_of (cons_option o [])) → total ≡ bytes + sum_by (λ p. p.span.len) (cons_option o [])
    → IsTextOf file segments (filter_map f (take (k + 1) xs)) new total
table_next f xs k d file segments ranges new bytes total o lt is h some kept are sum =
    let more : filter_map f (take (k + 1) xs) ≡ filter_map f (take k xs) ++ cons_option o [] =
    ap (filter_map f) (take_more xs k d lt) ∙ filter_map-append f (take k xs) (get_or xs k d ∷ []) ∙ rw is refl in
    rw more (text_next file segments (filter_map f (take k xs)) ranges new bytes total o h some kept are sum)

pub table_stop : {A : Type 0} (f : A → Option TextPart) (xs : List A) (k : ℕ) (d : A) (file : List ℕ) (segments : List ProgramHeader) (ranges : List Range) (bytes : ℕ) (o : Option TextPart) (stop : Stop)
    → k < length xs → o ≡ f (get_or xs k d) → IsTextOf file segments (filter_map f (take k xs)) ranges bytes → ForSome o (λ p. 0 < p.span.len)
    → IsStop (next_rules file segments ranges bytes o) stop → IsStop (part_rules file segments (filter_map f xs)) stop
table_stop f xs k d file segments ranges bytes o stop lt is h some e =
    let rest = drop (k + 1) xs in
    let parts : drop k xs ≡ get_or xs k d ∷ rest = rw add-one (drop-cons xs k d lt) in
    let last : filter_map f (drop k xs) ≡ cons_option o (filter_map f rest) = rw (parts, is) refl in
    let split : filter_map f xs ≡ filter_map f (take k xs) ++ cons_option o (filter_map f rest) =
    ap (filter_map f) (sym (take-append-drop k xs)) ∙ filter_map-append f (take k xs) (drop k xs) ∙ ap (λ (ys : List TextPart). filter_map f (take k xs) ++ ys) last in
    rw split (text_stop file segments (filter_map f (take k xs)) (filter_map f rest) ranges bytes o stop h some e)

-- what is known at the end of the table
pub record IsWholeText (file : List ℕ) (segments : List ProgramHeader) (parts : List TextPart) (ranges : List Range) : Type 0 where
  pub rules : AllHold (part_rules file segments parts)
  pub ranges_are : ranges ≡ ranges_of parts

pub table_done : {A : Type 0} (f : A → Option TextPart) (xs : List A) (k : ℕ) (file : List ℕ) (segments : List ProgramHeader) (ranges : List Range) (bytes : ℕ) → length xs ≤ k → IsTextOf file segments (filter_map f (take k xs)) ranges bytes
    → IsWholeText file segments (filter_map f xs) ranges
table_done f xs k file segments ranges bytes le h =
    let h : IsTextOf file segments (filter_map f xs) ranges bytes = rw (take_all k xs le) at h in
    record { rules = text_done file segments (filter_map f xs) ranges bytes h; ranges_are = h.ranges_are }

-- ---- the whole text

-- a part that is refused is one of some
pub parts_stop : (file : List ℕ) (segments : List ProgramHeader) (parts : List TextPart) (stop : Stop) → IsStop (part_rules file segments parts) stop → IsStop (text_rules file segments parts) stop
unfolding part_rules
parts_stop file segments parts Memory h = tt
parts_stop file segments [] (Refused refusal) h = absurd cc
parts_stop file segments (part ∷ parts) (Refused refusal) h = rw (lt-ltb 0 (length (part ∷ parts)) (omega arith)) h

-- the ranges of no parts are none
pub text_kept : (file : List ℕ) (segments : List ProgramHeader) (parts : List TextPart) (ranges : List Range) → ranges ≡ ranges_of parts → AllHold (part_rules file segments parts) → AllHold (rule (nat_lt 0 (length ranges)) (BadText 0) ∷ [])
    → AllHold (text_rules file segments parts)
unfolding ascending
text_kept file segments [] ranges are kept some = absurd (let none : first_broken (rule (nat_lt 0 (length ranges)) (BadText 0) ∷ []) ≡ Some (BadText 0) = rw are refl in cc)
text_kept file segments (part ∷ parts) ranges are kept some = rw (lt-ltb 0 (length (part ∷ parts)) (omega arith)) kept

pub text_missing : (file : List ℕ) (segments : List ProgramHeader) (parts : List TextPart) (ranges : List Range) (refusal : Refusal) → ranges ≡ ranges_of parts → first_broken (rule (nat_lt 0 (length ranges)) (BadText 0) ∷ []) ≡ Some refusal
    → first_broken (text_rules file segments parts) ≡ Some refusal
text_missing file segments [] ranges refusal are e = (let s = rule_stops (nat_lt 0 (length ranges)) (BadText 0) refusal e in ap (λ (r : Refusal). Some r) s.1)
text_missing file segments (part ∷ parts) ranges refusal are e =
    let s = rule_stops (nat_lt 0 (length ranges)) (BadText 0) refusal e in
    let len : length ranges ≡ length (part ∷ parts) = ap (λ (rs : List Range). length rs) are ∙ length-ranges_of (part ∷ parts) in
    absurd (not_both (length ranges) (omega (arith, len)) s.0)
  where
    not_both : (n : ℕ) → 0 < n → nat_lt 0 n ≡ false → ⊥
    not_both n some off = grind (arith, nat_tests)

-- ---- a part that has its place

holds_part-low : (part : TextPart) (h : ProgramHeader) → holds_part part h ≡ true → part.span.from + part.span.len ≤ h.p_vaddr + h.p_filesz
holds_part-low part h e =
    let first = both_true (is_code_segment h && nat_le h.p_vaddr part.span.from && nat_le (part.span.from + part.span.len) (h.p_vaddr + h.p_filesz)) (part.place + h.p_vaddr == h.p_offset + part.span.from) e in
    let second = both_true (is_code_segment h && nat_le h.p_vaddr part.span.from) (nat_le (part.span.from + part.span.len) (h.p_vaddr + h.p_filesz)) first.0 in
    le_of _ _ second.1

held-low : (segments : List ProgramHeader) (part : TextPart) → All (λ h. h.p_vaddr + h.p_filesz < 2 ^ 32) segments → list_any (holds_part part) segments ≡ true → part.span.from + part.span.len < 2 ^ 32
held-low segments part low e =
    let found = Any-from_list_any (holds_part part) segments e in
    let here : get_or segments found.0 found.1 ≡ found.1 = found.3 in
    let below : found.1.p_vaddr + found.1.p_filesz < 2 ^ 32 = rw here at (low found.0 found.1 found.2) in
    omega (arith, holds_part-low part found.1 found.4, below)

place-held : (file : List ℕ) (segments : List ProgramHeader) (part : TextPart) → is_text_place file segments part ≡ true → list_any (holds_part part) segments ≡ true
place-held file segments part e =
    let a = both_true ((part.span.from % 4 == 0) && (part.span.len % 4 == 0) && list_any (holds_part part) segments && nat_le 52 part.place) (is_off_table file part) e in
    let b = both_true ((part.span.from % 4 == 0) && (part.span.len % 4 == 0) && list_any (holds_part part) segments) (nat_le 52 part.place) a.0 in
    (both_true ((part.span.from % 4 == 0) && (part.span.len % 4 == 0)) (list_any (holds_part part) segments) b.0).1

-- its end is an address
pub part-low : (file : List ℕ) (segments : List ProgramHeader) (part : TextPart) → All (λ h. h.p_vaddr + h.p_filesz < 2 ^ 32) segments → is_text_place file segments part ≡ true → part.span.from + part.span.len < 2 ^ 32
part-low file segments part low e = held-low segments part low (place-held file segments part e)
