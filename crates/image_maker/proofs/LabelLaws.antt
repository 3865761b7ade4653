-- One more line: its label in the table, and the least label that stands twice.
use Rattle.std.proofs.Common.{◌⊎◌, ◌≡◌, ◌<◌, ◌≤◌, ℕ, ◌+◌, Bool, true, false, cond, List, length, get_or, take, take_all, Option, Some, None, refl, sym, ap, ◌∙◌, arith, inl, inr, add-zero, subst}
use Rattle.std.specs.Prelude.{count_by, slice_get, min, is_some}
use Rattle.std.specs.Ordering.{nat_cmp}
use Rattle.std.specs.BTreeMap.{BTreeMap, get, Updates}
use Rattle.std.proofs.lemmas.Bool.{cases_eq, cases_lt}
use Rattle.std.proofs.lemmas.Bool.Decides.{nat_tests}
use Rattle.std.proofs.lemmas.List.Sums.{count_by_more_yes, count_by_more_no}
use Rattle.std.proofs.lemmas.Option.{slice_get-get_or}
use Rattle.std.proofs.lemmas.List.{get_or_default}
use Rattle.image_maker.specs.declared.line.Line.{Line}
use Rattle.image_maker.specs.declared.line.Line.TheVariants.{Label, Op, BranchTo, JalTo}
use Rattle.image_maker.specs.Assembling.{is_label, has_word, label_count, line_address, IsTwice, IsMissing, goes_to}
use Rattle.image_maker.specs.Places.{HasPlace, IsLabelTable, IsFirst, ArePlaced, lesser_number, lesser_line, IsMissingSoFar, IsMissingAt}

-- ---- counts of one more line

pub count_more : (p : Line → Bool) (lines : List Line) (k : ℕ) (x : Line) → k < length lines → x ≡ get_or lines k x → count_by p (take (k + 1) lines) ≡ count_by p (take k lines) + cond (p x) 1 0
count_more p lines k x h e = go (p x) refl
  where
    go : (b : Bool) → p x ≡ b → count_by p (take (k + 1) lines) ≡ count_by p (take k lines) + cond b 1 0
    go true is = count_by_more_yes p lines k x h (ap p (sym e) ∙ is)
    go false is = count_by_more_no p lines k x h (ap p (sym e) ∙ is) ∙ sym (add-zero _)

pub line_at : (lines : List Line) (k : ℕ) (x : Line) → k < length lines → x ≡ get_or lines k x → slice_get lines k ≡ Some x
line_at lines k x h e = slice_get-get_or lines k x h ∙ ap (λ (y : Line). Some y) (sym e)

same_label : (m : ℕ) → is_label m (Label m) ≡ true
same_label m = grind (arith, nat_tests)

other_label : (l m : ℕ) → (m ≡ l → ⊥) → is_label l (Label m) ≡ false
other_label l m ne = grind (arith, nat_tests)

count_same : (lines : List Line) (k m : ℕ) → k < length lines → Label m ≡ get_or lines k (Label m) → label_count (take (k + 1) lines) m ≡ label_count (take k lines) m + 1
count_same lines k m h e = count_more (is_label m) lines k (Label m) h e ∙ ap (λ b. label_count (take k lines) m + cond b 1 0) (same_label m)

count_other : (lines : List Line) (k m l : ℕ) → k < length lines → Label m ≡ get_or lines k (Label m) → (m ≡ l → ⊥) → label_count (take (k + 1) lines) l ≡ label_count (take k lines) l
count_other lines k m l h e ne = count_more (is_label l) lines k (Label m) h e ∙ ap (λ b. label_count (take k lines) l + cond b 1 0) (other_label l m ne) ∙ add-zero _

-- ---- the least label that stands twice

-- where the same numbers are so
pub first_same : (P Q : ℕ → Type 0) (o : Option ℕ) → ((l : ℕ) → P l → Q l) → ((l : ℕ) → Q l → P l) → IsFirst P o → IsFirst Q o
first_same P Q None there back h = λ l t. h l (back l t)
first_same P Q (Some m) there back h = record { is_so = there m h.is_so; least = λ l t. h.least l (back l t) }

-- where one more is
pub first_more : (P Q : ℕ → Type 0) (o : Option ℕ) (m : ℕ) → Q m → ((l : ℕ) → P l → Q l) → ((l : ℕ) → (m ≡ l → ⊥) → Q l → P l) → IsFirst P o → IsFirst Q (Some (lesser_number o m))
first_more P Q None m now there back h = record {
  is_so = now;
  least = λ l t. elim (cases_eq m l) [ inl e ↦ omega arith | inr ne ↦ absurd (h l (back l ne t)) ];
}
first_more P Q (Some n) m now there back h = record {
  is_so = either (cases_le n m);
  least = λ l t. elim (cases_eq m l) [ inl e ↦ omega arith | inr ne ↦ let le = h.least l (back l ne t) in omega arith ];
}
  where
    either : (n ≤ m) ⊎ (m ≤ n) → Q (min n m)
    either (inl le) = let e : min n m ≡ n = omega arith in rw e (there n h.is_so)
    either (inr le) = let e : min n m ≡ m = omega arith in rw e now

    cases_le : (x y : ℕ) → (x ≤ y) ⊎ (y ≤ x)
    cases_le x y = elim (cases_lt x y) [ inl lt ↦ inl (omega arith) | inr le ↦ inr le ]

-- ---- one more line

-- a line that is no label
pub word_placed : (lines : List Line) (k : ℕ) (x : Line) (table : BTreeMap ℕ ℕ) (twice : Option ℕ) (at : ℕ) → k < length lines → x ≡ get_or lines k x → has_word x ≡ true → ((l : ℕ) → is_label l x ≡ false)
    → ArePlaced lines k table twice at → ArePlaced lines (k + 1) table twice (at + 4)
word_placed lines k x table twice at h e word other placed =
    let more = count_more has_word lines k x h e ∙ ap (λ b. count_by has_word (take k lines) + cond b 1 0) word in
    let same : (l : ℕ) → label_count (take (k + 1) lines) l ≡ label_count (take k lines) l = λ l. count_more (is_label l) lines k x h e ∙ ap (λ b. label_count (take k lines) l + cond b 1 0) (other l) ∙ add-zero _ in
    record {
      address = let before = placed.address in omega arith;
      addresses = λ l. rw (same l) (placed.addresses l);
      first = first_same (IsTwice (take k lines)) (IsTwice (take (k + 1) lines)) twice (λ l t. rw (same l) t) (λ l t. rw (← same l) t) placed.first;
    }

label_address : (lines : List Line) (k m at : ℕ) → k < length lines → Label m ≡ get_or lines k (Label m) → at ≡ line_address lines k → at ≡ line_address lines (k + 1)
label_address lines k m at h e is = let same = count_more has_word lines k (Label m) h e in omega arith

label_table : (lines : List Line) (k m at : ℕ) (table new : BTreeMap ℕ ℕ) → k < length lines → Label m ≡ get_or lines k (Label m) → at ≡ line_address lines k → Updates nat_cmp table new m (Some at)
    → IsLabelTable lines k table → IsLabelTable lines (k + 1) new
label_table lines k m at table new h e is made before = λ l. elim (cases_eq m l) [
  | inl same ↦ subst (λ (j : ℕ). HasPlace lines j (get nat_cmp new j) (label_count (take (k + 1) lines) j)) same here
  | inr ne ↦ rw (other l ne, count_other lines k m l h e ne) (before l)
]
  where
    here : HasPlace lines m (get nat_cmp new m) (label_count (take (k + 1) lines) m)
    here = rw (made.1, count_same lines k m h e) (omega arith, record { line = k; here = line_at lines k (Label m) h e; place = is })

    other : (l : ℕ) → (m ≡ l → ⊥) → get nat_cmp new l ≡ get nat_cmp table l
    other l ne = made.2 l (grind (arith, nat_tests))

-- a label that didn't stand before
pub first_placed : (lines : List Line) (k m at : ℕ) (table new : BTreeMap ℕ ℕ) (twice : Option ℕ) → k < length lines → Label m ≡ get_or lines k (Label m) → get nat_cmp table m ≡ None → Updates nat_cmp table new m (Some at)
    → ArePlaced lines k table twice at → ArePlaced lines (k + 1) new twice at
first_placed lines k m at table new twice h e gone made placed =
    let none : label_count (take k lines) m ≡ 0 = rw gone at (placed.addresses m) in
    let one = count_same lines k m h e in
    record {
      address = label_address lines k m at h e placed.address;
      addresses = label_table lines k m at table new h e placed.address made placed.addresses;
      first = first_same (IsTwice (take k lines)) (IsTwice (take (k + 1) lines)) twice
          (λ l t. elim (cases_eq m l) [ inl same ↦ absurd (let z : label_count (take k lines) l ≡ 0 = subst (λ (j : ℕ). label_count (take k lines) j ≡ 0) same none in omega arith) | inr ne ↦ rw (count_other lines k m l h e ne) t ])
          (λ l t. elim (cases_eq m l) [ inl same ↦ absurd (let z : label_count (take (k + 1) lines) l ≡ label_count (take k lines) l + 1 = subst (λ (j : ℕ). label_count (take (k + 1) lines) j ≡ label_count (take k lines) j + 1) same one in let y : label_count (take k lines) l ≡ 0 = subst (λ (j : ℕ). label_count (take k lines) j ≡ 0) same none in omega arith) | inr ne ↦ rw (← count_other lines k m l h e ne) t ])
          placed.first;
    }

-- a label that stood before
pub again_placed : (lines : List Line) (k m at old : ℕ) (table new : BTreeMap ℕ ℕ) (twice : Option ℕ) → k < length lines → Label m ≡ get_or lines k (Label m) → get nat_cmp table m ≡ Some old → Updates nat_cmp table new m (Some at)
    → ArePlaced lines k table twice at → ArePlaced lines (k + 1) new (Some (lesser_number twice m)) at
again_placed lines k m at old table new twice h e had made placed =
    let some = rw had at (placed.addresses m) in
    let one = count_same lines k m h e in
    record {
      address = label_address lines k m at h e placed.address;
      addresses = label_table lines k m at table new h e placed.address made placed.addresses;
      first = first_more (IsTwice (take k lines)) (IsTwice (take (k + 1) lines)) twice m (let s = some.0 in omega arith)
          (λ l t. elim (cases_eq m l) [ inl same ↦ let z : label_count (take (k + 1) lines) l ≡ label_count (take k lines) l + 1 = subst (λ (j : ℕ). label_count (take (k + 1) lines) j ≡ label_count (take k lines) j + 1) same one in omega arith | inr ne ↦ rw (count_other lines k m l h e ne) t ])
          (λ l ne t. rw (← count_other lines k m l h e ne) t)
          placed.first;
    }

-- ---- what a program reads

-- the line at a place, whatever a list gives past its end
pub item : (lines : List Line) (k : ℕ) (d x : Line) → k < length lines → get_or lines k d ≡ x → x ≡ get_or lines k x
item lines k d x h e = sym (get_or_default lines k x d h ∙ e)

pub not_label : (x : Line) → ((m : ℕ) → x ≡ Label m → ⊥) → (has_word x ≡ true) × ((l : ℕ) → is_label l x ≡ false)
not_label (Label m) ne = absurd (ne m refl)
not_label (Op i) ne = (refl, λ l. refl)
not_label (BranchTo op rs1 rs2 m) ne = (refl, λ l. refl)
not_label (JalTo rd m) ne = (refl, λ l. refl)

pub none_of : (o : Option ℕ) → is_some o ≡ false → o ≡ None
none_of None e = refl
none_of (Some x) e = absurd cc

pub some_of : (o : Option ℕ) → is_some o ≡ true → (x : ℕ) × (o ≡ Some x)
some_of None e = absurd cc
some_of (Some x) e = (x, refl)

-- ---- labels that aren't there

missing_same : (lines : List Line) (k l : ℕ) (x : Line) → k < length lines → x ≡ get_or lines k x → goes_to l x ≡ false → IsMissingSoFar lines (k + 1) l → IsMissingSoFar lines k l
missing_same lines k l x h e other missing =
    let more = count_more (goes_to l) lines k x h e ∙ ap (λ b. count_by (goes_to l) (take k lines) + cond b 1 0) other in
    let some = missing.0 in
    (omega arith, missing.1)

missing_kept : (lines : List Line) (k l : ℕ) (x : Line) → k < length lines → x ≡ get_or lines k x → IsMissingSoFar lines k l → IsMissingSoFar lines (k + 1) l
missing_kept lines k l x h e missing = let more = count_more (goes_to l) lines k x h e in let some = missing.0 in (omega arith, missing.1)

pub missing_more : (lines : List Line) (k : ℕ) (x : Line) (before here : Option ℕ) → k < length lines → x ≡ get_or lines k x → IsMissingAt lines x here → IsFirst (IsMissingSoFar lines k) before → IsFirst (IsMissingSoFar lines (k + 1)) (lesser_line before here)
missing_more lines k x before None h e none first = first_same (IsMissingSoFar lines k) (IsMissingSoFar lines (k + 1)) before (λ l m. missing_kept lines k l x h e m) (λ l m. back l m (goes_to l x) refl) first
  where
    back : (l : ℕ) → IsMissingSoFar lines (k + 1) l → (b : Bool) → goes_to l x ≡ b → IsMissingSoFar lines k l
    back l m true is = absurd (none l is m.1)
    back l m false is = missing_same lines k l x h e is m
missing_more lines k x before (Some n) h e one first = first_more (IsMissingSoFar lines k) (IsMissingSoFar lines (k + 1)) before n now (λ l m. missing_kept lines k l x h e m) (λ l ne m. back l ne m (goes_to l x) refl) first
  where
    now : IsMissingSoFar lines (k + 1) n
    now = let more = count_more (goes_to n) lines k x h e ∙ ap (λ b. count_by (goes_to n) (take k lines) + cond b 1 0) one.0 in (omega arith, one.1)

    back : (l : ℕ) → (n ≡ l → ⊥) → IsMissingSoFar lines (k + 1) l → (b : Bool) → goes_to l x ≡ b → IsMissingSoFar lines k l
    back l ne m true is = absurd (ne (sym (one.2 l is)))
    back l ne m false is = missing_same lines k l x h e is m

-- all lines
pub missing_all : (lines : List Line) (k : ℕ) (o : Option ℕ) → length lines ≤ k → IsFirst (IsMissingSoFar lines k) o → IsFirst (IsMissing lines) o
missing_all lines k o h first = subst (λ (xs : List Line). IsFirst (λ l. (0 < count_by (goes_to l) xs) × (label_count lines l ≡ 0)) o) (take_all k lines h) first
