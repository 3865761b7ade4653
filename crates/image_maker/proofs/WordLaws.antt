-- One more word.
use Rattle.std.proofs.Common.{◌≡◌, ◌<◌, ◌≤◌, ℕ, ◌+◌, Bool, true, false, cond, List, [], ◌∷◌, ◌++◌, length, get_or, take, drop, take_all, Option, Some, None, refl, sym, ap, ◌∙◌, arith, inl, inr, subst}
use Rattle.std.specs.Prelude.{◌==◌, count_by, slice_get, slice_index, MatchOption, option_map, pos, ◌-ℤ◌}
use Rattle.std.specs.Ordering.{nat_cmp}
use Rattle.std.specs.BTreeMap.{BTreeMap, get}
use Rattle.std.proofs.lemmas.Bool.{cases_eq, cases_lt}
use Rattle.std.proofs.lemmas.Bool.Decides.{nat_tests}
use Rattle.std.proofs.lemmas.List.{take-take, take-append-drop, get_or_append_left, get_or_push, length_push}
use Rattle.std.proofs.lemmas.List.Sums.{sum_by-append, count_by-le-length}
use Rattle.std.proofs.lemmas.Option.{slice_get_within, get_or_from_slice_get}
use Rattle.scale_base.specs.declared.instruction.Instr.{Instr}
use Rattle.scale_base.specs.declared.instruction.Instr.TheVariants.{Branch, Jal}
use Rattle.scale_base.specs.Word.{Encodes, FieldsInRange}
use Rattle.image_maker.specs.declared.line.Line.{Line}
use Rattle.image_maker.specs.declared.line.Line.TheVariants.{Label, Op, BranchTo, JalTo}
use Rattle.image_maker.specs.Assembling.{is_label, has_word, goes_to, words_before, label_count, line_address, LabelStandsAt, Means, LineMeans, IsUnfit, IsLeastNumber, HasLabels, IsAssembled}
use Rattle.image_maker.specs.Places.{IsLabelTable, line_instr, AreWords}
use Rattle.image_maker.proofs.LabelLaws.{count_more}

-- ---- counts of fronts

count_front : (p : Line → Bool) (lines : List Line) (k : ℕ) → count_by p (take k lines) ≤ count_by p lines
count_front p lines k =
    let parts = sum_by-append (λ x. cond (p x) 1 0) (take k lines) (drop k lines) in
    let whole = ap (count_by p) (take-append-drop k lines) in
    omega arith

count_grows : (p : Line → Bool) (lines : List Line) (j k : ℕ) → j ≤ k → count_by p (take j lines) ≤ count_by p (take k lines)
count_grows p lines j k h =
    let front = count_front p (take k lines) j in
    let same = ap (count_by p) (take-take j k lines h) in
    omega arith

-- the line at a place counts
count_at : (p : Line → Bool) (lines : List Line) (j k : ℕ) (x : Line) → slice_get lines j ≡ Some x → p x ≡ true → j < k → count_by p (take j lines) + 1 ≤ count_by p (take k lines)
count_at p lines j k x here passes h =
    let within = slice_get_within lines j x here in
    let more = count_more p lines j x within (sym (get_or_from_slice_get lines j x x here)) ∙ ap (λ b. count_by p (take j lines) + cond b 1 0) passes in
    let grows = count_grows p lines (j + 1) k (omega arith) in
    omega arith

pub some_at : (p : Line → Bool) (lines : List Line) (j : ℕ) (x : Line) → slice_get lines j ≡ Some x → p x ≡ true → 0 < count_by p lines
some_at p lines j x here passes =
    let one = count_at p lines j (j + 1) x here passes (omega arith) in
    let front = count_front p lines (j + 1) in
    omega arith

-- ---- a label stands at one address

label_is : (l : ℕ) → is_label l (Label l) ≡ true
label_is l = grind (arith, nat_tests)

apart : (lines : List Line) (l j k : ℕ) → HasLabels lines → slice_get lines j ≡ Some (Label l) → slice_get lines k ≡ Some (Label l) → j < k → ⊥
apart lines l j k labels a b h =
    let first = count_at (is_label l) lines j k (Label l) a (label_is l) h in
    let second = count_at (is_label l) lines k (k + 1) (Label l) b (label_is l) (omega arith) in
    let front = count_front (is_label l) lines (k + 1) in
    labels.once l (omega arith)

one_line : (lines : List Line) (l j k : ℕ) → HasLabels lines → slice_get lines j ≡ Some (Label l) → slice_get lines k ≡ Some (Label l) → j ≡ k
one_line lines l j k labels a b =
    elim (cases_lt j k) [
      | inl lt ↦ absurd (apart lines l j k labels a b lt)
      | inr le ↦ elim (cases_eq j k) [ inl e ↦ e | inr ne ↦ absurd (apart lines l k j labels b a (omega arith)) ]
    ]

one_address : (lines : List Line) (l a b : ℕ) → HasLabels lines → LabelStandsAt lines l a → LabelStandsAt lines l b → a ≡ b
one_address lines l a b labels h g = h.place ∙ ap (line_address lines) (one_line lines l h.line g.line labels h.here g.here) ∙ sym g.place

-- ---- the instruction of a line

-- the address of a label that is there
place_of : (lines : List Line) (table : BTreeMap ℕ ℕ) (l to : ℕ) → IsLabelTable lines (length lines) table → get nat_cmp table l ≡ Some to → LabelStandsAt lines l to
place_of lines table l to h e = (rw e at (h l)).1

-- what a line means is one instruction
pub record MeansOne (lines : List Line) (k : ℕ) (i : Instr) : Type 0 where
  pub means : LineMeans lines k i
  pub one : (j : Instr) → LineMeans lines k j → j ≡ i

to_label : (lines : List Line) (table : BTreeMap ℕ ℕ) (l : ℕ) (f : ℕ → Instr) (o : Option ℕ) (i : Instr) → HasLabels lines → IsLabelTable lines (length lines) table → get nat_cmp table l ≡ o → option_map f o ≡ Some i
    → ((to : ℕ) × LabelStandsAt lines l to × (i ≡ f to)) × ((j : Instr) → (to : ℕ) × LabelStandsAt lines l to × (j ≡ f to) → j ≡ i)
to_label lines table l f None i labels h e is = absurd cc
to_label lines table l f (Some to) i labels h e is =
    let stands = place_of lines table l to h e in
    ((to, stands, cc), λ j m. let same = one_address lines l m.0 to labels m.1 stands in let made : j ≡ f m.0 = m.2 in made ∙ ap f same ∙ cc)

means_of : (lines : List Line) (table : BTreeMap ℕ ℕ) (at : ℕ) (x : Line) (i : Instr) → HasLabels lines → IsLabelTable lines (length lines) table → line_instr (get nat_cmp table) at x ≡ Some i → Means lines at x i × ((j : Instr) → Means lines at x j → j ≡ i)
means_of lines table at (Label m) i labels h e = absurd cc
means_of lines table at (Op j) i labels h e = (cc, λ n m. cc)
means_of lines table at (BranchTo op rs1 rs2 l) i labels h e = to_label lines table l (λ to. Branch op rs1 rs2 (pos to -ℤ pos at)) (get nat_cmp table l) i labels h refl e
means_of lines table at (JalTo rd l) i labels h e = to_label lines table l (λ to. Jal rd (pos to -ℤ pos at)) (get nat_cmp table l) i labels h refl e

pub line_means : (lines : List Line) (table : BTreeMap ℕ ℕ) (k at : ℕ) (x : Line) (i : Instr) → HasLabels lines → IsLabelTable lines (length lines) table → slice_get lines k ≡ Some x → at ≡ line_address lines k
    → line_instr (get nat_cmp table) at x ≡ Some i → MeansOne lines k i
line_means lines table k at x i labels h here place e =
    let m = means_of lines table (line_address lines k) x i labels h (rw place at e) in
    record { means = rw here m.0; one = λ j n. m.1 j (rw here at n) }

no_label : (lines : List Line) (table : BTreeMap ℕ ℕ) (k l : ℕ) (x : Line) (f : ℕ → Instr) (o : Option ℕ) → HasLabels lines → IsLabelTable lines (length lines) table → slice_get lines k ≡ Some x → goes_to l x ≡ true → get nat_cmp table l ≡ o → option_map f o ≡ None → ⊥
no_label lines table k l x f (Some to) labels h here goes e is = cc
no_label lines table k l x f None labels h here goes e is =
    let gone : label_count (take (length lines) lines) l ≡ 0 = rw e at (h l) in
    let all = ap (λ (xs : List Line). label_count xs l) (take_all (length lines) lines (omega arith)) in
    labels.there l (some_at (goes_to l) lines k x here goes, omega arith)

goes : (l : ℕ) → (l == l) ≡ true
goes l = grind (arith, nat_tests)

-- a line without an instruction is a label
no_instr : (lines : List Line) (table : BTreeMap ℕ ℕ) (k at : ℕ) (x : Line) → HasLabels lines → IsLabelTable lines (length lines) table → slice_get lines k ≡ Some x → line_instr (get nat_cmp table) at x ≡ None → has_word x ≡ false
no_instr lines table k at (Label m) labels h here e = refl
no_instr lines table k at (Op j) labels h here e = absurd cc
no_instr lines table k at (BranchTo op rs1 rs2 l) labels h here e = absurd (no_label lines table k l (BranchTo op rs1 rs2 l) (λ to. Branch op rs1 rs2 (pos to -ℤ pos at)) (get nat_cmp table l) labels h here (goes l) refl e)
no_instr lines table k at (JalTo rd l) labels h here e = absurd (no_label lines table k l (JalTo rd l) (λ to. Jal rd (pos to -ℤ pos at)) (get nat_cmp table l) labels h here (goes l) refl e)

has_instr : (lines : List Line) (at : ℕ) (x : Line) (i : Instr) → Means lines at x i → has_word x ≡ true
has_instr lines at (Label m) i h = absurd h
has_instr lines at (Op j) i h = refl
has_instr lines at (BranchTo op rs1 rs2 l) i h = refl
has_instr lines at (JalTo rd l) i h = refl

means_word : (lines : List Line) (k : ℕ) (i : Instr) → LineMeans lines k i → (x : Line) × (slice_get lines k ≡ Some x) × (has_word x ≡ true)
means_word lines k i h = go (slice_get lines k) refl h
  where
    go : (o : Option Line) → slice_get lines k ≡ o → MatchOption o ⊥ (λ line. Means lines (line_address lines k) line i) → (x : Line) × (slice_get lines k ≡ Some x) × (has_word x ≡ true)
    go None e m = absurd m
    go (Some x) e m = (x, e, has_instr lines (line_address lines k) x i m)

-- ---- one more line

-- a label has no word
pub label_passed : (lines : List Line) (table : BTreeMap ℕ ℕ) (k at : ℕ) (x : Line) (words : List ℕ) → k < length lines → x ≡ get_or lines k x → slice_get lines k ≡ Some x → HasLabels lines → IsLabelTable lines (length lines) table
    → line_instr (get nat_cmp table) at x ≡ None → AreWords lines k words → AreWords lines (k + 1) words
label_passed lines table k at x words h e here labels placed gone before =
    let no_word = no_instr lines table k at x labels placed here gone in
    let more = count_more has_word lines k x h e ∙ ap (λ b. words_before lines k + cond b 1 0) no_word in
    record {
      count = let c = before.count in omega arith;
      each = λ j i lt m. elim (cases_eq j k) [
        | inl same ↦ let y = means_word lines j i m in absurd (let g : slice_get lines k ≡ Some y.0 = subst (λ (n : ℕ). slice_get lines n ≡ Some y.0) same y.1 in let s : x ≡ y.0 = cc in let w : has_word x ≡ true = ap has_word s ∙ y.2 in cc)
        | inr ne ↦ before.each j i (omega arith) m
      ];
    }

-- the word of an instruction
pub word_pushed : (lines : List Line) (k word : ℕ) (x : Line) (i : Instr) (words : List ℕ) → k < length lines → x ≡ get_or lines k x → MeansOne lines k i → Encodes word i → AreWords lines k words → AreWords lines (k + 1) (words ++ word ∷ [])
word_pushed lines k word x i words h e meant encodes before =
    let y = means_word lines k i meant.means in
    let same : x ≡ y.0 = e ∙ get_or_from_slice_get lines k y.0 x y.1 in
    let has : has_word x ≡ true = ap has_word same ∙ y.2 in
    let more = count_more has_word lines k x h e ∙ ap (λ b. words_before lines k + cond b 1 0) has in
    record {
      count = let c = before.count in let l = length_push words word in omega arith;
      each = λ j n lt m. elim (cases_eq j k) [
        | inl at ↦
            let is : n ≡ i = meant.one n (subst (λ (q : ℕ). LineMeans lines q n) at m) in
            let place : slice_index (words ++ word ∷ []) (words_before lines j) ≡ word = get_or_push words word 0 (words_before lines j) (before.count ∙ ap (words_before lines) (sym at)) in
            rw (place, is) encodes
        | inr ne ↦
            let z = means_word lines j n m in
            let low = count_at has_word lines j k z.0 z.1 z.2 (omega arith) in
            let c = before.count in
            let place : slice_index (words ++ word ∷ []) (words_before lines j) ≡ slice_index words (words_before lines j) = get_or_append_left words (word ∷ []) 0 (words_before lines j) (omega arith) in
            rw place (before.each j n (omega arith) m)
      ];
    }

-- an instruction without a word
pub first_unfit : (lines : List Line) (k : ℕ) (i : Instr) (words : List ℕ) → MeansOne lines k i → (FieldsInRange i → ⊥) → AreWords lines k words → IsLeastNumber (IsUnfit lines) k
first_unfit lines k i words meant unfit before = record {
  is_so = (i, meant.means, unfit);
  least = λ j bad. elim (cases_lt j k) [
    | inl lt ↦ absurd (bad.2 (before.each j bad.0 lt bad.1).0)
    | inr le ↦ le
  ];
}

pub assembled-short : (lines : List Line) (words : List ℕ) → length lines ≤ 131072 → IsAssembled lines words → length words ≤ 131072
assembled-short lines words few h =
    let front = count_front has_word lines (length lines) in
    let all = count_by-le-length has_word lines in
    let c = h.count in
    omega arith
