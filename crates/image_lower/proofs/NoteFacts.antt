-- What is known of the notes that are lowered: of each of them, in their ascending order too.
use Rattle.std.proofs.Common.{◌≡◌, ◌≢◌, ℕ, ℤ, pos, zero, suc, ◌+◌, ◌<◌, ◌≤◌, Bool, true, false, not, cond, List, [], ◌∷◌, length, get_or, fold, Option, Some, None, Ok, refl, sym, ap, subst, ◌∙◌, arith, inl, inr}
use Rattle.std.specs.Prelude.{nat_lt, ◌==◌, ◌&&◌, ◌||◌, if◌then◌else◌, is_some, option_and_then, unwrap_or, All, count_by, max, option_map}
use Rattle.std.specs.List.{list_all, Contains}
use Rattle.std.specs.Ordering.{int_eq}
use Rattle.std.proofs.lemmas.Bool.{and_parts, or_cases, both_ways, eqb-true, eq-eqb, cond_both}
use Rattle.std.proofs.lemmas.Bool.Decides.{nat_tests, Decides-int_eq}
use Rattle.std.proofs.lemmas.List.Elements.{All-nil, All-cons}
use Rattle.std.proofs.lemmas.List.Sums.{sum_by-cons}
use Rattle.scale_base.specs.declared.instruction.Instr.{Instr}
use Rattle.scale_base.specs.declared.instruction.Instr.TheVariants as instr
use Rattle.scale_base.specs.declared.refusal.Refusal.TheVariants.{BadJump}
use Rattle.scale_base.specs.Reading.{instr_of}
use Rattle.scale_base.specs.Image.{Image, image_of, is_word_address, text_word, file_place}
use Rattle.scale_base.specs.Bytes as file_bytes
use Rattle.machine_laws.proofs.Laws.{word_loaded}
use Rattle.code_text.specs.Text.{text_of, instr_at}
use Rattle.jump_lists.specs.declared.notes.JumpNote.{JumpNote}
use Rattle.image_lower.specs.FarJumps.{far_jump}
use Rattle.image_lower.specs.Trees.{tree_depth}
use Rattle.image_lower.specs.Block.{jump_register, register_at, register, is_twice, is_bad, least_address, insert_note, ascending_notes, greatest_depth}
use Rattle.image_lower.specs.Lowered.{refuse_at, no_bad_jump}
use Rattle.image_lower.specs.Meets.{is_noted_jump}
use Rattle.image_lower.proofs.FarParts.{jalr_low}
use Rattle.image_lower.proofs.Kept.{all_fold}

-- ---- no bad jump

passed_on : (b : Bool) (a : ℕ) (o : Option ℕ) (test : JumpNote → Bool) (ns : List JumpNote) → (o ≡ None → All (λ n. test n ≡ false) ns) → (n : JumpNote) → test n ≡ b → (if b then Some a else o) ≡ None → All (λ n. test n ≡ false) (n ∷ ns)
passed_on true a o test ns go n is e = let never : ⊥ = cc in absurd never
passed_on false a o test ns go n is e = All-cons (λ n. test n ≡ false) n ns is (go e)

least_none : (test : JumpNote → Bool) (ns : List JumpNote) → least_address test ns ≡ None → All (λ n. test n ≡ false) ns
least_none test [] e = All-nil (λ n. test n ≡ false)
least_none test (n ∷ ns) e = passed_on (test n) _ (least_address test ns) test ns (least_none test ns) n refl e

none_of : (o : Option ℕ) → refuse_at BadJump o ≡ Ok tt → o ≡ None
none_of None e = refl
none_of (Some at) e = let never : ⊥ = cc in absurd never

pub good_notes : (image : Image) (notes : List JumpNote) → no_bad_jump image notes ≡ Ok tt → All (λ n. is_bad image notes n ≡ false) notes
good_notes image notes e = least_none (is_bad image notes) notes (none_of (least_address (is_bad image notes) notes) e)

-- ---- what that says

pub record IsGood (image : Image) (notes : List JumpNote) (n : JumpNote) : Type 0 where
  pub once : is_twice notes n.at ≡ false
  pub jumps : is_some (register_at image n.at) ≡ true
  pub not_far : is_some (far_jump image notes n.at) ≡ false
  pub targets : list_all (is_word_address image) n.targets ≡ true

neither : (a b : Bool) → (a || b) ≡ false → (a ≡ false) × (b ≡ false)
neither true b h = let never : ⊥ = cc in absurd never
neither false b h = (refl, h)

on : (b : Bool) → not b ≡ false → b ≡ true
on true e = refl
on false e = let never : ⊥ = cc in absurd never

pub good_of : (image : Image) (notes : List JumpNote) (n : JumpNote) → is_bad image notes n ≡ false → IsGood image notes n
good_of image notes n e =
    let a = neither (is_twice notes n.at || not (is_some (register_at image n.at)) || is_some (far_jump image notes n.at)) (not (list_all (is_word_address image) n.targets)) e in
    let b = neither (is_twice notes n.at || not (is_some (register_at image n.at))) (is_some (far_jump image notes n.at)) a.0 in
    let c = neither (is_twice notes n.at) (not (is_some (register_at image n.at))) b.0 in
    record { once = c.0; jumps = on (is_some (register_at image n.at)) c.1; not_far = b.1; targets = on (list_all (is_word_address image) n.targets) a.1 }

-- ---- the jump

-- a word that jumps through a register
record IsJump (o : Option Instr) (r : ℕ) : Type 0 where
  is : o ≡ Some (instr.Jalr 0 r (pos 0))
  some : 0 < r

zero_of : (z : ℤ) → int_eq z (pos 0) ≡ true → z ≡ pos 0
zero_of z e = (Decides-int_eq z (pos 0)).0 e

abbrev JumpsBy : Option Instr → Option ℕ → Type 0
JumpsBy o None = Unit {0}
JumpsBy o (Some r) = IsJump o r

some_register : (rs : ℕ) → not ((rs == 0) || (rs == 1)) ≡ true → 0 < rs
some_register rs e = grind (arith, nat_tests)

jalr_jumps : (rd rs : ℕ) (offset : ℤ) → JumpsBy (Some (instr.Jalr rd rs offset)) (jump_register (Some (instr.Jalr rd rs offset)))
jalr_jumps rd rs offset = cond_both ((rd == 0) && int_eq offset (pos 0) && not ((rs == 0) || (rs == 1))) (Some rs) None (JumpsBy (Some (instr.Jalr rd rs offset)))
    (λ e.
    let a = and_parts ((rd == 0) && int_eq offset (pos 0)) (not ((rs == 0) || (rs == 1))) e in
    let b = and_parts (rd == 0) (int_eq offset (pos 0)) a.0 in
    record {
      is = ap (λ d. Some (instr.Jalr d rs offset)) (eqb-true rd 0 b.0) ∙ ap (λ z. Some (instr.Jalr 0 rs z)) (zero_of offset b.1);
      some = some_register rs a.1;
    })
    (λ e. tt)

jumps_by : (o : Option Instr) → JumpsBy o (jump_register o)
jumps_by (Some (instr.Jalr rd rs offset)) = jalr_jumps rd rs offset
jumps_by o = tt

pub record IsJumpAt (image : Image) (at r : ℕ) : Type 0 where
  pub word : is_word_address image at ≡ true
  pub reads : instr_at (text_of image) at ≡ Some (instr.Jalr 0 r (pos 0))
  pub some : 0 < r
  pub few : r < 32

-- the word of a text
word_address : (image : Image) (at w : ℕ) → text_word image at ≡ Some w → is_word_address image at ≡ true
unfolding text_word
word_address image at w e = by (is_word_address image at) e
  where
    by : (b : Bool) → (if b then option_map (file_bytes.list_word_at image.file) (file_place image.file at) else None) ≡ Some w → b ≡ true
    by true e = refl
    by false e = let never : ⊥ = cc in absurd never

from_word : (file : List ℕ) (image : Image) (at r : ℕ) (o : Option ℕ) → image_of file ≡ Ok image → text_word image at ≡ o → jump_register (option_and_then instr_of o) ≡ Some r → IsJumpAt image at r
from_word file image at r None read e is = let never : ⊥ = cc in absurd never
from_word file image at r (Some w) read e is =
    let j : IsJump (instr_of w) r = subst (JumpsBy (instr_of w)) is (jumps_by (instr_of w)) in
    record {
      word = word_address image at w e;
      reads = ap instr_of (word_loaded file image at w read e) ∙ j.is;
      some = j.some;
      few = jalr_low w 0 r (pos 0) j.is;
    }

pub jump_at : (file : List ℕ) (image : Image) (note : JumpNote) → image_of file ≡ Ok image → is_some (register_at image note.at) ≡ true → IsJumpAt image note.at (register image note)
jump_at file image note read some = by (register_at image note.at) refl some
  where
    by : (o : Option ℕ) → register_at image note.at ≡ o → is_some o ≡ true → IsJumpAt image note.at (register image note)
    by None e some = let never : ⊥ = cc in absurd never
    by (Some r) e some = subst (IsJumpAt image note.at) (sym (ap (λ o. unwrap_or o 0) e)) (from_word file image note.at r (text_word image note.at) read refl e)

-- ---- in ascending order

pub all_ascending : (P : JumpNote → Type 0) (notes : List JumpNote) → All P notes → All P (ascending_notes notes)
unfolding ascending_notes
all_ascending P notes h = all_fold P [] notes (All-nil P) h

pub each_listed : (notes : List JumpNote) → All (Contains notes) notes
each_listed notes k d lt = (k, lt, same notes k lt)
  where
    same : (xs : List JumpNote) (i : ℕ) → i < length xs → get_or xs i (get_or xs i d) ≡ get_or xs i d
    same [] i lt = absurd (omega (arith, lt))
    same (x ∷ xs) zero lt = refl
    same (x ∷ xs) (suc i) lt = same xs i (omega (arith, lt))

-- a number for a test
abbrev pub ones : Bool → ℕ
ones b = cond b 1 0

-- how many stand at an address
abbrev pub stand_at : ℕ → List JumpNote → ℕ
stand_at pc notes = count_by (λ (n : JumpNote). n.at == pc) notes

one_more : (pc : ℕ) (n : JumpNote) (ns : List JumpNote) → stand_at pc (n ∷ ns) ≡ cond (n.at == pc) 1 0 + stand_at pc ns
one_more pc n ns = sum_by-cons (λ (m : JumpNote). cond (m.at == pc) 1 0) n ns

insert_count : (pc : ℕ) (xs : List JumpNote) (n : JumpNote) → stand_at pc (insert_note xs n) ≡ cond (n.at == pc) 1 0 + stand_at pc xs
insert_count pc [] n = one_more pc n []
insert_count pc (x ∷ xs) n = by (nat_lt n.at x.at) (insert_count pc xs n)
  where
    by : (b : Bool) → stand_at pc (insert_note xs n) ≡ cond (n.at == pc) 1 0 + stand_at pc xs → stand_at pc (if b then n ∷ x ∷ xs else x ∷ insert_note xs n) ≡ cond (n.at == pc) 1 0 + stand_at pc (x ∷ xs)
    by true go = one_more pc n (x ∷ xs)
    by false go = let a = one_more pc x (insert_note xs n) in let b = one_more pc x xs in omega (arith, a, b, go)

fold_count : (pc : ℕ) (acc notes : List JumpNote) → stand_at pc (fold insert_note acc notes) ≡ stand_at pc acc + stand_at pc notes
fold_count pc acc [] = omega arith
fold_count pc acc (n ∷ ns) =
    let rest = fold_count pc (insert_note acc n) ns in
    let a = insert_count pc acc n in
    let b = one_more pc n ns in
    omega (arith, rest, a, b)

pub ascending_count : (pc : ℕ) (notes : List JumpNote) → stand_at pc (ascending_notes notes) ≡ stand_at pc notes
unfolding ascending_notes
ascending_count pc notes = let h : stand_at pc (fold insert_note [] notes) ≡ 0 + stand_at pc notes = fold_count pc [] notes in let z : 0 + stand_at pc notes ≡ stand_at pc notes = omega arith in h ∙ z

-- none of them does
pub none_stand : (pc : ℕ) (ns : List JumpNote) → stand_at pc ns ≡ 0 → All (λ (n : JumpNote). n.at ≢ pc) ns
none_stand pc [] e = All-nil (λ (n : JumpNote). n.at ≢ pc)
none_stand pc (n ∷ ns) e = by (n.at == pc) refl (one_more pc n ns) (none_stand pc ns)
  where
    by : (b : Bool) → (n.at == pc) ≡ b → stand_at pc (n ∷ ns) ≡ cond b 1 0 + stand_at pc ns → (stand_at pc ns ≡ 0 → All (λ (n : JumpNote). n.at ≢ pc) ns) → All (λ (n : JumpNote). n.at ≢ pc) (n ∷ ns)
    by true is more go = absurd (omega (arith, more, e))
    by false is more go = All-cons (λ (n : JumpNote). n.at ≢ pc) n ns (λ same. both_ways (n.at == pc) is (eq-eqb n.at pc same)) (go (omega (arith, more, e)))

pub some_stand : (pc : ℕ) (ns : List JumpNote) → is_noted_jump ns pc ≡ true → 1 ≤ stand_at pc ns
some_stand pc [] e = let never : ⊥ = cc in absurd never
some_stand pc (n ∷ ns) e = elim (or_cases (n.at == pc) (is_noted_jump ns pc) e) [
  | inl here ↦
      let one : ones (n.at == pc) ≡ 1 = ap ones here in
      let more = one_more pc n ns in
      omega (arith, more, one)
  | inr later ↦ let more = one_more pc n ns in let rest = some_stand pc ns later in omega (arith, more, rest)
]

pub not_noted : (pc : ℕ) (ns : List JumpNote) → is_noted_jump ns pc ≡ false → stand_at pc ns ≡ 0
not_noted pc [] e = refl
not_noted pc (n ∷ ns) e =
    let p = neither (n.at == pc) (is_noted_jump ns pc) e in
    let one : ones (n.at == pc) ≡ 0 = ap ones p.0 in
    let more = one_more pc n ns in
    let rest = not_noted pc ns p.1 in
    omega (arith, more, one, rest)

pub once_stands : (notes : List JumpNote) (pc : ℕ) → is_twice notes pc ≡ false → stand_at pc notes ≤ 1
once_stands notes pc e = few (stand_at pc notes) e
  where
    few : (n : ℕ) → nat_lt 1 n ≡ false → n ≤ 1
    few n f = grind (arith, nat_tests)

-- ---- the greatest depth

pub deep_notes : (notes : List JumpNote) → All (λ (n : JumpNote). tree_depth 32 n.targets ≤ greatest_depth notes) notes
deep_notes [] = All-nil (λ (n : JumpNote). tree_depth 32 n.targets ≤ greatest_depth [])
deep_notes (n ∷ ns) = All-cons (λ (m : JumpNote). tree_depth 32 m.targets ≤ greatest_depth (n ∷ ns)) n ns (left (tree_depth 32 n.targets) (greatest_depth ns))
    (λ k d lt. let below = deep_notes ns k d lt in let more = right (tree_depth 32 n.targets) (greatest_depth ns) in omega (arith, below, more))
  where
    left : (a b : ℕ) → a ≤ max a b
    left a b = grind (arith, nat_tests)

    right : (a b : ℕ) → b ≤ max a b
    right a b = grind (arith, nat_tests)
