-- The trees of noted jumps in the block, and the words that are replaced.
use Rattle.std.proofs.Common.{◌≡◌, ◌≢◌, ℕ, zero, suc, ◌+◌, ◌-◌, ◌*◌, ◌/◌, ◌%◌, ◌<◌, ◌≤◌, Bool, true, false, cond, List, [], ◌∷◌, ◌++◌, length, map, filter, Option, Some, None, refl, sym, ap, subst, ◌∙◌, arith, append_assoc, inl, inr}
use Rattle.std.specs.Prelude.{nat_lt, nat_le, ◌==◌, if◌then◌else◌, All, option_map, filter_map}
use Rattle.std.specs.List.{list_any, Contains, flat_map, range_with_len, cons_option}
use Rattle.std.proofs.lemmas.Bool.{and_parts, or_cases, or_left, or_right, both_ways, eqb-true, eq-eqb, leb-true, ltb-true, cases_lt}
use Rattle.std.proofs.lemmas.List.{length-append}
use Rattle.std.proofs.lemmas.List.Elements.{All-nil, All-cons, All-head, All-tail}
use Rattle.std.proofs.lemmas.List.Folds.{list_any-append}
use Rattle.std.proofs.lemmas.List.Concat.{flat_map-cons}
use Rattle.std.proofs.lemmas.List.Sums.{sum_by-cons}
use Rattle.scale_base.specs.declared.instruction.Instr.{Instr}
use Rattle.scale_base.specs.declared.ranges.Range.{Range}
use Rattle.scale_base.specs.declared.ranges.Patch.{Patch}
use Rattle.scale_base.specs.Image.{Image, is_in}
use Rattle.scale_base.specs.Word.{word_of}
use Rattle.elf_patch.specs.Stored.{little}
use Rattle.code_text.specs.Table.{word_addresses, all_addresses}
use Rattle.graph_runs.specs.TextStates.{IsTextRange}
use Rattle.jump_lists.specs.declared.notes.JumpNote.{JumpNote}
use Rattle.jump_lists.specs.Notes.{IsJumpNote}
use Rattle.image_lower.specs.FarJumps.{far_jump, far_patch}
use Rattle.stub_writer.specs.Stubs.{jump}
use Rattle.image_lower.specs.Trees.{has_bit, lacks_bit, are_alike, tree}
use Rattle.image_lower.specs.Block.{register, note_code, trees_code, tree_patches, is_in_reach, is_tree_near, tree_out_of_reach}
use Rattle.image_lower.proofs.TreeLaws.{alike_more, forks_more, fork_len}
use Rattle.image_lower.proofs.TreeFields.{tree_sound}
use Rattle.image_lower.proofs.TreeSteps.{choose}
use Rattle.image_lower.proofs.NoteFacts.{ones, stand_at, none_stand}

-- ---- lengths, which are those at any address

tree_len : (rs bits shifted a b : ℕ) (xs : List ℕ) → length (tree rs bits shifted a xs) ≡ length (tree rs bits shifted b xs)
unfolding tree
tree_len rs zero shifted a b xs = refl
tree_len rs (suc n) shifted a b xs = choose (are_alike n xs)
    (λ e. ap (λ (c : List Instr). length c) (alike_more rs n shifted a xs e) ∙ (tree_len rs n shifted a b xs ∙ sym (ap (λ (c : List Instr). length c) (alike_more rs n shifted b xs e))))
    (λ e.
    let lack = filter (lacks_bit n) xs in
    let have = filter (has_bit n) xs in
    let first = tree rs n (31 - n) (a + 8) lack in
    let first_too = tree rs n (31 - n) (b + 8) lack in
    let second = tree rs n (31 - n) (a + 8 + 4 * length first) have in
    let second_too = tree rs n (31 - n) (b + 8 + 4 * length first_too) have in
    let one = tree_len rs n (31 - n) (a + 8) (b + 8) lack in
    let two = tree_len rs n (31 - n) (a + 8 + 4 * length first) (b + 8 + 4 * length first_too) have in
    let c = fork_len rs (31 - n - shifted) first second in
    let d = fork_len rs (31 - n - shifted) first_too second_too in
    ap (λ (c : List Instr). length c) (forks_more rs n shifted a xs e) ∙ (omega (arith, one, two, c, d) ∙ sym (ap (λ (c : List Instr). length c) (forks_more rs n shifted b xs e))))

pub tree_some : (rs bits shifted a : ℕ) (xs : List ℕ) → 3 ≤ length (tree rs bits shifted a xs)
unfolding tree
tree_some rs zero shifted a xs = omega arith
tree_some rs (suc n) shifted a xs = choose (are_alike n xs)
    (λ e. subst (λ (c : List Instr). 3 ≤ length c) (sym (alike_more rs n shifted a xs e)) (tree_some rs n shifted a xs))
    (λ e.
    let lack = filter (lacks_bit n) xs in
    let first = tree rs n (31 - n) (a + 8) lack in
    let second = tree rs n (31 - n) (a + 8 + 4 * length first) (filter (has_bit n) xs) in
    let one = tree_some rs n (31 - n) (a + 8) lack in
    let c = fork_len rs (31 - n - shifted) first second in
    subst (λ (c : List Instr). 3 ≤ length c) (sym (forks_more rs n shifted a xs e)) (omega (arith, one, c)))

pub trees_some : (image : Image) (at : ℕ) (ns : List JumpNote) → 1 ≤ length ns → 0 < length (trees_code image at ns)
trees_some image at [] some = absurd (omega (arith, some))
trees_some image at (n ∷ ns) some =
    let one = tree_some (register image n) 32 0 at n.targets in
    omega (arith, length-append (note_code image at n) (trees_code image (at + 4 * length (note_code image at n)) ns), one)

pub trees_len : (image : Image) (a b : ℕ) (ns : List JumpNote) → length (trees_code image a ns) ≡ length (trees_code image b ns)
trees_len image a b [] = refl
trees_len image a b (n ∷ ns) =
    let one = tree_len (register image n) 32 0 a b n.targets in
    let x = trees_code image (a + 4 * length (note_code image a n)) ns in
    let y = trees_code image (b + 4 * length (note_code image b n)) ns in
    let rest = trees_len image (a + 4 * length (note_code image a n)) (b + 4 * length (note_code image b n)) ns in
    omega (arith, length-append (note_code image a n) x, length-append (note_code image b n) y, one, rest)

-- a note whose tree has words
abbrev pub IsFine : Image → JumpNote → Type 0
IsFine image n = IsJumpNote n × (register image n < 32)

pub trees_short : (image : Image) (at : ℕ) (ns : List JumpNote) → All (IsFine image) ns → length (trees_code image at ns) ≤ 638 * length ns
trees_short image at [] h = omega arith
trees_short image at (n ∷ ns) h =
    let one = All-head (IsFine image) n ns h in
    let few = one.0.targets.few in
    let short = (tree_sound (register image n) 32 0 at n.targets one.1 one.0.targets.some few).short in
    let x = trees_code image (at + 4 * length (note_code image at n)) ns in
    let rest = trees_short image (at + 4 * length (note_code image at n)) ns (All-tail (IsFine image) n ns h) in
    omega (arith, length-append (note_code image at n) x, few, short, rest)

-- the bytes of code
abbrev pub code_of : List Instr → List ℕ
code_of code = flat_map (λ i. little 4 (word_of i)) code

pub words_len : (code : List Instr) → length (code_of code) ≡ 4 * length code
words_len [] = refl
words_len (i ∷ is) =
    let rest = words_len is in
    ap (λ (xs : List ℕ). length xs) (flat_map-cons (λ i. little 4 (word_of i)) i is) ∙ omega (arith, length-append (little 4 (word_of i)) (code_of is), rest)

-- ---- the tree of a noted jump

-- a patch at another address
abbrev pub IsElsewhere : ℕ → Patch → Type 0
IsElsewhere pc p = p.at ≢ pc

-- where it is at the address, it has the word
abbrev pub HasWord : ℕ → ℕ → Patch → Type 0
HasWord pc w p = p.at ≡ pc → p.word ≡ w

pub patches_elsewhere : (image : Image) (pc at : ℕ) (ns : List JumpNote) → All (λ (n : JumpNote). n.at ≢ pc) ns → All (IsElsewhere pc) (tree_patches image at ns)
patches_elsewhere image pc at [] h = All-nil (IsElsewhere pc)
patches_elsewhere image pc at (n ∷ ns) h =
    All-cons (IsElsewhere pc) (record { at = n.at; word = word_of (jump n.at at) }) (tree_patches image (at + 4 * length (note_code image at n)) ns)
    (All-head (λ (n : JumpNote). n.at ≢ pc) n ns h)
    (patches_elsewhere image pc (at + 4 * length (note_code image at n)) ns (All-tail (λ (n : JumpNote). n.at ≢ pc) n ns h))

pub record IsPlanted (image : Image) (pc at : ℕ) (ns : List JumpNote) : Type 0 where
  pub note : JumpNote
  pub there : Contains ns note
  pub at_is : note.at ≡ pc
  pub tree : ℕ
  pub ahead : List Instr
  pub behind : List Instr
  pub code : trees_code image at ns ≡ ahead ++ (note_code image tree note ++ behind)
  pub place : tree ≡ at + 4 * length ahead
  pub words : All (HasWord pc (word_of (jump pc tree))) (tree_patches image at ns)
  pub some : list_any (λ (p : Patch). p.at == pc) (tree_patches image at ns) ≡ true
  pub near : is_in_reach tree note (note_code image tree note) ≡ true

near_first : (b : Bool) (o : Option ℕ) (at : ℕ) → (if b then o else Some at) ≡ None → (b ≡ true) × (o ≡ None)
near_first true o at e = (refl, e)
near_first false o at e = let never : ⊥ = cc in absurd never

unmatched : (pc w : ℕ) (ps : List Patch) → All (IsElsewhere pc) ps → All (HasWord pc w) ps
unmatched pc w ps h k d lt same = absurd (h k d lt same)

planted_first : (image : Image) (pc at : ℕ) (n : JumpNote) (ns : List JumpNote) → n.at ≡ pc → All (λ (m : JumpNote). m.at ≢ pc) ns → is_tree_near image at n ≡ true → IsPlanted image pc at (n ∷ ns)
planted_first image pc at n ns same others near =
    let next = at + 4 * length (note_code image at n) in
    record {
      note = n;
      there = (0, omega arith, refl);
      at_is = same;
      tree = at;
      ahead = [];
      behind = trees_code image next ns;
      code = refl;
      place = omega arith;
      words = All-cons (HasWord pc (word_of (jump pc at))) (record { at = n.at; word = word_of (jump n.at at) }) (tree_patches image next ns)
          (λ e. ap (λ a. word_of (jump a at)) same)
          (unmatched pc (word_of (jump pc at)) (tree_patches image next ns) (patches_elsewhere image pc next ns others));
      some = or_left (n.at == pc) (list_any (λ (p : Patch). p.at == pc) (tree_patches image next ns)) (eq-eqb n.at pc same);
      near = near;
    }

planted_later : (image : Image) (pc at : ℕ) (n : JumpNote) (ns : List JumpNote) → n.at ≢ pc → IsPlanted image pc (at + 4 * length (note_code image at n)) ns → IsPlanted image pc at (n ∷ ns)
planted_later image pc at n ns other p =
    let first = note_code image at n in
    let next = at + 4 * length first in
    let place = p.place in
    let there = p.there in
    record {
      note = p.note;
      there = (suc there.0, omega (arith, there.1), there.2);
      at_is = p.at_is;
      tree = p.tree;
      ahead = first ++ p.ahead;
      behind = p.behind;
      code = ap (λ (c : List Instr). first ++ c) p.code ∙ sym (append_assoc first p.ahead (note_code image p.tree p.note ++ p.behind));
      place = omega (arith, place, length-append first p.ahead);
      words = All-cons (HasWord pc (word_of (jump pc p.tree))) (record { at = n.at; word = word_of (jump n.at at) }) (tree_patches image next ns) (λ e. absurd (other e)) p.words;
      some = or_right (n.at == pc) (list_any (λ (q : Patch). q.at == pc) (tree_patches image next ns)) p.some;
      near = p.near;
    }

-- the jump at an address that is noted once
pub planted : (image : Image) (pc at : ℕ) (ns : List JumpNote) → 1 ≤ stand_at pc ns → stand_at pc ns ≤ 1 → tree_out_of_reach image at ns ≡ None → IsPlanted image pc at ns
planted image pc at [] some once near = absurd (omega (arith, some))
planted image pc at (n ∷ ns) some once near =
    let a = near_first (is_tree_near image at n) (tree_out_of_reach image (at + 4 * length (note_code image at n)) ns) n.at near in
    let more = sum_by-cons (λ (m : JumpNote). cond (m.at == pc) 1 0) n ns in
    choose (n.at == pc)
    (λ e.
    let one : ones (n.at == pc) ≡ 1 = ap ones e in
    planted_first image pc at n ns (eqb-true n.at pc e) (none_stand pc ns (omega (arith, once, more, one))) a.0)
    (λ e.
    let none : ones (n.at == pc) ≡ 0 = ap ones e in
    planted_later image pc at n ns (λ same. both_ways (n.at == pc) e (eq-eqb n.at pc same))
    (planted image pc (at + 4 * length (note_code image at n)) ns (omega (arith, some, more, none)) (omega (arith, once, more, none)) a.1))

-- ---- the words of near jumps

module _ (image : Image) (notes : List JumpNote) where
  abbrev pub IsNearPatch : Patch → Type 0
  IsNearPatch p = (i : Instr) × (far_jump image notes p.at ≡ Some i) × (p.word ≡ word_of i)

  near_cons : (x : ℕ) (o : Option Instr) (ps : List Patch) → far_jump image notes x ≡ o → All IsNearPatch ps → All IsNearPatch (cons_option (option_map (λ i. record { at = x; word = word_of i }) o) ps)
  near_cons x None ps e h = h
  near_cons x (Some i) ps e h = All-cons IsNearPatch (record { at = x; word = word_of i }) ps (i, e, refl) h

  pub near_all : (xs : List ℕ) → All IsNearPatch (filter_map (far_patch image notes) xs)
  near_all [] = All-nil IsNearPatch
  near_all (x ∷ xs) = near_cons x (far_jump image notes x) (filter_map (far_patch image notes) xs) refl (near_all xs)

  abbrev at_pc : ℕ → List Patch → Bool
  at_pc pc ps = list_any (λ (p : Patch). p.at == pc) ps

  has_first : (pc : ℕ) (i : Instr) (o : Option Instr) (x : ℕ) (ps : List Patch) → o ≡ Some i → x ≡ pc → at_pc pc (cons_option (option_map (λ i. record { at = x; word = word_of i }) o) ps) ≡ true
  has_first pc i None x ps e same = let never : ⊥ = cc in absurd never
  has_first pc i (Some j) x ps e same = or_left (x == pc) (at_pc pc ps) (eq-eqb x pc same)

  has_later : (pc : ℕ) (o : Option Instr) (x : ℕ) (ps : List Patch) → at_pc pc ps ≡ true → at_pc pc (cons_option (option_map (λ i. record { at = x; word = word_of i }) o) ps) ≡ true
  has_later pc None x ps h = h
  has_later pc (Some j) x ps h = or_right (x == pc) (at_pc pc ps) h

  pub near_has : (pc : ℕ) (i : Instr) (xs : List ℕ) → far_jump image notes pc ≡ Some i → list_any (λ a. a == pc) xs ≡ true → at_pc pc (filter_map (far_patch image notes) xs) ≡ true
  near_has pc i [] far e = let never : ⊥ = cc in absurd never
  near_has pc i (x ∷ xs) far e = elim (or_cases (x == pc) (list_any (λ a. a == pc) xs) e) [
    | inl here ↦ let same = eqb-true x pc here in has_first pc i (far_jump image notes x) x (filter_map (far_patch image notes) xs) (ap (far_jump image notes) same ∙ far) same
    | inr later ↦ has_later pc (far_jump image notes x) x (filter_map (far_patch image notes) xs) (near_has pc i xs far later)
  ]

-- ---- each word of the text is among the addresses

numbered : (from pc k m n : ℕ) → pc ≡ from + 4 * k → m ≤ k → k < m + n → list_any (λ a. a == pc) (map (λ i. from + 4 * i) (range_with_len m n)) ≡ true
numbered from pc k m zero e low high = absurd (omega (arith, low, high))
numbered from pc k m (suc n) e low high = elim (cases_lt m k) [
  | inl less ↦ or_right (from + 4 * m == pc) (list_any (λ a. a == pc) (map (λ i. from + 4 * i) (range_with_len (m + 1) n))) (numbered from pc k (m + 1) n e (omega (arith, less)) (omega (arith, high)))
  | inr here ↦ or_left (from + 4 * m == pc) (list_any (λ a. a == pc) (map (λ i. from + 4 * i) (range_with_len (m + 1) n))) (eq-eqb (from + 4 * m) pc (omega (arith, e, low, here)))
]

in_range : (pc : ℕ) (r : Range) → IsTextRange r → pc % 4 ≡ 0 → is_in pc r ≡ true → list_any (λ a. a == pc) (word_addresses r) ≡ true
in_range pc r whole even e =
    let p = and_parts (nat_le r.from pc) (nat_lt pc r.to) e in
    let low = leb-true r.from pc p.0 in
    let high = ltb-true pc r.to p.1 in
    let first = whole.0 in
    let last = whole.1 in
    numbered r.from pc ((pc - r.from) / 4) 0 ((r.to - r.from) / 4) (omega (arith, low, first, even)) (omega arith) (omega (arith, low, high, first, last, even))

pub address_there : (pc : ℕ) (ranges : List Range) → All IsTextRange ranges → pc % 4 ≡ 0 → list_any (is_in pc) ranges ≡ true → list_any (λ a. a == pc) (all_addresses ranges) ≡ true
address_there pc [] each even e = let never : ⊥ = cc in absurd never
address_there pc (r ∷ rs) each even e =
    ap (list_any (λ a. a == pc)) (flat_map-cons word_addresses r rs)
    ∙ (list_any-append (λ a. a == pc) (word_addresses r) (all_addresses rs)
    ∙ elim (or_cases (is_in pc r) (list_any (is_in pc) rs) e) [
      | inl here ↦ or_left (list_any (λ a. a == pc) (word_addresses r)) (list_any (λ a. a == pc) (all_addresses rs)) (in_range pc r (All-head IsTextRange r rs each) even here)
      | inr later ↦ or_right (list_any (λ a. a == pc) (word_addresses r)) (list_any (λ a. a == pc) (all_addresses rs)) (address_there pc rs (All-tail IsTextRange r rs each) even later)
    ])
