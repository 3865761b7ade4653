-- The lowered image has what the law of runs needs.
use Rattle.std.proofs.Common.{◌≡◌, ℕ, suc, ◌+◌, ◌-◌, ◌*◌, ◌%◌, ◌^◌, ◌<◌, ◌≤◌, Bool, true, false, ◌&&◌, ◌||◌, List, [], ◌∷◌, ◌++◌, length, get_or, Option, Some, None, Result, Ok, Err, refl, sym, ap, subst, ◌∙◌, arith, inl, inr}
use Rattle.std.specs.Prelude.{nat_lt, nat_le, ◌==◌, if◌then◌else◌, All, is_some}
use Rattle.std.specs.List.{list_any, list_all, Contains}
use Rattle.std.proofs.lemmas.Bool.{eqb-true, and_parts, or_left, or_right, or_cases, both_ways, cases_lt, and_from, le-leb, lt-ltb}
use Rattle.std.proofs.lemmas.Bool.Decides.{nat_tests}
use Rattle.std.proofs.lemmas.List.{length-append, append-nil, get_or_append_left}
use Rattle.std.proofs.lemmas.List.Elements.{All-nil, All-cons, All-head, All-tail, All-append}
use Rattle.std.proofs.lemmas.List.Folds.{list_any-append}
use Rattle.std.proofs.lemmas.List.Concat.{flat_map-cons}
use Rattle.std.proofs.lemmas.Grind.{flat_map-append}
use Rattle.scale_base.specs.declared.instruction.Instr.{Instr}
use Rattle.scale_base.specs.declared.ranges.Patch.{Patch}
use Rattle.scale_base.specs.declared.refusal.Refusal.{Refusal}
use Rattle.scale_base.specs.declared.refusal.Refusal.TheVariants.{LowerOutOfReach, NoRoom}
use Rattle.scale_base.specs.Bytes.{list_half_at}
use Rattle.scale_base.specs.Elf.{e_shnum, has_sections}
use Rattle.scale_base.specs.Image.{Image, image_of, contents, loaded_byte, is_word_address, is_in, text_ranges, image_rules}
use Rattle.scale_base.specs.Rules.{AllHold}
use Rattle.scale_base.specs.Layout.{layout_of, in_text, is_keyed, can_fetch}
use Rattle.scale_base.specs.Reading.{instr_of}
use Rattle.scale_base.specs.Run.{setting_of, starting_level}
use Rattle.scale_base.specs.State.{Setting, word_at}
use Rattle.scale_base.specs.Word.{word_of, FieldsInRange}
use Rattle.scale_base.proofs.Laws.{rules_kept, contents-are, has_table, rules_of, word_back, word_small}
use Rattle.elf_patch.specs.Stored.{little, patched, IsStubBase, is_free}
use Rattle.elf_patch.proofs.Laws.{some_place}
use Rattle.stored_laws.proofs.Laws.{get_or-behind, text_place, Places}
use Rattle.table_keys.specs.Keys.{◌>>=◌}
use Rattle.machine_laws.proofs.Laws.{word_in_text}
use Rattle.code_text.specs.Text.{text_of}
use Rattle.graph_runs.specs.TextStates.{IsTextOf}
use Rattle.graph_runs.proofs.Laws.{text_of_layout, word_bound}
use Rattle.stored_runs.proofs.Laws.{IsOff, hidden, word_by, patched_word}
use Rattle.code_text.specs.Table.{all_addresses}
use Rattle.jump_lists.specs.declared.notes.JumpNote.{JumpNote}
use Rattle.jump_lists.specs.Notes.{IsJumpNote}
use Rattle.scale_base.specs.declared.summary.Lowered.{Lowered}
use Rattle.image_lower.specs.FarJumps.{far_jump, far_patches, far_target}
use Rattle.stub_writer.specs.Stubs.{jump}
use Rattle.image_lower.specs.Trees.{fits, tree_depth}
use Rattle.image_lower.specs.Block.{register, note_code, trees_code, tree_patches, is_twice, tree_out_of_reach, ascending_notes, trees_bytes, block_len, greatest_depth}
use Rattle.image_lower.specs.Lowered.{refuse_at, is_full, all_patches, lowered_file, summary, finished, roomy, lowered_at}
use Rattle.image_lower.specs.Meets.{in_block, is_noted_jump, IsLoweredTo, LoweredRunsFollow}
use Rattle.image_lower.specs.TreeRuns.{CodeStands}
use Rattle.image_lower.proofs.Reach.{near_fits}
use Rattle.image_lower.proofs.Follows.{words_there}
use Rattle.image_lower.proofs.TreeFields.{jump_fits, tree_has_words}
use Rattle.image_lower.proofs.FarParts.{IsFar, far_parts}
use Rattle.image_lower.proofs.Kept.{len_fold}
use Rattle.image_lower.proofs.NoteFacts.{IsGood, good_notes, good_of, IsJumpAt, jump_at, all_ascending, each_listed, ascending_count, none_stand, some_stand, not_noted, once_stands, deep_notes}
use Rattle.image_lower.proofs.Planted.{IsFine, trees_some, trees_len, trees_short, code_of, words_len, IsElsewhere, HasWord, patches_elsewhere, IsPlanted, planted, IsNearPatch, near_all, near_has, address_there}
use Rattle.image_lower.proofs.MadeMemory as memory
use Rattle.image_lower.proofs.MadeMemory.{IsMade}
use Rattle.image_lower.proofs.MadeBy.{IsMadeFile, AreOffTable, made_added, made_patched}
use Rattle.image_lower.proofs.LoweredFrame.{IsTreeOf, IsFrame}
use Rattle.image_lower.proofs.Followed.{frame_follows}

-- ---- what was stored

pub record IsMadeOf (image : Image) (notes : List JumpNote) (base : ℕ) (made : List ℕ) (counts : Lowered) : Type 0 where
  pub file_is : lowered_file image base notes ≡ made
  pub told : counts ≡ summary image notes
  pub again : (lowered : Image) × (image_of made ≡ Ok lowered)
  pub near : tree_out_of_reach image base (ascending_notes notes) ≡ None
  pub room : 1 ≤ length notes → is_full image.file ≡ false

abbrev given : List ℕ → Lowered → Result (List ℕ × Lowered) Refusal
given file counts = Ok ((file, counts))

given_of : (file : List ℕ) (counts : Lowered) → Result (List ℕ × Lowered) Refusal → List ℕ × Lowered
given_of file counts (Ok p) = p
given_of file counts (Err refusal) = (file, counts)

-- what is given where the file is an image again
record IsFinished (file made : List ℕ) (counts other : Lowered) : Type 0 where
  same : file ≡ made
  told : other ≡ counts
  again : (image : Image) × (image_of made ≡ Ok image)

given_same : (file made : List ℕ) (counts other : Lowered) (image : Image) → image_of file ≡ Ok image → given file counts ≡ given made other → IsFinished file made counts other
unfolding given_of
given_same file made counts other image read e =
    let both : (file, counts) ≡ (made, other) = ap (given_of file counts) e in
    let same : file ≡ made = ap (λ (p : List ℕ × Lowered). p.0) both in
    record { same = same; told = sym (ap (λ (p : List ℕ × Lowered). p.1) both); again = (image, ap image_of (sym same) ∙ read) }

finished_is : (file made : List ℕ) (counts other : Lowered) (r : Result Image Refusal) → image_of file ≡ r → finished file counts ≡ given made other → IsFinished file made counts other
unfolding finished
finished_is file made counts other (Ok image) e h =
    given_same file made counts other image e (sym (ap (λ (r : Result Image Refusal). roomy r >>= λ _. given file counts) e) ∙ h)
finished_is file made counts other (Err refusal) e h = refused refusal (sym (ap (λ (r : Result Image Refusal). roomy r >>= λ _. given file counts) e) ∙ h)
  where
    refused : (refusal : Refusal) → (roomy (Err refusal) >>= λ _. given file counts) ≡ given made other → IsFinished file made counts other
    refused refusal is = let never : ⊥ = cc in absurd never

abbrev full_by : Bool → Result (Unit {0}) Refusal
full_by b = if b then Err (NoRoom 2) else Ok tt

by_fit : (o : Option ℕ) (full : Bool) (rest : Result (List ℕ × Lowered) Refusal) (x : List ℕ × Lowered) → ((refuse_at LowerOutOfReach o >>= λ _. full_by full) >>= λ _. rest) ≡ Ok x → (o ≡ None) × (full ≡ false) × (rest ≡ Ok x)
by_fit None true rest x h = let never : ⊥ = cc in absurd never
by_fit None false rest x h = (refl, refl, h)
by_fit (Some at) full rest x h = let never : ⊥ = cc in absurd never

pub made_of : (image : Image) (notes : List JumpNote) (base : ℕ) (made : List ℕ) (counts : Lowered) → lowered_at image base notes ≡ Ok ((made, counts)) → IsMadeOf image notes base made counts
unfolding lowered_at ascending_notes
made_of image [] base made counts h =
    let f = finished_is (lowered_file image base []) made (summary image []) counts (image_of (lowered_file image base [])) refl h in
    record {
      file_is = f.same;
      told = f.told;
      again = f.again;
      near = refl;
      room = λ some. absurd (omega (arith, some));
    }
made_of image (n ∷ ns) base made counts h =
    let p = by_fit (tree_out_of_reach image base (ascending_notes (n ∷ ns))) (is_full image.file) (finished (lowered_file image base (n ∷ ns)) (summary image (n ∷ ns))) ((made, counts)) h in
    let f = finished_is (lowered_file image base (n ∷ ns)) made (summary image (n ∷ ns)) counts (image_of (lowered_file image base (n ∷ ns))) refl p.2 in
    record {
      file_is = f.same;
      told = f.told;
      again = f.again;
      near = p.0;
      room = λ some. p.1;
    }

-- ---- code that stands where its bytes lie

stand_from : (env : Setting) (bytes : ℕ → ℕ) (at : ℕ) (code : List Instr) → ((j : ℕ) → j < 4 * length code → bytes (at + j) ≡ get_or (code_of code) j 0) → All FieldsInRange code → ((k : ℕ) → k < length code → can_fetch env.layout (at + 4 * k) ≡ true) → at + 4 * length code < 2 ^ 32 → CodeStands env bytes at code
stand_from env bytes at [] lies fields fetched room = tt
stand_from env bytes at (i ∷ is) lies fields fetched room =
    let one = All-head FieldsInRange i is fields in
    let v = word_of i in
    let cut : code_of (i ∷ is) ≡ little 4 v ++ code_of is = flat_map-cons (λ i. little 4 (word_of i)) i is in
    let here : (j : ℕ) → j < 4 → bytes (at + j) ≡ get_or (little 4 v) j 0 = λ j lt.
    lies j (omega (arith, lt)) ∙ (ap (λ (xs : List ℕ). get_or xs j 0) cut ∙ get_or_append_left (little 4 v) (code_of is) 0 j lt) in
    let first : at + 4 * 0 ≡ at = omega arith in (
      record {
        fetched = subst (λ a. can_fetch env.layout a ≡ true) first (fetched 0 (omega arith));
        room = omega (arith, room);
        encodes = (one, patched_word bytes at v here (word_small v i (one, refl)));
      },
      stand_from env bytes (at + 4) is
          (λ j lt. let e : at + 4 + j ≡ at + (4 + j) = omega arith in
          ap bytes e ∙ (lies (4 + j) (omega (arith, lt)) ∙ (ap (λ (xs : List ℕ). get_or xs (4 + j) 0) cut ∙ get_or-behind (little 4 v) (code_of is) 4 j refl)))
          (All-tail FieldsInRange i is fields)
          (λ k lt. let e : at + 4 * suc k ≡ at + 4 + 4 * k = omega arith in subst (λ a. can_fetch env.layout a ≡ true) e (fetched (suc k) (omega (arith, lt))))
          (omega (arith, room)),
    )

-- ---- lists

at_place : (P : JumpNote → Type 0) (xs : List JumpNote) (n : JumpNote) → All P xs → Contains xs n → P n
at_place P xs n h c = subst P c.2 (h c.0 n c.1)

noted_at : (P : JumpNote → Type 0) (pc : ℕ) (ns : List JumpNote) → All P ns → is_noted_jump ns pc ≡ true → (n : JumpNote) × P n × (n.at ≡ pc)
noted_at P pc [] h e = let never : ⊥ = cc in absurd never
noted_at P pc (n ∷ ns) h e = elim (or_cases (n.at == pc) (is_noted_jump ns pc) e) [
  | inl here ↦ (n, All-head P n ns h, eqb-true n.at pc here)
  | inr later ↦ noted_at P pc ns (All-tail P n ns h) later
]

each_passes : (p : ℕ → Bool) (xs : List ℕ) → list_all p xs ≡ true → All (λ x. p x ≡ true) xs
each_passes p [] e = All-nil (λ x. p x ≡ true)
each_passes p (x ∷ xs) e = let a = and_parts (p x) (list_all p xs) e in All-cons (λ x. p x ≡ true) x xs a.0 (each_passes p xs a.1)

neither : (a b : Bool) → (a || b) ≡ false → (a ≡ false) × (b ≡ false)
neither true b h = let never : ⊥ = cc in absurd never
neither false b h = (refl, h)

-- ---- the words that are replaced are words of the text

abbrev IsTextPatch : Image → Patch → Type 0
IsTextPatch image p = is_word_address image p.at ≡ true

near_word : (image : Image) (notes : List JumpNote) (p : Patch) → IsNearPatch image notes p → IsTextPatch image p
near_word image notes p h = let s = far_parts image notes p.at h.0 h.1 in (words_there image p.at s.aligned s.behind).0

tree_words : (image : Image) (at : ℕ) (ns : List JumpNote) → All (λ (n : JumpNote). is_word_address image n.at ≡ true) ns → All (IsTextPatch image) (tree_patches image at ns)
tree_words image at [] h = All-nil (IsTextPatch image)
tree_words image at (n ∷ ns) h =
    All-cons (IsTextPatch image) (record { at = n.at; word = word_of (jump n.at at) }) (tree_patches image (at + 4 * length (note_code image at n)) ns)
    (All-head (λ (n : JumpNote). is_word_address image n.at ≡ true) n ns h)
    (tree_words image (at + 4 * length (note_code image at n)) ns (All-tail (λ (n : JumpNote). is_word_address image n.at ≡ true) n ns h))

-- what is known of each note
pub record IsLowerable (image : Image) (notes : List JumpNote) (n : JumpNote) : Type 0 where
  pub noted : IsJumpNote n
  pub good : IsGood image notes n
  pub listed : Contains notes n
  pub depth : tree_depth 32 n.targets ≤ greatest_depth notes
  pub jumps : IsJumpAt image n.at (register image n)

-- the file that is stored, as an image
file_by : (file : List ℕ) (base : ℕ) (ns : List JumpNote) → image_of file ≡ Ok (contents file) → AllHold (image_rules file) → length file ≤ 4194304 → length (trees_bytes (contents file) base ns) ≤ 4194304
    → (1 ≤ length ns → 0 < length (trees_bytes (contents file) base ns)) → length (trees_bytes (contents file) base ns) % 4 ≡ 0 → base % 4096 ≡ 0 → base < 2 ^ 32 → (1 ≤ length ns → has_sections file ≡ true → e_shnum file < 65535)
    → Places file (all_patches (contents file) base ns) → Places file (far_patches (contents file) ns) → AreOffTable file (far_patches (contents file) ns)
    → IsMadeFile file (lowered_file (contents file) base ns) (all_patches (contents file) base ns) base (trees_bytes (contents file) base ns)
unfolding contents ascending_notes
file_by file base [] read rules short short_block some whole page low room places near_places off_table =
    let near = far_patches (contents file) [] in
    subst (λ ps. IsMadeFile file (patched file near) ps base []) (sym (append-nil near)) (made_patched file near base read rules near_places off_table)
file_by file base (n ∷ ns) read rules short short_block some whole page low room places near_places off_table =
    made_added file (all_patches (contents file) base (n ∷ ns)) base (trees_bytes (contents file) base (n ∷ ns)) read rules short short_block (some (omega arith)) whole page low (room (omega arith)) places

module _ (file made : List ℕ) (notes : List JumpNote) (base : ℕ) (h : IsLoweredTo (contents file) notes base (contents made)) where
  abbrev image : Image
  image = contents file

  abbrev lowered : Image
  lowered = contents made

  read : image_of file ≡ Ok image
  unfolding contents
  read = h.read

  read_too : image_of made ≡ Ok lowered
  unfolding contents
  read_too = h.lowered_read

  rules : AllHold (image_rules file)
  rules = rules_kept file image read

  made_as : IsMadeOf image notes base made h.counts
  unfolding contents
  made_as = made_of image notes base made h.counts h.made

  lowerable : All (IsLowerable image notes) notes
  lowerable = λ k d lt.
      let good = good_of image notes (get_or notes k d) (good_notes image notes h.good k d lt) in
      record {
        noted = h.noted.each k d lt;
        good = good;
        listed = each_listed notes k d lt;
        depth = deep_notes notes k d lt;
        jumps = jump_at file image (get_or notes k d) read good.jumps;
      }

  sorted : All (IsLowerable image notes) (ascending_notes notes)
  sorted = all_ascending (IsLowerable image notes) notes lowerable

  -- ---- the block

  abbrev block : List ℕ
  block = trees_bytes image base notes

  abbrev code : List Instr
  code = trees_code image base (ascending_notes notes)

  block_size : length block ≡ 4 * length code
  block_size = words_len code

  block_long : length block ≡ block_len image notes
  block_long = block_size ∙ ap (λ n. 4 * n) (trees_len image base 0 (ascending_notes notes))

  fine : All (IsFine image) (ascending_notes notes)
  fine = λ k d lt. let n = sorted k d lt in (n.noted, n.jumps.few)

  sorted_few : length (ascending_notes notes) ≤ 1024
  unfolding ascending_notes
  sorted_few = let few = h.noted.few in omega (arith, len_fold [] notes, few)

  block_short : length block ≤ 4194304
  block_short = let a = trees_short image base (ascending_notes notes) fine in omega (arith, a, block_size, sorted_few)

  place : IsStubBase image (length block) base
  place = subst (λ n. IsStubBase image n base) (sym block_long) h.place

  base_low : base ≤ 0xFF800000
  base_low = let low = some_place file image (length block) read block_short in omega (arith, place.least low.0 low.1, low.2)

  page : base % 4096 ≡ 0
  page = place.place.page

  -- ---- the words that are replaced

  abbrev far : List Patch
  far = far_patches image notes

  abbrev patches : List Patch
  patches = all_patches image base notes

  far_near : All (IsNearPatch image notes) far
  far_near = near_all image notes (all_addresses image.text)

  words : All (IsTextPatch image) patches
  words = All-append (IsTextPatch image) far (tree_patches image base (ascending_notes notes)) (λ k d lt. near_word image notes (get_or far k d) (far_near k d lt))
      (tree_words image base (ascending_notes notes) (λ k d lt. (sorted k d lt).jumps.word))

  far_words : All (IsTextPatch image) far
  far_words = λ k d lt. near_word image notes (get_or far k d) (far_near k d lt)

  -- ---- the file

  room : 1 ≤ length notes → has_sections file ≡ true → e_shnum file < 65535
  unfolding contents list_half_at
  room some on =
      let long = (has_table file image read).long in
      let full : (has_sections file && (e_shnum file == 65535)) ≡ false = made_as.room some in
      let off : (e_shnum file == 65535) ≡ false = sym (ap (λ b. b && (e_shnum file == 65535)) on) ∙ full in
      let one = h.bytes 48 0 (omega (arith, long)) in
      let two = h.bytes 49 0 (omega (arith, long)) in
      below (get_or file 48 0) (get_or file 49 0) one two off
    where
      below : (a b : ℕ) → a < 2 ^ 8 → b < 2 ^ 8 → (a + 256 * b == 65535) ≡ false → a + 256 * b < 65535
      below a b x y e = grind (arith, nat_tests)

  places_of : (ps : List Patch) → All (IsTextPatch image) ps → Places file ps
  places_of ps w = λ k d lt q f. text_place file (get_or ps k d).at q rules (w k d lt) f

  off_table : AreOffTable file far
  unfolding contents
  off_table = λ k d lt. let p = far_near k d lt in (far_parts image notes (get_or far k d).at p.0 p.1).off_table

  short : length file ≤ 4194304
  unfolding contents
  short = h.short

  sorted_len : length (ascending_notes notes) ≡ length notes
  unfolding ascending_notes
  sorted_len = let e = len_fold [] notes in omega (arith, e)

  filled : 1 ≤ length notes → 0 < length block
  filled some = let a = trees_some image base (ascending_notes notes) (omega (arith, some, sorted_len)) in omega (arith, a, block_size)

  is_made : IsMadeFile file made patches base block
  is_made =
      subst (λ f. IsMadeFile file f patches base block) made_as.file_is
      (file_by file base notes read rules short block_short filled (omega (arith, block_size)) page (omega (arith, base_low)) room (places_of patches words) (places_of far far_words) off_table)

  m : IsMade file made patches base block
  m = is_made.is

  free : is_free image (length block) base ≡ true
  free = place.place.free

  -- ---- bytes and words

  abbrev inside : ℕ → Bool
  inside a = in_block base (length block) a

  inside_is : (a : ℕ) → in_block base (block_len image notes) a ≡ inside a
  inside_is a = ap (λ n. in_block base n a) (sym block_long)

  text_is : (a : ℕ) → in_text (layout_of lowered) a ≡ (in_text (layout_of image) a || inside a)
  text_is = memory.text_is file made patches base block read read_too words free h.no_key m

  text_ok : (levels : ℕ) (input : List ℕ) → IsTextOf (text_of image) (setting_of image levels input)
  text_ok levels input = text_of_layout file image levels input read

  word_in : (pc : ℕ) → is_word_address image pc ≡ true → (pc % 4 ≡ 0) × (list_any (is_in pc) (text_ranges file) ≡ true)
  word_in = memory.word_in file made patches base block read read_too words free h.no_key m

  in_image : (a : ℕ) → list_any (is_in a) (text_ranges file) ≡ true → in_text (layout_of image) a ≡ true
  unfolding layout_of contents
  in_image a on = on

  of_image : (a : ℕ) → in_text (layout_of image) a ≡ true → list_any (is_in a) image.text ≡ true
  unfolding layout_of
  of_image a on = on

  in_lowered : (a : ℕ) → in_text (layout_of image) a ≡ true → in_text (layout_of lowered) a ≡ true
  in_lowered a on = text_is a ∙ or_left (in_text (layout_of image) a) (inside a) on

  fetched_too : (pc : ℕ) → pc % 4 ≡ 0 → in_text (layout_of lowered) pc ≡ true → can_fetch (layout_of lowered) pc ≡ true
  fetched_too = memory.fetched_too file made patches base block read read_too words free h.no_key m

  fetched_word : (pc : ℕ) → is_word_address image pc ≡ true → can_fetch (layout_of lowered) pc ≡ true
  fetched_word pc word = let w = word_in pc word in fetched_too pc w.0 (in_lowered pc (in_image pc w.1))

  low_word : (pc : ℕ) → is_word_address image pc ≡ true → pc < 0xFF000000
  low_word pc word = let w = word_in pc word in word_bound (text_of image) (setting_of image 0 []) (text_ok 0 []) pc (of_image pc (in_image pc w.1))

  word_put : (pc w : ℕ) → is_word_address image pc ≡ true → All (HasWord pc w) patches → list_any (λ (p : Patch). p.at == pc) patches ≡ true → w < 2 ^ 32 → word_at (loaded_byte lowered) pc ≡ w
  word_put pc w word all some small =
      patched_word (loaded_byte lowered) pc w (λ j lt. memory.patched_byte file made patches base block read read_too words free h.no_key m pc w j word all some lt) small

  -- ---- words that are no noted jumps

  no_tree : (pc : ℕ) → is_noted_jump notes pc ≡ false → All (IsElsewhere pc) (tree_patches image base (ascending_notes notes))
  no_tree pc off = patches_elsewhere image pc base (ascending_notes notes) (none_stand pc (ascending_notes notes) (ascending_count pc notes ∙ not_noted pc notes off))

  no_near : (pc : ℕ) → far_jump image notes pc ≡ None → All (IsElsewhere pc) far
  no_near pc none = λ k d lt same. let p = far_near k d lt in clash p.0 (ap (far_jump image notes) (sym same) ∙ p.1)
    where
      clash : (i : Instr) → far_jump image notes pc ≡ Some i → ⊥
      clash i e = let bad : None ≡ Some i = sym none ∙ e in cc

  plain : (pc : ℕ) → is_word_address image pc ≡ true → is_noted_jump notes pc ≡ false → far_jump image notes pc ≡ None → word_at (loaded_byte lowered) pc ≡ word_at (loaded_byte image) pc
  plain pc word off none =
      let elsewhere = All-append (IsElsewhere pc) far (tree_patches image base (ascending_notes notes)) (no_near pc none) (no_tree pc off) in
      word_by (loaded_byte lowered) (loaded_byte image) pc (λ j lt. memory.plain_byte file made patches base block read read_too words free h.no_key m pc j word elsewhere lt)

  unmatched : (pc w : ℕ) (ps : List Patch) → All (IsElsewhere pc) ps → All (HasWord pc w) ps
  unmatched pc w ps none = λ k d lt same. absurd (none k d lt same)

  near_words : (pc : ℕ) (i : Instr) → far_jump image notes pc ≡ Some i → All (HasWord pc (word_of i)) far
  near_words pc i e = λ k d lt same.
      let p = far_near k d lt in
      p.2 ∙ ap word_of (one p.0 i (sym (ap (far_jump image notes) (sym same) ∙ p.1) ∙ e))
    where
      one : (i j : Instr) → Some i ≡ Some j → i ≡ j
      one i j e = cc

  near_fields : (pc : ℕ) (i : Instr) → is_word_address image pc ≡ true → IsFar (text_of image) pc i → FieldsInRange i
  near_fields pc i word p =
      let to = far_target (pc - 4) p.imm p.offset in
      let low = low_word pc word in
      let small = word_bound (text_of image) (setting_of image 0 []) (text_ok 0 []) to p.inside in
      subst FieldsInRange p.is (near_fits pc p.rd to p.low (omega (arith, low)) (omega (arith, small)) p.near)

  near : (pc : ℕ) (i : Instr) → is_word_address image pc ≡ true → is_noted_jump notes pc ≡ false → far_jump image notes pc ≡ Some i → instr_of (word_at (loaded_byte lowered) pc) ≡ Some i
  near pc i word off e =
      let w = word_in pc word in
      let trees = tree_patches image base (ascending_notes notes) in
      let fields = near_fields pc i word (far_parts image notes pc i e).far in
      let there = address_there pc image.text (text_ok 0 []).each w.0 (of_image pc (in_image pc w.1)) in
      let some : list_any (λ (p : Patch). p.at == pc) patches ≡ true = list_any-append (λ (p : Patch). p.at == pc) far trees
      ∙ or_left (list_any (λ (p : Patch). p.at == pc) far) (list_any (λ (p : Patch). p.at == pc) trees) (near_has image notes pc i (all_addresses image.text) e there) in
      let all = All-append (HasWord pc (word_of i)) far trees (near_words pc i e) (unmatched pc (word_of i) trees (no_tree pc off)) in
      word_back (word_at (loaded_byte lowered) pc) i (fields, word_put pc (word_of i) word all some (word_small (word_of i) i (fields, refl)))

  -- ---- bytes outside

  outside : (a : ℕ) → hidden lowered a ≡ false → loaded_byte lowered a ≡ loaded_byte image a
  outside a off =
      let text = (neither (in_text (layout_of lowered) a) (is_keyed (layout_of lowered) a) off).0 in
      let parts = neither (in_text (layout_of image) a) (inside a) (sym (text_is a) ∙ text) in
      memory.byte_same file made patches base block read read_too words free h.no_key m a parts.1
      (λ k d lt. not_in (get_or patches k d).at (λ j low. let w = word_in (get_or patches k d).at (words k d lt) in in_image ((get_or patches k d).at + j) (word_in_text file (get_or patches k d).at j (rules_of file rules).text w.0 low w.1)) parts.0)
    where
      not_in : (at : ℕ) → ((j : ℕ) → j < 4 → in_text (layout_of image) (at + j) ≡ true) → in_text (layout_of image) a ≡ false → IsOff at a
      not_in at all text = elim (cases_lt a at) [
        | inl before ↦ inl before
        | inr from ↦ elim (cases_lt a (at + 4)) [
          | inl inside ↦
              let here = all (a - at) (omega arith) in
              let same : at + (a - at) ≡ a = omega arith in
              absurd (both_ways (in_text (layout_of image) a) text (sym (ap (λ x. in_text (layout_of image) x) same) ∙ here))
          | inr behind ↦ inr behind
        ]
      ]

  -- ---- trees

  -- the code of the block stands in it
  piece : (levels : ℕ) (input : List ℕ) (ahead mid behind : List Instr) → code ≡ ahead ++ (mid ++ behind) → All FieldsInRange mid → CodeStands (setting_of lowered levels input) (loaded_byte lowered) (base + 4 * length ahead) mid
  piece levels input ahead mid behind cut fields =
      let at = base + 4 * length ahead in
      let len : length code ≡ length ahead + (length mid + length behind) = ap (λ (c : List Instr). length c) cut ∙ omega (arith, length-append ahead (mid ++ behind), length-append mid behind) in
      let front = words_len ahead in
      let whole = words_len mid in
      let bytes_cut : block ≡ code_of ahead ++ (code_of mid ++ code_of behind) =
      ap code_of cut ∙ (flat_map-append (λ i. little 4 (word_of i)) ahead (mid ++ behind) ∙ ap (λ (xs : List ℕ). code_of ahead ++ xs) (flat_map-append (λ i. little 4 (word_of i)) mid behind)) in
      stand_from (setting_of lowered levels input) (loaded_byte lowered) at mid
      (λ j lt.
      let e : at + j ≡ base + (4 * length ahead + j) = omega arith in
      ap (loaded_byte lowered) e
      ∙ (memory.block_byte file made patches base block read read_too words free h.no_key m (4 * length ahead + j) (omega (arith, block_size, len, lt))
      ∙ (ap (λ (xs : List ℕ). get_or xs (4 * length ahead + j) 0) bytes_cut
      ∙ (get_or-behind (code_of ahead) (code_of mid ++ code_of behind) (4 * length ahead) j front
      ∙ get_or_append_left (code_of mid) (code_of behind) 0 j (omega (arith, whole, lt))))))
      fields
      (λ k lt. fetched_too (at + 4 * k) (omega (arith, page)) (text_is (at + 4 * k) ∙ or_right (in_text (layout_of image) (at + 4 * k)) (inside (at + 4 * k))
      (and_from (nat_le base (at + 4 * k)) (nat_lt (at + 4 * k) (base + length block)) (le-leb base (at + 4 * k) (omega arith)) (lt-ltb (at + 4 * k) (base + length block) (omega (arith, block_size, len, lt))))))
      (omega (arith, base_low, block_size, block_short, len))

  -- the targets are words of the text
  target_words : (n : JumpNote) → IsLowerable image notes n → All (λ u. (u % 4 ≡ 0) × (u < 2 ^ 32)) n.targets
  target_words n is = λ k d lt.
      let word = each_passes (is_word_address image) n.targets is.good.targets k d lt in
      let low = low_word (get_or n.targets k d) word in
      ((word_in (get_or n.targets k d) word).0, omega (arith, low))

  no_far_here : (pc w : ℕ) → is_some (far_jump image notes pc) ≡ false → All (HasWord pc w) far
  no_far_here pc w off = λ k d lt same.
      let p = far_near k d lt in
      absurd (both_ways (is_some (far_jump image notes pc)) off (ap is_some (ap (far_jump image notes) (sym same) ∙ p.1)))

  tree_of : (levels : ℕ) (input : List ℕ) (pc : ℕ) → IsPlanted image pc base (ascending_notes notes) → IsTreeOf image lowered notes levels input pc
  tree_of levels input pc p =
      let n = p.note in
      let is = at_place (IsLowerable image notes) (ascending_notes notes) n sorted p.there in
      let jumps = subst (λ a. IsJumpAt image a (register image n)) p.at_is is.jumps in
      let trees = tree_patches image base (ascending_notes notes) in
      let reach = and_parts (fits (jump n.at p.tree)) (list_all fits (note_code image p.tree n)) p.near in
      let to_tree = jump_fits pc p.tree (ap (λ a. fits (jump a p.tree)) (sym p.at_is) ∙ reach.0) in
      let v = word_of (jump pc p.tree) in
      let not_far = ap (λ a. is_some (far_jump image notes a)) (sym p.at_is) ∙ is.good.not_far in
      let all = All-append (HasWord pc v) far trees (no_far_here pc v not_far) p.words in
      let some : list_any (λ (q : Patch). q.at == pc) patches ≡ true = list_any-append (λ (q : Patch). q.at == pc) far trees
      ∙ or_right (list_any (λ (q : Patch). q.at == pc) far) (list_any (λ (q : Patch). q.at == pc) trees) p.some in
      let low = low_word pc jumps.word in
      let fields = tree_has_words (register image n) p.tree n.targets (note_code image p.tree n) jumps.few is.noted.targets.some is.noted.targets.few refl reach.1 in
      let code_here = piece levels input p.ahead (note_code image p.tree n) p.behind p.code fields in
      let len : length code ≡ length p.ahead + (length (note_code image p.tree n) + length p.behind) = ap (λ (c : List Instr). length c) p.code ∙ omega (arith, length-append p.ahead (note_code image p.tree n ++ p.behind), length-append (note_code image p.tree n) p.behind) in
      let at = p.place in
      record {
        note = n;
        at_is = p.at_is;
        listed = is.listed;
        some = jumps.some;
        few = jumps.few;
        reads = jumps.reads;
        words = target_words n is;
        tree = p.tree;
        jumps = record {
          fetched = fetched_word pc jumps.word;
          room = omega (arith, low);
          encodes = (to_tree, word_put pc v jumps.word all some (word_small v (jump pc p.tree) (to_tree, refl)));
        };
        code = subst (λ a. CodeStands (setting_of lowered levels input) (loaded_byte lowered) a (note_code image p.tree n)) (sym p.place) code_here;
        small = omega (arith, at, base_low, block_size, block_short, len);
        even = omega (arith, at, page);
        room = omega (arith, at, base_low, block_size, block_short, len);
        depth = is.depth;
      }

  trees : (levels : ℕ) (input : List ℕ) (pc : ℕ) → is_noted_jump notes pc ≡ true → IsTreeOf image lowered notes levels input pc
  trees levels input pc noted =
      let found = noted_at (IsLowerable image notes) pc notes lowerable noted in
      let once = once_stands notes pc (ap (λ a. is_twice notes a) (sym found.2) ∙ found.1.good.once) in
      let some = some_stand pc notes noted in
      let count = ascending_count pc notes in
      tree_of levels input pc (planted image pc base (ascending_notes notes) (omega (arith, some, count)) (omega (arith, once, count)) made_as.near)

  -- ---- the frame

  no_key_too : lowered.keyed_segment ≡ None
  no_key_too = memory.no_key_too file made patches base block read read_too words free h.no_key m

  entry_is : lowered.entry ≡ image.entry
  unfolding contents
  entry_is = is_made.entry

  same_text : (a : ℕ) → list_any (is_in a) image.text ≡ true → list_any (is_in a) (layout_of lowered).text ≡ true
  unfolding layout_of
  same_text a on = in_lowered a on

  pub frame : (levels : ℕ) (input : List ℕ) → IsFrame image lowered notes base levels input
  frame levels input = record {
    text = text_ok levels input;
    start_is = ap (starting_level levels) (no_key_too ∙ sym h.no_key);
    keyless = memory.is_unkeyed file made patches base block read read_too words free h.no_key m;
    keyless_too = memory.is_unkeyed_too file made patches base block read read_too words free h.no_key m;
    alike = memory.alike file made patches base block read read_too words free h.no_key m;
    same_text = same_text;
    fetched_too = fetched_word;
    unfetched = λ pc off none. memory.unfetched file made patches base block read read_too words free h.no_key m pc (sym (inside_is pc) ∙ off) none;
    plain = plain;
    near = near;
    trees = trees levels input;
    outside = outside;
    entry = entry_is;
  }

-- ---- the law

pub frame_of : (image lowered : Image) (notes : List JumpNote) (base levels : ℕ) (input : List ℕ) → IsLoweredTo image notes base lowered → IsFrame image lowered notes base levels input
frame_of image lowered notes base levels input h =
    let P : Image → Type 0 = λ i. IsLoweredTo i notes base lowered → IsFrame i lowered notes base levels input in
    let Q : Image → Type 0 = λ l. IsLoweredTo (contents image.file) notes base l → IsFrame (contents image.file) l notes base levels input in
    subst P (contents-are image.file image h.read)
    (subst Q (contents-are lowered.file lowered h.lowered_read) (λ g. frame image.file lowered.file notes base g levels input)) h

pub runs_follow : LoweredRunsFollow
runs_follow = λ image lowered notes base levels input n h keeps. frame_follows image lowered notes base levels input (frame_of image lowered notes base levels input h) n keeps
