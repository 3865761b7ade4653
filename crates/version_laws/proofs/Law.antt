-- The versioned image has what the law of runs needs.
use Rattle.std.proofs.Common.{◌≡◌, ℕ, suc, ◌+◌, ◌-◌, ◌*◌, ◌%◌, ◌^◌, ◌<◌, ◌≤◌, Bool, true, false, ◌&&◌, ◌||◌, List, [], ◌∷◌, ◌++◌, length, get_or, Option, Some, None, Ok, refl, sym, ap, subst, ◌∙◌, arith, inl, inr}
use Rattle.std.specs.Prelude.{nat_lt, nat_le, ◌==◌, All, count_by}
use Rattle.std.specs.List.{list_any, flat_map}
use Rattle.std.proofs.lemmas.Bool.{or_left, or_right, both_ways, cases_lt, and_from, le-leb, lt-ltb, false_from_ne_true}
use Rattle.std.proofs.lemmas.Bool.Decides.{nat_tests}
use Rattle.std.proofs.lemmas.List.{length-append, get_or_append_left}
use Rattle.std.proofs.lemmas.List.Elements.{All-head, All-tail, All-weaker}
use Rattle.std.proofs.lemmas.List.Concat.{flat_map-cons}
use Rattle.std.proofs.lemmas.Grind.{flat_map-append}
use Rattle.scale_base.specs.declared.instruction.Instr.{Instr}
use Rattle.scale_base.specs.declared.ranges.Patch.{Patch}
use Rattle.scale_base.specs.Bytes.{list_half_at}
use Rattle.scale_base.specs.Elf.{e_shnum, has_sections}
use Rattle.scale_base.specs.Image.{Image, image_of, contents, loaded_byte, is_word_address, is_in, text_ranges, image_rules}
use Rattle.scale_base.specs.Rules.{AllHold}
use Rattle.scale_base.specs.Layout.{layout_of, in_text, is_keyed, can_fetch}
use Rattle.scale_base.specs.Run.{setting_of, starting_level, run_of}
use Rattle.scale_base.specs.State.{Setting, word_at}
use Rattle.scale_base.specs.Word.{word_of, FieldsInRange}
use Rattle.scale_base.proofs.Laws.{rules_kept, contents-are, has_table, rules_of, word_small}
use Rattle.elf_patch.specs.Added.{added_file}
use Rattle.elf_patch.specs.Stored.{little, IsStubBase, is_free}
use Rattle.elf_patch.proofs.Laws.{some_place}
use Rattle.stored_laws.proofs.Laws.{get_or-behind, text_place, Places}
use Rattle.machine_laws.proofs.Laws.{word_in_text}
use Rattle.code_text.specs.Text.{text_of}
use Rattle.graph_runs.specs.TextStates.{IsTextOf}
use Rattle.graph_runs.proofs.Laws.{text_of_layout, word_bound}
use Rattle.stored_runs.proofs.Laws.{IsOff, hidden, word_by, patched_word}
use Rattle.bound_laws.specs.Values.{AreBytes}
use Rattle.bound_laws.proofs.Laws.{loaded_small}
use Rattle.stub_writer.specs.Stubs.{jump}
use Rattle.image_lower.specs.Trees.{fits}
use Rattle.image_lower.specs.Meets as lowered
use Rattle.image_lower.specs.TreeRuns.{CodeStands}
use Rattle.image_lower.proofs.Laws as memory
use Rattle.image_lower.proofs.Laws.{IsMade, IsMadeFile, made_added}
use Rattle.loop_versions.specs.declared.pieces.Piece.{Piece}
use Rattle.loop_versions.specs.declared.pieces.Site.{Site}
use Rattle.loop_versions.specs.Pieces.{behind, piece_at, site_at, read, piece_code, pieces_code, in_extra, is_site}
use Rattle.loop_versions.specs.Fitting.{origin, stands_for, is_right, are_right, are_free, are_there, is_site_right, are_fit, ways, begins, calls_at}
use Rattle.loop_versions.specs.Fitting as fitting
use Rattle.loop_versions.specs.Made.{site_patches, pieces_bytes, IsVersioned}
use Rattle.loop_versions.specs.Follows.{in_block, StaysOutside, GoesBack, FollowsVersioned, VersionedRunsFollow}
use Rattle.loop_versions.proofs.Laws.{AreFit, code_few, code_fields, code_some, each_patch, extra_within, fit_parts, fits_fields, HasWord, IsPlaced, IsRightSite, len_some, no_site, placed, read_fields, right_site, site_of, site_passes, site_words, within}
use Rattle.version_laws.proofs.Frame.{IsPieceAt, IsSiteAt, IsFrame}
use Rattle.version_laws.proofs.Followed.{frame_pairs}
use Rattle.version_laws.proofs.Pairs.{ArePaired, gone}

-- ---- code that stands where its bytes lie

abbrev code_of : List Instr → List ℕ
code_of code = flat_map (λ i. little 4 (word_of i)) code

words_len : (code : List Instr) → length (code_of code) ≡ 4 * length code
words_len [] = refl
words_len (i ∷ is) =
    let rest = words_len is in
    ap (λ (xs : List ℕ). length xs) (flat_map-cons (λ i. little 4 (word_of i)) i is) ∙ omega (arith, length-append (little 4 (word_of i)) (code_of is), rest)

stand_from : (env : Setting) (bytes : ℕ → ℕ) (at : ℕ) (code : List Instr) → ((j : ℕ) → j < 4 * length code → bytes (at + j) ≡ get_or (code_of code) j 0) → All FieldsInRange code → ((k : ℕ) → k < length code → can_fetch env.layout (at + 4 * k) ≡ true) → at + 4 * length code < 2 ^ 32 → CodeStands env bytes at code
stand_from env bytes at [] lies fields fetched room = tt
stand_from env bytes at (i ∷ is) lies fields fetched room =
    let one = All-head FieldsInRange i is fields in
    let v = word_of i in
    let cut : code_of (i ∷ is) ≡ little 4 v ++ code_of is = flat_map-cons (λ i. little 4 (word_of i)) i is in
    let here : (j : ℕ) → j < 4 → bytes (at + j) ≡ get_or (little 4 v) j 0 = λ j lt.
    lies j (omega (arith, lt)) ∙ (ap (λ (xs : List ℕ). get_or xs j 0) cut ∙ get_or_append_left (little 4 v) (code_of is) 0 j lt) in
    let first : at + 4 * 0 ≡ at = omega arith in (
      record {
        fetched = subst (λ a. can_fetch env.layout a ≡ true) first (fetched 0 (omega arith));
        room = omega (arith, room);
        encodes = (one, patched_word bytes at v here (word_small v i (one, refl)));
      },
      stand_from env bytes (at + 4) is
          (λ j lt. let e : at + 4 + j ≡ at + (4 + j) = omega arith in
          ap bytes e ∙ (lies (4 + j) (omega (arith, lt)) ∙ (ap (λ (xs : List ℕ). get_or xs (4 + j) 0) cut ∙ get_or-behind (little 4 v) (code_of is) 4 j refl)))
          (All-tail FieldsInRange i is fields)
          (λ k lt. let e : at + 4 * suc k ≡ at + 4 + 4 * k = omega arith in subst (λ a. can_fetch env.layout a ≡ true) e (fetched (suc k) (omega (arith, lt))))
          (omega (arith, room)),
    )

-- ---- tests

neither : (a b : Bool) → (a || b) ≡ false → (a ≡ false) × (b ≡ false)
neither true b h = let never : ⊥ = cc in absurd never
neither false b h = (refl, h)

module _ (file made : List ℕ) (pieces : List Piece) (sites : List Site) (base : ℕ) (h : IsVersioned (contents file) (contents made) pieces sites base) where
  abbrev image : Image
  image = contents file

  abbrev versioned : Image
  versioned = contents made

  read_old : image_of file ≡ Ok image
  unfolding contents
  read_old = h.read

  read_new : image_of made ≡ Ok versioned
  unfolding contents
  read_new = h.read_too

  rules : AllHold (image_rules file)
  rules = rules_kept file image read_old

  fit : AreFit image pieces sites base
  fit = fit_parts image pieces sites base h.fit

  each_right : All (IsRightSite image pieces sites base) sites
  each_right = All-weaker (λ (s : Site). is_site_right image pieces sites base s ≡ true) (IsRightSite image pieces sites base) (λ s r. right_site image pieces sites base s r) sites fit.sites_right

  -- ---- the block

  abbrev code : List Instr
  code = pieces_code image base pieces

  abbrev block : List ℕ
  block = pieces_bytes image base pieces

  block_size : length block ≡ 4 * length code
  block_size = words_len code

  block_short : length block ≤ 147456
  block_short = let few = h.few in let most = code_few image pieces sites base base pieces fit.right in omega (arith, few, most, block_size)

  block_some : 0 < length block
  block_some = let some = code_some image pieces sites base base pieces fit.right fit.some in omega (arith, some, block_size)

  place : IsStubBase image (length block) base
  place = subst (λ n. IsStubBase image n base) (sym block_size) h.place

  base_low : base ≤ 0xFF800000
  base_low = let low = some_place file image (length block) read_old (omega (arith, block_short)) in omega (arith, place.least low.0 low.1, low.2)

  page : base % 4096 ≡ 0
  page = place.place.page

  -- ---- the file

  abbrev patches : List Patch
  patches = site_patches sites

  words : All (λ (p : Patch). is_word_address image p.at ≡ true) patches
  words = each_patch (λ (p : Patch). is_word_address image p.at ≡ true) sites (All-weaker (IsRightSite image pieces sites base) (λ (s : Site). is_word_address image s.at ≡ true) (λ s r. r.word) sites each_right)

  room : has_sections file ≡ true → e_shnum file < 65535
  unfolding contents list_half_at
  room on =
      let long = (has_table file image read_old).long in
      let full : (has_sections file && (e_shnum file == 65535)) ≡ false = h.room in
      let off : (e_shnum file == 65535) ≡ false = sym (ap (λ b. b && (e_shnum file == 65535)) on) ∙ full in
      let one = h.bytes 48 0 (omega (arith, long)) in
      let two = h.bytes 49 0 (omega (arith, long)) in
      below (get_or file 48 0) (get_or file 49 0) one two off
    where
      below : (a b : ℕ) → a < 2 ^ 8 → b < 2 ^ 8 → (a + 256 * b == 65535) ≡ false → a + 256 * b < 65535
      below a b x y e = grind (arith, nat_tests)

  places : Places file patches
  places = λ k d lt q f. text_place file (get_or patches k d).at q rules (words k d lt) f

  short : length file ≤ 4194304
  unfolding contents
  short = h.short

  made_is : made ≡ added_file file patches base block
  unfolding contents
  made_is = h.made

  is_made : IsMadeFile file made patches base block
  is_made = subst (λ f. IsMadeFile file f patches base block) (sym made_is)
      (made_added file patches base block read_old rules short (omega (arith, block_short)) block_some (omega (arith, block_size)) page (omega (arith, base_low)) room places)

  m : IsMade file made patches base block
  m = is_made.is

  free : is_free image (length block) base ≡ true
  free = place.place.free

  -- ---- bytes and words

  abbrev inside : ℕ → Bool
  inside a = lowered.in_block base (length block) a

  abbrev in_code : ℕ → Bool
  in_code a = in_block image versioned pieces sites base a

  inside_is : (a : ℕ) → in_code a ≡ inside a
  inside_is a = ap (λ n. nat_le base a && nat_lt a (base + n)) (sym block_size)

  text_is : (a : ℕ) → in_text (layout_of versioned) a ≡ (in_text (layout_of image) a || inside a)
  text_is = memory.text_is file made patches base block read_old read_new words free h.no_key m

  text_ok : (levels : ℕ) (input : List ℕ) → IsTextOf (text_of image) (setting_of image levels input)
  text_ok levels input = text_of_layout file image levels input read_old

  word_in : (pc : ℕ) → is_word_address image pc ≡ true → (pc % 4 ≡ 0) × (list_any (is_in pc) (text_ranges file) ≡ true)
  word_in = memory.word_in file made patches base block read_old read_new words free h.no_key m

  in_image : (a : ℕ) → list_any (is_in a) (text_ranges file) ≡ true → in_text (layout_of image) a ≡ true
  unfolding layout_of contents
  in_image a on = on

  of_layout : (a : ℕ) → in_text (layout_of image) a ≡ true → list_any (is_in a) (text_ranges file) ≡ true
  unfolding layout_of contents
  of_layout a on = on

  of_image : (a : ℕ) → in_text (layout_of image) a ≡ true → list_any (is_in a) image.text ≡ true
  unfolding layout_of
  of_image a on = on

  to_layout : (a : ℕ) → list_any (is_in a) image.text ≡ true → in_text (layout_of image) a ≡ true
  unfolding layout_of
  to_layout a on = on

  in_versioned : (a : ℕ) → in_text (layout_of image) a ≡ true → in_text (layout_of versioned) a ≡ true
  in_versioned a on = text_is a ∙ or_left (in_text (layout_of image) a) (inside a) on

  text_off : (a : ℕ) → in_text (layout_of image) a ≡ true → inside a ≡ false
  text_off a on = memory.text_off file made patches base block read_old read_new words free h.no_key m a (of_layout a on)

  fetched_at : (pc : ℕ) → pc % 4 ≡ 0 → in_text (layout_of versioned) pc ≡ true → can_fetch (layout_of versioned) pc ≡ true
  fetched_at = memory.fetched_too file made patches base block read_old read_new words free h.no_key m

  fetched_word : (pc : ℕ) → is_word_address image pc ≡ true → can_fetch (layout_of versioned) pc ≡ true
  fetched_word pc word = let w = word_in pc word in fetched_at pc w.0 (in_versioned pc (in_image pc w.1))

  low_word : (pc : ℕ) → is_word_address image pc ≡ true → pc < 0xFF000000
  low_word pc word = let w = word_in pc word in word_bound (text_of image) (setting_of image 0 []) (text_ok 0 []) pc (of_image pc (in_image pc w.1))

  word_put : (pc w : ℕ) → is_word_address image pc ≡ true → All (HasWord pc w) patches → list_any (λ (p : Patch). p.at == pc) patches ≡ true → w < 2 ^ 32 → word_at (loaded_byte versioned) pc ≡ w
  word_put pc w word all some small =
      patched_word (loaded_byte versioned) pc w (λ j lt. memory.patched_byte file made patches base block read_old read_new words free h.no_key m pc w j word all some lt) small

  plain : (pc : ℕ) → is_word_address image pc ≡ true → site_at sites pc ≡ None → word_at (loaded_byte versioned) pc ≡ word_at (loaded_byte image) pc
  plain pc word none =
      let elsewhere = (no_site sites pc none).elsewhere in
      word_by (loaded_byte versioned) (loaded_byte image) pc (λ j lt. memory.plain_byte file made patches base block read_old read_new words free h.no_key m pc j word elsewhere lt)

  outside : (a : ℕ) → hidden versioned a ≡ false → loaded_byte versioned a ≡ loaded_byte image a
  outside a off =
      let text = (neither (in_text (layout_of versioned) a) (is_keyed (layout_of versioned) a) off).0 in
      let parts = neither (in_text (layout_of image) a) (inside a) (sym (text_is a) ∙ text) in
      memory.byte_same file made patches base block read_old read_new words free h.no_key m a parts.1
      (λ k d lt. not_in (get_or patches k d).at (λ j low. let w = word_in (get_or patches k d).at (words k d lt) in in_image ((get_or patches k d).at + j) (word_in_text file (get_or patches k d).at j (rules_of file rules).text w.0 low w.1)) parts.0)
    where
      not_in : (at : ℕ) → ((j : ℕ) → j < 4 → in_text (layout_of image) (at + j) ≡ true) → in_text (layout_of image) a ≡ false → IsOff at a
      not_in at all text = elim (cases_lt a at) [
        | inl before ↦ inl before
        | inr from ↦ elim (cases_lt a (at + 4)) [
          | inl inside ↦
              let here = all (a - at) (omega arith) in
              let same : at + (a - at) ≡ a = omega arith in
              absurd (both_ways (in_text (layout_of image) a) text (sym (ap (λ x. in_text (layout_of image) x) same) ∙ here))
          | inr behind ↦ inr behind
        ]
      ]

  bytes : AreBytes (loaded_byte image)
  unfolding contents
  bytes = loaded_small file image read_old h.bytes

  -- ---- pieces

  -- the code of the block stands in it
  part_stands : (levels : ℕ) (input : List ℕ) (ahead mid after : List Instr) → code ≡ ahead ++ (mid ++ after) → All FieldsInRange mid → CodeStands (setting_of versioned levels input) (loaded_byte versioned) (base + 4 * length ahead) mid
  part_stands levels input ahead mid after cut fields =
      let at = base + 4 * length ahead in
      let len : length code ≡ length ahead + (length mid + length after) = ap (λ (c : List Instr). length c) cut ∙ omega (arith, length-append ahead (mid ++ after), length-append mid after) in
      let front = words_len ahead in
      let whole = words_len mid in
      let bytes_cut : block ≡ code_of ahead ++ (code_of mid ++ code_of after) =
      ap code_of cut ∙ (flat_map-append (λ i. little 4 (word_of i)) ahead (mid ++ after) ∙ ap (λ (xs : List ℕ). code_of ahead ++ xs) (flat_map-append (λ i. little 4 (word_of i)) mid after)) in
      stand_from (setting_of versioned levels input) (loaded_byte versioned) at mid
      (λ j lt.
      let e : at + j ≡ base + (4 * length ahead + j) = omega arith in
      ap (loaded_byte versioned) e
      ∙ (memory.block_byte file made patches base block read_old read_new words free h.no_key m (4 * length ahead + j) (omega (arith, block_size, len, lt))
      ∙ (ap (λ (xs : List ℕ). get_or xs (4 * length ahead + j) 0) bytes_cut
      ∙ (get_or-behind (code_of ahead) (code_of mid ++ code_of after) (4 * length ahead) j front
      ∙ get_or_append_left (code_of mid) (code_of after) 0 j (omega (arith, whole, lt))))))
      fields
      (λ k lt. fetched_at (at + 4 * k) (omega (arith, page)) (text_is (at + 4 * k) ∙ or_right (in_text (layout_of image) (at + 4 * k)) (inside (at + 4 * k))
      (and_from (nat_le base (at + 4 * k)) (nat_lt (at + 4 * k) (base + length block)) (le-leb base (at + 4 * k) (omega arith)) (lt-ltb (at + 4 * k) (base + length block) (omega (arith, block_size, len, lt))))))
      (omega (arith, base_low, block_size, block_short, len))

  text_fields : (at : ℕ) (i : Instr) → read image at ≡ Some i → FieldsInRange i
  text_fields at i e = read_fields image pieces base bytes at i e

  -- what lies in the block
  is_inside : (a : ℕ) → base ≤ a → a < base + 4 * length code → inside a ≡ true
  is_inside a low high = and_from (nat_le base a) (nat_lt a (base + length block)) (le-leb base a low) (lt-ltb a (base + length block) (omega (arith, high, block_size)))

  off_text : (a : ℕ) → inside a ≡ true → in_text (layout_of image) a ≡ false
  off_text a on = false_from_ne_true (in_text (layout_of image) a) (λ text. both_ways (inside a) (text_off a text) on)

  no_site_inside : (a : ℕ) → inside a ≡ true → is_site sites a ≡ false
  no_site_inside a on = by (site_at sites a) refl
    where
      by : (o : Option Site) → site_at sites a ≡ o → is_site sites a ≡ false
      by None e = (no_site sites a e).listed
      by (Some s) e =
          let r = site_passes (IsRightSite image pieces sites base) sites a s each_right e in
          let here = (site_of sites a s e).at_is in
          let w = word_in s.at r.word in
          let text : in_text (layout_of image) a ≡ true = subst (λ x. in_text (layout_of image) x ≡ true) here (in_image s.at w.1) in
          absurd (both_ways (in_text (layout_of image) a) (off_text a on) text)

  piece_placed : (v : ℕ) (p : Piece) → piece_at base pieces v ≡ Some p → IsPlaced image pieces sites base base pieces v p
  piece_placed v p e = placed image pieces sites base base pieces v p fit.right fit.free e

  pieces_stand : (levels : ℕ) (input : List ℕ) (v : ℕ) (p : Piece) → piece_at base pieces v ≡ Some p → IsPieceAt image versioned pieces sites base levels input v p
  pieces_stand levels input v p e =
      let is = piece_placed v p e in
      let w = within image pieces sites base base pieces v p is in
      let at = is.at in
      let here : (a : ℕ) → v ≤ a → a < behind v p → inside a ≡ true = λ a low high. is_inside a (omega (arith, low, w.0)) (omega (arith, high, w.1)) in
      record {
        word = is.word;
        right = is.right;
        free = is.free;
        extra = is.extra;
        no_site = λ a low high. no_site_inside a (here a low high);
        text = λ a low high. (text_is a ∙ or_right (in_text (layout_of image) a) (inside a) (here a low high), off_text a (here a low high));
        code = subst (λ a. CodeStands (setting_of versioned levels input) (loaded_byte versioned) a (piece_code image v p)) (sym is.at)
            (part_stands levels input is.ahead (piece_code image v p) is.after is.code (code_fields image pieces base text_fields v p is.right));
        even = omega (arith, at, page);
        room = omega (arith, w.1, base_low, block_size, block_short);
      }

  no_piece : (v : ℕ) → in_code v ≡ false → (piece_at base pieces v ≡ None) × (in_extra base pieces v ≡ false)
  no_piece v off = (
    by (piece_at base pieces v) refl,
    false_from_ne_true (in_extra base pieces v) (λ on.
        let w = extra_within image pieces sites base base pieces v fit.right on in
        both_ways (inside v) (sym (inside_is v) ∙ off) (is_inside v w.0 w.1)),
  )
    where
      by : (o : Option Piece) → piece_at base pieces v ≡ o → o ≡ None
      by None e = refl
      by (Some p) e =
          let w = within image pieces sites base base pieces v p (piece_placed v p e) in
          let some = len_some p in
          absurd (both_ways (inside v) (sym (inside_is v) ∙ off) (is_inside v w.0 (omega (arith, w.1, some))))

  -- ---- sites

  sites_stand : (levels : ℕ) (input : List ℕ) (pc : ℕ) (s : Site) → site_at sites pc ≡ Some s → IsSiteAt image versioned pieces sites base levels input pc s
  sites_stand levels input pc s e =
      let r = site_passes (IsRightSite image pieces sites base) sites pc s each_right e in
      let is = site_of sites pc s e in
      let here = is.at_is in
      let word : is_word_address image pc ≡ true = subst (λ a. is_word_address image a ≡ true) here r.word in
      let once : count_by (λ (o : Site). o.at == pc) sites ≡ 1 = subst (λ a. count_by (λ (o : Site). o.at == a) sites ≡ 1) here r.once in
      let fields = fits_fields pc s.to (ap (λ a. fits (jump a s.to)) (sym here) ∙ r.near) in
      let v = word_of (jump pc s.to) in
      let low = low_word pc word in
      record {
        word = word;
        there = r.there ∙ here;
        calls = subst (λ a. begins (calls_at pieces base s.to) (calls_at pieces base a) ≡ true) here r.calls;
        free = subst (λ a. fitting.is_free (ways pieces sites base) 8 a ≡ true) here (site_passes (λ (s : Site). fitting.is_free (ways pieces sites base) 8 s.at ≡ true) sites pc s fit.sites_free e);
        listed = is.listed;
        jumps = record {
          fetched = fetched_word pc word;
          room = omega (arith, low);
          encodes = (fields, word_put pc v word (site_words sites pc s e (omega (arith, once))) is.some (word_small v (jump pc s.to) (fields, refl)));
        };
      }

  -- ---- the frame

  no_key_too : versioned.keyed_segment ≡ None
  no_key_too = memory.no_key_too file made patches base block read_old read_new words free h.no_key m

  entry_is : versioned.entry ≡ image.entry
  unfolding contents
  entry_is = is_made.entry

  pub frame : (levels : ℕ) (input : List ℕ) → IsFrame image versioned pieces sites base levels input
  frame levels input = record {
    text = text_ok levels input;
    start_is = ap (starting_level levels) (no_key_too ∙ sym h.no_key);
    keyless = memory.is_unkeyed file made patches base block read_old read_new words free h.no_key m;
    keyless_too = memory.is_unkeyed_too file made patches base block read_old read_new words free h.no_key m;
    alike = memory.alike file made patches base block read_old read_new words free h.no_key m;
    same_text = λ a on. in_versioned a (to_layout a on);
    fetched_too = fetched_word;
    unfetched = λ pc off none. memory.unfetched file made patches base block read_old read_new words free h.no_key m pc (sym (inside_is pc) ∙ off) none;
    plain = plain;
    off_text = λ pc word. inside_is pc ∙ text_off pc (in_image pc (word_in pc word).1);
    no_piece = no_piece;
    pieces_at = pieces_stand levels input;
    sites_at = sites_stand levels input;
    no_site = λ pc e. (no_site sites pc e).listed;
    outside = outside;
    entry = entry_is;
    entry_in = fit.entry;
    bytes = bytes;
  }

-- ---- the law

pub frame_of : (image versioned : Image) (pieces : List Piece) (sites : List Site) (base levels : ℕ) (input : List ℕ) → IsVersioned image versioned pieces sites base → IsFrame image versioned pieces sites base levels input
frame_of image versioned pieces sites base levels input h =
    let P : Image → Type 0 = λ i. IsVersioned i versioned pieces sites base → IsFrame i versioned pieces sites base levels input in
    let Q : Image → Type 0 = λ l. IsVersioned (contents image.file) l pieces sites base → IsFrame (contents image.file) l pieces sites base levels input in
    subst P (contents-are image.file image h.read)
    (subst Q (contents-are versioned.file versioned h.read_too) (λ g. frame image.file versioned.file pieces sites base g levels input)) h

-- with the steps of both runs side by side
abbrev pub VersionedRunsPair : Type 0
VersionedRunsPair =
    (image versioned : Image) (pieces : List Piece) (sites : List Site) (base levels : ℕ) (input : List ℕ) (n : ℕ) →
    IsVersioned image versioned pieces sites base →
    All (λ b. b < 2 ^ 8) input → StaysOutside image versioned pieces sites base levels input n →
    GoesBack image versioned pieces sites base levels input n →
    (m : ℕ) × FollowsVersioned image versioned pieces sites base (run_of image levels input n) (run_of versioned levels input m) ×
    ArePaired image versioned pieces sites base (gone (run_of image levels input n)) (gone (run_of versioned levels input m))

pub runs_pair : VersionedRunsPair
runs_pair = λ image versioned pieces sites base levels input n h small keeps back.
    frame_pairs image versioned pieces sites base levels input (frame_of image versioned pieces sites base levels input h) small n keeps back

pub runs_follow : VersionedRunsFollow
runs_follow = λ image versioned pieces sites base levels input n h small keeps back.
    let p = runs_pair image versioned pieces sites base levels input n h small keeps back in (p.0, p.1)
