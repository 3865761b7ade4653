-- What of an image and its patched image the laws of runs need: layouts, bytes, and stubs wherever they stand. A block of stubs is an instance.
use Rattle.std.proofs.Common.{◌≡◌, ℕ, suc, ◌+◌, ◌*◌, ◌%◌, ◌^◌, ◌<◌, ◌≤◌, true, false, List, [], ◌∷◌, length, get_or, refl, arith, sym, ◌∙◌, ap, subst, Some, None, add-zero}
use Rattle.std.specs.Prelude.{◌==◌, All}
use Rattle.std.specs.List.{list_any}
use Rattle.std.proofs.lemmas.Bool.{cond-true, and_parts}
use Rattle.std.proofs.lemmas.List.Elements.{All-nil, All-cons}
use Rattle.scale_base.specs.declared.instruction.Instr.{Instr}
use Rattle.scale_base.specs.declared.fragments.Fragment.{Fragment}
use Rattle.scale_base.specs.declared.fragments.Fragment.TheVariants.{Switch, Exit, Reset, Count, Lowest, Tally}
use Rattle.scale_base.specs.Image.{Image, loaded_byte, is_word_address, is_in}
use Rattle.scale_base.specs.Layout.{layout_of, can_fetch, may_fetch, each_byte, fetches_byte}
use Rattle.scale_base.specs.Run.{setting_of, starting_level}
use Rattle.scale_base.specs.State.{Setting, word_at}
use Rattle.scale_base.specs.Word.{word_of}
use Rattle.scale_base.proofs.Laws.{each_byte_at, word_small}
use Rattle.elf_patch.specs.Stored.{little}
use Rattle.code_text.specs.Text.{text_of}
use Rattle.graph_runs.specs.TextStates.{IsTextOf}
use Rattle.stub_writer.specs.Stubs.{Site, Way, Place, Forked, Straight, jump, stubs_len, block_words, block_bytes, patches_from, out_of_reach}
use Rattle.stub_writer.proofs.Laws.{jump_fits}
use Rattle.stored_runs.specs.Meaning.{StandsAt, Stand}
use Rattle.stored_runs.specs.Held.{Lie, WayStands, StubStands}
use Rattle.stored_runs.proofs.BlockLaws.{block_stands, rows_lie, words_length, block_length, stub_anywhere}
use Rattle.stored_runs.specs.Marks.{place_at}
use Rattle.stored_runs.specs.Stubbed.{IsSafe, IsSafeWay, AreSafeWays, IsSafeSite, IsOfImage}
use Rattle.stored_runs.specs.Patched.{IsSafeFragment, IsSafeEdge, AreSafeEdges, HasStub}
use Rattle.stored_runs.proofs.LaidBytes.{laid}
use Rattle.stored_runs.proofs.SameStep.{SeeAlike}
use Rattle.stored_runs.proofs.Frame.{hidden, IsBlockFrame}
use Rattle.stored_runs.proofs.SiteAt.{IsInBlock, has_stub}
use Rattle.stored_runs.proofs.Block.{are_fine, rows_words, safe_place}

pub record IsFrame (image stored : Image) (levels : ℕ) (limits : ℕ → ℕ) (input : List ℕ) (sites : List Site) (start : ℕ) : Type 0 where
  pub text : IsTextOf (text_of image) (setting_of image levels input)
  pub same_text : (layout_of stored).text ≡ image.text
  pub parts : (layout_of stored).parts ≡ (layout_of image).parts
  pub alike : (pc : ℕ) → list_any (is_in pc) image.text ≡ true → SeeAlike (layout_of image) (layout_of stored) (hidden stored) pc
  pub fetched : (pc : ℕ) → is_word_address image pc ≡ true → can_fetch (layout_of image) pc ≡ true
  pub fetched_too : (pc : ℕ) → is_word_address image pc ≡ true → can_fetch (layout_of stored) pc ≡ true
  pub plain : (pc : ℕ) → is_word_address image pc ≡ true → place_at sites pc ≡ None → word_at (loaded_byte stored) pc ≡ word_at (loaded_byte image) pc
  pub stubs : (pc : ℕ) (p : Place) → is_word_address image pc ≡ true → place_at sites pc ≡ Some p → HasStub image (setting_of stored levels input) (loaded_byte stored) limits pc p
  pub outside : (a : ℕ) → hidden stored a ≡ false → loaded_byte stored a ≡ loaded_byte image a
  pub entry : stored.entry ≡ image.entry
  pub start_is : starting_level levels stored.keyed_segment ≡ start

-- the numbers of four bytes that agree
pub word_by : (one other : ℕ → ℕ) (pc : ℕ) → ((j : ℕ) → j < 4 → one (pc + j) ≡ other (pc + j)) → word_at one pc ≡ word_at other pc
word_by x y pc h =
    let e0 : x pc ≡ y pc = ap x (sym (add-zero pc)) ∙ (h 0 (omega arith) ∙ ap y (add-zero pc)) in
    let e1 = h 1 (omega arith) in
    let e2 = h 2 (omega arith) in
    let e3 = h 3 (omega arith) in
    cc

-- ---- code and rows in the keyed segment are hidden, so they stay as they are

module _ (stored : Image) (levels : ℕ) (input : List ℕ) (bytes : ℕ → ℕ) where
  abbrev env : Setting
  env = setting_of stored levels input

  abbrev over : ℕ → ℕ
  over = laid (hidden stored) (loaded_byte stored) bytes

  fetched_hidden : (at j : ℕ) → j < 4 → can_fetch (layout_of stored) at ≡ true → hidden stored (at + j) ≡ true
  unfolding may_fetch
  fetched_hidden at j lt e =
      let parts = and_parts (at % 4 == 0) (each_byte (fetches_byte (layout_of stored)) at 4) e in
      each_byte_at (fetches_byte (layout_of stored)) at j 4 lt parts.1

  pub word_stays : (at : ℕ) → can_fetch (layout_of stored) at ≡ true → word_at over at ≡ word_at (loaded_byte stored) at
  word_stays at e = word_by over (loaded_byte stored) at (λ j lt. cond-true (hidden stored (at + j)) (loaded_byte stored (at + j)) (bytes (at + j)) (fetched_hidden at j lt e))

  one_stays : (at : ℕ) (i : Instr) → StandsAt env (loaded_byte stored) at i → StandsAt env over at i
  one_stays at i h = record { keyed = h.keyed; fetched = h.fetched; room = h.room; encodes = (h.encodes.0, word_stays at h.fetched ∙ h.encodes.1) }

  code_stays : (at : ℕ) (is : List Instr) → Stand env (loaded_byte stored) at is → Stand env over at is
  code_stays at [] h = tt
  code_stays at (i ∷ is) h = (one_stays at i h.0, code_stays (at + 4) is h.1)

  rows_stay : (at : ℕ) (ws : List ℕ) → Lie env (loaded_byte stored) at ws → Lie env over at ws
  rows_stay at [] h = tt
  rows_stay at (w ∷ ws) h =
      (record { keyed = h.0.keyed; whole = h.0.whole; fetched = h.0.fetched; room = h.0.room; same = word_stays at h.0.fetched ∙ h.0.same }, rows_stay (at + 4) ws h.1)

  way_stays : (at : ℕ) (w : Way) → WayStands env (loaded_byte stored) at w → WayStands env over at w
  way_stays at w h = record { table = h.table; code = code_stays at _ h.code; rows = rows_stay h.table _ h.rows; even = h.even; high = h.high }

  pub stub_stays : (at : ℕ) (p : Place) → StubStands env (loaded_byte stored) at p → StubStands env over at p
  stub_stays at (Forked op rs1 rs2 untaken taken) h = record {
    offset = h.offset;
    to = h.to;
    branch = one_stays at _ h.branch;
    leads = h.leads;
    even = h.even;
    untaken_way = way_stays (at + 4) untaken h.untaken_way;
    taken_way = way_stays h.to taken h.taken_way;
  }
  stub_stays at (Straight w) h = way_stays at w h

-- ---- the conditions of a block

safe_fragment : (levels : ℕ) (limits : ℕ → ℕ) (f : Fragment) → IsSafe levels limits f → IsSafeFragment levels limits f
safe_fragment levels limits (Switch word) h = h
safe_fragment levels limits (Exit counter shift rows) h = (h.0, h.1, h.3, h.4)
safe_fragment levels limits (Reset counter) h = h
safe_fragment levels limits (Count counter) h = h
safe_fragment levels limits (Lowest down) h = tt
safe_fragment levels limits (Tally counter shift from) h = h

safe_fragments : (levels : ℕ) (limits : ℕ → ℕ) (fs : List Fragment) → All (IsSafe levels limits) fs → All (IsSafeFragment levels limits) fs
safe_fragments levels limits [] h = All-nil (IsSafeFragment levels limits)
safe_fragments levels limits (f ∷ fs) h =
    All-cons (IsSafeFragment levels limits) f fs (safe_fragment levels limits f (h 0 f (omega arith))) (safe_fragments levels limits fs (λ k d lt. h (suc k) d (omega arith)))

safe_edge : (levels : ℕ) (limits : ℕ → ℕ) (w : Way) → IsSafeWay levels limits w → IsSafeEdge levels limits w
safe_edge levels limits w h = record { few = (let few = h.few in omega (arith, few)); safe = safe_fragments levels limits w.fragments h.safe; ordered = h.ordered; small = h.small; even = h.even }

safe_edges : (levels : ℕ) (limits : ℕ → ℕ) (p : Place) → AreSafeWays levels limits p → AreSafeEdges levels limits p
safe_edges levels limits (Forked op rs1 rs2 untaken taken) h = (safe_edge levels limits untaken h.2, safe_edge levels limits taken h.3)
safe_edges levels limits (Straight w) h = safe_edge levels limits w h

pub patched_word : (bytes : ℕ → ℕ) (pc v : ℕ) → ((j : ℕ) → j < 4 → bytes (pc + j) ≡ get_or (little 4 v) j 0) → v < 2 ^ 32 → word_at bytes pc ≡ v
patched_word bytes pc v h lt =
    let e0 : bytes pc ≡ get_or (little 4 v) 0 0 = ap bytes (sym (add-zero pc)) ∙ h 0 (omega arith) in
    let e1 : bytes (pc + 1) ≡ get_or (little 4 v) 1 0 = h 1 (omega arith) in
    let e2 : bytes (pc + 2) ≡ get_or (little 4 v) 2 0 = h 2 (omega arith) in
    let e3 : bytes (pc + 3) ≡ get_or (little 4 v) 3 0 = h 3 (omega arith) in
    omega (arith, e0, e1, e2, e3, lt)

module _ (image stored : Image) (levels : ℕ) (limits : ℕ → ℕ) (sites : List Site) (base start : ℕ) (input : List ℕ) (f : IsBlockFrame image stored levels input sites base start)
    (safe : All (IsSafeSite image levels limits) sites) (near : out_of_reach base sites ≡ None) where
  abbrev other : Setting
  other = setting_of stored levels input

  abbrev to : ℕ
  to = base + length (block_bytes base sites)

  abbrev table : ℕ
  table = base + 4 * stubs_len sites

  in_block : (pc : ℕ) (p : Place) → place_at sites pc ≡ Some p → IsInBlock other (loaded_byte stored) base to image limits pc p (patches_from base sites)
  in_block pc p found =
      let fine = are_fine image levels limits sites safe in
      let words = rows_words image levels limits sites safe in
      let long = words_length base sites in
      let bytes = block_length base sites in
      let fits : base + 4 * length (block_words base sites) ≤ to = omega (arith, bytes) in
      let even = f.keyed.even in
      has_stub other (loaded_byte stored) base to image limits base table pc sites p found
      (block_stands other (loaded_byte stored) base to sites f.keyed fits fine words near f.block)
      (rows_lie other (loaded_byte stored) base to sites f.keyed fits fine words near f.block)
      near even (omega (arith, even)) (omega arith) (omega arith) (omega (arith, bytes, long)) (omega (arith, bytes, long)) safe

  block_stub : (pc : ℕ) (p : Place) → is_word_address image pc ≡ true → place_at sites pc ≡ Some p → HasStub image other (loaded_byte stored) limits pc p
  block_stub pc p word found =
      let b = in_block pc p found in
      let ways = subst (AreSafeWays levels limits) b.place_is b.safe.ways in
      let fields = jump_fits pc b.at b.near in
      let v = word_of (jump pc b.at) in
      let ends = b.ends in
      let rows_to = b.rows_to in
      let high = f.high in
      let room = f.keyed.room in
      record {
        stub = b.at;
        patch = (fields, patched_word (loaded_byte stored) pc v (λ j lt. f.patched pc v j word b.word lt) (word_small v (jump pc b.at) (fields, refl)));
        small = omega (arith, ends, room);
        even = b.even;
        stands = stub_anywhere other (loaded_byte stored) b.at b.table p (safe_place levels limits p ways) b.stand b.rows b.even b.even_rows (omega (arith, ends, room)) (omega (arith, rows_to, high));
        of_image = subst (λ a. IsOfImage image a p) b.at_is (subst (IsOfImage image b.site.at) b.place_is b.safe.place);
        edges = safe_edges levels limits p ways;
      }

  pub of_block : IsFrame image stored levels limits input sites start
  of_block = record {
    text = f.text;
    same_text = f.same_text;
    parts = f.parts;
    alike = f.alike;
    fetched = f.fetched;
    fetched_too = f.fetched_too;
    plain = λ pc word none. word_by (loaded_byte stored) (loaded_byte image) pc (λ j lt. f.plain pc j word none lt);
    stubs = block_stub;
    outside = f.outside;
    entry = f.entry;
    start_is = f.start_is;
  }
