-- What blocks hold that are loaded from segments.
use Rattle.std.proofs.Common.{◌≡◌, ℕ, zero, suc, ◌+◌, ◌-◌, ◌<◌, ◌≤◌, Bool, true, false, not, List, [], ◌∷◌, ◌++◌, length, get_or, take, Option, Some, None, refl, ap, sym, ◌∙◌, arith, cond, map, vec_len}
use Rattle.std.specs.Prelude.{slice_get, slice_index, filter, find, replicate, option_map}
use Rattle.std.specs.List.{list_all}
use Rattle.std.proofs.Math.Path.{fun_ext}
use Rattle.std.proofs.lemmas.Bool.Decides.{nat_tests}
use Rattle.std.proofs.lemmas.List.{take_more}
use Rattle.std.proofs.lemmas.List.FromFn.{get_or-map-range_with_len}
use Rattle.scale_base.specs.declared.headers.ProgramHeader.{ProgramHeader}
use Rattle.scale_base.specs.declared.ranges.Range.{Range}
use Rattle.scale_base.specs.Spans.{in_span}
use Rattle.scale_base.specs.Elf.{has}
use Rattle.scale_base.specs.Image.{Image, LoadSegment, PF_R, PF_W, KEY, covers, addresses_of, segment_byte}
use Rattle.scale_base.specs.Image as image
use Rattle.scale_base.specs.Layout.{is_plain_segment, in_stack}
use Rattle.scale_base.specs.Layout as rules
use Rattle.flat_memory.specs.Blocks.{span_of, holds, is_plain_block, block_part, parts_of, byte_in_blocks}
use Rattle.flat_memory.specs.Lists.{memory_byte}
use Rattle.flat_memory.specs.Ordered.{are_ordered, range_before, is_ordered_text}
use Rattle.elf_image.specs.Ascending.{AscendFrom}
use Rattle.flat_memory.specs.Loaded.{offset_byte, IsBlockOf, AreBlocksOf}
use Rattle.flat_memory.specs.declared.block.Block.{Block}
use Rattle.flat_memory.proofs.BlockLaws.{read}
use Rattle.flat_memory.proofs.PlacedLaws.{AreHeadersOf, stack_free, ordered_segments}

pub are_none : AreBlocksOf [] []
unfolding AreBlocksOf
are_none = tt

are_pushed : (ss : List LoadSegment) (bs : List Block) (s : LoadSegment) (b : Block) → AreBlocksOf ss bs → IsBlockOf s b → AreBlocksOf (ss ++ s ∷ []) (bs ++ b ∷ [])
unfolding AreBlocksOf
are_pushed [] [] s b h one = (one, tt)
are_pushed (x ∷ ss) (y ∷ bs) s b h one = (h.0, are_pushed ss bs s b h.1 one)
are_pushed [] (y ∷ bs) s b h one = absurd h
are_pushed (x ∷ ss) [] s b h one = absurd h

get_at : (ss : List LoadSegment) (k : ℕ) (s : LoadSegment) → slice_get ss k ≡ Some s → (k < length ss) × (get_or ss k s ≡ s)
get_at [] k s e = absurd cc
get_at (x ∷ ss) zero s e = (omega arith, cc)
get_at (x ∷ ss) (suc k) s e = let r = get_at ss k s e in (omega (arith, r.0), r.1)

-- one more segment and its block
pub are_more : (ss : List LoadSegment) (k : ℕ) (s : LoadSegment) (bs : List Block) (b : Block) → AreBlocksOf (take k ss) bs → slice_get ss k ≡ Some s → IsBlockOf s b → AreBlocksOf (take (k + 1) ss) (bs ++ b ∷ [])
are_more ss k s bs b h e one =
    let r = get_at ss k s e in
    let front : take (k + 1) ss ≡ take k ss ++ s ∷ [] = take_more ss k s r.0 ∙ ap (λ x. take k ss ++ x ∷ []) r.1 in
    rw front (are_pushed (take k ss) bs s b h one)

-- ---- the addresses, the parts and the bytes

pub same_span : (s : LoadSegment) (b : Block) → IsBlockOf s b → span_of b ≡ addresses_of s
same_span s b h = ap (λ n. record { from = n; len = vec_len b.bytes }) h.from ∙ ap (λ n. record { from = s.from; len = n }) h.len

same_part : (s : LoadSegment) (b : Block) → IsBlockOf s b → block_part b ≡ rules.part_of s
same_part s b h =
    ap (λ a. record { span = a; readable = has b.flags PF_R; writable = has b.flags PF_W }) (same_span s b h)
    ∙ ap (λ f. record { span = addresses_of s; readable = has f PF_R; writable = has f PF_W }) h.flags

parts_step : (t u : Bool) (b : Block) (s : LoadSegment) (bs : List Block) (ss : List LoadSegment) → t ≡ u → block_part b ≡ rules.part_of s → map block_part bs ≡ map rules.part_of ss
    → map block_part (cond t (b ∷ bs) bs) ≡ map rules.part_of (cond u (s ∷ ss) ss)
parts_step true true b s bs ss e part rest = ap (λ p. p ∷ map block_part bs) part ∙ ap (λ ps. rules.part_of s ∷ ps) rest
parts_step false false b s bs ss e part rest = rest
parts_step true false b s bs ss e part rest = absurd cc
parts_step false true b s bs ss e part rest = absurd cc

pub loaded_parts : (ss : List LoadSegment) (bs : List Block) → AreBlocksOf ss bs → parts_of bs ≡ map rules.part_of (filter is_plain_segment ss)
unfolding AreBlocksOf
loaded_parts [] [] h = refl
loaded_parts (s ∷ ss) (b ∷ bs) h =
    parts_step (is_plain_block b) (is_plain_segment s) b s (filter is_plain_block bs) (filter is_plain_segment ss) (ap (λ f. not (has f KEY)) h.0.flags) (same_part s b h.0) (loaded_parts ss bs h.1)
loaded_parts [] (b ∷ bs) h = absurd h
loaded_parts (s ∷ ss) [] h = absurd h

same_byte : (s : LoadSegment) (b : Block) (at : ℕ) → IsBlockOf s b → covers at s ≡ true → read b at ≡ segment_byte at s
same_byte s b at h here =
    let below : at - s.from < s.len = grind (arith, nat_tests) in
    ap (λ n. slice_index b.bytes.items (at - n)) h.from
    ∙ (ap (λ xs. slice_index xs (at - s.from)) h.bytes
    ∙ get_or-map-range_with_len (offset_byte s) 0 s.len (at - s.from) (at - s.from) 0 below (omega arith))

byte_step : (t u : Bool) (n rest : ℕ) (s : LoadSegment) (o : Option LoadSegment) (at : ℕ) → t ≡ u → (u ≡ true → n ≡ segment_byte at s) → rest ≡ image.byte_in at o → cond t n rest ≡ image.byte_in at (cond u (Some s) o)
byte_step true true n rest s o at e here there = here refl
byte_step false false n rest s o at e here there = there
byte_step true false n rest s o at e here there = absurd cc
byte_step false true n rest s o at e here there = absurd cc

pub loaded_bytes : (ss : List LoadSegment) (bs : List Block) (at : ℕ) → AreBlocksOf ss bs → byte_in_blocks bs at ≡ image.byte_in at (find (covers at) ss)
unfolding AreBlocksOf byte_in_blocks
loaded_bytes [] [] at h = refl
loaded_bytes (s ∷ ss) (b ∷ bs) at h =
    byte_step (holds at b) (covers at s) (read b at) (byte_in_blocks bs at) s (find (covers at) ss) at (ap (λ a. in_span a at) (same_span s b h.0)) (same_byte s b at h.0) (loaded_bytes ss bs at h.1)
loaded_bytes [] (b ∷ bs) at h = absurd h
loaded_bytes (s ∷ ss) [] at h = absurd h

-- ---- the memory

zero_at : (n k : ℕ) → slice_index (replicate n 0) k ≡ 0
zero_at zero k = refl
zero_at (suc n) zero = refl
zero_at (suc n) (suc k) = zero_at n k

memory_at : (t : Bool) (n rest : ℕ) (o : Option LoadSegment) (at : ℕ) → n ≡ 0 → (t ≡ true → o ≡ None) → rest ≡ image.byte_in at o → cond t n rest ≡ image.byte_in at o
memory_at true n rest o at z free e = z ∙ sym (ap (image.byte_in at) (free refl))
memory_at false n rest o at z free e = e

-- a stack of zeros and the blocks of the segments hold what the image loads
pub loaded_memory : (i : Image) (hs : List ProgramHeader) (n : ℕ) (stack : List ℕ) (blocks : List Block) → AreHeadersOf i hs → stack ≡ replicate n 0 → AreBlocksOf i.segments blocks → memory_byte stack blocks ≡ image.loaded_byte i
unfolding memory_byte image.loaded_byte
loaded_memory i hs n stack blocks h zeros are =
    fun_ext (λ at. memory_at (in_stack at) (slice_index stack (at - 0x7FFC0000)) (byte_in_blocks blocks at) (find (covers at) i.segments) at
    (ap (λ xs. slice_index xs (at - 0x7FFC0000)) zeros ∙ zero_at n (at - 0x7FFC0000)) (stack_free i hs at h) (loaded_bytes i.segments blocks at are))

-- and its layout is the image's
pub loaded_layout : (i : Image) (blocks : List Block) (text : List Range) (keyed : Option Range) → AreBlocksOf i.segments blocks → text ≡ i.text → keyed ≡ option_map (λ k. k.range) i.keyed_segment
    → record { parts = parts_of blocks; text = text; keyed = keyed } ≡ rules.layout_of i
unfolding rules.layout_of
loaded_layout i blocks text keyed are t k =
    let p = loaded_parts i.segments blocks are in
    cc

-- ---- the order

same_spans : (ss : List LoadSegment) (bs : List Block) → AreBlocksOf ss bs → map span_of bs ≡ map addresses_of ss
unfolding AreBlocksOf
same_spans [] [] h = refl
same_spans (s ∷ ss) (b ∷ bs) h = ap (λ a. a ∷ map span_of bs) (same_span s b h.0) ∙ ap (λ spans. addresses_of s ∷ spans) (same_spans ss bs h.1)
same_spans [] (b ∷ bs) h = absurd h
same_spans (s ∷ ss) [] h = absurd h

pub loaded_order : (i : Image) (hs : List ProgramHeader) (blocks : List Block) → AreHeadersOf i hs → AreBlocksOf i.segments blocks → are_ordered blocks ≡ true
loaded_order i hs blocks h are = rw (same_spans i.segments blocks are) (ordered_segments i hs h)

text_after : (low : ℕ) (r : Range) (rs : List Range) → r.from ≤ low → r.to ≤ low → AscendFrom low rs → list_all (range_before r) rs ≡ true
text_after low r [] from to h = refl
text_after low r (x ∷ rs) from to h =
    let first : range_before r x ≡ true = before_from low r x from to h.0 in
    rw (first, text_after x.to r rs (omega (arith, h.0, h.1)) (omega (arith, h.0, h.1)) h.2) refl
  where
    before_from : (low : ℕ) (r x : Range) → r.from ≤ low → r.to ≤ low → low ≤ x.from → range_before r x ≡ true
    before_from low r x from to le = grind (arith, nat_tests)

pub text_order : (low : ℕ) (rs : List Range) → AscendFrom low rs → is_ordered_text rs ≡ true
text_order low [] h = refl
text_order low (r ∷ rs) h = rw (text_after r.to r rs (omega (arith, h.1)) (omega arith) h.2, text_order r.to rs h.2) refl
