-- Which addresses an instruction may use.
use Rattle.std.specs.Prelude.{ℕ, zero, suc, ◌%◌, Bool, true, false, not, ◌&&◌, ◌||◌, ◌+◌, nat_le, ◌==◌, List, map, filter, Option, Some, None, option_map}
use Rattle.std.specs.List.{list_any}
use Rattle.scale_base.specs.declared.ranges.Range.{Range}
use Rattle.scale_base.specs.declared.ranges.Span.{Span}
use Rattle.scale_base.specs.Spans.{in_span}
use Rattle.scale_base.specs.Elf.{has}
use Rattle.scale_base.specs.Image.{Image, LoadSegment, addresses_of, is_in, stack, KEY, PF_W, PF_R, WINDOW_START}

-- a segment without the key: its addresses, and who may use them
pub record Part : Type 0 where
  pub span : Span
  pub readable : Bool
  pub writable : Bool

-- what an image says of its addresses
pub record Layout : Type 0 where
  pub parts : List Part
  pub text : List Range
  pub keyed : Option Range

abbrev pub is_plain_segment : LoadSegment → Bool
is_plain_segment s = not (has s.flags KEY)

abbrev pub part_of : LoadSegment → Part
part_of s = record { span = addresses_of s; readable = has s.flags PF_R; writable = has s.flags PF_W }

-- the layout of an image
unfoldable pub layout_of : Image → Layout
layout_of image = record {
  parts = map part_of (filter is_plain_segment image.segments);
  text = image.text;
  keyed = option_map (λ k. k.range) image.keyed_segment;
}

abbrev pub in_text : Layout → ℕ → Bool
in_text l at = list_any (is_in at) l.text

abbrev pub in_option : ℕ → Option Range → Bool
in_option at None = false
in_option at (Some r) = is_in at r

-- whether the address lies in the keyed segment
abbrev pub is_keyed : Layout → ℕ → Bool
is_keyed l at = in_option at l.keyed

abbrev pub in_stack : ℕ → Bool
in_stack at = in_span stack at

abbrev pub in_window : ℕ → Bool
in_window at = nat_le WINDOW_START at

-- the permissions without the keyed segment and the window
unfoldable pub may_read : Layout → ℕ → Bool
may_read l at = in_stack at || (list_any (λ p. p.readable && in_span p.span at) l.parts && not (in_text l at))

unfoldable pub may_write : Layout → ℕ → Bool
may_write l at = in_stack at || (list_any (λ p. p.writable && in_span p.span at) l.parts && not (in_text l at))

unfoldable pub may_fetch : Layout → ℕ → Bool
may_fetch l at = in_text l at

-- the test holds of each of the n addresses from `at` on
unfoldable pub each_byte : (ℕ → Bool) → ℕ → ℕ → Bool
each_byte test at zero = true
each_byte test at (suc n) = each_byte test at n && test (at + n)

-- the instruction at pc may read the byte
abbrev pub reads_byte : Layout → ℕ → ℕ → Bool
reads_byte l pc at = may_read l at || (is_keyed l pc && is_keyed l at)

-- the byte may be fetched
abbrev pub fetches_byte : Layout → ℕ → Bool
fetches_byte l at = may_fetch l at || is_keyed l at

-- the access is to a word of the window, which only instructions of the keyed segment see
abbrev pub uses_window : Layout → ℕ → ℕ → ℕ → Bool
uses_window l pc at width = is_keyed l pc && (width == 4) && in_window at

abbrev pub can_read : Layout → ℕ → ℕ → ℕ → Bool
can_read l pc at width = each_byte (reads_byte l pc) at width

abbrev pub can_write : Layout → ℕ → ℕ → Bool
can_write l at width = each_byte (may_write l) at width

abbrev pub can_fetch : Layout → ℕ → Bool
can_fetch l pc = (pc % 4 == 0) && each_byte (fetches_byte l) pc 4
