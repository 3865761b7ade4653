-- Who may use all the addresses of a page, and what the loaded pages hold.
use Rattle.std.proofs.Common.{rules, ◌≡◌, ℕ, zero, suc, ◌+◌, ◌-◌, ◌*◌, ◌/◌, ◌%◌, ◌<◌, ◌≤◌, Bool, true, false, not, List, [], ◌∷◌, length, get_or, Option, Some, None, is_some, refl, ap, sym, ◌∙◌, subst, arith, inl, inr, vec_len}
use Rattle.std.specs.Prelude.{◌&&◌, ◌||◌, nat_le, nat_lt, slice_index, if◌then◌else◌}
use Rattle.std.specs.List.{list_any}
use Rattle.std.proofs.Math.Path.{fun_ext}
use Rattle.std.proofs.lemmas.Bool.{cases_lt, cond-true, cond-false}
use Rattle.std.proofs.lemmas.Bool.Decides.{nat_tests}
use Rattle.scale_base.specs.declared.ranges.Range.{Range}
use Rattle.scale_base.specs.Spans.{in_span}
use Rattle.scale_base.specs.Image.{is_in, PF_R, PF_W}
use Rattle.scale_base.specs.Layout.{Layout, in_stack, in_text, may_read, may_write, may_fetch}
use Rattle.flat_memory.specs.Blocks.{parts_of, allows, may_be_used}
use Rattle.flat_memory.specs.Lists.{list_bytes, list_layout}
use Rattle.flat_memory.specs.Ordered.{are_ordered, is_ordered_text, HasBlock}
use Rattle.flat_memory.specs.Pages.{reads_in, writes_in, fetches_in, UseHolds}
use Rattle.flat_memory.specs.PageTables.{use_of, bytes_of_page, page_in, page_at, paged_bytes}
use Rattle.flat_memory.specs.Wholes.{BlocksAllow, IsPageOf, MayBePageOf, MayBeGroupOf}
use Rattle.flat_memory.specs.declared.block.Block.{Block}
use Rattle.flat_memory.specs.declared.list_memory.ListMemory.{ListMemory}
use Rattle.flat_memory.specs.declared.page.PageUse.{PageUse}
use Rattle.flat_memory.specs.declared.page.PageUse.TheVariants.{Readable, Writable, Text, Mixed}
use Rattle.flat_memory.specs.declared.page.Page.{Page}
use Rattle.flat_memory.specs.declared.page_table.PageGroup.{PageGroup}
use Rattle.flat_memory.proofs.BlockLaws.{readable_in_parts, writable_in_parts}
use Rattle.flat_memory.proofs.PageLaws.{some_index}
use Rattle.flat_memory.proofs.OrderLaws.{text_rise, text_last, text_none, used_found}

-- ---- text

pub text_before : (xs : List Range) (at last : ℕ) → at ≤ last → ((i : ℕ) (e : Range) → 0 ≤ i → i < length xs → last < (get_or xs i e).from) → list_any (is_in at) xs ≡ false
text_before xs at last le above = text_none xs at (λ i e z lt. omega (arith, above i e z lt))

-- the last range that begins at or below the last address, and at or below the first one, decides
pub text_decides : (xs : List Range) (at last k : ℕ) (d : Range) → is_ordered_text xs ≡ true → k < length xs → (get_or xs k d).from ≤ at → at ≤ last →
    ((i : ℕ) (e : Range) → k + 1 ≤ i → i < length xs → last < (get_or xs i e).from) → list_any (is_in at) xs ≡ nat_lt at (get_or xs k d).to
text_decides xs at last k d order lt low le above =
    text_last xs at k d order lt
    (λ i e l.
    let up : (get_or xs i e).from ≤ (get_or xs k e).from = text_rise xs order i k e (omega arith) lt in
    let same : (get_or xs k e).from ≤ at = subst (λ (r : Range). r.from ≤ at) (some_index xs k d e lt) low in omega arith)
    (λ i e l inside. let far = above i e l inside in omega arith)

-- ---- blocks

pub blocks_allow : (xs : List Block) (at k : ℕ) (b : Block) (whole : PageUse) → are_ordered xs ≡ true → HasBlock xs at k → b ≡ get_or xs k b →
    ((c : Bool) → reads_in whole ≡ Some c → allows PF_R b ≡ c) → ((c : Bool) → writes_in whole ≡ Some c → allows PF_W b ≡ c) → ((c : Bool) → fetches_in whole ≡ Some c → c ≡ false) → BlocksAllow xs at whole
blocks_allow xs at k b whole order has is r w f = record {
  reads = λ c says. used_found xs PF_R at k b order has ∙ (ap (allows PF_R) (sym is) ∙ r c says);
  writes = λ c says. used_found xs PF_W at k b order has ∙ (ap (allows PF_W) (sym is) ∙ w c says);
  fetches = f;
}

-- ---- permissions

of_stack : (stack any text : Bool) → stack ≡ true → (stack || (any && not text)) ≡ true
of_stack true any text a = refl
of_stack false any text a = absurd cc

of_text : (stack any text : Bool) → stack ≡ false → text ≡ true → (stack || (any && not text)) ≡ false
of_text false true true a b = refl
of_text false false true a b = refl
of_text true any text a b = absurd cc
of_text false any false a b = absurd cc

of_blocks : (stack any text : Bool) → stack ≡ false → text ≡ false → (stack || (any && not text)) ≡ any
of_blocks false true false a b = refl
of_blocks false false false a b = refl
of_blocks true any text a b = absurd cc
of_blocks false any true a b = absurd cc

pub use_mixed : (l : Layout) (at : ℕ) → UseHolds l at Mixed
use_mixed l at = record { reads = λ b e. absurd cc; writes = λ b e. absurd cc; fetches = λ b e. absurd cc }

pub use_stack : (l : Layout) (at : ℕ) → in_stack at ≡ true → in_text l at ≡ false → UseHolds l at Writable
unfolding may_read may_write may_fetch
use_stack l at here none = record {
  reads = λ b e. let is : b ≡ true = cc in of_stack (in_stack at) (list_any (λ p. p.readable && in_span p.span at) l.parts) (in_text l at) here ∙ sym is;
  writes = λ b e. let is : b ≡ true = cc in of_stack (in_stack at) (list_any (λ p. p.writable && in_span p.span at) l.parts) (in_text l at) here ∙ sym is;
  fetches = λ b e. let is : b ≡ false = cc in none ∙ sym is;
}

pub use_text : (l : Layout) (at : ℕ) → in_stack at ≡ false → in_text l at ≡ true → UseHolds l at Text
unfolding may_read may_write may_fetch
use_text l at away here = record {
  reads = λ b e. let is : b ≡ false = cc in of_text (in_stack at) (list_any (λ p. p.readable && in_span p.span at) l.parts) (in_text l at) away here ∙ sym is;
  writes = λ b e. let is : b ≡ false = cc in of_text (in_stack at) (list_any (λ p. p.writable && in_span p.span at) l.parts) (in_text l at) away here ∙ sym is;
  fetches = λ b e. let is : b ≡ true = cc in here ∙ sym is;
}

pub use_blocks : (m : ListMemory) (at : ℕ) (whole : PageUse) → in_stack at ≡ false → in_text (list_layout m) at ≡ false → BlocksAllow m.blocks.items at whole → UseHolds (list_layout m) at whole
unfolding may_read may_write may_fetch
use_blocks m at whole away none h = record {
  reads = λ b e.
      of_blocks (in_stack at) (list_any (λ p. p.readable && in_span p.span at) (parts_of m.blocks.items)) (in_text (list_layout m) at) away none
      ∙ (readable_in_parts m.blocks.items at ∙ h.reads b e);
  writes = λ b e.
      of_blocks (in_stack at) (list_any (λ p. p.writable && in_span p.span at) (parts_of m.blocks.items)) (in_text (list_layout m) at) away none
      ∙ (writable_in_parts m.blocks.items at ∙ h.writes b e);
  fetches = λ b e. none ∙ sym (h.fetches b e);
}

pub all_in_stack : (from last at : ℕ) → (in_stack from && in_stack last) ≡ true → from ≤ at → at ≤ last → in_stack at ≡ true
all_in_stack from last at h low high = grind (arith, nat_tests)

pub none_in_stack : (from last at : ℕ) → (nat_lt last 0x7FFC0000 || nat_le 0x80000000 from) ≡ true → from ≤ at → at ≤ last → in_stack at ≡ false
none_in_stack from last at h low high = grind (arith, nat_tests)

-- ---- a whole table

index_past : {A : Type 0} (xs : List A) (k : ℕ) (d : A) → length xs ≤ k → get_or xs k d ≡ d
index_past [] k d le = refl
index_past (x ∷ xs) zero d le = absurd (omega arith)
index_past (x ∷ xs) (suc k) d le = index_past xs k d (omega arith)

-- each group of a table is loaded
abbrev pub AreGroupsOf : ListMemory → List (Option PageGroup) → Type 0
AreGroupsOf list groups = (m : ℕ) (o : Option PageGroup) → m < 1024 → o ≡ get_or groups m o → MayBeGroupOf list m o

page_of_group : (list : ListMemory) (m j : ℕ) (o : Option PageGroup) → j < 1024 → MayBeGroupOf list m o → MayBePageOf list (m * 1024 + j) (page_in o j)
page_of_group list m j None lt h = tt
page_of_group list m j (Some g) lt h =
    let size : length g.pages.items ≡ vec_len g.pages = search rules in
    let inside : j < length g.pages.items = omega (arith, g.count) in
    h j (get_or g.pages.items j None) lt (some_index g.pages.items j None (get_or g.pages.items j None) inside)

page_of_table : (list : ListMemory) (groups : List (Option PageGroup)) (n : ℕ) → length groups ≡ 1024 → AreGroupsOf list groups → MayBePageOf list n (page_at groups n)
unfolding page_at
page_of_table list groups n size h =
    elim (cases_lt (n / 1024) 1024) [
      | inl lt ↦
          (let o = get_or groups (n / 1024) None in
          let group = h (n / 1024) o lt (some_index groups (n / 1024) None o (omega arith)) in
          let is : (n / 1024) * 1024 + n % 1024 ≡ n = omega arith in
          subst (λ k. MayBePageOf list k (page_in o (n % 1024))) is (page_of_group list (n / 1024) (n % 1024) o (omega arith) group))
      | inr far ↦ subst (λ o. MayBePageOf list n (page_in o (n % 1024))) (sym (index_past groups (n / 1024) None (omega arith))) tt
    ]

use_of_page : (list : ListMemory) (p : Option Page) (at : ℕ) → MayBePageOf list (at / 4096) p → UseHolds (list_layout list) at (use_of p)
use_of_page list None at h = use_mixed (list_layout list) at
use_of_page list (Some p) at h =
    let is : (at / 4096) * 4096 + at % 4096 ≡ at = omega arith in
    subst (λ a. UseHolds (list_layout list) a p.whole) is (h.whole (at % 4096) (omega arith))

pub whole_table : (list : ListMemory) (groups : List (Option PageGroup)) (at : ℕ) → length groups ≡ 1024 → AreGroupsOf list groups → UseHolds (list_layout list) at (use_of (page_at groups (at / 4096)))
whole_table list groups at size h = use_of_page list (page_at groups (at / 4096)) at (page_of_table list groups (at / 4096) size h)

byte_of_page : (list : ListMemory) (p : Option Page) (at : ℕ) → MayBePageOf list (at / 4096) p → (if is_some p then slice_index (bytes_of_page p) (at % 4096) else list_bytes list at) ≡ list_bytes list at
byte_of_page list None at h = refl
byte_of_page list (Some p) at h =
    let is : (at / 4096) * 4096 + at % 4096 ≡ at = omega arith in
    h.bytes (at % 4096) (omega arith) ∙ ap (list_bytes list) is

-- the pages hold what the memory holds
pub loaded_table : (list : ListMemory) (groups : List (Option PageGroup)) → length groups ≡ 1024 → AreGroupsOf list groups → paged_bytes groups (list_bytes list) ≡ list_bytes list
unfolding paged_bytes
loaded_table list groups size h = fun_ext (λ at. byte_of_page list (page_at groups (at / 4096)) at (page_of_table list groups (at / 4096) size h))
