-- The stub of a marked instruction: where it stands in the block, and the word that leads there.
use Rattle.std.proofs.Common.{◌≡◌, ℕ, suc, ◌+◌, ◌*◌, ◌%◌, ◌≤◌, Bool, true, false, cond, List, [], ◌∷◌, length, refl, arith, sym, ◌∙◌, ap, subst, Some, None, length-append}
use Rattle.std.specs.Prelude.{◌==◌, All}
use Rattle.std.proofs.lemmas.Bool.{and_parts, eqb-true}
use Rattle.std.proofs.lemmas.List.Sums.{sum_by-cons}
use Rattle.std.proofs.lemmas.List.Concat.{flat_map-cons}
use Rattle.scale_base.specs.declared.ranges.Patch.{Patch}
use Rattle.scale_base.specs.Word.{word_of}
use Rattle.scale_base.specs.Image.{Image}
use Rattle.scale_base.specs.State.{Setting}
use Rattle.stub_writer.specs.Stubs.{Site, Place, jump, reaches, stub_reaches_of, is_near, out_of_reach, stub_len, stub_len_of, stub_rows, stub_rows_of, stubs_len, block_rows, patches_from, stub_code_of}
use Rattle.stub_writer.proofs.Laws.{all_near}
use Rattle.stored_runs.specs.Meaning.{Stand}
use Rattle.stored_runs.specs.Held.{Lie, StubsStand}
use Rattle.stored_runs.proofs.BlockLaws.{lie_left, lie_right}
use Rattle.stored_runs.specs.Marks.{place_at}
use Rattle.stored_runs.specs.Stubbed.{IsSafeSite}
use Rattle.stored_runs.proofs.StoredBytes.{word_for}

pub record IsInBlock (env : Setting) (bytes : ℕ → ℕ) (base to : ℕ) (image : Image) (limits : ℕ → ℕ) (pc : ℕ) (p : Place) (patches : List Patch) : Type 0 where
  pub at : ℕ
  pub table : ℕ
  pub site : Site
  pub at_is : site.at ≡ pc
  pub place_is : site.place ≡ p
  pub word : word_for patches pc ≡ Some (word_of (jump pc at))
  pub near : reaches pc at ≡ true
  pub stand : Stand env bytes at (stub_code_of at table p)
  pub rows : Lie env bytes table (stub_rows_of p)
  pub even : at % 4 ≡ 0
  pub even_rows : table % 4 ≡ 0
  pub low : base ≤ at
  pub low_rows : base ≤ table
  pub ends : at + 4 * stub_len_of p ≤ to
  pub rows_to : table + 4 * length (stub_rows_of p) ≤ to
  pub safe : IsSafeSite image env.levels limits site

module _ (env : Setting) (bytes : ℕ → ℕ) (base to : ℕ) (image : Image) (limits : ℕ → ℕ) where
  here : (at table pc : ℕ) (site : Site) (sites : List Site) (p : Place) → site.at ≡ pc → site.place ≡ p → StubsStand env bytes at table (site ∷ sites) → Lie env bytes table (block_rows (site ∷ sites)) → is_near at site ≡ true
      → at % 4 ≡ 0 → table % 4 ≡ 0 → base ≤ at → base ≤ table → at + 4 * stubs_len (site ∷ sites) ≤ to → table + 4 * length (block_rows (site ∷ sites)) ≤ to → All (IsSafeSite image env.levels limits) (site ∷ sites)
      → word_for (patches_from at (site ∷ sites)) pc ≡ Some (word_of (jump site.at at)) → IsInBlock env bytes base to image limits pc p (patches_from at (site ∷ sites))
  here at table pc site sites p at_is place_is stand rows near even even_rows low low_rows ends rows_to safe word =
      let close = and_parts (reaches site.at at) (stub_reaches_of at site.place) near in
      let len : stubs_len (site ∷ sites) ≡ stub_len site + stubs_len sites = sum_by-cons stub_len site sites in
      let parts = flat_map-cons stub_rows site sites in
      let own = lie_left env bytes table (stub_rows site) (block_rows sites) (subst (Lie env bytes table) parts rows) in
      let long : length (block_rows (site ∷ sites)) ≡ length (stub_rows site) + length (block_rows sites) = ap (λ (l : List ℕ). length l) parts ∙ length-append (stub_rows site) (block_rows sites) in
      let ends_here : at + 4 * stub_len_of site.place ≤ to = omega (arith, len, ends) in
      let rows_here : table + 4 * length (stub_rows_of site.place) ≤ to = omega (arith, long, rows_to) in
      record {
        at = at;
        table = table;
        site = site;
        at_is = at_is;
        place_is = place_is;
        word = word ∙ ap (λ a. Some (word_of (jump a at))) at_is;
        near = ap (λ a. reaches a at) (sym at_is) ∙ close.0;
        stand = subst (λ q. Stand env bytes at (stub_code_of at table q)) place_is stand.0;
        rows = subst (λ q. Lie env bytes table (stub_rows_of q)) place_is own;
        even = even;
        even_rows = even_rows;
        low = low;
        low_rows = low_rows;
        ends = subst (λ q. at + 4 * stub_len_of q ≤ to) place_is ends_here;
        rows_to = subst (λ q. table + 4 * length (stub_rows_of q) ≤ to) place_is rows_here;
        safe = safe 0 site (omega arith);
      }

  later : (pc w : ℕ) (p : Place) (first : Patch) (patches : List Patch) → (first.at == pc) ≡ false → IsInBlock env bytes base to image limits pc p patches → IsInBlock env bytes base to image limits pc p (first ∷ patches)
  later pc w p first patches off h = record {
    at = h.at;
    table = h.table;
    site = h.site;
    at_is = h.at_is;
    place_is = h.place_is;
    word = ap (λ b. cond b (Some first.word) (word_for patches pc)) off ∙ h.word;
    near = h.near;
    stand = h.stand;
    rows = h.rows;
    even = h.even;
    even_rows = h.even_rows;
    low = h.low;
    low_rows = h.low_rows;
    ends = h.ends;
    rows_to = h.rows_to;
    safe = h.safe;
  }

  pub has_stub : (at table pc : ℕ) (sites : List Site) (p : Place) → place_at sites pc ≡ Some p → StubsStand env bytes at table sites → Lie env bytes table (block_rows sites) → out_of_reach at sites ≡ None
      → at % 4 ≡ 0 → table % 4 ≡ 0 → base ≤ at → base ≤ table → at + 4 * stubs_len sites ≤ to → table + 4 * length (block_rows sites) ≤ to → All (IsSafeSite image env.levels limits) sites → IsInBlock env bytes base to image limits pc p (patches_from at sites)
  has_stub at table pc [] p found stand rows near even even_rows low low_rows ends rows_to safe = absurd cc
  has_stub at table pc (site ∷ sites) p found stand rows near even even_rows low low_rows ends rows_to safe =
      let next_at = at + 4 * stub_len site in
      let next_table = table + 4 * length (stub_rows site) in
      let close = all_near (is_near at site) (out_of_reach next_at sites) site.at near in
      let len : stubs_len (site ∷ sites) ≡ stub_len site + stubs_len sites = sum_by-cons stub_len site sites in
      let parts = flat_map-cons stub_rows site sites in
      let behind = lie_right env bytes table (stub_rows site) (block_rows sites) (subst (Lie env bytes table) parts rows) in
      let long : length (block_rows (site ∷ sites)) ≡ length (stub_rows site) + length (block_rows sites) = ap (λ (l : List ℕ). length l) parts ∙ length-append (stub_rows site) (block_rows sites) in
      step (site.at == pc) refl found close.0
      (λ f. has_stub next_at next_table pc sites p f stand.1 behind close.1 (omega (arith, even)) (omega (arith, even_rows)) (omega (arith, low)) (omega (arith, low_rows)) (omega (arith, len, ends)) (omega (arith, long, rows_to)) (λ k d lt. safe (suc k) d (omega arith)))
    where
      step : (b : Bool) → (site.at == pc) ≡ b → cond b (Some site.place) (place_at sites pc) ≡ Some p → is_near at site ≡ true
          → (place_at sites pc ≡ Some p → IsInBlock env bytes base to image limits pc p (patches_from (at + 4 * stub_len site) sites)) → IsInBlock env bytes base to image limits pc p (patches_from at (site ∷ sites))
      step true e f close go =
          let same : site.place ≡ p = cc in
          here at table pc site sites p (eqb-true site.at pc e) same stand rows close even even_rows low low_rows ends rows_to safe
          (ap (λ b. cond b (Some (word_of (jump site.at at))) (word_for (patches_from (at + 4 * stub_len site) sites) pc)) e)
      step false e f close go = later pc 0 p (record { at = site.at; word = word_of (jump site.at at) }) (patches_from (at + 4 * stub_len site) sites) e (go f)
