-- The stubs of a block stand in their places, once its bytes lie in the keyed segment.
use Rattle.std.proofs.Common.{◌≡◌, ℕ, pos, suc, ◌+◌, ◌*◌, ◌^◌, ◌%◌, ◌<◌, ◌≤◌, true, List, [], ◌∷◌, ◌++◌, map, length, refl, arith, subst, None, length-append, ◌∙◌, ap}
use Rattle.std.proofs.lemmas.List.{length-map}
use Rattle.std.specs.List.{All, sum_by, flat_map}
use Rattle.std.proofs.lemmas.List.Concat.{flat_map-cons}
use Rattle.std.proofs.lemmas.Bool.{and_parts}
use Rattle.std.proofs.lemmas.List.Sums.{sum_by-cons}
use Rattle.std.proofs.lemmas.Int.{ints}
use Rattle.scale_base.specs.declared.instruction.Instr.{Instr}
use Rattle.scale_base.specs.declared.instruction.Instr.TheVariants as instrs
use Rattle.scale_base.specs.Word.{word_of, FieldsInRange}
use Rattle.scale_base.specs.State.{Setting}
use Rattle.scale_base.proofs.Laws.{word_small}
use Rattle.scale_base.specs.declared.fragments.Fragment.{Fragment}
use Rattle.scale_base.specs.declared.fragments.Fragment.TheVariants.{Switch, Exit, Reset, Count, Lowest, Tally}
use Rattle.stub_writer.specs.Fragments.{IsFragment, fragment_code, code_len, rows_len}
use Rattle.stub_writer.specs.Stubs.{Site, Way, Place, Forked, Straight, way_len, way_rows, fragments_code, jump, jump_at, way_code, taken_at, stub_code_of, stub_len, stub_len_of, stub_rows, stub_rows_of, stubs_code, stubs_len, block_rows, block_words, block_bytes, reaches, stub_reaches_of, is_near, out_of_reach, word_bytes}
use Rattle.stored_runs.specs.Meaning.{Stand}
use Rattle.stored_runs.specs.Held.{Lie, BytesLie, AllInRange, AllWords, KeyedFrom, IsFineWay, IsFine, AreFine, StubsStand, StubStands}
use Rattle.stored_runs.proofs.Ranges.{fragment_fits}
use Rattle.stub_writer.proofs.Laws.{jump_fits, all_near}
use Rattle.stored_runs.proofs.Ways.{stand_left, stand_right, codes_length}
use Rattle.stored_runs.proofs.Held.{stand_of, lie_of}

-- ---- lengths

way_length : (at table : ℕ) (w : Way) → length (way_code at table w) ≡ way_len w
way_length at table w = omega (arith, length-append (fragments_code table w.fragments) (jump (jump_at at w) w.to ∷ []), codes_length table w.fragments)

stub_length : (at table : ℕ) (p : Place) → length (stub_code_of at table p) ≡ stub_len_of p
stub_length at table (Forked op rs1 rs2 untaken taken) =
    let a = way_length (at + 4) table untaken in
    let later = table + 4 * length (way_rows untaken) in
    let b = way_length (taken_at at untaken) later taken in
    omega (arith, length-append (way_code (at + 4) table untaken) (way_code (taken_at at untaken) later taken), a, b)
stub_length at table (Straight w) = way_length at table w

pub codes_small : (fs : List Fragment) → sum_by code_len fs ≤ 16 * length fs
codes_small [] = omega arith
codes_small (f ∷ fs) = let rest = codes_small fs in let one = code_small f in omega (arith, sum_by-cons code_len f fs)
  where
    code_small : (f : Fragment) → code_len f ≤ 16
    code_small (Switch word) = omega arith
    code_small (Exit counter shift rows) = omega arith
    code_small (Reset counter) = omega arith
    code_small (Count counter) = omega arith
    code_small (Lowest down) = omega arith
    code_small (Tally counter shift from) = omega arith

-- ---- ranges

range_append : (xs ys : List Instr) → AllInRange xs → AllInRange ys → AllInRange (xs ++ ys)
range_append [] ys h g = g
range_append (x ∷ xs) ys h g = (h.0, range_append xs ys h.1 g)

fragments_range : (table : ℕ) (fs : List Fragment) → All IsFragment fs → AllInRange (fragments_code table fs)
fragments_range table [] h = tt
fragments_range table (f ∷ fs) h =
    range_append (fragment_code table f) _ (fragment_fits table f (h 0 f (omega arith)))
    (fragments_range (table + 4 * rows_len f) fs (λ k d lt. h (suc k) d (omega arith)))

way_range : (at table : ℕ) (w : Way) → IsFineWay w → reaches (jump_at at w) w.to ≡ true → AllInRange (way_code at table w)
way_range at table w fine near =
    range_append (fragments_code table w.fragments) (jump (jump_at at w) w.to ∷ []) (fragments_range table w.fragments fine.1) (jump_fits (jump_at at w) w.to near, tt)

stub_range : (at table : ℕ) (p : Place) → IsFine p → stub_reaches_of at p ≡ true → AllInRange (stub_code_of at table p)
stub_range at table (Forked op rs1 rs2 untaken taken) fine near =
    let parts = and_parts (reaches (jump_at (at + 4) untaken) untaken.to) (reaches (jump_at (taken_at at untaken) taken) taken.to) near in
    let later = table + 4 * length (way_rows untaken) in
    let small = codes_small untaken.fragments in
    let few : length untaken.fragments ≤ 17 = fine.2.0 in
    let branch : FieldsInRange (instrs.Branch op rs1 rs2 (pos (4 + 4 * way_len untaken))) = (fine.0, fine.1, omega arith, omega arith) in (
      branch,
      range_append (way_code (at + 4) table untaken) (way_code (taken_at at untaken) later taken)
          (way_range (at + 4) table untaken fine.2 parts.0) (way_range (taken_at at untaken) later taken fine.3 parts.1),
    )
stub_range at table (Straight w) fine near = way_range at table w fine near

pub stubs_range : (at table : ℕ) (sites : List Site) → AreFine sites → out_of_reach at sites ≡ None → AllInRange (stubs_code at table sites)
stubs_range at table [] fine near = tt
stubs_range at table (site ∷ sites) fine near =
    let p = all_near (is_near at site) (out_of_reach (at + 4 * stub_len site) sites) site.at near in
    let here = and_parts (reaches site.at at) (stub_reaches_of at site.place) p.0 in
    range_append (stub_code_of at table site.place) _ (stub_range at table site.place fine.0 here.1)
    (stubs_range (at + 4 * stub_len site) (table + 4 * length (stub_rows site)) sites fine.1 p.1)

-- ---- the block

stubs_stand : (env : Setting) (bytes : ℕ → ℕ) (at table : ℕ) (sites : List Site) → Stand env bytes at (stubs_code at table sites) → StubsStand env bytes at table sites
stubs_stand env bytes at table [] h = tt
stubs_stand env bytes at table (site ∷ sites) h =
    let first = stub_code_of at table site.place in
    let later = table + 4 * length (stub_rows site) in
    let rest = stubs_code (at + 4 * stub_len site) later sites in
    let behind : Stand env bytes (at + 4 * stub_len site) rest =
    subst (λ n. Stand env bytes (at + 4 * n) rest) (stub_length at table site.place) (stand_right env bytes at first rest h) in
    (stand_left env bytes at first rest h, stubs_stand env bytes (at + 4 * stub_len site) later sites behind)

pub lie_left : (env : Setting) (bytes : ℕ → ℕ) (at : ℕ) (xs ys : List ℕ) → Lie env bytes at (xs ++ ys) → Lie env bytes at xs
lie_left env bytes at [] ys h = tt
lie_left env bytes at (x ∷ xs) ys h = (h.0, lie_left env bytes (at + 4) xs ys h.1)

words_both : (xs ys : List ℕ) → AllWords xs → AllWords ys → AllWords (xs ++ ys)
words_both [] ys h g = g
words_both (x ∷ xs) ys h g = (h.0, words_both xs ys h.1 g)

words_of : (is : List Instr) → AllInRange is → AllWords (map word_of is)
words_of [] h = tt
words_of (i ∷ is) h = (word_small (word_of i) i (h.0, refl), words_of is h.1)

pub block_stands : (env : Setting) (bytes : ℕ → ℕ) (base to : ℕ) (sites : List Site) → KeyedFrom env base to → base + 4 * length (block_words base sites) ≤ to → AreFine sites → AllWords (block_rows sites) → out_of_reach base sites ≡ None → BytesLie bytes base (block_bytes base sites) → StubsStand env bytes base (base + 4 * stubs_len sites) sites
block_stands env bytes base to sites keyed fits fine rows near lie =
    let table = base + 4 * stubs_len sites in
    let code = stubs_code base table sites in
    let range = stubs_range base table sites fine near in
    let words = words_both (map word_of code) (block_rows sites) (words_of code range) rows in
    let all = lie_of env bytes base to (block_words base sites) keyed fits words lie in
    stubs_stand env bytes base table sites (stand_of env bytes base code (lie_left env bytes base (map word_of code) (block_rows sites) all) range)

stubs_length : (at table : ℕ) (sites : List Site) → length (stubs_code at table sites) ≡ stubs_len sites
stubs_length at table [] = refl
stubs_length at table (site ∷ sites) =
    let one = stub_length at table site.place in
    let rest = stubs_length (at + 4 * stub_len site) (table + 4 * length (stub_rows site)) sites in
    omega (arith, length-append (stub_code_of at table site.place) (stubs_code (at + 4 * stub_len site) (table + 4 * length (stub_rows site)) sites), one, rest, sum_by-cons stub_len site sites)

pub lie_right : (env : Setting) (bytes : ℕ → ℕ) (at : ℕ) (xs ys : List ℕ) → Lie env bytes at (xs ++ ys) → Lie env bytes (at + 4 * length xs) ys
lie_right env bytes at [] ys h = let e : at ≡ at + 4 * 0 = omega arith in subst (λ a. Lie env bytes a ys) e h
lie_right env bytes at (x ∷ xs) ys h =
    let e : at + 4 + 4 * length xs ≡ at + 4 * length (x ∷ xs) = omega arith in
    subst (λ a. Lie env bytes a ys) e (lie_right env bytes (at + 4) xs ys h.1)

-- and so do the rows behind the stubs
pub rows_lie : (env : Setting) (bytes : ℕ → ℕ) (base to : ℕ) (sites : List Site) → KeyedFrom env base to → base + 4 * length (block_words base sites) ≤ to → AreFine sites → AllWords (block_rows sites) → out_of_reach base sites ≡ None → BytesLie bytes base (block_bytes base sites) → Lie env bytes (base + 4 * stubs_len sites) (block_rows sites)
rows_lie env bytes base to sites keyed fits fine rows near lie =
    let table = base + 4 * stubs_len sites in
    let code = stubs_code base table sites in
    let range = stubs_range base table sites fine near in
    let words = words_both (map word_of code) (block_rows sites) (words_of code range) rows in
    let all = lie_of env bytes base to (block_words base sites) keyed fits words lie in
    let long : length (map word_of code) ≡ stubs_len sites = length-map code word_of ∙ stubs_length base table sites in
    subst (λ n. Lie env bytes (base + 4 * n) (block_rows sites)) long (lie_right env bytes base (map word_of code) (block_rows sites) all)

pub words_length : (base : ℕ) (sites : List Site) → length (block_words base sites) ≡ stubs_len sites + length (block_rows sites)
words_length base sites =
    let code = stubs_code base (base + 4 * stubs_len sites) sites in
    let long : length (map word_of code) ≡ stubs_len sites = length-map code word_of ∙ stubs_length base (base + 4 * stubs_len sites) sites in
    omega (arith, length-append (map word_of code) (block_rows sites), long)

bytes_length : (ws : List ℕ) → length (flat_map word_bytes ws) ≡ 4 * length ws
bytes_length [] = refl
bytes_length (w ∷ ws) =
    let rest = bytes_length ws in
    let first = ap (λ (l : List ℕ). length l) (flat_map-cons word_bytes w ws) in
    omega (arith, first, length-append (word_bytes w) (flat_map word_bytes ws), rest)

-- the bytes of words are four for each
pub block_length : (base : ℕ) (sites : List Site) → length (block_bytes base sites) ≡ 4 * length (block_words base sites)
block_length base sites = bytes_length (block_words base sites)

-- ---- a stub of the block is one that stands anywhere

pub stub_anywhere : (env : Setting) (bytes : ℕ → ℕ) (at table : ℕ) (p : Place) → IsFine p → Stand env bytes at (stub_code_of at table p) → Lie env bytes table (stub_rows_of p) → at % 4 ≡ 0 → table % 4 ≡ 0 → at + 4 * stub_len_of p < 2 ^ 32 → table + 4 * length (stub_rows_of p) ≤ 0xFFFFF800
    → StubStands env bytes at p
stub_anywhere env bytes at table (Forked op rs1 rs2 untaken taken) fine stand rows even even_rows room high =
    let to = taken_at at untaken in
    let later = table + 4 * length (way_rows untaken) in
    let first = way_code (at + 4) table untaken in
    let second = way_code to later taken in
    let long : at + 4 + 4 * length first ≡ to = (let a = way_length (at + 4) table untaken in omega (arith, a)) in
    let rows_long = length-append (way_rows untaken) (way_rows taken) in
    let small = codes_small untaken.fragments in
    let few : length untaken.fragments ≤ 17 = fine.2.0 in
    record {
      offset = pos (4 + 4 * way_len untaken);
      to = to;
      branch = stand.0;
      leads = omega (arith, ints, small, few, room);
      even = omega (arith, even);
      untaken_way = record {
        table = table;
        code = stand_left env bytes (at + 4) first second stand.1;
        rows = lie_left env bytes table (way_rows untaken) (way_rows taken) rows;
        even = even_rows;
        high = omega (arith, rows_long, high);
      };
      taken_way = record {
        table = later;
        code = subst (λ a. Stand env bytes a second) long (stand_right env bytes (at + 4) first second stand.1);
        rows = lie_right env bytes table (way_rows untaken) (way_rows taken) rows;
        even = omega (arith, even_rows);
        high = omega (arith, rows_long, high);
      };
    }
stub_anywhere env bytes at table (Straight w) fine stand rows even even_rows room high = record { table = table; code = stand; rows = rows; even = even_rows; high = high }
