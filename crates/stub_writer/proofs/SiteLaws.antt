-- The fragments of a site, and bytes of code in parts.
use Rattle.std.proofs.Common.{◌≡◌, ℕ, suc, ◌+◌, ◌*◌, ◌<◌, ◌≤◌, Bool, true, false, List, [], ◌∷◌, ◌++◌, length, map, arith, sym, ◌∙◌, ap, refl, append_assoc, drop, get_or, add-one, Option, Some, None}
use Rattle.std.proofs.Math.Seq.{drop-cons}
use Rattle.stub_writer.specs.declared.site.StubSite.{StubSite}
use Rattle.std.proofs.lemmas.Bool.{and_parts, cond_both}
use Rattle.std.specs.Prelude.{◌==◌, if◌then◌else◌}
use Rattle.std.specs.List.{All, flat_map}
use Rattle.std.proofs.lemmas.List.{map-append}
use Rattle.std.proofs.lemmas.Grind.{flat_map-append}
use Rattle.std.proofs.lemmas.List.Elements.{All-nil}
use Rattle.scale_base.specs.declared.instruction.Instr.{Instr}
use Rattle.scale_base.specs.Word.{word_of}
use Rattle.scale_base.specs.declared.fragments.Fragment.{Fragment}
use Rattle.stub_writer.specs.declared.site.StubEdge.{StubEdge}
use Rattle.stub_writer.specs.Fragments.{IsFragment}
use Rattle.stub_writer.specs.Stubs.{code_bytes, word_bytes, reaches, is_near, out_of_reach, stub_reaches_of, stub_len, stub_rows, stubs_code, stub_code_of}
use Rattle.stub_writer.specs.Sites.{IsEdge, site_of, fragments_by, kind_number}

abbrev pub AreFragments : List Fragment → Type 0
AreFragments fs = (length fs ≤ 17) × All IsFragment fs

pub marked_fit : (kind : ℕ) (es : List StubEdge) → All IsEdge es → AreFragments (fragments_by kind es)
marked_fit kind [] h = (omega arith, All-nil IsFragment)
marked_fit kind (e ∷ es) h =
    cond_both (kind_number e.edge.kind == kind) _ _ AreFragments (λ _. h 0 e (omega arith)) (λ _. marked_fit kind es (λ k d lt. h (suc k) d (omega arith)))

pub code_bytes_append : (xs ys : List Instr) → code_bytes (xs ++ ys) ≡ code_bytes xs ++ code_bytes ys
code_bytes_append xs ys = ap (flat_map word_bytes) (map-append word_of xs ys) ∙ flat_map-append word_bytes (map word_of xs) (map word_of ys)

-- the bytes of the first instruction, and then those of the rest
pub first_then : (old mid new : List ℕ) (x : Instr) (xs : List Instr) → mid ≡ old ++ code_bytes (x ∷ []) → new ≡ mid ++ code_bytes xs → new ≡ old ++ code_bytes (x ∷ xs)
first_then old mid new x xs h g =
    g ∙ (ap (λ l. l ++ code_bytes xs) h ∙ (append_assoc old (code_bytes (x ∷ [])) (code_bytes xs) ∙ ap (λ l. old ++ l) (sym (code_bytes_append (x ∷ []) xs))))

-- ---- the loops over the sites

pub all_near : (b : Bool) (rest : Option ℕ) (at : ℕ) → (if b then rest else Some at) ≡ None → (b ≡ true) × (rest ≡ None)
all_near true rest at h = (refl, h)
all_near false rest at h = let never : ⊥ = cc in absurd never

pub record IsNext (list : List StubSite) (k : ℕ) (site : StubSite) : Type 0 where
  pub within : k < length list
  pub same : site ≡ get_or list k site

sites_from : (list : List StubSite) (k : ℕ) (site : StubSite) → IsNext list k site → map site_of (drop k list) ≡ site_of site ∷ map site_of (drop (k + 1) list)
sites_from list k site h =
    ap (map site_of) (drop-cons list k site h.within) ∙ (ap (λ s. site_of s ∷ map site_of (drop (suc k) list)) (sym h.same) ∙ ap (λ j. site_of site ∷ map site_of (drop j list)) (sym (add-one k)))

near_here : (list : List StubSite) (k at : ℕ) (site : StubSite) → IsNext list k site → out_of_reach at (map site_of (drop k list)) ≡ None → (is_near at (site_of site) ≡ true) × (out_of_reach (at + 4 * stub_len (site_of site)) (map site_of (drop (k + 1) list)) ≡ None)
near_here list k at site h near =
    let e = sites_from list k site h in
    all_near (is_near at (site_of site)) _ site.at (sym (ap (out_of_reach at) e) ∙ near)

pub near_first : (list : List StubSite) (k at : ℕ) (site : StubSite) → IsNext list k site → out_of_reach at (map site_of (drop k list)) ≡ None → is_near at (site_of site) ≡ true
near_first list k at site h near = let p = near_here list k at site h near in p.0

pub reach_first : (list : List StubSite) (k at : ℕ) (site : StubSite) → IsNext list k site → out_of_reach at (map site_of (drop k list)) ≡ None → stub_reaches_of at (site_of site).place ≡ true
reach_first list k at site h near =
    let p = and_parts (reaches site.at at) (stub_reaches_of at (site_of site).place) (near_first list k at site h near) in p.1

pub near_rest : (list : List StubSite) (k at at2 : ℕ) (site : StubSite) → IsNext list k site → at2 ≡ at + 4 * stub_len (site_of site) → out_of_reach at (map site_of (drop k list)) ≡ None → out_of_reach at2 (map site_of (drop (k + 1) list)) ≡ None
near_rest list k at at2 site h e near =
    let p = near_here list k at site h near in ap (λ a. out_of_reach a (map site_of (drop (k + 1) list))) e ∙ p.1

pub stubs_rest : (list : List StubSite) (k at at2 rows rows2 : ℕ) (site : StubSite) (now new total : List ℕ) → IsNext list k site → at2 ≡ at + 4 * stub_len (site_of site) → rows2 ≡ rows + 4 * length (stub_rows (site_of site)) → now ++ code_bytes (stubs_code at rows (map site_of (drop k list))) ≡ total → new ≡ now ++ code_bytes (stub_code_of at rows (site_of site).place) → new ++ code_bytes (stubs_code at2 rows2 (map site_of (drop (k + 1) list))) ≡ total
stubs_rest list k at at2 rows rows2 site now new total h e f before pushed =
    let here = stub_code_of at rows (site_of site).place in
    let rest = stubs_code (at + 4 * stub_len (site_of site)) (rows + 4 * length (stub_rows (site_of site))) (map site_of (drop (k + 1) list)) in
    ap (λ a. new ++ code_bytes (stubs_code a rows2 (map site_of (drop (k + 1) list)))) e
    ∙ (ap (λ a. new ++ code_bytes (stubs_code (at + 4 * stub_len (site_of site)) a (map site_of (drop (k + 1) list)))) f
    ∙ (ap (λ l. l ++ code_bytes rest) pushed
    ∙ (append_assoc now (code_bytes here) (code_bytes rest)
    ∙ (ap (λ l. now ++ l) (sym (code_bytes_append here rest))
    ∙ (ap (λ ss. now ++ code_bytes (stubs_code at rows ss)) (sym (sites_from list k site h)) ∙ before)))))

-- bytes of words in two parts
pub words_append : (xs ys : List ℕ) → flat_map word_bytes (xs ++ ys) ≡ flat_map word_bytes xs ++ flat_map word_bytes ys
words_append xs ys = flat_map-append word_bytes xs ys
