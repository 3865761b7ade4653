-- One more piece of a text, and one more number of a list.
use Rattle.std.proofs.Common.{◌≡◌, ℕ, ◌+◌, ◌<◌, Bool, Option, List, [], ◌∷◌, ◌++◌, length, get_or, take, sym, ap, ◌∙◌, arith, length-append}
use Rattle.std.specs.List.{flat_map, insert}
use Rattle.std.proofs.lemmas.List.{take_more, flat_map_more}
use Rattle.std.proofs.lemmas.Grind.{common_steps}
use Rattle.loop_drafts.specs.declared.drafted.Piece.{Piece}
use Rattle.loop_drafts.specs.Numbered.{AreNumbers}
use Rattle.loop_drafts.specs.Pieces.{HasFirstLines, first_lines, printed, printed_piece}

pub pieces_more : {A : Type 0} (line : A → List ℕ) (text more : List ℕ) (items : List A) (k : ℕ) (x : A) → k < length items → x ≡ get_or items k x → more ≡ text ++ line x
    → text ≡ flat_map line (take k items) → more ≡ flat_map line (take (k + 1) items)
pieces_more {A = A} line text more items k x h is new old =
    new ∙ ap (λ (xs : List ℕ). xs ++ line x) old
    ∙ flat_map_more line [] (take k items) x
    ∙ ap (λ (y : A). flat_map line (take k items ++ y ∷ [])) is
    ∙ ap (λ (xs : List A). flat_map line xs) (sym (take_more items k x h))

pub numbers_more : (k n x : ℕ) (xs : List ℕ) → AreNumbers k n xs → x < n → AreNumbers (k + 1) n (xs ++ x ∷ [])
numbers_more k n x xs are low = record {
  size = let s = are.size in omega (arith, length-append {A = ℕ});
  within = λ j jl. grind (arith, common_steps, are.size, are.within j);
}

-- a piece before all others begins the file
pub first_begins : (most : Option ℕ) (returns : Bool) (trusted : ℕ) (first : Piece) (pieces : List Piece) → printed_piece first ≡ first_lines most returns trusted →
    HasFirstLines most returns trusted (printed (insert pieces 0 first))
first_begins most returns trusted first pieces e = (printed pieces, ap (λ (text : List ℕ). text ++ printed pieces) e)
