-- The steps of the original's run and those of the versioned image's, side by side.
use Rattle.std.proofs.Common.{◌≡◌, ℕ, ◌+◌, Bool, true, false, List, [], ◌∷◌, ◌++◌, refl, sym, ap, subst, Some, None, append-nil, append_assoc}
use Rattle.std.specs.Prelude.{All}
use Rattle.std.proofs.lemmas.List.Elements.{All-head, All-tail}
use Rattle.scale_base.specs.declared.stepping.Move.TheVariants.{Local, Call, Return}
use Rattle.scale_base.specs.declared.stepping.Stepped.{Stepped}
use Rattle.scale_base.specs.Image.{Image}
use Rattle.scale_base.specs.Run.{Run, Standing, GoesOn, HasExited, HasTrapped}
use Rattle.loop_versions.specs.declared.pieces.Piece.{Piece}
use Rattle.loop_versions.specs.declared.pieces.Piece.TheVariants.{Copied, Branched, Jumped, Bridge, Guard, Entered, Returned}
use Rattle.loop_versions.specs.declared.pieces.Site.{Site}
use Rattle.loop_versions.specs.Pieces.{origin_of, piece_at, site_at}
use Rattle.loop_versions.specs.Fitting.{origin}
use Rattle.loop_versions.specs.Follows.{in_block, is_extra_step}

-- a piece whose one instruction is neither a call nor a return of the original
abbrev pub is_local : Piece → Bool
is_local (Copied at) = true
is_local (Branched at to) = true
is_local (Jumped at to) = true
is_local (Bridge at to) = false
is_local (Guard at larger smaller limit to) = false
is_local (Entered at to end) = false
is_local (Returned at to) = false

-- a list without its last element
abbrev pub all_but_last : List Stepped → List Stepped
all_but_last [] = []
all_but_last (x ∷ []) = []
all_but_last (x ∷ y ∷ ys) = x ∷ all_but_last (y ∷ ys)

pub but_last : (xs : List Stepped) (x : Stepped) → all_but_last (xs ++ x ∷ []) ≡ xs
but_last [] x = refl
but_last (y ∷ []) x = refl
but_last (y ∷ z ∷ zs) x = ap (λ (ws : List Stepped). y ∷ ws) (but_last (z ∷ zs) x)

abbrev pub gone_by : Standing → List Stepped → List Stepped
gone_by GoesOn xs = xs
gone_by (HasExited status) xs = all_but_last xs
gone_by (HasTrapped trap) xs = xs

-- the steps of a run that go on: all but that which exits
abbrev pub gone : Run → List Stepped
gone r = gone_by r.standing r.steps

module _ (image versioned : Image) (pieces : List Piece) (sites : List Site) (base : ℕ) where
  -- a step of each run that belong together: the same in the text, and else one in a copy
  pub data IsPair (x y : Stepped) : Type 0 where
    as_it_was : y ≡ x → in_block image versioned pieces sites base x.pc ≡ false → site_at sites x.pc ≡ None → IsPair x y
    in_copy : (p : Piece) → piece_at base pieces y.pc ≡ Some p → is_local p ≡ true → x.pc ≡ origin_of p → x.moved ≡ Local → y.moved ≡ Local → IsPair x y
    at_call : (v at to end : ℕ) → piece_at base pieces v ≡ Some (Entered at to end) → y.pc ≡ v + 8 → x.pc ≡ at → x.moved ≡ Call → y.moved ≡ Local → IsPair x y
    at_return : (at to : ℕ) → piece_at base pieces y.pc ≡ Some (Returned at to) → x.pc ≡ at → x.moved ≡ Return → y.moved ≡ Local → IsPair x y

  -- some more of the versioned image, and one for each of the original
  pub data ArePaired : (xs ys : List Stepped) → Type 0 where
    none : ArePaired [] []
    passed : {xs ys : List Stepped} (y : Stepped) → ArePaired xs ys → is_extra_step image versioned pieces sites base y ≡ true → ArePaired xs (ys ++ y ∷ [])
    both : {xs ys : List Stepped} (x y : Stepped) → ArePaired xs ys → is_extra_step image versioned pieces sites base y ≡ false → IsPair x y →
        in_block image versioned pieces sites base x.next ≡ false → origin pieces base y.next ≡ x.next → ArePaired (xs ++ x ∷ []) (ys ++ y ∷ [])

  pub all_passed : (xs ys es : List Stepped) → ArePaired xs ys → All (λ x. is_extra_step image versioned pieces sites base x ≡ true) es → ArePaired xs (ys ++ es)
  all_passed xs ys [] paired extra = subst (λ zs. ArePaired xs zs) (sym (append-nil ys)) paired
  all_passed xs ys (e ∷ es) paired extra =
      let one = passed e paired (All-head (λ x. is_extra_step image versioned pieces sites base x ≡ true) e es extra) in
      let rest = all_passed xs (ys ++ e ∷ []) es one (All-tail (λ x. is_extra_step image versioned pieces sites base x ≡ true) e es extra) in
      subst (λ zs. ArePaired xs zs) (append_assoc ys (e ∷ []) es) rest
