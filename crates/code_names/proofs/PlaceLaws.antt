-- A place behind a symbol.
use Rattle.std.proofs.Common.{◌≡◌, ℕ, ◌-◌, ◌≤◌, ◌↔◌, Bool, true, nat_eq, List, Option, Some, is_some, sym, ap, ◌∙◌, subst, arith, eqb-true, eq-eqb}
use Rattle.std.proofs.lemmas.Option.{same_Some}
use Rattle.scale_base.specs.Symbols.{symbol_value}
use Rattle.code_names.specs.Places.{IsNamedPlace}

pub place_is : (file name : List ℕ) (at start offset first : ℕ) (b : Bool) → start ≤ at → offset ≡ at - start → symbol_value file name ≡ Some first → b ≡ nat_eq first start → IsNamedPlace file at name offset b
place_is file name at start offset first b low offset_is found same =
    let back : at - offset ≡ start = omega arith in
    record {
      below = omega arith;
      there = ap is_some found;
      first = (
        λ h. found ∙ ap Some (eqb-true first start (sym same ∙ h) ∙ sym back),
        λ h. same ∙ eq-eqb first start (same_Some first start (sym found ∙ h ∙ ap Some back)),
      );
    }
