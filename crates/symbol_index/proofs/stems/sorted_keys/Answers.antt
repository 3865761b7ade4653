use Rattle.std.proofs.Common.{rules, nat_lt, ◌∙◌, ap}
use Rattle.std.proofs.lemmas.List.MinMax.{IsStrictWeakOrder-by_number}
use Rattle.std.proofs.lemmas.List.Sorted.{answers_always, IsNonDecreasingBy-from_sort_by}
use Rattle.std.specs.Cmp.{IsStrictWeakOrder}
use Rattle.std.specs.List.{filter}
use Rattle.symbol_index.specs.declared.stems.SymbolKey.{SymbolKey}
use Rattle.symbol_index.specs.Stems.{has_stem}
use Rattle.symbol_index.proofs.StemLaws.{same_from_stable}
use Rattle.symbol_index.proofs.stems.sorted_keys.Goals as goal

pub returns : goal.returns
returns c =
    let order : IsStrictWeakOrder (λ (x y : SymbolKey). nat_lt x.stem y.stem) = IsStrictWeakOrder-by_number (λ (key : SymbolKey). key.stem) in
    let stable = c.sort_by.ensures.stable (λ x y. nat_lt x.stem y.stem) order (answers_always _ _ _ (λ f a r g h. search rules)) in
    record {
      rise = IsNonDecreasingBy-from_sort_by (λ key. key.stem) _ c.in_ok-sort_by.ensures.sorted (λ a r q k. search rules);
      same = λ stem. same_from_stable _ _ stable stem ∙ ap (filter (has_stem stem)) c.in_ok-keys.ensures;
    }
