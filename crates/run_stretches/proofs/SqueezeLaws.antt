-- Bars that are put anew.
use Rattle.std.proofs.Common.{◌≡◌, ℕ, ◌+◌, ◌<◌, List, ◌++◌, length, get_or, take, Option, sym, ap, ◌∙◌}
use Rattle.std.specs.Prelude.{option_to_list}
use Rattle.std.specs.List.{fold}
use Rattle.std.proofs.lemmas.List.Sums.{fold-append, fold_more}
use Rattle.run_stretches.specs.declared.bars.BarEnd.{BarEnd}
use Rattle.run_stretches.specs.Recorded.{BarList, no_bars, all_bars, put, squeezed}

pub put_more : (first now new : BarList) (ends : List BarEnd) (k : ℕ) (d : BarEnd) → k < length ends → new ≡ put now (get_or ends k d) → now ≡ fold put first (take k ends) → new ≡ fold put first (take (k + 1) ends)
put_more first now new ends k d lt is far = is ∙ ap (λ b. put b (get_or ends k d)) far ∙ sym (fold_more put first ends k d lt)

pub squeezed_by : (b : BarList) (grain : ℕ) (done : List BarEnd) (last : Option BarEnd) (x y z : BarList) → done ≡ b.done → last ≡ b.last → x ≡ no_bars grain → y ≡ fold put x done
    → z ≡ fold put y (option_to_list last) → z ≡ squeezed b grain
unfolding squeezed
squeezed_by b grain done last x y z done_is last_is empty first second =
    second
    ∙ ap (λ c. fold put c (option_to_list last)) (first ∙ ap (λ c. fold put c done) empty)
    ∙ sym (fold-append put (no_bars grain) done (option_to_list last))
    ∙ ap (λ (l : List BarEnd). fold put (no_bars grain) (l ++ option_to_list last)) done_is
    ∙ ap (λ (o : Option BarEnd). fold put (no_bars grain) (b.done ++ option_to_list o)) last_is
