use Rattle.std.proofs.Common.{rules, ◌≡◌, ◌+◌, ◌*◌, ◌++◌, ◌∙◌, [], ◌∷◌, arith, ap}
use Rattle.std.specs.Prelude.{slice_index}
use Rattle.std.proofs.lemmas.List.FromFn.{map-range_with_len_more, get_or-map-range_with_len}
use Rattle.flat_memory.specs.Lists.{list_bytes}
use Rattle.flat_memory.proofs.page_loading.load_page.Goals as goal

pub loop-k-preserved : goal.loop-k-preserved
loop-k-preserved c =
    let items : c.push.new.self.items ≡ c.loop-k.bytes.items ++ c.byte.result ∷ [] = search rules in
    let more = map-range_with_len_more (λ j. list_bytes c.args.list.now (c.args.number * 4096 + j)) 0 c.loop-k.k c.loop-k.k (omega arith) in
    record { items = cc (items, more, c.loop-k.invariant.items, c.byte.ensures); len = search rules }

pub returns : goal.returns
returns c = record {
  bytes = λ k lt.
      ap (λ xs. slice_index xs k) c.loop-k.invariant.items
      ∙ get_or-map-range_with_len (λ j. list_bytes c.args.list.now (c.args.number * 4096 + j)) 0 c.loop-k.k k k 0 (omega arith) (omega arith);
  whole = c.whole_use-whole.ensures;
}
