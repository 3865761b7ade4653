use Rattle.std.proofs.Common.{◌∙◌}
use Rattle.scale_base.specs.Image.{loaded_headers}
use Rattle.flat_memory.proofs.PlacedLaws.{headers_of}
use Rattle.flat_memory.proofs.LoadLaws.{loaded_memory, loaded_layout, loaded_order, text_order}
use Rattle.flat_memory.proofs.loading.load_list.Goals as goal

pub invariant_of-result : goal.invariant_of-result
invariant_of-result c = record {
  stack_len = c.in_ok-stack.ensures.len;
  ordered = loaded_order c.args.view.now (loaded_headers c.args.view.now.file) c.in_ok-blocks.blocks.items (headers_of c.args.view.now.file c.args.view.now c.text.ensures.image) c.in_ok-blocks.ensures;
  ordered_text = rw (c.in_ok-text.ensures.items, c.text.ensures.ranges) (text_order 0 c.args.view.now.text c.text.ensures.ascending);
}

pub returns-clause-bytes : goal.returns-clause-bytes
returns-clause-bytes c =
    loaded_memory c.args.view.now (loaded_headers c.args.view.now.file) 0x40000 c.in_ok-stack.stack.items c.in_ok-blocks.blocks.items
    (headers_of c.args.view.now.file c.args.view.now c.text.ensures.image) c.in_ok-stack.ensures.items c.in_ok-blocks.ensures

pub returns-clause-layout : goal.returns-clause-layout
returns-clause-layout c =
    loaded_layout c.args.view.now c.in_ok-blocks.blocks.items c.in_ok-text.text.items c.keyed_range-keyed.result c.in_ok-blocks.ensures (c.in_ok-text.ensures.items ∙ c.text.ensures.ranges) c.keyed_range-keyed.ensures
