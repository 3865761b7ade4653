use Rattle.std.proofs.Common.{◌≡◌, ◌∙◌, true, false, sym, ap}
use Rattle.scale_base.specs.Image.{PF_R, PF_W}
use Rattle.flat_memory.specs.Blocks.{allows}
use Rattle.flat_memory.specs.declared.page.PageUse.TheVariants.{Readable, Writable}
use Rattle.flat_memory.proofs.OrderLaws.{same_block}
use Rattle.flat_memory.proofs.WholeLaws.{blocks_allow}
use Rattle.flat_memory.proofs.block_list.block_use.Goals as goal

pub returns-then-allows : goal.returns-then-allows
returns-then-allows c = λ at low high.
    let same = same_block c.args.blocks.now c.in-Some.k c.index-blocks-k.result c.index-blocks-k-else-not-allows.result c.in-Some.ensures.inside c.index-blocks-k.is c.index-blocks-k-else-not-allows.is in
    let r : allows PF_R c.index-blocks-k.result ≡ true = cc in
    let w : allows PF_W c.index-blocks-k-else-not-allows.result ≡ true = cc in
    blocks_allow c.args.blocks.now at c.in-Some.k c.index-blocks-k.result Writable c.requires (c.in-Some.ensures.has at low high) c.index-blocks-k.is
    (λ b e. let is : b ≡ true = cc in r ∙ sym is) (λ b e. let is : b ≡ true = cc in ap (allows PF_W) same ∙ (w ∙ sym is)) (λ b e. cc)

pub returns-else-allows : goal.returns-else-allows
returns-else-allows c = λ at low high.
    let same = same_block c.args.blocks.now c.in-Some.k c.index-blocks-k.result c.index-blocks-k-else-not-allows.result c.in-Some.ensures.inside c.index-blocks-k.is c.index-blocks-k-else-not-allows.is in
    let r : allows PF_R c.index-blocks-k.result ≡ true = cc in
    let w : allows PF_W c.index-blocks-k-else-not-allows.result ≡ false = cc in
    blocks_allow c.args.blocks.now at c.in-Some.k c.index-blocks-k.result Readable c.requires (c.in-Some.ensures.has at low high) c.index-blocks-k.is
    (λ b e. let is : b ≡ true = cc in r ∙ sym is) (λ b e. let is : b ≡ false = cc in ap (allows PF_W) same ∙ (w ∙ sym is)) (λ b e. cc)
