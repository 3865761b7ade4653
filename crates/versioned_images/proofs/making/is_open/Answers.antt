use Rattle.scale_base.proofs.Laws.{has_table}
use Rattle.versioned_images.proofs.making.is_open.Goals as goal

pub is_full-requires : goal.is_full-requires
is_full-requires c = rw c.file-file.ensures.bytes (has_table _ _ c.file-file.ensures.image).long
