use Rattle.versioned_images.proofs.Fit.{sites_near}
use Rattle.versioned_images.proofs.making.file_at.Goals as goal

pub site_patches-requires : goal.site_patches-requires
site_patches-requires c = sites_near c.args.view.now c.args.pieces.now c.args.sites.now c.args.base c.requires.fit
