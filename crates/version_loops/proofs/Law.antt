-- The law of loop files of versions.
use Rattle.loop_file.specs.Kept.{noted_loops}
use Rattle.copy_bounds.proofs.Laws.{versioned_exits_are_kept}
use Rattle.version_loops.specs.VersionFile.{VersionFilesAreKept}

pub files_are_kept : VersionFilesAreKept
files_are_kept plain loops file version is levels input n status small kept exited =
    versioned_exits_are_kept is.image is.versioned version.pieces.items version.sites.items version.base levels input is.code (noted_loops is.olds) (noted_loops is.notes) n status is.is_versioned small
    (is.covered levels input small) kept exited
