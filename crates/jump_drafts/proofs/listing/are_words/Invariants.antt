use Rattle.std.proofs.Common.{◌≡◌, drop}
use Rattle.std.specs.List.{list_all}
use Rattle.scale_base.specs.Image.{is_word_address}
use Rattle.jump_drafts.proofs.listing.are_words.Given as goal

abbrev pub invariant-loop-target : goal.invariant-loop-target
invariant-loop-target l = list_all (is_word_address l.view) (drop l.target-index l.targets) ≡ list_all (is_word_address l.view) l.targets
