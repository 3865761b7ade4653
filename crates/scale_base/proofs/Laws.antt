-- The lemmas of this crate that crates above may cite.
pub use Rattle.scale_base.proofs.Accepted.{accepted, contents-are, few_entries, has_table, kept-append, kept-split, long, nth_kept, parts_in_file}
pub use Rattle.scale_base.proofs.Accepted.{rule_kept, rules_kept, stop_first, stop_later, stopped, table_in_file, tables-kept}
pub use Rattle.scale_base.proofs.BitLaws.{or_apart, shifted_and_masked}
pub use Rattle.scale_base.proofs.BytesLaws.{list_at_more, list_at_none, list_at_pushed, with_list_done, with_list_rest}
pub use Rattle.scale_base.proofs.Fronts.{below_kept, parts_kept, rules_of, whole_kept}
pub use Rattle.scale_base.proofs.LayoutLaws.{each_byte_at, each_byte_false, each_byte_first, each_byte_more, each_byte_none}
pub use Rattle.scale_base.proofs.RunLaws.{going, outcome, run_exited, run_more, run_none, run_stays, run_step, run_trapped, run_went}
pub use Rattle.scale_base.proofs.WordLaws.{none_reads, word_back, word_read, word_reads, word_small}
pub use Rattle.scale_base.proofs.ZeroLaws.{step_zero}
