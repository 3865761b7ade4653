-- The lemmas of this crate that crates above may cite.
pub use Rattle.flow_graph.proofs.Beside.{Ascend, Once, ascending_once, ascending_rise, less_same_more, map_is, number_beside-get, once_head, once_tail, place_or_none, some_is, word_beside-get}
pub use Rattle.flow_graph.proofs.Causes.{cause_of_word, fine_cause, instr_stored, kind_of_word}
pub use Rattle.flow_graph.proofs.Entries.{entry_reached}
pub use Rattle.flow_graph.proofs.FewOnce.{any_within, few_once}
