-- The lemmas that proofs of other crates cite.
pub use Rattle.reg_core_laws.proofs.Accepted.{accepted_clock, accepted_register, accepted_revoke}
pub use Rattle.reg_core_laws.proofs.Contents.{Grows, next_is}
pub use Rattle.reg_core_laws.proofs.CountFacts.{equal_numbers, find_here, find_on, one_has, one_if, other_numbers, same_length, same_number, sum_of_two}
pub use Rattle.reg_core_laws.proofs.Decided.{Accepts, AcceptsRegistration, AcceptsRevocation, CrlSays, DeclineSays, RevokeSays, crl_decided, decline_decided, head_from, order_decided, register_decided, request_decided, revoke_decided, says, step_accepted, step_refused, subscriber_decided}
pub use Rattle.reg_core_laws.proofs.Entries.{entries_ascending, entries_length}
pub use Rattle.reg_core_laws.proofs.Imported.{imports_twice}
pub use Rattle.reg_core_laws.proofs.Kept.{revocations_within}
pub use Rattle.reg_core_laws.proofs.KeptReached.{reached_sound}
pub use Rattle.reg_core_laws.proofs.ListFacts.{any_unfound, keys_map, numbered_back}
pub use Rattle.reg_core_laws.proofs.Listed.{due_entries, past_end_is, revoked_for_good}
pub use Rattle.reg_core_laws.proofs.Listings.{first_by_next, last_added, last_kept, last_new, last_stays}
pub use Rattle.reg_core_laws.proofs.Lists.{all_any, all_append, all_back, all_found, all_join, all_map, all_push, all_weaker, each_found, falls_push, find_back, find_front, find_none, find_passes, find_past, key_found, key_new, keys_kept, keys_push, none_any, none_passes, numbered_above, numbered_below, numbered_map, numbered_push, some_and_here, some_and_of, some_at, some_here, some_of, some_weaker}
pub use Rattle.reg_core_laws.proofs.Outcomes.{Changes, Outcome, Stays, outcome_of}
pub use Rattle.reg_core_laws.proofs.Runs.{created_sound, schedule_keeps_sound, step_grows, step_keeps_sound}
