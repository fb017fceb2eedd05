-- The lemmas for proofs of crates above: they cite these alone.
pub use Rattle.reg_office_reads.proofs.Beginning.{draft_replied, replied, signed_malformed}
pub use Rattle.reg_office_reads.proofs.Composing.{answer_of_fault, of_failure, passed_on}
pub use Rattle.reg_office_reads.proofs.Deciding.{crls, declines, orders, registrations, requests, revocations, subscribers, unsigned}
pub use Rattle.reg_office_reads.proofs.Looking.{decided_against, decided_for, lent, not_decided}
pub use Rattle.reg_office_reads.proofs.Paging.{paged}
pub use Rattle.reg_office_reads.proofs.QueryLemmas.{is_answered}
