-- What the records that a register writes have.
use Rattle.std.proofs.Common.{◌≤◌, ◌<◌, length, arith}
use Rattle.std.specs.List.{AllByRecursion}
use Rattle.reg_core.specs.Calendar.{clock_end}
use Rattle.reg_core.specs.Policy.{IsPolicy}
use Rattle.reg_core.specs.Records.{Records, Crl}
use Rattle.reg_core.specs.Sound.{SoundRows, SoundRevocation}
use Rattle.reg_core.specs.declared.rows.RequestRow.{RequestRow}
use Rattle.reg_core.specs.declared.rows.RevocationRow.{RevocationRow}
use Rattle.reg_core_laws.proofs.PublicLaws.{revocations_within, all_join, all_weaker}
use Rattle.reg_store_tables.specs.Tables.{rows_of}
use Rattle.reg_store_tables.specs.RecordValues.{AreMomentAndReason, HasValues}
use Rattle.reg_store_tables.specs.declared.sizes.Table.{Table}
use Rattle.reg_store_tables.specs.declared.sizes.Table.TheVariants.{Subscribers, Orders, Certs, Requests, Crls}

module _ (records : Records) (sound : SoundRows records) where
  -- each revocation's moment is one that the clock lets pass
  pub revoked_early : AllByRecursion (λ row. row.at < clock_end) records.revocations
  revoked_early =
      all_weaker (SoundRevocation records.last records.certificates records.requests records.crls) (λ (row : RevocationRow). row.at < clock_end)
      (λ row holds. let by = holds.at_by_last in let end = sound.before_clock_end in omega arith) records.revocations sound.revocations.each

  -- and each request's
  pub received_early : AllByRecursion (λ row. row.received < clock_end) records.requests
  received_early =
      all_weaker (λ (row : RequestRow). row.received ≤ records.last) (λ (row : RequestRow). row.received < clock_end) (λ row by. let end = sound.before_clock_end in omega arith) records.requests sound.requests.received_by_last

  -- and each CRL's
  pub updated_early : AllByRecursion (λ crl. crl.this_update < clock_end) records.crls
  updated_early =
      all_weaker (λ (crl : Crl). crl.this_update ≤ records.last) (λ (crl : Crl). crl.this_update < clock_end) (λ crl by. let end = sound.before_clock_end in omega arith) records.crls sound.crls.updates_by_last

  -- each revocation has a moment and a reasonCode
  pub revocations_have : HasValues records → AllByRecursion (λ row. AreMomentAndReason row.at row.reason) records.revocations
  revocations_have values =
      all_join (λ (row : RevocationRow). row.at < clock_end) (λ (row : RevocationRow). row.reason < 256) (λ (row : RevocationRow). AreMomentAndReason row.at row.reason) (λ row at reason. (at, reason)) records.revocations revoked_early values.reasons

  -- no table has more rows than the cap
  pub rows_within : (table : Table) → rows_of records table ≤ records.policy.cap
  rows_within Subscribers = sound.subscribers.within_cap
  rows_within Orders = sound.orders.within_cap
  rows_within Certs = sound.certificates.within_cap
  rows_within Requests = sound.requests.within_cap
  rows_within Crls = sound.crls.within_cap

  -- and so many rows SQL has numbers for
  pub rows_few : IsPolicy records.policy → (table : Table) → rows_of records table ≤ 1000000
  rows_few policy table = let within = rows_within table in let cap = policy.cap.1 in omega arith

  pub revocations_few : IsPolicy records.policy → length records.revocations ≤ 1000000
  revocations_few policy =
      let requests = revocations_within records sound in
      let within = sound.requests.within_cap in
      let cap = policy.cap.1 in
      omega arith
