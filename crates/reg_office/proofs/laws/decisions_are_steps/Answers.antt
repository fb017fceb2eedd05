-- Each decision is a step, whoever signs.
use Rattle.reg_crl.specs.Signing.{signed_by}
use Rattle.reg_office_reads.proofs.PublicLaws.{subscribers, orders, registrations, requests, declines, revocations, crls}
use Rattle.reg_office.proofs.laws.decisions_are_steps.Goals as goal

pub returns-clause-subscribers : goal.returns-clause-subscribers
returns-clause-subscribers g c signer = subscribers (signed_by g.S.Signer.signs (g.S.Signer.identity signer))

pub returns-clause-orders : goal.returns-clause-orders
returns-clause-orders g c signer = orders (signed_by g.S.Signer.signs (g.S.Signer.identity signer))

pub returns-clause-registrations : goal.returns-clause-registrations
returns-clause-registrations g c signer = registrations (signed_by g.S.Signer.signs (g.S.Signer.identity signer))

pub returns-clause-requests : goal.returns-clause-requests
returns-clause-requests g c signer = requests (signed_by g.S.Signer.signs (g.S.Signer.identity signer))

pub returns-clause-declines : goal.returns-clause-declines
returns-clause-declines g c signer = declines (signed_by g.S.Signer.signs (g.S.Signer.identity signer))

pub returns-clause-revocations : goal.returns-clause-revocations
returns-clause-revocations g c signer = revocations (signed_by g.S.Signer.signs (g.S.Signer.identity signer))

pub returns-clause-crls : goal.returns-clause-crls
returns-clause-crls g c signer = crls (signed_by g.S.Signer.signs (g.S.Signer.identity signer))
