use Rattle.reg_store_tables.proofs.PublicLaws.{so}
use Rattle.reg_office_reads.proofs.pages.page_of.Goals as goal

pub returns-in-Revoked : goal.returns-in-Revoked
returns-in-Revoked g c = so c.revoked.ensures (λ records sound it. rw c.in-Revoked.is it)

pub returns-in-Certificates : goal.returns-in-Certificates
returns-in-Certificates g c = so c.certificates.ensures (λ records sound it. rw c.in-Certificates.is it)

pub returns-in-Ending : goal.returns-in-Ending
returns-in-Ending g c = so c.certificates-in-Ending.ensures (λ records sound it. rw c.in-Ending.is it)

pub returns-in-OpenRequests : goal.returns-in-OpenRequests
returns-in-OpenRequests g c = so c.page_by_ids.ensures (λ records sound it. rw c.in-OpenRequests.is it)

pub returns-in-Overdue : goal.returns-in-Overdue
returns-in-Overdue g c = so c.page_by_ids-in-Overdue.ensures (λ records sound it. rw c.in-Overdue.is it)

pub returns-in-Requests : goal.returns-in-Requests
returns-in-Requests g c = so c.page_by_ids-in-Requests.ensures (λ records sound it. rw c.in-Requests.is it)

pub returns-in-Subscribers : goal.returns-in-Subscribers
returns-in-Subscribers g c = so c.page_by_ids-in-Subscribers.ensures (λ records sound it. rw c.in-Subscribers.is it)

pub returns-in-Orders : goal.returns-in-Orders
returns-in-Orders g c = so c.page_by_ids-in-Orders.ensures (λ records sound it. rw c.in-Orders.is it)

pub returns-in-Crls : goal.returns-in-Crls
returns-in-Crls g c = so c.crls.ensures (λ records sound it. rw c.in-Crls.is (it c.args.now))
