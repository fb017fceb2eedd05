use Rattle.reg_office_reads.proofs.commands.decide.Goals as goal

pub returns-in-Subscriber : goal.returns-in-Subscriber
returns-in-Subscriber g c = rw c.in-Subscriber.is c.enter_subscriber.ensures

pub returns-in-Order : goal.returns-in-Order
returns-in-Order g c = rw c.in-Order.is c.enter_order.ensures

pub returns-in-Register : goal.returns-in-Register
returns-in-Register g c = rw c.in-Register.is c.register.ensures

pub returns-in-Request : goal.returns-in-Request
returns-in-Request g c = rw c.in-Request.is c.enter_request.ensures

pub returns-in-Decline : goal.returns-in-Decline
returns-in-Decline g c = rw c.in-Decline.is c.decline.ensures

pub returns-in-Revoke : goal.returns-in-Revoke
returns-in-Revoke g c = rw c.in-Revoke.is c.revoke.ensures
