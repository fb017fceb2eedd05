use Rattle.reg_desk_server.proofs.Holdings.{sends_last}
use Rattle.reg_desk_server.proofs.http_connection.HttpConnection.send_on.Goals as goal

pub returns-in-None : goal.returns-in-None
returns-in-None g c =
    sends_last g.S.Write.contents c.args.self.now c.send.new.self c.finish.new.self c.in-None.ensures.sends c.in-None.ensures.all c.finish.ensures.stream c.finish.ensures.drains
