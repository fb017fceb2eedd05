use Rattle.std.proofs.Common.{inl, inr, refl, string_bytes}
use Rattle.std.proofs.lemmas.Result.{IfOk-weaker, on_err_weaker}
use Rattle.reg_crl_signer.proofs.exchange.SocketDeviceDevice.exchange.Goals as goal

pub returns-in-Ok : goal.returns-in-Ok
returns-in-Ok g c =
    let connected = rw c.as_str.ensures.value at c.in-Ok.ensures.ok in
    record {
      answered = IfOk-weaker c.exchange_message.result _ _ (λ count came. inl (string_bytes c.args.self.now.path, (c.in-Ok.connection, connected, came)))
          c.exchange_message.ensures.answered;
      asked_there = IfOk-weaker c.exchange_message.result _ _ (λ count came. (c.in-Ok.connection, connected, came)) c.exchange_message.ensures.answered;
      short = c.exchange_message.ensures.short;
      failed = on_err_weaker c.exchange_message.result (λ failed. inr (c.in-Ok.connection, connected, failed)) c.exchange_message.ensures.failed;
      same_path = refl;
      same_key = refl;
    }
