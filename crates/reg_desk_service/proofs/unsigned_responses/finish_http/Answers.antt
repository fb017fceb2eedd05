use Rattle.std.proofs.Common.{ℕ, Global, Vec, refl}
use Rattle.std.specs.Prelude.{option_map}
use Rattle.reg_desk_service.proofs.unsigned_responses.finish_http.Goals as goal

pub returns : goal.returns
returns g c = (
  record {
    signature = option_map (λ (it : Vec ℕ Global). it.items) c.signature_of-signature.result;
    signed = c.signature_of-signature.ensures.signed;
    exchange = c.finish-exchange.result;
    finished = c.finish-exchange.ensures.finished;
    text_is = refl;
  },
  c.finish-exchange.ensures.route,
  (c.saturating_sub-micros.result, c.count_exchange.ensures),
)
