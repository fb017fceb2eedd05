-- One exchange with a device: a message is sent over a connection, and an answer is received; and why an exchange fails.
use Rattle.std.specs.Prelude.{◌≡◌, ◌⊎◌, List, ℕ, Option, length}
use Rattle.std.specs.Io.KnownBytes.{Appends, Consumes, IsAtEnd}
use Rattle.reg_crl_signer.specs.Announcement.{signature_in}

-- Why an exchange failed: a write failed; the sending side could not be shut down after the message; a read failed; or what came after that
-- filled the room for the answer, which has `size` octets.
pub data FailsToExchange {L : Type 0} (remaining contents : L → Option (List ℕ)) (finished : L → L → Type 0)
    (unfinished : L → Type 0) (write_failed read_failed : Type 0) (connection : L) (message : List ℕ) (size : ℕ)
    : Type 0 where
  not_sent : write_failed
      → FailsToExchange remaining contents finished unfinished write_failed read_failed connection message size
  not_shut : (sent : L) → Appends (contents connection) (contents sent) message → unfinished sent
      → FailsToExchange remaining contents finished unfinished write_failed read_failed connection message size
  not_read : read_failed
      → FailsToExchange remaining contents finished unfinished write_failed read_failed connection message size
  too_long : (sent shut left : L) (received : List ℕ) → Appends (contents connection) (contents sent) message
      → finished sent shut → Consumes (remaining shut) (remaining left) received → length received ≡ size
      → FailsToExchange remaining contents finished unfinished write_failed read_failed connection message size

module _ {L : Type 0} (remaining contents : L → Option (List ℕ)) (finished : L → L → Type 0) where
  -- The whole message was sent, the sending side was shut down, and octets were received up to the end. The answer is the signature in them.
  pub record ExchangesMessage (connection : L) (message answer : List ℕ) : Type 0 where
    pub sent : L
    pub shut : L
    pub left : L
    pub went : Appends (contents connection) (contents sent) message
    pub finishes : finished sent shut
    pub received : List ℕ
    pub came : Consumes (remaining shut) (remaining left) received
    pub ended : IsAtEnd (remaining left)
    pub answer_is : answer ≡ signature_in received

  -- the message and the answer were exchanged over a connection to the listener at the path
  abbrev pub ExchangesAtPath : (List ℕ → L → Type 0) → List ℕ → List ℕ → List ℕ → Type 0
  ExchangesAtPath connected path message answer =
      (connection : L) × connected path connection × ExchangesMessage connection message answer

  module _ (unfinished : L → Type 0) (write_failed read_failed : Type 0) where
    -- no connection to the path could be made, or the exchange over a connection to its listener failed
    abbrev pub FailsAtPath : (List ℕ → L → Type 0) → (List ℕ → Type 0) → List ℕ → List ℕ → ℕ → Type 0
    FailsAtPath connected unconnected path message size =
        unconnected path
        ⊎ ((connection : L) × connected path connection
        × FailsToExchange remaining contents finished unfinished write_failed read_failed connection message size)
