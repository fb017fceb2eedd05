-- The line of each refusal and each fault, without its LF.
use Rattle.std.specs.Prelude.{ℕ, List, ◌++◌, codes, decimal}
use Rattle.reg_core.specs.Calendar.{moment_text}
use Rattle.reg_core.specs.declared.refusal.Refusal.{Refusal}
use Rattle.reg_core.specs.declared.refusal.Refusal.TheVariants.{ClockBack, ClockEnd, Full, BadName, NameTaken, NoSubscriber, BadDays, NoOrder, OrderFilled, SerialTaken, BadValidity, TooLong, Ended, UnknownSerial, NoHold, BadGround, NoRequest, DeclinedBefore, RevokedBefore, Expired as ExpiredBefore, NoCrl, Syntax}
use Rattle.reg_core.specs.declared.refusal.Fault.{Fault}
use Rattle.reg_core.specs.declared.refusal.Fault.TheVariants.{Refused, Memory, Store, Signer, Read, Write}

-- the line of a refusal
unfoldable pub refusal_line : Refusal → List ℕ
refusal_line (ClockBack last) = codes "E01 clock-back " ++ moment_text last
refusal_line ClockEnd = codes "E02 clock-end"
refusal_line Full = codes "E03 full"
refusal_line BadName = codes "E04 bad-name"
refusal_line (NameTaken id) = codes "E05 name-taken " ++ decimal id
refusal_line NoSubscriber = codes "E06 no-subscriber"
refusal_line (BadDays most) = codes "E07 bad-days " ++ decimal most
refusal_line NoOrder = codes "E08 no-order"
refusal_line OrderFilled = codes "E09 order-filled"
refusal_line SerialTaken = codes "E10 serial-taken"
refusal_line BadValidity = codes "E11 bad-validity"
refusal_line TooLong = codes "E12 too-long"
refusal_line Ended = codes "E13 ended"
refusal_line UnknownSerial = codes "E14 unknown-serial"
refusal_line NoHold = codes "E15 no-hold"
refusal_line BadGround = codes "E16 bad-ground"
refusal_line NoRequest = codes "E17 no-request"
refusal_line DeclinedBefore = codes "E18 declined-before"
refusal_line (RevokedBefore at) = codes "E19 revoked-before " ++ moment_text at
refusal_line ExpiredBefore = codes "E20 expired"
refusal_line NoCrl = codes "E21 no-crl"
refusal_line Syntax = codes "E22 syntax"

-- the line of a fault; that of the refusal if the fault is a refusal
unfoldable pub fault_line : Fault → List ℕ
fault_line (Refused refusal) = refusal_line refusal
fault_line Memory = codes "F1 memory"
fault_line Store = codes "F2 store"
fault_line Signer = codes "F3 signer"
fault_line Read = codes "F4 read"
fault_line Write = codes "F5 write"
