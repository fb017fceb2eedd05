-- Laws of texts and of the octets of serial numbers.
use Rattle.std.proofs.Common.{◌≡◌, ℕ, Bool, true, false, cond, List, refl, subst, arith}
use Rattle.std.specs.Prelude.{Some, None}
use Rattle.std.specs.Str.Parse.{digits_value}
use Rattle.reg_core.specs.Laws.{NumbersAreRead, SerialsAreRead, SerialsInOrder, OneSerial}
use Rattle.reg_core.specs.Number.{IsNumberText, is_number_text, number_of}
use Rattle.reg_core.specs.Serial.{IsSerialText, is_serial_text, serial_of}
use Rattle.reg_core.proofs.Numbers.{number_of-some, test-number_text}
use Rattle.reg_core.proofs.Serials.{serial_of-some, test-serial_text, serial_bytes_injective, serial_bytes-order}

number_of-is : (text : List ℕ) (n : ℕ) → number_of text ≡ Some n → IsNumberText text n
unfolding number_of
number_of-is text n e = by (is_number_text text) refl e
  where
    by : (b : Bool) → is_number_text text ≡ b → cond b (Some (digits_value 10 text)) None ≡ Some n → IsNumberText text n
    by true is e = let same : digits_value 10 text ≡ n = cc in subst (IsNumberText text) same (test-number_text text is)
    by false is e = cc e

serial_of-is : (text : List ℕ) (n : ℕ) → serial_of text ≡ Some n → IsSerialText text n
unfolding serial_of
serial_of-is text n e = by (is_serial_text text) refl e
  where
    by : (b : Bool) → is_serial_text text ≡ b → cond b (Some (digits_value 16 text)) None ≡ Some n → IsSerialText text n
    by true is e = let same : digits_value 16 text ≡ n = cc in subst (IsSerialText text) same (test-serial_text text is)
    by false is e = cc e

pub numbers_are_read : NumbersAreRead
numbers_are_read text number = (number_of-is text number, number_of-some text number)

pub serials_are_read : SerialsAreRead
serials_are_read text serial = (serial_of-is text serial, serial_of-some text serial)

pub serials_in_order : SerialsInOrder
serials_in_order m n is_m is_n = serial_bytes-order m n (let below = is_m.1 in omega arith) (let below = is_n.1 in omega arith)

pub one_serial : OneSerial
one_serial m n is_m is_n same = serial_bytes_injective m n (let below = is_m.1 in omega arith) (let below = is_n.1 in omega arith) same
