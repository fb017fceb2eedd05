-- The text of a moment: no two moments have the same one, and each of its bytes is an `IsTextByte`.
use Rattle.std.proofs.Common.{◌≡◌, ℕ, ◌+◌, ◌/◌, ◌%◌, ◌<◌, ◌≤◌, List, [], ◌∷◌, get_or, Option, Some, None, ap, arith}
use Rattle.std.specs.Prelude.{MatchOption}
use Rattle.std.specs.List.{All}
use Rattle.std.proofs.lemmas.List.Elements.{All-cons}
use Rattle.reg_core.specs.declared.calendar.Civil.{Civil}
use Rattle.reg_core.specs.Calendar.{IsMoment, IsCivil, IsTextByte, HasDigits, civil_of, date_time, moment_text}
use Rattle.reg_core.proofs.Dates.{same_parts, shown_injective}

pub digits_of : (c : Civil) → IsCivil c → HasDigits c
digits_of c h = record { year = omega arith; month = omega arith; day = omega arith; hour = omega arith; minute = omega arith; second = omega arith }

place : (k : ℕ) (xs ys : List ℕ) → xs ≡ ys → get_or xs k 0 ≡ get_or ys k 0
place k xs ys e = ap (λ (l : List ℕ). get_or l k 0) e

pair : (m n : ℕ) → 48 + m / 10 ≡ 48 + n / 10 → 48 + m % 10 ≡ 48 + n % 10 → m ≡ n
pair m n tens ones = omega arith

-- a text spells one date and time alone
pub date_time_injective : (a b : Civil) → date_time a ≡ date_time b → a ≡ b
unfolding date_time
date_time_injective a b e =
    let at = λ (k : ℕ). place k (date_time a) (date_time b) e in
    let century : a.year / 100 ≡ b.year / 100 = pair _ _ (at 0) (at 1) in
    let year : a.year % 100 ≡ b.year % 100 = pair _ _ (at 2) (at 3) in
    same_parts a.year a.month a.day a.hour a.minute a.second b.year b.month b.day b.hour b.minute b.second
    (omega arith) (pair _ _ (at 5) (at 6)) (pair _ _ (at 8) (at 9)) (pair _ _ (at 11) (at 12)) (pair _ _ (at 14) (at 15)) (pair _ _ (at 17) (at 18))

-- and one moment alone
pub moment_text_injective : (a b : ℕ) → IsMoment a → IsMoment b → moment_text a ≡ moment_text b → a ≡ b
unfolding moment_text
moment_text_injective a b ha hb e = shown_injective a b ha hb (date_time_injective (civil_of a) (civil_of b) e)

-- what `Moment::of_secs` gives for a moment
pub given : (r : Option ℕ) (s : ℕ) → IsMoment s → MatchOption r (253402300800 ≤ s) (λ m. (m ≡ s) × IsMoment s) → r ≡ Some s
given (Some m) s h e = ap Some e.0
given None s h e = absurd (omega arith)

digit : (n : ℕ) → n < 100 → IsTextByte (48 + n / 10) × IsTextByte (48 + n % 10)
digit n h = (omega arith, omega arith)

-- each byte of a list that is written out
abbrev Each : List ℕ → Type 0
Each [] = Unit {0}
Each (x ∷ xs) = IsTextByte x × Each xs

all_of : (xs : List ℕ) → Each xs → All IsTextByte xs
all_of [] h = λ i d below. absurd (omega arith)
all_of (x ∷ xs) h = All-cons IsTextByte x xs h.0 (all_of xs h.1)

plain : (c : Civil) → HasDigits c → All IsTextByte (date_time c)
unfolding date_time
plain c h =
    let x = digit (c.year / 100) (omega arith) in
    let y = digit (c.year % 100) (omega arith) in
    let m = digit c.month h.month in
    let d = digit c.day h.day in
    let k = digit c.hour h.hour in
    let n = digit c.minute h.minute in
    let s = digit c.second h.second in
    let dash : IsTextByte 45 = omega arith in
    let tee : IsTextByte 84 = omega arith in
    let colon : IsTextByte 58 = omega arith in
    let zed : IsTextByte 90 = omega arith in
    all_of (date_time c) (x.0, (x.1, (y.0, (y.1, (dash, (m.0, (m.1, (dash, (d.0, (d.1, (tee, (k.0, (k.1, (colon, (n.0, (n.1, (colon, (s.0, (s.1, (zed, tt))))))))))))))))))))
