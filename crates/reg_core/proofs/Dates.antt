-- The walk by months reaches the date that jiff's calendar has at that distance, and only that date shows a moment.
use Rattle.std.proofs.Common.{◌≡◌, inl, inr, ℕ, zero, suc, ◌+◌, ◌-◌, ◌*◌, ◌/◌, ◌%◌, ◌<◌, ◌≤◌, refl, sym, ◌∙◌, arith, subst, ℤ, pos}
use Rattle.std.proofs.lemmas.Bool.{cases_lt, lt-ltb, le-ltb}
use Rattle.jiff_core.specs.Calendar.{day_count, days_from_civil, IsCivilDate}
use Rattle.jiff_core.specs.Date.{epoch_day}
use Rattle.jiff_core.specs.declared.civil.date.Date.{Date}
use Rattle.jiff_core.proofs.CalendarLemmas.{days_from_civil-day_count, day_count-epoch, day_count-next_month, day_count-next_year, day_count-last_of_year, day_count-later_year, day_count-day, day_count-day_of_year, day_count-end, days_in_month_bounds}
use Rattle.jiff_core.proofs.DateLemmas.{epoch_day_injective, civil}
use Rattle.jiff_core.proofs.StandardFacts.{known_days}
use Rattle.jiff_core.proofs.SignedLemmas.{signed_arith}
use Rattle.reg_core.specs.declared.calendar.Civil.{Civil}
use Rattle.reg_core.specs.Calendar.{IsMoment, IsCivilAt, IsCivil, month_length, date_after, civil_of}

-- the first of the next month comes after the days of this one
next_month : (y m : ℕ) → 1 ≤ m → m ≤ 12 → day_count (pos (y + m / 12)) (m % 12 + 1) 1 ≡ day_count (pos y) m 1 + month_length y m
next_month y m low high = elim (cases_lt m 12) [
  | inl lt ↦
      let year : y + m / 12 ≡ y = omega arith in
      let month : m % 12 ≡ m = omega arith in
      rw (year, month) (day_count-next_month (pos y) m low)
  | inr ge ↦
      let is : m ≡ 12 = omega arith in
      rw is (omega (arith, day_count-next_year (pos y) (pos (y + 1)) (omega (arith, signed_arith)) refl, day_count-last_of_year (pos y), day_count-day (pos y) 12 31 1 (omega arith) (omega arith)))
]

-- a date of the calendar, `days` days after the first of a month
record Reaches (year month days : ℕ) (date : ℕ × ℕ × ℕ) : Type 0 where
  pub later : year ≤ date.0
  pub month_low : 1 ≤ date.1
  pub month_high : date.1 ≤ 12
  pub day_low : 1 ≤ date.2
  pub day_high : date.2 ≤ month_length date.0 date.1
  pub count : day_count (pos date.0) date.1 date.2 ≡ day_count (pos year) month 1 + days

within : (year month days : ℕ) → 1 ≤ month → month ≤ 12 → days < month_length year month → Reaches year month days (year, month, days + 1)
within year month days low high h = record {
  later = omega arith;
  month_low = low;
  month_high = high;
  day_low = omega arith;
  day_high = omega arith;
  count = omega (arith, day_count-day (pos year) month 1 (days + 1) (omega arith) (omega arith));
}

reaches : (steps year month days : ℕ) → days ≤ steps → 1 ≤ month → month ≤ 12 → Reaches year month days (date_after steps year month days)
unfolding date_after
reaches zero year month days h low high = within year month days low high (omega (arith, days_in_month_bounds (pos year) month))
reaches (suc steps) year month days h low high = elim (cases_lt days (month_length year month)) [
  | inl lt ↦ rw (lt-ltb days (month_length year month) lt, date_after) (within year month days low high lt)
  | inr ge ↦
      let long : 28 ≤ month_length year month = (days_in_month_bounds (pos year) month).1 in
      let on = reaches steps (year + month / 12) (month % 12 + 1) (days - month_length year month) (omega arith) (omega arith) (omega arith) in
      rw (le-ltb days (month_length year month) ge, date_after) (record {
        later = omega arith;
        month_low = on.month_low;
        month_high = on.month_high;
        day_low = on.day_low;
        day_high = on.day_high;
        count = omega (arith, on.count, next_month year month low high);
      })
]

-- the days of the moments end with 9999-12-31
year_below : (year month day days : ℕ) → 1 ≤ day → days < 2932897 → day_count (pos year) month day ≡ 4371953 + days → year ≤ 9999
year_below year month day days low short count = elim (cases_lt 9999 year) [
  | inl past ↦ absurd (omega (arith, day_count-later_year (pos 9999) (pos year) (omega (arith, signed_arith)) (omega (arith, signed_arith)), day_count-next_year (pos 9999) (pos 10000) (omega (arith, signed_arith)) refl, day_count-end, day_count-day_of_year (pos year) month day low))
  | inr le ↦ le
]

-- 1970-01-01 is day 0
pub epoch_is : (d : Date) → (d.year ≡ pos 1970) × (pos d.month ≡ pos 1) × (pos d.day ≡ pos 1) → epoch_day d ≡ pos 0
epoch_is d h =
    let month : d.month ≡ 1 = omega (arith, signed_arith) in
    let day : d.day ≡ 1 = omega (arith, signed_arith) in
    rw (h.0, month, day) known_days.0

-- what a moment shows, in jiff's words
pub shown : (s : ℕ) → IsMoment s → IsCivilAt s (civil_of s)
unfolding civil_of
shown s h =
    let days = s / 86400 in
    let on = reaches days 1970 1 days (omega arith) (omega arith) (omega arith) in
    let date = date_after days 1970 1 days in
    let year : date.0 ≤ 9999 = year_below date.0 date.1 date.2 days on.day_low (omega arith) (omega (arith, on.count, day_count-epoch)) in
    record {
      date = (omega (arith, signed_arith), (on.month_low, on.month_high), (on.day_low, on.day_high));
      day_number = omega (arith, signed_arith, days_from_civil-day_count (pos date.0) date.1 date.2, on.count, day_count-epoch);
      hour = refl;
      minute = refl;
      second = refl;
    }

not_before : (s : ℕ) → 1970 ≤ (civil_of s).year
unfolding civil_of
not_before s = (reaches (s / 86400) 1970 1 (s / 86400) (omega arith) (omega arith) (omega arith)).later

pub ranges : (s : ℕ) → IsMoment s → IsCivil (civil_of s)
ranges s h =
    let at = shown s h in
    let c = civil_of s in
    let long = days_in_month_bounds (pos c.year) c.month in
    record {
      first_year = omega (arith, not_before s);
      last_year = omega (arith, signed_arith, at.date.0);
      first_month = at.date.1.0;
      last_month = at.date.1.1;
      first_day = at.date.2.0;
      last_day = omega (arith, at.date.2.1);
      hour = omega (arith, at.hour);
      minute = omega (arith, at.minute);
      second = omega (arith, at.second);
    }

day_of : (c : Civil) → IsCivilDate (pos c.year) c.month c.day → Date
day_of c h = record { year = pos c.year; month = c.month; day = c.day; year_in = h.0; month_in = h.1; day_in = h.2 }

pub same_parts : (y m d h n s y₂ m₂ d₂ h₂ n₂ s₂ : ℕ) → y ≡ y₂ → m ≡ m₂ → d ≡ d₂ → h ≡ h₂ → n ≡ n₂ → s ≡ s₂
    → (let A : Civil = record { year = y; month = m; day = d; hour = h; minute = n; second = s } in let B : Civil = record { year = y₂; month = m₂; day = d₂; hour = h₂; minute = n₂; second = s₂ } in A ≡ B)
same_parts y m d h n s y₂ m₂ d₂ h₂ n₂ s₂ ey em ed eh en es = cc

-- one date and time alone is shown at a moment
pub shown_only : (s : ℕ) (a b : Civil) → IsCivilAt s a → IsCivilAt s b → a ≡ b
unfolding day_of
shown_only s a b at_a at_b =
    let day = epoch_day_injective (day_of a at_a.date) (day_of b at_b.date) (at_a.day_number ∙ sym at_b.day_number) in
    let year : a.year ≡ b.year = omega (arith, signed_arith, day.0) in
    same_parts _ _ _ _ _ _ _ _ _ _ _ _ year day.1 day.2 (at_a.hour ∙ sym at_b.hour) (at_a.minute ∙ sym at_b.minute) (at_a.second ∙ sym at_b.second)

-- and at one moment alone
pub shown_once : (s t : ℕ) (c : Civil) → IsCivilAt s c → IsCivilAt t c → s ≡ t
shown_once s t c at_s at_t =
    omega (arith, signed_arith, sym at_s.day_number ∙ at_t.day_number, at_s.hour, at_s.minute, at_s.second, at_t.hour, at_t.minute, at_t.second)

pub shown_injective : (s t : ℕ) → IsMoment s → IsMoment t → civil_of s ≡ civil_of t → s ≡ t
shown_injective s t hs ht e = shown_once s t (civil_of t) (rw e at (shown s hs)) (shown t ht)

-- the date with the moment's day number is the one shown
pub date_shown : (s : ℕ) (d : Date) → IsMoment s → epoch_day d ≡ pos (s / 86400) → (d.year ≡ pos (civil_of s).year) × (d.month ≡ (civil_of s).month) × (d.day ≡ (civil_of s).day)
unfolding day_of
date_shown s d h e = epoch_day_injective d (day_of (civil_of s) (shown s h).date) (e ∙ sym (shown s h).day_number)

-- parts that are computed from that date and by division
pub parts_shown : (s y m d h n k : ℕ) → IsMoment s → y ≡ (civil_of s).year → m ≡ (civil_of s).month → d ≡ (civil_of s).day → h ≡ s % 86400 / 3600 → n ≡ s % 86400 / 60 % 60 → k ≡ s % 86400 % 60
    → (let A : Civil = record { year = y; month = m; day = d; hour = h; minute = n; second = k } in A ≡ civil_of s)
parts_shown s y m d h n k low ey em ed eh en ek =
    let at = shown s low in
    same_parts _ _ _ _ _ _ (civil_of s).year (civil_of s).month (civil_of s).day (civil_of s).hour (civil_of s).minute (civil_of s).second ey em ed (omega (arith, at.hour)) (omega (arith, at.minute)) (omega (arith, at.second))

-- what holds of parts that some moment shows
pub parts_at : (s : ℕ) (c : Civil) → IsMoment s → civil_of s ≡ c → IsCivilAt s c
parts_at s c h e = rw e at (shown s h)

pub parts_in : (s : ℕ) (c : Civil) → IsMoment s → civil_of s ≡ c → IsCivil c
parts_in s c h e = rw e at (ranges s h)

same_civil : (y y₂ : ℤ) (m m₂ d d₂ : ℕ) → y ≡ y₂ → m ≡ m₂ → d ≡ d₂ → IsCivilDate y m d → IsCivilDate y₂ m₂ d₂
same_civil y y₂ m m₂ d d₂ ey em ed h =
    subst (λ (k : ℕ). IsCivilDate y₂ m₂ k) ed (subst (λ (k : ℕ). IsCivilDate y₂ k d) em (subst (λ (z : ℤ). IsCivilDate z m d) ey h))

-- a date of jiff's with these parts
pub date_is : (d : Date) (c : Civil) → (d.year ≡ pos c.year) × (d.month ≡ c.month) × (d.day ≡ c.day) → IsCivilDate (pos c.year) c.month c.day × (days_from_civil (pos c.year) c.month c.day ≡ epoch_day d)
date_is d c e = (same_civil _ _ _ _ _ _ e.0 e.1 e.2 (civil d), rw (← e.0, ← e.1, ← e.2))

-- the moment of a date and a time of day
pub moment_at : (c : Civil) (days : ℕ) → days < 2932897 → IsCivilDate (pos c.year) c.month c.day → days_from_civil (pos c.year) c.month c.day ≡ pos days → c.hour ≤ 23 → c.minute ≤ 59 → c.second ≤ 59
    → (let s : ℕ = days * 86400 + (c.hour * 60 + c.minute) * 60 + c.second in IsMoment s × (civil_of s ≡ c))
moment_at c days few date number hour minute second =
    let s = days * 86400 + (c.hour * 60 + c.minute) * 60 + c.second in
    let low : IsMoment s = omega arith in (
      low,
      shown_only s (civil_of s) c (shown s low) (record {
        date = date;
        day_number = let day : s / 86400 ≡ days = omega arith in rw day number;
        hour = omega arith;
        minute = omega arith;
        second = omega arith;
      }),
    )
