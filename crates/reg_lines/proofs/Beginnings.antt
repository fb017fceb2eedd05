-- The moment that a line of a script begins with.
use Rattle.std.proofs.Common.{◌≡◌, ◌≢◌, ℕ, ◌+◌, ◌-◌, ◌<◌, ◌≤◌, List, ◌∷◌, ◌++◌, length, take, drop, refl, sym, ap, ◌∙◌, arith, length-append}
use Rattle.std.specs.Prelude.{get_or}
use Rattle.std.proofs.Math.Seq.{get_or-append_seam, drop-cons, drop-append-add}
use Rattle.std.proofs.lemmas.List.{take-append-drop, take_at, take_rest}
use Rattle.reg_core.specs.Calendar.{IsMoment, date_time, moment_text}
use Rattle.reg_core.proofs.PublicLaws.{one_moment}
use Rattle.reg_lines.specs.Meaning.{HasMoment, HasNoMoment, OneBeginning}

-- the text of a moment has 20 bytes
text_size : (now : ℕ) → length (moment_text now) ≡ 20
unfolding moment_text date_time
text_size now = refl

module _ (line : List ℕ) (now : ℕ) (command : List ℕ) (begins : HasMoment line now command) where
  front : take 20 line ≡ moment_text now
  front = ap (take 20) begins.0 ∙ take_at (moment_text now) (32 ∷ command) 20 (text_size now)

  behind : drop 21 line ≡ command
  behind =
      let size : length (moment_text now) + 1 ≡ 21 = omega (arith, text_size now) in
      ap (drop 21) begins.0 ∙ ap (λ n. drop n (moment_text now ++ 32 ∷ command)) (sym size) ∙ drop-append-add (moment_text now) (32 ∷ command) 1

  space : get_or line 20 0 ≡ 32
  space =
      ap (λ l. get_or l 20 0) begins.0 ∙ ap (λ n. get_or (moment_text now ++ 32 ∷ command) n 0) (sym (text_size now))
      ∙ get_or-append_seam (moment_text now) 32 command 0

  long : 20 < length line
  long = let size : length line ≡ length (moment_text now) + length (32 ∷ command) = ap length begins.0 ∙ length-append (moment_text now) (32 ∷ command) in
      omega (arith, text_size now)

-- no line begins in two ways
pub one_beginning : OneBeginning
one_beginning line now other command rest begins is = (
  one_moment now other begins.1 is.1 (sym (front line now command begins) ∙ front line other rest is),
  sym (behind line now command begins) ∙ behind line other rest is,
)

-- one that is too short, or has another byte there
pub too_short : (line : List ℕ) → length line ≤ 20 → HasNoMoment line
too_short line short now command begins = omega (arith, long line now command begins)

pub no_space : (line : List ℕ) → get_or line 20 0 ≢ 32 → HasNoMoment line
no_space line other now command begins = other (space line now command begins)

-- one whose front is no moment's text
pub no_text : (line : List ℕ) → ((now : ℕ) → IsMoment now → take 20 line ≢ moment_text now) → HasNoMoment line
no_text line unread now command begins = unread now begins.1 (front line now command begins)

parted : (line : List ℕ) → 20 < length line → get_or line 20 0 ≡ 32 → line ≡ take 20 line ++ 32 ∷ drop 21 line
parted line long space =
    sym (take-append-drop 20 line) ∙ ap (λ l. take 20 line ++ l) (drop-cons line 20 0 long ∙ ap (λ b. b ∷ drop 21 line) space)

-- one that begins with a moment's text and a space
pub begins_at : (line : List ℕ) (now : ℕ) → 20 < length line → get_or line 20 0 ≡ 32 → IsMoment now × (take 20 line ≡ moment_text now)
    → HasMoment line now (take (length line - 21) (drop 21 line))
begins_at line now long space (is, text) =
    (parted line long space ∙ ap (λ l. l ++ 32 ∷ drop 21 line) text ∙ ap (λ l. moment_text now ++ 32 ∷ l) (sym (take_rest line 21)), is)
