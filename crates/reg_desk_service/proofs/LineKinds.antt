-- The kinds of lines at a follower's control socket, and the first of some lines.
use Rattle.std.specs.Prelude.{MatchOption}
use Rattle.std.proofs.Common.{◌≡◌, ◌⊎◌, ◌++◌, ℕ, Bool, Option, Some, None, Result, Ok, Err, IfOk, OnErr, ◌≤◌, ◌<◌, List, [], ◌∷◌, take, length, arith, ap, inl, inr, refl, subst, sym, ◌∙◌}
use Rattle.reg_io.proofs.PublicLaws.{first_delimiter_in_prefix, first_delimiter_of_byte}
use Rattle.reg_desk_server.specs.LineEnds.{EndsLine, FirstLineEnds, HasNoLine, IsLine, IsWholeLines}
use Rattle.reg_desk_service.specs.ControlWords.{WordMeaning, meaning_in}
use Rattle.std.proofs.lemmas.List.{take_all}
use Rattle.reg_core.specs.declared.refusal.Fault.TheVariants as fault
use Rattle.reg_desk_cli.specs.ExitStatus.{failure_line}
use Rattle.reg_desk_cli.specs.declared.failure.Failure.{Failure}
use Rattle.reg_desk_cli.specs.declared.failure.Failure.TheVariants as failure
use Rattle.reg_desk_service.specs.ControlReplies.{IsReplyText}
use Rattle.reg_desk_service.specs.Following.{HasKind, IsLineKind, IsRefusal, RefusesLine}
use Rattle.reg_desk_service.specs.declared.line_kinds.LineKind.{LineKind}

-- the kind of a line by its meaning
pub kind_by : (line : List ℕ) (meaning : WordMeaning) (kind : LineKind) → meaning_in line ≡ meaning → HasKind line meaning kind → IsLineKind line kind
kind_by line meaning kind is has = subst (λ (it : WordMeaning). HasKind line it kind) (sym is) has

-- the first of some lines has one line end, which is its last byte
pub first_alone : (lines line : List ℕ) → FirstLineEnds lines (length line) → line ≡ take (length line) lines → FirstLineEnds line (length line)
first_alone lines line ends is =
    let n : ℕ = length line in
    subst (λ (l : List ℕ). FirstLineEnds l n) (sym is) (first_delimiter_in_prefix (10 ∷ []) lines n n ends (omega arith))

-- the first of some lines is whole lines
pub ends_lines : (lines : List ℕ) (n : ℕ) → FirstLineEnds lines n → EndsLine lines n
ends_lines lines n first = (first.within, first.here)

-- one line is whole lines
pub line_is_whole : (line : List ℕ) → FirstLineEnds line (length line) → IsWholeLines line
line_is_whole line first = subst (λ (l : List ℕ). IsWholeLines l) (take_all (length line) line (omega arith)) first.here

-- its only LF is its last byte
pub line_is_one : (line : List ℕ) → FirstLineEnds line (length line) → IsLine line
line_is_one line first = subst (λ (l : List ℕ). IsLine l) (take_all (length line) line (omega arith)) (first_delimiter_of_byte 10 line (length line) first)

-- whole lines have a first one
pub has_first : (lines : List ℕ) → HasNoLine lines → IsWholeLines lines → ⊥
has_first lines none whole =
    none (length lines) (subst (λ (l : List ℕ). IsWholeLines l) (sym (take_all (length lines) lines (omega arith))) whole)

-- lines in one line are that line
pub ends_alone : (line : List ℕ) (n : ℕ) → FirstLineEnds line (length line) → EndsLine line n → n ≡ length line
ends_alone line n first ends =
    let not_before : ¬ (n < length line) = λ before. first.first n before ends.1 in omega (arith, ends.0, not_before)

pub all_of_line : (line : List ℕ) (n : ℕ) → n ≡ length line → take n line ≡ line
all_of_line line n same = take_all n line (omega (arith, same))

-- what comes of a result says something else
pub answered_as : {A E : Type 0} (result : Result (Option A) E) (P P' : Type 0) (Q Q' : A → Type 0) → (P → P') → ((a : A) → Q a → Q' a)
    → IfOk result (λ answered. MatchOption answered P Q) → IfOk result (λ answered. MatchOption answered P' Q')
answered_as (Ok None) P P' Q Q' none some holds = none holds
answered_as (Ok (Some a)) P P' Q Q' none some holds = some a holds
answered_as (Err fault) P P' Q Q' none some holds = tt

pub err_as : {A E : Type 0} (result : Result A E) (P Q : Type 0) → (P → Q) → OnErr result P → OnErr result Q
err_as (Ok it) P Q from holds = tt
err_as (Err fault) P Q from holds = from holds

-- the reply that refuses a line
pub refuses_by : (is_current : Bool) (line text : List ℕ) (why : Failure) → IsRefusal is_current line (Some why) → IsReplyText (failure_line why ++ 10 ∷ []) text
    → RefusesLine is_current line text
unfolding failure_line
refuses_by is_current line text failure.IsFollower kind reply = inl (kind, reply)
refuses_by is_current line text failure.Behind kind reply = inr (inl (kind.0, kind.1, reply))
refuses_by is_current line text (failure.Fault fault.Memory) kind reply = inr (inr reply)
refuses_by is_current line text other kind reply = absurd kind
