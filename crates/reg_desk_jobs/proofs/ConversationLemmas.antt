-- A conversation at a control socket, one line after the other.
use Rattle.std.proofs.Common.{◌≡◌, ◌↔◌, ◌⊎◌, ◌<◌, ◌≤◌, ℕ, ◌+◌, Bool, true, List, [], ◌∷◌, ◌++◌, length, length-append, append-nil, append_assoc, IsTrue, IsFalse, Option, Some, None, Result, Ok, Err, MatchResult, ◌∙◌, refl, sym, ap, subst, inl, inr, arith}
use Rattle.std.specs.Io.Buffered.{reader_buffer, reader_capacity, reader_inner, reader_remaining}
use Rattle.std.specs.Io.KnownBytes.{Appends, Consumes, prepend_known}
use Rattle.std.specs.List.{AllByRecursion, concat}
use Rattle.std.specs.declared.io.buffered.BufReader.{BufReader}
use Rattle.std.proofs.lemmas.Bool.{false≢true}
use Rattle.std.proofs.lemmas.List.Folds.{concat-append}
use Rattle.std.proofs.KnownBytes.{Appends-nil, Appends-trans, Consumes-nil, Consumes-trans}
use Rattle.reg_desk_cli.specs.declared.failure.Failure.{Failure}
use Rattle.reg_desk_cli.specs.declared.failure.Failure.TheVariants as failure
use Rattle.reg_lines.specs.Accepted.{IsAccepted}
use Rattle.reg_lines.proofs.PublicLaws.{concat_push}
use Rattle.reg_lines.specs.Script.{IsWholeLine}
use Rattle.reg_desk_jobs.specs.Conversations.{AreWhole, GoesOn, IsConversationFault, IsInput, IsPiece, ExchangedLines, ExchangesLines, ExchangesMost, PassesReplies}
use Rattle.reg_desk_jobs.specs.declared.at_job.Piece.{Piece}
use Rattle.reg_desk_jobs.specs.declared.at_job.PieceEnd.{PieceEnd}
use Rattle.reg_desk_jobs.specs.declared.at_job.PieceEnd.TheVariants as piece_end

-- lines that end with their LF, and more of them
pub whole_append : (lines more : List (List ℕ)) → AreWhole lines → AreWhole more → AreWhole (lines ++ more)
whole_append [] more all rest = rest
whole_append (first ∷ lines) more all rest = (all.0, whole_append lines more all.1 rest)

pub whole_push : (lines : List (List ℕ)) (line : List ℕ) → AreWhole lines → IsWholeLine line → AreWhole (lines ++ line ∷ [])
whole_push lines line all one = whole_append lines (line ∷ []) all (one, tt)

-- all replies so far, and more
pub all_append : (Is : List ℕ → Type 0) (replies more : List (List ℕ))
    → AllByRecursion Is (replies ++ more) ↔ (AllByRecursion Is replies × AllByRecursion Is more)
all_append Is [] more = ((λ all. (tt, all)), (λ both. both.1))
all_append Is (first ∷ replies) more =
    let rest = all_append Is replies more in (
      (λ all. let parts = rest.0 all.1 in ((all.0, parts.0), parts.1)),
      (λ both. (both.0.0, rest.1 (both.0.1, both.1))),
    )

pub all_push : (Is : List ℕ → Type 0) (replies : List (List ℕ)) (reply : List ℕ)
    → AllByRecursion Is (replies ++ reply ∷ []) ↔ (AllByRecursion Is replies × Is reply)
all_push Is replies reply =
    let both = all_append Is replies (reply ∷ []) in (
      (λ all. let parts = both.0 all in (parts.0, parts.1.0)),
      (λ parts. both.1 (parts.0, (parts.1, tt))),
    )

-- an input, of which some bytes were taken and these are left
pub input_is : (input input' : Option (List ℕ)) (front left : List ℕ) → Consumes input input' front → IsInput input' left → IsInput input (front ++ left)
input_is None input' front left took all = tt
input_is (Some xs) None front left took all = absurd took
input_is (Some xs) (Some ys) front left took all = took ∙ ap (λ l. front ++ l) all

-- an input, of which some bytes were taken, and then more
left_after : (input input' input'' : Option (List ℕ)) (front taken : List ℕ) (it : PieceEnd) → Consumes input input' front → GoesOn input' input'' taken it
    → GoesOn input input'' (front ++ taken) it
left_after input input' input'' front taken piece_end.Full took is = Consumes-trans input input' input'' front taken took is
left_after input input' input'' front taken piece_end.Cut took (left, cut, is) =
    (left, cut, subst (IsInput input) (sym (append_assoc front taken left)) (input_is input input' front (taken ++ left) took is))
left_after input input' input'' front taken piece_end.End took is = input_is input input' front taken took is

-- a reader with nothing in its buffer has what the one under it has
prepend_nil : (known : Option (List ℕ)) → prepend_known [] known ≡ known
prepend_nil None = refl
prepend_nil (Some xs) = refl

pub all_under : {T A : Type 0} (reader : BufReader T A) (inner : T) (remaining : T → Option (List ℕ)) → reader_inner reader ≡ inner
    → reader_buffer reader ≡ [] → reader_capacity reader ≡ 8192 → reader_remaining remaining reader ≡ remaining inner
all_under reader inner remaining is empty room = rw (room, empty, is) (prepend_nil (remaining inner))

-- what fails in a part of a conversation fails in all of it
pub fails_in : (read write read' write' : Type 0) → (read → read') → (write → write') → (why : Failure) → IsConversationFault read write why
    → IsConversationFault read' write' why
fails_in read write read' write' reads writes why (inl (is, failed)) = inl (is, reads failed)
fails_in read write read' write' reads writes why (inr (inl (is, failed))) = inr (inl (is, writes failed))
fails_in read write read' write' reads writes why (inr (inr is)) = inr (inr is)

-- over a connection of which no failure can be stated
pub exchanges_under : (read write : Type 0) (sent sent' incoming incoming' out out' input under : Option (List ℕ)) (result : Result (Unit {0}) Failure)
    → input ≡ under → ExchangesLines sent sent' incoming incoming' out out' read write input result
    → ExchangesLines sent sent' incoming incoming' out out' (Unit {0}) (Unit {0}) under result
exchanges_under read write sent sent' incoming incoming' out out' input under (Ok done) same exchanges =
    subst (λ i. ExchangesLines sent sent' incoming incoming' out out' (Unit {0}) (Unit {0}) i (Ok done)) same exchanges
exchanges_under read write sent sent' incoming incoming' out out' input under (Err why) same (inl fails) =
    inl (fails_in (read ⊎ ExchangesMost sent sent' incoming incoming' out out') write (Unit {0} ⊎ ExchangesMost sent sent' incoming incoming' out out') (Unit {0})
    (λ failed. inl tt) (λ failed. tt) why fails)
exchanges_under read write sent sent' incoming incoming' out out' input under (Err why) same (inr ended) =
    subst (λ i. ExchangesLines sent sent' incoming incoming' out out' (Unit {0}) (Unit {0}) i (Err why)) same (inr ended)

-- ---- the next lines of an input

-- What an input had before.
module _ (input : Option (List ℕ)) where
  -- these lines were taken, and their bytes kept
  abbrev pub Gathered : Option (List ℕ) → List ℕ → ℕ → Type 0
  Gathered input' text count =
      (lines : List (List ℕ)) × AreWhole lines × (text ≡ concat lines) × (length lines ≡ count) × Consumes input input' (concat lines)

  -- one line more
  pub gathers_one : (input' input'' : Option (List ℕ)) (text text' : List ℕ) (count : ℕ) (line : List ℕ) → Gathered input' text count
      → IsWholeLine line → Consumes input' input'' line → text' ≡ text ++ line → Gathered input'' text' (count + 1)
  gathers_one input' input'' text text' count line (lines, whole, is, counted, took) one next longer = (
    lines ++ line ∷ [],
    whole_push lines line whole one,
    longer ∙ ap (λ l. l ++ line) is ∙ sym (concat_push lines line),
    omega (arith, counted, length-append lines (line ∷ [])),
    subst (Consumes input input'') (sym (concat_push lines line)) (Consumes-trans input input' input'' _ line took next),
  )

-- ---- the replies

-- What came and what was written before.
module _ (incoming out : Option (List ℕ)) where
  -- one reply more
  pub passes_one : (incoming' incoming'' out' out'' : Option (List ℕ)) (count : ℕ) (reply : List ℕ) (before accepted after : Bool)
      → PassesReplies incoming incoming' out out' count before → Consumes incoming' incoming'' reply → Appends out' out'' reply
      → IsTrue accepted ↔ IsAccepted reply → IsTrue after ↔ (IsTrue before × IsTrue accepted) → PassesReplies incoming incoming'' out out'' (count + 1) after
  passes_one incoming' incoming'' out' out'' count reply before accepted after (replies, counted, received, said, all) came wrote is both =
      let push = all_push IsAccepted replies reply in (
        replies ++ reply ∷ [],
        omega (arith, counted, length-append replies (reply ∷ [])),
        subst (Consumes incoming incoming'') (sym (concat_push replies reply)) (Consumes-trans incoming incoming' incoming'' _ reply received came),
        subst (Appends out out'') (sym (concat_push replies reply)) (Appends-trans out out' out'' _ reply said wrote),
        (
          (λ holds. let parts = both.0 holds in push.1 (all.0 parts.0, is.0 parts.1)),
          (λ each. let parts = push.0 each in both.1 (all.1 parts.0, is.1 parts.1)),
        ),
      )

-- ---- the talk

-- What was read, what went out, what came and what was written when a talk began.
module _ (input sent incoming out : Option (List ℕ)) where
  -- the talk so far, of at least `count` lines; how the input goes on; and whether each reply was accepted
  abbrev pub SoFar : ℕ → PieceEnd → Option (List ℕ) → Option (List ℕ) → Option (List ℕ) → Option (List ℕ) → Bool → Type 0
  SoFar count it input' sent' incoming' out' accepted =
      (lines : List (List ℕ)) × (replies : List (List ℕ)) × ExchangedLines sent sent' incoming incoming' out out' lines replies
      × GoesOn input input' (concat lines) it × (IsTrue accepted ↔ AllByRecursion IsAccepted replies) × (count ≤ length lines)

  -- nothing yet
  pub begins : SoFar 0 piece_end.Full input sent incoming out true
  begins = (
    [],
    [],
    record { whole = tt; lines_sent = Appends-nil sent; received = Consumes-nil incoming; said = Appends-nil out; each = refl },
    Consumes-nil input,
    ((λ holds. tt), (λ all. refl)),
    omega arith,
  )

  -- a piece more
  pub goes_on : (count : ℕ) (input' input'' sent' sent'' incoming' incoming'' out' out'' : Option (List ℕ)) (most : ℕ) (piece : Piece) (before accepted after : Bool)
      → SoFar count piece_end.Full input' sent' incoming' out' before → IsPiece most input' input'' piece → Appends sent' sent'' piece.text.items
      → PassesReplies incoming' incoming'' out' out'' piece.count accepted → IsTrue after ↔ (IsTrue before × IsTrue accepted)
      → SoFar (count + piece.count) piece.end input'' sent'' incoming'' out'' after
  goes_on count input' input'' sent' sent'' incoming' incoming'' out' out'' most piece before accepted after so next appended passed both =
      let (lines, replies, talked, read, all, many) = so in
      let (more, counted, received, said, is) = passed in
      let joined = all_append IsAccepted replies more in (
        lines ++ next.lines,
        replies ++ more,
        record {
          whole = whole_append lines next.lines talked.whole next.whole;
          lines_sent = subst (Appends sent sent'') (ap (λ l. concat lines ++ l) next.text ∙ sym (concat-append lines next.lines))
              (Appends-trans sent sent' sent'' _ piece.text.items talked.lines_sent appended);
          received = subst (Consumes incoming incoming'') (sym (concat-append replies more)) (Consumes-trans incoming incoming' incoming'' _ _ talked.received received);
          said = subst (Appends out out'') (sym (concat-append replies more)) (Appends-trans out out' out'' _ _ talked.said said);
          each = omega (arith, talked.each, next.count, counted, length-append replies more, length-append lines next.lines);
        },
        subst (λ taken. GoesOn input input'' taken piece.end) (sym (concat-append lines next.lines))
            (left_after input input' input'' (concat lines) (concat next.lines) piece.end read next.left),
        (
          (λ holds. let parts = both.0 holds in joined.1 (all.0 parts.0, is.0 parts.1)),
          (λ each. let parts = joined.0 each in both.1 (all.1 parts.0, is.1 parts.1)),
        ),
        omega (arith, many, next.count, length-append lines next.lines),
      )

  -- a full piece has a line
  pub one_more : (count most : ℕ) (input' input'' sent'' incoming'' out'' : Option (List ℕ)) (piece : Piece) (after : Bool) → 0 < most → IsPiece most input' input'' piece
      → piece.end ≡ piece_end.Full → SoFar (count + piece.count) piece.end input'' sent'' incoming'' out'' after
      → SoFar (count + 1) piece_end.Full input'' sent'' incoming'' out'' after
  one_more count most input' input'' sent'' incoming'' out'' piece after some next full so =
      let (lines, replies, talked, read, all, many) = so in
      (lines, replies, talked, subst (GoesOn input input'' (concat lines)) full read, all, omega (arith, some, next.full full, many))

  -- What was so at the end.
  module _ (read_failed write_failed : Type 0) (count : ℕ) (input' sent' incoming' out' : Option (List ℕ)) (accepted : Bool) where
    -- no line is left
    pub ends : (result : Result (Unit {0}) Failure) → SoFar count piece_end.End input' sent' incoming' out' accepted
        → MatchResult result (λ done. IsTrue accepted) (λ why. (why ≡ failure.Refused) × IsFalse accepted)
        → ExchangesLines sent sent' incoming incoming' out out' read_failed write_failed input result
    ends (Ok done) (lines, replies, talked, all, is, many) holds = (lines, replies, talked, all, is.0 holds)
    ends (Err why) (lines, replies, talked, all, is, many) refused = inr (
      lines,
      replies,
      [],
      talked,
      subst (IsInput input) (sym (append-nil (concat lines))) all,
      inl (refused.0, refl, (λ each. false≢true (sym refused.1 ∙ is.1 each))),
    )

    -- a last line without its end is left
    pub cuts : (why : Failure) → SoFar count piece_end.Cut input' sent' incoming' out' accepted
        → ((why ≡ failure.NoLineEnd) × IsTrue accepted) ⊎ ((why ≡ failure.RefusedNoLineEnd) × IsFalse accepted)
        → ExchangesLines sent sent' incoming incoming' out out' read_failed write_failed input (Err why)
    cuts why (lines, replies, talked, (left, cut, all), is, many) how = elim how [
      | inl (named, holds) ↦ inr (lines, replies, left, talked, all, inr (inl (named, cut, is.0 holds)))
      | inr (named, refused) ↦ inr (lines, replies, left, talked, all, inr (inr (named, cut, (λ each. false≢true (sym refused ∙ is.1 each)))))
    ]
