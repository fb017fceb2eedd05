-- The rows of a file, for which lines are sent one after the other.
use Rattle.std.proofs.Common.{◌≡◌, ◌↔◌, ◌⊎◌, ℕ, ◌+◌, Bool, true, List, [], ◌∷◌, ◌++◌, length, length-append, append-nil, arith, IfOk, IsTrue, IsFalse, Option, Vec, Global, Result, Ok, Err, MatchResult, ◌∙◌, refl, sym, subst, inl, inr}
use Rattle.std.specs.Io.KnownBytes.{Appends, Consumes}
use Rattle.std.specs.List.{AllByRecursion, concat}
use Rattle.std.proofs.lemmas.Bool.{false≢true}
use Rattle.std.proofs.KnownBytes.{Appends-nil, Appends-trans, Consumes-nil, Consumes-trans}
use Rattle.reg_desk_cli.specs.declared.failure.Failure.{Failure}
use Rattle.reg_desk_cli.specs.declared.failure.Failure.TheVariants as failure
use Rattle.reg_desk_cli.specs.declared.job.RowTask.{RowTask}
use Rattle.reg_lines.proofs.PublicLaws.{concat_push}
use Rattle.reg_lines.specs.Script.{IsWholeLine}
use Rattle.reg_desk_jobs.specs.Conversations.{IsCutOff, IsInput}
use Rattle.reg_desk_jobs.specs.RowTasks.{Exchange, IsRowDone, LineAnswered, LineReplied, LinesAnswered, Link, RepliesWritten, SendsMostRows, SendsRows, SendsThen, has_first_word, link_of}
use Rattle.reg_desk_jobs.proofs.ConversationLemmas.{all_push, fails_in, input_is, whole_push}

-- one line more is answered
answered_push : (task : RowTask) (s m t : Link) (lines replies : List (List ℕ)) (line reply : List ℕ) → LinesAnswered task s m lines replies → LineAnswered task m t line reply
    → LinesAnswered task s t (lines ++ line ∷ []) (replies ++ reply ∷ [])
answered_push task s m t [] [] line reply same step = (t, subst (λ x. LineAnswered task x t line reply) same step, refl)
answered_push task s m t [] (second ∷ replies) line reply run step = absurd run
answered_push task s m t (first ∷ lines) [] line reply run step = absurd run
answered_push task s m t (first ∷ lines) (second ∷ replies) line reply run step =
    (run.0, run.1, answered_push task run.0 m t lines replies line reply run.2 step)

-- The task of each row, what is left of the input, the connection, and what was written, when the first row is read.
module _ (task : RowTask) (input : Option (List ℕ)) (s : Link) (out : Option (List ℕ)) where
  -- the lines so far, `count` of them, and whether each is done
  abbrev pub RowsSoFar : ℕ → Option (List ℕ) → Link → Option (List ℕ) → Bool → Type 0
  RowsSoFar count input' t out' done =
      (lines replies : List (List ℕ)) × RepliesWritten task s t out out' lines replies × Consumes input input' (concat lines)
      × (IsTrue done ↔ AllByRecursion IsRowDone replies) × (length lines ≡ count)

  pub rows_begin : RowsSoFar 0 input s out true
  rows_begin = (
    [],
    [],
    record { whole = tt; answered = refl; wrote = Appends-nil out },
    Consumes-nil input,
    ((λ holds. tt), (λ all. refl)),
    refl,
  )

  -- one line more
  pub rows_go_on : (count : ℕ) (input' input'' : Option (List ℕ)) (m t : Link) (out' out'' : Option (List ℕ)) (line : List ℕ) (before done after : Bool)
      → RowsSoFar count input' m out' before → IsWholeLine line → Consumes input' input'' line → LineReplied task m t out' out'' line done
      → IsTrue after ↔ (IsTrue before × IsTrue done) → RowsSoFar (count + 1) input'' t out'' after
  rows_go_on count input' input'' m t out' out'' line before done after so whole took exchanged both =
      let (lines, replies, answered, read, all, counted) = so in
      let (reply, step, wrote, is) = exchanged in
      let push = all_push IsRowDone replies reply in (
        lines ++ line ∷ [],
        replies ++ reply ∷ [],
        record {
          whole = whole_push lines line answered.whole whole;
          answered = answered_push task s m t lines replies line reply answered.answered step;
          wrote = subst (Appends out out'') (sym (concat_push replies reply)) (Appends-trans out out' out'' _ reply answered.wrote wrote);
        },
        subst (Consumes input input'') (sym (concat_push lines line)) (Consumes-trans input input' input'' _ line read took),
        (
          (λ holds. let parts = both.0 holds in push.1 (all.0 parts.0, is.0 parts.1)),
          (λ each. let parts = push.0 each in both.1 (all.1 parts.0, is.1 parts.1)),
        ),
        omega (arith, counted, length-append lines (line ∷ [])),
      )

  module _ (read_failed write_failed : Type 0) (count : ℕ) (input' : Option (List ℕ)) (t : Link) (out' : Option (List ℕ)) (done : Bool)
      (so : RowsSoFar count input' t out' done) where
    -- no line is left
    pub rows_end : (result : Result (Unit {0}) Failure) → IsInput input' []
        → MatchResult result (λ ended. IsTrue done) (λ why. (why ≡ failure.Refused) × IsFalse done) → SendsRows task read_failed write_failed input s t out out' result
    rows_end (Ok ended) none holds =
        (so.0, so.1, so.2, subst (IsInput input) (append-nil (concat so.0)) (input_is input input' (concat so.0) [] so.3 none), so.4.0 holds)
    rows_end (Err why) none refused =
        inr (
          so.0,
          so.1,
          [],
          so.2,
          input_is input input' (concat so.0) [] so.3 none,
          inl (refused.0, refl, (λ each. false≢true (sym refused.1 ∙ so.4.1 each))),
        )

    -- a last line without its end is left
    pub rows_cut : (why : Failure) → (left : List ℕ) × IsCutOff left × IsInput input' left
        → ((why ≡ failure.NoLineEnd) × IsTrue done) ⊎ ((why ≡ failure.RefusedNoLineEnd) × IsFalse done) → SendsRows task read_failed write_failed input s t out out' (Err why)
    rows_cut why (left, cut, rest) how =
        let all = input_is input input' (concat so.0) left so.3 rest in
        elim how [
          | inl (is, holds) ↦ inr (so.0, so.1, left, so.2, all, inr (inl (is, cut, so.4.0 holds)))
          | inr (is, refused) ↦ inr (so.0, so.1, left, so.2, all, inr (inr (is, cut, (λ each. false≢true (sym refused ∙ so.4.1 each)))))
        ]

-- a reader has what the one under it has, over a connection of which no failure can be stated
pub rows_under : (task : RowTask) (read write : Type 0) (input under : Option (List ℕ)) (s t : Link) (out out' : Option (List ℕ)) (result : Result (Unit {0}) Failure)
    → input ≡ under → SendsRows task read write input s t out out' result → SendsRows task (Unit {0}) (Unit {0}) under s t out out' result
rows_under task read write input under s t out out' (Ok done) same sends =
    subst (λ i. SendsRows task (Unit {0}) (Unit {0}) i s t out out' (Ok done)) same sends
rows_under task read write input under s t out out' (Err why) same (inl fails) =
    inl (fails_in (read ⊎ SendsMostRows task s t out out') write (Unit {0} ⊎ SendsMostRows task s t out out') (Unit {0}) (λ failed. inl tt) (λ failed. tt) why fails)
rows_under task read write input under s t out out' (Err why) same (inr ended) =
    subst (λ i. SendsRows task (Unit {0}) (Unit {0}) i s t out out' (Err why)) same (inr ended)

-- What was sent and came up to a line, up to its reply, and up to the last one.
module _ (sent sent' sent'' incoming incoming' incoming'' : Option (List ℕ)) (line word first : List ℕ) (NextLine : List ℕ → Exchange) where
  -- a reply leads on: more is sent, and the last reply is the row's
  pub leads_on : (result : Result (Vec ℕ Global) Failure) → Appends sent sent' line → Consumes incoming incoming' first → IsTrue (has_first_word first word)
      → IfOk result (λ reply. NextLine first (link_of sent' incoming') (link_of sent'' incoming'') reply.items)
      → IfOk result (λ reply. SendsThen line word NextLine (link_of sent incoming) (link_of sent'' incoming'') reply.items)
  leads_on (Ok reply) asked replied leads next = inr (link_of sent' incoming', first, (asked, replied), leads, next)
  leads_on (Err why) asked replied leads next = tt

-- a line is sent, and its reply is the row's
pub sent_alone : (S C : Vec ℕ Global → Type 0) (result : Result (Vec ℕ Global) Failure) → IfOk result S → IfOk result C → IfOk result (λ reply. S reply × C reply)
sent_alone S C (Ok reply) sent incoming = (sent, incoming)
sent_alone S C (Err why) sent incoming = tt
