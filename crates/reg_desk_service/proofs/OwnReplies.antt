-- Lemmas for the law that each line has its own reply (specs/OwnReplies.antt).
use Rattle.std.proofs.Common.{◌≡◌, ◌≢◌, ◌==◌, ◌⊎◌, ℕ, List, [], ◌∷◌, ◌++◌, Option, true, false, refl, ap, ◌∙◌, subst, inl, inr}
use Rattle.std.specs.List.{AllByRecursion, AllZip, concat}
use Rattle.std.proofs.lemmas.Bool.Decides.{eqb_tells}
use Rattle.std.proofs.lemmas.List.Elements.{All-cons, All-nil}
use Rattle.reg_core.specs.Records.{Records}
use Rattle.reg_desk_server.specs.Connections.{HasOwnReplies, IsAnsweredBy}
use Rattle.reg_desk_server.specs.LineEnds.{IsLine, IsWholeLines}
use Rattle.reg_lines.specs.Script.{pieces}
use Rattle.reg_office_api.specs.CallSteps.{Signs}
use Rattle.reg_office_api.specs.Signers.{OfficeSigners}
use Rattle.reg_desk_service.proofs.CommandBatches.{line_then, no_pieces}
use Rattle.reg_desk_service.specs.ControlWords.{AnswersLinesAt, accepted_by, meaning_in}
use Rattle.reg_desk_service.specs.OwnReplies.{EachHasItsReply, IsReplyTo}

-- bytes and a last LF, as lines
lines_of : (front : List ℕ)
    → (line : List ℕ) × (lines : List (List ℕ)) × (front ++ 10 ∷ [] ≡ concat (line ∷ lines)) × IsLine line × AllByRecursion IsLine lines
lines_of [] = (10 ∷ [], [], refl, ([], refl, All-nil (λ byte. byte ≢ 10)), tt)
lines_of (byte ∷ front) =
    let (line, lines, joined, is, all) = lines_of front in
    go line lines joined is all (eqb_tells byte 10)
  where
    go : (line : List ℕ) (lines : List (List ℕ)) → front ++ 10 ∷ [] ≡ concat (line ∷ lines) → IsLine line → AllByRecursion IsLine lines
        → ((byte == 10) ≡ true × (byte ≡ 10)) ⊎ ((byte == 10) ≡ false × (byte ≢ 10))
        → (line : List ℕ) × (lines : List (List ℕ)) × (byte ∷ front ++ 10 ∷ [] ≡ concat (line ∷ lines)) × IsLine line × AllByRecursion IsLine lines
    go line lines joined is all (inl (test, lf)) =
        (byte ∷ [], line ∷ lines, ap (λ (l : List ℕ). byte ∷ l) joined, ([], ap (λ (b : ℕ). b ∷ []) lf, All-nil (λ b. b ≢ 10)), (is, all))
    go line lines joined (prefix, is, free) all (inr (test, other)) =
        (byte ∷ line, lines, ap (λ (l : List ℕ). byte ∷ l) joined, (byte ∷ prefix, ap (λ (l : List ℕ). byte ∷ l) is, All-cons (λ b. b ≢ 10) byte prefix other free), all)

-- each line is a piece
each_piece : (lines : List (List ℕ)) → AllByRecursion IsLine lines → pieces (concat lines) ≡ lines
each_piece [] all = no_pieces
each_piece (line ∷ lines) all = line_then line (concat lines) all.0 ∙ ap (λ (l : List (List ℕ)). line ∷ l) (each_piece lines all.1)

module _ (signs : Signs) (clock_reached : ℕ → Type 0) (identity : OfficeSigners) (now : ℕ) (reached : clock_reached now) where
  -- the replies of lines that are answered one after the other
  replies_of : (accepted : Option ℕ) (before after : Records) (lines : List (List ℕ)) (text : List ℕ) → AllByRecursion IsLine lines
      → AnswersLinesAt accepted signs now identity before lines text after
      → (replies : List (List ℕ)) × (text ≡ concat replies) × AllZip (IsAnsweredBy (IsReplyTo signs clock_reached identity)) lines replies
  replies_of accepted before after [] text all said = ([], said.0, tt)
  replies_of accepted before after (line ∷ lines) text all (reply, rest, middle, joined, here, later) =
      let (replies, rest_is, each) = replies_of (accepted_by (meaning_in line) accepted) middle after lines rest all.1 later in (
        reply ∷ replies,
        joined ∙ ap (λ (l : List ℕ). reply ++ l) rest_is,
        ((all.0, (accepted, now, reached, before, middle, here)), each),
      )

pub each_has_its_reply : (signs : Signs) (clock_reached : ℕ → Type 0) {O : Type 0} (is_clean : O → Type 0) (stands : OfficeSigners → O → Records → Type 0)
    → EachHasItsReply signs clock_reached is_clean stands
each_has_its_reply signs clock_reached is_clean stands accepted bytes text s t identity before (front, is) leads stood clean =
    let (after, (now, reached, said), stood_after) = leads.1 identity before stood clean in
    let (line, lines, joined, first, all) = lines_of front in
    let whole : bytes ≡ concat (line ∷ lines) = is ∙ joined in
    let cut : pieces bytes ≡ line ∷ lines = ap pieces whole ∙ each_piece (line ∷ lines) (first, all) in
    let (replies, text_is, each) =
    replies_of signs clock_reached identity now reached accepted before after (line ∷ lines) text (first, all)
    (subst (λ (l : List (List ℕ)). AnswersLinesAt accepted signs now identity before l text after) cut said) in
    record {
      lines = line ∷ lines;
      replies = replies;
      bytes_are = whole;
      text_is = text_is;
      each = each;
    }
