use Rattle.std.proofs.Common.{◌≡◌, ℕ, List, ◌++◌, Some, sym, ap, ◌∙◌}
use Rattle.std.proofs.lemmas.List.{append_cancel_left}
use Rattle.reg_core_lists.specs.FeedLines.{page_head}
use Rattle.reg_core_lists.specs.FeedReading.{head_read}
use Rattle.reg_core_lists.specs.ReceivedPages.{HeadTerms, fields_of_terms, head_fields_of, head_terms_of, head_terms_text}
use Rattle.reg_core_lists.proofs.LinesRead.{head_found}
use Rattle.reg_core_lists.proofs.PartsRead.{none_some, some_same, written_is}
use Rattle.reg_core_lists.proofs.feed_reader.read_head.Goals as goal

pub returns-in-None-clause-only : goal.returns-in-None-clause-only
returns-in-None-clause-only c head rest ok is =
    none_some (fields_of_terms head) (c.in-None.ensures ∙ ap head_read is ∙ head_found head rest ok)

pub returns-in-None-2-clause-only : goal.returns-in-None-2-clause-only
returns-in-None-2-clause-only c head rest ok is =
    let read : Some (head_fields_of c.in-Some.fields) ≡ Some (fields_of_terms head) = c.in-Some.ensures ∙ ap head_read is ∙ head_found head rest ok in
    let found = c.in_ok-head.ensures.only head ok (some_same _ _ read) in
    rw c.in-None-2.is at found

pub returns-in-Some-after_prefix-clause-only : goal.returns-in-Some-after_prefix-clause-only
returns-in-Some-after_prefix-clause-only c head rest ok is =
    let read : Some (head_fields_of c.in-Some.fields) ≡ Some (fields_of_terms head) = c.in-Some.ensures ∙ ap head_read is ∙ head_found head rest ok in
    let found = c.in_ok-head.ensures.only head ok (some_same _ _ read) in
    let same : head_terms_of c.in-Some-2.head ≡ head = rw c.in-Some-2.is at found in
    let written : c.deref-3.result.now ≡ head_terms_text (head_terms_of c.in-Some-2.head) =
    written_is _ _ _ _ c.deref-3.ensures.value c.in_ok-put_head.ensures c.new-text.ensures.items
    ∙ (λ i. page_head (c.deref.ensures.value i) (c.deref-2.ensures.value i) c.in-Some-2.head.policy c.in-Some-2.head.last) in
    let whole : head_terms_text head ++ c.in-Some-after_prefix.rest.now ≡ head_terms_text head ++ rest =
    ap (λ (it : HeadTerms). head_terms_text it ++ c.in-Some-after_prefix.rest.now) (sym same)
    ∙ ap (λ (text : List ℕ). text ++ c.in-Some-after_prefix.rest.now) (sym written) ∙ sym c.in-Some-after_prefix.ensures.text ∙ is in
    (same, append_cancel_left (head_terms_text head) c.in-Some-after_prefix.rest.now rest whole)

pub returns-clause-only : goal.returns-clause-only
returns-clause-only c head rest ok is =
    let read : Some (head_fields_of c.in-Some.fields) ≡ Some (fields_of_terms head) = c.in-Some.ensures ∙ ap head_read is ∙ head_found head rest ok in
    let found = c.in_ok-head.ensures.only head ok (some_same _ _ read) in
    let same : head_terms_of c.in-Some-2.head ≡ head = rw c.in-Some-2.is at found in
    let written : c.deref-3.result.now ≡ head_terms_text (head_terms_of c.in-Some-2.head) =
    written_is _ _ _ _ c.deref-3.ensures.value c.in_ok-put_head.ensures c.new-text.ensures.items
    ∙ (λ i. page_head (c.deref.ensures.value i) (c.deref-2.ensures.value i) c.in-Some-2.head.policy c.in-Some-2.head.last) in
    c.in-None-after_prefix.ensures.text rest (is ∙ sym (ap (λ (text : List ℕ). text ++ rest) (written ∙ ap (λ
    (it : HeadTerms). head_terms_text it) same)))
