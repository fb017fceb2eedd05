-- Lemmas about texts with one more part: of the answers, the routes and the buckets.
use Rattle.std.proofs.Common.{◌≡◌, ◌∙◌, ℕ, ◌+◌, ◌-◌, List, ◌++◌, min, refl, sym, ap, add-one, append-nil, append_assoc}
use Rattle.std.specs.Prelude.{slice_index_or}
use Rattle.reg_core.specs.declared.rows.CrlRow.{CrlRow}
use Rattle.reg_desk_metrics.specs.Metrics.{answer_text, answers_prefix, bucket_name, bucket_text, buckets_text, issued_text, route_name, route_text, routes_prefix, sum_of}
use Rattle.reg_desk_metrics.specs.Samples.{sample}
use Rattle.reg_desk_metrics.specs.declared.series_names.TheConstants.{CRL_AGE, CRL_NUMBER, NEXT_UPDATE, THIS_UPDATE}
use Rattle.reg_desk_metrics.specs.Tallies.{greatest}
use Rattle.reg_desk_metrics.specs.declared.tally.Tally.{Tally}

-- one more part after a text and a prefix
one_more : (before front text part more : List ℕ) → text ≡ before ++ front → more ≡ text ++ part → more ≡ before ++ (front ++ part)
one_more before front text part more is added = added ∙ ap (λ (it : List ℕ). it ++ part) is ∙ append_assoc before front part

-- ---- several parts, one after the other

pub further : (text before part more : List ℕ) → text ≡ before → more ≡ text ++ part → more ≡ before ++ part
further text before part more is added = added ∙ ap (λ (it : List ℕ). it ++ part) is

pub parts_3 : (t0 t1 t2 t3 a b c : List ℕ) → t1 ≡ t0 ++ a → t2 ≡ t1 ++ b → t3 ≡ t2 ++ c → t3 ≡ t0 ++ ((a ++ b) ++ c)
parts_3 t0 t1 t2 t3 a b c one two three = one_more t0 (a ++ b) t2 c t3 (one_more t0 a t1 b t2 one two) three

pub parts_4 : (t0 t1 t2 t3 t4 a b c d : List ℕ) → t1 ≡ t0 ++ a → t2 ≡ t1 ++ b → t3 ≡ t2 ++ c → t4 ≡ t3 ++ d → t4 ≡ t0 ++ (((a ++ b) ++ c) ++ d)
parts_4 t0 t1 t2 t3 t4 a b c d one two three four = one_more t0 ((a ++ b) ++ c) t3 d t4 (parts_3 t0 t1 t2 t3 a b c one two three) four

pub parts_5 : (t0 t1 t2 t3 t4 t5 a b c d e : List ℕ) → t1 ≡ t0 ++ a → t2 ≡ t1 ++ b → t3 ≡ t2 ++ c → t4 ≡ t3 ++ d → t5 ≡ t4 ++ e
    → t5 ≡ t0 ++ ((((a ++ b) ++ c) ++ d) ++ e)
parts_5 t0 t1 t2 t3 t4 t5 a b c d e one two three four five =
    one_more t0 (((a ++ b) ++ c) ++ d) t4 e t5 (parts_4 t0 t1 t2 t3 t4 a b c d one two three four) five

pub parts_6 : (t0 t1 t2 t3 t4 t5 t6 a b c d e f : List ℕ) → t1 ≡ t0 ++ a → t2 ≡ t1 ++ b → t3 ≡ t2 ++ c → t4 ≡ t3 ++ d → t5 ≡ t4 ++ e
    → t6 ≡ t5 ++ f → t6 ≡ t0 ++ (((((a ++ b) ++ c) ++ d) ++ e) ++ f)
parts_6 t0 t1 t2 t3 t4 t5 t6 a b c d e f one two three four five six =
    one_more t0 ((((a ++ b) ++ c) ++ d) ++ e) t5 f t6 (parts_5 t0 t1 t2 t3 t4 t5 a b c d e one two three four five) six

-- the text of the latest CRL, by its four numbers
pub issued_is : (t0 t1 t2 t3 t4 : List ℕ) (now : ℕ) (crl : CrlRow) (life at next age : ℕ) → t1 ≡ t0 ++ sample CRL_NUMBER.now crl.number
    → t2 ≡ t1 ++ sample THIS_UPDATE.now at → t3 ≡ t2 ++ sample NEXT_UPDATE.now next → t4 ≡ t3 ++ sample CRL_AGE.now age
    → at ≡ crl.this_update → next ≡ min (at + life) greatest → age ≡ now - at → t4 ≡ t0 ++ issued_text now crl life
unfolding issued_text
issued_is t0 t1 t2 t3 t4 now crl life at next age one two three four at_is next_is age_is =
    parts_4 t0 t1 t2 t3 t4 (sample CRL_NUMBER.now crl.number) (sample THIS_UPDATE.now at) (sample NEXT_UPDATE.now next) (sample CRL_AGE.now age) one two three four
    ∙ (λ i. t0 ++ (((sample CRL_NUMBER.now crl.number ++ sample THIS_UPDATE.now (at_is i)) ++ sample NEXT_UPDATE.now (next_by_crl i)) ++ sample CRL_AGE.now (age_by_crl i)))
  where
    next_by_crl : next ≡ min (crl.this_update + life) greatest
    next_by_crl = next_is ∙ ap (λ (it : ℕ). min (it + life) greatest) at_is

    age_by_crl : age ≡ now - crl.this_update
    age_by_crl = age_is ∙ ap (λ (it : ℕ). now - it) at_is

-- ---- answers

pub answers_begin : (text answers : List ℕ) → text ≡ text ++ answers_prefix answers 0
unfolding answers_prefix
answers_begin text answers = sym (append-nil text)

answers_next : (answers : List ℕ) (index : ℕ) → answers_prefix answers (index + 1) ≡ answers_prefix answers index ++ answer_text index (slice_index_or answers index 0)
unfolding answers_prefix
answers_next answers index = rw add-one

pub answers_more : (before text more answers : List ℕ) (index : ℕ) → text ≡ before ++ answers_prefix answers index
    → more ≡ text ++ answer_text index (slice_index_or answers index 0) → more ≡ before ++ answers_prefix answers (index + 1)
answers_more before text more answers index is added =
    one_more before (answers_prefix answers index) text (answer_text index (slice_index_or answers index 0)) more is added
    ∙ ap (λ (it : List ℕ). before ++ it) (sym (answers_next answers index))

-- ---- routes

pub routes_begin : (text : List ℕ) (tally : Tally) → text ≡ text ++ routes_prefix tally 0
unfolding routes_prefix
routes_begin text tally = sym (append-nil text)

-- the text of a route
abbrev route_at : Tally → List ℕ → ℕ → List ℕ
route_at tally name index = route_text name (slice_index_or tally.route_micros index 0) (slice_index_or tally.route_counts index 0)

routes_next : (tally : Tally) (index : ℕ) → routes_prefix tally (index + 1) ≡ routes_prefix tally index ++ route_at tally (route_name index) index
unfolding routes_prefix
routes_next tally index = rw add-one

pub routes_more : (before text more name : List ℕ) (tally : Tally) (index : ℕ) → text ≡ before ++ routes_prefix tally index
    → more ≡ text ++ route_at tally name index → name ≡ route_name index → more ≡ before ++ routes_prefix tally (index + 1)
routes_more before text more name tally index is added named =
    one_more before (routes_prefix tally index) text (route_at tally name index) more is added
    ∙ ap (λ (it : List ℕ). before ++ (routes_prefix tally index ++ route_at tally it index)) named
    ∙ ap (λ (it : List ℕ). before ++ it) (sym (routes_next tally index))

-- ---- buckets

pub sum_begin : (buckets : List ℕ) → 0 ≡ sum_of buckets 0
unfolding sum_of
sum_begin buckets = refl

sum_next : (buckets : List ℕ) (index : ℕ) → sum_of buckets (index + 1) ≡ min (sum_of buckets index + slice_index_or buckets index 0) greatest
unfolding sum_of
sum_next buckets index = rw add-one

pub sum_more : (sum more : ℕ) (buckets : List ℕ) (index : ℕ) → sum ≡ sum_of buckets index → more ≡ min (sum + slice_index_or buckets index 0) greatest
    → more ≡ sum_of buckets (index + 1)
sum_more sum more buckets index is added =
    added ∙ ap (λ (it : ℕ). min (it + slice_index_or buckets index 0) greatest) is ∙ sym (sum_next buckets index)

pub buckets_begin : (text buckets : List ℕ) → text ≡ text ++ buckets_text buckets 0
unfolding buckets_text
buckets_begin text buckets = sym (append-nil text)

buckets_next : (buckets : List ℕ) (index : ℕ)
    → buckets_text buckets (index + 1) ≡ buckets_text buckets index ++ bucket_text (bucket_name index) (sum_of buckets (index + 1))
unfolding buckets_text
buckets_next buckets index = rw add-one

pub buckets_more : (before text more name buckets : List ℕ) (index count : ℕ) → text ≡ before ++ buckets_text buckets index → more ≡ text ++ bucket_text name count
    → name ≡ bucket_name index → count ≡ sum_of buckets (index + 1) → more ≡ before ++ buckets_text buckets (index + 1)
buckets_more before text more name buckets index count is added named counted =
    one_more before (buckets_text buckets index) text (bucket_text name count) more is added
    ∙ ap (λ (it : List ℕ). before ++ (buckets_text buckets index ++ bucket_text it count)) named
    ∙ ap (λ (it : ℕ). before ++ (buckets_text buckets index ++ bucket_text (bucket_name index) it)) counted
    ∙ ap (λ (it : List ℕ). before ++ it) (sym (buckets_next buckets index))
