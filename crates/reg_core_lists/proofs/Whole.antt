-- The pages of a list, one after another, have its rows.
use Rattle.std.proofs.Common.{◌≡◌, ◌+◌, ◌-◌, ◌==◌, ℕ, zero, suc, List, [], ◌∷◌, ◌++◌, append-nil, length, map, take, drop, Option, None, Some, refl, sym, ap, ◌∙◌, arith, inl, inr}
use Rattle.std.specs.Prelude.{filter_map}
use Rattle.std.proofs.lemmas.Bool.{cases_Bool}
use Rattle.std.proofs.lemmas.Bool.Decides.{nat_tests}
use Rattle.reg_core.specs.Records.{Records, Crl}
use Rattle.reg_core.specs.Sound.{KeysDiffer, SoundRows}
use Rattle.reg_core.specs.declared.rows.CertRow.{CertRow}
use Rattle.reg_core.specs.declared.rows.OrderRow.{OrderRow}
use Rattle.reg_core.specs.declared.rows.RequestRow.{RequestRow}
use Rattle.reg_core.specs.declared.rows.RevocationRow.{RevocationRow}
use Rattle.reg_core.specs.declared.rows.SubscriberRow.{SubscriberRow}
use Rattle.reg_core.specs.AscendingRows.{key_of, past}
use Rattle.reg_core_lists.specs.Lists.{certificate_row, crl_row, expiring_row, history_row, next_cursor, open_row, order_row, overdue_row, page, revoked_row, rows_from, subscriber_row}
use Rattle.reg_core_lists.specs.Pages.{ArePages}
use Rattle.reg_core_lists.specs.declared.cursor.Cursor.{Cursor}
use Rattle.reg_core_lists.specs.declared.cursor.Cursor.TheVariants.{Revoked, Certificates, Ending, OpenRequests, Overdue, Requests, Subscribers, Orders, Crls}
use Rattle.reg_core_lists.specs.declared.rows.Row.{Row}
use Rattle.reg_core.proofs.PublicLaws.{last_of, numbers_differ, past_behind, taken_whole}

-- the rows behind a page: those from where the next one goes on, or none
abbrev pub rest_of : Records → ℕ → Option Cursor → List Row
rest_of records now None = []
rest_of records now (Some next) = rows_from records now next

split_at : {A B : Type 0} (f : A → Option B) (n : ℕ) (xs : List A) → filter_map f xs ≡ filter_map f (take n xs) ++ filter_map f (drop n xs)
split_at f zero xs = refl
split_at f (suc n) [] = refl
split_at f (suc n) (x ∷ xs) = grind (arith, split_at f n xs)

module _ (records : Records) (now m : ℕ) where
  -- one page of rows of a kind, whose list from a key on is known
  step_over : {A : Type 0} (key : A → ℕ) (row_for : A → Option Row) (at : ℕ → Cursor) (xs : List A) → KeysDiffer key xs → ((k : ℕ) → rows_from records now (at k) ≡ filter_map row_for (past key k xs)) → (after : ℕ)
      → filter_map row_for (past key after xs) ≡ filter_map row_for (take (suc m) (past key after xs)) ++ rest_of records now (next_cursor at (suc m) (map key (take (suc m) (past key after xs))))
  step_over key row_for at xs differ list after =
      let rows = past key after xs in
      let keys = map key (take (suc m) rows) in
      elim (cases_Bool (length keys == suc m)) [
        | inl full ↦
            let size : length keys ≡ suc m = grind (arith, nat_tests) in
            let last = last_of key m rows size in
            let index : length keys - 1 ≡ m = omega (arith, size) in
            let next : next_cursor at (suc m) keys ≡ Some (at (key last.0)) = rw (full, index, last.2) in
            rw next (split_at row_for (suc m) rows ∙ ap (λ l. filter_map row_for (take (suc m) rows) ++ l)
            (sym (list (key last.0) ∙ ap (filter_map row_for) (past_behind key xs differ after m last.0 last.1))))
        | inr short ↦
            let part : length keys ≡ suc m → ⊥ = (λ full. grind (arith, nat_tests)) in
            let next : next_cursor at (suc m) keys ≡ None = rw short in
            rw next (sym (append-nil (filter_map row_for rows)) ∙ ap (λ l. filter_map row_for l ++ []) (sym (taken_whole key (suc m) rows part)))
      ]

  -- a page, and then the list from where the next one goes on
  pub page_step : SoundRows records → (from : Cursor) → rows_from records now from ≡ (page records now (suc m) from).rows ++ rest_of records now (page records now (suc m) from).next
  page_step sound (Revoked after) =
      step_over (λ (row : RevocationRow). row.serial) (revoked_row records now) (λ serial. Revoked (Some serial)) records.revocations sound.revocations.serials_differ (λ k. refl) (key_of after)
  page_step sound (Certificates after) =
      step_over (λ (row : CertRow). row.serial) (certificate_row records now) (λ serial. Certificates (Some serial)) records.certificates sound.certificates.serials_differ (λ k. refl) (key_of after)
  page_step sound (Ending before after) =
      step_over (λ (row : CertRow). row.serial) (expiring_row records now before) (λ serial. Ending before (Some serial)) records.certificates sound.certificates.serials_differ (λ k. refl) (key_of after)
  page_step sound (OpenRequests after) =
      step_over (λ (row : RequestRow). row.id) (open_row records now) (λ id. OpenRequests id) records.requests
      (numbers_differ (λ (row : RequestRow). row.id) 1 records.requests sound.requests.numbered) (λ k. refl) after
  page_step sound (Overdue after) =
      step_over (λ (row : RequestRow). row.id) (overdue_row records now) (λ id. Overdue id) records.requests
      (numbers_differ (λ (row : RequestRow). row.id) 1 records.requests sound.requests.numbered) (λ k. refl) after
  page_step sound (Requests after) =
      step_over (λ (row : RequestRow). row.id) (history_row records now) (λ id. Requests id) records.requests
      (numbers_differ (λ (row : RequestRow). row.id) 1 records.requests sound.requests.numbered) (λ k. refl) after
  page_step sound (Subscribers after) =
      step_over (λ (row : SubscriberRow). row.id) subscriber_row (λ id. Subscribers id) records.subscribers
      (numbers_differ (λ (row : SubscriberRow). row.id) 1 records.subscribers sound.subscribers.numbered) (λ k. refl) after
  page_step sound (Orders after) =
      step_over (λ (row : OrderRow). row.id) (order_row records) (λ id. Orders id) records.orders
      (numbers_differ (λ (row : OrderRow). row.id) 1 records.orders sound.orders.numbered) (λ k. refl) after
  page_step sound (Crls after) =
      step_over (λ (crl : Crl). crl.number) crl_row (λ number. Crls number) records.crls
      (numbers_differ (λ (crl : Crl). crl.number) 1 records.crls sound.crls.numbered) (λ k. refl) after

  -- pages one behind the other have the rows of the list
  pub pages_have : SoundRows records → (next : Option Cursor) (rows : List Row) (pages : List (List Row)) → ArePages records now (suc m) next rows pages → rows ≡ rest_of records now next
  pages_have sound None rows [] are = are
  pages_have sound None rows (first ∷ rest) are = absurd are
  pages_have sound (Some from) rows [] are = absurd are
  pages_have sound (Some from) rows (first ∷ rest) are =
      let others = pages_have sound (page records now (suc m) from).next are.1.0 rest are.1.2 in
      are.1.1 ∙ (λ i. are.0 i ++ others i) ∙ sym (page_step sound from)
