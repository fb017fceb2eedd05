-- Rows that are copied part by part: the parts behind one another are the whole table.
use Rattle.std.proofs.Common.{◌≡◌, ◌∙◌, ◌≤◌, ◌<◌, ◌+◌, ℕ, List, [], ◌∷◌, ◌++◌, length, take, drop, sym, ap, le_refl, arith, append-nil, append_assoc, length-append}
use Rattle.std.specs.Prelude.{IsTrue, flat_map}
use Rattle.std.proofs.Math.Seq.{drop-append_seam}
use Rattle.std.proofs.lemmas.List.{take-append-drop, length-take, take_all}
use Rattle.reg_core.specs.Records.{Records}
use Rattle.reg_core.specs.Sound.{SoundRows}
use Rattle.reg_core_laws.specs.Extends.{OnlyAdded}
use Rattle.reg_core_lists.specs.declared.feed_reader.ReceivedPage.{ReceivedPage}
use Rattle.reg_core_lists.specs.declared.positions.Declines.{Declines}
use Rattle.reg_core_lists.specs.declared.positions.RowCounts.{RowCounts}
use Rattle.reg_office_api.specs.FollowedLeaders.{AreFeedPages, IsLeader, IsPageOf, OnlyAddsRows}
use Rattle.reg_office_api.proofs.LeaderStates.{added_on, grown}

pub first_rows : {Row : Type 0} (n : ℕ) (rows : List Row) → OnlyAdded (take n rows) rows
first_rows n rows = (drop n rows, sym (take-append-drop n rows))

-- a part with fewer rows than fit is all that is left
pub part_whole : {Row : Type 0} (n : ℕ) (rows : List Row) → length (take n rows) < n → take n rows ≡ rows
part_whole n rows few = take_all n rows (let size = length-take n rows in omega (arith, size, few))

-- the rows after those that were copied
left_rows : {Row : Type 0} (had rest all : List Row) (count : ℕ) → all ≡ had ++ rest → count ≡ length had → drop count all ≡ rest
left_rows had rest all count is same = ap (λ n. drop n all) same ∙ ap (drop (length had)) is ∙ drop-append_seam had rest

next_rows : {Row : Type 0} (had all rows : List Row) (count : ℕ) → OnlyAdded had all → count ≡ length had → OnlyAdded rows (drop count all)
    → OnlyAdded (had ++ rows) all
next_rows had all rows count (rest, is) same (more, part) =
    (more, is ∙ ap (λ l. had ++ l) (sym (left_rows had rest all count is same) ∙ part) ∙ sym (append_assoc had rows more))

last_rows : {Row : Type 0} (had all rows : List Row) (count : ℕ) → OnlyAdded had all → count ≡ length had → rows ≡ drop count all
    → had ++ rows ≡ all
last_rows had all rows count (rest, is) same part = ap (λ l. had ++ l) (part ∙ left_rows had rest all count is same) ∙ sym is

-- the last of pages, or another one if there is none
abbrev pub last_or : ReceivedPage → List ReceivedPage → ReceivedPage
last_or other [] = other
last_or other (page ∷ pages) = last_or page pages

-- one table, whose rows in a page are `rows`, and of which `count` rows are copied
module _ (leader : ℕ → Records) (is : IsLeader leader) {Row : Type 0} (table : Records → List Row) (rows : ReceivedPage → List Row) (count : RowCounts → ℕ)
    (grows : (before after : Records) → OnlyAddsRows before after → OnlyAdded (table before) (table after))
    (counted : (records : Records) (counts : RowCounts) (declines : Declines) (page : ReceivedPage) → IsPageOf records counts declines page
    → count page.positions.counts ≡ count counts + length (rows page))
    (part : (records : Records) (counts : RowCounts) (declines : Declines) (page : ReceivedPage) → IsPageOf records counts declines page
    → OnlyAdded (rows page) (drop (count counts) (table records)))
    (whole : (records : Records) (counts : RowCounts) (declines : Declines) (page : ReceivedPage) → SoundRows records → IsPageOf records counts declines page
    → IsTrue page.ends → rows page ≡ drop (count counts) (table records)) where
  -- all its rows are copied, and counted
  pub table_copied : (pages : List ReceivedPage) (other : ReceivedPage) (had : List Row) (earlier since at : ℕ) (counts : RowCounts) (declines : Declines) → earlier ≤ since
      → OnlyAdded had (table (leader earlier)) → count counts ≡ length had → AreFeedPages leader since counts declines pages at
      → (had ++ flat_map rows pages ≡ table (leader at)) × (count (last_or other pages).positions.counts ≡ length (table (leader at)))
  table_copied [] other had earlier since at counts declines order begun same are = absurd are
  table_copied (page ∷ []) other had earlier since at counts declines order begun same (later, is_page, ends) =
      let here = added_on had _ _ begun (grows _ _ (grown leader is earlier at (omega (arith, order, later)))) in
      let all = last_rows had (table (leader at)) (rows page) (count counts) here same (whole (leader at) counts declines page (is.sound at) is_page ends) in
      let size = counted (leader at) counts declines page is_page ∙ ap (λ n. n + length (rows page)) same ∙ sym (length-append had (rows page)) in
      (ap (λ l. had ++ l) (append-nil (rows page)) ∙ all, size ∙ ap length all)
  table_copied (page ∷ next ∷ pages) other had earlier since at counts declines order begun same (state, later, is_page, others) =
      let here = added_on had _ _ begun (grows _ _ (grown leader is earlier state (omega (arith, order, later)))) in
      let more = next_rows had (table (leader state)) (rows page) (count counts) here same (part (leader state) counts declines page is_page) in
      let size = counted (leader state) counts declines page is_page ∙ ap (λ n. n + length (rows page)) same ∙ sym (length-append had (rows page)) in
      let rest = table_copied (next ∷ pages) page (had ++ rows page) state state at page.positions.counts page.positions.declines (le_refl state) more size others in
      (sym (append_assoc had (rows page) (flat_map rows (next ∷ pages))) ∙ rest.0, rest.1)
