-- The letters and their counts, as time passes, as a certificate is new and as one is revoked.
use Rattle.std.proofs.Common.{◌≡◌, ◌+◌, ◌-◌, ◌≤◌, ℕ, Bool, true, false, cond, ◌&&◌, List, [], ◌∷◌, ◌++◌, map, filter, length, refl, sym, ap, ◌∙◌, arith}
use Rattle.std.proofs.lemmas.List.{length-map}
use Rattle.sqlite_trees.proofs.ListLemmas.{filter-map}
use Rattle.reg_core.specs.declared.command.Counts.{Counts}
use Rattle.reg_store_tables.specs.DerivedRows.{Letter, good, revoked, expired, is_good_letter, ends_before, Standing, is_revoked_letter, is_expired_letter, with_letter, letter_counts, turned}
use Rattle.reg_core_laws.proofs.PublicLaws.{one_if, sum_of_two, same_length, all_any}
use Rattle.reg_store_changes.specs.DerivedEffects.{lettered, is_good_at, shifted}
use Rattle.reg_store_tables.proofs.PublicLaws.{same_counts}

-- ---- some good ones are turned

module _ (q : Standing → Bool) (to : Letter) (only : (row : Standing) → q row ≡ true → row.letter ≡ good) where
  abbrev turn : Standing → Standing
  turn = turned q (lettered to)

  after : (test : Letter → Bool) (rows : List Standing) → with_letter test (map turn rows) ≡ length (filter (λ row. test (turn row).letter) rows)
  after test rows = ap length (filter-map (λ (row : Standing). test row.letter) turn rows) ∙ length-map _ _

  -- the letter that they had
  lost_one : (test : Letter → Bool) → test good ≡ true → test to ≡ false → (row : Standing) → one_if (test (turn row).letter) + one_if (q row) ≡ one_if (test row.letter)
  lost_one test had lacks row = go (q row) (only row)
    where
      go : (b : Bool) → (b ≡ true → row.letter ≡ good) → one_if (test (cond b (lettered to row) row).letter) + one_if b ≡ one_if (test row.letter)
      go true has = ap (λ x. one_if x + 1) lacks ∙ sym (ap one_if (ap test (has refl) ∙ had))
      go false has = omega arith

  -- the letter that they have
  won_one : (test : Letter → Bool) → test good ≡ false → test to ≡ true → (row : Standing) → one_if (test row.letter) + one_if (q row) ≡ one_if (test (turn row).letter)
  won_one test lacks is row = go (q row) (only row)
    where
      go : (b : Bool) → (b ≡ true → row.letter ≡ good) → one_if (test row.letter) + one_if b ≡ one_if (test (cond b (lettered to row) row).letter)
      go true has = ap (λ x. one_if x + 1) (ap test (has refl) ∙ lacks) ∙ sym (ap one_if is)
      go false has = omega arith

  -- another letter
  spared_one : (test : Letter → Bool) → test good ≡ test to → (row : Standing) → test (turn row).letter ≡ test row.letter
  spared_one test same row = go (q row) (only row)
    where
      go : (b : Bool) → (b ≡ true → row.letter ≡ good) → test (cond b (lettered to row) row).letter ≡ test row.letter
      go true has = sym same ∙ sym (ap test (has refl))
      go false has = refl

  pub fewer : (test : Letter → Bool) → test good ≡ true → test to ≡ false → (rows : List Standing) → with_letter test (map turn rows) + length (filter q rows) ≡ with_letter test rows
  fewer test had lacks rows = ap (λ n. n + length (filter q rows)) (after test rows)
      ∙ sum_of_two (λ row. test (turn row).letter) q (λ (row : Standing). test row.letter) rows (all_any _ (lost_one test had lacks) rows)

  pub more : (test : Letter → Bool) → test good ≡ false → test to ≡ true → (rows : List Standing) → with_letter test rows + length (filter q rows) ≡ with_letter test (map turn rows)
  more test lacks is rows = sum_of_two (λ (row : Standing). test row.letter) q (λ row. test (turn row).letter) rows (all_any _ (won_one test lacks is) rows) ∙ sym (after test rows)

  pub same_many : (test : Letter → Bool) → test good ≡ test to → (rows : List Standing) → with_letter test (map turn rows) ≡ with_letter test rows
  same_many test same rows = after test rows ∙ same_length (λ row. test (turn row).letter) (λ (row : Standing). test row.letter) rows (all_any _ (spared_one test same) rows)

and_first : (a b : Bool) → (a && b) ≡ true → a ≡ true
and_first true b h = refl
and_first false b h = h

and_second : (a b : Bool) → (a && b) ≡ true → b ≡ true
and_second true b h = h
and_second false b h = absurd (cc)

good_letter : (letter : Letter) → is_good_letter letter ≡ true → letter ≡ good
good_letter good h = refl
good_letter revoked h = absurd (cc)
good_letter expired h = absurd (cc)

ended_good : (now : ℕ) (row : Standing) → ends_before now row ≡ true → row.letter ≡ good
ended_good now row h = good_letter row.letter (and_first _ _ h)

at_good : (serial : ℕ) (row : Standing) → is_good_at serial row ≡ true → row.letter ≡ good
at_good serial row h = good_letter row.letter (and_second _ _ h)

-- ---- the counts as they move

-- as time passes
pub counts_swept : (now : ℕ) (rows : List Standing) → shifted (letter_counts rows) (length (filter (ends_before now) rows)) 0 0 ≡ letter_counts (map (turned (ends_before now) (lettered expired)) rows)
counts_swept now rows =
    let good_ones = fewer (ends_before now) expired (ended_good now) is_good_letter refl refl rows in
    let revoked_ones = same_many (ends_before now) expired (ended_good now) is_revoked_letter refl rows in
    let expired_ones = more (ends_before now) expired (ended_good now) is_expired_letter refl refl rows in
    same_counts _ _ (omega arith) (omega arith) (omega arith)

-- as one more is good
pub counts_good : (ended serial not_after : ℕ) (base : Counts) (rows : List Standing) → shifted base ended 0 0 ≡ letter_counts rows → ended ≤ base.good
    → shifted base ended 0 1 ≡ letter_counts (rows ++ (record { serial = serial; not_after = not_after; letter = good }) ∷ [])
counts_good ended serial not_after base rows is enough =
    let new : Standing = record { serial = serial; not_after = not_after; letter = good } in
    let g : base.good + 0 - (ended + 0) ≡ with_letter is_good_letter rows = ap (λ (c : Counts). c.good) is in
    let r : base.revoked + 0 ≡ with_letter is_revoked_letter rows = ap (λ (c : Counts). c.revoked) is in
    let x : base.expired + ended ≡ with_letter is_expired_letter rows = ap (λ (c : Counts). c.expired) is in
    let pg : with_letter is_good_letter (rows ++ new ∷ []) ≡ with_letter is_good_letter rows + 1 = pushed is_good_letter new rows in
    let pr : with_letter is_revoked_letter (rows ++ new ∷ []) ≡ with_letter is_revoked_letter rows + 0 = pushed is_revoked_letter new rows in
    let px : with_letter is_expired_letter (rows ++ new ∷ []) ≡ with_letter is_expired_letter rows + 0 = pushed is_expired_letter new rows in
    same_counts _ _ (omega arith) (omega arith) (omega arith)
  where
    pushed : (test : Letter → Bool) (new : Standing) (those : List Standing) → with_letter test (those ++ new ∷ []) ≡ with_letter test those + one_if (test new.letter)
    pushed test new [] = only_one (test new.letter)
      where
        only_one : (b : Bool) → length (cond b (new ∷ []) []) ≡ 0 + one_if b
        only_one true = refl
        only_one false = refl
    pushed test new (row ∷ those) = go (test row.letter) (pushed test new those)
      where
        go : (b : Bool) → with_letter test (those ++ new ∷ []) ≡ with_letter test those + one_if (test new.letter)
            → length (cond b (row ∷ filter (λ (other : Standing). test other.letter) (those ++ new ∷ [])) (filter (λ (other : Standing). test other.letter) (those ++ new ∷ [])))
            ≡ length (cond b (row ∷ filter (λ (other : Standing). test other.letter) those) (filter (λ (other : Standing). test other.letter) those)) + one_if (test new.letter)
        go true rest = omega arith
        go false rest = rest

-- as one of the good ones is revoked
pub counts_revoked : (ended serial : ℕ) (base : Counts) (rows : List Standing) → shifted base ended 0 0 ≡ letter_counts rows → length (filter (is_good_at serial) rows) ≡ 1 → ended ≤ base.good
    → shifted base ended 1 0 ≡ letter_counts (map (turned (is_good_at serial) (lettered revoked)) rows)
counts_revoked ended serial base rows is one enough =
    let g : base.good + 0 - (ended + 0) ≡ with_letter is_good_letter rows = ap (λ (c : Counts). c.good) is in
    let r : base.revoked + 0 ≡ with_letter is_revoked_letter rows = ap (λ (c : Counts). c.revoked) is in
    let x : base.expired + ended ≡ with_letter is_expired_letter rows = ap (λ (c : Counts). c.expired) is in
    let good_ones = fewer (is_good_at serial) revoked (at_good serial) is_good_letter refl refl rows in
    let revoked_ones = more (is_good_at serial) revoked (at_good serial) is_revoked_letter refl refl rows in
    let expired_ones = same_many (is_good_at serial) revoked (at_good serial) is_expired_letter refl rows in
    same_counts _ _ (omega arith) (omega arith) (omega arith)

-- no more than the good ones end
pub ended_enough : (now : ℕ) (rows : List Standing) → length (filter (ends_before now) rows) ≤ with_letter is_good_letter rows
ended_enough now rows = let good_ones = fewer (ends_before now) expired (ended_good now) is_good_letter refl refl rows in omega arith
