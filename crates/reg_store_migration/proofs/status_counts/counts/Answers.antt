use Rattle.std.proofs.Common.{◌≡◌, codes, refl, sym, subst}
use Rattle.std.specs.Prelude.{bytes_eq}
use Rattle.sqlite.specs.Effect.{Database}
use Rattle.sqlite.proofs.Callers.{unchanged_then}
use Rattle.reg_store_tables.specs.DerivedRows.{Letter, good, revoked, expired, letter_text, is_good_letter, is_revoked_letter, is_expired_letter}
use Rattle.reg_store_tables.specs.Shows.{AreRecordsAndDerived}
use Rattle.reg_store_tables.proofs.PublicLaws.{is_g, stepped_clean}
use Rattle.reg_store_migration.proofs.status_counts.counts.Goals as goal

is_r : (letter : Letter) → bytes_eq (letter_text letter) (codes "R") ≡ is_revoked_letter letter
is_r good = refl
is_r revoked = refl
is_r expired = refl

is_x : (letter : Letter) → bytes_eq (letter_text letter) (codes "X") ≡ is_expired_letter letter
is_x good = refl
is_x revoked = refl
is_x expired = refl

pub returns-clause-asked : goal.returns-clause-asked
returns-clause-asked g c clean =
    let clean2 = stepped_clean c.count_letter-3.ensures.stepped clean in
    let goods = c.in_ok-good.ensures.asked (stepped_clean c.count_letter-2.ensures.stepped clean2) in
    let revokeds = c.in_ok-revoked.ensures.asked clean2 in
    let expireds = c.in_ok-expired.ensures.asked clean in (
      unchanged_then _ _ _ (unchanged_then _ _ _ goods.0 revokeds.0) expireds.0,
      λ records columns few both.
          let both1 = subst (λ (d : Database). AreRecordsAndDerived d records columns) (sym goods.0.0.now_is) both in
          let both2 = subst (λ (d : Database). AreRecordsAndDerived d records columns) (sym revokeds.0.0.now_is) both1 in
          let good_is = goods.1 records columns few both is_good_letter is_g in
          let revoked_is = revokeds.1 records columns few both1 is_revoked_letter is_r in
          let expired_is = expireds.1 records columns few both2 is_expired_letter is_x in
          λ i. record { good = good_is i; revoked = revoked_is i; expired = expired_is i },
    )
