-- Each registered serial number is in exactly one of good, revoked and expired, and the three counts move exactly as passing
-- time and accepted commands record.
use Rattle.std.specs.Prelude.{filter, ◌==◌, nat_le, nat_lt, IsTrue, IsFalse, Ok}
use Rattle.std.specs.List.{AllByRecursion}
use Rattle.std.proofs.Common.{◌≡◌, ℕ, ◌+◌, ◌≤◌, Bool, true, false, cond, ◌&&◌, List, [], ◌∷◌, ◌++◌, length, Option, Some, None, refl, sym, ap, arith}
use Rattle.std.proofs.lemmas.Bool.Decides.{nat_tests}
use Rattle.reg_core.specs.Changes.{touched, with_certificate, with_revocation}
use Rattle.reg_core.specs.Crls.{CertList}
use Rattle.reg_core.specs.Records.{Records, certificate_in, revocation_in}
use Rattle.reg_core.specs.Sound.{Sound, SoundRows, SoundRevocation}
use Rattle.reg_core.specs.Status.{status, status_by, is_good, is_revoked, is_expired, counts, registered}
use Rattle.reg_core.specs.Step.{refusal, reply, changed, is_repeat, revocation_row, is_late}
use Rattle.reg_core.specs.declared.rows.CertRow.{CertRow}
use Rattle.reg_core.specs.declared.rows.RevocationRow.{RevocationRow}
use Rattle.reg_core.specs.declared.command.Command.{Command}
use Rattle.reg_core.specs.declared.command.Command.TheVariants.{Register, Revoke}
use Rattle.reg_core.specs.declared.command.Reply.TheVariants.{Registered, Same, Revoked as RevokedNow}
use Rattle.reg_core.specs.declared.command.Status.{Status}
use Rattle.reg_core.specs.declared.command.Status.TheVariants.{Good, Expired}
use Rattle.reg_core_laws.specs.Headline.{ExactlyOne, PartitionedByStatus, HasExactlyOneStatus, TimeMoves, ends_between, CountsMove, CountsMoveExactly}
use Rattle.reg_core_laws.proofs.Accepted.{SettleAccepted, accepted_register, accepted_revoke}
use Rattle.reg_core_laws.proofs.CountFacts.{one_if, filter_push, sum_of_two, sum_of_three, same_length, one_has}
use Rattle.reg_core_laws.proofs.Lists.{all_weaker, all_found, all_any, each_found, key_found, key_new, key_pushed}
use Rattle.reg_core_laws.proofs.Outcomes.{by_outcome}
use Rattle.reg_core_laws.proofs.Runs.{keeps_sound, run_grows}

-- IN EXACTLY ONE

-- of a certificate that is looked up
one_status : (moment : ℕ) (row : CertRow) (known : Option CertRow) (revocation : Option RevocationRow) → known ≡ Some row
    → ExactlyOne (is_good (status_by moment known revocation)) (is_revoked (status_by moment known revocation)) (is_expired (status_by moment known revocation))
one_status moment row known revocation found = grind arith

-- of all certificates of sound records
parted : (records : Records) (moment : ℕ) → SoundRows records → PartitionedByStatus records moment
parted records moment sound = record { each = each; together = sum_of_three _ _ _ records.certificates each }
  where
    each : AllByRecursion (λ row. ExactlyOne (is_good (status records row.serial moment)) (is_revoked (status records row.serial moment))
        (is_expired (status records row.serial moment))) records.certificates
    each =
        all_weaker _ _ (λ row. one_status moment row (certificate_in records.certificates row.serial) (revocation_in records.revocations row.serial))
        records.certificates (each_found (λ row. row.serial) records.certificates sound.certificates.serials_differ)

-- certificates are only ever added, and each stands in exactly one, after every run
pub stands_in_exactly_one : (signed : CertList → List ℕ → Type 0) → HasExactlyOneStatus signed
stands_in_exactly_one signed records after commands outcomes sound run =
    let grows = run_grows signed records after commands outcomes sound run in (
      (grows.more_certificates, grows.certificates),
      λ moment later below. parted after moment
          (keeps_sound signed records after commands outcomes sound run).rows,
    )

-- AS TIME PASSES

-- what time does to one certificate: its status before and after, and whether it ends between
record MovesInTime (before after : Status) (ends : Bool) : Type 0 where
  good : one_if (is_good after) + one_if ends ≡ one_if (is_good before)
  expired : one_if (is_expired before) + one_if ends ≡ one_if (is_expired after)
  revoked : is_revoked after ≡ is_revoked before
  ending : IsTrue ends → (before ≡ Good) × (after ≡ Expired)
  others : IsFalse ends → after ≡ before

-- of a certificate that is looked up
moves_at : (moment later : ℕ) (row : CertRow) (known : Option CertRow) (revocation : Option RevocationRow) → moment ≤ later → known ≡ Some row
    → MovesInTime (status_by moment known revocation) (status_by later known revocation)
    (is_good (status_by moment known revocation) && nat_le moment row.not_after && nat_lt row.not_after later)
moves_at moment later row known revocation up found = record {
  good = grind (arith, nat_tests);
  expired = grind (arith, nat_tests);
  revoked = grind (arith, nat_tests);
  ending = grind (arith, nat_tests);
  others = grind (arith, nat_tests);
}

-- of all of them, counted
time_moves : (records : Records) (moment later : ℕ) → moment ≤ later → SoundRows records → TimeMoves records moment later
time_moves records moment later up sound = record {
  good = sum_of_two _ _ _ records.certificates (all_weaker _ _ (λ row moves. moves.good) _ each);
  expired = sym (sum_of_two _ _ _ records.certificates (all_weaker _ _ (λ row moves. moves.expired) _ each));
  revoked = same_length _ _ records.certificates (all_weaker _ _ (λ row moves. moves.revoked) _ each);
  ending = all_weaker _ _ (λ row moves. moves.ending) _ each;
  others = all_weaker _ _ (λ row moves. moves.others) _ each;
}
  where
    each : AllByRecursion (λ row. MovesInTime (status records row.serial moment) (status records row.serial later)
        (ends_between records moment later row)) records.certificates
    each =
        all_weaker _ _ (λ row. moves_at moment later row (certificate_in records.certificates row.serial) (revocation_in records.revocations row.serial) up)
        records.certificates (each_found (λ row. row.serial) records.certificates sound.certificates.serials_differ)

-- AS COMMANDS ARE ACCEPTED

-- a serial number that no certificate has is not revoked
unknown_unrevoked : (records : Records) (serial : ℕ) → SoundRows records → certificate_in records.certificates serial ≡ None
    → revocation_in records.revocations serial ≡ None
unknown_unrevoked records serial sound free = go (revocation_in records.revocations serial) refl
  where
    go : (found : Option RevocationRow) → revocation_in records.revocations serial ≡ found → found ≡ None
    go None is = refl
    go (Some revocation) is =
        let holds : SoundRevocation records.last records.certificates records.requests records.crls revocation =
        all_found _ _ records.revocations revocation is sound.revocations.each in
        absurd (rw (key_found (λ row. row.serial) records.revocations serial revocation is, free) at holds.within_validity)

-- a registration adds one good certificate, whose status is none of the others'
registration_adds : (test : Status → Bool) (records : Records) (now : ℕ) (row : CertRow) → SoundRows records
    → certificate_in records.certificates row.serial ≡ None → now ≤ row.not_after
    → length (registered test (with_certificate records now row) now) ≡ length (registered test records now) + one_if (test Good)
registration_adds test records now row sound free live =
    let kept = same_length after_is (λ r. test (status records r.serial now)) records.certificates others in
    omega (arith, filter_push after_is records.certificates row, kept, ap one_if row_test)
  where
    after_is : CertRow → Bool
    after_is r = test (status (with_certificate records now row) r.serial now)

    found : (serial : ℕ)
        → certificate_in (records.certificates ++ row ∷ []) serial ≡ cond (row.serial == serial) (Some row) (certificate_in records.certificates serial)
    found serial = key_pushed (λ r. r.serial) records.certificates row serial free

    others : AllByRecursion (λ r. after_is r ≡ test (status records r.serial now)) records.certificates
    others =
        all_weaker _ _ (λ r differs. grind (arith, nat_tests, found r.serial)) records.certificates
        (key_new (λ r. r.serial) records.certificates row.serial free)

    row_test : after_is row ≡ test Good
    row_test = grind (arith, nat_tests, found row.serial, unknown_unrevoked records row.serial sound free)

-- what a revocation does to one certificate: it is the revoked one, which was good, or its status stays
record MovesByRevocation (before after : Status) (here : Bool) : Type 0 where
  good : one_if (is_good after) + one_if here ≡ one_if (is_good before)
  revoked : one_if (is_revoked before) + one_if here ≡ one_if (is_revoked after)
  expired : is_expired after ≡ is_expired before

revocation_moves : (records : Records) (now : ℕ) (certificate : CertRow) (revocation : RevocationRow)
    → certificate_in records.certificates revocation.serial ≡ Some certificate
    → revocation_in records.revocations revocation.serial ≡ None → now ≤ certificate.not_after → (row : CertRow)
    → MovesByRevocation (status records row.serial now) (status (with_revocation records now revocation) row.serial now) (row.serial == revocation.serial)
revocation_moves records now certificate revocation known unrevoked live row =
    moves (key_pushed (λ r. r.serial) records.revocations revocation row.serial unrevoked)
  where
    moves : revocation_in (records.revocations ++ revocation ∷ []) row.serial ≡ cond (revocation.serial == row.serial) (Some revocation)
        (revocation_in records.revocations row.serial)
        → MovesByRevocation (status records row.serial now) (status (with_revocation records now revocation) row.serial now) (row.serial == revocation.serial)
    moves found = record { good = grind (arith, nat_tests); revoked = grind (arith, nat_tests); expired = grind (arith, nat_tests) }

-- so one moves from good to revoked
revoked_counts : (records : Records) (now id : ℕ) (late : Bool) → SoundRows records → (is : SettleAccepted records now id)
    → CountsMove (counts records now) (Ok (RevokedNow late)) (counts (with_revocation records now (revocation_row records now is.request)) now)
revoked_counts records now id late sound is =
    let here : CertRow → Bool = λ row. row.serial == is.request.serial in
    let one : length (filter here records.certificates) ≡ 1 =
    one_has (λ row. row.serial) is.request.serial records.certificates is.certificate sound.certificates.serials_differ is.registered in
    let good : length (registered is_good after now) + length (filter here records.certificates) ≡ length (registered is_good records now) =
    sum_of_two _ _ _ records.certificates (all_any _ (λ row. (moves row).good) _) in
    let revoked : length (registered is_revoked records now) + length (filter here records.certificates) ≡ length (registered is_revoked after now) =
    sum_of_two _ _ _ records.certificates (all_any _ (λ row. (moves row).revoked) _) in
    (omega arith, omega arith, same_length _ _ records.certificates (all_any _ (λ row. (moves row).expired) _))
  where
    after : Records
    after = with_revocation records now (revocation_row records now is.request)

    moves : (row : CertRow) → MovesByRevocation (status records row.serial now) (status after row.serial now) (row.serial == is.request.serial)
    moves = revocation_moves records now is.certificate (revocation_row records now is.request) is.registered is.not_revoked is.live

-- the counts after an accepted command
command_counts : (records : Records) (now : ℕ) (command : Command) (bytes : List ℕ) → SoundRows records → refusal records now command ≡ None
    → CountsMove (counts records now) (Ok (reply records now command)) (counts (changed records now command bytes) now)
command_counts records now (Register order serial not_before not_after) bytes sound accepted =
    go (is_repeat records (Register order serial not_before not_after)) refl
  where
    row : CertRow
    row = record { serial = serial; order = order; not_before = not_before; not_after = not_after }

    go : (repeat : Bool) → is_repeat records (Register order serial not_before not_after) ≡ repeat
        → CountsMove (counts records now) (Ok (cond repeat Same Registered)) (counts (cond repeat (touched records now) (with_certificate records now row)) now)
    go true e = refl
    go false e =
        let is = accepted_register records now order serial not_before not_after accepted e in
        let adds = λ (test : Status → Bool). registration_adds test records now row sound is.free_serial is.live in
        (adds is_good, omega (arith, adds is_revoked), omega (arith, adds is_expired))
command_counts records now (Revoke id) bytes sound accepted =
    let is = accepted_revoke records now id sound accepted in
    rw is.found (revoked_counts records now id (is_late records now id) sound is)
command_counts records now command bytes sound accepted = refl

-- over every run
pub counts_move_exactly : (signed : CertList → List ℕ → Type 0) → CountsMoveExactly signed
counts_move_exactly signed records before next front early now command outcome sound run happens =
    let known : Sound signed before = keeps_sound signed records before front early sound run in (
      by_outcome signed before now command (λ result after. CountsMove (counts before now) result (counts after now)) (λ fault. refl)
          (λ bytes accepted over. command_counts before now command bytes known.rows accepted) outcome next happens,
      λ moment later up. time_moves before moment later up known.rows,
    )
