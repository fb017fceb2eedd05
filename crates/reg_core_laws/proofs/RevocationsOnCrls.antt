-- CRLs over runs: which ones list a revocation after its command, and that recorded CRLs stay the same.
use Rattle.std.proofs.Common.{◌≡◌, ◌↔◌, ℕ, ◌+◌, ◌<◌, ◌≤◌, List, [], ◌∷◌, ◌++◌, length, Bool, Some, Ok, IsTrue, IsFalse, refl, sym, ap, ◌∙◌, subst, arith}
use Rattle.std.specs.List.{AllByRecursion}
use Rattle.std.proofs.lemmas.Bool.Decides.{nat_tests}
use Rattle.reg_core.specs.Crls.{CertList, cert_list, is_listed_on, next_number}
use Rattle.reg_core.specs.Records.{Records, Crl, certificate_in, revocation_in}
use Rattle.reg_core.specs.Sound.{SoundRows, NumberedFrom}
use Rattle.reg_core.specs.Step.{reply, changed}
use Rattle.reg_core.specs.declared.rows.CertRow.{CertRow}
use Rattle.reg_core.specs.declared.rows.RevocationRow.{RevocationRow}
use Rattle.reg_core.specs.declared.command.Command.{Command}
use Rattle.reg_core.specs.declared.command.Reply.TheVariants.{Revoked as RevokedNow}
use Rattle.reg_core_laws.specs.Headline.{lists, NonePastBetween, ListedByCrls, ListsRevoked}
use Rattle.reg_core_laws.specs.History.{HistoryIsKept}
use Rattle.reg_core_laws.proofs.Contents.{next_is, content_kept, cert_list_kept}
use Rattle.reg_core_laws.proofs.Listed.{on_means, lists_is, RevokedCertificate, certificate_of, due_entries, listed_from_first_to_last}
use Rattle.reg_core_laws.proofs.Lists.{all_front, all_back, all_weaker, each_found, key_found, numbered_above, numbered_below}
use Rattle.reg_core_laws.proofs.ListFacts.{numbered_back}
use Rattle.reg_core_laws.proofs.Outcomes.{by_outcome}
use Rattle.reg_core_laws.proofs.Revoked.{revocations_move_exactly}
use Rattle.reg_core_laws.proofs.Runs.{keeps_sound, step_keeps_sound, run_grows}

-- A REVOCATION

-- before its first CRL none lists a revocation; from that one on, one lists it just while none before it was issued past the end
while_none_past : (records : Records) (revocation : RevocationRow) (certificate : CertRow) (n : ℕ) → SoundRows records
    → certificate_in records.certificates revocation.serial ≡ Some certificate
    → revocation_in records.revocations certificate.serial ≡ Some revocation
    → (n < revocation.first → IsFalse (lists records n certificate.serial))
    × (revocation.first ≤ n → IsTrue (lists records n certificate.serial) ↔ NonePastBetween records.crls revocation.first n certificate.not_after)
while_none_past records revocation certificate n sound registered stands =
    let is : lists records n certificate.serial ≡ is_listed_on records.certificates records.crls n revocation =
    lists_is records n certificate.serial revocation sound stands in
    let means = on_means records.certificates records.crls n revocation certificate registered in
    (λ less. is ∙ too_early less, λ can. (λ listed. (means.0 (sym is ∙ listed)).1, λ none. is ∙ means.1 (can, none)))
  where
    too_early : n < revocation.first → IsFalse (is_listed_on records.certificates records.crls n revocation)
    too_early less = grind (arith, nat_tests)

-- a revocation that was entered at the end, with the next CRL number as its first, as the CRLs of later records tell it
listed_by_crls : (before after : Records) (revocation : RevocationRow) (more : List RevocationRow) (later : List Crl) → SoundRows before → SoundRows after
    → revocation.first ≡ next_number before.crls
    → after.revocations ≡ (before.revocations ++ revocation ∷ []) ++ more
    → after.crls ≡ before.crls ++ later
    → (certificate : CertRow) × (certificate_in after.certificates revocation.serial ≡ Some certificate) × ListedByCrls before.crls after certificate revocation
listed_by_crls before after revocation more later sound_before sound first_is entered issued = (
  its.certificate,
  its.registered,
  record {
    stands = stands;
    later = later;
    issued = issued;
    before =
        all_weaker _ _ (λ crl below. let less : crl.number < revocation.first = omega (arith, next) in (less, (listed_while crl.number).0 less))
        before.crls (numbered_below (λ crl. crl.number) 1 before.crls sound_before.crls.numbered);
    since =
        all_weaker _ _ (λ crl above. let can : revocation.first ≤ crl.number = omega (arith, next) in (can, (listed_while crl.number).1 can))
        later (numbered_above (λ crl. crl.number) (1 + length before.crls) later numbered_later);
  },
)
  where
    -- the row is what its serial number finds
    itself : revocation_in after.revocations revocation.serial ≡ Some revocation
    itself =
        let found : AllByRecursion (λ row. revocation_in after.revocations row.serial ≡ Some row) ((before.revocations ++ revocation ∷ []) ++ more) =
        subst (AllByRecursion (λ row. revocation_in after.revocations row.serial ≡ Some row)) entered
        (each_found (λ row. row.serial) after.revocations sound.revocations.serials_differ) in
        (all_back _ before.revocations (revocation ∷ []) (all_front _ (before.revocations ++ revocation ∷ []) more found)).0

    its : RevokedCertificate after revocation.serial revocation
    its = certificate_of after revocation.serial revocation sound itself

    stands : revocation_in after.revocations its.certificate.serial ≡ Some revocation
    stands = ap (revocation_in after.revocations) (key_found (λ row. row.serial) after.certificates revocation.serial its.certificate its.registered) ∙ itself

    next : revocation.first ≡ length before.crls + 1
    next = first_is ∙ next_is before.crls sound_before.crls.numbered

    listed_while : (n : ℕ) → (n < revocation.first → IsFalse (lists after n its.certificate.serial))
        × (revocation.first ≤ n → IsTrue (lists after n its.certificate.serial) ↔ NonePastBetween after.crls revocation.first n its.certificate.not_after)
    listed_while n = while_none_past after revocation its.certificate n sound its.registered stands

    numbered_later : NumberedFrom (λ crl. crl.number) (1 + length before.crls) later
    numbered_later = numbered_back (λ crl. crl.number) 1 before.crls later (subst (NumberedFrom (λ crl. crl.number) 1) issued sound.crls.numbered)

-- a command that is answered `RevokedNow` issues no CRL
no_crl_by : (records : Records) (now : ℕ) (command : Command) (bytes : List ℕ) (late : Bool) → reply records now command ≡ RevokedNow late
    → (changed records now command bytes).crls ≡ records.crls
no_crl_by records now command bytes late answered = grind arith

-- every CRL after a revocation lists it up to and including the first one issued past its certificate's end, and lists
-- nothing else
pub lists_revoked : (signed : CertList → List ℕ → Type 0) → ListsRevoked signed
lists_revoked signed records before next after front rest early late now command is_late sound run happens more_run =
    let sound_before = keeps_sound signed records before front early sound run in
    let sound_next = step_keeps_sound signed before now command (Ok (RevokedNow is_late)) next sound_before happens in
    let sound_after = keeps_sound signed next after rest late sound_next more_run in
    let grows = run_grows signed next after rest late sound_next more_run in
    let brought = revocations_move_exactly signed records before next front early now command (Ok (RevokedNow is_late)) sound run happens in
    let no_crl =
    by_outcome signed before now command (λ result then. result ≡ Ok (RevokedNow is_late) → then.crls ≡ before.crls) (λ fault is. refl)
    (λ bytes none over is. no_crl_by before now command bytes is_late (cc is)) (Ok (RevokedNow is_late)) next happens refl in
    let listed =
    listed_by_crls before after brought.0 grows.more_revocations grows.more_crls sound_before.rows sound_after.rows brought.2.from_next
    (grows.revocations ∙ ap (λ rows. rows ++ grows.more_revocations) brought.1) (grows.crls ∙ ap (λ rows. rows ++ grows.more_crls) no_crl) in
    ((listed.0, brought.0, listed.1, brought.1, brought.2, listed.2), λ n. due_entries after n sound_after.rows)

-- RECORDED CRLS

pub history_stands : (signed : CertList → List ℕ → Type 0) → HistoryIsKept signed
history_stands signed records after commands outcomes sound run =
    let sound_after = keeps_sound signed records after commands outcomes sound run in
    let grows = run_grows signed records after commands outcomes sound run in
    let recorded = numbered_below (λ crl. crl.number) 1 records.crls sound.rows.crls.numbered in (
      listed_from_first_to_last after sound_after.rows,
      λ n. due_entries after n sound_after.rows,
      record {
        later = grows.more_crls;
        recorded = grows.crls;
        contents = all_weaker _ _ (λ crl below. content_kept records after sound.rows grows crl.number (omega arith)) records.crls recorded;
        texts = all_weaker _ _ (λ crl below. cert_list_kept records after sound.rows grows crl.number crl.this_update (omega arith)) records.crls recorded;
        signatures =
            all_front _ records.crls grows.more_crls
            (subst (AllByRecursion (λ crl. signed (cert_list after crl.number crl.this_update) crl.bytes)) grows.crls sound_after.signatures);
      },
    )
