-- CRLs that are issued, and those that are found.
use Rattle.std.specs.Prelude.{IsErrAnd, option_map, ◌==◌}
use Rattle.std.proofs.Common.{◌≡◌, ◌≢◌, ◌≤◌, ◌<◌, inl, inr, ℕ, ◌+◌, true, List, [], ◌∷◌, length, Option, None, Some, Result, Ok, Err, Bor, Vec, Global, refl, sym, ap, subst, ◌∙◌, arith}
use Rattle.std.proofs.lemmas.Option.{same_Some}
use Rattle.reg_core.specs.Changes.{with_crl}
use Rattle.reg_core.specs.Checks.{clock_end}
use Rattle.reg_core.specs.Crls.{CertList, cert_list, listed_revocations, entries, latest, row_of}
use Rattle.reg_core.specs.Issuer.{Issuer}
use Rattle.reg_core.specs.Records.{Records, Crl, crl_in}
use Rattle.reg_core.specs.Sound.{NumberedFrom}
use Rattle.reg_core.specs.Step.{refusal}
use Rattle.reg_core.specs.declared.change.Change.TheVariants as change
use Rattle.reg_core.specs.declared.rows.CrlRow.{CrlRow}
use Rattle.reg_core.specs.declared.rows.Entry.{Entry}
use Rattle.reg_core.specs.declared.command.Command.TheVariants.{Crl as IssueCrl}
use Rattle.reg_core.specs.declared.command.Reply.TheVariants.{Crl as CrlIssued}
use Rattle.reg_core.specs.declared.refusal.Fault.{Fault}
use Rattle.reg_core.specs.declared.refusal.Fault.TheVariants.{Refused, Memory, Store, Signer, Read, Write}
use Rattle.reg_core_laws.specs.Run.{Happens}
use Rattle.reg_core_laws.proofs.PublicLaws.{accepted_clock, same_number, other_numbers, find_here, find_on, step_accepted}
use Rattle.reg_store_tables.specs.Faults.{fault_of}
use Rattle.reg_store_tables.specs.declared.fault.DatabaseFault.{DatabaseFault}
use Rattle.reg_office_api.specs.Answered.{IsGiven}
use Rattle.reg_office_api.specs.Items.{items_of}
use Rattle.reg_office_reads.specs.Faults.{IsMakingFault, IsOfficeFault, IsSigningFault}
use Rattle.reg_office.specs.Issuing.{IsNextOf}
use Rattle.reg_office.proofs.CommandsRun.{MayChange}
use Rattle.reg_office_reads.proofs.PublicLaws.{of_failure}

-- ---- the next CRL

-- its nextUpdate is one life behind its thisUpdate
pub next_of :
    (records : Records) (now : ℕ) (next : CrlRow × ℕ) → IsNextOf records now next → next.1 ≡ next.0.this_update + records.policy.crl_life
next_of records now next is = is.next_update ∙ ap (λ (n : ℕ). n + records.policy.crl_life) (sym (ap (λ (r : CrlRow). r.this_update) is.row_is))

-- a CRL may be added that is signed over what it lists
pub may_issue :
    (signed : CertList → List ℕ → Type 0) (records : Records) (now : ℕ) (next : CrlRow × ℕ) (bytes : List ℕ) (count : ℕ) (der : Bor (List ℕ))
    → der.now ≡ bytes
    → IsNextOf records now next
    × (next.1 ≡ next.0.this_update + records.policy.crl_life → signed (cert_list records next.0.number next.0.this_update) bytes × (count ≡ length (listed_revocations records next.0.number)))
    → MayChange signed records now IssueCrl (CrlIssued next.0.number count) (change.Crl next.0 der)
may_issue signed records now next bytes count der same it =
    let row = next.0 in
    let is = it.0 in
    let made = it.1 (next_of records now next is) in
    let with : List ℕ → Records = λ b. with_crl records now (record { number = row.number; this_update = row.this_update; bytes = b }) in
    let S : CrlRow → Type 0 = λ r. signed (cert_list records r.number r.this_update) der.now in
    record {
      happens =
          step_accepted signed records now IssueCrl (CrlIssued row.number count) der.now (with der.now) is.accepted
          (subst S is.row_is (subst (signed (cert_list records row.number row.this_update)) (sym same) made.0))
          (sym (ap (λ (r : CrlRow). CrlIssued r.number (length (listed_revocations records r.number))) is.row_is) ∙ ap (CrlIssued row.number) (sym made.1))
          (sym (ap (λ (r : CrlRow). with_crl records now (record { number = r.number; this_update = r.this_update; bytes = der.now })) is.row_is))
          (with der.now) refl;
      not_back = (accepted_clock records now IssueCrl is.accepted).not_back;
      fits = ap (λ (r : CrlRow). r.number) is.row_is;
    }

-- one that is accepted is not made
pub making_happens :
    (signed : CertList → List ℕ → Type 0) (records : Records) (now : ℕ) (fault : Fault)
    → now < clock_end → refusal records now IssueCrl ≡ None → IsMakingFault fault → Happens signed records now IssueCrl (Err fault) records
making_happens signed records now (Refused why) below accepted is = absurd is
making_happens signed records now Memory below accepted is = (below, refl)
making_happens signed records now Store below accepted is = (below, refl)
making_happens signed records now Signer below accepted is = (refl, accepted, refl)
making_happens signed records now Read below accepted is = absurd is
making_happens signed records now Write below accepted is = absurd is

-- a fault of signing is one of making
pub making_of_signing : (fault : Fault) → IsSigningFault fault → IsMakingFault fault
making_of_signing fault (inl e) = subst IsMakingFault (sym e) tt
making_of_signing fault (inr e) = subst IsMakingFault (sym e) tt

-- and each is an office's
pub office_of_making : (fault : Fault) → IsMakingFault fault → IsOfficeFault fault
office_of_making Memory is = is
office_of_making Store is = is
office_of_making Signer is = is
office_of_making other is = absurd is

-- ---- its bytes

-- what is signed over the parts that were looked up is signed over the records' list
pub signed_list :
    (signed : CertList → List ℕ → Type 0) (records : Records) (row : CrlRow) (issuer : Issuer) (next_update : ℕ) (listed : List Entry) (bytes : List ℕ)
    → issuer ≡ records.issuer → next_update ≡ row.this_update + records.policy.crl_life → listed ≡ entries records row.number
    → signed (record { issuer = issuer; number = row.number; this_update = row.this_update; next_update = next_update; entries = listed }) bytes
    → signed (cert_list records row.number row.this_update) bytes
signed_list signed records row issuer next_update listed bytes issuer_is next_is listed_is signatures =
    let list : CertList = record { issuer = issuer; number = row.number; this_update = row.this_update; next_update = next_update; entries = listed } in
    let list_is : list ≡ cert_list records row.number row.this_update = λ i. record {
      issuer = issuer_is i;
      number = row.number;
      this_update = row.this_update;
      next_update = next_is i;
      entries = listed_is i;
    } in
    subst (λ (l : CertList). signed l bytes) list_is signatures

-- ---- those that are found

pub none_mapped : {A B : Type 0} (f : A → B) (o : Option A) → option_map f o ≡ None → o ≡ None
none_mapped f None e = refl
none_mapped f (Some x) e = absurd (let bad : ⊥ = cc in bad)

-- the latest CRL is the one with its number
pub latest_in :
    (from : ℕ) (crls : List Crl) (row : CrlRow)
    → NumberedFrom (λ crl. crl.number) from crls → option_map row_of (latest crls) ≡ Some row
    → (crl_in crls row.number ≡ latest crls) × (from ≤ row.number)
latest_in from [] row numbered is = absurd (let bad : ⊥ = cc in bad)
latest_in from (crl ∷ []) row numbered is =
    let same : crl.number ≡ row.number = ap (λ (r : CrlRow). r.number) (same_Some _ _ is) in (
      find_here (λ (c : Crl). c.number == row.number) crl [] (subst (λ n. (crl.number == n) ≡ true) same (same_number crl.number)),
      omega (arith, numbered.0, same),
    )
latest_in from (crl ∷ next ∷ rest) row numbered is =
    let further = latest_in (from + 1) (next ∷ rest) row numbered.1 is in
    let differ : crl.number ≢ row.number = λ e. absurd (omega (arith, numbered.0, further.1, e)) in (
      find_on (λ (c : Crl). c.number == row.number) crl (next ∷ rest) (other_numbers crl.number row.number differ) ∙ further.0,
      omega (arith, further.1),
    )

-- what is given for its number is given for the latest
pub given_latest :
    (records : Records) (n : ℕ) (given : Result (List ℕ) Fault)
    → crl_in records.crls n ≡ latest records.crls → IsGiven records (Some n) given → IsGiven records None given
given_latest records n (Ok bytes) same h = ap (option_map (λ (crl : Crl). crl.bytes)) (sym same) ∙ h
given_latest records n (Err (Refused why)) same h = (h.0, sym same ∙ h.1)
given_latest records n (Err Memory) same h = h
given_latest records n (Err Store) same h = h
given_latest records n (Err Signer) same h = h
given_latest records n (Err Read) same h = h
given_latest records n (Err Write) same h = h

-- and nothing is given where the store fails
pub not_given :
    (records : Records) (number : Option ℕ) (outcome : Result (Vec ℕ Global) Fault) (failure : DatabaseFault)
    → IsErrAnd outcome (λ fault. fault ≡ fault_of failure) → IsGiven records number (items_of outcome)
not_given records number (Ok bytes) failure failed = absurd failed
not_given records number (Err fault) failure failed =
    subst (λ (f : Fault). IsGiven records number (Err f)) (sym failed) (of_failure (λ (f : Fault). IsGiven records number (Err f)) tt tt failure)
