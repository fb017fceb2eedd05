-- The entries of a CRL: as many as the revocations that it lists, of the same serial numbers, in ascending order.
use Rattle.std.proofs.Common.{◌≡◌, ◌≢◌, ℕ, ◌+◌, ◌<◌, Bool, ◌||◌, List, [], ◌∷◌, length, map, refl, ◌∙◌, arith}
use Rattle.std.specs.List.{AllByRecursion, list_any}
use Rattle.std.proofs.lemmas.Bool.Decides.{nat_tests}
use Rattle.std.proofs.lemmas.List.{length-map}
use Rattle.reg_core.specs.Crls.{listed_revocations, entry_of, insert_entry, ascending, entries, EntriesAscend}
use Rattle.reg_core.specs.Records.{Records}
use Rattle.reg_core.specs.Sound.{KeysDiffer, SoundRows}
use Rattle.reg_core.specs.declared.rows.Entry.{Entry}
use Rattle.reg_core_laws.proofs.Lists.{all_weaker, keys_kept}
use Rattle.reg_core_laws.proofs.ListFacts.{any_map, keys_map}

-- AN INSERT IN ORDER

any_insert : (test : Entry → Bool) (entry : Entry) (those : List Entry) → list_any test (insert_entry entry those) ≡ (test entry || list_any test those)
any_insert test entry [] = refl
any_insert test entry (next ∷ rest) = grind (arith, any_insert test entry rest)

all_insert : (P : Entry → Type 0) (entry : Entry) (those : List Entry) → P entry → AllByRecursion P those → AllByRecursion P (insert_entry entry those)
all_insert P entry [] here all = (here, tt)
all_insert P entry (next ∷ rest) here all = grind (arith, all_insert P entry rest here all.1)

length_insert : (entry : Entry) (those : List Entry) → length (insert_entry entry those) ≡ length those + 1
length_insert entry [] = refl
length_insert entry (next ∷ rest) = grind (arith, length_insert entry rest)

ascend_insert : (entry : Entry) (those : List Entry) → AllByRecursion (λ other. entry.serial ≢ other.serial) those → EntriesAscend those
    → EntriesAscend (insert_entry entry those)
ascend_insert entry [] differs ascend = (tt, tt)
ascend_insert entry (next ∷ rest) differs ascend = grind (arith, nat_tests, differs.0, below, above, ascend_insert entry rest differs.1 ascend.1)
  where
    below : entry.serial < next.serial → AllByRecursion (λ other. entry.serial < other.serial) rest
    below less = all_weaker _ _ (λ other above. omega arith) rest ascend.0

    above : next.serial < entry.serial → AllByRecursion (λ other. next.serial < other.serial) (insert_entry entry rest)
    above greater = all_insert _ entry rest greater ascend.0

-- ENTRIES IN ORDER

any_ascending : (test : Entry → Bool) (those : List Entry) → list_any test (ascending those) ≡ list_any test those
any_ascending test [] = refl
any_ascending test (entry ∷ rest) = cc (any_insert test entry (ascending rest), any_ascending test rest)

pub all_ascending : (P : Entry → Type 0) (those : List Entry) → AllByRecursion P those → AllByRecursion P (ascending those)
all_ascending P [] all = tt
all_ascending P (entry ∷ rest) all = all_insert P entry (ascending rest) all.0 (all_ascending P rest all.1)

length_ascending : (those : List Entry) → length (ascending those) ≡ length those
length_ascending [] = refl
length_ascending (entry ∷ rest) = omega (arith, length_insert entry (ascending rest), length_ascending rest)

ascending_ascends : (those : List Entry) → KeysDiffer (λ entry. entry.serial) those → EntriesAscend (ascending those)
ascending_ascends [] differ = tt
ascending_ascends (entry ∷ rest) differ = ascend_insert entry (ascending rest) (all_ascending _ rest differ.0) (ascending_ascends rest differ.1)

-- THE ENTRIES OF A CRL

-- a test of entries passes at some just where it passes at the entry of a revocation that is listed
pub any_entry : (test : Entry → Bool) (records : Records) (n : ℕ)
    → list_any test (entries records n) ≡ list_any (λ revocation. test (entry_of revocation)) (listed_revocations records n)
any_entry test records n = any_ascending test (map entry_of (listed_revocations records n)) ∙ any_map test entry_of (listed_revocations records n)

-- as many as the revocations that are listed
pub entries_length : (records : Records) (n : ℕ) → length (entries records n) ≡ length (listed_revocations records n)
entries_length records n = length_ascending (map entry_of (listed_revocations records n)) ∙ length-map (listed_revocations records n) entry_of

-- strictly ascending
pub entries_ascending : (records : Records) (n : ℕ) → SoundRows records → EntriesAscend (entries records n)
entries_ascending records n sound =
    ascending_ascends (map entry_of (listed_revocations records n)) (keys_map _ entry_of (listed_revocations records n)
    (keys_kept _ _ records.revocations sound.revocations.serials_differ))
