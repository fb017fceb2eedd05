-- The DER of CRLs (RFC 5280 5.1): the TBSCertList, which is signed, and the whole CertificateList.
use Rattle.std.specs.Prelude.{ℕ, ◌==◌, List, [], ◌∷◌, ◌++◌, unwrap_or, if◌then◌else◌}
use Rattle.std.specs.List.{flat_map}
use Rattle.sha1.specs.Sha1.{sha1}
use Rattle.reg_core.specs.Issuer.{Issuer}
use Rattle.reg_core.specs.Crls.{CertList}
use Rattle.reg_core.specs.declared.rows.Entry.{Entry}
use Rattle.reg_der.specs.Authority.{name_of, key_identifier_at}
use Rattle.reg_der.specs.Der.{tlv}
use Rattle.reg_der.specs.WrittenValues.{integer_value, bits_value, time_value}

-- an Extension that is not critical: extnID and extnValue; DER leaves out the default FALSE (RFC 5280 4.1, X.690 11.5)
unfoldable pub extension : List ℕ → List ℕ → List ℕ
extension identifier value = tlv 48 (tlv 6 identifier ++ tlv 4 value)

-- the reason code extension, 2.5.29.21: an ENUMERATED of one octet (RFC 5280 5.3.1)
unfoldable pub reason_code : ℕ → List ℕ
reason_code reason = extension (85 ∷ 29 ∷ 21 ∷ []) (tlv 10 (reason ∷ []))

-- crlEntryExtensions: the reason code; absent if the reason is unspecified, 0 (RFC 5280 5.3.1)
unfoldable pub crl_entry_extensions : ℕ → List ℕ
crl_entry_extensions reason = if reason == 0 then [] else tlv 48 (reason_code reason)

-- one of the revokedCertificates: userCertificate, revocationDate, crlEntryExtensions (RFC 5280 5.1.2.6)
unfoldable pub revoked_certificate : Entry → List ℕ
revoked_certificate entry =
    tlv 48 (integer_value entry.serial ++ time_value entry.at ++ crl_entry_extensions entry.reason)

-- revokedCertificates, absent if there are no entries (RFC 5280 5.1.2.6)
unfoldable pub revoked_certificates : List Entry → List ℕ
revoked_certificates [] = []
revoked_certificates (entry ∷ rest) = tlv 48 (flat_map revoked_certificate (entry ∷ rest))

-- the key identifier in the CRL with this number: the one that was set for it (RFC 5280 5.2.1), or else the SHA-1 of the issuer's key (4.2.1.2)
abbrev pub key_identifier : Issuer → ℕ → List ℕ
key_identifier issuer number = unwrap_or (key_identifier_at issuer number) (sha1 issuer.key)

-- the authority key identifier extension, 2.5.29.35, with only the keyIdentifier (RFC 5280 5.2.1)
unfoldable pub authority_key_identifier : List ℕ → List ℕ
authority_key_identifier identifier = extension (85 ∷ 29 ∷ 35 ∷ []) (tlv 48 (tlv 128 identifier))

-- the CRL number extension, 2.5.29.20 (RFC 5280 5.2.3)
unfoldable pub crl_number : ℕ → List ℕ
crl_number number = extension (85 ∷ 29 ∷ 20 ∷ []) (integer_value number)

-- crlExtensions, tagged [0]: the two extensions that each CRL has (RFC 5280 5.2)
unfoldable pub crl_extensions : Issuer → ℕ → List ℕ
crl_extensions issuer number =
    tlv 160 (tlv 48 (authority_key_identifier (key_identifier issuer number) ++ crl_number number))

-- the TBSCertList with these fields, of a version 2 CRL (INTEGER 1): the part that is signed (RFC 5280 5.1.2)
unfoldable pub tbs_cert_list : Issuer → List ℕ → ℕ → ℕ → ℕ → List Entry → List ℕ
tbs_cert_list issuer algorithm number this_update next_update entries =
    tlv 48 (integer_value 1 ++ algorithm ++ name_of issuer ++ time_value this_update ++ time_value next_update
    ++ revoked_certificates entries ++ crl_extensions issuer number)

-- the TBSCertList of a CRL that is signed with this algorithm
abbrev pub tbs_of : List ℕ → CertList → List ℕ
tbs_of algorithm crl =
    tbs_cert_list crl.issuer algorithm crl.number crl.this_update crl.next_update crl.entries

-- the CertificateList: tbsCertList, signatureAlgorithm, signatureValue (RFC 5280 5.1.1)
unfoldable pub certificate_list : List ℕ → List ℕ → List ℕ → List ℕ
certificate_list tbs algorithm signature = tlv 48 (tbs ++ algorithm ++ bits_value signature)
