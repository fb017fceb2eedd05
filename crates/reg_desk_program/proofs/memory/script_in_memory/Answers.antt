use Rattle.std.proofs.Common.{None, ap, inr}
use Rattle.reg_desk_jobs.specs.Digest.{digest_alone}
use Rattle.reg_desk_jobs.specs.Sample.{sample_records}
use Rattle.reg_crl_signer.specs.KeyOrDigestSignatures.{digest}
use Rattle.reg_office_reads.specs.Answering.{signers_of}
use Rattle.reg_desk_files.specs.Overlaid.{file_below}
use Rattle.reg_desk_program.proofs.Clean.{always_clean, honest_always}
use Rattle.reg_desk_program.proofs.memory.script_in_memory.Goals as goal

pub returns : goal.returns
returns g c =
    let fresh = c.in_ok-fresh.ensures in
    let clean = always_clean (λ file. honest_always (file_below file)) c.run_script_in_batches.new.office.store in
    let alone = ap (signers_of (λ placeholder. digest) digest) fresh.alone in
    let (ahead, may, stands) = c.run_script_in_batches.ensures.1 digest_alone sample_records (None, (alone, fresh.ok, fresh.leaves)) clean in
    inr (c.run_script_in_batches.result, c.ended.ensures, (may.0, may.1))
