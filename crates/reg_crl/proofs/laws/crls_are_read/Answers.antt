use Rattle.reg_crl.proofs.OneReading.{no_crl_begins_another, one_reading}
use Rattle.reg_crl.proofs.Written.{crl_is_read}
use Rattle.reg_crl.proofs.laws.crls_are_read.Goals as goal

pub returns-clause-back : goal.returns-clause-back
returns-clause-back c = crl_is_read

pub returns-clause-one_way : goal.returns-clause-one_way
returns-clause-one_way c = one_reading

pub returns-clause-whole : goal.returns-clause-whole
returns-clause-whole c = no_crl_begins_another
