-- An import that comes twice, by its lemma.
use Rattle.reg_core_laws.proofs.Imported.{imports_twice}
use Rattle.reg_core_laws.proofs.laws.import_twice.Goals as goal

pub returns : goal.returns
returns g c = λ signer. imports_twice (g.S.SignsCrls.signed signer)
