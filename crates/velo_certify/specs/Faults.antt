-- Why there is no certificate.
use Rattle.velo_certify.specs.declared.fault.CertFault.{CertFault}
use Rattle.velo_certify.specs.declared.fault.CertFault.TheVariants.{Memory}

abbrev pub out_of_memory : CertFault
out_of_memory = Memory
