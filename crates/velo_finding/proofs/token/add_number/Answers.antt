use Rattle.std.proofs.Common.{arith}
use Rattle.json.proofs.Printed.Decimals.{IsNumber-decimal}
use Rattle.velo_finding.proofs.token.add_number.Goals as goal

pub returns-clause-printable : goal.returns-clause-printable
returns-clause-printable c = IsNumber-decimal c.args.number (omega arith)
