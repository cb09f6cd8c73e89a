use Rattle.sources.proofs.Compounding.{report_stored}
use Rattle.sources.proofs.compound.put_report.Goals as goal

pub returns : goal.returns
returns c =
    let a = c.args in
    report_stored a.sender a.out.now c.write32.ensures c.write32-2.ensures
