use Rattle.trace.proofs.Layouts.{header_stored}
use Rattle.trace.proofs.parts.put_header.Goals as goal

pub returns : goal.returns
returns c =
    let a = c.args in
    header_stored a.out.now a.kind a.count a.ssrc c.write16.ensures c.write16-2.ensures c.write32.ensures
